-- What was met of devices, one after another.
use Rattle.std.proofs.Common.{◌≡◌, ℕ, zero, suc, ◌+◌, ◌<◌, get_or, List, [], ◌∷◌, ◌++◌, length, take, Option, IfSome, refl, sym, ap, ap₂, ◌∙◌, arith, ◌≤◌, Bool, true, false, cond, not, map, filter, append_assoc}
use Rattle.std.specs.List.{AllByRecursion}
use Rattle.std.proofs.lemmas.List.{get_or-map, get_or-take, length-append, map-append, take_more, append-nil}
use Rattle.std.proofs.lemmas.Option.{IfSome_then, slice_get_within}
use Rattle.std.specs.Option.{unwrap_or}
use Rattle.pd_kinds.specs.Graph.{is_outside}
use Rattle.pd_kinds.specs.Node.{Entry}
use Rattle.pd_kinds.specs.Trees.{value_of_key}
use Rattle.pd_kinds.specs.ThinFormat.{ThinFields}
use Rattle.pd_laid.specs.Salvage.{salvaged_entries}
use Rattle.pd_value.specs.declared.thin.Details.{Details}
use Rattle.pd_value.specs.declared.thin.Root.{Root}
use Rattle.pd_tree.proofs.NextLemmas.{if_both}
use Rattle.pd_tree.specs.Cursor.{item_of, root_of}
use Rattle.pd_tree.specs.Search.{lookup}
use Rattle.pd_tree.proofs.TreeLemmas.{lookup_entries}
use Rattle.pd_meaning_thin.specs.Runs.{details_of}
use Rattle.pd_salvage.specs.declared.cursor.SavedCursor.{SavedCursor}
use Rattle.pd_salvage.specs.declared.details.SavedDetails.{SavedDetails}
use Rattle.pd_salvage.specs.Cursor.{saved_least, saved_left}
use Rattle.pd_salvage.specs.Saving.{FitLost, all_details, lost_details}
use Rattle.pd_salvage.proofs.SavingLemmas.{details_are}
use Rattle.pd_salvage_shapes.specs.declared.note.LeafNote.{LeafNote}
use Rattle.pd_salvage_shapes.specs.declared.tops.Top.{Top}
use Rattle.pd_salvage_shapes.specs.declared.visiting.Seen.{Seen}
use Rattle.pd_salvage_shapes.specs.declared.visiting.Visiting.{Visiting}
use Rattle.pd_salvage_shapes.specs.Note.{Met, mets_of_root}
use Rattle.pd_salvage_shapes.specs.Tops.{SeesAll, mets_of_seen, mets_of_tops, no_seen, seen_at, top_at, no_top, AddsTop, AreTops, HasDetails, IsBegun, ReadsTops, TellsTops, entry_of_top, left_tops, made_top}
use Rattle.pd_salvage_shapes.specs.Visiting.{Grow, HasTable, IsSeen, SeesDevice, TellsAll, mets_of}
use Rattle.pd_salvage_shapes.proofs.VisitLemmas.{any_if}
use Rattle.pd_salvage_shapes.proofs.VisitingLemmas.{all_more, all_weaker, mets_grow, some_at}

-- what was seen before there were more notes
module _ (blocks : ℕ) (old new : List LeafNote) (grow : Grow old new) where
  within_grown : (k : ℕ) → k < length old → k < length new
  within_grown k within = let at = some_at old k within in slice_get_within new k at.0 (grow k at.0 at.1)

  pub seen_grown : (d : Seen) → IsSeen blocks old d → IsSeen blocks new d
  seen_grown d is =
      let same = mets_grow old new d.met grow is.within in
      record {
        within = all_weaker (λ k. k < length old) (λ k. k < length new) within_grown d.met is.within;
        lawful = rw same is.lawful;
        counted = rw same is.counted;
        fits = is.fits;
      }

  pub mets_grown : (seen : List Seen) → AllByRecursion (IsSeen blocks old) seen → mets_of_seen new seen ≡ mets_of_seen old seen
  mets_grown [] all = refl
  mets_grown (d ∷ seen) all =
      ap₂ (λ (m : List Met) (ms : List (List Met)). m ∷ ms) (mets_grow old new d.met grow all.0.within) (mets_grown seen all.1)

-- no device
pub sees_none : (held : Option (List (List ℕ))) (v : Visiting) → HasTable v → SeesAll held [] [] v v
sees_none held v table = record { same = refl; table = table; number = refl; lawful = tt; told = any_if held (λ image tells. (tells, refl)) }

-- one device more
module _ (held : Option (List (List ℕ))) (tops : List Top) (i : ℕ) (seen : List Seen) (first old new : Visiting) (one : Seen) (within : i < length tops)
    (sees : SeesAll held (take i tops) seen first old) where
  abbrev top : Top
  top = top_at tops i

  tops_more : take (i + 1) tops ≡ take i tops ++ top ∷ []
  tops_more = take_more tops i no_top within

  one_more : new.s ≡ old.s → HasTable new → Grow old.notes.items new.notes.items → IsSeen old.s.data_map.blocks new.notes.items one
      → IfSome held (λ image. TellsAll image first → TellsAll image new × (mets_of new.notes.items one.met ≡ mets_of_root first.s image top.root))
      → SeesAll held (take (i + 1) tops) (seen ++ one ∷ []) first new
  one_more same table grow lawful told =
      let blocks = first.s.data_map.blocks in
      let grown : AllByRecursion (IsSeen blocks new.notes.items) seen =
      all_weaker (IsSeen blocks old.notes.items) (IsSeen blocks new.notes.items) (seen_grown blocks old.notes.items new.notes.items grow) seen sees.lawful in
      record {
        same = same ∙ sees.same;
        table = table;
        number =
            let before = sees.number in
            let all = length-append seen (one ∷ []) in
            let tops_all = ap length tops_more ∙ length-append (take i tops) (top ∷ []) in
            omega arith;
        lawful = all_more (IsSeen blocks new.notes.items) seen one grown (rw (← sees.same) lawful);
        told =
            if_both held
            (λ image held_is before here tells.
            let was = before tells in
            let is = here tells in (
              is.0,
              map-append (λ (d : Seen). mets_of new.notes.items d.met) seen (one ∷ [])
                  ∙ (ap₂ (λ (xs ys : List (List Met)). xs ++ ys)
                  (mets_grown blocks old.notes.items new.notes.items grow seen sees.lawful ∙ was.1)
                  (ap (λ (ms : List Met). ms ∷ []) is.1)
                  ∙ (sym (map-append (λ (t : Top). mets_of_root first.s image t.root) (take i tops) (top ∷ [])) ∙ ap (mets_of_tops first.s image) (sym tops_more))),
            ))
            sees.told told;
      }

  pub sees_more : SeesDevice held top.root one old new → SeesAll held (take (i + 1) tops) (seen ++ one ∷ []) first new
  sees_more device =
      one_more device.same device.table device.grow device.lawful
      (if_both held
      (λ image held_is before here tells.
      let is = here (before tells).0 in
      (is.0, is.1 ∙ rw sees.same refl))
      sees.told device.told)

seen_is : (P : Seen → Type 0) (seen : List Seen) (k : ℕ) → k < length seen → AllByRecursion P seen → P (seen_at seen k)
seen_is P [] k within all = absurd (omega arith)
seen_is P (d ∷ seen) zero within all = all.0
seen_is P (d ∷ seen) (suc k) within all = seen_is P seen k (omega arith) all.1

-- an earlier device with the same root once more
module _ (held : Option (List (List ℕ))) (tops : List Top) (i k : ℕ) (seen : List Seen) (first old : Visiting) (within : i < length tops) (before : k < i) (count : length seen ≡ i)
    (roots : (top_at tops k).root ≡ (top_at tops i).root) (sees : SeesAll held (take i tops) seen first old) where
  here : (image : List (List ℕ)) → mets_of_seen old.notes.items seen ≡ mets_of_tops first.s image (take i tops)
      → mets_of old.notes.items (seen_at seen k).met ≡ mets_of_root first.s image (top_at tops i).root
  here image all =
      let none : List Met = [] in
      let number = sees.number in
      sym (get_or-map (λ (d : Seen). mets_of old.notes.items d.met) seen k no_seen none (omega arith))
      ∙ ap (λ (ms : List (List Met)). get_or ms k none) all
      ∙ get_or-map (λ (t : Top). mets_of_root first.s image t.root) (take i tops) k no_top none (omega arith)
      ∙ ap (λ (t : Top). mets_of_root first.s image t.root) (get_or-take i tops k no_top before)
      ∙ ap (mets_of_root first.s image) roots

  pub sees_again : SeesAll held (take (i + 1) tops) (seen ++ seen_at seen k ∷ []) first old
  sees_again =
      one_more held tops i seen first old old (seen_at seen k) within sees refl sees.table (λ n note at. at)
      (rw sees.same (seen_is (IsSeen first.s.data_map.blocks old.notes.items) seen k (omega arith) sees.lawful))
      (IfSome_then held sees.told (λ image is tells. let was = is tells in (was.0, here image was.1)))

-- The devices whose mappings are saved, one after another.

later_tops : (low least : ℕ) (ts : List Top) → low ≤ least → AreTops least ts → AreTops low ts
later_tops low least [] below are = tt
later_tops low least (t ∷ ts) below are = let first = are.0 in (omega arith, are.1, are.2)

-- the entries of a tree are what their items say
entry_if : (keeps : Bool) (e : Entry) (xs ys : List Entry) → xs ≡ ys → cond keeps (e ∷ xs) xs ≡ cond keeps (e ∷ ys) ys
entry_if true e xs ys same = ap (λ (zs : List Entry). e ∷ zs) same
entry_if false e xs ys same = same

tops_same : (fields : ThinFields) (es : List Entry) → left_tops fields (map (item_of root_of) es) ≡ filter (λ (top : Entry). not (is_outside fields.meta_map.blocks top.value)) es
tops_same fields [] = refl
tops_same fields (e ∷ es) = entry_if (not (is_outside fields.meta_map.blocks e.value)) e _ _ (tops_same fields es)

-- at the start
pub tops_begun : (fields : ThinFields) (image : List (List ℕ)) (tops : SavedCursor Root) (details : SavedDetails) → IsBegun fields tops details → ReadsTops fields image [] tops details
tops_begun fields image tops details begun = record {
  knows = λ id from. rw (begun.details_are image) refl;
  all = rw (begun.left image) (tops_same fields (salvaged_entries 8 fields.meta_map.blocks image fields.mapping_root));
  own = tt;
}

-- the details that were found are those that are saved
has_details : (fields : ThinFields) (image : List (List ℕ)) (id root : ℕ) (details : Details) → FitLost fields.transaction fields.time
    → details ≡ unwrap_or (lookup id (map (item_of details_of) (all_details fields image))) (lost_details fields.transaction fields.time) → HasDetails fields image (made_top id root details)
has_details fields image id root details small is =
    let entries = all_details fields image in
    let are = details_are fields.transaction fields.time details (value_of_key entries id) small
    (is ∙ ap (λ (o : Option Details). unwrap_or o (lost_details fields.transaction fields.time)) (lookup_entries details_of id entries)) in
    record { transaction = are.transaction; created = are.created; snapped = are.snapped }

module _ (held : Option (List (List ℕ))) (fields : ThinFields) (found : List Top) (old tops : SavedCursor Root) (old_details : SavedDetails) (id root : ℕ)
    (from : saved_least old ≤ id) (step : saved_least tops ≡ id + 1)
    (lawful : (rest : List Top) → AreTops (saved_least old) rest → AreTops 0 (found ++ rest))
    (told : IfSome held (λ image. ReadsTops fields image found old old_details))
    (next : IfSome held (λ image. saved_left 8 root_of image old ≡ (id, root_of root) ∷ saved_left 8 root_of image tops)) where
  -- a device was added
  module _ (details : SavedDetails) (new : List Top) (inside : is_outside fields.meta_map.blocks root ≡ false) (adds : AddsTop held fields id root old_details details found new) where
    pub added_lawful : (rest : List Top) → AreTops (saved_least tops) rest → AreTops 0 (new ++ rest)
    added_lawful rest are =
        rw (adds.added, append_assoc found (made_top id root adds.details ∷ []) rest) (lawful (made_top id root adds.details ∷ rest) (from, adds.fits, rw step at are))

    pub added_told : IfSome held (λ image. ReadsTops fields image new tops details)
    added_told =
        if_both held
        (λ image held_is (both : ReadsTops fields image found old old_details × (saved_left 8 root_of image old ≡ (id, root_of root) ∷ saved_left 8 root_of image tops)) is_found. record {
          knows = λ key after. is_found.later key (omega arith) ∙ both.0.knows key (omega arith);
          all =
              rw (adds.added, map-append entry_of_top found (made_top id root adds.details ∷ []), append_assoc (map entry_of_top found) (entry_of_top (made_top id root adds.details) ∷ []) (left_tops fields (saved_left 8 root_of image tops)))
              (ap (λ (es : List Entry). map entry_of_top found ++ es) (sym (ap (left_tops fields) both.1 ∙ rw inside refl)) ∙ both.0.all);
          own = rw adds.added (all_more (HasDetails fields image) found (made_top id root adds.details) both.0.own
              (has_details fields image id root adds.details adds.small (is_found.here ∙ ap (λ (o : Option Details). unwrap_or o (lost_details fields.transaction fields.time)) (both.0.knows id from))));
        })
        (if_both held (λ image held_is is comes. (is, comes)) told next) adds.told

  -- one was left out
  module _ (outside : is_outside fields.meta_map.blocks root ≡ true) where
    pub left_lawful : (rest : List Top) → AreTops (saved_least tops) rest → AreTops 0 (found ++ rest)
    left_lawful rest are = lawful rest (later_tops (saved_least old) (saved_least tops) rest (omega arith) are)

    pub left_told : IfSome held (λ image. ReadsTops fields image found tops old_details)
    left_told =
        if_both held
        (λ image held_is is comes. record {
          knows = λ key after. is.knows key (omega arith);
          all = ap (λ (es : List Entry). map entry_of_top found ++ es) (sym (ap (left_tops fields) comes ∙ rw outside refl)) ∙ is.all;
          own = is.own;
        })
        told next

-- the end
pub tops_ended : (held : Option (List (List ℕ))) (fields : ThinFields) (found : List Top) (old tops : SavedCursor Root) (details : SavedDetails) → IfSome held (λ image. ReadsTops fields image found old details)
    → IfSome held (λ image. (saved_left 8 root_of image old ≡ []) × (saved_left 8 root_of image tops ≡ [])) → IfSome held (λ image. TellsTops fields image found)
tops_ended held fields found old tops details told ends =
    if_both held
    (λ image held_is is (none : (saved_left 8 root_of image old ≡ []) × (saved_left 8 root_of image tops ≡ [])). record {
      all = sym (append-nil (map entry_of_top found)) ∙ (ap (λ (es : List Entry). map entry_of_top found ++ es) (sym (ap (left_tops fields) none.0)) ∙ is.all);
      details = is.own;
    })
    told ends
