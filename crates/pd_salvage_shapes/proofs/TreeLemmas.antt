-- A tree that was met.
use Rattle.std.proofs.Common.{◌≡◌, ℕ, ◌-◌, ◌^◌, ◌<◌, nat_lt, cond, List, [], ◌∷◌, ◌++◌, map, filter, Option, Some, None, IfSome, refl, sym, ap, ◌∙◌, subst, arith, inl, inr, suc, ◌≤◌, Bool, true, false, ◌&&◌, nat_eq, nat_le, length, eq-eqb}
use Rattle.std.specs.List.{flat_map}
use Rattle.std.proofs.lemmas.List.{append-nil, map-append, length-map}
use Rattle.std.proofs.lemmas.List.Elements.{filter-append}
use Rattle.std.proofs.lemmas.Bool.{cases_Bool, eqb-true, ne_eqb, both_ways}
use Rattle.pd_kinds.specs.Node.{Entry, entry_count, is_inner_node}
use Rattle.pd_kinds.specs.ThinFormat.{mapped_block, ThinFields}
use Rattle.pd_kinds.specs.Graph.{is_outside, block_at}
use Rattle.pd_kinds.specs.Layout.{leaf_entries}
use Rattle.pd_grammar.specs.Lawful.{AreMappings}
use Rattle.pd_laid.specs.Salvage.{Visit, entries_of_visit, visits, is_whole_visit, saved_of_visit, is_damaged}
use Rattle.pd_laid.proofs.GatherLemmas.{visits_give}
use Rattle.pd_laid.specs.Shape.{mappings_in}
use Rattle.pd_tree.proofs.NextLemmas.{if_both}
use Rattle.pd_salvage.specs.declared.way.Range.{Range}
use Rattle.pd_salvage.specs.declared.way.Way.{Way}
use Rattle.pd_salvage.specs.Range.{all_keys}
use Rattle.pd_salvage.specs.Way.{GoesDown, told}
use Rattle.pd_salvage.proofs.AscendLemmas.{give_ascends}
use Rattle.pd_salvage.proofs.RangeLemmas.{told_none, at_leaf, none_damaged}
use Rattle.pd_salvage_shapes.specs.declared.visiting.Seen.{Seen}
use Rattle.pd_salvage_shapes.specs.declared.visiting.Visiting.{Visiting}
use Rattle.pd_salvage_shapes.specs.Note.{Met, met_of_visit, mets_below, mets_of_root, way_left, mapping_of_entry, Notes, in_keys, met_in, noted, saved_at, saved_in}
use Rattle.pd_salvage_shapes.specs.Visiting.{GoesOn, IsBegun, Meets, MeetsAll, MeetsTree, SeesDevice, TellsAll, maps, mets_now, TellsLeaf}
use Rattle.pd_salvage_shapes.proofs.NoteLemmas.{mappings_are, few_in, few_saved, leaf_is, saved_keys}
use Rattle.pd_salvage_shapes.proofs.VisitingLemmas.{maps_append, maps_met}
use Rattle.pd_salvage_shapes.specs.declared.note.LeafNote.{LeafNote}

-- what is met below a root ascends
module _ (fields : ThinFields) (image : List (List ℕ)) where
  pub maps_visits : (vs : List Visit) → maps (flat_map (met_of_visit fields image) vs)
      ≡ map mapping_of_entry (filter (λ (e : Entry). nat_lt (mapped_block e.value) fields.data_map.blocks) (flat_map (entries_of_visit 8 image) vs))
  maps_visits [] = refl
  maps_visits (v ∷ vs) =
      let pool = λ (e : Entry). nat_lt (mapped_block e.value) fields.data_map.blocks in
      let here = entries_of_visit 8 image v in
      let later = flat_map (entries_of_visit 8 image) vs in
      maps_append (met_of_visit fields image v) (flat_map (met_of_visit fields image) vs)
      ∙ (rw (maps_met (cond (is_whole_visit fields image v) (Some v.leaf) None) (saved_of_visit fields image v), maps_visits vs) refl
      ∙ sym (ap (map mapping_of_entry) (filter-append pool here later) ∙ map-append mapping_of_entry (filter pool here) (filter pool later)))

  pub root_ascends : (root : ℕ) → AreMappings fields.data_map.blocks 0 (maps (mets_of_root fields image root))
  unfolding mets_below
  root_ascends root =
      rw (maps_visits (visits 8 fields.meta_map.blocks image 64 root 0 (2 ^ 64)), visits_give 8 fields.meta_map.blocks image 64 root 0 (2 ^ 64))
      (mappings_are fields.data_map.blocks 0 0 (2 ^ 64) _ (omega arith) (omega arith) (give_ascends 8 fields.meta_map.blocks image 64 root 0 (2 ^ 64)))

-- nothing is met where nothing is left
none_left : (fields : ThinFields) (image : List (List ℕ)) (way : Way) → way.stack.depth ≡ 0 → way_left fields image way ≡ []
none_left fields image way depth = told_none (λ e. []) (mets_below fields image) 8 way depth

-- a step of the loop
pub passed_all : (image : List (List ℕ)) (all : List Met) (old : Visiting) (way : Way) → way_left old.s image old.way ≡ way_left old.s image way → MeetsAll image all old → MeetsAll image all (record old { way = way })
passed_all image all old way same is = record { tells = is.tells; mets = rw (← same) is.mets; ascend = rw (← same) is.ascend }

pub down_all : (held : Option (List (List ℕ))) (b : ℕ) (range : Range) (start old : Visiting) (way : Way) (new : Visiting) → GoesDown 8 b range old.way way → Meets held b range (record old { way = way }) new
    → IfSome held (λ image. (all : List Met) → MeetsAll image all start → MeetsAll image all old) → IfSome held (λ image. (all : List Met) → MeetsAll image all start → MeetsAll image all new)
down_all held b range start old way new down meets before =
    if_both held
    (λ image held_is told_old told_new all from.
    let left : way_left old.s image old.way ≡ mets_below old.s image (64 - way.stack.depth) range b ++ way_left old.s image way =
    ap (flat_map (told (λ e. []) (mets_below old.s image))) down.left in
    let is = told_old all from in
    subst (λ (ms : List Met). MeetsAll image ms new) (rw left at is.mets) (told_new is.tells (rw left at is.ascend)))
    before meets.told

-- a tree was met: its root, and then what is left
pub tree_met : (held : Option (List (List ℕ))) (root : ℕ) (old begun mid new : Visiting) → IsBegun old begun → Meets held root all_keys begun mid → GoesOn held mid new → MeetsTree held root old new
tree_met held root old begun mid new begins meets goes = record {
  same = goes.same ∙ (meets.same ∙ begins.same.0);
  ready = goes.ready;
  grow = λ k n at. goes.grow k n (meets.grow k n (rw begins.same.2 at));
  told =
      if_both held
      (λ image held_is met goes_on tells.
      let budget : 64 - begun.way.stack.depth ≡ 64 = (let depth = begins.depth in omega arith) in
      let none : way_left begun.s image begun.way ≡ [] = none_left begun.s image begun.way begins.depth in
      let below = mets_of_root begun.s image root in
      let ascend : AreMappings begun.s.data_map.blocks begun.least (maps (mets_below begun.s image (64 - begun.way.stack.depth) all_keys root ++ way_left begun.s image begun.way)) =
      rw (budget, none, append-nil below, begins.none.1) (root_ascends begun.s image root) in
      let now : mets_now begun ≡ [] = rw begins.none.0 refl in
      let done = goes_on _ (met (rw (begins.same.0, begins.same.1, begins.same.2) tells) ascend) in
      (done.0, done.1 ∙ rw (now, budget, none, append-nil below, begins.same.0) refl))
      meets.told goes.told;
}

-- the end of the loop
pub ended_all : (image : List (List ℕ)) (all : List Met) (v : Visiting) → v.way.stack.depth ≡ 0 → MeetsAll image all v → TellsAll image v × (mets_now v ≡ all)
ended_all image all v depth is =
    let none : way_left v.s image v.way ≡ [] = none_left v.s image v.way depth in
    (is.tells, sym (append-nil (mets_now v)) ∙ (rw none at is.mets))

-- what was met of a tree is what was met of its device
pub seen_tree : (held : Option (List (List ℕ))) (root : ℕ) (seen : Seen) (old new : Visiting) → MeetsTree held root old new → seen.met ≡ new.met.items → seen.mapped ≡ new.mapped → seen.mapped < 2 ^ 64
    → SeesDevice held root seen old new
seen_tree held root seen old new tree met mapped fits = record {
  same = tree.same;
  table = record { places = tree.ready.places; notes = tree.ready.notes };
  grow = tree.grow;
  lawful = record {
    within = rw met tree.ready.met.within;
    lawful = rw (met, ← tree.same) (rw (append-nil (maps (mets_now new))) at (tree.ready.met.lawful [] tt));
    counted = rw (met, mapped) tree.ready.met.counted;
    fits = fits;
  };
  told = rw met tree.told;
}

-- The note of a leaf tells what is met of it.

-- so many are all of a number, where as many of them as there are are so
whole_is : (a n number : ℕ) (sized : Bool) → a ≤ n → n ≤ number → (nat_eq a number && sized) ≡ ((nat_eq n number && sized) && nat_eq a n)
whole_is a n number sized few most = elim (cases_Bool (nat_eq a number)) [
  | inl all ↦
      let same = eqb-true a number all in
      rw (all, eq-eqb n number (omega arith), eq-eqb a n (omega arith)) (and_true sized)
  | inr less ↦ elim (cases_Bool (nat_eq n number)) [
    | inl full ↦
        let same = eqb-true n number full in
        let other : nat_eq a n ≡ false = ne_eqb a n (λ is. both_ways (nat_eq a number) less (eq-eqb a number (omega arith))) in
        rw (less, full, other) (and_false sized)
    | inr part ↦ rw (less, part) refl
  ]
]
  where
    and_true : (b : Bool) → (true && b) ≡ ((true && b) && true)
    and_true true = refl
    and_true false = refl

    and_false : (b : Bool) → (false && b) ≡ ((true && b) && false)
    and_false true = refl
    and_false false = refl

module _ (fields : ThinFields) (image : List (List ℕ)) (b : ℕ) (block : List ℕ) (note : LeafNote) (is : Notes fields.data_map.blocks b block all_keys note) (read : block_at image b ≡ block)
    (leaf : is_damaged 8 b block ≡ false → is_inner_node block ≡ false) where
  abbrev blocks : ℕ
  blocks = fields.data_map.blocks

  none_noted : is_damaged 8 b block ≡ true → noted note ≡ []
  none_noted damaged = is.mappings ∙ rw damaged refl

  all_noted : is_damaged 8 b block ≡ false → noted note ≡ saved_in blocks all_keys (leaf_entries 8 block)
  all_noted sound = is.mappings ∙ rw sound refl

  kept_in : (sound : is_damaged 8 b block ≡ false) (range : Range) → saved_in blocks range (leaf_entries 8 block) ≡ in_keys range (noted note)
  kept_in sound range =
      rw (all_noted sound, leaf_is block (leaf sound)) (saved_keys blocks range block 0 (entry_count 8 block) (λ i from below. is.fits sound (leaf sound) i (omega arith)))

  note_saves : (range : Range) → saved_at blocks b (block_at image b) range ≡ in_keys range (noted note)
  note_saves range = elim (cases_Bool (is_damaged 8 b block)) [
    | inl damaged ↦ rw (read, damaged, none_noted damaged) refl
    | inr sound ↦ rw (read, sound) (kept_in sound range)
  ]

  note_meets : (j : ℕ) (range : Range) → is_outside fields.meta_map.blocks b ≡ false → mets_below fields image (suc j) range b ≡ met_in note range
  unfolding mets_below
  note_meets j range inside = elim (cases_Bool (is_damaged 8 b block)) [
    | inl damaged ↦ none_damaged (met_of_visit fields image) 8 fields.meta_map.blocks image (suc j) b range (rw read damaged) ∙ rw (none_noted damaged) refl
    | inr sound ↦
        let kept = kept_in sound range in
        let ms = in_keys range (noted note) in
        let number : length (mappings_in image b) ≡ length (leaf_entries 8 block) = length-map (leaf_entries 8 (block_at image b)) mapping_of_entry ∙ rw read refl in
        let most : length (noted note) ≤ length (leaf_entries 8 block) = rw (all_noted sound) (few_saved blocks all_keys block (leaf_entries 8 block)) in
        let sized = nat_le 1 (length (leaf_entries 8 block)) && nat_le (length (leaf_entries 8 block)) 252 in
        let whole = whole_is (length ms) (length (noted note)) (length (leaf_entries 8 block)) sized (few_in range (noted note)) most in
        at_leaf (met_of_visit fields image) 8 fields.meta_map.blocks image j b range inside (rw read sound) (rw read (leaf sound))
        ∙ rw (number, read, kept, whole, is.full, is.at) refl
  ]

  pub note_tells : TellsLeaf fields image b note
  note_tells = record { meets = note_meets; saves = note_saves }
