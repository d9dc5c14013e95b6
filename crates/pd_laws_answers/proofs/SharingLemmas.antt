-- In what is saved of a pool sharing is seen, where it has the times that kernels keep.
use Rattle.std.proofs.Common.{◌≡◌, inl, inr, true, Bool, List, [], ◌∷◌, map, filter, refl, arith, ℕ, ◌<◌, Option, Some, None, not, sym, subst, ap, ◌∙◌, ◌+◌, ◌^◌, ◌≤◌, false, nat_eq, nat_lt, ◌/◌, IsSome}
use Rattle.std.specs.List.{All, Contains}
use Rattle.std.proofs.lemmas.Bool.{cases_Bool, both_ways, eqb-true, eq-eqb, ne_eqb}
use Rattle.std.proofs.lemmas.List.Elements.{All-cons, All-contains, All-filter, All-map, All-nil, All-weaker, Contains-append_right, Contains-get_or, filter_passes}
use Rattle.std.proofs.lemmas.Option.{IfSome_then, none-some, same_Some}
use Rattle.pd_kinds.specs.Node.{Entry, child_at}
use Rattle.pd_kinds.specs.declared.kind.Kind.TheVariants.{Thin}
use Rattle.pd_kinds.specs.Graph.{is_outside, block_at}
use Rattle.pd_kinds.specs.Meaning.{ThinDevice, Mapping, ThinPool, thin_meaning}
use Rattle.pd_kinds.specs.Stages.{faults}
use Rattle.pd_kinds.specs.ThinFormat.{ThinFields, thin_fields, mapped_block}
use Rattle.pd_kinds.specs.Trees.{value_of_key}
use Rattle.pd_kinds.specs.declared.kind.Stage.TheVariants as stages
use Rattle.pd_grammar.specs.Lawful.{IsLawfulPool}
use Rattle.pd_laid.specs.Saved.{ContainsEntry, IsSaved, IsWhole, in_leaf, in_child}
use Rattle.pd_laid.specs.Salvage.{salvaged_entries, salvaged_device, salvage, salvage_from, salvaged_mappings, is_damaged}
use Rattle.pd_laid.proofs.SavedLemmas.{given_where_saved}
use Rattle.pd_answers.specs.Terms.{Objects, IsAnswered}
use Rattle.pd_answers.specs.Promises.{terms_of}
use Rattle.pd_answers.specs.Repairs.{saved_making, saved_of}
use Rattle.pd_answers.specs.declared.request.Request.TheVariants.{Repair}
use Rattle.pd_salvage.proofs.AscendLemmas.{AreAscending, give_ascends}
use Rattle.pd_laws_laid.specs.Clean.{IsCleanPool}
use Rattle.pd_laws_answers.specs.Sharing.{HasTimesOfSharing, IsShared, MappingPlace, SeesSharingWhere, SharingIsSeen, details_in, IsDamagedPool, IsKeptPool}
use Rattle.pd_laws_answers.proofs.Repaired.{IsMadeSo, repair_holds, super_statuses}
use Rattle.pd_laws_answers.proofs.Restored.{Image}
use Rattle.pd_laws_answers.proofs.SalvageLawful.{mapping_at}

-- What is among the items of a list that was mapped or filtered.

pub first_among : {X : Type 0} (x : X) (xs : List X) → Contains (x ∷ xs) x
first_among x xs = (0, omega arith, refl)

pub later_among : {X : Type 0} (y x : X) (xs : List X) → Contains xs x → Contains (y ∷ xs) x
later_among y x xs here = Contains-append_right (y ∷ []) xs x here

-- an item of a list that was mapped comes from an item
pub record ComesFrom {X Y : Type 0} (f : X → Y) (xs : List X) (y : Y) : Type 0 where
  pub item : X
  pub among : Contains xs item
  pub is : f item ≡ y

pub comes_from : {X Y : Type 0} (f : X → Y) (xs : List X) (y : Y) → Contains (map f xs) y → ComesFrom f xs y
comes_from {X} {Y} f xs y here =
    All-contains (ComesFrom f xs) (map f xs) y
    (All-map (ComesFrom f xs) f xs (λ k d within. record { item = _; among = Contains-get_or xs k d within; is = refl })) here

-- and an item goes there
module _ {X Y : Type 0} (f : X → Y) where
  all_mapped : (xs : List X) → All (λ x. Contains (map f xs) (f x)) xs
  all_mapped [] = All-nil (λ x. Contains (map f []) (f x))
  all_mapped (y ∷ xs) =
      All-cons (λ x. Contains (map f (y ∷ xs)) (f x)) y xs (first_among (f y) (map f xs))
      (All-weaker (λ x. Contains (map f xs) (f x)) (λ x. Contains (map f (y ∷ xs)) (f x)) (λ x here. later_among (f y) (f x) (map f xs) here) xs (all_mapped xs))

  pub mapped_among : (xs : List X) (x : X) → Contains xs x → Contains (map f xs) (f x)
  mapped_among xs x here = All-contains (λ y. Contains (map f xs) (f y)) xs x (all_mapped xs) here

-- what passes a test is kept, and what is kept passes it
module _ {X : Type 0} (p : X → Bool) where
  abbrev IsKept : List X → X → Type 0
  IsKept xs x = p x ≡ true → Contains (filter p xs) x

  all_kept : (xs : List X) → All (IsKept xs) xs
  all_kept [] = All-nil (IsKept [])
  all_kept (y ∷ xs) = elim (cases_Bool (p y)) [
    | inl passes ↦ All-cons (IsKept (y ∷ xs)) y xs (λ _. rw passes (first_among y (filter p xs)))
        (All-weaker (IsKept xs) (IsKept (y ∷ xs)) (λ x kept also. rw passes (later_among y x (filter p xs) (kept also))) xs (all_kept xs))
    | inr fails ↦ All-cons (IsKept (y ∷ xs)) y xs (λ passes. absurd (both_ways (p y) fails passes))
        (All-weaker (IsKept xs) (IsKept (y ∷ xs)) (λ x kept also. rw fails (kept also)) xs (all_kept xs))
  ]

  pub kept_among : (xs : List X) (x : X) → Contains xs x → p x ≡ true → Contains (filter p xs) x
  kept_among xs x here = All-contains (IsKept xs) xs x (all_kept xs) here

  pub among_kept : (xs : List X) (x : X) → Contains (filter p xs) x → Contains xs x × (p x ≡ true)
  among_kept xs x here = (
    All-contains (Contains xs) (filter p xs) x (All-filter p (Contains xs) xs (λ k d within. Contains-get_or xs k d within)) here,
    All-contains (λ y. p y ≡ true) (filter p xs) x (filter_passes p xs) here,
  )

-- entries, by cases on the list
pub among_has : (es : List Entry) (e : Entry) → ContainsEntry es e → Contains es e
among_has [] e has = absurd has
among_has (x ∷ es) e (inl here) = rw here (first_among x es)
among_has (x ∷ es) e (inr later) = later_among x e es (among_has es e later)

all_have : (es : List Entry) → All (ContainsEntry es) es
all_have [] = All-nil (ContainsEntry [])
all_have (x ∷ es) = All-cons (ContainsEntry (x ∷ es)) x es (inl refl) (All-weaker (ContainsEntry es) (ContainsEntry (x ∷ es)) (λ e later. inr later) es (all_have es))

pub has_among : (es : List Entry) (e : Entry) → Contains es e → ContainsEntry es e
has_among es e here = All-contains (ContainsEntry es) es e (all_have es) here

-- the entries of the mapping tree whose devices are saved
abbrev pub is_kept_top : ℕ → Entry → Bool
is_kept_top nr top = not (is_outside nr top.value)

abbrev pub kept_tops : ThinFields → List (List ℕ) → List Entry
kept_tops fields image = filter (is_kept_top fields.meta_map.blocks) (salvaged_entries 8 fields.meta_map.blocks image fields.mapping_root)

-- a device that was saved, by its entry
pub record IsSavedDevice (image : List (List ℕ)) (d : ThinDevice) : Type 0 where
  pub top : Entry
  pub among : Contains (kept_tops (thin_fields (block_at image 0)) image) top
  pub is : salvaged_device (thin_fields (block_at image 0)) image top ≡ d

pub saved_device : (image : List (List ℕ)) (d : ThinDevice) → Contains (salvage image).devices d → IsSavedDevice image d
unfolding salvage_from
saved_device image d here =
    let found = comes_from (salvaged_device (thin_fields (block_at image 0)) image) _ d here in
    record { top = found.item; among = found.among; is = found.is }

pub device_id : (image : List (List ℕ)) (top : Entry) → (salvaged_device (thin_fields (block_at image 0)) image top).id ≡ top.key
unfolding salvaged_device
device_id image top = refl

-- the times of a device whose details are lost are the pool's
lost_snapped : (image : List (List ℕ)) (top : Entry) → IsLawfulPool (salvage image) → details_in image top.key ≡ None
    → (salvaged_device (thin_fields (block_at image 0)) image top).snapped ≡ (salvage image).time
unfolding salvaged_device salvage_from
lost_snapped image top lawful none =
    let transaction = lawful.transaction_fits in
    let time = lawful.time_fits in
    rw none (omega arith)

module _ (image : List (List ℕ)) (lawful : IsLawfulPool (salvage image)) (times : HasTimesOfSharing image) where
  seen_by : (place : MappingPlace (salvage image)) → IsShared place → (details : Option ℕ) → details_in image place.device.id ≡ details → place.mapping.time < place.device.snapped
  seen_by place shared (Some value) found = times.before_the_snap place shared (rw found refl)
  seen_by place shared None lost =
      let from = saved_device image place.device place.of_pool in
      let id : place.device.id ≡ from.top.key = sym (ap (λ (d : ThinDevice). d.id) from.is) ∙ device_id image from.top in
      let snapped : place.device.snapped ≡ (salvage image).time =
      sym (ap (λ (d : ThinDevice). d.snapped) from.is) ∙ lost_snapped image from.top lawful (rw id at lost) in
      let time = times.before_the_pool place shared in
      omega (arith, snapped, time)

  pub saved_sees : SharingIsSeen (salvage image)
  saved_sees place shared = seen_by place shared (details_in image place.device.id) refl

-- so it is in the repaired pool, with shared leaves or without
abbrev pub IsLawfulRepair : Image → Image → Type 0
IsLawfulRepair image made = IsLawfulPool (salvage image) × IsCleanPool made (salvage image)

pub sees_sharing : (shared : Bool) → IsMadeSo (faults Thin stages.Super) (saved_making shared) (saved_of shared) IsLawfulRepair → (IsSo : Image → Type 0) → ((image : Image) → IsSo image → HasTimesOfSharing image)
    → (from to : List ℕ) (before after : Objects) → IsAnswered (terms_of (Some (Repair shared from to))) before after 0 → SeesSharingWhere IsSo before after
sees_sharing shared made_so IsSo times from to before after answered =
    IfSome_then before.input.held (repair_holds (faults Thin stages.Super) super_statuses shared (saved_of shared) IsLawfulRepair made_so from to before after answered) (λ image told is.
    IfSome_then before.output.held (told is) (λ base held.
    IfSome_then after.output.held held (λ made here so. subst SharingIsSeen (sym here.0.1.means) (saved_sees image here.0.0 (times image so)))))

-- What is saved of a pool that kernels kept, and that was damaged, has the times that kernels keep.

-- the value that is found at a key is that of an entry
record HasEntry (es : List Entry) (key value : ℕ) : Type 0 where
  entry : Entry
  among : ContainsEntry es entry
  key_is : entry.key ≡ key
  value_is : entry.value ≡ value

entry_at : (es : List Entry) (key value : ℕ) → value_of_key es key ≡ Some value → HasEntry es key value
unfolding value_of_key
entry_at [] key value found = absurd (none-some value found)
entry_at (e ∷ es) key value found = elim (cases_Bool (nat_eq e.key key)) [
  | inl here ↦ record { entry = e; among = inl refl; key_is = eqb-true e.key key here; value_is = same_Some e.value value (rw here at found) }
  | inr other ↦
      let later = entry_at es key value (rw other at found) in
      record { entry = later.entry; among = inr later.among; key_is = later.key_is; value_is = later.value_is }
]

-- where keys ascend, each entry's key finds its own value
no_lower : (low high : ℕ) (es : List Entry) (e : Entry) → AreAscending low high es → ContainsEntry es e → low ≤ e.key
no_lower low high [] e are has = absurd has
no_lower low high (x ∷ es) e are (inl here) = rw here are.0
no_lower low high (x ∷ es) e are (inr later) =
    let above = no_lower (x.key + 1) high es e are.2 later in
    let first = are.0 in
    omega arith

finds_own : (low high : ℕ) (es : List Entry) (e : Entry) → AreAscending low high es → ContainsEntry es e → value_of_key es e.key ≡ Some e.value
unfolding value_of_key
finds_own low high [] e are has = absurd has
finds_own low high (x ∷ es) e are (inl here) = rw (here, eq-eqb x.key x.key refl) refl
finds_own low high (x ∷ es) e are (inr later) =
    let above = no_lower (x.key + 1) high es e are.2 later in
    rw (ne_eqb x.key e.key (λ same. omega arith)) (finds_own (x.key + 1) high es e are.2 later)

module _ (whole image : Image) (damage : IsDamagedPool whole image) where
  -- an undamaged node is what it was
  same_at : (size nr place : ℕ) → IsWhole size nr image place → block_at image place ≡ block_at whole place
  same_at size nr place is = elim (damage.blocks place) [
    | inl same ↦ same
    | inr damaged ↦ absurd (both_ways (is_damaged size place (block_at image place)) is.undamaged (damaged size))
  ]

  whole_there : (size nr place : ℕ) → IsWhole size nr image place → IsWhole size nr whole place
  whole_there size nr place is = record { inside = is.inside; undamaged = rw (same_at size nr place is) at is.undamaged }

  -- so what is saved was there
  saved_there : (size nr j place : ℕ) (e : Entry) → IsSaved size nr image j place e → IsSaved size nr whole j place e
  saved_there size nr j place e (in_leaf k place' e' is leaf has) =
      let same = same_at size nr place is in
      in_leaf k place e (whole_there size nr place is) (rw same at leaf) (rw same at has)
  saved_there size nr j place e (in_child k place' i e' is inner child below) =
      let same = same_at size nr place is in
      in_child k place i e (whole_there size nr place is) (rw same at inner) (rw same at child)
      (rw same at (saved_there size nr k (child_at (block_at image place) i) e below))

  given_there : (size nr root : ℕ) (e : Entry) → Contains (salvaged_entries size nr image root) e → Contains (salvaged_entries size nr whole root) e
  unfolding salvaged_entries
  given_there size nr root e here =
      let saved = (given_where_saved size nr image 64 root 0 (2 ^ 64) e).0 (has_among (salvaged_entries size nr image root) e here) in
      among_has (salvaged_entries size nr whole root) e ((given_where_saved size nr whole 64 root 0 (2 ^ 64) e).1 (saved_there size nr 64 root e saved.0, saved.1))

  -- the superblock is the same
  abbrev fields : ThinFields
  fields = thin_fields (block_at image 0)

  abbrev nr : ℕ
  nr = fields.meta_map.blocks

  same_pool : salvage whole ≡ salvage_from fields whole
  same_pool = ap (λ (block : List ℕ). salvage_from (thin_fields block) whole) (sym damage.superblock)

  ascends : (size root : ℕ) → AreAscending 0 (2 ^ 64) (salvaged_entries size nr whole root)
  unfolding salvaged_entries
  ascends size root = give_ascends size nr whole 64 root 0 (2 ^ 64)

  -- details that are found are what they were
  found_there : (id value : ℕ) → value_of_key (salvaged_entries 24 nr image fields.details_root) id ≡ Some value → value_of_key (salvaged_entries 24 nr whole fields.details_root) id ≡ Some value
  found_there id value found =
      let was = entry_at (salvaged_entries 24 nr image fields.details_root) id value found in
      let there = has_among _ was.entry (given_there 24 nr fields.details_root was.entry (among_has _ was.entry was.among)) in
      rw (was.key_is, was.value_is) at (finds_own 0 (2 ^ 64) (salvaged_entries 24 nr whole fields.details_root) was.entry (ascends 24 fields.details_root) there)

  snapped_by : (held : Image) (top : Entry) (value : ℕ) → value_of_key (salvaged_entries 24 nr held fields.details_root) top.key ≡ Some value → (salvaged_device fields held top).snapped ≡ value / 2 ^ 160
  unfolding salvaged_device
  snapped_by held top value found = rw found refl

  -- so are devices and mappings
  top_there : (top : Entry) → Contains (kept_tops fields image) top → Contains (salvage_from fields whole).devices (salvaged_device fields whole top)
  unfolding salvage_from
  top_there top here =
      let kept = among_kept (is_kept_top nr) _ top here in
      mapped_among (salvaged_device fields whole) (kept_tops fields whole) top
      (kept_among (is_kept_top nr) _ top (given_there 8 nr fields.mapping_root top kept.0) kept.1)

  mapping_there : (top : Entry) (mapping : Mapping) → Contains (salvaged_device fields image top).mappings mapping → Contains (salvaged_device fields whole top).mappings mapping
  unfolding salvaged_device salvaged_mappings
  mapping_there top mapping here =
      let from = comes_from mapping_at _ mapping here in
      let kept = among_kept (λ (e : Entry). nat_lt (mapped_block e.value) fields.data_map.blocks) _ from.item from.among in
      rw from.is at (mapped_among mapping_at _ from.item
      (kept_among (λ (e : Entry). nat_lt (mapped_block e.value) fields.data_map.blocks) _ from.item (given_there 8 nr top.value from.item kept.0) kept.1))

  -- a place of what is saved was there, with the same details where they are found
  record WasThere (place : MappingPlace (salvage image)) : Type 0 where
    there : MappingPlace (salvage_from fields whole)
    id : there.device.id ≡ place.device.id
    mapping : there.mapping ≡ place.mapping
    snapped : (value : ℕ) → details_in image place.device.id ≡ Some value → there.device.snapped ≡ place.device.snapped

  same_id : (held : Image) (top : Entry) → (salvaged_device fields held top).id ≡ top.key
  unfolding salvaged_device
  same_id held top = refl

  was_there : (place : MappingPlace (salvage image)) → WasThere place
  was_there place =
      let from = saved_device image place.device place.of_pool in
      let id = sym (ap (λ (d : ThinDevice). d.id) from.is) ∙ device_id image from.top in
      record {
        there = record {
          device = salvaged_device fields whole from.top;
          mapping = place.mapping;
          of_pool = top_there from.top from.among;
          of_device = mapping_there from.top place.mapping (rw (sym from.is) at place.of_device);
        };
        id = same_id whole from.top ∙ sym id;
        mapping = refl;
        snapped = λ value found.
            let here : value_of_key (salvaged_entries 24 nr image fields.details_root) from.top.key ≡ Some value = rw id at found in
            snapped_by whole from.top value (found_there from.top.key value here)
            ∙ sym (snapped_by image from.top value here) ∙ ap (λ (d : ThinDevice). d.snapped) from.is;
      }

  -- so the times are those that kernels keep
  module _ (kept : IsKeptPool whole) (all_saved : salvage whole ≡ thin_meaning whole) where
    same_meaning : thin_meaning whole ≡ salvage_from fields whole
    same_meaning = sym all_saved ∙ same_pool

    below : (place : MappingPlace (salvage image)) (was : WasThere place) → IsShared place → place.mapping.time < was.there.device.snapped
    below place was shared =
        let other = was_there shared.other in
        let seen = subst SharingIsSeen same_meaning kept.seen in
        rw was.mapping at (seen was.there (record {
          other = other.there;
          apart = λ same. shared.apart (sym other.id ∙ same.0 ∙ was.id, sym (ap (λ (m : Mapping). m.virtual_block) other.mapping) ∙ same.1 ∙ ap (λ (m : Mapping). m.virtual_block) was.mapping);
          same = ap (λ (m : Mapping). m.data_block) other.mapping ∙ shared.same ∙ sym (ap (λ (m : Mapping). m.data_block) was.mapping);
        }))

    same_time : (salvage_from fields whole).time ≡ (salvage image).time
    unfolding salvage_from
    same_time = refl

    before_pool : (place : MappingPlace (salvage image)) → IsShared place → place.mapping.time < (salvage image).time
    before_pool place shared =
        let was = was_there place in
        let before = below place was shared in
        let all = subst (λ (m : ThinPool). All (λ (d : ThinDevice). d.snapped ≤ m.time) m.devices) same_meaning kept.snapped in
        let most : was.there.device.snapped ≤ (salvage_from fields whole).time =
        All-contains (λ (d : ThinDevice). d.snapped ≤ (salvage_from fields whole).time) (salvage_from fields whole).devices was.there.device all was.there.of_pool in
        let time = same_time in
        omega arith

    before_snap : (place : MappingPlace (salvage image)) → IsShared place → (details : Option ℕ) → details_in image place.device.id ≡ details → IsSome details → place.mapping.time < place.device.snapped
    before_snap place shared None found some = absurd (both_ways false refl some)
    before_snap place shared (Some value) found some =
        let was = was_there place in
        rw (was.snapped value found) at (below place was shared)

    pub damaged_has_times : HasTimesOfSharing image
    damaged_has_times = record {
      before_the_pool = before_pool;
      before_the_snap = λ place shared some. before_snap place shared (details_in image place.device.id) refl some;
    }
