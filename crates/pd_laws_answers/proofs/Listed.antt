-- What the lines of damaged states say is kept from their roots.
use Rattle.std.proofs.Common.{◌+◌, ◌≡◌, ℕ, Bool, true, false, cond, List, [], ◌∷◌, length, map, filter, sum_by, refl, sym, ◌∙◌, ap, ap₂}
use Rattle.std.specs.List.{AllByRecursion, range_with_len}
use Rattle.std.proofs.lemmas.List.{length-map}
use Rattle.std.proofs.lemmas.List.Sums.{sum_by-cons}
use Rattle.pd_kinds.specs.Graph.{Graph}
use Rattle.pd_kinds.specs.Meaning.{Mapping, ThinDevice, ThinPool}
use Rattle.pd_kinds.specs.Node.{Entry}
use Rattle.pd_kinds.specs.ThinFormat.{ThinFields}
use Rattle.pd_laid.specs.FoundRoots.{FoundRoots, is_better, lost_graph}
use Rattle.pd_laid.specs.Salvage.{salvage_from, salvaged_device, salvaged_mappings, saved_tops}
use Rattle.pd_answers.specs.DamagedStates.{bare_fields, best_details, damaged_state, damaged_states, is_loose_top, kept_devices}
use Rattle.pd_answers.specs.FoundStates.{found_fields, in_order, placed}
use Rattle.pd_answers.specs.NamedRepairs.{named_fields, saved_from_named, saved_time, timeless_fields}
use Rattle.pd_answers.specs.Searches.{seen_device, seen_pool}
use Rattle.pd_answers.specs.declared.request.GivenSuper.{GivenSuper}
use Rattle.pd_answers.specs.declared.request.NamedRoots.{NamedRoots}
use Rattle.pd_laws_answers.specs.Search.{KeepsListed, kept_of_device}

abbrev Kept : Type 0
Kept = ℕ × (ℕ × List Mapping)

-- what holds of all holds of them in order
placed_all : (P : FoundRoots → Type 0) (roots : FoundRoots) (xs : List FoundRoots) → P roots → AllByRecursion P xs → AllByRecursion P (placed roots xs)
placed_all P roots [] own all = (own, tt)
placed_all P roots (x ∷ xs) own all = chosen (is_better roots x) (placed_all P roots xs own all.1)
  where
    chosen : (b : Bool) → AllByRecursion P (placed roots xs) → AllByRecursion P (cond b (roots ∷ x ∷ xs) (x ∷ placed roots xs))
    chosen true rest = (own, all)
    chosen false rest = (all.0, rest)

ordered_all : (P : FoundRoots → Type 0) (xs : List FoundRoots) → AllByRecursion P xs → AllByRecursion P (in_order xs)
ordered_all P [] all = tt
ordered_all P (x ∷ xs) all = placed_all P x (in_order xs) all.0 (ordered_all P xs all.1)

given_all : (P : FoundRoots → Type 0) (f : ℕ → FoundRoots) → ((n : ℕ) → P (f n)) → (ns : List ℕ) → AllByRecursion P (map f ns)
given_all P f each [] = tt
given_all P f each (n ∷ ns) = (each n, given_all P f each ns)

-- the sum of the mapped numbers is told by what is kept
sum_kept : (ds : List ThinDevice) → sum_by (λ (d : ThinDevice). d.mapped) ds ≡ sum_by (λ (kept : Kept). kept.1.0) (map kept_of_device ds)
sum_kept [] = refl
sum_kept (d ∷ ds) =
    sum_by-cons (λ (d : ThinDevice). d.mapped) d ds
    ∙ (ap (λ (n : ℕ). d.mapped + n) (sum_kept ds) ∙ sym (sum_by-cons (λ (kept : Kept). kept.1.0) (kept_of_device d) (map kept_of_device ds)))

same_sum : (ds others : List ThinDevice) → map kept_of_device ds ≡ map kept_of_device others
    → sum_by (λ (d : ThinDevice). d.mapped) ds ≡ sum_by (λ (d : ThinDevice). d.mapped) others
same_sum ds others same = sum_kept ds ∙ (ap (λ (kept : List Kept). sum_by (λ (k : Kept). k.1.0) kept) same ∙ sym (sum_kept others))

same_length : (ds others : List ThinDevice) → map kept_of_device ds ≡ map kept_of_device others → length ds ≡ length others
same_length ds others same =
    sym (length-map {A = ThinDevice} {B = Kept} ds kept_of_device)
    ∙ (ap (λ (kept : List Kept). length kept) same ∙ length-map {A = ThinDevice} {B = Kept} others kept_of_device)

-- when a device was snapped isn't told by it
seen_kept : (places : List ℕ) (ds : List ThinDevice) → map kept_of_device (map (seen_device places) ds) ≡ map kept_of_device ds
seen_kept places [] = refl
seen_kept places (d ∷ ds) = ap (λ (kept : List Kept). kept_of_device d ∷ kept) (seen_kept places ds)

module _ (graph : Graph) (image : List (List ℕ)) (transaction block_size time top details : ℕ) where
  -- superblocks with the same roots and sizes
  abbrev fields : ThinFields
  fields =
      let timeless = found_fields graph transaction block_size (record { top = top; details = details; mappings = 0; time = 0; transaction = 0; times = 0 }) in
      record timeless { time = time }

  each_kept : (tops : List Entry) → map kept_of_device (map (salvaged_device fields image) tops) ≡ map kept_of_device (map (salvaged_device (bare_fields graph top details) image) tops)
  unfolding salvaged_device salvaged_mappings
  each_kept [] = refl
  each_kept (e ∷ tops) = ap (λ (kept : List Kept). kept_of_device (salvaged_device fields image e) ∷ kept) (each_kept tops)

  pub same_kept : map kept_of_device (salvage_from fields image).devices ≡ map kept_of_device (kept_devices graph image top details)
  unfolding salvage_from
  same_kept = each_kept (saved_tops fields image)

-- the devices that are saved from named roots
module _ (image : List (List ℕ)) (given : GivenSuper) (named : NamedRoots) where
  pub fields_kept : map kept_of_device (salvage_from (named_fields image given named) image).devices
      ≡ map kept_of_device (kept_devices (lost_graph image given.blocks) image named.top named.details)
  unfolding named_fields
  fields_kept = same_kept (lost_graph image given.blocks) image given.transaction given.block_size (saved_time (timeless_fields image given named) image) named.top named.details

  pub named_kept : map kept_of_device (saved_from_named false image given named).devices
      ≡ map kept_of_device (kept_devices (lost_graph image given.blocks) image named.top named.details)
  unfolding seen_pool
  named_kept = seen_kept _ (salvage_from (named_fields image given named) image).devices ∙ fields_kept

-- a damaged state is told by what is kept of it
state_kept : (image : List (List ℕ)) (given : GivenSuper) (top : ℕ) → KeepsListed image given (damaged_state (lost_graph image given.blocks) image top)
unfolding damaged_state
state_kept image given top =
    let graph = lost_graph image given.blocks in
    let details = best_details graph image top in
    let named : NamedRoots = record { top = top; details = details } in
    let kept = kept_devices graph image top details in
    let saved = (saved_from_named false image given named).devices in
    let told = (salvage_from (named_fields image given named) image).devices in
    record {
      devices = named_kept image given named;
      mappings = same_sum saved kept (named_kept image given named);
      told_devices = same_length told kept (fields_kept image given named);
      told_mappings = same_sum told kept (fields_kept image given named);
    }

pub all_kept : (image : List (List ℕ)) (given : GivenSuper) → AllByRecursion (KeepsListed image given) (damaged_states (lost_graph image given.blocks) image)
unfolding damaged_states
all_kept image given =
    let graph = lost_graph image given.blocks in
    ordered_all (KeepsListed image given) (map (damaged_state graph image) (filter (is_loose_top graph image) (range_with_len 0 graph.nr)))
    (given_all (KeepsListed image given) (damaged_state graph image) (state_kept image given) (filter (is_loose_top graph image) (range_with_len 0 graph.nr)))
