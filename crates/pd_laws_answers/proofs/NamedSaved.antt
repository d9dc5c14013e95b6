-- What is saved from named roots.
use Rattle.std.proofs.Common.{◌≡◌, ℕ, ◌+◌, ◌-◌, ◌^◌, ◌<◌, ◌≤◌, max, min, Bool, true, false, cond, List, [], ◌∷◌, length, refl, sym, ap, ap₂, subst, ◌∙◌, arith, ◌/◌, not, map, filter, Option, Some, None, unwrap_or}
use Rattle.std.specs.List.{flat_map, AllByRecursion}
use Rattle.std.specs.Prelude.{fold}
use Rattle.std.proofs.lemmas.List.Elements.{All-replicate, All-from_recursion}
use Rattle.pd_kinds.specs.declared.limits.TheConstants.{MAX_META_BLOCKS}
use Rattle.pd_kinds.specs.Image.{HasBytes, IsImage, room_of}
use Rattle.pd_kinds.specs.Layout.{graph_of}
use Rattle.pd_kinds.specs.Meaning.{ThinPool, ThinDevice}
use Rattle.pd_kinds.specs.ThinFormat.{ThinFields}
use Rattle.pd_kinds.specs.Graph.{is_outside}
use Rattle.pd_kinds.specs.Node.{Entry}
use Rattle.pd_kinds.specs.Trees.{value_of_key}
use Rattle.pd_kinds.specs.Field.{details_code}
use Rattle.pd_grammar.specs.Lawful.{IsLawfulPool}
use Rattle.pd_grammar.specs.Need.{thin_need}
use Rattle.pd_laid.specs.FoundRoots.{FoundRoots, are_fitting, found_pool, lost_graph, roots_at, times_of}
use Rattle.pd_laid.specs.Laid.{IsLaid}
use Rattle.pd_laid.specs.LaidThin.{laid_pool}
use Rattle.pd_laid.specs.Salvage.{salvage_from, saved_shape_from, salvaged_device, salvaged_entries}
use Rattle.pd_laid.specs.Shape.{IsShape, ThinShape, pool_of}
use Rattle.pd_laid.specs.PoolText.{IsLawfulShape}
use Rattle.pd_answers.specs.NamedRepairs.{named_pool, named_shape, saved_from_named, lacks_details, latest_time, named_fields, pool_time, saved_time, timeless_fields}
use Rattle.pd_answers.specs.declared.request.GivenSuper.{GivenSuper}
use Rattle.pd_answers.specs.declared.request.NamedRoots.{NamedRoots}
use Rattle.pd_answers.specs.Repairs.{saved_making}
use Rattle.pd_answers.specs.FoundStates.{found_fields}
use Rattle.pd_answers.specs.Searches.{found_shape, seen_pool, seen_shape, timed_pool, timed_shape, greatest_time}
use Rattle.pd_kept.proofs.BoundLemmas.{Below, below_greatest, first_of_all, rest_of_all}
use Rattle.pd_scan.specs.Pairs.{lost_fields}
use Rattle.pd_laws_laid.specs.Clean.{IsCleanPool}
use Rattle.pd_laws_answers.specs.Search.{IsSavedFrom, DoNumbersFit}
use Rattle.pd_laws_answers.proofs.SalvageLawful.{SavesFound, all_times, latest_fits, devices_lawful}
use Rattle.pd_laws_answers.proofs.Repaired.{IsMadeSo, AreLaidClean, AreShapes, AreTwice, MeanSaved, found_are_lost, keeps}
use Rattle.pd_laws_answers.proofs.Restored.{Image}
use Rattle.pd_laws_answers.proofs.SeenLemmas.{seen_pool_lawful, seen_shape_lawful, shape_means, shared_twice}
use Rattle.pd_laws_answers.specs.Sharing.{IsTimely, SharingIsSeen}
use Rattle.pd_laws_answers.proofs.SeenSharing.{pool_stays}

-- a shape with another time
timed_means : (time : ℕ) (w : ThinShape) → pool_of (timed_shape time w) ≡ timed_pool time (pool_of w)
unfolding pool_of
timed_means time w = refl

timed_is_shape : (time : ℕ) (w : ThinShape) → IsShape w → IsShape (timed_shape time w)
timed_is_shape time w is = record { numbers_fit = is.numbers_fit; filled = is.filled; few = is.few; pieces = is.pieces; used = is.used }

module _ (image : Image) (given : GivenSuper) (named : NamedRoots) (is : IsImage image) (fit : DoNumbersFit given.transaction given.block_size given.blocks) where
  few_blocks : (timeless_fields image given named).meta_map.blocks ≤ MAX_META_BLOCKS
  unfolding lost_graph graph_of
  few_blocks = omega arith

  latest_time_fits : latest_time (timeless_fields image given named) image < 2 ^ 32
  latest_time_fits = latest_fits 0 _ (omega arith) (all_times _ 0 _ (devices_lawful (timeless_fields image given named) image is.bytes few_blocks fit.transaction_fits (omega arith)))

  -- the time fits 32 bits
  pub time_fits : saved_time (timeless_fields image given named) image < 2 ^ 32
  unfolding saved_time
  time_fits = by (lacks_details (timeless_fields image given named) image)
    where
      by : (lacks : Bool) → cond lacks (min (latest_time (timeless_fields image given named) image + 1) (2 ^ 32 - 1)) (latest_time (timeless_fields image given named) image) < 2 ^ 32
      by true = omega arith
      by false = latest_time_fits

  -- so does the pool's own
  pool_time_fits : pool_time (timeless_fields image given named) image < 2 ^ 32
  unfolding pool_time
  pool_time_fits = omega (arith, latest_time_fits)

  pub named_lawful : IsLawfulPool (named_pool image given named)
  unfolding salvage_from named_fields lost_graph graph_of
  named_lawful = record {
    uuid_len = refl;
    uuid_bytes = All-replicate (λ (b : ℕ). b < 256) 16 0 (omega arith);
    time_fits = pool_time_fits;
    transaction_fits = fit.transaction_fits;
    block_size_fits = fit.block_size_fits;
    data_blocks_fit = fit.blocks_fit;
    devices = devices_lawful (named_fields image given named) image is.bytes few_blocks fit.transaction_fits time_fits;
  }

  few_named : (named_fields image given named).meta_map.blocks ≤ 2 ^ 64
  unfolding named_fields
  few_named = let few = few_blocks in omega arith

  named_means : MeanSaved → pool_of (named_shape image given named) ≡ named_pool image given named
  named_means mean =
      timed_means (pool_time (timeless_fields image given named) image) (saved_shape_from (named_fields image given named) image)
      ∙ ap (timed_pool (pool_time (timeless_fields image given named) image)) (mean (named_fields image given named) image)

  pub named_shape_lawful : MeanSaved → AreShapes → IsLawfulShape (named_shape image given named)
  named_shape_lawful mean are = record {
    shape = timed_is_shape (pool_time (timeless_fields image given named) image) (saved_shape_from (named_fields image given named) image) (are (named_fields image given named) image few_named);
    pool = subst IsLawfulPool (sym (named_means mean)) named_lawful;
  }

-- an image that is laid of it is so
pub named_made_so : (mean : MeanSaved) (are : AreShapes) (twice : AreTwice) (clean_shape : AreLaidClean)
    → ((m : ThinPool) (base image : Image) → IsLawfulPool m → thin_need m (room_of (length base)) ≤ room_of (length base)
    → IsLaid (laid_pool m (room_of (length base))) base image → IsCleanPool image m)
    → (shared : Bool) (given : GivenSuper) (named : NamedRoots) → DoNumbersFit given.transaction given.block_size given.blocks
    → IsMadeSo (λ image. []) (saved_making shared) (λ image. saved_from_named shared image given named) (IsSavedFrom shared given named)
named_made_so mean are twice clean_shape clean false given named fit image base made is none enough laid =
    clean (seen_pool (named_pool image given named)) base made (seen_pool_lawful (named_pool image given named) (named_lawful image given named is fit)) enough laid
named_made_so mean are twice clean_shape clean true given named fit image base made is none enough laid =
    let saved = named_shape image given named in
    keeps made (seen_shape saved) (seen_pool (named_pool image given named))
    (clean_shape (seen_shape saved) base made (seen_shape_lawful saved (named_shape_lawful image given named is fit mean are)) enough laid)
    (shared_twice saved (twice (named_fields image given named) image)) (shape_means saved ∙ ap seen_pool (named_means image given named is fit mean))

-- no details are lost of roots that fit
abbrev pub LosesNone : Type 0
LosesNone = (image : List (List ℕ)) (data_blocks transaction block_size : ℕ) (roots : FoundRoots) → HasBytes image
    → are_fitting (lost_graph image data_blocks) image roots.top roots.details ≡ true
    → lacks_details (lost_fields roots transaction block_size (lost_graph image data_blocks).nr data_blocks) image ≡ false

-- roots that fit each other
module _ (saved : SavesFound) (loses : LosesNone) (image : Image) (given : GivenSuper) (named : NamedRoots) (bytes : HasBytes image)
    (fit : are_fitting (lost_graph image given.blocks) image named.top named.details ≡ true) where
  abbrev untimed : FoundRoots
  untimed = record { top = named.top; details = named.details; mappings = 0; time = 0; transaction = 0; times = 0 }

  abbrev roots : FoundRoots
  roots = roots_at (lost_graph image given.blocks) image named.top named.details

  timeless_saved : salvage_from (timeless_fields image given named) image ≡ found_pool (lost_graph image given.blocks) image given.transaction given.block_size untimed
  timeless_saved =
      ap (λ (fields : ThinFields). salvage_from fields image) (found_are_lost image given.transaction given.block_size given.blocks untimed)
      ∙ saved image given.blocks given.transaction given.block_size untimed bytes fit

  none_lost : lacks_details (timeless_fields image given named) image ≡ false
  none_lost =
      ap (λ (fields : ThinFields). lacks_details fields image) (found_are_lost image given.transaction given.block_size given.blocks untimed)
      ∙ loses image given.blocks given.transaction given.block_size untimed bytes fit

  latest_is : latest_time (timeless_fields image given named) image ≡ roots.time
  unfolding found_pool roots_at
  latest_is = ap (λ (m : ThinPool). fold max 0 (flat_map times_of m.devices)) timeless_saved

  time_is : saved_time (timeless_fields image given named) image ≡ roots.time
  unfolding saved_time
  time_is =
      ap (λ (lacks : Bool). cond lacks (min (latest_time (timeless_fields image given named) image + 1) (2 ^ 32 - 1)) (latest_time (timeless_fields image given named) image)) none_lost
      ∙ latest_is

  fields_are : named_fields image given named ≡ found_fields (lost_graph image given.blocks) given.transaction given.block_size roots
  unfolding named_fields roots_at
  fields_are = ap (λ (time : ℕ). timed time) time_is
    where
      timed : ℕ → ThinFields
      timed time = found_fields (lost_graph image given.blocks) given.transaction given.block_size (record { top = named.top; details = named.details; mappings = 0; time = time; transaction = 0; times = 0 })

  roots_fit : are_fitting (lost_graph image given.blocks) image roots.top roots.details ≡ true
  unfolding roots_at
  roots_fit = fit

  -- with its own time it is the pool that is found
  pool_time_is : pool_time (timeless_fields image given named) image ≡ roots.time
  unfolding pool_time
  pool_time_is = omega (arith, latest_is, time_is)

  pub named_found : named_pool image given named ≡ found_pool (lost_graph image given.blocks) image given.transaction given.block_size roots
  unfolding found_pool
  named_found =
      ap₂ timed_pool pool_time_is (ap (λ (fields : ThinFields). salvage_from fields image) (fields_are ∙ found_are_lost image given.transaction given.block_size given.blocks roots)
      ∙ saved image given.blocks given.transaction given.block_size roots bytes roots_fit)

  pub named_shape_found : named_shape image given named ≡ found_shape (lost_graph image given.blocks) image given.transaction given.block_size roots
  unfolding found_shape saved_shape_from salvage_from
  named_shape_found = ap₂ timed_shape pool_time_is (ap (λ (fields : ThinFields). saved_shape_from fields image) fields_are)

-- No device that is saved from named roots was snapped after the pool's time, unless that is the greatest one of a mapping.

-- when a device was snapped by its details, or by this transaction and time, if they are lost
abbrev snapped_by : ℕ → ℕ → Option ℕ → ℕ
snapped_by transaction time found = unwrap_or found (details_code 0 transaction time time) / 2 ^ 160

-- where no device whose details are found was snapped after the latest time, none was after a time that is raised to that of lost details
raised : (transaction latest saved : ℕ) (found : Option ℕ) → transaction < 2 ^ 64 → saved < 2 ^ 32 → snapped_by transaction 0 found ≤ latest
    → min (snapped_by transaction saved found) greatest_time ≤ max latest (min saved greatest_time)
raised transaction latest saved None fits small below =
    let same : details_code 0 transaction saved saved / 2 ^ 160 ≡ saved = omega (arith, fits, small) in
    omega (arith, same)
raised transaction latest saved (Some value) fits small below = omega (arith, below)

module _ (image : Image) (given : GivenSuper) (named : NamedRoots) (is : IsImage image) (fit : DoNumbersFit given.transaction given.block_size given.blocks) where
  snaps_within : (tops : List Entry) → Below (latest_time (timeless_fields image given named) image) (flat_map times_of (map (salvaged_device (timeless_fields image given named) image) tops))
      → AllByRecursion (λ (d : ThinDevice). min d.snapped greatest_time ≤ pool_time (timeless_fields image given named) image) (map (salvaged_device (named_fields image given named) image) tops)
  unfolding salvaged_device named_fields pool_time
  snaps_within [] below = tt
  snaps_within (top ∷ tops) below =
      let timeless = timeless_fields image given named in
      let latest = latest_time timeless image in
      let first = salvaged_device timeless image top in
      let rest = flat_map times_of (map (salvaged_device timeless image) tops) in
      let mine = first_of_all (λ x. x ≤ latest) (times_of first) rest below in (
        raised given.transaction latest (saved_time timeless image) (value_of_key (salvaged_entries 24 timeless.meta_map.blocks image timeless.details_root) top.key) fit.transaction_fits
            (time_fits image given named is fit) mine.1.0,
        snaps_within tops (rest_of_all (λ x. x ≤ latest) (times_of first) rest below),
      )

  named_timely : IsTimely (named_pool image given named)
  unfolding salvage_from named_fields
  named_timely =
      let timeless = timeless_fields image given named in
      let tops = filter (λ (top : Entry). not (is_outside timeless.meta_map.blocks top.value)) (salvaged_entries 8 timeless.meta_map.blocks image timeless.mapping_root) in
      All-from_recursion (λ (d : ThinDevice). min d.snapped greatest_time ≤ pool_time timeless image) (map (salvaged_device (named_fields image given named) image) tops)
      (snaps_within tops (below_greatest 0 (latest_time timeless image) (flat_map times_of (map (salvaged_device timeless image) tops)) (omega arith)).1)

  pub named_stays : IsLawfulPool (named_pool image given named) → SharingIsSeen (named_pool image given named) → seen_pool (named_pool image given named) ≡ named_pool image given named
  named_stays lawful seen = pool_stays (named_pool image given named) lawful seen named_timely
