-- The latest time of a shape is that of its devices' details, of its leaves' runs and of its own runs.
use Rattle.std.proofs.Common.{◌≡◌, ℕ, zero, suc, ◌+◌, ◌-◌, ◌^◌, ◌≤◌, max, min, Bool, cond, ◌||◌, List, [], ◌∷◌, ◌++◌, map, Option, refl, sym, ap, ap₂, ◌∙◌, arith}
use Rattle.std.specs.List.{flat_map, list_any}
use Rattle.std.specs.Prelude.{fold, is_none}
use Rattle.std.proofs.lemmas.List.{map-append}
use Rattle.pd_kinds.specs.Meaning.{Mapping, ThinDevice, ThinPool}
use Rattle.pd_kinds.specs.ThinFormat.{ThinFields}
use Rattle.pd_grammar.specs.ThinText.{mappings_from, mappings_of}
use Rattle.pd_laid.specs.FoundRoots.{times_of}
use Rattle.pd_laid.specs.Salvage.{salvage_from, saved_shape_from}
use Rattle.pd_laid.specs.Shape.{pool_of}
use Rattle.pd_laid.specs.PoolText.{device_of_part, mappings_of_runs}
use Rattle.pd_answers.specs.KeptLines.{found_mapped}
use Rattle.pd_answers.specs.NamedRepairs.{lacks_details, latest_time, pool_time, saved_time}
use Rattle.pd_answers.specs.Searches.{raised_time}
use Rattle.pd_meaning_thin.specs.declared.joined.Run.{Run}
use Rattle.pd_meaning_thin.specs.Runs.{spelled}
use Rattle.pd_salvage.specs.SavedShape.{HeldShape, IsSavedShape, device_parts, held_shape, leaf_parts}
use Rattle.pd_kept.specs.declared.merging.StoredNumber.{StoredNumber}
use Rattle.pd_kept.specs.Kept.{lacks, latest_of_shape, own_times, time_by, times_of_run, times_of_runs, saved_pair, pair_of, stored_numbers}
use Rattle.pd_kept.proofs.BoundLemmas.{Below, below_details, below_greatest, below_until, devices_below, greatest_below, leaves_until, until_below, until_leaves, until_own, until_used}
use Rattle.pd_kept.proofs.WeighingLemmas.{device_pair, found_is, pairs_are}

-- the times of runs, one after another
pub no_runs : (a : ℕ) (runs : List Run) → runs ≡ [] → fold max a (times_of_runs runs) ≡ a
unfolding times_of_runs
no_runs a runs none = rw none refl

pub times_next : (run : Run) (runs : List Run) → times_of_runs (run ∷ runs) ≡ times_of_run run ++ times_of_runs runs
unfolding times_of_runs
times_next run runs = map-append (λ (m : Mapping). m.time) (mappings_of (spelled run)) (mappings_of_runs (map spelled runs))

-- all mappings of a run have its time
pub empty_run : (a : ℕ) (run : Run) (times : List ℕ) → run.length ≡ 0 → fold max a (times_of_run run ++ times) ≡ fold max a times
empty_run a run times none =
    let none_of : (n : ℕ) → n ≡ 0 → fold max a (map (λ (m : Mapping). m.time) (mappings_from run.virt run.target run.time n) ++ times) ≡ fold max a times = λ n is. rw is refl in
    none_of run.length none

filled_from : (v d t n a : ℕ) (times : List ℕ) → t ≤ a → fold max a (map (λ (m : Mapping). m.time) (mappings_from v d t n) ++ times) ≡ fold max a times
filled_from v d t zero a times less = refl
filled_from v d t (suc n) a times less =
    let same : max a t ≡ a = omega (arith, less) in
    ap (λ (b : ℕ). fold max b (map (λ (m : Mapping). m.time) (mappings_from (suc v) (suc d) t n) ++ times)) same ∙ filled_from (suc v) (suc d) t n a times less

pub filled_run : (a : ℕ) (run : Run) (times : List ℕ) → 1 ≤ run.length → fold max a (times_of_run run ++ times) ≡ fold max (max a run.time) times
filled_run a run times some = by run.length some
  where
    by : (n : ℕ) → 1 ≤ n → fold max a (map (λ (m : Mapping). m.time) (mappings_from run.virt run.target run.time n) ++ times) ≡ fold max (max a run.time) times
    by zero some = absurd (omega arith)
    by (suc n) some = filled_from (suc run.virt) (suc run.target) run.time n (max a run.time) times (omega arith)

-- The latest time in the pool of a shape, by those of its details, of its leaves and of its own runs
module _ (h : HeldShape) (sound : IsSavedShape h) where
  -- a bound of all these is one of the pool's times
  to_pool : (t : ℕ) → Below t (flat_map own_times h.devices) → Below t (times_of_runs h.leaf_runs) → Below t (times_of_runs h.runs) → Below t (flat_map times_of (pool_of (held_shape h)).devices)
  unfolding held_shape pool_of times_of_runs
  to_pool t details shared mine =
      devices_below t (map mappings_of_runs (leaf_parts h.leaves h.leaf_runs)) h.devices h.pieces h.runs
      (leaves_until t h.leaves h.leaf_runs (below_until t (mappings_of_runs (map spelled h.leaf_runs)) shared))
      (below_until t (mappings_of_runs (map spelled h.runs)) mine) details

  -- and the other way round
  of_details : (t : ℕ) → Below t (flat_map times_of (pool_of (held_shape h)).devices) → Below t (flat_map own_times h.devices)
  unfolding held_shape pool_of
  of_details t below = below_details t (map mappings_of_runs (leaf_parts h.leaves h.leaf_runs)) h.devices h.pieces h.runs below

  of_leaves : (t : ℕ) → Below t (flat_map times_of (pool_of (held_shape h)).devices) → Below t (times_of_runs h.leaf_runs)
  unfolding held_shape pool_of times_of_runs
  of_leaves t below =
      until_below t (mappings_of_runs (map spelled h.leaf_runs))
      (until_leaves t h.leaves h.leaf_runs sound.leaf_number
      (until_used t (map mappings_of_runs (leaf_parts h.leaves h.leaf_runs)) (map device_of_part (device_parts h.devices h.pieces h.runs)) below sound.shape.used))

  of_runs : (t : ℕ) → Below t (flat_map times_of (pool_of (held_shape h)).devices) → Below t (times_of_runs h.runs)
  unfolding held_shape pool_of times_of_runs
  of_runs t below =
      until_below t (mappings_of_runs (map spelled h.runs))
      (until_own t (map mappings_of_runs (leaf_parts h.leaves h.leaf_runs)) h.devices h.pieces h.runs sound.piece_number sound.number below)

  pub latest_is : (details shared mine : ℕ) → details ≡ fold max 0 (flat_map own_times h.devices) → shared ≡ fold max 0 (times_of_runs h.leaf_runs) → mine ≡ fold max 0 (times_of_runs h.runs)
      → max (max details shared) mine ≡ latest_of_shape h
  unfolding latest_of_shape
  latest_is details shared mine details_is shared_is mine_is =
      let all = flat_map times_of (pool_of (held_shape h)).devices in
      let most = max (max details shared) mine in
      let latest = fold max 0 all in
      let here = (below_greatest 0 latest all (omega arith)).1 in
      let up : latest ≤ most = greatest_below 0 most all (omega arith)
      (to_pool most
      (below_greatest 0 most (flat_map own_times h.devices) (omega (arith, details_is))).1
      (below_greatest 0 most (times_of_runs h.leaf_runs) (omega (arith, shared_is))).1
      (below_greatest 0 most (times_of_runs h.runs) (omega (arith, mine_is))).1) in
      let a : fold max 0 (flat_map own_times h.devices) ≤ latest = greatest_below 0 latest (flat_map own_times h.devices) (omega arith) (of_details latest here) in
      let b : fold max 0 (times_of_runs h.leaf_runs) ≤ latest = greatest_below 0 latest (times_of_runs h.leaf_runs) (omega arith) (of_leaves latest here) in
      let c : fold max 0 (times_of_runs h.runs) ≤ latest = greatest_below 0 latest (times_of_runs h.runs) (omega arith) (of_runs latest here) in
      omega (arith, up, a, b, c, details_is, shared_is, mine_is)

-- whether a saved device lacks its details is told by the stored numbers
lacks_is : (fields : ThinFields) (image : List (List ℕ)) (ds : List ThinDevice)
    → list_any (λ (d : ThinDevice). is_none (found_mapped fields image d.id)) ds ≡ lacks (map device_pair ds) (stored_numbers fields image)
unfolding lacks
lacks_is fields image [] = refl
lacks_is fields image (d ∷ ds) = ap₂ (λ (a b : Bool). a || b) (ap (λ (o : Option ℕ). is_none o) (found_is fields image d.id)) (lacks_is fields image ds)

-- so the time is that of what is saved
pub time_is : (fields : ThinFields) (image : List (List ℕ)) (h : HeldShape) (stored : List StoredNumber) → held_shape h ≡ saved_shape_from fields image
    → pool_of (saved_shape_from fields image) ≡ salvage_from fields image → map pair_of stored ≡ stored_numbers fields image → time_by h stored ≡ saved_time fields image
unfolding saved_time latest_of_shape
time_is fields image h stored shape means numbers =
    let m = salvage_from fields image in
    let whole : pool_of (held_shape h) ≡ m = ap pool_of shape ∙ means in
    let pairs : map device_pair m.devices ≡ map saved_pair h.devices = ap (λ (p : ThinPool). map device_pair p.devices) (sym whole) ∙ pairs_are h in
    let lacking : lacks (map saved_pair h.devices) (map pair_of stored) ≡ lacks_details fields image = ap₂ lacks (sym pairs) numbers ∙ sym (lacks_is fields image m.devices) in
    ap₂ (λ (b : Bool) (p : ThinPool). cond b (min (fold max 0 (flat_map times_of p.devices) + 1) (2 ^ 32 - 1)) (fold max 0 (flat_map times_of p.devices))) lacking whole

-- and so is the pool's own
latest_same : (fields : ThinFields) (image : List (List ℕ)) (h : HeldShape) → held_shape h ≡ saved_shape_from fields image
    → pool_of (saved_shape_from fields image) ≡ salvage_from fields image → latest_of_shape h ≡ latest_time fields image
unfolding latest_of_shape
latest_same fields image h shape means = ap (λ (p : ThinPool). fold max 0 (flat_map times_of p.devices)) (ap pool_of shape ∙ means)

pub pool_time_is : (fields : ThinFields) (image : List (List ℕ)) (h : HeldShape) (stored : List StoredNumber) → held_shape h ≡ saved_shape_from fields image
    → pool_of (saved_shape_from fields image) ≡ salvage_from fields image → map pair_of stored ≡ stored_numbers fields image
    → raised_time (latest_of_shape h) (time_by h stored) ≡ pool_time fields image
unfolding pool_time
pool_time_is fields image h stored shape means numbers = ap₂ raised_time (latest_same fields image h shape means) (time_is fields image h stored shape means numbers)
