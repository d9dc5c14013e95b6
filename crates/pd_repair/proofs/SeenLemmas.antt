-- A pool in which sharing is seen: it is what the counts tell, and lawful.
use Rattle.std.proofs.Common.{◌≡◌, ℕ, ◌+◌, ◌^◌, ◌<◌, max, Bool, List, [], ◌∷◌, map, take, drop, refl, sym, ap, ap₂, subst, ◌∙◌, arith}
use Rattle.std.specs.List.{AllByRecursion}
use Rattle.std.specs.Prelude.{fold}
use Rattle.std.proofs.lemmas.List.Sums.{sum_by-cons}
use Rattle.pd_kinds.specs.Meaning.{ThinDevice, ThinPool}
use Rattle.pd_grammar.specs.Lawful.{AreDevices, IsLawfulPool}
use Rattle.pd_grammar.specs.Need.{mapped_data}
use Rattle.pd_grammar.specs.ThinText.{device_of_part}
use Rattle.pd_answers.specs.Searches.{raised_time, seen_device, seen_pool, seen_snap, seen_time, timed_pool}
use Rattle.pd_count.specs.Counted.{Counted}
use Rattle.pd_meaning_thin.specs.declared.joined.Run.{Run}
use Rattle.pd_restore.specs.ShapeNeed.{HasCountedThrice}
use Rattle.pd_salvage.specs.declared.saved.SavedDevice.{SavedDevice}
use Rattle.pd_salvage.specs.Gather.{mappings_of_runs}
use Rattle.pd_salvage.specs.Saved.{IsJoined, IsSavedPool, SavedPool, parts_of, pool_of, runs_of_devices, with_devices}
use Rattle.pd_repair.specs.Snaps.{is_twice, seen_devices, snap_after, snapped_at}
use Rattle.pd_repair.proofs.SnapLemmas.{counted_snap, snap_fits, stands_twice}

-- when a device is snapped, by what was counted
pub device_snap : (counts : Counted) (places : List ℕ) → HasCountedThrice counts places → (d : ThinDevice) → snap_after (is_twice counts) d.snapped d.mappings ≡ seen_snap places d
unfolding seen_snap
device_snap counts places counted d = counted_snap counts places counted d.snapped d.mappings

-- a device with another snapped time
abbrev snapped_device : ThinDevice → ℕ → ThinDevice
snapped_device d snapped = record {
  id = d.id;
  mapped = d.mapped;
  transaction = d.transaction;
  created = d.created;
  snapped = snapped;
  mappings = d.mappings;
}

-- the devices of the pool
devices_seen : (counts : Counted) (places : List ℕ) → HasCountedThrice counts places → (ds : List SavedDevice) (runs : List Run)
    → map device_of_part (parts_of (seen_devices (is_twice counts) ds runs) runs) ≡ map (seen_device places) (map device_of_part (parts_of ds runs))
devices_seen counts places counted [] runs = refl
devices_seen counts places counted (d ∷ ds) runs =
    let ms = mappings_of_runs (take d.runs runs) in
    let bare : ThinDevice = record {
      id = d.id;
      mapped = d.details.mapped;
      transaction = d.details.transaction;
      created = d.details.created;
      snapped = d.details.snapped;
      mappings = ms;
    } in
    ap₂ (λ (s : ℕ) (others : List ThinDevice). snapped_device bare s ∷ others)
    (device_snap counts places counted bare) (devices_seen counts places counted ds (drop d.runs runs))

-- when they are snapped
snaps_told : (ds : List SavedDevice) (runs : List Run) → map (λ (d : SavedDevice). d.details.snapped) ds ≡ map (λ (d : ThinDevice). d.snapped) (map device_of_part (parts_of ds runs))
snaps_told [] runs = refl
snaps_told (d ∷ ds) runs = ap (λ (snaps : List ℕ). d.details.snapped ∷ snaps) (snaps_told ds (drop d.runs runs))

pub snaps_seen : (places : List ℕ) (ds : List ThinDevice) → map (λ (d : ThinDevice). d.snapped) (map (seen_device places) ds) ≡ map (seen_snap places) ds
snaps_seen places [] = refl
snaps_seen places (d ∷ ds) = ap (λ (snaps : List ℕ). seen_snap places d ∷ snaps) (snaps_seen places ds)

-- the pool
module _ (saved : SavedPool) (counts : Counted) (counted : HasCountedThrice counts (mapped_data (pool_of saved))) where
  abbrev seen_now : List SavedDevice
  seen_now = seen_devices (is_twice counts) saved.devices saved.runs

  pub pool_seen : (time : ℕ) → pool_of (with_devices saved (raised_time time (fold max 0 (map (λ (d : SavedDevice). d.details.snapped) seen_now))) seen_now) ≡ seen_pool (timed_pool time (pool_of saved))
  unfolding pool_of seen_pool seen_time
  pool_seen time =
      let places = mapped_data (pool_of saved) in
      let ds = map device_of_part (parts_of saved.devices saved.runs) in
      let are = devices_seen counts places counted saved.devices saved.runs in
      let snaps : map (λ (d : SavedDevice). d.details.snapped) seen_now ≡ map (seen_snap places) ds =
      snaps_told seen_now saved.runs ∙ (ap (map (λ (d : ThinDevice). d.snapped)) are ∙ snaps_seen places ds) in
      ap₂ (λ (t : ℕ) (others : List ThinDevice). record {
        uuid = saved.head.uuid;
        time = t;
        transaction = saved.head.transaction;
        block_size = saved.head.block_size;
        data_blocks = saved.head.blocks;
        devices = others;
      })
      (ap (λ (least : List ℕ). raised_time time (fold max 0 least)) snaps) are

-- it is lawful
pub lawful_devices : (places : List ℕ) (blocks least : ℕ) (ds : List ThinDevice) → AreDevices blocks least ds → AreDevices blocks least (map (seen_device places) ds)
unfolding seen_snap
lawful_devices places blocks least [] are = tt
lawful_devices places blocks least (d ∷ ds) are = (
  record {
    above = are.0.above;
    id_fits = are.0.id_fits;
    mapped = are.0.mapped;
    mapped_fits = are.0.mapped_fits;
    transaction_fits = are.0.transaction_fits;
    created_fits = are.0.created_fits;
    snapped_fits = snap_fits (stands_twice places) blocks 0 d.snapped d.mappings are.0.mappings are.0.snapped_fits;
    mappings = are.0.mappings;
  },
  lawful_devices places blocks (d.id + 1) ds are.1,
)

time_fits : (time least : ℕ) → time < 2 ^ 32 → raised_time time least < 2 ^ 32
time_fits time least fits = omega arith

pub lawful_seen : (m : ThinPool) (time : ℕ) → time < 2 ^ 32 → IsLawfulPool m → IsLawfulPool (seen_pool (timed_pool time m))
unfolding seen_pool seen_time
lawful_seen m time fits lawful = record {
  uuid_len = lawful.uuid_len;
  uuid_bytes = lawful.uuid_bytes;
  time_fits = time_fits time (fold max 0 (map (seen_snap (mapped_data m)) m.devices)) fits;
  transaction_fits = lawful.transaction_fits;
  block_size_fits = lawful.block_size_fits;
  data_blocks_fit = lawful.data_blocks_fit;
  devices = lawful_devices (mapped_data m) m.data_blocks 0 m.devices lawful.devices;
}

-- its runs are as long as can be, and each is a device's
joined_seen : (test : ℕ → Bool) (ds : List SavedDevice) (runs : List Run) → AllByRecursion IsJoined (parts_of ds runs) → AllByRecursion IsJoined (parts_of (seen_devices test ds runs) runs)
joined_seen test [] runs joined = tt
joined_seen test (d ∷ ds) runs joined = (joined.0, joined_seen test ds (drop d.runs runs) joined.1)

number_seen : (test : ℕ → Bool) (ds : List SavedDevice) (runs : List Run) → runs_of_devices (seen_devices test ds runs) ≡ runs_of_devices ds
number_seen test [] runs = refl
number_seen test (d ∷ ds) runs =
    let e : SavedDevice = record { id = d.id; details = snapped_at d.details (snap_after test d.details.snapped (mappings_of_runs (take d.runs runs))); runs = d.runs } in
    sum_by-cons (λ (d : SavedDevice). d.runs) e (seen_devices test ds (drop d.runs runs))
    ∙ (ap (λ (n : ℕ). d.runs + n) (number_seen test ds (drop d.runs runs)) ∙ sym (sum_by-cons (λ (d : SavedDevice). d.runs) d ds))

pub saved_seen : (saved : SavedPool) (counts : Counted) (time : ℕ) → HasCountedThrice counts (mapped_data (pool_of saved)) → time < 2 ^ 32 → IsSavedPool saved
    → (let ds = seen_devices (is_twice counts) saved.devices saved.runs in IsSavedPool (with_devices saved (raised_time time (fold max 0 (map (λ (d : SavedDevice). d.details.snapped) ds))) ds))
saved_seen saved counts time counted fits sound = record {
  lawful = subst IsLawfulPool (sym (pool_seen saved counts counted time)) (lawful_seen (pool_of saved) time fits sound.lawful);
  joined = joined_seen (is_twice counts) saved.devices saved.runs sound.joined;
  number = number_seen (is_twice counts) saved.devices saved.runs ∙ sound.number;
}

-- so it is where the devices were seen by the counts, and the time was raised to theirs
module _ (saved : SavedPool) (counts : Counted) (counted : HasCountedThrice counts (mapped_data (pool_of saved))) (time t latest : ℕ) (ds : List SavedDevice)
    (ds_are : ds ≡ seen_devices (is_twice counts) saved.devices saved.runs) (latest_is : latest ≡ fold max 0 (map (λ (d : SavedDevice). d.details.snapped) ds)) (t_is : t ≡ raised_time time latest) where
  same : with_devices saved t ds ≡ with_devices saved (raised_time time (fold max 0 (map (λ (d : SavedDevice). d.details.snapped) (seen_devices (is_twice counts) saved.devices saved.runs)))) (seen_devices (is_twice counts) saved.devices saved.runs)
  same =
      ap₂ (λ (n : ℕ) (es : List SavedDevice). with_devices saved n es)
      (t_is ∙ ap (raised_time time) (latest_is ∙ ap (λ (es : List SavedDevice). fold max 0 (map (λ (d : SavedDevice). d.details.snapped) es)) ds_are)) ds_are

  pub seen_sound : time < 2 ^ 32 → IsSavedPool saved → IsSavedPool (with_devices saved t ds)
  seen_sound fits sound = subst IsSavedPool (sym same) (saved_seen saved counts time counted fits sound)

  pub seen_is : pool_of (with_devices saved t ds) ≡ seen_pool (timed_pool time (pool_of saved))
  seen_is = ap pool_of same ∙ pool_seen saved counts counted time
