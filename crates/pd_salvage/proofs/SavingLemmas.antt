-- A device more is saved.
use Rattle.std.proofs.Common.{◌≡◌, ℕ, ◌+◌, ◌/◌, ◌%◌, ◌^◌, ◌≤◌, Bool, true, false, cond, not, nat_lt, List, [], ◌∷◌, ◌++◌, length, map, filter, take, drop, Option, Some, None, IfSome, refl, sym, ap, ◌∙◌, arith, append_assoc}
use Rattle.std.specs.List.{AllByRecursion}
use Rattle.std.specs.Option.{option_map, unwrap_or}
use Rattle.std.proofs.lemmas.List.{append-nil, length-append, length-drop, map-append, take-append-le, drop-append-le}
use Rattle.std.proofs.lemmas.List.Sums.{sum_by-append}
use Rattle.std.proofs.lemmas.Option.{IfSome_then}
use Rattle.pd_kinds.specs.declared.superblocks.ThinSuper.{ThinSuper}
use Rattle.pd_kinds.specs.Graph.{is_outside}
use Rattle.pd_kinds.specs.Meaning.{Mapping, ThinDevice}
use Rattle.pd_kinds.specs.Node.{Entry}
use Rattle.pd_kinds.specs.ThinFormat.{mapped_block}
use Rattle.pd_kinds.specs.Trees.{value_of_key}
use Rattle.pd_kinds.specs.Field.{details_code}
use Rattle.pd_kinds.proofs.KindLemmas.{the_mapping}
use Rattle.pd_grammar.specs.Lawful.{AreDevices, AreMappings}
use Rattle.pd_grammar.specs.ThinText.{Part, device_of_part, joined_runs}
use Rattle.pd_laid.specs.Salvage.{salvaged_entries, salvaged_device, salvaged_mappings, salvage_from}
use Rattle.pd_value.specs.declared.thin.BlockTime.{BlockTime}
use Rattle.pd_value.specs.declared.thin.Details.{Details}
use Rattle.pd_value.specs.declared.thin.Root.{Root}
use Rattle.pd_tree.specs.Cursor.{item_of, root_of}
use Rattle.pd_tree.specs.Search.{lookup}
use Rattle.pd_tree.proofs.TreeLemmas.{lookup_entries}
use Rattle.pd_tree.proofs.NextLemmas.{if_both}
use Rattle.pd_meaning_thin.specs.Packed.{runs_from, FitsRun}
use Rattle.pd_meaning_thin.specs.declared.joined.Run.{Run}
use Rattle.pd_meaning_thin.specs.Runs.{block_time_of, details_of, mapping_of, spelled}
use Rattle.pd_salvage.specs.declared.cursor.SavedCursor.{SavedCursor}
use Rattle.pd_salvage.specs.declared.saved.SavedDevice.{SavedDevice}
use Rattle.pd_salvage.specs.declared.saving.LastDevice.{LastDevice}
use Rattle.pd_salvage.specs.declared.saving.Saving.{Saving}
use Rattle.pd_salvage.specs.Cursor.{saved_left, saved_least}
use Rattle.pd_salvage.specs.Details.{IsFoundOr, details_left}
use Rattle.pd_salvage.specs.Gather.{IsGathered, mappings_of_runs, to_come}
use Rattle.pd_salvage.specs.Saved.{IsJoined, IsSavedPool, part_of, parts_of, pool_of, runs_of_devices}
use Rattle.pd_salvage.specs.Saving.{FitLost, FitsDevice, FitsHead, IsSaved, IsSaving, KnowsFrom, SavesDevice, StandsLast, devices_of, entry_of, head_of, lost_details, mappings_at, saved_device, saved_devices, saved_pool}

pub take_all : {X : Type 0} (xs : List X) → take (length xs) xs ≡ xs
take_all [] = refl
take_all {X} (x ∷ xs) = ap (λ (ys : List X). x ∷ ys) (take_all xs)

-- the parts with one device more
pub parts_more : (ds : List SavedDevice) (d : SavedDevice) (runs more : List Run) → runs_of_devices ds ≡ length runs → d.runs ≡ length more
    → parts_of (ds ++ d ∷ []) (runs ++ more) ≡ parts_of ds runs ++ part_of d more ∷ []
parts_more [] d [] more number is =
    rw (is, take_all more) refl
parts_more [] d (r ∷ runs) more number is = absurd (omega arith)
parts_more (e ∷ ds) d runs more number is =
    let whole : e.runs + runs_of_devices ds ≡ length runs = omega (arith, number, sum_by-append (λ (x : SavedDevice). x.runs) (e ∷ []) ds) in
    let rest : runs_of_devices ds ≡ length (drop e.runs runs) = omega (arith, length-drop e.runs runs) in
    rw (take-append-le e.runs runs more (omega arith), drop-append-le e.runs runs more (omega arith))
    (ap (λ (ps : List Part). part_of e (take e.runs runs) ∷ ps) (parts_more ds d (drop e.runs runs) more rest is))

mapping_if : (keeps : Bool) (e : Entry) (items : List (ℕ × BlockTime)) (es : List Entry) → map mapping_of items ≡ map the_mapping es
    → map mapping_of (cond keeps (item_of block_time_of e ∷ items) items) ≡ map the_mapping (cond keeps (e ∷ es) es)
mapping_if true e items es same = ap (λ (ms : List Mapping). the_mapping e ∷ ms) same
mapping_if false e items es same = same

pub mappings_same : (blocks : ℕ) (es : List Entry)
    → map mapping_of (filter (λ (item : ℕ × BlockTime). nat_lt item.1.block blocks) (map (item_of block_time_of) es))
    ≡ map the_mapping (filter (λ (e : Entry). nat_lt (mapped_block e.value) blocks) es)
mappings_same blocks [] = refl
mappings_same blocks (e ∷ es) = mapping_if (nat_lt (mapped_block e.value) blocks) e _ _ (mappings_same blocks es)

-- so are the devices
device_if : (s : ThinSuper) (image : List (List ℕ)) (keeps : Bool) (e : Entry) (items : List (ℕ × Root)) (es : List Entry)
    → map (λ item. salvaged_device s image (entry_of item)) items ≡ map (salvaged_device s image) es
    → map (λ item. salvaged_device s image (entry_of item)) (cond keeps (item_of root_of e ∷ items) items) ≡ map (salvaged_device s image) (cond keeps (e ∷ es) es)
device_if s image true e items es same = ap (λ (ds : List ThinDevice). salvaged_device s image e ∷ ds) same
device_if s image false e items es same = same

pub devices_same : (s : ThinSuper) (image : List (List ℕ)) (es : List Entry)
    → devices_of s image (map (item_of root_of) es) ≡ map (salvaged_device s image) (filter (λ (top : Entry). not (is_outside s.meta_map.blocks top.value)) es)
devices_same s image [] = refl
devices_same s image (e ∷ es) = device_if s image (not (is_outside s.meta_map.blocks e.value)) e _ _ (devices_same s image es)

-- the details of a device, as a number
pub record AreDetails (details : Details) (number : ℕ) : Type 0 where
  pub transaction : details.transaction ≡ number / 2 ^ 64 % 2 ^ 64
  pub created : details.created ≡ number / 2 ^ 128 % 2 ^ 32
  pub snapped : details.snapped ≡ number / 2 ^ 160

pub details_are : (transaction time : ℕ) (details : Details) (number : Option ℕ) → FitLost transaction time
    → details ≡ unwrap_or (option_map details_of number) (lost_details transaction time) → AreDetails details (unwrap_or number (details_code 0 transaction time time))
details_are transaction time details None fits is =
    let transaction_fits = fits.transaction_fits in
    let time_fits = fits.time_fits in
    rw is (record { transaction = omega arith; created = omega arith; snapped = omega arith })
details_are transaction time details (Some number) fits is = rw is (record { transaction = refl; created = refl; snapped = refl })

-- a device that was saved is the one that is given
module _ (s : ThinSuper) (image : List (List ℕ)) (id root mapped : ℕ) (details : Details) (given_runs : List Run) where
  pub device_is : FitLost s.transaction s.time
      → details ≡ unwrap_or (lookup id (map (item_of details_of) (salvaged_entries 24 s.meta_map.blocks image s.details_root))) (lost_details s.transaction s.time)
      → mapped ≡ length (mappings_of_runs given_runs)
      → mappings_of_runs given_runs ≡ map mapping_of (filter (λ (item : ℕ × BlockTime). nat_lt item.1.block s.data_map.blocks) (map (item_of block_time_of) (salvaged_entries 8 s.meta_map.blocks image root)))
      → device_of_part (part_of (saved_device id details mapped (length given_runs)) given_runs) ≡ salvaged_device s image (record { key = id; value = root })
  unfolding salvaged_device salvaged_mappings
  device_is fits chosen counted written =
      let entries = salvaged_entries 24 s.meta_map.blocks image s.details_root in
      let number = value_of_key entries id in
      let are = details_are s.transaction s.time details number fits (chosen ∙ ap (λ (o : Option Details). unwrap_or o (lost_details s.transaction s.time)) (lookup_entries details_of id entries)) in
      let mappings = written ∙ mappings_same s.data_map.blocks (salvaged_entries 8 s.meta_map.blocks image root) in
      rw (counted, mappings, are.transaction, are.created, are.snapped) refl

-- the devices with one more
module _ (blocks least : ℕ) (ds : List SavedDevice) (runs new given_runs : List Run) (d : SavedDevice) (is : runs_of_devices ds ≡ length runs) (here : d.runs ≡ length given_runs)
    (pushed : new ≡ runs ++ given_runs) where
  pub devices_more : saved_devices (ds ++ d ∷ []) new ≡ saved_devices ds runs ++ device_of_part (part_of d given_runs) ∷ []
  devices_more = rw (pushed, parts_more ds d runs given_runs is here) (map-append device_of_part (parts_of ds runs) (part_of d given_runs ∷ []))

  all_more : (ps : List Part) (p : Part) → AllByRecursion IsJoined ps → IsJoined p → AllByRecursion IsJoined (ps ++ p ∷ [])
  all_more [] p all last = (last, tt)
  all_more (q ∷ ps) p all last = (all.0, all_more ps p all.1 last)

  pub saving_more : IsSaving blocks least ds runs → FitsDevice d → least ≤ d.id → d.details.mapped ≡ length (mappings_of_runs given_runs)
      → joined_runs (mappings_of_runs given_runs) ≡ map spelled given_runs → AreMappings blocks 0 (mappings_of_runs given_runs)
      → IsSaving blocks (d.id + 1) (ds ++ d ∷ []) new
  saving_more saving fits from counted joined lawful =
      let number = saving.number in
      record {
        lawful = λ rest are.
            rw (devices_more, append_assoc (saved_devices ds runs) (device_of_part (part_of d given_runs) ∷ []) rest)
            (saving.lawful (device_of_part (part_of d given_runs) ∷ rest) (
              record {
                above = from;
                id_fits = fits.id;
                mapped = counted;
                mapped_fits = fits.mapped;
                transaction_fits = fits.transaction;
                created_fits = fits.created;
                snapped_fits = fits.snapped;
                mappings = lawful;
              },
              are,
            ));
        joined = rw (pushed, parts_more ds d runs given_runs is here) (all_more (parts_of ds runs) (part_of d given_runs) saving.joined joined);
        number = rw pushed (sum_by-append (λ (e : SavedDevice). e.runs) ds (d ∷ []) ∙ sums (length-append runs given_runs));
      }
    where
      sums : length (runs ++ given_runs) ≡ length runs + length given_runs → runs_of_devices ds + runs_of_devices (d ∷ []) ≡ length (runs ++ given_runs)
      sums both = omega arith

-- what a loop over devices keeps, where the device tells: the details of ids that are left can be found, and the
-- devices that were saved and those that are left are all
pub record Saves (s : ThinSuper) (image : List (List ℕ)) (saving : Saving) : Type 0 where
  pub knows : KnowsFrom (saved_least saving.tops) image saving
  pub all : saved_devices saving.devices.items saving.runs ++ devices_of s image (saved_left 8 root_of image saving.tops)
      ≡ devices_of s image (map (item_of root_of) (salvaged_entries 8 s.meta_map.blocks image s.mapping_root))

-- one device more was saved
module _ (held : Option (List (List ℕ))) (id root mapped runs : ℕ) (details : Details) (old new : Saving)
    (small : FitLost old.s.transaction old.s.time) (same : new.s ≡ old.s)
    (found : IfSome held (λ image. IsFoundOr (lost_details old.s.transaction old.s.time) id details (details_left image old.details) (details_left image new.details)))
    (gathered : IsGathered old.s.data_map.blocks 0 mapped held (λ image. mappings_at old.s image root) old.runs new.runs)
    (number : runs ≡ length gathered.given)
    (added : new.devices.items ≡ old.devices.items ++ saved_device id details mapped runs ∷ [])
    (fits : FitsDevice (saved_device id details mapped runs)) where
  pub saves_device : SavesDevice held id root old new
  saves_device = record {
    lawful = λ least from saving.
        rw added
        (saving_more old.s.data_map.blocks least old.devices.items old.runs new.runs gathered.given (saved_device id details mapped runs) saving.number number gathered.runs_are
        saving fits from gathered.number gathered.joined gathered.lawful);
    told =
        if_both held
        (λ image held_is (is_found : IsFoundOr (lost_details old.s.transaction old.s.time) id details (details_left image old.details) (details_left image new.details)) (all : mappings_of_runs gathered.given ≡ mappings_at old.s image root). λ least from knows count. (
          λ key after. is_found.later key (omega arith) ∙ (rw same (knows key (omega arith))),
          rw added
              (devices_more old.s.data_map.blocks least old.devices.items old.runs new.runs gathered.given (saved_device id details mapped runs) count number gathered.runs_are
              ∙ ap (λ (d : ThinDevice). saved_devices old.devices.items old.runs ++ d ∷ [])
              (device_is old.s image id root mapped details gathered.given small
              (is_found.here ∙ ap (λ (o : Option Details). unwrap_or o (lost_details old.s.transaction old.s.time)) (knows id from))
              gathered.number
              all)),
        ))
        found gathered.told;
  }

-- the runs of a tree that was gathered
pub gathered_tree : (held : Option (List (List ℕ))) (s : ThinSuper) (root low mapped : ℕ) (cursor : SavedCursor BlockTime) (before runs : List Run)
    → ((image : List (List ℕ)) → saved_left 8 block_time_of image cursor ≡ map (item_of block_time_of) (salvaged_entries 8 s.meta_map.blocks image root)) → low ≡ 0
    → IsGathered s.data_map.blocks low mapped held (λ image. to_come s.data_map.blocks image cursor) before runs
    → IsGathered s.data_map.blocks 0 mapped held (λ image. mappings_at s image root) before runs
gathered_tree held s root low mapped cursor before runs left zero gathered = record {
  given = gathered.given;
  runs_are = gathered.runs_are;
  joined = gathered.joined;
  number = gathered.number;
  lawful = rw zero at gathered.lawful;
  told =
      IfSome_then held gathered.told
      (λ image all. all ∙ ap (λ (items : List (ℕ × BlockTime)). map mapping_of (filter (λ (item : ℕ × BlockTime). nat_lt item.1.block s.data_map.blocks) items)) (left image));
}

-- the last of some runs fit where all do
last_fit : (before given : List Run) → AllByRecursion FitsRun (before ++ given) → AllByRecursion FitsRun given
last_fit [] given fit = fit
last_fit (run ∷ before) given fit = last_fit before given fit.1

-- the runs of the device that was saved last, once more
pub gathered_again : (held : Option (List (List ℕ))) (s : ThinSuper) (last : LastDevice) (runs new : List Run) → StandsLast held s last runs → AllByRecursion FitsRun runs → new ≡ runs ++ runs_from runs last.place
    → IsGathered s.data_map.blocks 0 last.mappings held (λ image. mappings_at s image last.root) runs new
gathered_again held s last runs new stands fit is =
    let gathered = stands.gathered in
    let read : runs_from (stands.before ++ gathered.given) last.place ≡ gathered.given = stands.is_end gathered.given (last_fit stands.before gathered.given (rw gathered.runs_are at fit)) in
    record {
      given = gathered.given;
      runs_are = is ∙ ap (λ (more : List Run). runs ++ more) (ap (λ (all : List Run). runs_from all last.place) gathered.runs_are ∙ read);
      joined = gathered.joined;
      number = gathered.number;
      lawful = gathered.lawful;
      told = gathered.told;
    }

-- devices that may come later
later_devices : (blocks low least : ℕ) (ds : List ThinDevice) → low ≤ least → AreDevices blocks least ds → AreDevices blocks low ds
later_devices blocks low least [] below are = tt
later_devices blocks low least (d ∷ ds) below are =
    let above = are.0.above in (
      record {
        above = omega arith;
        id_fits = are.0.id_fits;
        mapped = are.0.mapped;
        mapped_fits = are.0.mapped_fits;
        transaction_fits = are.0.transaction_fits;
        created_fits = are.0.created_fits;
        snapped_fits = are.0.snapped_fits;
        mappings = are.0.mappings;
      },
      are.1,
    )

-- the device that comes next, and one that is left out
devices_next : (s : ThinSuper) (image : List (List ℕ)) (id root : ℕ) (left later : List (ℕ × Root)) → left ≡ (id, root_of root) ∷ later → is_outside s.meta_map.blocks root ≡ false
    → devices_of s image left ≡ salvaged_device s image (record { key = id; value = root }) ∷ devices_of s image later
devices_next s image id root left later is inside = rw (is, inside) refl

devices_skip : (s : ThinSuper) (image : List (List ℕ)) (id root : ℕ) (left later : List (ℕ × Root)) → left ≡ (id, root_of root) ∷ later → is_outside s.meta_map.blocks root ≡ true
    → devices_of s image left ≡ devices_of s image later
devices_skip s image id root left later is outside = rw (is, outside) refl

module _ (held : Option (List (List ℕ))) (id root : ℕ) (old new : Saving) (tops : SavedCursor Root) (from : saved_least old.tops ≤ id) (step : saved_least tops ≡ id + 1)
    (next : IfSome held (λ image. saved_left 8 root_of image old.tops ≡ (id, root_of root) ∷ saved_left 8 root_of image tops))
    (saving : IsSaving old.s.data_map.blocks (saved_least old.tops) old.devices.items old.runs)
    (told : IfSome held (λ image. Saves old.s image old)) where
  module _ (same : new.s ≡ old.s) (same_tops : new.tops ≡ tops) (inside : is_outside old.s.meta_map.blocks root ≡ false) (saves : SavesDevice held id root (record old { tops = tops }) new) where
    pub one_sound : IsSaving new.s.data_map.blocks (saved_least new.tops) new.devices.items new.runs
    one_sound = rw (same, same_tops, step) (saves.lawful (saved_least old.tops) from saving)

    one_all : (image : List (List ℕ)) → saved_left 8 root_of image old.tops ≡ (id, root_of root) ∷ saved_left 8 root_of image tops → Saves old.s image old
        → saved_devices new.devices.items new.runs ≡ saved_devices old.devices.items old.runs ++ salvaged_device old.s image (record { key = id; value = root }) ∷ []
        → saved_devices new.devices.items new.runs ++ devices_of new.s image (saved_left 8 root_of image new.tops)
        ≡ devices_of new.s image (map (item_of root_of) (salvaged_entries 8 new.s.meta_map.blocks image new.s.mapping_root))
    one_all image comes is more =
        rw (
          same,
          same_tops,
          more,
          append_assoc (saved_devices old.devices.items old.runs) (salvaged_device old.s image (record { key = id; value = root }) ∷ []) (devices_of old.s image (saved_left 8 root_of image tops)),
          ← devices_next old.s image id root (saved_left 8 root_of image old.tops) (saved_left 8 root_of image tops) comes inside,
        )
        is.all

    abbrev Comes : List (List ℕ) → Type 0
    Comes image = (saved_left 8 root_of image old.tops ≡ (id, root_of root) ∷ saved_left 8 root_of image tops) × Saves old.s image old

    pub one_told : IfSome held (λ image. Saves new.s image new)
    one_told =
        if_both held
        (λ image held_is (both : Comes image) gives.
        let more = gives (saved_least old.tops) from both.1.knows saving.number in
        record { knows = rw (same_tops, step) more.0; all = one_all image both.0 both.1 more.1 })
        (if_both {R = Comes} held (λ image held_is comes is. (comes, is)) next told) saves.told

  module _ (outside : is_outside old.s.meta_map.blocks root ≡ true) where
    pub skipped_sound : IsSaving old.s.data_map.blocks (saved_least tops) old.devices.items old.runs
    skipped_sound = record {
      lawful = λ rest are. saving.lawful rest (later_devices old.s.data_map.blocks (saved_least old.tops) (saved_least tops) rest (omega arith) are);
      joined = saving.joined;
      number = saving.number;
    }

    pub skipped_told : IfSome held (λ image. Saves old.s image (record old { tops = tops }))
    skipped_told =
        if_both held
        (λ image held_is comes is. record {
          knows = λ key after. is.knows key (omega arith);
          all =
              ap (λ (ds : List ThinDevice). saved_devices old.devices.items old.runs ++ ds)
              (sym (devices_skip old.s image id root (saved_left 8 root_of image old.tops) (saved_left 8 root_of image tops) comes outside))
              ∙ is.all;
        })
        next told

-- in the end the devices and runs are lawful, and those that are given
pub all_sound : (blocks least : ℕ) (ds : List SavedDevice) (runs : List Run) → IsSaving blocks least ds runs → IsSaved blocks ds runs
all_sound blocks least ds runs saving = record {
  lawful = rw (append-nil (saved_devices ds runs)) at (saving.lawful [] tt);
  joined = saving.joined;
  number = saving.number;
}

pub all_saved : (s : ThinSuper) (image : List (List ℕ)) (saving : Saving) → Saves s image saving → saved_left 8 root_of image saving.tops ≡ []
    → pool_of (record { head = head_of s; devices = saving.devices.items; runs = saving.runs }) ≡ salvage_from s image
unfolding pool_of salvage_from
all_saved s image saving is none =
    let devices : saved_devices saving.devices.items saving.runs ≡ devices_of s image (map (item_of root_of) (salvaged_entries 8 s.meta_map.blocks image s.mapping_root)) =
    sym (append-nil (saved_devices saving.devices.items saving.runs)) ∙ (rw none at is.all) in
    rw (devices, devices_same s image (salvaged_entries 8 s.meta_map.blocks image s.mapping_root)) refl

abbrev SavedEnds : SavedCursor Root → SavedCursor Root → List (List ℕ) → Type 0
SavedEnds old new image = (saved_left 8 root_of image old ≡ []) × (saved_left 8 root_of image new ≡ [])

pub all_told : (held : Option (List (List ℕ))) (saving : Saving) (tops : SavedCursor Root) → IfSome held (λ image. Saves saving.s image saving) → IfSome held (SavedEnds saving.tops tops)
    → IfSome held (λ image. pool_of (record { head = head_of saving.s; devices = saving.devices.items; runs = saving.runs }) ≡ salvage_from saving.s image)
all_told held saving tops told ends =
    if_both held (λ image held_is is (none : SavedEnds saving.tops tops image). all_saved saving.s image saving is none.0) told ends

-- what was saved is a lawful pool
pub saved_is : (saving : Saving) → saving.s.data_map.blocks ≤ 2 ^ 40 → IsSaved saving.s.data_map.blocks saving.devices.items saving.runs → FitsHead (head_of saving.s)
    → IsSavedPool (saved_pool saving)
unfolding pool_of
saved_is saving few sound fits = record {
  lawful = record {
    uuid_len = fits.uuid_len;
    uuid_bytes = fits.uuid_bytes;
    time_fits = fits.time;
    transaction_fits = fits.transaction;
    block_size_fits = fits.block_size;
    data_blocks_fit = few;
    devices = sound.lawful;
  };
  joined = sound.joined;
  number = sound.number;
}
