-- The meaning of a pool without faults is lawful: its numbers fit, and its ids and virtual blocks ascend.
use Rattle.std.proofs.Common.{◌≡◌, ℕ, ◌^◌, ◌<◌, ◌≤◌, Bool, true, false, not, ◌&&◌, ◌||◌, nat_eq, List, [], ◌∷◌, length, refl, eq-eqb, zero, suc, ◌+◌, ◌*◌, ◌-◌, get_or, drop, map, arith, inl, inr, min}
use Rattle.std.specs.Str.{bytes_eq}
use Rattle.std.proofs.lemmas.Bool.{or_parts, not-false, cases_Bool, and_parts, eqb-true}
use Rattle.std.proofs.lemmas.Slice.Eq.{bytes_eq-Decides}
use Rattle.std.specs.List.{All, AllByRecursion, flat_map, range_with_len}
use Rattle.std.proofs.lemmas.List.{get_or-drop, get_or-take, get_or_default, length-drop, length-take-le}
use Rattle.pd_kinds.specs.declared.kind.Kind.TheVariants.{Thin}
use Rattle.pd_kinds.specs.declared.rule.Rule.{Rule}
use Rattle.pd_kinds.specs.Rule.{same_rule}
use Rattle.pd_kinds.specs.Graph.{Graph, block_at}
use Rattle.pd_kinds.specs.Stages.{HasCleanSuper, faults, thin_checked}
use Rattle.pd_kinds.specs.ThinFormat.{thin_graph, thin_fields}
use Rattle.pd_kinds.specs.Trees.{keys_of}
use Rattle.pd_kinds.specs.Whole.{WholeTest, bitmap_tests, details_entries, device_test, thin_roots, thin_whole, top_entries, whole_bad}
use Rattle.pd_kinds.proofs.KindsListLemmas.{none_last}
use Rattle.pd_kinds.proofs.NumberLemmas.{first_not}
use Rattle.pd_kinds.proofs.CleanLemmas.{clean_super_where_none, whole_where_none}
use Rattle.pd_kinds.proofs.ThinTable.{few_data_blocks, super_sound}
use Rattle.pd_kinds.specs.Field.{bytes_at}
use Rattle.pd_kinds.specs.Node.{entry_count, is_inner_node, key_at, value_at}
use Rattle.pd_kinds.specs.Meaning.{Mapping, ThinDevice, thin_meaning}
use Rattle.pd_kinds.proofs.FieldLemmas.{le-lt}
use Rattle.pd_kinds.proofs.ListLemmas.{all_append, all_flat_map, all_from_two, all_map, all_mapped, all_of}
use Rattle.pd_kinds.specs.Image.{HasBytes}
use Rattle.pd_kinds.specs.declared.kind.Stage.TheVariants as stages
use Rattle.pd_kinds.specs.declared.rule.Rule.TheVariants as r
use Rattle.pd_grammar.specs.Lawful.{AreDevices, AreMappings, IsLawfulPool}
use Rattle.pd_grammar.specs.ThinText.{Run, with_mapping, joined_runs, follows}
use Rattle.pd_laid.specs.Salvage.{salvaged_device, salvage, salvage_from}
use Rattle.pd_value.specs.declared.thin.BlockTime.{BlockTime}
use Rattle.pd_value.specs.declared.thin.Details.{Details}
use Rattle.pd_value.specs.declared.thin.Root.{Root}
use Rattle.pd_tree.specs.Below.{gather, items_below, items_from, kids_from}
use Rattle.pd_tree.specs.Cursor.{root_of}
use Rattle.pd_meaning_thin.specs.declared.devices.DeviceRow.{DeviceRow}
use Rattle.pd_meaning_thin.specs.Given.{BlocksFrom, GivesPool, IdsFrom, device_of, pool_rows}
use Rattle.pd_meaning_thin.specs.Runs.{block_time_of, details_of, mapping_of, mappings_below, run_of, spelled, given_runs}
use Rattle.pd_meaning_thin.proofs.RowLemmas.{all_rows}

-- What is known of a pool's superblock that breaks no rule, and of a pool whose two trees have the same devices.

-- what is known of the sizes
pub record HasSizes (image : List (List ℕ)) : Type 0 where
  pub within : (thin_fields (block_at image 0)).meta_map.blocks ≤ length image
  pub few : (thin_fields (block_at image 0)).data_map.blocks ≤ 2 ^ 40

sizes_if_clean : (image : List (List ℕ)) → HasCleanSuper (thin_checked image) image → HasSizes image
unfolding thin_checked
sizes_if_clean [] clean = absurd clean
sizes_if_clean (block ∷ blocks) clean = record {
  within = (super_sound (length (block ∷ blocks)) block clean).within;
  few = few_data_blocks (length (block ∷ blocks)) block clean;
}

pub sizes : (image : List (List ℕ)) → faults Thin stages.Whole image ≡ [] → HasSizes image
unfolding faults
sizes image none = sizes_if_clean image (clean_super_where_none (thin_checked image) image (stages.Walk ∷ stages.Order ∷ stages.Whole ∷ []) none)

-- no test of the whole image fails: so the two trees of the superblock have the same keys
module _ (graph : Graph) (image : List (List ℕ))
    (whole : (b : ℕ) (broken : Rule) → b < graph.nr → whole_bad (thin_whole graph image) b broken ≡ false) where
  abbrev root : ℕ
  root = (thin_fields (block_at image 0)).details_root

  abbrev details_keys : List ℕ
  details_keys = keys_of (details_entries graph image root)

  abbrev top_keys : List ℕ
  top_keys = keys_of (top_entries graph image (thin_fields (block_at image 0)).mapping_root)

  same_if : root < graph.nr → details_keys ≡ top_keys
  unfolding whole_bad thin_whole thin_roots device_test
  same_if within =
      let p : WholeTest → Bool = λ t. t.fails && (nat_eq t.block root && same_rule t.rule r.Device) in
      let none = (or_parts _ _ (whole root r.Device within)).1 in
      let later = none_last p (bitmap_tests graph image (λ role. nat_eq role 6 || nat_eq role 9)) _ none in
      let first = (or_parts _ _ later).0 in
      let here : (nat_eq root root && same_rule r.Device r.Device) ≡ true = rw (eq-eqb root root refl) refl in
      let fails = first_not (not (bytes_eq details_keys top_keys)) (nat_eq root root && same_rule r.Device r.Device) here first in
      (bytes_eq-Decides details_keys top_keys).0 (not-false (bytes_eq details_keys top_keys) fails)

pub same_keys : (image : List (List ℕ)) → faults Thin stages.Whole image ≡ [] → (thin_fields (block_at image 0)).details_root < (thin_graph (block_at image 0)).nr
    → keys_of (details_entries (thin_graph (block_at image 0)) image (thin_fields (block_at image 0)).details_root)
    ≡ keys_of (top_entries (thin_graph (block_at image 0)) image (thin_fields (block_at image 0)).mapping_root)
unfolding faults thin_checked
same_keys image none within = same_if (thin_graph (block_at image 0)) image (λ b broken below. whole_where_none (thin_checked image) image [] none b broken below) within

-- what holds of all keys and values that bytes can have holds of all entries
module _ {X : Type 0} (P : ℕ × X → Type 0) (size : ℕ) (decoded : ℕ → X) (image : List (List ℕ)) (bytes : HasBytes image)
    (each : (key value : ℕ) → key < 2 ^ 64 → value < 256 ^ size → P (key, decoded value)) where
  abbrev here : ℕ → List (ℕ × X)
  here b = items_from size decoded (block_at image b) 0

  abbrev down : ℕ → List ℕ
  down b = kids_from size (block_at image b) 0

  node_fits : (inner : Bool) (b : ℕ) → is_inner_node (block_at image b) ≡ inner → AllByRecursion P (here b)
  unfolding items_from
  node_fits true b inner = rw inner tt
  node_fits false b leaf =
      rw leaf
      (all_map (λ i. (key_at (block_at image b) i, decoded (value_at size (block_at image b) i))) P
      (λ i.
      each (key_at (block_at image b) i) (value_at size (block_at image b) i)
      (le-lt (block_at image b) (32 + 8 * i) 8 (bytes b)) (le-lt (block_at image b) _ size (bytes b)))
      (range_with_len 0 (entry_count size (block_at image b) - 0)))

  all_fit : (j b : ℕ) → AllByRecursion P (gather here down j b)
  unfolding gather
  all_fit zero b = node_fits (is_inner_node (block_at image b)) b refl
  all_fit (suc j) b =
      all_append P (here b) (flat_map (gather here down j) (down b)) (node_fits (is_inner_node (block_at image b)) b refl)
      (all_flat_map (gather here down j) P (down b) (all_of (λ c. AllByRecursion P (gather here down j c)) (all_fit j) (down b)))

  items_fit : (b : ℕ) → AllByRecursion P (items_below size decoded image 63 b)
  unfolding items_below
  items_fit b = all_fit 63 b

-- numbers that fit their places
record RowFits (row : DeviceRow) : Type 0 where
  pub id : row.id < 2 ^ 64
  pub mapped : row.details.mapped < 2 ^ 64
  pub transaction : row.details.transaction < 2 ^ 64
  pub created : row.details.created < 2 ^ 32
  pub snapped : row.details.snapped < 2 ^ 32

record DetailsFit (item : ℕ × Details) : Type 0 where
  pub mapped : item.1.mapped < 2 ^ 64
  pub transaction : item.1.transaction < 2 ^ 64
  pub created : item.1.created < 2 ^ 32
  pub snapped : item.1.snapped < 2 ^ 32

record MappingFits (m : Mapping) : Type 0 where
  pub virtual : m.virtual_block < 2 ^ 64
  pub time : m.time < 2 ^ 24

-- mappings whose virtual blocks ascend
mappings_lawful : (blocks least : ℕ) (ms : List Mapping) → BlocksFrom least ms → AllByRecursion (λ (m : Mapping). m.data_block < blocks) ms → AllByRecursion MappingFits ms → AreMappings blocks least ms
mappings_lawful blocks least [] from within fit = tt
mappings_lawful blocks least (m ∷ ms) from within fit =
    (record { above = from.0; virtual_fits = fit.0.virtual; within = within.0; time_fits = fit.0.time }, mappings_lawful blocks (m.virtual_block + 1) ms from.1 within.1 fit.1)

-- what is known of a device and of its mappings
record RowIs (image : List (List ℕ)) (blocks : ℕ) (row : DeviceRow) : Type 0 where
  pub fits : RowFits row
  pub mappings : AreMappings blocks 0 (mappings_below image row.root)

devices_lawful : (image : List (List ℕ)) (blocks least : ℕ) (rows : List DeviceRow) → IdsFrom least rows → AllByRecursion (RowIs image blocks) rows
    → AllByRecursion (λ (d : ThinDevice). d.mapped ≡ length d.mappings) (map (device_of image) rows) → AreDevices blocks least (map (device_of image) rows)
devices_lawful image blocks least [] from are counted = tt
devices_lawful image blocks least (row ∷ rows) from are counted = (
  record {
    above = from.0;
    id_fits = are.0.fits.id;
    mapped = counted.0;
    mapped_fits = are.0.fits.mapped;
    transaction_fits = are.0.fits.transaction;
    created_fits = are.0.fits.created;
    snapped_fits = are.0.fits.snapped;
    mappings = are.0.mappings;
  },
  devices_lawful image blocks (row.id + 1) rows from.1 are.1 counted.1,
)

-- each device of a pool has as many mappings as its number says, since that number is counted where the pool is saved
counted_saved : (image : List (List ℕ)) → AllByRecursion (λ (d : ThinDevice). d.mapped ≡ length d.mappings) (salvage image).devices
unfolding salvage_from salvaged_device
counted_saved image = all_map (salvaged_device (thin_fields (block_at image 0)) image) (λ (d : ThinDevice). d.mapped ≡ length d.mappings) (λ top. refl) _

-- details of a number of 24 bytes
details_fit : (key value : ℕ) → key < 2 ^ 64 → value < 256 ^ 24 → DetailsFit (key, details_of value)
details_fit key value small below = record { mapped = omega arith; transaction = omega arith; created = omega arith; snapped = omega arith }

mapping_fits : (key value : ℕ) → key < 2 ^ 64 → value < 256 ^ 8 → MappingFits (mapping_of (key, block_time_of value))
mapping_fits key value small below = record { virtual = small; time = omega arith }

-- a field of sixteen bytes
uuid_lawful : (block : List ℕ) → ((i : ℕ) → get_or block i 0 < 256) → length block ≡ 4096 → (length (bytes_at block 16 16) ≡ 16) × All (λ b. b < 256) (bytes_at block 16 16)
uuid_lawful block bytes whole =
    let rest : length (drop 16 block) ≡ 4080 = omega (arith, length-drop 16 block) in
    let number = length-take-le 16 (drop 16 block) (omega arith) in (
      number,
      λ k d within.
          let small : k < 16 = omega arith in
          let from : 16 + k < length block = omega arith in
          rw (get_or-take 16 (drop 16 block) k d small, get_or-drop 16 block k d, get_or_default block (16 + k) d 0 from) (bytes (16 + k)),
    )

first_whole : (image : List (List ℕ)) (n : ℕ) → n < length image → All (λ block. length block ≡ 4096) image → length (block_at image 0) ≡ 4096
first_whole [] n within whole = absurd (omega arith)
first_whole (block ∷ blocks) n within whole = whole 0 [] (omega arith)

module _ (image : List (List ℕ)) (bytes : HasBytes image) (gives : GivesPool image) where
  abbrev block : List ℕ
  block = block_at image 0

  abbrev data_blocks : ℕ
  data_blocks = (thin_fields block).data_map.blocks

  rows_fit : AllByRecursion RowFits (pool_rows image)
  rows_fit =
      all_rows (λ (top : ℕ × Root). top.0 < 2 ^ 64) DetailsFit RowFits
      (λ top item id fits. record { id = id; mapped = fits.mapped; transaction = fits.transaction; created = fits.created; snapped = fits.snapped })
      (items_below 8 root_of image 63 (thin_fields block).mapping_root) (items_below 24 details_of image 63 (thin_fields block).details_root)
      (items_fit (λ (top : ℕ × Root). top.0 < 2 ^ 64) 8 root_of image bytes (λ key value small below. small) (thin_fields block).mapping_root)
      (items_fit DetailsFit 24 details_of image bytes details_fit (thin_fields block).details_root)

  mappings_fit : (root : ℕ) → AllByRecursion MappingFits (mappings_below image root)
  mappings_fit root =
      all_mapped mapping_of MappingFits (items_below 8 block_time_of image 63 root)
      (items_fit (λ (item : ℕ × BlockTime). MappingFits (mapping_of item)) 8 block_time_of image bytes mapping_fits root)

  -- what is known of the mappings of each row
  abbrev Within : DeviceRow → Type 0
  Within row = AllByRecursion (λ (m : Mapping). m.data_block < data_blocks) (mappings_below image row.root)

  abbrev Ascends : DeviceRow → Type 0
  Ascends row = BlocksFrom 0 (mappings_below image row.root)

  rows_are : AllByRecursion (RowIs image data_blocks) (pool_rows image)
  rows_are =
      all_from_two RowFits (λ row. Within row × Ascends row) (RowIs image data_blocks)
      (λ row fits is. record { fits = fits; mappings = mappings_lawful data_blocks 0 (mappings_below image row.root) is.1 is.0 (mappings_fit row.root) })
      (pool_rows image) rows_fit
      (all_from_two Within Ascends (λ row. Within row × Ascends row) (λ row within ascends. (within, ascends)) (pool_rows image) gives.within gives.blocks)

  pub pool_lawful : HasSizes image → All (λ block. length block ≡ 4096) image → salvage image ≡ thin_meaning image → IsLawfulPool (thin_meaning image)
  unfolding thin_meaning
  pool_lawful sizes whole saved =
      let uuid = uuid_lawful block (bytes 0) (first_whole image (thin_fields block).mapping_root gives.mapping_root whole) in
      let counted = rw gives.devices at (rw saved at (counted_saved image)) in
      record {
        uuid_len = uuid.0;
        uuid_bytes = uuid.1;
        time_fits = le-lt block 44 4 (bytes 0);
        transaction_fits = le-lt block 48 8 (bytes 0);
        block_size_fits = le-lt block 336 4 (bytes 0);
        data_blocks_fit = sizes.few;
        devices = rw gives.devices (devices_lawful image data_blocks 0 (pool_rows image) gives.ids rows_are counted);
      }

-- Runs of mappings to data blocks below a number.

-- the data blocks of a run are below the number
abbrev IsBelow : ℕ → Run → Type 0
IsBelow blocks r = r.data_block + r.length ≤ blocks

with_mapping_below : (blocks : ℕ) (m : Mapping) (rs : List Run) → m.data_block < blocks → AllByRecursion (IsBelow blocks) rs → AllByRecursion (IsBelow blocks) (with_mapping m rs)
with_mapping_below blocks m [] below all = (omega arith, tt)
with_mapping_below blocks m (r ∷ rs) below all = elim (cases_Bool (follows m r)) [
  | inl joins ↦
      let others = and_parts (nat_eq (m.virtual_block + 1) r.virtual_block) (nat_eq (m.data_block + 1) r.data_block && nat_eq m.time r.time) joins in
      let data_next = eqb-true (m.data_block + 1) r.data_block (and_parts (nat_eq (m.data_block + 1) r.data_block) (nat_eq m.time r.time) others.1).0 in
      let first = all.0 in
      let longer : m.data_block + suc r.length ≤ blocks = omega arith in
      rw joins (longer, all.1)
  | inr apart ↦ let one : m.data_block + 1 ≤ blocks = omega arith in rw apart (one, all)
]

runs_below : (blocks : ℕ) (ms : List Mapping) → AllByRecursion (λ (m : Mapping). m.data_block < blocks) ms → AllByRecursion (IsBelow blocks) (joined_runs ms)
runs_below blocks [] all = tt
runs_below blocks (m ∷ ms) all = with_mapping_below blocks m (joined_runs ms) all.0 (runs_below blocks ms all.1)

-- a length that fits its type is given as it is
spelled_run : (blocks : ℕ) (r : Run) → blocks ≤ 2 ^ 40 → IsBelow blocks r → spelled (run_of r) ≡ r
spelled_run blocks r few below =
    let fits : min r.length (2 ^ 64 - 1) ≡ r.length = omega arith in
    rw fits refl

spelled_runs : (blocks : ℕ) (rs : List Run) → blocks ≤ 2 ^ 40 → AllByRecursion (IsBelow blocks) rs → map spelled (map run_of rs) ≡ rs
spelled_runs blocks [] few all = refl
spelled_runs blocks (r ∷ rs) few all = rw (spelled_run blocks r few all.0, spelled_runs blocks rs few all.1) refl

-- so are the runs of mappings to data blocks below the number
pub spelled_given : (blocks : ℕ) (ms : List Mapping) → blocks ≤ 2 ^ 40 → AllByRecursion (λ (m : Mapping). m.data_block < blocks) ms
    → map spelled (given_runs ms) ≡ joined_runs ms
spelled_given blocks ms few all = spelled_runs blocks (joined_runs ms) few (runs_below blocks ms all)
