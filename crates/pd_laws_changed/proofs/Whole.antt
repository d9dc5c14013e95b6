-- The rules of the whole pool, its stored counts and what it means are the same in two images that are alike, where no reached
-- pair is out of order.
use Rattle.std.proofs.Common.{◌≡◌, ℕ, suc, ◌<◌, nat_eq, ◌==◌, ◌||◌, not, cond, List, [], ◌∷◌, ◌++◌, map, filter, length, ap, ap₂, ◌∙◌, arith}
use Rattle.std.specs.List.{AllByRecursion, flat_map}
use Rattle.std.specs.Str.{bytes_eq}
use Rattle.pd_kinds.specs.declared.kind.Kind.TheVariants.{Thin}
use Rattle.pd_kinds.specs.Bitmap.{bitmaps_for}
use Rattle.pd_kinds.specs.Graph.{Graph, block_at}
use Rattle.pd_kinds.specs.Layout.{graph_of}
use Rattle.pd_kinds.specs.Meaning.{ThinDevice, thin_device, thin_meaning}
use Rattle.pd_kinds.specs.Node.{Entry}
use Rattle.pd_kinds.specs.Stages.{IsReached}
use Rattle.pd_kinds.specs.ThinFormat.{thin_graph, mapped_block, mapped_time, ThinFields, thin_fields}
use Rattle.pd_kinds.specs.Trees.{entries_below, keys_of, stored_data_in, stored_meta_in}
use Rattle.pd_kinds.specs.Whole.{Roots, WholeTest, data_index_entries, details_entries, device_test, is_not_counting, mapped_number, mapped_tests, mapping_entries, roots_in, thin_roots, thin_whole, top_entries}
use Rattle.pd_kinds.proofs.ListLemmas.{all_from}
use Rattle.pd_kinds.specs.declared.rule.Rule.TheVariants as r
use Rattle.pd_laid.proofs.GatherLemmas.{same_each}
use Rattle.pd_laid.proofs.SalvageLemmas.{same_made}
use Rattle.pd_laws_changed.specs.Known.{AreAlike}
use Rattle.pd_laws_changed.specs.KnownPool.{IsKnown}
use Rattle.pd_laws_changed.proofs.Seen.{entries_are, bitmaps_are}
use Rattle.pd_laws_changed.proofs.Pools.{stored_data_is, stored_meta_is, bytes_same, rest, same, AreReached, has_sum, reached_behind, roots_reached, fields_are, graph_is, unflagged}

module _ (image other : List (List ℕ)) (alike : AreAlike Thin image other) (known : IsKnown image) where
  abbrev graph : Graph
  graph = thin_graph (block_at image 0)

  abbrev fields : ThinFields
  fields = thin_fields (block_at image 0)

  -- the fields but the flags
  pub fields_same : unflagged (thin_fields (block_at other 0)) ≡ unflagged fields
  fields_same = fields_are (block_at image 0) (block_at other 0) alike.bytes

  -- the format
  pub graph_same : thin_graph (block_at other 0) ≡ graph
  graph_same = graph_is (block_at image 0) (block_at other 0) alike.bytes

  -- the entries below a reached node
  entries_same : (size b role : ℕ) → IsReached graph image b (suc (suc role)) → suc (suc role) < 11 → entries_below graph other size (suc (suc role)) b ≡ entries_below graph image size (suc (suc role)) b
  unfolding thin_graph graph_of
  entries_same size b role reached few =
      entries_are graph image other known.lawful (same image other alike (has_sum image known)) (rest image other alike) size (suc (suc role)) b few (reached_behind image known b role reached)

  -- those of the index of the data bitmaps
  index_same : data_index_entries graph other ≡ data_index_entries graph image
  index_same =
      ap (λ (f : ThinFields). entries_below graph other 16 5 f.data_map.bitmap_root) fields_same ∙ entries_same 16 fields.data_map.bitmap_root 3 known.roots.data_index (omega arith)

  -- those of two roots, and of a device's mappings
  module _ (roots : Roots) (reached : AreReached image known roots) where
    tops_same : top_entries graph other roots.mapping ≡ top_entries graph image roots.mapping
    tops_same = entries_same 8 roots.mapping 0 reached.mapping (omega arith)

    details_same : details_entries graph other roots.details ≡ details_entries graph image roots.details
    details_same = entries_same 24 roots.details 2 reached.details (omega arith)

    mappings_same : {X : Type 0} → (f : Entry → List Entry → X)
        → AllByRecursion (λ (top : Entry). f top (mapping_entries graph other top.value) ≡ f top (mapping_entries graph image top.value)) (top_entries graph image roots.mapping)
    mappings_same {X} f =
        all_from (λ (top : Entry). IsReached graph image top.value 3) (λ (top : Entry). f top (mapping_entries graph other top.value) ≡ f top (mapping_entries graph image top.value))
        (λ top found. ap (f top) (entries_same 8 top.value 1 found (omega arith)))
        (top_entries graph image roots.mapping) (known.devices roots.mapping reached.mapping)

    device_same : device_test graph other roots ≡ device_test graph image roots
    unfolding device_test
    device_same = ap₂ (λ (details tops : List Entry). record {
      block = roots.details;
      rule = r.Device;
      fails = not (bytes_eq (keys_of details) (keys_of tops));
    }) details_same tops_same

    -- the tests of one device
    abbrev tests_of : List Entry → Entry → List Entry → List WholeTest
    tests_of details top mappings =
        map (λ (e : Entry). record { block = top.value; rule = r.Mapped; fails = not (mapped_number e.value == length mappings) })
        (filter (λ (e : Entry). e.key == top.key) details)

    mapped_same : mapped_tests graph other roots ≡ mapped_tests graph image roots
    unfolding mapped_tests
    mapped_same =
        ap₂ (λ (details tops : List Entry). flat_map (λ (top : Entry). tests_of details top (mapping_entries graph other top.value)) tops) details_same tops_same
        ∙ same_each _ _ (top_entries graph image roots.mapping) (mappings_same (tests_of (details_entries graph image roots.details)))

  -- the two pairs of roots
  roots_same : thin_roots other ≡ thin_roots image
  unfolding thin_roots
  roots_same =
      let of : ThinFields → Roots = λ f. record { mapping = f.mapping_root; details = f.details_root } in
      let root = fields.held_root in
      let held = ap of (fields_are (block_at image root) (block_at other root) (bytes_same image other alike root)) in
      ap (λ (f : ThinFields). of f ∷ cond (nat_eq f.held_root 0) [] (roots_in (block_at other f.held_root) ∷ [])) fields_same
      ∙ ap (λ (at : Roots). roots_in (block_at image 0) ∷ cond (nat_eq root 0) [] (at ∷ [])) held

  -- the rules of the whole image
  pub whole_same : thin_whole graph other ≡ thin_whole graph image
  unfolding thin_whole
  whole_same =
      let reached = roots_reached image known in
      let bitmaps = bitmaps_are graph image other (same image other alike (has_sum image known)) (λ role. (role == 6) || (role == 9)) in
      let devices = ap (map (device_test graph other)) roots_same
      ∙ same_made (device_test graph other) (device_test graph image) (thin_roots image) (all_from (AreReached image known) _ device_same (thin_roots image) reached) in
      let mapped = ap (flat_map (mapped_tests graph other)) roots_same
      ∙ same_each (mapped_tests graph other) (mapped_tests graph image) (thin_roots image) (all_from (AreReached image known) _ mapped_same (thin_roots image) reached) in
      λ i. record {
        block = (fields_same i).data_map.bitmap_root;
        rule = r.Index;
        fails = is_not_counting (keys_of (index_same i)) (bitmaps_for graph.data_blocks);
      } ∷ (bitmaps i ++ (devices i ++ mapped i))

  -- the stored counts
  pub meta_same : stored_meta_in other (thin_fields (block_at other 0)).meta_map.bitmap_root (entries_below graph other 4 10 (thin_fields (block_at other 0)).meta_map.overflow_root)
      ≡ stored_meta_in image fields.meta_map.bitmap_root (entries_below graph image 4 10 fields.meta_map.overflow_root)
  meta_same =
      ap (λ (f : ThinFields). stored_meta_in other f.meta_map.bitmap_root (entries_below graph other 4 10 f.meta_map.overflow_root)) fields_same
      ∙ (ap (stored_meta_in other fields.meta_map.bitmap_root) (entries_same 4 fields.meta_map.overflow_root 8 known.roots.meta_overflow (omega arith))
      ∙ stored_meta_is image other (bytes_same image other alike) fields.meta_map.bitmap_root (entries_below graph image 4 10 fields.meta_map.overflow_root))

  pub data_same : stored_data_in other (data_index_entries graph other) (entries_below graph other 4 7 (thin_fields (block_at other 0)).data_map.overflow_root)
      ≡ stored_data_in image (data_index_entries graph image) (entries_below graph image 4 7 fields.data_map.overflow_root)
  data_same =
      ap (λ (f : ThinFields). stored_data_in other (data_index_entries graph other) (entries_below graph other 4 7 f.data_map.overflow_root)) fields_same
      ∙ (ap₂ (stored_data_in other) index_same (entries_same 4 fields.data_map.overflow_root 5 known.roots.data_overflow (omega arith))
      ∙ stored_data_is image other (bytes_same image other alike) (data_index_entries graph image) (entries_below graph image 4 7 fields.data_map.overflow_root))

  -- the meaning
  thin_devices_same : map (thin_device (thin_graph (block_at other 0)) other (details_entries (thin_graph (block_at other 0)) other (thin_fields (block_at other 0)).details_root))
      (top_entries (thin_graph (block_at other 0)) other (thin_fields (block_at other 0)).mapping_root)
      ≡ map (thin_device graph image (details_entries graph image fields.details_root)) (top_entries graph image fields.mapping_root)
  unfolding thin_device
  thin_devices_same =
      let roots = roots_in (block_at image 0) in
      let reached : AreReached image known roots = record { mapping = known.roots.devices; details = known.roots.details } in
      let device : List Entry → Entry → List Entry → ThinDevice = λ details top mappings. record (thin_device graph image details top) {
        mappings = map (λ (e : Entry). record { virtual_block = e.key; data_block = mapped_block e.value; time = mapped_time e.value }) mappings;
      } in
      ap₂ (λ (g : Graph) (f : ThinFields). map (thin_device g other (details_entries g other f.details_root)) (top_entries g other f.mapping_root)) graph_same fields_same
      ∙ (ap₂ (λ (details tops : List Entry). map (thin_device graph other details) tops) (details_same roots reached) (tops_same roots reached)
      ∙ same_made _ _ (top_entries graph image fields.mapping_root) (mappings_same roots reached (device (details_entries graph image fields.details_root))))

  pub meaning_same : thin_meaning other ≡ thin_meaning image
  unfolding thin_meaning
  meaning_same = λ i. record {
    uuid = (fields_same i).uuid;
    time = (fields_same i).time;
    transaction = (fields_same i).transaction;
    block_size = (fields_same i).block_size;
    data_blocks = (fields_same i).data_map.blocks;
    devices = thin_devices_same i;
  }
