-- A laid pool is clean, and means the pool.
use Rattle.std.proofs.Common.{◌≡◌, ◌⊎◌, inl, inr, ℕ, ◌+◌, ◌^◌, ◌<◌, ◌≤◌, true, false, not, ◌||◌, nat_eq, cond, List, [], ◌∷◌, length, map, filter, refl, sym, subst, ◌∙◌, ap, ap₂, arith}
use Rattle.std.specs.declared.option.Option.TheVariants.{Some}
use Rattle.std.specs.List.{AllByRecursion, flat_map, range_with_len}
use Rattle.std.proofs.lemmas.Bool.{eqb-true, not_from_true, or_cases}
use Rattle.std.proofs.lemmas.List.{map-id}
use Rattle.pd_kinds.specs.declared.kind.Kind.TheVariants.{Thin}
use Rattle.pd_kinds.specs.declared.limits.TheConstants.{MAX_META_BLOCKS}
use Rattle.pd_kinds.specs.Bitmap.{bitmaps_for}
use Rattle.pd_kinds.specs.Graph.{Graph, block_at, meta_count, data_count}
use Rattle.pd_kinds.specs.Layout.{Tree, graph_of}
use Rattle.pd_kinds.specs.Meaning.{ThinDevice, ThinPool, thin_device, thin_meaning}
use Rattle.pd_kinds.specs.Node.{Entry}
use Rattle.pd_kinds.specs.Stages.{AreClean, Checked, IsClean, thin_checked}
use Rattle.pd_kinds.specs.ThinFormat.{mappings_tree, thin_graph, thin_layout, ThinFields, thin_fields, thin_super_bad, thin_super_block}
use Rattle.pd_kinds.specs.Trees.{entries_below, keys_of, stored_data_in, stored_meta_in}
use Rattle.pd_kinds.specs.Whole.{WholeTest, bitmap_tests, data_index_entries, device_test, is_not_counting, mapped_number, mapped_tests, mapping_entries, roots_in, thin_roots, thin_whole}
use Rattle.pd_kinds.proofs.ListLemmas.{all_append}
use Rattle.pd_kinds.specs.Image.{room_of}
use Rattle.pd_kinds.specs.declared.rule.Rule.TheVariants as r
use Rattle.pd_grammar.specs.Lawful.{IsLawfulPool}
use Rattle.pd_grammar.specs.Need.{thin_need}
use Rattle.pd_laid.specs.Laid.{IsLaid, LaidBlock, laid_number, tree_of, index_entry_of, index_items, meta_counts, meta_map_number, meta_overflow}
use Rattle.pd_laid.specs.LaidThin.{bitmaps_at, data_counts, data_index, data_overflow, details_items, devices_at, laid_pool, laid_shape, mapping_items, meta_map_at, meta_map_blocks, pool_fields, pool_named, pool_parts, tops}
use Rattle.pd_laid.specs.Shape.{IsShape, ShapeDevice, ThinShape, pool_of, shape_of}
use Rattle.pd_laid.proofs.ShapeText.{is_shape, pool_kept}
use Rattle.pd_laid.proofs.PartSizes.{parts_number, bitmaps_size}
use Rattle.pd_laws_laid.proofs.PoolCase.{laid_need}
use Rattle.pd_laws_laid.specs.LaidOut.{AllFrom, AreLaidInOrder, IsInPlace, IsLaidOut, role_at}
use Rattle.pd_laws_laid.proofs.Formats.{clean_super, same_bytes, whole_holds, bitmaps_hold, laid_out_of, referred_few}
use Rattle.pd_laws_laid.proofs.LaidLemmas.{laid_in_order}
use Rattle.pd_laws_laid.proofs.Index.{made_keys}
use Rattle.pd_laws_laid.proofs.Names.{length-meta_map}
use Rattle.pd_laws_laid.proofs.MetaMap.{stored_by_tree}
use Rattle.pd_laws_laid.specs.Clean.{IsCleanPool}
use Rattle.pd_laws_laid.proofs.ThinCounts.{bitmap_once, data_references, references_count}
use Rattle.pd_laws_laid.proofs.ThinDevices.{AreRead}
use Rattle.pd_laws_laid.proofs.ThinRows.{details_value}
use Rattle.pd_laws_laid.proofs.ThinPool.{ShapeFits, data_bitmap_stands, data_index_seen, data_overflow_seen, details_seen, device_fits, devices_all_seen, ids_ascend, lawful_graph, meta_fitting, meta_map_seen, parts_fitting, pool_blocks, pool_in_place, shape_fits, super_edges, top_keys, tops_seen}
use Rattle.pd_laws_laid.proofs.ShapeNeed.{number_with}
use Rattle.pd_laws_laid.proofs.ThinSuper.{IsSuperLaid, super_laid, super_leads, super_seen}
use Rattle.pd_laws_laid.proofs.ThinWhole.{AreFound, devices_back, keyed, mapped_holds}

index_keys : (w : ThinShape) → keys_of (data_index w) ≡ range_with_len 0 (bitmaps_for w.data_blocks)
unfolding index_items
index_keys w =
    made_keys (λ (i : ℕ). i) (λ (i : ℕ). index_entry_of (data_counts w) w.data_blocks (bitmaps_at w) i) (range_with_len 0 (bitmaps_for w.data_blocks))
    ∙ map-id (range_with_len 0 (bitmaps_for w.data_blocks))

details_keys : (ds : List ShapeDevice) → keys_of (details_items ds) ≡ map (λ (d : ShapeDevice). d.id) ds
unfolding details_items
details_keys ds = made_keys (λ (d : ShapeDevice). d.id) details_value ds

module _ (w : ThinShape) (n : ℕ) (image : List (List ℕ)) (few : n ≤ 4161600) (fits : ShapeFits w) (shape : IsShape w)
    (room : meta_map_at w + length (meta_map_blocks w n) ≤ n) (stand : AllFrom (IsInPlace image (pool_blocks w n)) 0 (pool_blocks w n)) where
  abbrev this : Graph
  this = graph_of 11 n w.data_blocks (thin_layout n w.data_blocks)

  abbrev blocks : List LaidBlock
  blocks = pool_blocks w n

  abbrev end : ℕ
  end = meta_map_at w + length (meta_map_blocks w n)

  super_is : IsSuperLaid image w n
  super_is = super_laid w n image few fits shape room stand

  laid_out : IsLaidOut (graph_of 11 n w.data_blocks (thin_layout n w.data_blocks)) image (pool_blocks w n)
  unfolding graph_of pool_blocks
  laid_out =
      laid_out_of this image (thin_super_block (pool_fields w n)) (super_edges w n) (pool_parts w) (meta_map_blocks w n) (meta_map_at w) end (parts_number w) refl room
      (super_seen w n image few fits shape room stand) (super_leads w n image few fits shape room stand) (parts_fitting w n image few fits shape room stand) (meta_fitting w n image few fits shape room stand)

  in_order : AreLaidInOrder (graph_of 11 n w.data_blocks (thin_layout n w.data_blocks)) image (pool_blocks w n)
  in_order = laid_in_order this image blocks (lawful_graph w n image few fits shape room stand) laid_out

  few_meta : meta_map_number 8 n (meta_map_at w) (pool_named w) ≤ 4161600
  unfolding meta_map_blocks
  few_meta = omega (arith, length-meta_map 8 n (meta_map_at w) (pool_named w))

  meta_count_is : (b : ℕ) → meta_count (graph_of 11 n w.data_blocks (thin_layout n w.data_blocks)) image b ≡ meta_counts 8 n (meta_map_at w) (pool_named w) b
  meta_count_is b = in_order.meta_counts b ∙ references_count w n few_meta b

  pub data_count_is : (d : ℕ) → data_count (graph_of 11 n w.data_blocks (thin_layout n w.data_blocks)) image d ≡ data_counts w d
  data_count_is d = in_order.data_counts d ∙ data_references w n d

  -- a bitmap is referred to once
  bitmap_few : (b role : ℕ) → role_at (pool_blocks w n) b ≡ role → (role ≡ 6) ⊎ (role ≡ 9) → meta_count (graph_of 11 n w.data_blocks (thin_layout n w.data_blocks)) image b ≤ 1
  bitmap_few b role is which =
      let small : bitmaps_at w + bitmaps_for w.data_blocks ≤ 2 ^ 63 = omega (arith, bitmaps_size w) in
      let some : 1 ≤ role = elim which [ inl six ↦ omega arith | inr nine ↦ omega arith ] in
      referred_few this image blocks in_order role b laid_out some is (bitmap_once w n role b which small)

  one_edge : AllByRecursion (λ (t : WholeTest). t.fails ≡ false) (bitmap_tests (graph_of 11 n w.data_blocks (thin_layout n w.data_blocks)) image (λ role. nat_eq role 6 || nat_eq role 9))
  one_edge = bitmaps_hold this image blocks in_order (λ role. nat_eq role 6 || nat_eq role 9) (λ b here. bitmap_few b (role_at blocks b) refl (passed (role_at blocks b) here))
    where
      passed : (role : ℕ) → (nat_eq role 6 || nat_eq role 9) ≡ true → (role ≡ 6) ⊎ (role ≡ 9)
      passed role here = elim (or_cases (nat_eq role 6) (nat_eq role 9) here) [
        | inl six ↦ inl (eqb-true role 6 six)
        | inr nine ↦ inr (eqb-true role 9 nine)
      ]

  -- no rule of the whole is broken
  abbrev Holds : WholeTest → Type 0
  Holds t = t.fails ≡ false

  abbrev fields_at : ThinFields
  fields_at = thin_fields (block_at image 0)

  index_is : data_index_entries (graph_of 11 n w.data_blocks (thin_layout n w.data_blocks)) image ≡ data_index w
  unfolding pool_fields
  index_is =
      ap (λ (f : ThinFields). entries_below this image 16 5 f.data_map.bitmap_root) super_is.fields_are ∙ (data_index_seen w n image few fits shape room stand).root.entries_are

  pub tops_are : entries_below (graph_of 11 n w.data_blocks (thin_layout n w.data_blocks)) image 8 2 (thin_fields (block_at image 0)).mapping_root ≡ tops w
  unfolding pool_fields
  tops_are = ap (λ (f : ThinFields). entries_below this image 8 2 f.mapping_root) super_is.fields_are ∙ (tops_seen w n image few fits shape room stand).root.entries_are

  pub details_are : entries_below (graph_of 11 n w.data_blocks (thin_layout n w.data_blocks)) image 24 4 (thin_fields (block_at image 0)).details_root ≡ details_items w.devices
  unfolding pool_fields
  details_are = ap (λ (f : ThinFields). entries_below this image 24 4 f.details_root) super_is.fields_are ∙ (details_seen w n image few fits shape room stand).root.entries_are

  overflow_is : entries_below (graph_of 11 n w.data_blocks (thin_layout n w.data_blocks)) image 4 7 (thin_fields (block_at image 0)).data_map.overflow_root ≡ data_overflow w
  unfolding pool_fields
  overflow_is = ap (λ (f : ThinFields). entries_below this image 4 7 f.data_map.overflow_root) super_is.fields_are ∙ (data_overflow_seen w n image few fits shape room stand).root.entries_are

  meta_overflow_is : entries_below (graph_of 11 n w.data_blocks (thin_layout n w.data_blocks)) image 4 10 (thin_fields (block_at image 0)).meta_map.overflow_root ≡ meta_overflow n (pool_named w)
  unfolding pool_fields
  meta_overflow_is = ap (λ (f : ThinFields). entries_below this image 4 10 f.meta_map.overflow_root) super_is.fields_are ∙ (meta_map_seen w n image few fits shape room stand).overflow

  abbrev t : Tree
  t = tree_of (mappings_tree w.data_blocks)

  index_holds : is_not_counting (keys_of (data_index_entries (graph_of 11 n w.data_blocks (thin_layout n w.data_blocks)) image)) (bitmaps_for w.data_blocks) ≡ false
  index_holds = not_from_true _ (same_bytes _ _ (ap keys_of index_is ∙ index_keys w))

  device_holds : (device_test (graph_of 11 n w.data_blocks (thin_layout n w.data_blocks)) image (roots_in (block_at image 0))).fails ≡ false
  unfolding device_test
  device_holds =
      not_from_true _ (same_bytes _ _
      (ap keys_of details_are ∙ (details_keys w.devices ∙ (sym (top_keys t (map mapping_items w.leaves) (devices_at w) w.devices) ∙ sym (ap keys_of tops_are)))))

  found : AreFound w.devices w.devices
  found = keyed (λ (d : ShapeDevice). d.id) details_value w.devices (ids_ascend w n image few fits shape room stand)

  read : AreRead (graph_of 11 n w.data_blocks (thin_layout n w.data_blocks)) image (tree_of (mappings_tree w.data_blocks)) w.leaves (devices_at w) w.devices
  read = (devices_all_seen w n image few fits shape room stand).entries_are

  abbrev mapped_of : List Entry → List Entry → List WholeTest
  mapped_of details tops =
      flat_map (λ (top : Entry).
      map (λ (e : Entry). record {
        block = top.value;
        rule = r.Mapped;
        fails = not (nat_eq (mapped_number e.value) (length (mapping_entries this image top.value)));
      })
      (filter (λ (e : Entry). nat_eq e.key top.key) details))
      tops

  mapped_all : AllByRecursion (λ (t : WholeTest). t.fails ≡ false) (mapped_tests (graph_of 11 n w.data_blocks (thin_layout n w.data_blocks)) image (roots_in (block_at image 0)))
  unfolding mapped_tests
  mapped_all =
      subst (λ (tests : List WholeTest). AllByRecursion Holds tests) (sym (ap₂ mapped_of details_are tops_are))
      (mapped_holds this image t w.leaves w.data_blocks (devices_at w) w.devices w.devices (device_fits w n image few fits shape room stand) read found)

  one_root : thin_roots image ≡ roots_in (block_at image 0) ∷ []
  unfolding thin_roots pool_fields
  one_root =
      ap (λ (held : ℕ). roots_in (block_at image 0) ∷ cond (nat_eq held 0) [] (roots_in (block_at image held) ∷ [])) (ap (λ (f : ThinFields). f.held_root) super_is.fields_are)

  whole_tests : AllByRecursion (λ (t : WholeTest). t.fails ≡ false) (thin_whole (graph_of 11 n w.data_blocks (thin_layout n w.data_blocks)) image)
  unfolding thin_whole graph_of
  whole_tests =
      rw one_root (
        index_holds,
        all_append Holds (bitmap_tests this image (λ role. nat_eq role 6 || nat_eq role 9)) _ one_edge
            (device_holds, all_append Holds (mapped_tests this image (roots_in (block_at image 0))) [] mapped_all tt),
      )

  -- the stored counts of data blocks
  data_stored : (d : ℕ) → d < w.data_blocks → stored_data_in image (data_index w) (data_overflow w) d ≡ Some (data_counts w d)
  data_stored =
      stored_by_tree image (data_counts w) (data_counts w) w.data_blocks (bitmaps_at w) (λ d many. refl)
      (λ i covered. (data_bitmap_stands w n image few fits shape room stand i covered).stands) (omega (arith, bitmaps_size w))

  -- what is looked at in the image
  abbrev looked_at : Graph → ℕ → List Entry → List Entry → List Entry → Checked
  looked_at graph index meta_over data_index data_over = record {
    super_bad = thin_super_bad;
    graph = graph;
    whole = thin_whole graph image;
    stored_meta = stored_meta_in image index meta_over;
    stored_data = stored_data_in image data_index data_over;
  }

  pub graph_is : thin_graph (block_at image 0) ≡ graph_of 11 n w.data_blocks (thin_layout n w.data_blocks)
  unfolding thin_graph pool_fields
  graph_is =
      ap₂ (λ (blocks data_blocks : ℕ). graph_of 11 blocks data_blocks (thin_layout blocks data_blocks))
      (ap (λ (f : ThinFields). f.meta_map.blocks) super_is.fields_are) (ap (λ (f : ThinFields). f.data_map.blocks) super_is.fields_are)

  checked_is : thin_checked image ≡ looked_at (graph_of 11 n w.data_blocks (thin_layout n w.data_blocks)) (meta_map_at w) (meta_overflow n (pool_named w)) (data_index w) (data_overflow w)
  unfolding thin_checked pool_fields
  checked_is =
      ap (λ (g : Graph). looked_at g fields_at.meta_map.bitmap_root (entries_below g image 4 10 fields_at.meta_map.overflow_root) (data_index_entries g image)
      (entries_below g image 4 7 fields_at.data_map.overflow_root)) graph_is
      ∙ (ap (λ (i : ℕ). looked_at this i (entries_below this image 4 10 fields_at.meta_map.overflow_root) (data_index_entries this image)
      (entries_below this image 4 7 fields_at.data_map.overflow_root)) (ap (λ (f : ThinFields). f.meta_map.bitmap_root) super_is.fields_are)
      ∙ (ap (λ (over : List Entry). looked_at this (meta_map_at w) over (data_index_entries this image) (entries_below this image 4 7 fields_at.data_map.overflow_root)) meta_overflow_is
      ∙ ap₂ (λ (index over : List Entry). looked_at this (meta_map_at w) (meta_overflow n (pool_named w)) index over) index_is overflow_is))

  laid_clean : n ≤ length image → IsClean Thin image
  unfolding graph_of
  laid_clean within =
      let checked = looked_at this (meta_map_at w) (meta_overflow n (pool_named w)) (data_index w) (data_overflow w) in
      subst (λ (checked : Checked). AreClean checked image) (sym checked_is)
      (record {
        super_block = clean_super checked image (omega arith) (super_is.sound (length image) within);
        well_formed = in_order.well_formed;
        one_role = in_order.one_role;
        not_deep = in_order.not_deep;
        in_range = in_order.in_range;
        whole = λ b broken small. whole_holds (thin_whole this image) b broken whole_tests;
        meta_counts = λ b small. (meta_map_seen w n image few fits shape room stand).stored b small ∙ ap (λ (k : ℕ). Some k) (sym (meta_count_is b));
        data_counts = λ d small. data_stored d small ∙ ap (λ (k : ℕ). Some k) (sym (data_count_is d));
      })

  abbrev meaning_of : ThinFields → List ThinDevice → ThinPool
  meaning_of f devices = record {
    uuid = f.uuid;
    time = f.time;
    transaction = f.transaction;
    block_size = f.block_size;
    data_blocks = f.data_map.blocks;
    devices = devices;
  }

  pub laid_means : thin_meaning image ≡ pool_of w
  unfolding thin_meaning pool_of pool_fields
  laid_means =
      let devices = ap (λ (g : Graph). map (thin_device g image (entries_below g image 24 4 fields_at.details_root)) (entries_below g image 8 2 fields_at.mapping_root)) graph_is
      ∙ (ap₂ (λ (details tops : List Entry). map (thin_device this image details) tops) details_are tops_are
      ∙ devices_back this image t w.leaves w.data_blocks (devices_at w) w.devices w.devices (device_fits w n image few fits shape room stand) read found) in
      ap₂ meaning_of super_is.fields_are devices

pub law : (w : ThinShape) (base image : List (List ℕ)) → IsLawfulPool (pool_of w) → IsShape w
    → laid_number (laid_shape w (room_of (length base))) ≤ room_of (length base) → IsLaid (laid_shape w (room_of (length base))) base image → IsCleanPool image (pool_of w)
law w base image lawful shape room is =
    let n = room_of (length base) in
    let fits = shape_fits w lawful in
    let stand = pool_in_place w n base image is in
    let few : n ≤ 4161600 = omega arith in
    let number = number_with w n in
    let enough : meta_map_at w + length (meta_map_blocks w n) ≤ n = omega arith in
    let size = is.number in
    record {
      clean = laid_clean w n image few fits shape enough stand (omega arith);
      means = laid_means w n image few fits shape enough stand;
      valid = (super_is w n image few fits shape enough stand).valid;
    }

pub takes_need : (m : ThinPool) (n : ℕ) → IsLawfulPool m → n ≤ MAX_META_BLOCKS → thin_need m n ≤ n → laid_number (laid_pool m n) ≡ thin_need m n
takes_need m n lawful limit room = laid_need m lawful n (omega arith)

-- the law for meanings
pub meaning_law : (m : ThinPool) (base image : List (List ℕ)) → IsLawfulPool m → thin_need m (room_of (length base)) ≤ room_of (length base) → IsLaid (laid_pool m (room_of (length base))) base image
    → IsCleanPool image m
unfolding laid_pool
meaning_law m base image lawful room is =
    let n = room_of (length base) in
    let kept = pool_kept m in
    let number = takes_need m n lawful (omega arith) room in
    rw kept at (law (shape_of m) base image (rw kept lawful) (is_shape m) (omega arith) is)
