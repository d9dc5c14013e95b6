-- The parts of a pool behind the trees of its devices, one behind another.
use Rattle.std.proofs.Common.{◌≡◌, ℕ, suc, ◌+◌, ◌%◌, ◌≤◌, ◌<◌, ◌^◌, not, eqb, true, List, [], ◌∷◌, ◌++◌, length, map, refl, sym, ◌∙◌, ap, ap₂, subst, length-append, arith, Result, Ok, Err}
use Rattle.std.proofs.Math.Path.{fun_ext}
use Rattle.std.specs.Prelude.{IfOk, OnOk}
use Rattle.std.proofs.lemmas.Bool.{lt-ltb}
use Rattle.std.proofs.lemmas.List.FromFn.{length-range_with_len, length-map-range_with_len}
use Rattle.std.specs.List.{count_by, flat_map, range_with_len}
use Rattle.pd_kinds.specs.Bitmap.{bitmaps_for}
use Rattle.pd_kinds.specs.Layout.{plain_tree, tree_to}
use Rattle.pd_kinds.specs.declared.superblocks.SmRoot.{SmRoot}
use Rattle.pd_kinds.specs.Meaning.{Mapping}
use Rattle.pd_kinds.specs.Node.{Entry, is_ascending}
use Rattle.pd_grammar.specs.Lawful.{AreDevices}
use Rattle.pd_grammar.specs.Need.{need_tree}
use Rattle.pd_grammar.specs.ThinText.{Line}
use Rattle.pd_laid.specs.Laid.{count_in, tree_of, written_from, index_entry_of, index_items, laid_bitmap, laid_bitmaps, laid_meta_map, meta_counts, meta_overflow_root, overflow_items, tree_blocks, tree_root}
use Rattle.pd_laid.specs.LaidThin.{bitmap_blocks, bitmaps_at, data_counts, data_index, data_overflow, details_at, details_items, devices_at, index_at, index_blocks, meta_map_at, meta_map_blocks, overflow_at, overflow_blocks, pool_fields, pool_named, shared_items, tops, tops_at}
use Rattle.pd_laid.specs.Shape.{ShapeDevice, ThinShape, device_of, pool_of, uses_of}
use Rattle.pd_laid.proofs.LaidLemmas.{blocks_from-append, blocks_from-map, length-blocks_from, tree_written}
use Rattle.pd_laid.proofs.NeedLemmas.{length-tree_blocks}
use Rattle.pd_laid.proofs.PartSizes.{details_number as length-details}
use Rattle.pd_laid.specs.PoolText.{MeansPoolShape, shape_need, used_often}
use Rattle.pd_node.specs.Items.{entries_of, keys_of}
use Rattle.pd_node.proofs.FromItems.{count_kept}
use Rattle.pd_draft.specs.Closed.{DraftState, Wrote}
use Rattle.pd_draft.proofs.DraftLemmas.{wrote_then}
use Rattle.pd_count.specs.Counted.{count_of}
use Rattle.pd_texts.specs.Reader.{in_order}
use Rattle.pd_build.specs.declared.fault.BuildFault.{BuildFault}
use Rattle.pd_build.proofs.TakesLemmas.{keys-entries}
use Rattle.pd_smwrite.specs.Map.{data_map_blocks, data_map_need, data_map_root, allocated_of, meta_map_need, written_bitmap}
use Rattle.pd_smwrite.specs.Map as smap
use Rattle.pd_devices.proofs.DeviceLemmas.{details_number as details_codes, root_code}
use Rattle.pd_restore.specs.declared.pool.PoolRoots.{PoolRoots}
use Rattle.pd_restore.specs.Reading.{AreParts, WritesParts, HasDevices, Known, shape_behind}
use Rattle.pd_laws_laid.specs.Shared.{named_times, used_times, AreShapePlaces, device_roots, device_tree, leaves_and_trees, shape_parts}
use Rattle.pd_laws_laid.proofs.PoolNames.{leaves_before_map}
use Rattle.pd_laws_laid.proofs.ShapeNeed.{allocated_named, counts_named, laid_need, map_place, overflow_named}
use Rattle.pd_laws_laid.proofs.WrittenParts.{parts_written, places_are, tops_are}
use Rattle.pd_laws_laid.proofs.MapLemmas.{write}

-- the ids of devices ascend
abbrev ids : List ShapeDevice → List ℕ
ids devices = map (λ (d : ShapeDevice). d.id) devices

ids_ascend : (leaves : List (List Mapping)) (blocks least : ℕ) (ds : List ShapeDevice) → AreDevices blocks least (map (device_of leaves) ds) → is_ascending (ids ds) ≡ true
unfolding is_ascending
ids_ascend leaves blocks least [] are = refl
ids_ascend leaves blocks least (d ∷ []) are = refl
ids_ascend leaves blocks least (d ∷ e ∷ ds) are = rw (lt-ltb d.id e.id (omega (arith, are.1.0.above))) (ids_ascend leaves blocks (d.id + 1) (e ∷ ds) are.1)

roots_keys : (leaves : List (List Entry)) (place : ℕ) (ds : List ShapeDevice) → map (λ (e : Entry). e.key) (device_roots leaves place ds) ≡ ids ds
unfolding device_roots
roots_keys leaves place [] = refl
roots_keys leaves place (d ∷ ds) = ap (λ (ks : List ℕ). d.id ∷ ks) (roots_keys leaves (place + length (device_tree leaves place d)) ds)

details_keys : (ds : List ShapeDevice) → map (λ (e : Entry). e.key) (details_items ds) ≡ ids ds
unfolding details_items
details_keys [] = refl
details_keys (d ∷ ds) = ap (λ (ks : List ℕ). d.id ∷ ks) (details_keys ds)

length-roots : (leaves : List (List Entry)) (place : ℕ) (ds : List ShapeDevice) → length (device_roots leaves place ds) ≡ length ds
unfolding device_roots
length-roots leaves place [] = refl
length-roots leaves place (d ∷ ds) = ap suc (length-roots leaves (place + length (device_tree leaves place d)) ds)

same_root : {a c : ℕ} {b d : ℕ} (blocks allocated : ℕ) → a ≡ c → b ≡ d
    → ◌≡◌ {A = SmRoot} (record { blocks = blocks; allocated = allocated; bitmap_root = a; overflow_root = b }) (record { blocks = blocks; allocated = allocated; bitmap_root = c; overflow_root = d })
same_root blocks allocated p q = cc

stored_same : {a b blocks place over : ℕ} → a ≡ b
    → ◌≡◌ {A = SmRoot} (record { blocks = blocks; allocated = a; bitmap_root = place; overflow_root = over }) (record { blocks = blocks; allocated = b; bitmap_root = place; overflow_root = over })
stored_same p = cc

-- how many blocks a data map has
length-data_map : (counts : ℕ → ℕ) (n place : ℕ) → length (data_map_blocks counts n place) ≡ data_map_need counts n
unfolding data_map_blocks data_map_need smap.bitmap_blocks index_items
length-data_map counts n place =
    let bitmaps = smap.bitmap_blocks counts n place in
    let index = tree_blocks 16 (place + bitmaps_for n) (index_items counts n place) in
    let overflow = tree_blocks 4 (place + bitmaps_for n + need_tree 16 (bitmaps_for n)) (overflow_items counts n) in
    let first = length-blocks_from (written_bitmap counts) place (range_with_len 0 (bitmaps_for n)) ∙ length-range_with_len 0 (bitmaps_for n) in
    let items = ap (need_tree 16) (length-map-range_with_len {X = Entry} (λ (i : ℕ). record { key = i; value = index_entry_of counts n place i }) 0 (bitmaps_for n)) in
    omega (
      arith,
      length-append bitmaps (index ++ overflow),
      length-append index overflow,
      first,
      length-tree_blocks 16 (place + bitmaps_for n) (index_items counts n place),
      items,
      length-tree_blocks 4 (place + bitmaps_for n + need_tree 16 (bitmaps_for n)) (overflow_items counts n),
    )

-- where the parts are written, one behind another
pub record Behind (w : ThinShape) (a b e f : DraftState) : Type 0 where
  pub details_at : b.place ≡ details_at w
  pub bitmaps_at : e.place ≡ bitmaps_at w
  pub map_at : f.place ≡ meta_map_at w
  pub tops : Wrote (tree_blocks 8 a.place (device_roots (shared_items w) (devices_at w) w.devices)) a b
  pub details : Wrote (tree_blocks 24 b.place (details_items w.devices)) b e
  pub data_map : Wrote (data_map_blocks (data_counts w) w.data_blocks e.place) e f

module _ (w : ThinShape) (s : Known) (start a : DraftState) (room : ℕ) (h : HasDevices w s start a) (need : shape_need w room ≤ room) (most : room ≤ 4161600) where
  places : AreShapePlaces w
  places = places_are w h.shape

  place_law : meta_map_at w + (1 + (bitmaps_for room + need_tree 4 (used_often (flat_map uses_of w.devices) (length w.leaves)))) ≡ shape_need w room
  place_law = map_place w room h.shape h.lawful

  -- the mapping tree
  roots_place : a.place ≡ tops_at w
  roots_place = omega (arith, h.begin, h.written.moved, places.tops)

  roots_number : length s.roots ≡ length w.devices
  roots_number = sym (count_kept root_code s.roots) ∙ (ap (λ (es : List Entry). length es) h.roots ∙ length-roots (shared_items w) (devices_at w) w.devices)

  details_number : length s.details ≡ length w.devices
  details_number = sym (count_kept details_codes s.details) ∙ (ap (λ (es : List Entry). length es) h.details ∙ length-details w.devices)

  pub roots_ascend : is_ascending (keys_of s.roots) ≡ true
  unfolding pool_of
  roots_ascend =
      ap is_ascending (sym (keys-entries root_code s.roots) ∙ (ap (map (λ (e : Entry). e.key)) h.roots ∙ roots_keys (shared_items w) (devices_at w) w.devices))
      ∙ ids_ascend w.leaves w.data_blocks 0 w.devices h.lawful.devices

  pub details_ascend : is_ascending (keys_of s.details) ≡ true
  unfolding pool_of
  details_ascend =
      ap is_ascending (sym (keys-entries details_codes s.details) ∙ (ap (map (λ (e : Entry). e.key)) h.details ∙ details_keys w.devices))
      ∙ ids_ascend w.leaves w.data_blocks 0 w.devices h.lawful.devices

  -- each part has room
  bitmaps_room : bitmaps_at w + data_map_need (data_counts w) w.data_blocks ≡ meta_map_at w
  unfolding data_map_need
  bitmaps_room = omega (arith, places.index, places.overflow, places.meta_map)

  pub roots_room : a.place + need_tree 8 (length s.roots) ≤ room
  roots_room = omega (arith, roots_place, ap (need_tree 8) roots_number, places.details, places.bitmaps, bitmaps_room, place_law, need)

  pub details_room : (place : ℕ) → place ≡ details_at w → place + need_tree 24 (length s.details) ≤ room
  details_room place here = omega (arith, here, ap (need_tree 24) details_number, places.bitmaps, bitmaps_room, place_law, need)

  pub data_room : (place : ℕ) → place ≡ bitmaps_at w → place + data_map_need (count_of s.counts) s.counts.size ≤ room
  data_room place here = rw (h.counted, h.size) (omega (arith, here, bitmaps_room, place_law, need))

  -- each part as it is written, with the place behind it
  pub roots_step : {b : DraftState} → Wrote (tree_blocks 8 a.place (entries_of root_code s.roots)) a b → b.place ≡ details_at w
  roots_step {b} wrote =
      omega (arith, wrote.moved, length-tree_blocks 8 a.place (entries_of root_code s.roots), ap (need_tree 8) (count_kept root_code s.roots), ap (need_tree 8) roots_number, roots_place, places.details)

  pub details_step : {b e : DraftState} → b.place ≡ details_at w → Wrote (tree_blocks 24 b.place (entries_of details_codes s.details)) b e → e.place ≡ bitmaps_at w
  details_step {b} {e} here wrote =
      omega (arith, wrote.moved, length-tree_blocks 24 b.place (entries_of details_codes s.details), ap (need_tree 24) (count_kept details_codes s.details), ap (need_tree 24) details_number, here, places.bitmaps)

  pub steps : {b e f : DraftState} → Wrote (tree_blocks 8 a.place (entries_of root_code s.roots)) a b → Wrote (tree_blocks 24 b.place (entries_of details_codes s.details)) b e
      → Wrote (data_map_blocks (count_of s.counts) s.counts.size e.place) e f → Behind w a b e f
  steps {b} {e} {f} tops details counts =
      let at_details = roots_step tops in
      let at_bitmaps = details_step at_details details in
      let written : Wrote (data_map_blocks (data_counts w) w.data_blocks e.place) e f = rw (h.counted, h.size) at counts in
      record {
        details_at = at_details;
        bitmaps_at = at_bitmaps;
        map_at = omega (arith, written.moved, length-data_map (data_counts w) w.data_blocks e.place, at_bitmaps, bitmaps_room);
        tops = subst (λ (es : List Entry). Wrote (tree_blocks 8 a.place es) a b) h.roots tops;
        details = subst (λ (es : List Entry). Wrote (tree_blocks 24 b.place es) b e) h.details details;
        data_map = written;
      }

  -- a data map at its place is the pool's
  data_map_same : data_map_blocks (data_counts w) w.data_blocks (bitmaps_at w) ≡ written_from (bitmaps_at w) (bitmap_blocks w ++ (index_blocks w ++ overflow_blocks w))
  unfolding data_map_blocks smap.bitmap_blocks bitmap_blocks index_blocks overflow_blocks laid_bitmaps
  data_map_same =
      let bitmaps = smap.bitmap_blocks (data_counts w) w.data_blocks (bitmaps_at w) in
      let first : written_from (bitmaps_at w) (bitmap_blocks w) ≡ bitmaps = blocks_from-map write (laid_bitmap 6 (data_counts w)) (bitmaps_at w) (range_with_len 0 (bitmaps_for w.data_blocks)) in
      let index : written_from (index_at w) (index_blocks w) ≡ tree_blocks 16 (index_at w) (data_index w) = tree_written 5 (tree_of (tree_to 16 6 (λ v. v % 2 ^ 64))) (index_at w) (data_index w) in
      let over : written_from (overflow_at w) (overflow_blocks w) ≡ tree_blocks 4 (overflow_at w) (data_overflow w) = tree_written 7 (tree_of (plain_tree 4)) (overflow_at w) (data_overflow w) in
      let split = blocks_from-append write (bitmaps_at w) (bitmap_blocks w) (index_blocks w ++ overflow_blocks w) in
      let rest = blocks_from-append write (index_at w) (index_blocks w) (overflow_blocks w) in
      ap (λ (more : List (List ℕ)). bitmaps ++ more)
      (ap₂ (λ (i o : ℕ). tree_blocks 16 i (data_index w) ++ tree_blocks 4 o (data_overflow w)) (sym places.index) (omega (arith, places.index, places.overflow)))
      ∙ sym (split ∙ ap₂ (λ (x y : List (List ℕ)). x ++ y) first (rest ∙ ap₂ (λ (x y : List (List ℕ)). x ++ y) index over))

  -- the metadata map, whose counts are those of the shape
  named_is : (place : ℕ) → place ≡ meta_map_at w → named_times (count_of s.uses) s.leaves place ≡ named_times (used_times (flat_map uses_of w.devices)) (length w.leaves) (meta_map_at w)
  named_is place here = rw (h.leaves, here, fun_ext h.uses) refl

  pub are_named : (place : ℕ) → place ≡ meta_map_at w → (b : ℕ) → count_in (pool_named w) b ≡ named_times (count_of s.uses) s.leaves place b
  are_named place here b = counts_named w room h.shape h.lawful need most b ∙ ap (λ (counts : ℕ → ℕ). counts b) (sym (named_is place here))

  counts_are : (place : ℕ) → place ≡ meta_map_at w → count_in (pool_named w) ≡ named_times (count_of s.uses) s.leaves place
  counts_are place here = fun_ext (are_named place here)

  pub map_room : (place : ℕ) → place ≡ meta_map_at w → place + meta_map_need (named_times (count_of s.uses) s.leaves place) room ≤ room
  unfolding meta_map_need
  map_room place here =
      let same : length (overflow_items (named_times (count_of s.uses) s.leaves place) room) ≡ used_often (flat_map uses_of w.devices) (length w.leaves) =
      ap (λ (counts : ℕ → ℕ). length (overflow_items counts room)) (sym (counts_are place here)) ∙ overflow_named w room h.shape h.lawful need most in
      omega (arith, ap (need_tree 4) same, here, place_law, need)

  -- the parts, one behind another, are the shape's blocks behind the superblock
  pub behind_written : {b e f g : DraftState} → Behind w a b e f
      → ((role : ℕ) (named : List ℕ) → ((b : ℕ) → count_in named b ≡ named_times (count_of s.uses) s.leaves f.place b) → Wrote (written_from f.place (laid_meta_map role room f.place named)) f g)
      → Wrote (shape_behind w room) start g
  unfolding shape_parts meta_map_blocks
  behind_written {b} {e} {f} {g} at last =
      subst (λ (blocks : List (List ℕ)). Wrote blocks start g) same (wrote_then h.written (wrote_then at.tops (wrote_then at.details (wrote_then at.data_map (last 8 (pool_named w) (are_named f.place at.map_at))))))
    where
      same : leaves_and_trees w.leaves w.devices ++ (tree_blocks 8 a.place (device_roots (shared_items w) (devices_at w) w.devices) ++ (tree_blocks 24 b.place (details_items w.devices)
          ++ (data_map_blocks (data_counts w) w.data_blocks e.place ++ written_from f.place (laid_meta_map 8 room f.place (pool_named w))))) ≡ shape_behind w room
      same = rw (parts_written w room, roots_place, at.details_at, at.bitmaps_at, at.map_at, data_map_same) refl

  -- the roots are those that the superblock names
  pub mapping_root_is : tree_root 8 a.place (entries_of root_code s.roots) ≡ (pool_fields w room).mapping_root
  unfolding pool_fields
  mapping_root_is = ap₂ (tree_root 8) roots_place (h.roots ∙ sym (tops_are w))

  pub details_root_is : (place : ℕ) → place ≡ details_at w → tree_root 24 place (entries_of details_codes s.details) ≡ (pool_fields w room).details_root
  unfolding pool_fields
  details_root_is place here = ap₂ (tree_root 24) here h.details

  pub data_map_is : (place : ℕ) → place ≡ bitmaps_at w → data_map_root (count_of s.counts) s.counts.size place ≡ (pool_fields w room).data_map
  unfolding pool_fields allocated_of
  data_map_is place here =
      rw (h.counted, h.size, here) (same_root w.data_blocks (count_by (λ d. not (eqb (data_counts w d) 0)) (range_with_len 0 w.data_blocks))
      (ap (λ (i : ℕ). tree_root 16 i (data_index w)) (sym places.index))
      (ap (λ (o : ℕ). tree_root 4 o (data_overflow w)) (omega (arith, places.index, places.overflow))))

  pub meta_map_is : (root : SmRoot) (place : ℕ) → place ≡ meta_map_at w
      → ((role : ℕ) (named : List ℕ) → ((b : ℕ) → count_in named b ≡ named_times (count_of s.uses) s.leaves place b)
      → root ≡ record {
        blocks = room;
        allocated = count_by (λ b. not (eqb (meta_counts role room place named b) 0)) (range_with_len 0 room);
        bitmap_root = place;
        overflow_root = meta_overflow_root room place named;
      })
      → root ≡ (pool_fields w room).meta_map
  unfolding pool_fields
  meta_map_is root place here told =
      told 8 (pool_named w) (are_named place here) ∙ rw here (stored_same (allocated_named w room h.shape h.lawful need most))

  pub leaves_before : (place : ℕ) → place ≡ meta_map_at w → s.leaves < place
  leaves_before place here = omega (arith, h.leaves, here, leaves_before_map w)

-- all lines mean a shape, and its parts are written
pub whole_written : (w : ThinShape) (s : Known) (start now to : DraftState) (room : ℕ) (lines : List Line) → HasDevices w s start now → MeansPoolShape (in_order lines []) w → shape_need w room ≤ room → room ≤ 4161600
    → (result : Result PoolRoots BuildFault) → OnOk result (Wrote (shape_behind w room) start to) → IfOk result (AreParts w room) → IfOk result (WritesParts lines room start to)
whole_written w s start now to room lines h means need most (Ok parts) wrote named = record {
  shape = w;
  means = means;
  lawful = record { shape = h.shape; pool = h.lawful };
  fits = omega (arith, laid_need w room h.shape h.lawful need most, need);
  wrote = wrote;
  named = named;
}
whole_written w s start now to room lines h means need most (Err fault) wrote named = tt
