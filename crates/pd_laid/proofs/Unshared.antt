-- What the shape of a pool needs that shares no leaf is what the pool needs.
use Rattle.std.proofs.Common.{◌≡◌, ℕ, suc, ◌+◌, max, List, [], ◌∷◌, ◌++◌, length, map, sum_by, refl, sym, ◌∙◌, ap, ap₂, append-nil, arith, ◌≤◌, ◌<◌, Bool, true, false}
use Rattle.std.specs.List.{flat_map}
use Rattle.std.proofs.lemmas.List.{length-map, map-append}
use Rattle.std.proofs.lemmas.List.Sums.{sum_by-cons}
use Rattle.std.proofs.lemmas.Bool.{true≢false}
use Rattle.pd_kinds.specs.Meaning.{Mapping, ThinDevice, ThinPool}
use Rattle.pd_kinds.specs.Node.{max_entries}
use Rattle.pd_grammar.specs.Lawful.{AreDevices, IsLawfulPool}
use Rattle.pd_grammar.specs.Need.{need_above, need_tree, nodes_for, nodes_of_tree, mapped_data, need_of_devices, overflows_in, thin_need, thin_need_so_far}
use Rattle.pd_grammar.specs.Spelling.{accepted, need_above_room, no_room}
use Rattle.pd_grammar.specs.Texts.{Reading, reading}
use Rattle.pd_grammar.proofs.SpellingLemmas.{reading_if_spelled}
use Rattle.pd_grammar.specs.ThinText.{Line, MeansPool, SpellsPool, first_line, shared_first_line, pool_line, leaf_line, device_line, use_line, map_line, end_line, is_shared, pool_format, thin}
use Rattle.pd_grammar.proofs.ThinLaws.{thin_language, pool_accepted, pool_without_room}
use Rattle.pd_grammar.proofs.ThinRead.{FitsLine, Placed, PlacedInPool}
use Rattle.pd_laid.specs.Shape.{ShapeDevice, shape_of, unshared_device, unshared_pieces, ThinShape}
use Rattle.pd_laid.specs.PoolText.{LeafCount, leaves_of_pieces, need_of_leaves, need_of_shared, own_mappings, shape_data, shape_need, used_often, IsPoolTextVerdict, MeansAs, MeansPoolShape, MeansUnshared, SpellsPoolShape, pool_need_so_far}
use Rattle.pd_laid.proofs.ShapeText.{pool_language}
use Rattle.pd_laid.proofs.WholeNeed.{shape_accepted, shape_without_room}

-- a device without shared leaves has a tree of its mappings
pub device_tree : (ms : List Mapping) → need_of_leaves (leaves_of_pieces (unshared_pieces ms)) ≡ need_tree 8 (length ms)
unfolding nodes_of_tree
device_tree [] = refl
device_tree (m ∷ ms) =
    let nodes = nodes_for (max_entries 8) (suc (length ms)) in
    let one = sum_by-cons (λ n. nodes_for (max_entries 8) n) (suc (length ms)) [] in
    let some : max 1 nodes ≡ nodes = omega arith in
    let same : sum_by (λ n. nodes_for (max_entries 8) n) (suc (length ms) ∷ []) ≡ nodes = omega (arith, one) in
    let all : sum_by (λ n. nodes_for (max_entries 8) n) (suc (length ms) ∷ []) + 0 ≡ nodes = omega (arith, same) in
    ap₂ (λ (own levels : ℕ). own + levels) same (ap (need_above 10) all) ∙ ap (λ (leaves : ℕ). leaves + need_above 10 leaves) (sym some)

abbrev numbers : List ThinDevice → List ℕ
numbers ds = map (λ (d : ThinDevice). length d.mappings) ds

abbrev counts_of : List ThinDevice → List LeafCount
counts_of ds = map (λ (d : ShapeDevice). leaves_of_pieces d.pieces) (map unshared_device ds)

devices_trees : (ds : List ThinDevice) → sum_by need_of_leaves (counts_of ds) ≡ sum_by (need_tree 8) (numbers ds)
devices_trees [] = refl
devices_trees (d ∷ ds) =
    omega (arith, device_tree d.mappings, devices_trees ds, sum_by-cons need_of_leaves (leaves_of_pieces (unshared_pieces d.mappings)) (counts_of ds), sum_by-cons (need_tree 8) (length d.mappings) (numbers ds))

pub own_kept : (ms : List Mapping) → flat_map own_mappings (unshared_pieces ms) ≡ ms
own_kept [] = refl
own_kept (m ∷ ms) = append-nil (m ∷ ms)

-- the data blocks of all devices
abbrev own_of : List ThinDevice → List Mapping
own_of ds = flat_map (λ (d : ShapeDevice). flat_map own_mappings d.pieces) (map unshared_device ds)

data_kept : (ds : List ThinDevice) → map (λ (x : Mapping). x.data_block) (own_of ds) ≡ flat_map (λ (d : ThinDevice). map (λ (x : Mapping). x.data_block) d.mappings) ds
data_kept [] = refl
data_kept (d ∷ ds) =
    let block = λ (x : Mapping). x.data_block in
    map-append block (flat_map own_mappings (unshared_pieces d.mappings)) (own_of ds)
    ∙ ap₂ (λ (xs ys : List ℕ). xs ++ ys) (ap (map block) (own_kept d.mappings)) (data_kept ds)

pub unshared_data : (m : ThinPool) → shape_data (shape_of m) ≡ mapped_data m
unfolding shape_data shape_of
unshared_data m = data_kept m.devices

-- so the need of its shape is the pool's, by how many mappings each device has
pub need_by_mappings : (m : ThinPool) (room : ℕ) → shape_need (shape_of m) room ≡ need_of_devices (numbers m.devices) m.data_blocks (overflows_in (mapped_data m) m.data_blocks) room
unfolding shape_need need_of_shared need_of_devices shape_of shape_data used_often overflows_in
need_by_mappings m room =
    let trees = devices_trees m.devices in
    let over = ap (need_tree 4) (ap (λ (xs : List ℕ). overflows_in xs m.data_blocks) (data_kept m.devices)) in
    let number : length (counts_of m.devices) ≡ length (numbers m.devices) =
    length-map (map unshared_device m.devices) (λ (d : ShapeDevice). leaves_of_pieces d.pieces) ∙ (length-map m.devices unshared_device ∙ sym (length-map m.devices (λ (d : ThinDevice). length d.mappings))) in
    let top = ap (need_tree 8) number in
    let details = ap (need_tree 24) number in
    omega (arith, trees, over, top, details)

-- a lawful pool's devices have as many mappings as they say
mapped_are : (blocks least : ℕ) (ds : List ThinDevice) → AreDevices blocks least ds → numbers ds ≡ map (λ (d : ThinDevice). d.mapped) ds
mapped_are blocks least [] are = refl
mapped_are blocks least (d ∷ ds) are = ap₂ (λ (n : ℕ) (rest : List ℕ). n ∷ rest) (sym are.0.mapped) (mapped_are blocks (d.id + 1) ds are.1)

pub unshared_need : (m : ThinPool) (room : ℕ) → IsLawfulPool m → shape_need (shape_of m) room ≡ thin_need m room
unfolding thin_need
unshared_need m room lawful =
    need_by_mappings m room
    ∙ ap (λ (mapped : List ℕ). need_of_devices mapped m.data_blocks (overflows_in (mapped_data m) m.data_blocks) room) (mapped_are m.data_blocks 0 m.devices lawful.devices)

-- What a text of version 1 needs is what the shape of its pool needs.

-- the version of all lines is that of each front of them
stays_unshared : (line : Line) (before lines : List Line) → is_shared (line ∷ lines) ≡ false → is_shared before ≡ false → (is_shared (line ∷ before) ≡ false) × (is_shared lines ≡ false)
stays_unshared first_line before lines all so_far = (so_far, all)
stays_unshared shared_first_line before lines all so_far = absurd (true≢false all)
stays_unshared (pool_line p) before lines all so_far = (so_far, all)
stays_unshared (leaf_line l) before lines all so_far = (so_far, all)
stays_unshared (device_line d) before lines all so_far = (so_far, all)
stays_unshared (use_line n) before lines all so_far = (so_far, all)
stays_unshared (map_line r) before lines all so_far = (so_far, all)
stays_unshared end_line before lines all so_far = (so_far, all)

same_above : (room : ℕ) (lines before : List Line) → is_shared lines ≡ false → is_shared before ≡ false
    → need_above_room (pool_need_so_far room) room before lines ≡ need_above_room (thin_need_so_far room) room before lines
same_above room [] before all so_far = refl
same_above room (line ∷ lines) before all so_far =
    let next = stays_unshared line before lines all so_far in
    rw (next.0, same_above room lines (line ∷ before) next.1 next.0) refl

-- a text of version 1 that spells a pool, read as a pool's text of either version
module _ (text : List ℕ) (w : ThinShape) (s : SpellsPoolShape text w) (version : is_shared s.lines ≡ false) (u : MeansUnshared s.lines w) where
  abbrev spelled : SpellsPool text u.pool
  spelled = record { lines = s.lines; bytes = s.bytes; means = u.means }

  lines_read : (reading pool_format text).lines ≡ s.lines
  lines_read = ap (λ (r : Reading Line). r.lines) (reading_if_spelled pool_format MeansPoolShape FitsLine PlacedInPool pool_language text w s)

  thin_lines_read : (reading thin text).lines ≡ s.lines
  thin_lines_read = ap (λ (r : Reading Line). r.lines) (reading_if_spelled thin MeansPool FitsLine Placed thin_language text u.pool spelled)

  above_read : (room : ℕ) → need_above_room (pool_need_so_far room) room [] (reading pool_format text).lines ≡ need_above_room (thin_need_so_far room) room [] (reading thin text).lines
  above_read room =
      ap (need_above_room (pool_need_so_far room) room []) lines_read
      ∙ (same_above room s.lines [] version refl ∙ sym (ap (need_above_room (thin_need_so_far room) room []) thin_lines_read))

  need_is : (room : ℕ) → shape_need w room ≡ thin_need u.pool room
  need_is room = ap (λ (x : ThinShape). shape_need x room) u.shape_is ∙ unshared_need u.pool room u.means.lawful

  unshared_accepted : (room : ℕ) → shape_need w room ≤ room → IsPoolTextVerdict text room (accepted w)
  unshared_accepted room fits =
      let is = need_is room in
      let found = pool_accepted text u.pool room spelled (omega (arith, is, fits)) in
      (above_read room ∙ found.0, s)

  unshared_without_room : (room : ℕ) → room < shape_need w room
      → (needed : ℕ) × (IsPoolTextVerdict text room (no_room needed room) × ((room < needed) × (needed ≤ shape_need w room)))
  unshared_without_room room above =
      let is = need_is room in
      let found = pool_without_room text u.pool room spelled (omega (arith, is, above)) in
      let most = found.1.1.1 in
      (found.0, ((above_read room ∙ found.1.0.0, refl), (found.1.1.0, omega (arith, is, most))))

-- so in either version
by_version : (text : List ℕ) (w : ThinShape) (room : ℕ) (s : SpellsPoolShape text w) (version : Bool) → is_shared s.lines ≡ version → MeansAs version s.lines w → shape_need w room ≤ room
    → IsPoolTextVerdict text room (accepted w)
by_version text w room s true e means fits = shape_accepted text w room (record { lines = s.lines; bytes = s.bytes; means = means }) fits
by_version text w room s false e means fits = unshared_accepted text w s e means room fits

without_by_version : (text : List ℕ) (w : ThinShape) (room : ℕ) (s : SpellsPoolShape text w) (version : Bool) → is_shared s.lines ≡ version → MeansAs version s.lines w → room < shape_need w room
    → (needed : ℕ) × (IsPoolTextVerdict text room (no_room needed room) × ((room < needed) × (needed ≤ shape_need w room)))
without_by_version text w room s true e means above = shape_without_room text w room (record { lines = s.lines; bytes = s.bytes; means = means }) above
without_by_version text w room s false e means above = unshared_without_room text w s e means room above

pub either_accepted : (text : List ℕ) (w : ThinShape) (room : ℕ) → SpellsPoolShape text w → shape_need w room ≤ room → IsPoolTextVerdict text room (accepted w)
either_accepted text w room s fits = by_version text w room s (is_shared s.lines) refl s.means fits

pub either_without_room : (text : List ℕ) (w : ThinShape) (room : ℕ) → SpellsPoolShape text w → room < shape_need w room
    → (needed : ℕ) × (IsPoolTextVerdict text room (no_room needed room) × ((room < needed) × (needed ≤ shape_need w room)))
either_without_room text w room s above = without_by_version text w room s (is_shared s.lines) refl s.means above
