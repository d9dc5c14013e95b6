-- What the lines of a whole text of version 2 need is what its shape needs; so it is accepted where there is room for that.
use Rattle.std.proofs.Common.{◌≡◌, ℕ, suc, ◌+◌, ◌≤◌, ◌<◌, true, false, cond, eqb, List, [], ◌∷◌, ◌++◌, length, map, refl, sym, ◌∙◌, ap, ap₂, subst, append_assoc, append-nil, arith}
use Rattle.std.specs.List.{AllByRecursion, flat_map}
use Rattle.std.proofs.lemmas.List.{length-append, length-map, map-append}
use Rattle.std.proofs.lemmas.List.Sums.{sum_by-append}
use Rattle.std.proofs.lemmas.Grind.{flat_map-append}
use Rattle.pd_kinds.specs.Meaning.{Mapping}
use Rattle.pd_grammar.specs.Spelling.{accepted, no_room}
use Rattle.pd_grammar.specs.Texts.{has_ended}
use Rattle.pd_grammar.proofs.SpellingLemmas.{AreWithin, accepted_if_room, need_after, no_room_above}
use Rattle.pd_grammar.specs.Need.{data_of_line, overflows_in}
use Rattle.pd_grammar.specs.ThinText.{Line, Run, first_line, shared_first_line, pool_line, leaf_line, device_line, use_line, map_line, end_line, pool_format, data_blocks_of, is_shared, leaf_number, mappings_of}
use Rattle.pd_grammar.proofs.NeedLemmas.{count_of, overflows-same}
use Rattle.pd_grammar.proofs.ThinRead.{FitsLine, PlacedInPool}
use Rattle.pd_grammar.proofs.ThinLaws.{data_of, pushed, pushed_total}
use Rattle.pd_grammar.specs.ThinText as text
use Rattle.pd_laid.specs.Shape.{ArePieces, ShapeDevice, ThinShape, uses_of, uses_of_piece}
use Rattle.pd_laid.specs.PoolText.{IsPoolTextVerdict, MeansPoolShape, SpellsPoolShape, pool_need_so_far, LeafCount, leaves_of_pieces, leaves_of_told, need_of_shared, own_mappings, shape_data, shape_need, shape_need_so_far, told_devices, told_mappings, used_often, PartPiece, SharedPart, SpellsShape, device_of_part, head_of_shape, lines_of_leaves, lines_of_part, lines_of_piece, lines_of_shape, mappings_of_runs, own_runs, piece_of_part, used_leaf}
use Rattle.pd_laid.proofs.ShapeText.{pool_language}
use Rattle.pd_laid.proofs.NeedGrows.{IsMiddle, end-le, ended_are, line-le, middle_goes_on, needs, so_far_is, told_number}
use Rattle.pd_laid.proofs.ToldLeaves.{device_told, ended_need, leaves_untold, part_count, parts_told, pushed-append}

-- what each line tells of uses and leaves
abbrev use_of_line : Line → List ℕ
use_of_line first_line = []
use_of_line shared_first_line = []
use_of_line (pool_line p) = []
use_of_line (leaf_line l) = []
use_of_line (device_line d) = []
use_of_line (use_line n) = n ∷ []
use_of_line (map_line r) = []
use_of_line end_line = []

abbrev leaf_of_line : Line → List ℕ
leaf_of_line first_line = []
leaf_of_line shared_first_line = []
leaf_of_line (pool_line p) = []
leaf_of_line (leaf_line l) = 0 ∷ []
leaf_of_line (device_line d) = []
leaf_of_line (use_line n) = []
leaf_of_line (map_line r) = []
leaf_of_line end_line = []

uses_are : (before : List Line) → text.uses_of before ≡ flat_map use_of_line before
uses_are [] = refl
uses_are (first_line ∷ before) = uses_are before
uses_are (shared_first_line ∷ before) = uses_are before
uses_are (pool_line p ∷ before) = uses_are before
uses_are (leaf_line l ∷ before) = uses_are before
uses_are (device_line d ∷ before) = uses_are before
uses_are (use_line n ∷ before) = ap (λ (rest : List ℕ). n ∷ rest) (uses_are before)
uses_are (map_line r ∷ before) = uses_are before
uses_are (end_line ∷ before) = uses_are before

number_is : (before : List Line) → leaf_number before ≡ length (flat_map leaf_of_line before)
number_is [] = refl
number_is (first_line ∷ before) = number_is before
number_is (shared_first_line ∷ before) = number_is before
number_is (pool_line p ∷ before) = number_is before
number_is (leaf_line l ∷ before) = ap suc (number_is before)
number_is (device_line d ∷ before) = number_is before
number_is (use_line n ∷ before) = number_is before
number_is (map_line r ∷ before) = number_is before
number_is (end_line ∷ before) = number_is before

data_both : (xs ys : List Mapping) → data_of (xs ++ ys) ≡ data_of xs ++ data_of ys
data_both xs ys = map-append (λ (x : Mapping). x.data_block) xs ys

both : (f : Line → List ℕ) (xs ys : List Line) (a b : List ℕ) → flat_map f xs ≡ a → flat_map f ys ≡ b → flat_map f (xs ++ ys) ≡ a ++ b
both f xs ys a b front back = flat_map-append f xs ys ∙ ap₂ (λ (xs ys : List ℕ). xs ++ ys) front back

runs_use : (runs : List Run) → flat_map use_of_line (map map_line runs) ≡ []
runs_use [] = refl
runs_use (r ∷ runs) = runs_use runs

runs_leaf : (runs : List Run) → flat_map leaf_of_line (map map_line runs) ≡ []
runs_leaf [] = refl
runs_leaf (r ∷ runs) = runs_leaf runs

runs_data : (runs : List Run) → flat_map data_of_line (map map_line runs) ≡ data_of (mappings_of_runs runs)
runs_data [] = refl
runs_data (r ∷ runs) = ap (λ (rest : List ℕ). data_of (mappings_of r) ++ rest) (runs_data runs) ∙ sym (data_both (mappings_of r) (mappings_of_runs runs))

leaves_use : (k : ℕ) (leaves : List (List Run)) → flat_map use_of_line (lines_of_leaves k leaves) ≡ []
leaves_use k [] = refl
leaves_use k (runs ∷ leaves) = both use_of_line (map map_line runs) (lines_of_leaves (k + 1) leaves) [] [] (runs_use runs) (leaves_use (k + 1) leaves)

leaves_leaf : (k : ℕ) (leaves : List (List Run)) → length (flat_map leaf_of_line (lines_of_leaves k leaves)) ≡ length leaves
leaves_leaf k [] = refl
leaves_leaf k (runs ∷ leaves) =
    let rest = leaves_leaf (k + 1) leaves in
    let split = ap (λ (xs : List ℕ). length xs) (both leaf_of_line (map map_line runs) (lines_of_leaves (k + 1) leaves) [] (flat_map leaf_of_line (lines_of_leaves (k + 1) leaves)) (runs_leaf runs) refl) in
    omega (arith, rest, split)

leaves_data : (k : ℕ) (leaves : List (List Run)) → flat_map data_of_line (lines_of_leaves k leaves) ≡ data_of (flat_map (λ ms. ms) (map mappings_of_runs leaves))
leaves_data k [] = refl
leaves_data k (runs ∷ leaves) =
    both data_of_line (map map_line runs) (lines_of_leaves (k + 1) leaves) (data_of (mappings_of_runs runs)) (data_of (flat_map (λ ms. ms) (map mappings_of_runs leaves))) (runs_data runs) (leaves_data (k + 1) leaves)
    ∙ sym (data_both (mappings_of_runs runs) (flat_map (λ ms. ms) (map mappings_of_runs leaves)))

pieces_use : (pieces : List PartPiece) → flat_map use_of_line (flat_map lines_of_piece pieces) ≡ flat_map uses_of_piece (map piece_of_part pieces)
pieces_use [] = refl
pieces_use (own_runs runs ∷ pieces) = both use_of_line (map map_line runs) (flat_map lines_of_piece pieces) [] (flat_map uses_of_piece (map piece_of_part pieces)) (runs_use runs) (pieces_use pieces)
pieces_use (used_leaf n ∷ pieces) = ap (λ (rest : List ℕ). n ∷ rest) (pieces_use pieces)

pieces_leaf : (pieces : List PartPiece) → flat_map leaf_of_line (flat_map lines_of_piece pieces) ≡ []
pieces_leaf [] = refl
pieces_leaf (own_runs runs ∷ pieces) = both leaf_of_line (map map_line runs) (flat_map lines_of_piece pieces) [] [] (runs_leaf runs) (pieces_leaf pieces)
pieces_leaf (used_leaf n ∷ pieces) = pieces_leaf pieces

pieces_data : (pieces : List PartPiece) → flat_map data_of_line (flat_map lines_of_piece pieces) ≡ data_of (flat_map own_mappings (map piece_of_part pieces))
pieces_data [] = refl
pieces_data (own_runs runs ∷ pieces) =
    both data_of_line (map map_line runs) (flat_map lines_of_piece pieces) (data_of (mappings_of_runs runs)) (data_of (flat_map own_mappings (map piece_of_part pieces))) (runs_data runs) (pieces_data pieces)
    ∙ sym (data_both (mappings_of_runs runs) (flat_map own_mappings (map piece_of_part pieces)))
pieces_data (used_leaf n ∷ pieces) = pieces_data pieces

abbrev devices_of : List SharedPart → List ShapeDevice
devices_of parts = map device_of_part parts

abbrev pub own_of : List ShapeDevice → List Mapping
own_of ds = flat_map (λ (d : ShapeDevice). flat_map own_mappings d.pieces) ds

parts_use : (parts : List SharedPart) → flat_map use_of_line (flat_map lines_of_part parts) ≡ flat_map uses_of (devices_of parts)
parts_use [] = refl
parts_use (p ∷ parts) = both use_of_line (flat_map lines_of_piece p.pieces) (flat_map lines_of_part parts) (flat_map uses_of_piece (map piece_of_part p.pieces)) (flat_map uses_of (devices_of parts)) (pieces_use p.pieces) (parts_use parts)

parts_leaf : (parts : List SharedPart) → flat_map leaf_of_line (flat_map lines_of_part parts) ≡ []
parts_leaf [] = refl
parts_leaf (p ∷ parts) = both leaf_of_line (flat_map lines_of_piece p.pieces) (flat_map lines_of_part parts) [] [] (pieces_leaf p.pieces) (parts_leaf parts)

parts_data : (parts : List SharedPart) → flat_map data_of_line (flat_map lines_of_part parts) ≡ data_of (own_of (devices_of parts))
parts_data [] = refl
parts_data (p ∷ parts) =
    both data_of_line (flat_map lines_of_piece p.pieces) (flat_map lines_of_part parts) (data_of (flat_map own_mappings (map piece_of_part p.pieces))) (data_of (own_of (devices_of parts))) (pieces_data p.pieces) (parts_data parts)
    ∙ sym (data_both (flat_map own_mappings (map piece_of_part p.pieces)) (own_of (devices_of parts)))

-- they are all lines between the pool's and the end
middle_both : (xs ys : List Line) → AllByRecursion IsMiddle xs → AllByRecursion IsMiddle ys → AllByRecursion IsMiddle (xs ++ ys)
middle_both [] ys p q = q
middle_both (x ∷ xs) ys p q = (p.0, middle_both xs ys p.1 q)

runs_middle : (runs : List Run) → AllByRecursion IsMiddle (map map_line runs)
runs_middle [] = tt
runs_middle (r ∷ runs) = (tt, runs_middle runs)

leaves_middle : (k : ℕ) (leaves : List (List Run)) → AllByRecursion IsMiddle (lines_of_leaves k leaves)
leaves_middle k [] = tt
leaves_middle k (runs ∷ leaves) = (tt, middle_both (map map_line runs) (lines_of_leaves (k + 1) leaves) (runs_middle runs) (leaves_middle (k + 1) leaves))

pieces_middle : (pieces : List PartPiece) → AllByRecursion IsMiddle (flat_map lines_of_piece pieces)
pieces_middle [] = tt
pieces_middle (own_runs runs ∷ pieces) = middle_both (map map_line runs) (flat_map lines_of_piece pieces) (runs_middle runs) (pieces_middle pieces)
pieces_middle (used_leaf n ∷ pieces) = (tt, pieces_middle pieces)

parts_middle : (parts : List SharedPart) → AllByRecursion IsMiddle (flat_map lines_of_part parts)
parts_middle [] = tt
parts_middle (p ∷ parts) = (tt, middle_both (flat_map lines_of_piece p.pieces) (flat_map lines_of_part parts) (pieces_middle p.pieces) (parts_middle parts))

keeps_data : (line : Line) (before : List Line) → IsMiddle line → data_blocks_of (line ∷ before) ≡ data_blocks_of before
keeps_data first_line before middle = refl
keeps_data shared_first_line before middle = refl
keeps_data (pool_line p) before middle = absurd middle
keeps_data (leaf_line l) before middle = refl
keeps_data (device_line d) before middle = refl
keeps_data (use_line n) before middle = refl
keeps_data (map_line r) before middle = refl
keeps_data end_line before middle = refl

pushed_data : (lines before : List Line) → AllByRecursion IsMiddle lines → data_blocks_of (pushed before lines) ≡ data_blocks_of before
pushed_data [] before middle = refl
pushed_data (line ∷ lines) before middle = pushed_data lines (line ∷ before) middle.1 ∙ keeps_data line before middle.0

keeps_version : (line : Line) (before : List Line) → IsMiddle line → is_shared before ≡ true → is_shared (line ∷ before) ≡ true
keeps_version first_line before middle version = absurd middle
keeps_version shared_first_line before middle version = absurd middle
keeps_version (pool_line p) before middle version = absurd middle
keeps_version (leaf_line l) before middle version = version
keeps_version (device_line d) before middle version = version
keeps_version (use_line n) before middle version = version
keeps_version (map_line r) before middle version = version
keeps_version end_line before middle version = absurd middle

-- the need by the version
module _ (room : ℕ) where
  abbrev need : List Line → ℕ
  need before = pool_need_so_far room before

  by_version : (before : List Line) → is_shared before ≡ true → pool_need_so_far room before ≡ shape_need_so_far room before
  by_version before version = rw version refl

  after_is : (lines before : List Line) → need_after need before lines ≡ pool_need_so_far room (pushed before lines)
  after_is [] before = refl
  after_is (line ∷ lines) before = after_is lines (line ∷ before)

  -- each line's need is at most that of the last one
  record AreFewer (before lines : List Line) : Type 0 where
    here : pool_need_so_far room before ≤ need_after (pool_need_so_far room) before lines
    each : AreWithin (pool_need_so_far room) (need_after (pool_need_so_far room) before lines) before lines

  fewer : (lines before : List Line) → AllByRecursion IsMiddle lines → has_ended pool_format before ≡ false → is_shared before ≡ true → AreFewer before (lines ++ (end_line ∷ []))
  fewer [] before middle open_still version =
      record { here = rw (by_version before version, by_version (end_line ∷ before) version) (end-le room before open_still); each = (λ some. omega arith, tt) }
  fewer (line ∷ lines) before middle open_still version =
      let next = keeps_version line before middle.0 version in
      let rest = fewer lines (line ∷ before) middle.1 (middle_goes_on line before middle.0) next in
      let grows = line-le room line before middle.0 open_still in
      record {
        here = omega (arith, rest.here, by_version before version, by_version (line ∷ before) next, grows);
        each = (λ some. rest.here, rest.each);
      }

shared-same : (a b o p : ℕ) (ds es : List LeafCount) (m n u v room : ℕ) → a ≡ b → o ≡ p → needs ds ≡ needs es → length ds ≡ length es → m ≡ n → u ≡ v
    → need_of_shared a o ds m u room ≡ need_of_shared b p es n v room
unfolding need_of_shared
shared-same a b o p ds es m n u v room leaves often trees number blocks over = rw (leaves, often, trees, number, blocks, over) refl

-- a text's devices have the leaves of the shape's
parts_same : (number : ℕ) (parts : List SharedPart) → AllByRecursion (λ (d : ShapeDevice). ArePieces number d.pieces) (devices_of parts)
    → map part_count parts ≡ map (λ (d : ShapeDevice). leaves_of_pieces d.pieces) (devices_of parts)
parts_same number [] are = refl
parts_same number (p ∷ parts) are = ap₂ (λ (c : LeafCount) (rest : List LeafCount). c ∷ rest) (device_told number p.pieces are.0) (parts_same number parts are.1)

module _ (room : ℕ) (w : ThinShape) (leaves : List (List Run)) (parts : List SharedPart) (leaves_are : map mappings_of_runs leaves ≡ w.leaves) (devices_are : map device_of_part parts ≡ w.devices)
    (pieces : AllByRecursion (λ (d : ShapeDevice). ArePieces (length w.leaves) d.pieces) w.devices) where
  abbrev pub start : List Line
  start = pool_line (head_of_shape w) ∷ shared_first_line ∷ []

  abbrev pub middle : List Line
  middle = lines_of_leaves 0 leaves ++ flat_map lines_of_part parts

  all_middle : AllByRecursion IsMiddle (lines_of_leaves 0 leaves ++ flat_map lines_of_part parts)
  all_middle = middle_both (lines_of_leaves 0 leaves) (flat_map lines_of_part parts) (leaves_middle 0 leaves) (parts_middle parts)

  abbrev pub told : List Line
  told = pushed start middle

  pub uses_counted : (k : ℕ) → count_of k (text.uses_of told) ≡ count_of k (flat_map uses_of w.devices)
  uses_counted k =
      let total = pushed_total (count_of k) (sum_by-append (λ b. cond {A = ℕ} (eqb b k) 1 0)) use_of_line middle start in
      let order = ap (count_of k) (both use_of_line (lines_of_leaves 0 leaves) (flat_map lines_of_part parts) [] (flat_map uses_of (devices_of parts)) (leaves_use 0 leaves) (parts_use parts)
      ∙ ap (flat_map uses_of) devices_are) in
      ap (count_of k) (uses_are told) ∙ omega (arith, total, order)

  pub number_counted : leaf_number told ≡ length w.leaves
  number_counted =
      let total = pushed_total (λ (xs : List ℕ). length xs) length-append leaf_of_line middle start in
      let order = ap (λ (xs : List ℕ). length xs) (both leaf_of_line (lines_of_leaves 0 leaves) (flat_map lines_of_part parts) (flat_map leaf_of_line (lines_of_leaves 0 leaves)) [] refl (parts_leaf parts)
      ∙ append-nil (flat_map leaf_of_line (lines_of_leaves 0 leaves))) in
      let same = ap (λ (ls : List (List Mapping)). length ls) leaves_are in
      number_is told ∙ omega (arith, total, order, leaves_leaf 0 leaves, length-map leaves mappings_of_runs, same)

  pub data_counted : (d : ℕ) → count_of d (flat_map data_of_line told) ≡ count_of d (shape_data w)
  unfolding shape_data
  data_counted d =
      let total = pushed_total (count_of d) (sum_by-append (λ b. cond {A = ℕ} (eqb b d) 1 0)) data_of_line middle start in
      let joined = flat_map (λ (ms : List Mapping). ms) (map mappings_of_runs leaves) in
      let order : flat_map data_of_line middle ≡ data_of (told_mappings w) =
      both data_of_line (lines_of_leaves 0 leaves) (flat_map lines_of_part parts) (data_of joined) (data_of (own_of (devices_of parts))) (leaves_data 0 leaves) (parts_data parts)
      ∙ (sym (data_both joined (own_of (devices_of parts)))
      ∙ ap₂ (λ (ls : List (List Mapping)) (ds : List ShapeDevice). data_of (flat_map (λ ms. ms) ls ++ own_of ds)) leaves_are devices_are) in
      let counted = ap (count_of d) order in
      omega (arith, total, counted)

  -- the devices' leaves
  abbrev shape_counts : List LeafCount
  shape_counts = map (λ (d : ShapeDevice). leaves_of_pieces d.pieces) w.devices

  parts_are : map part_count parts ≡ map (λ (d : ShapeDevice). leaves_of_pieces d.pieces) w.devices
  parts_are =
      parts_same (length w.leaves) parts (subst (λ (ds : List ShapeDevice). AllByRecursion (λ (d : ShapeDevice). ArePieces (length w.leaves) d.pieces) ds) (sym devices_are) pieces)
      ∙ ap (map (λ (d : ShapeDevice). leaves_of_pieces d.pieces)) devices_are

  none_before : told_devices (pushed start (lines_of_leaves 0 leaves)) ≡ []
  none_before = leaves_untold 0 leaves start refl

  devices_counted : (needs (leaves_of_told true (told_devices told)) ≡ needs shape_counts) × (length (leaves_of_told true (told_devices told)) ≡ length shape_counts)
  devices_counted =
      let split = pushed-append start (lines_of_leaves 0 leaves) (flat_map lines_of_part parts) in
      let found = parts_told parts (pushed start (lines_of_leaves 0 leaves)) in
      let empty_need : ended_need (pushed start (lines_of_leaves 0 leaves)) ≡ 0 = rw none_before refl in
      let empty_number : length (told_devices (pushed start (lines_of_leaves 0 leaves))) ≡ 0 = rw none_before refl in
      let counts = ap needs parts_are in
      let size = ap (λ (cs : List LeafCount). length cs) parts_are in
      let ended = ap needs (ended_are (told_devices told)) in
      let whole = ap ended_need split in
      let number = ap (λ (ls : List Line). length (told_devices ls)) split in (
        omega (arith, ended, whole, found.0, empty_need, counts),
        omega (arith, told_number true (told_devices told), number, found.1, empty_number, size, length-map parts part_count),
      )

  pub blocks_are : data_blocks_of told ≡ w.data_blocks
  blocks_are = pushed_data middle start all_middle

  pub end_need : shape_need_so_far room (end_line ∷ told) ≡ shape_need w room
  unfolding shape_need used_often
  end_need =
      let number = number_counted in
      let trees = devices_counted in
      so_far_is room (end_line ∷ told) true refl
      ∙ shared-same (leaf_number told) (length w.leaves) (used_often (text.uses_of told) (leaf_number told)) (used_often (flat_map uses_of w.devices) (length w.leaves))
      (leaves_of_told true (told_devices told)) shape_counts (data_blocks_of told) w.data_blocks
      (overflows_in (flat_map data_of_line told) (data_blocks_of told)) (overflows_in (shape_data w) w.data_blocks) room
      number (overflows-same (text.uses_of told) (flat_map uses_of w.devices) (leaf_number told) uses_counted ∙ ap (overflows_in (flat_map uses_of w.devices)) number)
      trees.0 trees.1 blocks_are
      (overflows-same (flat_map data_of_line told) (shape_data w) (data_blocks_of told) data_counted ∙ ap (overflows_in (shape_data w)) blocks_are)

  version_kept : (lines before : List Line) → AllByRecursion IsMiddle lines → is_shared before ≡ true → is_shared (pushed before lines) ≡ true
  version_kept [] before all version = version
  version_kept (line ∷ lines) before all version = version_kept lines (line ∷ before) all.1 (keeps_version line before all.0 version)

  last_need : need_after (pool_need_so_far room) start (middle ++ (end_line ∷ [])) ≡ shape_need w room
  last_need =
      after_is room (middle ++ (end_line ∷ [])) start
      ∙ (ap (pool_need_so_far room) (pushed-append start middle (end_line ∷ []))
      ∙ (by_version room (end_line ∷ told) (version_kept middle start all_middle refl) ∙ end_need))

  pub lines_joined : lines_of_leaves 0 leaves ++ (flat_map lines_of_part parts ++ (end_line ∷ [])) ≡ middle ++ (end_line ∷ [])
  lines_joined = sym (append_assoc (lines_of_leaves 0 leaves) (flat_map lines_of_part parts) (end_line ∷ []))

  whole_need : need_after (pool_need_so_far room) [] (lines_of_shape (head_of_shape w) leaves parts) ≡ shape_need w room
  whole_need = ap (need_after (pool_need_so_far room) start) lines_joined ∙ last_need

  lines_within : AreWithin (pool_need_so_far room) (shape_need w room) [] (lines_of_shape (head_of_shape w) leaves parts)
  lines_within =
      let all = fewer room middle start all_middle refl refl in
      let each = subst (λ (n : ℕ). AreWithin (pool_need_so_far room) n start (middle ++ (end_line ∷ []))) last_need all.each in (
        λ some. absurd (omega (arith, some)),
        (
          λ some. omega (arith, all.here, last_need),
          subst (λ (lines : List Line). AreWithin (pool_need_so_far room) (shape_need w room) start lines) (sym lines_joined) each,
        ),
      )

-- a text of version 2 spells its shape as a pool's text
version_means : (text : List ℕ) (w : ThinShape) (s : SpellsShape text w) → MeansPoolShape s.lines w
version_means text w s = let version : is_shared s.lines ≡ true = ap is_shared s.means.lines_are in rw version s.means

abbrev spelled_so : (text : List ℕ) (w : ThinShape) → SpellsShape text w → SpellsPoolShape text w
spelled_so text w s = record { lines = s.lines; bytes = s.bytes; means = version_means text w s }

-- what is spelled is accepted where there is room
pub shape_accepted : (text : List ℕ) (w : ThinShape) (room : ℕ) → SpellsShape text w → shape_need w room ≤ room → IsPoolTextVerdict text room (accepted w)
shape_accepted text w room s fits =
    let means = s.means in
    let within : AreWithin (pool_need_so_far room) (shape_need w room) [] s.lines = rw means.lines_are (lines_within room w means.leaves means.parts means.leaves_are means.devices_are means.shape.pieces) in
    accepted_if_room pool_format MeansPoolShape FitsLine PlacedInPool pool_language (pool_need_so_far room) text w room (shape_need w room) (spelled_so text w s) fits within

-- and elsewhere there is no room
pub shape_without_room : (text : List ℕ) (w : ThinShape) (room : ℕ) → SpellsShape text w → room < shape_need w room
    → (needed : ℕ) × (IsPoolTextVerdict text room (no_room needed room) × ((room < needed) × (needed ≤ shape_need w room)))
shape_without_room text w room s above =
    let means = s.means in
    let within : AreWithin (pool_need_so_far room) (shape_need w room) [] s.lines = rw means.lines_are (lines_within room w means.leaves means.parts means.leaves_are means.devices_are means.shape.pieces) in
    let last : room < need_after (pool_need_so_far room) [] s.lines = rw (means.lines_are, whole_need room w means.leaves means.parts means.leaves_are means.devices_are means.shape.pieces) above in
    let two : 2 ≤ length s.lines = rw means.lines_are (omega arith) in
    no_room_above pool_format MeansPoolShape FitsLine PlacedInPool pool_language (pool_need_so_far room) text w room (shape_need w room) (spelled_so text w s) last two within
