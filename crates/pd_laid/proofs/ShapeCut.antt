-- The lines of a text of version 2, cut into leaves and devices: they mean one shape only.
use Rattle.std.proofs.Common.{◌≡◌, ℕ, ◌+◌, List, [], ◌∷◌, ◌++◌, length, map, refl, ap, sym, ◌∙◌, append_assoc, arith, zero, suc, ◌≤◌, ◌<◌, true, false, not, eqb, if◌then◌else◌, inl, inr, length-append, get_or, append-nil}
use Rattle.std.specs.List.{AllByRecursion, flat_map, list_any, range_with_len}
use Rattle.std.proofs.lemmas.Bool.{true≢false, cases_Bool}
use Rattle.std.proofs.lemmas.Bool.Decides.{nat_tests}
use Rattle.std.proofs.lemmas.List.Folds.{list_any_at}
use Rattle.std.proofs.lemmas.List.FromFn.{length-range_with_len, get_or-range_with_len}
use Rattle.pd_kinds.specs.Meaning.{Mapping}
use Rattle.pd_kinds.proofs.NumberLemmas.{both_more}
use Rattle.pd_grammar.specs.ThinText.{Run, Head, LeafHead, Line, first_line, shared_first_line, pool_line, leaf_line, device_line, use_line, map_line, end_line, mappings_of, least_of, end_of}
use Rattle.pd_grammar.specs.Lawful.{AreMappings}
use Rattle.pd_grammar.proofs.ThinMeaning.{run_mappings, run_fits, mappings_length}
use Rattle.pd_laid.specs.Shape.{ShapeDevice, ThinShape, ArePieces, own, piece_mappings, uses_of_piece}
use Rattle.pd_laid.specs.PoolText.{PartPiece, own_runs, used_leaf, SharedPart, mappings_of_runs, piece_of_part, device_of_part, head_of_shape, lines_of_leaves, lines_of_piece, lines_of_part, MeansShape, HaveMappings, HasPieceMappings}
use Rattle.pd_laid.proofs.LeafRuns.{list_at, is_used}
use Rattle.pd_laid.proofs.ShapeLines.{rest_pieces}

-- what is left of a text: the runs of the leaf or of the piece that is open, the pieces that follow in the device that is
-- open, and the leaves and the devices after it
pub record Cut : Type 0 where
  pub runs : List Run
  pub pieces : List PartPiece
  pub leaves : List (List Run)
  pub parts : List SharedPart

-- runs before pieces are a piece of a device's own
abbrev pub with_runs : List Run → List PartPiece → List PartPiece
with_runs [] pieces = pieces
with_runs (r ∷ runs) pieces = own_runs (r ∷ runs) ∷ pieces

abbrev pub add_line : Line → Cut → Cut
add_line first_line cut = cut
add_line shared_first_line cut = cut
add_line (pool_line p) cut = cut
add_line (leaf_line l) cut = record { runs = []; pieces = []; leaves = cut.runs ∷ cut.leaves; parts = cut.parts }
add_line (device_line d) cut =
    record { runs = []; pieces = []; leaves = []; parts = record { details = d; pieces = with_runs cut.runs cut.pieces } ∷ cut.parts }
add_line (use_line n) cut = record { runs = []; pieces = used_leaf n ∷ with_runs cut.runs cut.pieces; leaves = []; parts = cut.parts }
add_line (map_line r) cut = record { runs = r ∷ cut.runs; pieces = cut.pieces; leaves = cut.leaves; parts = cut.parts }
add_line end_line cut = record { runs = []; pieces = []; leaves = []; parts = [] }

abbrev pub cut_of : List Line → Cut
cut_of [] = record { runs = []; pieces = []; leaves = []; parts = [] }
cut_of (line ∷ lines) = add_line line (cut_of lines)

cut_runs : (runs : List Run) (tail : List Line) (pieces : List PartPiece) (leaves : List (List Run)) (parts : List SharedPart)
    → cut_of tail ≡ record { runs = []; pieces = pieces; leaves = leaves; parts = parts }
    → cut_of (map map_line runs ++ tail) ≡ record { runs = runs; pieces = pieces; leaves = leaves; parts = parts }
cut_runs [] tail pieces leaves parts e = e
cut_runs (r ∷ runs) tail pieces leaves parts e = ap (add_line (map_line r)) (cut_runs runs tail pieces leaves parts e)

-- the runs that pieces begin with, and the pieces after these
abbrev front_runs : List PartPiece → List Run
front_runs [] = []
front_runs (own_runs runs ∷ pieces) = runs
front_runs (used_leaf n ∷ pieces) = []

abbrev after_front : List PartPiece → List PartPiece
after_front [] = []
after_front (own_runs runs ∷ pieces) = pieces
after_front (used_leaf n ∷ pieces) = used_leaf n ∷ pieces

joined_front : (count : ℕ) (pieces : List PartPiece) → ArePieces count (map piece_of_part pieces) → with_runs (front_runs pieces) (after_front pieces) ≡ pieces
joined_front count [] are = refl
joined_front count (own_runs [] ∷ []) are = absurd (omega (arith, are))
joined_front count (own_runs [] ∷ own_runs others ∷ pieces) are = absurd are
joined_front count (own_runs [] ∷ used_leaf n ∷ pieces) are = absurd (omega (arith, are.0))
joined_front count (own_runs (r ∷ runs) ∷ pieces) are = refl
joined_front count (used_leaf n ∷ pieces) are = refl

cut_pieces : (count : ℕ) (pieces : List PartPiece) (tail : List Line) (parts : List SharedPart) → ArePieces count (map piece_of_part pieces)
    → cut_of tail ≡ record { runs = []; pieces = []; leaves = []; parts = parts }
    → cut_of (flat_map lines_of_piece pieces ++ tail) ≡ record { runs = front_runs pieces; pieces = after_front pieces; leaves = []; parts = parts }
cut_pieces count [] tail parts are e = e
cut_pieces count (own_runs runs ∷ []) tail parts are e =
    ap cut_of (append_assoc (map map_line runs) [] tail) ∙ cut_runs runs tail [] [] parts e
cut_pieces count (own_runs runs ∷ own_runs others ∷ pieces) tail parts are e = absurd are
cut_pieces count (own_runs runs ∷ used_leaf n ∷ pieces) tail parts are e =
    let rest = flat_map lines_of_piece pieces in
    ap cut_of (append_assoc (map map_line runs) (use_line n ∷ rest) tail)
    ∙ cut_runs runs (use_line n ∷ (rest ++ tail)) (used_leaf n ∷ pieces) [] parts (cut_pieces count (used_leaf n ∷ pieces) tail parts are.1 e)
cut_pieces count (used_leaf n ∷ pieces) tail parts are e =
    ap (add_line (use_line n)) (cut_pieces count pieces tail parts are.1 e)
    ∙ ap (λ (ps : List PartPiece). record { runs = []; pieces = used_leaf n ∷ ps; leaves = []; parts = parts }) (joined_front count pieces are.1)

cut_parts : (count : ℕ) (parts : List SharedPart) → AllByRecursion (λ (d : ShapeDevice). ArePieces count d.pieces) (map device_of_part parts)
    → cut_of (flat_map lines_of_part parts ++ (end_line ∷ [])) ≡ record { runs = []; pieces = []; leaves = []; parts = parts }
cut_parts count [] are = refl
cut_parts count (p ∷ parts) are =
    let rest = flat_map lines_of_part parts in
    let pieces = cut_pieces count p.pieces (rest ++ (end_line ∷ [])) parts are.0 (cut_parts count parts are.1) in
    ap (λ (ls : List Line). add_line (device_line p.details) (cut_of ls)) (append_assoc (flat_map lines_of_piece p.pieces) rest (end_line ∷ []))
    ∙ ap (add_line (device_line p.details)) pieces
    ∙ ap (λ (ps : List PartPiece). record { runs = []; pieces = []; leaves = []; parts = record { details = p.details; pieces = ps } ∷ parts }) (joined_front count p.pieces are.0)

cut_leaves : (number : ℕ) (leaves : List (List Run)) (tail : List Line) (parts : List SharedPart)
    → cut_of tail ≡ record { runs = []; pieces = []; leaves = []; parts = parts }
    → cut_of (lines_of_leaves number leaves ++ tail) ≡ record { runs = []; pieces = []; leaves = leaves; parts = parts }
cut_leaves number [] tail parts e = e
cut_leaves number (runs ∷ leaves) tail parts e =
    let rest = lines_of_leaves (number + 1) leaves in
    let head : LeafHead = record { number = number; entries = length (mappings_of_runs runs) } in
    ap (λ (ls : List Line). add_line (leaf_line head) (cut_of ls)) (append_assoc (map map_line runs) rest tail)
    ∙ ap (add_line (leaf_line head)) (cut_runs runs (rest ++ tail) [] leaves parts (cut_leaves (number + 1) leaves tail parts e))

-- the leaves and devices of the lines that mean a shape are those of its cut
shape_cut : (lines : List Line) (w : ThinShape) (m : MeansShape lines w)
    → cut_of lines ≡ record { runs = []; pieces = []; leaves = m.leaves; parts = m.parts }
shape_cut lines w m =
    let are : AllByRecursion (λ (d : ShapeDevice). ArePieces (length w.leaves) d.pieces) (map device_of_part m.parts) = rw m.devices_are m.shape.pieces in
    ap cut_of m.lines_are
    ∙ cut_leaves 0 m.leaves (flat_map lines_of_part m.parts ++ (end_line ∷ [])) m.parts (cut_parts (length w.leaves) m.parts are)

one_shape : (h k : Head) (a b : List (List Mapping)) (c d : List ShapeDevice) → h ≡ k → a ≡ b → c ≡ d
    → ◌≡◌ {A = ThinShape} (record { uuid = h.uuid; time = h.time; transaction = h.transaction; block_size = h.block_size; data_blocks = h.data_blocks; leaves = a; devices = c })
    (record { uuid = k.uuid; time = k.time; transaction = k.transaction; block_size = k.block_size; data_blocks = k.data_blocks; leaves = b; devices = d })
one_shape h k a b c d e f g = cc

one_head : (h k : Head) (a b : List Line) → shared_first_line ∷ pool_line h ∷ a ≡ shared_first_line ∷ pool_line k ∷ b → h ≡ k
one_head h k a b e = cc

-- lines of version 2 mean one shape
pub one_shared_meaning : (lines : List Line) (w x : ThinShape) → MeansShape lines w → MeansShape lines x → w ≡ x
one_shared_meaning lines w x m n =
    let cuts = sym (shape_cut lines w m) ∙ shape_cut lines x n in
    let leaves : m.leaves ≡ n.leaves = ap (λ (c : Cut). c.leaves) cuts in
    let parts : m.parts ≡ n.parts = ap (λ (c : Cut). c.parts) cuts in
    one_shape (head_of_shape w) (head_of_shape x) w.leaves x.leaves w.devices x.devices
    (one_head (head_of_shape w) (head_of_shape x) _ _ (sym m.lines_are ∙ n.lines_are))
    (sym m.leaves_are ∙ ap (map mappings_of_runs) leaves ∙ n.leaves_are)
    (sym m.devices_are ∙ ap (map device_of_part) parts ∙ n.devices_are)

-- Pieces of devices, and what is known of a leaf and of its runs.

-- the mappings of runs that begin high enough, and those after their end
pub runs_before : (blocks start least : ℕ) (runs : List Run) (rest : List Mapping) → least ≤ least_of runs → HaveMappings runs
    → AreMappings blocks start (mappings_of_runs runs) → AreMappings blocks (end_of runs) rest → AreMappings blocks least (mappings_of_runs runs ++ rest)
runs_before blocks start least [] rest above have are more = let none : least ≡ 0 = omega arith in rw none more
runs_before blocks start least (r ∷ []) rest above have are more =
    let fits = run_fits blocks start r.virtual_block r.data_block r.time r.length [] are have.0 in
    rw (append-nil (mappings_of r))
    (run_mappings blocks least r.virtual_block r.data_block r.time r.length rest above fits.0.fits fits.0.within fits.0.time more have.0)
runs_before blocks start least (r ∷ s ∷ runs) rest above have are more =
    let end = r.virtual_block + r.length in
    let fits = run_fits blocks start r.virtual_block r.data_block r.time r.length (mappings_of_runs (s ∷ runs)) are have.0 in
    let next = run_fits blocks end s.virtual_block s.data_block s.time s.length (mappings_of_runs runs) fits.1 have.1.0 in
    rw (append_assoc (mappings_of r) (mappings_of_runs (s ∷ runs)) rest)
    (run_mappings blocks least r.virtual_block r.data_block r.time r.length (mappings_of_runs (s ∷ runs) ++ rest) above fits.0.fits fits.0.within fits.0.time
    (runs_before blocks end end (s ∷ runs) rest next.0.above have.1 fits.1 more) have.0)

pub some_mappings : (r : Run) (runs : List Run) → HaveMappings (r ∷ runs) → 1 ≤ length (mappings_of_runs (r ∷ runs))
some_mappings r runs have =
    omega (arith, have.0, length-append (mappings_of r) (mappings_of_runs runs), mappings_length r.virtual_block r.data_block r.time r.length)

pub no_runs : (runs : List Run) → HaveMappings runs → length (mappings_of_runs runs) ≡ 0 → runs ≡ []
no_runs [] have none = refl
no_runs (r ∷ runs) have none = absurd (omega (arith, have.0, none, some_mappings r runs have))

-- runs before pieces: their lines, their mappings, the leaves that they use, and that they are pieces
pub with_runs_lines : (runs : List Run) (pieces : List PartPiece) (tail : List Line)
    → flat_map lines_of_piece (with_runs runs pieces) ++ tail ≡ map map_line runs ++ (flat_map lines_of_piece pieces ++ tail)
with_runs_lines [] pieces tail = refl
with_runs_lines (r ∷ runs) pieces tail = append_assoc (map map_line (r ∷ runs)) (flat_map lines_of_piece pieces) tail

pub with_runs_mappings : (all : List (List Mapping)) (runs : List Run) (pieces : List PartPiece)
    → flat_map (piece_mappings all) (map piece_of_part (with_runs runs pieces)) ≡ mappings_of_runs runs ++ flat_map (piece_mappings all) (map piece_of_part pieces)
with_runs_mappings all [] pieces = refl
with_runs_mappings all (r ∷ runs) pieces = refl

pub with_runs_uses : (runs : List Run) (pieces : List PartPiece)
    → flat_map uses_of_piece (map piece_of_part (with_runs runs pieces)) ≡ flat_map uses_of_piece (map piece_of_part pieces)
with_runs_uses [] pieces = refl
with_runs_uses (r ∷ runs) pieces = refl

pub with_runs_have : (runs : List Run) (pieces : List PartPiece) → HaveMappings runs → AllByRecursion HasPieceMappings pieces
    → AllByRecursion HasPieceMappings (with_runs runs pieces)
with_runs_have [] pieces have more = more
with_runs_have (r ∷ runs) pieces have more = (have, more)

pub with_runs_pieces : (count : ℕ) (runs : List Run) (pieces : List PartPiece) → HaveMappings runs
    → ((ms : List Mapping) → 1 ≤ length ms → ArePieces count (own ms ∷ map piece_of_part pieces)) → ArePieces count (map piece_of_part (with_runs runs pieces))
with_runs_pieces count [] pieces have are =
    let m : Mapping = record { virtual_block = 0; data_block = 0; time = 0 } in
    rest_pieces count (own (m ∷ [])) (map piece_of_part pieces) (are (m ∷ []) (omega arith))
with_runs_pieces count (r ∷ runs) pieces have are =
    are (mappings_of_runs (r ∷ runs)) (some_mappings r runs have)

-- the lines of a leaf before those of leaves
pub leaf_lines : (number : ℕ) (l : LeafHead) (runs : List Run) (leaves : List (List Run)) (tail lines : List Line)
    → l.number ≡ number → length (mappings_of_runs runs) ≡ l.entries → lines ≡ map map_line runs ++ (lines_of_leaves (suc number) leaves ++ tail)
    → leaf_line l ∷ lines ≡ lines_of_leaves number (runs ∷ leaves) ++ tail
leaf_lines number l runs leaves tail lines same entries e =
    let next : number + 1 ≡ suc number = omega arith in
    rw (next, append_assoc (map map_line runs) (lines_of_leaves (suc number) leaves) tail, ← e, entries, ← same) refl

-- the runs of a leaf that are to come, where the last one of so many leaves is open: those of the first list are of that
-- leaf. Leaves are counted from 1 here
abbrev pub to_come : ℕ → List (List Run) → ℕ → List Run
to_come zero leaves number = list_at leaves number
to_come (suc count) leaves zero = []
to_come (suc count) leaves (suc number) = to_come count leaves number

pub to_come_after_leaf : (count : ℕ) (runs : List Run) (leaves : List (List Run)) (number : ℕ)
    → to_come (suc count) (runs ∷ leaves) number ≡ to_come count ([] ∷ runs ∷ leaves) number
to_come_after_leaf zero runs leaves zero = refl
to_come_after_leaf zero runs leaves (suc number) = refl
to_come_after_leaf (suc count) runs leaves zero = refl
to_come_after_leaf (suc count) runs leaves (suc number) = to_come_after_leaf count runs leaves number

pub to_come_after_map : (count number : ℕ) (r : Run) (so_far runs : List Run) (leaves : List (List Run))
    → (if eqb count number then so_far ++ (r ∷ []) else so_far) ++ to_come count (runs ∷ leaves) number ≡ so_far ++ to_come count ((r ∷ runs) ∷ leaves) number
to_come_after_map zero zero r so_far runs leaves = append_assoc so_far (r ∷ []) runs
to_come_after_map zero (suc number) r so_far runs leaves = let other : eqb 0 (suc number) ≡ false = grind (arith, nat_tests) in rw other refl
to_come_after_map (suc count) zero r so_far runs leaves = let other : eqb (suc count) 0 ≡ false = grind (arith, nat_tests) in rw other refl
to_come_after_map (suc count) (suc number) r so_far runs leaves =
    rw (both_more count number) (to_come_after_map count number r so_far runs leaves)

pub none_to_come : (count number : ℕ) → to_come count ([] ∷ []) number ≡ []
none_to_come zero zero = refl
none_to_come zero (suc number) = refl
none_to_come (suc count) zero = refl
none_to_come (suc count) (suc number) = none_to_come count number

-- where no leaf is unused, each one is used
pub each_used : (uses : List ℕ) (count n : ℕ) → list_any (λ number. not (is_used uses number)) (range_with_len 0 count) ≡ false → n < count → is_used uses n ≡ true
each_used uses count n none below =
    let at : get_or (range_with_len 0 count) n 0 ≡ n = omega (arith, get_or-range_with_len 0 count n 0 below) in
    elim (cases_Bool (is_used uses n)) [
      | inl e ↦ e
      | inr e ↦
          let unused = list_any_at (λ number. not (is_used uses number)) (range_with_len 0 count) n 0 (omega (arith, length-range_with_len 0 count)) (rw (at, e) refl) in
          absurd (true≢false (sym unused ∙ none))
    ]
