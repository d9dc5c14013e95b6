-- What a saved shape needs, by its pieces and runs.
use Rattle.std.proofs.Common.{◌≡◌, ℕ, zero, suc, ◌+◌, ◌<◌, ◌≤◌, false, eqb, get_or, List, [], ◌∷◌, ◌++◌, length, map, take, drop, refl, ap, ap₂, sym, subst, ◌∙◌, arith, length-append}
use Rattle.std.specs.List.{AllByRecursion, flat_map}
use Rattle.std.specs.Prelude.{sum_by}
use Rattle.std.proofs.lemmas.Bool.Decides.{nat_tests}
use Rattle.std.proofs.lemmas.Grind.{flat_map-append}
use Rattle.std.proofs.lemmas.List.{drop-drop, map-append, take_all, take_more}
use Rattle.std.proofs.lemmas.List.Sums.{sum_by-append, sum_by-cons}
use Rattle.pd_grammar.specs.Need.{need_above, nodes_for}
use Rattle.pd_laid.specs.Shape.{ArePieces, Piece, ShapeDevice, uses_of_piece}
use Rattle.pd_laid.specs.PoolText.{leaves_of_pieces, need_of_leaves, own_number, PartPiece, SharedPart, device_of_part, mappings_of_runs, own_runs, piece_of_part, used_leaf}
use Rattle.pd_meaning_thin.specs.declared.joined.Run.{Run}
use Rattle.pd_meaning_thin.specs.Runs.{spelled}
use Rattle.pd_meaning_thin.specs.Packed.{runs_from}
use Rattle.pd_devices.specs.SharedGrowth.{need_ended}
use Rattle.pd_restore.specs.declared.shape_need.LeafCounts.{LeafCounts}
use Rattle.pd_restore.specs.declared.shape_need.TreeCounts.{TreeCounts}
use Rattle.pd_restore.proofs.ShapeLineLemmas.{row_none}
use Rattle.pd_restore.specs.ShapeNeed.{AddsDevice, AddsPiece, CountsDevices, CountsPieces, own_leaves, pieces_of, tree_of_part, trees_of_parts, uses_number}
use Rattle.pd_salvage.specs.declared.saved_shape.SavedPiece.{SavedPiece}
use Rattle.pd_salvage.specs.declared.saved_shape.SavedPiece.TheVariants.{Own, Shared}
use Rattle.pd_salvage.specs.declared.saved_shape.ShapedDevice.{ShapedDevice}
use Rattle.pd_salvage.specs.SavedShape.{device_part, device_parts, piece_part, piece_parts, runs_of_piece, runs_of_pieces}

-- a front of a list, and another one behind it
pub take_front : {T : Type 0} (n k : ℕ) (xs : List T) → take (n + k) xs ≡ take n xs ++ take k (drop n xs)
take_front {T} zero k xs = let none : 0 + k ≡ k = omega arith in rw none refl
take_front {T} (suc n) k [] =
    let one : suc n + k ≡ suc (n + k) = omega arith in
    let none : List T = [] in
    rw one (sym (row_none k none refl))
take_front {T} (suc n) k (x ∷ xs) =
    let one : suc n + k ≡ suc (n + k) = omega arith in rw one (ap (λ (ys : List T). x ∷ ys) (take_front n k xs))

-- the runs of a piece and of more pieces
runs_more : (p : SavedPiece) (ps : List SavedPiece) → runs_of_pieces (p ∷ ps) ≡ runs_of_piece p + runs_of_pieces ps
runs_more p ps = sum_by-cons runs_of_piece p ps

drop_more : (p : SavedPiece) (ps : List SavedPiece) (runs : List Run) → drop (runs_of_pieces ps) (drop (runs_of_piece p) runs) ≡ drop (runs_of_pieces (p ∷ ps)) runs
drop_more p ps runs = drop-drop (runs_of_pieces ps) (runs_of_piece p) runs ∙ ap (λ (n : ℕ). drop n runs) (sym (runs_more p ps))

-- the parts of pieces, and of others behind them
pub pieces_append : (ps qs : List SavedPiece) (runs : List Run) → piece_parts (ps ++ qs) runs ≡ piece_parts ps runs ++ piece_parts qs (drop (runs_of_pieces ps) runs)
pieces_append [] qs runs = refl
pieces_append (p ∷ ps) qs runs =
    ap (λ (parts : List PartPiece). piece_part p (take (runs_of_piece p) runs) ∷ parts)
    (pieces_append ps qs (drop (runs_of_piece p) runs)
    ∙ ap (λ (rest : List Run). piece_parts ps (drop (runs_of_piece p) runs) ++ piece_parts qs rest) (drop_more p ps runs))

pub own_append : (ps qs : List PartPiece) → own_leaves (ps ++ qs) ≡ own_leaves ps + own_leaves qs
unfolding own_leaves
own_append ps qs =
    ap (λ (pieces : List Piece). sum_by (λ n. nodes_for 252 n) (flat_map own_number pieces)) (map-append piece_of_part ps qs)
    ∙ (ap (λ (numbers : List ℕ). sum_by (λ n. nodes_for 252 n) numbers) (flat_map-append own_number (map piece_of_part ps) (map piece_of_part qs))
    ∙ sum_by-append (λ n. nodes_for 252 n) (flat_map own_number (map piece_of_part ps)) (flat_map own_number (map piece_of_part qs)))

pub uses_append : (ps qs : List PartPiece) → uses_number (ps ++ qs) ≡ uses_number ps + uses_number qs
unfolding uses_number
uses_append ps qs =
    ap (λ (pieces : List Piece). length (flat_map uses_of_piece pieces)) (map-append piece_of_part ps qs)
    ∙ (ap (λ (uses : List ℕ). length uses) (flat_map-append uses_of_piece (map piece_of_part ps) (map piece_of_part qs))
    ∙ length-append (flat_map uses_of_piece (map piece_of_part ps)) (flat_map uses_of_piece (map piece_of_part qs)))

-- no piece has no leaf
pub no_pieces : (all runs : List Run) (c : LeafCounts) → c.own ≡ 0 → c.uses ≡ 0 → runs_from all c.place ≡ runs → CountsPieces [] all runs c
unfolding own_leaves uses_number
no_pieces all runs c mine uses none = record { own = mine; uses = uses; taken = none }

-- a piece of a device's own, or a use
pub own_piece : (old c : LeafCounts) (k : ℕ) (all : List Run) → c.own ≡ old.own + nodes_for 252 (length (mappings_of_runs (map spelled (take k (runs_from all old.place)))))
    → c.uses ≡ old.uses → runs_from all c.place ≡ drop k (runs_from all old.place) → AddsPiece old (Own k) all c
unfolding own_leaves uses_number
own_piece old c k all mine uses more = record {
  own = omega (arith, mine, sum_by-cons (λ n. nodes_for 252 n) (length (mappings_of_runs (map spelled (take k (runs_from all old.place))))) []);
  uses = omega (arith, uses);
  taken = more;
}

pub used_piece : (old c : LeafCounts) (number : ℕ) (all : List Run) → c.own ≡ old.own → c.uses ≡ old.uses + 1 → c.place ≡ old.place → AddsPiece old (Shared number) all c
unfolding own_leaves uses_number
used_piece old c number all mine uses same = record { own = omega (arith, mine); uses = uses; taken = ap (runs_from all) same }

-- with it the pieces before it
pub pieces_more : (pieces : List SavedPiece) (all runs : List Run) (i : ℕ) (d : SavedPiece) (old c : LeafCounts) → i < length pieces
    → CountsPieces (take i pieces) all runs old → AddsPiece old (get_or pieces i d) all c → CountsPieces (take (i + 1) pieces) all runs c
pieces_more pieces all runs i d old c within before adds =
    let p = get_or pieces i d in
    let front = take i pieces in
    let later = runs_from all old.place in
    let parts : piece_parts (front ++ p ∷ []) runs ≡ piece_parts front runs ++ piece_parts (p ∷ []) later =
    pieces_append front (p ∷ []) runs ∙ ap (λ (rs : List Run). piece_parts front runs ++ piece_parts (p ∷ []) rs) (sym before.taken) in
    subst (λ (ps : List SavedPiece). CountsPieces ps all runs c) (sym (take_more pieces i d within)) (record {
      own = adds.own ∙ (ap (λ n. n + own_leaves (piece_parts (p ∷ []) later)) before.own
          ∙ (sym (own_append (piece_parts front runs) (piece_parts (p ∷ []) later)) ∙ ap own_leaves (sym parts)));
      uses = adds.uses ∙ (ap (λ n. n + uses_number (piece_parts (p ∷ []) later)) before.uses
          ∙ (sym (uses_append (piece_parts front runs) (piece_parts (p ∷ []) later)) ∙ ap uses_number (sym parts)));
      taken =
          adds.taken ∙ (ap (λ (rs : List Run). drop (runs_of_piece p) rs) before.taken
          ∙ (drop-drop (runs_of_piece p) (runs_of_pieces front) runs ∙ ap (λ (n : ℕ). drop n runs) (one_more front p)));
    })
  where
    one_more : (front : List SavedPiece) (p : SavedPiece) → runs_of_pieces front + runs_of_piece p ≡ runs_of_pieces (front ++ p ∷ [])
    one_more front p = omega (arith, sum_by-append runs_of_piece front (p ∷ []), runs_more p [])

-- all of them
pub pieces_all : (pieces : List SavedPiece) (all runs : List Run) (i : ℕ) (c : LeafCounts) → length pieces ≤ i → CountsPieces (take i pieces) all runs c → CountsPieces pieces all runs c
pieces_all pieces all runs i c over counts = subst (λ (ps : List SavedPiece). CountsPieces ps all runs c) (take_all i pieces over) counts

-- the pieces of devices, and of others behind them
pieces_of_more : (d : ShapedDevice) (ds : List ShapedDevice) → pieces_of (d ∷ ds) ≡ d.pieces + pieces_of ds
pieces_of_more d ds = sum_by-cons (λ (d : ShapedDevice). d.pieces) d ds

runs_behind : (d : ShapedDevice) (ds : List ShapedDevice) (pieces : List SavedPiece) (runs : List Run)
    → drop (runs_of_pieces (take (pieces_of ds) (drop d.pieces pieces))) (drop (runs_of_pieces (take d.pieces pieces)) runs) ≡ drop (runs_of_pieces (take (pieces_of (d ∷ ds)) pieces)) runs
runs_behind d ds pieces runs =
    let front = take d.pieces pieces in
    let next = take (pieces_of ds) (drop d.pieces pieces) in
    let all : take (pieces_of (d ∷ ds)) pieces ≡ front ++ next = ap (λ (n : ℕ). take n pieces) (pieces_of_more d ds) ∙ take_front d.pieces (pieces_of ds) pieces in
    drop-drop (runs_of_pieces next) (runs_of_pieces front) runs
    ∙ ap (λ (n : ℕ). drop n runs) (sym (sum_by-append runs_of_piece front next) ∙ ap runs_of_pieces (sym all))

pub devices_append : (ds es : List ShapedDevice) (pieces : List SavedPiece) (runs : List Run)
    → device_parts (ds ++ es) pieces runs ≡ device_parts ds pieces runs ++ device_parts es (drop (pieces_of ds) pieces) (drop (runs_of_pieces (take (pieces_of ds) pieces)) runs)
devices_append [] es pieces runs = refl
devices_append (d ∷ ds) es pieces runs =
    let rest = drop (runs_of_pieces (take d.pieces pieces)) runs in
    let later = drop d.pieces pieces in
    ap (λ (parts : List SharedPart). device_part d (piece_parts (take d.pieces pieces) runs) ∷ parts)
    (devices_append ds es later rest
    ∙ ap₂ (λ (ps : List SavedPiece) (rs : List Run). device_parts ds later rest ++ device_parts es ps rs)
    (drop-drop (pieces_of ds) d.pieces pieces ∙ ap (λ (n : ℕ). drop n pieces) (sym (pieces_of_more d ds)))
    (runs_behind d ds pieces runs))

trees_append : (ps qs : List SharedPart) → trees_of_parts (ps ++ qs) ≡ trees_of_parts ps + trees_of_parts qs
unfolding trees_of_parts
trees_append ps qs = sum_by-append tree_of_part ps qs

-- no device has no tree
pub no_devices : (pieces : List SavedPiece) (runs : List Run) (c : TreeCounts) → c.trees ≡ 0 → c.pieces ≡ 0 → runs_from runs c.place ≡ runs → CountsDevices [] pieces runs c
unfolding trees_of_parts
no_devices pieces runs c trees ps none = record { trees = trees; met = ps; taken = none }

-- a device
pub one_device : (old c : TreeCounts) (leaves : LeafCounts) (d : ShapedDevice) (pieces : List SavedPiece) (runs : List Run)
    → CountsPieces (take d.pieces (drop old.pieces pieces)) runs (runs_from runs old.place) leaves → c.trees ≡ old.trees + need_ended leaves.own leaves.uses → c.pieces ≡ old.pieces + d.pieces
    → c.place ≡ leaves.place → AddsDevice old d pieces runs c
unfolding trees_of_parts
one_device old c leaves d pieces runs counts trees ps more = record {
  trees = trees ∙ (ap₂ (λ (mine uses : ℕ). old.trees + need_ended mine uses) counts.own counts.uses ∙ omega arith);
  met = ps;
  taken = ap (runs_from runs) more ∙ counts.taken;
}

-- with it the devices before it
pub devices_more : (devices : List ShapedDevice) (pieces : List SavedPiece) (runs : List Run) (i : ℕ) (d : ShapedDevice) (old c : TreeCounts) → i < length devices
    → CountsDevices (take i devices) pieces runs old → AddsDevice old (get_or devices i d) pieces runs c → CountsDevices (take (i + 1) devices) pieces runs c
devices_more devices pieces runs i d old c within before adds =
    let e = get_or devices i d in
    let front = take i devices in
    let later = runs_from runs old.place in
    let parts : device_parts (front ++ e ∷ []) pieces runs ≡ device_parts front pieces runs ++ device_parts (e ∷ []) (drop old.pieces pieces) later =
    devices_append front (e ∷ []) pieces runs
    ∙ ap₂ (λ (n : ℕ) (rs : List Run). device_parts front pieces runs ++ device_parts (e ∷ []) (drop n pieces) rs) (sym before.met) (sym before.taken) in
    let number : pieces_of (front ++ e ∷ []) ≡ old.pieces + e.pieces = omega (arith, sum_by-append (λ (d : ShapedDevice). d.pieces) front (e ∷ []), pieces_of_more e [], before.met) in
    let mine = take e.pieces (drop old.pieces pieces) in
    let taken : take (pieces_of (front ++ e ∷ [])) pieces ≡ take (pieces_of front) pieces ++ mine =
    ap (λ (n : ℕ). take n pieces) number
    ∙ (take_front old.pieces e.pieces pieces ∙ ap (λ (n : ℕ). take n pieces ++ mine) before.met) in
    subst (λ (ds : List ShapedDevice). CountsDevices ds pieces runs c) (sym (take_more devices i d within)) (record {
      trees = adds.trees ∙ (ap (λ n. n + trees_of_parts (device_parts (e ∷ []) (drop old.pieces pieces) later)) before.trees
          ∙ (sym (trees_append (device_parts front pieces runs) (device_parts (e ∷ []) (drop old.pieces pieces) later)) ∙ ap trees_of_parts (sym parts)));
      met = adds.met ∙ sym number;
      taken = adds.taken ∙ (ap (λ (rs : List Run). drop (runs_of_pieces mine) rs) before.taken
          ∙ (drop-drop (runs_of_pieces mine) (runs_of_pieces (take (pieces_of front) pieces)) runs
          ∙ ap (λ (n : ℕ). drop n runs) (sym (sum_by-append runs_of_piece (take (pieces_of front) pieces) mine) ∙ ap runs_of_pieces (sym taken))));
    })

-- all of them
pub devices_all : (devices : List ShapedDevice) (pieces : List SavedPiece) (runs : List Run) (i : ℕ) (c : TreeCounts) → length devices ≤ i
    → CountsDevices (take i devices) pieces runs c → CountsDevices devices pieces runs c
devices_all devices pieces runs i c all counts = subst (λ (ds : List ShapedDevice). CountsDevices ds pieces runs c) (take_all i devices all) counts

-- a device with a piece has a leaf
some_leaves : (leaves : ℕ) (part : PartPiece) (parts : List PartPiece) → ArePieces leaves (map piece_of_part (part ∷ parts)) → eqb (own_leaves (part ∷ parts) + uses_number (part ∷ parts)) 0 ≡ false
unfolding own_leaves uses_number
some_leaves leaves (own_runs runs) [] are =
    let n = length (mappings_of_runs runs) in
    let sums = sum_by-cons (λ n. nodes_for 252 n) n [] in
    let some : 1 ≤ n = are in
    let positive : 1 ≤ own_leaves (own_runs runs ∷ []) = omega (arith, sums, some) in
    grind (arith, nat_tests, positive)
some_leaves leaves (own_runs runs) (own_runs others ∷ parts) are = absurd are
some_leaves leaves (own_runs runs) (used_leaf number ∷ parts) are = grind (arith, nat_tests)
some_leaves leaves (used_leaf number) parts are = grind (arith, nat_tests)

-- the tree of a device of a shape
part_need : (leaves : ℕ) (parts : List PartPiece) → ArePieces leaves (map piece_of_part parts) → need_ended (own_leaves parts) (uses_number parts) ≡ need_of_leaves (leaves_of_pieces (map piece_of_part parts))
unfolding own_leaves uses_number need_above
part_need leaves [] are = refl
part_need leaves (part ∷ parts) are =
    let some : eqb (own_leaves (part ∷ parts) + uses_number (part ∷ parts)) 0 ≡ false = some_leaves leaves part parts are in
    rw some refl

pub parts_need : (leaves : ℕ) (parts : List SharedPart) → AllByRecursion (λ (d : ShapeDevice). ArePieces leaves d.pieces) (map device_of_part parts)
    → trees_of_parts parts ≡ sum_by need_of_leaves (map (λ (d : ShapeDevice). leaves_of_pieces d.pieces) (map device_of_part parts))
unfolding trees_of_parts
parts_need leaves [] are = refl
parts_need leaves (part ∷ parts) are =
    sum_by-cons tree_of_part part parts
    ∙ (ap₂ (λ (n m : ℕ). n + m) (part_need leaves part.pieces are.0) (parts_need leaves parts are.1)
    ∙ sym (sum_by-cons need_of_leaves (leaves_of_pieces (map piece_of_part part.pieces)) (map (λ (d : ShapeDevice). leaves_of_pieces d.pieces) (map device_of_part parts))))
