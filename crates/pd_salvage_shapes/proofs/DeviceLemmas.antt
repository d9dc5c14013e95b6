-- The devices with their pieces, with one more.
use Rattle.std.proofs.Common.{◌≡◌, ℕ, zero, suc, ◌+◌, ◌≤◌, List, [], ◌∷◌, ◌++◌, length, map, get_or, set, take, drop, refl, sym, ap, ◌∙◌, arith, sum_by}
use Rattle.std.proofs.lemmas.List.{get_or-set_other, length-append, length-drop, map-append, take-append-le, drop-append-le}
use Rattle.std.proofs.lemmas.List.Sums.{sum_by-append}
use Rattle.pd_laid.specs.Shape.{ShapeDevice}
use Rattle.pd_laid.specs.PoolText.{PartPiece, SharedPart, device_of_part}
use Rattle.pd_meaning_thin.specs.declared.joined.Run.{Run}
use Rattle.pd_salvage.specs.declared.saved_shape.SavedPiece.{SavedPiece}
use Rattle.pd_salvage.specs.declared.saved_shape.ShapedDevice.{ShapedDevice}
use Rattle.pd_salvage.specs.SavedShape.{IsPartJoined, device_part, device_parts, piece_part, piece_parts, runs_of_piece, runs_of_pieces}
use Rattle.pd_salvage.proofs.SavingLemmas.{take_all}
use Rattle.pd_salvage_shapes.specs.declared.pieces.ShapedDevices.{ShapedDevices}
use Rattle.pd_salvage_shapes.specs.declared.note.LeafNote.{LeafNote}
use Rattle.pd_salvage_shapes.specs.declared.tops.Top.{Top}
use Rattle.pd_salvage_shapes.specs.declared.visiting.Seen.{Seen}
use Rattle.pd_salvage_shapes.specs.SeenShape.{AddsDevice, AreShaped, shaped_device, shaped_devices}
use Rattle.pd_salvage_shapes.specs.Pieces.{AreNumbers}
use Rattle.pd_salvage_shapes.proofs.MetPieces.{sum_more}
use Rattle.pd_salvage_shapes.proofs.VisitingLemmas.{all_more}

-- more runs behind change nothing of pieces that have theirs
parts_same : (ps : List SavedPiece) (runs more : List Run) → runs_of_pieces ps ≤ length runs → piece_parts ps (runs ++ more) ≡ piece_parts ps runs
parts_same [] runs more few = refl
parts_same (p ∷ ps) runs more few =
    let whole = sum_by-append runs_of_piece (p ∷ []) ps in
    let rest : runs_of_pieces ps ≤ length (drop (runs_of_piece p) runs) = omega (arith, whole, length-drop (runs_of_piece p) runs) in
    rw (take-append-le (runs_of_piece p) runs more (omega (arith, whole)), drop-append-le (runs_of_piece p) runs more (omega (arith, whole)))
    (ap (λ (qs : List PartPiece). piece_part p (take (runs_of_piece p) runs) ∷ qs) (parts_same ps (drop (runs_of_piece p) runs) more rest))

-- how many runs the first pieces have, and the others
runs_split : (n : ℕ) (ps : List SavedPiece) → runs_of_pieces (take n ps) + runs_of_pieces (drop n ps) ≡ runs_of_pieces ps
runs_split zero ps = omega arith
runs_split (suc n) [] = refl
runs_split (suc n) (p ∷ ps) =
    let rest = runs_split n ps in
    let first = sum_by-append runs_of_piece (p ∷ []) (take n ps) in
    let all = sum_by-append runs_of_piece (p ∷ []) ps in
    omega (arith, rest, first, all)

-- a device more
pub device_more : (ds : List ShapedDevice) (d : ShapedDevice) (ps more : List SavedPiece) (runs others : List Run) → sum_by (λ (e : ShapedDevice). e.pieces) ds ≡ length ps → runs_of_pieces ps ≡ length runs
    → d.pieces ≡ length more → device_parts (ds ++ d ∷ []) (ps ++ more) (runs ++ others) ≡ device_parts ds ps runs ++ device_part d (piece_parts more others) ∷ []
device_more [] d [] more [] others count number is = rw (is, take_all more) refl
device_more [] d [] more (r ∷ runs) others count number is = absurd (omega arith)
device_more [] d (p ∷ ps) more runs others count number is = absurd (omega arith)
device_more (e ∷ ds) d ps more runs others count number is =
    let whole : e.pieces + sum_by (λ (x : ShapedDevice). x.pieces) ds ≡ length ps = omega (arith, count, sum_by-append (λ (x : ShapedDevice). x.pieces) (e ∷ []) ds) in
    let first = take e.pieces ps in
    let split = runs_split e.pieces ps in
    let count_rest : sum_by (λ (x : ShapedDevice). x.pieces) ds ≡ length (drop e.pieces ps) = omega (arith, length-drop e.pieces ps) in
    let number_rest : runs_of_pieces (drop e.pieces ps) ≡ length (drop (runs_of_pieces first) runs) = omega (arith, length-drop (runs_of_pieces first) runs) in
    rw (
      take-append-le e.pieces ps more (omega arith),
      drop-append-le e.pieces ps more (omega arith),
      parts_same first runs others (omega arith),
      drop-append-le (runs_of_pieces first) runs others (omega arith),
    )
    (ap (λ (qs : List SharedPart). device_part e (piece_parts first runs) ∷ qs) (device_more ds d (drop e.pieces ps) more (drop (runs_of_pieces first) runs) others count_rest number_rest is))

-- devices of two lists, with one more of each
pub shaped_more : (ones : List ℕ) (notes : List LeafNote) (ts : List Top) (ds : List Seen) (t : Top) (d : Seen) → length ts ≡ length ds
    → shaped_devices ones notes (ts ++ t ∷ []) (ds ++ d ∷ []) ≡ shaped_devices ones notes ts ds ++ shaped_device ones notes t d ∷ []
shaped_more ones notes [] [] t d same = refl
shaped_more ones notes [] (e ∷ ds) t d same = absurd (omega arith)
shaped_more ones notes (u ∷ ts) [] t d same = absurd (omega arith)
shaped_more ones notes (u ∷ ts) (e ∷ ds) t d same = ap (λ (xs : List ShapeDevice). shaped_device ones notes u e ∷ xs) (shaped_more ones notes ts ds t d (omega arith))

pub added_shape : (ones : List ℕ) (notes : List LeafNote) (numbers : List ℕ) (ts : List Top) (ds : List Seen) (t : Top) (d : Seen) (old new : ShapedDevices) → length ts ≡ length ds → AreNumbers ones numbers
    → AreShaped ones notes ts ds old → AddsDevice notes numbers t d old new → AreShaped ones notes (ts ++ t ∷ []) (ds ++ d ∷ []) new
added_shape ones notes numbers ts ds t d old new same are shaped adds =
    let has = adds.takes.has ones are in
    let device : ShapedDevice = record { id = t.id; details = record t.details { mapped = d.mapped }; pieces = adds.count } in
    let pieces_are = has.pieces_are in
    let count : adds.count ≡ length has.given = (let all = ap length pieces_are ∙ length-append old.piecing.pieces.items has.given in let counted = adds.takes.counted ones are in omega arith) in
    let parts : device_parts new.devices.items new.piecing.pieces.items new.piecing.runs
    ≡ device_parts old.devices.items old.piecing.pieces.items old.piecing.runs ++ device_part device (piece_parts has.given has.given_runs) ∷ [] =
    rw (adds.added, pieces_are, has.runs_are)
    (device_more old.devices.items device old.piecing.pieces.items has.given old.piecing.runs has.given_runs shaped.piece_number shaped.number count) in
    record {
      means =
          ap (map device_of_part) parts
          ∙ (map-append device_of_part (device_parts old.devices.items old.piecing.pieces.items old.piecing.runs) (device_part device (piece_parts has.given has.given_runs) ∷ [])
          ∙ (rw (shaped.means, has.means) refl ∙ sym (shaped_more ones notes ts ds t d same)));
      joined = rw parts (all_more IsPartJoined (device_parts old.devices.items old.piecing.pieces.items old.piecing.runs) (device_part device (piece_parts has.given has.given_runs)) shaped.joined has.joined);
      piece_number =
          let sums = sum_by-append (λ (e : ShapedDevice). e.pieces) old.devices.items (device ∷ []) in
          let lengths = length-append old.piecing.pieces.items has.given in
          let before = shaped.piece_number in
          rw (adds.added, pieces_are) (omega arith);
      number =
          let sums = sum_more old.piecing.pieces.items has.given in
          let lengths = length-append old.piecing.runs has.given_runs in
          let before = shaped.number in
          let here = has.number in
          rw (pieces_are, has.runs_are) (omega arith);
    }

-- no device
pub none_shaped : (ones : List ℕ) (notes : List LeafNote) (shaped : ShapedDevices) → shaped.devices.items ≡ [] → shaped.piecing.pieces.items ≡ [] → shaped.piecing.runs ≡ [] → AreShaped ones notes [] [] shaped
none_shaped ones notes shaped devices pieces runs = record {
  means = rw devices refl;
  joined = rw devices tt;
  piece_number = rw (devices, pieces) refl;
  number = rw (pieces, runs) refl;
}

-- ---- what the devices met, as it is used up

-- of a device that comes there is still all that it met
pub still_there : (old now : List Seen) (i : ℕ) (e d : Seen) → ((k : ℕ) (f : Seen) → i ≤ k → get_or now k f ≡ get_or old k f)
    → e ≡ get_or now i e → d ≡ get_or now i e → d ≡ get_or old i d
still_there old now i e d rest is found =
    let same : d ≡ e = found ∙ sym is in
    rw same (is ∙ rest i e (omega arith))

-- and of those behind it, whatever is put in its place
pub still_after : (old now : List Seen) (i : ℕ) (e : Seen) → ((k : ℕ) (f : Seen) → i ≤ k → get_or now k f ≡ get_or old k f)
    → (k : ℕ) (f : Seen) → i + 1 ≤ k → get_or (set now i e) k f ≡ get_or old k f
still_after old now i e rest k f above = get_or-set_other now i k e f (omega arith) ∙ rest k f (omega arith)
