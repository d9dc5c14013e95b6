-- The lines that mean a shape are read, in either version.
use Rattle.std.proofs.Common.{◌≡◌, ℕ, zero, suc, ◌+◌, ◌^◌, ◌≤◌, ◌<◌, true, false, not, Bool, ◌||◌, ◌==◌, ltb, eqb, lt-ltb, le-ltb, le-leb, eq-eqb, List, [], ◌∷◌, ◌++◌, length, length-append, map, refl, ap, sym, subst, ◌∙◌, append-nil, append_assoc, arith, Option, Some, None}
use Rattle.std.proofs.Math.Bool.{or-false}
use Rattle.std.proofs.lemmas.List.{length-map}
use Rattle.std.specs.List.{AllByRecursion, flat_map, list_any, range_with_len}
use Rattle.pd_kinds.specs.Meaning.{Mapping}
use Rattle.pd_grammar.specs.Texts.{has_ended}
use Rattle.pd_grammar.specs.Tables.{LineKind, format_of}
use Rattle.pd_grammar.proofs.GrammarLemmas.{AreLines}
use Rattle.pd_grammar.proofs.TableLemmas.{PlacedAs, PlacedBy}
use Rattle.pd_grammar.specs.Lawful.{AreMappings, AreDevices}
use Rattle.pd_grammar.specs.ThinText.{Line, first_line, shared_first_line, pool_line, leaf_line, device_line, use_line, map_line, end_line, LeafHead, Head, Run, table_from, pool_format, kind_of_line, is_shared, has_device, leaf_number, least_id, piece_end, unmapped, data_blocks_of, may_have_map, runs_of_leaf, number_in, least_of, mappings_of}
use Rattle.pd_grammar.proofs.ThinRead.{FitsLine, PlacedInPool}
use Rattle.pd_grammar.proofs.ThinMeaning.{LinePasses, tests_passed, map_line_told, device_line_told, pool_line_told, read_if_spelled}
use Rattle.pd_grammar.specs.ThinText as text
use Rattle.pd_laid.specs.Shape.{Piece, own, shared, ShapeDevice, ThinShape, ArePieces, piece_mappings, device_of, pool_of, uses_of_piece, uses_of}
use Rattle.pd_laid.specs.PoolText.{PartPiece, own_runs, used_leaf, SharedPart, mappings_of_runs, piece_of_part, device_of_part, head_of_shape, lines_of_leaves, lines_of_piece, lines_of_part, HaveMappings, HasPieceMappings, HasPartMappings, MeansShape, MeansUnshared, MeansAs, MeansPoolShape}
use Rattle.pd_laid.proofs.LeafRuns.{HaveTold, list_at, all_at, IsLeaf, told_leaf, told_run, told_device, told_use, told_map, mappings_at, number_mapped, is_used, are_leaves, runs_fit}

-- the lines are read after these ones, the newest first
abbrev pub ArePoolLines : List Line → List Line → Type 0
ArePoolLines before lines = AreLines pool_format FitsLine PlacedInPool before lines

read_line : (before : List Line) (line : Line) (lines : List Line) → has_ended pool_format before ≡ false → FitsLine line → PlacedInPool before line
    → LinePasses before line → ArePoolLines (line ∷ before) lines → ArePoolLines before (line ∷ lines)
read_line before line lines going fits placed passes rest = (going, (fits, (placed, (tests_passed before line passes, rest))))

-- what a map line wants of the lines before it
record TakesMap (blocks : ℕ) (before : List Line) : Type 0 where
  some : 2 ≤ length before
  going : has_ended pool_format before ≡ false
  placed : may_have_map before ≡ true
  pool : data_blocks_of before ≡ blocks

-- the map lines of runs, each of which keeps something, and then lines that are read once only the rest is owed
read_runs : (blocks : ℕ) → blocks ≤ 2 ^ 40 → (Keeps : List Run → List Line → Type 0)
    → ((r : Run) (runs : List Run) (before : List Line) → Keeps (r ∷ runs) before → TakesMap blocks before × Keeps runs (map_line r ∷ before))
    → (rest : List Mapping) (tail : List Line)
    → ((b : List Line) → Keeps [] b → AreMappings blocks (piece_end b) rest → length rest ≡ unmapped b → ArePoolLines b tail)
    → (runs : List Run) (before : List Line) → Keeps runs before → AreMappings blocks (piece_end before) (mappings_of_runs runs ++ rest)
    → length (mappings_of_runs runs ++ rest) ≡ unmapped before → HaveMappings runs → ArePoolLines before (map map_line runs ++ tail)
read_runs blocks small Keeps step rest tail after [] before keeps are number have = after before keeps are number
read_runs blocks small Keeps step rest tail after (r ∷ runs) before keeps are number have =
    let others = mappings_of_runs runs ++ rest in
    let here = step r runs before keeps in
    let takes : TakesMap blocks before = here.0 in
    let same : mappings_of_runs (r ∷ runs) ++ rest ≡ mappings_of r ++ others = append_assoc (mappings_of r) (mappings_of_runs runs) rest in
    let told = map_line_told before r others (rw takes.pool small)
    (rw takes.pool (subst (AreMappings blocks (piece_end before)) same are)) (ap length (sym same) ∙ number) have.0 in
    read_line before (map_line r) (map map_line runs ++ tail) takes.going told.fits (takes.some, takes.placed) told.passes
    (read_runs blocks small Keeps step rest tail after runs (map_line r ∷ before) here.1 (rw takes.pool at told.mappings) told.number have.1)

-- The lines so far of version 2, the newest first: of a pool of so many blocks, the least id of the next device, the
-- leaves that they have told; and they and what is left use the leaves that all devices do
record Stand (blocks least : ℕ) (leaves : List (List Run)) (all left : List ℕ) (before : List Line) : Type 0 where
  some : 2 ≤ length before
  version : is_shared before ≡ true
  going : has_ended pool_format before ≡ false
  pool : data_blocks_of before ≡ blocks
  id : least_id before ≡ least
  told : HaveTold before leaves
  used : (n : ℕ) → (is_used (text.uses_of before) n || is_used left n) ≡ is_used all n

-- they stand so after a map line, but for what leaves are told then
with_map : (blocks least : ℕ) (leaves others : List (List Run)) (all left : List ℕ) (before : List Line) (r : Run) → Stand blocks least leaves all left before
    → HaveTold (map_line r ∷ before) others → Stand blocks least others all left (map_line r ∷ before)
with_map blocks least leaves others all left before r stand told =
    record { some = omega arith; version = stand.version; going = refl; pool = stand.pool; id = stand.id; told = told; used = stand.used }

-- the lines so far end in a leaf, of which these runs are left
record InLeaf (blocks : ℕ) (done : List (List Run)) (whole : List Run) (all : List ℕ) (runs : List Run) (before : List Line) : Type 0 where
  front : List Run
  same : front ++ runs ≡ whole
  none : has_device before ≡ false
  stand : Stand blocks 0 (done ++ (front ∷ [])) all all before

leaf_step : (blocks : ℕ) (done : List (List Run)) (whole : List Run) (all : List ℕ) (r : Run) (runs : List Run) (before : List Line)
    → InLeaf blocks done whole all (r ∷ runs) before → TakesMap blocks before × InLeaf blocks done whole all runs (map_line r ∷ before)
leaf_step blocks done whole all r runs before inside =
    let stand = inside.stand in
    let front : List Run = inside.front in
    let number : ltb 0 (leaf_number before) ≡ true = lt-ltb 0 (leaf_number before) (omega (arith, stand.told.number, length-append done (front ∷ []))) in
    let more : List Run = front ++ (r ∷ []) in (
      record { some = stand.some; going = stand.going; placed = rw (inside.none, number) refl; pool = stand.pool },
      record {
        front = more;
        same = append_assoc front (r ∷ []) runs ∙ inside.same;
        none = inside.none;
        stand = with_map blocks 0 (done ++ (front ∷ [])) (done ++ (more ∷ [])) all all before r stand (told_run before r done front inside.none stand.told);
      },
    )

-- the lines of leaves, and then lines that are read once they are told
read_leaves : (blocks : ℕ) → blocks ≤ 2 ^ 40 → (all : List ℕ) (whole : List (List Run)) (tail : List Line)
    → ((b : List Line) → has_device b ≡ false → unmapped b ≡ 0 → Stand blocks 0 whole all all b → ArePoolLines b tail)
    → (leaves done : List (List Run)) (number : ℕ) (before : List Line) → done ++ leaves ≡ whole → number ≡ length done → number + length leaves ≤ 2 ^ 64
    → has_device before ≡ false → unmapped before ≡ 0 → Stand blocks 0 done all all before → AllByRecursion (IsLeaf blocks) leaves
    → ArePoolLines before (lines_of_leaves number leaves ++ tail)
read_leaves blocks small all whole tail after [] done number before same count few none unled stand are =
    after before none unled (subst (λ (ls : List (List Run)). Stand blocks 0 ls all all before) (sym (append-nil done) ∙ same) stand)
read_leaves blocks small all whole tail after (runs ∷ leaves) done number before same count few none unled stand are =
    let head : LeafHead = record { number = number; entries = length (mappings_of_runs runs) } in
    let rest = lines_of_leaves (number + 1) leaves in
    let leaf : IsLeaf blocks runs = are.0 in
    let passes : LinePasses before (leaf_line head) = record {
      range = rw (le-leb 1 head.entries leaf.some, le-leb head.entries 252 leaf.few) refl;
      order = ap not (eq-eqb number (leaf_number before) (count ∙ sym stand.told.number));
      mapped = le-ltb 0 (unmapped before) (omega (arith, unled));
      used = refl;
    } in
    let opened : Stand blocks 0 (done ++ ([] ∷ [])) all all (leaf_line head ∷ before) =
    record { some = omega (arith, stand.some); version = stand.version; going = refl; pool = stand.pool; id = stand.id; told = told_leaf before head done stand.told; used = stand.used } in
    let body : ArePoolLines (leaf_line head ∷ before) (map map_line runs ++ (rest ++ tail)) =
    read_runs blocks small (InLeaf blocks done runs all) (leaf_step blocks done runs all) [] (rest ++ tail)
    (λ b inside owed end.
    read_leaves blocks small all whole tail after leaves (done ++ (runs ∷ [])) (number + 1) b (append_assoc done (runs ∷ []) leaves ∙ same)
    (omega (arith, count, length-append done (runs ∷ []))) (omega (arith, few)) inside.none (sym end)
    (subst (λ (front : List Run). Stand blocks 0 (done ++ (front ∷ [])) all all b) (sym (append-nil inside.front) ∙ inside.same) inside.stand) are.1)
    runs (leaf_line head ∷ before) (record { front = []; same = refl; none = none; stand = opened })
    (subst (AreMappings blocks 0) (sym (append-nil (mappings_of_runs runs))) leaf.mappings) (ap length (append-nil (mappings_of_runs runs))) leaf.have in
    read_line before (leaf_line head) ((map map_line runs ++ rest) ++ tail) stand.going (omega (arith, few), (omega (arith, leaf.few), tt))
    (stand.some, rw (stand.version, none) refl) passes
    (subst (ArePoolLines (leaf_line head ∷ before)) (sym (append_assoc (map map_line runs) rest tail)) body)

-- the use of a leaf whose mappings begin those that are owed passes, and the others are owed after it
record UseTold (blocks : ℕ) (before : List Line) (n : ℕ) (rest : List Mapping) : Type 0 where
  passes : LinePasses before (use_line n)
  mappings : AreMappings blocks (piece_end (use_line n ∷ before)) rest
  number : length rest ≡ unmapped (use_line n ∷ before)

use_told : (blocks : ℕ) (before : List Line) (n : ℕ) (runs : List Run) (rest : List Mapping) → n < leaf_number before → runs_of_leaf before n ≡ runs → IsLeaf blocks runs
    → AreMappings blocks (piece_end before) (mappings_of_runs runs ++ rest) → length (mappings_of_runs runs ++ rest) ≡ unmapped before → UseTold blocks before n rest
use_told blocks before n runs rest below same leaf are number =
    let fits = runs_fit blocks (piece_end before) runs rest leaf.have leaf.some are in
    let given : number_in (runs_of_leaf before n) ≡ length (mappings_of_runs runs) = ap number_in same ∙ number_mapped runs in
    let len : length (mappings_of_runs runs) + length rest ≡ unmapped before = sym (length-append (mappings_of_runs runs) rest) ∙ number in
    record {
      passes = record {
        range = ap not (lt-ltb n (leaf_number before) below);
        order = le-ltb (least_of (runs_of_leaf before n)) (piece_end before) (rw same fits.0);
        mapped = le-ltb (unmapped before) (number_in (runs_of_leaf before n)) (omega (arith, given, len));
        used = refl;
      };
      mappings = rw same fits.1;
      number = omega (arith, given, len);
    }

-- of pieces, those after the first are pieces too
pub rest_pieces : (n : ℕ) (piece : Piece) (pieces : List Piece) → ArePieces n (piece ∷ pieces) → ArePieces n pieces
rest_pieces n (own mappings) [] are = tt
rest_pieces n (own mappings) (own others ∷ pieces) are = absurd are
rest_pieces n (own mappings) (shared number ∷ pieces) are = are.1
rest_pieces n (shared number) pieces are = are.1

pub or_moved : (a b c : Bool) → (a || (b || c)) ≡ ((b || a) || c)
or_moved true true c = refl
or_moved true false c = refl
or_moved false true c = refl
or_moved false false c = refl

none_unused : (uses : List ℕ) (first count : ℕ) → ((n : ℕ) → n < first + count → is_used uses n ≡ true)
    → list_any (λ (number : ℕ). not (list_any (λ (used : ℕ). used == number) uses)) (range_with_len first count) ≡ false
none_unused uses first zero each = refl
none_unused uses first (suc count) each = rw (each first (omega arith)) (none_unused uses (first + 1) count (λ n below. each n (omega arith)))

module _ (blocks : ℕ) (small : blocks ≤ 2 ^ 40) (leaves : List (List Run)) (few : length leaves ≤ 2 ^ 64) (are_leaves : AllByRecursion (IsLeaf blocks) leaves)
    (count : ℕ) (counted : count ≡ length leaves) (all : List ℕ) (each_used : (n : ℕ) → n < length leaves → is_used all n ≡ true) where
  -- the mappings of the leaves
  abbrev lists : List (List Mapping)
  lists = map mappings_of_runs leaves

  -- the lines so far end in a device
  abbrev InDevice : ℕ → List ℕ → List Line → Type 0
  InDevice least left before = (has_device before ≡ true) × Stand blocks least leaves all left before

  device_step : (least : ℕ) (left : List ℕ) (r : Run) (runs : List Run) (before : List Line) → InDevice least left before → TakesMap blocks before × InDevice least left (map_line r ∷ before)
  device_step least left r runs before inside =
      let stand = inside.1 in (
        record { some = stand.some; going = stand.going; placed = rw inside.0 refl; pool = stand.pool },
        (inside.0, with_map blocks least leaves leaves all left before r stand (told_map before r leaves inside.0 stand.told)),
      )

  -- the lines of pieces, and then lines that are read once all is mapped
  read_pieces : (least : ℕ) (left : List ℕ) (tail : List Line) → ((b : List Line) → InDevice least left b → unmapped b ≡ 0 → ArePoolLines b tail)
      → (pieces : List PartPiece) (before : List Line) → InDevice least (flat_map uses_of_piece (map piece_of_part pieces) ++ left) before
      → AreMappings blocks (piece_end before) (flat_map (piece_mappings lists) (map piece_of_part pieces))
      → length (flat_map (piece_mappings lists) (map piece_of_part pieces)) ≡ unmapped before
      → ArePieces count (map piece_of_part pieces) → AllByRecursion HasPieceMappings pieces
      → ArePoolLines before (flat_map lines_of_piece pieces ++ tail)
  read_pieces least left tail after [] before inside are number whole have = after before inside (sym number)
  read_pieces least left tail after (own_runs runs ∷ pieces) before inside are number whole have =
      let uses = flat_map uses_of_piece (map piece_of_part pieces) ++ left in
      let others = flat_map lines_of_piece pieces in
      let rest : ArePieces count (map piece_of_part pieces) = rest_pieces count (own (mappings_of_runs runs)) (map piece_of_part pieces) whole in
      subst (ArePoolLines before) (sym (append_assoc (map map_line runs) others tail))
      (read_runs blocks small (λ (rs : List Run) (b : List Line). InDevice least uses b) (device_step least uses)
      (flat_map (piece_mappings lists) (map piece_of_part pieces)) (others ++ tail)
      (λ b in_device owed end. read_pieces least left tail after pieces b in_device owed end rest have.1) runs before inside are number have.0)
  read_pieces least left tail after (used_leaf n ∷ pieces) before inside are number whole have =
      let stand = inside.1 in
      let rest = flat_map (piece_mappings lists) (map piece_of_part pieces) in
      let uses = flat_map uses_of_piece (map piece_of_part pieces) ++ left in
      let below : n < length leaves = omega (arith, whole.0, counted) in
      let told = use_told blocks before n (list_at leaves n) rest (omega (arith, below, stand.told.number)) (stand.told.runs n) (all_at (IsLeaf blocks) leaves n are_leaves below)
      (subst (λ (ms : List Mapping). AreMappings blocks (piece_end before) (ms ++ rest)) (mappings_at leaves n) are)
      (ap (λ (ms : List Mapping). length (ms ++ rest)) (sym (mappings_at leaves n)) ∙ number) in
      let after_use : Stand blocks least leaves all uses (use_line n ∷ before) = record {
        some = omega (arith, stand.some);
        version = stand.version;
        going = refl;
        pool = stand.pool;
        id = stand.id;
        told = told_use before n leaves stand.told;
        used = λ m. sym (or_moved (is_used (text.uses_of before) m) (eqb n m) (is_used uses m)) ∙ stand.used m;
      } in
      read_line before (use_line n) (flat_map lines_of_piece pieces ++ tail) stand.going (omega (arith, below, few), tt)
      (stand.some, rw (stand.version, inside.0) refl) told.passes
      (read_pieces least left tail after pieces (use_line n ∷ before) (inside.0, after_use) told.mappings told.number whole.1 have.1)

  -- the lines of devices, and the last line
  read_parts : (least : ℕ) (parts : List SharedPart) (before : List Line) → unmapped before ≡ 0
      → Stand blocks least leaves all (flat_map uses_of (map device_of_part parts)) before
      → AreDevices blocks least (map (device_of lists) (map device_of_part parts))
      → AllByRecursion (λ (d : ShapeDevice). ArePieces count d.pieces) (map device_of_part parts) → AllByRecursion HasPartMappings parts
      → ArePoolLines before (flat_map lines_of_part parts ++ (end_line ∷ []))
  read_parts least [] before unled stand devices whole have =
      let each : (n : ℕ) → n < 0 + leaf_number before → is_used (text.uses_of before) n ≡ true =
      λ n below. sym (or-false (is_used (text.uses_of before) n)) ∙ stand.used n ∙ each_used n (omega (arith, below, stand.told.number)) in
      read_line before end_line [] stand.going tt stand.some
      (record { range = refl; order = refl; mapped = rw unled refl; used = none_unused (text.uses_of before) 0 (leaf_number before) each }) refl
  read_parts least (p ∷ parts) before unled stand devices whole have =
      let d = p.details in
      let pieces = flat_map lines_of_piece p.pieces in
      let others = flat_map lines_of_part parts in
      let told = device_line_told before d (flat_map (piece_mappings lists) (map piece_of_part p.pieces)) unled (rw (stand.pool, stand.id) devices.0) in
      let opened : Stand blocks (d.id + 1) leaves all (flat_map uses_of (map device_of_part (p ∷ parts))) (device_line d ∷ before) =
      record { some = omega (arith, stand.some); version = stand.version; going = refl; pool = stand.pool; id = refl; told = told_device before d leaves stand.told; used = stand.used } in
      let body : ArePoolLines (device_line d ∷ before) (pieces ++ (others ++ (end_line ∷ []))) =
      read_pieces (d.id + 1) (flat_map uses_of (map device_of_part parts)) (others ++ (end_line ∷ []))
      (λ b inside done. read_parts (d.id + 1) parts b done inside.1 devices.1 whole.1 have.1)
      p.pieces (device_line d ∷ before) (refl, opened) devices.0.mappings (sym devices.0.mapped) whole.0 have.0 in
      read_line before (device_line d) ((pieces ++ others) ++ (end_line ∷ [])) stand.going told.0 stand.some told.1
      (subst (ArePoolLines (device_line d ∷ before)) (sym (append_assoc pieces others (end_line ∷ []))) body)

-- the lines of version 2 that mean a shape are read
shared_lines : (lines : List Line) (w : ThinShape) → MeansShape lines w → ArePoolLines [] lines
unfolding pool_of
shared_lines lines w means =
    let leaves : List (List Run) = means.leaves in
    let parts : List SharedPart = means.parts in
    let uses : List ℕ = flat_map uses_of (map device_of_part parts) in
    let head : Head = head_of_shape w in
    let start : List Line = pool_line head ∷ shared_first_line ∷ [] in
    let counted : length w.leaves ≡ length leaves = ap length (sym means.leaves_are) ∙ length-map leaves mappings_of_runs in
    let are : AllByRecursion (IsLeaf w.data_blocks) leaves = are_leaves w leaves means.leaves_are means.leaf_runs means.shape means.lawful in
    let each_used : (n : ℕ) → n < length leaves → is_used uses n ≡ true =
    λ n below. ap (λ (ds : List ShapeDevice). is_used (flat_map uses_of ds) n) means.devices_are ∙ means.shape.used n (omega (arith, below, counted)) in
    let devices : AreDevices w.data_blocks 0 (map (device_of (map mappings_of_runs leaves)) (map device_of_part parts)) = rw (means.leaves_are, means.devices_are) means.lawful.devices in
    let tail = flat_map lines_of_part parts ++ (end_line ∷ []) in
    let stand : Stand w.data_blocks 0 [] uses uses start =
    record { some = omega arith; version = refl; going = refl; pool = refl; id = refl; told = record { number = refl; runs = λ n. refl }; used = λ n. refl } in
    let body : ArePoolLines start (lines_of_leaves 0 leaves ++ tail) =
    read_leaves w.data_blocks means.lawful.data_blocks_fit uses leaves tail
    (λ b none unled standing. read_parts w.data_blocks means.lawful.data_blocks_fit leaves (omega (arith, means.shape.numbers_fit, counted)) are (length w.leaves) counted uses each_used
    0 parts b unled standing devices (rw means.devices_are means.shape.pieces) means.runs)
    leaves [] 0 start refl refl (omega (arith, means.shape.numbers_fit, counted)) refl refl stand are in
    let told = pool_line_told (shared_first_line ∷ []) (pool_of w) means.lawful in
    rw means.lines_are (
    read_line [] shared_first_line (pool_line head ∷ (lines_of_leaves 0 leaves ++ tail)) refl tt (refl, refl) (record { range = refl; order = refl; mapped = refl; used = refl })
    (read_line (shared_first_line ∷ []) (pool_line head) (lines_of_leaves 0 leaves ++ tail) refl told.0 refl told.1 body)
    )

-- later lines that are read where these lines may be the first are read where others may
placed_from : (firsts others before : List Line) (line : Line) (kind : Option (LineKind Line)) → 1 ≤ length before
    → PlacedAs (table_from firsts) line kind before → PlacedAs (table_from others) line kind before
placed_from firsts others before line None some placed = absurd (omega (arith, placed.0))
placed_from firsts others before line (Some kind) some placed = placed

pub read_from : (firsts others lines before : List Line) → 1 ≤ length before
    → AreLines (format_of (table_from firsts)) FitsLine (PlacedBy (table_from firsts)) before lines
    → AreLines (format_of (table_from others)) FitsLine (PlacedBy (table_from others)) before lines
read_from firsts others lines [] some are = absurd (omega arith)
read_from firsts others [] (newest ∷ before) some are = are
read_from firsts others (line ∷ lines) (newest ∷ before) some are =
    let placed = placed_from firsts others (newest ∷ before) line (kind_of_line line) some are.1.1.0 in
    (are.0, (are.1.0, (placed, (are.1.1.1.0, read_from firsts others lines (line ∷ newest ∷ before) (omega arith) are.1.1.1.1))))

unshared_lines : (lines : List Line) (w : ThinShape) → MeansUnshared lines w → ArePoolLines [] lines
unshared_lines lines w means =
    let pool = means.means in
    let read = read_if_spelled means.pool pool.parts pool.devices pool.runs pool.lawful in
    let tail = pool_line (text.head_of means.pool) ∷ (flat_map text.lines_of_part pool.parts ++ (end_line ∷ [])) in
    rw pool.lines_are (refl, (tt, ((refl, refl), (tt, read_from (first_line ∷ []) (first_line ∷ shared_first_line ∷ []) tail (first_line ∷ []) (omega arith) read.1.1.1.1))))

lines_as : (version : Bool) (lines : List Line) (w : ThinShape) → MeansAs version lines w → ArePoolLines [] lines
lines_as true lines w means = shared_lines lines w means
lines_as false lines w means = unshared_lines lines w means

pub lines_if_means : (lines : List Line) (w : ThinShape) → MeansPoolShape lines w → ArePoolLines [] lines
lines_if_means lines w means = lines_as (is_shared lines) lines w means
