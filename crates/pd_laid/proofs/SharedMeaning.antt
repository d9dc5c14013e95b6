-- Lines of version 2 that are read mean a shape.
use Rattle.std.proofs.Common.{◌≡◌, ℕ, suc, ◌+◌, ◌^◌, ◌≤◌, ◌<◌, true, false, not, ◌&&◌, ◌||◌, eqb, ltb, leb, List, [], ◌∷◌, ◌++◌, length, length-append, map, refl, ap, sym, ◌∙◌, append_assoc, append-nil, arith}
use Rattle.std.proofs.lemmas.Bool.{true≢false, and_parts, or_left}
use Rattle.std.proofs.lemmas.Bool.Decides.{nat_tests}
use Rattle.std.proofs.lemmas.List.{length-map}
use Rattle.std.specs.List.{AllByRecursion, flat_map}
use Rattle.pd_kinds.specs.Meaning.{Mapping}
use Rattle.pd_kinds.proofs.NumberLemmas.{use_tells}
use Rattle.pd_grammar.specs.Texts.{has_ended}
use Rattle.pd_grammar.specs.Lawful.{AreMappings, AreDevices}
use Rattle.pd_grammar.specs.ThinText.{Run, Head, LeafHead, Details, Line, first_line, shared_first_line, pool_line, leaf_line, device_line, use_line, map_line, end_line, pool_format, is_shared, data_blocks_of, leaf_number, least_id, has_device, runs_of_leaf, least_of, number_in, piece_end, unmapped, mappings_of}
use Rattle.pd_grammar.proofs.ThinRead.{FitsLine}
use Rattle.pd_grammar.proofs.ThinMeaning.{LinePasses, line_passes, MapPasses, map_passes, map_line_owes, device_tells, pool_tells}
use Rattle.pd_grammar.specs.ThinText as text
use Rattle.pd_laid.specs.Shape.{own, ShapeDevice, ThinShape, ArePieces, leaf_mappings, piece_mappings, device_of, uses_of_piece, uses_of, pool_of}
use Rattle.pd_laid.specs.PoolText.{PartPiece, SharedPart, mappings_of_runs, piece_of_part, device_of_part, lines_of_leaves, lines_of_piece, lines_of_part, HaveMappings, HasPieceMappings, HasPartMappings, MeansShape}
use Rattle.pd_laid.proofs.LeafRuns.{is_used, list_at, all_at, IsLeaf, HaveTold, told_device, told_use, told_map, mappings_at, number_mapped}
use Rattle.pd_laid.proofs.ShapeLines.{ArePoolLines, or_moved}
use Rattle.pd_laid.proofs.ShapeCut.{Cut, with_runs, add_line, cut_of, runs_before, no_runs, with_runs_lines, with_runs_mappings, with_runs_uses, with_runs_have, with_runs_pieces, leaf_lines, to_come, to_come_after_leaf, to_come_after_map, none_to_come, each_used}

leaf_tells : (number leaves entries left : ℕ) → not (leb 1 entries && leb entries 252) ≡ false → not (eqb number leaves) ≡ false → ltb 0 left ≡ false
    → (1 ≤ entries) × ((entries ≤ 252) × ((number ≡ leaves) × (left ≡ 0)))
leaf_tells number leaves entries left range order mapped =
    (grind (arith, nat_tests), (grind (arith, nat_tests), (grind (arith, nat_tests), grind (arith, nat_tests))))

-- the leaves that all lines give are these
module _ (leaves : List (List Run)) where
  abbrev all : List (List Mapping)
  all = map mappings_of_runs leaves

  -- the leaves that pieces and then devices use
  abbrev uses_ahead : List PartPiece → List SharedPart → List ℕ
  uses_ahead pieces parts = flat_map uses_of_piece (map piece_of_part pieces) ++ flat_map uses_of (map device_of_part parts)

  -- what is owed of the devices that follow, and of the uses in the device that is open
  record DevicesOwed (blocks least : ℕ) (uses : List ℕ) (opened : List PartPiece) (parts : List SharedPart) : Type 0 where
    devices : AreDevices blocks least (map (device_of all) (map device_of_part parts))
    have : AllByRecursion HasPartMappings parts
    pieces : AllByRecursion (λ (d : ShapeDevice). ArePieces (length all) d.pieces) (map device_of_part parts)
    used : (n : ℕ) → n < length all → (is_used uses n || is_used (uses_ahead opened parts) n) ≡ true

  -- what the rest of a text owes in a device
  record PiecesOwed (before lines : List Line) (cut : Cut) : Type 0 where
    lines_are : lines ≡ map map_line cut.runs ++ (flat_map lines_of_piece cut.pieces ++ (flat_map lines_of_part cut.parts ++ (end_line ∷ [])))
    mappings : AreMappings (data_blocks_of before) (piece_end before) (mappings_of_runs cut.runs ++ flat_map (piece_mappings all) (map piece_of_part cut.pieces))
    number : length (mappings_of_runs cut.runs ++ flat_map (piece_mappings all) (map piece_of_part cut.pieces)) ≡ unmapped before
    runs : HaveMappings cut.runs
    have : AllByRecursion HasPieceMappings cut.pieces
    pieces : (ms : List Mapping) → 1 ≤ length ms → ArePieces (length all) (own ms ∷ map piece_of_part cut.pieces)
    rest : DevicesOwed (data_blocks_of before) (least_id before) (text.uses_of before) cut.pieces cut.parts

  -- the lines before tell these leaves, and each is lawful
  record Known (before : List Line) : Type 0 where
    told : HaveTold before leaves
    device : has_device before ≡ true
    lawful : AllByRecursion (IsLeaf (data_blocks_of before)) leaves

  piece_with_map : (before lines : List Line) (r : Run) (cut : Cut) → MapPasses before r → PiecesOwed (map_line r ∷ before) lines cut
      → PiecesOwed before (map_line r ∷ lines) (add_line (map_line r) cut)
  piece_with_map before lines r cut passes owed =
      let runs = mappings_of_runs cut.runs in
      let others = flat_map (piece_mappings all) (map piece_of_part cut.pieces) in
      let owes = map_line_owes before r (runs ++ others) passes owed.mappings owed.number in
      record {
        lines_are = ap (λ (ls : List Line). map_line r ∷ ls) owed.lines_are;
        mappings = rw (append_assoc (mappings_of r) runs others) owes.0;
        number = rw (append_assoc (mappings_of r) runs others) owes.1;
        runs = (passes.some, owed.runs);
        have = owed.have;
        pieces = owed.pieces;
        rest = owed.rest;
      }

  piece_with_use : (before lines : List Line) (n : ℕ) (cut : Cut) → Known before → LinePasses before (use_line n) → PiecesOwed (use_line n ∷ before) lines cut
      → PiecesOwed before (use_line n ∷ lines) (add_line (use_line n) cut)
  piece_with_use before lines n cut known passes owed =
      let runs = runs_of_leaf before n in
      let tail = flat_map lines_of_part cut.parts ++ (end_line ∷ []) in
      let tells = use_tells n (leaf_number before) (least_of runs) (piece_end before) (unmapped before) (number_in runs) passes.range passes.order passes.mapped in
      let below : n < length leaves = omega (arith, tells.0, known.told.number) in
      let within : n < length all = omega (arith, below, length-map leaves mappings_of_runs) in
      let leaf : IsLeaf (data_blocks_of before) runs =
      rw (known.told.runs n) (all_at (IsLeaf (data_blocks_of before)) leaves n known.lawful below) in
      let same : leaf_mappings all n ≡ mappings_of_runs runs =
      mappings_at leaves n ∙ ap mappings_of_runs (sym (known.told.runs n)) in
      let mappings = mappings_of_runs cut.runs ++ flat_map (piece_mappings all) (map piece_of_part cut.pieces) in
      let number : length (mappings_of_runs runs ++ mappings) ≡ unmapped before =
      omega (arith, length-append (mappings_of_runs runs) mappings, number_mapped runs, owed.number, tells.1.1) in
      record {
        lines_are = ap (λ (ls : List Line). use_line n ∷ ls) (owed.lines_are ∙ sym (with_runs_lines cut.runs cut.pieces tail));
        mappings = rw (same, with_runs_mappings all cut.runs cut.pieces)
            (runs_before (data_blocks_of before) 0 (piece_end before) runs mappings tells.1.0 leaf.have leaf.mappings owed.mappings);
        number = rw (same, with_runs_mappings all cut.runs cut.pieces) number;
        runs = tt;
        have = (tt, with_runs_have cut.runs cut.pieces owed.runs owed.have);
        pieces = λ ms some. (some, (within, with_runs_pieces (length all) cut.runs cut.pieces owed.runs owed.pieces));
        rest = record {
          devices = owed.rest.devices;
          have = owed.rest.have;
          pieces = owed.rest.pieces;
          used = λ m below. rw (with_runs_uses cut.runs cut.pieces)
              (or_moved (is_used (text.uses_of before) m) (eqb n m) (is_used (uses_ahead cut.pieces cut.parts) m) ∙ owed.rest.used m below);
        };
      }

  piece_with_device : (before lines : List Line) (d : Details) (cut : Cut) → FitsLine (device_line d) → LinePasses before (device_line d)
      → PiecesOwed (device_line d ∷ before) lines cut → PiecesOwed before (device_line d ∷ lines) (add_line (device_line d) cut)
  piece_with_device before lines d cut fits passes owed =
      let tells = device_tells d.created d.snapped d.id (least_id before) (unmapped before) passes.range passes.order passes.mapped in
      let pieces = with_runs cut.runs cut.pieces in
      let rest = flat_map lines_of_part cut.parts in
      record {
        lines_are = ap (λ (ls : List Line). device_line d ∷ ls)
            (owed.lines_are ∙ sym (with_runs_lines cut.runs cut.pieces (rest ++ (end_line ∷ []))) ∙ sym (append_assoc (flat_map lines_of_piece pieces) rest (end_line ∷ [])));
        mappings = tt;
        number = sym tells.1.1.1;
        runs = tt;
        have = tt;
        pieces = λ ms some. some;
        rest = record {
          devices = (
            record {
              above = tells.1.1.0;
              id_fits = fits.0;
              mapped = rw (with_runs_mappings all cut.runs cut.pieces) (sym owed.number);
              mapped_fits = fits.1.0;
              transaction_fits = fits.1.1.0;
              created_fits = tells.0;
              snapped_fits = tells.1.0;
              mappings = rw (with_runs_mappings all cut.runs cut.pieces) owed.mappings;
            },
            owed.rest.devices,
          );
          have = (with_runs_have cut.runs cut.pieces owed.runs owed.have, owed.rest.have);
          pieces = (with_runs_pieces (length all) cut.runs cut.pieces owed.runs owed.pieces, owed.rest.pieces);
          used = λ number below. rw (with_runs_uses cut.runs cut.pieces) (owed.rest.used number below);
        };
      }

  -- nothing follows the last line
  none_after_end : (before lines : List Line) → ArePoolLines (end_line ∷ before) lines → lines ≡ []
  none_after_end before [] reads = refl
  none_after_end before (line ∷ lines) reads = absurd (true≢false reads.0)

  -- the last line
  piece_at_end : (before : List Line) → HaveTold before leaves → LinePasses before end_line → PiecesOwed before (end_line ∷ []) (add_line end_line (cut_of []))
  piece_at_end before told passes =
      let none : unmapped before ≡ 0 = grind (arith, nat_tests, passes.mapped) in
      record {
        lines_are = refl;
        mappings = tt;
        number = sym none;
        runs = tt;
        have = tt;
        pieces = λ ms some. some;
        rest = record {
          devices = tt;
          have = tt;
          pieces = tt;
          used = λ n below. or_left _ false
              (each_used (text.uses_of before) (leaf_number before) n passes.used (omega (arith, below, told.number, length-map leaves mappings_of_runs)));
        };
      }

  -- the lines from the first device line on
  devices_read : (lines before : List Line) → 2 ≤ length before → Known before → ArePoolLines before lines
      → has_ended pool_format before ≡ false → PiecesOwed before lines (cut_of lines)
  devices_read [] before some known reads going = absurd (true≢false (sym reads ∙ going))
  devices_read (first_line ∷ lines) before some known reads going = absurd (omega (arith, some, reads.1.1.0.0))
  devices_read (shared_first_line ∷ lines) before some known reads going = absurd (omega (arith, some, reads.1.1.0.0))
  devices_read (pool_line p ∷ lines) before some known reads going = absurd (omega (arith, some, reads.1.1.0))
  devices_read (leaf_line l ∷ lines) before some known reads going =
      absurd (true≢false (sym (and_parts (is_shared before) (not (has_device before)) reads.1.1.0.1).1 ∙ ap not known.device))
  devices_read (device_line d ∷ lines) before some known reads going =
      let passes = line_passes before (device_line d) (omega (arith, some)) reads.1.1.1.0 in
      let more : Known (device_line d ∷ before) = record { told = told_device before d leaves known.told; device = refl; lawful = known.lawful } in
      piece_with_device before lines d (cut_of lines) reads.1.0 passes (devices_read lines (device_line d ∷ before) (omega arith) more reads.1.1.1.1 refl)
  devices_read (use_line n ∷ lines) before some known reads going =
      let passes = line_passes before (use_line n) (omega (arith, some)) reads.1.1.1.0 in
      let more : Known (use_line n ∷ before) = record { told = told_use before n leaves known.told; device = known.device; lawful = known.lawful } in
      piece_with_use before lines n (cut_of lines) known passes (devices_read lines (use_line n ∷ before) (omega arith) more reads.1.1.1.1 refl)
  devices_read (map_line r ∷ lines) before some known reads going =
      let passes = line_passes before (map_line r) (omega (arith, some)) reads.1.1.1.0 in
      let more : Known (map_line r ∷ before) =
      record { told = told_map before r leaves known.device known.told; device = known.device; lawful = known.lawful } in
      piece_with_map before lines r (cut_of lines) (map_passes before r passes) (devices_read lines (map_line r ∷ before) (omega arith) more reads.1.1.1.1 refl)
  devices_read (end_line ∷ lines) before some known reads going =
      let passes = line_passes before end_line (omega (arith, some)) reads.1.1.1.0 in
      rw (none_after_end before lines reads.1.1.1.1) (piece_at_end before known.told passes)

  -- what the rest of a text owes before all devices; of the devices, where all leaves are lawful
  record LeavesOwed (before lines : List Line) (cut : Cut) : Type 0 where
    mappings : AreMappings (data_blocks_of before) (piece_end before) (mappings_of_runs cut.runs)
    number : length (mappings_of_runs cut.runs) ≡ unmapped before
    runs : HaveMappings cut.runs
    numbers_fit : length leaves ≤ 2 ^ 64
    lawful : AllByRecursion (IsLeaf (data_blocks_of before)) cut.leaves
    lines_are : AllByRecursion (IsLeaf (data_blocks_of before)) leaves
        → lines ≡ map map_line cut.runs ++ (lines_of_leaves (leaf_number before) cut.leaves ++ (flat_map lines_of_part cut.parts ++ (end_line ∷ [])))
    rest : AllByRecursion (IsLeaf (data_blocks_of before)) leaves
        → DevicesOwed (data_blocks_of before) (least_id before) (text.uses_of before) [] cut.parts

  -- the lines before and those that follow tell these leaves
  record Along (before : List Line) (cut : Cut) : Type 0 where
    runs : (n : ℕ) → runs_of_leaf before n ++ to_come (leaf_number before) (cut.runs ∷ cut.leaves) (suc n) ≡ list_at leaves n
    number : leaf_number before + length cut.leaves ≡ length leaves
    numbers_fit : leaf_number before ≤ 2 ^ 64
    closed : has_device before ≡ false

  leaf_with_map : (before lines : List Line) (r : Run) (cut : Cut) → MapPasses before r → LeavesOwed (map_line r ∷ before) lines cut
      → LeavesOwed before (map_line r ∷ lines) (add_line (map_line r) cut)
  leaf_with_map before lines r cut passes owed =
      let owes = map_line_owes before r (mappings_of_runs cut.runs) passes owed.mappings owed.number in
      record {
        mappings = owes.0;
        number = owes.1;
        runs = (passes.some, owed.runs);
        numbers_fit = owed.numbers_fit;
        lawful = owed.lawful;
        lines_are = λ lawful. ap (λ (ls : List Line). map_line r ∷ ls) (owed.lines_are lawful);
        rest = owed.rest;
      }

  leaf_with_leaf : (before lines : List Line) (l : LeafHead) (cut : Cut) → LinePasses before (leaf_line l) → LeavesOwed (leaf_line l ∷ before) lines cut
      → LeavesOwed before (leaf_line l ∷ lines) (add_line (leaf_line l) cut)
  leaf_with_leaf before lines l cut passes owed =
      let tells = leaf_tells l.number (leaf_number before) l.entries (unmapped before) passes.range passes.order passes.mapped in
      let tail = flat_map lines_of_part cut.parts ++ (end_line ∷ []) in
      record {
        mappings = tt;
        number = sym tells.1.1.1;
        runs = tt;
        numbers_fit = owed.numbers_fit;
        lawful = (
          record { have = owed.runs; some = omega (arith, owed.number, tells.0); few = omega (arith, owed.number, tells.1.0); mappings = owed.mappings },
          owed.lawful,
        );
        lines_are = λ lawful. leaf_lines (leaf_number before) l cut.runs cut.leaves tail lines tells.1.1.0 owed.number (owed.lines_are lawful);
        rest = owed.rest;
      }

  -- where no leaf is to come
  no_leaf_ahead : (before lines : List Line) (parts : List SharedPart) → unmapped before ≡ 0
      → Along before (record { runs = []; pieces = []; leaves = []; parts = parts })
      → (AllByRecursion (IsLeaf (data_blocks_of before)) leaves → PiecesOwed before lines (record { runs = []; pieces = []; leaves = []; parts = parts }))
      → LeavesOwed before lines (record { runs = []; pieces = []; leaves = []; parts = parts })
  no_leaf_ahead before lines parts none along owed = record {
    mappings = tt;
    number = sym none;
    runs = tt;
    numbers_fit = omega (arith, along.number, along.numbers_fit);
    lawful = tt;
    lines_are = λ lawful. (owed lawful).lines_are;
    rest = λ lawful. (owed lawful).rest;
  }

  all_told : (before : List Line) (parts : List SharedPart) → Along before (record { runs = []; pieces = []; leaves = []; parts = parts }) → HaveTold before leaves
  all_told before parts along = record {
    number = omega (arith, along.number);
    runs = λ n. sym (append-nil (runs_of_leaf before n)) ∙ ap (λ (rs : List Run). runs_of_leaf before n ++ rs) (sym (none_to_come (leaf_number before) (suc n))) ∙ along.runs n;
  }

  -- the lines before the first device line
  leaves_read : (lines before : List Line) → 2 ≤ length before → Along before (cut_of lines) → ArePoolLines before lines
      → has_ended pool_format before ≡ false → LeavesOwed before lines (cut_of lines)
  leaves_read [] before some along reads going = absurd (true≢false (sym reads ∙ going))
  leaves_read (first_line ∷ lines) before some along reads going = absurd (omega (arith, some, reads.1.1.0.0))
  leaves_read (shared_first_line ∷ lines) before some along reads going = absurd (omega (arith, some, reads.1.1.0.0))
  leaves_read (pool_line p ∷ lines) before some along reads going = absurd (omega (arith, some, reads.1.1.0))
  leaves_read (leaf_line l ∷ lines) before some along reads going =
      let passes = line_passes before (leaf_line l) (omega (arith, some)) reads.1.1.1.0 in
      let tells = leaf_tells l.number (leaf_number before) l.entries (unmapped before) passes.range passes.order passes.mapped in
      let cut = cut_of lines in
      let more : Along (leaf_line l ∷ before) cut = record {
        runs = λ n. ap (λ (rs : List Run). runs_of_leaf before n ++ rs) (to_come_after_leaf (leaf_number before) cut.runs cut.leaves (suc n)) ∙ along.runs n;
        number = omega (arith, along.number);
        numbers_fit = omega (arith, reads.1.0.0, tells.1.1.0);
        closed = along.closed;
      } in
      leaf_with_leaf before lines l cut passes (leaves_read lines (leaf_line l ∷ before) (omega arith) more reads.1.1.1.1 refl)
  leaves_read (device_line d ∷ lines) before some along reads going =
      let passes = line_passes before (device_line d) (omega (arith, some)) reads.1.1.1.0 in
      let tells = device_tells d.created d.snapped d.id (least_id before) (unmapped before) passes.range passes.order passes.mapped in
      let cut = cut_of lines in
      let parts = (add_line (device_line d) cut).parts in
      let told = told_device before d leaves (all_told before parts along) in
      no_leaf_ahead before (device_line d ∷ lines) parts tells.1.1.1 along
      (λ lawful. piece_with_device before lines d cut reads.1.0 passes
      (devices_read lines (device_line d ∷ before) (omega arith) (record { told = told; device = refl; lawful = lawful }) reads.1.1.1.1 refl))
  leaves_read (use_line n ∷ lines) before some along reads going =
      absurd (true≢false (sym (and_parts (is_shared before) (has_device before) reads.1.1.0.1).1 ∙ along.closed))
  leaves_read (map_line r ∷ lines) before some along reads going =
      let passes = line_passes before (map_line r) (omega (arith, some)) reads.1.1.1.0 in
      let cut = cut_of lines in
      let more : Along (map_line r ∷ before) cut = record {
        runs = λ n. rw along.closed (to_come_after_map (leaf_number before) (suc n) r (runs_of_leaf before n) cut.runs cut.leaves ∙ along.runs n);
        number = along.number;
        numbers_fit = along.numbers_fit;
        closed = along.closed;
      } in
      leaf_with_map before lines r cut (map_passes before r passes) (leaves_read lines (map_line r ∷ before) (omega arith) more reads.1.1.1.1 refl)
  leaves_read (end_line ∷ lines) before some along reads going =
      let passes = line_passes before end_line (omega (arith, some)) reads.1.1.1.0 in
      let none : unmapped before ≡ 0 = grind (arith, nat_tests, passes.mapped) in
      rw (none_after_end before lines reads.1.1.1.1)
      (no_leaf_ahead before (end_line ∷ []) [] none along (λ lawful. piece_at_end before (all_told before [] along) passes))

leaves_lawful : (blocks : ℕ) (leaves : List (List Run)) → AllByRecursion (IsLeaf blocks) leaves
    → AllByRecursion HaveMappings leaves
    × (AllByRecursion (λ mappings. 1 ≤ length mappings) (map mappings_of_runs leaves) × AllByRecursion (λ mappings. length mappings ≤ 252) (map mappings_of_runs leaves))
leaves_lawful blocks [] lawful = (tt, (tt, tt))
leaves_lawful blocks (runs ∷ leaves) lawful =
    let more = leaves_lawful blocks leaves lawful.1 in
    ((lawful.0.have, more.0), ((lawful.0.some, more.1.0), (lawful.0.few, more.1.1)))

shape_after_pool : (p : Head) (lines : List Line) → ArePoolLines (shared_first_line ∷ []) (pool_line p ∷ lines)
    → (w : ThinShape) × MeansShape (shared_first_line ∷ pool_line p ∷ lines) w
unfolding pool_of
shape_after_pool p lines reads =
    let passes = line_passes (shared_first_line ∷ []) (pool_line p) (omega arith) reads.1.1.1.0 in
    let fits = reads.1.0 in
    let tells = pool_tells p.time p.block_size p.data_blocks passes.range in
    let cut = cut_of lines in
    let along : Along cut.leaves (pool_line p ∷ shared_first_line ∷ []) cut = record { runs = λ n. refl; number = omega arith; numbers_fit = omega arith; closed = refl } in
    let owed = leaves_read cut.leaves lines (pool_line p ∷ shared_first_line ∷ []) (omega arith) along reads.1.1.1.1 refl in
    let tail = lines_of_leaves 0 cut.leaves ++ (flat_map lines_of_part cut.parts ++ (end_line ∷ [])) in
    let same : lines ≡ tail = owed.lines_are owed.lawful ∙ ap (λ (rs : List Run). map map_line rs ++ tail) (no_runs cut.runs owed.runs owed.number) in
    let rest = owed.rest owed.lawful in
    let each = leaves_lawful p.data_blocks cut.leaves owed.lawful in
    let numbers_fit : length (map mappings_of_runs cut.leaves) ≤ 2 ^ 64 = omega (arith, owed.numbers_fit, length-map cut.leaves mappings_of_runs) in
    let w : ThinShape = record {
      uuid = p.uuid;
      time = p.time;
      transaction = p.transaction;
      block_size = p.block_size;
      data_blocks = p.data_blocks;
      leaves = map mappings_of_runs cut.leaves;
      devices = map device_of_part cut.parts;
    } in (
      w,
      record {
        leaves = cut.leaves;
        parts = cut.parts;
        lines_are = ap (λ (ls : List Line). shared_first_line ∷ pool_line p ∷ ls) same;
        leaves_are = refl;
        devices_are = refl;
        leaf_runs = each.0;
        runs = rest.have;
        shape = record { numbers_fit = numbers_fit; filled = each.1.0; few = each.1.1; pieces = rest.pieces; used = rest.used };
        lawful = record {
          uuid_len = fits.0;
          uuid_bytes = fits.1.0;
          time_fits = tells.0;
          transaction_fits = fits.1.1.1.0;
          block_size_fits = tells.1.0;
          data_blocks_fit = tells.1.1;
          devices = rest.devices;
        };
      },
    )

-- lines of version 2 that are read mean a shape
pub shape_if_read : (lines : List Line) → ArePoolLines (shared_first_line ∷ []) lines
    → (w : ThinShape) × MeansShape (shared_first_line ∷ lines) w
shape_if_read [] reads = absurd (true≢false (sym reads))
shape_if_read (first_line ∷ lines) reads = absurd (omega (arith, reads.1.1.0.0))
shape_if_read (shared_first_line ∷ lines) reads = absurd (omega (arith, reads.1.1.0.0))
shape_if_read (pool_line p ∷ lines) reads = shape_after_pool p lines reads
shape_if_read (leaf_line l ∷ lines) reads = absurd (omega (arith, reads.1.1.0.0))
shape_if_read (device_line d ∷ lines) reads = absurd (omega (arith, reads.1.1.0))
shape_if_read (use_line n ∷ lines) reads = absurd (omega (arith, reads.1.1.0.0))
shape_if_read (map_line r ∷ lines) reads = absurd (omega (arith, reads.1.1.0.0))
shape_if_read (end_line ∷ lines) reads = absurd (omega (arith, reads.1.1.0))
