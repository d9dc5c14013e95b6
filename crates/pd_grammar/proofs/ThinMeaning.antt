-- Thin texts and what they mean.
use Rattle.std.proofs.Common.{◌≡◌, ℕ, zero, suc, ◌+◌, ◌-◌, ◌^◌, ◌≤◌, ◌<◌, true, false, not, Bool, ◌&&◌, ◌||◌, List, [], ◌∷◌, ◌++◌, length, length-append, map, refl, ap, sym, ◌∙◌, append_assoc, arith, ltb, leb}
use Rattle.std.proofs.lemmas.Bool.{true≢false}
use Rattle.std.proofs.lemmas.Bool.Decides.{nat_tests}
use Rattle.std.proofs.lemmas.Option.{none-some}
use Rattle.std.specs.List.{AllByRecursion, flat_map}
use Rattle.pd_kinds.specs.Meaning.{ThinPool, Mapping}
use Rattle.pd_grammar.specs.Texts.{has_ended}
use Rattle.pd_grammar.specs.Lawful.{AreMappings, IsDevice, AreDevices, IsLawfulPool}
use Rattle.pd_grammar.specs.ThinText.{Line, first_line, shared_first_line, pool_line, leaf_line, device_line, use_line, map_line, end_line, Head, Details, Run, Part, thin, thin_tests, is_shared, leaf_number, has_device, least_id, piece_end, unmapped, data_blocks_of, has_number_out_of_range, is_out_of_order, is_mapped_otherwise, leaves_one_unused, mappings_from, mappings_of, device_of_part, head_of, lines_of_part, lines_of_parts, HasMappings}
use Rattle.pd_grammar.proofs.GrammarLemmas.{AreLines, Passes}
use Rattle.pd_grammar.proofs.ThinRead.{FitsLine, Placed}

-- the parts of what is left of a text: the runs of the device that is open, and the devices after it
pub record Cut : Type 0 where
  pub runs : List Run
  pub parts : List Part

abbrev pub add_line : Line → Cut → Cut
add_line first_line cut = cut
add_line shared_first_line cut = cut
add_line (pool_line p) cut = cut
add_line (leaf_line l) cut = cut
add_line (device_line d) cut = record { runs = []; parts = record { details = d; runs = cut.runs } ∷ cut.parts }
add_line (use_line n) cut = cut
add_line (map_line r) cut = record { runs = r ∷ cut.runs; parts = cut.parts }
add_line end_line cut = record { runs = []; parts = [] }

abbrev pub cut_of : List Line → Cut
cut_of [] = record { runs = []; parts = [] }
cut_of (line ∷ lines) = add_line line (cut_of lines)

-- the lines of a cut
abbrev pub lines_of_cut : Cut → List Line
lines_of_cut cut = map map_line cut.runs ++ (flat_map lines_of_part cut.parts ++ (end_line ∷ []))

-- mappings of a run, and those after it
pub run_mappings : (blocks least v d t n : ℕ) (rest : List Mapping) → least ≤ v → v + n ≤ 2 ^ 64 → d + n ≤ blocks → t < 2 ^ 24
    → AreMappings blocks (v + n) rest → 1 ≤ n → AreMappings blocks least (mappings_from v d t n ++ rest)
run_mappings blocks least v d t zero rest above fits within time are some = absurd (omega arith)
run_mappings blocks least v d t (suc zero) rest above fits within time are some =
    (record { above = above; virtual_fits = omega arith; within = omega arith; time_fits = time }, are)
run_mappings blocks least v d t (suc (suc n)) rest above fits within time are some =
    let next : suc v + suc n ≡ v + suc (suc n) = omega arith in
    let first : v + 1 ≡ suc v = omega arith in (
      record { above = above; virtual_fits = omega arith; within = omega arith; time_fits = time },
      rw first (run_mappings blocks (suc v) (suc v) (suc d) t (suc n) rest (omega arith) (omega arith) (omega arith) time (rw next are) (omega arith)),
    )

-- what holds of a run that begins lawful mappings
pub record RunFits (blocks least v d t n : ℕ) : Type 0 where
  pub above : least ≤ v
  pub fits : v + n ≤ 2 ^ 64
  pub within : d + n ≤ blocks
  pub time : t < 2 ^ 24

pub run_fits : (blocks least v d t n : ℕ) (rest : List Mapping) → AreMappings blocks least (mappings_from v d t n ++ rest) → 1 ≤ n
    → RunFits blocks least v d t n × AreMappings blocks (v + n) rest
run_fits blocks least v d t zero rest are some = absurd (omega arith)
run_fits blocks least v d t (suc zero) rest are some =
    (record { above = are.0.above; fits = omega (arith, are.0.virtual_fits); within = omega (arith, are.0.within); time = are.0.time_fits }, are.1)
run_fits blocks least v d t (suc (suc n)) rest are some =
    let next : suc v + suc n ≡ v + suc (suc n) = omega arith in
    let first : v + 1 ≡ suc v = omega arith in
    let more : RunFits blocks (suc v) (suc v) (suc d) t (suc n) × AreMappings blocks (suc v + suc n) rest =
    run_fits blocks (suc v) (suc v) (suc d) t (suc n) rest (rw first at are.1) (omega arith) in (
      record { above = are.0.above; fits = omega (arith, more.0.fits); within = omega (arith, more.0.within); time = are.0.time_fits },
      rw (← next) more.1,
    )

pub mappings_length : (v d t n : ℕ) → length (mappings_from v d t n) ≡ n
mappings_length v d t zero = refl
mappings_length v d t (suc n) = ap suc (mappings_length (suc v) (suc d) t n)

-- what the rest of a text owes after these lines
pub record Owed (before : List Line) (cut : Cut) : Type 0 where
  pub mappings : AreMappings (data_blocks_of before) (piece_end before) (flat_map mappings_of cut.runs)
  pub number : length (flat_map mappings_of cut.runs) ≡ unmapped before
  pub runs : AllByRecursion (λ (r : Run). 1 ≤ r.length) cut.runs
  pub devices : AreDevices (data_blocks_of before) (least_id before) (map device_of_part cut.parts)
  pub parts : AllByRecursion HasMappings cut.parts
  pub opened : has_device before ≡ false → cut.runs ≡ []

-- a line passes the tests
pub record LinePasses (before : List Line) (line : Line) : Type 0 where
  pub range : has_number_out_of_range before line ≡ false
  pub order : is_out_of_order before line ≡ false
  pub mapped : is_mapped_otherwise before line ≡ false
  pub used : leaves_one_unused before line ≡ false

pub line_passes : (before : List Line) (line : Line) → 1 ≤ length before → Passes thin_tests before line → LinePasses before line
line_passes [] line some passes = absurd (omega arith)
line_passes (newest ∷ before) line some passes = record { range = passes.0; order = passes.1.0; mapped = passes.1.1.0; used = passes.1.1.1.0 }

pub tests_passed : (before : List Line) (line : Line) → LinePasses before line → Passes thin_tests before line
tests_passed [] line passes = tt
tests_passed (newest ∷ before) line passes = (passes.range, (passes.order, (passes.mapped, (passes.used, tt))))

-- what passes of a map line
pub record MapPasses (before : List Line) (r : Run) : Type 0 where
  pub some : 1 ≤ r.length
  pub fits : r.virtual_block + r.length ≤ 2 ^ 64
  pub within : r.data_block + r.length ≤ data_blocks_of before
  pub time : r.time < 2 ^ 24
  pub above : piece_end before ≤ r.virtual_block
  pub enough : r.length ≤ unmapped before

pub map_tells : (n end blocks_end blocks time v run left : ℕ)
    → not (ltb 0 n && (leb end (2 ^ 64) && (leb blocks_end blocks && ltb time (2 ^ 24)))) ≡ false → ltb v run ≡ false → ltb left n ≡ false
    → (1 ≤ n) × ((end ≤ 2 ^ 64) × ((blocks_end ≤ blocks) × ((time < 2 ^ 24) × ((run ≤ v) × (n ≤ left)))))
map_tells n end blocks_end blocks time v run left range order mapped =
    (grind (arith, nat_tests), (grind (arith, nat_tests), (grind (arith, nat_tests), (grind (arith, nat_tests), (grind (arith, nat_tests), grind (arith, nat_tests))))))

map_told : (n end blocks_end blocks time v run left : ℕ)
    → 1 ≤ n → end ≤ 2 ^ 64 → blocks_end ≤ blocks → time < 2 ^ 24 → run ≤ v → n ≤ left
    → (not (ltb 0 n && (leb end (2 ^ 64) && (leb blocks_end blocks && ltb time (2 ^ 24)))) ≡ false) × ((ltb v run ≡ false) × (ltb left n ≡ false))
map_told n end blocks_end blocks time v run left a b c d e f = (grind (arith, nat_tests), (grind (arith, nat_tests), grind (arith, nat_tests)))

pub map_passes : (before : List Line) (r : Run) → LinePasses before (map_line r) → MapPasses before r
map_passes before r passes =
    let all = map_tells r.length (r.virtual_block + r.length) (r.data_block + r.length) (data_blocks_of before) r.time r.virtual_block (piece_end before) (unmapped before)
    passes.range passes.order passes.mapped in
    record { some = all.0; fits = all.1.0; within = all.1.1.0; time = all.1.1.1.0; above = all.1.1.1.1.0; enough = all.1.1.1.1.1 }

pub device_tells : (created snapped id least left : ℕ) → not (ltb created (2 ^ 32) && ltb snapped (2 ^ 32)) ≡ false → ltb id least ≡ false → ltb 0 left ≡ false
    → (created < 2 ^ 32) × ((snapped < 2 ^ 32) × ((least ≤ id) × (left ≡ 0)))
device_tells created snapped id least left range order mapped =
    (grind (arith, nat_tests), (grind (arith, nat_tests), (grind (arith, nat_tests), grind (arith, nat_tests))))

-- a map line that passes owes its mappings before those that are owed after it
pub map_line_owes : (before : List Line) (r : Run) (rest : List Mapping) → MapPasses before r
    → AreMappings (data_blocks_of before) (r.virtual_block + r.length) rest → length rest ≡ unmapped before - r.length
    → AreMappings (data_blocks_of before) (piece_end before) (mappings_of r ++ rest) × (length (mappings_of r ++ rest) ≡ unmapped before)
map_line_owes before r rest passes are number = (
  run_mappings (data_blocks_of before) (piece_end before) r.virtual_block r.data_block r.time r.length rest
      passes.above passes.fits passes.within passes.time are passes.some,
  omega (arith, length-append (mappings_of r) rest, mappings_length r.virtual_block r.data_block r.time r.length, number, passes.enough),
)

owed_with_map : (before : List Line) (r : Run) (cut : Cut) → MapPasses before r → has_device before ≡ true → Owed (map_line r ∷ before) cut
    → Owed before (record { runs = r ∷ cut.runs; parts = cut.parts })
owed_with_map before r cut passes device owed =
    let owes = map_line_owes before r (flat_map mappings_of cut.runs) passes owed.mappings owed.number in
    record {
      mappings = owes.0;
      number = owes.1;
      runs = (passes.some, owed.runs);
      devices = owed.devices;
      parts = owed.parts;
      opened = λ closed. absurd (true≢false (sym device ∙ closed));
    }

owed_with_device : (before : List Line) (d : Details) (cut : Cut) → FitsLine (device_line d) → LinePasses before (device_line d) → Owed (device_line d ∷ before) cut
    → Owed before (record { runs = []; parts = record { details = d; runs = cut.runs } ∷ cut.parts })
owed_with_device before d cut fits passes owed =
    let tells = device_tells d.created d.snapped d.id (least_id before) (unmapped before) passes.range passes.order passes.mapped in
    record {
      mappings = tt;
      number = sym tells.1.1.1;
      runs = tt;
      devices = (
        record {
          above = tells.1.1.0;
          id_fits = fits.0;
          mapped = sym owed.number;
          mapped_fits = fits.1.0;
          transaction_fits = fits.1.1.0;
          created_fits = tells.0;
          snapped_fits = tells.1.0;
          mappings = owed.mappings;
        },
        owed.devices,
      );
      parts = (owed.runs, owed.parts);
      opened = λ closed. refl;
    }

owed_at_end : (before : List Line) → LinePasses before end_line → Owed before (record { runs = []; parts = [] })
owed_at_end before passes =
    let none : unmapped before ≡ 0 = grind (arith, nat_tests, passes.mapped) in
    record { mappings = tt; number = sym none; runs = tt; devices = tt; parts = tt; opened = λ closed. refl }

end_is_last : (before lines : List Line) → AreLines thin FitsLine Placed (end_line ∷ before) lines → lines ≡ []
end_is_last before [] reads = refl
end_is_last before (line ∷ lines) reads = absurd (true≢false reads.0)

with_device_line : (d : Details) (cut : Cut) (lines : List Line) → lines_of_cut cut ≡ lines
    → device_line d ∷ ((map map_line cut.runs ++ flat_map lines_of_part cut.parts) ++ (end_line ∷ [])) ≡ device_line d ∷ lines
with_device_line d cut lines e = ap (λ (ls : List Line). device_line d ∷ ls) (append_assoc (map map_line cut.runs) (flat_map lines_of_part cut.parts) (end_line ∷ []) ∙ e)

-- the lines so far are of version 1, in which there are no leaves
pub record IsUnshared (before : List Line) : Type 0 where
  pub version : is_shared before ≡ false
  pub none : leaf_number before ≡ 0

-- so no line of a leaf may stand there, and a map line only in a device
not_shared : {P : Type 0} → (before : List Line) (b : Bool) → IsUnshared before → (is_shared before && b) ≡ true → P
not_shared before b unshared placed = absurd (true≢false (sym placed ∙ ap (λ (x : Bool). x && b) unshared.version))

or_false : (a b : Bool) → b ≡ false → (a || b) ≡ true → a ≡ true
or_false true b off e = refl
or_false false b off e = absurd (true≢false (sym e ∙ off))

pub in_device : (before : List Line) → IsUnshared before → (has_device before || ltb 0 (leaf_number before)) ≡ true → has_device before ≡ true
in_device before unshared placed = or_false (has_device before) (ltb 0 (leaf_number before)) (rw unshared.none refl) placed

-- the lines after the pool line are those of their cut, which is what is owed
pub owed_if_read : (lines before : List Line) → 2 ≤ length before → IsUnshared before → AreLines thin FitsLine Placed before lines → has_ended thin before ≡ false
    → (lines_of_cut (cut_of lines) ≡ lines) × Owed before (cut_of lines)
owed_if_read [] before some unshared reads going = absurd (true≢false (sym reads ∙ going))
owed_if_read (first_line ∷ lines) before some unshared reads going = absurd (omega (arith, some, reads.1.1.0.0))
owed_if_read (shared_first_line ∷ lines) before some unshared reads going = absurd (omega (arith, some, reads.1.1.0.0))
owed_if_read (pool_line p ∷ lines) before some unshared reads going = absurd (omega (arith, some, reads.1.1.0))
owed_if_read (leaf_line l ∷ lines) before some unshared reads going = not_shared before (not (has_device before)) unshared reads.1.1.0.1
owed_if_read (device_line d ∷ lines) before some unshared reads going =
    let passes = line_passes before (device_line d) (omega (arith, some)) reads.1.1.1.0 in
    let rest = owed_if_read lines (device_line d ∷ before) (omega arith) (record { version = unshared.version; none = unshared.none }) reads.1.1.1.1 refl in
    (with_device_line d (cut_of lines) lines rest.0, owed_with_device before d (cut_of lines) reads.1.0 passes rest.1)
owed_if_read (use_line n ∷ lines) before some unshared reads going = not_shared before (has_device before) unshared reads.1.1.0.1
owed_if_read (map_line r ∷ lines) before some unshared reads going =
    let passes = line_passes before (map_line r) (omega (arith, some)) reads.1.1.1.0 in
    let rest = owed_if_read lines (map_line r ∷ before) (omega arith) (record { version = unshared.version; none = unshared.none }) reads.1.1.1.1 refl in
    (ap (λ (ls : List Line). map_line r ∷ ls) rest.0, owed_with_map before r (cut_of lines) (map_passes before r passes) (in_device before unshared reads.1.1.0.1) rest.1)
owed_if_read (end_line ∷ lines) before some unshared reads going =
    let passes = line_passes before end_line (omega (arith, some)) reads.1.1.1.0 in
    let last = end_is_last before lines reads.1.1.1.1 in
    rw last (refl, owed_at_end before passes)

-- and lines of what is owed are read: a map line whose mappings begin those that are owed, which the others are after it
pub record MapTold (before : List Line) (r : Run) (rest : List Mapping) : Type 0 where
  pub fits : FitsLine (map_line r)
  pub passes : LinePasses before (map_line r)
  pub mappings : AreMappings (data_blocks_of before) (r.virtual_block + r.length) rest
  pub number : length rest ≡ unmapped before - r.length

pub map_line_told : (before : List Line) (r : Run) (rest : List Mapping) → data_blocks_of before ≤ 2 ^ 40
    → AreMappings (data_blocks_of before) (piece_end before) (mappings_of r ++ rest) → length (mappings_of r ++ rest) ≡ unmapped before → 1 ≤ r.length
    → MapTold before r rest
map_line_told before r rest small are number some =
    let fits = run_fits (data_blocks_of before) (piece_end before) r.virtual_block r.data_block r.time r.length rest are some in
    let len : r.length + length rest ≡ unmapped before =
    omega (arith, length-append (mappings_of r) rest, mappings_length r.virtual_block r.data_block r.time r.length, number) in
    let told = map_told r.length (r.virtual_block + r.length) (r.data_block + r.length) (data_blocks_of before) r.time r.virtual_block (piece_end before) (unmapped before)
    some fits.0.fits fits.0.within fits.0.time fits.0.above (omega arith) in
    record {
      fits = (omega (arith, fits.0.fits, some), (omega (arith, fits.0.within), (omega (arith, fits.0.within), (omega (arith, fits.0.time), tt))));
      passes = record { range = told.0; order = told.1.0; mapped = told.1.1; used = refl };
      mappings = fits.1;
      number = omega (arith, len);
    }

-- the line of a device that may come there
device_told : (created snapped id least left : ℕ) → created < 2 ^ 32 → snapped < 2 ^ 32 → least ≤ id → left ≡ 0
    → (not (ltb created (2 ^ 32) && ltb snapped (2 ^ 32)) ≡ false) × ((ltb id least ≡ false) × (ltb 0 left ≡ false))
device_told created snapped id least left a b c d = (grind (arith, nat_tests), (grind (arith, nat_tests), grind (arith, nat_tests)))

pub device_line_told : (before : List Line) (d : Details) (mappings : List Mapping) → unmapped before ≡ 0
    → IsDevice (data_blocks_of before) (least_id before)
    (record { id = d.id; mapped = d.mapped; transaction = d.transaction; created = d.created; snapped = d.snapped; mappings = mappings })
    → FitsLine (device_line d) × LinePasses before (device_line d)
device_line_told before d mappings none is =
    let told = device_told d.created d.snapped d.id (least_id before) (unmapped before) is.created_fits is.snapped_fits is.above none in (
      (is.id_fits, (is.mapped_fits, (is.transaction_fits, (omega (arith, is.created_fits), (omega (arith, is.snapped_fits), tt))))),
      record { range = told.0; order = told.1.0; mapped = told.1.1; used = refl },
    )

-- the line of a lawful pool
pub pool_line_told : (before : List Line) (m : ThinPool) → IsLawfulPool m → FitsLine (pool_line (head_of m)) × LinePasses before (pool_line (head_of m))
pool_line_told before m lawful =
    let range : not (ltb m.time (2 ^ 32) && (ltb m.block_size (2 ^ 32) && leb m.data_blocks (2 ^ 40))) ≡ false =
    grind (arith, nat_tests, lawful.time_fits, lawful.block_size_fits, lawful.data_blocks_fit) in (
      (lawful.uuid_len, (lawful.uuid_bytes, (omega (arith, lawful.time_fits), (lawful.transaction_fits, (omega (arith, lawful.block_size_fits), (omega (arith, lawful.data_blocks_fit), tt)))))),
      record { range = range; order = refl; mapped = refl; used = refl },
    )

-- a line that is read
read_line : (before : List Line) (line : Line) (lines : List Line) → has_ended thin before ≡ false → FitsLine line → Placed before line → LinePasses before line
    → AreLines thin FitsLine Placed (line ∷ before) lines → AreLines thin FitsLine Placed before (line ∷ lines)
read_line before line lines going fits placed passes rest =
    (going, (fits, (placed, (tests_passed before line passes, rest))))

-- the map lines of a device, and then lines that are read once its number is reached
read_runs : (blocks least : ℕ) (tail : List Line)
    → ((b : List Line) → 2 ≤ length b → leaf_number b ≡ 0 → has_ended thin b ≡ false → unmapped b ≡ 0 → data_blocks_of b ≡ blocks → least_id b ≡ least → AreLines thin FitsLine Placed b tail)
    → (runs : List Run) (before : List Line) → 2 ≤ length before → leaf_number before ≡ 0 → has_ended thin before ≡ false → has_device before ≡ true
    → data_blocks_of before ≡ blocks → blocks ≤ 2 ^ 40 → least_id before ≡ least
    → AreMappings blocks (piece_end before) (flat_map mappings_of runs) → length (flat_map mappings_of runs) ≡ unmapped before
    → AllByRecursion (λ (r : Run). 1 ≤ r.length) runs
    → AreLines thin FitsLine Placed before (map map_line runs ++ tail)
read_runs blocks least tail after [] before some none going device pool small id are number have = after before some none going (sym number) pool id
read_runs blocks least tail after (r ∷ runs) before some none going device pool small id are number have =
    let told = map_line_told before r (flat_map mappings_of runs) (rw pool small) (rw pool are) number have.0 in
    read_line before (map_line r) (map map_line runs ++ tail) going told.fits (some, rw device refl) told.passes
    (read_runs blocks least tail after runs (map_line r ∷ before) (omega arith) none refl device pool small id (rw pool at told.mappings) told.number have.1)

read_parts : (parts : List Part) (before : List Line) → 2 ≤ length before → leaf_number before ≡ 0 → has_ended thin before ≡ false → unmapped before ≡ 0
    → data_blocks_of before ≤ 2 ^ 40
    → AreDevices (data_blocks_of before) (least_id before) (map device_of_part parts) → AllByRecursion HasMappings parts
    → AreLines thin FitsLine Placed before (flat_map lines_of_part parts ++ (end_line ∷ []))
read_parts [] before some leaves going none small devices have =
    read_line before end_line [] going tt some (record { range = refl; order = refl; mapped = rw none refl; used = rw leaves refl }) refl
read_parts (p ∷ parts) before some leaves going none small devices have =
    let d = p.details in
    let tail = flat_map lines_of_part parts ++ (end_line ∷ []) in
    let blocks = data_blocks_of before in
    let told = device_line_told before d (flat_map mappings_of p.runs) none devices.0 in
    let rest : AreLines thin FitsLine Placed (device_line d ∷ before) (map map_line p.runs ++ tail) =
    read_runs blocks (d.id + 1) tail
    (λ b more unled on done pool id. read_parts parts b more unled on done (rw pool small) (rw (pool, id) devices.1) have.1)
    p.runs (device_line d ∷ before) (omega arith) leaves refl refl refl small refl devices.0.mappings (sym devices.0.mapped) have.0 in
    let after : AreLines thin FitsLine Placed (device_line d ∷ before) ((map map_line p.runs ++ flat_map lines_of_part parts) ++ (end_line ∷ [])) =
    rw (append_assoc (map map_line p.runs) (flat_map lines_of_part parts) (end_line ∷ [])) rest in
    read_line before (device_line d) ((map map_line p.runs ++ flat_map lines_of_part parts) ++ (end_line ∷ [])) going told.0 some told.1 after

-- a run's runs and parts from the lines of a cut
cut_runs : (runs : List Run) (tail : List Line) → (cut_of tail).runs ≡ [] → cut_of (map map_line runs ++ tail) ≡ record { runs = runs; parts = (cut_of tail).parts }
cut_runs [] tail none = ap (λ (rs : List Run). record { runs = rs; parts = (cut_of tail).parts }) none
cut_runs (r ∷ runs) tail none = ap (add_line (map_line r)) (cut_runs runs tail none)

pub cut_parts : (parts : List Part) → cut_of (flat_map lines_of_part parts ++ (end_line ∷ [])) ≡ record { runs = []; parts = parts }
cut_parts [] = refl
cut_parts (p ∷ parts) =
    let tail = flat_map lines_of_part parts ++ (end_line ∷ []) in
    let rest = cut_parts parts in
    ap (λ (ls : List Line). add_line (device_line p.details) (cut_of ls)) (append_assoc (map map_line p.runs) (flat_map lines_of_part parts) (end_line ∷ []))
    ∙ ap (add_line (device_line p.details)) (cut_runs p.runs tail (ap (λ (c : Cut). c.runs) rest) ∙ ap (λ (ps : List Part). record { runs = p.runs; parts = ps }) (ap (λ (c : Cut). c.parts) rest))

-- the lines of a text that spells a pool are read
pub read_if_spelled : (m : ThinPool) (parts : List Part) → map device_of_part parts ≡ m.devices → AllByRecursion HasMappings parts → IsLawfulPool m
    → AreLines thin FitsLine Placed [] (lines_of_parts (head_of m) parts)
read_if_spelled m parts devices have lawful =
    let head : Head = head_of m in
    let body : AreLines thin FitsLine Placed (pool_line head ∷ first_line ∷ []) (flat_map lines_of_part parts ++ (end_line ∷ [])) =
    read_parts parts (pool_line head ∷ first_line ∷ []) (omega arith) refl refl refl lawful.data_blocks_fit (rw devices lawful.devices) have in
    let told = pool_line_told (first_line ∷ []) m lawful in
    let tail = flat_map lines_of_part parts ++ (end_line ∷ []) in
    read_line [] first_line (pool_line head ∷ tail) refl tt (refl, refl) (record { range = refl; order = refl; mapped = refl; used = refl })
    (read_line (first_line ∷ []) (pool_line head) tail refl told.0 refl told.1 body)

-- the pool of a head and the parts of a text
abbrev pub pool_of_parts : Head → List Part → ThinPool
pool_of_parts head parts = record {
  uuid = head.uuid;
  time = head.time;
  transaction = head.transaction;
  block_size = head.block_size;
  data_blocks = head.data_blocks;
  devices = map device_of_part parts;
}

-- lines that are read from the first on
pub record IsWhole (lines : List Line) : Type 0 where
  pub head : Head
  pub parts : List Part
  pub same : lines_of_parts head parts ≡ lines
  pub have : AllByRecursion HasMappings parts
  pub lawful : IsLawfulPool (pool_of_parts head parts)

pub pool_tells : (time size blocks : ℕ) → not (ltb time (2 ^ 32) && (ltb size (2 ^ 32) && leb blocks (2 ^ 40))) ≡ false
    → (time < 2 ^ 32) × ((size < 2 ^ 32) × (blocks ≤ 2 ^ 40))
pool_tells time size blocks range = (grind (arith, nat_tests), (grind (arith, nat_tests), grind (arith, nat_tests)))

whole_after_pool : (p : Head) (lines : List Line) → AreLines thin FitsLine Placed (first_line ∷ []) (pool_line p ∷ lines) → IsWhole (first_line ∷ pool_line p ∷ lines)
whole_after_pool p lines reads =
    let passes = line_passes (first_line ∷ []) (pool_line p) (omega arith) reads.1.1.1.0 in
    let fits = reads.1.0 in
    let tells = pool_tells p.time p.block_size p.data_blocks passes.range in
    let rest = owed_if_read lines (pool_line p ∷ first_line ∷ []) (omega arith) (record { version = refl; none = refl }) reads.1.1.1.1 refl in
    let cut = cut_of lines in
    let closed : cut.runs ≡ [] = rest.1.opened refl in
    let same : flat_map lines_of_part cut.parts ++ (end_line ∷ []) ≡ lines =
    ap (λ (rs : List Run). map map_line rs ++ (flat_map lines_of_part cut.parts ++ (end_line ∷ []))) (sym closed) ∙ rest.0 in
    record {
      head = p;
      parts = cut.parts;
      same = ap (λ (ls : List Line). first_line ∷ pool_line p ∷ ls) same;
      have = rest.1.parts;
      lawful = record {
        uuid_len = fits.0;
        uuid_bytes = fits.1.0;
        time_fits = tells.0;
        transaction_fits = fits.1.1.1.0;
        block_size_fits = tells.1.0;
        data_blocks_fit = tells.1.1;
        devices = rest.1.devices;
      };
    }

whole_after_first : (lines : List Line) → AreLines thin FitsLine Placed (first_line ∷ []) lines → IsWhole (first_line ∷ lines)
whole_after_first [] reads = absurd (true≢false (sym reads))
whole_after_first (first_line ∷ lines) reads = absurd (omega (arith, reads.1.1.0.0))
whole_after_first (shared_first_line ∷ lines) reads = absurd (omega (arith, reads.1.1.0.0))
whole_after_first (pool_line p ∷ lines) reads = whole_after_pool p lines reads
whole_after_first (leaf_line l ∷ lines) reads = absurd (omega (arith, reads.1.1.0.0))
whole_after_first (device_line d ∷ lines) reads = absurd (omega (arith, reads.1.1.0))
whole_after_first (use_line n ∷ lines) reads = absurd (omega (arith, reads.1.1.0.0))
whole_after_first (map_line r ∷ lines) reads = absurd (omega (arith, reads.1.1.0.0))
whole_after_first (end_line ∷ lines) reads = absurd (omega (arith, reads.1.1.0))

pub whole_if_read : (lines : List Line) → AreLines thin FitsLine Placed [] lines → IsWhole lines
whole_if_read [] reads = absurd (true≢false (sym reads))
whole_if_read (first_line ∷ lines) reads = whole_after_first lines reads.1.1.1.1
whole_if_read (shared_first_line ∷ lines) reads = absurd (none-some shared_first_line reads.1.1.0.1)
whole_if_read (pool_line p ∷ lines) reads = absurd (omega (arith, reads.1.1.0))
whole_if_read (leaf_line l ∷ lines) reads = absurd (omega (arith, reads.1.1.0.0))
whole_if_read (device_line d ∷ lines) reads = absurd (omega (arith, reads.1.1.0))
whole_if_read (use_line n ∷ lines) reads = absurd (omega (arith, reads.1.1.0.0))
whole_if_read (map_line r ∷ lines) reads = absurd (omega (arith, reads.1.1.0.0))
whole_if_read (end_line ∷ lines) reads = absurd (omega (arith, reads.1.1.0))
