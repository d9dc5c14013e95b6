-- The laws of thin texts.
use Rattle.std.proofs.Common.{◌≡◌, inl, inr, suc, ◌+◌, ◌≤◌, ◌&&◌, List, [], ◌∷◌, map, refl, ap, sym, ◌∙◌, arith, eqb, ℕ, ◌<◌, ◌++◌, length, length-append, append_assoc, subst, if◌then◌else◌, zero, true, false}
use Rattle.std.proofs.lemmas.Bool.{cases_Bool}
use Rattle.std.proofs.lemmas.Bool.Decides.{Decides-eqb, nat_tests}
use Rattle.std.specs.List.{AllByRecursion, flat_map}
use Rattle.std.proofs.lemmas.List.{map-append}
use Rattle.std.proofs.lemmas.List.Sums.{sum_by-append}
use Rattle.pd_kinds.specs.Meaning.{ThinPool, ThinDevice, Mapping}
use Rattle.pd_grammar.proofs.WordLemmas.{both}
use Rattle.pd_grammar.proofs.GrammarLemmas.{AreLines}
use Rattle.pd_grammar.proofs.SpellingLemmas.{IsLanguage, AreWithin, need_after, accepted_if_room, no_room_above}
use Rattle.pd_grammar.specs.Lawful.{IsLawfulPool}
use Rattle.pd_grammar.specs.ThinText.{Line, first_line, pool_line, Head, Run, thin, mappings_of, device_of_part, head_of, lines_of_parts, HasMappings, MeansPool, SpellsPool, with_mapping, follows, joined_runs, joined_part, text_of_pool, shared_first_line, leaf_line, device_line, use_line, map_line, end_line, Part, data_blocks_of, lines_of_part, Details, mappings_from, continues_run, AreApart, AreRunsApart}
use Rattle.pd_grammar.proofs.ThinRead.{FitsLine, Placed, thin_grammar}
use Rattle.pd_grammar.proofs.ThinMeaning.{whole_if_read, read_if_spelled, pool_of_parts, Cut, cut_of, cut_parts}
use Rattle.pd_grammar.specs.Spelling.{accepted, no_room}
use Rattle.pd_grammar.specs.Need.{need_tree, overflows_in, mapped_data, thin_need, mapped_of_line, data_of_line, thin_need_so_far, IsThinVerdict}
use Rattle.pd_grammar.proofs.NeedLemmas.{count_of, trees_of, overflows-le, overflows-same, devices-le, devices-same}
use Rattle.pd_grammar.specs.Texts.{text_of_lines}

means_if_lines : (lines : List Line) → AreLines thin FitsLine Placed [] lines → (m : ThinPool) × MeansPool lines m
means_if_lines lines are =
    let whole = whole_if_read lines are in (
      pool_of_parts whole.head whole.parts,
      record { parts = whole.parts; lines_are = sym whole.same; devices = refl; runs = whole.have; lawful = whole.lawful },
    )

lines_if_means : (lines : List Line) (m : ThinPool) → MeansPool lines m → AreLines thin FitsLine Placed [] lines
lines_if_means lines m means = rw means.lines_are (read_if_spelled m means.parts means.devices means.runs means.lawful)

abbrev head_in : List Line → Head → Head
head_in (first_line ∷ pool_line p ∷ lines) other = p
head_in _ other = other

abbrev tail_in : List Line → List Line
tail_in (first_line ∷ pool_line p ∷ lines) = lines
tail_in lines = lines

one_pool : (h k : Head) (a b : List ThinDevice) → h ≡ k → a ≡ b
    → ◌≡◌ {A = ThinPool} (record { uuid = h.uuid; time = h.time; transaction = h.transaction; block_size = h.block_size; data_blocks = h.data_blocks; devices = a })
    (record { uuid = k.uuid; time = k.time; transaction = k.transaction; block_size = k.block_size; data_blocks = k.data_blocks; devices = b })
one_pool h k a b e f = cc

-- lines mean one pool
one_meaning : (lines : List Line) (m n : ThinPool) → MeansPool lines m → MeansPool lines n → m ≡ n
one_meaning lines m n s t =
    let same = sym s.lines_are ∙ t.lines_are in
    let head : head_of m ≡ head_of n = ap (λ (ls : List Line). head_in ls (head_of m)) same in
    let tails = ap tail_in same in
    let parts : s.parts ≡ t.parts = sym (ap (λ (c : Cut). c.parts) (cut_parts s.parts)) ∙ ap (λ (ls : List Line). (cut_of ls).parts) tails ∙ ap (λ (c : Cut). c.parts) (cut_parts t.parts) in
    one_pool (head_of m) (head_of n) m.devices n.devices head (sym s.devices ∙ ap (map device_of_part) parts ∙ t.devices)

-- the texts of thin pools
pub thin_language : IsLanguage thin MeansPool FitsLine Placed
thin_language = record { grammar = thin_grammar; means = means_if_lines; lines = lines_if_means; one = one_meaning }

-- a run more, or a longer one
with_mapping_mappings : (m : Mapping) (rs : List Run) → flat_map mappings_of (with_mapping m rs) ≡ m ∷ flat_map mappings_of rs
with_mapping_mappings m [] = refl
with_mapping_mappings m (r ∷ rs) = elim (cases_Bool (follows m r)) [
  | inl e ↦
      let parts = both (eqb (m.virtual_block + 1) r.virtual_block) (eqb (m.data_block + 1) r.data_block && eqb m.time r.time) e in
      let more = both (eqb (m.data_block + 1) r.data_block) (eqb m.time r.time) parts.1 in
      let v : suc m.virtual_block ≡ r.virtual_block = omega (arith, (Decides-eqb (m.virtual_block + 1) r.virtual_block).0 parts.0) in
      let d : suc m.data_block ≡ r.data_block = omega (arith, (Decides-eqb (m.data_block + 1) r.data_block).0 more.0) in
      let t : m.time ≡ r.time = (Decides-eqb m.time r.time).0 more.1 in
      rw (e, v, d, t) refl
  | inr e ↦ rw e refl
]

pub joined_mappings : (ms : List Mapping) → flat_map mappings_of (joined_runs ms) ≡ ms
joined_mappings [] = refl
joined_mappings (m ∷ ms) = with_mapping_mappings m (joined_runs ms) ∙ ap (λ (xs : List Mapping). m ∷ xs) (joined_mappings ms)

with_mapping_some : (m : Mapping) (rs : List Run) → AllByRecursion (λ (r : Run). 1 ≤ r.length) rs → AllByRecursion (λ (r : Run). 1 ≤ r.length) (with_mapping m rs)
with_mapping_some m [] have = (omega arith, tt)
with_mapping_some m (r ∷ rs) have = elim (cases_Bool (follows m r)) [
  | inl e ↦ rw e (omega arith, have.1)
  | inr e ↦ rw e (omega arith, (have.0, have.1))
]

pub joined_some : (ms : List Mapping) → AllByRecursion (λ (r : Run). 1 ≤ r.length) (joined_runs ms)
joined_some [] = tt
joined_some (m ∷ ms) = with_mapping_some m (joined_runs ms) (joined_some ms)

parts_some : (ds : List ThinDevice) → AllByRecursion HasMappings (map joined_part ds)
parts_some [] = tt
parts_some (d ∷ ds) = (joined_some d.mappings, parts_some ds)

parts_devices : (ds : List ThinDevice) → map device_of_part (map joined_part ds) ≡ ds
parts_devices [] = refl
parts_devices (d ∷ ds) =
    let same : device_of_part (joined_part d) ≡ d =
    ap (λ (ms : List Mapping). record { id = d.id; mapped = d.mapped; transaction = d.transaction; created = d.created; snapped = d.snapped; mappings = ms }) (joined_mappings d.mappings) in
    rw (same, parts_devices ds) refl

-- the text of a lawful pool spells it
pub pool_text_spells : (m : ThinPool) → IsLawfulPool m → SpellsPool (text_of_pool m) m
unfolding text_of_pool
pool_text_spells m lawful = record {
  lines = lines_of_parts (head_of m) (map joined_part m.devices);
  bytes = refl;
  means = record {
    parts = map joined_part m.devices;
    lines_are = refl;
    devices = parts_devices m.devices;
    runs = parts_some m.devices;
    lawful = lawful;
  };
}

-- The need of a thin text grows from line to line up to that of the pool.

-- no line is a pool line
abbrev IsLater : Line → Type 0
IsLater first_line = Unit {0}
IsLater shared_first_line = Unit {0}
IsLater (pool_line p) = ⊥
IsLater (leaf_line l) = Unit {0}
IsLater (device_line d) = Unit {0}
IsLater (use_line n) = Unit {0}
IsLater (map_line r) = Unit {0}
IsLater end_line = Unit {0}

same_data : (line : Line) (before : List Line) → IsLater line → data_blocks_of (line ∷ before) ≡ data_blocks_of before
same_data first_line before later = refl
same_data shared_first_line before later = refl
same_data (pool_line p) before later = absurd later
same_data (leaf_line l) before later = refl
same_data (device_line d) before later = refl
same_data (use_line n) before later = refl
same_data (map_line r) before later = refl
same_data end_line before later = refl

-- a line more needs no less
so_far-le : (room : ℕ) (line : Line) (before : List Line) → IsLater line → thin_need_so_far room before ≤ thin_need_so_far room (line ∷ before)
unfolding thin_need_so_far
so_far-le room line before later =
    let mapped = flat_map mapped_of_line before in
    let blocks = flat_map data_of_line before in
    let counts : (d : ℕ) → count_of d blocks ≤ count_of d (data_of_line line ++ blocks) =
    λ d. omega (arith, sum_by-append (λ b. if eqb b d then 1 else 0) (data_of_line line) blocks) in
    rw (same_data line before later)
    (devices-le mapped (mapped_of_line line ++ mapped) (data_blocks_of before) (overflows_in blocks (data_blocks_of before)) (overflows_in (data_of_line line ++ blocks) (data_blocks_of before)) room
    (omega (arith, sum_by-append (need_tree 8) (mapped_of_line line) mapped))
    (omega (arith, length-append (mapped_of_line line) mapped))
    (overflows-le blocks (data_of_line line ++ blocks) (data_blocks_of before) counts))

-- the need after more lines is no less
after-le : (room : ℕ) (lines before : List Line) → AllByRecursion IsLater lines → thin_need_so_far room before ≤ need_after (thin_need_so_far room) before lines
after-le room [] before later = omega arith
after-le room (line ∷ lines) before later = omega (arith, so_far-le room line before later.0, after-le room lines (line ∷ before) later.1)

within_after : (room : ℕ) (lines before : List Line) → AllByRecursion IsLater lines
    → AreWithin (thin_need_so_far room) (need_after (thin_need_so_far room) before lines) before lines
within_after room [] before later = tt
within_after room (line ∷ lines) before later = (λ some. after-le room lines (line ∷ before) later.1, within_after room lines (line ∷ before) later.1)

-- the lines of parts are later ones
later-append : (xs ys : List Line) → AllByRecursion IsLater xs → AllByRecursion IsLater ys → AllByRecursion IsLater (xs ++ ys)
later-append [] ys p q = q
later-append (x ∷ xs) ys p q = (p.0, later-append xs ys p.1 q)

runs_later : (runs : List Run) → AllByRecursion IsLater (map map_line runs)
runs_later [] = tt
runs_later (r ∷ runs) = (tt, runs_later runs)

parts_later : (parts : List Part) → AllByRecursion IsLater (flat_map lines_of_part parts ++ (end_line ∷ []))
parts_later [] = (tt, tt)
parts_later (p ∷ parts) =
    let tail = flat_map lines_of_part parts ++ (end_line ∷ []) in
    let all : AllByRecursion IsLater (map map_line p.runs ++ tail) = later-append (map map_line p.runs) tail (runs_later p.runs) (parts_later parts) in
    let same : (map map_line p.runs ++ flat_map lines_of_part parts) ++ (end_line ∷ []) ≡ map map_line p.runs ++ tail = append_assoc (map map_line p.runs) (flat_map lines_of_part parts) (end_line ∷ []) in
    (tt, rw same all)

-- all lines, the newest first
abbrev pub pushed : List Line → List Line → List Line
pushed before [] = before
pushed before (line ∷ lines) = pushed (line ∷ before) lines

after_is : (room : ℕ) (lines before : List Line) → need_after (thin_need_so_far room) before lines ≡ thin_need_so_far room (pushed before lines)
after_is room [] before = refl
after_is room (line ∷ lines) before = after_is room lines (line ∷ before)

-- what adds up over lists adds up over lines in any order
pub pushed_total : (h : List ℕ → ℕ) → ((xs ys : List ℕ) → h (xs ++ ys) ≡ h xs + h ys) → (f : Line → List ℕ) (lines before : List Line)
    → h (flat_map f (pushed before lines)) ≡ h (flat_map f lines) + h (flat_map f before)
pushed_total h adds f [] before = omega (arith, adds [] [])
pushed_total h adds f (line ∷ lines) before =
    omega (arith, pushed_total h adds f lines (line ∷ before), adds (f line) (flat_map f before), adds (f line) (flat_map f lines))

pushed_data : (lines before : List Line) → AllByRecursion IsLater lines → data_blocks_of (pushed before lines) ≡ data_blocks_of before
pushed_data [] before later = refl
pushed_data (line ∷ lines) before later = pushed_data lines (line ∷ before) later.1 ∙ same_data line before later.0

-- the mapped numbers and the data blocks of parts
runs_map_nothing : (runs : List Run) (tail : List Line) → flat_map mapped_of_line (map map_line runs ++ tail) ≡ flat_map mapped_of_line tail
runs_map_nothing [] tail = refl
runs_map_nothing (r ∷ runs) tail = runs_map_nothing runs tail

abbrev mapped_numbers : List ThinDevice → List ℕ
mapped_numbers devices = map (λ (d : ThinDevice). d.mapped) devices

parts_mapped : (parts : List Part) → flat_map mapped_of_line (flat_map lines_of_part parts ++ (end_line ∷ [])) ≡ mapped_numbers (map device_of_part parts)
parts_mapped [] = refl
parts_mapped (p ∷ parts) =
    let tail = flat_map lines_of_part parts ++ (end_line ∷ []) in
    ap (λ (ls : List Line). p.details.mapped ∷ flat_map mapped_of_line ls) (append_assoc (map map_line p.runs) (flat_map lines_of_part parts) (end_line ∷ []))
    ∙ ap (λ (ns : List ℕ). p.details.mapped ∷ ns) (runs_map_nothing p.runs tail ∙ parts_mapped parts)

abbrev pub data_of : List Mapping → List ℕ
data_of ms = map (λ (x : Mapping). x.data_block) ms

runs_data : (runs : List Run) (tail : List Line) → flat_map data_of_line (map map_line runs ++ tail) ≡ data_of (flat_map mappings_of runs) ++ flat_map data_of_line tail
runs_data [] tail = refl
runs_data (r ∷ runs) tail =
    ap (λ (ns : List ℕ). data_of (mappings_of r) ++ ns) (runs_data runs tail)
    ∙ sym (append_assoc (data_of (mappings_of r)) (data_of (flat_map mappings_of runs)) (flat_map data_of_line tail))
    ∙ ap (λ (ns : List ℕ). ns ++ flat_map data_of_line tail) (sym (map-append (λ (x : Mapping). x.data_block) (mappings_of r) (flat_map mappings_of runs)))

abbrev pub devices_data : List ThinDevice → List ℕ
devices_data devices = flat_map (λ (d : ThinDevice). data_of d.mappings) devices

parts_data : (parts : List Part) → flat_map data_of_line (flat_map lines_of_part parts ++ (end_line ∷ [])) ≡ devices_data (map device_of_part parts)
parts_data [] = refl
parts_data (p ∷ parts) =
    let tail = flat_map lines_of_part parts ++ (end_line ∷ []) in
    ap (λ (ls : List Line). flat_map data_of_line ls) (append_assoc (map map_line p.runs) (flat_map lines_of_part parts) (end_line ∷ []))
    ∙ runs_data p.runs tail ∙ ap (λ (ns : List ℕ). data_of (flat_map mappings_of p.runs) ++ ns) (parts_data parts)

-- the need after all lines is that of the pool
whole_need : (room : ℕ) (m : ThinPool) (parts : List Part) → map device_of_part parts ≡ m.devices
    → need_after (thin_need_so_far room) (pool_line (head_of m) ∷ first_line ∷ []) (flat_map lines_of_part parts ++ (end_line ∷ [])) ≡ thin_need m room
unfolding thin_need thin_need_so_far
whole_need room m parts devices =
    let lines = flat_map lines_of_part parts ++ (end_line ∷ []) in
    let before : List Line = pool_line (head_of m) ∷ first_line ∷ [] in
    let all = pushed before lines in
    let mapped : flat_map mapped_of_line lines ≡ mapped_numbers m.devices = parts_mapped parts ∙ ap mapped_numbers devices in
    let listed : flat_map data_of_line lines ≡ mapped_data m = parts_data parts ∙ ap devices_data devices in
    let trees : trees_of (flat_map mapped_of_line all) ≡ trees_of (mapped_numbers m.devices) =
    omega (arith, pushed_total trees_of (sum_by-append (need_tree 8)) mapped_of_line lines before, ap trees_of mapped) in
    let number : length (flat_map mapped_of_line all) ≡ length (mapped_numbers m.devices) =
    omega (arith, pushed_total (λ (xs : List ℕ). length xs) length-append mapped_of_line lines before, ap (λ (xs : List ℕ). length xs) mapped) in
    let counts : (d : ℕ) → count_of d (flat_map data_of_line all) ≡ count_of d (mapped_data m) =
    λ d. omega (arith, pushed_total (count_of d) (sum_by-append (λ b. if eqb b d then 1 else 0)) data_of_line lines before, ap (count_of d) listed) in
    let blocks : data_blocks_of all ≡ m.data_blocks = pushed_data lines before (parts_later parts) in
    after_is room lines before
    ∙ rw blocks (devices-same (flat_map mapped_of_line all) (mapped_numbers m.devices) m.data_blocks (overflows_in (flat_map data_of_line all) m.data_blocks) (overflows_in (mapped_data m) m.data_blocks) room
    trees number (overflows-same (flat_map data_of_line all) (mapped_data m) m.data_blocks counts))

-- the need of each line, and of the last one
lines_within : (room : ℕ) (m : ThinPool) (parts : List Part) → map device_of_part parts ≡ m.devices
    → AreWithin (thin_need_so_far room) (thin_need m room) [] (lines_of_parts (head_of m) parts)
lines_within room m parts devices =
    let lines = flat_map lines_of_part parts ++ (end_line ∷ []) in
    let before : List Line = pool_line (head_of m) ∷ first_line ∷ [] in
    let whole = whole_need room m parts devices in
    let P : ℕ → Type 0 = λ n. AreWithin (thin_need_so_far room) n before lines in
    (λ some. absurd (omega (arith, some)), (λ some. omega (arith, after-le room lines before (parts_later parts), whole), subst P whole (within_after room lines before (parts_later parts))))

-- what is spelled is accepted where there is room
pub pool_accepted : (text : List ℕ) (m : ThinPool) (room : ℕ) → SpellsPool text m → thin_need m room ≤ room → IsThinVerdict text room (accepted m)
pool_accepted text m room s fits =
    let means = s.means in
    let within : AreWithin (thin_need_so_far room) (thin_need m room) [] s.lines = rw means.lines_are (lines_within room m means.parts means.devices) in
    accepted_if_room thin MeansPool FitsLine Placed thin_language (thin_need_so_far room) text m room (thin_need m room) s fits within

-- and elsewhere there is no room
pub pool_without_room : (text : List ℕ) (m : ThinPool) (room : ℕ) → SpellsPool text m → room < thin_need m room
    → (needed : ℕ) × (IsThinVerdict text room (no_room needed room) × ((room < needed) × (needed ≤ thin_need m room)))
pool_without_room text m room s above =
    let means = s.means in
    let within : AreWithin (thin_need_so_far room) (thin_need m room) [] s.lines = rw means.lines_are (lines_within room m means.parts means.devices) in
    let last : room < need_after (thin_need_so_far room) [] s.lines = rw (means.lines_are, whole_need room m means.parts means.devices) above in
    let two : 2 ≤ length s.lines = rw means.lines_are (omega arith) in
    no_room_above thin MeansPool FitsLine Placed thin_language (thin_need_so_far room) text m room (thin_need m room) s last two within

-- The one spelling in which no runs join.

abbrev pub run : ℕ → ℕ → ℕ → ℕ → Run
run v d n t = record { virtual_block = v; data_block = d; length = n; time = t }

abbrev pub Apart : Run → List Run → Type 0
Apart r [] = Unit {0}
Apart r (s ∷ rs) = continues_run r s ≡ false

alone : (v d t : ℕ) (rs : List Run) → Apart (run v d 1 t) rs → with_mapping (record { virtual_block = v; data_block = d; time = t }) rs ≡ run v d 1 t ∷ rs
alone v d t [] apart = refl
alone v d t (r ∷ rs) apart = rw apart refl

longer : (v d t n : ℕ) (rs : List Run) → with_mapping (record { virtual_block = v; data_block = d; time = t }) (run (suc v) (suc d) n t ∷ rs) ≡ run v d (suc n) t ∷ rs
longer v d t n rs =
    let a : eqb (v + 1) (suc v) ≡ true = grind (arith, nat_tests) in
    let b : eqb (d + 1) (suc d) ≡ true = grind (arith, nat_tests) in
    let c : eqb t t ≡ true = (Decides-eqb t t).1 refl in
    rw (a, b, c) refl

pub moved : (v d t n : ℕ) (rs : List Run) → Apart (run v d (suc (suc n)) t) rs → Apart (run (suc v) (suc d) (suc n) t) rs
moved v d t n [] apart = tt
moved v d t n (s ∷ rs) apart =
    let a : suc v + suc n ≡ v + suc (suc n) = omega arith in
    let b : suc d + suc n ≡ d + suc (suc n) = omega arith in
    rw (a, b) apart

pub run_joined : (v d t n : ℕ) (rest : List Mapping) → 1 ≤ n → Apart (run v d n t) (joined_runs rest)
    → joined_runs (mappings_from v d t n ++ rest) ≡ run v d n t ∷ joined_runs rest
run_joined v d t zero rest some apart = absurd (omega arith)
run_joined v d t (suc zero) rest some apart = alone v d t (joined_runs rest) apart
run_joined v d t (suc (suc n)) rest some apart =
    ap (with_mapping (record { virtual_block = v; data_block = d; time = t })) (run_joined (suc v) (suc d) t (suc n) rest (omega arith) (moved v d t n (joined_runs rest) apart))
    ∙ longer v d t (suc n) (joined_runs rest)

first_apart : (r : Run) (rs : List Run) → AreApart (r ∷ rs) → Apart r rs
first_apart r [] apart = tt
first_apart r (s ∷ rs) apart = apart.0

rest_apart : (r : Run) (rs : List Run) → AreApart (r ∷ rs) → AreApart rs
rest_apart r [] apart = tt
rest_apart r (s ∷ rs) apart = apart.1

pub runs_joined : (runs : List Run) → AllByRecursion (λ (r : Run). 1 ≤ r.length) runs → AreApart runs → joined_runs (flat_map mappings_of runs) ≡ runs
runs_joined [] have apart = refl
runs_joined (r ∷ rs) have apart =
    let rest = runs_joined rs have.1 (rest_apart r rs apart) in
    let first : Apart r (joined_runs (flat_map mappings_of rs)) = rw rest (first_apart r rs apart) in
    run_joined r.virtual_block r.data_block r.time r.length (flat_map mappings_of rs) have.0 first ∙ ap (λ (xs : List Run). r ∷ xs) rest

parts_joined : (parts : List Part) → AllByRecursion HasMappings parts → AllByRecursion (λ (p : Part). AreApart p.runs) parts → map joined_part (map device_of_part parts) ≡ parts
parts_joined [] have apart = refl
parts_joined (p ∷ parts) have apart =
    let d : Details = p.details in
    let same : joined_part (device_of_part p) ≡ p = ap (λ (rs : List Run). record { details = d; runs = rs }) (runs_joined p.runs have.0 apart.0) in
    rw (same, parts_joined parts have.1 apart.1) refl

-- a spelling in which no runs join is the pool's text
pub one_pool_text : (text : List ℕ) (m : ThinPool) (s : SpellsPool text m) → AreRunsApart s.means.parts → text ≡ text_of_pool m
unfolding text_of_pool
one_pool_text text m s apart =
    let means = s.means in
    let parts : means.parts ≡ map joined_part m.devices = sym (parts_joined means.parts means.runs apart) ∙ ap (map joined_part) means.devices in
    s.bytes ∙ ap (text_of_lines thin) means.lines_are ∙ ap (λ (ps : List Part). text_of_lines thin (lines_of_parts (head_of m) ps)) parts
