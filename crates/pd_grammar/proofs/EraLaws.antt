-- Era texts and what they mean.
use Rattle.std.proofs.Common.{◌≡◌, inl, inr, ℕ, zero, suc, ◌+◌, ◌^◌, ◌≤◌, ◌<◌, false, not, ◌&&◌, List, [], ◌∷◌, ◌++◌, length, length-append, refl, ap, sym, ◌∙◌, arith, eqb, ltb, leb}
use Rattle.std.proofs.lemmas.Bool.{cases_Bool, true≢false}
use Rattle.std.proofs.lemmas.Bool.Decides.{Decides-eqb, nat_tests}
use Rattle.std.specs.List.{AllByRecursion, flat_map}
use Rattle.pd_kinds.specs.Meaning.{EraMeaning}
use Rattle.pd_grammar.specs.Texts.{has_ended, text_of_lines}
use Rattle.pd_grammar.proofs.GrammarLemmas.{AreLines, Passes}
use Rattle.pd_grammar.proofs.SpellingLemmas.{IsLanguage, AreWithin, accepted_if_room, no_room_at_second}
use Rattle.pd_grammar.proofs.WordLemmas.{same_byte}
use Rattle.pd_grammar.specs.Lawful.{IsLawfulEra}
use Rattle.pd_grammar.specs.EraText.{Line, first_line, era_line, run_line, end_line, Head, Run, Stretch, era, era_tests, blocks_of, run_end, has_number_out_of_range, is_out_of_order, is_mapped_otherwise, eras_from, eras_of, run_lines, head_of, lines_of_stretches, MeansEra, SpellsEra, with_era, joined_eras, text_of_era, AreApart, era_need, era_need_so_far, IsEraVerdict}
use Rattle.pd_grammar.proofs.EraRead.{FitsLine, Placed, era_grammar}
use Rattle.pd_grammar.specs.Spelling.{accepted, no_room}

-- each stretch has a block
abbrev pub AreSome : List Stretch → Type 0
AreSome stretches = AllByRecursion (λ (s : Stretch). 1 ≤ s.length) stretches

abbrev pub AreEras : List ℕ → Type 0
AreEras eras = AllByRecursion (λ e. e < 2 ^ 32) eras

-- the stretches of the run lines that come first
abbrev pub stretches_of : List Line → List Stretch
stretches_of [] = []
stretches_of (first_line ∷ lines) = []
stretches_of (era_line h ∷ lines) = []
stretches_of (run_line r ∷ lines) = record { length = r.length; era = r.era } ∷ stretches_of lines
stretches_of (end_line ∷ lines) = []

pub eras_length : (e n : ℕ) → length (eras_from e n) ≡ n
eras_length e zero = refl
eras_length e (suc n) = ap suc (eras_length e n)

eras_fit : (e n : ℕ) (rest : List ℕ) → e < 2 ^ 32 → AreEras rest → AreEras (eras_from e n ++ rest)
eras_fit e zero rest fits are = are
eras_fit e (suc n) rest fits are = (fits, eras_fit e n rest fits are)

eras_rest : (e n : ℕ) (rest : List ℕ) → AreEras (eras_from e n ++ rest) → AreEras rest
eras_rest e zero rest are = are
eras_rest e (suc n) rest are = eras_rest e n rest are.1

first_era : (e n : ℕ) (rest : List ℕ) → 1 ≤ n → AreEras (eras_from e n ++ rest) → e < 2 ^ 32
first_era e zero rest some are = absurd (omega arith)
first_era e (suc n) rest some are = are.0

-- a line passes the tests
pub record LinePasses (before : List Line) (line : Line) : Type 0 where
  pub range : has_number_out_of_range before line ≡ false
  pub order : is_out_of_order before line ≡ false
  pub mapped : is_mapped_otherwise before line ≡ false

line_passes : (before : List Line) (line : Line) → 1 ≤ length before → Passes era_tests before line → LinePasses before line
line_passes [] line some passes = absurd (omega arith)
line_passes (newest ∷ before) line some passes = record { range = passes.0; order = passes.1.0; mapped = passes.1.1.0 }

tests_passed : (before : List Line) (line : Line) → LinePasses before line → Passes era_tests before line
tests_passed [] line passes = tt
tests_passed (newest ∷ before) line passes = (passes.range, (passes.order, (passes.mapped, tt)))

-- what is looked at of a run line
run_tells : (first n e end blocks last : ℕ)
    → not (ltb first (2 ^ 32) && (ltb n (2 ^ 32) && (ltb e (2 ^ 32) && (ltb 0 n && leb end blocks)))) ≡ false → not (eqb first last) ≡ false
    → (e < 2 ^ 32) × ((1 ≤ n) × ((end ≤ blocks) × (first ≡ last)))
run_tells first n e end blocks last range order =
    (grind (arith, nat_tests), (grind (arith, nat_tests), (grind (arith, nat_tests), grind (arith, nat_tests))))

run_told : (first n e end blocks last : ℕ) → first < 2 ^ 32 → n < 2 ^ 32 → e < 2 ^ 32 → 1 ≤ n → end ≤ blocks → first ≡ last
    → (not (ltb first (2 ^ 32) && (ltb n (2 ^ 32) && (ltb e (2 ^ 32) && (ltb 0 n && leb end blocks)))) ≡ false) × (not (eqb first last) ≡ false)
run_told first n e end blocks last a b c d f g = (grind (arith, nat_tests), grind (arith, nat_tests))

-- what the rest of a text owes after these lines
pub record Owed (before : List Line) (stretches : List Stretch) : Type 0 where
  pub number : run_end before + length (flat_map eras_of stretches) ≡ blocks_of before
  pub eras : AreEras (flat_map eras_of stretches)
  pub some : AreSome stretches

end_is_last : (before lines : List Line) → AreLines era FitsLine Placed (end_line ∷ before) lines → lines ≡ []
end_is_last before [] reads = refl
end_is_last before (line ∷ lines) reads = absurd (true≢false reads.0)

with_run : (r : Run) (last : ℕ) (stretches : List Stretch) (lines : List Line) → r.first ≡ last
    → run_lines (r.first + r.length) stretches ++ (end_line ∷ []) ≡ lines
    → run_lines last (record { length = r.length; era = r.era } ∷ stretches) ++ (end_line ∷ []) ≡ run_line r ∷ lines
with_run r last stretches lines e rest = rw (← e) (ap (λ (ls : List Line). run_line r ∷ ls) rest)

owed_with_run : (before : List Line) (r : Run) (stretches : List Stretch) → r.era < 2 ^ 32 → 1 ≤ r.length → r.first ≡ run_end before
    → Owed (run_line r ∷ before) stretches → Owed before (record { length = r.length; era = r.era } ∷ stretches)
owed_with_run before r stretches fits some first owed =
    let rest = flat_map eras_of stretches in
    record {
      number = omega (arith, length-append (eras_from r.era r.length) rest, eras_length r.era r.length, owed.number, first);
      eras = eras_fit r.era r.length rest fits owed.eras;
      some = (some, owed.some);
    }

owed_at_end : (before : List Line) → run_end before ≤ blocks_of before → ltb (run_end before) (blocks_of before) ≡ false → Owed before []
owed_at_end before most test = record { number = grind (arith, nat_tests, most, test); eras = tt; some = tt }

-- the lines after the era line are those of their stretches, which are what is owed
owed_if_read : (lines before : List Line) → 2 ≤ length before → run_end before ≤ blocks_of before → AreLines era FitsLine Placed before lines → has_ended era before ≡ false
    → (run_lines (run_end before) (stretches_of lines) ++ (end_line ∷ []) ≡ lines) × Owed before (stretches_of lines)
owed_if_read [] before some most reads going = absurd (true≢false (sym reads ∙ going))
owed_if_read (first_line ∷ lines) before some most reads going = absurd (omega (arith, some, reads.1.1.0.0))
owed_if_read (era_line h ∷ lines) before some most reads going = absurd (omega (arith, some, reads.1.1.0))
owed_if_read (run_line r ∷ lines) before some most reads going =
    let passes = line_passes before (run_line r) (omega (arith, some)) reads.1.1.1.0 in
    let tells = run_tells r.first r.length r.era (r.first + r.length) (blocks_of before) (run_end before) passes.range passes.order in
    let rest = owed_if_read lines (run_line r ∷ before) (omega arith) tells.1.1.0 reads.1.1.1.1 refl in
    (with_run r (run_end before) (stretches_of lines) lines tells.1.1.1 rest.0, owed_with_run before r (stretches_of lines) tells.0 tells.1.0 tells.1.1.1 rest.1)
owed_if_read (end_line ∷ lines) before some most reads going =
    let passes = line_passes before end_line (omega (arith, some)) reads.1.1.1.0 in
    let last = end_is_last before lines reads.1.1.1.1 in
    rw last (refl, owed_at_end before most passes.mapped)

-- and the lines of what is owed are read
read_line : (before : List Line) (line : Line) (lines : List Line) → has_ended era before ≡ false → FitsLine line → Placed before line → LinePasses before line
    → AreLines era FitsLine Placed (line ∷ before) lines → AreLines era FitsLine Placed before (line ∷ lines)
read_line before line lines going fits placed passes rest = (going, (fits, (placed, (tests_passed before line passes, rest))))

not_below : (n : ℕ) → ltb n n ≡ false
not_below n = grind (arith, nat_tests)

read_runs : (stretches : List Stretch) (before : List Line) → 2 ≤ length before → has_ended era before ≡ false → blocks_of before < 2 ^ 32
    → Owed before stretches → AreLines era FitsLine Placed before (run_lines (run_end before) stretches ++ (end_line ∷ []))
read_runs [] before some going small owed =
    let same : run_end before ≡ blocks_of before = omega (arith, owed.number) in
    read_line before end_line [] going tt some (record { range = refl; order = refl; mapped = rw same (not_below (blocks_of before)) }) refl
read_runs (s ∷ stretches) before some going small owed =
    let rest = flat_map eras_of stretches in
    let first = run_end before in
    let r : Run = record { first = first; length = s.length; era = s.era } in
    let len : first + (s.length + length rest) ≡ blocks_of before =
    omega (arith, length-append (eras_from s.era s.length) rest, eras_length s.era s.length, owed.number) in
    let fits = first_era s.era s.length rest owed.some.0 owed.eras in
    let told = run_told first s.length s.era (first + s.length) (blocks_of before) first (omega (arith, len, small, owed.some.0)) (omega (arith, len, small)) fits owed.some.0 (omega (arith, len)) refl in
    read_line before (run_line r) (run_lines (first + s.length) stretches ++ (end_line ∷ [])) going
    (omega (arith, len, small), (omega (arith, len, small), (omega (arith, fits), tt))) some
    (record { range = told.0; order = told.1; mapped = refl })
    (read_runs stretches (run_line r ∷ before) (omega arith) refl small
    (record { number = omega (arith, len); eras = eras_rest s.era s.length rest owed.eras; some = owed.some.1 }))

-- the target of a head and stretches
abbrev pub era_of_stretches : Head → List Stretch → EraMeaning
era_of_stretches h stretches = record { uuid = h.uuid; block_size = h.block_size; blocks = h.blocks; era = h.era; eras = flat_map eras_of stretches }

pub head_tells : (size blocks e : ℕ) → not (ltb size (2 ^ 32) && (ltb blocks (2 ^ 32) && ltb e (2 ^ 32))) ≡ false → (size < 2 ^ 32) × ((blocks < 2 ^ 32) × (e < 2 ^ 32))
head_tells size blocks e range = (grind (arith, nat_tests), (grind (arith, nat_tests), grind (arith, nat_tests)))

head_told : (size blocks e : ℕ) → size < 2 ^ 32 → blocks < 2 ^ 32 → e < 2 ^ 32 → not (ltb size (2 ^ 32) && (ltb blocks (2 ^ 32) && ltb e (2 ^ 32))) ≡ false
head_told size blocks e a b c = grind (arith, nat_tests)

after_head : (h : Head) (lines : List Line) → AreLines era FitsLine Placed (first_line ∷ []) (era_line h ∷ lines)
    → MeansEra (first_line ∷ era_line h ∷ lines) (era_of_stretches h (stretches_of lines))
after_head h lines reads =
    let passes = line_passes (first_line ∷ []) (era_line h) (omega arith) reads.1.1.1.0 in
    let tells = head_tells h.block_size h.blocks h.era passes.range in
    let rest = owed_if_read lines (era_line h ∷ first_line ∷ []) (omega arith) (omega arith) reads.1.1.1.1 refl in
    record {
      stretches = stretches_of lines;
      lines_are = ap (λ (ls : List Line). first_line ∷ era_line h ∷ ls) (sym rest.0);
      eras = refl;
      some = rest.1.some;
      lawful = record {
        uuid_len = reads.1.0.0;
        uuid_bytes = reads.1.0.1.0;
        block_size_fits = tells.0;
        blocks_fit = tells.1.0;
        era_fits = tells.1.1;
        one_each = omega (arith, rest.1.number);
        eras_fit = rest.1.eras;
      };
    }

after_first : (lines : List Line) → AreLines era FitsLine Placed (first_line ∷ []) lines → (m : EraMeaning) × MeansEra (first_line ∷ lines) m
after_first [] reads = absurd (true≢false (sym reads))
after_first (first_line ∷ lines) reads = absurd (omega (arith, reads.1.1.0.0))
after_first (era_line h ∷ lines) reads = (era_of_stretches h (stretches_of lines), after_head h lines reads)
after_first (run_line r ∷ lines) reads = absurd (omega (arith, reads.1.1.0))
after_first (end_line ∷ lines) reads = absurd (omega (arith, reads.1.1.0))

means_if_lines : (lines : List Line) → AreLines era FitsLine Placed [] lines → (m : EraMeaning) × MeansEra lines m
means_if_lines [] reads = absurd (true≢false (sym reads))
means_if_lines (first_line ∷ lines) reads = after_first lines reads.1.1.1.1
means_if_lines (era_line h ∷ lines) reads = absurd (omega (arith, reads.1.1.0))
means_if_lines (run_line r ∷ lines) reads = absurd (omega (arith, reads.1.1.0))
means_if_lines (end_line ∷ lines) reads = absurd (omega (arith, reads.1.1.0))

stretches_read : (m : EraMeaning) (stretches : List Stretch) → flat_map eras_of stretches ≡ m.eras → AreSome stretches → IsLawfulEra m
    → AreLines era FitsLine Placed [] (lines_of_stretches (head_of m) stretches)
stretches_read m stretches eras some lawful =
    let head : Head = head_of m in
    let range = head_told m.block_size m.blocks m.era lawful.block_size_fits lawful.blocks_fit lawful.era_fits in
    let tail = run_lines 0 stretches ++ (end_line ∷ []) in
    let owed : Owed (era_line head ∷ first_line ∷ []) stretches =
    record { number = omega (arith, ap (λ (es : List ℕ). length es) eras, lawful.one_each); eras = rw eras lawful.eras_fit; some = some } in
    read_line [] first_line (era_line head ∷ tail) refl tt (refl, refl) (record { range = refl; order = refl; mapped = refl })
    (read_line (first_line ∷ []) (era_line head) tail refl
    (lawful.uuid_len, (lawful.uuid_bytes, (omega (arith, lawful.block_size_fits), (omega (arith, lawful.blocks_fit), (omega (arith, lawful.era_fits), tt)))))
    refl (record { range = range; order = refl; mapped = refl })
    (read_runs stretches (era_line head ∷ first_line ∷ []) (omega arith) refl lawful.blocks_fit owed))

lines_if_means : (lines : List Line) (m : EraMeaning) → MeansEra lines m → AreLines era FitsLine Placed [] lines
lines_if_means lines m means = rw means.lines_are (stretches_read m means.stretches means.eras means.some means.lawful)

-- the stretches of lines, and the target that they mean
stretches_back : (first : ℕ) (stretches : List Stretch) → stretches_of (run_lines first stretches ++ (end_line ∷ [])) ≡ stretches
stretches_back first [] = refl
stretches_back first (s ∷ stretches) = ap (λ (ss : List Stretch). s ∷ ss) (stretches_back (first + s.length) stretches)

abbrev era_of_lines : List Line → EraMeaning
era_of_lines (first_line ∷ era_line h ∷ lines) = era_of_stretches h (stretches_of lines)
era_of_lines _ = record { uuid = []; block_size = 0; blocks = 0; era = 0; eras = [] }

era_back : (m : EraMeaning) (stretches : List Stretch) → flat_map eras_of stretches ≡ m.eras → era_of_lines (lines_of_stretches (head_of m) stretches) ≡ m
era_back m stretches eras = rw (stretches_back 0 stretches, eras) refl

one_meaning : (lines : List Line) (m n : EraMeaning) → MeansEra lines m → MeansEra lines n → m ≡ n
one_meaning lines m n s t =
    sym (era_back m s.stretches s.eras) ∙ ap era_of_lines (sym s.lines_are ∙ t.lines_are) ∙ era_back n t.stretches t.eras

-- the texts of era targets
pub era_language : IsLanguage era MeansEra FitsLine Placed
era_language = record { grammar = era_grammar; means = means_if_lines; lines = lines_if_means; one = one_meaning }

-- an era more, or a longer stretch
with_era_eras : (e : ℕ) (stretches : List Stretch) → flat_map eras_of (with_era e stretches) ≡ e ∷ flat_map eras_of stretches
with_era_eras e [] = refl
with_era_eras e (s ∷ stretches) = elim (cases_Bool (eqb e s.era)) [
  | inl same ↦ let is : e ≡ s.era = (Decides-eqb e s.era).0 same in rw (same, is) refl
  | inr other ↦ rw other refl
]

joined_back : (eras : List ℕ) → flat_map eras_of (joined_eras eras) ≡ eras
joined_back [] = refl
joined_back (e ∷ eras) = with_era_eras e (joined_eras eras) ∙ ap (λ (es : List ℕ). e ∷ es) (joined_back eras)

with_era_some : (e : ℕ) (stretches : List Stretch) → AreSome stretches → AreSome (with_era e stretches)
with_era_some e [] some = (omega arith, tt)
with_era_some e (s ∷ stretches) some = elim (cases_Bool (eqb e s.era)) [
  | inl same ↦ rw same (omega arith, some.1)
  | inr other ↦ rw other (omega arith, some)
]

joined_some : (eras : List ℕ) → AreSome (joined_eras eras)
joined_some [] = tt
joined_some (e ∷ eras) = with_era_some e (joined_eras eras) (joined_some eras)

-- the text of a lawful target spells it
pub era_text_spells : (m : EraMeaning) → IsLawfulEra m → SpellsEra (text_of_era m) m
unfolding text_of_era
era_text_spells m lawful = record {
  lines = lines_of_stretches (head_of m) (joined_eras m.eras);
  bytes = refl;
  means = record { stretches = joined_eras m.eras; lines_are = refl; eras = joined_back m.eras; some = joined_some m.eras; lawful = lawful };
}

-- stretches of which no two neighbours have one era are the joined ones
abbrev pub Apart : ℕ → List Stretch → Type 0
Apart e [] = Unit {0}
Apart e (s ∷ stretches) = eqb e s.era ≡ false

alone : (e : ℕ) (stretches : List Stretch) → Apart e stretches → with_era e stretches ≡ record { length = 1; era = e } ∷ stretches
alone e [] apart = refl
alone e (s ∷ stretches) apart = rw apart refl

longer : (e n : ℕ) (stretches : List Stretch) → with_era e (record { length = n; era = e } ∷ stretches) ≡ record { length = suc n; era = e } ∷ stretches
longer e n stretches = rw (same_byte e) refl

stretch_joined : (e n : ℕ) (rest : List ℕ) → 1 ≤ n → Apart e (joined_eras rest) → joined_eras (eras_from e n ++ rest) ≡ record { length = n; era = e } ∷ joined_eras rest
stretch_joined e zero rest some apart = absurd (omega arith)
stretch_joined e (suc zero) rest some apart = alone e (joined_eras rest) apart
stretch_joined e (suc (suc n)) rest some apart =
    ap (with_era e) (stretch_joined e (suc n) rest (omega arith) apart) ∙ longer e (suc n) (joined_eras rest)

first_apart : (s : Stretch) (stretches : List Stretch) → AreApart (s ∷ stretches) → Apart s.era stretches
first_apart s [] apart = tt
first_apart s (t ∷ stretches) apart = apart.0

rest_apart : (s : Stretch) (stretches : List Stretch) → AreApart (s ∷ stretches) → AreApart stretches
rest_apart s [] apart = tt
rest_apart s (t ∷ stretches) apart = apart.1

stretches_joined : (stretches : List Stretch) → AreSome stretches → AreApart stretches → joined_eras (flat_map eras_of stretches) ≡ stretches
stretches_joined [] some apart = refl
stretches_joined (s ∷ stretches) some apart =
    let rest = stretches_joined stretches some.1 (rest_apart s stretches apart) in
    let first : Apart s.era (joined_eras (flat_map eras_of stretches)) = rw rest (first_apart s stretches apart) in
    stretch_joined s.era s.length (flat_map eras_of stretches) some.0 first ∙ ap (λ (ss : List Stretch). s ∷ ss) rest

-- a spelling in which no runs join is the target's text
pub one_era_text : (text : List ℕ) (m : EraMeaning) (s : SpellsEra text m) → AreApart s.means.stretches → text ≡ text_of_era m
unfolding text_of_era
one_era_text text m s apart =
    let means = s.means in
    let stretches : means.stretches ≡ joined_eras m.eras = sym (stretches_joined means.stretches means.some apart) ∙ ap joined_eras means.eras in
    s.bytes ∙ ap (text_of_lines era) means.lines_are ∙ ap (λ (ss : List Stretch). text_of_lines era (lines_of_stretches (head_of m) ss)) stretches

-- The need of an era text stands from its second line on.

runs_within : (room first : ℕ) (stretches : List Stretch) (before : List Line)
    → AreWithin (era_need_so_far room) (era_need_so_far room before) before (run_lines first stretches ++ (end_line ∷ []))
runs_within room first [] before = (λ some. omega arith, tt)
runs_within room first (s ∷ stretches) before =
    (λ some. omega arith, runs_within room (first + s.length) stretches (run_line (record { first = first; length = s.length; era = s.era }) ∷ before))

lines_within : (room : ℕ) (m : EraMeaning) (stretches : List Stretch) → AreWithin (era_need_so_far room) (era_need m room) [] (lines_of_stretches (head_of m) stretches)
lines_within room m stretches =
    (λ some. absurd (omega (arith, some)), (λ some. omega arith, runs_within room 0 stretches (era_line (head_of m) ∷ first_line ∷ [])))

-- what is spelled is accepted where there is room
pub era_accepted : (text : List ℕ) (m : EraMeaning) (room : ℕ) → SpellsEra text m → era_need m room ≤ room → IsEraVerdict text room (accepted m)
era_accepted text m room s fits =
    let within : AreWithin (era_need_so_far room) (era_need m room) [] s.lines = rw s.means.lines_are (lines_within room m s.means.stretches) in
    accepted_if_room era MeansEra FitsLine Placed era_language (era_need_so_far room) text m room (era_need m room) s fits within

-- and elsewhere there is no room
pub era_without_room : (text : List ℕ) (m : EraMeaning) (room : ℕ) → SpellsEra text m → room < era_need m room
    → IsEraVerdict text room (no_room (era_need m room) room)
era_without_room text m room s above =
    no_room_at_second era MeansEra FitsLine Placed era_language (era_need_so_far room) text m room
    first_line (era_line (head_of m)) (run_lines 0 s.means.stretches ++ (end_line ∷ [])) s s.means.lines_are above
