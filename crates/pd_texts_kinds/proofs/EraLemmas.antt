-- What the lines of an era target's text come to.
use Rattle.std.proofs.Common.{◌≡◌, ℕ, [], ◌∷◌, ◌++◌, List, ap, ◌^◌, ◌≤◌, ◌<◌, false, not, ◌&&◌, eqb, ltb, leb, ◌+◌, length, arith, inl, inr, zero, suc, true, take, drop, get_or, refl, sym, ◌∙◌, add-one}
use Rattle.std.proofs.lemmas.Grind.{flat_map-append}
use Rattle.std.proofs.lemmas.Bool.Decides.{nat_tests, Decides-eqb}
use Rattle.std.proofs.lemmas.Bool.{cases_Bool}
use Rattle.std.proofs.Math.Seq.{take-suc}
use Rattle.pd_kinds.specs.Meaning.{EraMeaning}
use Rattle.pd_kinds.specs.declared.kind.Kind.TheVariants.{Era}
use Rattle.pd_grammar.specs.Texts.{text_of_lines}
use Rattle.pd_grammar.specs.EraText.{era, era_line, end_line, head_of, run_lines, joined_eras, text_of_era, Line, run_line, Head, Run, era_tests, blocks_of, run_end, has_number_out_of_range, is_out_of_order, is_mapped_otherwise, Stretch, AreApart, eras_from, with_era}
use Rattle.pd_grammar.proofs.GrammarLemmas.{Passes, is_read}
use Rattle.pd_grammar.proofs.EraRead.{FitsLine, Placed, era_grammar}
use Rattle.pd_grammar.proofs.EraLaws.{head_tells, Apart}
use Rattle.pd_texts.specs.ThinLine.{text_of_line, first_text, end_text}
use Rattle.pd_texts.specs.Reader.{IsReadAfter}
use Rattle.pd_texts_kinds.specs.EraLine.{IsEraLine, IsRunLine, IsEndLine}

pub era_lines : (m : EraMeaning) → text_of_era m ≡ first_text Era ++ (text_of_line era (era_line (head_of m)) ++ (text_of_lines era (run_lines 0 (joined_eras m.eras)) ++ end_text))
unfolding text_of_era
era_lines m =
    let body : text_of_lines era (run_lines 0 (joined_eras m.eras) ++ (end_line ∷ [])) ≡ text_of_lines era (run_lines 0 (joined_eras m.eras)) ++ end_text =
    flat_map-append (text_of_line era) (run_lines 0 (joined_eras m.eras)) (end_line ∷ []) in
    ap (λ (xs : List ℕ). first_text Era ++ (text_of_line era (era_line (head_of m)) ++ xs)) body

-- What lines of an era target's text that were read say.

-- the tests that a line has passed
record HasPassed (before : List Line) (line : Line) : Type 0 where
  range : has_number_out_of_range before line ≡ false
  order : is_out_of_order before line ≡ false
  mapped : is_mapped_otherwise before line ≡ false

passed : (before : List Line) (line : Line) → 1 ≤ length before → Passes era_tests before line → HasPassed before line
passed [] line some passes = absurd (omega arith)
passed (newest ∷ before) line some passes = record { range = passes.0; order = passes.1.0; mapped = passes.1.1.0 }

pub era_read : (before : List Line) (h : Head) → IsReadAfter era before (era_line h) → IsEraLine before h
era_read before h one =
    let is = is_read era FitsLine Placed era_grammar before one.bytes (era_line h) one.is in
    let tests = passed before (era_line h) (omega (arith, is.placed)) is.passes in
    let says = head_tells h.block_size h.blocks h.era tests.range in
    record {
      second = is.placed;
      uuid_len = is.fits.0;
      uuid_bytes = is.fits.1.0;
      block_size_fits = says.0;
      blocks_fit = says.1.0;
      era_fits = says.1.1;
    }

run_says : (first n e end blocks last : ℕ)
    → not (ltb first (2 ^ 32) && (ltb n (2 ^ 32) && (ltb e (2 ^ 32) && (ltb 0 n && leb end blocks)))) ≡ false → not (eqb first last) ≡ false
    → (first < 2 ^ 32) × ((n < 2 ^ 32) × ((e < 2 ^ 32) × ((1 ≤ n) × ((end ≤ blocks) × (first ≡ last)))))
run_says first n e end blocks last range order =
    (grind (arith, nat_tests), (grind (arith, nat_tests), (grind (arith, nat_tests), (grind (arith, nat_tests), (grind (arith, nat_tests), grind (arith, nat_tests))))))

pub run_read : (before : List Line) (r : Run) → IsReadAfter era before (run_line r) → IsRunLine before r
run_read before r one =
    let is = is_read era FitsLine Placed era_grammar before one.bytes (run_line r) one.is in
    let tests = passed before (run_line r) (omega (arith, is.placed)) is.passes in
    let says = run_says r.first r.length r.era (r.first + r.length) (blocks_of before) (run_end before) tests.range tests.order in
    record {
      later = is.placed;
      follows = says.1.1.1.1.1;
      some = says.1.1.1.0;
      within = says.1.1.1.1.0;
      first_fits = says.0;
      length_fits = says.1.0;
      era_fits = says.1.1.0;
    }

end_says : (last blocks : ℕ) → ltb last blocks ≡ false → blocks ≤ last
end_says last blocks mapped = grind (arith, nat_tests)

pub end_read : (before : List Line) → IsReadAfter era before end_line → IsEndLine before
end_read before one =
    let is = is_read era FitsLine Placed era_grammar before one.bytes end_line one.is in
    let tests = passed before end_line (omega (arith, is.placed)) is.passes in
    record { later = is.placed; covered = end_says (run_end before) (blocks_of before) tests.mapped }

-- Runs of eras that are as long as can be.

-- the first of the next eras, if there are any, is another one
abbrev pub Changes : ℕ → List ℕ → Type 0
Changes e [] = Unit {0}
Changes e (x ∷ rest) = eqb e x ≡ false

other_first : (e x : ℕ) (stretches : List Stretch) → eqb e x ≡ false → Apart e (with_era x stretches)
other_first e x [] other = other
other_first e x (s ∷ stretches) other = elim (cases_Bool (eqb x s.era)) [
  | inl same ↦ let is : x ≡ s.era = (Decides-eqb x s.era).0 same in rw same (rw is at other)
  | inr apart ↦ rw apart other
]

others : (e : ℕ) (rest : List ℕ) → Changes e rest → Apart e (joined_eras rest)
others e [] changes = tt
others e (x ∷ rest) changes = other_first e x (joined_eras rest) changes

begun : (e : ℕ) (stretches : List Stretch) → Apart e stretches → with_era e stretches ≡ record { length = 1; era = e } ∷ stretches
begun e [] other = refl
begun e (s ∷ stretches) other = rw other refl

grown : (e n : ℕ) (stretches : List Stretch) → with_era e (record { length = n; era = e } ∷ stretches) ≡ record { length = suc n; era = e } ∷ stretches
grown e n stretches = let same : eqb e e ≡ true = (Decides-eqb e e).1 refl in rw same refl

-- so many blocks of one era before another one are one run
pub joined-same : (e n : ℕ) (rest : List ℕ) → 1 ≤ n → Changes e rest → joined_eras (eras_from e n ++ rest) ≡ record { length = n; era = e } ∷ joined_eras rest
joined-same e zero rest some changes = absurd (omega arith)
joined-same e (suc zero) rest some changes = begun e (joined_eras rest) (others e rest changes)
joined-same e (suc (suc n)) rest some changes = ap (with_era e) (joined-same e (suc n) rest (omega arith) changes) ∙ grown e (suc n) (joined_eras rest)

pub eras_more : (e n : ℕ) → eras_from e (suc n) ≡ eras_from e n ++ (e ∷ [])
eras_more e zero = refl
eras_more e (suc n) = ap (λ (es : List ℕ). e ∷ es) (eras_more e n)

-- one block more of the same era
pub same_more : (eras : List ℕ) (e i : ℕ) → i < length eras → get_or eras i 0 ≡ e → take i eras ≡ eras_from e i → take (i + 1) eras ≡ eras_from e (i + 1)
same_more eras e i within is same = rw (add-one i) (take-suc eras i 0 within ∙ rw (same, is) (sym (eras_more e i)))

pub other_era : (a b : ℕ) → (a ≡ b → ⊥) → eqb b a ≡ false
other_era a b other = grind (arith, nat_tests, other)

changes_at : (eras : List ℕ) (e i : ℕ) → (i < length eras → eqb e (get_or eras i 0) ≡ false) → Changes e (drop i eras)
changes_at [] e zero differs = tt
changes_at [] e (suc i) differs = tt
changes_at (x ∷ eras) e zero differs = differs (omega arith)
changes_at (x ∷ eras) e (suc i) differs = changes_at eras e i (λ within. differs (omega arith))

split_at : (eras : List ℕ) (i : ℕ) → eras ≡ take i eras ++ drop i eras
split_at [] zero = refl
split_at [] (suc i) = refl
split_at (x ∷ eras) zero = refl
split_at (x ∷ eras) (suc i) = ap (λ (es : List ℕ). x ∷ es) (split_at eras i)

-- the first run, where all before a place have its era, and the one there hasn't, if there is one
pub first_run : (eras : List ℕ) (e i : ℕ) → 1 ≤ i → take i eras ≡ eras_from e i → (i < length eras → eqb e (get_or eras i 0) ≡ false)
    → joined_eras eras ≡ record { length = i; era = e } ∷ joined_eras (drop i eras)
first_run eras e i some same differs =
    ap joined_eras (split_at eras i ∙ ap (λ (es : List ℕ). es ++ drop i eras) same) ∙ joined-same e i (drop i eras) some (changes_at eras e i differs)

-- neighbouring runs have different eras
with_era_apart : (e : ℕ) (stretches : List Stretch) → AreApart stretches → AreApart (with_era e stretches)
with_era_apart e [] apart = tt
with_era_apart e (s ∷ []) apart = elim (cases_Bool (eqb e s.era)) [
  | inl same ↦ rw same tt
  | inr other ↦ rw other (other, tt)
]
with_era_apart e (s ∷ t ∷ stretches) apart = elim (cases_Bool (eqb e s.era)) [
  | inl same ↦ rw same apart
  | inr other ↦ rw other (other, apart)
]

pub joined_apart : (eras : List ℕ) → AreApart (joined_eras eras)
joined_apart [] = tt
joined_apart (e ∷ eras) = with_era_apart e (joined_eras eras) (joined_apart eras)
