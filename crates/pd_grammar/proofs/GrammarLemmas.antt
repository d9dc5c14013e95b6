-- Lines that are read are those that are written, in their place, and pass the tests.
use Rattle.std.proofs.Common.{◌≡◌, inl, inr, ℕ, ◌≤◌, true, false, List, [], ◌∷◌, length, refl, ap, sym, ◌∙◌, append_assoc, arith, eqb, ltb, None, Result, Ok, Err, suc, Option, Some, if◌then◌else◌, ◌++◌}
use Rattle.std.proofs.lemmas.Bool.Decides.{nat_tests}
use Rattle.std.proofs.lemmas.Option.{none-some}
use Rattle.std.specs.List.{join_with_byte, AllByRecursion, list_all}
use Rattle.std.proofs.lemmas.Bool.{cases_Bool}
use Rattle.pd_grammar.specs.declared.cause.TextCause.{TextCause}
use Rattle.pd_grammar.specs.Texts.{split, TextFormat, Reading, has_ended, refused, whole, after_line, read, written, lines_after, text_of_lines, is_printable, or_cause, result_and_then, Test, tested, with_line, reading, with_test, stopped}
use Rattle.pd_grammar.proofs.WordLemmas.{Lacks, split-cut, split-some, chosen, join_split, split_join, ok-err, same_Ok, Plain, Printable, words_lack, printable_join, printable_lacks}
use Rattle.pd_grammar.specs.declared.cause.TextCause.TheVariants.{Header, Word, TooLong, NoEnd, AfterEnd}

-- Lines that are read, and lines that are written.

-- a format reads only what it writes, and its lines have no line feed
pub record IsReader {L : Type 0} (format : TextFormat L) : Type 0 where
  pub written : (before : List L) (bytes : List ℕ) (line : L) → read format before bytes ≡ Ok line → written format line ≡ bytes
  pub unbroken : (before : List L) (bytes : List ℕ) (line : L) → read format before bytes ≡ Ok line → Lacks 10 bytes

-- the lines are read, one after the other, up to the last one
abbrev pub AreRead : {L : Type 0} → TextFormat L → List L → List L → Type 0
AreRead format before [] = has_ended format before ≡ true
AreRead format before (line ∷ lines) =
    (has_ended format before ≡ false) × ((length (written format line) ≤ 160)
    × ((read format before (written format line) ≡ Ok line) × AreRead format (line ∷ before) lines))

-- what the lines of some pieces are
abbrev pub Written : {L : Type 0} → TextFormat L → List L → List (List ℕ) → List L → Type 0
Written format before pieces lines = (join_with_byte 10 pieces ≡ text_of_lines format lines) × AreRead format before lines

empty_piece : (piece : List ℕ) → eqb (length piece) 0 ≡ true → piece ≡ []
empty_piece [] e = refl
empty_piece (b ∷ piece) e = absurd (grind (arith, nat_tests))

-- a reading that ends with a refusal has one
pub has_refusal : {L : Type 0} → (before : List L) (cause : TextCause) (r : Reading L) → refused before cause ≡ r → r.refusal ≡ None → ⊥
has_refusal {L} before cause r e none = none-some _ (sym (ap (λ (x : Reading L). x.refusal) e ∙ none))

last_piece : {L : Type 0} → (format : TextFormat L) (before : List L) (piece : List ℕ) (r : Reading L)
    → lines_after format before (piece ∷ []) ≡ r → r.refusal ≡ None → Written format before (piece ∷ []) r.lines
unfolding lines_after
last_piece {L} format before piece r e none =
    elim (chosen (has_ended format before) _ _ r e) [
      | inl (ended, e) ↦ elim (chosen (eqb (length piece) 0) _ _ r e) [
        | inl (empty, e) ↦ rw (← e) (empty_piece piece empty, ended)
        | inr (some, e) ↦ absurd (has_refusal before _ r e none)
      ]
      | inr (going, e) ↦ elim (chosen (ltb 160 (length piece)) _ _ r e) [
        | inl (long, e) ↦ absurd (has_refusal before _ r e none)
        | inr (short, e) ↦ absurd (has_refusal before _ r e none)
      ]
    ]

after_whole : {L : Type 0} → (before : List L) (got : Result L TextCause) (rest : L → Reading L) (r : Reading L)
    → after_line before got rest ≡ r → r.refusal ≡ None
    → (line : L) × (got ≡ Ok line) × ((rest line).refusal ≡ None) × (line ∷ (rest line).lines ≡ r.lines)
after_whole {L} before (Ok line) rest r e none = (line, refl, ap (λ (x : Reading L). x.refusal) e ∙ none, ap (λ (x : Reading L). x.lines) e)
after_whole before (Err cause) rest r e none = absurd (has_refusal before cause r e none)

first_written : {L : Type 0} → (format : TextFormat L) (piece next : List ℕ) (pieces : List (List ℕ)) (before lines more : List L) (line : L)
    → has_ended format before ≡ false → ltb 160 (length piece) ≡ false → read format before piece ≡ Ok line → written format line ≡ piece
    → line ∷ more ≡ lines → Written format (line ∷ before) (next ∷ pieces) more → Written format before (piece ∷ next ∷ pieces) lines
first_written format piece next pieces before lines more line going short is same e rest =
    let fits : length (written format line) ≤ 160 = rw same (grind (arith, nat_tests)) in
    rw (← e) (
      rw (rest.0, same) (sym (append_assoc piece (10 ∷ []) (text_of_lines format more))),
      (going, (fits, (rw same is, rest.1))),
    )

-- pieces of which no line is refused are the lines written
pub written_if_read : {L : Type 0} → (format : TextFormat L) → IsReader format → (pieces : List (List ℕ)) (before : List L) (r : Reading L)
    → 1 ≤ length pieces → lines_after format before pieces ≡ r → r.refusal ≡ None → Written format before pieces r.lines
unfolding lines_after
written_if_read format reader [] before r some e none = absurd (omega arith)
written_if_read format reader (piece ∷ []) before r some e none = last_piece format before piece r e none
written_if_read {L} format reader (piece ∷ next ∷ pieces) before r some e none =
    elim (chosen (has_ended format before) _ _ r e) [
      | inl (ended, e) ↦ absurd (has_refusal before _ r e none)
      | inr (going, e) ↦ elim (chosen (ltb 160 (length piece)) _ _ r e) [
        | inl (long, e) ↦ absurd (has_refusal before _ r e none)
        | inr (short, e) ↦
            let parts = after_whole before (read format before piece) (λ line. lines_after format (line ∷ before) (next ∷ pieces)) r e none in
            let line = parts.0 in
            let rest = written_if_read format reader (next ∷ pieces) (line ∷ before) (lines_after format (line ∷ before) (next ∷ pieces)) (omega arith) refl parts.2 in
            first_written format piece next pieces before r.lines (lines_after format (line ∷ before) (next ∷ pieces)).lines line going short parts.1
            (reader.written before piece line parts.1) parts.3 rest
      ]
    ]

one_more : {L : Type 0} → (format : TextFormat L) (before : List L) (line : L) (lines : List L) (piece : List ℕ) (pieces : List (List ℕ)) → 1 ≤ length pieces
    → has_ended format before ≡ false → ltb 160 (length piece) ≡ false → read format before piece ≡ Ok line
    → lines_after format (line ∷ before) pieces ≡ whole lines → lines_after format before (piece ∷ pieces) ≡ whole (line ∷ lines)
unfolding lines_after
one_more format before line lines piece [] some going short is rest = absurd (omega arith)
one_more format before line lines piece (next ∷ pieces) some going short is rest = rw (going, short, is, rest) refl

-- and lines that are read one after the other are read from what is written
pub read_if_written : {L : Type 0} → (format : TextFormat L) → IsReader format → (lines before : List L)
    → AreRead format before lines → lines_after format before (split 10 (text_of_lines format lines)) ≡ whole lines
unfolding lines_after
read_if_written format reader [] before ended = rw ended refl
read_if_written {L} format reader (line ∷ lines) before reads =
    let text = text_of_lines format lines in
    let piece = written format line in
    let short : ltb 160 (length piece) ≡ false = grind (arith, nat_tests, reads.1.0) in
    let cut = ap (split 10) (append_assoc piece (10 ∷ []) text) ∙ split-cut 10 piece text (reader.unbroken before piece line reads.1.1.0) in
    rw cut (one_more format before line lines piece (split 10 text) (split-some 10 text) reads.0 short reads.1.1.0 (read_if_written format reader lines (line ∷ before) reads.1.1.1))

-- words are those of a line whose values fit, in its place
pub record AreWords {L : Type 0} (words_of : L → List (List ℕ)) (Fits : L → Type 0) (Placed : List L → L → Type 0) (before : List L) (words : List (List ℕ)) (line : L) : Type 0 where
  pub words_are : words_of line ≡ words
  pub fits : Fits line
  pub placed : Placed before line

-- a line passes the tests after these lines; the first line has none
abbrev pub Passes : {L : Type 0} → List (Test L) → List L → L → Type 0
Passes tests [] line = Unit {0}
Passes {L} tests (newest ∷ before) line = AllByRecursion (λ (test : Test L). test.fails (newest ∷ before) line ≡ false) tests

-- a format reads what it writes: of lines whose values fit, in their place
pub record IsGrammar {L : Type 0} (format : TextFormat L) (Fits : L → Type 0) (Placed : List L → L → Type 0) : Type 0 where
  pub first_is : (bytes : List ℕ) (line : L) → format.first bytes ≡ Some line → (written format line ≡ bytes) × (Fits line × (Placed [] line × Printable bytes))
  pub first_again : (line : L) → Fits line → Placed [] line → format.first (written format line) ≡ Some line
  pub words_are : (before : List L) (words : List (List ℕ)) (line : L) → 1 ≤ length before → format.parsed before words ≡ Ok line
      → AreWords format.words Fits Placed before words line
  pub words_again : (before : List L) (line : L) → Fits line → Placed before line → 1 ≤ length before → format.parsed before (format.words line) ≡ Ok line
  pub plain : (line : L) → Fits line → (1 ≤ length (format.words line)) × AllByRecursion Plain (format.words line)
  pub short : (before : List L) (line : L) → Fits line → Placed before line → Passes format.tests before line → length (written format line) ≤ 160

-- the lines fit, in their places, and pass, one after the other up to the last one
abbrev pub AreLines : {L : Type 0} → TextFormat L → (L → Type 0) → (List L → L → Type 0) → List L → List L → Type 0
AreLines format Fits Placed before [] = has_ended format before ≡ true
AreLines format Fits Placed before (line ∷ lines) =
    (has_ended format before ≡ false) × (Fits line × (Placed before line × (Passes format.tests before line × AreLines format Fits Placed (line ∷ before) lines)))

tested_is : {L : Type 0} → (tests : List (Test L)) (before : List L) (line out : L) → tested tests before line ≡ Ok out
    → (line ≡ out) × AllByRecursion (λ (test : Test L). test.fails before line ≡ false) tests
unfolding tested
tested_is [] before line out e = (same_Ok {E = TextCause} line out e, tt)
tested_is (test ∷ tests) before line out e = elim (chosen (test.fails before line) _ _ (Ok out) e) [
  | inl (bad, e) ↦ absurd (ok-err out test.cause (sym e))
  | inr (good, e) ↦ let rest = tested_is tests before line out e in (rest.0, (good, rest.1))
]

tested_again : {L : Type 0} → (tests : List (Test L)) (before : List L) (line : L)
    → AllByRecursion (λ (test : Test L). test.fails before line ≡ false) tests → tested tests before line ≡ Ok line
unfolding tested
tested_again [] before line passes = refl
tested_again (test ∷ tests) before line passes = rw passes.0 (tested_again tests before line passes.1)

first_line : {L : Type 0} → (o : Option L) (line : L) → or_cause o Header ≡ Ok line → o ≡ Some line
first_line None line e = absurd (ok-err line Header (sym e))
first_line (Some x) line e = ap (λ l. Some l) (same_Ok {E = TextCause} x line e)

parsed_line : {L : Type 0} → (tests : List (Test L)) (before : List L) (got : Result L TextCause) (out : L)
    → result_and_then (tested tests before) got ≡ Ok out
    → (got ≡ Ok out) × AllByRecursion (λ (test : Test L). test.fails before out ≡ false) tests
parsed_line tests before (Err cause) out e = absurd (ok-err out cause (sym e))
parsed_line {L} tests before (Ok line) out e =
    let is = tested_is tests before line out e in
    rw (← is.0) (refl, is.1)

-- what is known of a line that was read
pub record IsRead {L : Type 0} (format : TextFormat L) (Fits : L → Type 0) (Placed : List L → L → Type 0) (before : List L) (bytes : List ℕ) (line : L) : Type 0 where
  pub bytes_are : written format line ≡ bytes
  pub fits : Fits line
  pub placed : Placed before line
  pub passes : Passes format.tests before line
  pub printable : Printable bytes

pub not_empty : (n : ℕ) → eqb (suc n) 0 ≡ false
not_empty n = grind (arith, nat_tests)

module _ {L : Type 0} (format : TextFormat L) (Fits : L → Type 0) (Placed : List L → L → Type 0) (grammar : IsGrammar format Fits Placed) where
  later_is : (newest : L) (before : List L) (bytes : List ℕ) (line : L)
      → (if list_all is_printable bytes then result_and_then (tested format.tests (newest ∷ before)) (format.parsed (newest ∷ before) (split 32 bytes)) else Err Word) ≡ Ok line
      → IsRead format Fits Placed (newest ∷ before) bytes line
  later_is newest before bytes line e =
      elim (chosen (list_all is_printable bytes) _ _ (Ok line) e) [
        | inl (test, e) ↦
            let parsed = parsed_line format.tests (newest ∷ before) (format.parsed (newest ∷ before) (split 32 bytes)) line e in
            let is = grammar.words_are (newest ∷ before) (split 32 bytes) line (omega arith) parsed.0 in
            record { bytes_are = ap (join_with_byte 32) is.words_are ∙ join_split 32 bytes; fits = is.fits; placed = is.placed; passes = parsed.1; printable = test }
        | inr (other, e) ↦ absurd (ok-err line Word (sym e))
      ]

  -- a line that is read is what is written, in its place, and passes
  pub is_read : (before : List L) (bytes : List ℕ) (line : L) → read format before bytes ≡ Ok line → IsRead format Fits Placed before bytes line
  unfolding read
  is_read [] bytes line e =
      let is = grammar.first_is bytes line (first_line (format.first bytes) line e) in
      record { bytes_are = is.0; fits = is.1.0; placed = is.1.1.0; passes = tt; printable = is.1.1.1 }
  is_read (newest ∷ before) bytes line e = later_is newest before bytes line (rw (not_empty (length before)) at e)

  pub is_reader : IsReader format
  is_reader = record {
    written = λ before bytes line e. (is_read before bytes line e).bytes_are;
    unbroken = λ before bytes line e. printable_lacks bytes (is_read before bytes line e).printable;
  }

  split_words : (words : List (List ℕ)) → 1 ≤ length words → AllByRecursion Plain words → split 32 (join_with_byte 32 words) ≡ words
  split_words [] some plain = absurd (omega arith)
  split_words (word ∷ words) some plain = split_join 32 word words (words_lack (word ∷ words) plain)

  -- what is written is read in its place, where it passes
  pub read_again : (before : List L) (line : L) → Fits line → Placed before line → Passes format.tests before line
      → read format before (written format line) ≡ Ok line
  unfolding read
  read_again [] line fits placed passes = rw (grammar.first_again line fits placed) refl
  read_again (newest ∷ before) line fits placed passes =
      let plain = grammar.plain line fits in
      rw (
        not_empty (length before),
        printable_join (format.words line) plain.1,
        split_words (format.words line) plain.0 plain.1,
        grammar.words_again (newest ∷ before) line fits placed (omega arith),
      ) (tested_again format.tests (newest ∷ before) line passes)

  -- lines that fit, in their places, are read
  pub read_if_lines : (before lines : List L) → AreLines format Fits Placed before lines → AreRead format before lines
  read_if_lines before [] ended = ended
  read_if_lines before (line ∷ lines) are =
      (are.0, (grammar.short before line are.1.0 are.1.1.0 are.1.1.1.0, (read_again before line are.1.0 are.1.1.0 are.1.1.1.0, read_if_lines (line ∷ before) lines are.1.1.1.1)))

  -- and lines that are read fit
  pub lines_if_read : (before lines : List L) → AreRead format before lines → AreLines format Fits Placed before lines
  lines_if_read before [] ended = ended
  lines_if_read before (line ∷ lines) are =
      let is = is_read before (written format line) line are.1.1.0 in
      (are.0, (is.fits, (is.placed, (is.passes, lines_if_read (line ∷ before) lines are.1.1.1))))

-- A format that looks at one test more.

-- one test after others
then_test : {L : Type 0} → (tests : List (Test L)) (test : Test L) (before : List L) (line : L)
    → tested (tests ++ (test ∷ [])) before line ≡ result_and_then (tested (test ∷ []) before) (tested tests before line)
unfolding tested
then_test [] test before line = refl
then_test (first ∷ tests) test before line = elim (cases_Bool (first.fails before line)) [
  | inl bad ↦ rw bad refl
  | inr good ↦ rw good (then_test tests test before line)
]

then_all : {L : Type 0} → (tests : List (Test L)) (test : Test L) (before : List L) (got : Result L TextCause)
    → result_and_then (tested (tests ++ (test ∷ [])) before) got ≡ result_and_then (tested (test ∷ []) before) (result_and_then (tested tests before) got)
then_all tests test before (Ok line) = then_test tests test before line
then_all tests test before (Err cause) = refl

-- what is read of a later line, with the test
read_more : {L : Type 0} → (test : Test L) (format : TextFormat L) (newest : L) (before : List L) (bytes : List ℕ)
    → read (with_test test format) (newest ∷ before) bytes ≡ result_and_then (tested (test ∷ []) (newest ∷ before)) (read format (newest ∷ before) bytes)
unfolding read
read_more test format newest before bytes = elim (cases_Bool (list_all is_printable bytes)) [
  | inl good ↦ rw (not_empty (length before), good) (then_all format.tests test (newest ∷ before) (format.parsed (newest ∷ before) (split 32 bytes)))
  | inr bad ↦ rw (not_empty (length before), bad) refl
]

-- and of the first one
read_first : {L : Type 0} → (test : Test L) (format : TextFormat L) (bytes : List ℕ) → read (with_test test format) [] bytes ≡ read format [] bytes
unfolding read
read_first test format bytes = refl

same_end : {L : Type 0} → (test : Test L) (format : TextFormat L) (before : List L) → has_ended (with_test test format) before ≡ has_ended format before
same_end test format [] = refl
same_end test format (line ∷ before) = refl

-- a reading that goes on is stopped where its rest is
after_first : {L : Type 0} → (test : Test L) (got : Result L TextCause) (rest more : L → Reading L)
    → ((line : L) → more line ≡ stopped test (line ∷ []) (rest line))
    → after_line [] got more ≡ stopped test [] (after_line [] got rest)
after_first test (Ok line) rest more is = ap (with_line line) (is line)
after_first test (Err cause) rest more is = refl

after_later : {L : Type 0} → (test : Test L) (newest : L) (before : List L) (got : Result L TextCause) (rest more : L → Reading L)
    → ((line : L) → more line ≡ stopped test (line ∷ newest ∷ before) (rest line))
    → after_line (newest ∷ before) (result_and_then (tested (test ∷ []) (newest ∷ before)) got) more ≡ stopped test (newest ∷ before) (after_line (newest ∷ before) got rest)
unfolding tested
after_later test newest before (Ok line) rest more is = elim (cases_Bool (test.fails (newest ∷ before) line)) [
  | inl bad ↦ rw bad refl
  | inr good ↦ rw good (ap (with_line line) (is line))
]
after_later test newest before (Err cause) rest more is = refl

-- what no line stops
stopped-refused : {L : Type 0} → (test : Test L) (before : List L) (cause : TextCause) → refused before cause ≡ stopped test before (refused before cause)
stopped-refused test [] cause = refl
stopped-refused test (line ∷ before) cause = refl

stopped-whole : {L : Type 0} → (test : Test L) (before : List L) → whole [] ≡ stopped test before (whole [])
stopped-whole test [] = refl
stopped-whole test (line ∷ before) = refl

after_any : {L : Type 0} → (test : Test L) (format : TextFormat L) (before : List L) (piece : List ℕ) (rest more : L → Reading L)
    → ((line : L) → more line ≡ stopped test (line ∷ before) (rest line))
    → after_line before (read (with_test test format) before piece) more ≡ stopped test before (after_line before (read format before piece) rest)
after_any test format [] piece rest more is = rw (read_first test format piece) (after_first test (read format [] piece) rest more is)
after_any test format (newest ∷ before) piece rest more is =
    rw (read_more test format newest before piece) (after_later test newest before (read format (newest ∷ before) piece) rest more is)

-- the lines of the format with the test are those without it, up to the first that the test refuses
lines_more : {L : Type 0} → (test : Test L) (format : TextFormat L) (pieces : List (List ℕ)) (before : List L)
    → lines_after (with_test test format) before pieces ≡ stopped test before (lines_after format before pieces)
unfolding lines_after
lines_more test format [] before = stopped-whole test before
lines_more test format (piece ∷ []) before = elim (cases_Bool (has_ended format before)) [
  | inl ended ↦ elim (cases_Bool (eqb (length piece) 0)) [
    | inl none ↦ rw (same_end test format before, ended, none) (stopped-whole test before)
    | inr some ↦ rw (same_end test format before, ended, some) (stopped-refused test before AfterEnd)
  ]
  | inr going ↦ elim (cases_Bool (ltb 160 (length piece))) [
    | inl long ↦ rw (same_end test format before, going, long) (stopped-refused test before TooLong)
    | inr short ↦ rw (same_end test format before, going, short) (stopped-refused test before NoEnd)
  ]
]
lines_more test format (piece ∷ next ∷ pieces) before = elim (cases_Bool (has_ended format before)) [
  | inl ended ↦ rw (same_end test format before, ended) (stopped-refused test before AfterEnd)
  | inr going ↦ elim (cases_Bool (ltb 160 (length piece))) [
    | inl long ↦ rw (same_end test format before, going, long) (stopped-refused test before TooLong)
    | inr short ↦ rw (same_end test format before, going, short)
        (after_any test format before piece (λ line. lines_after format (line ∷ before) (next ∷ pieces)) (λ line. lines_after (with_test test format) (line ∷ before) (next ∷ pieces))
        (λ line. lines_more test format (next ∷ pieces) (line ∷ before)))
  ]
]

pub one_test_more : {L : Type 0} → (test : Test L) (format : TextFormat L) (text : List ℕ)
    → reading (with_test test format) text ≡ stopped test [] (reading format text)
one_test_more test format text = lines_more test format (split 10 text) []

-- it reads what it writes
front_passes : {L : Type 0} → (tests : List (Test L)) (test : Test L) (before : List L) (line : L)
    → AllByRecursion (λ (t : Test L). t.fails before line ≡ false) (tests ++ (test ∷ [])) → AllByRecursion (λ (t : Test L). t.fails before line ≡ false) tests
front_passes [] test before line passes = tt
front_passes (first ∷ tests) test before line passes = (passes.0, front_passes tests test before line passes.1)

other_passes : {L : Type 0} → (tests : List (Test L)) (test : Test L) (before : List L) (line : L) → Passes (tests ++ (test ∷ [])) before line → Passes tests before line
other_passes tests test [] line passes = tt
other_passes tests test (newest ∷ before) line passes = front_passes tests test (newest ∷ before) line passes

pub with_test_grammar : {L : Type 0} → (test : Test L) (format : TextFormat L) (Fits : L → Type 0) (Placed : List L → L → Type 0)
    → IsGrammar format Fits Placed → IsGrammar (with_test test format) Fits Placed
with_test_grammar test format Fits Placed grammar = record {
  first_is = grammar.first_is;
  first_again = grammar.first_again;
  words_are = grammar.words_are;
  words_again = grammar.words_again;
  plain = grammar.plain;
  short = λ before line fits placed passes. grammar.short before line fits placed (other_passes format.tests test before line passes);
}
