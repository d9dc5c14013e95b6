-- What lines of a cache's text that were read say.
-- A digit, printed.
-- Texts of caches of which each line is read without the origins of the others.
use Rattle.std.proofs.Common.{List, arith, ◌≡◌, ◌∷◌, [], decimal, refl, ℕ, ◌≤◌, true, false, ◌++◌, length, map, ap, ◌∙◌}
use Rattle.std.specs.Fmt.{digits}
use Rattle.std.proofs.lemmas.Grind.{flat_map-append}
use Rattle.pd_kinds.specs.Meaning.{CacheMeaning, CacheEntry}
use Rattle.pd_kinds.specs.declared.kind.Kind.TheVariants.{Cache}
use Rattle.pd_grammar.proofs.GrammarLemmas.{is_read, Passes, read_again, one_test_more}
use Rattle.pd_grammar.specs.CacheText.{Line, cache_line, map_line, end_line, Head, Row, cache_single, blocks_of, hint_size_of, least_block, cache, repeated_test, is_repeated, head_of, row_of, text_of_cache, MeansCache, SpellsCache}
use Rattle.pd_grammar.proofs.CacheRead.{FitsLine, Placed, passed, head_tells, single_grammar, cache_grammar}
use Rattle.pd_grammar.proofs.CacheLaws.{is_hint_size, row_tells, cache_language}
use Rattle.pd_grammar.specs.declared.cause.TextCause.{TextCause}
use Rattle.pd_grammar.specs.declared.cause.TextCause.TheVariants.{Repeated}
use Rattle.pd_grammar.specs.Texts.{Reading, has_ended, reading, refused, whole, with_line, number_after, stopped, text_of_lines}
use Rattle.pd_texts.specs.Reader.{IsReadAfter, in_order, with_lines, AreReadSoFar, IsRefusedAfter}
use Rattle.pd_texts.specs.declared.reader.TextFault.{TextFault}
use Rattle.pd_texts.specs.ThinLine.{text_of_line, first_text, end_text}
use Rattle.pd_texts.proofs.LawLemmas.{whole_spells, read_lines_mean}
use Rattle.pd_texts_kinds.specs.CacheLine.{IsCacheLine, IsMapLine, IsEndLine, entries_text, OriginsDiffer}

pub cache_read : (before : List Line) (h : Head) → IsReadAfter cache_single before (cache_line h) → IsCacheLine before h
cache_read before h one =
    let is = is_read cache_single FitsLine Placed single_grammar before one.bytes (cache_line h) one.is in
    let tests = passed before (cache_line h) (omega (arith, is.placed)) is.passes in
    let tells = head_tells h.block_size h.blocks h.major h.minor h.patch h.clean h.hint_size tests.range in
    record {
      second = is.placed;
      uuid_len = is.fits.0;
      uuid_bytes = is.fits.1.0;
      block_size_fits = tells.0;
      blocks_fit = tells.1.0;
      clean_is_flag = tells.1.1.1.1.1.0;
      policy_len = is.fits.1.1.1.1.1.0;
      policy_bytes = is.fits.1.1.1.1.1.1.0;
      major_fits = tells.1.1.0;
      minor_fits = tells.1.1.1.0;
      patch_fits = tells.1.1.1.1.0;
      hint_size_is = is_hint_size h.hint_size tells.1.1.1.1.1.1;
    }

pub map_read : (before : List Line) (r : Row) → IsReadAfter cache_single before (map_line r) → IsMapLine before r
map_read before r one =
    let is = is_read cache_single FitsLine Placed single_grammar before one.bytes (map_line r) one.is in
    let tests = passed before (map_line r) (omega (arith, is.placed)) is.passes in
    let says = row_tells r.block (blocks_of before) r.origin r.hint r.dirty (hint_size_of before) (least_block before) tests.range tests.order in
    record {
      later = is.placed;
      above = says.1.1.1.1.1;
      within = says.0;
      origin_fits = says.1.0;
      dirty_is_flag = says.1.1.1.0;
      hint_fits = says.1.1.0;
      no_hint = says.1.1.1.1.0;
    }

pub end_read : (before : List Line) → IsReadAfter cache_single before end_line → IsEndLine before
end_read before one = record { later = (is_read cache_single FitsLine Placed single_grammar before one.bytes end_line one.is).placed }

pub decimal-zero : decimal 0 ≡ 48 ∷ []
unfolding digits
decimal-zero = refl

pub decimal-one : decimal 1 ≡ 49 ∷ []
unfolding digits
decimal-one = refl

-- a line that passes the other tests, and whose origin is new, passes all
all_passed : (before : List Line) (line : Line) → is_repeated before line ≡ false → Passes cache_single.tests before line → Passes cache.tests before line
all_passed [] line new passes = tt
all_passed (newest ∷ before) line new passes = (passes.0, (passes.1.0, (new, tt)))

goes_on : (before : List Line) → has_ended cache_single before ≡ false → has_ended cache before ≡ false
goes_on [] going = refl
goes_on (line ∷ before) going = going

-- a line whose origin is new is read as a line of a cache's text
line_read : (before : List Line) (line : Line) → is_repeated before line ≡ false → IsReadAfter cache_single before line → IsReadAfter cache before line
line_read before line new one =
    let is = is_read cache_single FitsLine Placed single_grammar before one.bytes line one.is in
    record {
      going = goes_on before one.going;
      bytes = one.bytes;
      short = one.short;
      is = rw (← is.bytes_are) (read_again cache FitsLine Placed cache_grammar before line is.fits is.placed (all_passed before line new is.passes));
    }

pub lines_read : (lines : List Line) → AreReadSoFar cache_single lines → OriginsDiffer lines → AreReadSoFar cache lines
lines_read [] are new = tt
lines_read (line ∷ before) are new = (line_read before line new.0 are.0, lines_read before are.1 new.1)

pub lines_mean : (lines : List Line) → AreReadSoFar cache_single lines → has_ended cache lines ≡ true → OriginsDiffer lines → (m : CacheMeaning) × MeansCache (in_order lines []) m
lines_mean lines are ended new = read_lines_mean cache MeansCache FitsLine Placed cache_language lines (lines_read lines are new) ended

-- a line whose origin is new is one more before the text stops
stopped-line : (line : Line) (before : List Line) (rest : Reading Line) → is_repeated before line ≡ false
    → stopped repeated_test before (with_line line rest) ≡ with_line line (stopped repeated_test (line ∷ before) rest)
stopped-line line [] rest new = refl
stopped-line line (newest ∷ before) rest new = rw new refl

stopped_later : (before : List Line) (rest : Reading Line) → OriginsDiffer before
    → stopped repeated_test [] (with_lines before rest) ≡ with_lines before (stopped repeated_test before rest)
stopped_later [] rest new = refl
stopped_later (line ∷ before) rest new =
    stopped_later before (with_line line rest) new.1 ∙ ap (with_lines before) (stopped-line line before rest new.0)

-- a text with lines of which no origin repeats goes on after them
pub front_lines : (text : List ℕ) (before : List Line) (rest : Reading Line) → reading cache_single text ≡ with_lines before rest → OriginsDiffer before
    → reading cache text ≡ with_lines before (stopped repeated_test before rest)
front_lines text before rest is new =
    one_test_more repeated_test cache_single text ∙ ap (stopped repeated_test []) is ∙ stopped_later before rest new

stopped-refused : (before : List Line) (cause : TextCause) → stopped repeated_test before (refused before cause) ≡ refused before cause
stopped-refused [] cause = refl
stopped-refused (line ∷ before) cause = refl

stopped-whole : (before : List Line) → stopped repeated_test before (whole []) ≡ whole []
stopped-whole [] = refl
stopped-whole (line ∷ before) = refl

refused_of : (text : List ℕ) (before : List Line) (fault : TextFault) → reading cache text ≡ with_lines before (refused before fault.cause) → fault.line ≡ number_after before
    → IsRefusedAfter cache text before fault
refused_of text before fault is number = record {
  is = is;
  number = number;
  refusal = rw number (ap (λ (r : Reading Line). r.refusal) is);
}

-- what is refused there is refused
pub refused_text : (text : List ℕ) (before : List Line) (fault : TextFault) → IsRefusedAfter cache_single text before fault → OriginsDiffer before → IsRefusedAfter cache text before fault
refused_text text before fault is new =
    refused_of text before fault (front_lines text before (refused before fault.cause) is.is new ∙ ap (with_lines before) (stopped-refused before fault.cause)) is.number

stopped-repeated : (line : Line) (before : List Line) (rest : Reading Line) → 1 ≤ length before → is_repeated before line ≡ true
    → stopped repeated_test before (with_line line rest) ≡ refused before Repeated
stopped-repeated line [] rest some old = absurd (omega arith)
stopped-repeated line (newest ∷ before) rest some old = rw old refl

-- and the first line that repeats an origin
pub repeated_text : (text : List ℕ) (before : List Line) (line : Line) (rest : Reading Line) → reading cache_single text ≡ with_lines (line ∷ before) rest
    → 1 ≤ length before → OriginsDiffer before → is_repeated before line ≡ true
    → IsRefusedAfter cache text before (record { line = number_after before; cause = Repeated })
repeated_text text before line rest is some new old =
    refused_of text before (record { line = number_after before; cause = Repeated })
    (front_lines text before (with_line line rest) is new ∙ ap (with_lines before) (stopped-repeated line before rest some old)) refl

-- a text of which no line is refused, and no origin repeats
pub whole_single : (text : List ℕ) (lines : List Line) → reading cache_single text ≡ whole (in_order lines []) → OriginsDiffer lines
    → (m : CacheMeaning) × (MeansCache (in_order lines []) m × SpellsCache text m)
whole_single text lines is new =
    whole_spells cache MeansCache FitsLine Placed cache_language text (in_order lines [])
    (front_lines text lines (whole []) is new ∙ ap (with_lines lines) (stopped-whole lines))

-- the lines of entries
entry_lines : (entries : List CacheEntry) → text_of_lines cache (map row_of entries) ≡ entries_text entries
entry_lines [] = refl
entry_lines (e ∷ entries) = ap (λ (xs : List ℕ). text_of_line cache (row_of e) ++ xs) (entry_lines entries)

pub cache_lines : (m : CacheMeaning) → text_of_cache m ≡ first_text Cache ++ (text_of_line cache (cache_line (head_of m)) ++ (entries_text m.entries ++ end_text))
unfolding text_of_cache
cache_lines m =
    let rows = map row_of m.entries in
    let body : text_of_lines cache (rows ++ (end_line ∷ [])) ≡ entries_text m.entries ++ end_text =
    flat_map-append (text_of_line cache) rows (end_line ∷ []) ∙ ap (λ (xs : List ℕ). xs ++ end_text) (entry_lines m.entries) in
    ap (λ (xs : List ℕ). first_text Cache ++ (text_of_line cache (cache_line (head_of m)) ++ xs)) body
