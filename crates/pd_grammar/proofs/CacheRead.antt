-- Lines of cache texts: what is read is what is written, in its place.
use Rattle.std.proofs.Common.{◌≡◌, ℕ, ◌^◌, ◌≤◌, ◌<◌, true, false, List, [], ◌∷◌, length, refl, arith, eqb, ltb, not, ◌&&◌, ◌||◌, codes}
use Rattle.std.proofs.lemmas.Bool.Decides.{nat_tests}
use Rattle.uuid.specs.Text.{hyphenated_text, lower}
use Rattle.uuid.proofs.TextLemmas.{by_index_length}
use Rattle.pd_grammar.specs.Tables.{words_by, kind_named}
use Rattle.pd_grammar.proofs.GrammarLemmas.{IsGrammar, Passes, with_test_grammar}
use Rattle.pd_grammar.proofs.WordLemmas.{plain_word, room_of, small_numbers_short}
use Rattle.pd_grammar.proofs.TableLemmas.{FitsBy, PlacedBy, IsMade, IsLawful, policy_length, values_short, short_by, table_grammar}
use Rattle.pd_grammar.specs.CacheText.{Line, first_line, cache_line, map_line, end_line, cache, cache_single, cache_table, single_tests, repeated_test, Head, values_of_line, kind_of_line, has_number_out_of_range, is_out_of_order, is_repeated}

-- the numbers and the identifiers of a line can be written
abbrev pub FitsLine : Line → Type 0
FitsLine line = FitsBy cache_table line

-- the line may stand after these ones
abbrev pub Placed : List Line → Line → Type 0
Placed before line = PlacedBy cache_table before line

made : (line : Line) → IsMade cache_table line (kind_of_line line)
unfolding kind_named
made first_line = (omega arith, (plain_word (codes "cache") refl, (plain_word (codes "1") refl, tt)))
made (cache_line h) = (refl, (refl, refl))
made (map_line r) = (refl, (refl, refl))
made end_line = (refl, (refl, refl))

cache_lawful : IsLawful cache_table
cache_lawful = record {
  firsts = (record { kind = refl; values = refl; printable = refl }, tt);
  keywords = (plain_word (codes "map") refl, (plain_word (codes "cache") refl, (plain_word (codes "end") refl, tt)));
  makes = (λ xs. (refl, refl), (λ xs. (refl, refl), (λ xs. (refl, refl), tt)));
  made = made;
}

-- the tests that a line has passed, but for repeated origins
pub record HasPassed (before : List Line) (line : Line) : Type 0 where
  pub range : has_number_out_of_range before line ≡ false
  pub order : is_out_of_order before line ≡ false

pub passed : (before : List Line) (line : Line) → 1 ≤ length before → Passes single_tests before line → HasPassed before line
passed [] line some passes = absurd (omega arith)
passed (newest ∷ before) line some passes = record { range = passes.0; order = passes.1.0 }

-- a line passes all tests
pub record LinePasses (before : List Line) (line : Line) : Type 0 where
  pub range : has_number_out_of_range before line ≡ false
  pub order : is_out_of_order before line ≡ false
  pub repeated : is_repeated before line ≡ false

pub line_passes : (before : List Line) (line : Line) → 1 ≤ length before → Passes cache.tests before line → LinePasses before line
line_passes [] line some passes = absurd (omega arith)
line_passes (newest ∷ before) line some passes = record { range = passes.0; order = passes.1.0; repeated = passes.1.1.0 }

-- what is looked at of a cache line
pub head_tells : (size blocks a b c clean hint : ℕ)
    → not (ltb size (2 ^ 32) && (ltb blocks (2 ^ 32) && (ltb a (2 ^ 32) && (ltb b (2 ^ 32) && (ltb c (2 ^ 32) && (not (ltb 1 clean) && (eqb hint 0 || eqb hint 4))))))) ≡ false
    → (size < 2 ^ 32) × ((blocks < 2 ^ 32) × ((a < 2 ^ 32) × ((b < 2 ^ 32) × ((c < 2 ^ 32) × ((clean ≤ 1) × ((eqb hint 0 || eqb hint 4) ≡ true))))))
head_tells size blocks a b c clean hint range =
    (grind (arith, nat_tests), (grind (arith, nat_tests), (grind (arith, nat_tests), (grind (arith, nat_tests), (grind (arith, nat_tests), (grind (arith, nat_tests), grind (arith, nat_tests)))))))

small_size : (hint : ℕ) → (eqb hint 0 || eqb hint 4) ≡ true → hint ≤ 4
small_size hint e = grind (arith, nat_tests)

-- no line that passes is longer than 160 bytes: a cache line's numbers are small
narrow_head : (h : Head) → length h.policy ≡ 16 → has_number_out_of_range [] (cache_line h) ≡ false → room_of (words_by cache_table (cache_line h)) ≤ 160
narrow_head h len range =
    let tells = head_tells h.block_size h.blocks h.major h.minor h.patch h.clean h.hint_size range in
    let size : h.hint_size ≤ 4 = small_size h.hint_size tells.1.1.1.1.1.1 in
    let front = small_numbers_short (h.block_size ∷ h.blocks ∷ h.clean ∷ []) (tells.0, (tells.1.0, (omega (arith, tells.1.1.1.1.1.0), tt))) in
    let back = small_numbers_short (h.major ∷ h.minor ∷ h.patch ∷ h.hint_size ∷ []) (tells.1.1.0, (tells.1.1.1.0, (tells.1.1.1.1.0, (omega (arith, size), tt)))) in
    let uuid : length (hyphenated_text lower h.uuid) ≡ 36 = by_index_length 36 _ in
    omega (arith, front, back, policy_length h.policy len, uuid)

narrow : (before : List Line) (line : Line) → FitsLine line → Placed before line → Passes single_tests before line → room_of (words_by cache_table line) ≤ 160
narrow before first_line fits placed passes = omega arith
narrow before (cache_line h) fits placed passes = narrow_head h fits.1.1.1.1.1.0 (passed before (cache_line h) (omega (arith, placed)) passes).range
narrow before (map_line r) fits placed passes = omega (arith, values_short (values_of_line (map_line r)) fits)
narrow before end_line fits placed passes = omega arith

-- a cache text reads what it writes, also without the origins of the other lines
pub single_grammar : IsGrammar cache_single FitsLine Placed
single_grammar = table_grammar cache_table cache_lawful (λ before line fits placed passes. short_by cache_table line (narrow before line fits placed passes))

pub cache_grammar : IsGrammar cache FitsLine Placed
cache_grammar = with_test_grammar repeated_test cache_single FitsLine Placed single_grammar
