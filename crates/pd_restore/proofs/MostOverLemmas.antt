-- No more data blocks stand three times in a list than a third of its length.
use Rattle.std.proofs.Common.{◌≡◌, ℕ, zero, suc, ◌+◌, ◌*◌, ◌<◌, ◌≤◌, Bool, true, false, cond, leb, eqb, List, [], ◌∷◌, length, map, refl, ap, arith, inl, inr, length-append}
use Rattle.std.specs.List.{count_by, range_with_len, sum_by}
use Rattle.std.proofs.lemmas.Bool.{cases_eq, ne_eqb}
use Rattle.std.proofs.lemmas.Bool.Decides.{nat_tests}
use Rattle.std.proofs.lemmas.List.FromFn.{length-range_with_len}
use Rattle.std.proofs.lemmas.List.Sums.{sum_by-cons}
use Rattle.pd_grammar.specs.Need.{overflows_in}
use Rattle.pd_grammar.proofs.NeedLemmas.{count_of as times}
use Rattle.pd_grammar.specs.ThinText as text
use Rattle.pd_grammar.specs.ThinText.{number_in}
use Rattle.pd_meaning_thin.specs.declared.joined.Run.{Run}
use Rattle.pd_meaning_thin.specs.Runs.{spelled}
use Rattle.pd_restore.specs.ShapeNeed.{data_of_runs}

abbrev one_if : Bool → ℕ
one_if t = cond t 1 0

one_at_most : (t : Bool) → one_if t ≤ 1
one_at_most true = omega arith
one_at_most false = omega arith

-- a number that is less than a row's first one doesn't stand in it
none_before : (x a n : ℕ) → x < a → count_by (λ d. eqb x d) (range_with_len a n) ≡ 0
none_before x a zero less = refl
none_before x a (suc n) less =
    let first = sum_by-cons (λ (d : ℕ). cond (eqb x d) 1 0) a (range_with_len (a + 1) n) in
    let apart = ap one_if (ne_eqb x a (λ same. absurd (omega (arith, same)))) in
    omega (arith, first, apart, none_before x (a + 1) n (omega arith))

-- a number stands once in a row at the most
stands_once : (x a n : ℕ) → count_by (λ d. eqb x d) (range_with_len a n) ≤ 1
stands_once x a zero = omega arith
stands_once x a (suc n) =
    let first = sum_by-cons (λ (d : ℕ). cond (eqb x d) 1 0) a (range_with_len (a + 1) n) in
    elim (cases_eq x a) [
      | inl same ↦ omega (arith, first, one_at_most (eqb x a), none_before x (a + 1) n (omega (arith, same)))
      | inr apart ↦ let here = ap one_if (ne_eqb x a apart) in omega (arith, first, here, stands_once x (a + 1) n)
    ]

none_stands : (row : List ℕ) → sum_by (λ (d : ℕ). times d []) row ≡ 0
none_stands [] = refl
none_stands (d ∷ row) = let all = sum_by-cons (λ (d : ℕ). times d []) d row in omega (arith, all, none_stands row)

-- a number more in the list stands at those numbers of a row that are the same
adds_one : (x : ℕ) (blocks row : List ℕ) → sum_by (λ d. times d (x ∷ blocks)) row ≡ count_by (λ d. eqb x d) row + sum_by (λ d. times d blocks) row
adds_one x blocks [] = refl
adds_one x blocks (d ∷ row) =
    let all = sum_by-cons (λ (d : ℕ). times d (x ∷ blocks)) d row in
    let here = sum_by-cons (λ (b : ℕ). cond (eqb b d) 1 0) x blocks in
    let ones = sum_by-cons (λ (d : ℕ). cond (eqb x d) 1 0) d row in
    let rest = sum_by-cons (λ (d : ℕ). times d blocks) d row in
    omega (arith, all, here, ones, rest, adds_one x blocks row)

-- how often the numbers of a row stand in the list, together
row_total : (blocks : List ℕ) (a n : ℕ) → sum_by (λ d. times d blocks) (range_with_len a n) ≤ length blocks
row_total [] a n = omega (arith, none_stands (range_with_len a n))
row_total (x ∷ blocks) a n = omega (arith, adds_one x blocks (range_with_len a n), stands_once x a n, row_total blocks a n)

third_of : (n : ℕ) → 3 * cond (leb 3 n) 1 0 ≤ n
third_of n = grind (arith, nat_tests)

thirds : (stands : ℕ → ℕ) (row : List ℕ) → 3 * count_by (λ d. leb 3 (stands d)) row ≤ sum_by stands row
thirds stands [] = omega arith
thirds stands (d ∷ row) =
    let first = sum_by-cons (λ (d : ℕ). cond (leb 3 (stands d)) 1 0) d row in
    let all = sum_by-cons stands d row in
    omega (arith, first, all, third_of (stands d), thirds stands row)

pub overflows_few : (blocks : List ℕ) (n : ℕ) → 3 * overflows_in blocks n ≤ length blocks
unfolding overflows_in
overflows_few blocks n = omega (arith, thirds (λ d. times d blocks) (range_with_len 0 n), row_total blocks 0 n)

-- how many data blocks runs have
pub number_of_data : (runs : List Run) → number_in (map spelled runs) ≡ length (data_of_runs runs)
number_of_data [] = refl
number_of_data (r ∷ runs) =
    let all = sum_by-cons (λ (r : text.Run). r.length) (spelled r) (map spelled runs) in
    let both = length-append (range_with_len r.target r.length) (data_of_runs runs) in
    omega (arith, all, both, length-range_with_len r.target r.length, number_of_data runs)

-- what a test of two numbers says
pub at_most : (a b : ℕ) → leb a b ≡ true → a ≤ b
at_most a b is = grind (arith, nat_tests)
