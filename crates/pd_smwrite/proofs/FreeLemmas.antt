-- How many of the blocks that a bitmap covers are free.
use Rattle.std.proofs.Common.{◌≡◌, ℕ, zero, suc, ◌+◌, ◌<◌, ◌≤◌, Bool, true, cond, List, [], ◌∷◌, ◌++◌, length, get_or, refl, sym, ◌∙◌, ap, ap₂, arith, inl, inr, ◌-◌, ◌*◌, min, not, ◌&&◌, nat_eq, nat_lt, take, eq-eqb}
use Rattle.std.specs.List.{count_by, range_with_len}
use Rattle.std.proofs.lemmas.List.Sums.{sum_by-append, sum_by-cons, count_by-le-length}
use Rattle.std.proofs.lemmas.Bool.{cases_Bool, cases_lt, lt-ltb, le-ltb}
use Rattle.std.proofs.lemmas.List.{get_or-take, length-take-le}
use Rattle.std.proofs.lemmas.List.FromFn.{length-range_with_len}
use Rattle.pd_kinds.proofs.NumberLemmas.{range_split}
use Rattle.pd_kinds.specs.Bitmap.{bitmaps_for}
use Rattle.pd_laid.specs.Laid.{free_in}
use Rattle.pd_count.proofs.EntryLemmas.{one_if}
use Rattle.pd_count.specs.Counted.{Counted, count_of, IsChunk, IsUncounted}
use Rattle.pd_smwrite.specs.Map.{allocated_of}

-- Numbers in a row, and how many of them pass a test.

-- one number more
pub range_more : (n : ℕ) → range_with_len 0 (n + 1) ≡ range_with_len 0 n ++ n ∷ []
range_more n = let e : 0 + n ≡ n = omega arith in range_split 0 n 1 ∙ ap (λ (m : ℕ). range_with_len 0 n ++ m ∷ []) e

-- the first number of a row
pub count_first : (p : ℕ → Bool) (a n : ℕ) → count_by p (range_with_len a (suc n)) ≡ cond (p a) 1 0 + count_by p (range_with_len (a + 1) n)
count_first p a n = sum_by-cons (λ x. cond (p x) 1 0) a (range_with_len (a + 1) n)

pub count_on : (p : ℕ → Bool) (a m n : ℕ) → count_by p (range_with_len a (m + n)) ≡ count_by p (range_with_len a m) + count_by p (range_with_len (a + m) n)
count_on p a m n = ap (count_by p) (range_split a m n) ∙ sum_by-append (λ x. cond (p x) 1 0) (range_with_len a m) (range_with_len (a + m) n)

-- where all pass
pub count_all : (p : ℕ → Bool) (a n : ℕ) → ((k : ℕ) → a ≤ k → k < a + n → p k ≡ true) → count_by p (range_with_len a n) ≡ n
count_all p a zero all = refl
count_all p a (suc n) all =
    let first : one_if (p a) ≡ 1 = ap one_if (all a (omega arith) (omega arith)) in
    let rest = count_all p (a + 1) n (λ k low high. all k (omega arith) (omega arith)) in
    omega (arith, first, rest, count_first p a n)

-- a list's elements by their places
pub count_placed : (p : ℕ → Bool) (f : ℕ → ℕ) (a : ℕ) (xs : List ℕ) → ((k : ℕ) → k < length xs → get_or xs k 0 ≡ f (a + k))
    → count_by p xs ≡ count_by (λ b. p (f b)) (range_with_len a (length xs))
count_placed p f a [] same = refl
count_placed p f a (x ∷ xs) same =
    let here : x ≡ f a = same 0 (omega arith) ∙ ap f (omega arith) in
    let rest = count_placed p f (a + 1) xs (λ k less. same (suc k) (omega arith) ∙ ap f (omega arith)) in
    sum_by-cons (λ y. cond (p y) 1 0) x xs
    ∙ (ap₂ (λ (t : Bool) (n : ℕ). cond t 1 0 + n) (ap p here) rest ∙ sym (count_first (λ b. p (f b)) a (length xs)))

-- a test of the numbers below n alone
below_only : (z : ℕ → Bool) (n s a m : ℕ)
    → count_by (λ e. nat_lt (s + e) n && z (s + e)) (range_with_len a m) ≡ count_by z (range_with_len (s + a) (min m (n - (s + a))))
below_only z n s a zero = let e : min 0 (n - (s + a)) ≡ 0 = omega arith in rw e refl
below_only z n s a (suc m) =
    let test : ℕ → Bool = λ e. nat_lt (s + e) n && z (s + e) in
    let rest = below_only z n s (a + 1) m in
    elim (cases_lt (s + a) n) [
      | inl less ↦
          let size : min (suc m) (n - (s + a)) ≡ suc (min m (n - (s + (a + 1)))) = omega arith in
          let at : s + (a + 1) ≡ s + a + 1 = omega arith in
          count_first test a m
          ∙ (ap₂ (λ (t : Bool) (k : ℕ). cond t 1 0 + k) (ap (λ (t : Bool). t && z (s + a)) (lt-ltb (s + a) n less))
          (rest ∙ ap (λ (b : ℕ). count_by z (range_with_len b (min m (n - (s + (a + 1)))))) at)
          ∙ sym (ap (λ (k : ℕ). count_by z (range_with_len (s + a) k)) size ∙ count_first z (s + a) (min m (n - (s + (a + 1))))))
      | inr past ↦
          let size : min (suc m) (n - (s + a)) ≡ 0 = omega arith in
          let none : min m (n - (s + (a + 1))) ≡ 0 = omega arith in
          count_first test a m
          ∙ (ap₂ (λ (t : Bool) (k : ℕ). cond t 1 0 + k) (ap (λ (t : Bool). t && z (s + a)) (le-ltb (s + a) n past))
          (rest ∙ ap (λ (k : ℕ). count_by z (range_with_len (s + (a + 1)) k)) none)
          ∙ sym (ap (λ (k : ℕ). count_by z (range_with_len (s + a) k)) size))
    ]

-- those of a bitmap are those of a row
pub free_is : (counts : ℕ → ℕ) (n i : ℕ) → free_in counts n i ≡ count_by (λ b. nat_eq (counts b) 0) (range_with_len (16320 * i) (min 16320 (n - 16320 * i)))
unfolding free_in
free_is counts n i =
    let none : 16320 * i + 0 ≡ 16320 * i = omega arith in
    below_only (λ b. nat_eq (counts b) 0) n (16320 * i) 0 16320
    ∙ ap (λ (a : ℕ). count_by (λ b. nat_eq (counts b) 0) (range_with_len a (min 16320 (n - a)))) none

-- where none was counted
pub free_none : (counts : Counted) (i covered : ℕ) → covered ≡ min 16320 (counts.size - 16320 * i) → IsUncounted counts i
    → covered ≡ free_in (count_of counts) counts.size i
free_none counts i covered is none =
    sym (free_is (count_of counts) counts.size i
    ∙ (ap (λ (k : ℕ). count_by (λ b. nat_eq (count_of counts b) 0) (range_with_len (16320 * i) k)) (sym is)
    ∙ count_all (λ b. nat_eq (count_of counts b) 0) (16320 * i) covered
    (λ k low high.
    let split : 16320 * i + (k - 16320 * i) ≡ k = omega arith in
    eq-eqb (count_of counts k) 0 (ap (count_of counts) (sym split) ∙ none (k - 16320 * i) (omega arith)))))

-- where the counts are there
pub free_some : (counts : Counted) (i covered : ℕ) (numbers : List ℕ) → covered ≡ min 16320 (counts.size - 16320 * i) → IsChunk counts i numbers
    → count_by (λ n. nat_eq n 0) (take covered numbers) ≡ free_in (count_of counts) counts.size i
free_some counts i covered numbers is chunk =
    let size : length (take covered numbers) ≡ covered = length-take-le covered numbers (omega (arith, chunk.full)) in
    count_placed (λ n. nat_eq n 0) (count_of counts) (16320 * i) (take covered numbers)
    (λ k less. get_or-take covered numbers k 0 (omega arith) ∙ chunk.counted k (omega arith))
    ∙ (ap (λ (k : ℕ). count_by (λ b. nat_eq (count_of counts b) 0) (range_with_len (16320 * i) k)) (size ∙ is)
    ∙ sym (free_is (count_of counts) counts.size i))

pub free_within : (counts : ℕ → ℕ) (n i : ℕ) → free_in counts n i ≤ min 16320 (n - 16320 * i)
free_within counts n i =
    omega (
      arith,
      free_is counts n i,
      count_by-le-length (λ b. nat_eq (counts b) 0) (range_with_len (16320 * i) (min 16320 (n - 16320 * i))),
      length-range_with_len (16320 * i) (min 16320 (n - 16320 * i)),
    )

-- the blocks with a count, bitmap after bitmap: those of the first bitmaps that have none were taken off
pub record IsTakenOff (counts : ℕ → ℕ) (n i left : ℕ) : Type 0 where
  pub sum : left + count_by (λ b. nat_eq (counts b) 0) (range_with_len 0 (min n (16320 * i))) ≡ n
  pub most : n ≤ left + 16320 * i

pub taken_start : (counts : ℕ → ℕ) (n : ℕ) → IsTakenOff counts n 0 n
taken_start counts n =
    let none : min n (16320 * 0) ≡ 0 = omega arith in
    record { sum = rw none (omega arith); most = omega arith }

pub taken_next : (counts : ℕ → ℕ) (n i left free next : ℕ) → IsTakenOff counts n i left → i < bitmaps_for n → free ≡ free_in counts n i → next + free ≡ left
    → IsTakenOff counts n (i + 1) next
taken_next counts n i left free next taken more is rest =
    let z : ℕ → Bool = λ b. nat_eq (counts b) 0 in
    let covered = min 16320 (n - 16320 * i) in
    let here : min n (16320 * i) ≡ 16320 * i = omega arith in
    let whole : min n (16320 * (i + 1)) ≡ 16320 * i + covered = omega arith in
    let at : 0 + 16320 * i ≡ 16320 * i = omega arith in
    let split : count_by z (range_with_len 0 (min n (16320 * (i + 1)))) ≡ count_by z (range_with_len 0 (min n (16320 * i))) + free =
    ap (λ (k : ℕ). count_by z (range_with_len 0 k)) whole
    ∙ (count_on z 0 (16320 * i) covered
    ∙ ap₂ (λ (m k : ℕ). m + k) (ap (λ (k : ℕ). count_by z (range_with_len 0 k)) (sym here))
    (ap (λ (a : ℕ). count_by z (range_with_len a covered)) at ∙ sym (is ∙ free_is counts n i))) in
    record {
      sum = omega (arith, taken.sum, split);
      most = let within = free_within counts n i in omega (arith, taken.most);
    }

either_counted : (p : ℕ → Bool) (a n : ℕ) → count_by (λ b. not (p b)) (range_with_len a n) + count_by p (range_with_len a n) ≡ n
either_counted p a zero = refl
either_counted p a (suc n) =
    let rest = either_counted p (a + 1) n in
    elim (cases_Bool (p a)) [
      | inl passes ↦
          let one : one_if (not (p a)) ≡ 0 = ap (λ (t : Bool). one_if (not t)) passes in
          let two : one_if (p a) ≡ 1 = ap one_if passes in
          omega (arith, rest, one, two, count_first (λ b. not (p b)) a n, count_first p a n)
      | inr fails ↦
          let one : one_if (not (p a)) ≡ 1 = ap (λ (t : Bool). one_if (not t)) fails in
          let two : one_if (p a) ≡ 0 = ap one_if fails in
          omega (arith, rest, one, two, count_first (λ b. not (p b)) a n, count_first p a n)
    ]

pub taken_end : (counts : ℕ → ℕ) (n i left : ℕ) → IsTakenOff counts n i left → bitmaps_for n ≤ i → left ≡ allocated_of counts n
unfolding allocated_of
taken_end counts n i left taken past =
    let all : min n (16320 * i) ≡ n = omega arith in
    let sum = rw all at taken.sum in
    omega (arith, sum, either_counted (λ b. nat_eq (counts b) 0) 0 n)
