-- How many blocks need a place in an overflow tree, count by count.
use Rattle.std.proofs.Common.{◌≡◌, ◌≢◌, inl, inr, ℕ, zero, suc, ◌+◌, ◌<◌, ◌≤◌, Bool, false, cond, leb, eqb, List, [], ◌∷◌, ◌++◌, map, refl, sym, ◌∙◌, ap, arith}
use Rattle.std.specs.List.{count_by, range_with_len}
use Rattle.std.proofs.lemmas.Bool.{cases_eq}
use Rattle.std.proofs.lemmas.Bool.Decides.{nat_tests}
use Rattle.std.proofs.lemmas.List.FromFn.{length-range_with_len, sum_by-map-range_with_len_more}
use Rattle.std.proofs.lemmas.List.Sums.{sum_by-cons, sum_by-append, sum_by_push, count_by-le-length}
use Rattle.pd_grammar.specs.Need.{overflows_in}
use Rattle.pd_count.specs.Counted.{Counted, count_of, CountsOneMore, HasCounted}
use Rattle.pd_devices.specs.Counts.{overflows_of}

-- how many numbers of a row pass a test
abbrev pub passing : (ℕ → Bool) → ℕ → ℕ → ℕ
passing p a n = count_by p (range_with_len a n)

pub passing-cons : (p : ℕ → Bool) (a n : ℕ) → passing p a (suc n) ≡ cond (p a) 1 0 + passing p (a + 1) n
passing-cons p a n = sum_by-cons (λ (x : ℕ). cond (p x) 1 0) a (range_with_len (a + 1) n)

-- tests that say the same in a row
same_row : (p q : ℕ → Bool) (a n : ℕ) → ((d : ℕ) → a ≤ d → p d ≡ q d) → passing p a n ≡ passing q a n
same_row p q a zero same = refl
same_row p q a (suc n) same =
    passing-cons p a n ∙ (ap (λ (t : Bool). cond t 1 0 + passing p (a + 1) n) (same a (omega arith))
    ∙ (ap (λ (k : ℕ). cond (q a) 1 0 + k) (same_row p q (a + 1) n (λ d above. same d (omega arith))) ∙ sym (passing-cons q a n)))

-- tests that say the same but at one place of a row
pub one_apart : (p q : ℕ → Bool) (b a n : ℕ) → ((d : ℕ) → d ≢ b → p d ≡ q d) → a ≤ b → b < a + n
    → passing q a n + cond (p b) 1 0 ≡ passing p a n + cond (q b) 1 0
one_apart p q b a zero others above below = absurd (omega arith)
one_apart p q b a (suc n) others above below = elim (cases_eq a b) [
  | inl here ↦
      let rest = same_row p q (a + 1) n (λ d past. others d (λ same. omega (arith, same, here))) in
      let ps : cond {A = ℕ} (p a) 1 0 ≡ cond (p b) 1 0 = ap {B = ℕ} (λ (d : ℕ). cond (p d) 1 0) here in
      let qs : cond {A = ℕ} (q a) 1 0 ≡ cond (q b) 1 0 = ap {B = ℕ} (λ (d : ℕ). cond (q d) 1 0) here in
      omega (arith, passing-cons p a n, passing-cons q a n, rest, ps, qs)
  | inr apart ↦
      let rest = one_apart p q b (a + 1) n others (omega arith) (omega arith) in
      let here : cond {A = ℕ} (p a) 1 0 ≡ cond (q a) 1 0 = ap {B = ℕ} (λ (t : Bool). cond t 1 0) (others a apart) in
      omega (arith, passing-cons p a n, passing-cons q a n, rest, here)
]

-- one count more
counted_more : (b n : ℕ) (old new : Counted) → CountsOneMore b old new → b < n
    → overflows_of new n + cond (leb 3 (count_of old b)) 1 0 ≡ overflows_of old n + cond (leb 3 (count_of old b + 1)) 1 0
unfolding overflows_of
counted_more b n old new adds within =
    one_apart (λ d. leb 3 (count_of old d)) (λ d. leb 3 (count_of new d)) b 0 n
    (λ d other. ap (leb 3) (sym (adds.others d other))) (omega arith) (omega arith)
    ∙ ap (λ (k : ℕ). overflows_of old n + cond (leb 3 k) 1 0) adds.counted

third : (c x y : ℕ) → x + cond (leb 3 c) 1 0 ≡ y + cond (leb 3 (c + 1)) 1 0 → c ≡ 2 → x ≡ y + 1
third c x y e two = grind (arith, nat_tests)

other : (c x y : ℕ) → x + cond (leb 3 c) 1 0 ≡ y + cond (leb 3 (c + 1)) 1 0 → c ≢ 2 → x ≡ y
other c x y e none = grind (arith, nat_tests)

-- the third count of a block needs one place more, and no other count does
pub overflows_third : (b n : ℕ) (old new : Counted) → CountsOneMore b old new → b < n → count_of old b ≡ 2 → overflows_of new n ≡ overflows_of old n + 1
overflows_third b n old new adds within two = third (count_of old b) (overflows_of new n) (overflows_of old n) (counted_more b n old new adds within) two

pub overflows_other : (b n : ℕ) (old new : Counted) → CountsOneMore b old new → b < n → count_of old b ≢ 2 → overflows_of new n ≡ overflows_of old n
overflows_other b n old new adds within none = other (count_of old b) (overflows_of new n) (overflows_of old n) (counted_more b n old new adds within) none

-- there are no more of them than blocks
pub overflows-le : (counts : Counted) (n : ℕ) → overflows_of counts n ≤ n
unfolding overflows_of
overflows-le counts n = omega (arith, count_by-le-length (λ d. leb 3 (count_of counts d)) (range_with_len 0 n), length-range_with_len 0 n)

-- they are those of the list that was counted
pub overflows_listed : (counts : Counted) (blocks : List ℕ) (n : ℕ) → HasCounted counts blocks → overflows_of counts n ≡ overflows_in blocks n
unfolding overflows_of overflows_in
overflows_listed counts blocks n counted =
    same_row (λ d. leb 3 (count_of counts d)) (λ d. leb 3 (count_by (λ b. eqb b d) blocks)) 0 n (λ d above. ap (leb 3) (counted d))

none_passing : (a n : ℕ) → passing (λ d. false) a n ≡ 0
none_passing a zero = refl
none_passing a (suc n) = let rest = none_passing (a + 1) n in let first = passing-cons (λ d. false) a n in omega arith

pub overflows_none : (counts : Counted) (n : ℕ) → HasCounted counts [] → overflows_of counts n ≡ 0
unfolding overflows_of
overflows_none counts n counted =
    same_row (λ d. leb 3 (count_of counts d)) (λ d. false) 0 n (λ d above. ap (leb 3) (counted d)) ∙ none_passing 0 n

-- every count is at most the number of all
pub counts_bounded : (b total : ℕ) (old new : Counted) → CountsOneMore b old new → ((d : ℕ) → count_of old d ≤ total) → (d : ℕ) → count_of new d ≤ total + 1
counts_bounded b total old new adds bounded d = elim (cases_eq d b) [
  | inl same ↦ let here = ap (count_of new) same in omega (arith, here, adds.counted, bounded b)
  | inr apart ↦ omega (arith, adds.others d apart, bounded d)
]

pub map_id : (xs : List ℕ) → map (λ r. r) xs ≡ xs
map_id [] = refl
map_id (x ∷ xs) = ap (λ (ys : List ℕ). x ∷ ys) (map_id xs)

-- a row that was counted, and then one block more
module _ (c : ℕ) where
  abbrev count : List ℕ → ℕ
  count xs = count_by (λ r. eqb r c) xs

  row_more : (a n : ℕ) → count (range_with_len a (n + 1)) ≡ count (range_with_len a n) + cond (eqb (a + n) c) 1 0
  row_more a n =
      ap count (sym (map_id (range_with_len a (n + 1))))
      ∙ (sum_by-map-range_with_len_more (λ r. cond (eqb r c) 1 0) (λ r. r) a n (a + n) refl
      ∙ ap (λ k. k + cond (eqb (a + n) c) 1 0) (ap count (map_id (range_with_len a n))))

  listed_more : (a n : ℕ) (before : List ℕ) → count ((range_with_len a n ++ before) ++ (a + n) ∷ []) ≡ count (range_with_len a (n + 1) ++ before)
  listed_more a n before =
      let push = sum_by_push (λ r. cond {A = ℕ} (eqb r c) 1 0) (range_with_len a n ++ before) (a + n) in
      let old = sum_by-append (λ r. cond {A = ℕ} (eqb r c) 1 0) (range_with_len a n) before in
      let new = sum_by-append (λ r. cond {A = ℕ} (eqb r c) 1 0) (range_with_len a (n + 1)) before in
      omega (arith, push, old, new, row_more a n)

pub counted_row : (counts : Counted) (a n : ℕ) (before : List ℕ) → HasCounted counts ((range_with_len a n ++ before) ++ (a + n) ∷ []) → HasCounted counts (range_with_len a (n + 1) ++ before)
counted_row counts a n before counted c = counted c ∙ listed_more c a n before
