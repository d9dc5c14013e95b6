-- Sets of roles: what one role more changes.
use lib.Count.{ones_step}
use Rattle.std.proofs.Common.{◌≡◌, ℕ, zero, suc, ◌+◌, ◌*◌, ◌/◌, ◌%◌, ◌<◌, ◌≤◌, ◌^◌, Bool, true, false, ◌||◌, nat_eq, get_or, set, length, refl, sym, ◌∙◌, ap, arith, bit_or, eq-eqb, cond, nat_lt, filter, List, [], ◌∷◌, ◌++◌, inl, inr, get_or-set_same, get_or-set_other}
use Rattle.std.proofs.Math.Bool.{or-false, or-true}
use Rattle.std.specs.Int.{bit_at, w16}
use Rattle.std.specs.Int.RustNames.{count_ones}
use Rattle.std.proofs.Math.Nat.{pow-suc}
use Rattle.std.proofs.lemmas.Nat.Bits.{bit_at_set_same, bit_at_set_other, bit_at-zero, bit_at-suc, bit_at_lowest}
use Rattle.std.specs.List.{range_with_len}
use Rattle.std.proofs.lemmas.Bool.{cases_eq, cases_lt, both_ways}
use Rattle.std.proofs.lemmas.List.{get_or_past}
use Rattle.pd_kinds.proofs.KindsListLemmas.{length_first}
use Rattle.pd_kinds.proofs.NumberLemmas.{differ}
use Rattle.pd_graph.specs.Marks.{has_bit, has_several, is_in, IsAllRead}

-- the bits of a set with one role more
pub has_bit_more : (roles role other : ℕ) → role < 16
    → has_bit (bit_or roles (1 * 2 ^ role % 2 ^ 16)) other ≡ (has_bit roles other || nat_eq other role)
has_bit_more roles role other within = elim (cases_eq other role) [
  | inl same ↦
      rw (same, bit_at_set_same w16 roles role within, eq-eqb role role refl) (sym (or-true (nat_eq (bit_at roles role) 1)))
  | inr ne ↦
      rw (bit_at_set_other w16 roles role within other ne, differ other role ne) (sym (or-false (nat_eq (bit_at roles other) 1)))
]

-- the parts of a pair
pub pair_block : (b role : ℕ) → role < 16 → (16 * b + role) / 16 ≡ b
pair_block b role within = omega arith

pub pair_role : (b role : ℕ) → role < 16 → (16 * b + role) % 16 ≡ role
pair_role b role within = omega arith

-- a table in which one block has one role more has one pair more
pub is_in_more : (table : List ℕ) (b role v : ℕ) → b < length table → role < 16
    → ((other : ℕ) → other < 16 → has_bit v other ≡ (has_bit (get_or table b 0) other || nat_eq other role))
    → (p : ℕ) → is_in (set table b v) p ≡ (is_in table p || nat_eq p (16 * b + role))
unfolding is_in
is_in_more table b role v small within more p = elim (cases_eq (p / 16) b) [
  | inl same ↦
      let low : p % 16 < 16 = omega arith in
      let test : nat_eq p (16 * b + role) ≡ nat_eq (p % 16) role = elim (cases_eq (p % 16) role) [
        | inl e ↦ eq-eqb p (16 * b + role) (omega arith) ∙ sym (eq-eqb (p % 16) role e)
        | inr ne ↦ differ p (16 * b + role) (λ e. ne (omega arith)) ∙ sym (differ (p % 16) role ne)
      ] in
      rw (same, get_or-set_same table b v 0 small, more (p % 16) low, test) refl
  | inr ne ↦
      rw (get_or-set_other table b (p / 16) v 0 ne, differ p (16 * b + role) (λ e. ne (omega arith))) (sym (or-false (nat_eq (bit_at (get_or table (p / 16) 0) (p % 16)) 1)))
]

-- a table of empty sets has no pair
pub is_in_none : (table : List ℕ) → ((b : ℕ) → get_or table b 0 ≡ 0) → (p : ℕ) → is_in table p ≡ false
unfolding is_in
is_in_none table none p = rw (none (p / 16), bit_at-zero (p % 16)) refl

-- a range with one number more
pub range_more : (a n j : ℕ) → a + n ≡ j → range_with_len a (suc n) ≡ range_with_len a n ++ (j ∷ [])
range_more a zero j e = ap (λ (x : ℕ). x ∷ []) (let same : a ≡ j = omega arith in same)
range_more a (suc n) j e =
    ap (λ (xs : List ℕ). a ∷ xs) (range_more (a + 1) n j (omega arith))

lowest_digit : (n : ℕ) → cond (nat_eq (n % 2) 1) 1 0 ≡ n % 2
lowest_digit n = elim (cases_eq (n % 2) 1) [
  | inl e ↦ ap (λ (b : Bool). cond b 1 0) (eq-eqb (n % 2) 1 e) ∙ sym e
  | inr ne ↦ ap (λ (b : Bool). cond b 1 0) (differ (n % 2) 1 ne) ∙ (let e : 0 ≡ n % 2 = omega arith in e)
]

no_ones : count_ones 0 ≡ 0
unfolding count_ones
no_ones = refl

-- how many bits of a number are set, of those that it can have
bits_from : (n a k : ℕ) (t : ℕ → Bool) → ((i : ℕ) → t (a + i) ≡ has_bit n i) → n < 2 ^ k → length (filter t (range_with_len a k)) ≡ count_ones n
bits_from n a zero t same small = let e : n ≡ 0 = omega arith in rw e (sym no_ones)
bits_from n a (suc k) t same small =
    let double = pow-suc 2 k in
    let rest = bits_from (n / 2) (a + 1) k t
    (λ i. ap t (let e : a + 1 + i ≡ a + suc i = omega arith in e) ∙ (same (suc i) ∙ ap (λ (d : ℕ). nat_eq d 1) (bit_at-suc n i))) (omega arith) in
    let here : t a ≡ nat_eq (n % 2) 1 = ap t (let e : a ≡ a + 0 = omega arith in e) ∙ (same 0 ∙ ap (λ (d : ℕ). nat_eq d 1) (bit_at_lowest n)) in
    let digit = ap (λ (b : Bool). cond b 1 0) here ∙ lowest_digit n in
    let first = length_first (t a) a (filter t (range_with_len (a + 1) k)) in
    let step = ones_step n in
    omega arith

-- more than one bit is set where there are several roles
pub several_from_ones : (roles : ℕ) → roles < 2 ^ 16 → nat_lt 1 (count_ones roles) ≡ has_several roles
unfolding has_several
several_from_ones roles small =
    sym (ap (nat_lt 1) (bits_from roles 0 16 (has_bit roles) (λ i. ap (has_bit roles) (let e : 0 + i ≡ i = omega arith in e)) small))

-- no role is not several
pub none_several : has_several 0 ≡ false
unfolding has_several
none_several = refl

-- a test as a number
pub counts_one : (b : Bool) → b ≡ true → ◌≡◌ {A = ℕ} (cond b 1 0) 1
counts_one b e = rw e refl

pub counts_none : (b : Bool) → b ≡ false → ◌≡◌ {A = ℕ} (cond b 1 0) 0
counts_none b e = rw e refl

-- whether a table has a pair
pub is_in-pair : (table : List ℕ) (b role : ℕ) → role < 16 → is_in table (16 * b + role) ≡ has_bit (get_or table b 0) role
unfolding is_in
is_in-pair table b role within =
    ap (λ (q : ℕ). has_bit (get_or table q 0) ((16 * b + role) % 16)) (pair_block b role within)
    ∙ ap (λ (r : ℕ). has_bit (get_or table b 0) r) (pair_role b role within)

-- a pair as the block and the role that it is made of
pub is_in-parts : (table : List ℕ) (p : ℕ) → is_in table p ≡ has_bit (get_or table (p / 16) 0) (p % 16)
unfolding is_in
is_in-parts table p = refl

-- a table has no pair of a block that it has no place for
pub past_end : (table : List ℕ) (p : ℕ) → length table ≤ p / 16 → is_in table p ≡ false
unfolding is_in
past_end table p past = rw (get_or_past table (p / 16) 0 past, bit_at-zero (p % 16)) refl

-- where each role of each block that the first table has is in the second, so is each pair
pub all_read : (seen read : List ℕ) → ((b role : ℕ) → b < length seen → role < 16 → has_bit (get_or seen b 0) role ≡ true → has_bit (get_or read b 0) role ≡ true)
    → IsAllRead seen read
all_read seen read each = record {
  pairs = λ p met. elim (cases_lt (p / 16) (length seen)) [
    | inl small ↦
        let role : p % 16 < 16 = omega arith in
        is_in-parts read p ∙ each (p / 16) (p % 16) small role (sym (is_in-parts seen p) ∙ met)
    | inr past ↦ absurd (both_ways (is_in seen p) (past_end seen p past) met)
  ];
}
