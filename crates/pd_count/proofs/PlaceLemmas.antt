-- Where the chunks of a group stand, and what a number that is put in one of them comes to for the group.
use Rattle.std.proofs.Common.{◌≡◌, ◌≢◌, ◌⊎◌, ℕ, zero, suc, ◌+◌, ◌-◌, ◌*◌, ◌%◌, ◌^◌, ◌<◌, ◌≤◌, min, Bool, cond, List, [], length, get_or, set, inl, inr, refl, sym, ◌∙◌, ap, subst, arith, bit_and, bit_or, count_ones, get_or-set_same, get_or-set_other}
use Rattle.std.specs.Int.{bit_at, w64}
use Rattle.std.specs.List.{insert}
use Rattle.std.proofs.lemmas.Bool.{cases_eq, cases_lt, eq-eqb, ne_eqb}
use Rattle.std.proofs.lemmas.List.{get_or_default}
use Rattle.std.proofs.lemmas.List.Edits.{length-insert, get_or-insert_below, get_or-insert_at, get_or-insert_above}
use Rattle.std.proofs.lemmas.Nat.{and_mask, mod-pow-add, ones_cat, pow_pos}
use Rattle.std.proofs.lemmas.Nat.Bits.{bit_at-lt, bit_at-zero, bit_at_set_same, bit_at_set_other}
use Rattle.pd_count.specs.Counted.{PutsAt, Grouped, IsPlace, PutsInGroup, chunk_of, made_before, no_group}

-- the one bit of a number below 2
ones_bit : (b : ℕ) → b < 2 → count_ones b ≡ b
unfolding lib.Count.ones
ones_bit zero less = refl
ones_bit (suc zero) less = refl
ones_bit (suc (suc b)) less = absurd (omega arith)

mod_less : (m i : ℕ) → m % 2 ^ i < 2 ^ i
mod_less m i = omega (arith, pow_pos i)

-- one bit more
before_suc : (m i : ℕ) → made_before m (suc i) ≡ made_before m i + bit_at m i
unfolding made_before
before_suc m i =
    let e : suc i ≡ 1 + i = omega arith in
    ap (λ (x : ℕ). count_ones (m % 2 ^ x)) e
    ∙ (ap count_ones (mod-pow-add m 1 i)
    ∙ (ones_cat i (bit_at m i) (m % 2 ^ i) (mod_less m i)
    ∙ (ap (λ (x : ℕ). x + count_ones (m % 2 ^ i)) (ones_bit (bit_at m i) (bit_at-lt m i)) ∙ omega arith)))

before_zero : (m : ℕ) → made_before m 0 ≡ 0
unfolding made_before
before_zero m = let e : m % 1 ≡ 0 = omega arith in ap count_ones e ∙ ones_bit 0 (omega arith)

-- what the bits below a bit come to, by the mask
pub before_some : (m i one : ℕ) → one ≡ 2 ^ i → count_ones (bit_and m (one - 1)) ≡ made_before m i
unfolding made_before
before_some m i one is = ap (λ (x : ℕ). count_ones (bit_and m (x - 1))) is ∙ ap count_ones (and_mask m i)

pub none_before : 0 ≡ made_before 0 64
unfolding made_before
none_before = sym (ones_bit 0 (omega arith))

-- no fewer before a later chunk
pub before_le : (m i j : ℕ) → i ≤ j → made_before m i ≤ made_before m j
before_le m i zero le = let e : i ≡ 0 = omega arith in rw e (omega arith)
before_le m i (suc j) le = elim (cases_eq i (suc j)) [
  | inl e ↦ rw e (omega arith)
  | inr apart ↦ omega (arith, before_suc m j, before_le m i j (omega arith))
]

-- and more where the chunk is made
pub before_less : (m i j : ℕ) → bit_at m i ≡ 1 → i < j → made_before m i < made_before m j
before_less m i j set less = omega (arith, before_suc m i, before_le m (suc i) j (omega arith))

-- bit i was set
module _ (m n i : ℕ) (was : bit_at m i ≡ 0) (is : bit_at n i ≡ 1) (others : (j : ℕ) → j ≢ i → bit_at n j ≡ bit_at m j) where
  pub before_low : (j : ℕ) → j ≤ i → made_before n j ≡ made_before m j
  before_low zero le = before_zero n ∙ sym (before_zero m)
  before_low (suc j) le = omega (arith, before_suc n j, before_suc m j, others j (λ e. omega arith), before_low j (omega arith))

  pub before_high : (j : ℕ) → i < j → made_before n j ≡ made_before m j + 1
  before_high zero less = absurd (omega arith)
  before_high (suc j) less = elim (cases_eq j i) [
    | inl same ↦ rw same (omega (arith, before_suc n i, before_suc m i, was, is, before_low i (omega arith)))
    | inr apart ↦ omega (arith, before_suc n j, before_suc m j, others j apart, before_high j (omega arith))
  ]

abbrev group : ℕ → List (List ℕ) → Grouped
group m chunks = record { made = m; chunks = chunks }

-- a chunk that is made, and one that isn't
pub chunk_there : (g : Grouped) (i : ℕ) → bit_at g.made i ≡ 1 → chunk_of g i ≡ get_or g.chunks (made_before g.made i) []
unfolding chunk_of
chunk_there g i set = ap (λ (b : Bool). cond b (get_or g.chunks (made_before g.made i) []) []) (eq-eqb (bit_at g.made i) 1 set)

pub chunk_missing : (g : Grouped) (i : ℕ) → bit_at g.made i ≡ 0 → chunk_of g i ≡ []
unfolding chunk_of
chunk_missing g i unset =
    ap (λ (b : Bool). cond b (get_or g.chunks (made_before g.made i) []) []) (ne_eqb (bit_at g.made i) 1 (λ e. omega (arith, e, unset)))

pub none_made : (i : ℕ) → chunk_of no_group i ≡ []
none_made i = chunk_missing no_group i (bit_at-zero i)

-- the first count of a chunk
pub first_count : (g : Grouped) (i at : ℕ) → bit_at g.made i ≡ 0 → 1 ≡ min (get_or (chunk_of g i) at 0 + 1) 4294967295
first_count g i at unset = ap (λ (xs : List ℕ). min (get_or xs at 0 + 1) 4294967295) (sym (chunk_missing g i unset))

-- a chunk that is made stands among those that are made
pub stands_at : (m : ℕ) (chunks : List (List ℕ)) (i p : ℕ) → bit_at m i ≡ 1 → p ≡ made_before m i → i < 64
    → length chunks ≡ made_before m 64 → IsPlace m (length chunks) i p
stands_at m chunks i p one stands within size =
    record { set = one; place = stands; within = omega (arith, before_less m i 64 one within, stands, size) }

-- a bit is set or it isn't
by_bit : (m j : ℕ) → (bit_at m j ≡ 1) ⊎ (bit_at m j ≡ 0)
by_bit m j = elim (cases_eq (bit_at m j) 1) [ inl one ↦ inl one | inr other ↦ inr (omega (arith, bit_at-lt m j, other)) ]

-- the chunks of one group are those of another at a chunk that isn't made in both, or stands in both
same_chunk : (m n : ℕ) (xs ys : List (List ℕ)) (j : ℕ) → bit_at n j ≡ bit_at m j
    → (bit_at m j ≡ 1 → get_or ys (made_before n j) [] ≡ get_or xs (made_before m j) []) → chunk_of (group n ys) j ≡ chunk_of (group m xs) j
same_chunk m n xs ys j bits there = elim (by_bit m j) [
  | inl set ↦ chunk_there (group n ys) j (bits ∙ set) ∙ (there set ∙ sym (chunk_there (group m xs) j set))
  | inr unset ↦ chunk_missing (group n ys) j (bits ∙ unset) ∙ sym (chunk_missing (group m xs) j unset)
]

-- what was read of a chunk that is made
pub chunk_read : (m : ℕ) (chunks : List (List ℕ)) (i place : ℕ) (was : List ℕ) → IsPlace m (length chunks) i place → was ≡ get_or chunks place was
    → chunk_of (group m chunks) i ≡ was
chunk_read m chunks i place was stands read =
    chunk_there (group m chunks) i stands.set ∙ (ap (λ (p : ℕ). get_or chunks p []) (sym stands.place) ∙ sym (read ∙ get_or_default chunks place was [] stands.within))

-- a number was put in a chunk that is made
pub puts_in_made : (m : ℕ) (chunks : List (List ℕ)) (i at number place : ℕ) (was is : List ℕ) → IsPlace m (length chunks) i place → was ≡ get_or chunks place was
    → PutsAt at number was is → PutsInGroup i at number (group m chunks) (group m (set chunks place is))
puts_in_made m chunks i at number place was is stands read puts =
    let had : chunk_of (group m chunks) i ≡ was = chunk_read m chunks i place was stands read in
    let has : chunk_of (group m (set chunks place is)) i ≡ is =
    chunk_there (group m (set chunks place is)) i stands.set
    ∙ (ap (λ (p : ℕ). get_or (set chunks place is) p []) (sym stands.place) ∙ get_or-set_same chunks place is [] stands.within) in
    record {
      put = rw (had, has) puts;
      others = λ j apart. same_chunk m m chunks (set chunks place is) j refl (λ set_j. get_or-set_other chunks place (made_before m j) is [] (λ same. elim (cases_lt i j) [
        | inl less ↦ omega (arith, before_less m i j stands.set less, same, stands.place)
        | inr past ↦ omega (arith, before_less m j i set_j (omega (arith, past, apart)), same, stands.place)
      ]));
    }

-- one more in a chunk that is made, unless there is no greater number
pub adds_in_made : (m : ℕ) (chunks : List (List ℕ)) (i at place : ℕ) (was is : List ℕ) → IsPlace m (length chunks) i place → was ≡ get_or chunks place was
    → PutsAt at (min (get_or was at 0 + 1) 4294967295) was is
    → PutsInGroup i at (min (get_or (chunk_of (group m chunks) i) at 0 + 1) 4294967295) (group m chunks) (group m (set chunks place is))
adds_in_made m chunks i at place was is stands read puts =
    subst (λ (numbers : List ℕ). PutsInGroup i at (min (get_or numbers at 0 + 1) 4294967295) (group m chunks) (group m (set chunks place is)))
    (sym (chunk_read m chunks i place was stands read)) (puts_in_made m chunks i at (min (get_or was at 0 + 1) 4294967295) place was is stands read puts)

-- bit i was set
abbrev with_bit : ℕ → ℕ → ℕ
with_bit m i = bit_or m (1 * 2 ^ i % 2 ^ 64)

-- a number was put in a chunk that was made for it
module _ (m : ℕ) (chunks new : List (List ℕ)) (i at number place : ℕ) (fresh is : List ℕ) (was : bit_at m i ≡ 0) (within : i < 64)
    (size : length chunks ≡ made_before m 64) (stands : place ≡ made_before m i) (inserted : new ≡ insert chunks place is) where
  set_i : bit_at (with_bit m i) i ≡ 1
  set_i = bit_at_set_same w64 m i within

  others : (j : ℕ) → j ≢ i → bit_at (with_bit m i) j ≡ bit_at m j
  others = bit_at_set_other w64 m i within

  low : (j : ℕ) → j ≤ i → made_before (with_bit m i) j ≡ made_before m j
  low = before_low m (with_bit m i) i was set_i others

  high : (j : ℕ) → i < j → made_before (with_bit m i) j ≡ made_before m j + 1
  high = before_high m (with_bit m i) i was set_i others

  room : place ≤ length chunks
  room = omega (arith, before_le m i 64 (omega arith), stands, size)

  pub puts_in_new : fresh ≡ [] → PutsAt at number fresh is → PutsInGroup i at number (group m chunks) (group (with_bit m i) new)
  puts_in_new none puts =
      let had : chunk_of (group m chunks) i ≡ fresh = chunk_missing (group m chunks) i was ∙ sym none in
      let has : chunk_of (group (with_bit m i) new) i ≡ is =
      chunk_there (group (with_bit m i) new) i set_i
      ∙ (ap (λ (xs : List (List ℕ)). get_or xs (made_before (with_bit m i) i) []) inserted
      ∙ (ap (λ (p : ℕ). get_or (insert chunks place is) p []) (low i (omega arith) ∙ sym stands)
      ∙ get_or-insert_at chunks place is [] room)) in
      record {
        put = rw (had, has) puts;
        others = λ j apart. same_chunk m (with_bit m i) chunks new j (others j apart) (λ set_j.
            ap (λ (xs : List (List ℕ)). get_or xs (made_before (with_bit m i) j) []) inserted
            ∙ elim (cases_lt i j) [
              | inl less ↦
                  ap (λ (p : ℕ). get_or (insert chunks place is) p []) (high j less)
                  ∙ get_or-insert_above chunks place is [] (made_before m j) (omega (arith, before_le m i j (omega arith), stands)) room
              | inr past ↦
                  ap (λ (p : ℕ). get_or (insert chunks place is) p []) (low j (omega arith))
                  ∙ get_or-insert_below chunks place is [] (made_before m j) (omega (arith, before_less m j i set_j (omega (arith, past, apart)), stands)) room
            ]);
      }

  -- and there is one chunk more
  pub one_more_made : length new ≡ made_before (with_bit m i) 64
  one_more_made = ap (length {A = List ℕ}) inserted ∙ (length-insert chunks place is room ∙ omega (arith, high 64 within, size))
