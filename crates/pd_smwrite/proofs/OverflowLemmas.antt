-- The counts that two bits don't hold, one after another.
use Rattle.std.proofs.Common.{◌≡◌, ◌⊎◌, inl, inr, ⊎_elim, ℕ, zero, suc, ◌+◌, ◌-◌, ◌<◌, ◌≤◌, true, not, nat_lt, List, [], ◌∷◌, map, filter, refl, sym, ◌∙◌, ap, subst, arith, ◌*◌, get_or}
use Rattle.std.specs.List.{range_with_len}
use Rattle.std.proofs.lemmas.Bool.{cases_lt, lt-ltb, le-ltb, and_from}
use Rattle.pd_kinds.specs.Node.{Entry, is_ascending}
use Rattle.pd_laid.specs.Laid.{overflow_items}
use Rattle.pd_draft.specs.Closed.{DraftState}
use Rattle.pd_count.specs.Counted.{Counted, count_of, IsChunk, IsUncounted}
use Rattle.pd_build.specs.Building.{IsBuilding}
use Rattle.pd_build.specs.Tree.{TreeLeft}

-- those of k blocks from block i on
unfoldable pub items_from : (ℕ → ℕ) → ℕ → ℕ → List Entry
items_from counts i k = map (λ (b : ℕ). record { key = b; value = counts b }) (filter (λ b. not (nat_lt (counts b) 3)) (range_with_len i k))

pub items_all : (counts : ℕ → ℕ) (n : ℕ) → items_from counts 0 n ≡ overflow_items counts n
unfolding items_from overflow_items
items_all counts n = refl

items_low : (counts : ℕ → ℕ) (i k : ℕ) → counts i < 3 → items_from counts i (suc k) ≡ items_from counts (i + 1) k
unfolding items_from
items_low counts i k low = rw (lt-ltb (counts i) 3 low) refl

items_high : (counts : ℕ → ℕ) (i k : ℕ) → 3 ≤ counts i → items_from counts i (suc k) ≡ record { key = i; value = counts i } ∷ items_from counts (i + 1) k
unfolding items_from
items_high counts i k high = rw (le-ltb (counts i) 3 high) refl

items_none : (counts : ℕ → ℕ) (i : ℕ) → items_from counts i 0 ≡ []
unfolding items_from
items_none counts i = refl

-- the keys from a block on ascend
below_first : (counts : ℕ → ℕ) (a i k : ℕ) → a < i → is_ascending (map (λ (e : Entry). e.key) (items_from counts i k)) ≡ true
    → is_ascending (a ∷ map (λ (e : Entry). e.key) (items_from counts i k)) ≡ true
unfolding is_ascending
below_first counts a i zero less asc = rw (items_none counts i) refl
below_first counts a i (suc k) less asc = elim (cases_lt (counts i) 3) [
  | inl low ↦ rw (items_low counts i k low) (below_first counts a (i + 1) k (omega arith) (rw (items_low counts i k low) at asc))
  | inr high ↦ rw (items_high counts i k high) (and_from (nat_lt a i) _ (lt-ltb a i less) (rw (items_high counts i k high) at asc))
]

items_ascend : (counts : ℕ → ℕ) (i k : ℕ) → is_ascending (map (λ (e : Entry). e.key) (items_from counts i k)) ≡ true
unfolding is_ascending
items_ascend counts i zero = rw (items_none counts i) refl
items_ascend counts i (suc k) = elim (cases_lt (counts i) 3) [
  | inl low ↦ rw (items_low counts i k low) (items_ascend counts (i + 1) k)
  | inr high ↦ rw (items_high counts i k high) (below_first counts i (i + 1) k (omega arith) (items_ascend counts (i + 1) k))
]

pub overflow_ascends : (counts : ℕ → ℕ) (n : ℕ) → is_ascending (map (λ (e : Entry). e.key) (overflow_items counts n)) ≡ true
overflow_ascends counts n = rw (← items_all counts n) (items_ascend counts 0 n)

-- blocks without one are passed over
passed : (counts : ℕ → ℕ) (i d k : ℕ) → ((b : ℕ) → i ≤ b → b < i + d → counts b < 3) → items_from counts i (d + k) ≡ items_from counts (i + d) k
passed counts i zero k low =
    let at : i + 0 ≡ i = omega arith in let size : 0 + k ≡ k = omega arith in rw (at, size) refl
passed counts i (suc d) k low =
    let size : suc d + k ≡ suc (d + k) = omega arith in
    let at : i + 1 + d ≡ i + suc d = omega arith in
    ap (items_from counts i) size
    ∙ (items_low counts i (d + k) (low i (omega arith) (omega arith))
    ∙ (passed counts (i + 1) d k (λ b from below. low b (omega arith) (omega arith)) ∙ ap (λ (a : ℕ). items_from counts a k) at))

pub items_pass : (counts : ℕ → ℕ) (n i j : ℕ) → i ≤ j → j ≤ n → ((b : ℕ) → i ≤ b → b < j → counts b < 3)
    → items_from counts i (n - i) ≡ items_from counts j (n - j)
items_pass counts n i j above within low =
    let size : n - i ≡ (j - i) + (n - j) = omega arith in
    let at : i + (j - i) ≡ j = omega arith in
    ap (items_from counts i) size
    ∙ (passed counts i (j - i) (n - j) (λ b from below. low b from (omega arith)) ∙ ap (λ (a : ℕ). items_from counts a (n - j)) at)

-- all of them, from the first one on
pub items_start : (counts : ℕ → ℕ) (n j : ℕ) → j ≤ n → ((b : ℕ) → 0 ≤ b → b < j → counts b < 3) → overflow_items counts n ≡ items_from counts j (n - j)
items_start counts n j within low =
    let all : n - 0 ≡ n = omega arith in
    sym (ap (items_from counts 0) all ∙ items_all counts n) ∙ items_pass counts n 0 j (omega arith) within low

-- the one at a block, and those behind it from the next one on
pub items_next : (counts : ℕ → ℕ) (n i j : ℕ) → i < n → 3 ≤ counts i → i + 1 ≤ j → j ≤ n → ((b : ℕ) → i + 1 ≤ b → b < j → counts b < 3)
    → items_from counts i (n - i) ≡ record { key = i; value = counts i } ∷ items_from counts j (n - j)
items_next counts n i j less high above within low =
    let size : n - i ≡ suc (n - (i + 1)) = omega arith in
    ap (items_from counts i) size
    ∙ (items_high counts i (n - (i + 1)) high ∙ ap (λ (rest : List Entry). record { key = i; value = counts i } ∷ rest) (items_pass counts n (i + 1) j above within low))

pub items_end : (counts : ℕ → ℕ) (n i : ℕ) → n ≤ i → items_from counts i (n - i) ≡ []
items_end counts n i past = let none : n - i ≡ 0 = omega arith in rw none (items_none counts i)

-- counts that agree but where both are below 3
agree : (f g : ℕ → ℕ) (i k : ℕ) → ((b : ℕ) → i ≤ b → b < i + k → (f b ≡ g b) ⊎ ((f b < 3) × (g b < 3))) → items_from f i k ≡ items_from g i k
agree f g i zero same = items_none f i ∙ sym (items_none g i)
agree f g i (suc k) same =
    let rest = agree f g (i + 1) k (λ b from below. same b (omega arith) (omega arith)) in
    let both_low : f i < 3 → g i < 3 → items_from f i (suc k) ≡ items_from g i (suc k) =
    λ first second. items_low f i k first ∙ (rest ∙ sym (items_low g i k second)) in
    ⊎_elim
    (λ is. elim (cases_lt (f i) 3) [
      | inl low ↦ both_low low (omega arith)
      | inr high ↦
          items_high f i k high
          ∙ (ap (λ (v : ℕ). record { key = i; value = v } ∷ items_from f (i + 1) k) is
          ∙ (ap (λ (rest : List Entry). record { key = i; value = g i } ∷ rest) rest ∙ sym (items_high g i k (omega arith))))
    ])
    (λ low. both_low low.0 low.1)
    (same i (omega arith) (omega arith))

pub overflow_agrees : (f g : ℕ → ℕ) (n : ℕ) → ((b : ℕ) → b < n → (f b ≡ g b) ⊎ ((f b < 3) × (g b < 3))) → overflow_items f n ≡ overflow_items g n
overflow_agrees f g n same = sym (items_all f n) ∙ (agree f g 0 n (λ b from below. same b (omega arith)) ∙ items_all g n)

-- a tree of them, one after another
pub building_here : {all : List Entry} {t : TreeLeft} {from to : DraftState} (counts : ℕ → ℕ) (n i v : ℕ) → IsBuilding 4 all (items_from counts i (n - i)) t from to
    → i < n → 3 ≤ counts i → v ≡ counts i → IsBuilding 4 all (record { key = i; value = v } ∷ items_from counts (i + 1) (n - (i + 1))) t from to
building_here {all} {t} {from} {to} counts n i v b less high is =
    let size : n - i ≡ suc (n - (i + 1)) = omega arith in
    subst (λ (rest : List Entry). IsBuilding 4 all rest t from to)
    (ap (items_from counts i) size
    ∙ (items_high counts i (n - (i + 1)) high ∙ ap (λ (v : ℕ). record { key = i; value = v } ∷ items_from counts (i + 1) (n - (i + 1))) (sym is))) b

pub building_pass : {all : List Entry} {t : TreeLeft} {from to : DraftState} (counts : ℕ → ℕ) (n i j : ℕ) → IsBuilding 4 all (items_from counts i (n - i)) t from to
    → i ≤ j → j ≤ n → ((b : ℕ) → i ≤ b → b < j → counts b < 3) → IsBuilding 4 all (items_from counts j (n - j)) t from to
building_pass {all} {t} {from} {to} counts n i j b above within low =
    subst (λ (rest : List Entry). IsBuilding 4 all rest t from to) (items_pass counts n i j above within low) b

pub building_done : {all : List Entry} {t : TreeLeft} {from to : DraftState} (counts : ℕ → ℕ) (n i : ℕ) → IsBuilding 4 all (items_from counts i (n - i)) t from to
    → n ≤ i → IsBuilding 4 all [] t from to
building_done {all} {t} {from} {to} counts n i b past =
    subst (λ (rest : List Entry). IsBuilding 4 all rest t from to) (items_end counts n i past) b

-- The search for a count of 3 or more.

-- in a chunk
module _ (counts : Counted) (i start : ℕ) (from : 16320 * i ≤ start) where
  pub none_low : IsUncounted counts i → (b : ℕ) → start ≤ b → b < 16320 * i + 16320 → count_of counts b < 3
  none_low none b above below =
      let split : 16320 * i + (b - 16320 * i) ≡ b = omega arith in
      let is : count_of counts b ≡ 0 = ap (count_of counts) (sym split) ∙ none (b - 16320 * i) (omega arith) in
      omega arith

  module _ (numbers : List ℕ) (chunk : IsChunk counts i numbers) where
    counted_at : (b : ℕ) → start ≤ b → b < 16320 * i + 16320 → get_or numbers (b - 16320 * i) 0 ≡ count_of counts b
    counted_at b above below =
        let split : 16320 * i + (b - 16320 * i) ≡ b = omega arith in
        chunk.counted (b - 16320 * i) (omega arith) ∙ ap (count_of counts) split

    pub chunk_low : ((k : ℕ) → start - i * 16320 ≤ k → get_or numbers k 0 < 3)
        → (b : ℕ) → start ≤ b → b < 16320 * i + 16320 → count_of counts b < 3
    chunk_low low b above below =
        let is = counted_at b above below in
        let less = low (b - 16320 * i) (omega arith) in
        omega arith

    pub chunk_high : (at : ℕ) → ((b : ℕ) → counts.size ≤ b → count_of counts b ≡ 0)
        → (start - i * 16320 ≤ at) × ((at < 16320) × ((3 ≤ get_or numbers at 0) × ((k : ℕ) → start - i * 16320 ≤ k → k < at → get_or numbers k 0 < 3)))
        → (start ≤ i * 16320 + at) × ((i * 16320 + at < counts.size) × ((3 ≤ count_of counts (i * 16320 + at))
        × ((b : ℕ) → start ≤ b → b < i * 16320 + at → count_of counts b < 3)))
    chunk_high at past found =
        let above = found.0 in
        let less = found.1.0 in
        let some = found.1.1.0 in
        let here : 16320 * i + at ≡ i * 16320 + at = omega arith in
        let is : get_or numbers at 0 ≡ count_of counts (i * 16320 + at) = chunk.counted at (omega arith) ∙ ap (count_of counts) here in
        let high : 3 ≤ count_of counts (i * 16320 + at) = omega arith in
        let within : i * 16320 + at < counts.size = elim (cases_lt (i * 16320 + at) counts.size) [
          | inl inside ↦ inside
          | inr outside ↦ let none = past (i * 16320 + at) outside in absurd (omega arith)
        ] in (
          omega arith,
          (
            within,
            (
              high,
              λ b behind below.
                  let same = counted_at b behind (omega arith) in
                  let low = found.1.1.1 (b - 16320 * i) (omega arith) (omega arith) in
                  omega arith,
            ),
          ),
        )
