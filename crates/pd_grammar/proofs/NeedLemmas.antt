-- Needs grow with what is needed for.
use Rattle.std.proofs.Common.{◌≡◌, inl, inr, ℕ, zero, suc, ◌+◌, ◌-◌, ◌/◌, ◌≤◌, ◌<◌, Bool, true, max, List, [], ◌∷◌, length, refl, arith, eqb, ltb, leb, if◌then◌else◌, ◌*◌, ◌^◌, false, ap}
use Rattle.std.proofs.lemmas.Bool.{cases_Bool}
use Rattle.std.proofs.lemmas.Bool.Decides.{nat_tests, Decides-ltb}
use Rattle.std.proofs.lemmas.Nat.{le-div}
use Rattle.std.proofs.Math.Nat.{div-mul-le_self}
use Rattle.std.proofs.lemmas.List.Sums.{sum_by-cons}
use Rattle.std.specs.List.{count_by, sum_by, range_with_len}
use Rattle.pd_kinds.specs.Node.{max_entries}
use Rattle.pd_grammar.specs.Need.{nodes_for, need_above, nodes_of_tree, need_tree, overflows_in, need_of_devices}

div-le : (a b k : ℕ) → 0 < k → a ≤ b → a / k ≤ b / k
div-le a b k some at_most = le-div (a / k) b k some (omega (arith, div-mul-le_self a k, at_most))

pub nodes_for-le : (most a b : ℕ) → 0 < most → a ≤ b → nodes_for most a ≤ nodes_for most b
nodes_for-le most a b some at_most = div-le (a + (most - 1)) (b + (most - 1)) most some (omega (arith, at_most))

below_two : (a b : ℕ) → a ≤ b → ltb 1 a ≡ true → ltb 1 b ≡ true
below_two a b at_most e = grind (arith, nat_tests)

pub need_above-le : (levels a b : ℕ) → a ≤ b → need_above levels a ≤ need_above levels b
unfolding need_above
need_above-le zero a b at_most = omega arith
need_above-le (suc levels) a b at_most = elim (cases_Bool (ltb 1 a)) [
  | inl some ↦
      let next = nodes_for-le 252 a b (omega arith) at_most in
      rw (some, below_two a b at_most some) (omega (arith, next, need_above-le levels (nodes_for 252 a) (nodes_for 252 b) next))
  | inr none ↦ rw none (omega arith)
]

nodes_of_tree-le : (most a b : ℕ) → 0 < most → a ≤ b → nodes_of_tree most a ≤ nodes_of_tree most b
unfolding nodes_of_tree
nodes_of_tree-le most a b some at_most =
    let nodes = nodes_for-le most a b some at_most in
    let leaves : max 1 (nodes_for most a) ≤ max 1 (nodes_for most b) = omega (arith, nodes) in
    omega (arith, leaves, need_above-le 10 (max 1 (nodes_for most a)) (max 1 (nodes_for most b)) leaves)

pub need_tree-le : (size a b : ℕ) → 0 < max_entries size → a ≤ b → need_tree size a ≤ need_tree size b
need_tree-le size a b some at_most = nodes_of_tree-le (max_entries size) a b some at_most

-- a count of fewer
pub count_by-weaker : {X : Type 0} → (p q : X → Bool) → ((x : X) → p x ≡ true → q x ≡ true) → (xs : List X) → count_by p xs ≤ count_by q xs
count_by-weaker p q follows [] = omega arith
count_by-weaker p q follows (x ∷ xs) = elim (cases_Bool (p x)) [
  | inl passes ↦ rw (sum_by-cons (λ y. if p y then 1 else 0) x xs, sum_by-cons (λ y. if q y then 1 else 0) x xs, passes, follows x passes) (omega (arith, count_by-weaker p q follows xs))
  | inr fails ↦ rw (sum_by-cons (λ y. if p y then 1 else 0) x xs, sum_by-cons (λ y. if q y then 1 else 0) x xs, fails) (omega (arith, count_by-weaker p q follows xs))
]

-- how often a number stands in a list
abbrev pub count_of : ℕ → List ℕ → ℕ
count_of d blocks = count_by (λ b. eqb b d) blocks

thrice : (a b : ℕ) → a ≤ b → leb 3 a ≡ true → leb 3 b ≡ true
thrice a b at_most e = grind (arith, nat_tests)

pub overflows-le : (xs ys : List ℕ) (data_blocks : ℕ) → ((d : ℕ) → count_of d xs ≤ count_of d ys) → overflows_in xs data_blocks ≤ overflows_in ys data_blocks
unfolding overflows_in
overflows-le xs ys data_blocks fewer =
    count_by-weaker (λ d. leb 3 (count_of d xs)) (λ d. leb 3 (count_of d ys)) (λ d e. thrice (count_of d xs) (count_of d ys) (fewer d) e) (range_with_len 0 data_blocks)

pub overflows-same : (xs ys : List ℕ) (data_blocks : ℕ) → ((d : ℕ) → count_of d xs ≡ count_of d ys) → overflows_in xs data_blocks ≡ overflows_in ys data_blocks
overflows-same xs ys data_blocks same =
    omega (arith, overflows-le xs ys data_blocks (λ d. omega (arith, same d)), overflows-le ys xs data_blocks (λ d. omega (arith, same d)))

-- the nodes of the devices' trees
abbrev pub trees_of : List ℕ → ℕ
trees_of mapped = sum_by (need_tree 8) mapped

pub devices-le : (xs ys : List ℕ) (data_blocks a b room : ℕ) → trees_of xs ≤ trees_of ys → length xs ≤ length ys → a ≤ b
    → need_of_devices xs data_blocks a room ≤ need_of_devices ys data_blocks b room
unfolding need_of_devices
devices-le xs ys data_blocks a b room trees number overflows =
    omega (arith, trees, need_tree-le 8 (length xs) (length ys) (omega arith) number, need_tree-le 24 (length xs) (length ys) (omega arith) number, need_tree-le 4 a b (omega arith) overflows)

pub devices-same : (xs ys : List ℕ) (data_blocks a b room : ℕ) → trees_of xs ≡ trees_of ys → length xs ≡ length ys → a ≡ b
    → need_of_devices xs data_blocks a room ≡ need_of_devices ys data_blocks b room
unfolding need_of_devices
devices-same xs ys data_blocks a b room trees number overflows = rw (trees, number, overflows) refl

-- Ten levels are enough.

above_fewer : (m n : ℕ) → n ≤ 252 * m → nodes_for 252 n ≤ m
above_fewer m n most = omega (arith, most)

power_more : (k : ℕ) → 252 ^ suc k ≡ 252 * 252 ^ k
power_more k = omega arith

-- a level more changes nothing where so many levels are enough
enough : (k n : ℕ) → n ≤ 252 ^ k → need_above k n ≡ need_above (suc k) n
unfolding need_above
enough zero n most =
    let none : ltb 1 n ≡ false = grind (arith, nat_tests, most) in
    rw none refl
enough (suc k) n most = elim (cases_Bool (ltb 1 n)) [
  | inl some ↦ rw some (ap (λ (x : ℕ). nodes_for 252 n + x) (enough k (nodes_for 252 n) (above_fewer (252 ^ k) n (omega (arith, most, power_more k)))))
  | inr none ↦ rw none refl
]

pub none_above_one : (nodes : ℕ) → nodes ≤ 1 → need_above 10 nodes ≡ 0
unfolding need_above
none_above_one nodes most =
    let none : ltb 1 nodes ≡ false = grind (arith, nat_tests, most) in
    rw none refl

few : (n : ℕ) → n < 2 ^ 64 → nodes_for 252 n ≤ 252 ^ 9
few n fits = omega (arith, fits)

pub one_level_more : (nodes : ℕ) → 1 < nodes → nodes < 2 ^ 64 → need_above 10 nodes ≡ nodes_for 252 nodes + need_above 10 (nodes_for 252 nodes)
unfolding need_above
one_level_more nodes some fits =
    let test : ltb 1 nodes ≡ true = (Decides-ltb 1 nodes).1 some in
    rw test (ap (λ (x : ℕ). nodes_for 252 nodes + x) (enough 9 (nodes_for 252 nodes) (few nodes fits)))
