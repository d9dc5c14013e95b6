-- What the shape of a node says of where its entries lie.
use Rattle.std.proofs.Common.{◌≡◌, ℕ, suc, ◌+◌, ◌-◌, ◌*◌, ◌<◌, ◌≤◌, false, cond, List, arith, inl, inr, zero, Bool, true, ◌&&◌, ltb, [], ◌∷◌, length, map, get_or, refl, ap, sym, ◌∙◌}
use Rattle.std.proofs.Math.Nat.{mul-add, mul-le-mul_left, mul_comm, mul-suc}
use Rattle.std.proofs.lemmas.Bool.Decides.{nat_tests}
use Rattle.std.proofs.lemmas.Bool.{cases_lt, and_parts, cases_eq, ltb-true, lt-ltb}
use Rattle.std.specs.List.{range_with_len}
use Rattle.std.proofs.Math.Bool.{and_assoc, and-true}
use Rattle.pd_kinds.specs.Node.{entry_count, is_shape_bad, is_inner_node, node_entries, node_max, node_value_size, is_ascending}

-- what a shape that isn't bad says of the header
pub record IsShaped (size : ℕ) (block : List ℕ) : Type 0 where
  pub value_size : node_value_size block ≡ cond (is_inner_node block) 8 size
  pub entries : node_entries block ≤ node_max block
  pub room : 32 + node_max block * (8 + node_value_size block) ≤ 4096

pub shape_says : (size : ℕ) (block : List ℕ) → is_shape_bad size block ≡ false → IsShaped size block
unfolding is_shape_bad
shape_says size block good = record {
  value_size = grind (arith, nat_tests);
  entries = grind (arith, nat_tests);
  room = grind (arith, nat_tests);
}

-- an entry's value ends within the block
pub value_room : (max size i : ℕ) → 32 + max * (8 + size) ≤ 4096 → i < max → 32 + 8 * max + size * i + size ≤ 4096
value_room max size i room within =
    let more : size * suc i ≤ size * max = mul-le-mul_left size within in
    let next : size * suc i ≡ size * i + size = mul-suc size i in
    let parts : max * (8 + size) ≡ max * 8 + max * size = mul-add max 8 size in
    let swap = mul_comm max size in
    omega arith

-- an entry of a node is one of those that have room
pub entry_says : (size : ℕ) (block : List ℕ) (i : ℕ) → i < entry_count size block → (is_shape_bad size block ≡ false) × (i < node_entries block)
unfolding entry_count
entry_says size block i within = (grind arith, grind arith)

-- the keys of the entries lie within the block
pub keys_room : (size : ℕ) (block : List ℕ) → 32 + 8 * entry_count size block ≤ 4096
keys_room size block = elim (cases_lt 0 (entry_count size block)) [
  | inr none ↦ omega arith
  | inl some ↦
      let last = entry_says size block (entry_count size block - 1) (omega arith) in
      let shape = shape_says size block last.0 in
      let parts : node_max block * (8 + node_value_size block) ≡ node_max block * 8 + node_max block * node_value_size block = mul-add (node_max block) 8 (node_value_size block) in
      let room = shape.room in
      let within = shape.entries in
      omega arith
]

-- Keys that ascend: the loop over neighbours, and each key against all later ones.

-- one number more of a row ascends if the row does and its last number is below it
ascending_row : (f : ℕ → ℕ) (a n : ℕ)
    → is_ascending (map f (range_with_len a (suc (suc n)))) ≡ (is_ascending (map f (range_with_len a (suc n))) && ltb (f (a + n)) (f (a + suc n)))
unfolding is_ascending
ascending_row f a zero =
    let here : a + 0 ≡ a = omega arith in
    let next : a + 1 ≡ a + suc 0 = refl in
    rw here (and-true (ltb (f a) (f (a + 1))))
ascending_row f a (suc n) =
    let last : a + 1 + n ≡ a + suc n = omega arith in
    let new : a + 1 + suc n ≡ a + suc (suc n) = omega arith in
    let first = ltb (f a) (f (a + 1)) in
    let row = is_ascending (map f (range_with_len (a + 1) (suc n))) in
    let later = rw (last, new) at (ascending_row f (a + 1) n) in
    ap (λ (rest : Bool). first && rest) later ∙ sym (and_assoc first row (ltb (f (a + suc n)) (f (a + suc (suc n)))))

-- the same for the row from 0 on, as a loop's step
pub ascending_more : (f : ℕ → ℕ) (i : ℕ) → 1 ≤ i
    → is_ascending (map f (range_with_len 0 (i + 1))) ≡ (is_ascending (map f (range_with_len 0 i)) && ltb (f (i - 1)) (f i))
ascending_more f zero some = absurd (omega arith)
ascending_more f (suc n) some =
    let count : suc n + 1 ≡ suc (suc n) = omega arith in
    let last : suc n - 1 ≡ 0 + n = omega arith in
    let new : 0 + suc n ≡ suc n = omega arith in
    rw (count, last, ← new) (ascending_row f 0 n)

-- each is below the next one
ascending_next : (xs : List ℕ) (i : ℕ) → is_ascending xs ≡ true → suc i < length xs → get_or xs i 0 < get_or xs (suc i) 0
unfolding is_ascending
ascending_next [] i ascend within = absurd (omega arith)
ascending_next (x ∷ []) i ascend within = absurd (omega arith)
ascending_next (x ∷ y ∷ rest) zero ascend within = ltb-true x y (and_parts (ltb x y) (is_ascending (y ∷ rest)) ascend).0
ascending_next (x ∷ y ∷ rest) (suc i) ascend within = ascending_next (y ∷ rest) i (and_parts (ltb x y) (is_ascending (y ∷ rest)) ascend).1 (omega arith)

-- each is below all later ones
pub ascending_pairs : (xs : List ℕ) (i j : ℕ) → is_ascending xs ≡ true → i < j → j < length xs → get_or xs i 0 < get_or xs j 0
ascending_pairs xs i zero ascend before within = absurd (omega arith)
ascending_pairs xs i (suc j) ascend before within =
    let next = ascending_next xs j ascend within in
    elim (cases_eq i j) [ inl same ↦ rw same next | inr other ↦ omega (arith, ascending_pairs xs i j ascend (omega arith) (omega arith)) ]

-- where each is below the next one they ascend
pub ascending_from : (xs : List ℕ) → ((i : ℕ) → suc i < length xs → get_or xs i 0 < get_or xs (suc i) 0) → is_ascending xs ≡ true
unfolding is_ascending
ascending_from [] below = refl
ascending_from (x ∷ []) below = refl
ascending_from (x ∷ y ∷ rest) below =
    let first = below 0 (omega arith) in
    let others = ascending_from (y ∷ rest) (λ i h. below (suc i) (omega arith)) in
    rw (others, lt-ltb x y first) refl
