-- Blocks that are written one after another.
use Rattle.std.proofs.Common.{◌≡◌, ◌≤◌, ℕ, suc, ◌+◌, List, [], ◌∷◌, ◌++◌, length, map, take, drop, refl, sym, ◌∙◌, ap, arith, inl, inr, zero, ◌*◌, ◌/◌, ◌<◌, cond, nat_lt, get_or}
use Rattle.std.proofs.Math.Seq.{take-append_seam, drop-append_seam, take-length}
use Rattle.std.proofs.lemmas.List.{length-append, length-drop, length-map, take-append-drop, length-take-le, append-nil}
use Rattle.std.specs.List.{flat_map, AllByRecursion}
use Rattle.std.proofs.lemmas.Bool.{cases_lt, lt-ltb, le-ltb, cases_eq}
use Rattle.std.proofs.Math.Nat.{suc-mul, mul-suc, div-mul-le_self, lt-div-mul-add, mul-le-mul_right, mul_comm}
use Rattle.std.proofs.lemmas.Nat.{div-mul-add}
use Rattle.pd_kinds.specs.Layout.{Tree, tree_to}
use Rattle.pd_kinds.specs.Node.{Entry, leaf_block, inner_block}
use Rattle.pd_kinds.specs.Array.{array_block}
use Rattle.pd_laid.specs.Laid.{array_pieces, array_items, laid_words, laid_array, blocks_from, tree_blocks, tree_leaves, tree_inners, LaidBlock, Laid, IsLaid, written_from, tree_of, laid_blocks, laid_number, laid_leaf, laid_inner, laid_tree, even_parts}
use Rattle.pd_laid.specs.LaidThin.{device_leaves, device_inners, laid_device}
use Rattle.pd_laid.specs.Shape.{ShapeDevice}

-- each of them takes one block
pub length-blocks_from : {X : Type 0} (write : ℕ → X → List ℕ) (place : ℕ) (xs : List X) → length (blocks_from write place xs) ≡ length xs
unfolding blocks_from
length-blocks_from write place [] = refl
length-blocks_from write place (x ∷ xs) = ap suc (length-blocks_from write (place + 1) xs)

-- those of a list in two parts
pub blocks_from-append : {X : Type 0} (write : ℕ → X → List ℕ) (place : ℕ) (xs ys : List X)
    → blocks_from write place (xs ++ ys) ≡ blocks_from write place xs ++ blocks_from write (place + length xs) ys
unfolding blocks_from
blocks_from-append write place [] ys = ap (λ (p : ℕ). blocks_from write p ys) (omega arith)
blocks_from-append write place (x ∷ xs) ys =
    let next : place + 1 + length xs ≡ place + suc (length xs) = omega arith in
    let rest = blocks_from-append write (place + 1) xs ys in
    ap (λ (blocks : List (List ℕ)). write place x ∷ blocks)
    (rest ∙ ap (λ (p : ℕ). blocks_from write (place + 1) xs ++ blocks_from write p ys) next)

-- those of mapped elements
pub blocks_from-map : {X Y : Type 0} (write : ℕ → Y → List ℕ) (f : X → Y) (place : ℕ) (xs : List X)
    → blocks_from write place (map f xs) ≡ blocks_from (λ at x. write at (f x)) place xs
unfolding blocks_from
blocks_from-map write f place [] = refl
blocks_from-map write f place (x ∷ xs) = ap (λ (blocks : List (List ℕ)). write place (f x) ∷ blocks) (blocks_from-map write f (place + 1) xs)

-- those of mapped elements, and of others behind them
written_both : {X Y : Type 0} (f : X → LaidBlock) (g : Y → LaidBlock) (place : ℕ) (xs : List X) (ys : List Y)
    → written_from place (map f xs ++ map g ys)
    ≡ blocks_from (λ at x. (f x).written at) place xs ++ blocks_from (λ at y. (g y).written at) (place + length xs) ys
written_both f g place xs ys =
    let write = λ (at : ℕ) (b : LaidBlock). b.written at in
    let split = blocks_from-append write place (map f xs) (map g ys) in
    let below = blocks_from-map write f place xs in
    let above = blocks_from-map write g (place + length (map f xs)) ys in
    let number = length-map xs f in
    split ∙ rw (below, above, number) refl

-- a laid tree is written as the tree's blocks
pub tree_written : (role : ℕ) (t : Tree) (place : ℕ) (items : List Entry) → written_from place (laid_tree role t place items) ≡ tree_blocks t.size place items
unfolding laid_tree tree_blocks
tree_written role t place items = written_both (laid_leaf role t) (laid_inner role) place (tree_leaves t.size items) (tree_inners t.size place items)

-- a laid array as its words and the tree's blocks
pub array_written : (role size place : ℕ) (words : List ℕ)
    → written_from place (laid_array role size place words)
    ≡ blocks_from (array_block size) place (array_pieces size words)
    ++ tree_blocks 8 (place + length (array_pieces size words)) (array_items place (length (array_pieces size words)))
unfolding laid_array
array_written role size place words =
    let write = λ (at : ℕ) (b : LaidBlock). b.written at in
    let pieces = array_pieces size words in
    let behind = place + length pieces in
    let t = tree_of (tree_to 8 (role + 1) (λ v. v)) in
    let above = laid_tree role t behind (array_items place (length pieces)) in
    let split = blocks_from-append write place (map (laid_words (role + 1) size) pieces) above in
    let below = blocks_from-map write (laid_words (role + 1) size) place pieces in
    let number = length-map pieces (laid_words (role + 1) size) in
    split ∙ rw (below, number, tree_written role t behind (array_items place (length pieces))) refl

-- a laid device as its leaves and the inner nodes
pub device_written : (t : Tree) (leaves : List (List Entry)) (place : ℕ) (d : ShapeDevice)
    → written_from place (laid_device t leaves place d)
    ≡ blocks_from (leaf_block t.size) place (device_leaves d) ++ blocks_from inner_block (place + length (device_leaves d)) (device_inners leaves place d)
unfolding laid_device
device_written t leaves place d = written_both (laid_leaf 3 t) (laid_inner 3) place (device_leaves d) (device_inners leaves place d)

-- the blocks that are laid are as many as are counted
pub length-laid_blocks : (laid : Laid) → length (laid_blocks laid) ≡ laid_number laid
unfolding laid_blocks
length-laid_blocks laid = let number = length-blocks_from (λ at (b : LaidBlock). b.written at) 1 laid.blocks in omega (arith, number)

-- an image that has them laid is they, with the rest of the base
pub image_of_laid : (laid : Laid) (base image : List (List ℕ)) → IsLaid laid base image → image ≡ laid_blocks laid ++ drop (laid_number laid) base
image_of_laid laid base image is =
    sym (take-append-drop (laid_number laid) image)
    ∙ (ap (λ (blocks : List (List ℕ)). blocks ++ drop (laid_number laid) image) is.first
    ∙ ap (λ (blocks : List (List ℕ)). laid_blocks laid ++ blocks) is.rest)

-- and that image has them laid
pub laid_over : (laid : Laid) (base : List (List ℕ)) → laid_number laid ≤ length base → IsLaid laid base (laid_blocks laid ++ drop (laid_number laid) base)
laid_over laid base room =
    let blocks = laid_blocks laid in
    let rest = drop (laid_number laid) base in
    let number = length-laid_blocks laid in
    record {
      number = let whole = length-append blocks rest in let left = length-drop (laid_number laid) base in omega (arith, whole, left, number);
      first = ap (λ k. take k (blocks ++ rest)) (sym number) ∙ take-append_seam blocks rest;
      rest = ap (λ k. drop k (blocks ++ rest)) (sym number) ∙ drop-append_seam blocks rest;
    }

-- An even spread.

pub length-spread : {X : Type 0} (k : ℕ) (xs : List X) → length (even_parts k xs) ≡ k
unfolding even_parts
length-spread zero xs = refl
length-spread (suc k) xs = ap suc (length-spread k (drop ((length xs + k) / suc k) xs))

-- the size of the first part, where so many are left over
first_size : (n k q r : ℕ) → n ≡ q * suc k + r → r < suc k → (n + k) / suc k ≡ q + cond (nat_lt 0 r) 1 0
first_size n k q zero is below =
    let same : n + k ≡ q * suc k + k = omega arith in
    let whole : q + 0 ≡ q = omega arith in
    ap (λ (m : ℕ). m / suc k) same ∙ (div-mul-add q (suc k) k (omega arith) ∙ sym whole)
first_size n k q (suc r) is below =
    let more = suc-mul q (suc k) in
    let same : n + k ≡ suc q * suc k + r = omega arith in
    let whole : q + 1 ≡ suc q = omega arith in
    rw (lt-ltb 0 (suc r) (omega arith)) (ap (λ (m : ℕ). m / suc k) same ∙ (div-mul-add (suc q) (suc k) r (omega arith) ∙ sym whole))

-- a part isn't longer than the list
size_fits : (n k q r : ℕ) → n ≡ q * suc k + r → r < suc k → q + cond (nat_lt 0 r) 1 0 ≤ n
size_fits n k q zero is below = let more = mul-suc q k in omega arith
size_fits n k q (suc r) is below = let more = mul-suc q k in rw (lt-ltb 0 (suc r) (omega arith)) (omega arith)

next_less : (i r : ℕ) → nat_lt (suc i) (suc r) ≡ nat_lt i r
next_less i r = elim (cases_lt i r) [
  | inl less ↦ lt-ltb (suc i) (suc r) (omega arith) ∙ sym (lt-ltb i r less)
  | inr more ↦ le-ltb (suc i) (suc r) (omega arith) ∙ sym (le-ltb i r more)
]

-- the sizes of all parts
pub part_sizes : {X : Type 0} (k q r i : ℕ) (xs : List X) → length xs ≡ q * suc k + r → r < suc k → i < suc k
    → length (get_or (even_parts (suc k) xs) i []) ≡ q + cond (nat_lt i r) 1 0
unfolding even_parts
part_sizes k q r zero xs is below within =
    let size = first_size (length xs) k q r is below in
    let fits = size_fits (length xs) k q r is below in
    length-take-le ((length xs + k) / suc k) xs (rw size fits) ∙ size
part_sizes zero q r (suc i) xs is below within = absurd (omega arith)
part_sizes (suc k) q zero (suc i) xs is below within =
    let size = first_size (length xs) (suc k) q 0 is below in
    let rest = drop ((length xs + suc k) / suc (suc k)) xs in
    let more = mul-suc q (suc k) in
    let left : length rest ≡ q * suc k + 0 = let dropped = length-drop ((length xs + suc k) / suc (suc k)) xs in omega arith in
    rw (le-ltb (suc i) 0 (omega arith)) (rw (le-ltb i 0 (omega arith)) at (part_sizes k q 0 i rest left (omega arith) (omega arith)))
part_sizes (suc k) q (suc r) (suc i) xs is below within =
    let size = rw (lt-ltb 0 (suc r) (omega arith)) at (first_size (length xs) (suc k) q (suc r) is below) in
    let rest = drop ((length xs + suc k) / suc (suc k)) xs in
    let more = mul-suc q (suc k) in
    let left : length rest ≡ q * suc k + r = let dropped = length-drop ((length xs + suc k) / suc (suc k)) xs in omega arith in
    rw (next_less i r) (part_sizes k q r i rest left (omega arith) (omega arith))

-- the parts joined are the list
pub joined_spread : {X : Type 0} (k : ℕ) (xs : List X) → flat_map (λ (part : List X). part) (even_parts (suc k) xs) ≡ xs
unfolding even_parts
joined_spread zero xs =
    let size : (length xs + 0) / 1 ≡ length xs = first_size (length xs) 0 (length xs) 0 (omega arith) (omega arith) ∙ omega arith in
    append-nil (take ((length xs + 0) / 1) xs) ∙ (ap (λ (n : ℕ). take n xs) size ∙ take-length xs)
joined_spread {X} (suc k) xs =
    let size = (length xs + suc k) / suc (suc k) in
    ap (λ (rest : List X). take size xs ++ rest) (joined_spread k (drop size xs)) ∙ take-append-drop size xs

-- A list spread over nodes: no part is empty, and none has more than there is room.

-- the size of the first part
pub record IsFirstOf (n k c : ℕ) : Type 0 where
  pub enough : n ≤ c * k + c
  pub few : c * k + c ≤ n + k
  pub within : c ≤ n

pub first_of : (n k : ℕ) → IsFirstOf n k ((n + k) / suc k)
first_of n k =
    let c = (n + k) / suc k in
    let below : c * suc k ≤ n + k = div-mul-le_self (n + k) (suc k) in
    let above : n + k < c * suc k + suc k = lt-div-mul-add (omega arith) in
    let split : c * suc k ≡ c * k + c = mul-suc c k in
    record {
      enough = omega arith;
      few = omega arith;
      within = elim (cases_eq c 0) [
        | inl none ↦ omega arith
        | inr some ↦ let more : 1 * k ≤ c * k = mul-le-mul_right k (omega arith) in omega arith
      ];
    }

module _ {X : Type 0} where
  -- none is empty where there are as many elements
  pub spread_some : (k : ℕ) (xs : List X) → k ≤ length xs → AllByRecursion (λ (part : List X). 1 ≤ length part) (even_parts k xs)
  unfolding even_parts
  spread_some zero xs many = tt
  spread_some (suc k) xs many =
      let c = (length xs + k) / suc k in
      let first = first_of (length xs) k in
      let some : 1 ≤ c = elim (cases_eq c 0) [
        | inl none ↦ absurd (let e : c * k ≡ 0 * k = ap (λ (m : ℕ). m * k) none in omega (arith, first.enough))
        | inr some ↦ omega arith
      ] in
      let rest : c + k ≤ length xs = elim (cases_eq c 1) [
        | inl one ↦ omega arith
        | inr more ↦ let twice : 2 * k ≤ c * k = mul-le-mul_right k (omega arith) in omega (arith, first.few)
      ] in
      let taken = length-take-le c xs first.within in
      let left = length-drop c xs in
      (omega arith, spread_some k (drop c xs) (omega arith))

  -- none has more than there is room, where there are nodes enough
  pub spread_most : (most k : ℕ) (xs : List X) → length xs ≤ k * most → AllByRecursion (λ (part : List X). length part ≤ most) (even_parts k xs)
  unfolding even_parts
  spread_most most zero xs few = tt
  spread_most most (suc k) xs few =
      let c = (length xs + k) / suc k in
      let first = first_of (length xs) k in
      let whole : suc k * most ≡ k * most + most = suc-mul k most in
      let small : c ≤ most = elim (cases_lt most c) [
        | inl more ↦
            let scaled : suc most * k ≤ c * k = mul-le-mul_right k more in
            let split : suc most * k ≡ most * k + k = suc-mul most k in
            let swap = mul_comm most k in
            absurd (omega (arith, first.few))
        | inr small ↦ small
      ] in
      let scaled : c * k ≤ most * k = mul-le-mul_right k small in
      let swap = mul_comm most k in
      let taken = length-take-le c xs first.within in
      let left = length-drop c xs in
      (omega arith, spread_most most k (drop c xs) (omega (arith, first.enough)))
