-- The bytes of blocks that are written, and of those that are made alike.
use Rattle.std.proofs.Common.{◌≡◌, ℕ, zero, suc, List, [], ◌∷◌, set, replicate, refl, ap}
use Rattle.std.specs.Prelude.{slice_get}
use Rattle.std.proofs.lemmas.List.{map-set, length-set}
use Rattle.pd_kinds.specs.declared.block.Block.{Block}
use Rattle.pd_image.specs.Device.{MayChange}
use Rattle.pd_image.specs.Step.{block_bytes}

-- the bytes of the blocks, where one was written
pub block_bytes-set : (blocks : List Block) (b : ℕ) (block : Block)
    → block_bytes (set blocks b block) ≡ set (block_bytes blocks) b block.0
block_bytes-set blocks b block = map-set (λ (block : Block). block.0) blocks b block

-- a write changes no other element
pub slice_get-set_other : {X : Type 0} → (xs : List X) (b c : ℕ) (x : X) → (c ≡ b → ⊥) → slice_get (set xs b x) c ≡ slice_get xs c
slice_get-set_other {X} [] b c x other = refl
slice_get-set_other {X} (y ∷ ys) zero zero x other = absurd (other refl)
slice_get-set_other {X} (y ∷ ys) zero (suc c) x other = refl
slice_get-set_other {X} (y ∷ ys) (suc b) zero x other = refl
slice_get-set_other {X} (y ∷ ys) (suc b) (suc c) x other = slice_get-set_other ys b c x (λ same. other (ap suc same))

-- a write changes one block and no other
pub changes_one : (image : List (List ℕ)) (b : ℕ) (bytes : List ℕ) → MayChange b image (set image b bytes)
changes_one image b bytes = record {
  number = length-set image b bytes;
  others = λ c other. slice_get-set_other image b c bytes other;
}

-- the bytes of blocks that are all alike
pub block_bytes-replicate : (n : ℕ) (block : Block) → block_bytes (replicate n block) ≡ replicate n block.0
block_bytes-replicate zero block = refl
block_bytes-replicate (suc n) block = ap (λ (blocks : List (List ℕ)). block.0 ∷ blocks) (block_bytes-replicate n block)
