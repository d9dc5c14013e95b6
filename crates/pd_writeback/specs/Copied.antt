-- What the copying of blocks from one device to another leaves.
-- What is said of the origin while hot blocks are copied to it.
-- What the marking of a cache's metadata leaves, and when there is nothing to mark.
use Rattle.std.specs.Prelude.{◌≡◌, ◌⊎◌, ℕ, ◌+◌, ◌<◌, ◌≤◌, Bool, false, List, length, slice_get, Result, Ok, Err, count_by, ◌==◌, [], ◌∷◌, slice_set}
use Rattle.std.specs.List.{list_all}
use Rattle.pd_kinds.specs.Objects.{Rose}
use Rattle.pd_kinds.specs.Crash.{IsOldNoneOrMade}
use Rattle.pd_kinds.specs.Field.{zeros}
use Rattle.pd_kinds.specs.Graph.{block_at}
use Rattle.pd_answers.specs.Writebacks.{CachedBlock, stands_for, KeepsOthers, long_words, settled_block, settled_word}
use Rattle.pd_writeback.specs.declared.copying.CopyFault.{CopyFault}
use Rattle.pd_writeback.specs.declared.copying.CopyFault.TheVariants.{Source, Target}

-- an image that is another one but for some blocks
pub record IsAsBut (may_differ : ℕ → Bool) (base image : List (List ℕ)) : Type 0 where
  pub number : length image ≡ length base
  pub others : (b : ℕ) → may_differ b ≡ false → slice_get image b ≡ slice_get base b

-- the same, of what a crash leaves
abbrev pub IsLeftAsBut : (ℕ → Bool) → List (List ℕ) → List (List ℕ) → List (List ℕ) → Type 0
IsLeftAsBut may_differ base image firsts = IsAsBut may_differ base image

-- so many blocks from one place of the source on stand from another place of the image on, and its other blocks stay
pub record IsCopied (from to count : ℕ) (source old new : List (List ℕ)) : Type 0 where
  pub number : length new ≡ length old
  pub copied : (i : ℕ) → i < count → slice_get new (to + i) ≡ slice_get source (from + i)
  pub others : (b : ℕ) → (b < to) ⊎ (to + count ≤ b) → slice_get new b ≡ slice_get old b

-- each device's count of faults rises only where it failed
abbrev pub CountsCopy : Result (Unit {0}) CopyFault → ℕ → ℕ → ℕ → ℕ → Type 0
CountsCopy (Ok done) source source' target target' = (source' ≡ source) × (target' ≡ target)
CountsCopy (Err Source) source source' target target' = (Rose source source' × (source ≤ source')) × (target' ≡ target)
CountsCopy (Err Target) source source' target target' = (source' ≡ source) × (Rose target target' × (target ≤ target'))

-- at most one of the cached blocks stands for each block of the origin
abbrev pub IsEachOnce : ℕ → List CachedBlock → Type 0
IsEachOnce k cached = (b : ℕ) → count_by (λ c. stands_for k c b) cached ≤ 1

-- a crash leaves the origin as it was but for what hot blocks stand for
abbrev pub IsLeftKept : ℕ → List CachedBlock → List (List ℕ) → List (List ℕ) → List (List ℕ) → Type 0
IsLeftKept k hot base image firsts = KeepsOthers k hot base image

-- the words of a block say already that nothing is dirty
abbrev pub is_block_settled : ℕ → List ℕ → Bool
is_block_settled version block = list_all (λ word. settled_word version word == word) (long_words block)

-- those of each block at these places do
abbrev pub are_settled : ℕ → List (List ℕ) → List ℕ → Bool
are_settled version image places = list_all (λ place. is_block_settled version (block_at image place)) places

-- the image with the blocks at these places marked, one after another
unfoldable pub marked : ℕ → List (List ℕ) → List ℕ → List (List ℕ)
marked version image [] = image
marked version image (place ∷ places) = marked version (slice_set image place (settled_block version (block_at image place))) places

-- and with this superblock
unfoldable pub marked_image : ℕ → List ℕ → List ℕ → List (List ℕ) → List (List ℕ)
marked_image version places super image = slice_set (marked version (slice_set image 0 zeros) places) 0 super

-- by no chance, the image is the old one, has no valid superblock, or is the marked one
abbrev pub IsOldNoneOrMarked : List (List ℕ) → List (List ℕ) → List (List ℕ) → List (List ℕ) → Type 0
IsOldNoneOrMarked image new = IsOldNoneOrMade image (λ made. made ≡ new)
