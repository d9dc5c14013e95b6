-- Which entries of a damaged tree are saved, as a relation: those in a leaf that ends a path of undamaged nodes, which
-- lie in every range on that path.
use Rattle.std.specs.Prelude.{◌≡◌, ◌⊎◌, ℕ, suc, ◌+◌, ◌<◌, ◌≤◌, true, false, List, [], ◌∷◌}
use Rattle.pd_kinds.specs.Graph.{is_outside, block_at}
use Rattle.pd_kinds.specs.Node.{Entry, entry_count, key_at, child_at, is_inner_node}
use Rattle.pd_kinds.specs.Layout.{leaf_entries}
use Rattle.pd_laid.specs.Salvage.{is_damaged}

-- one of the entries is this
abbrev pub ContainsEntry : List Entry → Entry → Type 0
ContainsEntry [] e = ⊥
ContainsEntry (entry ∷ entries) e = (e ≡ entry) ⊎ ContainsEntry entries e

-- the node at a place is in the metadata, and isn't damaged
pub record IsWhole (size nr : ℕ) (image : List (List ℕ)) (place : ℕ) : Type 0 where
  pub inside : is_outside nr place ≡ false
  pub undamaged : is_damaged size place (block_at image place) ≡ false

-- a key lies in the range of child i: at its key or above, and below the next one
pub record IsInChild (size : ℕ) (block : List ℕ) (i key : ℕ) : Type 0 where
  pub is_child : i < entry_count size block
  pub from : key_at block i ≤ key
  pub below : i + 1 < entry_count size block → key < key_at block (i + 1)

-- a path of at most so many such nodes, from the one at a place, ends in a leaf that has the entry
pub data IsSaved (size nr : ℕ) (image : List (List ℕ)) : ℕ → ℕ → Entry → Type 0 where
  in_leaf : (j place : ℕ) (e : Entry) → IsWhole size nr image place → is_inner_node (block_at image place) ≡ false
      → ContainsEntry (leaf_entries size (block_at image place)) e → IsSaved size nr image (suc j) place e
  in_child : (j place i : ℕ) (e : Entry) → IsWhole size nr image place → is_inner_node (block_at image place) ≡ true
      → IsInChild size (block_at image place) i e.key → IsSaved size nr image j (child_at (block_at image place) i) e
      → IsSaved size nr image (suc j) place e
