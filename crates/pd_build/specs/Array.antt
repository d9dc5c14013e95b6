-- What a builder of an array still writes.
use Rattle.std.specs.Prelude.{◌≡◌, ℕ, ◌+◌, ◌-◌, ◌≤◌, List, ◌∷◌, ◌++◌, length}
use Rattle.pd_kinds.specs.Array.{array_block, max_words}
use Rattle.pd_grammar.specs.Need.{nodes_for, need_tree}
use Rattle.pd_laid.specs.Laid.{blocks_from, tree_blocks, tree_root, pieces, array_items, array_pieces}
use Rattle.pd_draft.specs.Closed.{DraftState, Wrote}

-- all blocks of an array from a place on: what is written of a laid one
unfoldable pub array_blocks : ℕ → ℕ → List ℕ → List (List ℕ)
array_blocks size place words =
    let blocks = array_pieces size words in
    blocks_from (array_block size) place blocks ++ tree_blocks 8 (place + length blocks) (array_items place (length blocks))

-- a builder of an array: the words of the block that has begun, how many words are to come, and how many blocks were written
pub record Words : Type 0 where
  pub begun : List ℕ
  pub left : ℕ
  pub made : ℕ

-- the blocks of words that are written yet, where these words come
abbrev pub pieces_left : ℕ → Words → List ℕ → List (List ℕ)
pieces_left size t words = pieces (max_words size) (nodes_for (max_words size) (length t.begun + length words)) (t.begun ++ words)

-- all blocks that are written yet from a place on: the blocks that were made stand just before it
unfoldable pub array_left : ℕ → ℕ → Words → List ℕ → List (List ℕ)
array_left size place t words =
    let left = pieces_left size t words in
    blocks_from (array_block size) place left
    ++ tree_blocks 8 (place + length left) (array_items (place - t.made) (t.made + length left))

-- the root of its tree
unfoldable pub array_root_left : ℕ → ℕ → Words → List ℕ → ℕ
array_root_left size place t words =
    let left = pieces_left size t words in
    tree_root 8 (place + length left) (array_items (place - t.made) (t.made + length left))

-- how many blocks these are
unfoldable pub array_number : ℕ → Words → ℕ
array_number size t =
    let left = nodes_for (max_words size) (length t.begun + t.left) in
    left + need_tree 8 (t.made + left)

-- a word was taken
pub record Pushes (size word : ℕ) (old new : Words) (from to : DraftState) : Type 0 where
  pub written : List (List ℕ)
  pub wrote : Wrote written from to
  pub blocks : (words : List ℕ) → length words ≡ new.left → array_left size from.place old (word ∷ words) ≡ written ++ array_left size to.place new words
  pub root : (words : List ℕ) → length words ≡ new.left → array_root_left size from.place old (word ∷ words) ≡ array_root_left size to.place new words
  pub number : new.left + 1 ≡ old.left
  pub room : to.place + array_number size new ≡ from.place + array_number size old
  pub stood : old.made ≤ from.place → new.made ≤ to.place

-- a builder of an array with the size of its words
pub record ArrayLeft : Type 0 where
  pub size : ℕ
  pub words : Words
