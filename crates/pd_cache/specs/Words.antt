-- The origins of the valid words of a mapping array.
use Rattle.std.specs.Prelude.{ℕ, if◌then◌else◌, List, [], ◌∷◌, map, filter, Option, is_none}
use Rattle.std.specs.List.{count_by, flat_map}
use Rattle.pd_kinds.specs.Graph.{block_at}
use Rattle.pd_kinds.specs.Trees.{block_words}
use Rattle.pd_kinds.specs.Whole.{is_valid_word, origin_of_word}

-- of a word, where it is valid
abbrev pub word_origins : ℕ → List ℕ
word_origins word = if is_valid_word word then origin_of_word word ∷ [] else []

-- of a block
unfoldable pub block_origins : List ℕ → List ℕ
block_origins block = map origin_of_word (filter is_valid_word (block_words 8 block))

-- of blocks, one after another
unfoldable pub origins_in : List (List ℕ) → List ℕ → List ℕ
origins_in image blocks = flat_map (λ b. block_origins (block_at image b)) blocks

-- how many blocks weren't met yet
abbrev pub unseen_number : {X : Type 0} → List (Option X) → ℕ
unseen_number seen = count_by is_none seen
