-- What the small restore makes.
use Rattle.std.specs.Prelude.{ℕ, List, map, slice_set}
use Rattle.pd_kinds.specs.declared.block.Block.{Block}
use Rattle.pd_kinds.specs.Field.{zeros}
use Rattle.pd_draft.specs.Closed.{placed}

-- the image with the blocks from block 1 on and the superblock
abbrev pub filled : List (List ℕ) → List Block → Block → List (List ℕ)
filled image blocks super_block = slice_set (placed image 1 (map (λ block. block.0) blocks)) 0 super_block.0

-- the same, of an image whose block 0 was zeroed
abbrev pub restored : List (List ℕ) → List Block → Block → List (List ℕ)
restored image blocks super_block = filled (slice_set image 0 zeros) blocks super_block
