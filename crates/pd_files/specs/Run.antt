-- What is kept of a run of blocks.
use Rattle.std.specs.Prelude.{ℕ, ◌+◌, ◌*◌, ◌<◌, ◌≤◌, List, take}
use Rattle.pd_files.specs.declared.run.ReadBlocks.{ReadBlocks}

-- the block is one of those that are kept
abbrev pub Serves : ℕ → ReadBlocks → Type 0
Serves b run = (run.first ≤ b) × (b < run.first + run.count)

-- the bytes of the blocks that are kept
abbrev pub kept_bytes : ReadBlocks → List ℕ
kept_bytes run = take (4096 * run.count) run.buffer.items
