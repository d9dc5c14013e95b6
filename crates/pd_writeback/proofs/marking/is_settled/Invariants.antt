use Rattle.std.proofs.Common.{◌≡◌, ℕ, ◌<◌}
use Rattle.pd_kinds.specs.Array.{word_at}
use Rattle.pd_answers.specs.Writebacks.{settled_word}
use Rattle.pd_writeback.proofs.marking.is_settled.Given as goal

-- the words so far say that nothing is dirty
abbrev pub invariant-loop-i : goal.invariant-loop-i
invariant-loop-i l = (k : ℕ) → k < l.i → settled_word l.version (word_at 8 l.block.0 k) ≡ word_at 8 l.block.0 k
