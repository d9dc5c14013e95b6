use Rattle.std.proofs.Common.{◌≡◌, ℕ, ◌<◌, get_or}
use Rattle.pd_meaning_era.proofs.part.clear.Given as goal

-- the words before this one are 0
abbrev pub invariant-loop-word : goal.invariant-loop-word
invariant-loop-word l = (i : ℕ) → i < l.word-index → get_or l.taken i 0 ≡ 0
