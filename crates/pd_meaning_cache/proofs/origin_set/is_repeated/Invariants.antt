use Rattle.std.proofs.Common.{◌≡◌, ℕ, ◌+◌, ◌<◌, get_or}
use Rattle.pd_meaning_cache.proofs.origin_set.is_repeated.Given as goal

abbrev pub invariant-loop-i : goal.invariant-loop-i
invariant-loop-i l = (j : ℕ) → j + 1 < l.i → get_or l.sorted j 0 ≡ get_or l.sorted (j + 1) 0 → ⊥
