use Rattle.std.proofs.Common.{ℕ, ◌<◌, length, get_or}
use Rattle.pd_salvage_cache.proofs.salvage.show_bytes.Given as goal

abbrev pub invariant-loop-i : goal.invariant-loop-i
invariant-loop-i l = (k d : ℕ) → k < l.i → k < length l.bytes → get_or l.bytes k d < 256
