use Rattle.pd_restore_kinds.specs.CacheReading.{IsLeastRepeat}
use Rattle.pd_restore_kinds.proofs.cache_lines.least_repeat.Given as goal

abbrev pub invariant-loop-i : goal.invariant-loop-i
invariant-loop-i l = IsLeastRepeat l.sorted l.i l.end l.least
