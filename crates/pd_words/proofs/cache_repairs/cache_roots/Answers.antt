use Rattle.std.proofs.Common.{refl}
use Rattle.pd_answers.specs.Words.{cache_roots}
use Rattle.pd_words.proofs.cache_repairs.cache_roots.Goals as goal

pub returns : goal.returns
unfolding cache_roots
returns c = rw (← c.in_ok-mappings.ensures, ← c.in_ok-hints.ensures, ← c.in_ok-dirty.ensures) refl

pub returns-in_err-dirty : goal.returns-in_err-dirty
unfolding cache_roots
returns-in_err-dirty c = rw (c.from_residual-in_err-dirty.ensures, ← c.in_ok-mappings.ensures, ← c.in_ok-hints.ensures, ← c.in_err-dirty.ensures) refl
