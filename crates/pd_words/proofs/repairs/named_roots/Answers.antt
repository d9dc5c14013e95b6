use Rattle.std.proofs.Common.{refl}
use Rattle.pd_answers.specs.Words.{named_roots}
use Rattle.pd_words.proofs.repairs.named_roots.Goals as goal

pub returns : goal.returns
unfolding named_roots
returns c = rw (← c.in_ok-top.ensures.number, ← c.in_ok-details.ensures.number) refl
