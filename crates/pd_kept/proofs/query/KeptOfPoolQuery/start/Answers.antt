use Rattle.std.proofs.Common.{List, Option, IfSome, subst, ℕ}
use Rattle.pd_answers.specs.KeptLines.{IsTold}
use Rattle.pd_kept.specs.Kept.{told_of}
use Rattle.pd_kept.proofs.StatesLemmas.{is_answer}
use Rattle.pd_kept.proofs.query.KeptOfPoolQuery.start.Goals as goal

pub returns-in-Ok-clause-over : goal.returns-in-Ok-clause-over
returns-in-Ok-clause-over g c =
    let found = rw c.in-Some.is at c.in_ok-s.ensures.sound in
    is_answer (g.D.Device.state c.args.dev.now).held c.in-Some.s c.in-Ok.kept found.right
    (subst (λ (held : Option (List (List ℕ))). IfSome held (λ image. IsTold c.in-Some.s image (told_of c.in-Ok.kept))) c.super_if_sound.ensures.kept.held c.in-Ok.ensures.told)
