use Rattle.std.proofs.lemmas.Bool.{ltb-false}
use Rattle.std.proofs.Common.{arith}
use Rattle.pd_check.proofs.SharedLemmas.{charges_failing, charges_nothing}
use Rattle.pd_check.proofs.charging.charge.Goals as goal

pub returns-then-fails-is_there : goal.returns-then-fails-is_there
returns-then-fails-is_there c =
    charges_failing _ _ _ _ c.args.audit.now c.mark.new.self c.if-fails-is_there.true c.mark.ensures.rules c.mark.ensures.others

pub returns-else-fails-is_there : goal.returns-else-fails-is_there
returns-else-fails-is_there c =
    charges_nothing _ _ _ _ c.args.audit.now c.if-fails-is_there.false
    (λ outside. let far = ltb-false c.args.b c.nr.result outside in let number = c.nr.ensures.number in omega arith)
