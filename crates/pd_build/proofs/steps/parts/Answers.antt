use Rattle.std.proofs.Common.{arith, sym}
use Rattle.pd_build.proofs.TakesLemmas.{parts_some}
use Rattle.pd_build.proofs.steps.parts.Goals as goal

pub returns : goal.returns
returns c = sym (parts_some c.args.most c.args.count c.requires (omega arith))
