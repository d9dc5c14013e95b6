use Rattle.std.proofs.Common.{arith}
use Rattle.std.proofs.lemmas.Result.{on_ok_weaker}
use Rattle.pd_meaning_thin.specs.Runs.{mapping_of}
use Rattle.pd_salvage.proofs.GatherLemmas.{one_more}
use Rattle.pd_salvage.proofs.joined.Gathering.take.Goals as goal

pub returns-clause-takes : goal.returns-clause-takes
returns-clause-takes c =
    on_ok_weaker c.take.result
    (λ takes before ms is. record { joining = rw c.run_of.ensures at (takes before ms is.joining); mapped = omega (arith, is.mapped, one_more ms (mapping_of (c.args.virt, c.args.mapping))) })
    c.take.ensures
