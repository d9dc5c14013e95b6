use Rattle.std.proofs.Common.{sym, ◌∙◌, arith}
use Rattle.pd_repair.specs.Snaps.{is_twice}
use Rattle.pd_repair.proofs.SnapLemmas.{older, shared_run, unshared}
use Rattle.pd_repair.proofs.seen.later_of.Goals as goal

pub returns-then-run-latest : goal.returns-then-run-latest
returns-then-run-latest c rest =
    let run = c.args.run in
    older (is_twice c.args.counted.now) run.virt run.target run.time run.length c.args.latest rest c.if-run-latest.true

pub returns-then-has_shared : goal.returns-then-has_shared
returns-then-has_shared c rest =
    let run = c.args.run in
    shared_run (is_twice c.args.counted.now) run.virt run.target run.time run.length c.args.latest rest (sym c.has_shared.ensures ∙ c.if-has_shared.true) (omega arith)

pub returns-else-has_shared : goal.returns-else-has_shared
returns-else-has_shared c rest =
    let run = c.args.run in
    unshared (is_twice c.args.counted.now) run.virt run.target run.time run.length c.args.latest rest (sym c.has_shared.ensures ∙ c.if-has_shared.false)
