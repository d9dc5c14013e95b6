use Rattle.std.proofs.Common.{◌≡◌, length, get_or, arith}
use Rattle.pd_texts_kinds.proofs.EraLemmas.{first_run, other_era, same_more}
use Rattle.pd_texts_kinds.proofs.era_lines.run_length.Goals as goal

pub returns-then-eras-i-clause-run : goal.returns-then-eras-i-clause-run
returns-then-eras-i-clause-run c =
    first_run c.args.eras.now (get_or c.args.eras.now 0 0) c.loop-i.i (omega arith) c.loop-i.invariant
    (λ within. other_era (get_or c.args.eras.now c.loop-i.i 0) (get_or c.args.eras.now 0 0) c.if-eras-i.true)

pub loop-i-preserved : goal.loop-i-preserved
loop-i-preserved c = same_more c.args.eras.now (get_or c.args.eras.now 0 0) c.loop-i.i c.loop-i-test.true c.if-eras-i.false c.loop-i.invariant

pub returns-clause-run : goal.returns-clause-run
returns-clause-run c =
    let last : c.loop-i.i ≡ length c.args.eras.now = omega arith in
    rw (← last) (first_run c.args.eras.now (get_or c.args.eras.now 0 0) c.loop-i.i (omega arith) c.loop-i.invariant (λ within. absurd (omega arith)))
