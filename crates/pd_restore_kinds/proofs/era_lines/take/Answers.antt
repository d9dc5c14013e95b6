use Rattle.pd_grammar.specs.EraText.{blocks_of}
use Rattle.pd_restore_kinds.specs.EraReading.{eras_in}
use Rattle.pd_restore_kinds.proofs.ReadingLemmas.{era_after, run_follows, run_gathered}
use Rattle.pd_restore_kinds.proofs.era_lines.take.Goals as goal

pub put_run-requires-clause-follow : goal.put_run-requires-clause-follow
put_run-requires-clause-follow g c =
    let t = c.requires.take in
    let n = c.in-Run in
    run_follows t.before c.args.line n.first n.length n.era t.room n.is t.gathered t.after t.begin t.need t.there

pub returns-in-Era-clause-gathered : goal.returns-in-Era-clause-gathered
returns-in-Era-clause-gathered g c before start h later after = absurd (era_after before c.args.line _ _ _ _ c.in-Era.is later after)

pub returns-in_ok-put_run-in-Run-clause-gathered : goal.returns-in_ok-put_run-in-Run-clause-gathered
returns-in_ok-put_run-in-Run-clause-gathered g c before start h later after =
    let n = c.in-Run in
    run_gathered before c.args.line n.first n.length n.era n.is h after (c.in_ok-put_run-in-Run.ensures.put (eras_in before) (blocks_of before) start h.put)
