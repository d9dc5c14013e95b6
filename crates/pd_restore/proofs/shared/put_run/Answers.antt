use Rattle.std.proofs.Common.{◌∙◌, arith, rules}
use Rattle.pd_texts.specs.ThinLine.{run_of}
use Rattle.pd_restore.proofs.SharedLemmas.{as_gathered, run_exact, run_fits, run_follows}
use Rattle.pd_restore.proofs.shared.put_run.Goals as goal
use Rattle.pd_restore.proofs.ReadingLemmas.{over_if_short}

pub need_with-needed-requires : goal.need_with-needed-requires
need_with-needed-requires c =
    let p = c.requires.follows in
    let f = p.can.follows in
    record { gathered = record { now = p.now; so_far = as_gathered p.can.before c.args.room f.so_far; follows = run_follows c.args.room p.can.before (run_of c.args.run) f } }

pub add_run-requires : goal.add_run-requires
add_run-requires c =
    let p = c.requires.follows in
    let f = p.can.follows in
    let is = c.need_with-needed.ensures p.can.before p.can.start p.now f.so_far.gathered (run_follows c.args.room p.can.before (run_of c.args.run) f) in
    record {
      gathered = record {
        now = p.now;
        so_far = as_gathered p.can.before c.args.room f.so_far;
        follows = run_follows c.args.room p.can.before (run_of c.args.run) f;
        fits = run_fits c.args.room p.can.before (run_of c.args.run) c.need_with-needed.result f is (omega (arith, c.in_ok-within.ensures.need));
      };
    }

pub returns-in_err-within-clause-need : goal.returns-in_err-within-clause-need
returns-in_err-within-clause-need c before start now f =
    let is = c.need_with-needed.ensures before start now f.so_far.gathered (run_follows c.args.room before (run_of c.args.run) f) ∙ run_exact c.args.room before (run_of c.args.run) f in
    let over = over_if_short {T = Unit {0}} c.args.room _ _ c.within.result is c.within.ensures.need in search rules

pub returns-clause-gathered : goal.returns-clause-gathered
returns-clause-gathered c before start now f =
    let follows = run_follows c.args.room before (run_of c.args.run) f in
    let is = c.need_with-needed.ensures before start now f.so_far.gathered follows in
    c.in_ok-add_run.ensures.gathered c.args.room before start now f.so_far.gathered follows (run_fits c.args.room before (run_of c.args.run) c.need_with-needed.result f is (omega (arith, c.in_ok-within.ensures.need)))

pub returns-clause-need : goal.returns-clause-need
returns-clause-need c before start now f =
    let is = c.need_with-needed.ensures before start now f.so_far.gathered (run_follows c.args.room before (run_of c.args.run) f) ∙ run_exact c.args.room before (run_of c.args.run) f in
    omega (arith, is, c.in_ok-within.ensures.need)
