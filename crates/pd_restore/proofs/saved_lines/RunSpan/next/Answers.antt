use Rattle.std.proofs.Common.{◌<◌, arith, refl, sym, ◌∙◌}
use Rattle.pd_meaning_thin.specs.Packed.{runs_from}
use Rattle.pd_restore.specs.SavedLines.{behind_runs, in_runs}
use Rattle.pd_restore.proofs.ShapeLineLemmas.{next_behind, next_first, none_behind, row_none}
use Rattle.pd_restore.proofs.saved_lines.RunSpan.next.Goals as goal

pub returns-then-self-eq0-clause-none : goal.returns-then-self-eq0-clause-none
unfolding in_runs
returns-then-self-eq0-clause-none c = rw c.if-self-eq0.true refl

pub returns-in-Some-clause-some : goal.returns-in-Some-clause-some
unfolding in_runs
returns-in-Some-clause-some c =
    let s = c.args.self.now in
    let runs = c.args.runs.now in
    let some : 0 < s.left = omega (arith, c.if-self-eq0.false) in
    next_first s.left (runs_from runs s.at) (runs_from runs c.next.new.place) c.in-Some.run' some c.in-Some.ensures

pub returns-in-Some-clause-behind : goal.returns-in-Some-clause-behind
unfolding behind_runs
returns-in-Some-clause-behind c =
    let s = c.args.self.now in
    let runs = c.args.runs.now in
    let some : 0 < s.left = omega (arith, c.if-self-eq0.false) in
    next_behind s.left (runs_from runs s.at) (runs_from runs c.next.new.place) c.in-Some.run' some c.in-Some.ensures

pub returns-in-None-clause-none : goal.returns-in-None-clause-none
unfolding in_runs
returns-in-None-clause-none c = row_none c.args.self.now.left (runs_from c.args.runs.now c.args.self.now.at) c.in-None.ensures.0

pub returns-in-None-clause-behind : goal.returns-in-None-clause-behind
unfolding behind_runs
returns-in-None-clause-behind c =
    let s = c.args.self.now in
    let none = c.in-None.ensures.0 in
    rw c.in-None.ensures.1 (none ∙ sym (none_behind s.left (runs_from c.args.runs.now s.at) none))
