use Rattle.std.proofs.Common.{arith}
use Rattle.std.proofs.lemmas.Result.{err_from_is_err_and}
use Rattle.pd_texts.specs.ThinLine.{line_of}
use Rattle.pd_restore.proofs.SharedLemmas.{bare_follows, few_after, taken_lines}
use Rattle.pd_restore.proofs.shared.SharedLinesGathering.take_line.Goals as goal

pub put_shared-requires-clause-follows : goal.put_shared-requires-clause-follows
put_shared-requires-clause-follows g c =
    let p = c.requires.follows in
    record { before = p.before; start = p.start; follows = bare_follows p.before c.args.room (line_of c.args.line) p.follows }

pub returns-clause-gathered : goal.returns-clause-gathered
returns-clause-gathered g c before start f = record {
  gathered = c.in_ok-put_shared.ensures.gathered before start (bare_follows before c.args.room (line_of c.args.line) f);
  lines = taken_lines before c.args.self.now.lines c.saturating_add-self.result f.so_far.gathered.lines (omega (arith, c.saturating_add-self.ensures)) (few_after c.args.room before (line_of c.args.line) f);
  last = c.lacks_after-lacks_pieces.ensures before f.so_far.gathered.last;
}

pub returns-clause-need : goal.returns-clause-need
returns-clause-need g c before start f = c.in_ok-put_shared.ensures.need before start (bare_follows before c.args.room (line_of c.args.line) f)

pub returns-clause-few : goal.returns-clause-few
returns-clause-few g c before start f = omega (arith, few_after c.args.room before (line_of c.args.line) f)

pub returns-in_err-put_shared-clause-need : goal.returns-in_err-put_shared-clause-need
returns-in_err-put_shared-clause-need g c before start f =
    let p = err_from_is_err_and c.from_residual.result c.from_residual.ensures.1 in
    rw (p.1, p.2) (c.in_err-put_shared.ensures.need before start (bare_follows before c.args.room (line_of c.args.line) f))

pub returns-in_err-put_shared-clause-few : goal.returns-in_err-put_shared-clause-few
returns-in_err-put_shared-clause-few g c before start f = omega (arith, few_after c.args.room before (line_of c.args.line) f)
