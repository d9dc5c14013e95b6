use Rattle.std.proofs.Common.{◌≡◌, true, false, nat_eq, refl, sym, ◌∙◌}
use Rattle.std.specs.Option.{option_copied}
use Rattle.pd_grammar.specs.Lines.{reported_lines}
use Rattle.pd_answers.specs.Promises.{query}
use Rattle.pd_tools.proofs.Answered.{answered_put, answered_silent, answered_stopped}
use Rattle.pd_tools.proofs.query.run_query.Goals as goal

pub returns-then-is_empty : goal.returns-then-is_empty
returns-then-is_empty g c others fresh was =
    let clean : nat_eq c.in-Ok.report.total 0 ≡ true = sym c.is_empty.ensures ∙ c.if-is_empty.true in
    answered_silent (query c.args.asked (option_copied c.args.file) c.args.image.now) _ _ _ fresh was 0 (rw clean at (c.in-Ok.ensures others (g.E.Sink.state c.args.notes.now))) refl

pub returns-else-is_empty : goal.returns-else-is_empty
returns-else-is_empty g c others fresh was =
    let faulty : nat_eq c.in-Ok.report.total 0 ≡ false = sym c.is_empty.ensures ∙ c.if-is_empty.false in
    answered_put (query c.args.asked (option_copied c.args.file) c.args.image.now) _ _ _ fresh was 1 _ (reported_lines c.in-Ok.report)
    (rw faulty at (c.in-Ok.ensures others (g.E.Sink.state c.put_faults.new.notes))) tt c.put_faults.ensures

pub returns-in-Err : goal.returns-in-Err
returns-in-Err g c others fresh was =
    answered_stopped (query c.args.asked (option_copied c.args.file) c.args.image.now) _ _ _ fresh was c.in-Err.stop _ (c.in-Err.ensures others (g.E.Sink.state c.put.new.notes)) c.put.ensures
