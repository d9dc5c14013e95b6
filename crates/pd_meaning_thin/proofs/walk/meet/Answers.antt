use Rattle.std.proofs.Common.{sym, ◌∙◌, arith}
use Rattle.pd_meaning_thin.proofs.ReadLemmas.{no_read}
use Rattle.pd_meaning_thin.proofs.walk.meet.Goals as goal

pub returns-clause-number : goal.returns-clause-number
returns-clause-number g c =
    let same = no_read c.args.marks.now c.args.b c.args.block.now.0 (omega arith) (sym c.is_followed.ensures ∙ c.if-is_followed.false) in
    rw (c.after_pass.ensures c.args.block.now.0) (omega arith)

pub returns-clause-reads : goal.returns-clause-reads
returns-clause-reads g c =
    let same = no_read c.args.marks.now c.args.b c.args.block.now.0 (omega arith) (sym c.is_followed.ensures ∙ c.if-is_followed.false) in
    rw (c.after_pass.ensures c.args.block.now.0) (omega arith)
