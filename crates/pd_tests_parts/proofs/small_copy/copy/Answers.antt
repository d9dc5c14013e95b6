use Rattle.std.proofs.Common.{[]}
use Rattle.pd_grammar.specs.ThinText.{pool_format}
use Rattle.pd_texts.specs.Reader.{LeavesOf}
use Rattle.pd_tests_parts.proofs.small_copy.copy.Goals as goal

pub returns-in-Ok-copy_first : goal.returns-in-Ok-copy_first
returns-in-Ok-copy_first g c = λ text told.
    let start = (g.K.Sink.state c.args.out.now).written in
    let left = (g.S.Source.state c.args.source.now).left in
    let leaves : LeavesOf pool_format text [] c.in-Ok.text left = rw told (c.in-Ok.ensures.text text) in
    c.copy_after_first.ensures text start (c.in-Ok-copy_first.ensures.copied text start leaves (c.new-pieces.ensures.start start))

pub returns : goal.returns
returns g c = λ text told.
    let start = (g.K.Sink.state c.args.out.now).written in
    let left = (g.S.Source.state c.args.source.now).left in
    let leaves : LeavesOf pool_format text [] c.in-Ok.text left = rw told (c.in-Ok.ensures.text text) in
    c.in-Err-copy_first.ensures.copied text start leaves (c.new-pieces.ensures.start start)
