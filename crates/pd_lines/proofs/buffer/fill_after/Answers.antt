use Rattle.std.proofs.Common.{◌≡◌, ◌-◌, ◌≤◌, length, slice_range, take, arith}
use Rattle.std.proofs.lemmas.Grind.{common_steps}
use Rattle.pd_lines.proofs.ReaderLemmas.{moves_if_taken, end_if_none}
use Rattle.pd_lines.proofs.buffer.fill_after.Goals as goal

pub returns-clause-moved : goal.returns-clause-moved
returns-clause-moved g c =
    let a = c.args.end - c.args.start in
    let xs = c.copy_within.new.self in
    let within : a ≤ length xs = omega arith in
    let front : take (c.args.end - c.args.start) c.copy_within.new.self ≡ slice_range c.args.bytes.now c.args.start c.args.end = grind (arith, common_steps) in
    moves_if_taken c.take.result a (length xs - a) (slice_range c.args.bytes.now c.args.start c.args.end) xs c.take.new.into
    (g.S.Source.state c.args.source.now).left (g.S.Source.state c.take.new.self).left within front c.take.ensures.taken c.take.ensures.content

pub returns-clause-end : goal.returns-clause-end
returns-clause-end g c =
    end_if_none c.take.result c.take.new.into (g.S.Source.state c.args.source.now).left (g.S.Source.state c.take.new.self).left c.take.ensures.content
