use Rattle.std.proofs.Common.{◌≡◌, ◌++◌, arith}
use Rattle.std.proofs.lemmas.Result.{on_ok_weaker}
use Rattle.pd_tree.specs.Below.{kids_from}
use Rattle.pd_meaning_thin.specs.Marks.{mark_after, mark_at}
use Rattle.pd_meaning_thin.proofs.ReadLemmas.{number_after, one_read}
use Rattle.pd_meaning_thin.proofs.walk.read_node.Goals as goal

pub returns-clause-number : goal.returns-clause-number
returns-clause-number g c =
    let after : c.after_read.result ≡ mark_after (mark_at c.args.marks.now c.args.b) c.read.new.into.0 = c.after_read.ensures in
    on_ok_weaker c.add_children.result
    (λ (added : c.add_children.new.waiting.items ≡ c.args.waiting.now.items ++ kids_from 8 c.read.new.into.0 0). rw (after, added) (number_after c.args.marks.now c.args.b c.read.new.into.0 c.args.waiting.now.items c.requires.place c.requires.followed))
    c.add_children.ensures.added

pub returns-clause-reads : goal.returns-clause-reads
returns-clause-reads g c =
    let after : c.after_read.result ≡ mark_after (mark_at c.args.marks.now c.args.b) c.read.new.into.0 = c.after_read.ensures in
    let falls = one_read c.args.marks.now c.args.b c.read.new.into.0 c.requires.place c.requires.followed in
    let reads = c.in_ok-read.ensures.reads in
    on_ok_weaker c.add_children.result
    (λ (added : c.add_children.new.waiting.items ≡ c.args.waiting.now.items ++ kids_from 8 c.read.new.into.0 0). rw after (omega arith))
    c.add_children.ensures.added

pub returns-clause-reads_failed : goal.returns-clause-reads_failed
returns-clause-reads_failed g c =
    let falls = one_read c.args.marks.now c.args.b c.read.new.into.0 c.requires.place c.requires.followed in
    let reads = c.in_ok-read.ensures.reads in
    omega arith

pub returns-in_err-read-clause-reads_failed : goal.returns-in_err-read-clause-reads_failed
returns-in_err-read-clause-reads_failed g c =
    let falls = one_read c.args.marks.now c.args.b c.read.new.into.0 c.requires.place c.requires.followed in
    let reads = c.in_err-read.ensures.reads in
    omega arith
