use Rattle.std.proofs.Common.{◌<◌, arith, refl, sym, ◌∙◌}
use Rattle.pd_restore.specs.SavedLines.{behind, in_span}
use Rattle.pd_restore.proofs.SavedTextLemmas.{drop_there, drop_past}
use Rattle.pd_restore.proofs.ShapeLineLemmas.{none_behind, row_behind, row_first, row_none}
use Rattle.pd_restore.proofs.saved_lines.Span.next.Goals as goal

pub returns-then-self-eq0-clause-none : goal.returns-then-self-eq0-clause-none
unfolding in_span
returns-then-self-eq0-clause-none g c = rw c.if-self-eq0.true refl

pub returns-in-Some-clause-some : goal.returns-in-Some-clause-some
unfolding in_span
returns-in-Some-clause-some g c =
    let s = c.args.self.now in
    let items = c.args.items.now in
    let looked = c.in-Some.ensures.lookup in
    let some : 0 < s.left = omega (arith, c.if-self-eq0.false) in
    row_first s.at s.left items c.in-Some.item.now some (drop_there items s.at c.in-Some.item.now looked.0 looked.1)

pub returns-in-Some-clause-behind : goal.returns-in-Some-clause-behind
unfolding behind
returns-in-Some-clause-behind g c =
    let s = c.args.self.now in
    let items = c.args.items.now in
    let looked = c.in-Some.ensures.lookup in
    let some : 0 < s.left = omega (arith, c.if-self-eq0.false) in
    row_behind s.at s.left items c.in-Some.item.now some (drop_there items s.at c.in-Some.item.now looked.0 looked.1)

pub returns-in-None-clause-none : goal.returns-in-None-clause-none
unfolding in_span
returns-in-None-clause-none g c =
    let s = c.args.self.now in
    let items = c.args.items.now in
    let looked = c.in-None.ensures.lookup in
    row_none s.left _ (drop_past items s.at looked.0)

pub returns-in-None-clause-behind : goal.returns-in-None-clause-behind
unfolding behind
returns-in-None-clause-behind g c =
    let s = c.args.self.now in
    let items = c.args.items.now in
    let looked = c.in-None.ensures.lookup in
    drop_past items s.at looked.0 ∙ sym (none_behind s.left _ (drop_past items s.at looked.0))
