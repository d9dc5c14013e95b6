use Rattle.std.proofs.Common.{IfSome, None, length, ap, subst, arith}
use Rattle.pd_tree.specs.Cursor.{cursor_items}
use Rattle.pd_tree.specs.Stack.{IsNext}
use Rattle.pd_tree.proofs.NextLemmas.{if_both}
use Rattle.pd_tree.proofs.cursor.Cursor.count.Goals as goal

-- nothing is left after the last entry
pub returns-in-None-clause-count : goal.returns-in-None-clause-count
returns-in-None-clause-count g c =
    if_both (g.D.Device.state c.args.dev.now).held
    (λ image held counted next. let none = ap length next.0 in let fits = c.loop-count.invariant.fits in omega arith)
    c.loop-count.invariant.entries
    (subst (λ o. IfSome o (λ image. IsNext None (cursor_items g.V.Value.SIZE g.V.Value.decoded image c.loop-count.self) (cursor_items g.V.Value.SIZE g.V.Value.decoded image c.next.new.self))) c.loop-count.invariant.kept.held
    (rw c.in-None.is at c.in_ok-next.ensures.next))
