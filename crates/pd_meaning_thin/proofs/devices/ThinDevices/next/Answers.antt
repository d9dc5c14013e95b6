use Rattle.std.proofs.Common.{ℕ, None, IfSome, subst}
use Rattle.pd_value.specs.declared.thin.Details.{Details}
use Rattle.pd_tree.specs.Cursor.{cursor_items}
use Rattle.pd_tree.specs.Cursor.{root_of}
use Rattle.pd_tree.specs.Stack.{IsNext}
use Rattle.pd_tree.proofs.NextLemmas.{if_both}
use Rattle.pd_meaning_thin.specs.Runs.{details_of}
use Rattle.pd_meaning_thin.proofs.JoinedLemmas.{rows_end}
use Rattle.pd_meaning_thin.proofs.devices.ThinDevices.next.Goals as goal

pub returns-in-None-clause-next : goal.returns-in-None-clause-next
returns-in-None-clause-next g c =
    if_both (g.D.Device.state c.args.dev.now).held
    (λ image held tops none.
    rows_end (c.in-Some.id, c.in-Some.root) (cursor_items 8 root_of image c.args.self.now.tops) (cursor_items 8 root_of image c.next.new.self)
    (cursor_items 24 details_of image c.args.self.now.details) (cursor_items 24 details_of image c.next-2.new.self) tops none)
    (rw c.in-Some.is at c.in_ok-id.ensures.next)
    (subst (λ o. IfSome o (λ image. IsNext {X = ℕ × Details} None (cursor_items 24 details_of image c.args.self.now.details) (cursor_items 24 details_of image c.next-2.new.self))) c.in_ok-id.ensures.kept.held
    (rw c.in-None.is at c.in_ok-details.ensures.next))
