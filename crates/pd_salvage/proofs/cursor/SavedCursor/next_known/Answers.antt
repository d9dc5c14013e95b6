use Rattle.std.proofs.Common.{None, IfSome, subst}
use Rattle.pd_tree.specs.Cursor.{root_left}
use Rattle.pd_tree.proofs.NextLemmas.{if_both}
use Rattle.pd_salvage.specs.Range.{IsNextFrom}
use Rattle.pd_salvage.specs.Range.{all_keys, saved_below}
use Rattle.pd_salvage.specs.Way.{saved_on}
use Rattle.pd_salvage.proofs.AscendLemmas.{none_answer, none_below}
use Rattle.pd_salvage.proofs.cursor.SavedCursor.next_known.Goals as goal

pub returns-in-None-clause-next : goal.returns-in-None-clause-next
returns-in-None-clause-next g c =
    let size = g.V.Value.SIZE in
    let decoded = g.V.Value.decoded in
    let before = c.args.self.now in
    let entered = c.enter_root.new.self in
    if_both (g.D.Device.state c.args.dev.now).held
    (λ image held left next.
    none_answer before.least entered.least _ (saved_on size decoded entered.nr image entered.way)
    (root_left (saved_below size decoded entered.nr image 64 all_keys) entered.root) (saved_on size decoded entered.nr image c.next_entry.new.way)
    c.in_ok-enter_root.ensures.same.0 left (none_below (saved_below size decoded entered.nr image 64 all_keys) entered.root c.in_ok-enter_root.ensures.entered) next)
    c.in_ok-enter_root.ensures.left
    (subst (λ o. IfSome o (λ image. IsNextFrom entered.least None (saved_on size decoded entered.nr image entered.way) (saved_on size decoded entered.nr image c.next_entry.new.way)))
    c.in_ok-enter_root.ensures.kept.held
    (rw c.in-None.is at c.in_ok-key.ensures.next))
