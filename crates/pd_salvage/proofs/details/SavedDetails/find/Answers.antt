use Rattle.std.proofs.Common.{ℕ, None, IfSome, subst}
use Rattle.std.proofs.lemmas.Option.{IfSome_then}
use Rattle.pd_value.specs.declared.thin.Details.{Details}
use Rattle.pd_tree.proofs.NextLemmas.{if_both}
use Rattle.pd_tree.specs.Stack.{IsNext}
use Rattle.pd_meaning_thin.specs.Runs.{details_of}
use Rattle.pd_salvage.specs.Cursor.{saved_left}
use Rattle.pd_salvage.specs.Details.{details_left}
use Rattle.pd_salvage.proofs.AscendLemmas.{found_end, found_known}
use Rattle.pd_salvage.proofs.details.SavedDetails.find.Goals as goal

pub returns-in-Past-clause-found : goal.returns-in-Past-clause-found
returns-in-Past-clause-found g c =
    IfSome_then (g.D.Device.state c.args.dev.now).held c.loop-details.invariant.left (λ image same.
    found_known c.args.id None image (details_left image c.args.self.now) c.loop-details.self c.known.new.self same c.in-Past.ensures)

pub returns-in-None-clause-found : goal.returns-in-None-clause-found
returns-in-None-clause-found g c =
    if_both (g.D.Device.state c.args.dev.now).held
    (λ image held finds next.
    found_end c.args.id image (details_left image c.args.self.now) c.loop-details.self c.known.new.self c.next.new.self finds c.in-Unread.ensures next)
    c.loop-details.invariant.left
    (subst (λ o. IfSome o (λ image. IsNext {X = ℕ × Details} None (saved_left 24 details_of image c.known.new.self.entries) (saved_left 24 details_of image c.next.new.self))) c.loop-details.invariant.kept.held
    (rw c.in-None.is at c.in_ok-key.ensures.next))
