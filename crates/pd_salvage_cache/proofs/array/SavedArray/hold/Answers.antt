use Rattle.std.proofs.Common.{IfSome, refl, subst, arith}
use Rattle.std.proofs.lemmas.Option.{IfSome_then}
use Rattle.std.proofs.lemmas.Result.{on_ok_weaker}
use Rattle.pd_tree.proofs.NextLemmas.{if_both}
use Rattle.pd_salvage_cache.specs.Arrays.{HoldsBlock}
use Rattle.pd_salvage_cache.proofs.HeldLemmas.{knows_none, knows_read}
use Rattle.pd_salvage_cache.proofs.array.SavedArray.hold.Goals as goal

pub returns-in-Some-clause-knows : goal.returns-in-Some-clause-knows
returns-in-Some-clause-knows g c =
    let old = c.args.self.now in
    let new = c.read.new.self in
    let held = (g.D.Device.state c.args.dev.now).held in
    on_ok_weaker c.read.result
    (λ holds.
    if_both held
    (λ image held_is found reads entries knows.
    knows_read image entries old knows c.args.key (omega arith) new c.read.ensures.next c.read.ensures.same.0 c.read.ensures.same.1 c.in-Some.root (rw c.read.ensures.places found) reads)
    (rw c.in-Some.is at c.in_ok-root.ensures.found)
    (subst (λ o. IfSome o (λ image. HoldsBlock image c.in-Some.root.0 new)) c.in_ok-root.ensures.kept.held holds))
    c.read.ensures.holds

pub returns-in-None-clause-knows : goal.returns-in-None-clause-knows
returns-in-None-clause-knows g c =
    IfSome_then (g.D.Device.state c.args.dev.now).held (rw c.in-None.is at c.in_ok-root.ensures.found) (λ image found entries knows.
    knows_none image entries c.args.self.now knows c.args.key (omega arith) _ refl refl refl refl found)
