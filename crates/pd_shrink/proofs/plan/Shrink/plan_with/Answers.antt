use Rattle.std.proofs.Common.{ℕ, List, Option, IfSome, sym, subst, ◌∙◌, arith}
use Rattle.pd_shrink.specs.Making.{FitsDevice, IsSoundWith}
use Rattle.pd_shrink.proofs.PlanLemmas.{lacks_block, lacks_super, sound_with}
use Rattle.pd_shrink.proofs.plan.Shrink.plan_with.Goals as goal

pub returns-then-meta_blocks-eq0-clause-plans : goal.returns-then-meta_blocks-eq0-clause-plans
returns-then-meta_blocks-eq0-clause-plans g c =
    let count = c.blocks-meta_blocks.ensures.count in
    lacks_block c.args.shared c.args.output_blocks c.args.pool_blocks c.args.blocks (g.A.Device.state c.args.meta.now).held (g.A.Device.state c.args.meta.now).blocks
    (omega (arith, count, c.if-meta_blocks-eq0.true)) (g.met.A.Device.measured c.args.meta.now) c.requires.sound

pub returns-in-None-clause-plans : goal.returns-in-None-clause-plans
returns-in-None-clause-plans g c =
    lacks_super c.args.shared c.args.output_blocks c.args.pool_blocks c.args.blocks (g.A.Device.state c.args.meta.now).held (g.A.Device.state c.args.meta.now).blocks
    c.in_ok-first.first.value.0 (g.met.A.Device.measured c.args.meta.now) c.in_ok-first.ensures.bytes c.requires.sound (rw (c.deref.ensures, c.blocks-meta_blocks.ensures.count) at c.in-None.ensures.broken)

pub with_super-requires-clause-fits : goal.with_super-requires-clause-fits
with_super-requires-clause-fits g c =
    subst (λ (n : ℕ). FitsDevice n c.in-Some.s) (c.blocks-meta_blocks.ensures.count ∙ sym c.read_first.ensures.kept.blocks) c.in-Some.ensures.fits

pub with_super-requires-clause-sound : goal.with_super-requires-clause-sound
with_super-requires-clause-sound g c =
    subst (λ (o : Option (List (List ℕ))). IfSome o (IsSoundWith c.in-Some.s)) (sym c.read_first.ensures.kept.held)
    (sound_with (g.A.Device.state c.args.meta.now).held c.in_ok-first.first.value.0 c.in-Some.s c.in_ok-first.ensures.bytes c.requires.sound (rw c.deref.ensures at c.in-Some.ensures.fields))

pub returns-clause-plans : goal.returns-clause-plans
returns-clause-plans g c = rw c.read_first.ensures.kept.held at c.with_super.ensures.plans
