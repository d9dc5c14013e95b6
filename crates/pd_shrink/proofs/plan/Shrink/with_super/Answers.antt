use Rattle.std.proofs.Common.{sym, subst, ◌∙◌, Bool, List, ℕ, Option, IfSome}
use Rattle.pd_shrink.specs.Making.{IsSoundPool}
use Rattle.pd_shrink.specs.Planned.{Plans}
use Rattle.pd_shrink.proofs.PlanLemmas.{lacks_super_size, sound_pool}
use Rattle.pd_shrink.proofs.plan.Shrink.with_super.Goals as goal

pub returns-then-is_block_size_bad-clause-plans : goal.returns-then-is_block_size_bad-clause-plans
returns-then-is_block_size_bad-clause-plans g c =
    lacks_super_size c.args.shared c.args.output_blocks c.args.pool_blocks c.args.blocks (g.A.Device.state c.args.meta.now).held c.args.s.now c.requires.sound (sym c.is_block_size_bad.ensures ∙ c.if-is_block_size_bad.true)

pub of_pool-requires-clause-sound : goal.of_pool-requires-clause-sound
of_pool-requires-clause-sound g c =
    subst (λ (o : Option (List (List ℕ))). IfSome o (IsSoundPool c.args.s.now.data_map c.in_ok-kept.kept)) (sym c.read_kept.ensures.kept.held)
    (sound_pool (g.A.Device.state c.args.meta.now).held c.args.s.now c.in_ok-kept.kept c.requires.sound c.in_ok-kept.ensures.means)

pub returns-clause-plans : goal.returns-clause-plans
returns-clause-plans g c =
    subst (λ (is_shared : Bool). Plans is_shared (g.A.Device.state c.args.meta.now).held c.args.output_blocks c.args.pool_blocks c.args.blocks c.of_pool.result) c.in_ok-kept.ensures.shared
    (rw c.read_kept.ensures.kept.held at c.of_pool.ensures.plans)
