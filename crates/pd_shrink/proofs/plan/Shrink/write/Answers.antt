use Rattle.pd_restoring.specs.Made.{done, failed, lacking}
use Rattle.pd_shrink.specs.Kept.{kept_content}
use Rattle.pd_shrink.proofs.CopiedLemmas.{has_room, made_of}
use Rattle.pd_shrink.proofs.plan.Shrink.write.Goals as goal

pub returns-in-Ok-clause-made : goal.returns-in-Ok-clause-made
returns-in-Ok-clause-made g c is_shared basis of = made_of basis c.args.self done _ _ of c.in-Ok.ensures.made

pub returns-in-Memory-clause-made : goal.returns-in-Memory-clause-made
returns-in-Memory-clause-made g c is_shared basis of = made_of basis c.args.self lacking _ _ of (rw c.in-Memory.is at c.in-Err.ensures.made)

pub returns-in-Device-clause-made : goal.returns-in-Device-clause-made
returns-in-Device-clause-made g c is_shared basis of = made_of basis c.args.self failed _ _ of (rw c.in-Device.is at c.in-Err.ensures.made)

pub unreachable-requires : goal.unreachable-requires
unreachable-requires g c =
    has_room (kept_content c.args.self.moved) c.args.self.output_blocks c.in-NoRoom.need c.in-NoRoom.blocks {old = g.B.Device.state c.args.output.now} {new = g.B.Device.state c.restore_kept.new.dev}
    c.args.self.fits c.requires.blocks (rw c.in-NoRoom.is at c.in-Err.ensures.made)
