use Rattle.pd_draft.specs.DraftState.{draft_state}
use Rattle.pd_build.proofs.leaves.LeafBuilder.put.Goals as goal

pub returns-then-hold-clause-takes : goal.returns-then-hold-clause-takes
returns-then-hold-clause-takes g c = c.hold.ensures.held c.if-hold.true (draft_state c.args.draft.now) c.requires.closed
