use Rattle.pd_draft.specs.DraftState.{draft_state}
use Rattle.pd_draft.proofs.DraftLemmas.{wrote_none}
use Rattle.pd_restore_kinds.proofs.cache_parts.write_where.Goals as goal

pub returns-else-there-clause-wrote : goal.returns-else-there-clause-wrote
returns-else-there-clause-wrote g c = rw c.if-there.false (wrote_none (draft_state c.args.draft.now) c.requires.closed)
