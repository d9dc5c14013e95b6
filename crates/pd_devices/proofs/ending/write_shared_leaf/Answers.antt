use Rattle.std.proofs.Common.{List, ℕ, subst, arith}
use Rattle.pd_draft.specs.Closed.{Wrote}
use Rattle.pd_draft.specs.DraftState.{draft_state}
use Rattle.pd_devices.specs.SharedGrowth.{held_runs}
use Rattle.pd_devices.proofs.PieceLemmas.{one_leaf}
use Rattle.pd_devices.proofs.ending.write_shared_leaf.Goals as goal

pub returns-clause-wrote : goal.returns-clause-wrote
returns-clause-wrote g c =
    subst (λ (bs : List (List ℕ)). Wrote bs (draft_state c.args.draft.now) (draft_state c.write_piece.new.draft))
    (one_leaf c.args.draft.now.next (held_runs c.args.held.now) (omega (arith, c.requires.some, c.requires.number.number)) (omega (arith, c.requires.few, c.requires.number.number)))
    c.in_ok-write_piece.ensures.wrote
