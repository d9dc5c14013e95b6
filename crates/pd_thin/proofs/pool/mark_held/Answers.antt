use Rattle.std.proofs.Common.{◌≡◌, ℕ, List}
use Rattle.pd_kinds.specs.Graph.{Graph, block_at}
use Rattle.pd_kinds.specs.Stages.{IsReached}
use Rattle.pd_kinds.specs.Whole.{roots_in}
use Rattle.pd_kinds.proofs.ResultLemmas.{if_any}
use Rattle.pd_check.specs.Known.{Charges}
use Rattle.pd_thin.specs.Pool.{IsKnownPool, AreReached, held_tests}
use Rattle.pd_thin.proofs.WholeTests.{held_none}
use Rattle.pd_thin.proofs.pool.mark_held.Goals as goal

pub returns-clause-charges : goal.returns-clause-charges
returns-clause-charges g c =
    if_any {P = λ (image : List (List ℕ)). (graph : Graph) → IsKnownPool graph image c.args.audit.now
    → ((c.args.held ≡ 0 → ⊥) → IsReached graph image c.args.held 1) → ((c.args.held ≡ 0 → ⊥) → AreReached graph image (roots_in (block_at image c.args.held)))
    → Charges (held_tests graph image c.args.held) c.args.audit.now c.args.audit.now}
    (g.D.Device.state c.args.dev.now).held
    (λ image graph pool reached roots.
    held_none graph image c.args.audit.now c.args.held _ c.if-is_there.false (rw c.blocks-2.ensures.count c.requires.within) pool reached)
