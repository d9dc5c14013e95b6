use Rattle.pd_draft.specs.DraftState.{draft_state}
use Rattle.pd_texts.specs.ThinLine.{details_of}
use Rattle.pd_restore.proofs.SharedLemmas.{as_gathered, device_follows, leaf_follows, use_follows}
use Rattle.pd_restore.proofs.UnsharedLines.{pool_after}
use Rattle.pd_restore.proofs.shared.put_shared.Goals as goal

pub put_leaf-requires-clause-gathered : goal.put_leaf-requires-clause-gathered
put_leaf-requires-clause-gathered g c =
    let p = c.requires.follows in
    record { so_far = as_gathered p.before c.args.room p.follows.so_far; full = (leaf_follows c.args.room p.before (record { number = c.in-Leaf.number; entries = c.in-Leaf.entries }) (rw c.in-Leaf.is at p.follows)).complete }

pub put_device-requires-clause-gathered : goal.put_device-requires-clause-gathered
put_device-requires-clause-gathered g c =
    let p = c.requires.follows in
    record { so_far = as_gathered p.before c.args.room p.follows.so_far; full = (device_follows c.args.room p.before (details_of c.in-Device.id c.in-Device.details) (rw c.in-Device.is at p.follows)).complete }

pub put_use-requires-clause-gathered : goal.put_use-requires-clause-gathered
put_use-requires-clause-gathered g c =
    let p = c.requires.follows in
    record { so_far = as_gathered p.before c.args.room p.follows.so_far; follows = use_follows c.args.room p.before c.in-UseLeaf.number (rw c.in-UseLeaf.is at p.follows) }

pub put_run-requires : goal.put_run-requires
put_run-requires g c = record { follows = record { now = draft_state c.args.draft.now; can = rw c.in-Map.is at c.requires.follows } }

pub returns-in-Pool-clause-gathered : goal.returns-in-Pool-clause-gathered
returns-in-Pool-clause-gathered g c before start f = absurd (pool_after before c.args.line _ _ _ _ _ c.in-Pool.is f.later f.lines.0)

pub returns-in-Pool-clause-need : goal.returns-in-Pool-clause-need
returns-in-Pool-clause-need g c before start f = absurd (pool_after before c.args.line _ _ _ _ _ c.in-Pool.is f.later f.lines.0)

pub returns-in-Leaf-clause-gathered : goal.returns-in-Leaf-clause-gathered
returns-in-Leaf-clause-gathered g c before start f = rw c.in-Leaf.is (c.put_leaf.ensures.gathered before start (record { number = c.in-Leaf.number; entries = c.in-Leaf.entries }) (rw c.in-Leaf.is at f))

pub returns-in-Leaf-clause-need : goal.returns-in-Leaf-clause-need
returns-in-Leaf-clause-need g c before start f = rw c.in-Leaf.is (c.put_leaf.ensures.need before start (record { number = c.in-Leaf.number; entries = c.in-Leaf.entries }) (rw c.in-Leaf.is at f))

pub returns-in-Device-clause-gathered : goal.returns-in-Device-clause-gathered
returns-in-Device-clause-gathered g c before start f = rw c.in-Device.is (c.put_device.ensures.gathered before start (rw c.in-Device.is at f))

pub returns-in-Device-clause-need : goal.returns-in-Device-clause-need
returns-in-Device-clause-need g c before start f = rw c.in-Device.is (c.put_device.ensures.need before start (rw c.in-Device.is at f))

pub returns-in-UseLeaf-clause-gathered : goal.returns-in-UseLeaf-clause-gathered
returns-in-UseLeaf-clause-gathered g c before start f = rw c.in-UseLeaf.is (c.put_use.ensures.gathered before start (rw c.in-UseLeaf.is at f))

pub returns-in-UseLeaf-clause-need : goal.returns-in-UseLeaf-clause-need
returns-in-UseLeaf-clause-need g c before start f = rw c.in-UseLeaf.is (c.put_use.ensures.need before start (rw c.in-UseLeaf.is at f))

pub returns-in-Map-clause-gathered : goal.returns-in-Map-clause-gathered
returns-in-Map-clause-gathered g c before start f = rw c.in-Map.is (c.put_run.ensures.gathered before start (draft_state c.args.draft.now) (rw c.in-Map.is at f))

pub returns-in-Map-clause-need : goal.returns-in-Map-clause-need
returns-in-Map-clause-need g c before start f = rw c.in-Map.is (c.put_run.ensures.need before start (draft_state c.args.draft.now) (rw c.in-Map.is at f))
