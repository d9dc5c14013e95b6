use Rattle.pd_restore.proofs.UnsharedLines.{pool_after, leaf_after, device_after, use_after, map_after}
use Rattle.pd_restore.proofs.UnsharedLines.{as_gathered}
use Rattle.pd_restore.proofs.unshared.put_line.Goals as goal

pub add_device-requires-clause-gathered : goal.add_device-requires-clause-gathered
add_device-requires-clause-gathered g c =
    let put = c.requires.follows in
    record { so_far = as_gathered put.before c.args.room put.follows.so_far; full = device_after put.before c.args.line c.in-Device.id c.in-Device.details c.in-Device.is put.follows.lines.0 }

pub add_run-requires-clause-gathered : goal.add_run-requires-clause-gathered
add_run-requires-clause-gathered g c =
    let put = c.requires.follows in
    record { so_far = as_gathered put.before c.args.room put.follows.so_far; follows = map_after put.before c.args.line _ c.in-Map.is put.follows.lines.0 }

pub returns-in-Pool-clause-gathered : goal.returns-in-Pool-clause-gathered
returns-in-Pool-clause-gathered g c before start f = absurd (pool_after before c.args.line _ _ _ _ _ c.in-Pool.is f.later f.lines.0)

pub returns-in-Leaf-clause-gathered : goal.returns-in-Leaf-clause-gathered
returns-in-Leaf-clause-gathered g c before start f = absurd (leaf_after before c.args.line _ _ c.in-Leaf.is f.so_far.gathered.version f.lines.0)

pub returns-in-UseLeaf-clause-gathered : goal.returns-in-UseLeaf-clause-gathered
returns-in-UseLeaf-clause-gathered g c before start f = absurd (use_after before c.args.line _ c.in-UseLeaf.is f.so_far.gathered.version f.lines.0)

pub returns-in-Device-clause-gathered : goal.returns-in-Device-clause-gathered
returns-in-Device-clause-gathered g c before start f =
    rw c.in-Device.is (c.add_device.ensures.gathered before start f.so_far.gathered (device_after before c.args.line c.in-Device.id c.in-Device.details c.in-Device.is f.lines.0))

pub returns-in-Map-clause-gathered : goal.returns-in-Map-clause-gathered
returns-in-Map-clause-gathered g c before start f =
    rw c.in-Map.is (c.add_run.ensures.gathered before start f.so_far.gathered (map_after before c.args.line _ c.in-Map.is f.lines.0))
