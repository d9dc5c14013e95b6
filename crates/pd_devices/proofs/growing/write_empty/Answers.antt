use Rattle.std.proofs.Common.{refl}
use Rattle.pd_kinds.specs.Node.{is_ascending}
use Rattle.pd_devices.proofs.growing.write_empty.Goals as goal

pub write_leaf-block-requires-clause-ascend : goal.write_leaf-block-requires-clause-ascend
unfolding is_ascending
write_leaf-block-requires-clause-ascend g c = refl
