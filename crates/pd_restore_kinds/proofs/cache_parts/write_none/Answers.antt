use Rattle.std.proofs.Common.{refl}
use Rattle.pd_kinds.specs.Node.{is_ascending}
use Rattle.pd_restore_kinds.proofs.cache_parts.write_none.Goals as goal

pub write_tree-requires-clause-ascend : goal.write_tree-requires-clause-ascend
unfolding is_ascending
write_tree-requires-clause-ascend g c = refl
