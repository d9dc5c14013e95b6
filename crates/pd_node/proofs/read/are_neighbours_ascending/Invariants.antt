use Rattle.std.proofs.Common.{◌≡◌, map}
use Rattle.std.specs.List.{range_with_len}
use Rattle.pd_kinds.specs.Node.{is_ascending, key_at}
use Rattle.pd_node.proofs.read.are_neighbours_ascending.Given as goal

abbrev pub invariant-loop-i : goal.invariant-loop-i
invariant-loop-i l = record {
  so_far : l.ascending ≡ is_ascending (map (key_at l.block.0) (range_with_len 0 l.i));
  none : l.count ≡ 0 → l.i ≡ 1;
}
