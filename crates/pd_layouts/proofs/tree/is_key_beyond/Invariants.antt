use Rattle.std.proofs.Common.{◌≡◌, ◌^◌, nat_lt, not, take}
use Rattle.std.specs.List.{list_any}
use Rattle.pd_kinds.specs.Layout.{node_entries_of}
use Rattle.pd_layouts.specs.Layout.{value_size}
use Rattle.pd_layouts.proofs.tree.is_key_beyond.Given as goal

abbrev pub invariant-loop-i : goal.invariant-loop-i
invariant-loop-i l = l.beyond ≡ list_any (λ e. not (nat_lt e.key (2 ^ 32))) (take l.i (node_entries_of (value_size l.value) l.b.0))
