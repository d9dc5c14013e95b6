use Rattle.std.proofs.Common.{◌≡◌, map, take}
use Rattle.pd_kinds.specs.declared.block.Block.{Block}
use Rattle.pd_draft.specs.Closed.{Wrote}
use Rattle.pd_tests_parts.proofs.small_restore.fill.Given as goal

abbrev pub invariant-loop-block : goal.invariant-loop-block
invariant-loop-block g l = record {
  same_reference : l.draft.dev.ghost_name ≡ l.initial.draft.dev.ghost_name;
  wrote : Wrote (map (λ (block : Block). block.0) (take l.block-index l.blocks))
      (record { device = g.D.Device.state l.fn.dev; place = 1 }) (record { device = g.D.Device.state l.draft.dev.now; place = l.draft.next });
}
