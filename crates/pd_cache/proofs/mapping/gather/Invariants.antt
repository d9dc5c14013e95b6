use Rattle.std.proofs.Common.{◌≡◌, ◌+◌, ◌≤◌, [], length, IfSome}
use Rattle.std.specs.List.{AllByRecursion}
use Rattle.pd_image.specs.Device.{OnlyReads}
use Rattle.pd_tree.specs.Cursor.{cursor_nodes, cursor_number}
use Rattle.pd_cache.specs.Meeting.{places_of}
use Rattle.pd_cache.specs.Meeting.{AreMapBlocks, AreMet, IsMapBlock, IsPartMet, blocks_left, seen_number}
use Rattle.pd_cache.proofs.mapping.gather.Given as goal

-- some blocks were met, and the others are left
abbrev pub invariant-loop-named : goal.invariant-loop-named
invariant-loop-named g l = record {
  met : IfSome (g.D.Device.state l.initial.dev).held (λ image. AllByRecursion (IsMapBlock l.fn.audit) (blocks_left image l.initial.entries)
      → AreMet image [] l.initial.origins → IsPartMet image (blocks_left image l.initial.entries) (blocks_left image l.entries) l.origins);
  reads : IfSome (g.D.Device.state l.initial.dev).held (λ image. (g.D.Device.state l.dev).reads + (seen_number l.initial.origins + length (cursor_nodes 8 image l.entries))
      ≤ (g.D.Device.state l.initial.dev).reads + (seen_number l.origins + length (cursor_nodes 8 image l.initial.entries)));
  in_role : AreMapBlocks l.fn.audit l.origins;
  places : places_of l.origins ≡ places_of l.initial.origins;
  kept : OnlyReads (g.D.Device.state l.initial.dev) (g.D.Device.state l.dev);
  faults : (g.D.Device.state l.dev).faults ≡ (g.D.Device.state l.initial.dev).faults;
}

abbrev pub decreases-loop-named : goal.decreases-loop-named
decreases-loop-named g l = cursor_number 8 l.entries
