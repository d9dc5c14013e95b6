use Rattle.std.proofs.Common.{◌≡◌, List, ◌++◌, IfSome}
use Rattle.pd_image.specs.Device.{OnlyReads}
use Rattle.pd_salvage.specs.Cursor.{saved_least, saved_number, saved_room}
use Rattle.pd_salvage.specs.Details.{details_room}
use Rattle.pd_salvage_shapes.specs.declared.tops.Top.{Top}
use Rattle.pd_salvage_shapes.specs.Tops.{AreTops, ReadsTops}
use Rattle.pd_salvage_shapes.proofs.tops.read_tops.Given as goal

-- the devices that were found and those that are left are all
abbrev pub invariant-loop-found : goal.invariant-loop-found
invariant-loop-found g l = record {
  lawful : (rest : List Top) → AreTops (saved_least l.tops) rest → AreTops 0 (l.found.items ++ rest);
  told : IfSome (g.D.Device.state l.initial.dev).held (λ image. ReadsTops l.s image l.found.items l.tops l.details);
  room : saved_room l.tops ≡ l.s.meta_map.blocks;
  details_room_is : details_room l.details ≡ l.s.meta_map.blocks;
  kept : OnlyReads (g.D.Device.state l.initial.dev) (g.D.Device.state l.dev);
  faults : (g.D.Device.state l.dev).faults ≡ (g.D.Device.state l.initial.dev).faults;
}

abbrev pub decreases-loop-found : goal.decreases-loop-found
decreases-loop-found g l = saved_number 8 l.tops
