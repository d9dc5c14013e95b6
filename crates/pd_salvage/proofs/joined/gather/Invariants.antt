use Rattle.std.proofs.Common.{◌≡◌, IfSome}
use Rattle.pd_image.specs.Device.{OnlyReads}
use Rattle.pd_salvage.specs.Cursor.{KnowsSaved, saved_least, saved_number, saved_room}
use Rattle.pd_salvage.specs.Gather.{to_come}
use Rattle.pd_salvage.proofs.GatherLemmas.{Gathers}
use Rattle.pd_salvage.proofs.joined.gather.Given as goal

-- the mappings that were taken and those that are left are those that were left at the start
abbrev pub invariant-loop-virt : goal.invariant-loop-virt
invariant-loop-virt g l = record {
  gathers :
      Gathers l.blocks (saved_least l.initial.mappings) (g.D.Device.state l.initial.dev).held (λ image. to_come l.blocks image l.initial.mappings) (λ image. to_come l.blocks image l.mappings)
      (saved_least l.mappings) l.initial.runs l.runs l.gathering;
  room : saved_room l.mappings ≡ saved_room l.initial.mappings;
  knows : IfSome (g.D.Device.state l.initial.dev).held (λ image. KnowsSaved 8 image l.mappings);
  kept : OnlyReads (g.D.Device.state l.initial.dev) (g.D.Device.state l.dev);
  faults : (g.D.Device.state l.dev).faults ≡ (g.D.Device.state l.initial.dev).faults;
}

abbrev pub decreases-loop-virt : goal.decreases-loop-virt
decreases-loop-virt g l = saved_number 8 l.mappings
