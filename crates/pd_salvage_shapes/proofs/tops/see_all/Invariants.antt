use Rattle.std.proofs.Common.{◌≡◌, take}
use Rattle.pd_image.specs.Device.{OnlyReads}
use Rattle.pd_salvage_shapes.specs.Tops.{SeesAll}
use Rattle.pd_salvage_shapes.proofs.tops.see_all.Given as goal

-- the devices before this one were seen
abbrev pub invariant-loop-i : goal.invariant-loop-i
invariant-loop-i g l = record {
  sees : SeesAll (g.D.Device.state l.initial.dev).held (take l.i l.tops) l.seen.items l.initial.visiting l.visiting;
  kept : OnlyReads (g.D.Device.state l.initial.dev) (g.D.Device.state l.dev);
  faults : (g.D.Device.state l.dev).faults ≡ (g.D.Device.state l.initial.dev).faults;
}
