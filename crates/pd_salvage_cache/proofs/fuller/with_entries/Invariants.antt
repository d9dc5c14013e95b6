use Rattle.std.proofs.Common.{◌≡◌, map, take, IfSome}
use Rattle.pd_image.specs.Device.{OnlyReads}
use Rattle.pd_salvage_cache.specs.Fuller.{root_as, told_root}
use Rattle.pd_salvage_cache.proofs.fuller.with_entries.Given as goal

-- the roots before this one are told
abbrev pub invariant-loop-i : goal.invariant-loop-i
invariant-loop-i g l = record {
  told : IfSome (g.D.Device.state l.initial.dev).held (λ image. map root_as l.roots.items ≡ map (told_root l.s image) (take l.i l.choices));
  kept : OnlyReads (g.D.Device.state l.initial.dev) (g.D.Device.state l.dev);
  faults : (g.D.Device.state l.dev).faults ≡ (g.D.Device.state l.initial.dev).faults;
}
