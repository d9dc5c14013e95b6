use Rattle.std.proofs.Common.{◌≡◌, IfSome}
use Rattle.pd_image.specs.Device.{OnlyReads}
use Rattle.pd_salvage.specs.Cursor.{saved_least, saved_number}
use Rattle.pd_salvage.specs.Saving.{HasReadyCursors, IsSaving, KnowsLast}
use Rattle.pd_salvage.proofs.SavingLemmas.{Saves}
use Rattle.pd_salvage.proofs.saving.Saving.save_all.Given as goal

-- the devices that were saved and those that are left are those that were left at the start
abbrev pub invariant-loop-id : goal.invariant-loop-id
invariant-loop-id g l = record {
  saving : IsSaving l.self.s.data_map.blocks (saved_least l.self.tops) l.self.devices.items l.self.runs;
  told : IfSome (g.D.Device.state l.initial.dev).held (λ image. Saves l.self.s image l.self);
  last : KnowsLast (g.D.Device.state l.initial.dev).held l.self;
  ready : HasReadyCursors l.self;
  same : l.self.s ≡ l.initial.self.s;
  kept : OnlyReads (g.D.Device.state l.initial.dev) (g.D.Device.state l.dev);
  faults : (g.D.Device.state l.dev).faults ≡ (g.D.Device.state l.initial.dev).faults;
}

abbrev pub decreases-loop-id : goal.decreases-loop-id
decreases-loop-id g l = saved_number 8 l.self.tops
