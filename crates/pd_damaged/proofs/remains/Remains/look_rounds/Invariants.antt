use Rattle.std.proofs.Common.{◌≡◌, IfSome}
use Rattle.pd_image.specs.Device.{OnlyReads}
use Rattle.pd_damaged.specs.Known.{AreRight, KnowsBelow, data_blocks_of, meta_blocks_of}
use Rattle.pd_damaged.proofs.remains.Remains.look_rounds.Given as goal

-- what is known stays right
abbrev pub invariant-rounds : goal.invariant-rounds
invariant-rounds g l = record {
  right : IfSome (g.D.Device.state l.initial.dev).held (λ image. AreRight image l.initial.self → AreRight image l.self);
  knows : IfSome (g.D.Device.state l.initial.dev).held (λ image. AreRight image l.initial.self → KnowsBelow image l.round l.self.table);
  number : meta_blocks_of l.self ≡ meta_blocks_of l.initial.self;
  pool : data_blocks_of l.self ≡ data_blocks_of l.initial.self;
  kept : OnlyReads (g.D.Device.state l.initial.dev) (g.D.Device.state l.dev);
  faults : (g.D.Device.state l.dev).faults ≡ (g.D.Device.state l.initial.dev).faults;
}
