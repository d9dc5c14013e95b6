use Rattle.std.proofs.Common.{◌≡◌, ℕ, false, IfSome}
use Rattle.pd_image.specs.Device.{OnlyReads}
use Rattle.pd_damaged.specs.Known.{AreLookedAt, AreRight, Knows, KnowsTheSame, data_blocks_of, meta_blocks_of}
use Rattle.pd_damaged.proofs.remains.Remains.look_round.Given as goal

-- what is known stays right
abbrev pub invariant-loop-b : goal.invariant-loop-b
invariant-loop-b g l = record {
  right : IfSome (g.D.Device.state l.initial.dev).held (λ image. AreRight image l.initial.self → AreRight image l.self);
  looks : IfSome (g.D.Device.state l.initial.dev).held (λ image. AreRight image l.initial.self → AreLookedAt image l.initial.self l.self l.b);
  keeps : (c : ℕ) → Knows l.initial.self c → Knows l.self c;
  still : l.found ≡ false → KnowsTheSame l.initial.self l.self;
  number : meta_blocks_of l.self ≡ meta_blocks_of l.initial.self;
  pool : data_blocks_of l.self ≡ data_blocks_of l.initial.self;
  kept : OnlyReads (g.D.Device.state l.initial.dev) (g.D.Device.state l.dev);
  faults : (g.D.Device.state l.dev).faults ≡ (g.D.Device.state l.initial.dev).faults;
}
