use Rattle.std.proofs.Common.{◌≡◌, ◌<◌, ℕ, true, get_or, IfSome}
use Rattle.pd_kinds.specs.Graph.{block_at}
use Rattle.pd_image.specs.Device.{OnlyReads}
use Rattle.pd_writeback.specs.Copied.{is_block_settled}
use Rattle.pd_writeback.proofs.marking.are_settled.Given as goal

-- the blocks so far say that nothing is dirty
abbrev pub invariant-loop-place : goal.invariant-loop-place
invariant-loop-place g l = record {
  settled : IfSome (g.A.Device.state l.initial.meta).held (λ image. (k : ℕ) → k < l.place-index → is_block_settled l.version (block_at image (get_or l.places k 0)) ≡ true);
  kept : OnlyReads (g.A.Device.state l.initial.meta) (g.A.Device.state l.meta);
  faults : (g.A.Device.state l.meta).faults ≡ (g.A.Device.state l.initial.meta).faults;
}
