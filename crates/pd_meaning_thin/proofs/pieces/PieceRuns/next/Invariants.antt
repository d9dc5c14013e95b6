use Rattle.std.proofs.Common.{◌≡◌, ◌≤◌, IfSome}
use Rattle.pd_image.specs.Device.{OnlyReads}
use Rattle.pd_meaning_thin.specs.Walk.{shared_blocks}
use Rattle.pd_meaning_thin.specs.Pieces.{pieces_number}
use Rattle.pd_meaning_thin.proofs.PieceLemmas.{PiecesTold}
use Rattle.pd_meaning_thin.proofs.pieces.PieceRuns.next.Given as goal

abbrev pub invariant-loop-self : goal.invariant-loop-self
invariant-loop-self g l = record {
  told : IfSome (g.D.Device.state l.initial.dev).held (λ image. PiecesTold (shared_blocks l.shared) image (g.D.Device.state l.initial.dev).reads l.initial.self (g.D.Device.state l.dev).reads l.self);
  number : pieces_number l.self ≤ pieces_number l.initial.self;
  kept : OnlyReads (g.D.Device.state l.initial.dev) (g.D.Device.state l.dev);
  faults : (g.D.Device.state l.dev).faults ≡ (g.D.Device.state l.initial.dev).faults;
}

abbrev pub decreases-loop-self : goal.decreases-loop-self
decreases-loop-self g l = pieces_number l.self
