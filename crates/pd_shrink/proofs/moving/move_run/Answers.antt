use Rattle.std.proofs.Common.{◌≡◌, ℕ, ◌^◌, subst, arith}
use Rattle.pd_shrink.specs.Moves.{moves_in}
use Rattle.pd_shrink.proofs.MovingLemmas.{moved_first, takes_more, takes_none, takes_staying}
use Rattle.pd_shrink.proofs.MovingLemmas.{from_lower}
use Rattle.pd_shrink.proofs.moving.move_run.Goals as goal
use Rattle.pd_shrink.proofs.moving.move_run.Goals.{then-stays-gt0+in_ok-take, else-stays-gt0}
use Rattle.pd_salvage.specs.Gather.{Takes}

pub place_of-requires-clause-ordered : goal.place_of-requires-clause-ordered
place_of-requires-clause-ordered c = from_lower (2 ^ 40) 0 c.args.end (moves_in c.args.moves.now) (omega arith) c.requires.ordered

pub loop-i-init : goal.loop-i-init
loop-i-init c =
    let old = c.args.runs.now in
    let first = c.args.joining.now in
    let stays = c.staying-stays.result in
    let is = c.staying-stays.ensures in
    elim c.if-stays-gt0.branch [
      | then-stays-gt0+in_ok-take w ↦
          rw (w.joining-is, w.runs-is)
          (record {
            most = omega (arith, is);
            takes =
                takes_staying (moves_in c.args.moves.now) c.args.run.now old w.take.new.runs old first w.take.new.self first (2 ^ 40) c.args.end stays
                c.requires.ordered (omega (arith, is)) w.in_ok-take.ensures;
          })
      | else-stays-gt0 w ↦
          rw (w.joining-is, w.runs-is)
          (record {
            most = omega (arith, is);
            takes = takes_none (moves_in c.args.moves.now) c.args.run.now old old old first first first stays (omega (arith, w.if-stays-gt0.false));
          })
    ]

pub loop-i-preserved : goal.loop-i-preserved
loop-i-preserved c = record {
  most = omega (arith, c.loop-i-test.true);
  takes =
      takes_more (moves_in c.args.moves.now) c.args.run.now c.args.runs.now c.loop-i.runs c.take-in-loop-i.new.runs c.args.joining.now c.loop-i.joining c.take-in-loop-i.new.self
      c.loop-i.i c.place_of.result c.place_of.ensures.place c.loop-i.invariant.takes c.in_ok-take-2.ensures;
}

pub returns : goal.returns
returns c =
    let all : c.loop-i.i ≡ c.args.run.now.length = omega (arith, c.loop-i-test.false, c.loop-i.invariant.most) in
    subst (λ (n : ℕ). Takes (moved_first (moves_in c.args.moves.now) c.args.run.now n) c.args.runs.now c.loop-i.runs c.args.joining.now c.loop-i.joining) all
    c.loop-i.invariant.takes
