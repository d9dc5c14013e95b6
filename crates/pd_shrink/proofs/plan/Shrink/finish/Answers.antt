use Rattle.std.proofs.Common.{◌≡◌, ℕ, refl, sym, subst, arith}
use Rattle.std.specs.List.{AllByRecursion}
use Rattle.pd_kinds.specs.Image.{room_of}
use Rattle.pd_shrink.specs.Kept.{kept_making}
use Rattle.pd_shrink.specs.Moves.{IsAcross, moves_in}
use Rattle.pd_shrink.proofs.PlanLemmas.{end_of_moved, need_finished, room_enough}
use Rattle.pd_shrink.proofs.plan.Shrink.finish.Goals as goal

pub invariant_of-result : goal.invariant_of-result
invariant_of-result c =
    let here : c.min-room.result ≡ room_of c.args.output_blocks = omega (arith, c.min-room.ensures) in
    record {
      across =
          subst (λ (n : ℕ). AllByRecursion (IsAcross c.args.each c.args.pool_blocks n) c.args.moves.items)
          (sym (end_of_moved c.args.kept.now c.in_ok-moved.moved c.args.end (moves_in c.as_slice.result.now) c.in_ok-moved.ensures)) c.requires.across;
      once = c.requires.once;
      fits = room_enough (kept_making c.in_ok-moved.moved) c.in-Some.need c.min-room.result c.args.output_blocks here c.in-Some.ensures c.if-need-room.false;
    }

pub returns-then-need-room : goal.returns-then-need-room
returns-then-need-room c =
    let here : c.min-room.result ≡ room_of c.args.output_blocks = omega (arith, c.min-room.ensures) in
    let moved = rw c.as_slice.ensures.value at c.in_ok-moved.ensures in (
      need_finished c.args.kept.now c.in_ok-moved.moved c.args.end (moves_in c.args.moves.items) c.in-Some.need c.min-room.result c.args.output_blocks moved here c.in-Some.ensures,
      (here, omega (arith, here, c.if-need-room.true)),
    )

pub returns : goal.returns
returns c =
    let here : c.min-room.result ≡ room_of c.args.output_blocks = omega (arith, c.min-room.ensures) in
    let moved = rw c.as_slice.ensures.value at c.in_ok-moved.ensures in
    let need = need_finished c.args.kept.now c.in_ok-moved.moved c.args.end (moves_in c.args.moves.items) c.in-Some.need c.min-room.result c.args.output_blocks moved here c.in-Some.ensures in
    record {
      moved = moved;
      moves_are = refl;
      each = refl;
      output_blocks = refl;
      pool_blocks = refl;
      fits = omega (arith, need, here, c.if-need-room.false);
    }
