use Rattle.std.proofs.Common.{ℕ, ◌+◌, ◌^◌, ◌<◌, ◌≤◌, arith}
use Rattle.pd_kinds.specs.Bitmap.{bitmaps_for}
use Rattle.pd_kept.proofs.WeighingLemmas.{if_none, need_more}
use Rattle.pd_kept.proofs.kept.least_room.Goals as goal

pub loop-need-preserved : goal.loop-need-preserved
loop-need-preserved c =
    let most : c.in_ok-need.need ≤ c.args.base + bitmaps_for c.loop-need.room = omega (arith, c.in_ok-need.ensures.1, c.bitmaps_for.ensures) in
    need_more c.args.base c.loop-need.room c.in_ok-need.need c.loop-need.invariant most

pub returns-then-need-room-clause-least : goal.returns-then-need-room-clause-least
returns-then-need-room-clause-least c = record {
  enough = omega (arith, c.in_ok-need.ensures.1, c.bitmaps_for.ensures, c.if-need-room.true);
  least = c.loop-need.invariant;
}

pub returns-in_err-need-clause-none : goal.returns-in_err-need-clause-none
returns-in_err-need-clause-none c =
    let most : 2 ^ 64 ≤ c.args.base + bitmaps_for c.loop-need.room = omega (arith, c.in_err-need.ensures, c.bitmaps_for.ensures) in
    let none : (n : ℕ) → n < 2 ^ 64 → n < c.args.base + bitmaps_for n = need_more c.args.base c.loop-need.room (2 ^ 64) c.loop-need.invariant most in
    if_none c.from_residual.result none
