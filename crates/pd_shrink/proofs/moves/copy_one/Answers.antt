use Rattle.std.proofs.Common.{◌+◌, ◌*◌, ◌≤◌, refl, ◌∙◌, arith}
use Rattle.pd_kinds.proofs.CrashLemmas.{and_then, stays}
use Rattle.pd_draft.proofs.DraftLemmas.{keeps_place}
use Rattle.pd_writeback.proofs.OverlaidLemmas.{stands_within}
use Rattle.pd_shrink.proofs.MovedLemmas.{copy_in, row_more, row_none}
use Rattle.pd_shrink.proofs.moves.copy_one.Goals as goal

pub loop-i-init : goal.loop-i-init
loop-i-init g c =
    let one = c.args.one.now in
    let k = c.args.each in
    record {
      copied = row_none (one.source * k) (one.target * k) (g.C.Device.state c.args.pool.now).held;
      crash = λ may_differ base covers here. stays refl refl here;
      told = refl;
      place = record { access = refl; path = refl; blocks = refl };
      faults = refl;
    }

pub returns-in_err-copy_block-clause-crash : goal.returns-in_err-copy_block-clause-crash
returns-in_err-copy_block-clause-crash g c may_differ base covers here =
    let one = c.args.one.now in
    let k = c.args.each in
    let b = one.target * k + c.loop-i.i in
    let before = c.loop-i.invariant.crash may_differ base covers here in
    and_then before (c.copy_block.ensures.crash may_differ base (covers b (stands_within k (copy_in one) b (omega arith) (omega arith))) before.now)

pub loop-i-preserved : goal.loop-i-preserved
loop-i-preserved g c =
    let one = c.args.one.now in
    let k = c.args.each in
    let i = c.loop-i.i in
    let b = one.target * k + i in
    let apart = c.requires.apart in
    let next : (one.target + 1) * k ≤ one.source * k → one.target * k + i ≤ one.source * k = λ less. omega arith in
    let before = c.loop-i.invariant in
    record {
      copied = row_more (one.source * k) (one.target * k) i (g.C.Device.state c.args.pool.now).held (g.C.Device.state c.loop-i.pool).held (g.C.Device.state c.copy_block.new.pool).held (next apart)
          before.told before.copied c.in_ok-copy_block.ensures.copied;
      crash = λ may_differ base covers here.
          let so_far = before.crash may_differ base covers here in
          and_then so_far (c.copy_block.ensures.crash may_differ base (covers b (stands_within k (copy_in one) b (omega arith) (omega arith))) so_far.now);
      told = c.copy_block.ensures.told ∙ before.told;
      place = keeps_place before.place c.copy_block.ensures.place;
      faults = c.in_ok-copy_block.ensures.faults ∙ before.faults;
    }
