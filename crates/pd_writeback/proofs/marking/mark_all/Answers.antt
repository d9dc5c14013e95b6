use Rattle.std.proofs.Common.{refl, ◌∙◌}
use Rattle.pd_draft.proofs.DraftLemmas.{closed_start, closed_then}
use Rattle.pd_writeback.proofs.MarkedLemmas.{marked_more, marked_none}
use Rattle.pd_writeback.proofs.marking.mark_all.Goals as goal

pub loop-place-init : goal.loop-place-init
loop-place-init g c = record {
  same_reference = refl;
  content = marked_none c.args.version c.args.places.now (g.A.Device.state c.args.rewrite.now.dev.now).held;
  stays = closed_start (g.A.Device.state c.args.rewrite.now.dev.now) c.requires.closed;
  faults = refl;
}

pub mark_one-requires-clause-closed : goal.mark_one-requires-clause-closed
mark_one-requires-clause-closed g c = c.loop-place.invariant.stays.crash.now

pub loop-place-preserved : goal.loop-place-preserved
loop-place-preserved g c =
    let before = c.loop-place.invariant in
    let state = g.A.Device.state in
    record {
      same_reference = c.in_ok-mark_one.ensures.same_reference ∙ before.same_reference;
      content = marked_more c.args.version c.args.places.now c.loop-place.place-index (state c.args.rewrite.now.dev.now).held (state c.loop-place.rewrite.dev.now).held (state c.mark_one.new.rewrite.dev.now).held
          c.loop-place-test.true before.content c.in_ok-mark_one.ensures.content;
      stays = closed_then before.stays c.in_ok-mark_one.ensures.crash;
      faults = c.in_ok-mark_one.ensures.faults ∙ before.faults;
    }
