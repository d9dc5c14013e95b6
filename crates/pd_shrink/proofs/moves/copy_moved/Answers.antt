use Rattle.std.proofs.Common.{refl, ◌∙◌}
use Rattle.pd_kinds.proofs.CrashLemmas.{stays}
use Rattle.pd_draft.proofs.DraftLemmas.{keeps_place}
use Rattle.pd_writeback.proofs.OverlaidLemmas.{kept_more, stands_some}
use Rattle.pd_shrink.proofs.MovedLemmas.{across_at, copies, covers, moved_all, moved_more, moved_none, target_before}
use Rattle.pd_shrink.proofs.moves.copy_moved.Goals as goal

pub loop-one-init : goal.loop-one-init
loop-one-init g c = record {
  copied = moved_none c.args.each (g.C.Device.state c.args.pool.now).held;
  crash = λ base here. stays refl refl here;
  told = refl;
  place = record { access = refl; path = refl; blocks = refl };
  faults = refl;
}

pub copy_one-requires-clause-apart : goal.copy_one-requires-clause-apart
copy_one-requires-clause-apart g c =
    let apart = c.requires.apart in
    let blocks = (g.C.Device.state c.args.pool.now).blocks in
    let across = across_at c.args.each blocks c.args.moves.now c.loop-one.one-index c.loop-one-test.true apart in
    target_before c.args.each blocks apart.end _ across

pub copy_one-requires-clause-inside : goal.copy_one-requires-clause-inside
copy_one-requires-clause-inside g c =
    let apart = c.requires.apart in
    let across = across_at c.args.each (g.C.Device.state c.args.pool.now).blocks c.args.moves.now c.loop-one.one-index c.loop-one-test.true apart in
    rw c.loop-one.invariant.place.blocks across.inside

pub returns-in_err-copy_one-clause-crash : goal.returns-in_err-copy_one-clause-crash
returns-in_err-copy_one-clause-crash g c base here =
    let moves = c.args.moves.now in
    kept_more c.args.each (copies moves) base (c.loop-one.invariant.crash base here)
    (λ here'. c.copy_one.ensures.crash (stands_some c.args.each (copies moves)) base (covers c.args.each moves c.loop-one.one-index c.loop-one-test.true) here')

pub loop-one-preserved : goal.loop-one-preserved
loop-one-preserved g c =
    let moves = c.args.moves.now in
    let k = c.args.each in
    let i = c.loop-one.one-index in
    let within = c.loop-one-test.true in
    let before = c.loop-one.invariant in
    let old = g.C.Device.state c.args.pool.now in
    record {
      copied = moved_more k old.blocks i moves old.held (g.C.Device.state c.loop-one.pool).held (g.C.Device.state c.copy_one.new.pool).held within c.requires.apart
          (g.met.C.Device.measured c.args.pool.now) before.told c.copy_one.ensures.told before.copied c.in_ok-copy_one.ensures.copied;
      crash = λ base here. kept_more k (copies moves) base (before.crash base here)
          (λ here'. c.copy_one.ensures.crash (stands_some k (copies moves)) base (covers k moves i within) here');
      told = c.copy_one.ensures.told ∙ before.told;
      place = keeps_place before.place c.copy_one.ensures.place;
      faults = c.in_ok-copy_one.ensures.faults ∙ before.faults;
    }

pub returns-clause-copied : goal.returns-clause-copied
returns-clause-copied g c =
    moved_all c.args.each c.loop-one.one-index c.args.moves.now (g.C.Device.state c.args.pool.now).held (g.C.Device.state c.loop-one.pool).held c.loop-one-test.false c.loop-one.invariant.copied
