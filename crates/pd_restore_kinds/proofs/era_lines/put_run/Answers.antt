use Rattle.std.proofs.Common.{◌≡◌, ◌++◌, refl, ◌∙◌, subst, ℕ, length-append, arith}
use Rattle.pd_draft.specs.DraftState.{draft_state}
use Rattle.pd_draft.proofs.DraftLemmas.{closed_start, closed_then}
use Rattle.pd_grammar.specs.EraText.{eras_from}
use Rattle.pd_grammar.proofs.EraLaws.{eras_length}
use Rattle.pd_restore_kinds.specs.EraReading.{HasPut}
use Rattle.pd_restore_kinds.proofs.ReadingLemmas.{put_next, put_more, put_none}
use Rattle.pd_restore_kinds.proofs.era_lines.put_run.Goals as goal

pub loop-i-init : goal.loop-i-init
loop-i-init g c = record { same_reference = refl; put = λ eras blocks start h. put_none eras blocks h; closed = closed_start _ c.requires.closed; faults = refl }

pub push-requires-clause-fits : goal.push-requires-clause-fits
push-requires-clause-fits g c =
    let r = c.requires.follow in
    let h = c.loop-i.invariant.put r.eras r.blocks r.start r.put in
    rw h.sized (omega (arith, c.ranges.era))

pub push-requires-clause-more : goal.push-requires-clause-more
push-requires-clause-more g c =
    let r = c.requires.follow in
    let h = c.loop-i.invariant.put r.eras r.blocks r.start r.put in
    omega (
      arith,
      h.number,
      r.put.number,
      r.most,
      c.loop-i-test.true,
      length-append r.eras (eras_from c.args.era c.loop-i._i),
      eras_length c.args.era c.loop-i._i,
    )

pub push-requires-clause-stood : goal.push-requires-clause-stood
push-requires-clause-stood g c =
    let r = c.requires.follow in
    (c.loop-i.invariant.put r.eras r.blocks r.start r.put).stood

pub push-requires-clause-room : goal.push-requires-clause-room
push-requires-clause-room g c =
    let r = c.requires.follow in
    let h = c.loop-i.invariant.put r.eras r.blocks r.start r.put in
    rw h.sized (omega (arith, h.room, r.there, c.loop-i.invariant.closed.kept.blocks))

pub loop-i-preserved : goal.loop-i-preserved
loop-i-preserved g c =
    let v = c.loop-i.invariant in
    let n = c.in_ok-push.ensures in
    record {
      same_reference = n.same_reference ∙ v.same_reference;
      put = λ eras blocks start h.
          put_more eras blocks c.args.era c.loop-i._i (put_next (eras ++ eras_from c.args.era c.loop-i._i) blocks c.args.era (v.put eras blocks start h) n.size n.pushes);
      closed = closed_then v.closed n.closed;
      faults = n.faults ∙ v.faults;
    }

pub returns-clause-put : goal.returns-clause-put
returns-clause-put g c eras blocks start h =
    let all : c.loop-i._i ≡ c.args.count = omega arith in
    subst (λ (n : ℕ). HasPut (eras ++ eras_from c.args.era n) blocks c.loop-i.array start (draft_state c.loop-i.draft)) all (c.loop-i.invariant.put eras blocks start h)
