use Rattle.std.proofs.Common.{◌∙◌, [], IfSome, get_or, take, refl, subst}
use Rattle.std.proofs.lemmas.List.{take_more}
use Rattle.pd_kinds.proofs.ResultLemmas.{if_any}
use Rattle.pd_image.proofs.CrashLemmas.{only_reads_both}
use Rattle.pd_meaning_era.specs.declared.descent.Opened.{Opened}
use Rattle.pd_meaning_era.specs.Notes.{Goes, IsOpened}
use Rattle.pd_meaning_era.specs.Notes.{words_at_each}
use Rattle.pd_meaning_era.specs.Notes.{Knows}
use Rattle.pd_meaning_era.proofs.LevelLemmas.{each_none_at}
use Rattle.pd_meaning_era.proofs.KnownLemmas.{goes_nothing}
use Rattle.pd_meaning_era.proofs.KnownLemmas.{told_below, told_done}
use Rattle.pd_meaning_era.proofs.descent.+add_each.Goals as goal
use Rattle.pd_meaning_era.proofs.descent.+add_each.Goals.{in-Done, in-Below+in_ok-after-in-Below}

pub loop-b-init : goal.loop-b-init
loop-b-init g t c = record {
  goes = if_any (g.D.Device.state c.args.dev.now).held (λ image knows. goes_nothing image c.args.end c.args.at (words_at_each image c.args.level []) c.args.walk.now (each_none_at image c.args.level) knows);
  kept = record { held = refl; access = refl; path = refl; blocks = refl; history = refl };
  faults = refl;
}

pub loop-b-preserved : goal.loop-b-preserved
loop-b-preserved g t c =
    let held = (g.D.Device.state c.args.dev.now).held in
    let level = c.args.level in
    let i = c.loop-b.b-index in
    let b = get_or c.args.blocks.now i 0 in
    let start = c.args.walk.now in
    let before = c.loop-b.walk in
    let at = c.loop-b.next in
    let mid = c.open.new.walk in
    let CameOf : Opened → Type 0 = λ opened. IfSome held (λ image. Knows image before → IsOpened image level b at c.args.end opened before mid) in
    let opened : CameOf c.in_ok-after.field-0 =
    subst (λ o. IfSome o (λ image. Knows image before → IsOpened image level b at c.args.end c.in_ok-after.field-0 before mid)) c.loop-b.invariant.kept.held c.in_ok-after.ensures.opened in
    let kept = only_reads_both c.loop-b.invariant.kept c.in_ok-after.ensures.kept in
    record {
      goes =
          rw (take_more c.args.blocks.now i 0 c.loop-b-test.true)
          (elim c.match-branch-2.branch [
            | in-Done w ↦ rw (w.walk-is, w.next-is)
                (told_done held level c.args.end c.args.at at w.in-Done.after (take i c.args.blocks.now) b start before mid c.loop-b.invariant.goes (subst CameOf w.in-Done.is opened))
            | in-Below+in_ok-after-in-Below w ↦
                let went = w.add_each.new.walk in
                rw (w.walk-is, w.next-is)
                (told_below held level w.in-Below.lower c.args.end c.args.at at w.in_ok-after-in-Below.after (take i c.args.blocks.now) w.in-Below.below.items b start before mid went w.note.new.self
                c.loop-b.invariant.goes (subst CameOf w.in-Below.is opened)
                (subst (λ o. IfSome o (λ image. Knows image mid → Goes image c.args.end at (words_at_each image w.in-Below.lower w.in-Below.below.items) w.in_ok-after-in-Below.after mid went)) kept.held
                (rw w.as_slice.ensures.value at w.in_ok-after-in-Below.ensures.goes)) w.note.ensures.era w.note.ensures.rows w.note.ensures.noted)
          ]);
      kept = elim c.match-branch-2.branch [
        | in-Done w ↦ rw w.dev-is kept
        | in-Below+in_ok-after-in-Below w ↦ rw w.dev-is (only_reads_both kept w.in_ok-after-in-Below.ensures.kept)
      ];
      faults = elim c.match-branch-2.branch [
        | in-Done w ↦ rw w.dev-is (c.in_ok-after.ensures.faults ∙ c.loop-b.invariant.faults)
        | in-Below+in_ok-after-in-Below w ↦ rw w.dev-is (w.in_ok-after-in-Below.ensures.faults ∙ (c.in_ok-after.ensures.faults ∙ c.loop-b.invariant.faults))
      ];
    }
