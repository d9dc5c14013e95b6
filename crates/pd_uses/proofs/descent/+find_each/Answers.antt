use Rattle.std.proofs.Common.{◌∙◌, ◌-◌, [], IfSome, false, get_or, take, refl, subst}
use Rattle.std.proofs.lemmas.List.{take_more}
use Rattle.pd_kinds.proofs.ResultLemmas.{if_any}
use Rattle.pd_image.proofs.CrashLemmas.{only_reads_both}
use Rattle.pd_uses.specs.declared.descent.Opened.{Opened}
use Rattle.pd_uses.specs.Descent.{IsOpened}
use Rattle.pd_uses.specs.FoundUses.{Finds, IsRight}
use Rattle.pd_uses.specs.Hits.{hits_each}
use Rattle.pd_uses.proofs.FoundLemmas.{finds_nothing, told_below, told_more}
use Rattle.pd_uses.proofs.HitLemmas.{each_zero}
use Rattle.pd_uses.proofs.descent.+find_each.Goals as goal
use Rattle.pd_uses.proofs.descent.+find_each.Goals.{in-Done, in-Inner+in_ok-here-in-Inner}

pub loop-b-init : goal.loop-b-init
loop-b-init g t c = record {
  finds = if_any (g.D.Device.state c.args.dev.now).held (λ image right. finds_nothing c.args.wanted.region image c.args.wanted.id (hits_each c.args.wanted.region image c.args.edges []) false (each_zero c.args.wanted.region image c.args.edges) right);
  kept = record { held = refl; access = refl; path = refl; blocks = refl; history = refl };
  faults = refl;
}

pub loop-b-preserved : goal.loop-b-preserved
loop-b-preserved g t c =
    let held = (g.D.Device.state c.args.dev.now).held in
    let region = c.args.wanted.region in
    let id = c.args.wanted.id in
    let i = c.loop-b.b-index in
    let b = get_or c.args.blocks.now i 0 in
    let before = c.loop-b.found in
    let mid = c.open_node.new.found in
    let CameOf : Opened → Type 0 = λ opened. IfSome held (λ image. IsRight region image before → IsOpened region image id c.args.edges b opened before mid) in
    let opened : CameOf c.in_ok-here.field-0 =
    subst (λ o. IfSome o (λ image. IsRight region image before → IsOpened region image id c.args.edges b c.in_ok-here.field-0 before mid)) c.loop-b.invariant.kept.held c.in_ok-here.ensures.opened in
    let kept = only_reads_both c.loop-b.invariant.kept c.in_ok-here.ensures.kept in
    record {
      finds =
          rw (take_more c.args.blocks.now i 0 c.loop-b-test.true)
          (told_more held region id c.args.edges b (take i c.args.blocks.now) c.loop-b.some c.match-branch-2.here c.args.found.now before c.match-branch-2.found c.loop-b.invariant.finds
          (elim c.match-branch-2.branch [
            | in-Done w ↦ rw (w.found-is, w.here-is) (subst CameOf w.in-Done.is opened)
            | in-Inner+in_ok-here-in-Inner w ↦
                let last = w.find_each.new.found in
                rw (w.found-is, w.here-is)
                (told_below held region id c.args.edges b w.in-Inner.below.items w.in_ok-here-in-Inner.here before mid last w.close.new.self (subst CameOf w.in-Inner.is opened)
                (subst (λ o. IfSome o (λ image. IsRight region image mid → Finds region image id (hits_each region image (c.args.edges - 1) w.in-Inner.below.items) w.in_ok-here-in-Inner.here mid last)) kept.held
                (rw w.as_slice.ensures.value at w.in_ok-here-in-Inner.ensures.finds)) w.close.ensures)
          ]));
      kept = elim c.match-branch-2.branch [
        | in-Done w ↦ rw w.dev-is kept
        | in-Inner+in_ok-here-in-Inner w ↦ rw w.dev-is (only_reads_both kept w.in_ok-here-in-Inner.ensures.kept)
      ];
      faults = elim c.match-branch-2.branch [
        | in-Done w ↦ rw w.dev-is (c.in_ok-here.ensures.faults ∙ c.loop-b.invariant.faults)
        | in-Inner+in_ok-here-in-Inner w ↦ rw w.dev-is (w.in_ok-here-in-Inner.ensures.faults ∙ (c.in_ok-here.ensures.faults ∙ c.loop-b.invariant.faults))
      ];
    }
