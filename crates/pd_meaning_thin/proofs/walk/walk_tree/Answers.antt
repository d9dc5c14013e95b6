use Rattle.std.proofs.Common.{◌≡◌, ◌<◌, [], ◌∷◌, ◌++◌, IfSome, length, refl, subst, ◌∙◌, arith}
use Rattle.std.proofs.lemmas.Grind.{common_steps}
use Rattle.std.proofs.lemmas.Option.{IfSome_then}
use Rattle.pd_kinds.proofs.ResultLemmas.{if_any}
use Rattle.pd_image.proofs.CrashLemmas.{only_reads_both}
use Rattle.pd_tree.proofs.NextLemmas.{if_both}
use Rattle.pd_meaning_thin.specs.Walk.{IsMet}
use Rattle.pd_meaning_thin.proofs.WalkLemmas.{IsWalking, begins, ends, step, within}
use Rattle.pd_meaning_thin.proofs.walk.walk_tree.Goals as goal

pub loop-b-init : goal.loop-b-init
loop-b-init g c = record {
  walking = if_any (g.D.Device.state c.args.dev.now).held (λ image before proper tree marked.
      rw (c.in_ok-push.ensures.items, c.requires.none) (begins image (length c.args.marks.now) before c.args.root c.args.marks.now tree marked));
  same_number = refl;
  reads = omega arith;
  kept = record { held = refl; access = refl; path = refl; blocks = refl; history = refl };
  faults = refl;
}

pub loop-b-preserved : goal.loop-b-preserved
loop-b-preserved g c =
    let before_step = c.loop-b.invariant in
    let reads = c.in_ok-meet.ensures.reads in
    let reads_before = before_step.reads in
    record {
      walking = if_both (g.D.Device.state c.args.dev.now).held
          (λ image held walking met before proper tree marked.
          let taken : IsWalking image before c.args.root c.loop-b.marks (c.pop.new.self.items ++ c.in-Some.b ∷ []) = rw c.in-Some.ensures.items at (walking before proper tree marked) in
          let inside = within image (length c.args.marks.now) before c.args.root proper tree c.loop-b.marks before_step.same_number c.pop.new.self.items c.in-Some.b taken in
          step image (length c.args.marks.now) before c.args.root proper tree c.loop-b.marks before_step.same_number c.pop.new.self.items c.in-Some.b taken
          c.meet.new.marks c.meet.new.waiting.items (met inside))
          before_step.walking
          (subst (λ o. IfSome o (λ image. c.in-Some.b < length c.loop-b.marks → IsMet image c.in-Some.b c.loop-b.marks c.meet.new.marks c.pop.new.self.items c.meet.new.waiting.items))
          before_step.kept.held c.in_ok-meet.ensures.met);
      same_number = c.in_ok-meet.ensures.same_number ∙ before_step.same_number;
      reads = omega arith;
      kept = only_reads_both before_step.kept c.in_ok-meet.ensures.kept;
      faults = c.in_ok-meet.ensures.faults ∙ before_step.faults;
    }

pub returns-clause-walked : goal.returns-clause-walked
returns-clause-walked g c =
    let none : c.loop-b.waiting.items ≡ [] = grind (arith, common_steps, c.in_default.ensures.cases, c.in_default.ensures.items) in
    IfSome_then (g.D.Device.state c.args.dev.now).held c.loop-b.invariant.walking (λ image walking before proper tree marked.
    ends image before c.args.root c.loop-b.marks (rw none at (walking before proper tree.0 marked)))
