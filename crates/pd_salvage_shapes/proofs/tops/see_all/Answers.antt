use Rattle.std.proofs.Common.{refl, subst, ◌∙◌, arith}
use Rattle.std.proofs.lemmas.List.{length-take-le}
use Rattle.pd_image.proofs.CrashLemmas.{only_reads_both}
use Rattle.pd_salvage_shapes.specs.Tops.{SeesNext}
use Rattle.pd_salvage_shapes.proofs.SeenLemmas.{sees_none}
use Rattle.pd_salvage_shapes.proofs.tops.see_all.Goals as goal

pub loop-i-init : goal.loop-i-init
loop-i-init g c = record {
  sees = rw c.new-seen.ensures.items (sees_none (g.D.Device.state c.args.dev.now).held c.args.visiting.now c.requires.table);
  kept = record { held = refl; access = refl; path = refl; blocks = refl; history = refl };
  faults = refl;
}

pub see_next-requires-clause-number : goal.see_next-requires-clause-number
see_next-requires-clause-number g c = c.loop-i.invariant.sees.number ∙ length-take-le c.loop-i.i c.args.tops.now (omega arith)

pub loop-i-preserved : goal.loop-i-preserved
loop-i-preserved g c =
    let inv = c.loop-i.invariant in
    let next =
    subst (λ o. SeesNext o c.args.tops.now c.loop-i.i c.loop-i.seen.items c.see_next.new.seen.items c.loop-i.visiting c.see_next.new.visiting) inv.kept.held
    c.in_ok-see_next.ensures.sees in
    record {
      sees = next c.args.visiting.now inv.sees;
      kept = only_reads_both inv.kept c.in_ok-see_next.ensures.kept;
      faults = c.in_ok-see_next.ensures.faults ∙ inv.faults;
    }
