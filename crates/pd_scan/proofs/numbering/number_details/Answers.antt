use Rattle.std.proofs.Common.{ℕ, ◌+◌, IfSome, ◌∙◌, subst}
use Rattle.pd_kinds.proofs.ResultLemmas.{if_both}
use Rattle.pd_image.proofs.CrashLemmas.{only_reads_both}
use Rattle.pd_laid.specs.FoundRoots.{lost_graph}
use Rattle.pd_scan.specs.Numbers.{AreNumbered, AreTold}
use Rattle.pd_scan.proofs.NumberLemmas.{details_twice, told_by_details}
use Rattle.pd_scan.proofs.numbering.number_details.Goals as goal

pub loop-b-preserved : goal.loop-b-preserved
loop-b-preserved g c =
    let step = c.in_ok-number_details_tree.ensures in
    let old = c.loop-b.trees in
    let new = c.number_details_tree.new.trees in
    record {
      numbered = if_both (g.D.Device.state c.args.dev.now).held
          (λ image one before data_blocks told.
          one data_blocks (told_by_details (lost_graph image data_blocks) image c.args.trees.now old told c.loop-b.invariant.measures) (before data_blocks told))
          (subst (λ o. IfSome o (λ image. (data_blocks : ℕ) → AreTold (lost_graph image data_blocks) image old
          → AreNumbered (lost_graph image data_blocks) image old.details_measures c.loop-b.b c.loop-b.numbers
          → AreNumbered (lost_graph image data_blocks) image new.details_measures (c.loop-b.b + 1) c.number_details_tree.new.numbers))
          c.loop-b.invariant.kept.held step.numbered)
          c.loop-b.invariant.numbered;
      measures = details_twice c.args.trees.now old new c.loop-b.invariant.measures step.measures;
      kept = only_reads_both c.loop-b.invariant.kept step.kept;
      faults = step.faults ∙ c.loop-b.invariant.faults;
    }
