use Rattle.std.proofs.Common.{◌≡◌, ℕ, ◌+◌, IfSome, ◌∙◌, ap, subst}
use Rattle.pd_kinds.proofs.ResultLemmas.{if_both}
use Rattle.pd_image.proofs.CrashLemmas.{only_reads_both}
use Rattle.pd_graph.specs.Notes.{size_of}
use Rattle.pd_laid.specs.FoundRoots.{lost_graph}
use Rattle.pd_scan.specs.declared.trees.LostTrees.{LostTrees}
use Rattle.pd_scan.specs.Numbers.{AreTold, AreTopsNumbered}
use Rattle.pd_scan.proofs.NumberLemmas.{told_by_tops, tops_twice}
use Rattle.pd_scan.proofs.numbering.number_tops.Goals as goal

pub loop-top-preserved : goal.loop-top-preserved
loop-top-preserved g c =
    let step = c.in_ok-number_top.ensures in
    let old = c.loop-top.trees in
    let new = c.number_top.new.trees in
    let size : size_of old.tops ≡ size_of c.args.trees.now.tops = ap (λ (t : LostTrees). size_of t.tops) c.loop-top.invariant.measures.same in
    record {
      numbered = if_both (g.D.Device.state c.args.dev.now).held
          (λ image one before data_blocks told.
          one data_blocks (told_by_tops (lost_graph image data_blocks) image c.args.trees.now old told c.loop-top.invariant.measures) (before data_blocks told))
          (subst (λ o. IfSome o (λ image. (data_blocks : ℕ) → AreTold (lost_graph image data_blocks) image old
          → AreTopsNumbered (lost_graph image data_blocks) image c.args.numbers.now (size_of c.args.trees.now.tops) c.loop-top.top old.top_measures
          → AreTopsNumbered (lost_graph image data_blocks) image c.args.numbers.now (size_of c.args.trees.now.tops) (c.loop-top.top + 1) new.top_measures))
          c.loop-top.invariant.kept.held
          (subst (λ n. IfSome (g.D.Device.state c.loop-top.dev).held (λ image. (data_blocks : ℕ) → AreTold (lost_graph image data_blocks) image old
          → AreTopsNumbered (lost_graph image data_blocks) image c.args.numbers.now n c.loop-top.top old.top_measures
          → AreTopsNumbered (lost_graph image data_blocks) image c.args.numbers.now n (c.loop-top.top + 1) new.top_measures)) size step.numbered))
          c.loop-top.invariant.numbered;
      measures = tops_twice c.args.trees.now old new c.loop-top.invariant.measures step.measures;
      kept = only_reads_both c.loop-top.invariant.kept step.kept;
      faults = step.faults ∙ c.loop-top.invariant.faults;
    }
