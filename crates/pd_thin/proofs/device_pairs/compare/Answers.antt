use Rattle.std.proofs.Common.{◌∙◌}
use Rattle.pd_image.proofs.CrashLemmas.{only_reads_both}
use Rattle.pd_tree.specs.Cursor.{root_of}
use Rattle.pd_check.proofs.SharedLemmas.{keeps_both}
use Rattle.pd_thin.specs.DevicePairs.{peeked_items}
use Rattle.pd_thin.specs.DevicePairs.{cursors_reads}
use Rattle.pd_thin.specs.DevicePairs.{details_of}
use Rattle.pd_thin.proofs.TreePairLemmas.{way_more, way_last, reads_more}
use Rattle.pd_thin.proofs.device_pairs.compare.Goals as goal

pub loop-both-preserved : goal.loop-both-preserved
loop-both-preserved g c = record {
  way =
      way_more _ _ c.args.audit.now c.loop-both.audit c.take_turn.new.audit
      c.args.cursors.now.tops.first c.loop-both.cursors.tops.first c.take_turn.new.cursors.tops.first
      c.args.cursors.now.details.first c.loop-both.cursors.details.first c.take_turn.new.cursors.details.first
      (λ image. peeked_items 8 root_of image c.args.cursors.now.tops) (λ image. peeked_items 8 root_of image c.loop-both.cursors.tops) (λ image. peeked_items 8 root_of image c.take_turn.new.cursors.tops)
      (λ image. peeked_items 24 details_of image c.args.cursors.now.details) (λ image. peeked_items 24 details_of image c.loop-both.cursors.details) (λ image. peeked_items 24 details_of image c.take_turn.new.cursors.details)
      c.loop-both.same c.in-Some.both c.loop-both.invariant.kept.held c.loop-both.invariant.rules c.loop-both.invariant.way
      (rw c.in-Some.is at c.in_ok-both.ensures.way);
  reads =
      reads_more _ _ _ _ _ (λ image. cursors_reads image c.args.cursors.now) (λ image. cursors_reads image c.loop-both.cursors) (λ image. cursors_reads image c.take_turn.new.cursors)
      c.loop-both.invariant.kept.held c.loop-both.invariant.reads c.in_ok-both.ensures.reads;
  rules = keeps_both c.args.audit.now c.loop-both.audit c.take_turn.new.audit c.loop-both.invariant.rules c.take_turn.ensures.rules;
  kept = only_reads_both c.loop-both.invariant.kept c.take_turn.ensures.kept;
  faults = c.in_ok-both.ensures.faults ∙ c.loop-both.invariant.faults;
}

pub returns-clause-compared : goal.returns-clause-compared
returns-clause-compared g c =
    let ends = rw c.in_default.is at c.in_ok-both.ensures.end in
    way_last _ _ c.args.audit.now c.loop-both.audit c.take_turn.new.audit
    c.args.cursors.now.tops.first c.loop-both.cursors.tops.first c.take_turn.new.cursors.tops.first
    c.args.cursors.now.details.first c.loop-both.cursors.details.first c.take_turn.new.cursors.details.first
    (λ image. peeked_items 8 root_of image c.args.cursors.now.tops) (λ image. peeked_items 8 root_of image c.loop-both.cursors.tops) (λ image. peeked_items 8 root_of image c.take_turn.new.cursors.tops)
    (λ image. peeked_items 24 details_of image c.args.cursors.now.details) (λ image. peeked_items 24 details_of image c.loop-both.cursors.details) (λ image. peeked_items 24 details_of image c.take_turn.new.cursors.details)
    c.loop-both.same c.loop-both.invariant.kept.held c.loop-both.invariant.rules ends.0 ends.1 c.loop-both.invariant.way
    (rw c.in_default.is at c.in_ok-both.ensures.way)
