use Rattle.std.proofs.Common.{◌≡◌, Bool, false, ◌||◌, ◌&&◌, refl, ap, ◌∙◌}
use Rattle.pd_kinds.specs.Rule.{same_rule}
use Rattle.pd_kinds.specs.declared.rule.Rule.TheVariants.{Role}
use Rattle.pd_graph.specs.Marks.{has_several}
use Rattle.pd_graph.proofs.BitLemmas.{none_several}
use Rattle.pd_graph.proofs.audit.Audit.new.Goals as goal

no_rule : (kept several role : Bool) → kept ≡ false → several ≡ false → (kept || (several && role)) ≡ false
no_rule kept several role e none = rw (e, none) refl

pub returns : goal.returns
returns c = record {
  number = refl;
  walked = refl;
  roles = c.in_ok-marks.ensures.unmarked.seen;
  rules = λ b wanted. no_rule _ _ (same_rule Role wanted) (c.in_ok-marks.ensures.unmarked.rules b wanted) (ap has_several (c.in_ok-marks.ensures.unmarked.seen b) ∙ none_several);
  counts = c.in_ok-marks.ensures.unmarked.counts;
  notes = c.in_ok-notes.ensures.notes;
  unmarked = c.in_ok-marks.ensures.unmarked;
}
