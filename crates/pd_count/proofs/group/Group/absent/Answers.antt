use Rattle.std.proofs.Common.{◌∙◌, ap, List, ℕ, length}
use Rattle.pd_count.proofs.PlaceLemmas.{none_before}
use Rattle.pd_count.proofs.group.Group.absent.Goals as goal

pub invariant_of-result : goal.invariant_of-result
invariant_of-result c = ap (length {A = List ℕ}) c.new.ensures.items ∙ none_before
