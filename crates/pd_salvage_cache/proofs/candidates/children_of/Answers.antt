use Rattle.std.proofs.Common.{List, Bool, false, get_or, length, ap, ◌∙◌}
use Rattle.pd_salvage_cache.proofs.FullerLemmas.{none_in}
use Rattle.pd_salvage_cache.proofs.candidates.children_of.Goals as goal

pub mark_all-requires-clause-none : goal.mark_all-requires-clause-none
mark_all-requires-clause-none g c = λ d.
    ap (λ (marks : List Bool). get_or marks d false) (c.as_mut_slice.ensures.value ∙ c.in_ok-marks.ensures) ∙ none_in (length c.args.words.now) d
