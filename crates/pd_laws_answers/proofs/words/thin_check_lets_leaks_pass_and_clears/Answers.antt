use Rattle.pd_kinds.specs.declared.kind.Flagged.TheVariants.{Pool}
use Rattle.pd_kinds.specs.declared.kind.Passing.TheVariants.{Leaks}
use Rattle.pd_laws_answers.proofs.Asked.{answered_for}
use Rattle.pd_laws_answers.proofs.Asked.{clearing_asked}
use Rattle.pd_laws_answers.proofs.words.thin_check_lets_leaks_pass_and_clears.Goals as goal

pub returns-clause-tells : goal.returns-clause-tells
returns-clause-tells c = λ image before after status is_image ends.
    c.clearing_checks_tell_what_passes.ensures Pool Leaks image before after status (answered_for _ _ status before after (clearing_asked Pool Leaks image is_image) ends)

pub returns-clause-clears : goal.returns-clause-clears
returns-clause-clears c = λ image before after is_image ends.
    c.cleared_image_is_clean.ensures Pool Leaks image before after (answered_for _ _ 0 before after (clearing_asked Pool Leaks image is_image) ends)
