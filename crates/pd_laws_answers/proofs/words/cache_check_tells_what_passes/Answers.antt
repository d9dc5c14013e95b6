use Rattle.pd_kinds.specs.declared.kind.Flagged.TheVariants.{Cache}
use Rattle.pd_kinds.specs.declared.kind.Passing.TheVariants.{Nothing, Leaks}
use Rattle.pd_laws_answers.proofs.Asked.{answered_for}
use Rattle.pd_laws_answers.proofs.Asked.{clearing_asked}
use Rattle.pd_laws_answers.proofs.words.cache_check_tells_what_passes.Goals as goal

pub returns-clause-clean : goal.returns-clause-clean
returns-clause-clean c = λ image before after status is_image ends.
    c.clearing_checks_tell_what_passes.ensures Cache Nothing image before after status (answered_for _ _ status before after (clearing_asked Cache Nothing image is_image) ends)

pub returns-clause-leaks : goal.returns-clause-leaks
returns-clause-leaks c = λ image before after status is_image ends.
    c.clearing_checks_tell_what_passes.ensures Cache Leaks image before after status (answered_for _ _ status before after (clearing_asked Cache Leaks image is_image) ends)
