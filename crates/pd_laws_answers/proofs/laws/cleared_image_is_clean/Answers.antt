use Rattle.pd_laws_answers.proofs.Cleared.{holds_cleared}
use Rattle.pd_laws_answers.proofs.laws.cleared_image_is_clean.Goals as goal

pub returns : goal.returns
returns c = λ flagged passing path before after answered.
    holds_cleared flagged passing (c.cleared_images_pass.ensures flagged passing) path before after answered
    (c.clearing_checks_tell_what_passes.ensures flagged passing path before after 0 answered)
