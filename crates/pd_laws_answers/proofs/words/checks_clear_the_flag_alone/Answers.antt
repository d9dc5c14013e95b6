use Rattle.pd_laws_answers.proofs.Asked.{answered_for}
use Rattle.pd_laws_answers.proofs.Asked.{clearing_asked}
use Rattle.pd_laws_answers.proofs.words.checks_clear_the_flag_alone.Goals as goal

pub returns-clause-clears : goal.returns-clause-clears
returns-clause-clears c = λ flagged passing image before after is_image ends.
    c.cleared_image_is_clean.ensures flagged passing image before after (answered_for _ _ 0 before after (clearing_asked flagged passing image is_image) ends)

pub returns-clause-crashed : goal.returns-clause-crashed
returns-clause-crashed c = λ flagged passing image before after status is_image ends.
    c.crashed_clearing_leaves_no_other_image.ensures.image flagged passing image before after status (answered_for _ _ status before after (clearing_asked flagged passing image is_image) ends)

pub returns-clause-torn : goal.returns-clause-torn
returns-clause-torn c = λ flagged passing image before after status is_image ends.
    c.crashed_clearing_leaves_no_other_image.ensures.superblock flagged passing image before after status (answered_for _ _ status before after (clearing_asked flagged passing image is_image) ends)
