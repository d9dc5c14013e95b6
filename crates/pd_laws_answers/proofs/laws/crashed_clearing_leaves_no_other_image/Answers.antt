use Rattle.pd_laws_answers.proofs.Cleared.{leaves_cleared, leaves_torn}
use Rattle.pd_laws_answers.proofs.laws.crashed_clearing_leaves_no_other_image.Goals as goal

pub returns-clause-image : goal.returns-clause-image
returns-clause-image c = λ flagged passing path before after status answered.
    leaves_cleared flagged passing (c.cleared_images_pass.ensures flagged passing) c.faults_are_none_where_clean.ensures c.reports_tell_leaks.ensures path before after status answered

pub returns-clause-superblock : goal.returns-clause-superblock
returns-clause-superblock c = λ flagged passing path before after status answered.
    leaves_torn flagged passing c.faults_are_none_where_clean.ensures c.reports_tell_leaks.ensures path before after status answered
