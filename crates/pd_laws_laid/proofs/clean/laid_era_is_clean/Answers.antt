use Rattle.pd_laws_laid.proofs.EraLaw.{need_law, takes_need}
use Rattle.pd_laws_laid.proofs.clean.laid_era_is_clean.Goals as goal

pub returns-clause-clean : goal.returns-clause-clean
returns-clause-clean c = need_law

pub returns-clause-need : goal.returns-clause-need
returns-clause-need c = takes_need
