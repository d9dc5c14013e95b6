use Rattle.pd_laws_laid.proofs.ThinLaw.{meaning_law, takes_need}
use Rattle.pd_laws_laid.proofs.clean.laid_pool_is_clean.Goals as goal

pub returns-clause-clean : goal.returns-clause-clean
returns-clause-clean c = meaning_law

pub returns-clause-need : goal.returns-clause-need
returns-clause-need c = takes_need
