use Rattle.pd_laws_laid.proofs.CacheLaw.{law, version_law}
use Rattle.pd_laws_laid.proofs.clean.laid_cache_is_clean.Goals as goal

pub returns-clause-clean : goal.returns-clause-clean
returns-clause-clean c = law

pub returns-clause-version : goal.returns-clause-version
returns-clause-version c = version_law
