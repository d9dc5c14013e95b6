use Rattle.pd_laws_laid.proofs.ThinSuper.{used_is}
use Rattle.pd_laws_laid.proofs.clean.laid_pool_says_its_number.Goals as goal

pub returns : goal.returns
returns c = used_is
