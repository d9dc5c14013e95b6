use Rattle.pd_laws_laid.proofs.ThinLaw.{law}
use Rattle.pd_laws_laid.proofs.clean.laid_shape_is_clean.Goals as goal

pub returns : goal.returns
returns c = law
