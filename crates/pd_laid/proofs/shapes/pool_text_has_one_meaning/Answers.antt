use Rattle.pd_laid.proofs.ShapeText.{meaning_lawful, one_pool}
use Rattle.pd_laid.proofs.shapes.pool_text_has_one_meaning.Goals as goal

pub returns-clause-lawful : goal.returns-clause-lawful
returns-clause-lawful c = meaning_lawful

pub returns-clause-one : goal.returns-clause-one
returns-clause-one c = one_pool
