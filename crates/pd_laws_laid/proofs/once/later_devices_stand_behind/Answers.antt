use Rattle.pd_laws_laid.proofs.MapLemmas.{trees-append, roots-append}
use Rattle.pd_laws_laid.proofs.once.later_devices_stand_behind.Goals as goal

pub returns-clause-trees : goal.returns-clause-trees
returns-clause-trees c = trees-append

pub returns-clause-roots : goal.returns-clause-roots
returns-clause-roots c = roots-append
