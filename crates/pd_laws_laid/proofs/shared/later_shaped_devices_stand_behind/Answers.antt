use Rattle.pd_laws_laid.proofs.WrittenParts.{roots-append, trees-append}
use Rattle.pd_laws_laid.proofs.shared.later_shaped_devices_stand_behind.Goals as goal

pub returns-clause-trees : goal.returns-clause-trees
returns-clause-trees c = trees-append

pub returns-clause-roots : goal.returns-clause-roots
returns-clause-roots c = roots-append
