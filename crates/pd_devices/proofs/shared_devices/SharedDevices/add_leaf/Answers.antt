use Rattle.std.proofs.Common.{refl}
use Rattle.pd_devices.proofs.GatherLemmas.{gathered_leaf}
use Rattle.pd_devices.proofs.shared_devices.SharedDevices.add_leaf.Goals as goal

pub returns-clause-gathered : goal.returns-clause-gathered
returns-clause-gathered g c room before start l h line =
    gathered_leaf before _ _ l (c.in_ok-close.ensures.gathered room before start h line.complete) line refl refl refl refl refl refl refl refl refl
