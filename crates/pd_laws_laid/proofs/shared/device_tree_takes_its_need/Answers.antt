use Rattle.pd_laws_laid.proofs.DeviceNames.{device_need}
use Rattle.pd_laws_laid.proofs.shared.device_tree_takes_its_need.Goals as goal

pub returns : goal.returns
returns c = device_need
