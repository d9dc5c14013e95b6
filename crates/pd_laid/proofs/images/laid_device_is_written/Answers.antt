use Rattle.pd_laid.proofs.LaidLemmas.{device_written}
use Rattle.pd_laid.proofs.images.laid_device_is_written.Goals as goal

pub returns : goal.returns
returns c = device_written
