use Rattle.pd_laws_laid.proofs.EraNamed.{era_named_once}
use Rattle.pd_laws_laid.proofs.once.each_block_of_an_era_target_is_named_once.Goals as goal

pub returns : goal.returns
returns c = era_named_once
