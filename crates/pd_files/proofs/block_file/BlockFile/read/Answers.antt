use Rattle.std.proofs.Common.{arith}
use Rattle.pd_files.proofs.GivenLemmas.{looks_then}
use Rattle.pd_files.proofs.block_file.BlockFile.read.Goals as goal

pub returns-clause-made : goal.returns-clause-made
returns-clause-made g c = looks_then 1 2 3 _ _ _ (omega arith) c.begins_run.ensures.made c.read_alone.ensures.made
