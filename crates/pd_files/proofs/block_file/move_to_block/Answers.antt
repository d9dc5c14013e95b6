use Rattle.std.proofs.Common.{refl}
use Rattle.pd_files.proofs.GivenLemmas.{one_look}
use Rattle.pd_files.proofs.block_file.move_to_block.Goals as goal

pub returns-clause-made : goal.returns-clause-made
returns-clause-made g c = rw c.move_to.ensures (one_look _ _ refl)
