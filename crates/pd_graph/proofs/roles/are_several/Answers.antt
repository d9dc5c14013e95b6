use Rattle.std.proofs.Common.{arith}
use Rattle.pd_graph.proofs.BitLemmas.{several_from_ones}
use Rattle.pd_graph.proofs.roles.are_several.Goals as goal

pub returns : goal.returns
returns c = several_from_ones c.args.roles (omega arith)
