use Rattle.std.proofs.Common.{sym}
use Rattle.pd_graph.proofs.TableLemmas.{length-values}
use Rattle.pd_graph.proofs.block_table.BlockTable.places.Goals as goal

pub returns : goal.returns
returns g c = sym (length-values c.args.self.now)
