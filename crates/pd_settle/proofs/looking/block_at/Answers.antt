use Rattle.std.proofs.Common.{nat_lt}
use Rattle.std.proofs.lemmas.Bool.{ltb-true}
use Rattle.pd_graph.specs.Notes.{size_of}
use Rattle.pd_settle.specs.Looking.{blocks_of_edges}
use Rattle.pd_settle.proofs.LookLemmas.{place_passes}
use Rattle.pd_settle.proofs.looking.block_at.Goals as goal

pub returns-clause-within : goal.returns-clause-within
returns-clause-within g c =
    let cs = blocks_of_edges ((g.F.Format.contents c.args.format.now).edges c.args.role c.args.block.now.0) in
    let nr = size_of c.args.notes.now in
    ltb-true c.child_at.result nr (place_passes (λ d. nat_lt d nr) cs c.args.i c.child_at.result c.requires.within c.child_at.ensures)
