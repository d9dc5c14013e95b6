use Rattle.pd_graph.specs.Notes.{note_in}
use Rattle.pd_settle.specs.Looking.{blocks_of_edges}
use Rattle.pd_settle.proofs.LookLemmas.{summing_read}
use Rattle.pd_settle.proofs.looking.sum_up.Goals as goal

pub loop-i-preserved : goal.loop-i-preserved
loop-i-preserved g c =
    let contents = g.F.Format.contents c.args.format.now in
    record {
      sums =
          summing_read (note_in c.args.notes.now) (contents.keys c.args.role c.args.block.now.0)
          (blocks_of_edges (contents.edges c.args.role c.args.block.now.0))
          c.loop-i.i c.key_of_any-low.result c.block_at-child.result c.key_at-high.result c.loop-i.sum c.note-note.result c.join-sum.result c.loop-i.in_range c.is_in_range-fits.result
          c.loop-i.invariant.sums c.requires.low c.key_of_any-low.ensures c.block_at-child.ensures.child c.note-note.ensures
          c.key_at-high.ensures c.join-sum.ensures c.is_in_range-fits.ensures;
    }
