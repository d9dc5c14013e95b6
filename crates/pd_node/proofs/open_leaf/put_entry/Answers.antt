use Rattle.pd_node.proofs.Begun.{more_of}
use Rattle.pd_node.proofs.open_leaf.put_entry.Goals as goal

pub returns : goal.returns
returns g c =
    rw (c.put_value.ensures, c.SIZE-2.ensures, c.put_u64.ensures, c.max_entries_of.ensures, c.SIZE.ensures)
    (more_of g.V.Value.SIZE c.args.block.now.0 c.args.i (record { key = c.args.key; value = g.V.Value.code c.args.value })
    c.requires.begun c.requires.within c.ranges.key.fits (g.met.V.Value.code_below c.args.value c.requires.fits))
