use Rattle.pd_salvage_shapes.proofs.LeafTable.{note_leaves}
use Rattle.pd_salvage_shapes.proofs.uses.count_note.Goals as goal

pub returns-clause-counted : goal.returns-clause-counted
returns-clause-counted c = λ blocks are. rw (note_leaves c.args.note.now c.requires.some c.if-not-note.false) (c.count_use.ensures.counted blocks are)
