use Rattle.std.proofs.Common.{sym, ◌∙◌}
use Rattle.pd_salvage_shapes.proofs.NoteLemmas.{note_inside, note_outside}
use Rattle.pd_salvage_shapes.proofs.note.LeafNote.lies_in.Goals as goal

pub returns-clause-inside : goal.returns-clause-inside
returns-clause-inside c = λ blocks is yes. note_inside blocks c.args.self.now c.args.range.now is (sym c.is_between.ensures ∙ yes)

pub returns-clause-outside : goal.returns-clause-outside
returns-clause-outside c = λ blocks is no. note_outside blocks c.args.self.now c.args.range.now is (sym c.is_between.ensures ∙ no)
