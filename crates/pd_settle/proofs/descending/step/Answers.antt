use Rattle.std.proofs.Common.{inr, ap, rules}
use Rattle.pd_graph.specs.declared.notes.Note.{Note}
use Rattle.pd_settle.specs.Looking.{shallow}
use Rattle.pd_settle.proofs.descending.step.Goals as goal

pub returns-in-Shallow : goal.returns-in-Shallow
returns-in-Shallow g c = inr (record {
  note = c.in-Shallow.note;
  verdict = shallow (search rules) c.in-Shallow.ensures.0 c.in-Shallow.ensures.1;
  closes = c.close-in-Shallow.ensures;
  below = ap (λ (n : Note). n.below) c.note-below.ensures;
})
