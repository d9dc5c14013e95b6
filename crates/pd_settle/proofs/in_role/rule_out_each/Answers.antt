use Rattle.std.proofs.Common.{Bool, ◌&&◌, not, cond, nat_eq, ◌∙◌, ap}
use Rattle.pd_graph.specs.Notes.{note_in}
use Rattle.pd_settle.specs.Settled.{is_fit}
use Rattle.pd_settle.specs.Looking.{bad_note}
use Rattle.pd_settle.proofs.RoleLemmas.{ruled_more}
use Rattle.pd_settle.proofs.in_role.rule_out_each.Goals as goal

pub loop-b-preserved : goal.loop-b-preserved
loop-b-preserved c = record {
  notes = λ d.
      ruled_more (is_fit c.args.fit.now c.args.role) d c.loop-b.b (note_in c.args.notes.now d) (note_in c.loop-b.notes d) (note_in c.rule_out.new.notes d)
      (c.loop-b.invariant.notes d)
      (c.rule_out.ensures.notes d ∙ ap (λ (x : Bool). cond (nat_eq d c.loop-b.b && not x) bad_note (note_in c.loop-b.notes d)) c.has_role-fits.ensures);
  number = c.rule_out.ensures.number ∙ c.loop-b.invariant.number;
}
