use Rattle.std.proofs.Common.{nat_eq, nat_lt, not, refl, sym, ◌∙◌, ap, eq-eqb, arith}
use Rattle.std.proofs.lemmas.Bool.{le-ltb, lt-ltb}
use Rattle.pd_graph.specs.declared.notes.Note.{Note}
use Rattle.pd_graph.specs.Notes.{size_of, note_in}
use Rattle.pd_settle.specs.Looking.{blocks_of_edges, is_low, is_high}
use Rattle.pd_settle.proofs.LookLemmas.{one_of, all_more, low_by}
use Rattle.pd_settle.proofs.looking.look.Goals as goal

pub returns-then-nr-child : goal.returns-then-nr-child
returns-then-nr-child g c =
    let child = c.child_at-child.result in
    let nr = size_of c.args.notes.now in
    let cs = blocks_of_edges ((g.F.Format.contents c.args.format.now).edges c.args.role c.args.block.now.0) in
    let number = c.nr.ensures.number in
    let past = c.if-nr-child.true in
    record { outside = one_of (λ d. not (nat_lt d nr)) cs c.loop-i.i child c.child_at-child.ensures (ap not (le-ltb child nr (omega arith))) }

pub returns-then-is_unknown : goal.returns-then-is_unknown
returns-then-is_unknown g c =
    let child = c.child_at-child.result in
    let cs = blocks_of_edges ((g.F.Format.contents c.args.format.now).edges c.args.role c.args.block.now.0) in
    let number = c.nr.ensures.number in
    let small = c.if-nr-child.false in
    record {
      child = one_of (λ d. nat_eq d child) cs c.loop-i.i child c.child_at-child.ensures (eq-eqb child child refl);
      within = omega arith;
      height = sym (ap (λ (n : Note). n.height) c.note-height.ensures) ∙ c.if-is_unknown.true;
    }

pub returns-then-height-ge64 : goal.returns-then-height-ge64
returns-then-height-ge64 g c =
    let notes = note_in c.args.notes.now in
    let cs = blocks_of_edges ((g.F.Format.contents c.args.format.now).edges c.args.role c.args.block.now.0) in
    let high = c.if-height-ge64.true in
    record {
      high =
          one_of (λ d. is_high (notes d)) cs c.loop-i.i c.child_at-child.result c.child_at-child.ensures
          (ap is_high (sym c.note-height.ensures) ∙ ap not (le-ltb c.note-height.result.height 64 (omega arith)));
    }

pub loop-i-preserved : goal.loop-i-preserved
loop-i-preserved g c =
    let child = c.child_at-child.result in
    let nr = size_of c.args.notes.now in
    let notes = note_in c.args.notes.now in
    let cs = blocks_of_edges ((g.F.Format.contents c.args.format.now).edges c.args.role c.args.block.now.0) in
    let number = c.nr.ensures.number in
    let small = c.if-nr-child.false in
    record {
      within = all_more (λ d. nat_lt d nr) cs c.loop-i.i child c.loop-i.invariant.within c.child_at-child.ensures (lt-ltb child nr (omega arith));
      low =
          all_more (λ d. is_low (notes d)) cs c.loop-i.i child c.loop-i.invariant.low c.child_at-child.ensures
          (ap is_low (sym c.note-height.ensures) ∙ low_by c.note-height.result c.if-is_unknown.false c.if-height-ge64.false);
    }
