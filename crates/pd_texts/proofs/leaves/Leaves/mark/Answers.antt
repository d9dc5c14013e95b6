use Rattle.std.proofs.Common.{set, sym, ap, ◌∙◌}
use Rattle.std.proofs.lemmas.Bool.{not-true}
use Rattle.pd_texts.specs.declared.leaves.ToldLeaf.{ToldLeaf}
use Rattle.pd_texts.proofs.StateLemmas.{leaf_marked, marked}
use Rattle.pd_texts.proofs.leaves.Leaves.mark.Goals as goal

pub returns-then-not-leaf : goal.returns-then-not-leaf
returns-then-not-leaf c = λ before are within.
    leaf_marked c.args.self.now _ before c.args.number are within
    (ap (λ (leaf : ToldLeaf). leaf.is_used) (sym c.leaf-leaf.ensures) ∙ not-true _ c.if-not-leaf.true)
    (ap (λ (leaf : ToldLeaf). set c.args.self.now.told.items c.args.number (marked leaf)) c.leaf-leaf.ensures) c.saturating_sub-self.ensures
