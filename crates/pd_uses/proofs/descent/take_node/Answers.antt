use Rattle.std.proofs.Common.{◌≡◌, ◌∙◌, ◌<◌, ◌-◌, ℕ, List, false, true, refl, ap, sym, subst, arith}
use Rattle.pd_kinds.specs.Graph.{block_at}
use Rattle.pd_kinds.specs.Node.{is_inner_node}
use Rattle.pd_tree.specs.Below.{kids_from}
use Rattle.pd_uses.specs.declared.hits.Hit.{Hit}
use Rattle.pd_uses.specs.FoundUses.{Finds}
use Rattle.pd_uses.specs.Hits.{hits_below, hits_each, hits_in}
use Rattle.pd_uses.proofs.FoundLemmas.{finds_nothing}
use Rattle.pd_uses.proofs.HitLemmas.{below_deep, below_inner, below_leaf}
use Rattle.pd_uses.proofs.descent.take_node.Goals as goal

pub returns-then-not-is_inner-clause-opened : goal.returns-then-not-is_inner-clause-opened
returns-then-not-is_inner-clause-opened c = λ image is right.
    let region = c.args.wanted.region in
    let plain : is_inner_node (block_at image c.args.b) ≡ false = ap is_inner_node is ∙ (sym c.is_inner.ensures ∙ c.if-not-is_inner.true) in
    subst (λ (hits : List Hit). Finds region image c.args.wanted.id hits c.in_ok-some.some c.args.found.now c.find_leaf.new.found) (sym (below_leaf region image c.args.edges c.args.b plain ∙ ap (hits_in region) is))
    (c.in_ok-some.ensures image is right)

pub returns-then-edges-eq0-clause-opened : goal.returns-then-edges-eq0-clause-opened
returns-then-edges-eq0-clause-opened c = λ image is right.
    let region = c.args.wanted.region in
    let inner : is_inner_node (block_at image c.args.b) ≡ true = ap is_inner_node is ∙ (sym c.is_inner.ensures ∙ c.if-not-is_inner.false) in
    finds_nothing region image c.args.wanted.id (hits_below region image c.args.edges c.args.b) false (below_deep region image c.args.edges c.args.b c.if-edges-eq0.true inner) right

pub returns-clause-opened : goal.returns-clause-opened
returns-clause-opened c = λ image is right.
    let region = c.args.wanted.region in
    let not_zero = c.if-edges-eq0.false in
    let some : 0 < c.args.edges = omega arith in
    let inner : is_inner_node (block_at image c.args.b) ≡ true = ap is_inner_node is ∙ (sym c.is_inner.ensures ∙ c.if-not-is_inner.false) in (
      refl,
      below_inner region image c.args.edges c.args.b some inner
          ∙ ap (hits_each region image (c.args.edges - 1)) (ap (λ (block : List ℕ). kids_from 8 block 0) is ∙ sym c.in_ok-children.ensures),
    )
