use Rattle.std.proofs.Common.{◌≡◌, ◌∙◌, ℕ, List, [], false, true, ap, sym, subst}
use Rattle.pd_kinds.specs.Graph.{block_at}
use Rattle.pd_kinds.specs.Node.{is_inner_node}
use Rattle.pd_uses.specs.declared.found.HitNote.TheVariants.{Bare}
use Rattle.pd_uses.specs.declared.hits.Hit.{Hit}
use Rattle.pd_uses.specs.FoundUses.{Finds, HasLeaf}
use Rattle.pd_uses.specs.Hits.{hits_in}
use Rattle.pd_uses.proofs.FoundLemmas.{finds_leaf, finds_noted, finds_nothing}
use Rattle.pd_uses.proofs.HitLemmas.{below_leaf}
use Rattle.pd_uses.proofs.descent.find_leaf.Goals as goal

pub returns-then-is_empty : goal.returns-then-is_empty
returns-then-is_empty c = λ image is right.
    let region = c.args.wanted.region in
    let hits : List Hit = hits_in region c.args.block.now.0 in
    let none : hits ≡ [] = sym c.in_ok-hits.ensures ∙ c.is_empty.ensures c.if-is_empty.true in
    let plain : is_inner_node (block_at image c.args.b) ≡ false = ap is_inner_node is ∙ c.requires in
    finds_noted region image c.args.wanted.id c.args.b (Bare 4294967295) hits (finds_nothing region image c.args.wanted.id hits false none right) c.set_note.ensures
    (λ j nearer. below_leaf region image j c.args.b plain ∙ (ap (hits_in region) is ∙ none))

pub returns : goal.returns
returns c = λ image is right.
    let region = c.args.wanted.region in
    let plain : is_inner_node (block_at image c.args.b) ≡ false = ap is_inner_node is ∙ c.requires in
    let came : HasLeaf c.in_ok-number.number (hits_in region (block_at image c.args.b)) c.args.found.now c.add_leaf.new.self =
    subst (λ (hits : List Hit). HasLeaf c.in_ok-number.number hits c.args.found.now c.add_leaf.new.self) (c.in_ok-hits.ensures ∙ ap (hits_in region) (sym is)) c.in_ok-number.ensures in
    subst (λ (block : List ℕ). Finds region image c.args.wanted.id (hits_in region block) true c.args.found.now c.visit.new.self) is
    (finds_leaf region image c.args.wanted.id c.args.b c.in_ok-number.number plain right came c.set_note-2.ensures c.in_ok-visit.ensures)
