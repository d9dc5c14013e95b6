use Rattle.std.proofs.Common.{◌≡◌, ◌≤◌, ℕ, [], refl, ◌∙◌, ap, arith}
use Rattle.pd_kinds.specs.Node.{max_entries}
use Rattle.pd_kinds.proofs.KindLemmas.{room_some}
use Rattle.pd_grammar.specs.Need.{nodes_for}
use Rattle.pd_build.specs.Tree.{even_sizes}
use Rattle.pd_build.proofs.TakesLemmas.{parts_some}
use Rattle.pd_build.proofs.TakesLemmas.{start_items, start_leaves, started, none_then}
use Rattle.pd_build.proofs.PartLemmas.{length-even}
use Rattle.pd_build.proofs.leaves.LeafBuilder.new.Goals as goal
use Rattle.pd_build.proofs.leaves.LeafBuilder.new.Given as given

most_is : (g : given.Over) (c : goal.After-first_of g) → c.parts-leaves.result ≡ nodes_for (max_entries g.V.Value.SIZE) c.args.n
most_is g c =
    c.parts-leaves.ensures ∙ ap (λ (m : ℕ). nodes_for m c.args.n) (c.max_entries_of-most.ensures ∙ ap max_entries c.SIZE.ensures)

room : (g : given.Over) → 1 ≤ max_entries g.V.Value.SIZE
room g = room_some g.V.Value.SIZE g.met.V.Value.size_most

pub invariant_of-result : goal.invariant_of-result
invariant_of-result g c =
    let block = c.in_ok-block.ensures.ok in (
      started (max_entries g.V.Value.SIZE) c.args.n (room g) (most_is g c) c.first_of.ensures refl,
      rw block (c.new_leaf.ensures.begun g.V.Value.SIZE),
    )

pub returns-clause-leaves : goal.returns-clause-leaves
returns-clause-leaves g c some items count =
    let is = parts_some (max_entries g.V.Value.SIZE) c.args.n (room g) some in
    start_leaves g.V.Value.SIZE c.parts-leaves.result (record { sizes = even_sizes c.parts-leaves.result c.args.n; begun = []; low = 0 }) items (rw count (most_is g c)) (omega (arith, most_is g c))
    (rw count refl) refl

pub returns-clause-items : goal.returns-clause-items
returns-clause-items g c =
    start_items c.parts-leaves.result c.args.n (record { sizes = even_sizes c.parts-leaves.result c.args.n; begun = []; low = 0 })
    (none_then (max_entries g.V.Value.SIZE) c.args.n (room g) (most_is g c)) refl refl

pub returns-clause-number : goal.returns-clause-number
returns-clause-number g c = length-even c.parts-leaves.result c.args.n ∙ most_is g c
