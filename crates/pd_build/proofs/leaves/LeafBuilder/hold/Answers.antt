use Rattle.std.proofs.Common.{◌≤◌, ◌+◌, refl, sym, ◌∙◌, ap, arith}
use Rattle.pd_kinds.specs.Node.{Entry, max_entries}
use Rattle.pd_node.specs.Items.{HasMore, entries_in}
use Rattle.pd_build.specs.Tree.{LeavesLeft, low_of, low_after}
use Rattle.pd_build.specs.Tree.{even_sizes}
use Rattle.pd_node.proofs.Begun.{length-entries_in}
use Rattle.pd_build.proofs.TakesLemmas.{counts_next, end_of}
use Rattle.pd_build.proofs.OrderLemmas.{low_after-last}
use Rattle.pd_build.proofs.TakesLemmas.{takes_none, some_left, first_is}
use Rattle.pd_build.proofs.leaves.LeafBuilder.hold.Goals.{After-self, After-put_entry}
use Rattle.pd_build.proofs.leaves.LeafBuilder.hold.Goals as goal
use Rattle.pd_build.proofs.leaves.LeafBuilder.hold.Given as given

some_leaf : (g : given.Over) (c : After-self g) → 1 ≤ c.self.inside.leaves
some_leaf g c = some_left c.self.inside.leaves c.self.inside.items c.args.self.now (ap (λ (b : LeavesLeft). b.sizes) (sym c.self.view_is)) c.requires.more

room : (g : given.Over) (c : After-self g) → c.self.inside.size ≤ max_entries g.V.Value.SIZE
room g c = (end_of c.self.invariant.0 (some_leaf g c)).room

pub put_entry-requires-clause-within : goal.put_entry-requires-clause-within
put_entry-requires-clause-within g c =
    let most = room g (goal.at.put_entry-requires-clause-within g c).After-self in
    omega arith

pub put_entry-requires-clause-begun : goal.put_entry-requires-clause-begun
put_entry-requires-clause-begun g c = let lent = c.deref_mut.ensures.value in rw lent c.self.invariant.1

more : (g : given.Over) (c : After-put_entry g)
    → HasMore g.V.Value.SIZE c.self.inside.block.value.0 c.self.inside.count (record { key = c.args.key; value = g.V.Value.code c.args.value }) c.put_entry.new.block.0
more g c = let lent = c.deref_mut.ensures.value in rw lent at c.put_entry.ensures

pub invariant_of-self : goal.invariant_of-self
invariant_of-self g c =
    let b = (goal.at.invariant_of-self g c).After-self in
    let most = room g b in (
      counts_next c.self.invariant.0 (some_leaf g b) (omega arith),
      (more g (goal.at.invariant_of-self g c).After-put_entry).begun,
    )

pub returns-then-count-self-clause-held : goal.returns-then-count-self-clause-held
returns-then-count-self-clause-held g c _ now closed =
    let one = some_leaf g (goal.at.returns-then-count-self-clause-held g c).After-self in
    let size = g.V.Value.SIZE in
    let e : Entry = record { key = c.args.key; value = g.V.Value.code c.args.value } in
    let before = entries_in size c.self.inside.block.value.0 c.self.inside.count in
    let after = entries_in size c.put_entry.new.block.0 (c.self.inside.count + 1) in
    let low = low_of c.self.inside.last in
    let m = more g (goal.at.returns-then-count-self-clause-held g c).After-put_entry in
    let raised = ap (low_after low) m.entries ∙ low_after-last low before e in
    let count = length-entries_in size c.self.inside.block.value.0 c.self.inside.count in
    let sized = first_is c.self.invariant.0 one in
    rw (← c.self.view_is)
    (takes_none size e (record { sizes = even_sizes c.self.inside.leaves c.self.inside.items; begun = before; low = low_after low before })
    (record { sizes = even_sizes c.self.inside.leaves c.self.inside.items; begun = after; low = low_after low after }) now closed refl m.entries raised
    (rw (← c.self.view_is) at c.requires.more) (omega arith))

pub returns-clause-last : goal.returns-clause-last
returns-clause-last g c _ =
    let one = some_leaf g (goal.at.returns-clause-last g c).After-self in
    let count = length-entries_in g.V.Value.SIZE c.self.inside.block.value.0 c.self.inside.count in
    let sized = first_is c.self.invariant.0 one in
    let less = c.self.invariant.0.begun_less one in
    rw (← c.self.view_is) (omega arith)
