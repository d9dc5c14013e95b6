use Rattle.std.proofs.Common.{◌≡◌, ap, arith}
use Rattle.pd_build.specs.Tree.{number_left}
use Rattle.pd_build.proofs.TreeLemmas.{sizes_least, grow, order_takes, order_loses, ok_or_not, on_ok}
use Rattle.pd_build.proofs.build.Builder.end_leaf.Goals as goal

pub end_leaf-requires-clause-room : goal.end_leaf-requires-clause-room
end_leaf-requires-clause-room g c =
    let is : number_left (record { leaves = c.self.inside.leaves; heads = c.self.inside.upper }) ≡ number_left c.args.self.now = ap number_left c.self.view_is in
    let more = rw (← c.self.view_is) at c.requires.more in
    let least = sizes_least (record { leaves = c.self.inside.leaves; heads = c.self.inside.upper }) more in
    omega (arith, c.requires.room)

pub invariant_of-self : goal.invariant_of-self
invariant_of-self g c =
    let low = rw (← c.self.view_is) at c.requires.low in
    order_loses (record { key = c.args.key; value = g.V.Value.code c.args.value }) c.self.inside.upper c.in_err-head.ensures.lost c.self.invariant low

pub invariant_of-self-2 : goal.invariant_of-self-2
invariant_of-self-2 g c =
    let low = rw (← c.self.view_is) at c.requires.low in
    order_takes _ c.self.inside.upper c.add_head.new.upper c.in_ok-head.ensures.takes c.self.invariant low
    (ok_or_not c.add_head.result c.add_head.ensures.added c.add_head.ensures.kept)

pub returns-clause-grows : goal.returns-clause-grows
returns-clause-grows g c =
    rw (← c.self.view_is)
    (on_ok c.add_head.result
    (λ added. grow (record { leaves = c.self.inside.leaves; heads = c.self.inside.upper }) (record { leaves = c.end_leaf.new.self; heads = c.add_head.new.upper })
    c.in_ok-head.ensures.takes added (rw (← c.self.view_is) at c.requires.more))
    c.add_head.ensures.added)
