use Rattle.std.proofs.lemmas.Option.{IfSome_then}
use Rattle.pd_kinds.proofs.ResultLemmas.{if_any}
use Rattle.pd_damaged.proofs.KnownLemmas.{inner_right, joined_right}
use Rattle.pd_damaged.proofs.remains.look_at_inner.Goals as goal

pub returns-then-lie_in_range-clause-found : goal.returns-then-lie_in_range-clause-found
returns-then-lie_in_range-clause-found g c =
    let table = c.args.table.now in
    let block = c.args.block.now.0 in
    let height = c.in-Some.height in
    let kept = c.joined-kept.result in
    if_any (g.D.Device.state c.args.dev.now).held (λ image here sound are.
    inner_right table image are c.args.b c.requires.inside height kept block here sound c.requires.inner c.in-Some.ensures.height
    (joined_right table image are c.args.b c.requires.inside height kept block here sound c.requires.inner c.in-Some.ensures.height
    (c.lie_in_range.ensures c.if-lie_in_range.true) c.joined-kept.ensures))

pub returns-in_ok-kept-in-Some-clause-found : goal.returns-in_ok-kept-in-Some-clause-found
returns-in_ok-kept-in-Some-clause-found g c =
    IfSome_then (g.D.Device.state c.args.dev.now).held c.in_ok-kept-in-Some.ensures.below (λ image is here sound are.
    inner_right c.args.table.now image are c.args.b c.requires.inside c.in-Some.height c.in_ok-kept-in-Some.kept c.args.block.now.0 here sound c.requires.inner
    c.in-Some.ensures.height is)
