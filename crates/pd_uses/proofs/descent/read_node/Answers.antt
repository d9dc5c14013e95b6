use Rattle.std.proofs.Common.{◌≤◌, length, false, arith}
use Rattle.std.proofs.lemmas.Option.{IfSome_then}
use Rattle.pd_tree.proofs.StackLemmas.{block_found}
use Rattle.pd_query.proofs.QueryLemmas.{one_told}
use Rattle.pd_uses.specs.Hits.{hits_below}
use Rattle.pd_uses.proofs.FoundLemmas.{finds_nothing}
use Rattle.pd_uses.proofs.HitLemmas.{below_outside}
use Rattle.pd_uses.proofs.descent.read_node.Goals as goal

pub returns-then-b-blocks-clause-opened : goal.returns-then-b-blocks-clause-opened
returns-then-b-blocks-clause-opened g c =
    let past = c.if-b-blocks.true in
    let region = c.args.wanted.region in
    IfSome_then (g.D.Device.state c.args.dev.now).held c.blocks-2.ensures.honest (λ image honest right.
    let outside : length image ≤ c.args.b = omega arith in
    finds_nothing region image c.args.wanted.id (hits_below region image c.args.edges c.args.b) false (below_outside region image c.args.edges c.args.b outside) right)

pub returns-in_ok-take_node-in-Ok-clause-opened : goal.returns-in_ok-take_node-in-Ok-clause-opened
returns-in_ok-take_node-in-Ok-clause-opened g c =
    one_told (g.D.Device.state c.args.dev.now).held
    (λ image content right. c.in_ok-take_node-in-Ok.ensures.opened image (block_found image c.args.b c.read.new.into.0 content) right) c.in-Ok.ensures.content
