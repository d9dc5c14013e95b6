use Rattle.std.proofs.Common.{[], IfSome, subst}
use Rattle.std.proofs.lemmas.Result.{on_ok_weaker}
use Rattle.pd_kinds.proofs.ResultLemmas.{if_both}
use Rattle.pd_tree.specs.Stack.{stack_items, stack_nodes}
use Rattle.pd_meaning_thin.specs.Runs.{block_time_of}
use Rattle.pd_uses.specs.ListWalk.{Walks, told_of}
use Rattle.pd_uses.proofs.ListWalkLemmas.{walks_both, walks_root}
use Rattle.pd_uses.proofs.list_walk.tally_row.Goals as goal

pub returns-clause-walks : goal.returns-clause-walks
returns-clause-walks g c =
    let id = c.args.row.now.id in
    on_ok_weaker c.tally_left.result
    (λ last.
    if_both (g.D.Device.state c.args.dev.now).held
    (λ image first last.
    walks_both
    (walks_root image id c.args.row.now.root c.clear.new.self (stack_nodes 8 image c.go_to.new.stack) (told_of id (stack_items 8 block_time_of image c.go_to.new.stack)) c.args.meets.now c.go_to.new.meets
    c.args.tallies.now c.clear.ensures (first id c.args.tallies.now)) last)
    c.in_ok-go_to.ensures.walks
    (subst (λ o. IfSome o (λ image. Walks image (stack_nodes 8 image c.go_to.new.stack) [] (told_of id (stack_items 8 block_time_of image c.go_to.new.stack)) [] c.go_to.new.meets c.tally_left.new.meets
    c.args.tallies.now c.tally_left.new.tallies)) c.in_ok-go_to.ensures.kept.held last))
    c.tally_left.ensures.walks
