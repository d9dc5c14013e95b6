use Rattle.std.proofs.Common.{ℕ, ◌++◌, ◌-◌, ◌∙◌, IfSome, refl, subst}
use Rattle.std.proofs.lemmas.Option.{IfSome_then}
use Rattle.pd_kinds.proofs.ResultLemmas.{if_both}
use Rattle.pd_image.proofs.CrashLemmas.{only_reads_both}
use Rattle.pd_tree.specs.Below.{items_below, nodes_below}
use Rattle.pd_tree.specs.Stack.{stack_items, stack_nodes}
use Rattle.pd_meaning_thin.specs.Runs.{block_time_of}
use Rattle.pd_query.proofs.QueryLemmas.{one_told}
use Rattle.pd_uses.specs.declared.tallies.Tallies.{Tallies}
use Rattle.pd_uses.specs.ListWalk.{Walks, told_of}
use Rattle.pd_uses.proofs.ListWalkLemmas.{walks_both, walks_down, walks_ended, walks_given}
use Rattle.pd_uses.proofs.list_walk.tally_left.Goals as goal

-- a child
pub loop-stack-preserved-in-Continue-1 : goal.loop-stack-preserved-in-Continue-1
loop-stack-preserved-in-Continue-1 g c =
    let so_far = c.loop-stack.invariant in
    let goes = subst (λ o. IfSome o (λ image. (id : ℕ) (tallies : Tallies) → Walks image
    (nodes_below 8 image (63 - c.step.new.self.depth) c.in-Child.b ++ stack_nodes 8 image c.step.new.self) (stack_nodes 8 image c.go_to.new.stack)
    (told_of id (items_below 8 block_time_of image (63 - c.step.new.self.depth) c.in-Child.b ++ stack_items 8 block_time_of image c.step.new.self))
    (told_of id (stack_items 8 block_time_of image c.go_to.new.stack)) c.loop-stack.meets c.go_to.new.meets tallies tallies))
    so_far.kept.held c.in_ok-go_to-in-Child.ensures.walks in
    record {
      walks = if_both (g.D.Device.state c.args.dev.now).held
          (λ image before goes.
          walks_both before
          (walks_down image c.args.id c.in-Child.b c.loop-stack.stack c.step.new.self (stack_nodes 8 image c.go_to.new.stack) (told_of c.args.id (stack_items 8 block_time_of image c.go_to.new.stack))
          c.loop-stack.meets c.go_to.new.meets c.loop-stack.tallies c.in-Child.ensures.steps (goes c.args.id c.loop-stack.tallies))) so_far.walks goes;
      kept = only_reads_both so_far.kept c.in_ok-go_to-in-Child.ensures.kept;
      faults = c.in_ok-go_to-in-Child.ensures.faults ∙ so_far.faults;
    }

-- an entry
pub loop-stack-preserved : goal.loop-stack-preserved
loop-stack-preserved g c =
    let so_far = c.loop-stack.invariant in
    record {
      walks = one_told (g.D.Device.state c.args.dev.now).held
          (λ image before.
          walks_both before
          (walks_given image c.args.id c.in-Entry.virt c.in-Entry.mapping c.loop-stack.stack c.step.new.self c.loop-stack.meets c.loop-stack.tallies c.take.new.self c.in-Entry.ensures.steps c.in_ok-take-in-Entry.ensures))
          so_far.walks;
      kept = so_far.kept;
      faults = so_far.faults;
    }

pub returns-clause-walks : goal.returns-clause-walks
returns-clause-walks g c =
    IfSome_then (g.D.Device.state c.args.dev.now).held c.loop-stack.invariant.walks (λ image walks.
    walks_ended image c.args.id c.loop-stack.stack (c.loop-stack-test.ensures.0 refl) walks)
