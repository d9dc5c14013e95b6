use Rattle.std.proofs.Common.{ℕ, List, ◌+◌, ◌-◌, ◌<◌, ◌≤◌, ◌++◌, length, map, sym, ap, arith}
use Rattle.std.proofs.lemmas.Option.{IfSome_then}
use Rattle.std.proofs.lemmas.Result.{on_ok_weaker}
use Rattle.pd_kinds.specs.Graph.{block_at}
use Rattle.pd_kinds.proofs.ResultLemmas.{if_both, on_ok_any}
use Rattle.pd_value.specs.declared.thin.BlockTime.{BlockTime}
use Rattle.pd_tree.specs.Below.{items_below}
use Rattle.pd_tree.specs.Stack.{child_weight, stack_items, stack_number}
use Rattle.pd_tree.proofs.NextLemmas.{items_outside}
use Rattle.pd_tree.proofs.StackLemmas.{unit_some}
use Rattle.pd_meaning_thin.specs.Runs.{block_time_of}
use Rattle.pd_meaning_thin.specs.Runs.{mapping_of}
use Rattle.pd_query.specs.declared.query.QueryFault.TheVariants.{Device}
use Rattle.pd_pool_dumps.specs.ThinText.{given_text}
use Rattle.pd_pool_dumps.specs.LeafText.{runs_with}
use Rattle.pd_pool_dumps.specs.LeafText.{leaf_mappings}
use Rattle.pd_query.proofs.QueryLemmas.{one_told, prints_none}
use Rattle.pd_pool_dumps.proofs.RunLemmas.{runs_same, runs_then}
use Rattle.pd_pool_dumps.proofs.LeafTextLemmas.{leaf_below, with_items}
use Rattle.pd_pool_dumps.proofs.device_walk.DeviceWalk.go_to.Goals as goal

pub returns-in-Some-clause-prints : goal.returns-in-Some-clause-prints
returns-in-Some-clause-prints g c =
    let held = (g.D.Device.state c.args.dev.now).held in
    let old = c.args.self.now in
    let found = one_told held (λ image kept. c.in-Some.ensures image kept) c.requires.kept in
    runs_then held c.add_kept.result
    (runs_same held _ c.args.counts.now (one_told held (λ image kept. leaf_below old.joined image (63 - old.stack.depth) c.args.b (stack_items 8 block_time_of image old.stack) kept.leaf) found))
    (c.add_kept.ensures.prints held (λ image. leaf_mappings (block_at image c.args.b)) (λ image. map mapping_of (stack_items 8 block_time_of image old.stack)) (one_told held (λ image kept. kept.text_is) found))

pub returns-in-Some-clause-number : goal.returns-in-Some-clause-number
returns-in-Some-clause-number g c =
    let stack = c.args.self.now.stack in
    let less : stack_number 8 stack < stack_number 8 stack + child_weight (64 - stack.depth) = omega (arith, unit_some (64 - stack.depth)) in
    on_ok_any c.add_kept.result less

pub returns-in-Some-clause-texts : goal.returns-in-Some-clause-texts
returns-in-Some-clause-texts g c = on_ok_any c.add_kept.result c.requires.kept

pub returns-then-b-blocks-clause-prints : goal.returns-then-b-blocks-clause-prints
returns-then-b-blocks-clause-prints g c =
    let past = c.if-b-blocks.true in
    let old = c.args.self.now in
    record {
      outcome = runs_same (g.D.Device.state c.args.dev.now).held _ _ (IfSome_then (g.D.Device.state c.args.dev.now).held c.blocks-2.ensures.honest (λ image honest.
          let outside : length image ≤ c.args.b = omega arith in
          ap (λ (xs : List (ℕ × BlockTime)). with_items old.joined (xs ++ stack_items 8 block_time_of image old.stack)) (items_outside 8 block_time_of image (63 - old.stack.depth) c.args.b outside)));
    }

pub returns-then-b-blocks-clause-number : goal.returns-then-b-blocks-clause-number
returns-then-b-blocks-clause-number g c = omega (arith, unit_some (64 - c.args.self.now.stack.depth))

pub returns-in-Ok-clause-prints : goal.returns-in-Ok-clause-prints
returns-in-Ok-clause-prints g c =
    let held = (g.D.Device.state c.args.dev.now).held in
    runs_then held c.meet.result
    (runs_same held _ c.args.counts.now (one_told held (λ image items. ap (λ (xs : List (ℕ × BlockTime)). with_items c.args.self.now.joined xs) (sym items)) c.in-Ok.ensures.items))
    (c.meet.ensures.prints held)

pub returns-in-Ok-clause-texts : goal.returns-in-Ok-clause-texts
returns-in-Ok-clause-texts g c =
    on_ok_weaker c.meet.result (λ keeps. if_both (g.D.Device.state c.args.dev.now).held (λ image read kept. keeps image read kept) c.in-Ok.ensures.pushes.read c.requires.kept) c.meet.ensures.texts

pub returns-in-Ok-clause-number : goal.returns-in-Ok-clause-number
returns-in-Ok-clause-number g c = let pushed = c.in-Ok.ensures.number in on_ok_weaker c.meet.result (λ less. omega arith) c.meet.ensures.number

pub returns-in-Err-clause-prints : goal.returns-in-Err-clause-prints
returns-in-Err-clause-prints g c =
    let old = c.args.self.now in
    record {
      outcome = prints_none (g.D.Device.state c.args.dev.now).held Device
          (λ image. given_text (runs_with old (items_below 8 block_time_of image (63 - old.stack.depth) c.args.b ++ stack_items 8 block_time_of image old.stack))) _;
    }
