use Rattle.std.proofs.Common.{ℕ, List, ◌≡◌, map, refl}
use Rattle.pd_kinds.specs.Graph.{block_at}
use Rattle.pd_kinds.proofs.ResultLemmas.{if_any}
use Rattle.pd_tree.specs.Stack.{last_place, stack_items}
use Rattle.pd_meaning_thin.specs.Runs.{block_time_of}
use Rattle.pd_meaning_thin.specs.Runs.{mapping_of}
use Rattle.pd_pool_dumps.specs.LeafText.{walk_runs}
use Rattle.pd_pool_dumps.specs.LeafText.{leaf_mappings}
use Rattle.pd_pool_dumps.proofs.LeafTextLemmas.{kept_here}
use Rattle.pd_pool_dumps.proofs.RunLemmas.{runs_both, runs_fail, runs_lost, runs_none, runs_same}
use Rattle.pd_pool_dumps.proofs.LeafTextLemmas.{popped, popped_number}
use Rattle.pd_pool_dumps.proofs.device_walk.DeviceWalk.meet.Goals as goal

pub returns-in-None-clause-prints : goal.returns-in-None-clause-prints
returns-in-None-clause-prints g c = λ held. record { outcome = runs_none held (λ image. walk_runs image c.args.self.now) _ _ }

pub returns-in_err-add_kept-clause-prints : goal.returns-in_err-add_kept-clause-prints
returns-in_err-add_kept-clause-prints g c = λ held.
    let old = c.args.self.now in
    let rest = λ (image : List (List ℕ)). map mapping_of (stack_items 8 block_time_of image c.pop.new.self) in
    let places : c.pop.new.self.places.items ≡ old.stack.places.items = rw c.pop.ensures.places refl in
    let lost = c.in_err-add_kept.ensures.prints held (λ image. leaf_mappings (last_place old.stack).block.0) rest (if_any held (λ image. rw c.top.ensures at c.in-Some.ensures.text)) in
    runs_fail held _ c.from_residual.result c.from_residual.ensures.0
    (runs_lost held
    (runs_same held _ c.args.counts.now (if_any held (λ image. popped old.joined image old.stack c.pop.new.self c.pop.ensures.depth places (rw c.top.ensures at c.in-Some.ensures.leaf) c.requires.whole)))
    lost.outcome)

pub returns-clause-prints : goal.returns-clause-prints
returns-clause-prints g c = λ held.
    let old = c.args.self.now in
    let rest = λ (image : List (List ℕ)). map mapping_of (stack_items 8 block_time_of image c.pop.new.self) in
    let places : c.pop.new.self.places.items ≡ old.stack.places.items = rw c.pop.ensures.places refl in
    let printed = c.in_ok-add_kept.ensures.prints held (λ image. leaf_mappings (last_place old.stack).block.0) rest (if_any held (λ image. rw c.top.ensures at c.in-Some.ensures.text)) in
    record { outcome = runs_both held (runs_same held _ c.args.counts.now (if_any held (λ image. popped old.joined image old.stack c.pop.new.self c.pop.ensures.depth places (rw c.top.ensures at c.in-Some.ensures.leaf) c.requires.whole))) printed.outcome }

pub returns-clause-texts : goal.returns-clause-texts
returns-clause-texts g c = λ image is kept.
    let read : block_at image c.args.b ≡ c.top.result.now.0 = rw c.top.ensures is in
    c.keep.ensures image (rw c.make.ensures.texts kept) (kept_here image c.args.b c.in-Some.text c.in-Some.ensures.block read c.in-Some.ensures.leaf c.in-Some.ensures.text)

pub returns-clause-number : goal.returns-clause-number
returns-clause-number g c =
    let old = c.args.self.now in
    popped_number old.stack c.pop.new.self c.pop.ensures.depth (rw c.pop.ensures.places refl)
