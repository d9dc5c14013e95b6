use Rattle.std.proofs.Common.{◌≤◌, ◌-◌, length, refl, sym, arith}
use Rattle.std.proofs.lemmas.Option.{IfSome_then}
use Rattle.pd_kinds.proofs.ResultLemmas.{if_any}
use Rattle.pd_tree.specs.Stack.{frontier}
use Rattle.pd_tree.proofs.StackLemmas.{unit_some}
use Rattle.pd_meaning_thin.specs.Runs.{block_time_of}
use Rattle.pd_meaning_thin.specs.Walk.{shared_blocks}
use Rattle.pd_meaning_thin.proofs.PieceLemmas.{parts_leaf, parts_outside, pushed_parts, pushed_reads, read_some}
use Rattle.pd_meaning_thin.proofs.part_search.go_to.Goals as goal

pub returns-in-Some-clause-parts : goal.returns-in-Some-clause-parts
returns-in-Some-clause-parts g c =
    if_any (g.D.Device.state c.args.dev.now).held (λ image.
    rw (parts_leaf (shared_blocks c.args.shared.now) image (63 - c.args.stack.now.depth) c.args.b c.in-Some.number (sym c.in-Some.ensures)) refl)

pub returns-in-Some-clause-number : goal.returns-in-Some-clause-number
returns-in-Some-clause-number g c = omega (arith, unit_some (64 - c.args.stack.now.depth))

pub returns-in_err-push-in-None-clause-reads_failed : goal.returns-in_err-push-in-None-clause-reads_failed
returns-in_err-push-in-None-clause-reads_failed g c =
    let one = c.in_err-push-in-None.ensures.reads in
    if_any (g.D.Device.state c.args.dev.now).held (λ image.
    omega (arith, read_some (shared_blocks c.args.shared.now) image (63 - c.args.stack.now.depth) c.args.b (sym c.in-None.ensures)))

pub returns-in_ok-push-in-None-clause-parts : goal.returns-in_ok-push-in-None-clause-parts
returns-in_ok-push-in-None-clause-parts g c =
    IfSome_then (g.D.Device.state c.args.dev.now).held c.in_ok-push-in-None.ensures.left (λ image left.
    pushed_parts (shared_blocks c.args.shared.now) image (63 - c.args.stack.now.depth) c.args.b (frontier 8 block_time_of c.args.stack.now) (frontier 8 block_time_of c.push.new.self) (sym c.in-None.ensures) left)

pub returns-in_ok-push-in-None-clause-reads : goal.returns-in_ok-push-in-None-clause-reads
returns-in_ok-push-in-None-clause-reads g c =
    let one = c.in_ok-push-in-None.ensures.reads in
    IfSome_then (g.D.Device.state c.args.dev.now).held c.in_ok-push-in-None.ensures.left (λ image left.
    let read = pushed_reads (shared_blocks c.args.shared.now) image (63 - c.args.stack.now.depth) c.args.b (frontier 8 block_time_of c.args.stack.now) (frontier 8 block_time_of c.push.new.self) (sym c.in-None.ensures) left in
    omega arith)

pub returns-in_ok-push-in-None-clause-reads_failed : goal.returns-in_ok-push-in-None-clause-reads_failed
returns-in_ok-push-in-None-clause-reads_failed g c =
    let one = c.in_ok-push-in-None.ensures.reads in
    if_any (g.D.Device.state c.args.dev.now).held (λ image.
    omega (arith, read_some (shared_blocks c.args.shared.now) image (63 - c.args.stack.now.depth) c.args.b (sym c.in-None.ensures)))

pub returns-else-b-blocks-clause-parts : goal.returns-else-b-blocks-clause-parts
returns-else-b-blocks-clause-parts g c =
    IfSome_then (g.D.Device.state c.args.dev.now).held c.blocks-in-None.ensures.honest (λ image honest.
    let outside : length image ≤ c.args.b = omega arith in
    rw (parts_outside (shared_blocks c.args.shared.now) image (63 - c.args.stack.now.depth) c.args.b (sym c.in-None.ensures) outside) refl)

pub returns-else-b-blocks-clause-number : goal.returns-else-b-blocks-clause-number
returns-else-b-blocks-clause-number g c = omega (arith, unit_some (64 - c.args.stack.now.depth))
