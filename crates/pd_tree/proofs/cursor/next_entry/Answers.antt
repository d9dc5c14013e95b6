use Rattle.std.proofs.Common.{◌≡◌, ◌≤◌, ◌-◌, IfSome, length, refl, subst, arith}
use Rattle.std.proofs.lemmas.Option.{IfSome_then}
use Rattle.pd_tree.proofs.StackLemmas.{unit_some}
use Rattle.pd_tree.proofs.NextLemmas.{if_both, told_skips, told_reads, told_ends}
use Rattle.pd_tree.proofs.cursor.next_entry.Goals as goal

pub returns-in_err-push-in-Child-clause-reads_failed : goal.returns-in_err-push-in-Child-clause-reads_failed
returns-in_err-push-in-Child-clause-reads_failed g c =
    IfSome_then (g.D.Device.state c.args.dev.now).held c.loop-stack.invariant.told (λ image told.
    told_reads g.V.Value.SIZE g.V.Value.decoded image (g.D.Device.state c.args.dev.now).reads (g.D.Device.state c.loop-stack.dev).reads c.args.stack.now c.loop-stack.stack c.step.new.self told
    c.in-Child.b (g.D.Device.state c.push.new.dev).reads c.in-Child.ensures.steps c.in_err-push-in-Child.ensures.reads)

pub loop-stack-smaller : goal.loop-stack-smaller
loop-stack-smaller g c =
    let some = unit_some (64 - c.step.new.self.depth) in
    let falls = c.in-Child.ensures.steps.number in
    omega arith

pub loop-stack-preserved : goal.loop-stack-preserved
loop-stack-preserved g c =
    let falls = c.in-Child.ensures.steps.number in
    let before = c.loop-stack.invariant.number in
    let blocks = c.blocks-in-Child.ensures.honest in
    record {
      told = if_both (g.D.Device.state c.args.dev.now).held (λ image held told honest.
          told_skips g.V.Value.SIZE g.V.Value.decoded image (g.D.Device.state c.args.dev.now).reads (g.D.Device.state c.loop-stack.dev).reads c.args.stack.now c.loop-stack.stack c.step.new.self told
          c.in-Child.b c.in-Child.ensures.steps (let outside : length image ≤ c.in-Child.b = omega arith in outside))
          c.loop-stack.invariant.told
          (subst (λ o. IfSome o (λ image. c.blocks-in-Child.result ≡ length image)) c.loop-stack.invariant.kept.held blocks);
      number = omega arith;
      kept = c.loop-stack.invariant.kept;
      faults = c.loop-stack.invariant.faults;
    }

pub returns-clause-next : goal.returns-clause-next
returns-clause-next g c =
    IfSome_then (g.D.Device.state c.args.dev.now).held c.loop-stack.invariant.told (λ image told.
    told_ends g.V.Value.SIZE g.V.Value.decoded image (g.D.Device.state c.args.dev.now).reads (g.D.Device.state c.loop-stack.dev).reads c.args.stack.now c.loop-stack.stack told (c.loop-stack-test.ensures.0 refl))
