use Rattle.std.proofs.Common.{◌+◌, ◌≤◌, None, Some, IfSome, ◌∙◌, subst, arith}
use Rattle.pd_image.proofs.CrashLemmas.{only_reads_both}
use Rattle.pd_tree.proofs.NextLemmas.{if_both}
use Rattle.pd_meaning_thin.specs.Walk.{shared_blocks}
use Rattle.pd_meaning_thin.specs.declared.parts.Found.TheVariants.{Mapping}
use Rattle.pd_meaning_thin.specs.declared.pieces.PieceRuns.{PieceRuns}
use Rattle.pd_meaning_thin.specs.Pieces.{IsNextPart, parts_left, parts_reads}
use Rattle.pd_meaning_thin.proofs.PieceLemmas.{few_begun, if_three, mapping_taken, no_leaf}
use Rattle.pd_meaning_thin.proofs.pieces.PieceRuns.next.Goals as goal

pub returns-in-Some-clause-next : goal.returns-in-Some-clause-next
returns-in-Some-clause-next g c =
    let none = no_leaf c.loop-self.self.waiting c.loop-self-test.ensures in
    let blocks = shared_blocks c.args.shared.now in
    if_both (g.D.Device.state c.args.dev.now).held
    (λ image held told next.
    told.pieces ∙ mapping_taken (Some c.in-Some.run') blocks image c.loop-self.self (record { parts = c.next.new.self; joined = c.take.new.self; waiting = c.loop-self.self.waiting }) (c.in-Some-Mapping.virt, c.in-Some-Mapping.mapping)
    none none next c.in-Some.ensures)
    c.loop-self.invariant.told
    (subst (λ o. IfSome o (λ image. IsNextPart (Some (Mapping c.in-Some-Mapping.virt c.in-Some-Mapping.mapping)) (parts_left blocks image c.loop-self.self.parts) (parts_left blocks image c.next.new.self))) c.loop-self.invariant.kept.held
    (rw (c.in-Some-Mapping.is, c.in-Some-Mapping.field-0-is) at c.in_ok-virt.ensures.next))

pub loop-self-preserved-in_default : goal.loop-self-preserved-in_default
loop-self-preserved-in_default g c =
    let none = no_leaf c.loop-self.self.waiting c.loop-self-test.ensures in
    let blocks = shared_blocks c.args.shared.now in
    let new : PieceRuns = record { parts = c.next.new.self; joined = c.take.new.self; waiting = c.loop-self.self.waiting } in
    let less = rw c.in-Some-Mapping.is at c.in_ok-virt.ensures.number in
    let few = few_begun c.take.new.self.begun in
    let before = c.loop-self.invariant.number in
    record {
      told = if_three (g.D.Device.state c.args.dev.now).held
          (λ image told next reads. record {
            pieces = told.pieces ∙ mapping_taken None blocks image c.loop-self.self new (c.in-Some-Mapping.virt, c.in-Some-Mapping.mapping) none none next c.in_default.ensures;
            reads_left = let made = told.reads_left in omega arith;
          })
          c.loop-self.invariant.told
          (subst (λ o. IfSome o (λ image. IsNextPart (Some (Mapping c.in-Some-Mapping.virt c.in-Some-Mapping.mapping)) (parts_left blocks image c.loop-self.self.parts) (parts_left blocks image c.next.new.self))) c.loop-self.invariant.kept.held
          (rw (c.in-Some-Mapping.is, c.in-Some-Mapping.field-0-is) at c.in_ok-virt.ensures.next))
          (subst (λ o. IfSome o (λ image. (g.D.Device.state c.next.new.dev).reads + parts_reads blocks image c.next.new.self ≤ (g.D.Device.state c.loop-self.dev).reads + parts_reads blocks image c.loop-self.self.parts)) c.loop-self.invariant.kept.held
          c.in_ok-virt.ensures.reads);
      number = omega arith;
      kept = only_reads_both c.loop-self.invariant.kept c.in_ok-virt.ensures.kept;
      faults = c.in_ok-virt.ensures.faults ∙ c.loop-self.invariant.faults;
    }
