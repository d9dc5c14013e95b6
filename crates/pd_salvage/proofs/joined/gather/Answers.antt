use Rattle.std.proofs.Common.{◌≤◌, ℕ, None, Some, IfSome, subst, ◌∙◌, arith, refl}
use Rattle.std.proofs.lemmas.Option.{IfSome_then}
use Rattle.pd_value.specs.declared.thin.BlockTime.{BlockTime}
use Rattle.pd_meaning_thin.specs.Runs.{block_time_of}
use Rattle.pd_image.proofs.CrashLemmas.{only_reads_both}
use Rattle.pd_tree.specs.Stack.{IsNext}
use Rattle.pd_salvage.specs.Cursor.{saved_least, saved_left}
use Rattle.pd_salvage.specs.Gather.{to_come}
use Rattle.pd_salvage.proofs.GatherLemmas.{all_gathered, comes_kept, comes_none, comes_skipped, skips_mapping, takes_mapping, time_below}
use Rattle.pd_salvage.proofs.joined.gather.Goals as goal

pub loop-virt-preserved-in-Continue-branch-3 : goal.loop-virt-preserved-in-Continue-branch-3
loop-virt-preserved-in-Continue-branch-3 g c =
    let now = c.loop-virt.mappings in
    let later = c.next_known.new.self in
    let blocks = c.args.blocks in
    let virt = c.in-Some.virt in
    let value = c.in-Some.mapping in
    let gathers = c.loop-virt.invariant.gathers in
    let ascends = rw c.in-Some.is at c.in_ok-virt.ensures.ascends in
    let kept = c.loop-virt.invariant.kept in
    let reads = c.in_ok-virt.ensures.kept in
    let taken = c.in_ok-take.ensures.takes c.args.runs.now gathers.ms gathers.gathered in
    let comes =
    IfSome_then (g.D.Device.state c.args.dev.now).held
    (subst (λ o. IfSome o (λ image. IsNext (Some (virt, value)) (saved_left 8 block_time_of image now) (saved_left 8 block_time_of image later))) kept.held (rw c.in-Some.is at c.in_ok-virt.ensures.next))
    (λ image next. comes_kept blocks virt value (saved_left 8 block_time_of image now) (saved_left 8 block_time_of image later) next c.if-mapping-blocks.true) in
    record {
      gathers =
          takes_mapping blocks (saved_least c.args.mappings.now) (g.D.Device.state c.args.dev.now).held
          (λ image. to_come blocks image c.args.mappings.now) (λ image. to_come blocks image now) (λ image. to_come blocks image later)
          (saved_least now) (saved_least later) c.args.runs.now c.loop-virt.runs c.loop-virt.gathering gathers virt value
          ascends.0 ascends.1
          c.take.new.runs c.take.new.self taken
          c.in_ok-take.ensures.fits c.if-mapping-blocks.true (time_below value (rw c.in-Some.is at c.in_ok-virt.ensures.fits)) comes;
      room = c.in_ok-virt.ensures.room ∙ c.loop-virt.invariant.room;
      knows = rw kept.held at c.in_ok-virt.ensures.knows;
      kept = only_reads_both kept reads;
      faults = c.in_ok-virt.ensures.faults ∙ c.loop-virt.invariant.faults;
    }

pub loop-virt-preserved : goal.loop-virt-preserved
loop-virt-preserved g c =
    let now = c.loop-virt.mappings in
    let later = c.next_known.new.self in
    let blocks = c.args.blocks in
    let virt = c.in-Some.virt in
    let value = c.in-Some.mapping in
    let gathers = c.loop-virt.invariant.gathers in
    let ascends = rw c.in-Some.is at c.in_ok-virt.ensures.ascends in
    let kept = c.loop-virt.invariant.kept in
    let reads = c.in_ok-virt.ensures.kept in
    let out : blocks ≤ value.block = omega arith in
    let comes =
    IfSome_then (g.D.Device.state c.args.dev.now).held
    (subst (λ o. IfSome o (λ image. IsNext (Some (virt, value)) (saved_left 8 block_time_of image now) (saved_left 8 block_time_of image later))) kept.held (rw c.in-Some.is at c.in_ok-virt.ensures.next))
    (λ image next. comes_skipped blocks virt value (saved_left 8 block_time_of image now) (saved_left 8 block_time_of image later) next out) in
    record {
      gathers =
          skips_mapping blocks (saved_least c.args.mappings.now) (g.D.Device.state c.args.dev.now).held
          (λ image. to_come blocks image c.args.mappings.now) (λ image. to_come blocks image now) (λ image. to_come blocks image later)
          (saved_least now) (saved_least later) c.args.runs.now c.loop-virt.runs c.loop-virt.gathering gathers virt value
          ascends.0 ascends.1 comes;
      room = c.in_ok-virt.ensures.room ∙ c.loop-virt.invariant.room;
      knows = rw kept.held at c.in_ok-virt.ensures.knows;
      kept = only_reads_both kept reads;
      faults = c.in_ok-virt.ensures.faults ∙ c.loop-virt.invariant.faults;
    }

pub returns-clause-gathered : goal.returns-clause-gathered
returns-clause-gathered g c =
    let now = c.loop-virt.mappings in
    let later = c.next_known.new.self in
    let blocks = c.args.blocks in
    let gathers = c.loop-virt.invariant.gathers in
    let kept = c.loop-virt.invariant.kept in
    let ends =
    IfSome_then (g.D.Device.state c.args.dev.now).held
    (subst (λ o. IfSome o (λ image. IsNext {X = ℕ × BlockTime} None (saved_left 8 block_time_of image now) (saved_left 8 block_time_of image later))) kept.held (rw c.in_default.is at c.in_ok-virt.ensures.next))
    (λ image next. comes_none blocks (saved_left 8 block_time_of image now) (saved_left 8 block_time_of image later) next) in
    all_gathered blocks (saved_least c.args.mappings.now) (g.D.Device.state c.args.dev.now).held
    (λ image. to_come blocks image c.args.mappings.now) (λ image. to_come blocks image now) (saved_least now)
    c.args.runs.now c.loop-virt.runs c.end.new.runs c.loop-virt.gathering c.loop-virt.gathering.mapped gathers
    (c.in_ok-end.ensures c.args.runs.now gathers.ms gathers.gathered.joining) refl ends
