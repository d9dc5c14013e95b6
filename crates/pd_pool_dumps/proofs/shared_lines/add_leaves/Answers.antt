use Rattle.std.proofs.Common.{ℕ, ◌+◌, List, drop, ap, ◌∙◌, arith}
use Rattle.std.proofs.lemmas.List.{drop_all}
use Rattle.pd_kinds.proofs.ResultLemmas.{if_any}
use Rattle.pd_grammar.specs.Texts.{text_of_lines}
use Rattle.pd_image.proofs.CrashLemmas.{only_reads_both}
use Rattle.pd_lines.specs.Printer.{printing}
use Rattle.pd_grammar.specs.ThinText.{thin}
use Rattle.pd_meaning_thin.specs.Walk.{shared_blocks}
use Rattle.pd_pool_dumps.specs.SharedLines.{leaves_lines}
use Rattle.pd_query.proofs.QueryLemmas.{lost_with, so_far_all, so_far_lost, so_far_more}
use Rattle.pd_pool_dumps.proofs.SharedTextLemmas.{leaf_first}
use Rattle.pd_pool_dumps.proofs.shared_lines.add_leaves.Goals as goal

pub returns-in_err-add_leaf-clause-prints : goal.returns-in_err-add_leaf-clause-prints
returns-in_err-add_leaf-clause-prints g c =
    let shared = shared_blocks c.args.shared.now in
    let within = c.loop-number-test.true in
    lost_with (g.D.Device.state c.args.dev.now).held {new = printing g.K.Sink.state c.add_leaf.new.printer} c.from_residual.result c.from_residual.ensures.0
    (so_far_lost (g.D.Device.state c.args.dev.now).held (λ image. text_of_lines thin (leaves_lines image (c.loop-number.number + 1) (drop (c.loop-number.number + 1) shared))) c.loop-number.invariant.so_far
    (if_any (g.D.Device.state c.args.dev.now).held (λ image. leaf_first image shared c.loop-number.number (omega arith)))
    (rw (c.loop-number.invariant.kept.held, c.block.ensures) at c.in_err-add_leaf.ensures.prints))

pub loop-number-preserved : goal.loop-number-preserved
loop-number-preserved g c =
    let shared = shared_blocks c.args.shared.now in
    let within = c.loop-number-test.true in
    record {
      same_reference = c.in_ok-add_leaf.ensures.same_reference ∙ c.loop-number.invariant.same_reference;
      so_far = so_far_more (g.D.Device.state c.args.dev.now).held c.loop-number.invariant.so_far
          (if_any (g.D.Device.state c.args.dev.now).held (λ image. leaf_first image shared c.loop-number.number (omega arith)))
          (rw (c.loop-number.invariant.kept.held, c.block.ensures) at c.in_ok-add_leaf.ensures.prints);
      kept = only_reads_both c.loop-number.invariant.kept c.in_ok-add_leaf.ensures.kept;
      dev_faults = c.in_ok-add_leaf.ensures.faults.0 ∙ c.loop-number.invariant.dev_faults;
      out_faults = c.in_ok-add_leaf.ensures.faults.1 ∙ c.loop-number.invariant.out_faults;
    }

pub returns-clause-prints : goal.returns-clause-prints
returns-clause-prints g c =
    let shared = shared_blocks c.args.shared.now in
    let past = c.loop-number-test.false in
    so_far_all (g.D.Device.state c.args.dev.now).held tt c.loop-number.invariant.so_far
    (if_any (g.D.Device.state c.args.dev.now).held (λ image. ap (λ (blocks : List ℕ). text_of_lines thin (leaves_lines image c.loop-number.number blocks)) (drop_all c.loop-number.number shared (omega arith))))
