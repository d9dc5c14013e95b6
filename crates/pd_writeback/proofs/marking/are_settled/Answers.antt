use Rattle.std.proofs.Common.{◌≡◌, true, false, get_or, sym, ◌∙◌, arith, rules}
use Rattle.std.proofs.lemmas.Bool.Decides.{nat_tests}
use Rattle.std.proofs.lemmas.List.Folds.{list_all_at}
use Rattle.std.proofs.lemmas.Option.{IfSome_then}
use Rattle.pd_kinds.specs.Graph.{block_at}
use Rattle.pd_image.proofs.CrashLemmas.{only_reads_both}
use Rattle.pd_tree.proofs.StackLemmas.{read_found}
use Rattle.pd_tree.proofs.NextLemmas.{if_both}
use Rattle.pd_writeback.specs.Copied.{is_block_settled}
use Rattle.pd_writeback.proofs.UnchangedLemmas.{all_if, so_far}
use Rattle.pd_writeback.proofs.marking.are_settled.Goals as goal

pub loop-place-preserved : goal.loop-place-preserved
loop-place-preserved g c =
    let before = c.loop-place.invariant in
    let held = (g.A.Device.state c.args.meta.now).held in
    let place = get_or c.args.places.now c.loop-place.place-index 0 in
    let settled_one : c.is_settled.result ≡ true = first_of (search rules, grind (arith, nat_tests)) in
    record {
      settled = if_both held
          (λ image told all here. so_far c.args.version image c.args.places.now c.loop-place.place-index c.read.new.into.0 here (sym c.is_settled.ensures ∙ settled_one) all)
          before.settled (read_found held (g.A.Device.state c.loop-place.meta).held place c.read.new.into.0 before.kept.held c.in_ok-read.ensures.content);
      kept = only_reads_both before.kept c.read.ensures.kept;
      faults = c.in_ok-read.ensures.faults ∙ before.faults;
    }

pub returns-then-not-is_settled-clause-settled : goal.returns-then-not-is_settled-clause-settled
returns-then-not-is_settled-clause-settled g c =
    let before = c.loop-place.invariant in
    let held = (g.A.Device.state c.args.meta.now).held in
    let place = get_or c.args.places.now c.loop-place.place-index 0 in
    let unsettled : c.is_settled.result ≡ false = first_of (search rules, grind (arith, nat_tests)) in
    IfSome_then held (read_found held (g.A.Device.state c.loop-place.meta).held place c.read.new.into.0 before.kept.held c.in_ok-read.ensures.content)
    (λ image here. sym (list_all_at (λ p. is_block_settled c.args.version (block_at image p)) c.args.places.now c.loop-place.place-index 0 c.loop-place-test.true
    (rw here (sym c.is_settled.ensures ∙ unsettled))))

pub returns-clause-settled : goal.returns-clause-settled
returns-clause-settled g c =
    IfSome_then (g.A.Device.state c.args.meta.now).held c.loop-place.invariant.settled
    (λ image all. sym (all_if (λ p. is_block_settled c.args.version (block_at image p)) c.args.places.now (λ k within. all k (let past = c.loop-place-test.false in omega arith))))
