use Rattle.std.proofs.Common.{◌≡◌, List, [], ◌++◌, append_assoc, ap, sym, ◌∙◌, refl, arith, rules}
use Rattle.std.proofs.lemmas.List.{append-nil}
use Rattle.pd_kinds.specs.Node.{Entry, leaf_block}
use Rattle.pd_laid.specs.LaidThin.{mapping_items}
use Rattle.pd_laid.proofs.LaidLemmas.{length-blocks_from}
use Rattle.pd_laid.proofs.GatherLemmas.{length-items}
use Rattle.pd_grammar.specs.ThinText.{mappings_from}
use Rattle.pd_grammar.proofs.ThinMeaning.{mappings_length}
use Rattle.pd_meaning_thin.specs.Packed.{runs_from}
use Rattle.pd_meaning_thin.specs.declared.joined.Run.{Run as Value}
use Rattle.pd_meaning_thin.specs.Runs.{spelled}
use Rattle.pd_devices.specs.SharedGrowth.{items_of_runs, runs_of}
use Rattle.pd_devices.proofs.PieceLemmas.{takes_none, takes_then, laid_then, first_items, first_number}
use Rattle.pd_devices.proofs.piece.put_runs.Goals as goal

pub loop-run-init : goal.loop-run-init
unfolding mapping_items
loop-run-init g c = record {
  same_reference = search rules;
  taken = [];
  all = rw c.first-place.ensures refl;
  takes = takes_none 8 c.args.builder.now c.args.row.now (record { device = g.D.Device.state c.args.draft.now.dev.now; place = c.args.draft.now.next }) c.requires.closed;
  can = rw c.first-place.ensures c.requires.can;
  more = rw c.first-place.ensures c.requires.more;
}

pub put_run-requires-clause-above : goal.put_run-requires-clause-above
put_run-requires-clause-above g c = (laid_then _ _ c.loop-run.builder.low 0 (rw c.in-Some.ensures at c.loop-run.invariant.can) (omega arith)).0.above

pub put_run-requires-clause-ends : goal.put_run-requires-clause-ends
put_run-requires-clause-ends g c = (laid_then _ _ c.loop-run.builder.low 0 (rw c.in-Some.ensures at c.loop-run.invariant.can) (omega arith)).0.fits

pub put_run-requires-clause-within : goal.put_run-requires-clause-within
put_run-requires-clause-within g c = (laid_then _ _ c.loop-run.builder.low 0 (rw c.in-Some.ensures at c.loop-run.invariant.can) (omega arith)).0.within

pub put_run-requires-clause-time : goal.put_run-requires-clause-time
put_run-requires-clause-time g c = (laid_then _ _ c.loop-run.builder.low 0 (rw c.in-Some.ensures at c.loop-run.invariant.can) (omega arith)).0.time

pub put_run-requires-clause-more : goal.put_run-requires-clause-more
put_run-requires-clause-more g c =
    let more = rw c.in-Some.ensures at c.loop-run.invariant.more in
    omega (arith, more, first_number (spelled c.in-Some.run') (runs_of (runs_from c.args.runs.now c.next.new.place)))

pub put_run-requires-clause-room : goal.put_run-requires-clause-room
put_run-requires-clause-room g c =
    let takes = c.loop-run.invariant.takes in
    omega (arith, takes.wrote.moved, takes.leaves, length-blocks_from (leaf_block 8) c.args.draft.now.next takes.ended, takes.wrote.stays.kept.blocks)

pub loop-run-preserved : goal.loop-run-preserved
loop-run-preserved g c =
    let r = spelled c.in-Some.run' in
    let rest = runs_of (runs_from c.args.runs.now c.next.new.place) in
    let before = c.loop-run.invariant in
    let did = c.in_ok-put_run.ensures in
    let items = mapping_items (mappings_from r.virtual_block r.data_block r.time r.length) in
    let can = rw c.in-Some.ensures at before.can in
    let more = rw c.in-Some.ensures at before.more in
    record {
      same_reference = search rules;
      taken = before.taken ++ items;
      all =
          before.all
          ∙ (ap (λ (left : List Value). before.taken ++ items_of_runs (runs_of left)) c.in-Some.ensures
          ∙ (ap (λ (left : List Entry). before.taken ++ left) (first_items r rest) ∙ sym (append_assoc before.taken items (items_of_runs rest))));
      takes = takes_then before.takes did.takes;
      can = (laid_then r rest c.loop-run.builder.low c.put_run.new.builder.low can did.raised).1;
      more = omega (
        arith,
        did.takes.items,
        more,
        first_number r rest,
        length-items (mappings_from r.virtual_block r.data_block r.time r.length),
        mappings_length r.virtual_block r.data_block r.time r.length,
      );
    }

pub returns-clause-takes : goal.returns-clause-takes
unfolding mapping_items
returns-clause-takes g c =
    let before = c.loop-run.invariant in
    let none = c.in_default.ensures.0 in
    let whole : items_of_runs (runs_of c.args.runs.now) ≡ before.taken ++ items_of_runs (runs_of []) = before.all ∙ ap (λ (left : List Value). before.taken ++ items_of_runs (runs_of left)) none in
    rw (whole, append-nil before.taken) before.takes
