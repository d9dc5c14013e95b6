use Rattle.std.proofs.Common.{List, sym, subst, arith, rules}
use Rattle.pd_kinds.specs.Node.{Entry, leaf_block}
use Rattle.pd_draft.specs.Closed.{DraftState}
use Rattle.pd_laid.proofs.LaidLemmas.{length-blocks_from}
use Rattle.pd_grammar.specs.ThinText.{mappings_from}
use Rattle.pd_grammar.proofs.ThinMeaning.{mappings_length}
use Rattle.pd_laid.specs.LaidThin.{mapping_items}
use Rattle.pd_laid.proofs.GatherLemmas.{length-items}
use Rattle.pd_devices.proofs.GrowthLemmas.{items_more}
use Rattle.pd_devices.specs.SharedGrowth.{TakesAll}
use Rattle.pd_devices.proofs.PieceLemmas.{takes_none, takes_then}
use Rattle.pd_devices.proofs.piece.put_run.Goals as goal

pub loop-i-init : goal.loop-i-init
unfolding mapping_items
loop-i-init g c = record {
  same_reference = search rules;
  takes = takes_none 8 c.args.builder.now c.args.row.now (record { device = g.D.Device.state c.args.draft.now.dev.now; place = c.args.draft.now.next }) c.requires.closed;
  low = omega (arith, c.requires.above);
}

pub put_mapping-requires-clause-more : goal.put_mapping-requires-clause-more
put_mapping-requires-clause-more g c =
    let run = c.args.run in
    let i = c.loop-i.i in
    omega (arith, c.loop-i.invariant.takes.items, length-items (mappings_from run.virt run.target run.time i), mappings_length run.virt run.target run.time i)

pub put_mapping-requires-clause-room : goal.put_mapping-requires-clause-room
put_mapping-requires-clause-room g c =
    let takes = c.loop-i.invariant.takes in
    omega (arith, takes.wrote.moved, takes.leaves, length-blocks_from (leaf_block 8) c.args.draft.now.next takes.ended, takes.wrote.stays.kept.blocks)

pub loop-i-preserved : goal.loop-i-preserved
loop-i-preserved g c =
    let run = c.args.run in
    let i = c.loop-i.i in
    let start : DraftState = record { device = g.D.Device.state c.args.draft.now.dev.now; place = c.args.draft.now.next } in
    let now : DraftState = record { device = g.D.Device.state c.put_mapping.new.draft.dev.now; place = c.put_mapping.new.draft.next } in
    record {
      same_reference = search rules;
      takes = subst (λ (taken : List Entry). TakesAll 8 taken c.args.builder.now c.put_mapping.new.builder c.args.row.now c.put_mapping.new.row start now)
          (sym (items_more run.virt run.target run.time i))
          (takes_then c.loop-i.invariant.takes c.in_ok-put_mapping.ensures.takes);
      low = omega (arith, c.in_ok-put_mapping.ensures.raised);
    }
