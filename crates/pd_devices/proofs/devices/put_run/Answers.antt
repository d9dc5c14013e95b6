use Rattle.std.proofs.Common.{List, sym, subst, arith, rules}
use Rattle.pd_kinds.specs.Node.{Entry}
use Rattle.pd_draft.specs.Closed.{DraftState}
use Rattle.pd_grammar.specs.ThinText.{mappings_from}
use Rattle.pd_grammar.proofs.ThinMeaning.{mappings_length}
use Rattle.pd_laid.specs.LaidThin.{mapping_items}
use Rattle.pd_laid.proofs.GatherLemmas.{length-items}
use Rattle.pd_devices.specs.Devices.{GrowsBy}
use Rattle.pd_devices.proofs.GrowthLemmas.{grows_none, grows_then, grows_one}
use Rattle.pd_devices.proofs.GrowthLemmas.{items_more}
use Rattle.pd_devices.proofs.devices.put_run.Goals as goal

pub loop-i-init : goal.loop-i-init
unfolding mapping_items
loop-i-init g c = record {
  same_reference = search rules;
  grows = grows_none 8 c.args.builder.now (record { device = g.D.Device.state c.args.draft.now.dev.now; place = c.args.draft.now.next }) c.requires.closed;
  low = omega arith;
}

pub put-requires-clause-more : goal.put-requires-clause-more
put-requires-clause-more g c =
    let run = c.args.run in
    let i = c.loop-i.i in
    omega (arith, c.loop-i.invariant.grows.items, length-items (mappings_from run.virtual_block run.data_block run.time i), mappings_length run.virtual_block run.data_block run.time i)

pub loop-i-preserved : goal.loop-i-preserved
loop-i-preserved g c =
    let run = c.args.run in
    let i = c.loop-i.i in
    let items = mapping_items (mappings_from run.virtual_block run.data_block run.time i) in
    let start : DraftState = record { device = g.D.Device.state c.args.draft.now.dev.now; place = c.args.draft.now.next } in
    let now : DraftState = record { device = g.D.Device.state c.put.new.draft.dev.now; place = c.put.new.draft.next } in
    record {
      same_reference = search rules;
      grows = subst (λ (taken : List Entry). GrowsBy 8 taken c.args.builder.now c.put.new.self start now) (sym (items_more run.virtual_block run.data_block run.time i))
          (grows_then c.loop-i.invariant.grows (grows_one c.in_ok-put.ensures.grows));
      low = omega (arith, c.in_ok-put.ensures.grows.raised);
    }
