use Rattle.std.proofs.Common.{◌≡◌, ◌+◌, List, length, refl, sym, ◌∙◌, ap, subst, arith}
use Rattle.pd_kinds.specs.Node.{Entry}
use Rattle.pd_draft.specs.DraftState.{draft_state}
use Rattle.pd_grammar.specs.Need.{need_tree}
use Rattle.pd_laid.specs.Laid.{overflow_items}
use Rattle.pd_build.specs.Building.{IsBuilding}
use Rattle.pd_build.proofs.BuildingLemmas.{building_start, building_next, building_end, building_root}
use Rattle.pd_build.proofs.TreeLemmas.{on_ok}
use Rattle.pd_count.specs.Counted.{count_of}
use Rattle.pd_smwrite.proofs.OverflowLemmas.{overflow_ascends, items_start, building_here, building_pass, building_done}
use Rattle.pd_smwrite.proofs.bitmaps.write_overflow.Goals as goal

pub loop-high-init : goal.loop-high-init
loop-high-init g c =
    let counts = c.args.counts.now in
    let all = overflow_items (count_of counts) counts.size in
    let count : length all ≡ c.overflow_number-number.result = sym c.overflow_number-number.ensures in
    let next = c.next_high-high.ensures in
    let n = c.in_ok-builder.ensures in
    record {
      same_reference = refl;
      building = subst (λ (rest : List Entry). IsBuilding 4 all rest c.in_ok-builder.builder (draft_state c.args.draft.now) (draft_state c.args.draft.now))
          (items_start (count_of counts) counts.size c.next_high-high.result next.within next.between)
          (building_start all c.in_ok-builder.builder c.requires.closed (n.blocks c.args.draft.now.next all count) (n.root c.args.draft.now.next all count)
          (n.items ∙ sym count) (n.room ∙ ap (need_tree 4) (sym count)) n.low (overflow_ascends (count_of counts) counts.size));
      is_size = c.size-size.ensures.size;
      within = next.within;
      high = next.high;
    }

pub put-requires-clause-low : goal.put-requires-clause-low
put-requires-clause-low g c =
    let counts = c.args.counts.now in
    let inv = c.loop-high.invariant in
    let is = inv.is_size in
    let less = c.loop-high-test.true in
    (building_here (count_of counts) counts.size c.loop-high.high c.get.result inv.building (omega arith) (inv.high (omega arith)) c.get.ensures).above

pub put-requires-clause-more : goal.put-requires-clause-more
put-requires-clause-more g c =
    let counts = c.args.counts.now in
    let inv = c.loop-high.invariant in
    let is = inv.is_size in
    let less = c.loop-high-test.true in
    let b = building_here (count_of counts) counts.size c.loop-high.high c.get.result inv.building (omega arith) (inv.high (omega arith)) c.get.ensures in
    omega (arith, b.number)

pub loop-high-preserved : goal.loop-high-preserved
loop-high-preserved g c =
    let counts = c.args.counts.now in
    let inv = c.loop-high.invariant in
    let is = inv.is_size in
    let less = c.loop-high-test.true in
    let next = c.next_high-high-in-loop-high.ensures in
    record {
      same_reference = c.put.ensures.same_reference ∙ inv.same_reference;
      building = building_pass (count_of counts) counts.size (c.loop-high.high + 1) c.next_high-high-in-loop-high.result
          (building_next (building_here (count_of counts) counts.size c.loop-high.high c.get.result inv.building (omega arith) (inv.high (omega arith)) c.get.ensures)
          c.in_ok-put.ensures.grows)
          next.behind next.within next.between;
      is_size = is;
      within = next.within;
      high = next.high;
    }

pub finish-requires-clause-done : goal.finish-requires-clause-done
finish-requires-clause-done g c =
    let counts = c.args.counts.now in
    let is = c.loop-high.invariant.is_size in
    let past = c.loop-high-test.false in
    (building_done (count_of counts) counts.size c.loop-high.high c.loop-high.invariant.building (omega arith)).number

pub returns-clause-wrote : goal.returns-clause-wrote
returns-clause-wrote g c =
    let counts = c.args.counts.now in
    let is = c.loop-high.invariant.is_size in
    let past = c.loop-high-test.false in
    let b = building_done (count_of counts) counts.size c.loop-high.high c.loop-high.invariant.building (omega arith) in
    on_ok c.finish.result (λ wrote. building_end b wrote) c.finish.ensures.wrote

pub returns-clause-root : goal.returns-clause-root
returns-clause-root g c =
    let counts = c.args.counts.now in
    let is = c.loop-high.invariant.is_size in
    let past = c.loop-high-test.false in
    building_root c.finish.result (building_done (count_of counts) counts.size c.loop-high.high c.loop-high.invariant.building (omega arith)) c.finish.ensures.root
