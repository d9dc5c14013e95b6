use Rattle.std.proofs.Common.{◌≡◌, length, refl, sym, ◌∙◌, ap, arith}
use Rattle.pd_grammar.specs.Need.{need_tree}
use Rattle.pd_laid.specs.Laid.{index_items}
use Rattle.pd_laid.proofs.PartSizes.{index_number}
use Rattle.pd_build.proofs.BuildingLemmas.{building_start, building_next, building_end, building_root}
use Rattle.pd_build.proofs.TreeLemmas.{on_ok}
use Rattle.pd_count.specs.Counted.{count_of}
use Rattle.pd_smwrite.proofs.MapLemmas.{index_ascends, index_next, index_end}
use Rattle.pd_smwrite.proofs.index.write_index_tree.Goals as goal

pub loop-i-init : goal.loop-i-init
loop-i-init g c =
    let counts = c.args.counts.now in
    let all = index_items (count_of counts) counts.size c.args.first in
    let count : length all ≡ c.bitmap_number-number.result = index_number (count_of counts) counts.size c.args.first ∙ sym c.bitmap_number-number.ensures in
    let n = c.in_ok-builder.ensures in
    record {
      same_reference = refl;
      building = building_start all c.in_ok-builder.builder c.requires.closed (n.blocks c.args.draft.now.next all count) (n.root c.args.draft.now.next all count)
          (n.items ∙ sym count) (n.room ∙ ap (need_tree 16) (sym count)) n.low (index_ascends (count_of counts) counts.size c.args.first);
    }

pub entry_of-requires-clause-place : goal.entry_of-requires-clause-place
entry_of-requires-clause-place g c =
    omega (arith, c.requires.behind, c.next-behind.ensures, c.next-behind.type_inv, c.bitmap_number-number.ensures)

pub put-requires-clause-low : goal.put-requires-clause-low
put-requires-clause-low g c =
    let counts = c.args.counts.now in
    (index_next (count_of counts) counts.size c.args.first c.loop-i.i _ c.loop-i.invariant.building (omega (arith, c.bitmap_number-number.ensures)) c.entry_of.ensures.entry).above

pub put-requires-clause-more : goal.put-requires-clause-more
put-requires-clause-more g c =
    let counts = c.args.counts.now in
    let b = index_next (count_of counts) counts.size c.args.first c.loop-i.i _ c.loop-i.invariant.building (omega (arith, c.bitmap_number-number.ensures)) c.entry_of.ensures.entry in
    omega (arith, b.number)

pub put-requires-clause-room : goal.put-requires-clause-room
put-requires-clause-room g c =
    let counts = c.args.counts.now in
    let b = c.loop-i.invariant.building in
    let same = ap (need_tree 16) (index_number (count_of counts) counts.size c.args.first) in
    omega (arith, c.requires.room, b.room, b.wrote.stays.kept.blocks, same)

pub loop-i-preserved : goal.loop-i-preserved
loop-i-preserved g c =
    let counts = c.args.counts.now in
    record {
      same_reference = c.put.ensures.same_reference ∙ c.loop-i.invariant.same_reference;
      building = building_next
          (index_next (count_of counts) counts.size c.args.first c.loop-i.i _ c.loop-i.invariant.building (omega (arith, c.bitmap_number-number.ensures)) c.entry_of.ensures.entry)
          c.in_ok-put.ensures.grows;
    }

pub finish-requires-clause-done : goal.finish-requires-clause-done
finish-requires-clause-done g c =
    let counts = c.args.counts.now in
    (index_end (count_of counts) counts.size c.args.first c.loop-i.i c.loop-i.invariant.building (omega (arith, c.bitmap_number-number.ensures))).number

pub finish-requires-clause-room : goal.finish-requires-clause-room
finish-requires-clause-room g c =
    let counts = c.args.counts.now in
    let b = c.loop-i.invariant.building in
    let same = ap (need_tree 16) (index_number (count_of counts) counts.size c.args.first) in
    omega (arith, c.requires.room, b.room, b.wrote.stays.kept.blocks, same)

pub returns-clause-wrote : goal.returns-clause-wrote
returns-clause-wrote g c =
    let counts = c.args.counts.now in
    let b = index_end (count_of counts) counts.size c.args.first c.loop-i.i c.loop-i.invariant.building (omega (arith, c.bitmap_number-number.ensures)) in
    on_ok c.finish.result (λ wrote. building_end b wrote) c.finish.ensures.wrote

pub returns-clause-root : goal.returns-clause-root
returns-clause-root g c =
    let counts = c.args.counts.now in
    let b = index_end (count_of counts) counts.size c.args.first c.loop-i.i c.loop-i.invariant.building (omega (arith, c.bitmap_number-number.ensures)) in
    building_root c.finish.result b c.finish.ensures.root
