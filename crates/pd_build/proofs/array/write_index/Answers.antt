use Rattle.std.proofs.Common.{◌≡◌, ◌-◌, ℕ, length, refl, sym, ◌∙◌, ap, arith}
use Rattle.pd_grammar.specs.Need.{need_tree}
use Rattle.pd_laid.specs.Laid.{array_items}
use Rattle.pd_laid.proofs.NeedLemmas.{length-items}
use Rattle.pd_build.proofs.TreeLemmas.{on_ok}
use Rattle.pd_build.proofs.BuildingLemmas.{building_start, building_next, building_end, building_root}
use Rattle.pd_build.proofs.ArrayLemmas.{array_ascends, index_at, index_end}
use Rattle.pd_build.proofs.array.write_index.Goals as goal

pub loop-i-init : goal.loop-i-init
loop-i-init g c =
    let first = c.next.result - c.args.count in
    let all = array_items first c.args.count in
    let count : length all ≡ c.args.count = length-items first c.args.count in
    let n = c.in_ok-builder.ensures in
    record {
      same_reference = refl;
      building = building_start all c.in_ok-builder.builder c.requires.closed (n.blocks c.args.draft.now.next all count) (n.root c.args.draft.now.next all count)
          (n.items ∙ sym count) (n.room ∙ ap (need_tree 8) (sym count)) n.low (array_ascends first c.args.count);
    }

pub put-requires-clause-low : goal.put-requires-clause-low
put-requires-clause-low g c = (index_at (c.next.result - c.args.count) c.args.count c.loop-i.i c.loop-i.invariant.building c.loop-i-test.true).above

pub put-requires-clause-more : goal.put-requires-clause-more
put-requires-clause-more g c =
    let b = index_at (c.next.result - c.args.count) c.args.count c.loop-i.i c.loop-i.invariant.building c.loop-i-test.true in omega (arith, b.number)

pub put-requires-clause-room : goal.put-requires-clause-room
put-requires-clause-room g c =
    let b = c.loop-i.invariant.building in
    let same : need_tree 8 (length (array_items (c.next.result - c.args.count) c.args.count)) ≡ need_tree 8 c.args.count = ap (need_tree 8) (length-items (c.next.result - c.args.count) c.args.count) in
    omega (arith, c.requires.room, b.room, b.wrote.stays.kept.blocks)

pub loop-i-preserved : goal.loop-i-preserved
loop-i-preserved g c = record {
  same_reference = c.put.ensures.same_reference ∙ c.loop-i.invariant.same_reference;
  building = building_next (index_at (c.next.result - c.args.count) c.args.count c.loop-i.i c.loop-i.invariant.building c.loop-i-test.true) c.in_ok-put.ensures.grows;
}

pub finish-requires-clause-done : goal.finish-requires-clause-done
finish-requires-clause-done g c = (index_end (c.next.result - c.args.count) c.args.count c.loop-i.i c.loop-i.invariant.building c.loop-i-test.false).number

pub finish-requires-clause-room : goal.finish-requires-clause-room
finish-requires-clause-room g c =
    let b = c.loop-i.invariant.building in
    let same : need_tree 8 (length (array_items (c.next.result - c.args.count) c.args.count)) ≡ need_tree 8 c.args.count = ap (need_tree 8) (length-items (c.next.result - c.args.count) c.args.count) in
    omega (arith, c.requires.room, b.room, b.wrote.stays.kept.blocks)

pub returns-clause-wrote : goal.returns-clause-wrote
returns-clause-wrote g c =
    let same : c.next.result - c.args.count ≡ c.args.draft.now.next - c.args.count = ap (λ (n : ℕ). n - c.args.count) c.next.ensures in
    rw (← same)
    (on_ok c.finish.result (λ wrote. building_end (index_end (c.next.result - c.args.count) c.args.count c.loop-i.i c.loop-i.invariant.building c.loop-i-test.false) wrote) c.finish.ensures.wrote)

pub returns-clause-root : goal.returns-clause-root
returns-clause-root g c =
    let same : c.next.result - c.args.count ≡ c.args.draft.now.next - c.args.count = ap (λ (n : ℕ). n - c.args.count) c.next.ensures in
    rw (← same)
    (building_root c.finish.result (index_end (c.next.result - c.args.count) c.args.count c.loop-i.i c.loop-i.invariant.building c.loop-i-test.false) c.finish.ensures.root)
