use Rattle.std.proofs.Common.{get_or, map, refl}
use Rattle.pd_kinds.proofs.KindsListLemmas.{all_front, all_rest}
use Rattle.pd_laid.specs.PoolText.{mappings_of_runs}
use Rattle.pd_meaning_thin.specs.Packed.{runs_from}
use Rattle.pd_salvage.specs.SavedShape.{leaf_parts}
use Rattle.pd_restore.specs.ShapeNeed.{IsRunIn}
use Rattle.pd_restore.proofs.PlainDataLemmas.{no_leaf}
use Rattle.pd_repair.specs.Snaps.{is_twice, snaps_of}
use Rattle.pd_repair.proofs.SnapLemmas.{leaves_next, leaves_over}
use Rattle.pd_repair.proofs.seen_shape.snaps_of_leaves.Goals as goal

pub loop-leaf-init : goal.loop-leaf-init
loop-leaf-init c = record {
  within = rw c.first-place.ensures c.requires;
  joined = rw (c.in_ok-snaps.ensures.items, c.first-place.ensures) refl;
}

pub snap_of_runs-requires : goal.snap_of_runs-requires
snap_of_runs-requires c =
    all_front (IsRunIn c.args.counted.now.size) (get_or c.args.leaves.now c.loop-leaf.leaf-index no_leaf).runs (runs_from c.args.runs.now c.loop-leaf.place) c.loop-leaf.invariant.within

pub loop-leaf-preserved : goal.loop-leaf-preserved
loop-leaf-preserved c =
    let here = runs_from c.args.runs.now c.loop-leaf.place in
    let test = is_twice c.args.counted.now in
    let behind = c.snap_of_runs.ensures.behind in
    record {
      within = rw behind (all_rest (IsRunIn c.args.counted.now.size) (get_or c.args.leaves.now c.loop-leaf.leaf-index no_leaf).runs here c.loop-leaf.invariant.within);
      joined = rw c.in_ok-push.ensures.items
          (leaves_next test c.args.leaves.now c.loop-leaf.leaf-index no_leaf c.loop-leaf.snaps.items c.snap_of_runs.result here (runs_from c.args.runs.now c.snap_of_runs.new.place)
          (snaps_of test (map mappings_of_runs (leaf_parts c.args.leaves.now c.args.runs.now))) c.loop-leaf-test.true c.snap_of_runs.ensures.snap behind c.loop-leaf.invariant.joined);
    }

pub returns : goal.returns
returns c =
    let test = is_twice c.args.counted.now in
    leaves_over test c.args.leaves.now c.loop-leaf.leaf-index c.loop-leaf.snaps.items (runs_from c.args.runs.now c.loop-leaf.place)
    (snaps_of test (map mappings_of_runs (leaf_parts c.args.leaves.now c.args.runs.now))) c.loop-leaf-test.false c.loop-leaf.invariant.joined
