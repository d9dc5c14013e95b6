use Rattle.std.proofs.Common.{List, ◌++◌, ◌<◌, ap, get_or, length, refl, drop, ◌∙◌, arith}
use Rattle.pd_kinds.proofs.KindsListLemmas.{all_front, all_rest}
use Rattle.pd_count.specs.Counted.{count_of}
use Rattle.pd_meaning_thin.specs.Packed.{runs_from}
use Rattle.pd_meaning_thin.specs.declared.joined.Run.{Run}
use Rattle.pd_restore.specs.ShapeNeed.{leaves_used}
use Rattle.pd_restore.proofs.PlainDataLemmas.{leaf_next, leaves_over, no_leaf}
use Rattle.pd_restore.proofs.SavedNeedLemmas.{IsWithin, counts_all}
use Rattle.pd_restore.proofs.plain_need.add_leaves.Goals as goal

pub loop-i-init : goal.loop-i-init
loop-i-init c = record {
  size = refl;
  within = rw c.first-place.ensures c.requires.within;
  listed = λ before counted. record {
    first = before;
    counted = counted;
    joined = ap (λ (rs : List Run). before ++ leaves_used (count_of c.args.uses.now) 0 c.args.leaves.now rs) c.first-place.ensures;
  };
}

pub add_leaf-requires : goal.add_leaf-requires
add_leaf-requires c = record {
  within = rw c.loop-i.invariant.size
      (all_front (IsWithin c.args.counted.now.size) (get_or c.args.leaves.now c.loop-i.i no_leaf).runs (runs_from c.args.runs.now c.loop-i.place) c.loop-i.invariant.within);
}

pub loop-i-preserved : goal.loop-i-preserved
loop-i-preserved c =
    let inv = c.loop-i.invariant in
    let runs = c.args.runs.now in
    let leaves = c.args.leaves.now in
    let uses = c.args.uses.now in
    let i = c.loop-i.i in
    let here = runs_from runs c.loop-i.place in
    let later = runs_from runs c.add_leaf.new.place in
    let behind = c.in_ok-add_leaf.ensures.behind in
    let within : i < length leaves = omega arith in
    record {
      size = c.in_ok-add_leaf.ensures.size ∙ inv.size;
      within = rw behind (all_rest (IsWithin c.args.counted.now.size) (get_or leaves i no_leaf).runs here inv.within);
      listed = λ before counted.
          let counts = inv.listed before counted in
          leaf_next c.loop-i.counted c.add_leaf.new.counted (count_of uses) (before ++ leaves_used (count_of uses) 0 leaves runs) i leaves here later no_leaf within counts behind
          (rw c.times.ensures at (c.in_ok-add_leaf.ensures.listed counts.first counts.counted));
    }

pub returns-clause-listed : goal.returns-clause-listed
returns-clause-listed c before counted =
    let runs = c.args.runs.now in
    let leaves = c.args.leaves.now in
    let uses = c.args.uses.now in
    counts_all c.loop-i.counted (before ++ leaves_used (count_of uses) 0 leaves runs) (leaves_used (count_of uses) c.loop-i.i (drop c.loop-i.i leaves) (runs_from runs c.loop-i.place))
    (c.loop-i.invariant.listed before counted) (leaves_over (count_of uses) c.loop-i.i leaves (runs_from runs c.loop-i.place) (omega arith))
