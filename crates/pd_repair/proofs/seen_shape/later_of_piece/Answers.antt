use Rattle.std.proofs.Common.{ℕ, List, ap, get_or, max, sym, ◌∙◌}
use Rattle.pd_kinds.proofs.KindsListLemmas.{all_front}
use Rattle.pd_meaning_thin.specs.Packed.{runs_from}
use Rattle.pd_restore.specs.ShapeNeed.{IsRunIn}
use Rattle.pd_repair.specs.Snaps.{is_twice}
use Rattle.pd_repair.proofs.SnapLemmas.{leaf_snap}
use Rattle.pd_repair.proofs.seen_shape.later_of_piece.Goals as goal

pub snap_of_runs-requires : goal.snap_of_runs-requires
snap_of_runs-requires c = all_front (IsRunIn c.args.counted.now.size) c.in-Own.number (runs_from c.args.runs.now c.args.place.now) c.requires

pub returns-in-Own-clause-snap : goal.returns-in-Own-clause-snap
returns-in-Own-clause-snap c leaves snaps = rw (sym c.piece.ensures ∙ c.in-Own.is) c.snap_of_runs.ensures.snap

pub returns-in-Own-clause-behind : goal.returns-in-Own-clause-behind
returns-in-Own-clause-behind c = rw (sym c.piece.ensures ∙ c.in-Own.is) c.snap_of_runs.ensures.behind

pub returns-in-Shared-clause-snap : goal.returns-in-Shared-clause-snap
returns-in-Shared-clause-snap c leaves snaps =
    let n = c.in-Shared.number in
    rw (sym c.piece.ensures ∙ c.in-Shared.is)
    (c.max.ensures
    ∙ (ap (max c.args.latest) (c.snap_of_leaf.ensures ∙ ap (λ (xs : List ℕ). get_or xs n 0) snaps)
    ∙ leaf_snap (is_twice c.args.counted.now) c.args.latest n leaves))
