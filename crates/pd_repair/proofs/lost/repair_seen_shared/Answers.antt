use Rattle.std.proofs.Common.{rules}
use Rattle.pd_laid.specs.Shape.{ThinShape}
use Rattle.pd_laid.specs.Salvage.{saved_shape_from}
use Rattle.pd_answers.specs.Searches.{seen_shape, timed_shape}
use Rattle.pd_salvage.specs.SavedShape.{held_shape}
use Rattle.pd_restore.specs.Pools.{shape_content}
use Rattle.pd_repair.specs.Snaps.{seen_shape_from}
use Rattle.pd_repair.proofs.SuperLemmas.{made_unwritten, never_saved, never_seen, told_seen}
use Rattle.pd_repair.proofs.lost.repair_seen_shared.Goals as goal

pub returns-clause-repaired : goal.returns-clause-repaired
returns-clause-repaired g c = record {
  pool = held_shape c.in_ok-seen.seen;
  right = told_seen (λ (m : ThinShape). seen_shape (timed_shape c.args.time m)) (saved_shape_from c.args.s.now) (g.A.Device.state c.args.input.now).held (held_shape c.in_ok-saved.saved) (held_shape c.in_ok-seen.seen) c.in_ok-seen.ensures c.in_ok-saved.ensures.saved;
  output = c.in_ok-restore_shape.ensures.made;
}

pub returns-in_err-restore_shape-clause-repaired : goal.returns-in_err-restore_shape-clause-repaired
returns-in_err-restore_shape-clause-repaired g c = record {
  pool = held_shape c.in_ok-seen.seen;
  right = told_seen (λ (m : ThinShape). seen_shape (timed_shape c.args.time m)) (saved_shape_from c.args.s.now) (g.A.Device.state c.args.input.now).held (held_shape c.in_ok-saved.saved) (held_shape c.in_ok-seen.seen) c.in_ok-seen.ensures c.in_ok-saved.ensures.saved;
  output =
      made_unwritten (shape_content (held_shape c.in_ok-seen.seen)) c.restore_shape.result c.from_residual-in_err-restore_shape.result c.in_err-restore_shape.field-0.0 (g.B.Device.state c.args.output.now)
      (g.B.Device.state c.restore_shape.new.dev) c.in_err-restore_shape.was (search rules) c.restore_shape.ensures.made;
}

pub returns-in_err-saved-clause-repaired : goal.returns-in_err-saved-clause-repaired
returns-in_err-saved-clause-repaired g c =
    never_saved shape_content (seen_shape_from c.args.time) c.args.s.now c.in_err-saved.field-0.0 c.from_residual.result (g.A.Device.state c.args.input.now) (g.B.Device.state c.args.output.now) (search rules)

pub returns-in_err-seen-clause-repaired : goal.returns-in_err-seen-clause-repaired
returns-in_err-seen-clause-repaired g c =
    never_seen shape_content (seen_shape_from c.args.time) c.args.s.now c.from_residual-in_err-seen.result (g.A.Device.state c.args.input.now) (g.B.Device.state c.args.output.now) (search rules)
