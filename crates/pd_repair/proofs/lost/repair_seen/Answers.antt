use Rattle.std.proofs.Common.{rules}
use Rattle.pd_kinds.specs.Meaning.{ThinPool}
use Rattle.pd_laid.specs.Salvage.{salvage_from}
use Rattle.pd_answers.specs.Searches.{seen_pool, timed_pool}
use Rattle.pd_salvage.specs.Saved.{pool_of}
use Rattle.pd_restore.specs.Pools.{pool_content}
use Rattle.pd_repair.specs.Snaps.{seen_from}
use Rattle.pd_repair.proofs.SuperLemmas.{made_unwritten, never_saved, never_seen, told_seen}
use Rattle.pd_repair.proofs.lost.repair_seen.Goals as goal

pub returns-clause-repaired : goal.returns-clause-repaired
returns-clause-repaired g c = record {
  pool = pool_of c.in_ok-seen.seen;
  right = told_seen (λ (m : ThinPool). seen_pool (timed_pool c.args.time m)) (salvage_from c.args.s.now) (g.A.Device.state c.args.input.now).held (pool_of c.in_ok-saved.saved) (pool_of c.in_ok-seen.seen) c.in_ok-seen.ensures c.in_ok-saved.ensures.saved;
  output = c.in_ok-restore_made.ensures.made;
}

pub returns-in_err-restore_made-clause-repaired : goal.returns-in_err-restore_made-clause-repaired
returns-in_err-restore_made-clause-repaired g c = record {
  pool = pool_of c.in_ok-seen.seen;
  right = told_seen (λ (m : ThinPool). seen_pool (timed_pool c.args.time m)) (salvage_from c.args.s.now) (g.A.Device.state c.args.input.now).held (pool_of c.in_ok-saved.saved) (pool_of c.in_ok-seen.seen) c.in_ok-seen.ensures c.in_ok-saved.ensures.saved;
  output =
      made_unwritten (pool_content (pool_of c.in_ok-seen.seen)) c.restore_made.result c.from_residual-in_err-restore_made.result c.in_err-restore_made.field-0.0 (g.B.Device.state c.args.output.now)
      (g.B.Device.state c.restore_made.new.dev) c.in_err-restore_made.was (search rules) c.restore_made.ensures.made;
}

pub returns-in_err-saved-clause-repaired : goal.returns-in_err-saved-clause-repaired
returns-in_err-saved-clause-repaired g c =
    never_saved pool_content (seen_from c.args.time) c.args.s.now c.in_err-saved.field-0.0 c.from_residual.result (g.A.Device.state c.args.input.now) (g.B.Device.state c.args.output.now) (search rules)

pub returns-in_err-seen-clause-repaired : goal.returns-in_err-seen-clause-repaired
returns-in_err-seen-clause-repaired g c =
    never_seen pool_content (seen_from c.args.time) c.args.s.now c.from_residual-in_err-seen.result (g.A.Device.state c.args.input.now) (g.B.Device.state c.args.output.now) (search rules)
