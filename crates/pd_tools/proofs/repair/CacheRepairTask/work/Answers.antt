use Rattle.std.proofs.Common.{ℕ, ◌+◌, ap, refl}
use Rattle.pd_tools.specs.Opened.{devices}
use Rattle.pd_tools.proofs.CacheRepairs.{cache_repaired, cache_unrepaired, is_asked}
use Rattle.pd_tools.proofs.repair.CacheRepairTask.work.Goals as goal

pub repair_cache-requires-clause-known : goal.repair_cache-requires-clause-known
repair_cache-requires-clause-known g c = is_asked c.args.self.now.version c.args.self.now.known

pub returns-in-Ok-clause-works : goal.returns-in-Ok-clause-works
returns-in-Ok-clause-works g c others notes first fresh was unread =
    rw c.kept_cache_line.ensures
    (cache_repaired c.args.self.now.version c.args.self.now.named c.args.self.now.from.now c.args.self.now.to.now (record others { input = first.input; output = first.output; third = first.third })
    (record others { notes = notes; input = g.A.Device.state c.repair_cache.new.input; output = g.B.Device.state c.repair_cache.new.output; third = g.C.Device.state c.args.third.now })
    (devices (g.A.Device.state c.args.input.now) (g.B.Device.state c.args.output.now) (g.C.Device.state c.args.third.now)) fresh refl was (g.met.B.Device.measured c.args.output.now)
    c.repair_cache.ensures.place _ (ap (λ (n : ℕ). n + 1) unread) c.repair_cache.result c.repair_cache.ensures.repaired c.in-Ok.kept c.in-Ok.is)

pub returns-in-Err-clause-works : goal.returns-in-Err-clause-works
returns-in-Err-clause-works g c others notes first fresh was unread =
    rw c.ended_of.ensures
    (cache_unrepaired c.args.self.now.version c.args.self.now.named c.args.self.now.from.now c.args.self.now.to.now (record others { input = first.input; output = first.output; third = first.third })
    (record others { notes = notes; input = g.A.Device.state c.repair_cache.new.input; output = g.B.Device.state c.repair_cache.new.output; third = g.C.Device.state c.args.third.now })
    (devices (g.A.Device.state c.args.input.now) (g.B.Device.state c.args.output.now) (g.C.Device.state c.args.third.now)) fresh refl was (g.met.B.Device.measured c.args.output.now)
    c.repair_cache.ensures.place _ (ap (λ (n : ℕ). n + 1) unread) c.repair_cache.result c.repair_cache.ensures.repaired c.in-Err.fault c.in-Err.is c.in-Err.ensures.named c.in-Err.ensures.causes)
