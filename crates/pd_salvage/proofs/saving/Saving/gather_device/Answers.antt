use Rattle.std.proofs.lemmas.Result.{IfOk-weaker}
use Rattle.pd_kinds.proofs.ResultLemmas.{if_any}
use Rattle.pd_salvage.specs.Cursor.{saved_least}
use Rattle.pd_salvage.specs.Gather.{IsGathered, to_come}
use Rattle.pd_salvage.specs.Saving.{mappings_at}
use Rattle.pd_salvage.proofs.SavingLemmas.{gathered_again, gathered_tree}
use Rattle.pd_salvage.proofs.saving.Saving.gather_device.Goals as goal

pub returns-then-last-root-clause-gathered : goal.returns-then-last-root-clause-gathered
returns-then-last-root-clause-gathered g c =
    let old = c.args.self.now in
    rw (← c.if-last-root.true)
    (gathered_again (g.D.Device.state c.args.dev.now).held old.s c.in-Some.last old.runs c.repeat_runs.new.runs (rw c.in-Some.is at c.requires.last) c.requires.fits c.in_ok-repeat_runs.ensures)

pub gather-requires-clause-knows : goal.gather-requires-clause-knows
gather-requires-clause-knows g c = if_any (g.D.Device.state c.args.dev.now).held c.restart.ensures.knows

pub returns-clause-gathered : goal.returns-clause-gathered
returns-clause-gathered g c =
    let old = c.args.self.now in
    let cursor = c.restart.new.self in
    let held = (g.D.Device.state c.args.dev.now).held in
    let runs = c.gather.new.runs in
    IfOk-weaker c.gather.result
    (λ mapped. IsGathered old.s.data_map.blocks (saved_least cursor) mapped held (λ image. to_come old.s.data_map.blocks image cursor) old.runs runs)
    (λ mapped. IsGathered old.s.data_map.blocks 0 mapped held (λ image. mappings_at old.s image c.args.root) old.runs runs)
    (λ mapped gathered. gathered_tree held old.s c.args.root (saved_least cursor) mapped cursor old.runs runs c.restart.ensures.left c.restart.ensures.least gathered)
    c.gather.ensures.gathered
