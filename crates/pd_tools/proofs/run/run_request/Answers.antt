use Rattle.pd_tools.proofs.run.run_request.Goals as goal

pub returns-in-Check : goal.returns-in-Check
returns-in-Check g c others =
    rw c.in-Check.is (c.run_check.ensures (record others { source = g.S.Source.state c.args.source.now; output = g.B.Device.state c.args.output.now; third = g.C.Device.state c.args.third.now }))

pub returns-in-PassingCheck : goal.returns-in-PassingCheck
returns-in-PassingCheck g c others =
    rw c.in-PassingCheck.is (c.run_check-in-PassingCheck.ensures (record others { source = g.S.Source.state c.args.source.now; output = g.B.Device.state c.args.output.now; third = g.C.Device.state c.args.third.now }))

pub returns-in-CheckAndClear : goal.returns-in-CheckAndClear
returns-in-CheckAndClear g c others =
    rw c.in-CheckAndClear.is (c.run_clearing_check.ensures (record others { source = g.S.Source.state c.args.source.now; output = g.B.Device.state c.args.output.now; third = g.C.Device.state c.args.third.now }))

pub returns-in-Query : goal.returns-in-Query
returns-in-Query g c others =
    rw c.in-Query.is (c.run_query.ensures (record others { source = g.S.Source.state c.args.source.now; output = g.B.Device.state c.args.output.now; third = g.C.Device.state c.args.third.now }))

pub returns-in-Restore : goal.returns-in-Restore
returns-in-Restore g c others =
    rw c.in-Restore.is (c.run_restore.ensures (record others { out = g.K.Sink.state c.args.out.now; input = g.A.Device.state c.args.input.now; third = g.C.Device.state c.args.third.now }))

pub returns-in-Repair : goal.returns-in-Repair
returns-in-Repair g c others =
    rw c.in-Repair.is (c.run_task.ensures (record others { source = g.S.Source.state c.args.source.now }))

pub returns-in-Search : goal.returns-in-Search
returns-in-Search g c others =
    rw c.in-Search.is (c.run_task-in-Search.ensures (record others { source = g.S.Source.state c.args.source.now }))

pub returns-in-RepairNamed : goal.returns-in-RepairNamed
returns-in-RepairNamed g c others =
    rw c.in-RepairNamed.is (c.run_task-in-RepairNamed.ensures (record others { source = g.S.Source.state c.args.source.now }))

pub returns-in-DrySearch : goal.returns-in-DrySearch
returns-in-DrySearch g c others =
    rw c.in-DrySearch.is (c.run_task-in-DrySearch.ensures (record others { source = g.S.Source.state c.args.source.now }))

pub returns-in-RepairCache : goal.returns-in-RepairCache
returns-in-RepairCache g c others =
    rw c.in-RepairCache.is (c.run_task-in-RepairCache.ensures (record others { source = g.S.Source.state c.args.source.now }))

pub returns-in-Generate : goal.returns-in-Generate
returns-in-Generate g c others =
    rw c.in-Generate.is (c.run_generate.ensures (record others { source = g.S.Source.state c.args.source.now; input = g.A.Device.state c.args.input.now; output = g.B.Device.state c.args.output.now; third = g.C.Device.state c.args.third.now }))

pub returns-in-Rehearse : goal.returns-in-Rehearse
returns-in-Rehearse g c others =
    rw c.in-Rehearse.is (c.run_task-in-Rehearse.ensures (record others { source = g.S.Source.state c.args.source.now }))

pub returns-in-Writeback : goal.returns-in-Writeback
returns-in-Writeback g c others =
    rw c.in-Writeback.is (c.run_task-in-Writeback.ensures (record others { source = g.S.Source.state c.args.source.now }))

pub returns-in-Shrink : goal.returns-in-Shrink
returns-in-Shrink g c others =
    rw c.in-Shrink.is (c.run_task-in-Shrink.ensures (record others { source = g.S.Source.state c.args.source.now }))
