use Rattle.pd_tools.proofs.Restores.{ends_as}
use Rattle.pd_tools.proofs.restore.restore_attached.Goals as goal

pub returns : goal.returns
returns g c file path source output others notes synced fresh both =
    rw c.ended_of.ensures
    (ends_as c.args.kind c.args.version file path others notes source (g.S.Source.state c.args.source.now) (g.S.Source.state c.restore_kind.new.source)
    output (g.B.Device.state c.args.output.now) (g.B.Device.state c.restore_kind.new.output) synced both (g.met.B.Device.measured c.args.output.now)
    c.restore_kind.ensures.place c.restore_kind.ensures.source c.restore_kind.result c.restore_kind.ensures.restored fresh c.restore_kind.ensures.causes)
