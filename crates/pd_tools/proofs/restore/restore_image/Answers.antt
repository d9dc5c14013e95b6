use Rattle.std.proofs.Common.{rules}
use Rattle.pd_tools.proofs.Restores.{not_attached_as}
use Rattle.pd_tools.proofs.restore.restore_image.Goals as goal

pub returns : goal.returns
returns g c others notes fresh =
    c.restore_attached.ensures c.args.text.now c.args.image.now (g.S.Source.state c.args.source.now) (g.B.Device.state c.args.output.now) others notes
    (g.met.B.Device.unwritten c.args.output.now c.requires.output) fresh c.in_ok-attach_both.ensures.attached

pub returns-in_err-attach_both : goal.returns-in_err-attach_both
returns-in_err-attach_both g c others notes fresh =
    let stopped =
    not_attached_as c.args.kind c.args.version c.args.text.now c.args.image.now others notes
    (g.S.Source.state c.args.source.now) (g.S.Source.state c.attach_both.new.source) (g.B.Device.state c.args.output.now) (g.B.Device.state c.attach_both.new.output)
    (g.met.B.Device.unwritten c.args.output.now c.requires.output) (c.texts_have_verdicts.ensures c.args.kind c.args.version) c.in_err-attach_both.field-0.0 c.in_err-attach_both.ensures.unattached in
    search rules
