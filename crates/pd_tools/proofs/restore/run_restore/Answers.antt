use Rattle.pd_answers.specs.Restores.{restore}
use Rattle.pd_tools.proofs.Answered.{answered_ended}
use Rattle.pd_tools.proofs.Restores.{lost_as}
use Rattle.pd_tools.proofs.restore.run_restore.Goals as goal

pub returns : goal.returns
returns g c others fresh was =
    answered_ended (restore c.args.kind c.args.version c.args.text.now c.args.image.now) _ _ _ fresh was c.restore_image-ended.result c.put_ending.result
    (lost_as c.args.kind c.args.version c.args.text.now c.args.image.now _ _)
    (c.restore_image-ended.ensures others (g.E.Sink.state c.put_ending.new.notes) fresh.output.1) c.put_ending.ensures
