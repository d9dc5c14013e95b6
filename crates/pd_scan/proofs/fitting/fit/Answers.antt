use Rattle.std.proofs.lemmas.Option.{IfSome_then}
use Rattle.std.proofs.lemmas.Result.{IfOk-weaker}
use Rattle.pd_laid.specs.FoundRoots.{lost_graph}
use Rattle.pd_measures.proofs.SoundLemmas.{root_inside}
use Rattle.pd_scan.proofs.FitLemmas.{fitting_sound}
use Rattle.pd_scan.proofs.fitting.fit.Goals as goal

pub returns-clause-fits : goal.returns-clause-fits
returns-clause-fits g c =
    IfOk-weaker c.do_trees_fit.result _ _
    (λ fits told. IfSome_then (g.D.Device.state c.args.dev.now).held told (λ image is data_blocks are.
    let sound = fitting_sound image data_blocks c.args.trees.now are c.args.top c.args.details c.requires.may in
    is data_blocks sound.0 sound.1 (are.told.told c.args.top (root_inside (lost_graph image data_blocks) image 2 c.args.top sound.0) sound.0)))
    c.do_trees_fit.ensures.fits
