use Rattle.pd_laid.specs.FoundRoots.{lost_graph}
use Rattle.pd_scan.proofs.FitLemmas.{fitting_parts, may_fit_by, pair_by}
use Rattle.pd_scan.proofs.fitting.fitting_trees_match.Goals as goal
use Rattle.std.proofs.Common.{◌∙◌}

pub returns-clause-fits : goal.returns-clause-fits
returns-clause-fits c image data_blocks trees top details are e =
    let sound = fitting_parts (lost_graph image data_blocks) image top details e in
    may_fit_by image data_blocks trees are top details sound.0 sound.1
    ((c.fitting_trees_have_one_list.ensures.fitting image data_blocks top details sound.0 sound.1).0 e)

pub returns-clause-roots : goal.returns-clause-roots
returns-clause-roots c image data_blocks trees top details are e =
    let sound = fitting_parts (lost_graph image data_blocks) image top details e in
    c.fitting_trees_have_one_list.ensures.roots image data_blocks top details e
    ∙ pair_by image data_blocks trees are top details sound.0 sound.1
    ((c.fitting_trees_have_one_list.ensures.fitting image data_blocks top details sound.0 sound.1).0 e)
