use Rattle.pd_meaning_thin.proofs.LawfulLemmas.{sizes}
use Rattle.pd_meaning_thin.proofs.GivenLemmas.{gives_shape}
use Rattle.pd_meaning_thin.proofs.pieces.pieces_are_those_of_the_shape.Goals as goal

pub returns : goal.returns
returns c = λ image none.
    let below = c.leaves_are_below_roots.ensures in
    gives_shape image (c.rows_are_the_devices.ensures image none) (sizes image none) (below.roots image none) (below.leaves image none)
