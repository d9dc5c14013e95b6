use Rattle.pd_tree.proofs.NextLemmas.{if_both}
use Rattle.pd_meaning_thin.proofs.FoundLemmas.{found}
use Rattle.pd_meaning_thin.proofs.find.SharedLeaves.find.Goals as goal

pub returns-clause-shared : goal.returns-clause-shared
returns-clause-shared g c =
    let law = c.leaves_are_below_roots.ensures in
    if_both (g.D.Device.state c.args.dev.now).held
    (λ image is marked number none same. found image c.args.s.now c.in_ok-marks.marks.items none same (law.roots image none) (law.leaves image none) (law.trees image none) marked number)
    c.in_ok-marks.ensures.marked c.in_ok-marks.ensures.number
