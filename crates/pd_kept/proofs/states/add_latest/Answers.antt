use Rattle.std.specs.Prelude.{[], ◌∷◌, codes}
use Rattle.pd_kept.proofs.StatesLemmas.{five_words}
use Rattle.pd_kept.proofs.states.add_latest.Goals as goal

pub returns : goal.returns
returns c =
    five_words c.args.line.now (codes " transaction ") _ (codes " time ") _ (10 ∷ []) _ _ _ _ _ c.add.ensures.bytes c.add_number.ensures.bytes c.add-2.ensures.bytes c.add_number-2.ensures.bytes c.add-3.ensures.bytes
