use Rattle.pd_laws_answers.proofs.Repaired.{repaired, repaired_same}
use Rattle.pd_laws_answers.proofs.repairs.repaired_sound_pool_means_the_same.Goals as goal

pub returns-clause-repaired : goal.returns-clause-repaired
returns-clause-repaired c image base from to before after status sound = repaired c.sound_pool_is_saved.ensures image base from to before after sound status

pub returns-clause-same : goal.returns-clause-same
returns-clause-same c image base from to before after sound answered =
    repaired_same c.sound_pool_is_saved.ensures image base from to before after sound (c.repaired_pool_is_clean.ensures from to before after answered)
