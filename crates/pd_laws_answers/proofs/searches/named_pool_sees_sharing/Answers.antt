use Rattle.pd_laws_answers.proofs.SeenMade.{named_sees}
use Rattle.pd_laws_answers.proofs.searches.named_pool_sees_sharing.Goals as goal

pub returns : goal.returns
returns c = λ shared from to given named before after fit answered.
    named_sees shared given named before after (c.named_repair_is_clean.ensures.holds shared from to given named before after fit answered)
