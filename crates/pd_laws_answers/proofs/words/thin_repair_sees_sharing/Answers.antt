use Rattle.std.proofs.Common.{false}
use Rattle.pd_laws_answers.proofs.Asked.{answered_for}
use Rattle.pd_laws_answers.proofs.Asked.{thin_repair_asked}
use Rattle.pd_laws_answers.proofs.words.thin_repair_sees_sharing.Goals as goal

pub returns-clause-saved : goal.returns-clause-saved
returns-clause-saved c from to before after is_from is_to ends =
    c.repaired_pool_sees_sharing.ensures.saved from to before after (answered_for _ _ 0 before after (thin_repair_asked false from to is_from is_to) ends)

pub returns-clause-damaged : goal.returns-clause-damaged
returns-clause-damaged c whole from to before after kept is_from is_to ends =
    c.repaired_pool_sees_sharing.ensures.damaged whole from to before after kept (answered_for _ _ 0 before after (thin_repair_asked false from to is_from is_to) ends)
