use Rattle.std.proofs.Common.{true}
use Rattle.pd_laws_answers.proofs.Asked.{answered_for}
use Rattle.pd_laws_answers.proofs.Asked.{thin_repair_asked}
use Rattle.pd_laws_answers.proofs.words.thin_repair_keeps_the_sharing.Goals as goal

pub returns-clause-made : goal.returns-clause-made
returns-clause-made c from to before after is_from is_to ends =
    c.repaired_pool_keeps_its_sharing.ensures from to before after (answered_for _ _ 0 before after (thin_repair_asked true from to is_from is_to) ends)

pub returns-clause-saved : goal.returns-clause-saved
returns-clause-saved c from to before after is_from is_to ends =
    c.shared_repair_sees_sharing.ensures.saved from to before after (answered_for _ _ 0 before after (thin_repair_asked true from to is_from is_to) ends)

pub returns-clause-damaged : goal.returns-clause-damaged
returns-clause-damaged c whole from to before after kept is_from is_to ends =
    c.shared_repair_sees_sharing.ensures.damaged whole from to before after kept (answered_for _ _ 0 before after (thin_repair_asked true from to is_from is_to) ends)
