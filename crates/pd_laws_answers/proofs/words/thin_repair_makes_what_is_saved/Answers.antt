use Rattle.std.proofs.Common.{false}
use Rattle.pd_laws_answers.proofs.Asked.{answered_for}
use Rattle.pd_laws_answers.proofs.Asked.{thin_repair_asked}
use Rattle.pd_laws_answers.proofs.words.thin_repair_makes_what_is_saved.Goals as goal

pub returns : goal.returns
returns c = λ from to before after is_from is_to ends.
    c.repaired_pool_is_clean.ensures from to before after (answered_for _ _ 0 before after (thin_repair_asked false from to is_from is_to) ends)
