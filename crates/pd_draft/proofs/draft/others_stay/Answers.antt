use Rattle.pd_draft.proofs.DraftLemmas.{placed_between}
use Rattle.pd_draft.proofs.draft.others_stay.Goals as goal

pub returns : goal.returns
returns c = placed_between
