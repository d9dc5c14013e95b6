use Rattle.pd_draft.proofs.DraftLemmas.{place_write}
use Rattle.pd_draft.proofs.draft.place.Goals as goal

pub returns-clause-crash : goal.returns-clause-crash
returns-clause-crash g c =
    let w = c.write.ensures.wrote in
    place_write c.args.b c.args.block.now.0 c.requires.past c.requires.closed w.crash w.told w.others
