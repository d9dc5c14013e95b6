use Rattle.std.proofs.Common.{◌≤◌, length, arith}
use Rattle.pd_kinds.proofs.ResultLemmas.{if_maps}
use Rattle.pd_meaning_era.specs.Notes.{words_at}
use Rattle.pd_meaning_era.proofs.LevelLemmas.{level_outside}
use Rattle.pd_meaning_era.proofs.KnownLemmas.{goes_nothing}
use Rattle.pd_meaning_era.proofs.descent.read_block.Goals as goal

pub returns-then-b-blocks-clause-opened : goal.returns-then-b-blocks-clause-opened
returns-then-b-blocks-clause-opened g c =
    let past = c.if-b-blocks.true in
    if_maps (g.D.Device.state c.args.dev.now).held _ _ (λ image honest knows.
    let outside : length image ≤ c.args.b = omega arith in
    goes_nothing image c.args.end c.args.at (words_at image c.args.level c.args.b) c.args.walk.now (level_outside image c.args.level c.args.b outside) knows) c.blocks-2.ensures.honest
