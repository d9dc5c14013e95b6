use Rattle.std.proofs.Common.{rules, refl, ◌+◌}
use Rattle.pd_draft.proofs.DraftLemmas.{wrote_one}
use Rattle.pd_draft.proofs.draft.Draft.put.Goals as goal

pub returns-clause-wrote : goal.returns-clause-wrote
returns-clause-wrote g c =
    let state = g.D.Device.state in
    wrote_one c.args.block.now.0
    (record { device = state c.args.self.now.dev.now; place = c.args.self.now.next })
    (record { device = state c.place.new.dev; place = c.args.self.now.next + 1 })
    refl c.in_ok-place.ensures.content (record { crash = c.place.ensures.crash; told = c.place.ensures.told; kept = c.place.ensures.kept }) (search rules)
