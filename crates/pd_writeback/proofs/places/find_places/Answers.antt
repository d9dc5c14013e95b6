use Rattle.std.proofs.Common.{List, ℕ, ap, subst, sym, ◌∙◌}
use Rattle.pd_writeback.specs.Room.{ArePlaces, seen_places}
use Rattle.pd_writeback.proofs.PlacesLemmas.{seen_are_places}
use Rattle.pd_writeback.proofs.places.find_places.Goals as goal

pub returns-clause-places : goal.returns-clause-places
returns-clause-places g c =
    let blocks = (g.A.Device.state c.args.meta.now).blocks in
    let seen = c.in_ok-seen.ensures in
    subst (λ (ps : List ℕ). ArePlaces blocks ps) (sym (c.in_ok-ascending.ensures ∙ ap seen_places c.as_slice.ensures.value))
    (seen_are_places blocks c.in_ok-seen.seen.items seen.number seen.first)
