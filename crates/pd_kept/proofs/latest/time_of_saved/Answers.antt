use Rattle.std.proofs.Common.{IfSome, ap, map, subst, ◌≡◌, ◌∙◌}
use Rattle.pd_tree.proofs.NextLemmas.{if_both}
use Rattle.pd_kept.specs.Kept.{pair_of, stored_numbers}
use Rattle.pd_kept.proofs.LatestLemmas.{pool_time_is, time_is}
use Rattle.pd_kept.proofs.latest.time_of_saved.Goals as goal

pub times_of-requires : goal.times_of-requires
times_of-requires g c = rw c.as_slice.ensures.value c.in_ok-stored.ensures.ascend

pub returns-clause-lost : goal.returns-clause-lost
returns-clause-lost g c =
    let s = c.args.s.now in
    let stored = c.in_ok-stored.stored.items in
    if_both (g.D.Device.state c.args.dev.now).held
    (λ image held_is shape numbers. c.times_of.ensures.lost ∙ time_is s image c.in_ok-saved.saved c.as_slice.result.now shape (c.saved_shapes_mean_what_is_saved.ensures s image)
    (ap (map pair_of) c.as_slice.ensures.value ∙ numbers))
    c.in_ok-saved.ensures.saved
    (subst (λ o. IfSome o (λ image. map pair_of stored ≡ stored_numbers s image)) c.in_ok-saved.ensures.kept.held c.in_ok-stored.ensures.told)

pub returns-clause-pool : goal.returns-clause-pool
returns-clause-pool g c =
    let s = c.args.s.now in
    let stored = c.in_ok-stored.stored.items in
    if_both (g.D.Device.state c.args.dev.now).held
    (λ image held_is shape numbers. c.times_of.ensures.pool ∙ pool_time_is s image c.in_ok-saved.saved c.as_slice.result.now shape (c.saved_shapes_mean_what_is_saved.ensures s image)
    (ap (map pair_of) c.as_slice.ensures.value ∙ numbers))
    c.in_ok-saved.ensures.saved
    (subst (λ o. IfSome o (λ image. map pair_of stored ≡ stored_numbers s image)) c.in_ok-saved.ensures.kept.held c.in_ok-stored.ensures.told)
