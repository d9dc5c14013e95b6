use Rattle.std.proofs.Common.{IfSome, ap, map, subst, ◌≡◌, ◌∙◌}
use Rattle.pd_tree.proofs.NextLemmas.{if_both}
use Rattle.pd_kept.specs.Kept.{pair_of, stored_numbers}
use Rattle.pd_kept.proofs.WeighingLemmas.{told_is}
use Rattle.pd_kept.proofs.kept.kept_by_repair.Goals as goal

pub weigh-requires : goal.weigh-requires
weigh-requires g c = rw c.as_slice.ensures.value c.in_ok-stored.ensures.ascend

pub returns-in-Some-clause-told : goal.returns-in-Some-clause-told
returns-in-Some-clause-told g c =
    let s = c.args.s.now in
    let stored = c.in_ok-stored.stored.items in
    if_both (g.D.Device.state c.args.dev.now).held
    (λ image held_is shape numbers. told_is s image c.in_ok-saved.saved c.as_slice.result.now c.in-Some.kept shape (c.saved_shapes_mean_what_is_saved.ensures s image)
    (ap (map pair_of) c.as_slice.ensures.value ∙ numbers) c.in-Some.ensures)
    c.in_ok-saved.ensures.saved
    (subst (λ o. IfSome o (λ image. map pair_of stored ≡ stored_numbers s image)) c.in_ok-saved.ensures.kept.held c.in_ok-stored.ensures.told)
