use Rattle.std.proofs.Common.{ℕ, List, sym, ap, ◌∙◌, subst}
use Rattle.std.specs.List.{AllByRecursion}
use Rattle.pd_kinds.proofs.ResultLemmas.{if_maps}
use Rattle.pd_cache.specs.Meeting.{AreMet, IsMapBlock, blocks_named}
use Rattle.pd_cache.proofs.MeetLemmas.{fresh_met}
use Rattle.pd_cache.proofs.mapping.is_origin_repeated.Goals as goal

pub returns-clause-repeats : goal.returns-clause-repeats
returns-clause-repeats g c =
    if_maps (g.D.Device.state c.args.dev.now).held _ _ (λ image gathered each.
    let same = ap blocks_named (c.restart.ensures.items image) in
    let met = gathered (subst (λ (bs : List ℕ). AllByRecursion (IsMapBlock c.args.audit.now) bs) (sym same) each) (fresh_met image c.args.origins.now c.requires.fresh) in
    let all = subst (λ (bs : List ℕ). AreMet image bs c.gather.new.origins) same met in
    c.has_repeat.ensures all.met all.added ∙ sym all.repeats) c.in_ok-gather.ensures.met
