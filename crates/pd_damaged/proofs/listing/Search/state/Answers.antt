use Rattle.std.proofs.Common.{◌≡◌, ℕ, ◌<◌, ◌≤◌, List, ◌∙◌, ap, subst, sym, arith}
use Rattle.std.specs.List.{AllByRecursion}
use Rattle.pd_kinds.specs.declared.limits.TheConstants.{MAX_META_BLOCKS}
use Rattle.pd_kinds.proofs.ResultLemmas.{if_then}
use Rattle.pd_scan.specs.declared.states.State.{State}
use Rattle.pd_scan.specs.Pairs.{AreInside}
use Rattle.pd_damaged.specs.Given.{best_after, given_at, ids_below, ids_left}
use Rattle.pd_damaged.specs.Known.{meta_blocks_of}
use Rattle.pd_damaged.specs.Listed.{IsStateOf}
use Rattle.pd_damaged.proofs.ListedLemmas.{ids_mapped}
use Rattle.pd_damaged.proofs.StateLemmas.{state_is}
use Rattle.pd_damaged.proofs.listing.Search.state.Goals as goal

pub returns-clause-state : goal.returns-clause-state
returns-clause-state g c =
    let nr = c.nr-nr.result in
    let top = c.args.top in
    let roots = c.args.self.now.roots.items in
    if_then (g.D.Device.state c.args.dev.now).held (g.D.Device.state c.ids_of.new.dev).held _ _ _ c.in_ok-ids.ensures.kept.held
    (λ image ids given graph is few kept.
    let number : graph.nr ≡ nr = is.number ∙ sym c.nr-nr.ensures in
    let below : c.as_slice.result.now ≡ ids_below nr image top =
    c.as_slice.ensures.value ∙ (ids ∙ (ap (ids_left nr) (c.restart.ensures.left image) ∙ ids_mapped nr image top)) in
    let most : nr ≤ MAX_META_BLOCKS = omega (arith, number, few) in
    let best = given graph top number most below in
    subst (IsStateOf graph image top) (sym c.state_of.ensures)
    (state_is graph image top few c.args.kept.now kept roots c.in_ok-given.given is.roots
    (best ∙ ap (λ (rs : List ℕ). given_at graph image top (best_after graph image top 0 rs)) c.as_slice-2.ensures.value)))
    c.in_ok-ids.ensures.ids c.in_ok-given.ensures.given

pub returns-clause-inside : goal.returns-clause-inside
returns-clause-inside g c roots small =
    let nr = meta_blocks_of c.args.self.now.remains in
    let some : 0 < nr = omega arith in
    subst (λ (s : State). AreInside nr s.roots) (sym c.state_of.ensures)
    (record {
      top = small;
      details = c.in_ok-given.ensures.among nr some (subst (AllByRecursion (λ (r : ℕ). r < nr)) (sym c.as_slice-2.ensures.value) roots);
    })
