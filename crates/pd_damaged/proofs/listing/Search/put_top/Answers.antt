use Rattle.std.proofs.Common.{◌≡◌, ℕ, ◌<◌, true, nat_lt, ◌∷◌, refl, sym, subst, arith}
use Rattle.std.specs.List.{AllByRecursion}
use Rattle.std.proofs.lemmas.Bool.{lt-ltb}
use Rattle.std.proofs.lemmas.Option.{IfSome_then}
use Rattle.pd_kinds.proofs.ResultLemmas.{if_then}
use Rattle.pd_scan.specs.Pairs.{AreInside, place_among}
use Rattle.pd_damaged.specs.declared.listing.Search.{Search}
use Rattle.pd_damaged.specs.declared.table.KnownTable.{KnownTable}
use Rattle.pd_damaged.specs.Known.{meta_blocks_of}
use Rattle.pd_damaged.specs.Listed.{AreStates, StatesInside}
use Rattle.pd_damaged.proofs.StateLemmas.{inside_put, none_put, one_put, search_stays}
use Rattle.pd_damaged.proofs.listing.Search.put_top.Goals as goal

pub returns-then-kept-eq0-clause-states : goal.returns-then-kept-eq0-clause-states
returns-then-kept-eq0-clause-states g c =
    IfSome_then (g.D.Device.state c.args.dev.now).held c.in_ok-kept.ensures.top
    (λ image kept graph ts is few before.
    none_put graph image c.args.top few c.in_ok-kept.kept (kept is.right graph is.number is.pool) ts c.args.states.now.items c.if-kept-eq0.true before)

pub returns-clause-states : goal.returns-clause-states
returns-clause-states g c =
    let search = c.args.self.now in
    let mid : Search = record { remains = c.below_top.new.remains; tops = c.below_top.new.tops; details = search.details; roots = search.roots } in
    let found = c.args.states.now.items in
    let some : nat_lt 0 c.in_ok-kept.kept.kept.number ≡ true = lt-ltb 0 c.in_ok-kept.kept.kept.number (omega (arith, c.if-kept-eq0.false)) in
    if_then (g.D.Device.state c.args.dev.now).held (g.D.Device.state c.below_top.new.dev).held _ _ _ c.in_ok-kept.ensures.kept.held
    (λ image kept state graph ts is few before.
    let kept_is = kept is.right graph is.number is.pool in
    let its = state graph (search_stays graph image search mid is (record { remains = c.in_ok-kept.ensures.same; roots = refl })) few kept_is in
    subst (AreStates graph image (c.args.top ∷ ts)) (sym c.in_ok-put.ensures)
    (one_put graph image c.args.top few c.in_ok-kept.kept kept_is ts found c.in_ok-state.state some its before))
    c.in_ok-kept.ensures.top c.in_ok-state.ensures.state

pub returns-clause-inside : goal.returns-clause-inside
returns-clause-inside g c roots small states =
    let top = c.args.top in
    let nr = meta_blocks_of c.args.self.now.remains in
    let found = c.args.states.now.items in
    let state = c.in_ok-state.state in
    let P : KnownTable → Type 0 = λ t. AllByRecursion (λ (r : ℕ). r < t.nr) c.args.self.now.roots.items → top < t.nr → AreInside t.nr state.roots in
    subst (StatesInside nr) (sym c.in_ok-put.ensures)
    (inside_put nr (place_among state found) found state (subst P c.in_ok-kept.ensures.same c.in_ok-state.ensures.inside roots small) states)
