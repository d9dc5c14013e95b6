use Rattle.std.proofs.Common.{ℕ, List, length, min, map, take, IfOk, sym, ◌∙◌, ap, subst, arith}
use Rattle.std.specs.List.{AllByRecursion}
use Rattle.std.proofs.lemmas.Option.{IfSome_then}
use Rattle.std.proofs.lemmas.Result.{IfOk-weaker}
use Rattle.pd_kinds.specs.declared.limits.TheConstants.{MAX_META_BLOCKS}
use Rattle.pd_kinds.proofs.ResultLemmas.{if_any, if_both}
use Rattle.pd_laid.specs.FoundRoots.{FoundRoots, lost_graph}
use Rattle.pd_scan.specs.declared.states.State.{State}
use Rattle.pd_scan.specs.Pairs.{AreInside}
use Rattle.pd_scan.specs.Pairs.{HasDevices, state_roots}
use Rattle.pd_scan.proofs.FitLemmas.{lost_is, no_blocks, nr_of, pool_of}
use Rattle.pd_scan.proofs.StateLemmas.{no_states}
use Rattle.pd_scan.proofs.states.find_states.Goals as goal

pub returns-then-nr-eq0-clause-found : goal.returns-then-nr-eq0-clause-found
returns-then-nr-eq0-clause-found g c =
    IfSome_then (g.D.Device.state c.args.dev.now).held c.blocks-2.ensures.honest (λ image number.
    ap (map state_roots) c.none.ensures.best
    ∙ ap (λ (rs : List FoundRoots). take 100 rs) (sym (no_states image c.args.data_blocks
    (no_blocks image c.args.data_blocks (ap (λ (n : ℕ). min n MAX_META_BLOCKS) (sym number) ∙ (sym c.min-nr.ensures ∙ c.if-nr-eq0.true))))))

pub returns-then-nr-eq0-clause-number : goal.returns-then-nr-eq0-clause-number
returns-then-nr-eq0-clause-number g c =
    IfSome_then (g.D.Device.state c.args.dev.now).held c.blocks-2.ensures.honest (λ image number.
    c.none.ensures.number
    ∙ ap (λ (rs : List FoundRoots). length rs) (sym (no_states image c.args.data_blocks
    (no_blocks image c.args.data_blocks (ap (λ (n : ℕ). min n MAX_META_BLOCKS) (sym number) ∙ (sym c.min-nr.ensures ∙ c.if-nr-eq0.true))))))

pub returns-then-nr-eq0-clause-devices : goal.returns-then-nr-eq0-clause-devices
returns-then-nr-eq0-clause-devices g c =
    if_any (g.D.Device.state c.args.dev.now).held (λ image. subst (AllByRecursion (HasDevices (lost_graph image c.args.data_blocks) image)) (sym c.none.ensures.best) tt)

pub returns-then-nr-eq0-clause-inside : goal.returns-then-nr-eq0-clause-inside
returns-then-nr-eq0-clause-inside g c =
    subst (AllByRecursion (λ (s : State). AreInside (min (g.D.Device.state c.args.dev.now).blocks MAX_META_BLOCKS) s.roots)) (sym c.none.ensures.best) tt

pub find_states_in-requires-clause-pool : goal.find_states_in-requires-clause-pool
find_states_in-requires-clause-pool g c = pool_of _ c.min-nr.result c.args.data_blocks c.lost_format.ensures

pub find_states_in-requires-clause-within : goal.find_states_in-requires-clause-within
find_states_in-requires-clause-within g c =
    let number = nr_of _ c.min-nr.result c.args.data_blocks c.lost_format.ensures in
    let least = c.min-nr.ensures in
    let blocks = c.blocks-2.ensures.count in
    omega arith

pub returns-clause-found : goal.returns-clause-found
returns-clause-found g c =
    IfOk-weaker c.find_states_in.result _ _
    (λ found told. if_both (g.D.Device.state c.args.dev.now).held
    (λ image is number.
    (is c.args.data_blocks
    (lost_is image c.min-nr.result c.args.data_blocks _ c.lost_format.ensures (c.min-nr.ensures ∙ ap (λ (n : ℕ). min n MAX_META_BLOCKS) number))).best)
    told c.blocks-2.ensures.honest)
    c.find_states_in.ensures.found

pub returns-clause-number : goal.returns-clause-number
returns-clause-number g c =
    IfOk-weaker c.find_states_in.result _ _
    (λ found told. if_both (g.D.Device.state c.args.dev.now).held
    (λ image is number.
    (is c.args.data_blocks
    (lost_is image c.min-nr.result c.args.data_blocks _ c.lost_format.ensures (c.min-nr.ensures ∙ ap (λ (n : ℕ). min n MAX_META_BLOCKS) number))).number)
    told c.blocks-2.ensures.honest)
    c.find_states_in.ensures.found

pub returns-clause-devices : goal.returns-clause-devices
returns-clause-devices g c =
    IfOk-weaker c.find_states_in.result _ _
    (λ found told. if_both (g.D.Device.state c.args.dev.now).held
    (λ image is number.
    (is c.args.data_blocks
    (lost_is image c.min-nr.result c.args.data_blocks _ c.lost_format.ensures (c.min-nr.ensures ∙ ap (λ (n : ℕ). min n MAX_META_BLOCKS) number))).devices)
    told c.blocks-2.ensures.honest)
    c.find_states_in.ensures.found

pub returns-clause-inside : goal.returns-clause-inside
returns-clause-inside g c =
    subst (λ (n : ℕ). IfOk c.find_states_in.result (λ found. AllByRecursion (λ (s : State). AreInside n s.roots) found.best.items))
    (nr_of _ c.min-nr.result c.args.data_blocks c.lost_format.ensures ∙ (c.min-nr.ensures ∙ ap (λ (n : ℕ). min n MAX_META_BLOCKS) c.blocks-2.ensures.count))
    c.find_states_in.ensures.inside
