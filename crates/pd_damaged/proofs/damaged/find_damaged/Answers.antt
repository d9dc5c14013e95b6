use Rattle.std.proofs.Common.{ℕ, min, map, IfOk, sym, ◌∙◌, ap, subst}
use Rattle.std.specs.List.{AllByRecursion}
use Rattle.std.proofs.lemmas.Option.{IfSome_then}
use Rattle.std.proofs.lemmas.Result.{IfOk-weaker}
use Rattle.pd_kinds.specs.declared.limits.TheConstants.{MAX_META_BLOCKS}
use Rattle.pd_kinds.proofs.ResultLemmas.{if_any, if_both}
use Rattle.pd_laid.specs.FoundRoots.{lost_graph}
use Rattle.pd_scan.specs.Pairs.{state_roots}
use Rattle.pd_scan.proofs.FitLemmas.{lost_is, no_blocks, nr_of, pool_of}
use Rattle.pd_damaged.specs.Listed.{AreFound, HasKeptDevices, StatesInside}
use Rattle.pd_damaged.proofs.StateLemmas.{blocks_of, no_states}
use Rattle.pd_damaged.proofs.damaged.find_damaged.Goals as goal

pub returns-then-nr-eq0-clause-states : goal.returns-then-nr-eq0-clause-states
returns-then-nr-eq0-clause-states g c =
    IfSome_then (g.D.Device.state c.args.dev.now).held c.blocks-2.ensures.honest (λ image number.
    ap (map state_roots) c.new.ensures.items
    ∙ sym (no_states image c.args.data_blocks
    (no_blocks image c.args.data_blocks (ap (λ (n : ℕ). min n MAX_META_BLOCKS) (sym number) ∙ (sym c.min-nr.ensures ∙ c.if-nr-eq0.true)))))

pub returns-then-nr-eq0-clause-devices : goal.returns-then-nr-eq0-clause-devices
returns-then-nr-eq0-clause-devices g c =
    if_any (g.D.Device.state c.args.dev.now).held (λ image. subst (AllByRecursion (HasKeptDevices (lost_graph image c.args.data_blocks) image)) (sym c.new.ensures.items) tt)

pub returns-then-nr-eq0-clause-inside : goal.returns-then-nr-eq0-clause-inside
returns-then-nr-eq0-clause-inside g c =
    subst (StatesInside (min (g.D.Device.state c.args.dev.now).blocks MAX_META_BLOCKS)) (sym c.new.ensures.items) tt

pub find_damaged_in-requires-clause-pool : goal.find_damaged_in-requires-clause-pool
find_damaged_in-requires-clause-pool g c = pool_of _ c.min-nr.result c.args.data_blocks c.lost_format.ensures

pub find_damaged_in-requires-clause-number : goal.find_damaged_in-requires-clause-number
find_damaged_in-requires-clause-number g c =
    nr_of _ c.min-nr.result c.args.data_blocks c.lost_format.ensures ∙ (c.min-nr.ensures ∙ ap (λ (n : ℕ). min n MAX_META_BLOCKS) c.blocks-2.ensures.count)

pub find_damaged_in-requires-clause-given : goal.find_damaged_in-requires-clause-given
find_damaged_in-requires-clause-given g c = blocks_of _ c.min-nr.result c.args.data_blocks c.lost_format.ensures

pub returns-clause-states : goal.returns-clause-states
returns-clause-states g c =
    IfOk-weaker c.find_damaged_in.result _ _
    (λ found told. if_both (g.D.Device.state c.args.dev.now).held
    (λ image is number.
    (subst (λ graph. AreFound graph image found.items)
    (lost_is image c.min-nr.result c.args.data_blocks _ c.lost_format.ensures (c.min-nr.ensures ∙ ap (λ (n : ℕ). min n MAX_META_BLOCKS) number)) is).states)
    told c.blocks-2.ensures.honest)
    c.find_damaged_in.ensures.found

pub returns-clause-devices : goal.returns-clause-devices
returns-clause-devices g c =
    IfOk-weaker c.find_damaged_in.result _ _
    (λ found told. if_both (g.D.Device.state c.args.dev.now).held
    (λ image is number.
    (subst (λ graph. AreFound graph image found.items)
    (lost_is image c.min-nr.result c.args.data_blocks _ c.lost_format.ensures (c.min-nr.ensures ∙ ap (λ (n : ℕ). min n MAX_META_BLOCKS) number)) is).devices)
    told c.blocks-2.ensures.honest)
    c.find_damaged_in.ensures.found

pub returns-clause-inside : goal.returns-clause-inside
returns-clause-inside g c =
    subst (λ (n : ℕ). IfOk c.find_damaged_in.result (λ found. StatesInside n found.items))
    (nr_of _ c.min-nr.result c.args.data_blocks c.lost_format.ensures ∙ (c.min-nr.ensures ∙ ap (λ (n : ℕ). min n MAX_META_BLOCKS) c.blocks-2.ensures.count))
    c.find_damaged_in.ensures.inside
