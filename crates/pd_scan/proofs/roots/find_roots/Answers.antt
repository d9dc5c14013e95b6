use Rattle.std.proofs.Common.{ℕ, min, IfOk, IfSome, sym, ◌∙◌, ap, subst, arith}
use Rattle.std.proofs.lemmas.Option.{IfSome_then}
use Rattle.std.proofs.lemmas.Result.{IfOk-weaker}
use Rattle.pd_kinds.specs.declared.limits.TheConstants.{MAX_META_BLOCKS}
use Rattle.pd_kinds.proofs.ResultLemmas.{if_both}
use Rattle.pd_scan.specs.Pairs.{AreInside}
use Rattle.pd_scan.proofs.FitLemmas.{lost_is, none_found, nr_of, pool_of}
use Rattle.pd_scan.proofs.roots.find_roots.Goals as goal

pub returns-then-nr-eq0-clause-found : goal.returns-then-nr-eq0-clause-found
returns-then-nr-eq0-clause-found g c =
    IfSome_then (g.D.Device.state c.args.dev.now).held c.blocks-2.ensures.honest (λ image number.
    none_found image c.args.data_blocks (ap (λ (n : ℕ). min n MAX_META_BLOCKS) (sym number) ∙ (sym c.min-nr.ensures ∙ c.if-nr-eq0.true)))

pub find_roots_in-requires-clause-pool : goal.find_roots_in-requires-clause-pool
find_roots_in-requires-clause-pool g c = pool_of _ c.min-nr.result c.args.data_blocks c.lost_format.ensures

pub find_roots_in-requires-clause-within : goal.find_roots_in-requires-clause-within
find_roots_in-requires-clause-within g c =
    let number = nr_of _ c.min-nr.result c.args.data_blocks c.lost_format.ensures in
    let least = c.min-nr.ensures in
    let blocks = c.blocks-2.ensures.count in
    omega arith

pub returns-clause-found : goal.returns-clause-found
returns-clause-found g c =
    IfOk-weaker c.find_roots_in.result _ _
    (λ found told. if_both (g.D.Device.state c.args.dev.now).held
    (λ image is number.
    is c.args.data_blocks
    (lost_is image c.min-nr.result c.args.data_blocks _ c.lost_format.ensures (c.min-nr.ensures ∙ ap (λ (n : ℕ). min n MAX_META_BLOCKS) number)))
    told c.blocks-2.ensures.honest)
    c.find_roots_in.ensures.found

pub returns-clause-inside : goal.returns-clause-inside
returns-clause-inside g c =
    subst (λ (n : ℕ). IfOk c.find_roots_in.result (λ found. IfSome found (AreInside n)))
    (nr_of _ c.min-nr.result c.args.data_blocks c.lost_format.ensures ∙ (c.min-nr.ensures ∙ ap (λ (n : ℕ). min n MAX_META_BLOCKS) c.blocks-2.ensures.count))
    c.find_roots_in.ensures.inside
