use Rattle.std.proofs.Common.{◌∙◌, ℕ, List, [], ◌∷◌, ◌++◌, filter, sym, ap, ap₂}
use Rattle.pd_kinds.specs.Node.{key_at, value_at}
use Rattle.pd_value.specs.declared.thin.BlockTime.{BlockTime}
use Rattle.pd_meaning_thin.specs.Runs.{block_time_of}
use Rattle.pd_uses.specs.declared.hits.Hit.{Hit}
use Rattle.pd_uses.specs.Hits.{is_hit}
use Rattle.pd_uses.proofs.HitLemmas.{hits_more}
use Rattle.pd_uses.proofs.hits.hits_of_leaf.Goals as goal

pub loop-i-preserved : goal.loop-i-preserved
loop-i-preserved c =
    let block = c.args.block.now.0 in
    let hit : BlockTime → ℕ → Hit = λ mapping virt. record { block = mapping.block; virt = virt } in
    c.in_ok-join_hit.ensures
    ∙ (ap (λ (hits : List Hit). hits ++ filter (is_hit c.args.region) (hit c.value.result c.key.result ∷ [])) c.loop-i.invariant
    ∙ sym (hits_more c.args.region (λ i. (key_at block i, block_time_of (value_at 8 block i))) c.loop-i.i (hit c.value.result c.key.result) (ap₂ hit c.value.ensures.value c.key.ensures)))
