use Rattle.std.proofs.Common.{◌≡◌, List, [], filter, subst}
use Rattle.pd_uses.specs.declared.hits.Hit.{Hit}
use Rattle.pd_uses.specs.Hits.{is_hit, runs_hits}
use Rattle.pd_uses.proofs.HitLemmas.{all_outside}
use Rattle.pd_uses.proofs.hits.LeafHits.is_outside.Goals as goal

pub returns : goal.returns
returns c = λ outside. subst (λ (hits : List Hit). filter (is_hit c.args.region) hits ≡ []) c.self.view_is
    (all_outside c.args.region c.self.inside.span (runs_hits c.self.inside.runs.items) c.self.invariant outside)
