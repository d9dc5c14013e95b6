use Rattle.std.proofs.Common.{List, [], ◌∷◌, ◌++◌, append_assoc, sym, ap, ap₂, ◌∙◌}
use Rattle.pd_uses.specs.declared.hits.Hit.{Hit}
use Rattle.pd_uses.specs.Hits.{run_hits, runs_hits}
use Rattle.pd_uses.proofs.hit_runs.Joining.add.Goals as goal

pub returns-in-Some : goal.returns-in-Some
returns-in-Some c =
    let done = runs_hits c.args.self.now.done.items in
    ap (λ (hits : List Hit). done ++ hits) c.in-Some.ensures ∙ sym (append_assoc done (run_hits c.args.self.now.open) (c.args.hit ∷ []))

pub returns : goal.returns
returns c = ap₂ (λ (xs ys : List Hit). xs ++ ys) c.in_ok-add_run.ensures c.run_of-self.ensures
