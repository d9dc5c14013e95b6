use Rattle.std.proofs.Common.{◌∙◌, sym, subst}
use Rattle.pd_kinds.proofs.ResultLemmas.{if_any}
use Rattle.pd_uses.specs.declared.found.HitNote.TheVariants.{Hits}
use Rattle.pd_uses.specs.FoundUses.{IsNote}
use Rattle.pd_uses.specs.Hits.{hits_below}
use Rattle.pd_uses.proofs.FoundLemmas.{finds_known}
use Rattle.pd_uses.proofs.descent.open_node.Goals as goal

pub returns-in_ok-visit-in-Hits-clause-opened : goal.returns-in_ok-visit-in-Hits-clause-opened
returns-in_ok-visit-in-Hits-clause-opened g c =
    let region = c.args.wanted.region in
    if_any (g.D.Device.state c.args.dev.now).held (λ image right.
    let is : IsNote region image c.args.found.now.leaves.items c.args.b (Hits c.in-Hits.leaf) =
    subst (IsNote region image c.args.found.now.leaves.items c.args.b) (sym c.note.ensures ∙ c.in-Hits.is) (right.notes c.args.b) in
    finds_known region image c.args.wanted.id c.in-Hits.leaf (hits_below region image c.args.edges c.args.b) c.in_ok-visit-in-Hits.ensures right is.0 (is.1 c.args.edges))
