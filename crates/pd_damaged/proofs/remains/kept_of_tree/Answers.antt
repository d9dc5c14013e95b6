use Rattle.std.proofs.Common.{◌∙◌, fold, ap}
use Rattle.pd_measures.proofs.ListLemmas.{ok_some}
use Rattle.pd_damaged.specs.Kept.{counted, no_kept}
use Rattle.pd_damaged.proofs.KeptLemmas.{tree_counted}
use Rattle.pd_damaged.proofs.remains.kept_of_tree.Goals as goal

pub returns-clause-below : goal.returns-clause-below
returns-clause-below g c =
    let table = c.args.table.now in
    ok_some c.kept_of_cursor.result (g.D.Device.state c.args.dev.now).held _ _
    (λ sum image is.
    is ∙ (ap (fold (counted table.data_blocks) no_kept) (c.restart.ensures.left image) ∙ tree_counted table.nr table.data_blocks image c.args.root))
    c.kept_of_cursor.ensures.measure
