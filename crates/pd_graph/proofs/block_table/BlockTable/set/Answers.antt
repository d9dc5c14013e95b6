use Rattle.std.proofs.Common.{List, set, ap, ◌∙◌, arith}
use Rattle.pd_graph.specs.Marks.{values_of}
use Rattle.pd_graph.proofs.TableLemmas.{set_value}
use Rattle.pd_graph.proofs.block_table.BlockTable.set.Goals as goal

pub returns : goal.returns
unfolding values_of
returns g c =
    let table = c.reach.new.self in
    set_value table.kept.items table.unset c.args.value table.places c.args.place (omega (arith, c.reach.ensures.kept, table.kept.ok.0))
    ∙ ap (λ (values : List g.row.T.Denot). set values c.args.place c.args.value) c.reach.ensures.values
