use Rattle.std.proofs.Common.{◌≡◌, ℕ, arith, ◌∙◌, ◌-◌, ◌++◌, length, replicate, ap, List}
use Rattle.pd_graph.specs.Marks.{values_of}
use Rattle.pd_graph.proofs.block_table.BlockTable.new.Goals as goal

pub returns : goal.returns
unfolding values_of
returns g c =
    ap (λ (items : List g.row.T.Denot). items ++ replicate (c.args.places - length items) c.args.unset) c.in_ok-kept.ensures.items
    ∙ ap (λ (n : ℕ). replicate n c.args.unset) (let all : c.args.places - 0 ≡ c.args.places = omega arith in all)
