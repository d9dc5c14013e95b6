use Rattle.std.proofs.Common.{◌+◌, is_ok, ap, arith}
use Rattle.pd_graph.specs.Marks.{values_of}
use Rattle.pd_graph.proofs.TableLemmas.{length-values, same_values, most_of}
use Rattle.pd_graph.proofs.block_table.BlockTable.reach.Goals as goal

pub overflow_add-place : goal.overflow_add-place
overflow_add-place g c = omega (arith, length-values c.args.self.now, c.requires, c.ranges.place.fits, c.args.self.now.room, c.args.self.now.kept.small)

pub unwrap-requires : goal.unwrap-requires
unwrap-requires g c = c.resize.ensures.succeeds (omega (arith, length-values c.args.self.now, c.requires, c.args.self.now.room))

pub invariant_of-self-clause-few : goal.invariant_of-self-clause-few
invariant_of-self-clause-few g c =
    most_of (is_ok c.resize.result) _ _ _ c.args.self.now.places c.resize.ensures.len
    (omega (arith, length-values c.args.self.now, c.requires)) c.args.self.now.few

pub returns-then-len-place-clause-values : goal.returns-then-len-place-clause-values
unfolding values_of
returns-then-len-place-clause-values g c =
    let table = c.args.self.now in
    same_values table.kept.items c.resize.new.self.items table.unset table.places (c.args.place + 1) table.kept.len (is_ok c.resize.result)
    (omega (arith, c.len.ensures, c.if-len-place.true, table.kept.ok.0)) (omega (arith, length-values table, c.requires))
    table.kept.ok.0 (ap (λ r. is_ok r) c.unwrap.ensures) c.resize.ensures.items
