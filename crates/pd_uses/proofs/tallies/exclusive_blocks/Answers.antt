use Rattle.pd_kinds.specs.Graph.{block_at}
use Rattle.pd_kinds.specs.ThinFormat.{thin_fields}
use Rattle.pd_query.proofs.QueryLemmas.{one_told}
use Rattle.pd_meaning_thin.specs.Pieces.{pool_roots}
use Rattle.pd_uses.proofs.ListRowLemmas.{rows_proper}
use Rattle.pd_uses.proofs.ListWalkLemmas.{are_exclusive}
use Rattle.pd_uses.proofs.tallies.exclusive_blocks.Goals as goal

pub returns-clause-exclusive : goal.returns-clause-exclusive
returns-clause-exclusive g c =
    rw c.into_exclusive.ensures
    (one_told (g.D.Device.state c.args.dev.now).held
    (λ image tallies none own.
    let blocks = (thin_fields (block_at image 0)).meta_map.blocks in
    are_exclusive image c.args.s.now blocks c.in_ok-tallies.tallies c.tally_pool.new.tallies c.in_ok-tallies.ensures.size c.in_ok-tallies.ensures.devices c.in_ok-tallies.ensures.tallied
    (rows_proper image c.args.s.now blocks (pool_roots image) own (c.pieces_are_those_of_the_shape.ensures image none).roots (c.leaves_are_below_roots.ensures.trees image none)) tallies)
    c.in_ok-tally_pool.ensures.walks)
