use Rattle.std.proofs.Common.{◌≡◌, [], ◌∷◌, map, arith, below_more}
use Rattle.std.specs.List.{range_with_len}
use Rattle.pd_kinds.specs.Node.{entry_count}
use Rattle.std.proofs.lemmas.List.FromFn.{map-range_with_len_more}
use Rattle.pd_salvage_shapes.proofs.NoteLemmas.{entry_at, saved_more}
use Rattle.pd_salvage_shapes.proofs.note.gather_leaf.Goals as goal

pub loop-i-preserved : goal.loop-i-preserved
loop-i-preserved c = record {
  gathered =
      rw (map-range_with_len_more (entry_at c.args.block.now.0) 0 c.loop-i.i c.loop-i.i (omega arith), saved_more c.args.blocks c.args.range.now (map (entry_at c.args.block.now.0) (range_with_len 0 c.loop-i.i)) (entry_at c.args.block.now.0 c.loop-i.i ∷ [])) (c.in_ok-take_entry.ensures.takes _ c.loop-i.invariant.gathered);
  fits = below_more _ _ c.loop-i.invariant.fits c.in_ok-take_entry.ensures.fits;
}

pub returns-clause-gathered : goal.returns-clause-gathered
returns-clause-gathered c =
    let all : entry_count 8 c.args.block.now.0 ≡ c.loop-i.i = omega (arith, c.entries-i-end.ensures) in
    rw all c.loop-i.invariant.gathered
