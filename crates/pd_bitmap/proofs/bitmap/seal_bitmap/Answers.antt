use Rattle.std.proofs.Common.{◌≡◌, length, refl, arith, rules}
use Rattle.pd_kinds.specs.Bitmap.{map_place, placed_block}
use Rattle.pd_bitmap.proofs.Placed.{bitmap_met, place-placed, two_bits-placed}
use Rattle.pd_bitmap.proofs.bitmap.seal_bitmap.Goals as goal

pub returns-clause-sealed : goal.returns-clause-sealed
unfolding placed_block
returns-clause-sealed c = rw (c.seal.ensures.sealed, c.put_u64.ensures) refl

pub returns-clause-rules : goal.returns-clause-rules
returns-clause-rules c =
    let whole : length c.args.block.now.0 ≡ 4096 = search rules in
    let at : map_place c.seal.new.block.0 ≡ c.args.place =
    rw (returns-clause-sealed c) (place-placed 240779 c.args.place c.args.block.now.0 (omega arith) (omega arith)) in
    λ rule. bitmap_met c.args.place c.seal.new.block.0 rule c.seal.ensures.valid at

pub returns-clause-counts : goal.returns-clause-counts
returns-clause-counts c = λ i. rw (returns-clause-sealed c) (two_bits-placed 240779 c.args.place c.args.block.now.0 i)
