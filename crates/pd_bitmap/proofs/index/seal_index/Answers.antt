use Rattle.std.proofs.Common.{◌≡◌, ◌+◌, ◌*◌, length, refl, arith, rules}
use Rattle.pd_kinds.specs.Bitmap.{map_place, placed_block}
use Rattle.pd_bitmap.proofs.Placed.{index_checksum_met, index_place_met, index_met, le-placed, place-placed}
use Rattle.pd_bitmap.proofs.index.seal_index.Goals as goal

pub returns-clause-sealed : goal.returns-clause-sealed
unfolding placed_block
returns-clause-sealed c = rw (c.seal.ensures.sealed, c.put_u64.ensures) refl

pub returns-clause-checksum : goal.returns-clause-checksum
returns-clause-checksum c = λ nr. index_checksum_met nr c.args.place c.seal.new.block.0 c.seal.ensures.valid

-- the place of what is sealed
placed : (c : goal.After-seal) → map_place c.seal.new.block.0 ≡ c.args.place
placed c =
    let whole : length c.args.block.now.0 ≡ 4096 = search rules in
    rw (returns-clause-sealed c) (place-placed 160478 c.args.place c.args.block.now.0 (omega arith) (omega arith))

pub returns-clause-place : goal.returns-clause-place
returns-clause-place c = λ nr. index_place_met nr c.args.place c.seal.new.block.0 c.seal.ensures.valid (placed c)

pub returns-clause-rules : goal.returns-clause-rules
returns-clause-rules c = λ nr rule.
    index_met nr c.args.place c.args.block.now.0 c.seal.new.block.0 rule c.seal.ensures.valid (placed c) (returns-clause-sealed c)

pub returns-clause-entries : goal.returns-clause-entries
returns-clause-entries c = λ i. rw (returns-clause-sealed c) (le-placed 160478 c.args.place c.args.block.now.0 (16 + 16 * i) 16 (omega arith))
