use Rattle.std.proofs.Common.{ℕ, ◌<◌, get_or, arith}
use Rattle.pd_bitmap.proofs.Placed.{block_of_code}
use Rattle.pd_bitmap.proofs.index.entry_at.Goals as goal

pub returns-clause-block : goal.returns-clause-block
returns-clause-block c =
    let bytes : (k : ℕ) → get_or c.args.bytes.now k 0 < 256 = λ k. omega (arith, c.type_inv.bytes k) in
    rw c.value_at.ensures.value (block_of_code c.args.bytes.now c.args.at bytes)
