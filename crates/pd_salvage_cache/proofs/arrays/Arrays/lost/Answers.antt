use Rattle.std.proofs.Common.{◌-◌, ◌*◌, min, arith}
use Rattle.pd_salvage_cache.proofs.LostLemmas.{lost_in_key}
use Rattle.pd_salvage_cache.proofs.arrays.Arrays.lost.Goals as goal

pub returns-clause-lost : goal.returns-clause-lost
returns-clause-lost c =
    let number = min 509 (c.args.end - 509 * c.args.key) in
    omega (
      arith,
      c.min-number.ensures,
      c.min-known.ensures,
      lost_in_key c.args.self.now c.args.key number c.min-known.result (omega arith) (omega (arith, c.min-number.ensures, c.min-known.ensures, c.count.ensures.count)),
    )
