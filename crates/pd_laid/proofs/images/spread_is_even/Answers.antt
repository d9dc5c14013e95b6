use Rattle.std.proofs.Common.{suc, ◌/◌, ◌%◌, length, sym, arith}
use Rattle.std.proofs.Math.Nat.{div-add-mod'}
use Rattle.std.proofs.lemmas.Nat.{mod_below}
use Rattle.pd_laid.proofs.LaidLemmas.{length-spread, joined_spread, part_sizes}
use Rattle.pd_laid.proofs.images.spread_is_even.Goals as goal

pub returns-clause-number : goal.returns-clause-number
returns-clause-number g c = length-spread

pub returns-clause-joined : goal.returns-clause-joined
returns-clause-joined g c = joined_spread

pub returns-clause-sizes : goal.returns-clause-sizes
returns-clause-sizes g c = λ k i xs within.
    part_sizes k (length xs / suc k) (length xs % suc k) i xs (sym (div-add-mod' (length xs) (suc k))) (mod_below (length xs) (suc k) (omega arith)) within
