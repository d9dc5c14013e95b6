use Rattle.std.proofs.Common.{ℕ, ◌+◌, Bool, cond, ap}
use Rattle.pd_meaning_cache.specs.OriginSet.{count_of, times}
use Rattle.pd_meaning_cache.proofs.AddedLemmas.{counted_same}
use Rattle.pd_meaning_cache.proofs.origin_set.OriginSet.give_bits.Goals as goal

pub returns-clause-added : goal.returns-clause-added
returns-clause-added c = λ os before.
    let set = c.args.self.now in
    counted_same os set.again (times set) _ before (λ x. ap {B = ℕ} (λ (b : Bool). count_of x set.others.items + cond b 1 0) (c.lengthen.ensures x))
