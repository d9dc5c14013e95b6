use Rattle.std.proofs.Common.{ℕ, ◌*◌, ◌/◌, ◌%◌, ◌^◌, set, bit_or, ap, ◌∙◌, arith}
use Rattle.std.proofs.lemmas.List.{get_or_read_under}
use Rattle.pd_meaning_cache.specs.OriginSet.{is_set}
use Rattle.pd_meaning_cache.proofs.AddedLemmas.{is_set-more}
use Rattle.pd_meaning_cache.proofs.origin_set.set_bit.Goals as goal

pub returns-clause-sets : goal.returns-clause-sets
returns-clause-sets c = λ other.
    let bits = c.args.bits.now.items in
    let number = c.args.number in
    ap (λ (word : ℕ). is_set (set bits (number / 64) (bit_or word (1 * 2 ^ (number % 64) % 2 ^ 64))) other) (get_or_read_under bits (number / 64) c.args.bits.now.len c.index-word.result.now 0 c.index-word.ensures c.requires (omega (arith, c.args.bits.now.ok.0)))
    ∙ is_set-more bits number other (omega (arith, c.requires, c.args.bits.now.ok.0))
