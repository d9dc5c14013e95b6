use Rattle.std.proofs.Common.{ℕ, cond, nat_eq, ap, arith}
use Rattle.pd_grammar.specs.CacheText.{need_of_cache}
use Rattle.pd_grammar.specs.Need.{need_array}
use Rattle.pd_restore_kinds.proofs.WordLemmas.{empty_tree, empty_overflow}
use Rattle.pd_restore_kinds.proofs.cache_words.need_cache.Goals as goal

pub returns-clause-need : goal.returns-clause-need
unfolding need_of_cache
returns-clause-need c =
    let words = ap (λ (n : ℕ). cond (nat_eq c.args.version 2) (need_array 8 n) 0) c.dirty_words.ensures.number in
    omega (
      arith,
      c.need_words-mapping.ensures.need,
      c.need_where-hints.ensures.need,
      c.need_where-dirty.ensures.need,
      words,
      c.need_own_map.ensures.number,
      empty_tree,
      empty_overflow,
    )
