use Rattle.std.proofs.Common.{◌≡◌, ℕ, ◌+◌, ◌^◌, Bool, cond, ◌∙◌, ap, subst, arith}
use Rattle.pd_laid.specs.LaidCache.{is_dirty}
use Rattle.pd_restore_kinds.specs.CacheRoots.{found, StandsAt}
use Rattle.pd_restore_kinds.proofs.WordLemmas.{bits_none, bits_more, bits_small}
use Rattle.pd_restore_kinds.proofs.cache_words.dirty_word.Goals as goal

pub loop-i-init : goal.loop-i-init
loop-i-init c =
    let same : c.args.first ≡ c.args.first + 0 = omega arith in
    record { stands = subst (λ (block : ℕ). StandsAt c.args.rows.now c.args.at block) same c.requires.stands; word = bits_none c.args.rows.now c.args.first }

pub with_bit-word-requires-clause-small : goal.with_bit-word-requires-clause-small
with_bit-word-requires-clause-small c = omega (arith, c.loop-i.invariant.word, bits_small c.args.rows.now c.args.first c.loop-i.i)

pub loop-i-preserved : goal.loop-i-preserved
loop-i-preserved c =
    let same : c.args.first + c.loop-i.i + 1 ≡ c.args.first + (c.loop-i.i + 1) = omega arith in
    let dirty : c.is_dirty.result ≡ is_dirty (found c.args.rows.now (c.args.first + c.loop-i.i)) = c.is_dirty.ensures ∙ ap is_dirty c.next_row-row.ensures.row in
    record {
      stands = subst (λ (block : ℕ). StandsAt c.args.rows.now c.next_row-row.result.1 block) same c.next_row-row.ensures.next;
      word = omega (
        arith,
        c.with_bit-word.ensures,
        c.loop-i.invariant.word,
        bits_more c.args.rows.now c.args.first c.loop-i.i,
        ap (λ (b : Bool). cond b (2 ^ c.loop-i.i) 0) dirty,
      );
    }

pub returns-clause-fits : goal.returns-clause-fits
returns-clause-fits c =
    let last : c.loop-i.i ≡ 64 = omega arith in
    omega (arith, c.loop-i.invariant.word, bits_small c.args.rows.now c.args.first c.loop-i.i, ap (λ (n : ℕ). 2 ^ n) last)
