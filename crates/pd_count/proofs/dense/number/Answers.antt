use Rattle.std.proofs.Common.{◌∙◌, sym, ap₂, ℕ, ◌+◌, ◌*◌, arith}
use Rattle.pd_count.specs.Counted.{digits_number}
use Rattle.pd_count.proofs.FormLemmas.{low_digit}
use Rattle.pd_count.proofs.dense.number.Goals as goal

pub returns-then-digits-eq-CHUNK_COUNTS : goal.returns-then-digits-eq-CHUNK_COUNTS
returns-then-digits-eq-CHUNK_COUNTS c = c.from-low.ensures ∙ sym (low_digit c.args.digits.now c.args.at (omega arith))

pub returns : goal.returns
unfolding digits_number
returns c = ap₂ (λ (low high : ℕ). low + 256 * high) c.from-low.ensures c.high.ensures.number
