use Rattle.std.proofs.Common.{arith}
use Rattle.pd_bitmap.proofs.Filled.{all_zero, all_ones}
use Rattle.pd_bitmap.proofs.bitmap.one_number.Goals as goal

pub returns-then-word-eq0 : goal.returns-then-word-eq0
returns-then-word-eq0 c =
    all_zero c.args.bytes.now c.args.g c.u64_at-word.result c.requires.group c.requires.size (λ k. omega (arith, c.type_inv.bytes k)) c.u64_at-word.ensures c.if-word-eq0.true

pub returns-then-word : goal.returns-then-word
returns-then-word c =
    all_ones c.args.bytes.now c.args.g c.u64_at-word.result c.requires.group c.requires.size (λ k. omega (arith, c.type_inv.bytes k)) c.u64_at-word.ensures c.if-word.true
