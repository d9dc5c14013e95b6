use Rattle.std.proofs.Common.{◌∙◌, arith}
use Rattle.pd_meaning_thin.proofs.NumberLemmas.{number_with-nothing, number_with-none, number_with-last, number_with-more}
use Rattle.pd_meaning_thin.proofs.packing.unpack_number.Goals as goal

pub loop-i-init : goal.loop-i-init
loop-i-init c = number_with-nothing c.args.bytes.now c.args.at

pub returns-then-byte-lt128 : goal.returns-then-byte-lt128
returns-then-byte-lt128 c =
    c.loop-i.invariant ∙ rw c.from.ensures (number_with-last c.args.bytes.now c.loop-i.i c.loop-i.value c.loop-i.scale (omega arith) (omega arith))

pub loop-i-preserved : goal.loop-i-preserved
loop-i-preserved c =
    c.loop-i.invariant ∙ rw c.from.ensures (number_with-more c.args.bytes.now c.loop-i.i c.loop-i.value c.loop-i.scale (omega arith) (omega arith))

pub returns : goal.returns
returns c =
    c.loop-i.invariant ∙ number_with-none c.args.bytes.now c.loop-i.i c.loop-i.value c.loop-i.scale (omega arith)
