use Rattle.std.proofs.Common.{nat_le, nat_lt}
use Rattle.std.proofs.lemmas.Bool.{and_parts, leb-true, ltb-true}
use Rattle.pd_uses.proofs.OrderLemmas.{run_rises}
use Rattle.pd_uses.proofs.in_order.run_end.Goals as goal

pub returns : goal.returns
returns c = λ id.
    let at = c.args.at in
    let end = c.args.end in
    let first = c.first_block-first.result in
    let last = c.last_block-last.result in
    let rises = and_parts (nat_le at first) (nat_lt last end) c.if-not-rises.false in
    run_rises id c.args.run end at first last c.first_block-first.ensures c.last_block-last.ensures (leb-true at first rises.0) (ltb-true last end rises.1)
