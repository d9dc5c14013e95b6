use Rattle.std.proofs.Common.{arith}
use Rattle.pd_count.proofs.EntryLemmas.{found_first, none_found}
use Rattle.pd_count.proofs.few.first_entered.Goals as goal

pub loop-i-init : goal.loop-i-init
loop-i-init c = λ j less from. let before = c.begin-start.ensures.before j less in absurd (omega arith)

pub returns-then-entries-i : goal.returns-then-entries-i
returns-then-entries-i c =
    let here = c.place.ensures in
    let behind = c.begin-start.ensures.behind c.loop-i.i (omega arith) (omega arith) in
    found_first c.args.entries.now c.requires.entries c.args.from c.args.least c.loop-i.i c.place.result (omega arith) (omega arith) here (omega arith) (omega arith)
    c.loop-i.invariant

pub returns : goal.returns
returns c =
    λ k behind below. none_found c.args.entries.now c.args.from c.args.least (omega arith) (λ j less from. c.loop-i.invariant j (omega arith) from) k behind
