use Rattle.std.proofs.Common.{◌≡◌, ◌+◌, ◌-◌, get_or, sym, ap, ◌∙◌, arith}
use Rattle.pd_meaning_cache.proofs.AddedLemmas.{no_neighbours, repeat_at}
use Rattle.pd_meaning_cache.proofs.origin_set.is_repeated.Goals as goal

pub returns-then-sorted-i : goal.returns-then-sorted-i
returns-then-sorted-i c =
    let next : c.loop-i.i - 1 + 1 ≡ c.loop-i.i = omega (arith, c.loop-i.auto.i) in
    sym (repeat_at c.args.sorted.now (c.loop-i.i - 1) (omega (arith, c.loop-i-test.true, c.loop-i.auto.i)) (c.if-sorted-i.true ∙ ap (λ i. get_or c.args.sorted.now i 0) (sym next)))

pub returns : goal.returns
returns c = sym (no_neighbours c.args.sorted.now c.requires (λ i within. c.loop-i.invariant i (omega (arith, within, c.loop-i-test.false))))
