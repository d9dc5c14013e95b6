use Rattle.std.proofs.Common.{ℕ, ◌-◌, ◌+◌, List, length, sym, subst}
use Rattle.std.specs.List.{range_with_len}
use Rattle.pd_salvage_cache.specs.Fuller.{AreFirst}
use Rattle.pd_salvage_cache.proofs.OrderLemmas.{first_more, one_more}
use Rattle.pd_salvage_cache.proofs.order.first_roots.Goals as goal

pub loop-passed-preserved : goal.loop-passed-preserved
loop-passed-preserved c fields image =
    let passed = c.loop-passed.passed in
    let words : List ℕ = c.args.words.now in
    let nr = length words in
    let old = c.loop-passed.choices.items in
    let new = c.put_block.new.choices.items in
    subst (λ (bs : List ℕ). AreFirst fields image words c.args.children.now bs new) (sym (one_more nr passed c.loop-passed-test.true))
    (first_more fields image words c.args.children.now (nr - (passed + 1)) (range_with_len (nr - passed) passed) old new (c.loop-passed.invariant fields image) c.in_ok-put_block.ensures)
