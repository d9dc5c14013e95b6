use Rattle.std.proofs.Common.{List, subst, ℕ, length}
use Rattle.std.specs.List.Sorted.{IsPermutation}
use Rattle.pd_restore_kinds.specs.CacheReading.{IsLeastRepeat}
use Rattle.pd_restore_kinds.proofs.RepeatLemmas.{first_repeat}
use Rattle.pd_restore_kinds.proofs.cache_lines.rows_before_repeat.Goals as goal

pub returns : goal.returns
returns c =
    let sorted = c.sort_unstable.new.self.items in
    first_repeat c.args.rows.now sorted c.least_repeat.result
    (subst (λ (places : List (ℕ × ℕ)). IsPermutation places sorted) c.in_ok-places.ensures c.sort_unstable.ensures.permutation)
    c.sort_unstable.ensures.sorted
    (subst (λ (places : List (ℕ × ℕ)). IsLeastRepeat places (length places) (length c.args.rows.now) c.least_repeat.result) c.deref.ensures.value c.least_repeat.ensures)
