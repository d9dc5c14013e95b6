-- How many blocks need a place in an overflow tree.
use Rattle.std.specs.Prelude.{ℕ, nat_le, count_by}
use Rattle.std.specs.List.{range_with_len}
use Rattle.pd_count.specs.Counted.{Counted, count_of}

-- how many blocks below this number were counted three times or more
unfoldable pub overflows_of : Counted → ℕ → ℕ
overflows_of counts blocks = count_by (λ d. nat_le 3 (count_of counts d)) (range_with_len 0 blocks)
