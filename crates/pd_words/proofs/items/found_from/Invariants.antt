use Rattle.std.proofs.Common.{◌≡◌, ◌-◌, length, map, string_bytes}
use Rattle.pd_words.specs.Items.{values_from}
use Rattle.pd_words.proofs.items.found_from.Given as goal

abbrev pub invariant-loop-at : goal.invariant-loop-at
invariant-loop-at l =
    values_from (map string_bytes l.words) l.purpose l.fn.begin ≡ values_from (map string_bytes l.words) l.purpose l.at

abbrev pub decreases-loop-at : goal.decreases-loop-at
decreases-loop-at l = length l.words - l.at
