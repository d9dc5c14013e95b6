use Rattle.std.proofs.Common.{take, ◌≡◌, ◌<◌, ◌^◌, true}
use Rattle.std.specs.Str.{all_ascii_digits}
use Rattle.std.specs.Str.Parse.{digits_value}
use Rattle.pd_texts.proofs.words.first_digits.Given as goal

abbrev pub invariant-loop-i : goal.invariant-loop-i
invariant-loop-i l = (all_ascii_digits (take l.i l.bytes) ≡ true) × ((digits_value 10 (take l.i l.bytes) ≡ l.value) × (l.value < 10 ^ l.i))
