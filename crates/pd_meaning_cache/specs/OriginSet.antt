-- What is known of origins that were added.
use Rattle.std.specs.Prelude.{◌≡◌, ℕ, ◌+◌, ◌/◌, ◌%◌, ◌==◌, if◌then◌else◌, Bool, true, false, List, slice_index, vec_len, vec_capacity}
use Rattle.std.specs.Int.{bit_at}
use Rattle.std.specs.List.{count_by}
use Rattle.pd_kinds.specs.Whole.{has_repeat}
use Rattle.pd_meaning_cache.specs.declared.origin_set.OriginSet.{OriginSet}

-- how often a number comes
abbrev pub count_of : ℕ → List ℕ → ℕ
count_of x xs = count_by (λ y. y == x) xs

-- whether a number has a bit in words of 64 bits, which is set
unfoldable pub is_set : List ℕ → ℕ → Bool
is_set words number = bit_at (slice_index words (number / 64)) (number % 64) == 1

-- how many origins have no bit, and for how many of them there is room
abbrev pub others_number : OriginSet → ℕ
others_number set = vec_len set.others

abbrev pub others_room : OriginSet → ℕ
others_room set = vec_capacity set.others

-- how often an origin is kept
abbrev pub times : OriginSet → ℕ → ℕ
times set x = count_of x set.others.items + (if is_set set.bits.items x then 1 else 0)

-- one of the origins is known to come twice, or else each is counted
pub record AreCounted (os : List ℕ) (twice : Bool) (kept : ℕ → ℕ) : Type 0 where
  pub again : twice ≡ true → has_repeat os ≡ true
  pub number : twice ≡ false → (x : ℕ) → kept x ≡ count_of x os

-- these were added
abbrev pub AreAdded : List ℕ → OriginSet → Type 0
AreAdded os set = AreCounted os set.again (times set)
