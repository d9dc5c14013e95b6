-- The line of a use, by the line of another one.
use Rattle.std.specs.Prelude.{◌≡◌, ℕ, ◌+◌, ◌/◌, ◌%◌, ◌≤◌, List, [], ◌∷◌, ◌++◌, slice_set, codes, decimal}
use Rattle.pd_uses.specs.declared.hits.DataUse.{DataUse}

-- what is behind the data block
abbrev pub rest_of_line : DataUse → List ℕ
rest_of_line one = codes " device " ++ (decimal one.id ++ (codes " virtual " ++ (decimal one.virt ++ (10 ∷ []))))

-- the numbers of two uses differ in the last two digits alone
pub record IsNear (old new : DataUse) : Type 0 where
  pub block : old.block / 100 ≡ new.block / 100
  pub virt : old.virt / 100 ≡ new.virt / 100
  pub id : old.id ≡ new.id
  pub long_block : 100 ≤ old.block
  pub long_virt : 100 ≤ old.virt

-- the last two digits of a number were put at a place
abbrev pub set_two : List ℕ → ℕ → ℕ → List ℕ
set_two bytes at number = slice_set (slice_set bytes at (48 + number / 10 % 10)) (at + 1) (48 + number % 10)
