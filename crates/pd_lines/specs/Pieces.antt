-- What is put and what is only gathered, together.
use Rattle.std.specs.Prelude.{◌≡◌, ℕ, List, ◌++◌, Option, Some}

-- since `start` the sink got a front of the total, where it tells what was written, and the rest of the
-- total is pending
pub record Gathers (total pending : List ℕ) (start now : Option (List ℕ)) : Type 0 where
  pub told : (before : List ℕ) → start ≡ Some before
      → (put : List ℕ) × ((now ≡ Some (before ++ put)) × (put ++ pending ≡ total))
