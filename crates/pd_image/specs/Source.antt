-- Trusted base.
-- What the calls of a source leave and give.
use Rattle.std.specs.Prelude.{◌≡◌, ℕ, ◌≤◌, Bool, if◌then◌else◌, List, [], length, take, drop, Option, Some, IfSome}
use Rattle.pd_kinds.specs.Objects.{SourceState}

-- what `attach` leaves
pub record AttachesSource (asked : List ℕ) (ok : Bool) (old new : SourceState) : Type 0 where
  pub access : new.access ≡ (if ok then 1 else 3)
  pub path : IfSome new.path (λ told. told ≡ asked)
  pub left : new.left ≡ old.left

-- what only `attach` sets stays
pub record KeepsSource (old new : SourceState) : Type 0 where
  pub access : new.access ≡ old.access
  pub path : new.path ≡ old.path

-- n bytes moved from the front of what was left to the front of the room, and 0 is the end
pub record TakesBytes (n : ℕ) (room : List ℕ) (after : Option (List ℕ)) (left : List ℕ) : Type 0 where
  pub within : n ≤ length left
  pub moved : take n room ≡ take n left
  pub rest : after ≡ Some (drop n left)
  pub only_at_end : n ≡ 0 → left ≡ []
