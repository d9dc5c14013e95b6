-- Trusted base.
-- What the calls of a sink leave.
use Rattle.std.specs.Prelude.{◌≡◌, ℕ, Bool, if◌then◌else◌, List, IfSome}
use Rattle.pd_kinds.specs.Objects.{SinkState}

-- what `attach` leaves, whose path is empty for the standard stream
pub record AttachesSink (asked : List ℕ) (ok : Bool) (old new : SinkState) : Type 0 where
  pub access : new.access ≡ (if ok then 1 else 3)
  pub path : IfSome new.path (λ told. told ≡ asked)
  pub written : new.written ≡ old.written

-- what only `attach` sets stays
pub record KeepsSink (old new : SinkState) : Type 0 where
  pub access : new.access ≡ old.access
  pub path : new.path ≡ old.path
