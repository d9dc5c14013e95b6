-- The numbered calls of an object in memory, and which of them are set to fail.
-- The numbers by which the traits speak of an object's access.
use Rattle.std.specs.Prelude.{◌≡◌, ℕ, ◌+◌, ◌-◌, ◌^◌, ◌==◌, ◌||◌, min, nat_le, Bool, false, List, [], ◌∷◌, ◌++◌, Option, Some, None, true, is_none, Vec}
use Rattle.std.specs.List.{list_any}
use Rattle.std.specs.Option.{option_map}
use Rattle.std.proofs.Common.{refl, Global}
use Rattle.pd_image.specs.declared.calls.Calls.{Calls}
use Rattle.pd_image.specs.declared.calls.Access.{Access}
use Rattle.pd_image.specs.declared.calls.Access.TheVariants.{Unattached, Attached, Writable, Refused}

-- one more, up to the end of a `u64`
abbrev pub counted : ℕ → ℕ
counted n = min (n + 1) (2 ^ 64 - 1)

-- how many calls were made, which is the number of the next one
abbrev pub calls_made : Calls → ℕ
calls_made calls = calls.made

-- how many of them have failed
abbrev pub calls_failed : Calls → ℕ
calls_failed calls = calls.faults

-- the numbers of the calls that are set to fail
abbrev pub calls_set : Calls → List ℕ
calls_set calls = calls.failing.items

-- the number from which on each call fails, where there is one
abbrev pub calls_stop : Calls → Option ℕ
calls_stop calls = calls.stop

-- whether the call with this number is set to fail
abbrev pub is_set_to_fail : Calls → ℕ → Bool
is_set_to_fail calls call = list_any (λ set. set == call) (calls_set calls)

-- whether a call comes after the stop
abbrev pub is_stopped : Option ℕ → ℕ → Bool
is_stopped None call = false
is_stopped (Some stop) call = nat_le stop call

-- the earlier of two stops
abbrev pub first_stop : Option ℕ → ℕ → ℕ
first_stop None call = call
first_stop (Some stop) call = min stop call

-- whether the next call fails: it is set to, or comes after the stop
abbrev pub next_fails : Calls → Bool
next_fails calls = is_set_to_fail calls (calls_made calls) || is_stopped (calls_stop calls) (calls_made calls)

-- no call was made, and none is set to fail
pub record IsUncalled (calls : Calls) : Type 0 where
  pub made : calls_made calls ≡ 0
  pub set : calls_set calls ≡ []
  pub stop : calls_stop calls ≡ None

-- one call was made, and the same calls are set to fail
pub record CountsCall (old new : Calls) : Type 0 where
  pub made : calls_made new ≡ counted (calls_made old)
  pub set : calls_set new ≡ calls_set old
  pub stop : calls_stop new ≡ calls_stop old

-- no call was made, and just this one more is set to fail
pub record SetsToFail (call : ℕ) (old new : Calls) : Type 0 where
  pub made : calls_made new ≡ calls_made old
  pub set : calls_set new ≡ calls_set old ++ (call ∷ [])
  pub fails : (other : ℕ) → is_set_to_fail new other ≡ (is_set_to_fail old other || (call == other))
  pub stop : calls_stop new ≡ calls_stop old

-- no call was made, and each call from this number on fails besides
pub record Stops (call : ℕ) (old new : Calls) : Type 0 where
  pub made : calls_made new ≡ calls_made old
  pub set : calls_set new ≡ calls_set old
  pub stop : calls_stop new ≡ Some (first_stop (calls_stop old) call)

-- no call was made, and the same calls are set to fail
pub record KeepsCalls (old new : Calls) : Type 0 where
  pub made : calls_made new ≡ calls_made old
  pub set : calls_set new ≡ calls_set old
  pub stop : calls_stop new ≡ calls_stop old

-- the number of an access, as the states of the objects outside have it
abbrev pub access_number : Access → ℕ
access_number Unattached = 0
access_number Attached = 1
access_number Writable = 2
access_number Refused = 3

-- a path that isn't there isn't told
pub untold : (path : Option (Vec ℕ Global)) → is_none path ≡ true → option_map (λ (p : Vec ℕ Global). p.items) path ≡ None
untold None none = refl
untold (Some path) none = cc
