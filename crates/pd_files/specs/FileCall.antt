-- The calls of an open file.
-- Where a file stands and what it gave, as its calls tell.
use Rattle.std.specs.Prelude.{ℕ, ◌*◌, Bool, true, ◌==◌, if◌then◌else◌, List, ◌∷◌, slice_index, ◌≡◌, ◌+◌, ◌-◌, ◌^◌, ◌<◌, ◌≤◌, ◌⊎◌, nat_lt, false, [], ◌++◌, length, slice_get, Option, Some, None, All}

-- a call of an open file, and whether it answered Ok
pub data FileCall : Type 0 where
  -- to move to this byte
  sought : ℕ → Bool → FileCall
  -- to read, which gave these bytes
  gave : List ℕ → Bool → FileCall
  -- to write these bytes
  wrote : List ℕ → Bool → FileCall
  -- to wait until all that was written is on the disk
  synced : Bool → FileCall

-- the calls of a block's read or write: to move to its first byte, unless the file stands there
abbrev pub after_moving : Bool → ℕ → List FileCall → List FileCall
after_moving known b calls = if known then calls else sought (4096 * b) true ∷ calls

-- the call that the numbers say: its kind, 1 for Ok, and where to move to
abbrev pub call_of : List ℕ → List ℕ → FileCall
call_of numbers bytes =
    let kind = slice_index numbers 0 in
    let ok = slice_index numbers 1 == 1 in
    if kind == 0 then sought (slice_index numbers 2) ok
    else if kind == 1 then gave bytes ok
    else if kind == 2 then wrote bytes ok
    else synced ok

-- so many bytes further on
abbrev pub further : ℕ → Option ℕ → Option ℕ
further n None = None
further n (Some at) = Some (at + n)

-- the byte at which the file stands after these calls, the newest first, where they tell it
abbrev pub place : List FileCall → Option ℕ
place [] = None
place (sought at ok ∷ calls) = if ok then Some at else None
place (gave bytes ok ∷ calls) = if ok then further (length bytes) (place calls) else None
place (wrote bytes ok ∷ calls) = if ok then further (length bytes) (place calls) else None
place (synced ok ∷ calls) = place calls

-- the first of the two that is there
abbrev pub or_else : Option ℕ → Option ℕ → Option ℕ
or_else None other = other
or_else (Some byte) other = Some byte

-- what these bytes, read from there on, say of a place; and what was known of it before, where they don't reach it
abbrev pub read_over : List ℕ → Option ℕ → ℕ → Option ℕ → Option ℕ
read_over bytes None at before = before
read_over bytes (Some from) at before =
    if nat_lt at from then before else or_else (slice_get bytes (at - from)) before

-- the byte that the file gave last at this place, of the calls since the last write or sync
abbrev pub given : List FileCall → ℕ → Option ℕ
given [] at = None
given (sought to ok ∷ calls) at = given calls at
given (gave bytes ok ∷ calls) at = if ok then read_over bytes (place calls) at (given calls at) else given calls at
given (wrote bytes ok ∷ calls) at = None
given (synced ok ∷ calls) at = None

-- these bytes are what the file gave last from this place on, since the last write or sync
abbrev pub IsGivenAt : List FileCall → ℕ → List ℕ → Type 0
IsGivenAt calls at bytes = (i : ℕ) → i < length bytes → given calls (at + i) ≡ slice_get bytes i

-- whether the call is a move or a read, which changes nothing of the file
abbrev pub only_looks : FileCall → Bool
only_looks (sought to ok) = true
only_looks (gave bytes ok) = true
only_looks (wrote bytes ok) = false
only_looks (synced ok) = false

-- the same calls with moves and reads alone before them, at most so many
pub record LooksMore (most : ℕ) (old new : List FileCall) : Type 0 where
  pub later : List FileCall
  pub before : new ≡ later ++ old
  pub looks : All (λ call. only_looks call ≡ true) later
  pub few : length later ≤ most

-- the newest call is the block's own and failed: to move to its first byte, or to read its bytes and no more
abbrev pub FailedAt : ℕ → List FileCall → Type 0
FailedAt b [] = ⊥
FailedAt b (sought at ok ∷ calls) = (at ≡ 4096 * b) × (ok ≡ false)
FailedAt b (gave bytes ok ∷ calls) = (length bytes ≡ 4096) × (ok ≡ false) × (place calls ≡ Some (4096 * b))
FailedAt b (wrote bytes ok ∷ calls) = ⊥
FailedAt b (synced ok ∷ calls) = ⊥

-- why a block isn't read: no file has a byte so far out, or its own call failed
abbrev pub FailsAlone : ℕ → List FileCall → Type 0
FailsAlone b calls = (2 ^ 64 ≤ 4096 * b) ⊎ FailedAt b calls
