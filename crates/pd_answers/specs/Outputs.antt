-- Trusted base.
-- What is left of the output of a request that makes an image of it, and when the work of a request is done.
-- What a request lays over its output, whose need is looked at before the output is written.
use Rattle.std.specs.Prelude.{◌≡◌, ◌≢◌, ◌⊎◌, ℕ, Bool, true, not, ◌==◌, List, length, IfSome, nat_lt, if◌then◌else◌, []}
use Rattle.pd_kinds.specs.Image.{room_of}
use Rattle.pd_kinds.specs.Objects.{DeviceState}
use Rattle.pd_kinds.specs.Crash.{HoldsOldOrNone, HoldsSynced, IsOutput, IsUntouched}
use Rattle.pd_kinds.specs.Meaning.{CacheMeaning, ThinPool}
use Rattle.pd_grammar.specs.CacheText.{cache_need}
use Rattle.pd_grammar.specs.Lines.{no_room_line}
use Rattle.pd_grammar.specs.Need.{thin_need}
use Rattle.pd_laid.specs.Laid.{IsLaid, Laid}
use Rattle.pd_laid.specs.LaidCache.{laid_cache}
use Rattle.pd_laid.specs.LaidThin.{laid_pool, laid_shape}
use Rattle.pd_laid.specs.Shape.{ThinShape}
use Rattle.pd_laid.specs.PoolText.{shape_need}
use Rattle.pd_answers.specs.Terms.{Objects, Answer}

-- the room of an output: that of the image that it tells, and that of its blocks where it was attached
pub record IsRoom (before after : DeviceState) (room : ℕ) : Type 0 where
  pub told : IfSome before.held (λ image. room ≡ room_of (length image))
  pub attached : after.access ≡ 2 → room ≡ room_of after.blocks

-- The work of a request that puts a line to `out` after it is done: at status 0, and wherever `out` was touched. At status 6
-- that is where the line alone couldn't be put
abbrev pub IsWorkDone : Objects → Objects → ℕ → Type 0
IsWorkDone before after status = (status ≡ 0) ⊎ (after.out ≢ before.out)

-- an output that told what it held, and tells what it holds, holds what was made of that, with nothing unsynced
abbrev pub HoldsMade : (List (List ℕ) → List (List ℕ) → Type 0) → DeviceState → DeviceState → Type 0
HoldsMade Made old new = IfSome old.held (λ image. IfSome new.held (λ now. Made image now × HoldsSynced now new))

-- what is left of the output of a request that makes an image of it
pub record LeavesMade (Made : List (List ℕ) → List (List ℕ) → Type 0) (unwritten : Bool) (status : ℕ) (old new : DeviceState) : Type 0 where
  -- under every status it is the old image, the new one, or has no valid superblock
  pub output : IsOutput Made status old new
  -- what is refused before the output is written leaves it alone, under every status
  pub untouched : unwritten ≡ true → IsUntouched old new

-- what is left of it where making the image is the last that the request does
pub record LeavesMadeLast (Made : List (List ℕ) → List (List ℕ) → Type 0) (unwritten : Bool) (status : ℕ) (old new : DeviceState) : Type 0 where
  pub made : LeavesMade Made unwritten status old new
  -- at any status but 0 it is as it was, or has no valid superblock, unless it failed itself
  pub kept : status ≢ 0 → new.faults ≡ old.faults → HoldsOldOrNone old new

-- What is left of it where a line is put after the work that makes the image, by the status of the answer: at any but 0 nothing is made
pub record LeavesMadeFirst (Made : List (List ℕ) → List (List ℕ) → Type 0) (answered : ℕ) (before after : Objects) (status : ℕ) : Type 0 where
  pub output : LeavesMade Made (not (answered == 0)) status before.output after.output
  -- once the work is done it holds what was made, also where the line couldn't be put after that
  pub made : IsWorkDone before after status → HoldsMade Made before.output after.output
  -- and while `out` isn't touched, at any status but 0 it is as it was, or has no valid superblock, unless it failed itself
  pub kept : status ≢ 0 → after.out ≡ before.out → after.output.faults ≡ before.output.faults → HoldsOldOrNone before.output after.output
  -- the input is read before the output is written: its fault leaves the output alone
  pub input_failed : status ≡ 5 → after.output.faults ≡ before.output.faults → IsUntouched before.output after.output

-- what is to be laid on so many blocks: how many of them it needs, and what stands on them then
pub record Making : Type 0 where
  pub need : ℕ → ℕ
  pub laid : ℕ → Laid

-- a pool, of which no leaf is shared; one with the leaves that its shape says; and a cache, in a version of its metadata
abbrev pub pool_making : ThinPool → Making
pool_making pool = record { need = thin_need pool; laid = laid_pool pool }

abbrev pub shape_making : ThinShape → Making
shape_making shape = record { need = shape_need shape; laid = laid_shape shape }

abbrev pub cache_making : ℕ → CacheMeaning → Making
cache_making version m = record { need = cache_need version m; laid = laid_cache m version }

-- it needs more blocks than there are
abbrev pub is_too_small : Making → ℕ → Bool
is_too_small making room = nat_lt room (making.need room)

-- the answer where nothing else is refused: what was needed, to `notes`, or the line of what was made
abbrev pub making_answer : Making → ℕ → List ℕ → Answer
making_answer making room line =
    if is_too_small making room then record { status = 4; out = []; notes = no_room_line (making.need room) room }
    else record { status = 0; out = line; notes = [] }

-- an image is made where nothing is refused: this is laid over what the output held
abbrev pub Lays : Answer → Making → ℕ → List (List ℕ) → List (List ℕ) → Type 0
Lays answer making room old new = (answer.status ≡ 0) × IsLaid (making.laid room) old new
