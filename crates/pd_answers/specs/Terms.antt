-- Trusted base.
-- The terms of a request, and what it is that a call answered them: the status, the bytes of `out` and `notes`, what
-- the devices hold, what is attached, and what stands after a fault of an object.
-- The six objects of a call, the answer to a request, and how a request names an object.
-- How often a check reads its image, by the count that the device keeps.
use Rattle.std.specs.Prelude.{◌≡◌, ◌≢◌, ◌⊎◌, ℕ, ◌==◌, if◌then◌else◌, List, [], ◌∷◌, Option, IfSome, ◌≤◌, ◌||◌, Bool, IsTrue, Some, ◌+◌, ◌*◌, length}
use Rattle.std.specs.List.{list_any}
use Rattle.pd_kinds.specs.Objects.{DeviceState, SourceState, SinkState, Appends, AppendsFront, Rose}
use Rattle.pd_kinds.specs.Crash.{IsSynced, IsUntouched}
use Rattle.pd_kinds.specs.declared.kind.Kind.{Kind}
use Rattle.pd_kinds.specs.declared.kind.Stage.TheVariants.{Super}
use Rattle.pd_kinds.specs.Graph.{nodes}
use Rattle.pd_kinds.specs.Stages.{checked_of, faults}
use Rattle.pd_grammar.specs.Lines.{device_line, sink_line, memory_line}

-- the six objects of a call
pub record Objects : Type 0 where
  pub source : SourceState
  pub out : SinkState
  pub notes : SinkState
  pub input : DeviceState
  pub output : DeviceState
  pub third : DeviceState

abbrev pub objects : SourceState → SinkState → SinkState → DeviceState → DeviceState → DeviceState → Objects
objects source out notes input output third =
    record { source = source; out = out; notes = notes; input = input; output = output; third = third }

-- none is attached, none has failed, and nothing is unsynced
pub record AreFresh (objects : Objects) : Type 0 where
  pub source : (objects.source.access ≡ 0) × (objects.source.faults ≡ 0)
  pub out : (objects.out.access ≡ 0) × (objects.out.faults ≡ 0)
  pub notes : (objects.notes.access ≡ 0) × (objects.notes.faults ≡ 0)
  pub input : (objects.input.access ≡ 0) × (objects.input.faults ≡ 0) × IsSynced objects.input
  pub output : (objects.output.access ≡ 0) × (objects.output.faults ≡ 0) × IsSynced objects.output
  pub third : (objects.third.access ≡ 0) × (objects.third.faults ≡ 0) × IsSynced objects.third

-- no count of faults rose
pub record NoFaults (before after : Objects) : Type 0 where
  pub source : after.source.faults ≡ before.source.faults
  pub out : after.out.faults ≡ before.out.faults
  pub notes : after.notes.faults ≡ before.notes.faults
  pub input : after.input.faults ≡ before.input.faults
  pub output : after.output.faults ≡ before.output.faults
  pub third : after.third.faults ≡ before.third.faults

-- a device failed
abbrev pub DeviceRose : Objects → Objects → Type 0
DeviceRose before after = Rose before.input.faults after.input.faults
    ⊎ (Rose before.output.faults after.output.faults ⊎ Rose before.third.faults after.third.faults)

-- the source or `out` failed
abbrev pub StreamRose : Objects → Objects → Type 0
StreamRose before after = Rose before.source.faults after.source.faults ⊎ Rose before.out.faults after.out.faults

-- the answer to a request where no object fails: its status, and the bytes that are put
pub record Answer : Type 0 where
  pub status : ℕ
  pub out : List ℕ
  pub notes : List ℕ

-- the status is the answer's, and so are the bytes
pub record IsGiven (before after : Objects) (given : ℕ) (a : Answer) : Type 0 where
  pub status : given ≡ a.status
  pub out : Appends a.out before.out.written after.out.written
  pub notes : Appends a.notes before.notes.written after.notes.written

-- a front of one of these lines was appended
abbrev pub AppendsFrontOfOne : List (List ℕ) → Option (List ℕ) → Option (List ℕ) → Type 0
AppendsFrontOfOne [] old new = ⊥
AppendsFrontOfOne (line ∷ lines) old new = AppendsFront line old new ⊎ AppendsFrontOfOne lines old new

-- the line of a status that says what failed
abbrev pub failure_line : ℕ → List ℕ
failure_line status = if status == 5 then device_line else (if status == 6 then sink_line else memory_line)

-- how a request names an object: not at all, or by a path, for reading or for writing; a sink is named for reading, and
-- the empty path is the standard stream
pub data Use : Type 0 where
  unused : Use
  reading : List ℕ → Use
  writing : List ℕ → Use

-- an object that isn't named isn't attached; one that is may have failed to be
abbrev pub IsAccess : Use → ℕ → Type 0
IsAccess unused access = access ≡ 0
IsAccess (reading path) access = (access ≡ 0) ⊎ ((access ≡ 1) ⊎ (access ≡ 3))
IsAccess (writing path) access = (access ≡ 0) ⊎ ((access ≡ 2) ⊎ (access ≡ 3))

-- an object that is named is attached, as it is named
abbrev pub IsOpen : Use → ℕ → Type 0
IsOpen unused access = Unit {0}
IsOpen (reading path) access = access ≡ 1
IsOpen (writing path) access = access ≡ 2

-- where the path is told after `attach`, it is the word that names the object
abbrev pub IsNamed : Use → Option (List ℕ) → Type 0
IsNamed unused told = Unit {0}
IsNamed (reading path) told = IfSome told (λ t. t ≡ path)
IsNamed (writing path) told = IfSome told (λ t. t ≡ path)

-- an object is attached only as it is named
pub record IsUsed (given : Use) (access : ℕ) (told : Option (List ℕ)) : Type 0 where
  pub allowed : IsAccess given access
  pub named : access ≢ 0 → IsNamed given told

-- how a request names its objects
pub record Uses : Type 0 where
  pub source : Use
  pub out : Use
  pub input : Use
  pub output : Use
  pub third : Use

-- none but `notes` is named
abbrev pub unnamed : Uses
unnamed = record { source = unused; out = unused; input = unused; output = unused; third = unused }

-- the terms of a request
pub record Terms : Type 1 where
  pub uses : Uses
  -- What it looks for in its objects, and what is right to find in them, before the call and after it. Where those that
  -- it rests on tell what they hold, that is one thing
  pub Finding : Type 0
  pub finds : Objects → Objects → Finding → Type 0
  -- the answer to what was found
  pub answer : Finding → Answer
  -- the statuses that can come, beside 6
  pub statuses : List ℕ
  -- memory can be wanting
  pub memory : Objects → Type 0
  -- the statuses under which `out` is left alone
  pub silent : List ℕ
  -- and what is found under which it is, whatever the status
  pub spared : Finding → Type 0
  -- how often it reads its devices
  pub reads : Objects → Objects → Type 0
  -- what it leaves, under a status, of what it writes: what these devices hold, and what a crash leaves of them
  pub leaves : Finding → Objects → Objects → ℕ → Type 0

-- no device is written
abbrev pub nothing : {Finding : Type 0} → Finding → Objects → Objects → ℕ → Type 0
nothing finding before after status = Unit {0}

-- what isn't named is left alone, and what is named for reading isn't changed
abbrev pub IsKept : {State : Type 0} → (State → State → Type 0) → Use → State → State → Type 0
IsKept Same unused old new = new ≡ old
IsKept Same (reading path) old new = Same old new
IsKept Same (writing path) old new = Unit {0}

-- a stream that is named is read or written
abbrev pub Changes : {State : Type 0} → State → State → Type 0
Changes old new = Unit {0}

pub record AreKept (uses : Uses) (before after : Objects) : Type 0 where
  pub source : IsKept Changes uses.source before.source after.source
  pub out : IsKept Changes uses.out before.out after.out
  pub input : IsKept IsUntouched uses.input before.input after.input
  pub output : IsKept IsUntouched uses.output before.output after.output
  pub third : IsKept IsUntouched uses.third before.third after.third

-- the objects are attached only as they are named
pub record AreUsed (uses : Uses) (after : Objects) : Type 0 where
  pub source : IsUsed uses.source after.source.access after.source.path
  pub out : IsUsed uses.out after.out.access after.out.path
  pub notes : IsUsed (reading []) after.notes.access after.notes.path
  pub input : IsUsed uses.input after.input.access after.input.path
  pub output : IsUsed uses.output after.output.access after.output.path
  pub third : IsUsed uses.third after.third.access after.third.path

-- the source and the devices that are named were attached
pub record AreOpen (uses : Uses) (after : Objects) : Type 0 where
  pub source : IsOpen uses.source after.source.access
  pub input : IsOpen uses.input after.input.access
  pub output : IsOpen uses.output after.output.access
  pub third : IsOpen uses.third after.third.access

-- an object that is named is attached only once all that comes before it is open
abbrev pub ComesAfter : Use → ℕ → Type 0 → Type 0
ComesAfter unused access Earlier = Unit {0}
ComesAfter (reading path) access Earlier = access ≢ 0 → Earlier
ComesAfter (writing path) access Earlier = access ≢ 0 → Earlier

-- the objects are attached one after another: `notes` first, then the source, `input`, `output`, `third`, and `out` last
pub record AreInOrder (uses : Uses) (after : Objects) : Type 0 where
  pub source : ComesAfter uses.source after.source.access (after.notes.access ≡ 1)
  pub input : ComesAfter uses.input after.input.access ((after.notes.access ≡ 1) × IsOpen uses.source after.source.access)
  pub output : ComesAfter uses.output after.output.access
      ((after.notes.access ≡ 1) × (IsOpen uses.source after.source.access × IsOpen uses.input after.input.access))
  pub third : ComesAfter uses.third after.third.access
      ((after.notes.access ≡ 1) × (IsOpen uses.source after.source.access × (IsOpen uses.input after.input.access × IsOpen uses.output after.output.access)))
  pub out : ComesAfter uses.out after.out.access ((after.notes.access ≡ 1) × AreOpen uses after)

-- a source that is named was read to its end, where it tells what is left
abbrev pub IsReadWhole : Use → Option (List ℕ) → Option (List ℕ) → Type 0
IsReadWhole unused old new = Unit {0}
IsReadWhole (reading path) old new = IfSome old (λ text. new ≡ Some [])
IsReadWhole (writing path) old new = Unit {0}

abbrev pub is_one_of : List ℕ → ℕ → Bool
is_one_of statuses status = list_any (λ s. status == s) statuses

-- a status can come of a request; 6 can come of each
abbrev pub is_possible : Terms → ℕ → Bool
is_possible terms status = (status == 6) || is_one_of terms.statuses status

-- the headline: what the status, the bytes and the objects are after a call that was asked for these terms
pub record IsAnswered (terms : Terms) (before after : Objects) (status : ℕ) : Type 0 where
  -- what was found, or would have been: it is right
  pub finding : terms.Finding
  pub found : terms.finds before after finding
  -- whatever failed on the way, a status from 0 to 4 is the answer's, and so are the bytes
  pub sound : status ≤ 4 → IsGiven before after status (terms.answer finding)
  -- where nothing failed, the status is the answer's, or memory was wanting
  pub complete : NoFaults before after → (status ≡ (terms.answer finding).status) ⊎ (status ≡ 7)
  -- only these statuses come of the request
  pub possible : IsTrue (is_possible terms status)
  -- under every status the bytes of `out` are a front of the answer's
  pub front : AppendsFront (terms.answer finding).out before.out.written after.out.written
  -- under some there are none: `out` isn't even attached
  pub silent : IsTrue (is_one_of terms.silent status) → status ≢ 6 → after.out ≡ before.out
  -- and whatever the status, where that follows from what is found
  pub spared : terms.spared finding → after.out ≡ before.out
  -- a status from 5 to 7 has just its line on `notes`, if `notes` didn't fail
  pub own_line : 5 ≤ status → after.notes.faults ≡ before.notes.faults
      → Appends (failure_line status) before.notes.written after.notes.written
  -- where `notes` failed, it has a front of the answer's line or of a line that says what failed
  pub notes_front : AppendsFrontOfOne ((terms.answer finding).notes ∷ device_line ∷ sink_line ∷ memory_line ∷ [])
      before.notes.written after.notes.written
  -- 5 comes only where a device failed
  pub device_failed : status ≡ 5 → DeviceRose before after
  -- 6 comes only where the source or a sink failed, and always where `notes` did
  pub sink_failed : status ≡ 6 → StreamRose before after ⊎ Rose before.notes.faults after.notes.faults
  pub notes_failed : Rose before.notes.faults after.notes.faults → status ≡ 6
  -- 7 comes only where memory can be wanting
  pub memory_wanting : status ≡ 7 → terms.memory before
  -- what is attached, and what isn't touched
  pub used : AreUsed terms.uses after
  pub order : AreInOrder terms.uses after
  pub kept : AreKept terms.uses before after
  pub open_devices : status ≤ 4 → AreOpen terms.uses after
  pub open_notes : status ≢ 6 → after.notes.access ≡ 1
  pub open_out : status ≡ 0 → IsOpen terms.uses.out after.out.access
  -- at status 0 a text was read to its end
  pub read : status ≡ 0 → IsReadWhole terms.uses.source before.source.left after.source.left
  -- how often the devices were read, under every status
  pub reads : terms.reads before after
  -- what the devices that are written hold, and what a crash leaves of them
  pub leaves : terms.leaves finding before after status

-- six reads for each reachable pair of a block and a role, whatever is shared, and eight more; where the superblock has
-- a fault, one
pub record ReadsFew (kind : Kind) (image : List (List ℕ)) (old new : ℕ) : Type 0 where
  pub pairs : new ≤ old + (6 * length (nodes (checked_of kind image).graph image) + 8)
  pub faulty : (faults kind Super image ≢ []) → new ≤ old + 1

-- a check of this kind reads its input as often at the most, where that tells what it holds
abbrev pub few_reads : Kind → Objects → Objects → Type 0
few_reads kind before after = IfSome before.input.held (λ image. ReadsFew kind image before.input.reads after.input.reads)

-- nothing is said of how often an object is read
abbrev pub any_reads : Objects → Objects → Type 0
any_reads before after = Unit {0}
