-- What a rehearsal promises.
-- What a rehearsal counts.
-- Why a rehearsal has no numbers.
-- What a sink that keeps nothing means.
-- What becomes of the device on which the generator's text is restored.
use Rattle.std.specs.Prelude.{◌≡◌, ℕ, List, map, ◌≢◌, ◌≤◌, Result, MatchResult, IfErr, if◌then◌else◌, None, true, OnOk, IfSome, [], Some}
use Rattle.pd_kinds.specs.Graph.{block_at}
use Rattle.pd_kinds.specs.Meaning.{ThinPool}
use Rattle.pd_kinds.specs.ThinFormat.{thin_fields}
use Rattle.pd_kinds.specs.Objects.{Rose, SinkState, DeviceState}
use Rattle.pd_kinds.specs.Crash.{HoldsOldOrNone, HoldsSynced, IsOldNoneOrMade, IsUntouched, LeavesOnly, StillTells}
use Rattle.pd_kinds.specs.Image.{room_of}
use Rattle.pd_kinds.specs.Rule.{report_of}
use Rattle.pd_grammar.specs.ThinText.{head_of, joined_part, lines_of_parts}
use Rattle.pd_grammar.specs.Spelling.{Verdict}
use Rattle.pd_laid.specs.LaidThin.{laid_shape}
use Rattle.pd_laid.specs.Laid.{Makes}
use Rattle.pd_laid.specs.Shape.{ThinShape}
use Rattle.pd_laid.specs.PoolText.{IsLawfulShape, IsPoolTextVerdict, is_pool_text_early}
use Rattle.pd_answers.specs.Rehearsals.{generated_text, AreNumbers, Rehearsed}
use Rattle.pd_gen.specs.declared.rehearsal.Rehearsal.{Rehearsal}
use Rattle.pd_gen.specs.declared.rehearsal.RehearseFault.{RehearseFault}
use Rattle.pd_gen.specs.declared.rehearsal.RehearseFault.TheVariants.{Memory, Device, NoRoom, Faulty}
use Rattle.pd_gen.specs.declared.rehearsal.Nowhere.{Nowhere}
use Rattle.pd_meaning_thin.specs.Given.{super_lines}
use Rattle.pd_pool_dumps.specs.ThinText.{IsCountOf}
use Rattle.pd_restoring.specs.Restored.{IsAccepted, IsWithoutRoom}

-- the numbers of an image: what its superblock says is used, and the counts of the lines that its cursors give
pub record IsCountedIn (image : List (List ℕ)) (rehearsal : Rehearsal) : Type 0 where
  pub used : rehearsal.used ≡ (thin_fields (block_at image 0)).meta_map.allocated
  pub counts : IsCountOf rehearsal.counts (super_lines image (thin_fields (block_at image 0)))

-- those of an image that means this pool
pub record IsCountOfPool (image : List (List ℕ)) (m : ThinPool) (rehearsal : Rehearsal) : Type 0 where
  pub used : rehearsal.used ≡ (thin_fields (block_at image 0)).meta_map.allocated
  pub counts : IsCountOf rehearsal.counts (lines_of_parts (head_of m) (map joined_part m.devices))

-- the device's count of faults rose where it is blamed, and else stayed
abbrev pub Blames : RehearseFault → ℕ → ℕ → Type 0
Blames Memory old new = new ≡ old
Blames Device old new = Rose old new × (old ≤ new)
Blames (NoRoom need blocks) old new = new ≡ old
Blames (Faulty report) old new = new ≡ old

abbrev pub CountsRehearsal : {T : Type 0} → Result T RehearseFault → ℕ → ℕ → Type 0
CountsRehearsal result old new = MatchResult result (λ _. new ≡ old) (λ fault. Blames fault old new)

-- the restore was turned down
abbrev pub IsTurnedDown : RehearseFault → Type 0
IsTurnedDown Memory = ⊥
IsTurnedDown Device = ⊥
IsTurnedDown (NoRoom need blocks) = Unit {0}
IsTurnedDown (Faulty report) = ⊥

-- the check found faults
abbrev pub IsFaulty : RehearseFault → Type 0
IsFaulty Memory = ⊥
IsFaulty Device = ⊥
IsFaulty (NoRoom need blocks) = ⊥
IsFaulty (Faulty report) = Unit {0}

-- a report of faults has some
abbrev pub IsReported : RehearseFault → Type 0
IsReported Memory = Unit {0}
IsReported Device = Unit {0}
IsReported (NoRoom need blocks) = Unit {0}
IsReported (Faulty report) = report.total ≢ 0

-- what comes of a restored pool: the device failed, memory was wanting, or there are faults
abbrev pub HasFaults : RehearseFault → Type 0
HasFaults Memory = Unit {0}
HasFaults Device = Unit {0}
HasFaults (NoRoom need blocks) = ⊥
HasFaults (Faulty report) = report.total ≢ 0

abbrev pub FindsFaults : {T : Type 0} → Result T RehearseFault → Type 0
FindsFaults result = IfErr result HasFaults

-- the device failed, or memory was wanting
abbrev pub IsPlain : RehearseFault → Type 0
IsPlain Memory = Unit {0}
IsPlain Device = Unit {0}
IsPlain (NoRoom need blocks) = ⊥
IsPlain (Faulty report) = ⊥

abbrev pub OnlyFails : {T : Type 0} → Result T RehearseFault → Type 0
OnlyFails result = IfErr result IsPlain

abbrev pub nowhere_state : Nowhere → SinkState
nowhere_state sink = record { access = if sink.attached then 1 else 0; path = None; written = None; faults = 0 }

-- what is answered to a verdict; a fault of the device, or want of memory, may be answered to any
abbrev pub AnswersFault : RehearseFault → Verdict ThinShape → Type 0
AnswersFault Memory verdict = Unit {0}
AnswersFault Device verdict = Unit {0}
AnswersFault (NoRoom need blocks) verdict = IsWithoutRoom need blocks verdict
AnswersFault (Faulty report) verdict = IsAccepted IsLawfulShape verdict

-- the verdict on the generator's text, and what is left of the device under each result
pub record RestoresText {T : Type 0} (number : ℕ) (result : Result T RehearseFault) (old new : DeviceState) : Type 0 where
  pub verdict : Verdict ThinShape
  pub right : IsPoolTextVerdict (generated_text number) (room_of old.blocks) verdict
  pub answer : MatchResult result (λ _. IsAccepted IsLawfulShape verdict) (λ fault. AnswersFault fault verdict)
  -- a crash at any moment of the call leaves the old image, no valid superblock, or what is made
  pub crash : (image : List (List ℕ)) → HoldsSynced image old → LeavesOnly (IsOldNoneOrMade image (Makes laid_shape (room_of old.blocks) verdict image)) old new
  -- what was made holds of any device that tells what it held, also where something was unsynced
  pub made : OnOk result (IfSome old.held (λ image. IfSome new.held (λ now. Makes laid_shape (room_of old.blocks) verdict image now × HoldsSynced now new)))
  pub told : StillTells old new
  pub kept : MatchResult result (λ _. Unit {0}) (λ fault. IsTurnedDown fault → HoldsOldOrNone old new)
  -- what is turned down for the first two lines leaves it alone
  pub untouched : is_pool_text_early (generated_text number) (room_of old.blocks) ≡ true → IsUntouched old new

-- what was found, where the check found nothing
abbrev pub found_of : ℕ → Verdict ThinShape → Rehearsal → Rehearsed
found_of room verdict rehearsal = record {
  room = room;
  verdict = verdict;
  report = report_of [];
  used = rehearsal.used;
  mappings = rehearsal.counts.mappings;
  lines = rehearsal.counts.lines;
}

-- over a device that tells what it holds the numbers are those of the text's pool, and the check finds nothing
pub record Rehearses (number : ℕ) (result : Result Rehearsal RehearseFault) (old new : DeviceState) : Type 0 where
  pub restores : RestoresText number result old new
  pub numbers : MatchResult result
      (λ rehearsal. (image : List (List ℕ)) → old.held ≡ Some image → AreNumbers restores.verdict (found_of (room_of old.blocks) restores.verdict rehearsal))
      (λ fault. (image : List (List ℕ)) → old.held ≡ Some image → IsFaulty fault → ⊥)
  pub reported : IfErr result IsReported
