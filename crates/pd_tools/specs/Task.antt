-- What a task promises of its work, and what holds of it before a device is written.
-- What a request's work does, up to the last line on `notes`.
use Rattle.std.specs.Prelude.{◌≡◌, ℕ, ◌≤◌, IsTrue, List, ◌≢◌, ◌⊎◌, [], IfSome, IfOk, IfErr, length, Result, Ok, Err, MatchResult}
use Rattle.pd_kinds.specs.Objects.{SinkState, Appends, AppendsFront, DeviceState, Rose}
use Rattle.pd_kinds.specs.Crash.{IsUntouched}
use Rattle.pd_answers.specs.Terms.{Objects, Use, unused, reading, writing, IsUsed, IsOpen, AreFresh, DeviceRose, StreamRose, Terms, Uses, ComesAfter, AreKept, AreOpen, IsReadWhole, is_one_of, is_possible, IsAnswered}
use Rattle.pd_kept.specs.States.{looked_text}
use Rattle.pd_tools.specs.declared.ending.Stop.{Stop}
use Rattle.pd_tools.specs.declared.ending.Stop.TheVariants.{Device, Stream, Memory}
use Rattle.pd_tools.specs.Stop.{stop_status}
use Rattle.pd_tools.specs.Ending.{IsAttachedNotes, ending_line, ending_status}
use Rattle.pd_tools.specs.declared.ending.Ending.{Ending}
use Rattle.pd_tools.specs.declared.ending.Ending.TheVariants.{Done}
use Rattle.pd_tools.specs.declared.ending.Outcome.{Outcome}
use Rattle.pd_tools.specs.declared.ending.Outcome.TheVariants.{Line, Told, Ended}

-- the objects that are named are attached only as they are named
abbrev pub IsFollowed : Use → (Use → Type 0) → Type 0
IsFollowed unused P = Unit {0}
IsFollowed (reading path) P = P (reading path)
IsFollowed (writing path) P = P (writing path)

pub record AreFollowed (uses : Uses) (after : Objects) : Type 0 where
  pub source : IsFollowed uses.source (λ given. IsUsed given after.source.access after.source.path)
  pub out : IsFollowed uses.out (λ given. IsUsed given after.out.access after.out.path)
  pub input : IsFollowed uses.input (λ given. IsUsed given after.input.access after.input.path)
  pub output : IsFollowed uses.output (λ given. IsUsed given after.output.access after.output.path)
  pub third : IsFollowed uses.third (λ given. IsUsed given after.third.access after.third.path)

-- the objects but `notes` are attached one after another; `notes` comes before them all
pub record AreInTurn (uses : Uses) (after : Objects) : Type 0 where
  pub input : ComesAfter uses.input after.input.access (IsOpen uses.source after.source.access)
  pub output : ComesAfter uses.output after.output.access (IsOpen uses.source after.source.access × IsOpen uses.input after.input.access)
  pub third : ComesAfter uses.third after.third.access
      (IsOpen uses.source after.source.access × (IsOpen uses.input after.input.access × IsOpen uses.output after.output.access))
  pub out : ComesAfter uses.out after.out.access (AreOpen uses after)

-- what holds of the work however it ends, with the status that it is to have
pub record IsWork (terms : Terms) (finding : terms.Finding) (before after : Objects) (wanted : ℕ) : Type 0 where
  pub found : terms.finds before after finding
  pub possible : IsTrue (is_possible terms wanted)
  pub followed : AreFollowed terms.uses after
  pub order : AreInTurn terms.uses after
  pub kept : AreKept terms.uses before after
  pub silent : IsTrue (is_one_of terms.silent wanted) → after.out ≡ before.out
  pub spared : terms.spared finding → after.out ≡ before.out
  pub reads : terms.reads before after
  pub leaves : terms.leaves finding before after wanted

-- the work came to the answer, of which this line is still to be put
pub record IsFinished (terms : Terms) (before after : Objects) (wanted : ℕ) (line : List ℕ) : Type 0 where
  pub finding : terms.Finding
  pub work : IsWork terms finding before after wanted
  pub low : wanted ≤ 4
  pub same_status : wanted ≡ (terms.answer finding).status
  pub same_line : line ≡ (terms.answer finding).notes
  pub out : Appends (terms.answer finding).out before.out.written after.out.written
  pub open_devices : AreOpen terms.uses after
  pub open_out : wanted ≡ 0 → IsOpen terms.uses.out after.out.access
  pub read : wanted ≡ 0 → IsReadWhole terms.uses.source before.source.left after.source.left

-- why work stops
abbrev pub HasCause : Terms → Objects → Objects → Stop → Type 0
HasCause terms before after Device = DeviceRose before after
HasCause terms before after Stream = StreamRose before after
HasCause terms before after Memory = terms.memory before

-- the work was stopped
pub record IsStopped (terms : Terms) (before after : Objects) (stop : Stop) : Type 0 where
  pub finding : terms.Finding
  pub work : IsWork terms finding before after (stop_status stop)
  pub cause : HasCause terms before after stop
  pub front : AppendsFront (terms.answer finding).out before.out.written after.out.written
  -- what is left where its line is lost
  pub lost : terms.leaves finding before after 6

-- a request with these terms was answered, once `notes` was attached
abbrev pub AnswersTerms : Terms → SinkState → Objects → Objects → ℕ → Type 0
AnswersTerms terms attached before after status =
    AreFresh before → IsAttachedNotes before.notes attached → IsAnswered terms before after status

-- a device that is attached has as many blocks as it tells
abbrev pub IsMeasured : DeviceState → Type 0
IsMeasured device = device.access ≢ 0 → IfSome device.held (λ image. length image ≡ device.blocks)

-- nothing was written, and `out` wasn't touched
pub record AreAlone (before after : Objects) : Type 0 where
  pub out : after.out ≡ before.out
  pub input : IsUntouched before.input after.input
  pub output : IsUntouched before.output after.output
  pub third : IsUntouched before.third after.third
  pub output_measured : IsMeasured after.output
  pub third_measured : IsMeasured after.third

-- something is right to find then, of which each status but 0 leaves what it promises
pub record IsAtRest (terms : Terms) (before after : Objects) : Type 0 where
  pub finding : terms.Finding
  pub found : terms.finds before after finding
  pub leaves : (status : ℕ) → status ≢ 0 → terms.leaves finding before after status

-- what is left under a status is left also where the line of that is lost
abbrev pub LosesLine : Terms → Type 0
LosesLine terms = (finding : terms.Finding) (before after : Objects) (status : ℕ) → status ≢ 0
    → terms.leaves finding before after status → terms.leaves finding before after 6

-- work that was done, of which this line is still to be put: whatever becomes of `out` then, it is done
pub record IsDone (terms : Terms) (before after : Objects) (line : List ℕ) : Type 0 where
  pub finding : terms.Finding
  pub found : (out : SinkState) → terms.finds before (record after { out = out }) finding
  pub answer : terms.answer finding ≡ record { status = 0; out = line; notes = [] }
  pub named : terms.uses.out ≡ reading []
  pub possible : IsTrue (is_possible terms 0)
  pub loud : IsTrue (is_one_of terms.silent 0) → ⊥
  pub loud_lost : IsTrue (is_one_of terms.silent 6) → ⊥
  pub unspared : terms.spared finding → ⊥
  pub leaves : (out : SinkState) (status : ℕ) → (status ≡ 0) ⊎ (status ≡ 6) → out ≢ before.out → terms.leaves finding before (record after { out = out }) status

-- work that came to another answer, or has no line
pub record IsEnded (terms : Terms) (before after : Objects) (status : ℕ) (line : List ℕ) : Type 0 where
  pub finding : terms.Finding
  pub found : terms.finds before after finding
  pub answer : terms.answer finding ≡ record { status = status; out = []; notes = line }
  pub possible : IsTrue (is_possible terms status)
  pub no_line : status ≡ 0 → IsOpen terms.uses.out before.out.access
  pub leaves : terms.leaves finding before after status

-- work that was stopped
pub record IsHalted (terms : Terms) (before after : Objects) (stop : Stop) : Type 0 where
  pub finding : terms.Finding
  pub found : terms.finds before after finding
  pub possible : IsTrue (is_possible terms (stop_status stop))
  pub cause : HasCause terms before after stop
  pub leaves : terms.leaves finding before after (stop_status stop)

-- what the work of a task comes to, while `out` is left alone
abbrev pub Works : Terms → Objects → Objects → Result Outcome Stop → Type 0
Works terms before after (Ok (Line line)) = IsDone terms before after line
Works terms before after (Ok (Told looked)) = IsDone terms before after (looked_text looked)
Works terms before after (Ok (Ended ending)) = IsEnded terms before after (ending_status ending) (ending_line ending)
Works terms before after (Err stop) = IsHalted terms before after stop

-- and once its line was put
abbrev pub Ends : Terms → Objects → Objects → Result Ending Stop → Type 0
Ends terms before after result =
    MatchResult result (λ ending. IsFinished terms before after (ending_status ending) (ending_line ending)) (IsStopped terms before after)

-- the line was put, or a front of it, since `out` failed
pub record PutsLast (line : List ℕ) (result : Result Ending Stop) (old new : SinkState) : Type 0 where
  pub touched : new.access ≢ 0
  pub used : IsUsed (reading []) new.access new.path
  pub put : IfOk result (λ ending. (ending ≡ Done) × ((new.access ≡ 1) × Appends line old.written new.written))
  pub lost : IfErr result (λ stop. (stop ≡ Stream) × (Rose old.faults new.faults × AppendsFront line old.written new.written))

-- how the line of some work was put, if there is one
abbrev pub PutsOutcome : Result Outcome Stop → Result Ending Stop → SinkState → SinkState → Type 0
PutsOutcome (Ok (Line line)) result old new = PutsLast line result old new
PutsOutcome (Ok (Told looked)) result old new = PutsLast (looked_text looked) result old new
PutsOutcome (Ok (Ended ending)) result old new = (result ≡ Ok ending) × (new ≡ old)
PutsOutcome (Err stop) result old new = (result ≡ Err stop) × (new ≡ old)
