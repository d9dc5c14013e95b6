-- Why a query fails.
-- Text that is printed, and text that was put.
-- What holds of images without faults.
use Rattle.std.specs.Prelude.{◌≡◌, ℕ, ◌≤◌, Result, MatchResult, List, [], Option, IfSome, OnOk}
use Rattle.pd_kinds.specs.declared.report.CheckFault.{CheckFault}
use Rattle.pd_kinds.specs.Objects.{Rose, Appends, AppendsFront}
use Rattle.pd_kinds.specs.declared.kind.Kind.{Kind}
use Rattle.pd_kinds.specs.declared.kind.Stage.{Stage}
use Rattle.pd_kinds.specs.Stages.{faults}
use Rattle.pd_kinds.specs.declared.kind.Stage.TheVariants.{Whole}
use Rattle.pd_kinds.specs.declared.report.CheckFault.TheVariants as check
use Rattle.pd_lines.specs.Printing.{Printing, Prints}
use Rattle.pd_query.specs.declared.query.QueryFault.{QueryFault}
use Rattle.pd_query.specs.declared.query.QueryFault.TheVariants.{Memory, Device, Sink}

-- a check's fault as that of a query
abbrev pub fault_of_check : CheckFault → QueryFault
fault_of_check check.Memory = Memory
fault_of_check check.Device = Device

-- the faults of the object that failed rose, and those of the other are as they were; memory isn't wanting
abbrev pub HasFailed : QueryFault → ℕ → ℕ → ℕ → ℕ → Type 0
HasFailed Memory dev dev' out out' = ⊥
HasFailed Device dev dev' out out' = Rose dev dev' × (dev ≤ dev') × (out' ≡ out)
HasFailed Sink dev dev' out out' = Rose out out' × (out ≤ out') × (dev' ≡ dev)

-- the faults of a device and of a sink are as they were at Ok, and only the one that failed has more
abbrev pub Fails : {T : Type 0} → Result T QueryFault → ℕ → ℕ → ℕ → ℕ → Type 0
Fails result dev dev' out out' = MatchResult result (λ _. (dev' ≡ dev) × (out' ≡ out)) (λ fault. HasFailed fault dev dev' out out')

-- a sink alone
abbrev pub SinkFails : Result (Unit {0}) QueryFault → ℕ → ℕ → Type 0
SinkFails result out out' = MatchResult result (λ _. out' ≡ out) (λ fault. (fault ≡ Sink) × (Rose out out' × (out ≤ out')))

-- why the start of a query fails: the device, or memory
abbrev pub HasNotStarted : QueryFault → ℕ → ℕ → Type 0
HasNotStarted Memory dev dev' = dev' ≡ dev
HasNotStarted Device dev dev' = Rose dev dev' × (dev ≤ dev')
HasNotStarted Sink dev dev' = ⊥

abbrev pub StartFails : {T : Type 0} → Result T QueryFault → ℕ → ℕ → Type 0
StartFails result dev dev' = MatchResult result (λ _. dev' ≡ dev) (λ fault. HasNotStarted fault dev dev')

-- why a query fails that takes memory while it runs: nothing has more faults where that is wanting
abbrev pub HasEnded : QueryFault → ℕ → ℕ → ℕ → ℕ → Type 0
HasEnded Memory dev dev' out out' = (dev' ≡ dev) × (out' ≡ out)
HasEnded Device dev dev' out out' = HasFailed Device dev dev' out out'
HasEnded Sink dev dev' out out' = HasFailed Sink dev dev' out out'

abbrev pub QueryEnds : Result (Unit {0}) QueryFault → ℕ → ℕ → ℕ → ℕ → Type 0
QueryEnds result dev dev' out out' = MatchResult result (λ _. (dev' ≡ dev) × (out' ≡ out)) (λ fault. HasEnded fault dev dev' out out')

-- a call printed a text, or began to, which is this one where the device tells what it holds
pub record PrintsSome {E : Type 0} (held : Option (List (List ℕ))) (text_of : List (List ℕ) → List ℕ) (result : Result (Unit {0}) E) (old new : Printing) : Type 0 where
  pub text : List ℕ
  pub told : IfSome held (λ image. text ≡ text_of image)
  pub prints : Prints text result old new

-- a text was put, or a front of it where the work failed; where the device tells what it holds, this holds of that text
pub record Puts {T E : Type 0} (held : Option (List (List ℕ))) (Holds : List (List ℕ) → List ℕ → Type 0) (result : Result T E) (before after : Option (List ℕ)) : Type 0 where
  pub text : List ℕ
  pub told : IfSome held (λ image. Holds image text)
  pub whole : OnOk result (Appends text before after)
  pub front : AppendsFront text before after

-- it is the one that the image gives
abbrev pub PutsText : {T E : Type 0} → Option (List (List ℕ)) → (List (List ℕ) → List ℕ) → Result T E → Option (List ℕ) → Option (List ℕ) → Type 0
PutsText held text_of result before after = Puts held (λ image text. text ≡ text_of image) result before after

-- or the one that answers, where the image has no faults up to a stage
abbrev pub PutsAnswer : {T E : Type 0} → Kind → Stage → (List (List ℕ) → List ℕ) → Result T E → Option (List (List ℕ)) → Option (List ℕ) → Option (List ℕ) → Type 0
PutsAnswer kind stage text_of result held before after = Puts held (λ image text. faults kind stage image ≡ [] → text ≡ text_of image) result before after

-- what holds of the image that the device tells, where it has no faults up to the stage Whole
abbrev pub IfSound : Kind → Option (List (List ℕ)) → (List (List ℕ) → Type 0) → Type 0
IfSound kind held Holds = IfSome held (λ image. faults kind Whole image ≡ [] → Holds image)
