-- What the work of a check comes to, over plain variables.
use Rattle.std.proofs.Common.{◌≡◌, ◌≢◌, inl, ℕ, ◌+◌, IsTrue, List, [], Option, Some, None, IfSome, refl, inr, true, false, nat_eq, nat_lt, ◌∷◌, length, sym, ap, ◌∙◌, lit≤, arith, unwrap_or}
use Rattle.std.specs.Option.{option_map_or}
use Rattle.std.proofs.lemmas.Bool.{cases_Bool, eqb-true}
use Rattle.pd_kinds.specs.declared.kind.Kind.{Kind}
use Rattle.pd_kinds.specs.declared.kind.Passing.{Passing}
use Rattle.pd_kinds.specs.declared.kind.Stage.{Stage}
use Rattle.pd_kinds.specs.declared.kind.Stage.TheVariants.{Super, Walk, Order, Whole, Counts}
use Rattle.pd_kinds.specs.Objects.{DeviceState, SinkState, Appends, AppendsFront}
use Rattle.pd_kinds.specs.Rule.{report_of, Reported}
use Rattle.pd_kinds.specs.Stages.{faults, Checked, checked_of, first_failing, stage_faults}
use Rattle.pd_kinds.specs.Crash.{IsUntouched}
use Rattle.pd_kinds.specs.declared.kind.Stage.TheVariants as stages
use Rattle.pd_grammar.specs.Lines.{reported_lines}
use Rattle.pd_answers.specs.Terms.{Objects, IsUsed, reading, is_possible, is_one_of}
use Rattle.pd_answers.specs.Promises.{check, Queried, query}
use Rattle.pd_answers.specs.declared.request.Asked.{Asked}
use Rattle.pd_answers.specs.QueryLines.{asked_kind, asked_stage, asked_text}
use Rattle.pd_image.specs.Device.{OnlyReads}
use Rattle.pd_check.specs.Check as check_reads
use Rattle.pd_tools.proofs.FewReads.{few}
use Rattle.pd_tools.proofs.Works.{Stands, stopped_unread, finished_by, finished_early, stopped_by}
use Rattle.pd_tools.specs.declared.ending.Stop.{Stop}
use Rattle.pd_tools.specs.Query.{IsUnread, IsUnput, query_line, query_status}
use Rattle.pd_tools.specs.Task.{IsStopped, HasCause, IsFinished}
use Rattle.pd_tools.specs.declared.ending.Stop.TheVariants.{Device, Stream, Memory}
use Rattle.pd_tools.specs.Stop.{stop_status}

-- what is found, where it is told
pub told : {X Y : Type 0} → (o : Option X) (f : X → Y) (otherwise : Y) → IfSome o (λ x. option_map_or f o otherwise ≡ f x)
told None f otherwise = tt
told (Some x) f otherwise = refl

-- an object that isn't attached
pub not_yet : (path : List ℕ) (access : ℕ) (name : Option (List ℕ)) → access ≡ 0 → IsUsed (reading path) access name
not_yet path access name none = record { allowed = inl none; named = λ ne. absurd (ne none) }

-- memory can be wanting past the superblock
wanting_possible : (kind : Kind) (until : Stage) (passing : Passing) (path : List ℕ) → until ≢ Super → IsTrue (is_possible (check kind until passing path) 7)
wanting_possible kind Super passing path past = absurd (past refl)
wanting_possible kind Walk passing path past = refl
wanting_possible kind Order passing path past = refl
wanting_possible kind Whole passing path past = refl
wanting_possible kind Counts passing path past = refl

-- a check whose image was not read
pub check_unread : (kind : Kind) (until : Stage) (passing : Passing) (path : List ℕ) (others : Objects) (notes out : SinkState) (input input' : DeviceState) (stop : Stop)
    → out.access ≡ 0 → IsUsed (reading path) input'.access input'.path → IsUntouched input input'
    → IfSome input.held (λ image. check_reads.ReadsFew kind until image (input.reads + 1) input'.reads) → IsUnread kind until input input' stop
    → IsStopped (check kind until passing path) (record others { out = out; input = input }) (record others { out = out; notes = notes; input = input' }) stop
check_unread kind until passing path others notes out input input' stop none used untouched reads unread =
    stopped_unread (check kind until passing path) (record others { out = out; input = input }) (record others { out = out; notes = notes; input = input' }) (record {
      followed = record { source = tt; out = not_yet [] out.access out.path none; input = used; output = tt; third = tt };
      order = record { input = λ _. tt; output = tt; third = tt; out = λ ne. absurd (ne none) };
      kept = record { source = refl; out = tt; input = untouched; output = refl; third = refl };
      reads = few kind until input.held input.reads input'.reads reads;
    }) (option_map_or (λ image. report_of (faults kind until image)) input.held (report_of [])) (told input.held (λ image. report_of (faults kind until image)) (report_of []))
    refl kind until stop unread refl (λ wants. (wanting_possible kind until passing path wants.past_super, wants)) (λ _ _. tt)

-- once the image was read, and `out` was attached for its report
pub check_stands : (kind : Kind) (until : Stage) (passing : Passing) (path : List ℕ) (others : Objects) (notes out out' : SinkState) (input input' : DeviceState)
    → IsUsed (reading []) out'.access out'.path → IsUsed (reading path) input'.access input'.path → input'.access ≡ 1 → IsUntouched input input'
    → IfSome input.held (λ image. check_reads.ReadsFew kind until image (input.reads + 1) input'.reads)
    → Stands (check kind until passing path) (record others { out = out; input = input }) (record others { out = out'; notes = notes; input = input' })
check_stands kind until passing path others notes out out' input input' out_used used opened untouched reads = record {
  followed = record { source = tt; out = out_used; input = used; output = tt; third = tt };
  order = record { input = λ _. tt; output = tt; third = tt; out = λ _. record { source = tt; input = opened; output = tt; third = tt } };
  kept = record { source = refl; out = tt; input = untouched; output = refl; third = refl };
  reads = few kind until input.held input.reads input'.reads reads;
}

-- What the work of a query comes to, over plain variables.

-- a value that is told, if one is
abbrev pub told_or : {X Y : Type 0} → (X → Y) → Y → Option X → Y
told_or f otherwise None = otherwise
told_or f otherwise (Some x) = f x

-- a report without faults is that of an image without faults
pub none_reported : (kind : Kind) (until : Stage) (image : List (List ℕ)) (report : Reported) → report ≡ report_of (faults kind until image) → (nat_eq report.total 0) ≡ true → faults kind until image ≡ []
none_reported kind until image report is clean = none_of (faults kind until image) (sym (ap (λ (r : Reported). r.total) is) ∙ eqb-true report.total 0 clean)
  where
    none_of : {X : Type 0} (xs : List X) → length xs ≡ 0 → xs ≡ []
    none_of [] none = refl
    none_of (x ∷ xs) none = absurd (omega arith)

-- an image without faults has none at its superblock
none_first : (checked : Checked) (image : List (List ℕ)) (stage : Stage) (later : List Stage) → first_failing checked image (stage ∷ later) ≡ [] → first_failing checked image (stage ∷ []) ≡ []
unfolding first_failing
none_first checked image stage later none = elim (cases_Bool (nat_lt 0 (length (stage_faults checked image stage)))) [
  | inl some ↦ rw some (rw some at none)
  | inr nothing ↦ rw nothing refl
]

pub none_at_super : (kind : Kind) (until : Stage) (image : List (List ℕ)) → faults kind until image ≡ [] → faults kind stages.Super image ≡ []
unfolding faults
none_at_super kind stages.Super image none = none
none_at_super kind stages.Walk image none = none_first (checked_of kind image) image stages.Super (stages.Walk ∷ []) none
none_at_super kind stages.Order image none = none_first (checked_of kind image) image stages.Super (stages.Walk ∷ stages.Order ∷ []) none
none_at_super kind stages.Whole image none = none_first (checked_of kind image) image stages.Super (stages.Walk ∷ stages.Order ∷ stages.Whole ∷ []) none
none_at_super kind stages.Counts image none =
    none_first (checked_of kind image) image stages.Super (stages.Walk ∷ stages.Order ∷ stages.Whole ∷ stages.Counts ∷ []) none

pub two_told : {X : Type 0} {P Q R : X → Type 0} → (o : Option X) → ((x : X) → P x → Q x → R x) → IfSome o P → IfSome o Q → IfSome o R
two_told None join p q = tt
two_told (Some x) join p q = join x p q

pub one_told : {X : Type 0} {P Q : X → Type 0} → (o : Option X) → ((x : X) → P x → Q x) → IfSome o P → IfSome o Q
one_told None join p = tt
one_told (Some x) join p = join x p

text_told : (held : Option (List (List ℕ))) (q : Asked) → IfSome held (λ image. told_or (asked_text q) [] held ≡ asked_text q image)
text_told None q = tt
text_told (Some image) q = refl

pub both_told : (held : Option (List (List ℕ))) (q : Asked)
    → IfSome held (λ image. (told_or (λ image. report_of (faults (asked_kind q) (asked_stage q) image)) (report_of []) held ≡ report_of (faults (asked_kind q) (asked_stage q) image)) × (told_or (asked_text q) [] held ≡ asked_text q image))
both_told None q = tt
both_told (Some image) q = (refl, refl)

-- what a query finds before anything was done
pub query_at_rest : (q : Asked) (held : Option (List (List ℕ)))
    → (queried : Queried) × IfSome held (λ image. (queried.report ≡ report_of (faults (asked_kind q) (asked_stage q) image)) × (queried.text ≡ asked_text q image)) × Unit {0}
query_at_rest q held = (
  record { report = told_or (λ image. report_of (faults (asked_kind q) (asked_stage q) image)) (report_of []) held; text = told_or (asked_text q) [] held },
  both_told held q,
  tt,
)

module _ (q : Asked) (file : Option (List ℕ)) (path : List ℕ) (others : Objects) (notes out : SinkState) (input : DeviceState) (fresh : out.access ≡ 0) where
  abbrev before : Objects
  before = record others { out = out; input = input }

  abbrev after : SinkState → DeviceState → Objects
  after out' input' = record others { out = out'; notes = notes; input = input' }

  abbrev finding : Reported → List ℕ → Queried
  finding report text = record { report = report; text = text }

  unput : (input' : DeviceState) → IsUsed (reading path) input'.access input'.path → IsUntouched input input' → Stands (query q file path) before (after out input')
  unput input' used untouched = record {
    followed = record { source = tt; out = not_yet (unwrap_or file []) out.access out.path fresh; input = used; output = tt; third = tt };
    order = record { input = λ _. tt; output = tt; third = tt; out = λ ne. absurd (ne fresh) };
    kept = record { source = refl; out = tt; input = untouched; output = refl; third = refl };
    reads = tt;
  }

  -- the image was not read
  pub query_unread : (input' : DeviceState) (stop : Stop) → IsUsed (reading path) input'.access input'.path → IsUntouched input input' → IsUnread (asked_kind q) (asked_stage q) input input' stop
      → IsStopped (query q file path) before (after out input') stop
  query_unread input' stop used untouched unread =
      stopped_unread (query q file path) before (after out input') (unput input' used untouched)
      (finding (told_or (λ image. report_of (faults (asked_kind q) (asked_stage q) image)) (report_of []) input.held) (told_or (asked_text q) [] input.held))
      (both_told input.held q) refl (asked_kind q) (asked_stage q) stop unread refl (λ wants. (refl, wants.sound)) (λ _ _. tt)

  module _ (input' : DeviceState) (report : Reported) (right : IfSome input.held (λ image. report ≡ report_of (faults (asked_kind q) (asked_stage q) image)))
      (used : IsUsed (reading path) input'.access input'.path) (untouched : IsUntouched input input') (opened : input'.access ≡ 1) where
    -- the image has faults
    pub query_faulty : (nat_eq report.total 0) ≡ false → IsFinished (query q file path) before (after out input') (query_status report) (query_line report)
    query_faulty faulty =
        rw faulty (finished_early (query q file path) before (after out input') (unput input' used untouched) (finding report (told_or (asked_text q) [] input.held))
        (two_told input.held (λ image is text. (is, text)) right (text_told input.held q)) refl 1 (reported_lines report) (lit≤ tt) refl (rw faulty refl)
        (record { source = tt; input = opened; output = tt; third = tt }) (λ e. absurd (omega arith)) (λ _. tt) tt)

    -- it has none, and the text was put
    module _ (clean : (nat_eq report.total 0) ≡ true) (out' : SinkState) (out_used : IsUsed (reading (unwrap_or file [])) out'.access out'.path)
        (text : List ℕ) (told : IfSome input.held (λ image. faults (asked_kind q) (asked_stage q) image ≡ [] → text ≡ asked_text q image)) where
      stands : Stands (query q file path) before (after out' input')
      stands = record {
        followed = record { source = tt; out = out_used; input = used; output = tt; third = tt };
        order = record { input = λ _. tt; output = tt; third = tt; out = λ _. record { source = tt; input = opened; output = tt; third = tt } };
        kept = record { source = refl; out = tt; input = untouched; output = refl; third = refl };
        reads = tt;
      }

      found_text : IfSome input.held (λ image. (report ≡ report_of (faults (asked_kind q) (asked_stage q) image)) × (text ≡ asked_text q image))
      found_text = two_told input.held (λ image is answers. (is, answers (none_reported (asked_kind q) (asked_stage q) image report is clean))) right told

      pub query_done : out'.access ≡ 1 → Appends text out.written out'.written
          → IsFinished (query q file path) before (after out' input') (query_status report) (query_line report)
      query_done access whole =
          rw clean (finished_by (query q file path) before (after out' input') stands (finding report text) found_text 0 text [] (lit≤ tt) refl (λ e. absurd cc)
          (λ some. absurd (some (eqb-true report.total 0 clean))) (rw clean refl) whole (record { source = tt; input = opened; output = tt; third = tt }) (λ _. access) (λ _. tt) tt)

      -- or a front of it
      stopped : (stop : Stop) → IsTrue (is_possible (query q file path) (stop_status stop)) → (IsTrue (is_one_of (1 ∷ []) (stop_status stop)) → ⊥)
          → HasCause (query q file path) before (after out' input') stop → AppendsFront text out.written out'.written
          → IsStopped (query q file path) before (after out' input') stop
      stopped stop possible loud cause front =
          stopped_by (query q file path) before (after out' input') stands (finding report text) found_text stop possible (λ e. absurd (loud e))
          (λ some. absurd (some (eqb-true report.total 0 clean))) cause (rw clean front) tt tt

      pub query_unput : (stop : Stop) → AppendsFront text out.written out'.written → IsUnput input.faults input'.faults out.faults out'.faults stop
          → IsStopped (query q file path) before (after out' input') stop
      query_unput Device front unput = stopped Device refl (λ e. cc) (inl unput) front
      query_unput Stream front unput = stopped Stream refl (λ e. cc) (inr unput) front
      query_unput Memory front unput = stopped Memory refl (λ e. cc)
          (one_told input.held (λ image is. none_at_super (asked_kind q) (asked_stage q) image (none_reported (asked_kind q) (asked_stage q) image report is clean)) right) front

-- what is only read after it was opened
pub reads_used : (path : List ℕ) (input input' : DeviceState) → OnlyReads input input' → IsUsed (reading path) input.access input.path → IsUsed (reading path) input'.access input'.path
reads_used path input input' kept used = rw (kept.access, kept.path) used

pub reads_untouched : (first input input' : DeviceState) → OnlyReads input input' → IsUntouched first input → IsUntouched first input'
reads_untouched first input input' kept same = record { held = kept.held ∙ same.held; history = kept.history ∙ same.history }
