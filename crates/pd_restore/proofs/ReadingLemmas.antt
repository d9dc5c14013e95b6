-- A text that is read and restored, line by line.
use Rattle.std.proofs.Common.{◌≡◌, ℕ, ◌-◌, ◌<◌, ◌≤◌, ◌^◌, Bool, true, false, List, [], ◌∷◌, length, refl, sym, ◌∙◌, ap, arith, Option, Some, Result, Ok, Err, subst, if◌then◌else◌}
use Rattle.std.specs.Prelude.{IsErrAnd, MatchResult, IfOk, IfErr, OnOk}
use Rattle.pd_grammar.specs.Spelling.{need_above_room}
use Rattle.pd_grammar.specs.Texts.{reading}
use Rattle.pd_grammar.specs.ThinText.{Line, pool_line, end_line, pool_format, first_line, shared_first_line}
use Rattle.pd_laid.specs.PoolText.{pool_need_so_far}
use Rattle.pd_draft.specs.Closed.{DraftState}
use Rattle.pd_lines.specs.Reader.{lines_of}
use Rattle.pd_texts.specs.declared.reader.ReadFault.{ReadFault}
use Rattle.pd_texts.specs.declared.reader.TextReader.{TextReader}
use Rattle.pd_texts.specs.declared.thin_text.ThinLine.{ThinLine}
use Rattle.pd_texts.specs.declared.thin_state.ThinState.{ThinState}
use Rattle.pd_texts.specs.Reader.{in_order, AreReadSoFar, ReadsOn, LeavesOf, IsWhole, RefusesNext}
use Rattle.pd_texts.specs.ThinLine.{line_of}
use Rattle.pd_texts.specs.ThinState.{ThinStands, first_of}
use Rattle.pd_build.specs.declared.fault.BuildFault.{BuildFault}
use Rattle.pd_build.specs.declared.fault.BuildFault.TheVariants as b
use Rattle.pd_restoring.specs.declared.fault.RestoreFault.{RestoreFault}
use Rattle.pd_restoring.specs.Reading.{IsOfBuild, NoneAbove, SaysOf}
use Rattle.pd_restoring.specs.Restored.{build_fault, read_fault}
use Rattle.pd_restoring.proofs.ReadingLemmas.{above_next, above_here, next_says}
use Rattle.pd_restoring.specs.declared.fault.RestoreFault.TheVariants as r
use Rattle.pd_restore.specs.Reading.{Gathers, Reading, Steps, IsShort, IsOver}
use Rattle.pd_restore.specs.Whole.{HasBegun, begun_lines, head_of_pool}
use Rattle.pd_salvage.specs.declared.saved.SavedHead.{SavedHead}

-- a look at the room that is exact says how much is needed
pub over_if_short : {T : Type 0} (room need exact : ℕ) (result : Result T RestoreFault) → need ≡ exact → MatchResult result (λ more. need ≤ room) (IsShort room need)
    → MatchResult result (λ more. exact ≤ room) (IsOver room exact)
over_if_short room need exact (Ok more) same p = omega arith
over_if_short room need exact (Err r.Memory) same p = tt
over_if_short room need exact (Err r.Source) same p = absurd p
over_if_short room need exact (Err r.Device) same p = tt
over_if_short room need exact (Err (r.Text fault)) same p = absurd p
over_if_short room need exact (Err (r.NoRoom needed blocks)) same p = (p.0 ∙ same, (p.1.0, omega (arith, p.1.1)))

-- a line more was read
pub grows_where : (result : Result Bool RestoreFault) (before : List Line) (line : Line) (old new : TextReader ThinState ThinLine) → ReadsOn pool_format ThinStands before old
    → ReadsOn pool_format ThinStands (line ∷ before) new → length before < 2 ^ 64 - 1 → IfOk result (λ more. more ≡ true → lines_of old.reader < lines_of new.reader)
grows_where (Err fault) before line old new was is few = tt
grows_where (Ok more) before line old new was is few = λ e. omega (arith, was.so_far.count, is.so_far.count, few)

-- a fault of what builds is no other, and asks for no room
pub build_is : {T : Type 0} (result : Result T RestoreFault) (fault : BuildFault) → IsErrAnd result (λ given. given ≡ build_fault fault) → IfErr result IsOfBuild
build_is (Ok made) fault p = absurd p
build_is (Err given) b.Memory p = rw p tt
build_is (Err given) b.Device p = rw p tt

pub no_room_asked : {T : Type 0} (P : T → Type 0) (result : Result T RestoreFault) (fault : BuildFault) (room need : ℕ) → IsErrAnd result (λ given. given ≡ build_fault fault)
    → MatchResult result P (IsOver room need)
no_room_asked P (Ok made) fault room need p = absurd p
no_room_asked P (Err given) b.Memory room need p = rw p tt
no_room_asked P (Err given) b.Device room need p = rw p tt

-- where there is no room for a line, so much is needed of a text with it
pub lacking : {T : Type 0} (result : Result T RestoreFault) (before more : List Line) (line : Line) (room : ℕ) (t : List ℕ) → NoneAbove pool_need_so_far room before → 1 ≤ length before
    → (reading pool_format t).lines ≡ in_order before (line ∷ more)
    → MatchResult result (λ _. pool_need_so_far room (line ∷ before) ≤ room) (IsOver room (pool_need_so_far room (line ∷ before))) → IfErr result (SaysOf pool_format pool_need_so_far room t)
lacking (Ok taken) before more line room t above some told over = tt
lacking (Err r.Memory) before more line room t above some told over = tt
lacking (Err r.Source) before more line room t above some told over = tt
lacking (Err r.Device) before more line room t above some told over = tt
lacking (Err (r.Text fault)) before more line room t above some told over = absurd over
lacking (Err (r.NoRoom needed blocks)) before more line room t above some told over = (
  ap (need_above_room (pool_need_so_far room) room []) told ∙ (above_here pool_need_so_far room before more line above some over.1.1 ∙ ap (λ n. Some n) (sym over.0)),
  over.1.0,
)

module _ {G : Type 0} (Has : Gathers G) where
  -- a step that took a line
  pub stepped : (result : Result Bool RestoreFault) (before : List Line) (line : ThinLine) (room : ℕ) (old text : TextReader ThinState ThinLine) (was left : Option (List ℕ)) (s t : G) (start now to : DraftState)
      → Reading Has before room old s start now → to.device.blocks ≡ now.device.blocks → ReadsOn pool_format ThinStands (line_of line ∷ before) text
      → ((x : List ℕ) → LeavesOf pool_format x before old was → LeavesOf pool_format x (line_of line ∷ before) text left)
      → IfOk result (λ more. more ≡ true) → OnOk result (Has room (line_of line ∷ before) t start to)
      → MatchResult result (λ more. pool_need_so_far room (line_of line ∷ before) ≤ room) (IsOver room (pool_need_so_far room (line_of line ∷ before)))
      → IfOk result (λ more. Steps Has more before room old was text left t start to)
  stepped (Err fault) before line room old text was left s t start now to h blocks reads told more gathered need = tt
  stepped (Ok more) before line room old text was left s t start now to h blocks reads told is gathered need =
      rw is (
        line_of line,
        (
          record {
            reads = reads;
            later = omega (arith, h.later);
            so_far = record { gathered = gathered; lines = reads.so_far.lines; need = need; most = h.so_far.most; there = omega (arith, h.so_far.there, blocks) };
            above = above_next pool_need_so_far room before (line_of line) h.above need;
          },
          told,
        ),
      )

  -- a step that came to the end
  pub came_to_end : (result : Result Bool RestoreFault) (before : List Line) (room : ℕ) (old text : TextReader ThinState ThinLine) (was left : Option (List ℕ)) (s t : G) (start now to : DraftState)
      → Reading Has before room old s start now → to.device.blocks ≡ now.device.blocks → AreReadSoFar pool_format (end_line ∷ before)
      → ((x : List ℕ) → LeavesOf pool_format x before old was → IsWhole pool_format x (end_line ∷ before) left)
      → IfOk result (λ more. more ≡ false) → OnOk result (Has room (end_line ∷ before) t start to)
      → MatchResult result (λ more. pool_need_so_far room (end_line ∷ before) ≤ room) (IsOver room (pool_need_so_far room (end_line ∷ before)))
      → IfOk result (λ more. Steps Has more before room old was text left t start to)
  came_to_end (Err fault) before room old text was left s t start now to h blocks reads told more gathered need = tt
  came_to_end (Ok more) before room old text was left s t start now to h blocks reads told is gathered need =
      rw is (
        record {
          all = record { gathered = gathered; lines = reads; need = need; most = h.so_far.most; there = omega (arith, h.so_far.there, blocks) };
          ended = refl;
          above = above_next pool_need_so_far room before end_line h.above need;
        },
        told,
      )

  -- a step by its answer
  pub steps_as : (a b : Bool) (before : List Line) (room : ℕ) (old text : TextReader ThinState ThinLine) (was left : Option (List ℕ)) (s : G) (start now : DraftState) → a ≡ b
      → Steps Has a before room old was text left s start now → Steps Has b before room old was text left s start now
  steps_as a b before room old text was left s start now is steps = rw is at steps

  -- what a fault of the reader says after lines that have room
  pub line_says : (fault : ReadFault) (first : Line) (room : ℕ) (t : List ℕ) (before : List Line) (text : TextReader ThinState ThinLine) (s : G) (start now : DraftState) → Reading Has before room text s start now
      → pool_need_so_far room (end_line ∷ before) ≤ room → RefusesNext pool_format first end_line t before fault → SaysOf pool_format pool_need_so_far room t (read_fault fault)
  line_says fault first room t before text s start now h need refuses =
      next_says pool_format pool_need_so_far first end_line fault room t before (omega (arith, h.later)) h.above need refuses

  -- the first two lines were read
  pub begun_text : (shared : Bool) (p : SavedHead) (room : ℕ) (text : TextReader ThinState ThinLine) (s : G) (start : DraftState) → HasBegun shared text p room start
      → Has room (pool_line (head_of_pool p) ∷ (if shared then shared_first_line else first_line) ∷ []) s start start → Reading Has (begun_lines text p) room text s start start
  begun_text shared p room text s start begun gathered = record {
    reads = begun.reads;
    later = omega arith;
    so_far = record {
      gathered = subst (λ (b : Bool). Has room (pool_line (head_of_pool p) ∷ (if b then shared_first_line else first_line) ∷ []) s start start) (sym begun.version) gathered;
      lines = begun.reads.so_far.lines;
      need = begun.need;
      most = begun.most;
      there = begun.there;
    };
    above = above_next pool_need_so_far room (first_of text.state ∷ []) (pool_line (head_of_pool p)) (λ lines. refl) begun.need;
  }
