-- A pool with the leaves that its devices share, as what is restored from a text of either version.
-- What the first two lines of a pool's text give.
-- What is held in memory of a pool, as it is restored.
-- What becomes of a device on which a pool is written that is held in memory, or its shape.
use Rattle.std.proofs.Common.{refl, ap}
use Rattle.std.specs.Prelude.{ℕ, true, false, List, [], Option, Some, None, ◌≡◌, ◌≤◌, if◌then◌else◌}
use Rattle.pd_kinds.specs.Objects.{SourceState, DeviceState}
use Rattle.pd_kinds.specs.Meaning.{ThinPool}
use Rattle.pd_grammar.specs.Texts.{Reading}
use Rattle.pd_grammar.proofs.GrammarLemmas.{AreRead}
use Rattle.pd_grammar.proofs.SpellingLemmas.{some_verdict}
use Rattle.pd_grammar.specs.ThinText.{Line, first_line, shared_first_line, pool_format, pool_line}
use Rattle.pd_grammar.proofs.ThinRead.{FitsLine, PlacedInPool}
use Rattle.pd_grammar.specs.Spelling.{Verdict, accepted}
use Rattle.pd_grammar.specs.Lawful.{IsLawfulPool}
use Rattle.pd_grammar.specs.Need.{thin_need}
use Rattle.pd_laid.specs.LaidThin.{laid_shape, laid_pool}
use Rattle.pd_laid.specs.Shape.{ThinShape}
use Rattle.pd_laid.specs.PoolText.{IsLawfulShape, MeansPoolShape, pool_need_so_far, IsPoolTextVerdict, shape_need}
use Rattle.pd_laid.proofs.ShapeText.{pool_language}
use Rattle.pd_texts.specs.Reader.{LeavesOf, ReadsOn, in_order}
use Rattle.pd_texts.specs.ThinState.{ThinStands, first_of}
use Rattle.pd_texts.specs.declared.thin_text.ThinLine.{ThinLine}
use Rattle.pd_texts.specs.declared.thin_text.ThinLine.TheVariants.{Pool, Leaf, Device, UseLeaf, Map}
use Rattle.pd_restoring.specs.Reading.{BeginsWith}
use Rattle.pd_restoring.specs.Restored.{Subject, HasVerdicts}
use Rattle.pd_restoring.proofs.BeginLemmas.{begins_with}
use Rattle.pd_restoring.specs.Made.{Content, IsMade}
pub use Rattle.pd_restoring.specs.Made.{CountsMade, Ending, IsDone, IsEarly, IsOfOthers, done, ending_of, failed, lacking, short, unbegun}
use Rattle.pd_restore.specs.declared.thin.Begun.{Begun}
use Rattle.pd_restore.specs.declared.thin.Rest.{Rest}
use Rattle.pd_restore.specs.declared.thin.Rest.TheVariants.{Text, Saved, Shape}
use Rattle.pd_restore.specs.Whole.{IsTextOf, lines_to_end, made_begun, begun_lines, head_of_pool}
use Rattle.pd_restore.specs.SavedLines.{lines_left}
use Rattle.pd_restore.specs.declared.known.Ended.{Ended}
use Rattle.pd_restore.specs.ShapeLines as shape
use Rattle.pd_salvage.specs.declared.saved.SavedHead.{SavedHead}

-- shapes of pools, and their texts
abbrev pub pools : Subject Line ThinShape
pools = record { format = pool_format; Means = MeansPoolShape; need = pool_need_so_far; Lawful = IsLawfulShape; laid = laid_shape }

-- the first two lines, the newest first
abbrev pub lines_before : SavedHead → Rest → List Line
lines_before pool (Text text) = begun_lines text pool
lines_before pool (Saved made) = made_begun false pool
lines_before pool (Shape made) = made_begun true pool

abbrev pub lines_of_begun : Begun → List Line
lines_of_begun begun = lines_before begun.pool begun.rest

-- they were read, from whatever source, or those that come may follow them
abbrev pub StandsBefore : SavedHead → Rest → Type 0
StandsBefore pool (Text text) = ReadsOn pool_format ThinStands (begun_lines text pool) text
StandsBefore pool (Saved made) = AreRead pool_format [] (in_order (made_begun false pool) (lines_to_end (lines_left made)))
StandsBefore pool (Shape made) = AreRead pool_format [] (in_order (made_begun true pool) (lines_to_end (shape.lines_left made)))

abbrev pub PoolStands : Begun → Type 0
PoolStands begun = StandsBefore begun.pool begun.rest

-- they were read of this text, and this is left of the source
abbrev pub LeavesBefore : List ℕ → SavedHead → Rest → Option (List ℕ) → Type 0
LeavesBefore text pool (Text reader) left = LeavesOf pool_format text (begun_lines reader pool) reader left
LeavesBefore text pool (Saved made) left = IsTextOf (made_begun false pool) (lines_left made) left text
LeavesBefore text pool (Shape made) left = IsTextOf (made_begun true pool) (shape.lines_left made) left text

abbrev pub PoolLeaves : List ℕ → Begun → Option (List ℕ) → Type 0
PoolLeaves text begun left = LeavesBefore text begun.pool begun.rest left

-- each text of a pool has a verdict
pub pool_verdicts : HasVerdicts pools
pool_verdicts text room = some_verdict pool_format MeansPoolShape FitsLine PlacedInPool pool_language (pool_need_so_far room) text room

-- a text of which they were read begins with them
pub pool_goes_on : (text : List ℕ) (begun : Begun) (left : Option (List ℕ)) → PoolLeaves text begun left → BeginsWith pool_format text (lines_of_begun begun)
pool_goes_on text begun left leaves = goes_on begun.rest leaves
  where
    goes_on : (rest : Rest) → LeavesBefore text begun.pool rest left → BeginsWith pool_format text (lines_before begun.pool rest)
    goes_on (Text reader) leaves = begins_with pool_format (first_of reader.state) (pool_line (head_of_pool begun.pool)) text reader left leaves
    goes_on (Saved made) leaves = record {
      first = first_line;
      second = pool_line (head_of_pool begun.pool);
      are = refl;
      rest = lines_to_end (lines_left made);
      is = ap (λ (r : Reading Line). r.lines) leaves.0;
    }
    goes_on (Shape made) leaves = record {
      first = shared_first_line;
      second = pool_line (head_of_pool begun.pool);
      are = refl;
      rest = lines_to_end (shape.lines_left made);
      is = ap (λ (r : Reading Line). r.lines) leaves.0;
    }

-- the line is a pool's
abbrev pub IsOfPool : Option ThinLine → Type 0
IsOfPool None = ⊥
IsOfPool (Some (Pool uuid time transaction block_size blocks)) = Unit {0}
IsOfPool (Some (Leaf number entries)) = ⊥
IsOfPool (Some (Device id details)) = ⊥
IsOfPool (Some (UseLeaf number)) = ⊥
IsOfPool (Some (Map run)) = ⊥

-- its lines are those of a text that, where there is room for this shape, is accepted as the shape
pub record GivesShape (w : ThinShape) (begun : Begun) : Type 0 where
  pub text : List ℕ
  pub leaves : PoolLeaves text begun (Some [])
  pub lawful : IsLawfulShape w
  pub only : (room : ℕ) (verdict : Verdict ThinShape) → shape_need w room ≤ room → IsPoolTextVerdict text room verdict → verdict ≡ accepted w

-- its lines are those of some shape, which needs so many blocks
pub record CanMake (need room : ℕ) (begun : Begun) : Type 0 where
  pub shape : ThinShape
  pub gives : GivesShape shape begun
  pub needs : need ≡ shape_need shape room

-- its lines are those of some shape, for which there is room
pub record HasRoom (room : ℕ) (begun : Begun) : Type 0 where
  pub shape : ThinShape
  pub gives : GivesShape shape begun
  pub fits : shape_need shape room ≤ room

-- a source of which nothing is left
abbrev pub ended_state : Ended → SourceState
ended_state ended = record { access = if ended.attached then 1 else 0; path = None; left = Some []; faults = 0 }

-- a pool as what is written, which shares no leaf; and a shape, whose shared leaves are laid once
abbrev pub pool_content : ThinPool → Content
pool_content pool = record { Lawful = IsLawfulPool pool; need = thin_need pool; laid = laid_pool pool }

abbrev pub shape_content : ThinShape → Content
shape_content w = record { Lawful = IsLawfulShape w; need = shape_need w; laid = laid_shape w }

-- what becomes of the device
abbrev pub IsMadeOf : ThinPool → Ending → DeviceState → DeviceState → Type 0
IsMadeOf pool ending old new = IsMade (pool_content pool) ending old new

abbrev pub IsShapeMadeOf : ThinShape → Ending → DeviceState → DeviceState → Type 0
IsShapeMadeOf w ending old new = IsMade (shape_content w) ending old new
