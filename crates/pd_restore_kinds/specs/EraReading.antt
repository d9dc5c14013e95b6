-- An era array that is being filled.
-- An era target's text that is read and restored, line by line; of lines the newest comes first.
use Rattle.std.specs.Prelude.{◌≡◌, ℕ, ◌+◌, ◌≤◌, List, ◌++◌, length, Bool, true, false, [], ◌∷◌, Option}
use Rattle.pd_grammar.specs.Need.{need_array}
use Rattle.pd_grammar.specs.Texts.{has_ended}
use Rattle.pd_grammar.specs.EraText.{Line, first_line, era_line, run_line, end_line, era, blocks_of, run_end, eras_from, era_need_so_far}
use Rattle.pd_draft.specs.Closed.{DraftState}
use Rattle.pd_texts.specs.declared.reader.TextReader.{TextReader}
use Rattle.pd_texts.specs.Reader.{in_order, IsReadAfter, AreReadSoFar, ReadsOn, LeavesOf, IsWhole}
use Rattle.pd_texts_kinds.specs.declared.era_lines.EraLine.{EraLine}
use Rattle.pd_texts_kinds.specs.declared.era_state.EraState.{EraState}
use Rattle.pd_texts_kinds.specs.EraLine.{line_of, EraStands}
use Rattle.pd_build.specs.Array.{ArrayLeft, array_number}
use Rattle.pd_build.specs.Building.{IsFilling}
use Rattle.pd_restoring.specs.Reading.{NoneAbove}

-- these eras were put into the array of so many blocks: whatever eras are to come, the array of all of them is begun
pub record HasPut (eras : List ℕ) (blocks : ℕ) (array : ArrayLeft) (start now : DraftState) : Type 0 where
  pub sized : array.size ≡ 4
  pub number : length eras + array.words.left ≡ blocks
  pub room : now.place + array_number 4 array.words ≡ start.place + need_array 4 blocks
  pub stood : array.words.made ≤ now.place
  pub filling : (others : List ℕ) → length others ≡ array.words.left → IsFilling 4 (eras ++ others) others array start now

-- some were, and so many may follow
pub record MayFollow (count : ℕ) (array : ArrayLeft) (now : DraftState) : Type 0 where
  pub eras : List ℕ
  pub blocks : ℕ
  pub start : DraftState
  pub put : HasPut eras blocks array start now
  pub most : count ≤ array.words.left
  pub there : start.place + need_array 4 blocks ≤ now.device.blocks

-- the eras of the blocks that lines have run over
abbrev pub eras_in : List Line → List ℕ
eras_in [] = []
eras_in (first_line ∷ before) = eras_in before
eras_in (era_line h ∷ before) = eras_in before
eras_in (run_line r ∷ before) = eras_in before ++ eras_from r.era r.length
eras_in (end_line ∷ before) = eras_in before

-- what was put of these lines
pub record HasGathered (before : List Line) (array : ArrayLeft) (start now : DraftState) : Type 0 where
  pub put : HasPut (eras_in before) (blocks_of before) array start now
  -- the last run ends behind the blocks that were put
  pub ends : run_end before ≡ length (eras_in before)

-- these lines were read and restored, and have room
pub record Reading (before : List Line) (room : ℕ) (text : TextReader EraState EraLine) (array : ArrayLeft) (start now : DraftState) : Type 0 where
  pub reads : ReadsOn era EraStands before text
  pub later : 2 ≤ length before
  pub gathered : HasGathered before array start now
  pub begin : start.place ≡ 1
  pub need : era_need_so_far room before ≤ room
  pub above : NoneAbove era_need_so_far room before
  pub there : room ≤ now.device.blocks

-- some lines were
pub record CanRead (text : TextReader EraState EraLine) (array : ArrayLeft) (now : DraftState) : Type 0 where
  pub before : List Line
  pub room : ℕ
  pub start : DraftState
  pub so_far : Reading before room text array start now

-- these are all lines, with the last one, and they have room
pub record HasReadAll (lines : List Line) (room : ℕ) (array : ArrayLeft) (start now : DraftState) : Type 0 where
  pub reads : AreReadSoFar era lines
  pub ended : has_ended era lines ≡ true
  pub gathered : HasGathered lines array start now
  pub covered : array.words.left ≡ 0
  pub begin : start.place ≡ 1
  pub need : era_need_so_far room lines ≤ room
  pub above : NoneAbove era_need_so_far room lines
  pub there : room ≤ now.device.blocks

-- a line may be put after what was gathered
pub record CanTake (array : ArrayLeft) (line : EraLine) (now : DraftState) : Type 0 where
  pub before : List Line
  pub start : DraftState
  pub room : ℕ
  pub gathered : HasGathered before array start now
  pub later : 2 ≤ length before
  pub after : IsReadAfter era before (line_of line)
  pub begin : start.place ≡ 1
  pub need : era_need_so_far room before ≤ room
  pub there : room ≤ now.device.blocks

-- one step after these lines: a line more, or the end
abbrev pub StepsEras : Bool → List Line → ℕ → TextReader EraState EraLine → Option (List ℕ) → TextReader EraState EraLine → Option (List ℕ) → ArrayLeft → DraftState → DraftState → Type 0
StepsEras true before room old was text left array start now = (line : Line) × (Reading (line ∷ before) room text array start now
    × ((t : List ℕ) → LeavesOf era t before old was → LeavesOf era t (line ∷ before) text left))
StepsEras false before room old was text left array start now = HasReadAll (end_line ∷ before) room array start now
    × ((t : List ℕ) → LeavesOf era t before old was → IsWhole era t (end_line ∷ before) left)

-- after these lines all others were read
pub record EndsEras (before : List Line) (room : ℕ) (old : TextReader EraState EraLine) (was left : Option (List ℕ)) (array : ArrayLeft) (start now : DraftState) : Type 0 where
  pub lines : List Line
  pub later : List Line
  pub front : (others : List Line) → in_order lines others ≡ in_order before (later ++ others)
  pub all : HasReadAll lines room array start now
  pub told : (t : List ℕ) → LeavesOf era t before old was → IsWhole era t lines left

-- from the lines before some others were read
pub record ReadsErasOn (before : List Line) (room : ℕ) (old : TextReader EraState EraLine) (was : Option (List ℕ)) (text : TextReader EraState EraLine) (left : Option (List ℕ)) (array : ArrayLeft)
    (start now : DraftState) : Type 0 where
  pub lines : List Line
  pub later : List Line
  pub front : (others : List Line) → in_order lines others ≡ in_order before (later ++ others)
  pub so_far : Reading lines room text array start now
  pub told : (t : List ℕ) → LeavesOf era t before old was → LeavesOf era t lines text left
