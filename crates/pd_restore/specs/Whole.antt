-- A pool from its own line on.
-- What is held in memory of a pool, as its lines are restored; of lines the newest comes first.
use Rattle.std.specs.Prelude.{◌≡◌, ℕ, ◌≤◌, Bool, List, [], ◌∷◌, if◌then◌else◌, ◌++◌, length, Option, Some}
use Rattle.pd_kinds.specs.declared.limits.TheConstants.{MAX_META_BLOCKS}
use Rattle.pd_kinds.specs.ThinFormat.{ThinFields}
use Rattle.pd_grammar.specs.ThinText.{Line, Head, pool_line, pool_format, first_line, shared_first_line, end_line}
use Rattle.pd_grammar.specs.Texts.{reading, whole}
use Rattle.pd_grammar.proofs.GrammarLemmas.{AreRead}
use Rattle.pd_laid.specs.PoolText.{pool_need_so_far}
use Rattle.pd_draft.specs.Closed.{DraftState}
use Rattle.pd_texts.specs.declared.reader.TextReader.{TextReader}
use Rattle.pd_texts.specs.declared.thin_text.ThinLine.{ThinLine}
use Rattle.pd_texts.specs.declared.thin_state.ThinState.{ThinState}
use Rattle.pd_texts.specs.Reader.{ReadsOn, in_order}
use Rattle.pd_texts.specs.ThinState.{ThinStands, first_of}
use Rattle.pd_restoring.specs.Reading.{NoneAbove}
use Rattle.pd_restore.specs.declared.pool.PoolRoots.{PoolRoots}
use Rattle.pd_restore.specs.Reading.{Gathers, Reading, HasRoom}
use Rattle.pd_salvage.specs.declared.saved.SavedHead.{SavedHead}

-- the words of the pool line
abbrev pub head_of_pool : SavedHead → Head
head_of_pool p = record { uuid = p.uuid; time = p.time; transaction = p.transaction; block_size = p.block_size; data_blocks = p.blocks }

-- the first two lines, the newest first
abbrev pub begun_lines : TextReader ThinState ThinLine → SavedHead → List Line
begun_lines text p = pool_line (head_of_pool p) ∷ first_of text.state ∷ []

-- the fields of the superblock
abbrev pub fields_of : SavedHead → PoolRoots → ℕ → ThinFields
fields_of p parts room = record {
  flags = 0;
  uuid = p.uuid;
  version = 2;
  time = p.time;
  transaction = p.transaction;
  held_root = 0;
  data_map = parts.data_map;
  meta_map = parts.meta_map;
  mapping_root = parts.mapping_root;
  details_root = parts.details_root;
  block_size = p.block_size;
  meta_block_size = 8;
  meta_blocks = room;
  compat = 0;
  compat_ro = 0;
  incompat = 0;
}

-- the first two lines were read, and nothing is written
pub record CanBegin {G : Type 0} (Has : Gathers G) (p : SavedHead) (room : ℕ) (text : TextReader ThinState ThinLine) (s : G) (now : DraftState) : Type 0 where
  pub start : DraftState
  pub reads : Reading Has (begun_lines text p) room text s start now

-- the first two lines, of a text of this version, were read, and have room on a device of which nothing is written
pub record HasBegun (shared : Bool) (text : TextReader ThinState ThinLine) (p : SavedHead) (room : ℕ) (now : DraftState) : Type 0 where
  pub version : text.state.is_shared ≡ shared
  pub reads : ReadsOn pool_format ThinStands (begun_lines text p) text
  pub place : now.place ≡ 1
  pub need : pool_need_so_far room (begun_lines text p) ≤ room
  pub most : room ≤ MAX_META_BLOCKS
  pub there : room ≤ now.device.blocks

-- the lines that come, with the last one
abbrev pub lines_to_end : List Line → List Line
lines_to_end coming = coming ++ end_line ∷ []

-- the first line of a text of version 2, or of version 1, and with it the pool line
abbrev pub version_line : Bool → Line
version_line shared = if shared then shared_first_line else first_line

abbrev pub made_begun : Bool → SavedHead → List Line
made_begun shared p = pool_line (head_of_pool p) ∷ version_line shared ∷ []

-- the text is that of some lines and of those that come, and nothing of it is left
abbrev pub IsTextOf : List Line → List Line → Option (List ℕ) → List ℕ → Type 0
IsTextOf before coming left t = (reading pool_format t ≡ whole (in_order before (lines_to_end coming))) × (left ≡ Some [])

-- some lines were gathered, and have room, and those that come may follow them
pub record Coming {G : Type 0} (Has : Gathers G) (before : List Line) (room : ℕ) (coming : List Line) (s : G) (start now : DraftState) : Type 0 where
  pub so_far : HasRoom Has before room s start now
  pub later : 2 ≤ length before
  pub above : NoneAbove pool_need_so_far room before
  pub lines : AreRead pool_format before (lines_to_end coming)

-- some lines were
pub record CanTakeMade {G : Type 0} (Has : Gathers G) (room : ℕ) (coming : List Line) (s : G) (now : DraftState) : Type 0 where
  pub before : List Line
  pub start : DraftState
  pub so_far : Coming Has before room coming s start now

-- after these lines some of those that came were taken
pub record TakesLines {G : Type 0} (Has : Gathers G) (before : List Line) (room : ℕ) (old coming : List Line) (s : G) (start now : DraftState) : Type 0 where
  pub lines : List Line
  pub so_far : Coming Has lines room coming s start now
  pub same : in_order lines (lines_to_end coming) ≡ in_order before (lines_to_end old)

-- the first two lines are known, and have room on a device of which nothing is written
pub record HasMade (shared : Bool) (coming : List Line) (p : SavedHead) (room : ℕ) (now : DraftState) : Type 0 where
  pub reads : AreRead pool_format [] (in_order (made_begun shared p) (lines_to_end coming))
  pub place : now.place ≡ 1
  pub need : pool_need_so_far room (made_begun shared p) ≤ room
  pub most : room ≤ MAX_META_BLOCKS
  pub there : room ≤ now.device.blocks
