-- What a line of an era target's text means.
-- The first and the last line of an era target's text.
-- The kinds of lines of an era target's text.
-- What the numbers of a line of an era target's text are, after given lines, the newest first.
-- What the lines so far of an era target's text say of the next one.
use Rattle.std.specs.Prelude.{Option, Some, None, is_none, ◌+◌, ◌^◌, ◌<◌, ◌≤◌, length, All}
use Rattle.std.proofs.Common.{◌≡◌, ℕ, false, List, refl, codes}
use Rattle.std.specs.List.{list_all}
use Rattle.pd_grammar.specs.EraText.{Line, era_line, run_line, end_line, first_line, era, era_kind, run_kind, end_kind, Head, Run, blocks_of, run_end}
use Rattle.pd_grammar.specs.Texts.{is_printable}
use Rattle.pd_grammar.specs.Tables.{LineKind}
use Rattle.pd_texts.specs.ThinLaws.{header_is}
use Rattle.pd_texts.specs.ThinState.{stage_of}
use Rattle.pd_texts_kinds.specs.declared.era_lines.EraLine.{EraLine}
use Rattle.pd_texts_kinds.specs.declared.era_state.EraKind.{EraKind}
use Rattle.pd_texts_kinds.specs.declared.era_state.EraState.{EraState}
use Rattle.pd_texts_kinds.specs.declared.era_lines.EraLine.TheVariants as e
use Rattle.pd_texts_kinds.specs.declared.era_state.EraKind.TheVariants as k

-- the line that a value gives
abbrev pub line_of : EraLine → Line
line_of (e.Era uuid block_size blocks era) = era_line (record { uuid = uuid; block_size = block_size; blocks = blocks; era = era })
line_of (e.Run first length era) = run_line (record { first = first; length = length; era = era })

-- what a line after the first one gives, where the last line gives nothing
abbrev pub era_meant : Option EraLine → Line
era_meant None = end_line
era_meant (Some line) = line_of line

-- the first line has only bytes that a line may have
pub era_header : (bytes : List ℕ) → list_all is_printable bytes ≡ false → era.first bytes ≡ None
era_header = header_is (codes "era 1") first_line refl

-- the last line is the one that gives nothing
pub era_ends : (line : Option EraLine) → era.is_end (era_meant line) ≡ is_none line
era_ends None = refl
era_ends (Some (e.Era uuid block_size blocks last)) = refl
era_ends (Some (e.Run first length last)) = refl

-- the kind of a line
abbrev pub kind_meant : EraKind → LineKind Line
kind_meant k.Era = era_kind
kind_meant k.Run = run_kind
kind_meant k.End = end_kind

-- an era line after these lines
pub record IsEraLine (before : List Line) (h : Head) : Type 0 where
  pub second : length before ≡ 1
  pub uuid_len : length h.uuid ≡ 16
  pub uuid_bytes : All (λ b. b < 256) h.uuid
  pub block_size_fits : h.block_size < 2 ^ 32
  pub blocks_fit : h.blocks < 2 ^ 32
  pub era_fits : h.era < 2 ^ 32

-- a run line after these lines: it follows the last run, and ends within the blocks
pub record IsRunLine (before : List Line) (r : Run) : Type 0 where
  pub later : 2 ≤ length before
  pub follows : r.first ≡ run_end before
  pub some : 1 ≤ r.length
  pub within : r.first + r.length ≤ blocks_of before
  pub first_fits : r.first < 2 ^ 32
  pub length_fits : r.length < 2 ^ 32
  pub era_fits : r.era < 2 ^ 32

-- the last line after these lines: the runs cover all blocks
pub record IsEndLine (before : List Line) : Type 0 where
  pub later : 2 ≤ length before
  pub covered : blocks_of before ≤ run_end before

-- the state is that of these lines, the newest first
pub record EraStands (state : EraState) (before : List Line) : Type 0 where
  pub stage : state.stage ≡ stage_of before
  pub blocks : state.blocks ≡ blocks_of before
  pub run_end : state.run_end ≡ run_end before
