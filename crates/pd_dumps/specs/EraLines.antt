-- The text of an era target, as it is dumped.
-- The run that is open, and what is printed of it and of the blocks behind it.
-- Text that is printed up to what is left of it.
use Rattle.std.specs.Prelude.{ℕ, List, [], ◌∷◌, ◌++◌, ◌+◌, ◌≡◌, Result, MatchResult}
use Rattle.pd_kinds.specs.EraFormat.{EraFields}
use Rattle.pd_grammar.specs.Texts.{text_of_lines}
use Rattle.pd_grammar.specs.EraText.{Head, end_line, era, joined_eras, lines_of_stretches, run_line, run_lines, Stretch, eras_from}
use Rattle.pd_lines.specs.Printing.{Begun, Printed, Printing}
use Rattle.pd_texts.specs.ThinLine.{text_of_line}
use Rattle.pd_dumps.specs.declared.runs.OpenRun.{OpenRun}

-- the words of the target's line
abbrev pub super_head : EraFields → Head
super_head fields = record { uuid = fields.uuid; block_size = fields.block_size; blocks = fields.blocks; era = fields.era }

-- the text of the target with this superblock and these eras, one a block
abbrev pub era_dump_text : EraFields → List ℕ → List ℕ
era_dump_text fields eras = text_of_lines era (lines_of_stretches (super_head fields) (joined_eras eras))

-- what is printed of a run, and the text of the lines after the target's own
abbrev pub run_text : ℕ → ℕ → ℕ → List ℕ
run_text first number value = text_of_line era (run_line (record { first = first; length = number; era = value }))

abbrev pub rest_text : List ℕ → List ℕ
rest_text eras = text_of_lines era (run_lines 0 (joined_eras eras) ++ (end_line ∷ []))

-- what is printed of runs from a block on, from that of one run with its first block, its length and its value
abbrev pub printed_from : (ℕ → ℕ → ℕ → List ℕ) → ℕ → List Stretch → List ℕ
printed_from line first [] = []
printed_from line first (s ∷ stretches) = line first s.length s.era ++ printed_from line (first + s.length) stretches

-- what is printed of the longest runs of blocks with the same value
abbrev pub runs_of : (ℕ → ℕ → ℕ → List ℕ) → List ℕ → List ℕ
runs_of line values = printed_from line 0 (joined_eras values)

-- the same from the open run on, where the blocks behind it have these values
abbrev pub text_from : (ℕ → ℕ → ℕ → List ℕ) → OpenRun → List ℕ → List ℕ
text_from line run values = printed_from line run.first (joined_eras (eras_from run.value run.length ++ values))

-- the block behind the run
abbrev pub end_of : OpenRun → ℕ
end_of run = run.first + run.length

-- the front of a text was printed, behind which this is left
pub record PrintsFront (whole left : List ℕ) (old new : Printing) : Type 0 where
  pub front : List ℕ
  pub cut : whole ≡ front ++ left
  pub printed : Printed front old new

-- a call printed a text up to what is left, or began to
abbrev pub PrintsUpTo : {E : Type 0} → List ℕ → List ℕ → Result (Unit {0}) E → Printing → Printing → Type 0
PrintsUpTo whole left result old new = MatchResult result (λ _. PrintsFront whole left old new) (λ _. Begun whole old new)
