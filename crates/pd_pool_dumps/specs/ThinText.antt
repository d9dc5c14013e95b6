-- The text of a pool, as it is dumped.
-- How many mappings a line of a pool's text tells.
-- What a dump counts of its lines.
-- Runs whose lines were printed and counted, of some that were left.
use Rattle.std.specs.Prelude.{ℕ, List, [], ◌∷◌, ◌++◌, map, ◌≡◌, ◌-◌, ◌^◌, min, length, sum_by, Option, IfSome, Result, Err, MatchResult}
use Rattle.std.specs.List.{flat_map}
use Rattle.pd_kinds.specs.declared.superblocks.ThinSuper.{ThinSuper}
use Rattle.pd_grammar.specs.Texts.{text_of_lines}
use Rattle.pd_grammar.specs.ThinText.{end_line, map_line, thin, Line, first_line, shared_first_line, pool_line, leaf_line, device_line, use_line}
use Rattle.pd_lines.specs.Printing.{Printed, Printing}
use Rattle.pd_meaning_thin.specs.declared.devices.DeviceRow.{DeviceRow}
use Rattle.pd_meaning_thin.specs.declared.devices.ThinDevices.{ThinDevices}
use Rattle.pd_meaning_thin.specs.declared.joined.Run.{Run}
use Rattle.pd_meaning_thin.specs.Runs.{rows_left, spelled}
use Rattle.pd_meaning_thin.specs.Given.{row_lines, super_lines}
use Rattle.pd_query.specs.Query.{PrintsSome}
use Rattle.pd_pool_dumps.specs.declared.counts.DumpCounts.{DumpCounts}

-- the map lines of given runs
abbrev pub given_text : List Run → List ℕ
given_text runs = text_of_lines thin (map map_line (map spelled runs))

-- the lines of a row, and those of rows
abbrev pub row_text : List (List ℕ) → DeviceRow → List ℕ
row_text image row = text_of_lines thin (row_lines image row)

abbrev pub rows_text : List (List ℕ) → List DeviceRow → List ℕ
rows_text image rows = text_of_lines thin (flat_map (row_lines image) rows)

-- the text of the pool with this superblock
abbrev pub dump_text : List (List ℕ) → ThinSuper → List ℕ
dump_text image s = text_of_lines thin (super_lines image s)

-- the lines of the devices that are left, and the last line
abbrev pub rest_text : List (List ℕ) → ThinDevices → List ℕ
rest_text image devices = text_of_lines thin (flat_map (row_lines image) (rows_left image devices) ++ (end_line ∷ []))

abbrev pub mappings_of_line : Line → ℕ
mappings_of_line first_line = 0
mappings_of_line shared_first_line = 0
mappings_of_line (pool_line p) = 0
mappings_of_line (leaf_line l) = 0
mappings_of_line (device_line d) = 0
mappings_of_line (use_line n) = 0
mappings_of_line (map_line r) = r.length
mappings_of_line end_line = 0

-- the counts of some lines, up to the end of their type
pub record IsCountOf (counts : DumpCounts) (lines : List Line) : Type 0 where
  pub mappings_are : counts.mappings ≡ min (sum_by mappings_of_line lines) (2 ^ 64 - 1)
  pub lines_are : counts.lines ≡ min (length lines) (2 ^ 64 - 1)

-- after other lines these were counted, too
pub record Counted (old new : DumpCounts) (lines : List Line) : Type 0 where
  pub all : (before : List Line) → IsCountOf old before → IsCountOf new (before ++ lines)

-- the lines that a device's image gives were
abbrev pub CountsSome : Option (List (List ℕ)) → (List (List ℕ) → List Line) → DumpCounts → DumpCounts → Type 0
CountsSome held lines_of old new = IfSome held (λ image. Counted old new (lines_of image))

-- the lines of given runs
abbrev pub given_lines : List Run → List Line
given_lines runs = map map_line (map spelled runs)

-- a text is that of the first of some runs, which were counted, and the others are left
pub record AddsRuns (whole left : List Run) (text : List ℕ) (old new : DumpCounts) : Type 0 where
  pub runs : List Run
  pub parts : whole ≡ runs ++ left
  pub text_is : text ≡ given_text runs
  pub counted : Counted old new (given_lines runs)

-- such a text was printed, where the device tells what it holds
pub record RunsSoFar (held : Option (List (List ℕ))) (whole left : List (List ℕ) → List Run) (old new : Printing) (counts counts' : DumpCounts) : Type 0 where
  pub text : List ℕ
  pub told : IfSome held (λ image. AddsRuns (whole image) (left image) text counts counts')
  pub printed : Printed text old new

-- a call printed some of the runs, or failed somewhere in them
pub record PrintsRuns {E : Type 0} (held : Option (List (List ℕ))) (whole left : List (List ℕ) → List Run) (result : Result (Unit {0}) E) (old new : Printing) (counts counts' : DumpCounts) : Type 0 where
  pub outcome : MatchResult result (λ _. RunsSoFar held whole left old new counts counts') (λ fault. PrintsSome held (λ image. given_text (whole image)) (Err fault) old new)
