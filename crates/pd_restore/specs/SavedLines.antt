-- The lines of what was saved of a pool, as they stand in a text.
-- A row of elements of a list, and one of runs that are held packed.
use Rattle.std.specs.Prelude.{List, take, drop, ℕ, ◌++◌, map}
use Rattle.std.specs.List.{flat_map}
use Rattle.pd_grammar.specs.Texts.{text_of_lines}
use Rattle.pd_grammar.specs.ThinText.{Line, lines_of_part, lines_of_parts, map_line, pool_format}
use Rattle.pd_meaning_thin.specs.declared.joined.Run.{Run}
use Rattle.pd_meaning_thin.specs.Packed.{runs_from}
use Rattle.pd_meaning_thin.specs.Runs.{spelled}
use Rattle.pd_restore.specs.declared.saved_lines.RunSpan.{RunSpan}
use Rattle.pd_restore.specs.declared.saved_lines.Span.{Span}
use Rattle.pd_restore.specs.declared.saved_lines.SavedLines.{SavedLines}
use Rattle.pd_restore.specs.Whole.{head_of_pool}
use Rattle.pd_salvage.specs.declared.saved.SavedDevice.{SavedDevice}
use Rattle.pd_salvage.specs.Saved.{SavedPool, parts_of}

-- its elements, and what stands behind them
unfoldable pub in_span : {T : Type 0} → Span → List T → List T
in_span s items = take s.left (drop s.at items)

unfoldable pub behind : {T : Type 0} → Span → List T → List T
behind s items = drop s.left (drop s.at items)

-- its runs, and what stands behind them
unfoldable pub in_runs : RunSpan → List Run → List Run
in_runs s runs = take s.left (runs_from runs s.at)

unfoldable pub behind_runs : RunSpan → List Run → List Run
behind_runs s runs = drop s.left (runs_from runs s.at)

-- the lines of these runs, and those of these devices, each with its runs
unfoldable pub lines_at : List Run → List SavedDevice → List Run → List Line
lines_at first devices runs = map map_line (map spelled first) ++ flat_map lines_of_part (parts_of devices runs)

-- the lines that are still to come, but for the last one
abbrev pub lines_left : SavedLines → List Line
lines_left made = lines_at (in_runs made.runs made.saved.runs) (drop made.device made.saved.devices) (behind_runs made.runs made.saved.runs)

-- the text of the pool
abbrev pub saved_lines : SavedPool → List Line
saved_lines saved = lines_of_parts (head_of_pool saved.head) (parts_of saved.devices saved.runs)

abbrev pub saved_text : SavedPool → List ℕ
saved_text saved = text_of_lines pool_format (saved_lines saved)
