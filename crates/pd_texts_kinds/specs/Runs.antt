-- The run lines that are still to be given.
use Rattle.std.specs.Prelude.{List}
use Rattle.pd_grammar.specs.EraText.{Line, run_lines, joined_eras}
use Rattle.pd_texts_kinds.specs.declared.era_lines.EraRuns.{EraRuns}

-- the lines of the eras that are left, in runs as long as can be
abbrev pub runs_left : EraRuns → List Line
runs_left r = run_lines r.first (joined_eras r.rest.now)
