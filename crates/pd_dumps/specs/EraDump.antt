-- A dump of an era target that wasn't put yet.
use Rattle.std.specs.Prelude.{ℕ, List}
use Rattle.pd_meaning_era.specs.Parts.{eras_left}
use Rattle.pd_dumps.specs.declared.era.EraDump.{EraDump}
use Rattle.pd_dumps.specs.EraLines.{era_dump_text}

-- its text
abbrev pub text_left : List (List ℕ) → EraDump → List ℕ
text_left image dump = era_dump_text dump.s (eras_left image dump.eras)
