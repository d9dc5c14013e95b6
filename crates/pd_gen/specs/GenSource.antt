-- What the source of a generator's text means.
use Rattle.std.specs.Prelude.{ℕ, if◌then◌else◌, List, [], ◌∷◌, ◌++◌, drop, Some, None}
use Rattle.pd_kinds.specs.Objects.{SourceState}
use Rattle.pd_grammar.specs.Texts.{text_of_lines}
use Rattle.pd_grammar.specs.ThinText.{end_line, thin}
use Rattle.pd_answers.specs.Rehearsals.{generated_text}
use Rattle.pd_gen.specs.declared.source.GenSource.{GenSource}
use Rattle.pd_gen.specs.Lines.{lines_left}

-- the text that is still to be taken: the rest of the line, and the lines after it
abbrev pub text_left : GenSource → List ℕ
text_left source = drop source.given source.line ++ (if source.ended then [] else text_of_lines thin (lines_left source.lines ++ (end_line ∷ [])))

-- what the source means to code over any source: it never fails
abbrev pub gen_source_state : GenSource → SourceState
gen_source_state source = record { access = if source.attached then 1 else 0; path = None; left = Some (text_left source); faults = 0 }

-- the text of a number, on which nothing was called yet
abbrev pub unattached_generator : ℕ → SourceState
unattached_generator number = record { access = 0; path = None; left = Some (generated_text number); faults = 0 }
