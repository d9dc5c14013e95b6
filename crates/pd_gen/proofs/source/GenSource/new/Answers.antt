use Rattle.std.proofs.Common.{ℕ, List, [], ◌∷◌, ◌++◌, Some, None, ap, ◌∙◌}
use Rattle.pd_kinds.specs.Objects.{SourceState}
use Rattle.pd_grammar.specs.Texts.{text_of_lines}
use Rattle.pd_grammar.specs.ThinText.{end_line, thin}
use Rattle.pd_gen.specs.Lines.{lines_left}
use Rattle.pd_gen.proofs.Spelled.{all_left}
use Rattle.pd_gen.proofs.source.GenSource.new.Goals as goal

pub returns : goal.returns
returns c =
    ap (λ (text : List ℕ). state_of text)
    (ap (λ (line : List ℕ). line ++ text_of_lines thin (lines_left c.new.result ++ (end_line ∷ []))) c.first_text.ensures
    ∙ all_left c.args.number (lines_left c.new.result) c.new.ensures)
  where
    state_of : List ℕ → SourceState
    state_of text = record { access = 0; path = None; left = Some text; faults = 0 }
