use Rattle.std.proofs.Common.{◌≡◌, ◌++◌, ◌∷◌, ◌∙◌, [], ap}
use Rattle.pd_grammar.specs.Texts.{Reading, text_of_lines}
use Rattle.pd_grammar.specs.ThinText.{Line, end_line, pool_format}
use Rattle.pd_texts.specs.ThinLine.{end_text}
use Rattle.pd_texts.specs.Reader.{in_order}
use Rattle.pd_tests_parts.proofs.small_copy.put_end.Goals as goal

pub returns-in-Ok-put : goal.returns-in-Ok-put
returns-in-Ok-put g c = λ t start copied.
    let all = in_order (end_line ∷ copied.lines) [] in
    let total = text_of_lines pool_format (in_order copied.lines []) in
    let bytes : t ≡ total ++ end_text = c.whole_thin_text_spells.ensures.either t all copied.is ∙ c.thin_lines_are_printed_in_order.ensures.more copied.lines end_line in (
      rw bytes (c.in-Ok-put.ensures.whole (total ++ end_text) start ((rw c.bytes_of_end.ensures.bytes at c.in-Ok.ensures.gathered) total start copied.gathered)),
      (c.pool_text_unless_refused.ensures t).0 (ap (λ (r : Reading Line). r.refusal) copied.is),
    )
