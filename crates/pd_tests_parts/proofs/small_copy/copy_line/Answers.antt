use Rattle.std.proofs.Common.{◌∷◌, []}
use Rattle.pd_grammar.specs.Texts.{text_of_lines}
use Rattle.pd_grammar.specs.ThinText.{pool_format}
use Rattle.pd_texts.specs.ThinLine.{line_of}
use Rattle.pd_texts.specs.Reader.{in_order}
use Rattle.pd_texts.specs.ThinState.{first_of}
use Rattle.pd_tests_parts.proofs.CopyLemmas.{refused_by}
use Rattle.pd_tests_parts.proofs.small_copy.copy_line.Goals as goal

pub returns-in-Ok-clause-copied : goal.returns-in-Ok-clause-copied
returns-in-Ok-clause-copied g c = λ t start copying.
    let before = copying.line ∷ copying.before in
    let line = line_of c.in-Ok-Some.line in
    let total = text_of_lines pool_format (in_order before []) in
    record {
      line = line;
      before = before;
      reads = rw c.in-Ok-Some.field-0-is at (c.in-Ok-Some.ensures.lines before copying.reads);
      leaves = rw c.in-Ok-Some.field-0-is at (c.in-Ok-Some.ensures.text t before copying.reads copying.leaves);
      gathered = rw (c.thin_lines_are_printed_in_order.ensures.more before line) (c.in-Ok.ensures.gathered total start copying.gathered);
    }

pub returns-in-Ok-None-clause-copied : goal.returns-in-Ok-None-clause-copied
returns-in-Ok-None-clause-copied g c = λ t start copying.
    let before = copying.line ∷ copying.before in
    let gives = rw c.in-Ok-None.field-0-is at (c.in-Ok-None.ensures.text t before copying.reads copying.leaves) in
    record { lines = before; is = gives.0; gathered = copying.gathered }

pub returns-in-Err-clause-copied : goal.returns-in-Err-clause-copied
returns-in-Err-clause-copied g c = λ t start copying.
    let before = copying.line ∷ copying.before in
    refused_by t (first_of c.next.new.self.state) before c.in-Err.fault (c.in-Err.ensures.text t before copying.reads copying.leaves)
