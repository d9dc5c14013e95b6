use Rattle.std.proofs.Common.{◌≡◌, ◌∷◌, ◌∙◌, [], ap, arith}
use Rattle.pd_grammar.specs.Texts.{text_of_lines}
use Rattle.pd_grammar.specs.ThinText.{pool_format}
use Rattle.pd_texts.specs.ThinLine.{line_of}
use Rattle.pd_texts.specs.Reader.{in_order}
use Rattle.pd_texts.specs.ThinState.{first_of}
use Rattle.pd_tests_parts.specs.Copied.{first_printed}
use Rattle.pd_tests_parts.proofs.CopyLemmas.{first_is, refused_by}
use Rattle.pd_tests_parts.proofs.small_copy.copy_first.Goals as goal

pub unreachable-requires : goal.unreachable-requires
unreachable-requires g c =
    let ended = rw c.in-Ok-None.field-0-is at (c.in-Ok-None.ensures.lines [] c.requires.reads) in
    let is = c.read_pool_lines_are_in_range.ensures.end (first_of c.next.new.self.state ∷ []) ended.0 in
    absurd (omega (arith, is.later))

pub returns-in-Ok-add_line-clause-copied : goal.returns-in-Ok-add_line-clause-copied
returns-in-Ok-add_line-clause-copied g c = λ t start leaves gathers.
    let state = c.next.new.self.state in
    let line = line_of c.in-Ok-Some.line in
    let before = first_of state ∷ [] in
    let reads = rw c.in-Ok-Some.field-0-is at (c.in-Ok-Some.ensures.lines [] c.requires.reads) in
    let total = text_of_lines pool_format (in_order before []) in
    let printed : c.bytes_of_version.result.now ≡ total =
    c.bytes_of_version.ensures.bytes ∙ ap first_printed (c.version.ensures (line ∷ before) reads) ∙ first_is c.in-Ok-Some.line state.is_shared in
    record {
      line = line;
      before = before;
      reads = reads;
      leaves = rw c.in-Ok-Some.field-0-is at (c.in-Ok-Some.ensures.text t [] c.requires.reads leaves);
      gathered = rw (c.thin_lines_are_printed_in_order.ensures.more before line)
          (c.in-Ok-add_line.ensures.gathered total start ((rw printed at c.in-Ok.ensures.gathered) [] start gathers));
    }

pub returns-in-Err-clause-copied : goal.returns-in-Err-clause-copied
returns-in-Err-clause-copied g c = λ t start leaves gathers. refused_by t _ [] c.in-Err.fault (c.in-Err.ensures.text t [] c.requires.reads leaves)
