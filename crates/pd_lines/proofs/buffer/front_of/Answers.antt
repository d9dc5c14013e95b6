use Rattle.std.proofs.Common.{ap, get_or, ◌∙◌, arith}
use Rattle.pd_lines.proofs.ReaderLemmas.{line_is, other_is}
use Rattle.pd_lines.proofs.buffer.front_of.Goals.{else-len-le160-via-then-len-le160+then-len-bytes+else-bytes-len-eq10, else-len-le160-via-then-len-le160+else-len-bytes, else-len-le160-via-else-len-le160}
use Rattle.pd_lines.proofs.buffer.front_of.Goals as goal

pub returns-then-bytes-len-eq10 : goal.returns-then-bytes-len-eq10
returns-then-bytes-len-eq10 c = line_is c.args.bytes.now c.printable_len-len.result c.printable_len-len.ensures c.if-len-le160.true c.if-len-bytes.true c.if-bytes-len-eq10.true

pub returns-in-Some : goal.returns-in-Some
returns-in-Some c =
    let bytes = c.args.bytes.now in
    let ends = c.in-Some.ensures.found in (
      c.in-Some.field-0,
      (
        ends,
        other_is bytes c.printable_len-len.result c.in-Some.field-0 c.printable_len-len.ensures ends (λ same. elim c.else-len-le160.branch [
          | else-len-le160-via-then-len-le160+then-len-bytes+else-bytes-len-eq10 w ↦ w.if-bytes-len-eq10.false (ap (λ k. get_or bytes k 0) same ∙ ends.feed)
          | else-len-le160-via-then-len-le160+else-len-bytes w ↦ omega (arith, ends.within, w.if-len-bytes.false)
          | else-len-le160-via-else-len-le160 w ↦ omega (arith, ends.short, w.if-len-le160.false)
        ]),
      ),
    )
