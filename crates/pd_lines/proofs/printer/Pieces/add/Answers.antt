use Rattle.pd_lines.proofs.Printing.{gathers_more, gathers_none, gathers_front}
use Rattle.pd_lines.proofs.printer.Pieces.add.Goals as goal
use Rattle.pd_lines.proofs.printer.Pieces.add.Goals.{then-free-line+in_ok-put, else-free-line}

pub returns-clause-gathered : goal.returns-clause-gathered
returns-clause-gathered g c = λ total start so_far.
    rw (c.add.ensures.bytes, c.self-2.view_is)
    (gathers_more total c.if-free-line.self c.args.line.now start _
    (elim c.if-free-line.branch [
      | then-free-line+in_ok-put w ↦
          rw (w.self-is, w.in_ok-put.ensures.empty, w.out-is) (gathers_none total start _ (w.in_ok-put.ensures.whole total start so_far))
      | else-free-line w ↦ rw (w.self-is, w.out-is) so_far
    ]))

pub returns-clause-front : goal.returns-clause-front
returns-clause-front g c = λ total start so_far.
    elim c.if-free-line.branch [
      | then-free-line+in_ok-put w ↦ rw w.out-is (w.put.ensures.front total start so_far)
      | else-free-line w ↦ rw w.out-is (gathers_front total _ start _ so_far)
    ]
