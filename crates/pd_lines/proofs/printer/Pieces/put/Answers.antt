use Rattle.pd_lines.proofs.Printing.{put_front}
use Rattle.pd_lines.proofs.printer.Pieces.put.Goals as goal

pub returns-in_err-put-clause-front : goal.returns-in_err-put-clause-front
returns-in_err-put-clause-front g c = λ total start so_far.
    put_front total _ start _ _ (rw (← c.self.view_is) at so_far) (rw c.as_bytes.ensures.bytes at c.put.ensures.front)

pub returns-clause-front : goal.returns-clause-front
returns-clause-front g c = λ total start so_far.
    put_front total _ start _ _ (rw (← c.self.view_is) at so_far) (rw c.as_bytes.ensures.bytes at c.put.ensures.front)
