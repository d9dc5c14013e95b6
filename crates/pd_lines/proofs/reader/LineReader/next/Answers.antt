use Rattle.pd_lines.proofs.reader.LineReader.next.Goals as goal

pub returns-else-branch-clause-reads : goal.returns-else-branch-clause-reads
returns-else-branch-clause-reads g c = λ left e. rw c.if-branch.false at (c.in_ok-advance.ensures.reads left e)
