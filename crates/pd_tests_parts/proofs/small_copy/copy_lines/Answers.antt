use Rattle.pd_tests_parts.proofs.small_copy.copy_lines.Goals as goal

pub returns-in-Err-clause-copied : goal.returns-in-Err-clause-copied
returns-in-Err-clause-copied g c = λ t start copying. c.in-Err.ensures.copied t start (c.loop.invariant.1.1 t start copying)
