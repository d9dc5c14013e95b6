use Rattle.pd_texts_kinds.proofs.CacheLemmas.{decimal-zero, decimal-one}
use Rattle.pd_texts_kinds.proofs.cache_lines.add_flag.Goals as goal

pub returns-then-flag-clause-bytes : goal.returns-then-flag-clause-bytes
returns-then-flag-clause-bytes c = rw (c.if-flag.true, decimal-one) c.add.ensures.bytes

pub returns-else-flag-clause-bytes : goal.returns-else-flag-clause-bytes
returns-else-flag-clause-bytes c = rw (c.if-flag.false, decimal-zero) c.add-else-flag.ensures.bytes
