use Rattle.std.proofs.Common.{arith}
use Rattle.pd_restore.proofs.SharedLemmas.{end_exact_with, end_exact_without}
use Rattle.pd_restore.proofs.shared.SharedLines.need_at_end.Goals as goal

pub returns-then-self : goal.returns-then-self
returns-then-self c before start now h going need most =
    end_exact_with c.args.room c.need-needed.result c.saturating_add.result before h going need most (c.need-needed.ensures before start now h.gathered) c.if-self.true (omega (arith, c.saturating_add.ensures))

pub returns-else-self : goal.returns-else-self
returns-else-self c before start now h going need most =
    end_exact_without c.args.room c.need-needed.result before h going need most (c.need-needed.ensures before start now h.gathered) c.if-self.false
