use Rattle.std.proofs.Common.{ℕ, ◌≤◌, subst, arith}
use Rattle.pd_texts.specs.declared.reader.ReadFault.TheVariants.{Text}
use Rattle.pd_restore.specs.Shared.{HasShared}
use Rattle.pd_restore.proofs.ReadingLemmas.{line_says}
use Rattle.pd_restore.proofs.SharedLemmas.{before_says, behind_says, few_lines_before}
use Rattle.pd_restore.proofs.shared.SharedLinesGathering.refused.Goals as goal

pub returns-then-fault-saturating_add-clause-says : goal.returns-then-fault-saturating_add-clause-says
returns-then-fault-saturating_add-clause-says c before text start now h first t refuses =
    before_says c.args.room before text c.args.self.now start now h first t c.args.fault refuses
    (omega (arith, c.if-fault-saturating_add.true, c.saturating_add.ensures, h.so_far.gathered.lines))

pub returns-then-needed-room-clause-says : goal.returns-then-needed-room-clause-says
returns-then-needed-room-clause-says c before text start now h first t refuses =
    let is = c.need_at_end-needed.ensures before start now h.so_far.gathered h.reads.going h.so_far.need h.so_far.most in
    line_says HasShared (Text c.args.fault) first c.args.room t before text c.args.self.now start now h
    (subst (λ (n : ℕ). n ≤ c.args.room) is c.if-needed-room.true) refuses

pub returns-else-needed-room-clause-says : goal.returns-else-needed-room-clause-says
returns-else-needed-room-clause-says c before text start now h first t refuses =
    let is = c.need_at_end-needed.ensures before start now h.so_far.gathered h.reads.going h.so_far.need h.so_far.most in
    behind_says c.args.room before text c.args.self.now start now h first t c.args.fault refuses c.need_at_end-needed.result
    (omega (arith, c.if-fault-saturating_add.false, c.saturating_add.ensures, h.so_far.gathered.lines, few_lines_before c.args.room before text c.args.self.now start now h))
    (omega (arith, c.if-needed-room.false)) is
