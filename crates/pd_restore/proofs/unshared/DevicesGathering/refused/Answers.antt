use Rattle.std.proofs.Common.{subst, sym, ℕ, ◌≤◌}
use Rattle.pd_texts.specs.declared.reader.ReadFault.TheVariants.{Text}
use Rattle.pd_restore.specs.Reading.{HasUnshared}
use Rattle.pd_restore.proofs.ReadingLemmas.{line_says}
use Rattle.pd_restore.proofs.UnsharedLines.{end_need}
use Rattle.pd_restore.proofs.unshared.DevicesGathering.refused.Goals as goal

pub returns-clause-says : goal.returns-clause-says
returns-clause-says c before text start now h first t refuses =
    line_says HasUnshared (Text c.args.fault) first c.args.room t before text c.args.self.now start now h
    (subst (λ (n : ℕ). n ≤ c.args.room) (sym (end_need c.args.room before h.so_far.gathered.version)) h.so_far.need) refuses
