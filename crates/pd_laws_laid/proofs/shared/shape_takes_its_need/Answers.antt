use Rattle.pd_laws_laid.proofs.DataCounts.{counts_are, overflows_are}
use Rattle.pd_laws_laid.proofs.ShapeNeed.{laid_need, map_place}
use Rattle.pd_laws_laid.proofs.shared.shape_takes_its_need.Goals as goal

pub returns-clause-number : goal.returns-clause-number
returns-clause-number c = laid_need

pub returns-clause-place : goal.returns-clause-place
returns-clause-place c = map_place

pub returns-clause-counts : goal.returns-clause-counts
returns-clause-counts c = counts_are

pub returns-clause-overflows : goal.returns-clause-overflows
returns-clause-overflows c = overflows_are
