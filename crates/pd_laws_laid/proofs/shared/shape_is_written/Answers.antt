use Rattle.pd_laws_laid.proofs.WrittenParts.{parts_written, places_are, tops_are}
use Rattle.pd_laws_laid.proofs.shared.shape_is_written.Goals as goal

pub returns-clause-parts : goal.returns-clause-parts
returns-clause-parts c = parts_written

pub returns-clause-places : goal.returns-clause-places
returns-clause-places c = places_are

pub returns-clause-roots : goal.returns-clause-roots
returns-clause-roots c = tops_are
