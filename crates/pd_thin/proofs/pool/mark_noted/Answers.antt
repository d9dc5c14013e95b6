use Rattle.pd_kinds.specs.Bitmap.{bitmaps_for}
use Rattle.pd_check.proofs.SharedLemmas.{keeps_both}
use Rattle.pd_thin.specs.Pool.{index_test}
use Rattle.pd_check.proofs.KnownLemmas.{known_stays}
use Rattle.pd_thin.proofs.WholeTests.{noted_tests}
use Rattle.pd_thin.proofs.pool.mark_noted.Goals as goal

pub returns-clause-charges : goal.returns-clause-charges
returns-clause-charges c = λ graph image pool reached.
    let kept = c.mark_index.ensures.rules in
    let first = c.mark_shared.ensures.bitmaps graph image (known_stays graph image c.args.audit.now c.mark_index.new.audit kept pool.known) in
    let kept_too = keeps_both c.args.audit.now c.mark_index.new.audit c.mark_shared.new.audit kept first.kept in
    noted_tests graph image (index_test graph image c.args.root (bitmaps_for c.args.data_blocks)) 6 9 c.args.audit.now c.mark_index.new.audit c.mark_shared.new.audit c.mark_shared-2.new.audit
    (c.mark_index.ensures.charges graph image pool reached) first
    (c.mark_shared-2.ensures.bitmaps graph image (known_stays graph image c.args.audit.now c.mark_shared.new.audit kept_too pool.known))
