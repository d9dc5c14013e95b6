use Rattle.std.proofs.Common.{set, Some, ◌≡◌, List, ℕ}
use Rattle.std.proofs.lemmas.Result.{on_ok_weaker}
use Rattle.pd_kinds.specs.Field.{zeros}
use Rattle.pd_image.proofs.CrashLemmas.{at_some}
use Rattle.pd_writeback.specs.Copied.{marked_image}
use Rattle.pd_writeback.proofs.MarkedLemmas.{done_marking, whole_marking}
use Rattle.pd_writeback.proofs.marking.mark_places.Goals as goal

pub returns-clause-done : goal.returns-clause-done
returns-clause-done g c =
    let state = g.A.Device.state in
    on_ok_weaker c.mark_closed.result
    (λ done. done_marking c.args.version c.args.places.now c.args.super_block.now.0 (state c.args.meta.now).held (state c.clear.new.dev).held (state c.mark_closed.new.meta) c.in_ok-clear.ensures.content done)
    c.mark_closed.ensures.done

pub returns-clause-crash : goal.returns-clause-crash
unfolding marked_image
returns-clause-crash g c image synced =
    let state = g.A.Device.state in
    let old = state c.args.meta.now in
    let mid = state c.clear.new.dev in
    let held : mid.held ≡ Some (set image 0 zeros) = at_some old.held (λ (i : List (List ℕ)). mid.held ≡ Some (set i 0 zeros)) image synced.held c.in_ok-clear.ensures.content in
    whole_marking image (marked_image c.args.version c.args.places.now c.args.super_block.now.0 image) (c.clear.ensures.crash image synced) (c.mark_closed.ensures.crash (set image 0 zeros) held)
