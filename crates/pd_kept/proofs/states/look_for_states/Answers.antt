use Rattle.std.proofs.Common.{◌≡◌, List, length, min, ap, sym, subst, ◌∙◌}
use Rattle.pd_kinds.specs.declared.limits.TheConstants.{MAX_META_BLOCKS}
use Rattle.pd_laid.specs.FoundRoots.{lost_graph}
use Rattle.pd_tree.proofs.NextLemmas.{if_both}
use Rattle.pd_answers.specs.DamagedStates.{damaged_states}
use Rattle.pd_answers.specs.FoundStates.{states}
use Rattle.pd_answers.specs.KeptLines.{IsTold}
use Rattle.pd_damaged.specs.Listed.{HasKeptDevices}
use Rattle.pd_scan.specs.Pairs.{HasDevices}
use Rattle.pd_kept.specs.Kept.{told_of}
use Rattle.pd_kept.specs.States.{AreListed}
use Rattle.pd_kept.proofs.StatesLemmas.{no_text, text_told}
use Rattle.pd_kept.proofs.states.look_for_states.Goals as goal

pub returns-clause-told : goal.returns-clause-told
returns-clause-told g c =
    let held = (g.D.Device.state c.args.dev.now).held in
    let sound = c.in_ok-sound.sound in
    let damaged = c.in_ok-damaged.damaged in
    let kept = c.in_ok-kept.kept in
    let reads = c.in_ok-sound.ensures.kept in
    let others = c.in_ok-damaged.ensures.kept in
    if_both held
    (λ image held_is (both : AreListed (HasDevices (lost_graph image c.args.data_blocks) image) (states (lost_graph image c.args.data_blocks) image) sound
    × AreListed (HasKeptDevices (lost_graph image c.args.data_blocks) image) (damaged_states (lost_graph image c.args.data_blocks) image) damaged)
    (told : (length image ≡ (g.D.Device.state c.args.dev.now).blocks) × IsTold c.lost_super-s.result image (told_of kept)).
    text_told image (record { transaction = c.args.transaction; block_size = c.args.block_size; blocks = c.args.data_blocks }) c.in-Some.roots
    (states (lost_graph image c.args.data_blocks) image) (damaged_states (lost_graph image c.args.data_blocks) image) c.usable_blocks-nr.result
    (record { sound = sound; damaged = damaged; kept = kept })
    (c.usable_blocks-nr.ensures ∙ ap (λ n. min n MAX_META_BLOCKS) (others.blocks ∙ (reads.blocks ∙ sym told.0)))
    both.0 both.1 (sym c.best_roots.ensures ∙ c.in-Some.is)
    (subst (λ fields. IsTold fields image (told_of kept)) c.lost_super-s.ensures told.1))
    (if_both held (λ image held_is are have. (are, have)) c.in_ok-sound.ensures.found (rw reads.held at c.in_ok-damaged.ensures.found))
    (if_both held (λ image held_is number told. (number, told)) (g.met.D.Device.measured c.args.dev.now)
    (rw reads.held at (rw others.held at c.in_ok-kept.ensures.told)))
