use Rattle.pd_kinds.specs.Meaning.{cache_meaning}
use Rattle.pd_kinds.specs.declared.kind.Stage.TheVariants.{Whole}
use Rattle.pd_answers.specs.Writebacks.{blocks_each, copied, hot_blocks, is_hot, view}
use Rattle.pd_laws_changed.proofs.SoundCache.{single, valid_super}
use Rattle.pd_laws_changed.proofs.ViewLemmas.{copying_same, overlaid_keeps}
use Rattle.pd_laws_changed.proofs.views.copying_keeps_the_view.Goals as goal

pub returns-clause-same : goal.returns-clause-same
unfolding view hot_blocks
returns-clause-same c = λ image origin left fast none room keeps.
    let m = cache_meaning image in
    rw (valid_super image none)
    (copying_same (blocks_each m.block_size) fast (is_hot m) m.entries origin left (single image none (c.superblocks_lead_to_reached_roots.ensures.cache Whole image tt none)) room keeps)

pub returns-clause-copied : goal.returns-clause-copied
unfolding copied
returns-clause-copied c = λ image origin fast.
    overlaid_keeps (blocks_each (cache_meaning image).block_size) fast (hot_blocks (cache_meaning image)) origin
