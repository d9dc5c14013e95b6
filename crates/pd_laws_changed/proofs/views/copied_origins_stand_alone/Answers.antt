use Rattle.pd_kinds.specs.Meaning.{cache_meaning}
use Rattle.pd_kinds.specs.declared.kind.Stage.TheVariants.{Whole}
use Rattle.pd_answers.specs.Writebacks.{blocks_each, copied, hot_blocks, is_hot, view}
use Rattle.pd_laws_changed.proofs.SoundCache.{single, valid_super}
use Rattle.pd_laws_changed.proofs.ViewLemmas.{alone_same}
use Rattle.pd_laws_changed.proofs.views.copied_origins_stand_alone.Goals as goal

pub returns : goal.returns
unfolding copied view hot_blocks
returns c = λ image origin fast none agree.
    let m = cache_meaning image in
    rw (valid_super image none)
    (alone_same (blocks_each m.block_size) fast (is_hot m) m.entries origin (single image none (c.superblocks_lead_to_reached_roots.ensures.cache Whole image tt none)) agree.each)
