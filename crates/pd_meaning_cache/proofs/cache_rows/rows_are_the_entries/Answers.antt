use Rattle.pd_kinds.specs.declared.kind.Kind.TheVariants.{Cache}
use Rattle.pd_kinds.specs.declared.kind.Stage.TheVariants.{Whole}
use Rattle.pd_kinds.specs.Graph.{block_at}
use Rattle.pd_kinds.specs.CacheFormat.{cache_graph}
use Rattle.pd_meaning_cache.proofs.SoundCache.{blocks_fit, gives_cache}
use Rattle.pd_meaning_cache.proofs.cache_rows.rows_are_the_entries.Goals as goal

pub returns : goal.returns
returns c = λ image bytes none.
    let trees = c.formats_have_trees.ensures.cache (block_at image 0) in
    let roots = c.superblocks_lead_to_reached_roots.ensures.cache Whole image tt none in
    gives_cache image none roots
    (λ b role size reached is_role. c.array_cursors_give_words.ensures (cache_graph (block_at image 0)) image b role size is_role (c.reached_trees_are_sound.ensures.without_faults Cache Whole image b role tt none reached))
    trees (blocks_fit image bytes)
