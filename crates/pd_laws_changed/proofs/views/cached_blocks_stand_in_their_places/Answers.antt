use Rattle.std.proofs.Common.{◌≡◌, true, List, [], ◌∷◌, map, filter, refl, ap}
use Rattle.pd_kinds.specs.Meaning.{CacheEntry, cache_meaning}
use Rattle.pd_kinds.specs.declared.kind.Stage.TheVariants.{Whole}
use Rattle.pd_kinds.proofs.ListLemmas.{all_from}
use Rattle.pd_answers.specs.Writebacks.{blocks_each, cached_block, copied, hot_blocks, is_hot, overlaid, view}
use Rattle.pd_laws_changed.specs.Premises.{IsOver}
use Rattle.pd_laws_changed.proofs.SoundCache.{single, valid_super}
use Rattle.pd_laws_changed.proofs.ViewLemmas.{over_each}
use Rattle.pd_laws_changed.proofs.views.cached_blocks_stand_in_their_places.Goals as goal

pub returns-clause-copied : goal.returns-clause-copied
unfolding copied hot_blocks
returns-clause-copied c = λ image origin fast none.
    let m = cache_meaning image in
    over_each (blocks_each m.block_size) fast (is_hot m) m.entries origin (single image none (c.superblocks_lead_to_reached_roots.ensures.cache Whole image tt none))

-- all pass where each does
all_pass : (es : List CacheEntry) → filter (λ e. true) es ≡ es
all_pass [] = refl
all_pass (e ∷ es) = ap (λ (fs : List CacheEntry). e ∷ fs) (all_pass es)

pub returns-clause-view : goal.returns-clause-view
unfolding view
returns-clause-view c = λ image origin fast none.
    let m = cache_meaning image in
    let k = blocks_each m.block_size in
    let each = over_each k fast (λ e. true) m.entries origin (single image none (c.superblocks_lead_to_reached_roots.ensures.cache Whole image tt none)) in
    rw (valid_super image none)
    (all_from (λ (e : CacheEntry). true ≡ true → IsOver k origin fast (overlaid k (map cached_block m.entries) origin fast) e) (IsOver k origin fast (overlaid k (map cached_block m.entries) origin fast))
    (λ e over. over refl) m.entries (rw (all_pass m.entries) at each))
