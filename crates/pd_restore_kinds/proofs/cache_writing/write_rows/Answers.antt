use Rattle.std.proofs.Common.{◌∙◌, ap}
use Rattle.pd_kinds.specs.CacheFormat.{CacheFields, cache_super_block}
use Rattle.pd_laid.specs.LaidCache.{laid_cache}
use Rattle.pd_salvage_cache.specs.SavedCache.{cache_meaning}
use Rattle.pd_restore_kinds.proofs.WriteLemmas.{fields_are, no_dirty_root}
use Rattle.pd_restore_kinds.proofs.cache_writing.write_rows.Goals as goal

pub write_cache_super-requires : goal.write_cache_super-requires
write_cache_super-requires g c = record {
  dirty_root = λ other.
      ap (λ (f : CacheFields). f.dirty_root) c.super_of.ensures
      ∙ no_dirty_root (cache_meaning c.args.cache.now c.args.rows.now) c.args.version c.args.room c.in_ok-parts.parts c.in_ok-parts.ensures.parts
      (λ two. other (ap (λ (f : CacheFields). f.version) c.super_of.ensures ∙ two));
}

pub returns-clause-super_is : goal.returns-clause-super_is
unfolding laid_cache
returns-clause-super_is g c =
    c.write_cache_super.ensures.block
    ∙ ap cache_super_block (c.super_of.ensures ∙ fields_are c.args.cache.now c.args.rows.now c.in_ok-parts.parts c.args.version c.args.room c.in_ok-parts.ensures.parts)
