-- Trusted base.
-- What a laid image is.
-- What a laid image of a cache is.
-- What a laid image of an era target is.
use Rattle.std.specs.Prelude.{◌≡◌, ℕ, true, List}
use Rattle.pd_kinds.specs.declared.kind.Kind.TheVariants.{Thin, Cache, Era}
use Rattle.pd_kinds.specs.Graph.{block_at}
use Rattle.pd_kinds.specs.Meaning.{ThinPool, thin_meaning, CacheMeaning, cache_meaning, EraMeaning, era_meaning}
use Rattle.pd_kinds.specs.Stages.{IsClean}
use Rattle.pd_kinds.specs.Super.{is_valid_super}

-- the image is clean, its superblock is valid, and it means the pool
pub record IsCleanPool (image : List (List ℕ)) (m : ThinPool) : Type 0 where
  pub clean : IsClean Thin image
  pub means : thin_meaning image ≡ m
  pub valid : is_valid_super (block_at image 0) ≡ true

-- the image is clean, its superblock is valid, and it means the cache
pub record IsCleanCache (image : List (List ℕ)) (m : CacheMeaning) : Type 0 where
  pub clean : IsClean Cache image
  pub means : cache_meaning image ≡ m
  pub valid : is_valid_super (block_at image 0) ≡ true

-- the image is clean, its superblock is valid, and it means the target
pub record IsCleanEra (image : List (List ℕ)) (m : EraMeaning) : Type 0 where
  pub clean : IsClean Era image
  pub means : era_meaning image ≡ m
  pub valid : is_valid_super (block_at image 0) ≡ true
