-- Trusted base.
-- The kinds whose superblock has the flag "needs check".
use Rattle.pd_kinds.specs.declared.kind.Kind.{Kind}
use Rattle.pd_kinds.specs.declared.kind.Flagged.{Flagged}
use Rattle.pd_kinds.specs.declared.kind.Flagged.TheVariants.{Pool, Cache}
use Rattle.pd_kinds.specs.declared.kind.Kind.TheVariants as kinds

abbrev pub kind_of : Flagged → Kind
kind_of Pool = kinds.Thin
kind_of Cache = kinds.Cache
