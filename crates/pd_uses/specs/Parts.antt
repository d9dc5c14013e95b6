-- What leaves have of a part of the region.
use Rattle.std.specs.Prelude.{◌≡◌, ℕ, List, [], filter, length, slice_index_or}
use Rattle.pd_uses.specs.declared.hits.Hit.{Hit}
use Rattle.pd_uses.specs.declared.hits.Region.{Region}
use Rattle.pd_uses.specs.declared.hits.LeafPart.{LeafPart}
use Rattle.pd_uses.specs.declared.hits.LeafPart.TheVariants.{Nothing, Whole, Cut}
use Rattle.pd_uses.specs.FoundUses.{leaf_at}
use Rattle.pd_uses.specs.Hits.{is_hit}

-- those of a leaf's mappings that it has of the part
abbrev pub part_hits : List Hit → LeafPart → List Hit
part_hits hits Nothing = []
part_hits hits Whole = hits
part_hits hits (Cut some) = some.items

-- those of the leaf of a number
abbrev pub hits_at : List (List Hit) → List LeafPart → ℕ → List Hit
hits_at leaves parts n = part_hits (leaf_at leaves n) (slice_index_or parts n Nothing)

-- for each leaf, they are its mappings that lead to the part's blocks
pub record AreParts (part : Region) (leaves : List (List Hit)) (parts : List LeafPart) : Type 0 where
  pub number : length parts ≡ length leaves
  pub each : (n : ℕ) → hits_at leaves parts n ≡ filter (is_hit part) (leaf_at leaves n)
