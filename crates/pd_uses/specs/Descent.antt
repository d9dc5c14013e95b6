-- The way from the roots of a pool's devices to the leaves with mappings to the blocks of a region.
use Rattle.std.specs.Prelude.{◌≡◌, ℕ, ◌-◌, ◌<◌, List, ◌++◌, filter}
use Rattle.pd_meaning_thin.specs.declared.devices.DeviceRow.{DeviceRow}
use Rattle.pd_uses.specs.declared.descent.Opened.{Opened}
use Rattle.pd_uses.specs.declared.descent.Opened.TheVariants.{Done, Inner}
use Rattle.pd_uses.specs.declared.found.Found.{Found}
use Rattle.pd_uses.specs.declared.hits.Region.{Region}
use Rattle.pd_uses.specs.FoundUses.{Finds, IsRight, found_uses}
use Rattle.pd_uses.specs.Hits.{hits_below, hits_each}
use Rattle.pd_uses.specs.Uses.{is_within, rows_uses}

-- what came of a block: all below it was found, or nothing, and it is below its children
abbrev pub IsOpened : Region → List (List ℕ) → ℕ → ℕ → ℕ → Opened → Found → Found → Type 0
IsOpened region image id edges b (Done some) old new = Finds region image id (hits_below region image edges b) some old new
IsOpened region image id edges b (Inner below) old new = (new ≡ old) × (hits_below region image edges b ≡ hits_each region image (edges - 1) below.items)

-- only where an edge may lead on are there children
abbrev pub IsDeeper : ℕ → Opened → Type 0
IsDeeper edges (Done some) = Unit {0}
IsDeeper edges (Inner below) = 0 < edges

-- the uses by some devices of the region's blocks were found more, and all is right
pub record FindsRows (region : Region) (image : List (List ℕ)) (rows : List DeviceRow) (old new : Found) : Type 0 where
  pub right : IsRight region image new
  pub uses : found_uses new ≡ found_uses old ++ filter (is_within region.first region.end) (rows_uses image rows)
