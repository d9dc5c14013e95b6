-- The mappings to the data blocks of a region, as the leaves of a pool's trees have them, and as runs have them.
use Rattle.std.specs.Prelude.{ℕ, ◌+◌, ◌-◌, ◌^◌, min, Bool, ◌&&◌, not, nat_lt, List, map, filter}
use Rattle.std.specs.List.{flat_map, range_with_len}
use Rattle.pd_value.specs.declared.thin.BlockTime.{BlockTime}
use Rattle.pd_tree.specs.Below.{items_below, items_from}
use Rattle.pd_meaning_thin.specs.Runs.{block_time_of}
use Rattle.pd_uses.specs.declared.hits.DataUse.{DataUse}
use Rattle.pd_uses.specs.declared.hit_runs.HitRun.{HitRun}
use Rattle.pd_uses.specs.declared.hits.Hit.{Hit}
use Rattle.pd_uses.specs.declared.hits.Region.{Region}

-- an entry of a leaf as a mapping to a data block
abbrev pub hit_of : ℕ × BlockTime → Hit
hit_of item = record { block = item.1.block; virt = item.0 }

-- the use that it is where a device has the leaf
abbrev pub use_of : ℕ → Hit → DataUse
use_of id hit = record { block = hit.block; id = id; virt = hit.virt }

-- whether a block is in a region, and whether a mapping leads there
abbrev pub has_block : Region → ℕ → Bool
has_block region block = not (nat_lt block region.first) && nat_lt block region.end

abbrev pub is_hit : Region → Hit → Bool
is_hit region hit = has_block region hit.block

-- the mappings of a leaf that lead there
unfoldable pub hits_in : Region → List ℕ → List Hit
hits_in region block = filter (is_hit region) (map hit_of (items_from 8 block_time_of block 0))

-- those of the leaves that at most j inner edges lead to from a block, and from each of some blocks
unfoldable pub hits_below : Region → List (List ℕ) → ℕ → ℕ → List Hit
hits_below region image j b = filter (is_hit region) (map hit_of (items_below 8 block_time_of image j b))

unfoldable pub hits_each : Region → List (List ℕ) → ℕ → List ℕ → List Hit
hits_each region image j bs = flat_map (hits_below region image j) bs

-- the mapping in a place of a run, where a block stays at the end of its type, and all of them
abbrev pub run_hit : HitRun → ℕ → Hit
run_hit run place = record { block = min (run.block + place) (2 ^ 64 - 1); virt = min (run.virt + place) (2 ^ 64 - 1) }

abbrev pub run_hits : HitRun → List Hit
run_hits run = map (run_hit run) (range_with_len 0 run.number)

unfoldable pub runs_hits : List HitRun → List Hit
runs_hits runs = flat_map run_hits runs
