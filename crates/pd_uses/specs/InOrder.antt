-- Uses that are in the order of their blocks as they stand, and their lines.
use Rattle.std.specs.Prelude.{ℕ, ◌<◌, ◌≤◌, List, [], ◌∷◌}
use Rattle.std.specs.List.{flat_map, range_with_len}
use Rattle.pd_uses.specs.declared.found.Visit.{Visit}
use Rattle.pd_uses.specs.declared.hit_runs.HitRun.{HitRun}
use Rattle.pd_uses.specs.declared.hits.DataUse.{DataUse}
use Rattle.pd_uses.specs.declared.hits.Hit.{Hit}
use Rattle.pd_uses.specs.FoundUses.{visit_uses}
use Rattle.pd_uses.specs.Hits.{run_hit, use_of}
use Rattle.pd_uses.specs.Uses.{use_line, uses_text}

-- no block is below that of the use before it, the first one isn't below this one, and all are below an end
abbrev pub RisesFrom : ℕ → ℕ → List DataUse → Type 0
RisesFrom at end [] = Unit {0}
RisesFrom at end (one ∷ uses) = (at ≤ one.block) × ((one.block < end) × RisesFrom one.block end uses)

-- the block of the last use; without uses it is this one
abbrev pub last_from : ℕ → List DataUse → ℕ
last_from at [] = at
last_from at (one ∷ uses) = last_from one.block uses

-- uses rise so, and the last block isn't past this one
pub record Rises (at end last : ℕ) (uses : List DataUse) : Type 0 where
  pub order : RisesFrom at end uses
  pub most : last_from at uses ≤ last

-- the line of a place of a run that a device has, those of a run, and those of a visit
abbrev pub place_line : ℕ → HitRun → ℕ → List ℕ
place_line id run place = use_line (use_of id (run_hit run place))

abbrev pub run_text : ℕ → HitRun → List ℕ
run_text id run = flat_map (place_line id run) (range_with_len 0 run.number)

abbrev pub visit_text : List (List Hit) → Visit → List ℕ
visit_text leaves visit = uses_text (visit_uses leaves visit)
