-- What a search finds, and where.
use Rattle.std.specs.Prelude.{◌≡◌, ℕ, List, None}
use Rattle.pd_laid.specs.FoundRoots.{AreBest, IsFound, lost_graph}
use Rattle.pd_answers.specs.DamagedStates.{damaged_states}
use Rattle.pd_answers.specs.Searches.{are_some}
use Rattle.pd_scan.specs.Pairs.{AreInside, roots_of}
use Rattle.pd_tools.specs.declared.search.Found.{Found}
use Rattle.pd_tools.specs.declared.search.Found.TheVariants.{Best, NoRoots}

-- it found the best roots, or that there are none, and whether there are damaged states
abbrev pub IsFoundHere : List (List ℕ) → ℕ → Found → Type 0
IsFoundHere image data_blocks (Best roots) = AreBest (lost_graph image data_blocks) image (roots_of roots)
IsFoundHere image data_blocks (NoRoots are_damaged) =
    IsFound (lost_graph image data_blocks) image None × (are_damaged ≡ are_some (damaged_states (lost_graph image data_blocks) image))

-- the roots are among so many blocks
abbrev pub AreInsideHere : ℕ → Found → Type 0
AreInsideHere nr (Best roots) = AreInside nr roots
AreInsideHere nr (NoRoots are_damaged) = Unit {0}
