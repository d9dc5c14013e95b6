-- The order of faults: metadata blocks before data blocks, then by block, then by rule.
use Rattle.std.specs.Prelude.{◌≡◌, ◌⊎◌, ℕ, ◌<◌, List, [], ◌∷◌}
use Rattle.std.specs.List.{AllByRecursion}
use Rattle.pd_kinds.specs.declared.rule.Fault.{Fault}
use Rattle.pd_kinds.specs.declared.rule.Space.{Space}
use Rattle.pd_kinds.specs.declared.rule.Space.TheVariants.{Meta, DataBlock}
use Rattle.pd_kinds.specs.Rule.{number_of}

-- the place of a space in the order
abbrev pub space_number : Space → ℕ
space_number Meta = 0
space_number DataBlock = 1

-- a fault stands before another one
abbrev pub IsBefore : Fault → Fault → Type 0
IsBefore f g =
    (space_number f.space < space_number g.space)
    ⊎ ((f.space ≡ g.space) × ((f.block < g.block) ⊎ ((f.block ≡ g.block) × (number_of f.rule < number_of g.rule))))

-- each fault stands before all later ones, so that none comes twice
abbrev pub AreAscending : List Fault → Type 0
AreAscending [] = Unit {0}
AreAscending (fault ∷ rest) = AllByRecursion (IsBefore fault) rest × AreAscending rest
