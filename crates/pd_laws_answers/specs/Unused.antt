-- Trusted base.
-- What a list of unused data blocks says.
use Rattle.std.specs.Prelude.{ℕ, ◌+◌, ◌<◌, ◌≤◌, List, [], ◌∷◌, ◌++◌, IfSome, codes, decimal}
use Rattle.std.specs.List.{AllByRecursion, flat_map}
use Rattle.pd_kinds.specs.declared.kind.Kind.TheVariants.{Thin}
use Rattle.pd_kinds.specs.Objects.{Appends}
use Rattle.pd_kinds.specs.Stages.{IsClean}
use Rattle.pd_answers.specs.Terms.{Objects}
use Rattle.pd_laws_changed.specs.Unused.{IsMappedByNone}

-- a run of data blocks, and its line
pub record Run : Type 0 where
  pub first : ℕ
  pub number : ℕ

abbrev pub run_line : Run → List ℕ
run_line run = codes "unused " ++ (decimal run.first ++ (codes " " ++ (decimal run.number ++ (10 ∷ []))))

-- none of the blocks of a run is mapped
abbrev pub IsRunUnmapped : List (List ℕ) → Run → Type 0
IsRunUnmapped image run = (d : ℕ) → run.first ≤ d → d < run.first + run.number → IsMappedByNone image d

-- the image is clean, and the lines of runs were put of which no block is mapped
pub record ListsUnmapped (image : List (List ℕ)) (before after : Objects) : Type 0 where
  pub clean : IsClean Thin image
  pub runs : List Run
  pub unmapped : AllByRecursion (IsRunUnmapped image) runs
  pub put : Appends (flat_map run_line runs) before.out.written after.out.written

abbrev pub ListsUnmappedOfInput : Objects → Objects → Type 0
ListsUnmappedOfInput before after = IfSome before.input.held (λ image. ListsUnmapped image before after)
