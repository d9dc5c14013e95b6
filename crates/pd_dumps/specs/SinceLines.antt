-- The lines of what was written since an era.
use Rattle.std.specs.Prelude.{◌≡◌, ℕ, zero, suc, if◌then◌else◌, List, [], ◌∷◌, ◌++◌, filter, length, Option, Result, codes, decimal}
use Rattle.std.specs.List.{flat_map, range_with_len}
use Rattle.pd_kinds.specs.declared.superblocks.EraSuper.{EraSuper}
use Rattle.pd_kinds.specs.declared.kind.Kind.TheVariants.{Era}
use Rattle.pd_kinds.specs.declared.kind.Stage.TheVariants.{Whole}
use Rattle.pd_kinds.specs.EraFormat.{era_fields}
use Rattle.pd_kinds.specs.Graph.{block_at}
use Rattle.pd_kinds.specs.Meaning.{EraMeaning, era_meaning}
use Rattle.pd_kinds.specs.Stages.{faults}
use Rattle.pd_answers.specs.QueryLines.{begins_run, is_since, run_line}
use Rattle.pd_query.specs.declared.query.QueryFault.{QueryFault}
use Rattle.pd_query.specs.Query.{Puts}

-- of blocks with these eras, the lines of the longest runs written in an era or later that begin with one of some blocks
abbrev pub since_of : ℕ → List ℕ → List ℕ → List ℕ
since_of since eras blocks = flat_map (run_line since eras) (filter (begins_run since eras) blocks)

-- those that begin below a block, and all
abbrev pub since_below : ℕ → List ℕ → ℕ → List ℕ
since_below since eras n = since_of since eras (range_with_len 0 n)

abbrev pub since_text : ℕ → List ℕ → List ℕ
since_text since eras = since_below since eras (length eras)

-- what an era counts as: 1 where it is the given one or later
abbrev pub side : ℕ → ℕ → ℕ
side since era = if is_since since era then 1 else 0

-- the line of a run, and what is printed of one by what its eras count as
abbrev pub line_bytes : ℕ → ℕ → List ℕ
line_bytes first number = codes "written " ++ (decimal first ++ (codes " " ++ (decimal number ++ (10 ∷ []))))

abbrev pub since_line : ℕ → ℕ → ℕ → List ℕ
since_line first number zero = []
since_line first number (suc value) = line_bytes first number

-- Lines were put, or a front of them where the work failed. Where the device tells an image without faults up to the
-- stage Whole, and this is its superblock, they are those of the era target that the image means
abbrev pub PutsLines : (EraMeaning → List ℕ) → EraSuper → Result (Unit {0}) QueryFault → Option (List (List ℕ)) → Option (List ℕ) → Option (List ℕ) → Type 0
PutsLines lines s result held before after =
    Puts held (λ image text. s ≡ era_fields (block_at image 0) → faults Era Whole image ≡ [] → text ≡ lines (era_meaning image)) result before after
