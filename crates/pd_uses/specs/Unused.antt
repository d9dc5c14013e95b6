-- The lines of the runs of unused data blocks, as they are printed, one stretch after another.
-- What a query of an image without faults begins with.
use Rattle.std.specs.Prelude.{ℕ, Bool, true, false, ◌==◌, ◌&&◌, ◌||◌, not, ◌≡◌, ◌⊎◌, ◌-◌, ◌<◌, ◌≤◌, if◌then◌else◌, List, [], ◌∷◌, ◌++◌, filter, length, Option, Some, None, unwrap_or, IfSome, codes, decimal}
use Rattle.std.specs.List.{flat_map, range_with_len, take_while}
use Rattle.pd_kinds.specs.declared.kind.Kind.TheVariants.{Thin}
use Rattle.pd_kinds.specs.declared.kind.Stage.TheVariants.{Counts}
use Rattle.pd_kinds.specs.Graph.{block_at}
use Rattle.pd_kinds.specs.Stages.{faults}
use Rattle.pd_kinds.specs.ThinFormat.{thin_fields, thin_graph}
use Rattle.pd_answers.specs.QueryLines.{is_unused}
use Rattle.pd_uses.specs.declared.stored.StoredCounts.{StoredCounts}
use Rattle.pd_uses.specs.Stored.{AreReadUpTo}

-- the line of a run
abbrev pub run_bytes : ℕ → ℕ → List ℕ
run_bytes first number = codes "unused " ++ (decimal first ++ (codes " " ++ (decimal number ++ (10 ∷ []))))

-- whether a longest run of numbers of which something holds begins with this one
abbrev pub begins : (ℕ → Bool) → ℕ → Bool
begins holds b = holds b && ((b == 0) || not (holds (b - 1)))

-- the line of the run below an end that begins with a number
abbrev pub run_line : (ℕ → Bool) → ℕ → ℕ → List ℕ
run_line holds end b = run_bytes b (length (take_while holds (range_with_len b (end - b))))

-- the lines of the runs that begin with one of so many numbers
abbrev pub lines_from : (ℕ → Bool) → ℕ → ℕ → ℕ → List ℕ
lines_from holds end at number = flat_map (run_line holds end) (filter (begins holds) (range_with_len at number))

-- the line of the run that is open, if one is
abbrev pub open_line : (ℕ → Bool) → ℕ → Option ℕ → List ℕ
open_line holds end None = []
open_line holds end (Some first) = run_line holds end first

-- the lines that are left: that of the open run, and those of the runs that begin from here on
abbrev pub lines_left : (ℕ → Bool) → ℕ → Option ℕ → ℕ → List ℕ
lines_left holds end run at = open_line holds end run ++ lines_from holds end at (end - at)

-- which run is open after a stretch from here on, of which it holds or not
abbrev pub open_then : Bool → ℕ → Option ℕ → Option ℕ
open_then true at run = Some (unwrap_or run at)
open_then false at run = None

-- what is printed where the open run ends, and where such a stretch comes
abbrev pub ended_line : ℕ → Option ℕ → List ℕ
ended_line at None = []
ended_line at (Some first) = run_bytes first (at - first)

abbrev pub ended_then : Bool → ℕ → Option ℕ → List ℕ
ended_then true at run = []
ended_then false at run = ended_line at run

-- it holds of each number from the first one of the open run up to here; where none is open, it doesn't hold of the number before
abbrev pub IsOpen : (ℕ → Bool) → ℕ → Option ℕ → Type 0
IsOpen holds at None = (at ≡ 0) ⊎ (holds (at - 1) ≡ false)
IsOpen holds at (Some first) = (first < at) × ((b : ℕ) → first ≤ b → b < at → holds b ≡ true)

-- the same over an image without faults, whose blocks these are
abbrev pub is_unused_in : List (List ℕ) → ℕ → Bool
is_unused_in image b = is_unused (thin_graph (block_at image 0)) image b

abbrev pub image_lines_left : List (List ℕ) → Option ℕ → ℕ → List ℕ
image_lines_left image run at = lines_left (is_unused_in image) (thin_graph (block_at image 0)).data_blocks run at

pub record IsReading (image : List (List ℕ)) (bitmap : List ℕ) (run : Option ℕ) (counts : StoredCounts) : Type 0 where
  pub end : counts.end ≡ (thin_graph (block_at image 0)).data_blocks
  pub left : AreReadUpTo image (thin_fields (block_at image 0)).data_map bitmap counts
  pub opened : IsOpen (is_unused_in image) counts.at run

-- the image that is held, if it is told and has no faults
unfoldable pub without_faults : Option (List (List ℕ)) → Option (List (List ℕ))
without_faults None = None
without_faults (Some image) = if length (faults Thin Counts image) == 0 then Some image else None

-- nothing was read yet, whatever the bitmap
pub record IsStarted (held : Option (List (List ℕ))) (counts : StoredCounts) : Type 0 where
  pub at : counts.at ≡ 0
  pub reading : IfSome (without_faults held) (λ image. (bitmap : List ℕ) → IsReading image bitmap None counts)
