-- The eras that are left, part by part.
use Rattle.std.specs.Prelude.{◌≡◌, ℕ, ◌+◌, ◌*◌, ◌-◌, ◌<◌, Bool, true, false, List, [], ◌++◌, length, map, slice_index}
use Rattle.std.specs.List.{range_with_len}
use Rattle.pd_meaning_era.specs.declared.eras.Eras.{Eras}
use Rattle.pd_meaning_era.specs.EraWords.{era_words}
use Rattle.pd_meaning_era.specs.Notes.{with_rows}

-- the number of the blocks that are left, and their eras
unfoldable pub blocks_left : Eras → ℕ
blocks_left eras = eras.blocks - 64 * eras.next

unfoldable pub eras_left : List (List ℕ) → Eras → List ℕ
eras_left image eras =
    map (λ b. with_rows image eras.rows.items b (slice_index (era_words image eras.words) (b - 64 * eras.next))) (range_with_len (64 * eras.next) (blocks_left eras))

-- a part was taken, which what is left begins with, and none where nothing was left
pub record IsPart (image : List (List ℕ)) (old new : Eras) : Type 0 where
  pub part : eras_left image old ≡ new.part.items ++ eras_left image new

pub record NoneLeft (image : List (List ℕ)) (old : Eras) : Type 0 where
  pub none : eras_left image old ≡ []

abbrev pub TakesPart : List (List ℕ) → Bool → Eras → Eras → Type 0
TakesPart image true old new = IsPart image old new
TakesPart image false old new = NoneLeft image old

-- so many blocks were
pub record CountsSome (old new : Eras) : Type 0 where
  pub some : 0 < length new.part.items
  pub number : length new.part.items + blocks_left new ≡ blocks_left old

pub record CountsNone (old : Eras) : Type 0 where
  pub none : blocks_left old ≡ 0

abbrev pub CountsPart : Bool → Eras → Eras → Type 0
CountsPart true old new = CountsSome old new
CountsPart false old new = CountsNone old
