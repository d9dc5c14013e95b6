-- What is noted of a pool's metadata blocks, and the uses by the visits of devices to leaves.
use Rattle.std.specs.Prelude.{◌≡◌, ◌≢◌, ℕ, ◌<◌, ◌≤◌, Bool, true, false, List, [], ◌∷◌, ◌++◌, map, length, slice_index_or}
use Rattle.std.specs.List.{AllByRecursion, flat_map}
use Rattle.pd_uses.specs.declared.hits.DataUse.{DataUse}
use Rattle.pd_uses.specs.declared.hits.Hit.{Hit}
use Rattle.pd_uses.specs.declared.hits.Region.{Region}
use Rattle.pd_uses.specs.declared.found.Found.{Found}
use Rattle.pd_uses.specs.declared.found.HitNote.{HitNote}
use Rattle.pd_uses.specs.declared.found.HitNote.TheVariants.{Unknown, Bare, Hits}
use Rattle.pd_uses.specs.declared.found.Visit.{Visit}
use Rattle.pd_uses.specs.Hits.{hits_below, use_of}

-- the note of a block, and the mappings of a leaf by its number
abbrev pub note_at : List HitNote → ℕ → HitNote
note_at notes b = slice_index_or notes b Unknown

abbrev pub leaf_at : List (List Hit) → ℕ → List Hit
leaf_at leaves n = slice_index_or leaves n []

-- the uses by a device that has a leaf, and by all of them
abbrev pub visit_uses : List (List Hit) → Visit → List DataUse
visit_uses leaves visit = map (use_of visit.id) (leaf_at leaves visit.leaf)

unfoldable pub visits_uses : List (List Hit) → List Visit → List DataUse
visits_uses leaves visits = flat_map (visit_uses leaves) visits

abbrev pub found_uses : Found → List DataUse
found_uses found = visits_uses found.leaves.items found.visits.items

-- a note is right: no mapping below the block leads to the region, or it is a leaf, and these are its mappings that do
abbrev pub IsNote : Region → List (List ℕ) → List (List Hit) → ℕ → HitNote → Type 0
IsNote region image leaves b Unknown = Unit {0}
IsNote region image leaves b (Bare levels) = (j : ℕ) → j ≤ levels → hits_below region image j b ≡ []
IsNote region image leaves b (Hits n) = (n < length leaves) × ((j : ℕ) → hits_below region image j b ≡ leaf_at leaves n)

-- all notes are, and each leaf that is visited is there
pub record IsRight (region : Region) (image : List (List ℕ)) (found : Found) : Type 0 where
  pub notes : (b : ℕ) → IsNote region image found.leaves.items b (note_at found.notes.items b)
  pub visits : AllByRecursion (λ (visit : Visit). visit.leaf < length found.leaves.items) found.visits.items

-- a block has a note, if it is one of those that have, and nothing else changed
pub record HasNote (b : ℕ) (one : HitNote) (old new : Found) : Type 0 where
  pub leaves : new.leaves.items ≡ old.leaves.items
  pub visits : new.visits.items ≡ old.visits.items
  pub others : (c : ℕ) → c ≢ b → note_at new.notes.items c ≡ note_at old.notes.items c
  pub put : b < length old.notes.items → note_at new.notes.items b ≡ one
  pub past : length old.notes.items ≤ b → note_at new.notes.items b ≡ Unknown

-- nothing was found below a block, as far as so many edges go, which its note says, or something
pub record Closes (b edges : ℕ) (some : Bool) (old new : Found) : Type 0 where
  pub none : some ≡ false → HasNote b (Bare edges) old new
  pub other : some ≡ true → new ≡ old

-- a visit more, or a leaf more, which has the next number
pub record HasVisit (id leaf : ℕ) (old new : Found) : Type 0 where
  pub notes : new.notes.items ≡ old.notes.items
  pub leaves : new.leaves.items ≡ old.leaves.items
  pub visits : new.visits.items ≡ old.visits.items ++ (record { id = id; leaf = leaf } ∷ [])

pub record HasLeaf (leaf : ℕ) (hits : List Hit) (old new : Found) : Type 0 where
  pub number : leaf ≡ length old.leaves.items
  pub notes : new.notes.items ≡ old.notes.items
  pub leaves : new.leaves.items ≡ old.leaves.items ++ (hits ∷ [])
  pub visits : new.visits.items ≡ old.visits.items

-- these uses by a device were found more, and all is right; nothing was found only where there are none
pub record Finds (region : Region) (image : List (List ℕ)) (id : ℕ) (hits : List Hit) (some : Bool) (old new : Found) : Type 0 where
  pub right : IsRight region image new
  pub uses : found_uses new ≡ found_uses old ++ map (use_of id) hits
  pub none : some ≡ false → hits ≡ []
