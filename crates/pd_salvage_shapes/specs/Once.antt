-- Notes that are met once, and those that stay when these are forgotten.
use Rattle.std.specs.Prelude.{◌≡◌, ℕ, ◌≤◌, ◌==◌, ◌&&◌, Bool, false, List, length, slice_index, count_by}
use Rattle.std.specs.List.{flat_map, list_any, slice_get}
use Rattle.pd_salvage_shapes.specs.declared.note.LeafNote.{LeafNote}
use Rattle.pd_salvage_shapes.specs.declared.visiting.Seen.{Seen}

-- the numbers of all notes that devices met
abbrev pub all_met : List Seen → List ℕ
all_met seen = flat_map (λ (d : Seen). d.met) seen

-- the notes that are said to be met once are not met more often
abbrev pub MeetOnce : List ℕ → List ℕ → Type 0
MeetOnce times met = (k : ℕ) → slice_index times k ≡ 1 → count_by (λ n. n == k) met ≤ 1

-- whether a note is said to be met once, and is among these
unfoldable pub is_spent : List ℕ → List ℕ → ℕ → Bool
is_spent times met k = (slice_index times k == 1) && list_any (λ n. n == k) met

-- there are as many notes, and all others are as they were
pub record KeepsOthers (times met : List ℕ) (old new : List LeafNote) : Type 0 where
  pub number : length new ≡ length old
  pub same : (k : ℕ) → is_spent times met k ≡ false → slice_get new k ≡ slice_get old k
