-- A pool as it is held, without the leaves that its devices share or with them.
use Rattle.std.specs.Prelude.{◌≡◌, ℕ, Bool, true, false, List, []}
use Rattle.pd_kinds.specs.Meaning.{ThinPool}
use Rattle.pd_grammar.specs.Lawful.{IsLawfulPool}
use Rattle.pd_laid.specs.PoolText.{IsLawfulShape}
use Rattle.pd_answers.specs.Outputs.{Making}
use Rattle.pd_answers.specs.Shrinks.{Move, moved_saved, saved_pool}
use Rattle.pd_answers.specs.Repairs.{Saved, saved_making}
use Rattle.pd_meaning_thin.specs.declared.joined.Run.{Run}
use Rattle.pd_restoring.specs.Made.{Content}
use Rattle.pd_salvage.specs.declared.saved.SavedHead.{SavedHead}
use Rattle.pd_salvage.specs.Saved.{IsSavedPool}
use Rattle.pd_salvage.specs.SavedShape.{IsSavedShape, held_shape}
use Rattle.pd_salvage.specs.Saved as held
use Rattle.pd_shrink.specs.declared.kept.Kept.{Kept}
use Rattle.pd_shrink.specs.declared.kept.Kept.TheVariants.{Pool, Shape}

-- whether it has shared leaves, and the pool or the shape that is held
abbrev pub shared_of : Kept → Bool
shared_of (Pool saved) = false
shared_of (Shape saved) = true

abbrev pub saved_in : (kept : Kept) → Saved (shared_of kept)
saved_in (Pool saved) = held.pool_of saved
saved_in (Shape saved) = held_shape saved

-- what it means
abbrev pub kept_pool : Kept → ThinPool
kept_pool kept = saved_pool (shared_of kept) (saved_in kept)

-- this pool, or this shape, is held
abbrev pub IsKept : (is_shared : Bool) → Saved is_shared → Kept → Type 0
IsKept false pool (Pool saved) = held.pool_of saved ≡ pool
IsKept false pool (Shape saved) = ⊥
IsKept true shape (Pool saved) = ⊥
IsKept true shape (Shape saved) = held_shape saved ≡ shape

-- what is held is lawful, and its runs are as long as can be
abbrev pub IsSoundKept : Kept → Type 0
IsSoundKept (Pool saved) = IsSavedPool saved
IsSoundKept (Shape saved) = IsSavedShape saved

-- the words of its superblock, the runs of its shared leaves, and those of its devices' own
abbrev pub head_in : Kept → SavedHead
head_in (Pool saved) = saved.head
head_in (Shape saved) = saved.head

abbrev pub leaf_runs_in : Kept → List Run
leaf_runs_in (Pool saved) = []
leaf_runs_in (Shape saved) = saved.leaf_runs

abbrev pub own_runs_in : Kept → List Run
own_runs_in (Pool saved) = saved.runs
own_runs_in (Shape saved) = saved.runs

-- it with so many data blocks, which names the blocks that were moved
abbrev pub moved_in : (kept : Kept) → ℕ → List Move → Saved (shared_of kept)
moved_in kept end moves = moved_saved (shared_of kept) (saved_in kept) end moves

-- how it is written
abbrev pub kept_making : Kept → Making
kept_making kept = saved_making (shared_of kept) (saved_in kept)

abbrev pub IsLawfulSaved : (is_shared : Bool) → Saved is_shared → Type 0
IsLawfulSaved false = IsLawfulPool
IsLawfulSaved true = IsLawfulShape

abbrev pub saved_content : (is_shared : Bool) → Saved is_shared → Content
saved_content is_shared saved = record {
  Lawful = IsLawfulSaved is_shared saved;
  need = (saved_making is_shared saved).need;
  laid = (saved_making is_shared saved).laid;
}

abbrev pub kept_content : Kept → Content
kept_content kept = saved_content (shared_of kept) (saved_in kept)
