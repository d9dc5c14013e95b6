-- When a call that reads the metadata alone fails.
use Rattle.std.specs.Prelude.{◌≡◌, ℕ, ◌≤◌, Result, Ok, Err}
use Rattle.pd_kinds.specs.Objects.{Rose}
use Rattle.pd_shrink.specs.declared.making.ShrinkFault.{ShrinkFault}
use Rattle.pd_shrink.specs.declared.making.ShrinkFault.TheVariants.{Memory, Meta, Output, BlockSize, NoRoom}

-- memory was wanting, or the device's count of faults rose
abbrev pub IsOfMeta : ShrinkFault → ℕ → ℕ → Type 0
IsOfMeta Memory old new = new ≡ old
IsOfMeta Meta old new = Rose old new × (old ≤ new)
IsOfMeta Output old new = ⊥
IsOfMeta BlockSize old new = ⊥
IsOfMeta (NoRoom need blocks) old new = ⊥

abbrev pub CountsMeta : {T : Type 0} → Result T ShrinkFault → ℕ → ℕ → Type 0
CountsMeta (Ok done) old new = new ≡ old
CountsMeta (Err fault) old new = IsOfMeta fault old new

-- the making of a plan fails by the metadata, or since it has an answer that is none
abbrev pub IsOfPlanning : ShrinkFault → ℕ → ℕ → Type 0
IsOfPlanning Memory old new = new ≡ old
IsOfPlanning Meta old new = Rose old new × (old ≤ new)
IsOfPlanning Output old new = ⊥
IsOfPlanning BlockSize old new = new ≡ old
IsOfPlanning (NoRoom need blocks) old new = new ≡ old

abbrev pub CountsPlanning : {T : Type 0} → Result T ShrinkFault → ℕ → ℕ → Type 0
CountsPlanning (Ok done) old new = new ≡ old
CountsPlanning (Err fault) old new = IsOfPlanning fault old new

-- the writing of the new metadata fails by its device, or for want of memory
abbrev pub IsOfWriting : ShrinkFault → ℕ → ℕ → Type 0
IsOfWriting Memory old new = new ≡ old
IsOfWriting Meta old new = ⊥
IsOfWriting Output old new = Rose old new × (old ≤ new)
IsOfWriting BlockSize old new = ⊥
IsOfWriting (NoRoom need blocks) old new = ⊥

abbrev pub CountsWriting : {T : Type 0} → Result T ShrinkFault → ℕ → ℕ → Type 0
CountsWriting (Ok done) old new = new ≡ old
CountsWriting (Err fault) old new = IsOfWriting fault old new
