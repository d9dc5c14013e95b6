-- What is saved of an array block.
use Rattle.std.specs.Prelude.{ℕ, if◌then◌else◌, List}
use Rattle.pd_kinds.specs.Array.{word_count}
use Rattle.pd_laid.specs.SavedCache.{is_array_damaged}

-- how many words are saved of the array block in a place
abbrev pub sound_count : ℕ → ℕ → List ℕ → ℕ
sound_count size place block = if is_array_damaged size place block then 0 else word_count size block
