-- The sizes of an array's words.
use Rattle.std.specs.Prelude.{ℕ}
use Rattle.pd_array.specs.declared.array.Word.{Word}
use Rattle.pd_array.specs.declared.array.Word.TheVariants.{Four, Eight}

-- the size in bytes
abbrev pub size_of : Word → ℕ
size_of Four = 4
size_of Eight = 8
