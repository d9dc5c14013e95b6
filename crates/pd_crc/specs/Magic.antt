-- The kind of superblock that a magic number names.
use Rattle.std.specs.Prelude.{ℕ, ◌==◌, if◌then◌else◌, Option, Some, None}
use Rattle.pd_kinds.specs.declared.kind.Kind.{Kind}
use Rattle.pd_kinds.specs.declared.kind.Kind.TheVariants.{Thin, Cache, Era}
use Rattle.pd_kinds.specs.Super.{magic_of}

-- the kind whose magic the number is
abbrev pub kind_with : ℕ → Option Kind
kind_with magic = if magic == magic_of Thin then Some Thin else (if magic == magic_of Cache then Some Cache else (if magic == magic_of Era then Some Era else None))
