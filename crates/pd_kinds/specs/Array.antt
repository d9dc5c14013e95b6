-- Trusted base.
-- A block of an array, as struct array_block of "drivers/md/persistent-data/dm-array.c": a header of
-- 24 bytes, then words of one size.
use Rattle.std.specs.Prelude.{ℕ, ◌+◌, ◌*◌, ◌/◌, Bool, ◌==◌, ◌||◌, not, nat_lt, if◌then◌else◌, List, [], ◌∷◌, length}
use Rattle.pd_kinds.specs.declared.rule.Rule.{Rule}
use Rattle.pd_kinds.specs.Field.{Row, le, written, zeros, has_checksum, sealed}
use Rattle.pd_kinds.specs.Rule.{Test, failing, alone}
use Rattle.pd_kinds.specs.Node.{puts}
use Rattle.pd_kinds.specs.declared.rule.Rule.TheVariants as r

-- the salt of an array block's checksum
abbrev pub array_salt : ℕ
array_salt = 595846735

-- how many words of this size a block has room for
abbrev pub max_words : ℕ → ℕ
max_words size = 4072 / size

-- the fields of the header, which begins with the checksum
abbrev pub array_max : List ℕ → ℕ
array_max block = le block 4 4

abbrev pub array_entries : List ℕ → ℕ
array_entries block = le block 8 4

abbrev pub array_value_size : List ℕ → ℕ
array_value_size block = le block 12 4

abbrev pub array_place : List ℕ → ℕ
array_place block = le block 16 8

-- the words are of this size, the greatest number is what fits, and the entries are at most that
unfoldable pub is_array_shape_bad : ℕ → List ℕ → Bool
is_array_shape_bad size block =
    not (array_value_size block == size)
    || (not (array_max block == max_words size) || nat_lt (array_max block) (array_entries block))

-- the number of words where the shape is right, and 0 elsewhere
unfoldable pub word_count : ℕ → List ℕ → ℕ
word_count size block = if is_array_shape_bad size block then 0 else array_entries block

-- word i, of this size
abbrev pub word_at : ℕ → List ℕ → ℕ → ℕ
word_at size block i = le block (24 + size * i) size

-- the rules of an array block that are looked at each by itself
unfoldable pub array_tests : ℕ → ℕ → List ℕ → List Test
array_tests size place block =
    record { rule = r.Shape; fails = is_array_shape_bad size block }
    ∷ record { rule = r.Place; fails = not (array_place block == place) }
    ∷ []

-- the rules that the array block in this place breaks: a wrong checksum comes alone
unfoldable pub array_bad : ℕ → ℕ → List ℕ → Rule → Bool
array_bad size place block =
    alone r.Checksum (not (has_checksum block array_salt)) (failing (array_tests size place block))

-- the header of an array block, but for the checksum
abbrev pub array_rows : ℕ → ℕ → ℕ → List Row
array_rows size place count =
    record { offset = 4; size = 4; value = max_words size }
    ∷ record { offset = 8; size = 4; value = count }
    ∷ record { offset = 12; size = 4; value = size }
    ∷ record { offset = 16; size = 8; value = place }
    ∷ []

-- the array block of these words in its place: every other byte is 0
unfoldable pub array_block : ℕ → ℕ → List ℕ → List ℕ
array_block size place words =
    sealed (puts (written zeros (array_rows size place (length words))) 24 size words) array_salt
