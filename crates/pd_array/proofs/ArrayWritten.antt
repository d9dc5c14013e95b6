-- What stands in the block that is written for an array's words.
use Rattle.std.proofs.Common.{◌≡◌, inl, ℕ, suc, ◌+◌, ◌*◌, ◌%◌, ◌^◌, ◌<◌, ◌≤◌, true, false, List, length, get_or, refl, ◌∙◌, arith, eq-eqb}
use Rattle.std.proofs.Math.Nat.{mul-le-mul_left, mul-suc}
use Rattle.std.proofs.lemmas.Bool.Decides.{nat_tests}
use Rattle.pd_kinds.specs.declared.rule.Rule.{Rule}
use Rattle.pd_kinds.specs.Field.{le, written, zeros, has_checksum}
use Rattle.pd_kinds.specs.Rule.{alone, failing}
use Rattle.pd_kinds.specs.Node.{puts}
use Rattle.pd_kinds.specs.Array.{array_bad, array_block, array_entries, array_max, array_place, array_rows, array_tests, array_value_size, is_array_shape_bad, max_words, word_at, word_count}
use Rattle.pd_kinds.proofs.WrittenLemmas.{is_looked_up, looked_up, length-written_zeros, row_read, le-sealed_other}
use Rattle.pd_kinds.proofs.FieldLemmas.{le-puts, le-puts_other}
use Rattle.pd_kinds.proofs.KindLemmas.{counted_below}
use Rattle.pd_array.specs.declared.array.Word.{Word}
use Rattle.pd_array.specs.declared.array.Word.TheVariants.{Four, Eight}
use Rattle.pd_array.specs.Word.{size_of}

-- a number of the header reads back
header_read : (size place : ℕ) (words : List ℕ) (p n v : ℕ) → 4 ≤ p → p + n ≤ 24
    → is_looked_up 4096 p n (array_rows size place (length words)) ≡ true
    → looked_up p n (array_rows size place (length words)) 0 ≡ v % 256 ^ n → v < 256 ^ n
    → le (array_block size place words) p n ≡ v
unfolding array_block
header_read size place words p n v behind before found row fits =
    let rows = array_rows size place (length words) in
    le-sealed_other (puts (written zeros rows) 24 size words) 595846735 p n behind
    ∙ (le-puts_other (written zeros rows) 24 size words p n (inl before) ∙ row_read rows p n v found row fits)

pub max_read : (size place : ℕ) (words : List ℕ) → max_words size < 256 ^ 4 → array_max (array_block size place words) ≡ max_words size
max_read size place words fits = header_read size place words 4 4 (max_words size) (omega arith) (omega arith) refl refl fits

pub entries_read : (size place : ℕ) (words : List ℕ) → length words < 256 ^ 4 → array_entries (array_block size place words) ≡ length words
entries_read size place words fits = header_read size place words 8 4 (length words) (omega arith) (omega arith) refl refl fits

pub size_read : (size place : ℕ) (words : List ℕ) → size < 256 ^ 4 → array_value_size (array_block size place words) ≡ size
size_read size place words fits = header_read size place words 12 4 size (omega arith) (omega arith) refl refl fits

pub place_read : (size place : ℕ) (words : List ℕ) → place < 256 ^ 8 → array_place (array_block size place words) ≡ place
place_read size place words fits = header_read size place words 16 8 place (omega arith) (omega arith) refl refl fits

-- a word reads back
pub word_read : (size place : ℕ) (words : List ℕ) (i : ℕ) → 24 + size * length words ≤ 4096 → i < length words → get_or words i 0 < 256 ^ size
    → word_at size (array_block size place words) i ≡ get_or words i 0
unfolding array_block
word_read size place words i room within small =
    let rows = array_rows size place (length words) in
    let whole = length-written_zeros rows in
    le-sealed_other (puts (written zeros rows) 24 size words) 595846735 (24 + size * i) size (omega arith)
    ∙ le-puts (written zeros rows) 24 size words i (omega arith) within small

-- the shape of a header with these numbers
pub shape_met : (size : ℕ) (b : List ℕ) → array_value_size b ≡ size → array_max b ≡ max_words size → array_entries b ≤ max_words size
    → is_array_shape_bad size b ≡ false
unfolding is_array_shape_bad
shape_met size b value_size max entries = grind (arith, nat_tests)

-- such a block has as many words as its header says
pub count_met : (size : ℕ) (b : List ℕ) → is_array_shape_bad size b ≡ false → word_count size b ≡ array_entries b
unfolding word_count
count_met size b shape = rw shape refl

-- with the checksum, the shape and the place no rule is broken
pub rules_met : (size place : ℕ) (b : List ℕ) (asked : Rule) → has_checksum b 595846735 ≡ true → is_array_shape_bad size b ≡ false → array_place b ≡ place
    → array_bad size place b asked ≡ false
unfolding array_bad alone failing array_tests
rules_met size place b asked valid shape at = rw (valid, shape, eq-eqb (array_place b) place at) refl

-- a word of a block lies within it
pub word_room : (size i n max : ℕ) → i < n → n ≤ max → size * max ≤ 4072 → 24 + size * i + size ≤ 4096
word_room size i n max within most room =
    let last : size * suc i ≤ size * max = mul-le-mul_left size (omega arith) in
    let next : size * suc i ≡ size * i + size = mul-suc size i in
    omega arith

-- each size of a word leaves room in the block
pub word_within : (word : Word) (b : List ℕ) (i : ℕ) → i < word_count (size_of word) b → 24 + size_of word * i + size_of word ≤ 4096
word_within Four b i within =
    let below = counted_below 4 b i within in
    word_room 4 i (array_max b) 1018 below.1 (omega (arith, below.0)) (omega arith)
word_within Eight b i within =
    let below = counted_below 8 b i within in
    word_room 8 i (array_max b) 509 below.1 (omega (arith, below.0)) (omega arith)

-- how much fits a block and its header
pub record HasRoom (size : ℕ) : Type 0 where
  pub small : size ≤ 8
  pub max : max_words size ≤ 1018
  pub words : (n : ℕ) → n ≤ max_words size → 24 + size * n ≤ 4096

pub has_room : (word : Word) → HasRoom (size_of word)
has_room Four = record { small = omega arith; max = omega arith; words = λ n few. omega arith }
has_room Eight = record { small = omega arith; max = omega arith; words = λ n few. omega arith }
