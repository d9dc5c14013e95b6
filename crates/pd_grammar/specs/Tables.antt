-- Trusted base.
-- A kind of text as a table: for each kind of line its keyword, its fields and where it may stand.
use Rattle.std.specs.Prelude.{ℕ, zero, suc, ◌==◌, ◌&&◌, Bool, false, nat_lt, if◌then◌else◌, List, [], ◌∷◌, length, map, replicate, Option, Some, None, Result, Ok, Err, codes, decimal}
use Rattle.std.specs.List.{slice_get, join_with_byte}
use Rattle.std.specs.Option.{option_map}
use Rattle.std.specs.Str.{bytes_eq}
use Rattle.hex.specs.Hex.{encode_lower}
use Rattle.uuid.specs.Text.{hyphenated_text, lower}
use Rattle.pd_grammar.specs.declared.cause.TextCause.{TextCause}
use Rattle.pd_grammar.specs.declared.cause.TextCause.TheVariants.{Word, Number}
use Rattle.pd_grammar.specs.declared.value.Field.{Field}
use Rattle.pd_grammar.specs.declared.value.Value.{Value}
use Rattle.pd_grammar.specs.Texts.{uuid_of, policy_of, number_of, result_map, TextFormat, Test}
use Rattle.pd_grammar.specs.declared.value.Field.TheVariants as f
use Rattle.pd_grammar.specs.declared.value.Value.TheVariants as v

-- the field that a value stands in
abbrev pub field_of : Value → Field
field_of (v.Uuid bytes) = f.Uuid
field_of (v.Policy bytes) = f.Policy
field_of (v.Number n) = f.Number

-- the word of a value
abbrev pub word_of : Value → List ℕ
word_of (v.Uuid bytes) = hyphenated_text lower bytes
word_of (v.Policy bytes) = encode_lower bytes
word_of (v.Number n) = decimal n

-- the value that a word is in a field
abbrev pub value_of : Field → List ℕ → Option Value
value_of f.Uuid word = option_map (λ bytes. v.Uuid bytes) (uuid_of word)
value_of f.Policy word = option_map (λ bytes. v.Policy bytes) (policy_of word)
value_of f.Number word = option_map (λ n. v.Number n) (number_of word)

-- a value before others. Where there is none, Number is the cause only if what follows isn't refused, and only of a number
abbrev pub with_value : Option Value → Field → Result (List Value) TextCause → Result (List Value) TextCause
with_value (Some value) field rest = result_map (λ values. value ∷ values) rest
with_value None f.Uuid rest = Err Word
with_value None f.Policy rest = Err Word
with_value None f.Number (Ok values) = Err Number
with_value None f.Number (Err cause) = Err cause

-- the values that words are in fields, a word for each field; else Word, or Number where only numbers are wrong
unfoldable pub values_in : List Field → List (List ℕ) → Result (List Value) TextCause
values_in [] [] = Ok []
values_in [] (word ∷ words) = Err Word
values_in (field ∷ fields) [] = Err Word
values_in (field ∷ fields) (word ∷ words) = with_value (value_of field word) field (values_in fields words)

-- so many fields of numbers
abbrev pub numbers : ℕ → List Field
numbers zero = []
numbers (suc n) = f.Number ∷ numbers n

-- the identifier, and the number, in a place of values, from 0; zeros where there is none
abbrev pub bytes_in : Option Value → List ℕ
bytes_in None = replicate 16 0
bytes_in (Some (v.Uuid bytes)) = bytes
bytes_in (Some (v.Policy bytes)) = bytes
bytes_in (Some (v.Number n)) = replicate 16 0

abbrev pub bytes_at : List Value → ℕ → List ℕ
bytes_at values i = bytes_in (slice_get values i)

abbrev pub number_in : Option Value → ℕ
number_in None = 0
number_in (Some (v.Uuid bytes)) = 0
number_in (Some (v.Policy bytes)) = 0
number_in (Some (v.Number n)) = n

abbrev pub number_at : List Value → ℕ → ℕ
number_at values i = number_in (slice_get values i)

-- where a line may stand: on line 2, on a later line, or there where a test of the lines before holds
pub data LinePlace (L : Type 0) : Type 0 where
  second_line : LinePlace L
  later_line : LinePlace L
  later_line_where : (List L → Bool) → LinePlace L

-- whether it may stand after these lines, the newest first
abbrev pub may_stand : {L : Type 0} → LinePlace L → List L → Bool
may_stand second_line before = length before == 1
may_stand later_line before = nat_lt 1 (length before)
may_stand (later_line_where test) before = nat_lt 1 (length before) && test before

-- a kind of line after the first one
pub record LineKind (L : Type 0) : Type 0 where
  pub keyword : List ℕ
  pub fields : List Field
  pub place : LinePlace L
  -- the line of its values
  pub make : List Value → L

-- a kind of text
pub record Table (L : Type 0) : Type 0 where
  -- the lines that may be the first one, and the words of such a line
  pub firsts : List L
  pub first_words : L → List (List ℕ)
  pub kinds : List (LineKind L)
  -- the kind of a later line, and its values
  pub kind_of : L → Option (LineKind L)
  pub values : L → List Value
  -- what is looked at of a line whose words are right
  pub tests : List (Test L)

-- the words of a line of a kind, or of the first line
abbrev pub words_of : {L : Type 0} → List (List ℕ) → Option (LineKind L) → List Value → List (List ℕ)
words_of first None values = first
words_of first (Some kind) values = kind.keyword ∷ map word_of values

abbrev pub words_by : {L : Type 0} → Table L → L → List (List ℕ)
words_by table line = words_of (table.first_words line) (table.kind_of line) (table.values line)

-- the kind of line with a keyword
unfoldable pub kind_named : {L : Type 0} → List (LineKind L) → List ℕ → Option (LineKind L)
kind_named [] keyword = None
kind_named (kind ∷ kinds) keyword = if bytes_eq keyword kind.keyword then Some kind else kind_named kinds keyword

-- the line of the words after a keyword
abbrev pub line_in : {L : Type 0} → List L → Option (LineKind L) → List (List ℕ) → Result L TextCause
line_in before None words = Err Word
line_in before (Some kind) words =
    if may_stand kind.place before then result_map kind.make (values_in kind.fields words) else Err Word

-- the line of some words in a place, but for what is looked at last
unfoldable pub parsed_by : {L : Type 0} → Table L → List L → List (List ℕ) → Result L TextCause
parsed_by table before [] = Err Word
parsed_by table before (keyword ∷ words) = line_in before (kind_named table.kinds keyword) words

-- the one of some first lines that these bytes are
abbrev pub first_among : {L : Type 0} → (L → List (List ℕ)) → List L → List ℕ → Option L
first_among words [] bytes = None
first_among words (line ∷ lines) bytes =
    if bytes_eq bytes (join_with_byte 32 (words line)) then Some line else first_among words lines bytes

abbrev pub first_by : {L : Type 0} → Table L → List ℕ → Option L
first_by table bytes = first_among table.first_words table.firsts bytes

-- whether a kind of line is the last one, which is `end` in each text
abbrev pub is_last : {L : Type 0} → Option (LineKind L) → Bool
is_last None = false
is_last (Some kind) = bytes_eq kind.keyword (codes "end")

abbrev pub is_end_by : {L : Type 0} → Table L → L → Bool
is_end_by table line = is_last (table.kind_of line)

-- texts of this kind
abbrev pub format_of : {L : Type 0} → Table L → TextFormat L
format_of table = record {
  first = first_by table;
  parsed = parsed_by table;
  tests = table.tests;
  words = words_by table;
  is_end = is_end_by table;
}
