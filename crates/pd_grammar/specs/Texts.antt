-- Trusted base.
-- Texts of lines of words: the lines of a text, and where it is refused.
-- Lines, words, numbers and identifiers, as they stand in a text.
use Rattle.std.specs.Prelude.{ℕ, ◌^◌, ◌==◌, ◌&&◌, ◌||◌, Bool, not, nat_lt, nat_le, if◌then◌else◌, List, [], ◌∷◌, length, slice_index, Option, Some, None, Result, Ok, Err, ◌+◌, ◌-◌, false, min, ◌++◌}
use Rattle.std.specs.Option.{option_and_then}
use Rattle.std.specs.Result.{result_ok}
use Rattle.std.specs.Str.{bytes_eq, all_ascii_digits}
use Rattle.std.specs.Str.Parse.{digits_value}
use Rattle.hex.specs.Hex.{decode_sized, encode_lower}
use Rattle.uuid.specs.Text.{parsed, hyphenated_text, lower}
use Rattle.std.specs.List.{list_all, flat_map, join_with_byte}
use Rattle.pd_grammar.specs.declared.cause.TextCause.{TextCause}
use Rattle.pd_grammar.specs.declared.cause.TextCause.TheVariants.{Header, Word, TooLong, NoEnd, AfterEnd}

-- a byte before the first of some pieces
abbrev pub with_first : ℕ → List (List ℕ) → List (List ℕ)
with_first b [] = (b ∷ []) ∷ []
with_first b (piece ∷ pieces) = (b ∷ piece) ∷ pieces

-- the pieces between the places of a byte. Lines are the pieces at 10, words those at 32
abbrev pub split : ℕ → List ℕ → List (List ℕ)
split at [] = [] ∷ []
split at (b ∷ bytes) = if b == at then [] ∷ split at bytes else with_first b (split at bytes)

-- the bytes that a line may have
abbrev pub is_printable : ℕ → Bool
is_printable b = nat_le 32 b && nat_le b 126

-- a word of digits without leading zeros
unfoldable pub is_canonical : List ℕ → Bool
is_canonical word = all_ascii_digits word && (nat_lt 0 (length word) && (not (slice_index word 0 == 48) || (length word == 1)))

-- the number below 2 ^ 64 that a word is
unfoldable pub number_of : List ℕ → Option ℕ
number_of word = if is_canonical word && nat_lt (digits_value 10 word) (2 ^ 64) then Some (digits_value 10 word) else None

-- the sixteen bytes that a word is read as, where it is this form of them
unfoldable pub bytes_of : (List ℕ → Option (List ℕ)) → (List ℕ → List ℕ) → List ℕ → Option (List ℕ)
bytes_of read form word = option_and_then (λ bytes. if bytes_eq word (form bytes) then Some bytes else None) (read word)

-- the uuid that a word is: 36 characters, hyphenated, in lower case
abbrev pub uuid_of : List ℕ → Option (List ℕ)
uuid_of word = bytes_of parsed (hyphenated_text lower) word

-- the sixteen bytes that the hexadecimal digits of a word are, in either case
abbrev pub sixteen_of : List ℕ → Option (List ℕ)
sixteen_of word = result_ok (decode_sized word 16)

-- the policy name that a word is: 32 hexadecimal digits in lower case
abbrev pub policy_of : List ℕ → Option (List ℕ)
policy_of word = bytes_of sixteen_of encode_lower word

-- a value, or a cause where there is none
abbrev pub or_cause : {X : Type 0} → Option X → TextCause → Result X TextCause
or_cause (Some x) cause = Ok x
or_cause None cause = Err cause

-- a result as a function looks at it, where it is one
abbrev pub result_and_then : {X Y E : Type 0} → (X → Result Y E) → Result X E → Result Y E
result_and_then f (Ok x) = f x
result_and_then f (Err e) = Err e

-- a function of a result, where it is one
abbrev pub result_map : {X Y E : Type 0} → (X → Y) → Result X E → Result Y E
result_map f (Ok x) = Ok (f x)
result_map f (Err e) = Err e

-- a test of a line whose words are right, given the lines before it, the newest first: the cause, and whether the
-- line fails
pub record Test (L : Type 0) : Type 0 where
  pub cause : TextCause
  pub fails : List L → L → Bool

-- a format of texts, whose lines mean values of the type `L`
pub record TextFormat (L : Type 0) : Type 0 where
  -- the first line of these bytes
  pub first : List ℕ → Option L
  -- the value of the words of a later line after these lines, the newest first: Word or Number where they
  -- aren't those of a line that may stand there
  pub parsed : List L → List (List ℕ) → Result L TextCause
  -- what is looked at then, in this order
  pub tests : List (Test L)
  -- the words of a line
  pub words : L → List (List ℕ)
  -- whether it is the last line
  pub is_end : L → Bool

-- the bytes of a line, without its line feed
abbrev pub written : {L : Type 0} → TextFormat L → L → List ℕ
written format line = join_with_byte 32 (format.words line)

-- a line, or the cause of the first test that it fails
unfoldable pub tested : {L : Type 0} → List (Test L) → List L → L → Result L TextCause
tested [] before line = Ok line
tested (test ∷ tests) before line = if test.fails before line then Err test.cause else tested tests before line

-- the value of a line after these lines, or why it is refused; of a line of at most 160 bytes that is ended
unfoldable pub read : {L : Type 0} → TextFormat L → List L → List ℕ → Result L TextCause
read format before bytes =
    if length before == 0 then or_cause (format.first bytes) Header
    else if list_all is_printable bytes then result_and_then (tested format.tests before) (format.parsed before (split 32 bytes))
    else Err Word

-- where a text is refused, and why
pub record Refusal : Type 0 where
  pub line : ℕ
  pub cause : TextCause

-- the lines of a text up to the one that is refused, and its refusal
pub record Reading (L : Type 0) : Type 0 where
  pub lines : List L
  pub refusal : Option Refusal

-- whether the newest of some lines is the last one of a text
abbrev pub has_ended : {L : Type 0} → TextFormat L → List L → Bool
has_ended format [] = false
has_ended format (line ∷ before) = format.is_end line

-- the number of the line after these ones, up to the end of its type
abbrev pub number_after : {L : Type 0} → List L → ℕ
number_after before = min (length before + 1) (2 ^ 64 - 1)

-- the line after these ones is refused
abbrev pub refused : {L : Type 0} → List L → TextCause → Reading L
refused before cause = record { lines = []; refusal = Some (record { line = number_after before; cause = cause }) }

-- lines that are a whole text
abbrev pub whole : {L : Type 0} → List L → Reading L
whole lines = record { lines = lines; refusal = None }

-- a line before those of a reading
abbrev pub with_line : {L : Type 0} → L → Reading L → Reading L
with_line line reading = record { lines = line ∷ reading.lines; refusal = reading.refusal }

-- a line before what is read after it, or why it is refused
abbrev pub after_line : {L : Type 0} → List L → Result L TextCause → (L → Reading L) → Reading L
after_line before (Ok line) rest = with_line line (rest line)
after_line before (Err cause) rest = refused before cause

-- the lines from the pieces of what is left of a text after these lines, and the first that is refused. The last
-- piece isn't ended by a line feed
unfoldable pub lines_after : {L : Type 0} → TextFormat L → List L → List (List ℕ) → Reading L
lines_after format before [] = whole []
lines_after format before (piece ∷ []) =
    if has_ended format before
    then (if length piece == 0 then whole [] else refused before AfterEnd)
    else (if nat_lt 160 (length piece) then refused before TooLong else refused before NoEnd)
lines_after format before (piece ∷ next ∷ pieces) =
    if has_ended format before then refused before AfterEnd
    else if nat_lt 160 (length piece) then refused before TooLong
    else after_line before (read format before piece) (λ line. lines_after format (line ∷ before) (next ∷ pieces))

-- the lines of a text, and where it is refused
abbrev pub reading : {L : Type 0} → TextFormat L → List ℕ → Reading L
reading format text = lines_after format [] (split 10 text)

-- where a text is refused: the least line, and its first cause
abbrev pub refusal : {L : Type 0} → TextFormat L → List ℕ → Option Refusal
refusal format text = (reading format text).refusal

-- the bytes of lines, each ended by a line feed
abbrev pub text_of_lines : {L : Type 0} → TextFormat L → List L → List ℕ
text_of_lines format lines = flat_map (λ line. written format line ++ (10 ∷ [])) lines

-- the format that looks at one test more, after its others
abbrev pub with_test : {L : Type 0} → Test L → TextFormat L → TextFormat L
with_test test format = record {
  first = format.first;
  parsed = format.parsed;
  tests = format.tests ++ (test ∷ []);
  words = format.words;
  is_end = format.is_end;
}

-- lines after these ones up to the first that a test refuses; line 1 isn't looked at
abbrev pub stopped_lines : {L : Type 0} → Test L → List L → List L → Option Refusal → Reading L
stopped_lines test before [] refusal = record { lines = []; refusal = refusal }
stopped_lines test [] (line ∷ lines) refusal = with_line line (stopped_lines test (line ∷ []) lines refusal)
stopped_lines test (newest ∷ before) (line ∷ lines) refusal =
    if test.fails (newest ∷ before) line then refused (newest ∷ before) test.cause
    else with_line line (stopped_lines test (line ∷ newest ∷ before) lines refusal)

-- a reading after these lines, stopped at the first line that a test refuses
abbrev pub stopped : {L : Type 0} → Test L → List L → Reading L → Reading L
stopped test before reading = stopped_lines test before reading.lines reading.refusal
