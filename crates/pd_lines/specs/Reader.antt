-- What a reader of lines has and gives.
use Rattle.std.specs.Prelude.{◌≡◌, ℕ, ◌+◌, ◌-◌, ◌^◌, ◌≤◌, min, Bool, true, false, List, [], ◌∷◌, ◌++◌, length, take, drop, Option, Some, None, Result, Ok, Err}
use Rattle.std.specs.List.{list_all}
use Rattle.pd_grammar.specs.Texts.{is_printable}
use Rattle.pd_lines.specs.Front.{IsUnbroken, LineText}
use Rattle.pd_lines.specs.declared.reader.LineReader.{LineReader}
use Rattle.pd_lines.specs.declared.reader.LineFault.{LineFault}
use Rattle.pd_lines.specs.declared.reader.LineFault.TheVariants.{Source, TooLong, NotText, Unended}

-- what was taken and not yet read
abbrev pub held_of : LineReader → List ℕ
held_of reader = drop reader.used reader.buffer

-- how many lines were read, up to the end of a `u64`
abbrev pub lines_of : LineReader → ℕ
lines_of reader = reader.lines

-- the bytes of the last line
abbrev pub line_of : LineReader → List ℕ
line_of reader = take (reader.used - 1) reader.buffer

-- the number of the next line, up to the end of a `u64`
abbrev pub next_number : LineReader → ℕ
next_number reader = min (lines_of reader + 1) (2 ^ 64 - 1)

-- the line that a text begins with, and what is left after it
pub record ReadsLine (line : LineText) (number : ℕ) (text held : List ℕ) (left : Option (List ℕ)) : Type 0 where
  pub rest : List ℕ
  pub left_is : left ≡ Some rest
  pub text_is : text ≡ line.bytes ++ (10 ∷ (held ++ rest))
  pub short : length line.bytes ≤ 160
  pub printable : list_all is_printable line.bytes ≡ true
  pub number_is : line.number ≡ number

-- a text begins with an ended line that has a byte which it may not have
pub record IsNotText (text : List ℕ) : Type 0 where
  pub bytes : List ℕ
  pub rest : List ℕ
  pub text_is : text ≡ bytes ++ (10 ∷ rest)
  pub unbroken : IsUnbroken bytes
  pub short : length bytes ≤ 160
  pub other : list_all is_printable bytes ≡ false

-- What is read of a text whose next line has this number: the rest is what is held after it, and then what is
-- left. A failure of the source says nothing of the text
abbrev pub Reads : Result (Option LineText) LineFault → ℕ → List ℕ → List ℕ → Option (List ℕ) → Type 0
Reads (Ok None) number text held left = (text ≡ []) × ((held ≡ []) × (left ≡ Some []))
Reads (Ok (Some line)) number text held left = ReadsLine line number text held left
Reads (Err Source) number text held left = Unit {0}
Reads (Err (TooLong k)) number text held left = (k ≡ number) × ((161 ≤ length text) × IsUnbroken (take 161 text))
Reads (Err (NotText k)) number text held left = (k ≡ number) × IsNotText text
Reads (Err (Unended k)) number text held left = (k ≡ number) × ((1 ≤ length text) × ((length text ≤ 160) × IsUnbroken text))

-- the last line, with this number, where one was read
abbrev pub answered : ℕ → List ℕ → Result Bool LineFault → Result (Option LineText) LineFault
answered number bytes (Ok true) = Ok (Some (record { number = number; bytes = bytes }))
answered number bytes (Ok false) = Ok None
answered number bytes (Err fault) = Err fault
