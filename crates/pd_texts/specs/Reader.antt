-- What a reader of a text has read of it, and gives.
-- Why a text isn't read on.
use Rattle.std.specs.Prelude.{◌≡◌, ◌⊎◌, ℕ, ◌-◌, ◌^◌, ◌≤◌, min, false, List, [], ◌∷◌, ◌++◌, length, Option, Some, None, Result, Ok, Err, ◌+◌, MatchResult}
use Rattle.pd_kinds.specs.Objects.{Rose}
use Rattle.pd_grammar.specs.Texts.{split, TextFormat, Reading, has_ended, read, reading, refusal, refused, number_after, lines_after, whole}
use Rattle.pd_grammar.specs.declared.cause.TextCause.{TextCause}
use Rattle.pd_grammar.specs.declared.cause.TextCause.TheVariants as c
use Rattle.pd_lines.specs.Reader.{held_of, lines_of}
use Rattle.pd_lines.specs.declared.reader.LineFault.{LineFault}
use Rattle.pd_lines.specs.declared.reader.LineFault.TheVariants as l
use Rattle.pd_texts.specs.declared.reader.TextFault.{TextFault}
use Rattle.pd_texts.specs.declared.reader.ReadFault.{ReadFault}
use Rattle.pd_texts.specs.declared.reader.TextReader.{TextReader}
use Rattle.pd_texts.specs.declared.reader.ReadFault.TheVariants as r

-- these lines, the newest first, in their order before others
abbrev pub in_order : {M : Type 0} → List M → List M → List M
in_order [] lines = lines
in_order (line ∷ before) lines = in_order before (line ∷ lines)

-- these lines, the newest first, before those of a reading
abbrev pub with_lines : {M : Type 0} → List M → Reading M → Reading M
with_lines before rest = record { lines = in_order before rest.lines; refusal = rest.refusal }

-- a line was read after these ones, the newest first
pub record IsReadAfter {M : Type 0} (format : TextFormat M) (before : List M) (line : M) : Type 0 where
  pub going : has_ended format before ≡ false
  pub bytes : List ℕ
  pub short : length bytes ≤ 160
  pub is : read format before bytes ≡ Ok line

-- each of these lines, the newest first, was read after those before it
abbrev pub AreReadSoFar : {M : Type 0} → TextFormat M → List M → Type 0
AreReadSoFar format [] = Unit {0}
AreReadSoFar format (line ∷ before) = IsReadAfter format before line × AreReadSoFar format before

-- a reader has read these lines, the newest first, from whatever source
pub record HasRead {P V M : Type 0} (format : TextFormat M) (Stands : P → List M → Type 0) (before : List M) (reader : TextReader P V) : Type 0 where
  pub lines : AreReadSoFar format before
  pub stands : Stands reader.state before
  pub count : lines_of reader.reader ≡ min (length before) (2 ^ 64 - 1)

-- and the last line isn't among them
pub record ReadsOn {P V M : Type 0} (format : TextFormat M) (Stands : P → List M → Type 0) (before : List M) (reader : TextReader P V) : Type 0 where
  pub so_far : HasRead format Stands before reader
  pub going : has_ended format before ≡ false

-- of the text these lines were read, the newest first, and this is left, where the source tells it: the lines of the
-- text, and its refusal, are these lines and then what is read of the rest
pub record LeavesOf {P V M : Type 0} (format : TextFormat M) (text : List ℕ) (before : List M) (reader : TextReader P V) (left : Option (List ℕ)) : Type 0 where
  pub rest : List ℕ
  pub left_is : left ≡ Some rest
  pub is : reading format text ≡ with_lines before (lines_after format before (split 10 (held_of reader.reader ++ rest)))

-- the lines so far, once the first line was read
abbrev pub begun : {M : Type 0} → M → List M → List M
begun first [] = first ∷ []
begun first (line ∷ before) = line ∷ before

-- a text is refused at the line after these ones, the newest first
pub record IsRefusedAfter {M : Type 0} (format : TextFormat M) (text : List ℕ) (lines : List M) (fault : TextFault) : Type 0 where
  pub is : reading format text ≡ with_lines lines (refused lines fault.cause)
  pub number : fault.line ≡ number_after lines
  pub refusal : refusal format text ≡ Some (record { line = fault.line; cause = fault.cause })

-- a fault after these lines refuses the text there; want of memory or a failure of the source says nothing of the text
abbrev pub RefusesAfter : {M : Type 0} → TextFormat M → List ℕ → List M → ReadFault → Type 0
RefusesAfter format text lines r.Memory = Unit {0}
RefusesAfter format text lines r.Source = Unit {0}
RefusesAfter format text lines (r.Text fault) = IsRefusedAfter format text lines fault

-- a fault of a call after these lines refuses the text at the next line, at the one after the first line, or at what
-- follows the last line
abbrev pub RefusesNext : {M : Type 0} → TextFormat M → M → M → List ℕ → List M → ReadFault → Type 0
RefusesNext format first last text before fault =
    RefusesAfter format text before fault
    ⊎ (RefusesAfter format text (begun first before) fault ⊎ RefusesAfter format text (last ∷ begun first before) fault)

-- these are all the lines of the text, the newest first, none is refused, and nothing of the text is left
abbrev pub IsWhole : {M : Type 0} → TextFormat M → List ℕ → List M → Option (List ℕ) → Type 0
IsWhole format text lines left = (reading format text ≡ whole (in_order lines [])) × (left ≡ Some [])

-- what a call gives after these lines, from whatever source: a line more, or the last line
abbrev pub GivesLine : {P V M : Type 0} → TextFormat M → (P → List M → Type 0) → M → (Option V → M) → Result (Option V) ReadFault → List M → TextReader P V → Type 0
GivesLine format Stands first meant (Ok None) before reader = AreReadSoFar format (meant None ∷ begun first before)
GivesLine format Stands first meant (Ok (Some line)) before reader = ReadsOn format Stands (meant (Some line) ∷ begun first before) reader
GivesLine format Stands first meant (Err fault) before reader = Unit {0}

-- what a call gives of a text after these lines, where the source tells it: a line more, the end of a text of which no
-- line is refused, or its refusal
abbrev pub GivesOf : {P V M : Type 0} → TextFormat M → M → (Option V → M) → Result (Option V) ReadFault → List ℕ → List M → TextReader P V → Option (List ℕ) → Type 0
GivesOf format first meant (Ok None) text before reader left = IsWhole format text (meant None ∷ begun first before) left
GivesOf format first meant (Ok (Some line)) text before reader left = LeavesOf format text (meant (Some line) ∷ begun first before) reader left
GivesOf format first meant (Err fault) text before reader left = RefusesNext format first (meant None) text before fault

-- what is said of a text after its last line
abbrev pub EndsOf : {V M : Type 0} → TextFormat M → Result (Option V) ReadFault → List ℕ → List M → Option (List ℕ) → Type 0
EndsOf format (Ok line) text lines left = IsWhole format text lines left
EndsOf format (Err fault) text lines left = RefusesAfter format text lines fault

-- a refusal of the line with this number
abbrev pub text_fault : ℕ → TextCause → ReadFault
text_fault line cause = r.Text (record { line = line; cause = cause })

-- why a line isn't read, where a line with other bytes is refused for this cause
abbrev pub fault_of : TextCause → LineFault → ReadFault
fault_of other l.Source = r.Source
fault_of other (l.TooLong line) = text_fault line c.TooLong
fault_of other (l.NotText line) = text_fault line other
fault_of other (l.Unended line) = text_fault line c.NoEnd

-- why the end of the input isn't read after the last line
abbrev pub fault_after_end : LineFault → ReadFault
fault_after_end l.Source = r.Source
fault_after_end (l.TooLong line) = text_fault line c.AfterEnd
fault_after_end (l.NotText line) = text_fault line c.AfterEnd
fault_after_end (l.Unended line) = text_fault line c.AfterEnd

-- what the count of the source's failures is after a fault: it rose only where that is the fault
abbrev pub CountsRead : ReadFault → ℕ → ℕ → Type 0
CountsRead r.Memory old new = new ≡ old
CountsRead r.Source old new = Rose old new × (old ≤ new)
CountsRead (r.Text fault) old new = new ≡ old

-- a call fails for the source only where the count of its failures rose, and leaves it as it was elsewhere
abbrev pub CountsReads : {T : Type 0} → Result T ReadFault → ℕ → ℕ → Type 0
CountsReads result old new = MatchResult result (λ _. new ≡ old) (λ fault. CountsRead fault old new)

-- a refusal is that of a line past so many, up to the end of a `u64`
abbrev pub IsPast : ℕ → ReadFault → Type 0
IsPast lines r.Memory = Unit {0}
IsPast lines r.Source = Unit {0}
IsPast lines (r.Text fault) = min (lines + 1) (2 ^ 64 - 1) ≤ fault.line

-- memory is wanted only where it may be
abbrev pub WantsMemory : Type 0 → ReadFault → Type 0
WantsMemory CanWant r.Memory = CanWant
WantsMemory CanWant r.Source = Unit {0}
WantsMemory CanWant (r.Text fault) = Unit {0}
