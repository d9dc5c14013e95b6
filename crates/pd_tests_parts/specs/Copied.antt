-- What the small copy of a text has read and printed.
use Rattle.std.specs.Prelude.{◌≡◌, ◌==◌, ℕ, if◌then◌else◌, List, [], ◌∷◌, Option, Some}
use Rattle.pd_kinds.specs.declared.kind.Kind.TheVariants.{Thin}
use Rattle.pd_grammar.specs.Texts.{reading, refusal, text_of_lines, whole}
use Rattle.pd_grammar.specs.ThinText.{Line, end_line, pool_format, shared_first_line}
use Rattle.pd_lines.specs.Pieces.{Gathers}
use Rattle.pd_texts.specs.declared.reader.TextReader.{TextReader}
use Rattle.pd_texts.specs.declared.thin_text.ThinLine.{ThinLine}
use Rattle.pd_texts.specs.declared.thin_state.ThinState.{ThinState}
use Rattle.pd_texts.specs.ThinLine.{first_text, text_of_line}
use Rattle.pd_texts.specs.Reader.{ReadsOn, LeavesOf, in_order}
use Rattle.pd_texts.specs.ThinState.{ThinStands}
use Rattle.pd_texts.specs.declared.reader.ReadFault.TheVariants as r
use Rattle.pd_tests_parts.specs.declared.small_copy.CopyFault.{CopyFault}
use Rattle.pd_tests_parts.specs.declared.small_copy.CopyFault.TheVariants as c

-- the first line of a text of this version, with its line feed
abbrev pub first_printed : ℕ → List ℕ
first_printed version = if version == 2 then text_of_line pool_format shared_first_line else first_text Thin

-- some lines of the text were read, the newest of them this one, and they were printed or are pending
pub record IsCopying (text : List ℕ) (start : Option (List ℕ)) (reader : TextReader ThinState ThinLine) (left : Option (List ℕ)) (pending : List ℕ) (now : Option (List ℕ)) : Type 0 where
  pub line : Line
  pub before : List Line
  pub reads : ReadsOn pool_format ThinStands (line ∷ before) reader
  pub leaves : LeavesOf pool_format text (line ∷ before) reader left
  pub gathered : Gathers (text_of_lines pool_format (in_order (line ∷ before) [])) pending start now

-- all lines of the text were read, and all but the last were printed or are pending
pub record HasCopied (text : List ℕ) (start : Option (List ℕ)) (pending : List ℕ) (now : Option (List ℕ)) : Type 0 where
  pub lines : List Line
  pub is : reading pool_format text ≡ whole (in_order (end_line ∷ lines) [])
  pub gathered : Gathers (text_of_lines pool_format (in_order lines [])) pending start now

-- a refusal is the text's
abbrev pub IsRefused : List ℕ → CopyFault → Type 0
IsRefused text (c.Read (r.Text fault)) = refusal pool_format text ≡ Some (record { line = fault.line; cause = fault.cause })
IsRefused text (c.Read r.Source) = Unit {0}
IsRefused text (c.Read r.Memory) = Unit {0}
IsRefused text c.Sink = Unit {0}
IsRefused text c.Length = Unit {0}
