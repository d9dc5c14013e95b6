-- Trusted base.
-- The bytes of the lines that the tools print.
-- The causes of a refusal: their numbers and their printed names.
use Rattle.std.specs.Prelude.{ℕ, List, codes, zero, suc, [], ◌∷◌, ◌++◌, decimal}
use Rattle.std.specs.List.{flat_map}
use Rattle.pd_kinds.specs.declared.rule.Rule.{Rule}
use Rattle.pd_kinds.specs.declared.rule.Fault.{Fault}
use Rattle.pd_kinds.specs.declared.rule.Space.{Space}
use Rattle.pd_kinds.specs.declared.rule.Space.TheVariants.{Meta, DataBlock}
use Rattle.pd_kinds.specs.Rule.{rule_name, Reported}
use Rattle.pd_kinds.specs.declared.rule.Rule.TheVariants as r
use Rattle.pd_grammar.specs.declared.cause.TextCause.{TextCause}
use Rattle.pd_grammar.specs.declared.cause.TextCause.TheVariants.{Header, Word, Number, Order, OutOfRange, MappedDiffers, TooLong, NoEnd, AfterEnd, Repeated, Unused}
use Rattle.pd_grammar.specs.Texts.{Refusal}

-- the number of a cause
abbrev pub cause_number : TextCause → ℕ
cause_number Header = 1
cause_number Word = 2
cause_number Number = 3
cause_number Order = 4
cause_number OutOfRange = 5
cause_number MappedDiffers = 6
cause_number TooLong = 7
cause_number NoEnd = 8
cause_number AfterEnd = 9
cause_number Repeated = 10
cause_number Unused = 11

-- its printed name
abbrev pub cause_name : TextCause → List ℕ
cause_name Header = codes "header"
cause_name Word = codes "word"
cause_name Number = codes "number"
cause_name Order = codes "order"
cause_name OutOfRange = codes "out of range"
cause_name MappedDiffers = codes "mapped differs"
cause_name TooLong = codes "too long"
cause_name NoEnd = codes "no end"
cause_name AfterEnd = codes "after end"
cause_name Repeated = codes "repeated"
cause_name Unused = codes "unused"

-- the word for a space
abbrev pub space_name : Space → List ℕ
space_name Meta = codes "meta"
space_name DataBlock = codes "data"

-- the two numbers of a fault, which only Leak and Short have
unfoldable pub counts_text : Rule → ℕ → ℕ → List ℕ
counts_text r.Leak stored refs = codes " stored " ++ (decimal stored ++ (codes " references " ++ decimal refs))
counts_text r.Short stored refs = codes " stored " ++ (decimal stored ++ (codes " references " ++ decimal refs))
counts_text _ stored refs = []

-- the line of a fault, with its line feed
unfoldable pub fault_line : Fault → List ℕ
fault_line fault =
    codes "fault " ++ (space_name fault.space ++ (codes " " ++ (decimal fault.block ++ (codes " "
    ++ (rule_name fault.rule ++ (counts_text fault.rule fault.stored fault.refs ++ (10 ∷ [])))))))

-- the lines of a report: its kept faults and their number, or `clean`
unfoldable pub lines_of : List Fault → ℕ → List ℕ
lines_of faults zero = codes "clean" ++ (10 ∷ [])
lines_of faults (suc n) = flat_map fault_line faults ++ (codes "faults " ++ (decimal (suc n) ++ (10 ∷ [])))

abbrev pub reported_lines : Reported → List ℕ
reported_lines report = lines_of report.faults report.total

-- the line of status 2
abbrev pub usage_line : List ℕ
usage_line = codes "pdata_tools: the words spell no request" ++ (10 ∷ [])

-- the line of status 5
abbrev pub device_line : List ℕ
device_line = codes "pdata_tools: device fault" ++ (10 ∷ [])

-- the line of status 6
abbrev pub sink_line : List ℕ
sink_line = codes "pdata_tools: source or sink fault" ++ (10 ∷ [])

-- the line of status 7
abbrev pub memory_line : List ℕ
memory_line = codes "pdata_tools: out of memory" ++ (10 ∷ [])

-- the line of status 3: the refused line, and the cause
abbrev pub refusal_line : Refusal → List ℕ
refusal_line why =
    codes "pdata_tools: line " ++ (decimal why.line ++ (codes ": " ++ (cause_name why.cause ++ (10 ∷ []))))

-- the line of status 4: the blocks that are needed, and those that there are
abbrev pub no_room_line : ℕ → ℕ → List ℕ
no_room_line need blocks =
    codes "pdata_tools: no room: need " ++ (decimal need ++ (codes ", blocks " ++ (decimal blocks ++ (10 ∷ []))))
