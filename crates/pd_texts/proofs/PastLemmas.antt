-- A refusal tells a line past those that were read.
use Rattle.std.proofs.Common.{ℕ, ◌+◌, ◌-◌, ◌^◌, ◌≤◌, min, Result, Ok, Err, arith}
use Rattle.std.specs.Prelude.{IfErr}
use Rattle.pd_grammar.specs.declared.cause.TextCause.{TextCause}
use Rattle.pd_lines.specs.declared.reader.LineFault.{LineFault}
use Rattle.pd_lines.specs.Numbered.{IsNumbered}
use Rattle.pd_lines.specs.declared.reader.LineFault.TheVariants as l
use Rattle.pd_texts.specs.declared.reader.ReadFault.{ReadFault}
use Rattle.pd_texts.specs.Reader.{fault_of, fault_after_end, IsPast}
use Rattle.pd_texts.specs.declared.reader.ReadFault.TheVariants as r

pub past_of : (lines : ℕ) (other : TextCause) (fault : LineFault) → IsNumbered (min (lines + 1) (2 ^ 64 - 1)) fault → IsPast lines (fault_of other fault)
past_of lines other l.Source is = tt
past_of lines other (l.TooLong line) is = omega arith
past_of lines other (l.NotText line) is = omega arith
past_of lines other (l.Unended line) is = omega arith

pub past_end : (lines : ℕ) (fault : LineFault) → IsNumbered (min (lines + 1) (2 ^ 64 - 1)) fault → IsPast lines (fault_after_end fault)
past_end lines l.Source is = tt
past_end lines (l.TooLong line) is = omega arith
past_end lines (l.NotText line) is = omega arith
past_end lines (l.Unended line) is = omega arith

-- past more lines is past fewer
past_fewer : (fewer more : ℕ) (fault : ReadFault) → fewer ≤ more → IsPast more fault → IsPast fewer fault
past_fewer fewer more r.Memory least past = tt
past_fewer fewer more r.Source least past = tt
past_fewer fewer more (r.Text fault) least past = omega arith

pub past_before : {T : Type 0} (result : Result T ReadFault) (fewer more : ℕ) → fewer ≤ more → IfErr result (IsPast more) → IfErr result (IsPast fewer)
past_before (Ok value) fewer more least past = tt
past_before (Err fault) fewer more least past = past_fewer fewer more fault least past
