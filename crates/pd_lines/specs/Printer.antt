-- Where a printer stands.
use Rattle.pd_kinds.specs.Objects.{SinkState}
use Rattle.pd_lines.specs.declared.printer.Printer.{Printer}
use Rattle.pd_lines.specs.Printing.{Printing}

-- its sink, as its state says it, and what is pending
abbrev pub printing : {K : Type 0} → (K → SinkState) → Printer K → Printing
printing state printer = record { sink = state printer.out.now; pending = printer.pieces }
