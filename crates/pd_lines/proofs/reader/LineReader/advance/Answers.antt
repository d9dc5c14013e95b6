use Rattle.std.proofs.Common.{◌≡◌, ◌+◌, ◌-◌, ℕ, [], take, drop, refl, ap, sym, Ok, Err, Some, arith}
use Rattle.pd_lines.specs.declared.reader.LineFault.TheVariants.{NotText}
use Rattle.pd_lines.proofs.ReaderLemmas.{held_line, not_text, reads_moved, reads_end}
use Rattle.pd_lines.proofs.reader.LineReader.advance.Goals as goal

pub returns-in-Line-clause-reads : goal.returns-in-Line-clause-reads
returns-in-Line-clause-reads g c = λ left e.
    let held = c.take_front.new.buffer in
    let len = c.in-Line.len in
    let number = c.saturating_add-number.result in
    let front = rw c.in-Line.is at c.in-Ok.ensures.front in
    let bytes : take len held ≡ take (len + 1 - 1) held = ap (λ (k : ℕ). take k held) (omega arith) in
    rw (← c.saturating_add-number.ensures, ← c.skip.ensures)
    (reads_moved (Ok (Some (record { number = number; bytes = take (len + 1 - 1) held }))) number c.skip.new.self held (drop (len + 1) held) left (g.S.Source.state c.args.source.now).left (g.S.Source.state c.take_front.new.source).left
    c.in-Ok.ensures.moved e (λ more. held_line held more (take (len + 1 - 1) held) len number front.0 (sym bytes) (rw (← bytes) front.1)))

pub returns-in-NotText-clause-reads : goal.returns-in-NotText-clause-reads
returns-in-NotText-clause-reads g c = λ left e.
    let held = c.take_front.new.buffer in
    let number = c.saturating_add-number.result in
    let front = rw c.in-NotText.is at c.in-Ok.ensures.front in
    rw (← c.saturating_add-number.ensures, ← c.skip.ensures)
    (reads_moved (Err (NotText number)) number c.skip.new.self held held left (g.S.Source.state c.args.source.now).left (g.S.Source.state c.take_front.new.source).left
    c.in-Ok.ensures.moved e (λ more. (refl, not_text held more front.0 front.1.0 front.1.1)))

pub returns-in-Open-clause-reads : goal.returns-in-Open-clause-reads
returns-in-Open-clause-reads g c = λ left e.
    let held = c.take_front.new.buffer in
    let number = c.saturating_add-number.result in
    let end = c.in-Ok.ensures.end c.in-Open.is in
    let long = rw c.held.ensures at c.end_of.ensures.long in
    let unended = rw c.held.ensures at c.end_of.ensures.unended in
    let none = rw c.held.ensures at c.end_of.ensures.end in
    rw (← c.saturating_add-number.ensures, ← c.skip.ensures)
    (reads_end number [] c.end_of.result number c.skip.new.self held left (g.S.Source.state c.args.source.now).left (g.S.Source.state c.take_front.new.source).left
    c.in-Ok.ensures.moved e long unended none (rw c.in-Open.is at c.in-Ok.ensures.front) (λ short. end short left e))
