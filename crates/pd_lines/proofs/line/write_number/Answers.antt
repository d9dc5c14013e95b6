use Rattle.std.proofs.Common.{ℕ, ◌+◌, arith, decimal, drop, ap}
use Rattle.pd_lines.proofs.Printing.{digits_behind}
use Rattle.pd_lines.proofs.line.write_number.Goals as goal

pub returns-clause-bytes : goal.returns-clause-bytes
returns-clause-bytes c =
    let is_end = ap (λ (n : ℕ). c.args.len + n) c.digits_of.ensures.digits in
    digits_behind c.args.bytes.now c.write_digits.new.buf (decimal c.args.number) (drop (c.args.len + c.digits_of.result) c.args.bytes.now) c.args.len c.write_digits.result (c.args.len + c.digits_of.result)
    (omega (arith, c.requires)) is_end c.write_digits.ensures.start c.write_digits.ensures.written c.write_digits.ensures.before
