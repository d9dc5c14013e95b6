use Rattle.std.proofs.Common.{ap, sym, length}
use Rattle.std.proofs.lemmas.Fmt.{decimal_digit}
use Rattle.pd_lines.proofs.Printing.{decimal_length}
use Rattle.pd_lines.proofs.line.digits_of.Goals as goal

pub returns-then-number-lt10-clause-digits : goal.returns-then-number-lt10-clause-digits
returns-then-number-lt10-clause-digits c = sym (ap length (decimal_digit c.args.number c.if-number-lt10.true))

pub returns-clause-digits : goal.returns-clause-digits
returns-clause-digits c = sym (decimal_length c.args.number c.ilog10.result c.ranges.number.fits c.ilog10.ensures.power_le c.ilog10.ensures.next_power_gt)
