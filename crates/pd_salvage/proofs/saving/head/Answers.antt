use Rattle.std.proofs.Common.{rules, arith}
use Rattle.pd_salvage.proofs.saving.head.Goals as goal

pub returns-clause-fits : goal.returns-clause-fits
returns-clause-fits c = record {
  uuid_len = search rules;
  uuid_bytes = c.show_bytes.ensures;
  time = omega arith;
  transaction = omega arith;
  block_size = omega arith;
}
