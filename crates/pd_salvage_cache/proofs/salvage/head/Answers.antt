use Rattle.std.proofs.Common.{rules, arith}
use Rattle.pd_salvage_cache.proofs.salvage.head.Goals as goal

pub returns-clause-fits : goal.returns-clause-fits
returns-clause-fits c = record {
  uuid_len = search rules;
  uuid_bytes = c.show_bytes.ensures;
  block_size_fits = omega arith;
  blocks_fit = omega arith;
  policy_len = search rules;
  policy_bytes = c.show_bytes-2.ensures;
  three_versions = search rules;
  versions_fit = c.show_numbers.ensures;
}
