use Rattle.std.proofs.Common.{ap}
use Rattle.pd_texts_kinds.specs.CacheLine.{line_of}
use Rattle.pd_restore_kinds.proofs.CacheLineLemmas.{no_cache_line, took_row}
use Rattle.pd_restore_kinds.proofs.cache_lines.take.Goals as goal

pub returns-in-Cache-clause-takes : goal.returns-in-Cache-clause-takes
returns-in-Cache-clause-takes c = absurd (no_cache_line c.args.gathered.now c.args.line _ _ _ _ _ _ _ c.in-Cache.is c.requires.after)

pub returns-in-Map-clause-takes : goal.returns-in-Map-clause-takes
returns-in-Map-clause-takes c = took_row c.add.result c.args.line _ c.args.gathered.now c.add.new.self (ap line_of c.in-Map.is) c.add.ensures.cache c.add.ensures.rows
