use Rattle.std.proofs.Common.{arith}
use Rattle.pd_restore_kinds.specs.CacheRoots.{bytes_of}
use Rattle.pd_restore_kinds.proofs.WordLemmas.{array_need}
use Rattle.pd_restore_kinds.proofs.cache_words.need_words.Goals as goal

pub returns-clause-need : goal.returns-clause-need
returns-clause-need c =
    array_need (bytes_of c.args.words) c.args.count c.word_blocks-blocks.result c.max-leaves.result c.need_upper.result c.word_blocks-blocks.ensures.number (omega (arith, c.max-leaves.ensures)) c.need_upper.ensures.count
