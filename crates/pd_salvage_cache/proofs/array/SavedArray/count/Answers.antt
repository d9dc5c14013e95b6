use Rattle.std.proofs.Common.{arith}
use Rattle.pd_kinds.proofs.KindLemmas.{few_words}
use Rattle.pd_array.specs.Word.{size_of}
use Rattle.pd_salvage_cache.proofs.array.SavedArray.count.Goals as goal

pub returns-clause-few : goal.returns-clause-few
returns-clause-few c = omega (arith, c.args.self.now.counted, few_words (size_of c.args.self.now.word) c.args.self.now.block.0)
