use Rattle.pd_grammar.proofs.SpellingLemmas.{some_verdict, one_verdict}
use Rattle.pd_grammar.specs.ThinText.{pool_format}
use Rattle.pd_grammar.proofs.ThinRead.{FitsLine, PlacedInPool}
use Rattle.pd_laid.specs.PoolText.{MeansPoolShape, pool_need_so_far}
use Rattle.pd_laid.proofs.ShapeText.{pool_language}
use Rattle.pd_laid.proofs.shapes.pool_text_has_one_verdict.Goals as goal

pub returns : goal.returns
returns c = record {
  some = λ text room. some_verdict pool_format MeansPoolShape FitsLine PlacedInPool pool_language (pool_need_so_far room) text room;
  one = λ text room. one_verdict pool_format MeansPoolShape FitsLine PlacedInPool pool_language (pool_need_so_far room) text room;
}
