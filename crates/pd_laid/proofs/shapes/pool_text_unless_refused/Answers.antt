use Rattle.pd_grammar.proofs.SpellingLemmas.{spelled_if_none, none_if_spelled}
use Rattle.pd_grammar.specs.ThinText.{pool_format}
use Rattle.pd_grammar.proofs.ThinRead.{FitsLine, PlacedInPool}
use Rattle.pd_laid.specs.PoolText.{MeansPoolShape}
use Rattle.pd_laid.proofs.ShapeText.{pool_language}
use Rattle.pd_laid.proofs.shapes.pool_text_unless_refused.Goals as goal

pub returns : goal.returns
returns c = λ text. (
  spelled_if_none pool_format MeansPoolShape FitsLine PlacedInPool pool_language text,
  λ s. none_if_spelled pool_format MeansPoolShape FitsLine PlacedInPool pool_language text s.0 s.1,
)
