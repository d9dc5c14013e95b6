use Rattle.pd_grammar.proofs.SpellingLemmas.{spells_one}
use Rattle.pd_grammar.specs.ThinText.{pool_format}
use Rattle.pd_grammar.proofs.ThinRead.{FitsLine, PlacedInPool}
use Rattle.pd_laid.specs.PoolText.{MeansPoolShape}
use Rattle.pd_laid.proofs.ShapeText.{pool_language}
use Rattle.pd_laid.proofs.shapes.pool_text_has_one_shape.Goals as goal

pub returns : goal.returns
returns c = spells_one pool_format MeansPoolShape FitsLine PlacedInPool pool_language
