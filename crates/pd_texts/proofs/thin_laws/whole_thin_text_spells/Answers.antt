use Rattle.pd_grammar.proofs.GrammarLemmas.{is_reader}
use Rattle.pd_grammar.specs.ThinText.{thin, pool_format, MeansPool}
use Rattle.pd_grammar.proofs.ThinRead.{FitsLine, Placed, PlacedInPool, pool_grammar}
use Rattle.pd_grammar.proofs.ThinLaws.{thin_language}
use Rattle.pd_texts.proofs.LawLemmas.{whole_spells}
use Rattle.pd_texts.proofs.LawLemmas as any
use Rattle.pd_texts.proofs.ThinNextLemmas.{whole_bytes}
use Rattle.pd_texts.proofs.thin_laws.whole_thin_text_spells.Goals as goal

pub returns : goal.returns
returns c = record { bytes = whole_bytes; either = any.whole_bytes pool_format (is_reader pool_format FitsLine PlacedInPool pool_grammar); spells = whole_spells thin MeansPool FitsLine Placed thin_language }
