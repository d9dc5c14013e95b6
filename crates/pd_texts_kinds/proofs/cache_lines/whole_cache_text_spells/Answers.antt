use Rattle.pd_grammar.proofs.GrammarLemmas.{is_reader}
use Rattle.pd_grammar.specs.CacheText.{cache_single}
use Rattle.pd_grammar.proofs.CacheRead.{FitsLine, Placed, single_grammar}
use Rattle.pd_texts.proofs.LawLemmas.{whole_bytes}
use Rattle.pd_texts_kinds.proofs.CacheLemmas.{whole_single}
use Rattle.pd_texts_kinds.proofs.cache_lines.whole_cache_text_spells.Goals as goal

pub returns : goal.returns
returns c = record { bytes = whole_bytes cache_single (is_reader cache_single FitsLine Placed single_grammar); spells = whole_single }
