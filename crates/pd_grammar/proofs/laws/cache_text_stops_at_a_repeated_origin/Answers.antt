use Rattle.pd_grammar.proofs.GrammarLemmas.{one_test_more}
use Rattle.pd_grammar.specs.CacheText.{cache_single, repeated_test}
use Rattle.pd_grammar.proofs.laws.cache_text_stops_at_a_repeated_origin.Goals as goal

pub returns : goal.returns
returns c = one_test_more repeated_test cache_single
