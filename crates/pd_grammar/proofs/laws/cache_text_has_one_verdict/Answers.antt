use Rattle.pd_grammar.proofs.SpellingLemmas.{some_verdict, one_verdict}
use Rattle.pd_grammar.specs.CacheText.{cache, MeansCache}
use Rattle.pd_grammar.specs.CacheText.{cache_need_so_far}
use Rattle.pd_grammar.proofs.CacheRead.{FitsLine, Placed}
use Rattle.pd_grammar.proofs.CacheLaws.{cache_language}
use Rattle.pd_grammar.proofs.laws.cache_text_has_one_verdict.Goals as goal

pub returns : goal.returns
returns c = record {
  some = λ version text room. some_verdict cache MeansCache FitsLine Placed cache_language (cache_need_so_far version room) text room;
  one = λ version text room. one_verdict cache MeansCache FitsLine Placed cache_language (cache_need_so_far version room) text room;
}
