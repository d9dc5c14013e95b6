use Rattle.std.proofs.Common.{rules}
use Rattle.std.proofs.lemmas.List.Sorted.{IsNonDecreasingBy-from_sort, answers_always}
use Rattle.pd_shrink.specs.declared.sources.Span.{Span}
use Rattle.pd_shrink.proofs.sources.sort_spans.Goals as goal

pub returns-clause-sorted : goal.returns-clause-sorted
returns-clause-sorted c =
    IsNonDecreasingBy-from_sort (λ (s : Span). s.first) _ (c.sort_unstable_by_key.ensures.sorted (λ (s : Span). s.first) (answers_always _ _ _ (λ f a r g h. search rules)))
