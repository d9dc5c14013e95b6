use Rattle.std.proofs.Common.{◌≡◌, ℕ, List, Option}
use Rattle.pd_tests_parts.specs.Copied.{IsCopying}
use Rattle.pd_tests_parts.proofs.small_copy.copy_lines.Given as goal

abbrev pub invariant-loop : goal.invariant-loop
invariant-loop g l =
    ((g.S.Source.state l.source).access ≡ 1)
    × (((g.K.Sink.state l.out).access ≡ 1)
    × ((t : List ℕ) (start : Option (List ℕ))
    → IsCopying t start l.fn.text (g.S.Source.state l.fn.source).left l.fn.pieces (g.K.Sink.state l.fn.out).written
    → IsCopying t start l.text (g.S.Source.state l.source).left l.pieces (g.K.Sink.state l.out).written))
