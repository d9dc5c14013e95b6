use Rattle.std.proofs.Common.{◌≡◌}
use Rattle.pd_meaning_thin.specs.Packed.{in_order}
use Rattle.pd_meaning_thin.specs.Packed.{runs_at, unchunked_from}
use Rattle.pd_meaning_thin.proofs.chunks.Chunks.next.Given as goal

-- the chunks that were passed have no run behind the place
abbrev pub invariant-loop-number : goal.invariant-loop-number
invariant-loop-number l = record {
  same : l.place ≡ l.fn.place;
  left : runs_at l.self l.fn.place ≡ unchunked_from (in_order l.self) l.fn.place.before l.number l.at;
}
