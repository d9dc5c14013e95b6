use Rattle.pd_count.specs.Counted.{AreWaiting, HaveSameNumbers}
use Rattle.pd_count.proofs.waiting.WaitingPlaces.count_where_room.Given as goal

abbrev pub invariant-loop : goal.invariant-loop
invariant-loop l = (AreWaiting l.self) × (HaveSameNumbers l.self l.initial.self)
