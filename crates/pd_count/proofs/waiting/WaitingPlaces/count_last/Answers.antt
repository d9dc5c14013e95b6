use Rattle.std.proofs.Common.{◌≡◌, ◌∙◌, ◌-◌, ℕ, List, Vec, length, refl, sym, ap, arith, not}
use Rattle.std.proofs.lemmas.List.{get_or_default, with_items_is}
use Rattle.std.specs.Vec.{with_items}
use Rattle.pd_count.proofs.FormLemmas.{some_there}
use Rattle.pd_count.proofs.WaitingLemmas.{last_counted, same_items}
use Rattle.pd_count.proofs.waiting.WaitingPlaces.count_last.Goals as goal

-- the digits are those that the call left
whole : {Z : Type 0} (digits : Vec ℕ Z) (read new : List ℕ) → read ≡ digits.items → length new ≡ length read → (with_items digits new).items ≡ new
whole digits read new is size = with_items_is digits new (size ∙ (ap (length {A = ℕ}) is ∙ sym digits.ok.0))

pub returns-then-has_room-clause-same : goal.returns-then-has_room-clause-same
returns-then-has_room-clause-same c =
    let same = whole c.args.self.now.digits c.deref_mut.result.now c.raise-has_room.new.digits c.deref_mut.ensures.value c.raise-has_room.auto.digits in
    last_counted c.args.self.now _ (c.len-last.result - 1) c.from-at.result (omega (arith, c.len-last.ensures, some_there c.args.self.now.places.len c.is_empty.result c.is_empty.ensures (ap not c.if-is_empty.false), c.args.self.now.places.ok.0))
    (c.from-at.ensures ∙ (c.index.ensures ∙ get_or_default c.args.self.now.places.items (c.len-last.result - 1) c.index.result.now 0 (omega (arith, c.len-last.ensures, some_there c.args.self.now.places.len c.is_empty.result c.is_empty.ensures (ap not c.if-is_empty.false), c.args.self.now.places.ok.0)))) (rw (same, ← c.deref_mut.ensures.value) (c.raise-has_room.ensures.raised c.if-has_room.true)) c.truncate.ensures.items

pub returns-else-has_room-clause-same : goal.returns-else-has_room-clause-same
returns-else-has_room-clause-same c =
    let same = whole c.args.self.now.digits c.deref_mut.result.now c.raise-has_room.new.digits c.deref_mut.ensures.value c.raise-has_room.auto.digits in
    same_items c.args.self.now _ (same ∙ (c.raise-has_room.ensures.same c.if-has_room.false ∙ c.deref_mut.ensures.value)) refl
