-- Whether a saved device has no stored number, one device after another.
use Rattle.std.proofs.Common.{◌≡◌, ℕ, ◌+◌, ◌^◌, ◌<◌, ◌≤◌, Bool, true, false, get_or, List, [], ◌∷◌, length, map, drop, Option, Some, None, refl, sym, ap, ap₂, subst, ◌∙◌, ◌||◌, arith}
use Rattle.std.specs.Prelude.{is_none, is_some}
use Rattle.std.proofs.lemmas.Bool.{false≢true}
use Rattle.std.proofs.lemmas.List.{drop_all, drop_more}
use Rattle.pd_tree.specs.Search.{lookup}
use Rattle.pd_salvage.specs.declared.saved_shape.ShapedDevice.{ShapedDevice}
use Rattle.pd_kept.specs.declared.merging.StoredNumber.{StoredNumber}
use Rattle.pd_kept.specs.Kept.{IsBehind, IsLeft, lacks, IsStoredAt, saved_pair, AreStored, AscendBelow, pair_of}
use Rattle.pd_kept.proofs.TellingLemmas.{from_less, lookup_here, lookup_other, lookup_past, numbers_at}

-- a stored number of a lesser id is none of these devices'
lacks_past : (end least k m : ℕ) (saved stored : List (ℕ × ℕ)) → k < least → AscendBelow end least saved → lacks saved ((k, m) ∷ stored) ≡ lacks saved stored
unfolding lacks
lacks_past end least k m [] stored less ascend = refl
lacks_past end least k m (d ∷ saved) stored less ascend =
    let from = ascend.0 in
    ap₂ (λ (a b : Bool). a || b) (ap (λ (o : Option ℕ). is_none o) (lookup_other k m stored d.0 (λ same. omega (arith, same))))
    (lacks_past end (d.0 + 1) k m saved stored (omega arith) ascend.2)

module _ (stored : List StoredNumber) (at : ℕ) (d : StoredNumber) (within : at < length stored) (lacking : Bool) (id : ℕ) (saved : List (ℕ × ℕ)) where
  -- a stored number is passed
  pub left_past : (get_or stored at d).id < id → AreStored id saved → IsLeft lacking saved (map pair_of (drop at stored)) → IsLeft lacking saved (map pair_of (drop (at + 1) stored))
  left_past less ascend left =
      let one = numbers_at stored at d within in
      let k = (get_or stored at d).id in
      let rest = map pair_of (drop (at + 1) stored) in
      let are = rw one at left.stored_ascend in
      record {
        next = left.next;
        is = sym (lacks_past (2 ^ 64) id k (get_or stored at d).mapped saved rest less ascend) ∙ (ap (lacks saved) (sym one) ∙ left.is);
        saved_ascend = left.saved_ascend;
        stored_ascend = from_less (2 ^ 64) 0 (k + 1) rest (omega arith) are.2;
      }

  -- the next one is no lesser id's
  pub left_stops : id ≤ (get_or stored at d).id → IsLeft lacking saved (map pair_of (drop at stored)) → IsBehind lacking id saved (map pair_of (drop at stored))
  left_stops more left =
      let one = numbers_at stored at d within in
      let are = rw one at left.stored_ascend in
      record { left = left; behind = rw one (more, are.1, are.2) }

-- a device more: it has no number, or the next one is its
pub lacks_here : (lacking : Bool) (k n : ℕ) (saved stored : List (ℕ × ℕ)) → IsBehind lacking k ((k, n) ∷ saved) stored → (AreStored k stored → AreStored (k + 1) stored) → true ≡ lacking
unfolding lacks
lacks_here lacking k n saved stored here none =
    let missing : lookup k stored ≡ None = lookup_past (2 ^ 64) (k + 1) stored k (none here.behind) (omega arith) in
    let first : is_none (lookup k stored) ≡ true = ap (λ (o : Option ℕ). is_none o) missing in
    sym (ap (λ (b : Bool). b || lacks saved stored) first) ∙ here.left.is

pub lacks_later : (lacking : Bool) (k n m : ℕ) (saved stored rest : List (ℕ × ℕ)) → IsBehind lacking k ((k, n) ∷ saved) stored → stored ≡ (k, m) ∷ rest → IsLeft lacking saved stored
unfolding lacks
lacks_later lacking k n m saved stored rest here comes =
    let found : is_none (lookup k stored) ≡ false = ap (λ (items : List (ℕ × ℕ)). is_none (lookup k items)) comes ∙ ap (λ (o : Option ℕ). is_none o) (lookup_here k m rest) in
    let are = here.left.saved_ascend in
    record {
      next = k + 1;
      is = sym (ap (λ (b : Bool). b || lacks saved stored) found) ∙ here.left.is;
      saved_ascend = are.2;
      stored_ascend = here.left.stored_ascend;
    }

-- no device is left
pub lacks_none : (lacking : Bool) (devices : List ShapedDevice) (i : ℕ) (stored : List (ℕ × ℕ)) → length devices ≤ i → IsLeft lacking (map saved_pair (drop i devices)) stored → false ≡ lacking
unfolding lacks
lacks_none lacking devices i stored over left =
    sym (ap (λ (ds : List ShapedDevice). lacks (map saved_pair ds) stored) (drop_all i devices over)) ∙ left.is

-- what is told of the number in the place
pub none_stored : (id : ℕ) (found : Option ℕ) (at : ℕ) (stored : List StoredNumber) → is_some found ≡ false → IsStoredAt id found at stored
    → AreStored id (map pair_of (drop at stored)) → AreStored (id + 1) (map pair_of (drop at stored))
none_stored id None at stored none is = is
none_stored id (Some mapped) at stored none is = absurd (false≢true (sym none))

pub some_stored : (id : ℕ) (found : Option ℕ) (at : ℕ) (stored : List StoredNumber) → is_some found ≡ true → IsStoredAt id found at stored
    → (mapped : ℕ) × (map pair_of (drop at stored) ≡ (id, mapped) ∷ map pair_of (drop (at + 1) stored))
some_stored id None at stored some is = absurd (false≢true some)
some_stored id (Some mapped) at stored some is = (mapped, is)

-- the devices that are left begin with one
module _ (devices : List ShapedDevice) (i : ℕ) (d : ShapedDevice) (within : i < length devices) (lacking : Bool) (stored : List (ℕ × ℕ))
    (left : IsLeft lacking (map saved_pair (drop i devices)) stored) where
  pub left_here : IsLeft lacking (saved_pair (get_or devices i d) ∷ map saved_pair (drop (i + 1) devices)) stored
  left_here = subst (λ (saved : List (ℕ × ℕ)). IsLeft lacking saved stored) (ap (map saved_pair) (drop_more devices i d within)) left

  pub ascends_here : AreStored (get_or devices i d).id (saved_pair (get_or devices i d) ∷ map saved_pair (drop (i + 1) devices))
  ascends_here = let are = left_here.saved_ascend in (omega arith, are.1, are.2)
