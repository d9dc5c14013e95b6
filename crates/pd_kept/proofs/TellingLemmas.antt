-- Saved devices and stored numbers, told one after another.
use Rattle.std.proofs.Common.{◌≡◌, ℕ, zero, suc, ◌+◌, ◌-◌, ◌<◌, ◌≤◌, List, [], ◌++◌, refl, ap, ap₂, subst, sym, arith, ◌^◌, true, false, eqb, get_or, ◌∷◌, length, map, drop, Option, Some, None, ◌∙◌, append_assoc, IfSome}
use Rattle.std.specs.List.{flat_map, range_with_len}
use Rattle.std.proofs.lemmas.Bool.Decides.{nat_tests}
use Rattle.std.proofs.lemmas.Grind.{flat_map-append}
use Rattle.std.proofs.lemmas.List.{append-nil, drop_all, drop_more}
use Rattle.pd_kinds.specs.Node.{Entry}
use Rattle.pd_kinds.specs.ThinFormat.{ThinFields}
use Rattle.pd_laid.specs.Salvage.{salvaged_entries}
use Rattle.pd_answers.specs.KeptLines.{kept_line, lost_line}
use Rattle.pd_value.specs.declared.thin.Details.{Details}
use Rattle.pd_tree.specs.Search.{lookup}
use Rattle.pd_tree.specs.Cursor.{item_of}
use Rattle.pd_tree.proofs.NextLemmas.{if_both}
use Rattle.pd_meaning_thin.specs.Runs.{details_of}
use Rattle.pd_salvage.specs.declared.saved_shape.ShapedDevice.{ShapedDevice}
use Rattle.pd_salvage.specs.declared.cursor.SavedCursor.{SavedCursor}
use Rattle.pd_salvage.specs.Cursor.{saved_least, saved_left}
use Rattle.pd_kept.specs.declared.kept.KeptDevice.{KeptDevice}
use Rattle.pd_kept.specs.declared.kept.KeptDevice.TheVariants.{Kept, Lost}
use Rattle.pd_kept.specs.declared.merging.StoredNumber.{StoredNumber}
use Rattle.pd_kept.specs.Kept.{line_of, IsAfterLost, Tells, line_at, line_of_id, lines_at_all, lines_from, saved_pair, AreStored, AscendBelow, pair_of, AddsStored, stored_numbers, stored_word}

-- Lines of a range of numbers, most of which have none.

-- those of two functions that say the same from a number on
pub same_from : (f g : ℕ → List ℕ) (from len : ℕ) → ((n : ℕ) → from ≤ n → f n ≡ g n) → flat_map f (range_with_len from len) ≡ flat_map g (range_with_len from len)
same_from f g from zero same = refl
same_from f g from (suc len) same =
    ap₂ (λ (xs ys : List ℕ). xs ++ ys) (same from (omega arith)) (same_from f g (from + 1) len (λ n after. same n (omega arith)))

-- where none has a line
pub none_from : (f : ℕ → List ℕ) (from len : ℕ) → ((n : ℕ) → f n ≡ []) → flat_map f (range_with_len from len) ≡ []
none_from f from zero none = refl
none_from f from (suc len) none = ap₂ (λ (xs ys : List ℕ). xs ++ ys) (none from) (none_from f (from + 1) len none)

-- where the first line is that of a number behind a gap
behind_gap : (f g : ℕ → List ℕ) (gap len from : ℕ) → ((n : ℕ) → from ≤ n → n < from + gap → f n ≡ []) → ((n : ℕ) → from + gap < n → f n ≡ g n)
    → flat_map f (range_with_len from (gap + suc len)) ≡ f (from + gap) ++ flat_map g (range_with_len (from + gap + 1) len)
behind_gap f g zero len from none same =
    let one : zero + suc len ≡ suc len = omega arith in
    let here : from + zero ≡ from = omega arith in
    rw (one, here) (ap (λ (ys : List ℕ). f from ++ ys) (same_from f g (from + 1) len (λ n after. same n (omega arith))))
behind_gap f g (suc gap) len from none same =
    let one : suc gap + suc len ≡ suc (gap + suc len) = omega arith in
    let next : from + suc gap ≡ from + 1 + gap = omega arith in
    rw (one, next)
    (ap₂ (λ (xs ys : List ℕ). xs ++ ys) (none from (omega arith) (omega arith))
    (behind_gap f g gap len (from + 1) (λ n after before. none n (omega arith) (omega arith)) (λ n after. same n (omega arith))))

pub first_line : (f g : ℕ → List ℕ) (end from k : ℕ) → from ≤ k → k < end → ((n : ℕ) → from ≤ n → n < k → f n ≡ []) → ((n : ℕ) → k < n → f n ≡ g n)
    → flat_map f (range_with_len from (end - from)) ≡ f k ++ flat_map g (range_with_len (k + 1) (end - (k + 1)))
first_line f g end from k after before none same =
    let whole : end - from ≡ (k - from) + suc (end - (k + 1)) = omega arith in
    let there : from + (k - from) ≡ k = omega arith in
    subst (λ (len : ℕ). flat_map f (range_with_len from len) ≡ f k ++ flat_map g (range_with_len (k + 1) (end - (k + 1)))) (sym whole)
    (subst (λ (m : ℕ). flat_map f (range_with_len from ((k - from) + suc (end - (k + 1)))) ≡ f m ++ flat_map g (range_with_len (m + 1) (end - (k + 1)))) there
    (behind_gap f g (k - from) (end - (k + 1)) from (λ n low high. none n low (omega arith)) (λ n low. same n (omega arith))))

-- what is found in a list whose keys ascend
pub lookup_past : (end least : ℕ) (items : List (ℕ × ℕ)) (n : ℕ) → AscendBelow end least items → n < least → lookup n items ≡ None
unfolding lookup
lookup_past end least [] n are past = refl
lookup_past end least (item ∷ items) n are past =
    let from = are.0 in
    let other : eqb item.0 n ≡ false = grind (arith, nat_tests) in
    rw other (lookup_past end (item.0 + 1) items n are.2 (omega arith))

pub lookup_other : (k m : ℕ) (items : List (ℕ × ℕ)) (n : ℕ) → (k ≡ n → ⊥) → lookup n ((k, m) ∷ items) ≡ lookup n items
unfolding lookup
lookup_other k m items n ne = let other : eqb k n ≡ false = grind (arith, nat_tests, ne) in rw other refl

pub lookup_here : (k m : ℕ) (items : List (ℕ × ℕ)) → lookup k ((k, m) ∷ items) ≡ Some m
unfolding lookup
lookup_here k m items = let same : eqb k k ≡ true = grind (arith, nat_tests) in rw same refl

pub from_less : (end less least : ℕ) (items : List (ℕ × ℕ)) → less ≤ least → AscendBelow end least items → AscendBelow end less items
from_less end less least [] below are = tt
from_less end less least (item ∷ items) below are = let first = are.0 in (omega arith, are.1, are.2)

none_at_end : (end : ℕ) (items : List (ℕ × ℕ)) → AscendBelow end end items → items ≡ []
none_at_end end [] are = refl
none_at_end end (item ∷ items) are = let from = are.0 in let below = are.1 in absurd (omega arith)

-- the lines of what is left begin with that of the least id
module _ (end next k m : ℕ) (saved stored : List (ℕ × ℕ)) (after : next ≤ k) (below : k < end) (saved_ascend : AscendBelow end (k + 1) saved) (stored_ascend : AscendBelow end (k + 1) stored) where
  lost_first : lines_from end next saved ((k, m) ∷ stored) ≡ lost_line k m ++ lines_from end (k + 1) saved stored
  unfolding lines_from
  lost_first =
      first_line (line_at saved ((k, m) ∷ stored)) (line_at saved stored) end next k after below
      (λ n low high. ap₂ (λ (o p : Option ℕ). line_of_id n o p) (lookup_past end (k + 1) saved n saved_ascend (omega arith))
      (lookup_other k m stored n (λ same. omega (arith, same)) ∙ lookup_past end (k + 1) stored n stored_ascend (omega arith)))
      (λ n low. ap (λ (p : Option ℕ). line_of_id n (lookup n saved) p) (lookup_other k m stored n (λ same. omega (arith, same))))
      ∙ ap₂ (λ (o p : Option ℕ). line_of_id k o p ++ flat_map (line_at saved stored) (range_with_len (k + 1) (end - (k + 1)))) (lookup_past end (k + 1) saved k saved_ascend (omega arith)) (lookup_here k m stored)

  saved_first : lines_from end next ((k, m) ∷ saved) stored ≡ kept_line k m None ++ lines_from end (k + 1) saved stored
  unfolding lines_from
  saved_first =
      first_line (line_at ((k, m) ∷ saved) stored) (line_at saved stored) end next k after below
      (λ n low high. ap₂ (λ (o p : Option ℕ). line_of_id n o p) (lookup_other k m saved n (λ same. omega (arith, same)) ∙ lookup_past end (k + 1) saved n saved_ascend (omega arith))
      (lookup_past end (k + 1) stored n stored_ascend (omega arith)))
      (λ n low. ap (λ (o : Option ℕ). line_of_id n o (lookup n stored)) (lookup_other k m saved n (λ same. omega (arith, same))))
      ∙ ap₂ (λ (o p : Option ℕ). line_of_id k o p ++ flat_map (line_at saved stored) (range_with_len (k + 1) (end - (k + 1)))) (lookup_here k m saved) (lookup_past end (k + 1) stored k stored_ascend (omega arith))

  pub both_first : (mapped : ℕ) → lines_from end next ((k, m) ∷ saved) ((k, mapped) ∷ stored) ≡ kept_line k m (Some mapped) ++ lines_from end (k + 1) saved stored
  unfolding lines_from
  both_first mapped =
      first_line (line_at ((k, m) ∷ saved) ((k, mapped) ∷ stored)) (line_at saved stored) end next k after below
      (λ n low high. ap₂ (λ (o p : Option ℕ). line_of_id n o p) (lookup_other k m saved n (λ same. omega (arith, same)) ∙ lookup_past end (k + 1) saved n saved_ascend (omega arith))
      (lookup_other k mapped stored n (λ same. omega (arith, same)) ∙ lookup_past end (k + 1) stored n stored_ascend (omega arith)))
      (λ n low. ap₂ (λ (o p : Option ℕ). line_of_id n o p) (lookup_other k m saved n (λ same. omega (arith, same))) (lookup_other k mapped stored n (λ same. omega (arith, same))))
      ∙ ap₂ (λ (o p : Option ℕ). line_of_id k o p ++ flat_map (line_at saved stored) (range_with_len (k + 1) (end - (k + 1)))) (lookup_here k m saved) (lookup_here k mapped stored)

pub lines_over : (end next : ℕ) → lines_from end next [] [] ≡ []
unfolding lines_from lookup
lines_over end next = none_from (line_at [] []) next (end - next) (λ n. refl)

-- a line more
one_told : (told : List KeptDevice) (d : KeptDevice) (lines rest all : List ℕ) → flat_map line_of told ++ lines ≡ all → lines ≡ line_of d ++ rest → flat_map line_of (told ++ d ∷ []) ++ rest ≡ all
one_told told d lines rest all joined first =
    ap (λ (ls : List ℕ). ls ++ rest) (flat_map-append line_of told (d ∷ []) ∙ ap (λ (ls : List ℕ). flat_map line_of told ++ ls) (append-nil (line_of d)))
    ∙ (append_assoc (flat_map line_of told) (line_of d) rest ∙ (ap (λ (ls : List ℕ). flat_map line_of told ++ ls) (sym first) ∙ joined))

tells_lost : (all : List ℕ) (told : List KeptDevice) (saved : List (ℕ × ℕ)) (k m : ℕ) (rest : List (ℕ × ℕ)) → Tells all told saved ((k, m) ∷ rest) → AreStored (k + 1) saved
    → Tells all (told ++ Lost k m ∷ []) saved rest
tells_lost all told saved k m rest tells ascend =
    let are = tells.stored_ascend in
    record {
      next = k + 1;
      joined = one_told told (Lost k m) (lines_from (2 ^ 64) tells.next saved ((k, m) ∷ rest)) (lines_from (2 ^ 64) (k + 1) saved rest) all tells.joined
          (lost_first (2 ^ 64) tells.next k m saved rest are.0 are.1 ascend are.2);
      saved_ascend = ascend;
      stored_ascend = are.2;
    }

pub tells_saved : (all : List ℕ) (told new : List KeptDevice) (k n : ℕ) (saved rest : List (ℕ × ℕ)) → Tells all told ((k, n) ∷ saved) rest → AreStored (k + 1) rest → new ≡ told ++ Kept k n None ∷ []
    → Tells all new saved rest
tells_saved all told new k n saved rest tells ascend is =
    let are = tells.saved_ascend in
    record {
      next = k + 1;
      joined = rw is (one_told told (Kept k n None) (lines_from (2 ^ 64) tells.next ((k, n) ∷ saved) rest) (lines_from (2 ^ 64) (k + 1) saved rest) all tells.joined
          (saved_first (2 ^ 64) tells.next k n saved rest are.0 are.1 are.2 ascend));
      saved_ascend = are.2;
      stored_ascend = ascend;
    }

pub tells_both : (all : List ℕ) (told new : List KeptDevice) (k n mapped : ℕ) (saved stored rest : List (ℕ × ℕ)) → Tells all told ((k, n) ∷ saved) stored → stored ≡ (k, mapped) ∷ rest
    → new ≡ told ++ Kept k n (Some mapped) ∷ [] → Tells all new saved rest
tells_both all told new k n mapped saved stored rest tells comes is =
    let are = tells.saved_ascend in
    let behind = rw comes at tells.stored_ascend in
    record {
      next = k + 1;
      joined = rw is (one_told told (Kept k n (Some mapped)) (lines_from (2 ^ 64) tells.next ((k, n) ∷ saved) ((k, mapped) ∷ rest)) (lines_from (2 ^ 64) (k + 1) saved rest) all
          (ap (λ (items : List (ℕ × ℕ)). flat_map line_of told ++ lines_from (2 ^ 64) tells.next ((k, n) ∷ saved) items) (sym comes) ∙ tells.joined)
          (both_first (2 ^ 64) tells.next k n saved rest are.0 are.1 are.2 behind.2 mapped));
      saved_ascend = are.2;
      stored_ascend = behind.2;
    }

-- those of a device and behind it ascend from its id on
pub from_here : (all : List ℕ) (told : List KeptDevice) (k n : ℕ) (saved stored : List (ℕ × ℕ)) → Tells all told ((k, n) ∷ saved) stored → AreStored k ((k, n) ∷ saved)
from_here all told k n saved stored tells = let are = tells.saved_ascend in (omega arith, are.1, are.2)

-- what stands past the last number
abbrev pub no_stored : StoredNumber
no_stored = record { id = 0; mapped = 0 }

module _ (stored : List StoredNumber) (at : ℕ) (d : StoredNumber) (within : at < length stored) where
  -- the numbers from a place on
  pub numbers_at : map pair_of (drop at stored) ≡ pair_of (get_or stored at d) ∷ map pair_of (drop (at + 1) stored)
  numbers_at = ap (map pair_of) (drop_more stored at d within)

  -- a device that is lost
  pub lost_more : (all : List ℕ) (end : ℕ) (saved : List (ℕ × ℕ)) (told new : List KeptDevice) → (get_or stored at d).id < end → AreStored end saved
      → new ≡ told ++ Lost (get_or stored at d).id (get_or stored at d).mapped ∷ [] → Tells all told saved (map pair_of (drop at stored)) → Tells all new saved (map pair_of (drop (at + 1) stored))
  lost_more all end saved told new less ascend is tells =
      let k = (get_or stored at d).id in
      let rest = map pair_of (drop (at + 1) stored) in
      subst (λ (ds : List KeptDevice). Tells all ds saved rest) (sym is)
      (tells_lost all told saved k (get_or stored at d).mapped rest (subst (λ (items : List (ℕ × ℕ)). Tells all told saved items) numbers_at tells) (from_less (2 ^ 64) (k + 1) end saved (omega arith) ascend))

  -- the next number is no lesser id's
  pub lost_stops : (all : List ℕ) (end : ℕ) (saved : List (ℕ × ℕ)) (told : List KeptDevice) → end ≤ (get_or stored at d).id → Tells all told saved (map pair_of (drop at stored))
      → IsAfterLost all end saved told (map pair_of (drop at stored))
  lost_stops all end saved told more tells =
      let are = rw numbers_at at tells.stored_ascend in
      record { tells = tells; behind = rw numbers_at (more, are.1, are.2) }

-- at the start, and at the end
pub tells_begun : (saved stored : List (ℕ × ℕ)) (told : List KeptDevice) → told ≡ [] → AreStored 0 saved → AreStored 0 stored → Tells (lines_at_all saved stored) told saved stored
unfolding lines_at_all
tells_begun saved stored told none saved_ascend stored_ascend = record { next = 0; joined = rw none refl; saved_ascend = saved_ascend; stored_ascend = stored_ascend }

pub no_device : (all : List ℕ) (told : List KeptDevice) (devices : List ShapedDevice) (i : ℕ) (stored : List (ℕ × ℕ)) → length devices ≤ i
    → Tells all told (map saved_pair (drop i devices)) stored → Tells all told [] stored
no_device all told devices i stored over tells = subst (λ (items : List (ℕ × ℕ)). Tells all told items stored) (ap (map saved_pair) (drop_all i devices over)) tells

pub all_told : (all : List ℕ) (told : List KeptDevice) (stored : List (ℕ × ℕ)) → IsAfterLost all (2 ^ 64) [] told stored → flat_map line_of told ≡ all
all_told all told stored after =
    let tells = after.tells in
    let none : stored ≡ [] = none_at_end (2 ^ 64) stored after.behind in
    sym (append-nil (flat_map line_of told))
    ∙ (ap (λ (ls : List ℕ). flat_map line_of told ++ ls) (sym (ap (lines_from (2 ^ 64) tells.next []) none ∙ lines_over (2 ^ 64) tells.next)) ∙ tells.joined)

-- The stored numbers, one after another.

-- the number in an entry that a cursor gives
abbrev pub number_of : ℕ × Details → ℕ × ℕ
number_of item = (item.0, item.1.mapped)

entries_same : (es : List Entry) → map number_of (map (item_of details_of) es) ≡ map (item_of stored_word) es
entries_same [] = refl
entries_same (e ∷ es) = ap (λ (items : List (ℕ × ℕ)). (e.key, stored_word e.value) ∷ items) (entries_same es)

-- what was read of an image, and what is left of it
pub record ReadsNumbers (fields : ThinFields) (image : List (List ℕ)) (stored : List StoredNumber) (entries : SavedCursor Details) : Type 0 where
  pub all : map pair_of stored ++ map number_of (saved_left 24 details_of image entries) ≡ stored_numbers fields image

pub numbers_begun : (fields : ThinFields) (image : List (List ℕ)) (entries : SavedCursor Details)
    → saved_left 24 details_of image entries ≡ map (item_of details_of) (salvaged_entries 24 fields.meta_map.blocks image fields.details_root) → ReadsNumbers fields image [] entries
unfolding stored_numbers
numbers_begun fields image entries left =
    record { all = ap (map number_of) left ∙ entries_same (salvaged_entries 24 fields.meta_map.blocks image fields.details_root) }

-- one more
pub number_ascends : (stored new : List StoredNumber) (old now : SavedCursor Details) (id mapped : ℕ) → saved_least old ≤ id → saved_least now ≡ id + 1 → AddsStored id mapped stored new
    → ((rest : List (ℕ × ℕ)) → AreStored (saved_least old) rest → AreStored 0 (map pair_of stored ++ rest)) → (rest : List (ℕ × ℕ)) → AreStored (saved_least now) rest → AreStored 0 (map pair_of new ++ rest)
number_ascends stored new old now id mapped from step adds ascend rest are =
    rw (adds.added, append_assoc (map pair_of stored) ((id, mapped) ∷ []) rest) (ascend ((id, mapped) ∷ rest) (from, adds.fits, rw step at are))

pub number_told : (held : Option (List (List ℕ))) (fields : ThinFields) (stored new : List StoredNumber) (old now : SavedCursor Details) (id : ℕ) (details : Details)
    → AddsStored id details.mapped stored new → IfSome held (λ image. ReadsNumbers fields image stored old)
    → IfSome held (λ image. saved_left 24 details_of image old ≡ (id, details) ∷ saved_left 24 details_of image now) → IfSome held (λ image. ReadsNumbers fields image new now)
number_told held fields stored new old now id details adds told next =
    if_both held
    (λ image held_is (is : ReadsNumbers fields image stored old) comes. record {
      all = rw (adds.added, append_assoc (map pair_of stored) ((id, details.mapped) ∷ []) (map number_of (saved_left 24 details_of image now)))
          (ap (λ (items : List (ℕ × Details)). map pair_of stored ++ map number_of items) (sym comes) ∙ is.all);
    })
    told next

-- the end
pub numbers_over : (held : Option (List (List ℕ))) (fields : ThinFields) (stored : List StoredNumber) (old now : SavedCursor Details) → IfSome held (λ image. ReadsNumbers fields image stored old)
    → IfSome held (λ image. (saved_left 24 details_of image old ≡ []) × (saved_left 24 details_of image now ≡ [])) → IfSome held (λ image. map pair_of stored ≡ stored_numbers fields image)
numbers_over held fields stored old now told ends =
    if_both held
    (λ image held_is (is : ReadsNumbers fields image stored old) (none : (saved_left 24 details_of image old ≡ []) × (saved_left 24 details_of image now ≡ [])).
    sym (append-nil (map pair_of stored)) ∙ (ap (λ (items : List (ℕ × Details)). map pair_of stored ++ map number_of items) (sym none.0) ∙ is.all))
    told ends
