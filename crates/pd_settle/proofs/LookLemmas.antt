-- One child more is looked at.
use Rattle.std.proofs.Common.{◌≡◌, inl, inr, ℕ, zero, suc, ◌+◌, ◌<◌, ◌≤◌, Bool, true, ◌&&◌, not, nat_eq, nat_lt, List, [], ◌∷◌, drop, take, Option, Some, None, refl, sym, ◌∙◌, ap, subst, arith, add-one, drop-cons, ◌⊎◌, ◌*◌, false, ◌||◌, eq-eqb}
use Rattle.std.specs.List.{list_any, list_all, slice_get}
use Rattle.std.proofs.Math.Bool.{and-true, and_assoc, or-false}
use Rattle.std.proofs.lemmas.Bool.{and_from, and_parts, both_ways, cases_Bool, lt-ltb, ltb-true, ne_eqb, cases_eq}
use Rattle.std.proofs.lemmas.List.Folds.{list_all_more, list_all_at, list_any_at}
use Rattle.std.proofs.lemmas.Option.{get_or_from_slice_get, slice_get_within}
use Rattle.pd_graph.specs.Notes.{no_note, note_in}
use Rattle.pd_graph.specs.declared.notes.Note.{Note}
use Rattle.pd_graph.specs.declared.notes.Notes.{Notes}
use Rattle.pd_graph.proofs.Weights.{more_weight, same_weight, ones_below}
use Rattle.pd_settle.specs.Notes.{join, joined, is_note_in_range, are_notes_in_range}
use Rattle.pd_settle.specs.Looking.{is_low, open_note, Opens, Settles}
use Rattle.pd_settle.specs.Settled.{is_known, is_settled, steps}
use Rattle.pd_settle.proofs.VerdictLemmas.{Changes, changed_here, changed_there, verdict_height}

pub drop_at : (xs : List ℕ) (i x : ℕ) → slice_get xs i ≡ Some x → drop i xs ≡ x ∷ drop (i + 1) xs
drop_at xs i x found =
    let small = slice_get_within xs i x found in
    drop-cons xs i x small
    ∙ (ap (λ (y : ℕ). y ∷ drop (suc i) xs) (get_or_from_slice_get xs i x x found) ∙ ap (λ (j : ℕ). x ∷ drop j xs) (sym (add-one i)))

slice_get_cons : (xs : List ℕ) (i : ℕ) → slice_get (drop i xs) 0 ≡ slice_get xs i
slice_get_cons [] zero = refl
slice_get_cons [] (suc i) = refl
slice_get_cons (x ∷ xs) zero = refl
slice_get_cons (x ∷ xs) (suc i) = slice_get_cons xs i

ranges_cons : (notes : ℕ → Note) (low c : ℕ) (lows cs : List ℕ)
    → are_notes_in_range notes (low ∷ lows) (c ∷ cs) ≡ (is_note_in_range low (slice_get lows 0) (notes c) && are_notes_in_range notes lows cs)
ranges_cons notes low c [] cs = sym (and-true (is_note_in_range low None (notes c)))
ranges_cons notes low c (high ∷ lows) cs = refl

-- the ranges from child i on
pub ranges_at : (notes : ℕ → Note) (lows cs : List ℕ) (i low c : ℕ) → slice_get lows i ≡ Some low → slice_get cs i ≡ Some c
    → are_notes_in_range notes (drop i lows) (drop i cs)
    ≡ (is_note_in_range low (slice_get lows (i + 1)) (notes c) && are_notes_in_range notes (drop (i + 1) lows) (drop (i + 1) cs))
ranges_at notes lows cs i low c is_low is_child =
    ap (λ (xs : List ℕ). are_notes_in_range notes xs (drop i cs)) (drop_at lows i low is_low)
    ∙ (ap (λ (xs : List ℕ). are_notes_in_range notes (low ∷ drop (i + 1) lows) xs) (drop_at cs i c is_child)
    ∙ (ranges_cons notes low c (drop (i + 1) lows) (drop (i + 1) cs)
    ∙ ap (λ (o : Option ℕ). is_note_in_range low o (notes c) && are_notes_in_range notes (drop (i + 1) lows) (drop (i + 1) cs)) (slice_get_cons lows (i + 1))))

-- what holds after so many children
pub record IsSumming (notes : ℕ → Note) (lows cs : List ℕ) (i : ℕ) (sum : Note) (in_range : Bool) : Type 0 where
  pub few : sum.height ≤ 63
  pub joins : joined notes sum (drop i cs) ≡ joined notes no_note cs
  pub ranges : (in_range && are_notes_in_range notes (drop i lows) (drop i cs)) ≡ are_notes_in_range notes lows cs

summing_more : (notes : ℕ → Note) (lows cs : List ℕ) (i low c : ℕ) (sum : Note) (in_range : Bool) → IsSumming notes lows cs i sum in_range
    → slice_get lows i ≡ Some low → slice_get cs i ≡ Some c → (notes c).height < 64
    → IsSumming notes lows cs (i + 1) (join sum (notes c)) (in_range && is_note_in_range low (slice_get lows (i + 1)) (notes c))
summing_more notes lows cs i low c sum in_range before is_key is_child less =
    let few = before.few in
    record {
      few = omega arith;
      joins = ap (joined notes sum) (sym (drop_at cs i c is_child)) ∙ before.joins;
      ranges =
          and_assoc in_range (is_note_in_range low (slice_get lows (i + 1)) (notes c)) (are_notes_in_range notes (drop (i + 1) lows) (drop (i + 1) cs))
          ∙ (ap (λ (b : Bool). in_range && b) (sym (ranges_at notes lows cs i low c is_key is_child)) ∙ before.ranges);
    }

-- each of a list passes
pub place_passes : (f : ℕ → Bool) (xs : List ℕ) (i c : ℕ) → list_all f xs ≡ true → slice_get xs i ≡ Some c → f c ≡ true
place_passes f xs i c all found = elim (cases_Bool (f c)) [
  | inl e ↦ e
  | inr e ↦
      let at = get_or_from_slice_get xs i c 0 found in
      absurd (both_ways _ (list_all_at f xs i 0 (slice_get_within xs i c found) (ap f at ∙ e)) all)
]

pub summing_read : (notes : ℕ → Note) (lows cs : List ℕ) (i low c : ℕ) (high : Option ℕ) (sum note sum' : Note) (in_range fits : Bool)
    → IsSumming notes lows cs i sum in_range → list_all (λ d. is_low (notes d)) cs ≡ true → slice_get lows i ≡ Some low → slice_get cs i ≡ Some c
    → note ≡ notes c → high ≡ slice_get lows (i + 1) → sum' ≡ join sum note → fits ≡ is_note_in_range low high note
    → IsSumming notes lows cs (i + 1) sum' (in_range && fits)
summing_read notes lows cs i low c high sum note sum' in_range fits before all is_key is_child same next joins tests =
    let passes = place_passes (λ d. is_low (notes d)) cs i c all is_child in
    let parts = and_parts (not (nat_eq (notes c).height 0)) (nat_lt (notes c).height 64) passes in
    let more = summing_more notes lows cs i low c sum in_range before is_key is_child (ltb-true (notes c).height 64 parts.1) in
    let sums : sum' ≡ join sum (notes c) = joins ∙ ap (join sum) same in
    let test : fits ≡ is_note_in_range low (slice_get lows (i + 1)) (notes c) =
    tests ∙ (ap (λ (o : Option ℕ). is_note_in_range low o note) next ∙ ap (is_note_in_range low (slice_get lows (i + 1))) same) in
    subst (λ (s : Note). IsSumming notes lows cs (i + 1) s (in_range && fits)) (sym sums)
    (subst (λ (b : Bool). IsSumming notes lows cs (i + 1) (join sum (notes c)) (in_range && b)) (sym test) more)

-- one more passes
pub all_more : (test : ℕ → Bool) (cs : List ℕ) (i c : ℕ) → list_all test (take i cs) ≡ true → slice_get cs i ≡ Some c → test c ≡ true
    → list_all test (take (i + 1) cs) ≡ true
all_more test cs i c before is_child passes =
    list_all_more test cs i 0 (slice_get_within cs i c is_child)
    ∙ and_from _ _ before (ap test (get_or_from_slice_get cs i c 0 is_child) ∙ passes)

-- a child is low by its height
pub low_by : (note : Note) → (note.height ≡ 0 → ⊥) → note.height < 64 → is_low note ≡ true
low_by note some less = rw (ne_eqb note.height 0 some, lt-ltb note.height 64 less) refl

-- the note of a child, as it was read, tells of it
pub one_of : (test : ℕ → Bool) (cs : List ℕ) (i c : ℕ) → slice_get cs i ≡ Some c → test c ≡ true → list_any test cs ≡ true
one_of test cs i c is_child passes =
    list_any_at test cs i 0 (slice_get_within cs i c is_child) (ap test (get_or_from_slice_get cs i c 0 is_child) ∙ passes)

-- How many steps were made.

-- a test that only the note at b changes
gains : (t : ℕ → Bool) (b : ℕ) (note : Note) (old new : ℕ → Note) → Changes b note old new → t note.height ≡ true → t (old b).height ≡ false
    → (c : ℕ) → t (new c).height ≡ (t (old c).height || nat_eq c b)
gains t b note old new changes now before c = elim (cases_eq c b) [
  | inl e ↦
      ap (λ (d : ℕ). t (new d).height) e ∙ (ap (λ (n : Note). t n.height) (changed_here b note old new changes)
      ∙ (now ∙ sym (ap (λ (x : Bool). t (old c).height || x) (eq-eqb c b e) ∙ (ap (λ (d : ℕ). t (old d).height || true) e ∙ ap (λ (x : Bool). x || true) before))))
  | inr ne ↦
      ap (λ (n : Note). t n.height) (changed_there b note old new c changes ne)
      ∙ sym (ap (λ (x : Bool). t (old c).height || x) (ne_eqb c b ne) ∙ or-false (t (old c).height))
]

stays : (t : ℕ → Bool) (b : ℕ) (note : Note) (old new : ℕ → Note) → Changes b note old new → t note.height ≡ t (old b).height
    → (c : ℕ) → t (new c).height ≡ t (old c).height
stays t b note old new changes same c = elim (cases_eq c b) [
  | inl e ↦
      ap (λ (d : ℕ). t (new d).height) e ∙ (ap (λ (n : Note). t n.height) (changed_here b note old new changes)
      ∙ (same ∙ ap (λ (d : ℕ). t (old d).height) (sym e)))
  | inr ne ↦ ap (λ (n : Note). t n.height) (changed_there b note old new c changes ne)
]

abbrev known : ℕ → Bool
known h = not (nat_eq h 0)

abbrev settled : ℕ → Bool
settled h = not (nat_eq h 0) && not (nat_eq h 66)

-- a block is put on the stack
pub steps_opened : (nr b link : ℕ) (old new : ℕ → Note) → b < nr → Changes b (open_note link) old new → (old b).height ≡ 0 → steps nr new ≡ steps nr old + 1
unfolding steps
steps_opened nr b link old new small changes unknown =
    let more = more_weight (is_known old) (is_known new) (λ c. 1) b nr small (ap known unknown)
    (gains known b (open_note link) old new changes refl (ap known unknown)) in
    let same = same_weight (is_settled old) (is_settled new) (λ c. 1) nr
    (λ c less. stays settled b (open_note link) old new changes (sym (ap settled unknown)) c) in
    omega arith

settled_by : (h : ℕ) → 1 ≤ h → h ≤ 65 → settled h ≡ true
settled_by h low high = rw (ne_eqb h 0 (λ e. absurd (omega arith)), ne_eqb h 66 (λ e. absurd (omega arith))) refl

known_by : (h : ℕ) → 1 ≤ h → known h ≡ true
known_by h low = rw (ne_eqb h 0 (λ e. absurd (omega arith))) refl

-- a block is settled
pub steps_settled : (nr b : ℕ) (note : Note) (old new : ℕ → Note) → b < nr → Changes b note old new → (old b).height ≡ 66
    → 1 ≤ note.height → note.height ≤ 65 → steps nr new ≡ steps nr old + 1
unfolding steps
steps_settled nr b note old new small changes opened low high =
    let same = same_weight (is_known old) (is_known new) (λ c. 1) nr
    (λ c less. stays known b note old new changes (known_by note.height low ∙ sym (ap known opened)) c) in
    let more = more_weight (is_settled old) (is_settled new) (λ c. 1) b nr small (ap settled opened)
    (gains settled b note old new changes (settled_by note.height low high) (ap settled opened)) in
    omega arith

-- there are only so many
pub steps_most : (nr : ℕ) (notes : ℕ → Note) → steps nr notes ≤ 2 * nr
unfolding steps
steps_most nr notes =
    let a = ones_below (is_known notes) nr in
    let b = ones_below (is_settled notes) nr in
    omega arith

pub steps_one : (nr : ℕ) (strict inner : Bool) (lows cs : List ℕ) (b next : ℕ) (old new : Notes) → b < nr → (note_in old b).height ≡ 66
    → (Opens nr inner cs b old new next ⊎ Settles nr strict inner lows cs b old new next) → steps nr (note_in new) ≡ steps nr (note_in old) + 1
steps_one nr strict inner lows cs b next old new small opened (inl opens) =
    steps_opened nr opens.child (b + 1) (note_in old) (note_in new) opens.within (record { notes = opens.closes.notes }) opens.unknown
steps_one nr strict inner lows cs b next old new small opened (inr settles) =
    let heights = verdict_height nr strict inner (note_in old) lows cs settles.note settles.verdict in
    steps_settled nr b settles.note (note_in old) (note_in new) small (record { notes = settles.closes.notes }) opened heights.0 heights.1
