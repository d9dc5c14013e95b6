-- The shared leaves, with one block more.
use Rattle.std.proofs.Common.{◌≡◌, inl, inr, ℕ, zero, suc, ◌+◌, ◌<◌, ◌≤◌, Bool, true, false, cond, nat_eq, get_or, List, [], ◌∷◌, ◌++◌, length, map, filter, take, drop, position, Option, Some, None, refl, sym, ap, ap₂, ◌∙◌, sum_by, add-one, arith, eq-eqb}
use Rattle.std.specs.List.{position_from, range_with_len}
use Rattle.std.proofs.lemmas.Bool.{cases_Bool, cases_lt, ne_eqb}
use Rattle.std.proofs.lemmas.List.{append-nil, length-append, length-drop, map-append, take-append-le, drop-append-le, get_or_append_left}
use Rattle.std.proofs.lemmas.Iterator.Adapters.{position_from-zero}
use Rattle.std.proofs.lemmas.List.Elements.{filter-append}
use Rattle.std.proofs.lemmas.List.Sums.{sum_by-append}
use Rattle.std.proofs.Math.Seq.{get_or-append_seam}
use Rattle.pd_grammar.specs.ThinText as text
use Rattle.pd_laid.specs.PoolText.{mappings_of_runs}
use Rattle.pd_graph.proofs.BitLemmas.{range_more}
use Rattle.pd_meaning_thin.specs.declared.joined.Run.{Run}
use Rattle.pd_meaning_thin.specs.Runs.{spelled}
use Rattle.pd_salvage.specs.declared.saved_shape.SavedLeaf.{SavedLeaf}
use Rattle.pd_salvage.specs.SavedShape.{AreCounted, leaf_parts}
use Rattle.pd_salvage.proofs.SavingLemmas.{take_all}
use Rattle.pd_salvage_shapes.specs.declared.note.LeafNote.{LeafNote}
use Rattle.pd_salvage_shapes.specs.declared.shape.SharedLeaves.{SharedLeaves}
use Rattle.pd_salvage_shapes.specs.Note.{noted}
use Rattle.pd_salvage_shapes.specs.Pieces.{above, number_of_leaf, AddsLeaf, IsSharing, is_twice, leaf_runs, note_at, shared_below}

-- the place of a number behind one more
abbrev place_or : Option ℕ → ℕ → ℕ → ℕ → Option ℕ
place_or (Some k) y b n = Some k
place_or None y b n = cond (nat_eq y b) (Some n) None

from_more : (xs : List ℕ) (i y b n : ℕ) → n ≡ i + length xs → position_from (λ leaf. nat_eq leaf b) i (xs ++ y ∷ []) ≡ place_or (position_from (λ leaf. nat_eq leaf b) i xs) y b n
from_more [] i y b n is = let same : n ≡ i = omega arith in rw same refl
from_more (x ∷ xs) i y b n is = elim (cases_Bool (nat_eq x b)) [
  | inl here ↦ rw here refl
  | inr apart ↦ rw apart (from_more xs (i + 1) y b n (omega arith))
]

position_more : (xs : List ℕ) (y b : ℕ) → position (λ leaf. nat_eq leaf b) (xs ++ y ∷ []) ≡ place_or (position (λ leaf. nat_eq leaf b) xs) y b (length xs)
position_more xs y b =
    position_from-zero (λ leaf. nat_eq leaf b) (xs ++ y ∷ [])
    ∙ (from_more xs 0 y b (length xs) (omega arith)
    ∙ ap (λ (o : Option ℕ). place_or o y b (length xs)) (sym (position_from-zero (λ leaf. nat_eq leaf b) xs)))

-- leaves with one more
leaves_more : (ls : List SavedLeaf) (leaf : SavedLeaf) (runs more : List Run) → sum_by (λ (l : SavedLeaf). l.runs) ls ≡ length runs → leaf.runs ≡ length more
    → leaf_parts (ls ++ leaf ∷ []) (runs ++ more) ≡ leaf_parts ls runs ++ map spelled more ∷ []
leaves_more [] leaf [] more number is = rw (is, take_all more) refl
leaves_more [] leaf (r ∷ runs) more number is = absurd (omega arith)
leaves_more (l ∷ ls) leaf runs more number is =
    let whole : l.runs + sum_by (λ (x : SavedLeaf). x.runs) ls ≡ length runs = omega (arith, number, sum_by-append (λ (x : SavedLeaf). x.runs) (l ∷ []) ls) in
    let rest : sum_by (λ (x : SavedLeaf). x.runs) ls ≡ length (drop l.runs runs) = omega (arith, length-drop l.runs runs) in
    rw (take-append-le l.runs runs more (omega arith), drop-append-le l.runs runs more (omega arith))
    (ap (λ (ps : List (List text.Run)). map spelled (take l.runs runs) ∷ ps) (leaves_more ls leaf (drop l.runs runs) more rest is))

counted_more : (ls : List SavedLeaf) (leaf : SavedLeaf) (runs more : List Run) → sum_by (λ (l : SavedLeaf). l.runs) ls ≡ length runs → leaf.runs ≡ length more
    → leaf.entries ≡ length (mappings_of_runs (map spelled more)) → AreCounted ls runs → AreCounted (ls ++ leaf ∷ []) (runs ++ more)
counted_more [] leaf [] more number is counted are = (rw (is, take_all more) counted, tt)
counted_more [] leaf (r ∷ runs) more number is counted are = absurd (omega arith)
counted_more (l ∷ ls) leaf runs more number is counted are =
    let whole : l.runs + sum_by (λ (x : SavedLeaf). x.runs) ls ≡ length runs = omega (arith, number, sum_by-append (λ (x : SavedLeaf). x.runs) (l ∷ []) ls) in
    let rest : sum_by (λ (x : SavedLeaf). x.runs) ls ≡ length (drop l.runs runs) = omega (arith, length-drop l.runs runs) in
    rw (take-append-le l.runs runs more (omega arith), drop-append-le l.runs runs more (omega arith)) (are.0, counted_more ls leaf (drop l.runs runs) more rest is counted are.1)

-- no block from a number on is below it
none_at : (p : ℕ → Bool) (a n i b : ℕ) → a + n ≤ b → position_from (λ leaf. nat_eq leaf b) i (filter p (range_with_len a n)) ≡ None
none_at p a zero i b above = refl
none_at p a (suc n) i b above =
    elim (cases_Bool (p a)) [
      | inl kept ↦ rw (kept, ne_eqb a b (λ same. omega arith)) (none_at p (a + 1) n (i + 1) b (omega arith))
      | inr left ↦ rw left (none_at p (a + 1) n i b (omega arith))
    ]

pub none_from : (uses : List ℕ) (n b : ℕ) → n ≤ b → number_of_leaf (shared_below uses n) (Some b) ≡ None
none_from uses n b above = position_from-zero (λ leaf. nat_eq leaf b) (shared_below uses n) ∙ none_at (is_twice uses) 0 n 0 b (omega arith)

-- one block more
module _ (uses places : List ℕ) (notes : List LeafNote) (n : ℕ) where
  abbrev ones : List ℕ
  ones = shared_below uses n

  blocks_more : range_with_len 0 (n + 1) ≡ range_with_len 0 n ++ (n ∷ [])
  blocks_more = rw (add-one n) (range_more 0 n n (omega arith))

  shared_next : shared_below uses (n + 1) ≡ ones ++ filter (is_twice uses) (n ∷ [])
  shared_next = ap (filter (is_twice uses)) blocks_more ∙ filter-append (is_twice uses) (range_with_len 0 n) (n ∷ [])

  shared_skipped : is_twice uses n ≡ false → shared_below uses (n + 1) ≡ ones
  shared_skipped once = shared_next ∙ rw once (append-nil ones)

  shared_taken : is_twice uses n ≡ true → shared_below uses (n + 1) ≡ ones ++ n ∷ []
  shared_taken twice = shared_next ∙ rw twice refl

  module _ (old new : SharedLeaves) (is : IsSharing uses places notes old n) where
    numbers_more : (number : ℕ) → new.numbers.items ≡ old.numbers.items ++ number ∷ [] → (b : ℕ) → b < n + 1
        → ((b < n) → get_or new.numbers.items b 0 ≡ get_or old.numbers.items b 0) × (b ≡ n → get_or new.numbers.items b 0 ≡ number)
    numbers_more number pushed b within =
        let count = is.count in (
          (λ below. rw pushed (get_or_append_left old.numbers.items (number ∷ []) 0 b (omega arith))),
          (λ last. rw (pushed, last, ← is.count) (get_or-append_seam old.numbers.items number [] 0)),
        )

    -- it isn't shared
    pub skipped : is_twice uses n ≡ false → new.numbers.items ≡ old.numbers.items ++ 0 ∷ [] → new.leaves ≡ old.leaves → new.runs ≡ old.runs → IsSharing uses places notes new (n + 1)
    skipped once pushed same_leaves same_runs =
        let next = shared_skipped once in
        record {
          count = rw pushed (length-append old.numbers.items (0 ∷ []) ∙ ap (λ (k : ℕ). k + 1) is.count);
          numbers = λ b within.
              let both = numbers_more 0 pushed b within in
              rw next (elim (cases_lt b n) [
                | inl below ↦ both.0 below ∙ is.numbers b below
                | inr from ↦
                    let last : b ≡ n = omega arith in
                    both.1 last ∙ sym (ap above (none_from uses n b (omega arith)))
              ]);
          leaves = rw (next, same_leaves, same_runs) is.leaves;
          leaf_count = rw (next, same_leaves) is.leaf_count;
          counted = rw (same_leaves, same_runs) is.counted;
          number = rw (same_leaves, same_runs) is.number;
        }

    -- it is
    pub added : (note : LeafNote) → is_twice uses n ≡ true → note_at places notes n ≡ Some note → note.entries ≡ length (noted note) → AddsLeaf note old new → IsSharing uses places notes new (n + 1)
    added note twice at entries adds =
        let next = shared_taken twice in
        let runs_are : leaf_runs places notes n ≡ note.runs = rw at refl in
        let leaf : SavedLeaf = record { entries = note.entries; runs = length note.runs } in
        let leaf_count : length new.leaves.items ≡ suc (length ones) = rw adds.leaves (let all = length-append old.leaves.items (leaf ∷ []) in let before = is.leaf_count in omega arith) in
        record {
          count = rw adds.numbers (length-append old.numbers.items (length new.leaves.items ∷ []) ∙ ap (λ (k : ℕ). k + 1) is.count);
          numbers = λ b within.
              let both = numbers_more (length new.leaves.items) adds.numbers b within in
              rw (next, position_more ones n b) (elim (cases_lt b n) [
                | inl below ↦ both.0 below ∙ (is.numbers b below ∙ ap above (kept_place (position (λ leaf. nat_eq leaf b) ones) b below))
                | inr from ↦
                    let last : b ≡ n = omega arith in
                    both.1 last ∙ (leaf_count ∙ sym (ap above (new_place (position (λ leaf. nat_eq leaf b) ones) b last (none_from uses n b (omega arith)))))
              ]);
          leaves =
              rw (next, adds.leaves, adds.runs) (
              leaves_more old.leaves.items leaf old.runs note.runs is.number refl
              ∙ (ap₂ (λ (xs ys : List (List text.Run)). xs ++ ys) is.leaves (ap (λ (rs : List Run). map spelled rs ∷ []) (sym runs_are))
              ∙ sym (map-append (λ b. map spelled (leaf_runs places notes b)) ones (n ∷ []))));
          leaf_count = rw next (leaf_count ∙ sym (let all = length-append ones (n ∷ []) in omega arith));
          counted = rw (adds.leaves, adds.runs) (counted_more old.leaves.items leaf old.runs note.runs is.number refl entries is.counted);
          number =
              let sums = sum_by-append (λ (l : SavedLeaf). l.runs) old.leaves.items (leaf ∷ []) in
              let lengths = length-append old.runs note.runs in
              let before = is.number in
              rw (adds.leaves, adds.runs) (omega arith);
        }
      where
        new_place : (o : Option ℕ) (b : ℕ) → b ≡ n → o ≡ None → place_or o n b (length ones) ≡ Some (length ones)
        new_place None b last none = rw (eq-eqb n b (omega arith)) refl
        new_place (Some k) b last none = absurd (cc)

        kept_place : (o : Option ℕ) (b : ℕ) → b < n → o ≡ place_or o n b (length ones)
        kept_place (Some k) b below = refl
        kept_place None b below = rw (ne_eqb n b (λ same. omega arith)) refl
