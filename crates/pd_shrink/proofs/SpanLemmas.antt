-- The data blocks that runs have past the end of a smaller pool, each once.
use Rattle.std.proofs.Common.{◌≡◌, inl, inr, ℕ, zero, suc, ◌+◌, ◌-◌, ◌^◌, ◌<◌, ◌≤◌, min, max, Bool, true, false, cond, ◌&&◌, ◌||◌, eqb, leb, ltb, List, [], ◌∷◌, ◌++◌, length, get_or, take, drop, refl, sym, subst, ap, ◌∙◌, add-one, append_assoc, drop-cons, length-drop, arith}
use Rattle.std.specs.List.{All, AllByRecursion, filter, list_any, range_with_len}
use Rattle.std.specs.List.Sorted.{IsNonDecreasingBy, IsPermutation}
use Rattle.std.proofs.lemmas.Bool.{and_from, and_left, and_right, cases_lt, le-leb, le-ltb, lt-leb, lt-ltb, or_from, or_left}
use Rattle.std.proofs.lemmas.Bool.Decides.{nat_tests}
use Rattle.std.proofs.lemmas.Grind.{flat_map-append}
use Rattle.std.proofs.lemmas.List.{append-nil, nil_from_length, take_more}
use Rattle.std.proofs.lemmas.List.Elements.{All-from_recursion, filter-append, filter_agree, recursion_from_All}
use Rattle.std.proofs.lemmas.List.Folds.{list_any-append}
use Rattle.std.proofs.lemmas.List.Sorted.{All-permutation, list_any-IsPermutation}
use Rattle.pd_kinds.specs.Meaning.{ThinPool}
use Rattle.pd_kinds.proofs.KindsListLemmas.{all_first, all_last}
use Rattle.pd_kinds.proofs.NumberLemmas.{range_split}
use Rattle.pd_kinds.proofs.ListLemmas.{all_append}
use Rattle.pd_grammar.specs.Need.{mapped_data}
use Rattle.pd_laid.specs.Shape.{pool_of as pool_of_shape}
use Rattle.pd_answers.specs.Shrinks.{sources}
use Rattle.pd_meaning_thin.specs.declared.joined.Run.{Run}
use Rattle.pd_restore.specs.ShapeNeed.{data_of_runs}
use Rattle.pd_restore.proofs.SavedNeedLemmas.{row_more, IsWithin, data_is, runs_within}
use Rattle.pd_restore.proofs.ShapePartLemmas.{data_is as shape_data_is, leaf_runs_within, own_runs_within}
use Rattle.pd_salvage.specs.Saved.{pool_of}
use Rattle.pd_salvage.specs.SavedShape.{held_shape}
use Rattle.pd_shrink.specs.declared.kept.Kept.{Kept}
use Rattle.pd_shrink.specs.declared.kept.Kept.TheVariants.{Pool, Shape}
use Rattle.pd_shrink.specs.Kept.{IsSoundKept, kept_pool, leaf_runs_in, own_runs_in}
use Rattle.pd_shrink.specs.Making.{blocks_between, has_block, is_in_spans, span_between, spans_past, union_from}
use Rattle.pd_shrink.specs.declared.sources.Span.{Span}
use Rattle.pd_shrink.proofs.RoomLemmas.{lawful_kept}
use Rattle.pd_shrink.proofs.MovingLemmas.{met_is, met_within}
use Rattle.pd_shrink.proofs.ToldLemmas.{told_names}

-- a filter of a row of which none passes, and of one of which each does
none_passes : (p : ℕ → Bool) (a n : ℕ) → ((b : ℕ) → a ≤ b → b < a + n → p b ≡ false) → filter p (range_with_len a n) ≡ []
none_passes p a zero none = refl
none_passes p a (suc n) none = rw (none a (omega arith) (omega arith)) (none_passes p (a + 1) n (λ b low high. none b (omega arith) (omega arith)))

each_passes : (p : ℕ → Bool) (a n : ℕ) → ((b : ℕ) → a ≤ b → b < a + n → p b ≡ true) → filter p (range_with_len a n) ≡ range_with_len a n
each_passes p a zero each = refl
each_passes p a (suc n) each =
    rw (each a (omega arith) (omega arith)) (ap (λ (bs : List ℕ). a ∷ bs) (each_passes p (a + 1) n (λ b low high. each b (omega arith) (omega arith))))

-- tests that agree on a row
same_pass : (p q : ℕ → Bool) (a n : ℕ) → ((b : ℕ) → a ≤ b → b < a + n → p b ≡ q b) → filter p (range_with_len a n) ≡ filter q (range_with_len a n)
same_pass p q a zero same = refl
same_pass p q a (suc n) same =
    ap (λ (t : Bool). cond t (a ∷ filter p (range_with_len (a + 1) n)) (filter p (range_with_len (a + 1) n))) (same a (omega arith) (omega arith))
    ∙ ap (λ (bs : List ℕ). cond (q a) (a ∷ bs) bs) (same_pass p q (a + 1) n (λ b low high. same b (omega arith) (omega arith)))

-- their first blocks ascend, from a least one on
abbrev Ascend : ℕ → List Span → Type 0
Ascend low [] = Unit {0}
Ascend low (s ∷ spans) = (low ≤ s.first) × Ascend s.first spans

ascend : (low : ℕ) (spans : List Span) → IsNonDecreasingBy (λ (s : Span). s.first) spans → ((d : Span) → 0 < length spans → low ≤ (get_or spans 0 d).first) → Ascend low spans
ascend low [] sorted least = tt
ascend low (s ∷ spans) sorted least = (
  least s (omega arith),
  ascend s.first spans (λ i j d before within. sorted (suc i) (suc j) d (omega arith) (omega arith)) (λ d some. sorted 0 1 d (omega arith) (omega arith)),
)

none_below : (low : ℕ) (spans : List Span) → Ascend low spans → (b : ℕ) → b < low → is_in_spans spans b ≡ false
none_below low [] up b less = refl
none_below low (s ∷ spans) up b less =
    let first = up.0 in
    or_from (has_block b s) (is_in_spans spans b) (and_left _ _ (lt-leb s.first b (omega arith))) (none_below s.first spans up.1 b (omega arith))

-- the blocks of one row that may still come
next_blocks : (a stop least : ℕ) → least ≤ a → blocks_between a stop ≡ range_with_len (min a (max least stop)) (max least stop - min a (max least stop))
next_blocks a stop least low = elim (cases_lt a stop) [
  | inl some ↦
      let first : a ≡ min a (max least stop) = omega arith in
      let last : stop ≡ max least stop = omega arith in
      rw (← first, ← last) refl
  | inr none ↦
      let no : stop - a ≡ 0 = omega arith in
      let no' : max least stop - min a (max least stop) ≡ 0 = omega arith in
      rw (no, no') refl
]

-- what comes after a row, and where the row's own blocks begin
abbrev after_span : ℕ → Span → ℕ
after_span least s = max least s.stop

abbrev own_start : ℕ → Span → ℕ
own_start least s = min (max s.first least) (max least s.stop)

-- a row in three parts
in_three : (a m e n : ℕ) → a ≤ m → m ≤ e → e ≤ n → range_with_len a (n - a) ≡ range_with_len a (m - a) ++ (range_with_len m (e - m) ++ range_with_len e (n - e))
in_three a m e n first second third =
    let all : n - a ≡ (m - a) + ((e - m) + (n - e)) = omega arith in
    let at_m : a + (m - a) ≡ m = omega arith in
    let at_e : m + (e - m) ≡ e = omega arith in
    ap (range_with_len a) all
    ∙ (range_split a (m - a) ((e - m) + (n - e))
    ∙ ap (λ (bs : List ℕ). range_with_len a (m - a) ++ bs)
    (ap (λ (k : ℕ). range_with_len k ((e - m) + (n - e))) at_m
    ∙ (range_split m (e - m) (n - e) ∙ ap (λ (k : ℕ). range_with_len m (e - m) ++ range_with_len k (n - e)) at_e)))

-- a filter of a row in three parts: none passes in the first, each does in the second
filter_three : (p q : ℕ → Bool) (a m e n : ℕ) → a ≤ m → m ≤ e → e ≤ n → ((b : ℕ) → a ≤ b → b < m → p b ≡ false) → ((b : ℕ) → m ≤ b → b < e → p b ≡ true)
    → ((b : ℕ) → e ≤ b → p b ≡ q b) → filter p (range_with_len a (n - a)) ≡ range_with_len m (e - m) ++ filter q (range_with_len e (n - e))
filter_three p q a m e n first second third none each same =
    ap (filter p) (in_three a m e n first second third)
    ∙ (filter-append p (range_with_len a (m - a)) (range_with_len m (e - m) ++ range_with_len e (n - e))
    ∙ (ap (λ (bs : List ℕ). bs ++ filter p (range_with_len m (e - m) ++ range_with_len e (n - e))) (none_passes p a (m - a) (λ b low high. none b low (omega arith)))
    ∙ (filter-append p (range_with_len m (e - m)) (range_with_len e (n - e))
    ∙ (ap (λ (bs : List ℕ). bs ++ filter p (range_with_len e (n - e))) (each_passes p m (e - m) (λ b low high. each b low (omega arith)))
    ∙ ap (λ (bs : List ℕ). range_with_len m (e - m) ++ bs) (same_pass p q e (n - e) (λ b low high. same b low))))))

-- rows in order, one after another, are all numbers that one of them has
union_is : (spans : List Span) (low least n : ℕ) → least ≤ n → Ascend low spans → AllByRecursion (λ (s : Span). s.stop ≤ n) spans
    → union_from least spans ≡ filter (is_in_spans spans) (range_with_len least (n - least))
unfolding union_from
union_is [] low least n within up stops = sym (none_passes (is_in_spans []) least (n - least) (λ b low high. refl))
union_is (s ∷ spans) low least n within up stops =
    let last = stops.0 in
    let most : max least s.stop ≤ n = omega arith in
    ap (λ (bs : List ℕ). bs ++ union_from (after_span least s) spans) (next_blocks (max s.first least) s.stop least (omega arith))
    ∙ (ap (λ (bs : List ℕ). range_with_len (own_start least s) (after_span least s - own_start least s) ++ bs) (union_is spans s.first (after_span least s) n most up.1 stops.1)
    ∙ sym (filter_three (is_in_spans (s ∷ spans)) (is_in_spans spans) least (own_start least s) (after_span least s) n (omega arith) (omega arith) most
    (λ b from to. or_from (has_block b s) (is_in_spans spans b) (and_left _ _ (lt-leb s.first b (omega arith))) (none_below s.first spans up.1 b (omega arith)))
    (λ b from to. or_left (has_block b s) (is_in_spans spans b) (and_from _ _ (le-leb s.first b (omega arith)) (lt-ltb b s.stop (omega arith))))
    (λ b from. ap (λ (t : Bool). t || is_in_spans spans b) (and_right _ _ (le-ltb b s.stop (omega arith))))))

-- what one run has past the end
row_has : (b first n : ℕ) → list_any (λ d. eqb d b) (range_with_len first n) ≡ (leb first b && ltb b (first + n))
row_has b first zero = grind (arith, nat_tests)
row_has b first (suc n) = ap (λ (t : Bool). eqb first b || t) (row_has b (first + 1) n) ∙ grind (arith, nat_tests)

span_has : (b first stop : ℕ) → is_in_spans (span_between first stop) b ≡ (leb first b && ltb b stop)
span_has b first stop = by_order (ltb first stop) refl
  where
    by_order : (t : Bool) → ltb first stop ≡ t → is_in_spans (cond t (record { first = first; stop = stop } ∷ []) []) b ≡ (leb first b && ltb b stop)
    by_order true is = or_none (leb first b && ltb b stop)
      where
        or_none : (t : Bool) → (t || false) ≡ t
        or_none true = refl
        or_none false = refl
    by_order false is = grind (arith, nat_tests)

past_has : (b end target n : ℕ) → (leb (max target end) b && ltb b (target + n)) ≡ (leb end b && (leb target b && ltb b (target + n)))
past_has b end target n = grind (arith, nat_tests)

both_or : (x y z : Bool) → ((x && y) || (x && z)) ≡ (x && (y || z))
both_or true y z = refl
both_or false y z = refl

runs_have : (b end : ℕ) (runs : List Run) → is_in_spans (spans_past end runs) b ≡ (leb end b && list_any (λ d. eqb d b) (data_of_runs runs))
runs_have b end [] = sym (and_right (leb end b) false refl)
runs_have b end (r ∷ runs) =
    let mine = span_between (max r.target end) (r.target + r.length) in
    let row = range_with_len r.target r.length in
    list_any-append (has_block b) mine (spans_past end runs)
    ∙ (ap (λ (t : Bool). t || is_in_spans (spans_past end runs) b) (span_has b (max r.target end) (r.target + r.length)
    ∙ (past_has b end r.target r.length ∙ ap (λ (t : Bool). leb end b && t) (sym (row_has b r.target r.length))))
    ∙ (ap (λ (t : Bool). (leb end b && list_any (λ d. eqb d b) row) || t) (runs_have b end runs)
    ∙ (both_or (leb end b) (list_any (λ d. eqb d b) row) (list_any (λ d. eqb d b) (data_of_runs runs))
    ∙ ap (λ (t : Bool). leb end b && t) (sym (list_any-append (λ d. eqb d b) row (data_of_runs runs))))))

-- what runs have past the end is in the pool
past_within : (n end : ℕ) (runs : List Run) → AllByRecursion (IsWithin n) runs → AllByRecursion (λ (s : Span). s.stop ≤ n) (spans_past end runs)
past_within n end [] within = tt
past_within n end (r ∷ runs) within = one (ltb (max r.target end) (r.target + r.length)) (past_within n end runs within.1)
  where
    one : (t : Bool) → AllByRecursion (λ (s : Span). s.stop ≤ n) (spans_past end runs)
        → AllByRecursion (λ (s : Span). s.stop ≤ n) (cond t (record { first = max r.target end; stop = r.target + r.length } ∷ []) [] ++ spans_past end runs)
    one true rest = (within.0, rest)
    one false rest = rest

-- what runs have past the end, in order and each once, is what must be moved, where they have the data blocks that a pool maps
pub sources_are : (m : ThinPool) (end : ℕ) (runs : List Run) (spans sorted : List Span) → AllByRecursion (IsWithin m.data_blocks) runs
    → ((b : ℕ) → list_any (λ d. eqb d b) (mapped_data m) ≡ list_any (λ d. eqb d b) (data_of_runs runs)) → spans ≡ spans_past end runs → IsPermutation spans sorted
    → IsNonDecreasingBy (λ (s : Span). s.first) sorted → union_from 0 sorted ≡ sources m end
unfolding sources
sources_are m end runs spans sorted within names are same ordered =
    union_is sorted 0 0 m.data_blocks (omega arith) (ascend 0 sorted ordered (λ d some. omega arith))
    (recursion_from_All P sorted (All-permutation P spans sorted same (rw are (All-from_recursion P (spans_past end runs) (past_within m.data_blocks end runs within)))))
    ∙ (ap (λ (n : ℕ). filter (is_in_spans sorted) (range_with_len 0 n)) (let all : m.data_blocks - 0 ≡ m.data_blocks = omega arith in all)
    ∙ filter_agree (is_in_spans sorted) (λ b. leb end b && list_any (λ d. eqb d b) (mapped_data m)) (λ b.
    sym (list_any-IsPermutation (has_block b) spans sorted same)
    ∙ (ap (λ (ss : List Span). is_in_spans ss b) are ∙ (runs_have b end runs ∙ ap (λ (t : Bool). leb end b && t) (sym (names b)))))
    (range_with_len 0 m.data_blocks))
  where
    P : Span → Type 0
    P s = s.stop ≤ m.data_blocks

-- the runs of a pool that is held are in it, and have the data blocks that it maps
within_kept : (kept : Kept) → IsSoundKept kept → AllByRecursion (IsWithin (kept_pool kept).data_blocks) (leaf_runs_in kept ++ own_runs_in kept)
unfolding pool_of pool_of_shape held_shape
within_kept (Pool saved) sound = runs_within saved sound
within_kept (Shape saved) sound =
    all_append (IsWithin saved.head.blocks) saved.leaf_runs saved.runs (leaf_runs_within saved sound) (own_runs_within saved sound)

names_kept : (kept : Kept) → IsSoundKept kept → (b : ℕ)
    → list_any (λ d. eqb d b) (mapped_data (kept_pool kept)) ≡ list_any (λ d. eqb d b) (data_of_runs (leaf_runs_in kept ++ own_runs_in kept))
names_kept (Pool saved) sound b = ap (λ (ds : List ℕ). list_any (λ d. eqb d b) ds) (data_is saved sound)
names_kept (Shape saved) sound b =
    told_names b (held_shape saved) sound.shape
    ∙ ap (λ (ds : List ℕ). list_any (λ d. eqb d b) ds)
    (shape_data_is saved sound ∙ sym (flat_map-append (λ (r : Run). range_with_len r.target r.length) saved.leaf_runs saved.runs))

past_append : (end : ℕ) (runs others : List Run) → spans_past end runs ++ spans_past end others ≡ spans_past end (runs ++ others)
past_append end runs others = sym (flat_map-append (λ (r : Run). span_between (max r.target end) (r.target + r.length)) runs others)

pub sources_kept : (kept : Kept) (end : ℕ) (some all sorted : List Span) → IsSoundKept kept → some ≡ spans_past end (leaf_runs_in kept) → all ≡ some ++ spans_past end (own_runs_in kept)
    → IsPermutation all sorted → IsNonDecreasingBy (λ (s : Span). s.first) sorted → union_from 0 sorted ≡ sources (kept_pool kept) end
sources_kept kept end some all sorted sound first next same ordered =
    sources_are (kept_pool kept) end (leaf_runs_in kept ++ own_runs_in kept) all sorted (within_kept kept sound) (names_kept kept sound)
    (next ∙ (ap (λ (ss : List Span). ss ++ spans_past end (own_runs_in kept)) first ∙ past_append end (leaf_runs_in kept) (own_runs_in kept))) same ordered

-- the end of a run is a number of its type
fits_each : (blocks : ℕ) (runs : List Run) → blocks ≤ 2 ^ 40 → AllByRecursion (IsWithin blocks) runs → All (λ (r : Run). r.target + r.length < 2 ^ 64) runs
fits_each blocks runs few all i d within =
    let here = All-from_recursion (IsWithin blocks) runs all i d within in
    omega arith

pub leaf_runs_small : (kept : Kept) → IsSoundKept kept → All (λ (r : Run). r.target + r.length < 2 ^ 64) (leaf_runs_in kept)
leaf_runs_small kept sound =
    fits_each (kept_pool kept).data_blocks (leaf_runs_in kept) (lawful_kept kept sound).data_blocks_fit
    (all_first (IsWithin (kept_pool kept).data_blocks) (leaf_runs_in kept) (own_runs_in kept) (within_kept kept sound))

pub own_runs_small : (kept : Kept) → IsSoundKept kept → All (λ (r : Run). r.target + r.length < 2 ^ 64) (own_runs_in kept)
own_runs_small kept sound =
    fits_each (kept_pool kept).data_blocks (own_runs_in kept) (lawful_kept kept sound).data_blocks_fit
    (all_last (IsWithin (kept_pool kept).data_blocks) (leaf_runs_in kept) (own_runs_in kept) (within_kept kept sound))

-- one run more
past_more : (end : ℕ) (runs : List Run) (i : ℕ) (d : Run) → i < length runs
    → spans_past end (take (i + 1) runs) ≡ spans_past end (take i runs) ++ span_between (max (get_or runs i d).target end) ((get_or runs i d).target + (get_or runs i d).length)
past_more end runs i d within =
    let r = get_or runs i d in
    ap (spans_past end) (take_more runs i d within)
    ∙ (flat_map-append (λ (r : Run). span_between (max r.target end) (r.target + r.length)) (take i runs) (r ∷ [])
    ∙ ap (λ (spans : List Span). spans_past end (take i runs) ++ spans) (append-nil (span_between (max r.target end) (r.target + r.length))))

-- it is the next one that is met
module _ (runs : List Run) (i : ℕ) (r : Run) (rest : List Run) (met : drop i runs ≡ r ∷ rest) where
  pub past_met : (end : ℕ) → spans_past end (take (i + 1) runs) ≡ spans_past end (take i runs) ++ span_between (max r.target end) (r.target + r.length)
  past_met end =
      past_more end runs i r (met_within runs i r rest met)
      ∙ ap (λ (x : Run). spans_past end (take i runs) ++ span_between (max x.target end) (x.target + x.length)) (met_is runs i r rest met r)

  pub met_small : All (λ (x : Run). x.target + x.length < 2 ^ 64) runs → r.target + r.length < 2 ^ 64
  met_small small = subst (λ (x : Run). x.target + x.length < 2 ^ 64) (met_is runs i r rest met r) (small i r (met_within runs i r rest met))

-- the blocks of one row more, where these are left
pub union_more : (spans : List Span) (i least first next : ℕ) (d : Span) (old new : List ℕ) → i < length spans → first ≡ max (get_or spans i d).first least
    → next ≡ max least (get_or spans i d).stop → new ≡ old ++ blocks_between first (get_or spans i d).stop → old ++ union_from least (drop i spans) ≡ union_from 0 spans
    → new ++ union_from next (drop (i + 1) spans) ≡ union_from 0 spans
unfolding union_from
union_more spans i least first next d old new within first_is next_is new_is before =
    ap (λ (bs : List ℕ). bs ++ union_from next (drop (i + 1) spans)) new_is
    ∙ (append_assoc old (blocks_between first (get_or spans i d).stop) (union_from next (drop (i + 1) spans))
    ∙ (ap (λ (bs : List ℕ). old ++ bs) (rw (first_is, next_is, add-one, drop-cons spans i d) refl) ∙ before))

pub union_all : (spans : List Span) (i least : ℕ) (found : List ℕ) → length spans ≤ i → found ++ union_from least (drop i spans) ≡ union_from 0 spans → found ≡ union_from 0 spans
unfolding union_from
union_all spans i least found all before =
    let none : drop i spans ≡ [] = nil_from_length (drop i spans) (let rest = length-drop i spans in omega arith) in
    sym (append-nil found) ∙ (ap (λ (ss : List Span). found ++ union_from least ss) (sym none) ∙ before)

-- one block more
pub between_more : (first b : ℕ) (before old new : List ℕ) → first ≤ b → new ≡ old ++ b ∷ [] → old ≡ before ++ blocks_between first b → new ≡ before ++ blocks_between first (b + 1)
between_more first b before old new low new_is old_is =
    let at : first + (b - first) ≡ b = omega arith in
    let number : b - first + 1 ≡ b + 1 - first = omega arith in
    new_is
    ∙ (ap (λ (bs : List ℕ). bs ++ b ∷ []) old_is
    ∙ (ap (λ (k : ℕ). (before ++ range_with_len first (b - first)) ++ k ∷ []) (sym at)
    ∙ (row_more first (b - first) before ∙ ap (λ (k : ℕ). before ++ range_with_len first k) number)))
