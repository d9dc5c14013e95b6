-- What a cached device reads while the hot blocks are copied to its origin, and when they all are.
use Rattle.std.proofs.Common.{◌≡◌, inl, inr, ℕ, suc, ◌+◌, ◌-◌, ◌*◌, ◌<◌, ◌≤◌, Bool, true, false, nat_le, nat_lt, nat_eq, max, List, [], ◌∷◌, map, filter, fold, Option, Some, None, IfSome, refl, sym, arith, eq-eqb, leb-true, ltb-true, le_trans, le_refl, ap, zero, length, get_or, ap₂, ◌∙◌}
use Rattle.std.specs.List.{AllByRecursion, list_any, slice_get, range_with_len}
use Rattle.std.proofs.Math.Nat.{le-max_left, le-max_right, mul-le-mul_right, suc-mul}
use Rattle.std.proofs.lemmas.Bool.{cases_Bool, cases_lt, and_from, and_parts, eqb-false, le-leb, lt-ltb, or_parts, or_right, both_ways}
use Rattle.std.proofs.lemmas.Option.{none-some, same_Some, slice_get-get_or, slice_get_past}
use Rattle.std.specs.Option.{option_and_then, unwrap_or}
use Rattle.std.proofs.lemmas.List.FromFn.{get_or-map-range_with_len, length-map-range_with_len}
use Rattle.pd_kinds.specs.Meaning.{CacheEntry}
use Rattle.pd_kinds.specs.Whole.{has_repeat}
use Rattle.pd_kinds.specs.Graph.{block_at}
use Rattle.pd_kinds.proofs.ListLemmas.{all_from}
use Rattle.pd_answers.specs.Writebacks.{CachedBlock, cached_block, fast_need, fast_place, stands_for, overlaid, overlaid_block, KeepsOthers}
use Rattle.pd_laws_changed.specs.Premises.{IsSameOnBoth, IsOver}

-- Which block of the fast device stands for a block of the origin: by all cached blocks, and by some of them, where no two have one
-- origin.

-- a block that a cached block stands for lies within it
record IsWithin (k : ℕ) (c : CachedBlock) (b : ℕ) : Type 0 where
  pub from : c.origin_block * k ≤ b
  pub below : b < c.origin_block * k + k

one_more : (n k : ℕ) → (n + 1) * k ≡ n * k + k
one_more n k = grind arith

within : (k : ℕ) (c : CachedBlock) (b : ℕ) → stands_for k c b ≡ true → IsWithin k c b
within k c b stands =
    let parts = and_parts (nat_le (c.origin_block * k) b) (nat_lt b ((c.origin_block + 1) * k)) stands in
    let next : (c.origin_block + 1) * k ≡ c.origin_block * k + k = one_more c.origin_block k in
    record { from = leb-true _ _ parts.0; below = rw next at (ltb-true _ _ parts.1) }

-- one that begins where another does, or before it, isn't behind it
not_behind : (n m k b : ℕ) → n * k ≤ b → b < m * k + k → n ≤ m
not_behind n m k b from below = elim (cases_lt m n) [
  | inl behind ↦
      let more : suc m * k ≤ n * k = mul-le-mul_right k behind in
      let ends : suc m * k ≡ m * k + k = suc-mul m k in
      absurd (omega arith)
  | inr is ↦ is
]

-- so two that stand for one block have one origin
one_origin : (k : ℕ) (c d : CachedBlock) (b : ℕ) → stands_for k c b ≡ true → stands_for k d b ≡ true → c.origin_block ≡ d.origin_block
one_origin k c d b first second =
    let one = within k c b first in
    let other = within k d b second in
    let up = not_behind c.origin_block d.origin_block k b one.from other.below in
    let down = not_behind d.origin_block c.origin_block k b other.from one.below in
    omega arith

module _ (k b : ℕ) (test : CacheEntry → Bool) where
  -- the place by the entries that pass, by those that don't, and by all
  abbrev by_some : List CacheEntry → Option ℕ
  by_some es = fast_place k (map cached_block (filter test es)) b

  abbrev by_all : List CacheEntry → Option ℕ
  by_all es = fast_place k (map cached_block es) b

  -- where one of those that pass has the block, its origin is that of an entry that has it
  has_origin : (e : CacheEntry) (es : List CacheEntry) (p : ℕ) → stands_for k (cached_block e) b ≡ true → by_some es ≡ Some p
      → list_any (λ o. nat_eq o e.origin) (map (λ (f : CacheEntry). f.origin) es) ≡ true
  unfolding fast_place
  has_origin e [] p stands found = absurd (none-some p found)
  has_origin e (f ∷ fs) p stands found = elim (cases_Bool (test f)) [
    | inr fails ↦ or_right (nat_eq f.origin e.origin) _ (has_origin e fs p stands (rw fails at found))
    | inl passes ↦ elim (cases_Bool (stands_for k (cached_block f) b)) [
      | inl also ↦ rw (eq-eqb f.origin e.origin (one_origin k (cached_block f) (cached_block e) b also stands)) refl
      | inr other ↦ or_right (nat_eq f.origin e.origin) _ (has_origin e fs p stands (rw (passes, other) at found))
    ]
  ]

  -- the place by those that pass is the place by all
  pub place_by_all : (es : List CacheEntry) (p : ℕ) → has_repeat (map (λ (e : CacheEntry). e.origin) es) ≡ false → by_some es ≡ Some p → by_all es ≡ Some p
  unfolding fast_place has_repeat
  place_by_all [] p single found = absurd (none-some p found)
  place_by_all (e ∷ es) p single found =
      let parts = or_parts (list_any (λ o. nat_eq o e.origin) (map (λ (f : CacheEntry). f.origin) es)) (has_repeat (map (λ (f : CacheEntry). f.origin) es)) single in
      elim (cases_Bool (stands_for k (cached_block e) b)) [
        | inl stands ↦ elim (cases_Bool (test e)) [
          | inl passes ↦ rw stands (rw (passes, stands) at found)
          | inr fails ↦ absurd (both_ways _ parts.0 (has_origin e es p stands (rw fails at found)))
        ]
        | inr other ↦ rw other (place_by_all es p parts.1 (elim (cases_Bool (test e)) [
          | inl passes ↦ rw (passes, other) at found
          | inr fails ↦ rw fails at found
        ]))
      ]

  -- what a cached block that has the block is on both devices
  here : (origin fast : List (List ℕ)) (e : CacheEntry) (p : ℕ) → stands_for k (cached_block e) b ≡ true → Some (e.block * k + (b - e.origin * k)) ≡ Some p → IsSameOnBoth k origin fast e
      → IfSome (slice_get fast p) (λ cached. IfSome (slice_get origin b) (λ old. cached ≡ old))
  here origin fast e p stands is same =
      let inside = within k (cached_block e) b stands in
      let from = inside.from in
      let below = inside.below in
      let place : e.origin * k + (b - e.origin * k) ≡ b = omega arith in
      rw (← same_Some _ _ is) (rw place at (same (b - e.origin * k) (omega arith)))

  -- where none of those that pass has the block, the place by all is one by the others, which are the same on both devices
  pub place_by_others : (origin fast : List (List ℕ)) (es : List CacheEntry) (p : ℕ) → by_some es ≡ None → by_all es ≡ Some p
      → AllByRecursion (λ e. test e ≡ false → IsSameOnBoth k origin fast e) es
      → IfSome (slice_get fast p) (λ cached. IfSome (slice_get origin b) (λ old. cached ≡ old))
  unfolding fast_place
  place_by_others origin fast [] p none found same = absurd (none-some p found)
  place_by_others origin fast (e ∷ es) p none found same = elim (cases_Bool (stands_for k (cached_block e) b)) [
    | inl stands ↦ elim (cases_Bool (test e)) [
      | inl passes ↦ absurd (none-some _ (sym (rw (passes, stands) at none)))
      | inr fails ↦ here origin fast e p stands (rw stands at found) (same.0 fails)
    ]
    | inr other ↦ place_by_others origin fast es p (elim (cases_Bool (test e)) [
      | inl passes ↦ rw (passes, other) at none
      | inr fails ↦ rw fails at none
    ]) (rw other at found) same.1
  ]

-- a greatest number is no lower than what it began with
pub from_first : (first : ℕ) (xs : List ℕ) → first ≤ fold max first xs
from_first first [] = le_refl first
from_first first (x ∷ xs) = le_trans (le-max_left first x) (from_first (max first x) xs)

-- the fast device that is needed has the place
below_need : (k b least : ℕ) (cached : List CachedBlock) (p : ℕ) → fast_place k cached b ≡ Some p
    → p < fold max least (map (λ (c : CachedBlock). (c.cache_block + 1) * k) cached)
unfolding fast_place
below_need k b least [] p found = absurd (none-some p found)
below_need k b least (c ∷ cs) p found = elim (cases_Bool (stands_for k c b)) [
  | inl stands ↦
      let inside = within k c b stands in
      let from = inside.from in
      let below = inside.below in
      let is : c.cache_block * k + (b - c.origin_block * k) ≡ p = same_Some _ _ (rw stands at found) in
      let ends = one_more c.cache_block k in
      let first = le-max_right least ((c.cache_block + 1) * k) in
      let greatest = from_first (max least ((c.cache_block + 1) * k)) (map (λ (d : CachedBlock). (d.cache_block + 1) * k) cs) in
      omega arith
  | inr other ↦ below_need k b (max least ((c.cache_block + 1) * k)) cs p (rw other at found)
]

pub place_is_there : (k b : ℕ) (cached : List CachedBlock) (p : ℕ) → fast_place k cached b ≡ Some p → p < fast_need k cached
place_is_there k b cached p found = below_need k b 0 cached p found

-- a cached block stands for the blocks that it has
pub stands_here : (k : ℕ) (c : CachedBlock) (j : ℕ) → j < k → stands_for k c (c.origin_block * k + j) ≡ true
stands_here k c j below =
    let ends = one_more c.origin_block k in
    and_from (nat_le (c.origin_block * k) (c.origin_block * k + j)) (nat_lt (c.origin_block * k + j) ((c.origin_block + 1) * k)) (le-leb _ _ (omega arith)) (lt-ltb _ _ (omega arith))

-- and for those of no other origin
pub stands_not : (k : ℕ) (c : CachedBlock) (n j : ℕ) → j < k → (n ≡ c.origin_block → ⊥) → stands_for k c (n * k + j) ≡ false
stands_not k c n j below apart = elim (cases_Bool (stands_for k c (n * k + j))) [
  | inl also ↦
      let other : CachedBlock = record { cache_block = 0; origin_block = n } in
      absurd (apart (one_origin k other c (n * k + j) (stands_here k other j below) also))
  | inr not_there ↦ not_there
]

module _ (k : ℕ) (test : CacheEntry → Bool) where
  -- the place of each block of an entry that passes
  abbrev pub HasItsPlace : List CacheEntry → CacheEntry → Type 0
  HasItsPlace es e = test e ≡ true → (j : ℕ) → j < k → fast_place k (map cached_block (filter test es)) (e.origin * k + j) ≡ Some (e.block * k + j)

  -- one more entry in front, with another origin than these
  behind_one : (e : CacheEntry) (es fs : List CacheEntry) → list_any (λ o. nat_eq o e.origin) (map (λ (f : CacheEntry). f.origin) fs) ≡ false
      → AllByRecursion (HasItsPlace es) fs → AllByRecursion (HasItsPlace (e ∷ es)) fs
  unfolding fast_place
  behind_one e es [] apart all = tt
  behind_one e es (f ∷ fs) apart all =
      let parts = or_parts (nat_eq f.origin e.origin) (list_any (λ o. nat_eq o e.origin) (map (λ (g : CacheEntry). g.origin) fs)) apart in (
        λ passes j below. elim (cases_Bool (test e)) [
          | inl first ↦ rw (first, stands_not k (cached_block e) f.origin j below (eqb-false f.origin e.origin parts.0)) (all.0 passes j below)
          | inr other ↦ rw other (all.0 passes j below)
        ],
        behind_one e es fs parts.1 all.1,
      )

  pub own_places : (es : List CacheEntry) → has_repeat (map (λ (e : CacheEntry). e.origin) es) ≡ false → AllByRecursion (HasItsPlace es) es
  unfolding fast_place has_repeat
  own_places [] single = tt
  own_places (e ∷ es) single =
      let parts = or_parts (list_any (λ o. nat_eq o e.origin) (map (λ (f : CacheEntry). f.origin) es)) (has_repeat (map (λ (f : CacheEntry). f.origin) es)) single in (
        λ passes j below.
            let place : e.block * k + (e.origin * k + j - e.origin * k) ≡ e.block * k + j = omega arith in
            rw (passes, stands_here k (cached_block e) j below) (ap Some place),
        behind_one e es es parts.0 (own_places es parts.1),
      )

-- a range is mapped to the same where each of its numbers is
pub range_same : {X : Type 0} → (f g : ℕ → X) (a n : ℕ) → ((i : ℕ) → i < a + n → f i ≡ g i) → map f (range_with_len a n) ≡ map g (range_with_len a n)
range_same f g a zero same = refl
range_same f g a (suc n) same = ap₂ (λ y ys. y ∷ ys) (same a (omega arith)) (range_same f g (a + 1) n (λ i below. same i (omega arith)))

-- an optional value, by its cases
pub data IsOne {X : Type 0} (o : Option X) : Type 0 where
  nothing : o ≡ None → IsOne o
  just : (x : X) → o ≡ Some x → IsOne o

pub which : {X : Type 0} (o : Option X) → IsOne o
which None = nothing refl
which (Some x) = just x refl

module _ (k : ℕ) (fast : List (List ℕ)) where
  -- what is read is the same where each block of the origin is
  pub overlaid_same : (first second : List CachedBlock) (origin other : List (List ℕ)) → length other ≡ length origin
      → ((b : ℕ) → b < length origin → overlaid_block k first other fast b ≡ overlaid_block k second origin fast b)
      → overlaid k first other fast ≡ overlaid k second origin fast
  unfolding overlaid
  overlaid_same first second origin other number same = rw number (range_same _ _ 0 (length origin) (λ b below. same b (omega arith)))

  -- a block that no cached block stands for, and one that one of them does
  pub not_cached : (cached : List CachedBlock) (origin : List (List ℕ)) (b : ℕ) → fast_place k cached b ≡ None → overlaid_block k cached origin fast b ≡ block_at origin b
  not_cached cached origin b none = rw none refl

  pub is_cached : (cached : List CachedBlock) (origin : List (List ℕ)) (b p : ℕ) → fast_place k cached b ≡ Some p
      → overlaid_block k cached origin fast b ≡ unwrap_or (slice_get fast p) (block_at origin b)
  is_cached cached origin b p found = rw found refl

  -- with cached blocks over it, an origin keeps the others
  pub overlaid_keeps : (cached : List CachedBlock) (origin : List (List ℕ)) → KeepsOthers k cached origin (overlaid k cached origin fast)
  unfolding overlaid
  overlaid_keeps cached origin = record {
    number = length-map-range_with_len (overlaid_block k cached origin fast) 0 (length origin);
    others = λ b none. elim (cases_lt b (length origin)) [
      | inl below ↦
          let many = length-map-range_with_len (overlaid_block k cached origin fast) 0 (length origin) in
          slice_get-get_or (map (overlaid_block k cached origin fast) (range_with_len 0 (length origin))) b [] (omega arith)
          ∙ (ap Some (get_or-map-range_with_len (overlaid_block k cached origin fast) 0 (length origin) b b [] below (omega arith) ∙ (not_cached cached origin b none ∙ there origin b below))
          ∙ sym (slice_get-get_or origin b [] below))
      | inr past ↦
          let many = length-map-range_with_len (overlaid_block k cached origin fast) 0 (length origin) in
          slice_get_past (map (overlaid_block k cached origin fast) (range_with_len 0 (length origin))) b (omega arith)
          ∙ sym (slice_get_past origin b past)
    ];
  }
    where
      there : (origin : List (List ℕ)) (b : ℕ) → b < length origin → block_at origin b ≡ get_or origin b []
      there origin b below = ap (λ o. unwrap_or o []) (slice_get-get_or origin b [] below)

  module _ (test : CacheEntry → Bool) (es : List CacheEntry) where
    abbrev some : List CachedBlock
    some = map cached_block (filter test es)

    abbrev all : List CachedBlock
    all = map cached_block es

    -- some of the cached blocks are being copied: with all of them over it the origin reads the same
    same_block : (origin left : List (List ℕ)) → has_repeat (map (λ (e : CacheEntry). e.origin) es) ≡ false → fast_need k some ≤ length fast → KeepsOthers k some origin left
        → (b : ℕ) → overlaid_block k all left fast b ≡ overlaid_block k all origin fast b
    same_block origin left single room keeps b = elim (which (fast_place k some b)) [
      | nothing none ↦ ap (λ block. unwrap_or (option_and_then (slice_get fast) (fast_place k all b)) block) (ap (λ o. unwrap_or o []) (keeps.others b none))
      | just p found ↦
          let everywhere = place_by_all k b test es p single found in
          let below = place_is_there k b some p found in
          let is : slice_get fast p ≡ Some (get_or fast p []) = slice_get-get_or fast p [] (omega arith) in
          is_cached all left b p everywhere ∙ (rw is refl ∙ sym (is_cached all origin b p everywhere))
    ]

    pub copying_same : (origin left : List (List ℕ)) → has_repeat (map (λ (e : CacheEntry). e.origin) es) ≡ false → fast_need k some ≤ length fast → KeepsOthers k some origin left
        → overlaid k all left fast ≡ overlaid k all origin fast
    copying_same origin left single room keeps = overlaid_same all all origin left keeps.number (λ b _. same_block origin left single room keeps b)

    -- they all are, and the others are the same on both devices: with all of the cached blocks over it the origin is the same
    same_alone : (origin : List (List ℕ)) → has_repeat (map (λ (e : CacheEntry). e.origin) es) ≡ false
        → AllByRecursion (λ e. test e ≡ false → IsSameOnBoth k origin fast e) es
        → (b : ℕ) → b < length origin → overlaid_block k some origin fast b ≡ overlaid_block k all origin fast b
    same_alone origin single agree b below = elim (which (fast_place k some b)) [
      | just p found ↦ is_cached some origin b p found ∙ sym (is_cached all origin b p (place_by_all k b test es p single found))
      | nothing none ↦ not_cached some origin b none ∙ sym (elim (which (fast_place k all b)) [
        | nothing nowhere ↦ not_cached all origin b nowhere
        | just p found ↦ is_cached all origin b p found ∙ read_same origin b p below (place_by_others k b test origin fast es p none found agree)
      ])
    ]
      where
        read_same : (origin : List (List ℕ)) (b p : ℕ) → b < length origin → IfSome (slice_get fast p) (λ cached. IfSome (slice_get origin b) (λ old. cached ≡ old))
            → unwrap_or (slice_get fast p) (block_at origin b) ≡ block_at origin b
        read_same origin b p below same = elim (which (slice_get fast p)) [
          | nothing none ↦ rw none refl
          | just cached is ↦
              let there = slice_get-get_or origin b [] below in
              let equal : cached ≡ get_or origin b [] = rw (is, there) at same in
              rw (is, there) equal
        ]

    pub alone_same : (origin : List (List ℕ)) → has_repeat (map (λ (e : CacheEntry). e.origin) es) ≡ false
        → AllByRecursion (λ e. test e ≡ false → IsSameOnBoth k origin fast e) es
        → overlaid k some origin fast ≡ overlaid k all origin fast
    alone_same origin single agree = overlaid_same some all origin origin refl (same_alone origin single agree)

    -- each block of an entry that passes stands in its place
    pub over_each : (origin : List (List ℕ)) → has_repeat (map (λ (e : CacheEntry). e.origin) es) ≡ false
        → AllByRecursion (λ e. test e ≡ true → IsOver k origin fast (overlaid k some origin fast) e) es
    unfolding overlaid
    over_each origin single =
        all_from (HasItsPlace k test es) (λ e. test e ≡ true → IsOver k origin fast (overlaid k some origin fast) e)
        (λ e placed passes j below here there.
        let number = length-map-range_with_len (overlaid_block k some origin fast) 0 (length origin) in
        let is : slice_get fast (e.block * k + j) ≡ Some (get_or fast (e.block * k + j) []) = slice_get-get_or fast (e.block * k + j) [] there in
        slice_get-get_or (map (overlaid_block k some origin fast) (range_with_len 0 (length origin))) (e.origin * k + j) [] (omega arith)
        ∙ (ap Some (get_or-map-range_with_len (overlaid_block k some origin fast) 0 (length origin) (e.origin * k + j) (e.origin * k + j) [] here (omega arith)
        ∙ (is_cached some origin (e.origin * k + j) (e.block * k + j) (placed passes j below) ∙ ap (λ o. unwrap_or o (block_at origin (e.origin * k + j))) is))
        ∙ sym is))
        es (own_places k test es single)
