-- Counts of ones, and the maps that store them.
use Rattle.std.proofs.Common.{◌≡◌, inl, inr, ℕ, ◌+◌, ◌<◌, ◌≤◌, [], length, refl, sym, ◌∙◌, ap, arith}
use Rattle.std.proofs.Math.Path.{fun_ext}
use Rattle.std.proofs.lemmas.Bool.{cases_eq, cases_lt, lt-ltb, le-ltb}
use Rattle.pd_kinds.specs.Bitmap.{bitmaps_for}
use Rattle.pd_grammar.specs.Need.{need_tree, need_meta_map}
use Rattle.pd_draft.specs.Closed.{DraftState, Wrote}
use Rattle.pd_count.specs.Counted.{Counted, count_of, HasCounted, CountsOneMore}
use Rattle.pd_smwrite.specs.Map.{meta_map_blocks, meta_map_need, meta_map_root, CountsOwn, HasNone}
use Rattle.pd_laws_laid.specs.Once.{ones_below}
use Rattle.pd_laws_laid.proofs.MapLemmas.{ones_overflow}

-- a one below, and none from there on
below_one : (end b : ℕ) → b < end → ones_below end b ≡ 1
unfolding ones_below
below_one end b below = rw (lt-ltb b end below) refl

pub one_new : (end b : ℕ) → end ≤ b → ones_below end b ≡ 0
unfolding ones_below
one_new end b above = rw (le-ltb b end above) refl

-- nothing was counted
pub ones_none : (counts : Counted) → HasCounted counts [] → (b : ℕ) → count_of counts b ≡ ones_below 0 b
ones_none counts none b = none b ∙ sym (one_new 0 b (omega arith))

-- the next block was counted
pub ones_more : (old new : Counted) (b : ℕ) → CountsOneMore b old new → ((c : ℕ) → count_of old c ≡ ones_below b c) → (c : ℕ) → count_of new c ≡ ones_below (b + 1) c
ones_more old new b adds ones c = elim (cases_eq c b) [
  | inl same ↦ ap (count_of new) same ∙ (adds.counted ∙ (ap (λ n. n + 1) (ones b ∙ one_new b b (omega arith)) ∙ sym (below_one (b + 1) c (omega (arith, same)))))
  | inr other ↦ adds.others c other ∙ (ones c ∙ elim (cases_lt c b) [
    | inl below ↦ below_one b c below ∙ sym (below_one (b + 1) c (omega (arith, below)))
    | inr above ↦ one_new b c above ∙ sym (one_new (b + 1) c (omega (arith, above, other)))
  ])
]

-- the map of ones needs no place for counts
pub ones_need : (counts : Counted) (end n : ℕ) → ((b : ℕ) → count_of counts b ≡ ones_below end b) → meta_map_need (count_of counts) n ≡ need_meta_map n
unfolding meta_map_need
ones_need counts end n ones =
    let is : count_of counts ≡ ones_below end = fun_ext ones in
    rw is (ap (λ (items : ℕ). 1 + (bitmaps_for n + need_tree 4 items)) (ap (λ xs. length xs) (ones_overflow end n)) ∙ omega arith)

-- none of the map's own blocks was counted
pub none_own : (counts : Counted) (end number : ℕ) → ((b : ℕ) → count_of counts b ≡ ones_below end b) → HasNone counts end number
none_own counts end number ones b above below = ones b ∙ one_new end b above

-- and then they are ones too
pub own_ones : (old new : Counted) (end number : ℕ) → CountsOwn end number old new → ((b : ℕ) → count_of old b ≡ ones_below end b)
    → count_of new ≡ ones_below (end + number)
own_ones old new end number own ones = fun_ext at
  where
    at : (b : ℕ) → count_of new b ≡ ones_below (end + number) b
    at b = elim (cases_lt b end) [
      | inl before ↦ own.others b (inl before) ∙ (ones b ∙ (below_one end b before ∙ sym (below_one (end + number) b (omega (arith, before)))))
      | inr from ↦ elim (cases_lt b (end + number)) [
        | inl within ↦ own.own b from within ∙ sym (below_one (end + number) b within)
        | inr past ↦ own.others b (inr past) ∙ (ones b ∙ (one_new end b from ∙ sym (one_new (end + number) b past)))
      ]
    ]

-- what is stored then
stored_ones : (old new : Counted) (end place number room : ℕ) → end ≡ place → number ≡ need_meta_map room → CountsOwn place number old new
    → ((b : ℕ) → count_of old b ≡ ones_below end b) → count_of new ≡ ones_below (place + need_meta_map room)
stored_ones old new end place number room here is own ones =
    own_ones old new place number own (λ b. ones b ∙ ap (λ (e : ℕ). ones_below e b) here) ∙ ap (λ (n : ℕ). ones_below (place + n)) is

pub stored_blocks : (old new : Counted) (end place number room : ℕ) (from to : DraftState) → end ≡ place → number ≡ need_meta_map room → old.size ≡ room → CountsOwn place number old new
    → ((b : ℕ) → count_of old b ≡ ones_below end b) → Wrote (meta_map_blocks (count_of new) old.size place) from to
    → Wrote (meta_map_blocks (ones_below (place + need_meta_map room)) room place) from to
stored_blocks old new end place number room from to here is size own ones wrote = rw (stored_ones old new end place number room here is own ones, size) at wrote

pub stored_root : (old new : Counted) (end place number room : ℕ) → end ≡ place → number ≡ need_meta_map room → old.size ≡ room → CountsOwn place number old new
    → ((b : ℕ) → count_of old b ≡ ones_below end b)
    → meta_map_root (count_of new) old.size place ≡ meta_map_root (ones_below (place + need_meta_map room)) room place
stored_root old new end place number room here is size own ones = rw (stored_ones old new end place number room here is own ones, size) refl
