-- The roots of fuller mapping arrays, put in their places one after the other.
use Rattle.std.proofs.Common.{◌≡◌, ℕ, zero, suc, ◌+◌, ◌-◌, ◌<◌, ◌≤◌, Bool, true, false, cond, not, ◌&&◌, ◌||◌, nat_eq, nat_lt, List, [], ◌∷◌, ◌++◌, length, map, filter, take, get_or, insert, refl, sym, ap, ap₂, ◌∙◌, subst, take-take, arith, inl, inr}
use Rattle.std.specs.List.{list_any, range_with_len}
use Rattle.std.proofs.lemmas.Bool.{cases_Bool, and_parts, ltb-true, ne_eqb}
use Rattle.std.proofs.lemmas.List.{map-append, take-map, take_more}
use Rattle.std.proofs.lemmas.List.FromFn.{get_or-map-range_with_len}
use Rattle.pd_kinds.specs.CacheFormat.{CacheFields}
use Rattle.pd_laid.specs.CacheRoots.{FullerRoot, comes_first, fuller_root, fuller_roots, has_child, is_fuller, is_fuller_root, known_words, placed_root, rooted_at, roots_in_order}
use Rattle.pd_laid.specs.SavedCache.{saved_cache_from}
use Rattle.pd_salvage_cache.specs.declared.fuller.FullerRoot.{FullerRoot as TheRoot}
use Rattle.pd_salvage_cache.specs.declared.order.Choice.{Choice}
use Rattle.pd_salvage_cache.specs.Fuller.{AreFirst, AreMarked, choice_at, comes_before, fuller_words, is_named_by, is_own, place_among, put_among, root_as, told_root}

-- the first ones of some, with one more, are told by the first ones of the others
first_again : {X : Type 0} (n : ℕ) (x : X) (xs : List X) → take n (x ∷ take n xs) ≡ take n (x ∷ xs)
first_again {X} zero x xs = refl
first_again {X} (suc n) x xs = ap (λ (rest : List X). x ∷ rest) (take-take n (suc n) xs (omega arith))

placed_first : (n : ℕ) (root : FullerRoot) (xs : List FullerRoot) → take n (placed_root root (take n xs)) ≡ take n (placed_root root xs)
placed_first zero root xs = refl
placed_first (suc n) root [] = refl
placed_first (suc n) root (x ∷ xs) = chosen (comes_first root x) (placed_first n root xs)
  where
    chosen : (b : Bool) → take n (placed_root root (take n xs)) ≡ take n (placed_root root xs)
        → take (suc n) (cond b (root ∷ x ∷ take n xs) (x ∷ placed_root root (take n xs))) ≡ take (suc n) (cond b (root ∷ x ∷ xs) (x ∷ placed_root root xs))
    chosen true rest = ap (λ (roots : List FullerRoot). root ∷ roots) (first_again n x xs)
    chosen false rest = ap (λ (roots : List FullerRoot). x ∷ roots) rest

module _ (fields : CacheFields) (image : List (List ℕ)) where
  abbrev told : Choice → FullerRoot
  told = told_root fields image

  -- a root is put into its place
  placed_is : (one : Choice) (xs : List Choice) → map told (insert xs (place_among one xs) one) ≡ placed_root (told one) (map told xs)
  placed_is one [] = refl
  placed_is one (x ∷ xs) = chosen (comes_before one x) (placed_is one xs)
    where
      chosen : (b : Bool) → map told (insert xs (place_among one xs) one) ≡ placed_root (told one) (map told xs)
          → map told (insert (x ∷ xs) (cond (not b) (1 + place_among one xs) 0) one) ≡ cond b (told one ∷ told x ∷ map told xs) (told x ∷ placed_root (told one) (map told xs))
      chosen true rest = refl
      chosen false rest =
          let place : suc (place_among one xs) ≡ 1 + place_among one xs = omega arith in
          subst (λ (n : ℕ). map told (insert (x ∷ xs) n one) ≡ told x ∷ placed_root (told one) (map told xs)) place
          (ap (λ (roots : List FullerRoot). told x ∷ roots) rest)

  -- the first ones of one block more
  module _ (words : List ℕ) (children : List Bool) (b : ℕ) (bs : List ℕ) (old new : List Choice) (are : AreFirst fields image words children bs old) where
    abbrev told_at : ℕ → FullerRoot
    told_at i = told (choice_at words i)

    abbrev others : List FullerRoot
    others = roots_in_order (map told_at (filter (is_own words children) bs))

    first_if : (skipped : Bool) → new ≡ cond skipped old (put_among old (choice_at words b))
        → map told new ≡ take 100 (roots_in_order (map told_at (cond (not skipped) (b ∷ filter (is_own words children) bs) (filter (is_own words children) bs))))
    first_if true is = ap (map told) is ∙ are
    first_if false is =
        let one = choice_at words b in
        ap (map told) is
        ∙ (sym (take-map told 100 (insert old (place_among one old) one))
        ∙ (ap (take 100) (placed_is one old ∙ ap (placed_root (told one)) are)
        ∙ placed_first 100 (told one) others))

    pub first_more : new ≡ cond (nat_eq (get_or words b 0) 0 || get_or children b false) old (put_among old (choice_at words b)) → AreFirst fields image words children (b ∷ bs) new
    first_more is = first_if (nat_eq (get_or words b 0) 0 || get_or children b false) is

-- the blocks from the last one down to one more
pub one_more : (nr passed : ℕ) → passed < nr → range_with_len (nr - (passed + 1)) (passed + 1) ≡ (nr - (passed + 1)) ∷ range_with_len (nr - passed) passed
one_more nr passed less =
    let next : nr - (passed + 1) + 1 ≡ nr - passed = omega arith in
    let more : passed + 1 ≡ suc passed = omega arith in
    ap (range_with_len (nr - (passed + 1))) more ∙ ap (λ (first : ℕ). (nr - (passed + 1)) ∷ range_with_len first passed) next

-- what is made alike of numbers that are kept alike
made_alike : {X : Type 0} (f g : ℕ → X) (p q : ℕ → Bool) (a n : ℕ) → ((i : ℕ) → a ≤ i → i < a + n → p i ≡ q i) → ((i : ℕ) → a ≤ i → i < a + n → q i ≡ true → f i ≡ g i)
    → map f (filter p (range_with_len a n)) ≡ map g (filter q (range_with_len a n))
made_alike {X} f g p q a zero kept made = refl
made_alike {X} f g p q a (suc n) kept made =
    let rest = made_alike f g p q (a + 1) n (λ i from below. kept i (omega arith) (omega arith)) (λ i from below. made i (omega arith) (omega arith)) in
    elim (cases_Bool (q a)) [
      | inl kept_here ↦
          let here = kept a (omega arith) (omega arith) ∙ kept_here in
          rw (here, kept_here) (ap₂ (λ (x : X) (xs : List X). x ∷ xs) (made a (omega arith) (omega arith) kept_here) rest)
      | inr left_out ↦
          let here = kept a (omega arith) (omega arith) ∙ left_out in
          rw (here, left_out) rest
    ]

any_alike : (p q : ℕ → Bool) (a n : ℕ) → ((i : ℕ) → a ≤ i → i < a + n → p i ≡ q i) → list_any p (range_with_len a n) ≡ list_any q (range_with_len a n)
any_alike p q a zero same = refl
any_alike p q a (suc n) same =
    ap₂ (λ (x y : Bool). x || y) (same a (omega arith) (omega arith)) (any_alike p q (a + 1) n (λ i from below. same i (omega arith) (omega arith)))

-- a fuller array has some words
some_words : (fields : CacheFields) (image : List (List ℕ)) (b : ℕ) → nat_eq (fuller_words fields image b) 0 ≡ not (is_fuller fields image b)
unfolding is_fuller
some_words fields image b = by_more (known_words fields image) (known_words (rooted_at fields b) image) _
  where
    by_more : (known words : ℕ) (others : Bool) → nat_eq (cond (nat_lt known words && others) words 0) 0 ≡ not (nat_lt known words && others)
    by_more known words true = elim (cases_Bool (nat_lt known words)) [
      | inl more ↦
          let less = ltb-true known words more in
          rw more (ne_eqb words 0 (λ none. absurd (omega arith)))
      | inr few ↦ rw few refl
    ]
    by_more known words false = elim (cases_Bool (nat_lt known words)) [
      | inl more ↦ rw more refl
      | inr few ↦ rw few refl
    ]

not_twice : (b : Bool) → not (not b) ≡ b
not_twice true = refl
not_twice false = refl

not_either : (a b : Bool) → not (not a || b) ≡ (a && not b)
not_either true b = refl
not_either false b = refl

-- in the end they are those of all blocks
module _ (fields : CacheFields) (image : List (List ℕ)) (words : List ℕ) (children : List Bool)
    (table : words ≡ map (fuller_words fields image) (range_with_len 0 fields.meta_map.blocks)) (marked : AreMarked image words fields.meta_map.blocks children)
    (long : length children ≡ fields.meta_map.blocks) where
  abbrev nr : ℕ
  nr = fields.meta_map.blocks

  word_is : (b : ℕ) → b < nr → get_or words b 0 ≡ fuller_words fields image b
  word_is b within =
      let here : 0 + b ≡ b = omega arith in
      ap (λ (ws : List ℕ). get_or ws b 0) table ∙ get_or-map-range_with_len (fuller_words fields image) 0 nr b b 0 within here

  named_is : (c other : ℕ) → other < nr → is_named_by image words c other ≡ (not (nat_eq other c) && (is_fuller fields image other && has_child image other c))
  named_is c other within =
      let some : not (nat_eq (get_or words other 0) 0) ≡ is_fuller fields image other =
      ap (λ (n : ℕ). not (nat_eq n 0)) (word_is other within) ∙ (ap not (some_words fields image other) ∙ not_twice (is_fuller fields image other)) in
      ap (λ (b : Bool). not (nat_eq other c) && (b && has_child image other c)) some

  own_is : (b : ℕ) → b < nr → is_own words children b ≡ is_fuller_root fields image b
  unfolding is_fuller_root
  own_is b within =
      let zeros = ap (λ (n : ℕ). nat_eq n 0) (word_is b within) ∙ some_words fields image b in
      let below : b < length children = omega arith in
      let named = marked b below ∙ any_alike (is_named_by image words b) (λ other. not (nat_eq other b) && (is_fuller fields image other && has_child image other b)) 0 nr (λ other from less. named_is b other (omega arith)) in
      ap₂ (λ (x y : Bool). not (x || y)) zeros named ∙ not_either (is_fuller fields image b) _

  root_is : (b : ℕ) → b < nr → is_fuller_root fields image b ≡ true → told_root fields image (choice_at words b) ≡ fuller_root fields image b
  unfolding is_fuller_root fuller_root
  root_is b within own =
      let fuller = (and_parts (is_fuller fields image b) _ own).0 in
      let number : get_or words b 0 ≡ known_words (rooted_at fields b) image = word_is b within ∙ rw fuller refl in
      ap (λ (n : ℕ). told_root fields image (record { root = b; words = n })) number

  pub first_are : (choices : List Choice) → AreFirst fields image words children (range_with_len 0 nr) choices → map (told_root fields image) choices ≡ fuller_roots fields image
  unfolding fuller_roots
  first_are choices first =
      first
      ∙ ap (λ (roots : List FullerRoot). take 100 (roots_in_order roots))
      (made_alike (λ b. told_root fields image (choice_at words b)) (fuller_root fields image) (is_own words children) (is_fuller_root fields image) 0 nr
      (λ b from below. own_is b (omega arith)) (λ b from below own. root_is b (omega arith) own))

-- one root more is told
pub told_more : (told : Choice → FullerRoot) (choices : List Choice) (i : ℕ) (d : Choice) (old new : List TheRoot) (root : TheRoot) → i < length choices → map root_as old ≡ map told (take i choices)
    → root_as root ≡ told (get_or choices i d) → new ≡ old ++ root ∷ [] → map root_as new ≡ map told (take (i + 1) choices)
told_more told choices i d old new root within before same is =
    ap (map root_as) is
    ∙ (map-append root_as old (root ∷ [])
    ∙ (ap₂ (λ (roots : List FullerRoot) (r : FullerRoot). roots ++ r ∷ []) before same
    ∙ (sym (map-append told (take i choices) (get_or choices i d ∷ [])) ∙ ap (map told) (sym (take_more choices i d within)))))

pub told_by : (fields : CacheFields) (image : List (List ℕ)) (one : Choice) (n : ℕ) → n ≡ length (saved_cache_from (rooted_at fields one.root) image).entries
    → root_as (record { root = one.root; words = one.words; entries = n }) ≡ told_root fields image one
told_by fields image one n is = rw is refl
