-- What one use more does to what is noted of the blocks, and to the tallies.
use Rattle.std.proofs.Common.{◌≡◌, ◌≢◌, ℕ, suc, ◌+◌, ◌-◌, ◌^◌, ◌<◌, ◌≤◌, min, Bool, true, false, ◌&&◌, cond, nat_eq, nat_lt, List, [], ◌∷◌, ◌++◌, map, filter, length, get_or, refl, sym, ap, ◌∙◌, subst, lit≤, arith, inl, inr, eq-eqb, length-append, get_or-set_same, get_or-set_other}
use Rattle.std.specs.List.{AllByRecursion}
use Rattle.std.proofs.lemmas.Bool.{cases_Bool, cases_eq, cases_lt, eqb-true, lt-ltb, le-ltb, ne_eqb, true≢false}
use Rattle.std.proofs.lemmas.List.{get_or_at, get_or_past, get_or_append_left}
use Rattle.std.proofs.lemmas.Map.Steps.{length-le_from_distinct_below}
use Rattle.pd_count.specs.Counted.{Counted, count_of, PutsNumber}
use Rattle.pd_uses.specs.ListWalk.{IsTallied, IsUser, is_alone, lowered_at, number_at, raised_at, times, times_at}
use Rattle.pd_uses.proofs.CountLemmas.{below_if_there, distinct_if_once, filter_mapped, number_more}

-- what is tallied where a kind of blocks is another at one block
kind_changed : (place b : ℕ) (kind kind' : ℕ → Bool) → ((c : ℕ) → c ≢ b → kind' c ≡ kind c) → (uses : List (ℕ × ℕ))
    → number_at place kind' uses + cond (kind b) (times_at place uses b) 0 ≡ number_at place kind uses + cond (kind' b) (times_at place uses b) 0
kind_changed place b kind kind' others [] = elim (cases_Bool (kind b)) [
  | inl was ↦ elim (cases_Bool (kind' b)) [
    | inl is ↦ rw (was, is) refl
    | inr is ↦ rw (was, is) refl
  ]
  | inr was ↦ elim (cases_Bool (kind' b)) [
    | inl is ↦ rw (was, is) refl
    | inr is ↦ rw (was, is) refl
  ]
]
kind_changed place b kind kind' others (one ∷ uses) =
    let so_far = kind_changed place b kind kind' others uses in
    elim (cases_Bool (nat_eq one.0 place)) [
      | inr away ↦ rw away so_far
      | inl here ↦ elim (cases_eq one.1 b) [
        | inr other ↦ elim (cases_Bool (kind one.1)) [
          | inl counts ↦ rw (here, ne_eqb one.1 b other, others one.1 other, counts) (omega (arith, so_far))
          | inr fails ↦ rw (here, ne_eqb one.1 b other, others one.1 other, fails) so_far
        ]
        | inl same ↦ elim (cases_Bool (kind b)) [
          | inl was ↦ elim (cases_Bool (kind' b)) [
            | inl is ↦ let now = rw (was, is) at so_far in rw (here, same, eq-eqb b b refl, was, is) (omega (arith, now))
            | inr is ↦ let now = rw (was, is) at so_far in rw (here, same, eq-eqb b b refl, was, is) (omega (arith, now))
          ]
          | inr was ↦ elim (cases_Bool (kind' b)) [
            | inl is ↦ let now = rw (was, is) at so_far in rw (here, same, eq-eqb b b refl, was, is) (omega (arith, now))
            | inr is ↦ let now = rw (was, is) at so_far in rw (here, same, eq-eqb b b refl, was, is) (omega (arith, now))
          ]
        ]
      ]
    ]

-- whether a block below the size is alone
alone_below : (size : ℕ) (uses : List (ℕ × ℕ)) (b n : ℕ) → b < size → times uses b ≡ n → is_alone size uses b ≡ nat_eq n 1
alone_below size uses b n inside is = rw (lt-ltb b size inside, is) refl

alone_past : (size : ℕ) (uses : List (ℕ × ℕ)) (b : ℕ) → size ≤ b → is_alone size uses b ≡ false
alone_past size uses b past = rw (le-ltb b size past) refl

-- blocks that stand in a list once are no more than a number that they are below
kept_once : (kind : ℕ → Bool) (b : ℕ) (xs : List ℕ) → length (filter (λ x. nat_eq x b) (filter kind xs)) ≡ cond (kind b) (length (filter (λ x. nat_eq x b) xs)) 0
kept_once kind b [] = elim (cases_Bool (kind b)) [
  | inl is ↦ rw is refl
  | inr is ↦ rw is refl
]
kept_once kind b (x ∷ xs) =
    let so_far = kept_once kind b xs in
    elim (cases_eq x b) [
      | inl same ↦ elim (cases_Bool (kind b)) [
        | inl is ↦ let now = rw is at so_far in rw (same, is, eq-eqb b b refl) (ap suc now)
        | inr is ↦ rw (same, is) (rw is at so_far)
      ]
      | inr other ↦ elim (cases_Bool (kind x)) [
        | inl is ↦ rw (is, ne_eqb x b other) so_far
        | inr is ↦ rw (is, ne_eqb x b other) so_far
      ]
    ]

kept_below : (kind : ℕ → Bool) (size : ℕ) → ((b : ℕ) → kind b ≡ true → b < size) → (xs : List ℕ) → AllByRecursion (λ x. x < size) (filter kind xs)
kept_below kind size below [] = tt
kept_below kind size below (x ∷ xs) = elim (cases_Bool (kind x)) [
  | inl is ↦ rw is (below x is, kept_below kind size below xs)
  | inr is ↦ rw is (kept_below kind size below xs)
]

number_of_kind : (place : ℕ) (kind : ℕ → Bool) (uses : List (ℕ × ℕ)) → number_at place kind uses ≤ length (filter (λ (one : ℕ × ℕ). kind one.1) uses)
number_of_kind place kind [] = lit≤ tt
number_of_kind place kind (one ∷ uses) =
    let so_far = number_of_kind place kind uses in
    elim (cases_Bool (kind one.1)) [
      | inl is ↦ elim (cases_Bool (nat_eq one.0 place)) [
        | inl here ↦ rw (is, here) (omega (arith, so_far))
        | inr away ↦ rw (is, away) (omega (arith, so_far))
      ]
      | inr is ↦ elim (cases_Bool (nat_eq one.0 place)) [
        | inl here ↦ rw (is, here) so_far
        | inr away ↦ rw (is, away) so_far
      ]
    ]

-- so a tally is no more than the number of blocks
tally_few : (size place : ℕ) (uses : List (ℕ × ℕ)) → number_at place (is_alone size uses) uses ≤ size
tally_few size place uses =
    let blocks = map (λ (one : ℕ × ℕ). one.1) uses in
    let kind = is_alone size uses in
    let below = kept_below kind size below_if_alone blocks in
    let most = length-le_from_distinct_below (filter kind blocks) size (distinct_if_once (filter kind blocks) once) (below_if_there size (filter kind blocks) below) in
    omega (arith, most, number_of_kind place kind uses, filter_mapped (λ (one : ℕ × ℕ). one.1) kind uses)
  where
    below_if_alone : (b : ℕ) → is_alone size uses b ≡ true → b < size
    below_if_alone b alone = elim (cases_lt b size) [
      | inl inside ↦ inside
      | inr past ↦ absurd (true≢false (sym alone ∙ alone_past size uses b past))
    ]

    once : (b : ℕ) → length (filter (λ x. nat_eq x b) (filter (is_alone size uses) (map (λ (one : ℕ × ℕ). one.1) uses))) ≤ 1
    once b =
        let kept = kept_once (is_alone size uses) b (map (λ (one : ℕ × ℕ). one.1) uses) in
        let all = filter_mapped (λ (one : ℕ × ℕ). one.1) (λ x. nat_eq x b) uses in
        elim (cases_Bool (is_alone size uses b)) [
          | inl alone ↦
              let one = eqb-true (times uses b) 1 (sym (alone_below size uses b (times uses b) (below_if_alone b alone) refl) ∙ alone) in
              let same = rw alone at kept in
              omega arith
          | inr fails ↦ let none = rw fails at kept in omega arith
        ]

-- one use more, of a block by the device at a place
module _ (size : ℕ) (uses : List (ℕ × ℕ)) (place b : ℕ) where
  abbrev more : List (ℕ × ℕ)
  more = uses ++ ((place, b) ∷ [])

  times_same : times more b ≡ times uses b + 1
  times_same = number_more (λ (one : ℕ × ℕ). nat_eq one.1 b) uses (place, b) ∙ ap (λ t. times uses b + cond t 1 0) (eq-eqb b b refl)

  times_other : (c : ℕ) → c ≢ b → times more c ≡ times uses c
  times_other c other =
      let is : times more c ≡ times uses c + 0 = number_more (λ (one : ℕ × ℕ). nat_eq one.1 c) uses (place, b) ∙ ap (λ t. times uses c + cond t 1 0) (ne_eqb b c (λ same. other (sym same))) in
      omega (arith, is)

  -- at a place
  at_same : (p : ℕ) → times_at p more b ≡ times_at p uses b + cond (nat_eq place p) 1 0
  at_same p = number_more (λ (one : ℕ × ℕ). nat_eq one.0 p && nat_eq one.1 b) uses (place, b) ∙ ap (λ t. times_at p uses b + cond t 1 0) (and_true (nat_eq place p) (nat_eq b b) (eq-eqb b b refl))
    where
      and_true : (s t : Bool) → t ≡ true → (s && t) ≡ s
      and_true true t is = is
      and_true false t is = refl

  at_other : (p c : ℕ) → c ≢ b → times_at p more c ≡ times_at p uses c
  at_other p c other =
      let is : times_at p more c ≡ times_at p uses c + 0 = number_more (λ (one : ℕ × ℕ). nat_eq one.0 p && nat_eq one.1 c) uses (place, b) ∙ ap (λ t. times_at p uses c + cond t 1 0) (and_false (nat_eq place p) (nat_eq b c) (ne_eqb b c (λ same. other (sym same)))) in
      omega (arith, is)
    where
      and_false : (s t : Bool) → t ≡ false → (s && t) ≡ false
      and_false true t is = is
      and_false false t is = refl

  -- what it does to a tally
  tally_step : (p : ℕ) → number_at p (is_alone size more) more + cond (is_alone size uses b) (times_at p uses b) 0
      ≡ (number_at p (is_alone size uses) uses + cond (is_alone size more b) (times_at p uses b) 0) + cond (nat_eq place p && is_alone size more b) 1 0
  tally_step p =
      let last = number_more (λ (one : ℕ × ℕ). nat_eq one.0 p && is_alone size more one.1) uses (place, b) in
      let changed = kind_changed p b (is_alone size uses) (is_alone size more) (λ c other. ap (λ n. nat_lt c size && nat_eq n 1) (times_other c other)) uses in
      omega (arith, last, changed)

-- the first use of a block, by the device at a place
pub tallied_first : (uses : List (ℕ × ℕ)) (users users' : Counted) (tallies : List ℕ) (place b : ℕ) → b < users.size → users.size < 2 ^ 64 → count_of users b ≡ 0 → suc place < 2 ^ 32 - 1 → place < length tallies
    → PutsNumber b (suc place) users users' → IsTallied uses users tallies → IsTallied (uses ++ ((place, b) ∷ [])) users' (raised_at place tallies)
tallied_first uses users users' tallies place b inside few none small there puts was = record {
  user = λ c within. elim (cases_eq c b) [
    | inl same ↦ subst (λ (d : ℕ). IsUser (uses ++ ((place, b) ∷ [])) d (count_of users' d)) (sym same) user_here
    | inr other ↦
        let before = was.user c (omega (arith, within, puts.size)) in
        rw (puts.others c other) (record {
          several = λ many. let two = before.several many in omega (arith, two, times_other users.size uses place b c other);
          total = λ less. times_other users.size uses place b c other ∙ before.total less;
          one = λ less p. at_other users.size uses place b p c other ∙ before.one less p;
        })
  ];
  tally = λ p. rw puts.size (tally_of p);
}
  where
    had : IsUser uses b 0
    had = subst (IsUser uses b) none (was.user b inside)

    unused : times uses b ≡ 0
    unused = had.total (lit≤ tt)

    used : times (uses ++ ((place, b) ∷ [])) b ≡ 1
    used = times_same users.size uses place b ∙ ap (λ n. n + 1) unused

    at_none : (p : ℕ) → times_at p uses b ≡ 0
    at_none p = had.one (lit≤ tt) p ∙ ap (λ t. cond t 1 0) (ne_eqb 0 (suc p) (λ e. omega arith))

    user_here : IsUser (uses ++ ((place, b) ∷ [])) b (count_of users' b)
    user_here = rw puts.put (record {
      several = λ many. absurd (omega (arith, many, small));
      total = λ less. omega (arith, used);
      one = λ less p. at_same users.size uses place b p ∙ (ap (λ n. n + cond (nat_eq place p) 1 0) (at_none p) ∙ same_place p);
    })
      where
        same_place : (p : ℕ) → 0 + cond (nat_eq place p) 1 0 ≡ cond (nat_eq (suc place) (suc p)) 1 0
        same_place p = elim (cases_eq place p) [
          | inl same ↦ rw (eq-eqb place p same, eq-eqb (suc place) (suc p) (ap suc same)) refl
          | inr other ↦ rw (ne_eqb place p other, ne_eqb (suc place) (suc p) (λ e. other (omega arith))) refl
        ]

    tally_of : (p : ℕ) → get_or (raised_at place tallies) p 0 ≡ number_at p (is_alone users.size (uses ++ ((place, b) ∷ []))) (uses ++ ((place, b) ∷ []))
    tally_of p =
        let step = rw (at_none p, alone_below users.size uses b 0 inside unused, alone_below users.size (uses ++ ((place, b) ∷ [])) b 1 inside used) at (tally_step users.size uses place b p) in
        let before = was.tally p in
        elim (cases_eq p place) [
          | inl same ↦
              let most = tally_few users.size p (uses ++ ((place, b) ∷ [])) in
              let now = rw (eq-eqb place p (sym same)) at step in
              let put = get_or-set_same tallies place (min (get_or tallies place 0 + 1) (2 ^ 64 - 1)) 0 there in
              let here = subst (λ (q : ℕ). get_or tallies q 0 ≡ number_at p (is_alone users.size uses) uses) same before in
              ap (λ (q : ℕ). get_or (raised_at place tallies) q 0) same ∙ (put ∙ omega (arith, now, most, few, here))
          | inr other ↦
              let now = rw (ne_eqb place p (λ e. other (sym e))) at step in
              get_or-set_other tallies place p (min (get_or tallies place 0 + 1) (2 ^ 64 - 1)) 0 other ∙ omega (arith, now, before)
        ]

-- the second use of a block, by whichever device, where one device used it before
pub tallied_second : (uses : List (ℕ × ℕ)) (users users' : Counted) (tallies : List ℕ) (place b user : ℕ) → b < users.size → count_of users b ≡ user → 0 < user → user < 2 ^ 32 - 1
    → PutsNumber b (2 ^ 32 - 1) users users' → IsTallied uses users tallies → IsTallied (uses ++ ((place, b) ∷ [])) users' (lowered_at (user - 1) tallies)
tallied_second uses users users' tallies place b user inside is some less puts was = record {
  user = λ c within. elim (cases_eq c b) [
    | inl same ↦ subst (λ (d : ℕ). IsUser (uses ++ ((place, b) ∷ [])) d (count_of users' d)) (sym same) user_here
    | inr other ↦
        let before = was.user c (omega (arith, within, puts.size)) in
        rw (puts.others c other) (record {
          several = λ many. let two = before.several many in omega (arith, two, times_other users.size uses place b c other);
          total = λ less. times_other users.size uses place b c other ∙ before.total less;
          one = λ less p. at_other users.size uses place b p c other ∙ before.one less p;
        })
  ];
  tally = λ p. rw puts.size (tally_of p);
}
  where
    had : IsUser uses b user
    had = subst (IsUser uses b) is (was.user b inside)

    once : times uses b ≡ 1
    once = let total = had.total less in omega (arith, total, some)

    twice : times (uses ++ ((place, b) ∷ [])) b ≡ 2
    twice = times_same users.size uses place b ∙ ap (λ n. n + 1) once

    user_here : IsUser (uses ++ ((place, b) ∷ [])) b (count_of users' b)
    user_here = rw puts.put (record {
      several = λ many. omega (arith, twice);
      total = λ fewer. absurd (omega (arith, fewer));
      one = λ fewer p. absurd (omega (arith, fewer));
    })

    tally_of : (p : ℕ) → get_or (lowered_at (user - 1) tallies) p 0 ≡ number_at p (is_alone users.size (uses ++ ((place, b) ∷ []))) (uses ++ ((place, b) ∷ []))
    tally_of p =
        let step = rw (had.one less p, alone_below users.size uses b 1 inside once, alone_below users.size (uses ++ ((place, b) ∷ [])) b 2 inside twice) at (tally_step users.size uses place b p) in
        let before = was.tally p in
        let none = no_more (nat_eq place p) in
        elim (cases_eq p (user - 1)) [
          | inl same ↦
              let now = rw (eq-eqb user (suc p) (omega (arith, same, some))) at step in
              let here = subst (λ (q : ℕ). get_or tallies q 0 ≡ number_at p (is_alone users.size uses) uses) same before in
              elim (cases_lt (user - 1) (length tallies)) [
                | inl there ↦
                    let put = get_or-set_same tallies (user - 1) (get_or tallies (user - 1) 0 - 1) 0 there in
                    ap (λ (q : ℕ). get_or (lowered_at (user - 1) tallies) q 0) same ∙ (put ∙ omega (arith, now, none, here))
                | inr past ↦ absurd (omega (arith, now, none, here, get_or_past tallies (user - 1) 0 past))
              ]
          | inr other ↦
              let now = rw (ne_eqb user (suc p) (λ e. other (omega (arith, e)))) at step in
              get_or-set_other tallies (user - 1) p (get_or tallies (user - 1) 0 - 1) 0 other ∙ omega (arith, now, none, before)
        ]
      where
        no_more : (here : Bool) → ◌≡◌ {A = ℕ} (cond (here && false) 1 0) 0
        no_more true = refl
        no_more false = refl

-- a use of a block that stays as it is noted, and of which no device is the only user
stays : (uses : List (ℕ × ℕ)) (users : Counted) (tallies : List ℕ) (place b : ℕ) → is_alone users.size uses b ≡ false → is_alone users.size (uses ++ ((place, b) ∷ [])) b ≡ false
    → (b < users.size → IsUser (uses ++ ((place, b) ∷ [])) b (count_of users b)) → IsTallied uses users tallies → IsTallied (uses ++ ((place, b) ∷ [])) users tallies
stays uses users tallies place b shared still here was = record {
  user = λ c within. elim (cases_eq c b) [
    | inl same ↦ subst (λ (d : ℕ). d < users.size → IsUser (uses ++ ((place, b) ∷ [])) d (count_of users d)) (sym same) here within
    | inr other ↦
        let before = was.user c within in
        record {
          several = λ many. let two = before.several many in omega (arith, two, times_other users.size uses place b c other);
          total = λ less. times_other users.size uses place b c other ∙ before.total less;
          one = λ less p. at_other users.size uses place b p c other ∙ before.one less p;
        }
  ];
  tally = λ p.
      let step = rw (shared, still) at (tally_step users.size uses place b p) in
      was.tally p ∙ omega (arith, step, no_more (nat_eq place p));
}
  where
    no_more : (here : Bool) → ◌≡◌ {A = ℕ} (cond (here && false) 1 0) 0
    no_more true = refl
    no_more false = refl

-- a use of a block that the pool hasn't
pub tallied_past : (uses : List (ℕ × ℕ)) (users : Counted) (tallies : List ℕ) (place b : ℕ) → users.size ≤ b
    → IsTallied uses users tallies → IsTallied (uses ++ ((place, b) ∷ [])) users tallies
tallied_past uses users tallies place b past was =
    stays uses users tallies place b (alone_past users.size uses b past) (alone_past users.size (uses ++ ((place, b) ∷ [])) b past) (λ within. absurd (omega (arith, within, past))) was

-- one more of a block that is used twice or more
pub tallied_often : (uses : List (ℕ × ℕ)) (users : Counted) (tallies : List ℕ) (place b : ℕ) → 2 ≤ times uses b
    → IsTallied uses users tallies → IsTallied (uses ++ ((place, b) ∷ [])) users tallies
tallied_often uses users tallies place b two was = elim (cases_lt b users.size) [
  | inr past ↦ tallied_past uses users tallies place b past was
  | inl inside ↦
      let more = times_same users.size uses place b in
      stays uses users tallies place b
      (alone_below users.size uses b (times uses b) inside refl ∙ ne_eqb (times uses b) 1 (λ one. omega (arith, one, two)))
      (alone_below users.size (uses ++ ((place, b) ∷ [])) b (times uses b + 1) inside more ∙ ne_eqb (times uses b + 1) 1 (λ one. omega (arith, one, two)))
      (λ within. record {
        several = λ same. omega (arith, more, two);
        total = λ less. let total = (was.user b within).total less in absurd (omega (arith, total, two));
        one = λ less p. let total = (was.user b within).total less in absurd (omega (arith, total, two));
      })
      was
]

-- of which that is noted
pub tallied_several : (uses : List (ℕ × ℕ)) (users : Counted) (tallies : List ℕ) (place b : ℕ) → b < users.size → count_of users b ≡ 2 ^ 32 - 1
    → IsTallied uses users tallies → IsTallied (uses ++ ((place, b) ∷ [])) users tallies
tallied_several uses users tallies place b inside many was = tallied_often uses users tallies place b ((was.user b inside).several many) was

-- a device more has no uses yet
pub tallied_begun : (uses : List (ℕ × ℕ)) (users : Counted) (tallies : List ℕ) → IsTallied uses users tallies → IsTallied uses users (tallies ++ (0 ∷ []))
tallied_begun uses users tallies was = record {
  user = was.user;
  tally = λ p. elim (cases_lt p (length tallies)) [
    | inl there ↦ get_or_append_left tallies (0 ∷ []) 0 p there ∙ was.tally p
    | inr past ↦ elim (cases_eq p (length tallies)) [
      | inl same ↦ get_or_at tallies 0 [] 0 p (sym same) ∙ (sym (get_or_past tallies p 0 past) ∙ was.tally p)
      | inr other ↦ get_or_past (tallies ++ (0 ∷ [])) p 0 (omega (arith, past, other, length-append tallies (0 ∷ []))) ∙ (sym (get_or_past tallies p 0 past) ∙ was.tally p)
    ]
  ];
}
