-- Blocks that are reached once each in different roles are no more than the reachable pairs.
use Rattle.std.proofs.Common.{◌≡◌, inl, inr, ℕ, ◌+◌, ◌≤◌, Bool, true, false, ◌||◌, ◌&&◌, not, cond, nat_eq, List, [], ◌∷◌, filter, map, refl, sym, ap, ◌∙◌, arith, eq-eqb, ◌↔◌, zero, suc, ◌*◌, ◌%◌, ◌<◌, ◌++◌, length, length-append}
use Rattle.std.specs.List.{list_any, sum_by, count_by, AllByRecursion, IsDistinct, flat_map, range_with_len}
use Rattle.std.proofs.lemmas.Bool.{or_cases, or_left, or_right, eqb-true, ne_eqb, both_ways, and_from}
use Rattle.std.proofs.lemmas.List.Filters.{sum_by-filter_both}
use Rattle.std.proofs.lemmas.List.Sums.{sum_by-cons}
use Rattle.std.specs.Cmp.{nat_eq_equiv}
use Rattle.std.proofs.lemmas.List.{length-map}
use Rattle.std.proofs.lemmas.Map.Made.{length-le_from_is_member}
use Rattle.pd_kinds.specs.Graph.{Graph, pair, nodes, next, is_reached}
use Rattle.pd_kinds.specs.Lawful.{IsLawful}
use Rattle.pd_kinds.specs.Paths.{IsOnPath}
use Rattle.pd_kinds.specs.Stages.{IsReached}
use Rattle.pd_kinds.proofs.ListLemmas.{all_from, all_append, all_mapped}
use Rattle.pd_kinds.proofs.PathLemmas.{passes_below}
use Rattle.pd_graph.proofs.AnyLemmas.{any_kept}
use Rattle.pd_graph.proofs.BitLemmas.{pair_role}
use Rattle.pd_graph.specs.declared.audit.Audit.{Audit}
use Rattle.pd_graph.specs.Audit.{roles_at}
use Rattle.pd_graph.specs.Marks.{has_bit}
use Rattle.pd_tree.specs.Search.{IsUnder, IsSoundTree, IsTreeRole}
use Rattle.pd_tree.specs.Search.IsUnder.{itself, below}
use Rattle.pd_tree.specs.Below.{nodes_below}
use Rattle.pd_tree.proofs.ReachLemmas.{IsMet, met}
use Rattle.pd_tree.proofs.SoundLemmas.{met_child}
use Rattle.pd_tree.proofs.OnceLemmas.{once_is, under_is}
use Rattle.pd_check.specs.Known.{IsKnown}
use Rattle.pd_check.specs.Refs.{InRole, AreReachedOnce, blocks_in, known_in}

-- Sums and counts over numbers of which none comes twice.

-- a sum over some of the numbers is no more than that over all
sum_by-filter : (f : ℕ → ℕ) (p : ℕ → Bool) (xs : List ℕ) → sum_by f (filter p xs) ≤ sum_by f xs
sum_by-filter f p xs = omega (arith, sum_by-filter_both p (λ x. not (p x)) (λ x. refl) f xs)

-- nor is that over all others, with one of the numbers
without_by : (same : Bool) (f : ℕ → ℕ) (x y : ℕ) (ys : List ℕ) → nat_eq x y ≡ same → (same || list_any (nat_eq x) ys) ≡ true
    → (list_any (nat_eq x) ys ≡ true → f x + sum_by f (filter (λ z. not (nat_eq x z)) ys) ≤ sum_by f ys)
    → f x + sum_by f (cond (not same) (y ∷ filter (λ z. not (nat_eq x z)) ys) (filter (λ z. not (nat_eq x z)) ys)) ≤ sum_by f (y ∷ ys)
without_by true f x y ys is any more =
    let equal : f x ≡ f y = ap f (eqb-true x y is) in
    let few = sum_by-filter f (λ z. not (nat_eq x z)) ys in
    let whole = sum_by-cons f y ys in
    omega arith
without_by false f x y ys is any more =
    let rest = more any in
    let whole = sum_by-cons f y ys in
    let kept = sum_by-cons f y (filter (λ z. not (nat_eq x z)) ys) in
    omega arith

sum_without : (f : ℕ → ℕ) (x : ℕ) (ys : List ℕ) → list_any (nat_eq x) ys ≡ true → f x + sum_by f (filter (λ z. not (nat_eq x z)) ys) ≤ sum_by f ys
sum_without f x [] among = absurd (both_ways false refl among)
sum_without f x (y ∷ ys) among = without_by (nat_eq x y) f x y ys refl among (sum_without f x ys)

-- a number that differs from another one is among those that do
others_kept : (x q : ℕ) (ys : List ℕ) → nat_eq x q ≡ false → list_any (nat_eq q) ys ≡ true → list_any (λ y. not (nat_eq x y) && nat_eq q y) ys ≡ true
others_kept x q [] differ among = absurd (both_ways false refl among)
others_kept x q (y ∷ ys) differ among = elim (or_cases (nat_eq q y) (list_any (nat_eq q) ys) among) [
  | inl here ↦
      or_left (not (nat_eq x y) && nat_eq q y) (list_any (λ y. not (nat_eq x y) && nat_eq q y) ys)
      (and_from (not (nat_eq x y)) (nat_eq q y) (rw (← eqb-true q y here, differ) refl) here)
  | inr later ↦ or_right (not (nat_eq x y) && nat_eq q y) (list_any (λ y. not (nat_eq x y) && nat_eq q y) ys) (others_kept x q ys differ later)
]

-- what holds of all holds of a member
pub member_holds : (P : ℕ → Type 0) (q : ℕ) (xs : List ℕ) → AllByRecursion P xs → list_any (nat_eq q) xs ≡ true → P q
member_holds P q [] all among = absurd (both_ways false refl among)
member_holds P q (x ∷ xs) all among = elim (or_cases (nat_eq q x) (list_any (nat_eq q) xs) among) [
  | inl here ↦ rw (eqb-true q x here) all.0
  | inr later ↦ member_holds P q xs all.1 later
]

-- numbers of which none comes twice, and which all are among others, add up to no more than these
pub sum_of_some : (f : ℕ → ℕ) (xs ys : List ℕ) → IsDistinct nat_eq xs → ((q : ℕ) → list_any (nat_eq q) xs ≡ true → list_any (nat_eq q) ys ≡ true) → sum_by f xs ≤ sum_by f ys
unfolding IsDistinct
sum_of_some f [] ys once among = omega arith
sum_of_some f (x ∷ xs) ys once among =
    let others = λ (z : ℕ). not (nat_eq x z) in
    let one = sum_without f x ys (among x (or_left (nat_eq x x) (list_any (nat_eq x) xs) (eq-eqb x x refl))) in
    let rest = sum_of_some f xs (filter others ys) once.1
    (λ q is. any_kept (nat_eq q) others ys
    ∙ others_kept x q ys (member_holds (λ y. nat_eq x y ≡ false) q xs once.0 is) (among q (or_right (nat_eq q x) (list_any (nat_eq q) xs) is))) in
    let whole = sum_by-cons f x xs in
    omega arith

-- a sum over numbers that are made of others
pub sum_by-map : (f g : ℕ → ℕ) (xs : List ℕ) → sum_by f (map g xs) ≡ sum_by (λ x. f (g x)) xs
sum_by-map f g [] = refl
sum_by-map f g (x ∷ xs) =
    let here = sum_by-cons f (g x) (map g xs) in
    let rest = sum_by-map f g xs in
    let whole = sum_by-cons (λ x. f (g x)) x xs in
    omega arith

-- what comes among some of the elements comes among all
map_filter_by : {X : Type 0} → (kept : Bool) (p : ℕ → Bool) (f : X → ℕ) (x : X) (some all : List X) → count_by p (map f some) ≤ count_by p (map f all)
    → count_by p (map f (cond kept (x ∷ some) some)) ≤ count_by p (map f (x ∷ all))
map_filter_by true p f x some all more =
    let here = sum_by-cons (λ y. cond (p y) 1 0) (f x) (map f some) in
    let whole = sum_by-cons (λ y. cond (p y) 1 0) (f x) (map f all) in
    omega arith
map_filter_by false p f x some all more =
    let whole = sum_by-cons (λ y. cond (p y) 1 0) (f x) (map f all) in
    omega arith

pub count_by-map-filter : {X : Type 0} → (p : ℕ → Bool) (f : X → ℕ) (t : X → Bool) (xs : List X) → count_by p (map f (filter t xs)) ≤ count_by p (map f xs)
count_by-map-filter p f t [] = omega arith
count_by-map-filter p f t (x ∷ xs) = map_filter_by (t x) p f x (filter t xs) xs (count_by-map-filter p f t xs)

-- where no number equals this one
none_by : (same : Bool) (x y rest : ℕ) → nat_eq y x ≡ same → cond same 1 0 + rest ≤ 0 → (nat_eq x y ≡ false) × (rest ≤ 0)
none_by true x y rest is few = absurd (omega arith)
none_by false x y rest is few = (ne_eqb x y (λ same. both_ways (nat_eq y x) is (eq-eqb y x (sym same))), omega (arith, few))

none_counted : (x : ℕ) (xs : List ℕ) → count_by (λ y. nat_eq y x) xs ≤ 0 → AllByRecursion (λ y. nat_eq x y ≡ false) xs
none_counted x [] few = tt
none_counted x (y ∷ ys) few =
    let whole = sum_by-cons (λ z. cond (nat_eq z x) 1 0) y ys in
    let parts = none_by (nat_eq y x) x y (count_by (λ z. nat_eq z x) ys) refl (omega arith) in
    (parts.0, none_counted x ys parts.1)

-- a list in which each of its numbers comes once at the most
pub once_by_counts : (xs : List ℕ) → ((x : ℕ) → list_any (nat_eq x) xs ≡ true → count_by (λ y. nat_eq y x) xs ≤ 1) → IsDistinct nat_eq xs
unfolding IsDistinct
once_by_counts [] few = tt
once_by_counts (x ∷ xs) few = (
  none_counted x xs
      (let one = few x (or_left (nat_eq x x) (list_any (nat_eq x) xs) (eq-eqb x x refl)) in
      let whole = sum_by-cons (λ (z : ℕ). cond (nat_eq z x) 1 0) x xs in
      let here : cond (nat_eq x x) 1 0 ≡ 1 = ap (λ (b : Bool). let n : ℕ = cond b 1 0 in n) (eq-eqb x x refl) in
      omega arith),
  once_by_counts xs (λ y among.
      let one = few y (or_right (nat_eq y x) (list_any (nat_eq y) xs) among) in
      let whole = sum_by-cons (λ z. cond (nat_eq z y) 1 0) x xs in
      omega arith),
)

-- lists without a repeat that have nothing in common
distinct_append : (P Q : ℕ → Type 0) (xs ys : List ℕ) → ((x y : ℕ) → P x → Q y → nat_eq x y ≡ false) → AllByRecursion P xs → AllByRecursion Q ys
    → IsDistinct nat_eq xs → IsDistinct nat_eq ys → IsDistinct nat_eq (xs ++ ys)
unfolding IsDistinct
distinct_append P Q [] ys apart here there first second = second
distinct_append P Q (x ∷ xs) ys apart here there first second = (
  all_append (λ y. nat_eq x y ≡ false) xs ys first.0 (all_from Q (λ y. nat_eq x y ≡ false) (λ y is. apart x y here.0 is) ys there),
  distinct_append P Q xs ys apart here.1 there first.1 second,
)

-- blocks in one role
pair_apart : (x y role : ℕ) → nat_eq x y ≡ false → nat_eq (pair x role) (pair y role) ≡ false
pair_apart x y role apart = ne_eqb (pair x role) (pair y role) (λ same. both_ways (nat_eq x y) apart (eq-eqb x y (omega arith)))

pub distinct_pairs : (role : ℕ) (xs : List ℕ) → IsDistinct nat_eq xs → IsDistinct nat_eq (map (λ b. pair b role) xs)
unfolding IsDistinct
distinct_pairs role [] once = tt
distinct_pairs role (x ∷ xs) once = (
  all_mapped (λ b. pair b role) (λ p. nat_eq (pair x role) p ≡ false) xs
      (all_from (λ y. nat_eq x y ≡ false) (λ b. nat_eq (pair x role) (pair b role) ≡ false) (λ y apart. pair_apart x y role apart) xs once.0),
  distinct_pairs role xs once.1,
)

-- what holds of each number of a row that passes holds of all that are kept
kept_by : (P : ℕ → Type 0) (passes : Bool) (a : ℕ) (rest : List ℕ) → (passes ≡ true → P a) → AllByRecursion P rest → AllByRecursion P (cond passes (a ∷ rest) rest)
kept_by P true a rest here all = (here refl, all)
kept_by P false a rest here all = all

all_kept : (P : ℕ → Type 0) (t : ℕ → Bool) (n a : ℕ) → ((b : ℕ) → a ≤ b → b < a + n → t b ≡ true → P b) → AllByRecursion P (filter t (range_with_len a n))
all_kept P t zero a each = tt
all_kept P t (suc n) a each =
    kept_by P (t a) a (filter t (range_with_len (a + 1) n)) (each a (omega arith) (omega arith))
    (all_kept P t n (a + 1) (λ b from below passes. each b (omega arith) (omega arith) passes))

-- and none of these comes twice
once_by : (passes : Bool) (a : ℕ) (rest : List ℕ) → AllByRecursion (λ b. nat_eq a b ≡ false) rest → IsDistinct nat_eq rest → IsDistinct nat_eq (cond passes (a ∷ rest) rest)
unfolding IsDistinct
once_by true a rest apart once = (apart, once)
once_by false a rest apart once = once

kept_once : (t : ℕ → Bool) (n a : ℕ) → IsDistinct nat_eq (filter t (range_with_len a n))
unfolding IsDistinct
kept_once t zero a = tt
kept_once t (suc n) a =
    once_by (t a) a (filter t (range_with_len (a + 1) n))
    (all_kept (λ b. nat_eq a b ≡ false) t n (a + 1) (λ b from below passes. ne_eqb a b (λ same. omega arith))) (kept_once t n (a + 1))

-- the blocks that an audit has in a role
pub known_once : (graph : Graph) (image : List (List ℕ)) (audit : Audit) (role : ℕ) → IsKnown graph image audit → role < 16
    → AreReachedOnce graph image (record { role = role; blocks = known_in audit role graph.nr })
unfolding known_in
known_once graph image audit role known few = record {
  reached = all_kept (λ b. IsReached graph image b role) (λ b. has_bit (roles_at audit b) role) graph.nr 0
      (λ b from below passes. let within : b < graph.nr = omega arith in record { block = within; within = few; found = sym (known.roles b role within few) ∙ passes });
  once = kept_once (λ b. has_bit (roles_at audit b) role) graph.nr 0;
}

module _ (graph : Graph) (image : List (List ℕ)) where
  -- a pair that is reached, and its role
  record IsIn (role p : ℕ) : Type 0 where
    found : is_reached graph image p ≡ true
    small : p < 16 * graph.nr
    role_is : p % 16 ≡ role

  in_by : (b role : ℕ) → IsReached graph image b role → IsIn role (pair b role)
  in_by b role reached =
      let block = reached.block in
      let few = reached.within in
      record { found = reached.found; small = omega arith; role_is = pair_role b role few }

  -- a reached pair is one of the nodes
  among_nodes : (role p : ℕ) → IsIn role p → list_any (nat_eq p) (nodes graph image) ≡ true
  unfolding nodes
  among_nodes role p is =
      any_kept (nat_eq p) (is_reached graph image) (range_with_len 0 (16 * graph.nr))
      ∙ passes_below (λ q. is_reached graph image q && nat_eq p q) (16 * graph.nr) p is.small (and_from (is_reached graph image p) (nat_eq p p) is.found (eq-eqb p p refl))

  -- pairs in two roles differ
  roles_apart : (role other x y : ℕ) → nat_eq role other ≡ false → IsIn role x → IsIn other y → nat_eq x y ≡ false
  roles_apart role other x y differ here there =
      let first = here.role_is in
      let second = there.role_is in
      ne_eqb x y (λ same. both_ways (nat_eq role other) differ (eq-eqb role other (omega arith)))

  -- the pairs of a part
  pairs_of : InRole → List ℕ
  pairs_of part = map (λ b. pair b part.role) part.blocks

  all_in : (part : InRole) → AreReachedOnce graph image part → AllByRecursion (IsIn part.role) (pairs_of part)
  unfolding pairs_of
  all_in part is =
      all_mapped (λ b. pair b part.role) (IsIn part.role) part.blocks
      (all_from (λ b. IsReached graph image b part.role) (λ b. IsIn part.role (pair b part.role)) (λ b reached. in_by b part.role reached) part.blocks is.reached)

  -- is among the nodes
  pub pairs_among : (part : InRole) → AreReachedOnce graph image part → (q : ℕ) → list_any (nat_eq q) (map (λ b. pair b part.role) part.blocks) ≡ true → list_any (nat_eq q) (nodes graph image) ≡ true
  unfolding pairs_of
  pairs_among part is q among = among_nodes part.role q (member_holds (IsIn part.role) q (pairs_of part) (all_in part is) among)

  -- a pair in one of some roles
  IsOther : ℕ → ℕ → Type 0
  IsOther role p = (other : ℕ) × IsIn other p × (nat_eq role other ≡ false)

  -- the pairs of parts in other roles
  all_other : (role : ℕ) (parts : List InRole) → AllByRecursion (AreReachedOnce graph image) parts → AllByRecursion (λ other. nat_eq role other ≡ false) (map (λ (part : InRole). part.role) parts)
      → AllByRecursion (IsOther role) (flat_map pairs_of parts)
  unfolding IsOther
  all_other role [] all differ = tt
  all_other role (part ∷ parts) all differ =
      all_append (IsOther role) (pairs_of part) (flat_map pairs_of parts)
      (all_from (IsIn part.role) (IsOther role) (λ p is. (part.role, is, differ.0)) (pairs_of part) (all_in part all.0))
      (all_other role parts all.1 differ.1)

  -- none of all pairs comes twice
  all_once : (parts : List InRole) → AllByRecursion (AreReachedOnce graph image) parts → IsDistinct nat_eq (map (λ (part : InRole). part.role) parts) → IsDistinct nat_eq (flat_map pairs_of parts)
  unfolding IsDistinct IsOther pairs_of
  all_once [] all apart = tt
  all_once (part ∷ parts) all apart =
      distinct_append (IsIn part.role) (IsOther part.role) (pairs_of part) (flat_map pairs_of parts)
      (λ x y here there. roles_apart part.role there.0 x y there.2 here there.1)
      (all_in part all.0) (all_other part.role parts all.1 apart.0)
      (distinct_pairs part.role part.blocks all.0.once) (all_once parts all.1 apart.1)

  -- each is reached
  IsOne : ℕ → Type 0
  IsOne p = (role : ℕ) × IsIn role p

  all_reached : (parts : List InRole) → AllByRecursion (AreReachedOnce graph image) parts → AllByRecursion IsOne (flat_map pairs_of parts)
  unfolding IsOne
  all_reached [] all = tt
  all_reached (part ∷ parts) all =
      all_append IsOne (pairs_of part) (flat_map pairs_of parts)
      (all_from (IsIn part.role) IsOne (λ p is. (part.role, is)) (pairs_of part) (all_in part all.0))
      (all_reached parts all.1)

  -- and there are as many as blocks
  number_of : (parts : List InRole) → length (flat_map pairs_of parts) ≡ blocks_in parts
  unfolding pairs_of
  number_of [] = refl
  number_of (part ∷ parts) =
      let both = length-append (pairs_of part) (flat_map pairs_of parts) in
      let here = length-map {A = ℕ} {B = ℕ} part.blocks (λ b. pair b part.role) in
      let rest = number_of parts in
      let whole = sum_by-cons (λ (p : InRole). length p.blocks) part parts in
      omega arith

  -- so they are no more than the nodes
  pub no_more : (parts : List InRole) → AllByRecursion (AreReachedOnce graph image) parts → IsDistinct nat_eq (map (λ (part : InRole). part.role) parts)
      → blocks_in parts ≤ length (nodes graph image)
  unfolding IsOne
  no_more parts all apart =
      let fewer = length-le_from_is_member nat_eq_equiv (flat_map pairs_of parts) (nodes graph image) (all_once parts all apart)
      (λ q among. let one = member_holds IsOne q (flat_map pairs_of parts) (all_reached parts all) among in among_nodes one.0 q one.1) in
      let number = number_of parts in
      omega arith

  -- as are those of one block and of two other parts
  pub two_parts : (c other role role' : ℕ) (blocks blocks' : List ℕ) → IsReached graph image c other → (role ≡ role' → ⊥) → (other ≡ role → ⊥) → (other ≡ role' → ⊥)
      → AreReachedOnce graph image (record { role = role; blocks = blocks }) → AreReachedOnce graph image (record { role = role'; blocks = blocks' })
      → suc (length blocks + length blocks') ≤ length (nodes graph image)
  unfolding IsDistinct
  two_parts c other role role' blocks blocks' reached differ one two first second =
      let most = no_more (record { role = other; blocks = c ∷ [] } ∷ record { role = role; blocks = blocks } ∷ record { role = role'; blocks = blocks' } ∷ [])
      (record { reached = (reached, tt); once = (tt, tt) }, (first, (second, tt)))
      ((ne_eqb other role one, (ne_eqb other role' two, tt)), ((ne_eqb role role' differ, tt), (tt, tt))) in
      omega arith

  module _ (lawful : IsLawful graph) (paths : (q : ℕ) → (is_reached graph image q ≡ true) ↔ IsOnPath (16 * graph.nr) (next graph image) q) where
    -- all pairs of a reached tree are met
    met_under : (p q : ℕ) → IsUnder graph image p q → IsMet graph image lawful p → IsMet graph image lawful q
    met_under p q (itself r) there = there
    met_under p q (below p' c q' is_child under) there = met_under c q' under (met_child graph image lawful p' c there is_child)

    reached_under : (b role c : ℕ) → IsReached graph image b role → IsUnder graph image (pair b role) (pair c role) → IsReached graph image c role
    reached_under b role c reached under =
        let there = met_under (pair b role) (pair c role) under (met graph image lawful paths b role reached) in
        let block = there.block in
        let few = reached.within in
        record { block = omega arith; within = few; found = (paths (pair c role)).1 there.path }

    -- the nodes of a reached tree are reached once each
    pub tree_once : (b role size : ℕ) → IsTreeRole graph role size → IsReached graph image b role → IsSoundTree graph image (pair b role)
        → AreReachedOnce graph image (record { role = role; blocks = nodes_below size image 63 b })
    tree_once b role size is reached sound = record {
      reached = all_from (λ c. IsUnder graph image (pair b role) (pair c role)) (λ c. IsReached graph image c role) (λ c under. reached_under b role c reached under)
          (nodes_below size image 63 b) (under_is graph image b role size is sound);
      once = once_is graph image b role size is sound;
    }
