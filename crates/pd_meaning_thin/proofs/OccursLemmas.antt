-- How often a number is in a list.
use Rattle.std.proofs.Common.{◌≡◌, ℕ, ◌+◌, ◌≤◌, Bool, true, false, ◌||◌, cond, nat_eq, List, [], ◌∷◌, ◌++◌, refl, sym, ◌∙◌, arith, eq-eqb, zero, suc, ap}
use Rattle.std.specs.List.{AllByRecursion, IsDistinct, flat_map, list_any}
use Rattle.std.proofs.lemmas.Bool.{eqb-true, ne_eqb, or_left, or_parts, or_right}
use Rattle.std.proofs.lemmas.List.Folds.{list_any-append}
use Rattle.std.proofs.lemmas.List.Sums.{sum_by-append, sum_by-cons}
use Rattle.pd_kinds.specs.Graph.{has_chain}
use Rattle.pd_kinds.proofs.ListLemmas.{all_from}
use Rattle.pd_kinds.specs.Node.{is_inner_node}
use Rattle.pd_tree.proofs.OnceLemmas.{by_first}
use Rattle.pd_tree.specs.Below.{gather, nodes_below}
use Rattle.pd_tree.specs.Search.{HasAtMostLevels, node_kids}
use Rattle.pd_tree.proofs.DistinctLemmas.{kids_shorter, no_longer}
use Rattle.pd_meaning_thin.specs.Marks.{occurs, nodes_of, has_few_entries, is_followed, mark_after, mark_of, mark_often, mark_once}

pub occurs-append : (x : ℕ) (xs ys : List ℕ) → occurs x (xs ++ ys) ≡ occurs x xs + occurs x ys
unfolding occurs
occurs-append x xs ys = sum_by-append (λ c. cond (nat_eq c x) 1 0) xs ys

pub occurs-cons : (x c : ℕ) (xs : List ℕ) → occurs x (c ∷ xs) ≡ cond (nat_eq c x) 1 0 + occurs x xs
unfolding occurs
occurs-cons x c xs = sum_by-cons (λ c. cond (nat_eq c x) 1 0) c xs

pub occurs-none : (x : ℕ) → occurs x [] ≡ 0
unfolding occurs
occurs-none x = refl

-- once more at itself, and not at another number
pub occurs-itself : (x : ℕ) (xs : List ℕ) → occurs x (x ∷ xs) ≡ 1 + occurs x xs
occurs-itself x xs = rw (occurs-cons x x xs, eq-eqb x x refl) refl

pub occurs-other : (x c : ℕ) (xs : List ℕ) → nat_eq c x ≡ false → occurs x (c ∷ xs) ≡ occurs x xs
occurs-other x c xs other = rw (occurs-cons x c xs, other) (omega arith)

-- a number is among those in which it occurs
abbrev pub Among : ℕ → List ℕ → Type 0
Among x xs = list_any (λ c. nat_eq c x) xs ≡ true

first_occurs : (same rest : Bool) (n : ℕ) → (same || rest) ≡ true → (rest ≡ true → 1 ≤ n) → 1 ≤ cond same 1 0 + n
first_occurs true rest n any later = omega arith
first_occurs false rest n any later = let some = later any in omega arith

pub occurs_there : (x : ℕ) (xs : List ℕ) → Among x xs → 1 ≤ occurs x xs
occurs_there x [] any = cc
occurs_there x (c ∷ xs) any = rw (occurs-cons x c xs) (first_occurs (nat_eq c x) (list_any (λ c. nat_eq c x) xs) (occurs x xs) any (occurs_there x xs))

first_among : (same rest : Bool) (n : ℕ) → 1 ≤ cond same 1 0 + n → (1 ≤ n → rest ≡ true) → (same || rest) ≡ true
first_among true rest n some later = refl
first_among false rest n some later = later (omega arith)

pub among_there : (x : ℕ) (xs : List ℕ) → 1 ≤ occurs x xs → Among x xs
among_there x [] some = let none = occurs-none x in absurd (omega arith)
among_there x (c ∷ xs) some = first_among (nat_eq c x) (list_any (λ c. nat_eq c x) xs) (occurs x xs) (rw (occurs-cons x c xs) at some) (among_there x xs)

pub not_among : (x : ℕ) (xs : List ℕ) → list_any (λ c. nat_eq c x) xs ≡ false → occurs x xs ≡ 0
not_among x [] none = occurs-none x
not_among x (c ∷ xs) none =
    let parts = or_parts (nat_eq c x) (list_any (λ t. nat_eq t x) xs) none in
    occurs-other x c xs parts.0 ∙ not_among x xs parts.1

pub holds_among : (P : ℕ → Type 0) (x : ℕ) (xs : List ℕ) → AllByRecursion P xs → Among x xs → P x
holds_among P x [] all any = cc
holds_among P x (c ∷ xs) all any =
    by_first (P x) (nat_eq c x) (list_any (λ c. nat_eq c x) xs) (λ same. rw (eqb-true c x same) at all.0) (holds_among P x xs all.1) any

-- of numbers that differ each occurs once
other_way : (x y : ℕ) → nat_eq x y ≡ false → nat_eq y x ≡ false
other_way x y other = ne_eqb y x (λ same. let yes = eq-eqb x y (sym same) in cc)

no_more : (x : ℕ) (ys : List ℕ) → AllByRecursion (λ y. nat_eq x y ≡ false) ys → occurs x ys ≡ 0
no_more x [] others = occurs-none x
no_more x (y ∷ ys) others = occurs-other x y ys (other_way x y others.0) ∙ no_more x ys others.1

once_by : (same : Bool) (x c : ℕ) (xs : List ℕ) → nat_eq c x ≡ same → AllByRecursion (λ y. nat_eq c y ≡ false) xs → occurs x xs ≤ 1 → occurs x (c ∷ xs) ≤ 1
once_by true x c xs is others rest =
    let equal = eqb-true c x is in
    let none = no_more x xs (rw equal at others) in
    rw (occurs-cons x c xs, is, none) (omega arith)
once_by false x c xs is others rest = rw (occurs-other x c xs is) rest

pub occurs_once : (x : ℕ) (xs : List ℕ) → IsDistinct nat_eq xs → occurs x xs ≤ 1
unfolding IsDistinct
occurs_once x [] distinct = rw (occurs-none x) (omega arith)
occurs_once x (c ∷ xs) distinct = once_by (nat_eq c x) x c xs refl distinct.0 (occurs_once x xs distinct.1)

-- in lists in a row
pub among_flat : (f : ℕ → List ℕ) (c x : ℕ) (cs : List ℕ) → Among c cs → Among x (f c) → Among x (flat_map f cs)
among_flat f c x [] there any = cc
among_flat f c x (d ∷ cs) there any =
    rw (list_any-append (λ t. nat_eq t x) (f d) (flat_map f cs))
    (by_first ((list_any (λ t. nat_eq t x) (f d) || list_any (λ t. nat_eq t x) (flat_map f cs)) ≡ true) (nat_eq d c) (list_any (λ t. nat_eq t c) cs)
    (λ same. or_left (list_any (λ t. nat_eq t x) (f d)) (list_any (λ t. nat_eq t x) (flat_map f cs)) (rw (eqb-true d c same) any))
    (λ later. or_right (list_any (λ t. nat_eq t x) (f d)) (list_any (λ t. nat_eq t x) (flat_map f cs)) (among_flat f c x cs later any)) there)

pub from_flat : (P : Type 0) (f : ℕ → List ℕ) (x : ℕ) (cs : List ℕ) → ((c : ℕ) → Among c cs → Among x (f c) → P) → Among x (flat_map f cs) → P
from_flat P f x [] each any = cc
from_flat P f x (d ∷ cs) each any =
    by_first P (list_any (λ t. nat_eq t x) (f d)) (list_any (λ t. nat_eq t x) (flat_map f cs))
    (λ here. each d (rw (eq-eqb d d refl) refl) here)
    (λ later. from_flat P f x cs (λ c there. each c (or_right (nat_eq d c) (list_any (λ t. nat_eq t c) cs) there)) later)
    (rw (list_any-append (λ t. nat_eq t x) (f d) (flat_map f cs)) at any)

-- The nodes below a node, at any level.

-- a number stands at another one, or below a number that this one leads to
data IsBelow (down : ℕ → List ℕ) : ℕ → ℕ → Type 0 where
  itself : (b : ℕ) → IsBelow down b b
  through : (b c x : ℕ) → Among c (down b) → IsBelow down c x → IsBelow down b x

module _ (down : ℕ → List ℕ) where
  from_both : (b c x : ℕ) → IsBelow down b c → IsBelow down c x → IsBelow down b x
  from_both b c x (itself d) last = last
  from_both b c x (through b' d c' there first) last = through b' d x there (from_both d c' x first last)

  -- what is gathered stands below
  gathered_below : (j b x : ℕ) → Among x (gather (λ c. c ∷ []) down j b) → IsBelow down b x
  unfolding gather
  gathered_below zero b x any =
      by_first (IsBelow down b x) (nat_eq b x) false (λ same. rw (eqb-true b x same) (itself x)) (λ no. cc) any
  gathered_below (suc j) b x any =
      by_first (IsBelow down b x) (nat_eq b x) (list_any (λ t. nat_eq t x) (flat_map (gather (λ c. c ∷ []) down j) (down b)))
      (λ same. rw (eqb-true b x same) (itself x))
      (λ later. from_flat (IsBelow down b x) (gather (λ c. c ∷ []) down j) x (down b) (λ c there found. through b c x there (gathered_below j c x found)) later) any

  -- it begins with the number itself
  starts : (j b : ℕ) → Among b (gather (λ c. c ∷ []) down j b)
  unfolding gather
  starts zero b = rw (eq-eqb b b refl) refl
  starts (suc j) b = rw (eq-eqb b b refl) refl

  -- and all that stands below is gathered, where no chain is too long
  below_gathered : (j b x : ℕ) → has_chain down (suc j) b ≡ false → IsBelow down b x → Among x (gather (λ c. c ∷ []) down j b)
  unfolding gather has_chain
  below_gathered j b x none (itself d) = starts j d
  below_gathered zero b x none (through b' c x' there rest) = absurd (let no = holds_among (λ c. has_chain down 0 c ≡ false) c (down b') (kids_shorter down 0 b' none) there in cc)
  below_gathered (suc j) b x none (through b' c x' there rest) =
      or_right (nat_eq b' x') (list_any (λ t. nat_eq t x') (flat_map (gather (λ c. c ∷ []) down j) (down b')))
      (among_flat (gather (λ c. c ∷ []) down j) c x' (down b') there
      (below_gathered j c x' (holds_among (λ c. has_chain down (suc j) c ≡ false) c (down b') (kids_shorter down (suc j) b' none) there) rest))

  -- one level more gathers no more there
  same_flat : (f g : ℕ → List ℕ) (P : ℕ → Type 0) (bs : List ℕ) → ((b : ℕ) → P b → f b ≡ g b) → AllByRecursion P bs → flat_map f bs ≡ flat_map g bs
  same_flat f g P [] each all = refl
  same_flat f g P (b ∷ bs) each all = rw (each b all.0, same_flat f g P bs each all.1) refl

  no_kids : (bs : List ℕ) → AllByRecursion (λ c. true ≡ false) bs → bs ≡ []
  no_kids [] none = refl
  no_kids (b ∷ bs) none = absurd (let no = none.0 in cc)

  level_more : (j b : ℕ) → has_chain down (suc j) b ≡ false → gather (λ c. c ∷ []) down (suc j) b ≡ gather (λ c. c ∷ []) down j b
  unfolding gather has_chain
  level_more zero b none = rw (no_kids (down b) (kids_shorter down 0 b none)) refl
  level_more (suc j) b none =
      ap (λ (xs : List ℕ). b ∷ xs) (same_flat (gather (λ c. c ∷ []) down (suc j)) (gather (λ c. c ∷ []) down j) (λ c. has_chain down (suc j) c ≡ false) (down b) (level_more j) (kids_shorter down (suc j) b none))

module _ (image : List (List ℕ)) where
  -- what stands below a node of a tree stands in the tree
  pub nodes_through : (root b x : ℕ) → HasAtMostLevels 8 image 64 root → Among b (nodes_below 8 image 63 root) → Among x (nodes_below 8 image 63 b) → Among x (nodes_below 8 image 63 root)
  unfolding nodes_below
  nodes_through root b x levels to_b to_x =
      below_gathered (node_kids 8 image) 63 root x levels
      (from_both (node_kids 8 image) root b x (gathered_below (node_kids 8 image) 63 root b to_b) (gathered_below (node_kids 8 image) 63 b x to_x))

  -- the nodes below a node are itself, and those below its children
  pub nodes_are : (b : ℕ) → HasAtMostLevels 8 image 64 b → nodes_below 8 image 63 b ≡ b ∷ nodes_of image (node_kids 8 image b)
  unfolding nodes_below nodes_of gather
  nodes_are b levels =
      let down = node_kids 8 image in
      ap (λ (xs : List ℕ). b ∷ xs) (same_flat down (gather (λ c. c ∷ []) down 62) (gather (λ c. c ∷ []) down 63) (λ c. has_chain down 63 c ≡ false) (down b)
      (λ c none. sym (level_more down 62 c none)) (kids_shorter down 63 b levels))

  -- and the children have at most as many levels
  pub levels_below : (b : ℕ) → HasAtMostLevels 8 image 64 b → AllByRecursion (HasAtMostLevels 8 image 64) (node_kids 8 image b)
  levels_below b levels =
      all_from (λ c. has_chain (node_kids 8 image) 63 c ≡ false) (HasAtMostLevels 8 image 64) (λ c none. no_longer (node_kids 8 image) 63 c none) (node_kids 8 image b)
      (kids_shorter (node_kids 8 image) 63 b levels)

-- What a mark tells of a node.

-- the mark of a node that is met once more
after_once : (inner few : Bool) (block : List ℕ) → mark_after (mark_once inner few) block ≡ mark_often inner few
after_once true few block = refl
after_once false true block = refl
after_once false false block = refl

after_often : (inner few : Bool) (block : List ℕ) → mark_after (mark_often inner few) block ≡ mark_often inner few
after_often true few block = refl
after_often false true block = refl
after_often false false block = refl

pub after_is : (block : List ℕ) (n : ℕ) → mark_after (mark_of block n) block ≡ mark_of block (suc n)
unfolding mark_of
after_is block zero = refl
after_is block (suc zero) = after_once (is_inner_node block) (has_few_entries block) block
after_is block (suc (suc n)) = after_often (is_inner_node block) (has_few_entries block) block

-- twice or more is the same
pub same_often : (block : List ℕ) (n m : ℕ) → 2 ≤ n → 2 ≤ m → mark_of block n ≡ mark_of block m
unfolding mark_of
same_often block zero m more often = absurd (omega arith)
same_often block (suc zero) m more often = absurd (omega arith)
same_often block (suc (suc n)) zero more often = absurd (omega arith)
same_often block (suc (suc n)) (suc zero) more often = absurd (omega arith)
same_often block (suc (suc n)) (suc (suc m)) more often = refl

-- an inner node that isn't followed was met twice
pub passed_twice : (block : List ℕ) (n : ℕ) → is_inner_node block ≡ true → is_followed (mark_of block n) ≡ false → 2 ≤ n
unfolding mark_of
passed_twice block zero inner passed = absurd (cc)
passed_twice block (suc zero) inner passed = absurd (let no = rw inner at passed in cc)
passed_twice block (suc (suc n)) inner passed = omega arith
