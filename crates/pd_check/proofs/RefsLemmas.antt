-- References that are counted one after another.
use Rattle.std.proofs.Common.{◌≡◌, ℕ, zero, suc, ◌+◌, ◌*◌, ◌-◌, ◌^◌, ◌<◌, ◌≤◌, Bool, cond, List, [], ◌∷◌, ◌++◌, length, take, get_or, Some, ap, sym, ◌∙◌, refl, subst, arith, append_assoc, append-nil, length-append, inl, inr, length-take-le, Result, Ok, Err, ◌/◌, true, false, filter, eqb}
use Rattle.std.specs.Result.{OnOk}
use Rattle.std.specs.List.{AllByRecursion, flat_map, range_with_len, count_by, slice_get}
use Rattle.std.proofs.lemmas.Bool.{cases_Bool}
use Rattle.std.proofs.lemmas.Grind.{flat_map-append}
use Rattle.std.proofs.lemmas.List.{take_more}
use Rattle.std.proofs.lemmas.List.Sums.{sum_by-append}
use Rattle.std.proofs.lemmas.Option.{get_or_from_slice_get, slice_get_within}
use Rattle.pd_kinds.specs.Graph.{Graph, block_at, pair, data_count, data_refs_of, is_reached, nodes}
use Rattle.pd_kinds.specs.Lawful.{IsLawful}
use Rattle.pd_kinds.proofs.NumberLemmas.{range_split}
use Rattle.pd_count.specs.Counted.{Counted, HasCounted}
use Rattle.pd_graph.specs.declared.audit.Audit.{Audit}
use Rattle.pd_graph.specs.Audit.{roles_at}
use Rattle.pd_graph.specs.Marks.{has_bit}
use Rattle.pd_graph.proofs.BitLemmas.{range_more, pair_block, pair_role}
use Rattle.pd_check.specs.Refs.{number_in, refs_at, refs_before, refs_in}

-- an element of a list of which all have a property
all_at : (P : ℕ → Type 0) (xs : List ℕ) (i d e : ℕ) → AllByRecursion P xs → i < length xs → get_or xs i e ≡ d → P d
all_at P [] i d e all within is = absurd (omega arith)
all_at P (x ∷ xs) zero d e all within is = subst P is all.0
all_at P (x ∷ xs) (suc i) d e all within is = all_at P xs i d e all.1 (omega arith) is

-- one reference more
pub one_ref_more : (old new : Counted) (size i d : ℕ) (before refs : List ℕ) → slice_get refs i ≡ Some d → AllByRecursion (λ r. r < size) refs → length before + length refs < 2 ^ 32 - 1
    → HasCounted old (before ++ take i refs) → ((all : List ℕ) → HasCounted old all → d < size → length all < 2 ^ 32 - 1 → HasCounted new (all ++ d ∷ []))
    → HasCounted new (before ++ take (i + 1) refs)
one_ref_more old new size i d before refs found within few counted adds =
    let inside : i < length refs = slice_get_within refs i d found in
    let is : get_or refs i 0 ≡ d = get_or_from_slice_get refs i d 0 found in
    let short : length (before ++ take i refs) < 2 ^ 32 - 1 = omega (arith, length-append before (take i refs), length-take-le i refs (omega arith)) in
    subst (HasCounted new)
    (append_assoc before (take i refs) (d ∷ []) ∙ ap (λ (xs : List ℕ). before ++ xs) (ap (λ (x : ℕ). take i refs ++ x ∷ []) (sym is) ∙ sym (take_more refs i 0 inside)))
    (adds (before ++ take i refs) counted (all_at (λ r. r < size) refs i d 0 within inside is) short)

-- the references of one block more
pub refs_more : (graph : Graph) (image : List (List ℕ)) (role : ℕ) (pairs : ℕ → Bool) (b : ℕ)
    → refs_before graph image role pairs (b + 1) ≡ refs_before graph image role pairs b ++ refs_at graph image role pairs b
unfolding refs_before
refs_more graph image role pairs b =
    let next : b + 1 ≡ suc b = omega arith in
    let more : range_with_len 0 (b + 1) ≡ range_with_len 0 b ++ (b ∷ []) = rw next (range_more 0 b b (omega arith)) in
    ap (flat_map (refs_at graph image role pairs)) more ∙ flat_map-append (refs_at graph image role pairs) (range_with_len 0 b) (b ∷ [])
    ∙ ap (λ (xs : List ℕ). refs_before graph image role pairs b ++ xs) (append-nil (refs_at graph image role pairs b))

pub no_refs : (graph : Graph) (image : List (List ℕ)) (role : ℕ) (pairs : ℕ → Bool) → refs_before graph image role pairs 0 ≡ []
unfolding refs_before
no_refs graph image role pairs = refl

-- how many there are at the most
few_at : (graph : Graph) (image : List (List ℕ)) (role : ℕ) (pairs : ℕ → Bool) (b : ℕ) → IsLawful graph → role < graph.roles → length (refs_at graph image role pairs b) ≤ 254
few_at graph image role pairs b lawful known =
    elim (cases_Bool (pairs (pair b role))) [
      | inl passes ↦ rw passes (lawful.each role b (block_at image b) known).data_number
      | inr fails ↦ rw fails (omega arith)
    ]

pub few_refs : (graph : Graph) (image : List (List ℕ)) (role : ℕ) (pairs : ℕ → Bool) (n : ℕ) → IsLawful graph → role < graph.roles → length (refs_before graph image role pairs n) ≤ 254 * n
few_refs graph image role pairs zero lawful known = omega (arith, ap (length {A = ℕ}) (no_refs graph image role pairs))
few_refs graph image role pairs (suc n) lawful known =
    let next : suc n ≡ n + 1 = omega arith in
    let more : length (refs_before graph image role pairs (suc n)) ≡ length (refs_before graph image role pairs n) + length (refs_at graph image role pairs n) =
    ap (λ k. length (refs_before graph image role pairs k)) next ∙ ap (length {A = ℕ}) (refs_more graph image role pairs n)
    ∙ length-append (refs_before graph image role pairs n) (refs_at graph image role pairs n) in
    omega (arith, more, few_refs graph image role pairs n lawful known, few_at graph image role pairs n lawful known)

-- how many blocks have the role, with one block more
pub number_more : (audit : Audit) (role b : ℕ) → number_in audit role (b + 1) ≡ number_in audit role b + cond (has_bit (roles_at audit b) role) 1 0
unfolding number_in
number_more audit role b =
    let next : b + 1 ≡ suc b = omega arith in
    let more : range_with_len 0 (b + 1) ≡ range_with_len 0 b ++ (b ∷ []) = rw next (range_more 0 b b (omega arith)) in
    ap (count_by (λ k. has_bit (roles_at audit k) role)) more ∙ sum_by-append (λ k. cond (has_bit (roles_at audit k) role) 1 0) (range_with_len 0 b) (b ∷ []) ∙ omega arith

pub number_none : (audit : Audit) (role : ℕ) → number_in audit role 0 ≡ 0
unfolding number_in
number_none audit role = refl

-- so many blocks, and more
pub number_grows : (audit : Audit) (role b k : ℕ) → number_in audit role b ≤ number_in audit role (b + k)
number_grows audit role b zero = let same : b + 0 ≡ b = omega arith in rw same (omega arith)
number_grows audit role b (suc k) =
    let next : b + suc k ≡ b + k + 1 = omega arith in
    rw next (omega (arith, number_more audit role (b + k), number_grows audit role b k))

pub ok_maps : {T E : Type 0} → (result : Result T E) (P Q : Type 0) → (P → Q) → OnOk result P → OnOk result Q
ok_maps (Ok x) P Q f p = f p
ok_maps (Err e) P Q f p = tt

-- Where blocks name data in one role alone, their references are those of all reached pairs.

module _ {Y : Type 0} where
  -- what the numbers that pass give
  pub passing : (p : ℕ → Bool) (f : ℕ → List Y) (xs : List ℕ) → flat_map f (filter p xs) ≡ flat_map (λ x. cond (p x) (f x) []) xs
  passing p f [] = refl
  passing p f (x ∷ xs) = elim (cases_Bool (p x)) [
    | inl passes ↦ rw passes (ap (λ (ys : List Y). f x ++ ys) (passing p f xs))
    | inr fails ↦ rw fails (passing p f xs)
  ]

  -- one of a row alone gives something
  none_of : (g : ℕ → List Y) (n a : ℕ) → ((i : ℕ) → i < n → g (a + i) ≡ []) → flat_map g (range_with_len a n) ≡ []
  none_of g zero a none = refl
  none_of g (suc n) a none =
      let first : a ≡ a + 0 = omega arith in
      ap (λ (ys : List Y). ys ++ flat_map g (range_with_len (a + 1) n)) (ap g first ∙ none 0 (omega arith))
      ∙ none_of g n (a + 1) (λ i below. let next : a + 1 + i ≡ a + (i + 1) = omega arith in ap g next ∙ none (i + 1) (omega arith))

  pub one_of : (g : ℕ → List Y) (n k a : ℕ) → k < n → ((i : ℕ) → i < n → (i ≡ k → ⊥) → g (a + i) ≡ []) → flat_map g (range_with_len a n) ≡ g (a + k)
  one_of g zero k a within none = absurd (omega arith)
  one_of g (suc n) zero a within none =
      let first : a ≡ a + 0 = omega arith in
      ap (λ (ys : List Y). g a ++ ys) (none_of g n (a + 1) (λ i below. let next : a + 1 + i ≡ a + (i + 1) = omega arith in ap g next ∙ none (i + 1) (omega arith) (λ same. omega (arith, same))))
      ∙ append-nil (g a) ∙ ap g first
  one_of g (suc n) (suc k) a within none =
      let first : a ≡ a + 0 = omega arith in
      let last : a + 1 + k ≡ a + suc k = omega arith in
      ap (λ (ys : List Y). ys ++ flat_map g (range_with_len (a + 1) n)) (ap g first ∙ none 0 (omega arith) (λ same. omega (arith, same)))
      ∙ one_of g n k (a + 1) (omega arith) (λ i below other. let next : a + 1 + i ≡ a + (i + 1) = omega arith in ap g next ∙ none (i + 1) (omega arith) (λ same. other (omega (arith, same))))
      ∙ ap g last

-- what a pair names, where it is reached
abbrev named : Graph → List (List ℕ) → ℕ → List ℕ
named graph image p = cond (is_reached graph image p) (data_refs_of graph image p) []

named_is : (graph : Graph) (image : List (List ℕ)) (b role : ℕ) → role < 16 → named graph image (16 * b + role) ≡ refs_at graph image role (is_reached graph image) b
named_is graph image b role few =
    ap (λ r. cond (is_reached graph image (16 * b + role)) (graph.data_refs r ((16 * b + role) / 16) (block_at image ((16 * b + role) / 16))) []) (pair_role b role few)
    ∙ ap (λ c. cond (is_reached graph image (16 * b + role)) (graph.data_refs role c (block_at image c)) []) (pair_block b role few)

empty_either : (t : Bool) (xs : List ℕ) → xs ≡ [] → cond t xs [] ≡ []
empty_either true xs none = none
empty_either false xs none = refl

-- the pairs of the blocks before block n
pairs_before : (graph : Graph) (image : List (List ℕ)) (role n : ℕ) → role < 16
    → ((other place : ℕ) (block : List ℕ) → other < 16 → (other ≡ role → ⊥) → graph.data_refs other place block ≡ [])
    → flat_map (named graph image) (range_with_len 0 (16 * n)) ≡ refs_before graph image role (is_reached graph image) n
unfolding refs_before
pairs_before graph image role zero few others = refl
pairs_before graph image role (suc n) few others =
    let sum : 16 * suc n ≡ 16 * n + 16 = omega arith in
    let next : n + 1 ≡ suc n = omega arith in
    let start : 0 + 16 * n ≡ 16 * n = omega arith in
    ap (λ k. flat_map (named graph image) (range_with_len 0 k)) sum
    ∙ ap (flat_map (named graph image)) (range_split 0 (16 * n) 16)
    ∙ flat_map-append (named graph image) (range_with_len 0 (16 * n)) (range_with_len (0 + 16 * n) 16)
    ∙ ap (λ (xs : List ℕ). xs ++ flat_map (named graph image) (range_with_len (0 + 16 * n) 16)) (pairs_before graph image role n few others)
    ∙ ap (λ (xs : List ℕ). refs_before graph image role (is_reached graph image) n ++ xs)
    (ap (λ k. flat_map (named graph image) (range_with_len k 16)) start
    ∙ one_of (named graph image) 16 role (16 * n) few
    (λ i below other. named_is graph image n i below ∙ empty_either (is_reached graph image (pair n i)) _ (others i n (block_at image n) below other))
    ∙ named_is graph image n role few)
    ∙ sym (refs_more graph image role (is_reached graph image) n) ∙ ap (refs_before graph image role (is_reached graph image)) next

pub counts_by_role : (graph : Graph) (image : List (List ℕ)) (role d : ℕ) → role < 16
    → ((other place : ℕ) (block : List ℕ) → other < 16 → (other ≡ role → ⊥) → graph.data_refs other place block ≡ [])
    → data_count graph image d ≡ count_by (λ r. eqb r d) (refs_in graph image role (is_reached graph image))
unfolding data_count nodes
counts_by_role graph image role d few others =
    ap (count_by (λ r. eqb r d)) (passing (is_reached graph image) (data_refs_of graph image) (range_with_len 0 (16 * graph.nr)) ∙ pairs_before graph image role graph.nr few others)
