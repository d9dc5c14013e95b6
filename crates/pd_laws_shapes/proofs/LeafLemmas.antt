-- Ascending leaves, and how often each is used.
use Rattle.std.proofs.Common.{◌≡◌, ℕ, zero, suc, ◌<◌, nat_eq, get_or, List, [], ◌∷◌, ◌++◌, length, map, position, Option, Some, None, refl, ◌∙◌, ap, arith, ◌≢◌, inl, inr, ◌+◌, ◌≤◌, Bool, true, false, cond, count_by, filter, sym, subst}
use Rattle.std.specs.List.{flat_map, AllByRecursion, list_any, range_with_len}
use Rattle.std.proofs.lemmas.Bool.{eqb-true, cases_Bool, cases_eq, eq-eqb, ne_eqb, lt-ltb}
use Rattle.std.proofs.lemmas.List.{append_assoc}
use Rattle.std.proofs.lemmas.List.Quantifiers.{position-Some}
use Rattle.std.proofs.lemmas.List.Sums.{position_or_len_is, sum_by-append, sum_by-cons}
use Rattle.pd_kinds.specs.Meaning.{Mapping}
use Rattle.pd_laid.specs.Shape.{ArePieces, Piece, leaf_mappings, own, piece_mappings, shared, uses_of_piece, mappings_in, pieces_of, with_leaf, with_own}

-- The pieces of a device's leaves: what they mean, that they are pieces, and which shared leaves they use.

-- the number of a leaf among the shared ones
abbrev pub number_of : List ℕ → ℕ → Option ℕ
number_of shared_ones b = position (λ leaf. nat_eq leaf b) shared_ones

abbrev pub numbers : Option ℕ → List ℕ
numbers None = []
numbers (Some k) = k ∷ []

-- what is told of a leaf with a number
pub number_is : (shared_ones : List ℕ) (b k : ℕ) → number_of shared_ones b ≡ Some k → (k < length shared_ones) × (get_or shared_ones k 0 ≡ b)
number_is shared_ones b k e =
    let at = position-Some (λ leaf. nat_eq leaf b) shared_ones k 0 e in
    (at.0, eqb-true (get_or shared_ones k 0) b at.1)

-- own mappings before pieces
pub own_means : (leaves : List (List Mapping)) (ms : List Mapping) (pieces : List Piece)
    → flat_map (piece_mappings leaves) (with_own ms pieces) ≡ ms ++ flat_map (piece_mappings leaves) pieces
own_means leaves [] pieces = refl
own_means leaves (m ∷ ms) [] = refl
own_means leaves (m ∷ ms) (own others ∷ pieces) = append_assoc (m ∷ ms) others (flat_map (piece_mappings leaves) pieces)
own_means leaves (m ∷ ms) (shared k ∷ pieces) = refl

pub own_uses : (ms : List Mapping) (pieces : List Piece) → flat_map uses_of_piece (with_own ms pieces) ≡ flat_map uses_of_piece pieces
own_uses [] pieces = refl
own_uses (m ∷ ms) [] = refl
own_uses (m ∷ ms) (own others ∷ pieces) = refl
own_uses (m ∷ ms) (shared k ∷ pieces) = refl

pub own_are : (number : ℕ) (ms : List Mapping) (pieces : List Piece) → ArePieces number pieces → ArePieces number (with_own ms pieces)
own_are number [] pieces are = are
own_are number (m ∷ ms) [] are = omega arith
own_are number (m ∷ ms) (own others ∷ []) are = omega arith
own_are number (m ∷ ms) (own others ∷ own more ∷ pieces) are = absurd are
own_are number (m ∷ ms) (own others ∷ shared k ∷ pieces) are = (omega arith, are.1)
own_are number (m ∷ ms) (shared k ∷ pieces) are = (omega arith, are)

module _ (image : List (List ℕ)) (shared_ones : List ℕ) where
  abbrev pub leaves : List (List Mapping)
  leaves = map (mappings_in image) shared_ones

  abbrev pub pieces : List ℕ → List Piece
  pieces bs = pieces_of image shared_ones bs

  pub leaf_at : (xs : List ℕ) (k : ℕ) → k < length xs → leaf_mappings (map (mappings_in image) xs) k ≡ mappings_in image (get_or xs k 0)
  leaf_at [] k within = absurd (omega arith)
  leaf_at (x ∷ xs) zero within = refl
  leaf_at (x ∷ xs) (suc k) within = leaf_at xs k (omega arith)

  -- the pieces mean the mappings of the leaves
  leaf_means : (b : ℕ) (found : Option ℕ) → number_of shared_ones b ≡ found → (rest : List Piece)
      → flat_map (piece_mappings leaves) (with_leaf (mappings_in image b) found rest) ≡ mappings_in image b ++ flat_map (piece_mappings leaves) rest
  leaf_means b None e rest = own_means leaves (mappings_in image b) rest
  leaf_means b (Some k) e rest =
      let is = number_is shared_ones b k e in
      ap (λ (ms : List Mapping). ms ++ flat_map (piece_mappings leaves) rest) (leaf_at shared_ones k is.0 ∙ ap (mappings_in image) is.1)

  pub pieces_mean : (bs : List ℕ) → flat_map (piece_mappings leaves) (pieces bs) ≡ flat_map (mappings_in image) bs
  pieces_mean [] = refl
  pieces_mean (b ∷ bs) =
      leaf_means b (number_of shared_ones b) refl (pieces bs) ∙ ap (λ (rest : List Mapping). mappings_in image b ++ rest) (pieces_mean bs)

  -- they are pieces
  leaf_are : (b : ℕ) (found : Option ℕ) → number_of shared_ones b ≡ found → (rest : List Piece) → ArePieces (length shared_ones) rest
      → ArePieces (length shared_ones) (with_leaf (mappings_in image b) found rest)
  leaf_are b None e rest are = own_are (length shared_ones) (mappings_in image b) rest are
  leaf_are b (Some k) e rest are = ((number_is shared_ones b k e).0, are)

  pub pieces_are : (bs : List ℕ) → ArePieces (length shared_ones) (pieces bs)
  pieces_are [] = tt
  pieces_are (b ∷ bs) = leaf_are b (number_of shared_ones b) refl (pieces bs) (pieces_are bs)

  -- they use the shared leaves that stand there
  leaf_uses : (b : ℕ) (found : Option ℕ) (rest : List Piece)
      → flat_map uses_of_piece (with_leaf (mappings_in image b) found rest) ≡ numbers found ++ flat_map uses_of_piece rest
  leaf_uses b None rest = own_uses (mappings_in image b) rest
  leaf_uses b (Some k) rest = refl

  pub pieces_uses : (bs : List ℕ) → flat_map uses_of_piece (pieces bs) ≡ flat_map (λ b. numbers (number_of shared_ones b)) bs
  pieces_uses [] = refl
  pieces_uses (b ∷ bs) =
      leaf_uses b (number_of shared_ones b) (pieces bs) ∙ ap (λ (rest : List ℕ). numbers (number_of shared_ones b) ++ rest) (pieces_uses bs)

-- numbers that ascend from the least one on
abbrev pub Ascend : ℕ → List ℕ → Type 0
Ascend least [] = Unit {0}
Ascend least (x ∷ xs) = (least ≤ x) × Ascend (suc x) xs

ascend_from : (least lower : ℕ) (xs : List ℕ) → lower ≤ least → Ascend least xs → Ascend lower xs
ascend_from least lower [] below ascend = tt
ascend_from least lower (x ∷ xs) below ascend = (omega (arith, ascend.0), ascend.1)

pub filtered_ascend : (p : ℕ → Bool) (from n : ℕ) → Ascend from (filter p (range_with_len from n))
filtered_ascend p from zero = tt
filtered_ascend p from (suc n) = chosen (p from) refl (subst (λ (least : ℕ). Ascend least (filter p (range_with_len (from + 1) n))) next (filtered_ascend p (from + 1) n))
  where
    next : from + 1 ≡ suc from
    next = omega arith

    chosen : (b : Bool) → p from ≡ b → Ascend (suc from) (filter p (range_with_len (from + 1) n)) → Ascend from (filter p (range_with_len from (suc n)))
    chosen true e rest = rw e (omega arith, rest)
    chosen false e rest = rw e (ascend_from (suc from) from (filter p (range_with_len (from + 1) n)) (omega arith) rest)

least_of : (least : ℕ) (xs : List ℕ) (k : ℕ) → Ascend least xs → k < length xs → least ≤ get_or xs k 0
least_of least [] k ascend within = absurd (omega arith)
least_of least (x ∷ xs) zero ascend within = ascend.0
least_of least (x ∷ xs) (suc k) ascend within =
    let first = ascend.0 in
    let rest = least_of (suc x) xs k ascend.1 (omega arith) in
    omega arith

pub earlier_less : (least : ℕ) (xs : List ℕ) (i k : ℕ) → Ascend least xs → i < k → k < length xs → get_or xs i 0 < get_or xs k 0
earlier_less least [] i k ascend before within = absurd (omega arith)
earlier_less least (x ∷ xs) i zero ascend before within = absurd (omega arith)
earlier_less least (x ∷ xs) zero (suc k) ascend before within = let rest = least_of (suc x) xs k ascend.1 (omega arith) in omega arith
earlier_less least (x ∷ xs) (suc i) (suc k) ascend before within = earlier_less (suc x) xs i k ascend.1 (omega arith) (omega arith)

module _ (xs : List ℕ) (ascend : Ascend 0 xs) where
  -- the number of a shared leaf is its place
  pub number_at : (k : ℕ) → k < length xs → number_of xs (get_or xs k 0) ≡ Some k
  number_at k within =
      let b = get_or xs k 0 in
      let place = position_or_len_is (λ leaf. nat_eq leaf b) xs k 0 (omega arith)
      (λ i before. ne_eqb (get_or xs i 0) b (λ e. let less = earlier_less 0 xs i k ascend before within in omega arith)) (λ inside. eq-eqb b b refl) in
      rw (place, lt-ltb k (length xs) within) refl

  -- it is used where it stands
  pub uses_one : (k : ℕ) → k < length xs → (c : ℕ) (found : Option ℕ) → number_of xs c ≡ found
      → count_by (λ used. nat_eq used k) (numbers found) ≡ cond (nat_eq c (get_or xs k 0)) 1 0
  uses_one k within c found e = elim (cases_eq c (get_or xs k 0)) [
    | inl same ↦
        let here : Some k ≡ found = sym (number_at k within) ∙ (ap (number_of xs) (sym same) ∙ e) in
        rw (eq-eqb c (get_or xs k 0) same, ← here, eq-eqb k k refl) refl
    | inr other ↦ rw (ne_eqb c (get_or xs k 0) other) (none found e other)
  ]
    where
      none : (found : Option ℕ) → number_of xs c ≡ found → c ≢ get_or xs k 0 → count_by (λ used. nat_eq used k) (numbers found) ≡ 0
      none None e other = refl
      none (Some j) e other =
          let is = number_is xs c j e in
          rw (ne_eqb j k (λ same. other (sym is.1 ∙ ap (λ (i : ℕ). get_or xs i 0) same))) refl

  pub uses_counted : (k : ℕ) → k < length xs → (bs : List ℕ)
      → count_by (λ used. nat_eq used k) (flat_map (λ b. numbers (number_of xs b)) bs) ≡ count_by (λ leaf. nat_eq leaf (get_or xs k 0)) bs
  uses_counted k within [] = refl
  uses_counted k within (c ∷ bs) =
      let b = get_or xs k 0 in
      let both = sum_by-append (λ used. cond {A = ℕ} (nat_eq used k) 1 0) (numbers (number_of xs c)) (flat_map (λ b. numbers (number_of xs b)) bs) in
      let first = uses_one k within c (number_of xs c) refl in
      let rest = uses_counted k within bs in
      let counted = sum_by-cons (λ leaf. cond {A = ℕ} (nat_eq leaf b) 1 0) c bs in
      omega (arith, both, first, rest, counted)

-- what is counted is there
pub counted_any : (k : ℕ) (uses : List ℕ) → 1 ≤ count_by (λ used. nat_eq used k) uses → list_any (λ used. nat_eq used k) uses ≡ true
counted_any k [] some = absurd (omega arith)
counted_any k (u ∷ uses) some = elim (cases_Bool (nat_eq u k)) [
  | inl here ↦ rw here refl
  | inr other ↦
      let counted = sum_by-cons (λ used. cond {A = ℕ} (nat_eq used k) 1 0) u uses in
      let none : cond {A = ℕ} (nat_eq u k) 1 0 ≡ 0 = rw other refl in
      rw other (counted_any k uses (omega arith))
]

-- what holds of each number that passes a test holds of those that are left
pub filtered_all : (P : ℕ → Type 0) (p : ℕ → Bool) → ((x : ℕ) → p x ≡ true → P x) → (xs : List ℕ) → AllByRecursion P (filter p xs)
filtered_all P p holds [] = tt
filtered_all P p holds (x ∷ xs) = chosen (p x) refl (filtered_all P p holds xs)
  where
    chosen : (b : Bool) → p x ≡ b → AllByRecursion P (filter p xs) → AllByRecursion P (filter p (x ∷ xs))
    chosen true e rest = rw e (holds x e, rest)
    chosen false e rest = rw e rest

pub at_place : (P : ℕ → Type 0) (xs : List ℕ) (k : ℕ) → AllByRecursion P xs → k < length xs → P (get_or xs k 0)
at_place P [] k all within = absurd (omega arith)
at_place P (x ∷ xs) zero all within = all.0
at_place P (x ∷ xs) (suc k) all within = at_place P xs k all.1 (omega arith)

pub filtered_few : (p : ℕ → Bool) (from n : ℕ) → length (filter p (range_with_len from n)) ≤ n
filtered_few p from zero = omega arith
filtered_few p from (suc n) = chosen (p from) refl (filtered_few p (from + 1) n)
  where
    chosen : (b : Bool) → p from ≡ b → length (filter p (range_with_len (from + 1) n)) ≤ n → length (filter p (range_with_len from (suc n))) ≤ suc n
    chosen true e rest = rw e (omega (arith, rest))
    chosen false e rest = rw e (omega (arith, rest))
