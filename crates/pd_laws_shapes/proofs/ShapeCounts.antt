-- How often the leaves of an image name a data block, and how often its shape tells it.
use Rattle.std.proofs.Common.{◌≡◌, ◌≢◌, inl, inr, ℕ, zero, suc, ◌+◌, ◌*◌, ◌<◌, ◌≤◌, Bool, true, false, cond, nat_eq, List, [], ◌∷◌, filter, refl, sym, ◌∙◌, ap, eq-eqb, zero-add, arith, ◌++◌, length, map, Option, Some, None, ap₂, subst}
use Rattle.std.specs.List.{AllByRecursion, range_with_len, sum_by, flat_map, list_any, position_or_len}
use Rattle.std.proofs.lemmas.Bool.{cases_eq, ne_eqb, cases_Bool, lt-ltb, both_ways, or_right}
use Rattle.std.proofs.lemmas.List.Sums.{sum_by-append, sum_by-cons}
use Rattle.std.proofs.lemmas.Grind.{flat_map-append}
use Rattle.std.proofs.lemmas.List.{append_assoc, map-append}
use Rattle.std.proofs.lemmas.List.Folds.{flat_map-map}
use Rattle.pd_kinds.specs.Graph.{pair, role_of}
use Rattle.pd_kinds.proofs.NumberLemmas.{range_split}
use Rattle.pd_kinds.specs.Meaning.{Mapping, thin_meaning}
use Rattle.pd_kinds.specs.Node.{Entry}
use Rattle.pd_kinds.proofs.KindsListLemmas.{count_by-flat_map}
use Rattle.pd_grammar.proofs.ThinLaws.{data_of}
use Rattle.pd_laid.specs.Laid.{count_in}
use Rattle.pd_laid.specs.Shape.{Piece, ShapeDevice, own, shared, all_leaf_blocks, image_shape, is_shared_leaf, leaf_blocks, mappings_in, pieces_of, shared_leaves, with_leaf, with_own}
use Rattle.pd_laid.specs.PoolText.{own_mappings, shape_data}
use Rattle.pd_laws_laid.proofs.ListLemmas.{map_flat}
use Rattle.pd_laws_shapes.proofs.LeafLemmas.{at_place, number_is, number_of}
use Rattle.pd_laws_shapes.proofs.SoundShape.{are_shared, graph, shapes, shared_ones, tops}

-- Sums over the numbers of a range, and counts in lists in a row.

-- a sum over those that pass
kept_first : (g : ℕ → ℕ) (passes : Bool) (x : ℕ) (kept : List ℕ) → sum_by g (cond passes (x ∷ kept) kept) ≡ cond passes (g x) 0 + sum_by g kept
kept_first g true x kept = sum_by-cons g x kept
kept_first g false x kept = sym (zero-add (sum_by g kept))

pub sum_kept : (g : ℕ → ℕ) (test : ℕ → Bool) (xs : List ℕ) → sum_by g (filter test xs) ≡ sum_by (λ x. cond (test x) (g x) 0) xs
sum_kept g test [] = refl
sum_kept g test (x ∷ xs) =
    let first = kept_first g (test x) x (filter test xs) in
    let rest = sum_kept g test xs in
    let whole = sum_by-cons (λ y. cond (test y) (g y) 0) x xs in
    omega arith

-- two sums are the same where each term is
pub same_sums : (f g : ℕ → ℕ) (from n : ℕ) → ((b : ℕ) → b < from + n → f b ≡ g b) → sum_by f (range_with_len from n) ≡ sum_by g (range_with_len from n)
same_sums f g from zero same = refl
same_sums f g from (suc n) same =
    let first = same from (omega arith) in
    let rest = same_sums f g (from + 1) n (λ b below. same b (omega arith)) in
    let one = sum_by-cons f from (range_with_len (from + 1) n) in
    let other = sum_by-cons g from (range_with_len (from + 1) n) in
    omega arith

-- a sum of sums
pub both_sums : (f g : ℕ → ℕ) (xs : List ℕ) → sum_by (λ x. f x + g x) xs ≡ sum_by f xs + sum_by g xs
both_sums f g [] = refl
both_sums f g (x ∷ xs) =
    let whole = sum_by-cons (λ x. f x + g x) x xs in
    let one = sum_by-cons f x xs in
    let other = sum_by-cons g x xs in
    let rest = both_sums f g xs in
    omega arith

-- a sum of nothing, and one with one term
no_sum : (f : ℕ → ℕ) (from n : ℕ) → ((b : ℕ) → from ≤ b → b < from + n → f b ≡ 0) → sum_by f (range_with_len from n) ≡ 0
no_sum f from zero none = refl
no_sum f from (suc n) none =
    let first = none from (omega arith) (omega arith) in
    let rest = no_sum f (from + 1) n (λ b above below. none b (omega arith) (omega arith)) in
    let whole = sum_by-cons f from (range_with_len (from + 1) n) in
    omega arith

one_sum : (f : ℕ → ℕ) (b from n : ℕ) → from ≤ b → b < from + n → ((c : ℕ) → from ≤ c → c < from + n → c ≢ b → f c ≡ 0)
    → sum_by f (range_with_len from n) ≡ f b
one_sum f b from zero above below others = absurd (omega arith)
one_sum f b from (suc n) above below others =
    let whole = sum_by-cons f from (range_with_len (from + 1) n) in
    elim (cases_eq from b) [
      | inl same ↦
          let rest = no_sum f (from + 1) n (λ c later within. others c (omega arith) (omega arith) (λ e. omega arith)) in
          let here = ap f same in
          omega arith
      | inr other ↦
          let first = others from (omega arith) (omega arith) other in
          let rest = one_sum f b (from + 1) n (omega arith) (omega arith) (λ c later within. others c (omega arith) (omega arith)) in
          omega arith
    ]

-- a sum over a list is one over the range in which its numbers are, each term as often as its number is in the list
once_more : (here : Bool) (k m : ℕ) → (cond here 1 0 + k) * m ≡ cond here m 0 + k * m
once_more true k m = grind arith
once_more false k m = grind arith

at_one : (g : ℕ → ℕ) (n x : ℕ) → x < n → sum_by (λ b. cond (nat_eq x b) (g b) 0) (range_with_len 0 n) ≡ g x
at_one g n x below =
    one_sum (λ b. cond (nat_eq x b) (g b) 0) x 0 n (omega arith) (omega arith) (λ c above within other. rw (ne_eqb x c (λ same. other (sym same))) refl)
    ∙ (rw (eq-eqb x x refl) refl)

pub sum_by_counts : (g : ℕ → ℕ) (n : ℕ) (xs : List ℕ) → AllByRecursion (λ x. x < n) xs → sum_by g xs ≡ sum_by (λ b. count_in xs b * g b) (range_with_len 0 n)
sum_by_counts g n [] all = sym (no_sum (λ b. count_in [] b * g b) 0 n (λ b above below. grind arith))
sum_by_counts g n (x ∷ xs) all =
    let range = range_with_len 0 n in
    let first : ℕ → ℕ = λ b. cond (nat_eq x b) (g b) 0 in
    let others : ℕ → ℕ = λ b. count_in xs b * g b in
    let same = same_sums (λ b. count_in (x ∷ xs) b * g b) (λ b. first b + others b) 0 n (λ b below.
    ap (λ (k : ℕ). k * g b) (sum_by-cons (λ r. cond (nat_eq r b) 1 0) x xs) ∙ once_more (nat_eq x b) (count_in xs b) (g b)) in
    let both = both_sums first others range in
    let one = at_one g n x all.0 in
    let rest = sum_by_counts g n xs all.1 in
    let whole = sum_by-cons g x xs in
    omega arith

-- a sum over pairs of which only those in one role count
in_role_from : (f : ℕ → ℕ) (role a n : ℕ) → role < 16 → ((p : ℕ) → role_of p ≢ role → f p ≡ 0)
    → sum_by f (range_with_len (16 * a) (16 * n)) ≡ sum_by (λ b. f (pair b role)) (range_with_len a n)
in_role_from f role a zero few others = refl
in_role_from f role a (suc n) few others =
    let length : 16 * suc n ≡ 16 + 16 * n = omega arith in
    let start : 16 * a + 16 ≡ 16 * (a + 1) = omega arith in
    let split = ap (λ (m : ℕ). sum_by f (range_with_len (16 * a) m)) length ∙ ap (sum_by f) (range_split (16 * a) 16 (16 * n)) in
    let parts = sum_by-append f (range_with_len (16 * a) 16) (range_with_len (16 * a + 16) (16 * n)) in
    let first = one_sum f (pair a role) (16 * a) 16 (omega arith) (omega arith) (λ c above below other. others c (λ same. other (omega arith))) in
    let rest = ap (λ (c : ℕ). sum_by f (range_with_len c (16 * n))) start ∙ in_role_from f role (a + 1) n few others in
    let whole = sum_by-cons (λ b. f (pair b role)) a (range_with_len (a + 1) n) in
    omega arith

pub sum_in_role : (f : ℕ → ℕ) (role n : ℕ) → role < 16 → ((p : ℕ) → role_of p ≢ role → f p ≡ 0)
    → sum_by f (range_with_len 0 (16 * n)) ≡ sum_by (λ b. f (pair b role)) (range_with_len 0 n)
sum_in_role f role n few others = in_role_from f role 0 n few others

-- how often a leaf names a data block
abbrev pub times : List (List ℕ) → ℕ → ℕ → ℕ
times image d b = count_in (map (λ (x : Mapping). x.data_block) (mappings_in image b)) d

-- own mappings stay own ones, and those of a shared leaf aren't told again
own_told : (ms : List Mapping) (pieces : List Piece) → flat_map own_mappings (with_own ms pieces) ≡ ms ++ flat_map own_mappings pieces
own_told [] pieces = refl
own_told (m ∷ ms) [] = refl
own_told (m ∷ ms) (own others ∷ pieces) = append_assoc (m ∷ ms) others (flat_map own_mappings pieces)
own_told (m ∷ ms) (shared k ∷ pieces) = refl

abbrev told_by : Option ℕ → List Mapping → List Mapping
told_by None ms = ms
told_by (Some k) ms = []

leaf_told : (ms : List Mapping) (found : Option ℕ) (pieces : List Piece)
    → flat_map own_mappings (with_leaf ms found pieces) ≡ told_by found ms ++ flat_map own_mappings pieces
leaf_told ms None pieces = own_told ms pieces
leaf_told ms (Some k) pieces = refl

-- a leaf that stands in a list has a number there
stands_before : (b : ℕ) (xs : List ℕ) → list_any (λ c. nat_eq c b) xs ≡ true → position_or_len (λ c. nat_eq c b) xs < length xs
stands_before b [] any = absurd (cc)
stands_before b (x ∷ xs) any = elim (cases_Bool (nat_eq x b)) [
  | inl here ↦ rw here (omega arith)
  | inr other ↦ let rest = stands_before b xs (rw other at any) in rw other (omega arith)
]

numbered_told : (b : ℕ) (xs : List ℕ) (ms : List Mapping) → list_any (λ c. nat_eq c b) xs ≡ true → told_by (number_of xs b) ms ≡ []
numbered_told b xs ms any = rw (lt-ltb (position_or_len (λ c. nat_eq c b) xs) (length xs) (stands_before b xs any)) refl

-- one that fails a test that all of them pass has none
other_told : (test : ℕ → Bool) (b : ℕ) (xs : List ℕ) (ms : List Mapping) → AllByRecursion (λ c. test c ≡ true) xs → test b ≡ false
    → (found : Option ℕ) → number_of xs b ≡ found → told_by found ms ≡ ms
other_told test b xs ms all fails None e = refl
other_told test b xs ms all fails (Some k) e =
    let is = number_is xs b k e in
    absurd (both_ways (test b) fails (subst (λ (c : ℕ). test c ≡ true) is.1 (at_place (λ c. test c ≡ true) xs k all is.0)))

-- a number of a range that passes a test is among those that do
kept_there : (test : ℕ → Bool) (b from n : ℕ) → from ≤ b → b < from + n → test b ≡ true → list_any (λ c. nat_eq c b) (filter test (range_with_len from n)) ≡ true
kept_there test b from zero above below passes = absurd (omega arith)
kept_there test b from (suc n) above below passes = elim (cases_eq from b) [
  | inl same ↦ rw (same, passes, eq-eqb b b refl) refl
  | inr other ↦ chosen (test from) (kept_there test b (from + 1) n (omega arith) (omega arith) passes)
]
  where
    chosen : (kept : Bool) → list_any (λ c. nat_eq c b) (filter test (range_with_len (from + 1) n)) ≡ true
        → list_any (λ c. nat_eq c b) (cond kept (from ∷ filter test (range_with_len (from + 1) n)) (filter test (range_with_len (from + 1) n))) ≡ true
    chosen true rest = or_right (nat_eq from b) _ rest
    chosen false rest = rest

data_joined : (f : ℕ → List Mapping) (d : ℕ) (bs : List ℕ) → count_in (data_of (flat_map f bs)) d ≡ sum_by (λ b. count_in (data_of (f b)) d) bs
data_joined f d bs =
    ap (λ (named : List ℕ). count_in named d) (map_flat (λ (x : Mapping). x.data_block) f bs) ∙ count_by-flat_map (λ r. nat_eq r d) (λ b. data_of (f b)) bs

data_both : (xs ys : List Mapping) (d : ℕ) → count_in (data_of (xs ++ ys)) d ≡ count_in (data_of xs) d + count_in (data_of ys) d
data_both xs ys d =
    ap (λ (named : List ℕ). count_in named d) (map-append (λ (x : Mapping). x.data_block) xs ys) ∙ sum_by-append (λ r. cond (nat_eq r d) 1 0) (data_of xs) (data_of ys)

module _ (image : List (List ℕ)) where
  -- the mappings of a leaf that a device tells as its own
  abbrev told_in : ℕ → List Mapping
  told_in b = told_by (number_of (shared_ones image) b) (mappings_in image b)

  pieces_told : (bs : List ℕ) → flat_map own_mappings (pieces_of image (shared_ones image) bs) ≡ flat_map told_in bs
  pieces_told [] = refl
  pieces_told (b ∷ bs) =
      leaf_told (mappings_in image b) (number_of (shared_ones image) b) (pieces_of image (shared_ones image) bs)
      ∙ ap (λ (rest : List Mapping). told_in b ++ rest) (pieces_told bs)

  devices_told : (es : List Entry) → flat_map (λ (d : ShapeDevice). flat_map own_mappings d.pieces) (shapes image es)
      ≡ flat_map told_in (flat_map (leaf_blocks (graph image) image) (map (λ (e : Entry). e.value) es))
  devices_told [] = refl
  devices_told (e ∷ es) =
      let bs = leaf_blocks (graph image) image e.value in
      ap₂ (λ (front back : List Mapping). front ++ back) (pieces_told bs) (devices_told es)
      ∙ sym (flat_map-append told_in bs (flat_map (leaf_blocks (graph image) image) (map (λ (e : Entry). e.value) es)))

  module _ (d : ℕ) where
    -- a shape tells the mappings of each shared leaf once, and of another leaf as often as that stands there
    counted_told : count_in (shape_data (image_shape image)) d
        ≡ sum_by (times image d) (shared_ones image) + sum_by (λ b. count_in (data_of (told_in b)) d) (all_leaf_blocks (graph image) image)
    unfolding shape_data image_shape thin_meaning
    counted_told =
        let ones = shared_ones image in
        let leaves = map (mappings_in image) ones in
        let owned = flat_map (λ (d : ShapeDevice). flat_map own_mappings d.pieces) (shapes image (tops image)) in
        let front = ap (λ (ms : List Mapping). count_in (data_of ms) d) (flat_map-map (λ (ms : List Mapping). ms) (mappings_in image) ones) ∙ data_joined (mappings_in image) d ones in
        let back = ap (λ (ms : List Mapping). count_in (data_of ms) d) (devices_told (tops image)) ∙ data_joined told_in d (all_leaf_blocks (graph image) image) in
        data_both (flat_map (λ (ms : List Mapping). ms) leaves) owned d ∙ ap₂ (λ (m n : ℕ). m + n) front back

    -- that is a sum over the blocks
    abbrev pub shape_share : ℕ → ℕ
    shape_share b = cond (is_shared_leaf (graph image) image b) (times image d b) (count_in (all_leaf_blocks (graph image) image) b * times image d b)

    share_is : (b : ℕ) → b < (graph image).nr → (test : Bool) → is_shared_leaf (graph image) image b ≡ test
        → cond test (times image d b) 0 + count_in (all_leaf_blocks (graph image) image) b * count_in (data_of (told_in b)) d
        ≡ cond test (times image d b) (count_in (all_leaf_blocks (graph image) image) b * times image d b)
    unfolding shared_leaves
    share_is b below true is =
        let among = kept_there (is_shared_leaf (graph image) image) b 0 (graph image).nr (omega arith) (omega arith) is in
        rw (numbered_told b (shared_ones image) (mappings_in image b) among) (grind arith)
    share_is b below false is =
        rw (other_told (is_shared_leaf (graph image) image) b (shared_ones image) (mappings_in image b) (are_shared image) is (number_of (shared_ones image) b) refl)
        (omega arith)

    pub shape_counted : AllByRecursion (λ b. b < (graph image).nr) (all_leaf_blocks (graph image) image)
        → count_in (shape_data (image_shape image)) d ≡ sum_by shape_share (range_with_len 0 (graph image).nr)
    unfolding shared_leaves
    shape_counted within =
        let test = is_shared_leaf (graph image) image in
        let stands = all_leaf_blocks (graph image) image in
        let range = range_with_len 0 (graph image).nr in
        let first : ℕ → ℕ = λ b. cond (test b) (times image d b) 0 in
        let others : ℕ → ℕ = λ b. count_in stands b * count_in (data_of (told_in b)) d in
        let shared_sum = sum_kept (times image d) test range in
        let own_sum = sum_by_counts (λ b. count_in (data_of (told_in b)) d) (graph image).nr stands within in
        let both = both_sums first others range in
        let same = same_sums (λ b. first b + others b) shape_share 0 (graph image).nr (λ b below. share_is b (omega arith) (test b) refl) in
        let told = counted_told in
        omega arith
