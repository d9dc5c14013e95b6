-- The entries that are saved of a tree are no more than the leaves of all blocks have.
use Rattle.std.proofs.Common.{◌≡◌, inl, inr, ℕ, zero, suc, ◌+◌, ◌*◌, ◌^◌, ◌<◌, ◌≤◌, Bool, false, ◌||◌, nat_lt, List, [], ◌∷◌, ◌++◌, length, filter, sum_by, refl, arith}
use Rattle.std.specs.List.{AllByRecursion, range_with_len}
use Rattle.std.proofs.lemmas.Bool.{cases_Bool, cases_lt, lt-ltb, le-ltb, or_parts, cond_both}
use Rattle.std.proofs.lemmas.List.{length-append}
use Rattle.std.proofs.lemmas.List.Sums.{count_by-le-length, length-filter, sum_by-cons}
use Rattle.std.proofs.lemmas.List.FromFn.{length-map-range_with_len}
use Rattle.pd_kinds.specs.declared.limits.TheConstants.{MAX_META_BLOCKS}
use Rattle.pd_kinds.specs.Graph.{is_outside, block_at}
use Rattle.pd_kinds.specs.Layout.{leaf_entries, node_entries_of}
use Rattle.pd_kinds.specs.Node.{Entry, child_at, entry_count, is_inner_node, key_at, value_at}
use Rattle.pd_kinds.specs.ThinFormat.{mapped_time}
use Rattle.pd_kinds.proofs.ListLemmas.{all_flat_map, all_of}
use Rattle.pd_kinds.proofs.SoundLemmas.{inside_from}
use Rattle.pd_laid.specs.Salvage.{child_high, child_low, is_damaged, salvaged_below, salvaged_entries}
use Rattle.pd_laid.specs.Saved.{ContainsEntry}
use Rattle.pd_salvage.proofs.AscendLemmas.{AreAscending, give_ascends}
use Rattle.pd_tree.proofs.StackLemmas.{few_entries}

-- what holds of all holds of those that pass a test
all_kept : {X : Type 0} (P : X → Type 0) (p : X → Bool) (xs : List X) → AllByRecursion P xs → AllByRecursion P (filter p xs)
all_kept P p [] all = tt
all_kept P p (x ∷ xs) all = elim (cases_Bool (p x)) [
  | inl passes ↦ rw passes (all.0, all_kept P p xs all.1)
  | inr fails ↦ rw fails (all_kept P p xs all.1)
]

-- what holds of the entries of all leaves holds of those that are given
module _ (P : Entry → Type 0) (size nr : ℕ) (image : List (List ℕ)) (each : (place : ℕ) → place < nr → AllByRecursion P (leaf_entries size (block_at image place))) where
  give_all : (j place low high : ℕ) → AllByRecursion P (salvaged_below size nr image j place low high)
  unfolding salvaged_below
  give_all zero place low high = tt
  give_all (suc j) place low high = elim (cases_Bool (is_outside nr place || is_damaged size place (block_at image place))) [
    | inl out ↦ rw out tt
    | inr sound ↦
        let inside = inside_from nr place (or_parts (is_outside nr place) (is_damaged size place (block_at image place)) sound).0 in
        elim (cases_Bool (is_inner_node (block_at image place))) [
          | inl inner ↦ rw (sound, inner)
              (all_flat_map _ P (range_with_len 0 (entry_count size (block_at image place)))
              (all_of _ (λ i. give_all j (child_at (block_at image place) i) (child_low (block_at image place) low i) (child_high size (block_at image place) high i))
              (range_with_len 0 (entry_count size (block_at image place)))))
          | inr leaf ↦ rw (sound, leaf) (all_kept P _ (leaf_entries size (block_at image place)) (each place inside.1))
        ]
  ]

few_in_leaf : (size : ℕ) (block : List ℕ) → length (leaf_entries size block) ≤ 508
unfolding leaf_entries node_entries_of
few_in_leaf size block =
    let number = length-map-range_with_len {X = Entry} (λ i. record { key = key_at block i; value = value_at size block i }) 0 (entry_count size block) in
    let few = few_entries size block in
    cond_both (is_inner_node block) [] _ (λ (es : List Entry). length es ≤ 508) (λ inner. omega arith) (λ leaf. omega (arith, number, few))

-- the entries of all leaves below a place
abbrev all_leaves : ℕ → List (List ℕ) → ℕ → List Entry
all_leaves size image zero = []
all_leaves size image (suc n) = leaf_entries size (block_at image n) ++ all_leaves size image n

few_in_leaves : (size : ℕ) (image : List (List ℕ)) (n : ℕ) → length (all_leaves size image n) ≤ n * 508
few_in_leaves size image zero = omega arith
few_in_leaves size image (suc n) =
    omega (arith, length-append (leaf_entries size (block_at image n)) (all_leaves size image n), few_in_leaf size (block_at image n), few_in_leaves size image n)

-- one of two lists has it
has_first : (xs ys : List Entry) (e : Entry) → ContainsEntry xs e → ContainsEntry (xs ++ ys) e
has_first [] ys e has = absurd has
has_first (x ∷ xs) ys e (inl here) = inl here
has_first (x ∷ xs) ys e (inr later) = inr (has_first xs ys e later)

has_last : (xs ys : List Entry) (e : Entry) → ContainsEntry ys e → ContainsEntry (xs ++ ys) e
has_last [] ys e has = has
has_last (x ∷ xs) ys e has = inr (has_last xs ys e has)

in_leaves : (size : ℕ) (image : List (List ℕ)) (n place : ℕ) (e : Entry) → place < n → ContainsEntry (leaf_entries size (block_at image place)) e → ContainsEntry (all_leaves size image n) e
in_leaves size image zero place e within has = absurd (omega arith)
in_leaves size image (suc n) place e within has = elim (cases_lt place n) [
  | inl before ↦ has_last (leaf_entries size (block_at image n)) _ e (in_leaves size image n place e before has)
  | inr here ↦ let same : place ≡ n = omega arith in has_first (leaf_entries size (block_at image n)) _ e (rw same at has)
]

-- each entry is one of all
all_has : (all es : List Entry) → ((e : Entry) → ContainsEntry es e → ContainsEntry all e) → AllByRecursion (ContainsEntry all) es
all_has all [] each = tt
all_has all (e ∷ es) each = (each e (inl refl), all_has all es (λ x has. each x (inr has)))

-- entries past a key
abbrev is_past : ℕ → Entry → Bool
is_past key e = nat_lt key e.key

past_has : (key : ℕ) (us : List Entry) (e : Entry) → key < e.key → ContainsEntry us e → ContainsEntry (filter (is_past key) us) e
past_has key [] e past has = absurd has
past_has key (u ∷ us) e past (inl here) = rw (← here, lt-ltb key e.key past) (inl refl)
past_has key (u ∷ us) e past (inr later) = elim (cases_Bool (is_past key u)) [
  | inl also ↦ rw also (inr (past_has key us e past later))
  | inr other ↦ rw other (past_has key us e past later)
]

past_all : (key low high : ℕ) (es us : List Entry) → key < low → AreAscending low high es → AllByRecursion (ContainsEntry us) es → AllByRecursion (ContainsEntry (filter (is_past key) us)) es
past_all key low high [] us past are all = tt
past_all key low high (e ∷ es) us past are all =
    let first = are.0 in
    (past_has key us e (omega arith) all.0, past_all key (e.key + 1) high es us (omega arith) are.2 all.1)

-- a test keeps no more than there are
pub no_more_kept : (p : Entry → Bool) (us : List Entry) → length (filter p us) ≤ length us
no_more_kept p us = omega (arith, length-filter p us, count_by-le-length p us)

-- those past the key of one are fewer
fewer_past : (us : List Entry) (e : Entry) → ContainsEntry us e → length (filter (is_past e.key) us) + 1 ≤ length us
fewer_past [] e has = absurd has
fewer_past (u ∷ us) e (inl here) =
    let rest = no_more_kept (is_past e.key) us in
    let not_past : is_past e.key u ≡ false = rw (← here) (le-ltb e.key e.key (omega arith)) in
    rw not_past (omega arith)
fewer_past (u ∷ us) e (inr later) = elim (cases_Bool (is_past e.key u)) [
  | inl passes ↦ let rest = fewer_past us e later in rw passes (omega arith)
  | inr fails ↦ let rest = fewer_past us e later in rw fails (omega arith)
]

-- entries whose keys ascend are no more than those that they are of
no_more : (low high : ℕ) (es us : List Entry) → AreAscending low high es → AllByRecursion (ContainsEntry us) es → length es ≤ length us
no_more low high [] us are all = omega arith
no_more low high (e ∷ es) us are all =
    let rest = no_more (e.key + 1) high es (filter (is_past e.key) us) are.2 (past_all e.key (e.key + 1) high es us (omega arith) are.2 all.1) in
    let fewer = fewer_past us e all.0 in
    omega arith

-- so those that are saved of a tree are few
pub few_saved : (size nr : ℕ) (image : List (List ℕ)) (root : ℕ) → nr ≤ MAX_META_BLOCKS → length (salvaged_entries size nr image root) ≤ 2114092800
unfolding salvaged_entries
few_saved size nr image root few =
    let all = give_all (ContainsEntry (all_leaves size image nr)) size nr image
    (λ place within. all_has (all_leaves size image nr) (leaf_entries size (block_at image place)) (λ e has. in_leaves size image nr place e within has)) 64 root 0 (2 ^ 64) in
    let below = no_more 0 (2 ^ 64) (salvaged_below size nr image 64 root 0 (2 ^ 64)) (all_leaves size image nr) (give_ascends size nr image 64 root 0 (2 ^ 64)) all in
    omega (arith, below, few_in_leaves size image nr)

-- and the sum of the times of mappings is below their number times 2^24
pub few_times : (es : List Entry) → sum_by (λ (e : Entry). mapped_time e.value) es ≤ length es * 2 ^ 24
few_times [] = omega arith
few_times (e ∷ es) = let rest = few_times es in omega (arith, sum_by-cons (λ (e : Entry). mapped_time e.value) e es)
