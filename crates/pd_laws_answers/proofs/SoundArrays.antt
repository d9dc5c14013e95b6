-- The arrays of a sound cache are saved whole.
use Rattle.std.proofs.Common.{◌≡◌, ℕ, zero, suc, ◌+◌, ◌-◌, ◌/◌, ◌%◌, ◌<◌, ◌≤◌, true, false, cond, nat_lt, List, [], ◌∷◌, ◌++◌, length, drop, get_or, map, Option, Some, None, slice_get, refl, sym, ◌∙◌, ap, ap₂, arith, inl, inr}
use Rattle.std.specs.List.{AllByRecursion, range_with_len}
use Rattle.std.specs.Option.{option_and_then}
use Rattle.std.proofs.Math.Nat.{div-eq-sub-div, mod-eq-sub-mod, div-eq_of_lt, mod-eq_of_lt}
use Rattle.std.proofs.lemmas.Bool.{and_parts, cases_lt, eq-eqb, eqb-true, lt-ltb, le-ltb, ne_eqb, not-false, or_parts}
use Rattle.std.proofs.lemmas.List.{append-nil, length-map}
use Rattle.std.proofs.lemmas.List.FromFn.{length-range_with_len}
use Rattle.std.proofs.lemmas.Option.{slice_get_past}
use Rattle.std.proofs.lemmas.Slice.Eq.{bytes_eq-Decides}
use Rattle.pd_kinds.specs.Graph.{is_outside, block_at, Graph}
use Rattle.pd_kinds.specs.Node.{Entry}
use Rattle.pd_kinds.specs.Array.{max_words, word_at, word_count, array_bad}
use Rattle.pd_kinds.specs.Trees.{block_words, keys_of, value_of_key, words_of, entries_below}
use Rattle.pd_kinds.specs.Whole.{are_full, Array, is_array_index_bad}
use Rattle.pd_kinds.proofs.KindLemmas.{few_words}
use Rattle.pd_kinds.specs.Rule.{all_rules}
use Rattle.pd_kinds.specs.CacheFormat.{cache_layout}
use Rattle.pd_kinds.specs.Image.{HasBytes}
use Rattle.pd_kinds.specs.Layout.{Tree, tree, tree_to, array, graph_of, leaf_entries}
use Rattle.pd_kinds.specs.Stages.{IsReached}
use Rattle.pd_kinds.specs.InOrder.{AreInOrder}
use Rattle.pd_kinds.proofs.ListLemmas.{all_from}
use Rattle.pd_laid.specs.SavedCache.{is_array_damaged, saved_word_at, saved_word_of, saved_word}
use Rattle.pd_laid.specs.Laid.{tree_of}
use Rattle.pd_laid.proofs.NodeFacts.{block_pair, given_root, leaf_named, none_pass, under_all}

-- The words of an array whose tree and blocks are sound are saved, each at its number.

-- element i of a list that is made of numbers in a row
made_at : {X : Type 0} (f : ℕ → X) (a n i : ℕ) → slice_get (map f (range_with_len a n)) i ≡ cond (nat_lt i n) (Some (f (a + i))) None
made_at f a zero i = rw (le-ltb i zero (omega arith)) refl
made_at f a (suc n) zero = rw (lt-ltb zero (suc n) (omega arith)) (ap (λ (k : ℕ). Some (f k)) (omega arith))
made_at f a (suc n) (suc i) = made_at f (a + 1) n i ∙ elim (cases_lt i n) [
  | inl below ↦ rw (lt-ltb i n below, lt-ltb (suc i) (suc n) (omega arith)) (ap (λ (k : ℕ). Some (f k)) (omega arith))
  | inr past ↦ rw (le-ltb i n past, le-ltb (suc i) (suc n) (omega arith)) refl
]

-- element i of two lists in a row
get_left : {X : Type 0} (xs ys : List X) (i : ℕ) → i < length xs → slice_get (xs ++ ys) i ≡ slice_get xs i
get_left [] ys i below = absurd (omega arith)
get_left (x ∷ xs) ys zero below = refl
get_left (x ∷ xs) ys (suc i) below = get_left xs ys i (omega arith)

get_right : {X : Type 0} (xs ys : List X) (i : ℕ) → slice_get (xs ++ ys) (length xs + i) ≡ slice_get ys i
get_right [] ys i = let first : 0 + i ≡ i = omega arith in ap (slice_get ys) first
get_right (x ∷ xs) ys i =
    let next : length (x ∷ xs) + i ≡ suc (length xs + i) = omega arith in
    ap (slice_get (x ∷ (xs ++ ys))) next ∙ get_right xs ys i

module _ (size nr : ℕ) (image : List (List ℕ)) (some : 1 ≤ max_words size) where
  abbrev per : ℕ
  per = max_words size

  -- an entry names a block of the array that lies in the metadata and is sound
  abbrev pub IsSoundBlock : Entry → Type 0
  IsSoundBlock e = (is_outside nr e.value ≡ false) × (is_array_damaged size e.value (block_at image e.value) ≡ false)

  abbrev words_in : Entry → List ℕ
  words_in e = block_words size (block_at image e.value)

  number_in : (e : Entry) → length (words_in e) ≡ word_count size (block_at image e.value)
  unfolding block_words
  number_in e =
      length-map (range_with_len 0 (word_count size (block_at image e.value))) (word_at size (block_at image e.value))
      ∙ length-range_with_len 0 (word_count size (block_at image e.value))

  -- what is saved of such a block are its words
  saved_in : (e : Entry) (i : ℕ) → IsSoundBlock e → saved_word_at size nr image e.value i ≡ slice_get (words_in e) i
  unfolding saved_word_at block_words
  saved_in e i sound =
      let block = block_at image e.value in
      rw (sound.0, sound.1)
      (sym (made_at (word_at size block) 0 (word_count size block) i
      ∙ ap (λ (k : ℕ). cond (nat_lt i (word_count size block)) (Some (word_at size block k)) None) (omega arith)))

  -- word i of the blocks whose keys begin at a number
  abbrev saved_from : List Entry → ℕ → ℕ → Option ℕ
  saved_from entries k i = option_and_then (λ (place : ℕ). saved_word_at size nr image place (i % per)) (value_of_key entries (k + i / per))

  -- word i of a block in front of others stands in it, or in these
  here : (e : Entry) (entries : List Entry) (k i : ℕ) → e.key ≡ k → i < per → saved_from (e ∷ entries) k i ≡ saved_word_at size nr image e.value i
  unfolding value_of_key
  here e entries k i key below =
      rw (div-eq_of_lt below, mod-eq_of_lt below, eq-eqb e.key (k + 0) (omega (arith, key))) refl

  behind : (e : Entry) (entries : List Entry) (k i : ℕ) → e.key ≡ k → per ≤ i → saved_from (e ∷ entries) k i ≡ saved_from entries (k + 1) (i - per)
  unfolding value_of_key
  behind e entries k i key past =
      let word_is : i / per ≡ suc ((i - per) / per) = omega (arith, div-eq-sub-div {m = per} {n = i} some past) in
      let next : k + i / per ≡ k + 1 + (i - per) / per = omega (arith, word_is) in
      rw (ne_eqb e.key (k + i / per) (λ same. omega (arith, key, word_is, same)))
      (ap₂ (λ (key at : ℕ). option_and_then (λ (place : ℕ). saved_word_at size nr image place at) (value_of_key entries key)) next (mod-eq-sub-mod past))

  pub words_from : (entries : List Entry) (k i : ℕ) → keys_of entries ≡ range_with_len k (length entries)
      → AllByRecursion IsSoundBlock entries → are_full image size entries ≡ true → saved_from entries k i ≡ slice_get (words_of size image entries) i
  unfolding value_of_key words_of are_full
  words_from [] k i keys sound full = refl
  words_from (e ∷ []) k i keys sound full =
      let key : e.key ≡ k = ap (λ (ks : List ℕ). get_or ks 0 0) keys in
      elim (cases_lt i per) [
        | inl below ↦ here e [] k i key below ∙ (saved_in e i sound.0 ∙ ap (λ (ws : List ℕ). slice_get ws i) (sym (append-nil (words_in e))))
        | inr past ↦
            let few = few_words size (block_at image e.value) in
            behind e [] k i key past
            ∙ (sym (slice_get_past (words_in e) i (omega (arith, number_in e, few))) ∙ ap (λ (ws : List ℕ). slice_get ws i) (sym (append-nil (words_in e))))
      ]
  words_from (e ∷ other ∷ entries) k i keys sound full =
      let key : e.key ≡ k = ap (λ (ks : List ℕ). get_or ks 0 0) keys in
      let parts = and_parts _ _ full in
      let number : length (words_in e) ≡ per = number_in e ∙ eqb-true _ _ parts.0 in
      let rest = words_of size image (other ∷ entries) in
      elim (cases_lt i per) [
        | inl below ↦ here e (other ∷ entries) k i key below ∙ (saved_in e i sound.0 ∙ sym (get_left (words_in e) rest i (omega (arith, number))))
        | inr past ↦
            behind e (other ∷ entries) k i key past
            ∙ (words_from (other ∷ entries) (k + 1) (i - per) (ap (drop 1) keys) sound.1 parts.1
            ∙ (sym (get_right (words_in e) rest (i - per)) ∙ ap (slice_get (words_in e ++ rest)) (omega (arith, number))))
      ]

-- so are those of an array from the first one on
pub words_saved : (size nr : ℕ) (image : List (List ℕ)) (some : 1 ≤ max_words size) (entries : List Entry) (i : ℕ)
    → keys_of entries ≡ range_with_len 0 (length entries) → AllByRecursion (IsSoundBlock size nr image some) entries → are_full image size entries ≡ true
    → saved_word_of size nr image entries i ≡ slice_get (words_of size image entries) i
unfolding saved_word_of
words_saved size nr image some entries i keys sound full =
    ap (λ (key : ℕ). option_and_then (λ (place : ℕ). saved_word_at size nr image place (i % max_words size)) (value_of_key entries key)) (omega arith)
    ∙ words_from size nr image some entries 0 i keys sound full

module _ (nr : ℕ) (image : List (List ℕ)) (ordered : AreInOrder (graph_of 12 nr 0 (cache_layout nr)) image) (bytes : HasBytes image)
    (role block_role size : ℕ) (few : role < 16) (known : block_role < 16) (some : 1 ≤ max_words size)
    (is : cache_layout nr role ≡ tree (tree_of (tree_to 8 block_role (λ v. v)))) (block_is : cache_layout nr block_role ≡ array size) where
  abbrev graph : Graph
  graph = graph_of 12 nr 0 (cache_layout nr)

  abbrev nodes : Tree
  nodes = tree_of (tree_to 8 block_role (λ v. v))

  abbrev array_at : ℕ → List ℕ → Array
  array_at root lengths = record { role = role; root = root; size = size; lengths = lengths }

  -- a block that is reached as one of the array's breaks no rule
  block_sound : (b : ℕ) → IsReached graph image b block_role → is_array_damaged size b (block_at image b) ≡ false
  unfolding graph_of is_array_damaged
  block_sound b reached = none_pass (array_bad size b (block_at image b)) all_rules (rw block_is at (ordered.well_formed b block_role reached))

  -- so each entry of the tree names a sound block
  blocks_sound : (root : ℕ) → IsReached graph image root role → AllByRecursion (IsSoundBlock size nr image some) (entries_below graph image 8 role root)
  unfolding entries_below
  blocks_sound root reached =
      under_all 12 nr 0 (cache_layout nr) image ordered nodes role few is (IsSoundBlock size nr image some) _
      (λ c found leaf. rw (block_pair c role few)
      (all_from _ (IsSoundBlock size nr image some) (λ (e : Entry) named. (named.0.0, block_sound e.value (named.0.1 known))) (leaf_entries 8 (block_at image c))
      (leaf_named 12 nr 0 (cache_layout nr) image ordered nodes role few is c found leaf)))
      63 root reached

  -- and each word is saved
  pub array_saved : (root : ℕ) (lengths : List ℕ) (i : ℕ) → IsReached graph image root role → is_outside nr root ≡ false
      → is_array_index_bad graph image (array_at root lengths) ≡ false
      → saved_word size nr image root i ≡ slice_get (words_of size image (entries_below graph image 8 role root)) i
  unfolding is_array_index_bad
  array_saved root lengths i reached inside index =
      let entries = entries_below graph image 8 role root in
      let parts = or_parts _ _ index in
      let keys = (bytes_eq-Decides (keys_of entries) (range_with_len 0 (length entries))).0 (not-false _ parts.0) in
      let full = not-false (are_full image size entries) parts.1 in
      ap (λ (es : List Entry). saved_word_of size nr image es i) (given_root 12 nr 0 (cache_layout nr) image ordered nodes role few is bytes root reached inside)
      ∙ words_saved size nr image some entries i keys (blocks_sound root reached) full
