-- The words of a cache's arrays, of its rows.
use Rattle.std.proofs.Common.{◌≡◌, ℕ, zero, suc, ◌+◌, ◌^◌, ◌<◌, ◌≤◌, Bool, true, false, cond, List, [], ◌∷◌, length, drop, refl, sym, ◌∙◌, ap, subst, add-one, pow-suc, arith, Result, Ok, Err, max}
use Rattle.std.specs.Prelude.{IfOk}
use Rattle.std.proofs.lemmas.List.{drop_more, drop_all}
use Rattle.std.proofs.lemmas.List.FromFn.{sum_by-map-range_with_len_more, length-map-range_with_len, get_or-map-range_with_len}
use Rattle.pd_kinds.specs.Array.{max_words}
use Rattle.pd_grammar.specs.Need.{nodes_for, need_above, nodes_of_tree, need_tree, need_array}
use Rattle.pd_laid.specs.Laid.{array_root}
use Rattle.pd_laid.specs.LaidCache.{is_dirty}
use Rattle.pd_draft.specs.Closed.{DraftState}
use Rattle.pd_build.specs.Array.{ArrayLeft, array_root_left}
use Rattle.pd_build.specs.Building.{IsFilling}
use Rattle.pd_salvage_cache.specs.declared.saved.Row.{Row}
use Rattle.pd_restore_kinds.specs.declared.cache_words.Words.{Words}
use Rattle.pd_restore_kinds.specs.CacheRoots.{found, bits_below, bytes_of, word_of, words_of}

-- no bits
pub bits_none : (rows : List Row) (first : ℕ) → 0 ≡ bits_below rows first 0
unfolding bits_below
bits_none rows first = refl

-- one bit more
pub bits_more : (rows : List Row) (first i : ℕ) → bits_below rows first (i + 1) ≡ bits_below rows first i + cond (is_dirty (found rows (first + i))) (2 ^ i) 0
unfolding bits_below
bits_more rows first i =
    sum_by-map-range_with_len_more (λ (x : ℕ). x) (λ (i : ℕ). cond (is_dirty (found rows (first + i))) (2 ^ i) 0) 0 i i (omega arith)

-- so many bits
bit_small : (b : Bool) (n : ℕ) → cond b n 0 ≤ n
bit_small true n = omega arith
bit_small false n = omega arith

pub bits_small : (rows : List Row) (first number : ℕ) → bits_below rows first number < 2 ^ number
bits_small rows first zero = let none = bits_none rows first in omega arith
bits_small rows first (suc number) =
    let more = bits_more rows first number in
    let next : bits_below rows first (suc number) ≡ bits_below rows first (number + 1) = ap (bits_below rows first) (sym (add-one number)) in
    let rest = bits_small rows first number in
    let bit = bit_small (is_dirty (found rows (first + number))) (2 ^ number) in
    omega (arith, pow-suc 2 number)

-- how many words there are
pub length-words : (kind : Words) (rows : List Row) (count : ℕ) → length (words_of kind rows count) ≡ count
unfolding words_of
length-words kind rows count = length-map-range_with_len (word_of kind rows) 0 count

-- the next word of an array, and its end
module _ (kind : Words) (rows : List Row) (count i : ℕ) {t : ArrayLeft} {from to : DraftState}
    (f : IsFilling (bytes_of kind) (words_of kind rows count) (drop i (words_of kind rows count)) t from to) where
  next_word : i < count → drop i (words_of kind rows count) ≡ word_of kind rows i ∷ drop (i + 1) (words_of kind rows count)
  unfolding words_of
  next_word more =
      let words = words_of kind rows count in
      drop_more words i 0 (omega (arith, length-words kind rows count))
      ∙ ap (λ (first : ℕ). first ∷ drop (i + 1) words) (get_or-map-range_with_len (word_of kind rows) 0 count i i 0 more (omega arith))

  pub word_here : i < count → IsFilling (bytes_of kind) (words_of kind rows count) (word_of kind rows i ∷ drop (i + 1) (words_of kind rows count)) t from to
  word_here more = subst (λ (left : List ℕ). IsFilling (bytes_of kind) (words_of kind rows count) left t from to) (next_word more) f

  pub words_done : count ≤ i → IsFilling (bytes_of kind) (words_of kind rows count) [] t from to
  words_done past =
      subst (λ (left : List ℕ). IsFilling (bytes_of kind) (words_of kind rows count) left t from to)
      (drop_all i (words_of kind rows count) (omega (arith, length-words kind rows count))) f

-- its root
pub words_root : {E : Type 0} {size : ℕ} {all : List ℕ} {t : ArrayLeft} {from mid : DraftState} (r : Result ℕ E) → IsFilling size all [] t from mid
    → IfOk r (λ root. root ≡ array_root_left size mid.place t.words []) → IfOk r (λ root. root ≡ array_root size from.place all)
words_root (Ok root) f is = is ∙ f.root
words_root (Err e) f is = tt

-- How many blocks a cache needs.

-- a tree without items is a leaf
pub empty_tree : need_tree 8 0 ≡ 1
unfolding nodes_of_tree need_above
empty_tree = refl

pub empty_overflow : need_tree 4 0 ≡ 1
unfolding nodes_of_tree need_above
empty_overflow = refl

-- an array by its blocks, the leaves of its tree, and the nodes above them
tree_by_leaves : (blocks leaves : ℕ) → leaves ≡ max 1 (nodes_for 252 blocks) → need_tree 8 blocks ≡ leaves + need_above 10 leaves
unfolding nodes_of_tree
tree_by_leaves blocks leaves is = ap (λ (l : ℕ). l + need_above 10 l) (sym is)

pub array_need : (size count blocks leaves upper : ℕ) → blocks ≡ nodes_for (max_words size) count → leaves ≡ max 1 (nodes_for 252 blocks) → upper ≡ need_above 10 leaves
    → blocks + leaves + upper ≡ need_array size count
unfolding need_array
array_need size count blocks leaves upper p q r =
    let whole : need_array size count ≡ blocks + need_tree 8 blocks = ap (λ (n : ℕ). n + need_tree 8 n) (sym p) in
    omega (arith, whole, tree_by_leaves blocks leaves q, r)
