-- How many blocks of a cache are laid.
use Rattle.std.proofs.Common.{◌≡◌, ℕ, ◌+◌, ◌/◌, Bool, true, false, cond, nat_eq, List, [], ◌++◌, length, refl, ◌∙◌, ap, arith}
use Rattle.std.proofs.lemmas.List.{length-append}
use Rattle.std.proofs.lemmas.List.FromFn.{length-map-range_with_len}
use Rattle.pd_kinds.specs.Layout.{tree_to}
use Rattle.pd_kinds.specs.Meaning.{CacheMeaning}
use Rattle.pd_kinds.specs.CacheFormat.{has_dirty_bits}
use Rattle.pd_grammar.specs.Need.{need_array}
use Rattle.pd_grammar.specs.CacheText.{need_of_cache}
use Rattle.pd_laid.specs.Laid.{LaidBlock, laid_number, tree_of, laid_array, meta_overflow}
use Rattle.pd_laid.specs.LaidCache.{entry_of, mapping_word, hint_word, mapping_words, hint_words, dirty_word, dirty_words, mapping_blocks, hints_at, hint_blocks, has_hints, dirty_at, dirty_blocks, discards_at, discard_blocks, cache_parts, cache_named, meta_map_at, meta_map_blocks, laid_cache}
use Rattle.pd_laid.proofs.NeedLemmas.{length-tree, length-array, length-map_blocks}

-- blocks that are laid only where there is something
length-where : (some : Bool) (blocks : List LaidBlock) (n : ℕ) → length blocks ≡ n → length (cond some blocks []) ≡ cond some n 0
length-where true blocks n is = is
length-where false blocks n is = refl

-- an array of so many words
array_of : (role size place n : ℕ) (words : List ℕ) → length words ≡ n → length (laid_array role size place words) ≡ need_array size n
array_of role size place n words is = length-array role size place words ∙ ap (need_array size) is

module _ (m : CacheMeaning) (version : ℕ) where
  mapping_number : length (mapping_blocks m version) ≡ need_array 8 m.blocks
  unfolding mapping_blocks mapping_words
  mapping_number = array_of 1 8 1 m.blocks (mapping_words m version) (length-map-range_with_len (λ i. mapping_word version (entry_of m i)) 0 m.blocks)

  hint_number : length (hint_blocks m version) ≡ cond (nat_eq m.hint_size 4) (need_array 4 m.blocks) 0
  unfolding hint_blocks hint_words
  hint_number =
      length-where (has_hints m) (laid_array 3 4 (hints_at m version) (hint_words m)) (need_array 4 m.blocks)
      (array_of 3 4 (hints_at m version) m.blocks (hint_words m) (length-map-range_with_len (λ i. hint_word (entry_of m i)) 0 m.blocks))

  dirty_number : length (dirty_blocks m version) ≡ cond (nat_eq version 2) (need_array 8 ((m.blocks + 63) / 64)) 0
  unfolding dirty_blocks dirty_words
  dirty_number =
      length-where (has_dirty_bits version) (laid_array 10 8 (dirty_at m version) (dirty_words m)) (need_array 8 ((m.blocks + 63) / 64))
      (array_of 10 8 (dirty_at m version) ((m.blocks + 63) / 64) (dirty_words m) (length-map-range_with_len (dirty_word m) 0 ((m.blocks + 63) / 64)))

  pub cache_number : (n : ℕ) → meta_overflow n (cache_named m version) ≡ [] → laid_number (laid_cache m version n) ≡ need_of_cache version m.blocks m.hint_size n
  unfolding laid_cache cache_parts discard_blocks meta_map_blocks need_of_cache
  cache_number n none =
      let whole = length-append (cache_parts m version) (meta_map_blocks m version n) in
      let first = length-append (mapping_blocks m version) (hint_blocks m version ++ (dirty_blocks m version ++ discard_blocks m version)) in
      let second = length-append (hint_blocks m version) (dirty_blocks m version ++ discard_blocks m version) in
      let third = length-append (dirty_blocks m version) (discard_blocks m version) in
      let mapping = mapping_number in
      let hints = hint_number in
      let dirty = dirty_number in
      let discards = length-tree 5 (tree_of (tree_to 8 6 (λ v. v))) (discards_at m version) [] in
      let map_number = length-map_blocks 7 n (meta_map_at m version) (cache_named m version) none in
      omega (arith, whole, first, second, third, mapping, hints, dirty, discards, map_number)
