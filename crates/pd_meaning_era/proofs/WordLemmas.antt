-- Words of an era array that are taken one after another.
use Rattle.std.proofs.Common.{◌≡◌, ℕ, ◌+◌, ◌-◌, ◌<◌, ◌≤◌, List, [], ◌∷◌, ◌++◌, get_or, length, length-append, map, replicate, refl, sym, ap, ◌∙◌, arith, inl, inr, append_assoc}
use Rattle.std.specs.List.{range_with_len}
use Rattle.std.proofs.lemmas.Bool.{cases_lt}
use Rattle.std.proofs.lemmas.List.{append-nil, get_or_append_left, get_or-append_right, get_or_past, get_or-replicate, length-replicate, map-append}
use Rattle.std.proofs.lemmas.List.FromFn.{fill_by_all, map-range_with_len_more}
use Rattle.pd_kinds.proofs.NumberLemmas.{range_split}
use Rattle.pd_kinds.specs.Array.{word_at, word_count}
use Rattle.pd_kinds.specs.Graph.{block_at}
use Rattle.pd_value.specs.declared.thin.Root.{Root}
use Rattle.pd_tree.specs.Cursor.{words_from, words_of_items}

-- the words of a block from one on are some of them, and then those from a later one on
words_cut : (block : List ℕ) (next number : ℕ) → next + number ≤ word_count 4 block
    → words_from 4 block next ≡ map (word_at 4 block) (range_with_len next number) ++ words_from 4 block (next + number)
unfolding words_from
words_cut block next number within =
    let all : word_count 4 block - next ≡ number + (word_count 4 block - (next + number)) = omega arith in
    ap (λ (n : ℕ). map (word_at 4 block) (range_with_len next n)) all
    ∙ (ap (map (word_at 4 block)) (range_split next number (word_count 4 block - (next + number)))
    ∙ map-append (word_at 4 block) (range_with_len next number) (range_with_len (next + number) (word_count 4 block - (next + number))))

-- some were taken of a block, which come before the others
pub words_moved : (block before after rest : List ℕ) (next number : ℕ) → next + number ≤ word_count 4 block → after ≡ before ++ map (word_at 4 block) (range_with_len next number)
    → before ++ (words_from 4 block next ++ rest) ≡ after ++ (words_from 4 block (next + number) ++ rest)
words_moved block before after rest next number within is =
    let taken = map (word_at 4 block) (range_with_len next number) in
    let left = words_from 4 block (next + number) in
    ap (λ (ws : List ℕ). before ++ (ws ++ rest)) (words_cut block next number within)
    ∙ (ap (λ (ws : List ℕ). before ++ ws) (append_assoc taken left rest)
    ∙ (sym (append_assoc before taken (left ++ rest)) ∙ ap (λ (ws : List ℕ). ws ++ (left ++ rest)) (sym is)))

-- a word more
pub words_more : (block before : List ℕ) (from i word : ℕ) → word ≡ word_at 4 block (from + i)
    → (before ++ map (word_at 4 block) (range_with_len from i)) ++ (word ∷ []) ≡ before ++ map (word_at 4 block) (range_with_len from (i + 1))
words_more block before from i word is =
    append_assoc before (map (word_at 4 block) (range_with_len from i)) (word ∷ [])
    ∙ ap (λ (ws : List ℕ). before ++ ws) (ap (λ (last : ℕ). map (word_at 4 block) (range_with_len from i) ++ (last ∷ [])) is ∙ sym (map-range_with_len_more (word_at 4 block) from i (from + i) refl))

-- the words of the block that an entry names, and those of the others
pub words_next : (image : List (List ℕ)) (key : ℕ) (root : Root) (items : List (ℕ × Root)) → words_of_items 4 image ((key, root) ∷ items) ≡ words_from 4 (block_at image root.0) 0 ++ words_of_items 4 image items
unfolding words_of_items
words_next image key root items = refl

pub no_items : (image : List (List ℕ)) → words_of_items 4 image [] ≡ []
unfolding words_of_items
no_items image = refl

-- The words that were taken, and 0 for each that is missing, are the first words.

module _ (all part left : List ℕ) (count : ℕ) (cut : all ≡ part ++ left) (most : length part ≤ count) (end : length part < count → left ≡ []) where
  at : (k : ℕ) → k < count → get_or (part ++ replicate (count - length part) 0) k 0 ≡ get_or all k 0
  at k within = elim (cases_lt k (length part)) [
    | inl taken ↦ get_or_append_left part (replicate (count - length part) 0) 0 k taken ∙ (sym (get_or_append_left part left 0 k taken) ∙ ap (λ (ws : List ℕ). get_or ws k 0) (sym cut))
    | inr missing ↦
        let short : length part < count = omega arith in
        get_or-append_right part (replicate (count - length part) 0) (length part) k 0 refl missing
        ∙ (get_or-replicate (count - length part) (k - length part) 0 0 (omega arith)
        ∙ sym (ap (λ (ws : List ℕ). get_or ws k 0) (cut ∙ (ap (λ (ws : List ℕ). part ++ ws) (end short) ∙ append-nil part)) ∙ get_or_past part k 0 missing))
  ]

  pub first_words : part ++ replicate (count - length part) 0 ≡ map (λ k. get_or all k 0) (range_with_len 0 count)
  first_words =
      let zeros : List ℕ = replicate (count - length part) 0 in
      let more : length zeros ≡ count - length part = length-replicate (count - length part) 0 in
      fill_by_all (λ k. get_or all k 0) (part ++ zeros) count 0 (omega (arith, length-append part zeros, more, most)) at
