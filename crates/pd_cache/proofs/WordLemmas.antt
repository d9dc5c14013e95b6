-- The origins of a block's words, word after word.
use Rattle.std.proofs.Common.{◌≡◌, ℕ, ◌+◌, ◌<◌, ◌≤◌, Bool, true, false, cond, List, [], ◌∷◌, ◌++◌, map, filter, length, get_or, set, Option, None, Some, is_none, refl, ap, ◌∙◌, arith, add-one}
use Rattle.std.specs.List.{range_with_len}
use Rattle.std.proofs.lemmas.List.{map-append}
use Rattle.std.proofs.lemmas.List.Elements.{filter-append}
use Rattle.std.proofs.lemmas.List.Sums.{sum_by-set}
use Rattle.pd_kinds.specs.Array.{word_at, word_count}
use Rattle.pd_kinds.specs.Trees.{block_words}
use Rattle.pd_kinds.specs.Whole.{is_valid_word, origin_of_word}
use Rattle.pd_graph.proofs.BitLemmas.{counts_one, range_more}
use Rattle.pd_cache.specs.Words.{block_origins, unseen_number, word_origins}

-- those of the first words
abbrev pub origins_to : List ℕ → ℕ → List ℕ
origins_to block n = map origin_of_word (filter is_valid_word (map (word_at 8 block) (range_with_len 0 n)))

one_word : (valid : Bool) (word : ℕ) → map origin_of_word (cond valid (word ∷ []) []) ≡ cond valid (origin_of_word word ∷ []) []
one_word true word = refl
one_word false word = refl

pub origins_more : (block : List ℕ) (n : ℕ) → origins_to block (n + 1) ≡ origins_to block n ++ word_origins (word_at 8 block n)
origins_more block n =
    let more : range_with_len 0 (n + 1) ≡ range_with_len 0 n ++ (n ∷ []) = rw (add-one n) (range_more 0 n n (omega arith)) in
    let words = map (word_at 8 block) (range_with_len 0 n) in
    ap (λ (ns : List ℕ). map origin_of_word (filter is_valid_word (map (word_at 8 block) ns))) more
    ∙ (ap (λ (ws : List ℕ). map origin_of_word (filter is_valid_word ws)) (map-append (word_at 8 block) (range_with_len 0 n) (n ∷ []))
    ∙ (ap (map origin_of_word) (filter-append is_valid_word words (word_at 8 block n ∷ []))
    ∙ (map-append origin_of_word (filter is_valid_word words) (filter is_valid_word (word_at 8 block n ∷ []))
    ∙ ap (λ (os : List ℕ). map origin_of_word (filter is_valid_word words) ++ os) (one_word (is_valid_word (word_at 8 block n)) (word_at 8 block n)))))

-- and of all
pub origins_all : (block : List ℕ) (n : ℕ) → n ≡ word_count 8 block → origins_to block n ≡ block_origins block
unfolding block_origins block_words
origins_all block n all = ap (origins_to block) all

-- a word has one origin at the most
few_of : (valid : Bool) (origin : ℕ) → length (cond valid (origin ∷ []) []) ≤ 1
few_of true origin = omega arith
few_of false origin = omega arith

pub few_origins : (word : ℕ) → length (word_origins word) ≤ 1
few_origins word = few_of (is_valid_word word) (origin_of_word word)

-- one block less is unseen
pub unseen_less : (seen : List (Option Bool)) (b : ℕ) (valid : Bool) → b < length seen → get_or seen b None ≡ None
    → unseen_number (set seen b (Some valid)) + 1 ≡ unseen_number seen
unseen_less seen b valid within unseen =
    let changed : unseen_number (set seen b (Some valid)) + cond (is_none (get_or seen b None)) 1 0 ≡ unseen_number seen + 0 =
    sum_by-set (λ (o : Option Bool). cond (is_none o) 1 0) seen b (Some valid) None within in
    omega (arith, changed, counts_one (is_none (get_or seen b None)) (ap (λ (o : Option Bool). is_none o) unseen))
