-- What one number that is put in one chunk comes to for all blocks, and one count more.
use Rattle.std.proofs.Common.{◌≡◌, ◌≢◌, ℕ, ◌+◌, ◌*◌, ◌/◌, ◌%◌, ◌<◌, ◌≤◌, min, List, [], ◌∷◌, ◌++◌, length, get_or, sym, ◌∙◌, ap, refl, arith, inl, inr, eqb, cond}
use Rattle.std.specs.Prelude.{count_by}
use Rattle.std.proofs.lemmas.List.Sums.{sum_by_push}
use Rattle.std.proofs.lemmas.Bool.{cases_eq, eq-eqb, ne_eqb}
use Rattle.std.proofs.Math.Nat.{div-add-mod}
use Rattle.pd_count.specs.Counted.{Counted, count_of, HasCounted, CountsOneMore, PutsNumber, PutsAt, IsChunk, IsUncounted}

-- the table of these chunks
abbrev table : ℕ → List (List ℕ) → Counted
table size chunks = record { size = size; chunks = chunks }

-- blocks of one chunk that stand at one place in it are one block
same_block : (b c : ℕ) → c / 16320 ≡ b / 16320 → c % 16320 ≡ b % 16320 → c ≡ b
same_block b c chunk at = omega (arith, div-add-mod b 16320, div-add-mod c 16320)

-- chunk i had these numbers and has those, and every other chunk is as it was
pub record PutsChunk (i : ℕ) (was is : List ℕ) (old new : List (List ℕ)) : Type 0 where
  pub had : get_or old i [] ≡ was
  pub has : get_or new i [] ≡ is
  pub others : (j : ℕ) → j ≢ i → get_or new j [] ≡ get_or old j []

-- a number was put at a block, where it was put in the chunk of the block
pub puts_by_chunk : (size b number : ℕ) (was is : List ℕ) (old new : List (List ℕ)) → PutsChunk (b / 16320) was is old new
    → PutsAt (b % 16320) number was is → PutsNumber b number (table size old) (table size new)
unfolding count_of
puts_by_chunk size b number was is old new chunk puts = record {
  size = refl;
  put = ap (λ (numbers : List ℕ). get_or numbers (b % 16320) 0) chunk.has ∙ puts.put;
  others = λ c other. elim (cases_eq (c / 16320) (b / 16320)) [
    | inl same ↦
        let has : get_or new (c / 16320) [] ≡ is = rw same chunk.has in
        let had : get_or old (c / 16320) [] ≡ was = rw same chunk.had in
        ap (λ (numbers : List ℕ). get_or numbers (c % 16320) 0) has
        ∙ (puts.others (c % 16320) (λ at. other (same_block b c same at))
        ∙ ap (λ (numbers : List ℕ). get_or numbers (c % 16320) 0) (sym had))
    | inr apart ↦ ap (λ (numbers : List ℕ). get_or numbers (c % 16320) 0) (chunk.others (c / 16320) apart)
  ];
}

-- one more at a block, unless there is no greater number
pub counts_one_more : (b : ℕ) (old new : Counted) → count_of old b < 4294967295 → PutsNumber b (min (count_of old b + 1) 4294967295) old new → CountsOneMore b old new
counts_one_more b old new few puts = record { size = puts.size; counted = omega (arith, few, puts.put); others = puts.others }

-- and the counts are those of a list with one more block
pub counts_listed : (b : ℕ) (old new : Counted) → CountsOneMore b old new → (before : List ℕ) → HasCounted old before
    → HasCounted new (before ++ b ∷ [])
counts_listed b old new adds before counted c =
    elim (cases_eq c b) [
      | inl same ↦ rw same (adds.counted ∙ ap (λ n. n + 1) (counted b)
          ∙ sym (sum_by_push (λ r. cond (eqb r b) 1 0) before b ∙ ap (λ t. count_by (λ r. eqb r b) before + cond t 1 0) (eq-eqb b b refl)))
      | inr other ↦ adds.others c other ∙ counted c
          ∙ sym (sum_by_push (λ r. cond (eqb r c) 1 0) before b
          ∙ ap (λ t. count_by (λ r. eqb r c) before + cond t 1 0) (ne_eqb b c (λ e. other (sym e))) ∙ omega arith)
    ]

-- the block at a place of a chunk
place_in_chunk : (i k : ℕ) → k < 16320 → ((16320 * i + k) / 16320 ≡ i) × ((16320 * i + k) % 16320 ≡ k)
place_in_chunk i k within = (omega arith, omega arith)

-- the counts of a chunk
pub chunk_counts : (size : ℕ) (chunks : List (List ℕ)) (i k : ℕ) → k < 16320
    → count_of (table size chunks) (16320 * i + k) ≡ get_or (get_or chunks i []) k 0
unfolding count_of
chunk_counts size chunks i k within = let place = place_in_chunk i k within in rw (place.0, place.1) refl

-- what a chunk tells where it is made, and where it isn't
module _ (counts : Counted) (i : ℕ) (chunk : List ℕ) (counted : (k : ℕ) → k < 16320 → count_of counts (16320 * i + k) ≡ get_or chunk k 0) where
  pub chunk_made : length chunk ≡ 16320 → IsChunk counts i chunk
  chunk_made size = record { full = size; counted = λ k within. sym (counted k within) }

  pub chunk_absent : chunk ≡ [] → IsUncounted counts i
  chunk_absent none = λ k within. counted k within ∙ ap (λ (xs : List ℕ). get_or xs k 0) none

-- no block past the last one has a number, also where that of a block was changed
pub none_past : (b size : ℕ) (old new : Counted) → b < size → ((c : ℕ) → c ≢ b → count_of new c ≡ count_of old c)
    → ((c : ℕ) → size ≤ c → count_of old c ≡ 0) → (c : ℕ) → size ≤ c → count_of new c ≡ 0
none_past b size old new within others none c past = others c (λ same. omega (arith, same)) ∙ none c past

-- where no chunk is made, nothing was counted
pub none_counted : (size : ℕ) (chunks : List (List ℕ)) → ((i : ℕ) → get_or chunks i [] ≡ []) → (b : ℕ) → count_of (table size chunks) b ≡ 0
unfolding count_of
none_counted size chunks absent b = ap (λ (numbers : List ℕ). get_or numbers (b % 16320) 0) (absent (b / 16320))
