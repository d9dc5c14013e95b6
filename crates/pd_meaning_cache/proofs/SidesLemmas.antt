-- What stands beside words, where words are skipped.
use Rattle.std.proofs.Common.{◌≡◌, ℕ, zero, suc, ◌+◌, ◌^◌, ◌<◌, true, false, nat_eq, List, [], ◌∷◌, ◌++◌, drop, length, Option, Some, None, refl, ap, ◌∙◌, arith, ◌*◌, ◌≤◌, IfSome, is_some, sym}
use Rattle.std.specs.List.{list_any}
use Rattle.std.proofs.lemmas.Bool.{or_parts}
use Rattle.pd_kinds.specs.Whole.{is_valid_word}
use Rattle.pd_array.specs.declared.array.Word.TheVariants.{Eight}
use Rattle.pd_tree.specs.Cursor.{cursor_number}
use Rattle.pd_tree.proofs.NextLemmas.{few_words}
use Rattle.pd_meaning_cache.specs.declared.cache_rows.CacheRow.{CacheRow}
use Rattle.pd_meaning_cache.specs.declared.skipped_words.SkippedBits.{SkippedBits}
use Rattle.pd_meaning_cache.specs.declared.skipped_words.SkippedHints.{SkippedHints}
use Rattle.pd_meaning_cache.specs.declared.sides.Sides.{Sides}
use Rattle.pd_meaning_cache.specs.Rows.{bits_behind, block_after, rows_of}
use Rattle.pd_meaning_cache.specs.SkippedWords.{IsFirst, KnowsLengths, Skips, AreIdle, TakesFirst, block_words_number, Ends, KnowsIdle, Passes, map_words}
use Rattle.pd_meaning_cache.specs.Sides.{IsFirstBit, SkipsBits, Gives, IsFirstDirty, IsFirstHint, IsRow, KnowsBits, KnowsHints, SkipsDirty, SkipsHints, SkipsSides, bits_ahead, KnowsSides, hints_ahead, GivesWord, Knows, TakesNone, rows_ahead, rows_ahead_number}
use Rattle.pd_meaning_cache.proofs.SkipLemmas.{drop_both}
use Rattle.pd_meaning_cache.specs.declared.block_words.BlockWords.{BlockWords}
use Rattle.pd_meaning_cache.specs.declared.cache_rows.MapWords.{MapWords}
use Rattle.pd_meaning_cache.specs.declared.cache_rows.CacheRows.{CacheRows}

-- where there are hints or bits
pub hints_skipped : (image : List (List ℕ)) (n : ℕ) (old : Option SkippedHints) (some new : SkippedHints) → old ≡ Some some → (KnowsLengths image some.words → Skips image n some.words new.words)
    → KnowsHints image old → SkipsHints image n old (Some new)
hints_skipped image n old some new is skips = rw is (λ knows. let done = skips knows in record { knows = done.knows; hints = done.words })

pub dirty_skipped : (image : List (List ℕ)) (n : ℕ) (old : Option SkippedBits) (some new : SkippedBits) → old ≡ Some some → (KnowsLengths image some.words → SkipsBits image n some new)
    → KnowsBits image old → SkipsDirty image n old (Some new)
dirty_skipped image n old some new is skips = rw is (λ knows. let done = skips knows in record { knows = done.knows; bits = ap Some done.bits })

pub hint_first : (image : List (List ℕ)) (hint : ℕ) (old : Option SkippedHints) (some new : SkippedHints) → old ≡ Some some → (KnowsLengths image some.words → IsFirst image hint some.words new.words)
    → KnowsHints image old → IsFirstHint image hint old (Some new)
hint_first image hint old some new is first = rw is (λ knows.
    let done = first knows in
    record { skips = record { knows = done.skips.knows; hints = done.skips.words }; first_is = done.first_is })

pub dirty_first : (image : List (List ℕ)) (word bit : ℕ) (old : Option SkippedBits) (some new : SkippedBits) → old ≡ Some some → (KnowsLengths image some.words → IsFirstBit image bit some new)
    → KnowsBits image old → IsFirstDirty image word (nat_eq bit 1) old (Some new)
dirty_first image word bit old some new is first = rw is (λ knows.
    let done = first knows in
    record { skips = record { knows = done.skips.knows; bits = ap Some done.skips.bits }; first_is = ap (λ (b : ℕ). nat_eq b 1) done.first_is })

-- the bits behind none, and more
none_behind : (bits : Option (List ℕ)) → bits_behind 0 bits ≡ bits
none_behind None = refl
none_behind (Some bits) = refl

more_behind : (n : ℕ) (bits : Option (List ℕ)) → bits_behind n (bits_behind 1 bits) ≡ bits_behind (suc n) bits
more_behind n None = refl
more_behind n (Some bits) = let sum : 1 + n ≡ suc n = omega arith in rw (drop_both n 1 bits, sum) refl

-- a word that maps no block is passed
pub gives_none : (image : List (List ℕ)) (word : ℕ) (old new : Sides) → is_valid_word word ≡ false → SkipsSides image 1 old new → new.block ≡ block_after 1 old.block → Gives image word None old new
unfolding rows_of
gives_none image word old new other skips block = record {
  knows = (skips.hints.knows, skips.bits.knows);
  rows = λ words. rw (other, skips.hints.hints, skips.bits.bits, block) refl;
}

-- the row of one that does
pub gives_row : (image : List (List ℕ)) (word : ℕ) (row : CacheRow) (old mid new : Sides) → is_valid_word word ≡ true → IsRow image word row old mid → mid.block ≡ old.block
    → SkipsSides image 1 mid new → new.block ≡ block_after 1 mid.block → Gives image word (Some row) old new
unfolding rows_of
gives_row image word row old mid new valid is same skips block = record {
  knows = (skips.hints.knows, skips.bits.knows);
  rows = λ words.
      rw (valid, skips.hints.hints, skips.bits.bits, block, same, is.skips.hints.hints, is.skips.bits.bits, none_behind (bits_ahead image old.bits), is.row_is) refl;
}

-- words that map no block, ahead of others
pub rows_past : (front words : List ℕ) (n block : ℕ) (hints : List ℕ) (bits : Option (List ℕ)) → AreIdle n front → block < 2 ^ 64
    → rows_of block (front ++ words) hints bits ≡ rows_of (block_after n block) words (drop n hints) (bits_behind n bits)
unfolding rows_of
rows_past [] words zero block hints bits idle fits =
    let same : block_after 0 block ≡ block = omega arith in
    rw (same, none_behind bits) refl
rows_past [] words (suc n) block hints bits idle fits = absurd (let no = idle.0 in cc)
rows_past (word ∷ front) words zero block hints bits idle fits = absurd (let no = idle.0 in cc)
rows_past (word ∷ front) words (suc n) block hints bits idle fits =
    let others = or_parts (is_valid_word word) (list_any is_valid_word front) idle.1 in
    let fewer : length front ≡ n = let long = idle.0 in omega arith in
    let next_fits : block_after 1 block < 2 ^ 64 = omega arith in
    let place : block_after n (block_after 1 block) ≡ block_after (suc n) block = omega arith in
    let sum : 1 + n ≡ suc n = omega arith in
    rw others.0
    (rows_past front words n (block_after 1 block) (drop 1 hints) (bits_behind 1 bits) (fewer, others.1) next_fits
    ∙ rw (place, drop_both n 1 hints, sum, more_behind n bits) refl)

-- The rows that are left, from one word to the next.

-- what is left is known, and the same as at the start
pub record SameRows (image : List (List ℕ)) (start now : CacheRows) : Type 0 where
  pub knows : Knows image now
  pub rows : rows_ahead image start ≡ rows_ahead image now

-- the words after a word was taken, or none
pub record IsTaken (word : Option ℕ) (old new : MapWords) : Type 0 where
  pub takes : TakesFirst 8 word old.here new.here
  pub idle : new.idle ≡ old.idle
  pub entries : new.entries ≡ old.entries

-- none was taken
pub none_taken : (word : Option ℕ) (old new : MapWords) → false ≡ is_some word → IsTaken word old new → IsTaken None old new
none_taken None old new none taken = taken
none_taken (Some word) old new none taken = cc

same_words : (image : List (List ℕ)) (old new : MapWords) → new.here ≡ old.here → new.entries ≡ old.entries → map_words image old ≡ map_words image new
same_words image old new here entries = rw (here, entries) refl

-- words that map no block were passed
pub rows_pass : (image : List (List ℕ)) (n : ℕ) (start old : CacheRows) (taken after : MapWords) (sides : Sides) → SameRows image start old → IsTaken None old.words taken
    → (KnowsIdle image taken → Passes image n taken after) → (KnowsSides image old.sides → SkipsSides image n old.sides sides) → sides.block ≡ block_after n old.sides.block → old.sides.block < 2 ^ 64
    → SameRows image start (record { words = after; sides = sides })
rows_pass image n start old taken after sides same none passes skips block fits =
    let passed = passes (rw (sym none.idle) at same.knows.0) in
    let skipped = skips same.knows.1 in
    let words = same_words image old.words taken none.takes.0 none.entries ∙ passed.words in
    let hints = hints_ahead image old.sides.hints in
    let bits = bits_ahead image old.sides.bits in
    let past = rows_past passed.front (map_words image after) n old.sides.block hints bits passed.idle fits in
    record {
      knows = (passed.knows, (skipped.hints.knows, skipped.bits.knows));
      rows = same.rows ∙ (ap (λ (ws : List ℕ). rows_of old.sides.block ws hints bits) words ∙ (past ∙ rw (block, skipped.hints.hints, skipped.bits.bits) refl));
    }

-- a word was taken
pub word_given : (image : List (List ℕ)) (word : Option ℕ) (start old : CacheRows) (taken : MapWords) → true ≡ is_some word → SameRows image start old → IsTaken word old.words taken
    → GivesWord image word start (record old { words = taken })
word_given image None start old taken some same is = cc
word_given image (Some word) start old taken some same is = record {
  knows = (rw (sym is.idle) at same.knows.0, same.knows.1);
  rows = same.rows ∙ rw (is.takes.0, is.entries) refl;
}

-- and the number falls
pub word_number : (word : Option ℕ) (start old : CacheRows) (taken : MapWords) → rows_ahead_number old ≤ rows_ahead_number start → IsTaken word old.words taken
    → IfSome word (λ _. 4096 * cursor_number 8 taken.entries + block_words_number 8 taken.here < rows_ahead_number start)
word_number None start old taken most is = tt
word_number (Some word) start old taken most is =
    let here = is.takes.1 in
    rw is.entries (omega arith)

pub block_number : (before after : ℕ) (here next : BlockWords) → after < before → 4096 * after + block_words_number 8 next < 4096 * before + block_words_number 8 here
block_number before after here next less = let few = few_words Eight next.block.0 in omega arith

-- no word is left
pub none_given : (image : List (List ℕ)) (start old : CacheRows) (taken after : MapWords) → SameRows image start old → IsTaken None old.words taken → (KnowsIdle image taken → Ends image taken after)
    → TakesNone image start (record old { words = after })
unfolding rows_of
none_given image start old taken after same none ends =
    let ended = ends (rw (sym none.idle) at same.knows.0) in
    let words = same_words image old.words taken none.takes.0 none.entries ∙ ended.before in
    record {
      knows = (ended.knows, same.knows.1);
      before = same.rows ∙ rw words refl;
      after = rw ended.after refl;
    }
