-- Words that are skipped, by blocks.
use Rattle.std.proofs.Common.{◌≡◌, inl, inr, ℕ, zero, suc, ◌+◌, ◌-◌, ◌<◌, ◌≤◌, List, [], ◌∷◌, ◌++◌, drop, length, get_or, Option, Some, None, IfSome, Result, Ok, Err, refl, ap, sym, ◌∙◌, arith, true, false, append_assoc}
use Rattle.std.specs.Result.{IfOk, OnOk}
use Rattle.std.proofs.Math.Seq.{drop-append-add}
use Rattle.std.proofs.lemmas.List.{drop-append-le, get_or_append_left, length-drop, append-nil}
use Rattle.std.specs.List.{list_any}
use Rattle.std.proofs.lemmas.List.FromFn.{length-map-range_with_len}
use Rattle.pd_kinds.specs.Graph.{block_at}
use Rattle.pd_kinds.specs.Array.{word_at, word_count}
use Rattle.pd_kinds.specs.Whole.{is_valid_word}
use Rattle.pd_value.specs.declared.thin.Root.{Root}
use Rattle.pd_array.specs.Word.{size_of}
use Rattle.pd_tree.specs.declared.cursor.Cursor.{Cursor}
use Rattle.pd_tree.specs.Cursor.{cursor_items, root_of, words_from, words_of_items}
use Rattle.pd_tree.proofs.NextLemmas.{words_none}
use Rattle.pd_meaning_cache.specs.declared.block_words.BlockWords.{BlockWords}
use Rattle.pd_meaning_cache.specs.declared.block_words.Lengths.{Lengths}
use Rattle.pd_meaning_cache.specs.declared.skipped_words.SkippedWords.{SkippedWords}
use Rattle.pd_meaning_cache.specs.SkippedWords.{AreNoted, Notes, noted, block_words, Enters, IsFirst, IsLength, IsSkippedWhole, KnowsLengths, Skips, skipped_words, AreIdle, Ends, EntersBlock, KnowsIdle, Passes}
use Rattle.pd_meaning_cache.specs.declared.cache_rows.MapWords.{MapWords}

-- one more length that is so
pub noted_more : (Holds : ℕ → ℕ → Type 0) (b length : ℕ) (old new : Lengths) → Notes b length old new → Holds b length → AreNoted Holds old → AreNoted Holds new
noted_more Holds b length old new notes here known c n is = elim (notes c n is) [
  | inl before ↦ known c n before
  | inr same ↦ rw (same.0, same.1) here
]

-- nothing is left of nothing
pub drop_none : {X : Type 0} (n : ℕ) → drop {A = X} n [] ≡ []
drop_none zero = refl
drop_none (suc n) = refl

-- two skips are one
pub drop_both : {X : Type 0} (m n : ℕ) (xs : List X) → drop m (drop n xs) ≡ drop (n + m) xs
drop_both m zero xs = let same : 0 + m ≡ m = omega arith in rw same refl
drop_both m (suc n) [] = drop_none m ∙ sym (drop_none (suc n + m))
drop_both m (suc n) (x ∷ xs) = let more : suc n + m ≡ suc (n + m) = omega arith in rw more (drop_both m n xs)

-- a list that is skipped whole
pub skip_whole : (n : ℕ) (xs ys : List ℕ) → length xs ≤ n → drop n (xs ++ ys) ≡ drop (n - length xs) ys
skip_whole n xs ys most =
    let sum : n ≡ length xs + (n - length xs) = omega arith in
    ap (λ (m : ℕ). drop m (xs ++ ys)) sum ∙ drop-append-add xs ys (n - length xs)

-- a block whose length is noted, and that is skipped whole
pub whole_block : (image : List (List ℕ)) (b n behind : ℕ) (words : SkippedWords) → KnowsLengths image words → noted words.lengths b ≡ suc n → n ≤ words.behind → behind ≡ words.behind - n
    → IsSkippedWhole image b behind words
whole_block image b n behind words knows is most less rest =
    let long : length (words_from (size_of words.word) (block_at image b) 0) ≡ n = knows b n is in
    skip_whole words.behind (words_from (size_of words.word) (block_at image b) 0) rest (omega arith)
    ∙ ap (λ (m : ℕ). drop m rest) (let same : words.behind - length (words_from (size_of words.word) (block_at image b) 0) ≡ behind = omega arith in same)

-- it is passed
pub enters_passed : (image : List (List ℕ)) (b behind : ℕ) (old : SkippedWords) (here : BlockWords) → KnowsLengths image old → IsSkippedWhole image b behind old → block_words (size_of old.word) here ≡ []
    → Enters image b old (record old { here = here; behind = behind })
enters_passed image b behind old here knows whole none = record {
  knows = knows;
  words = λ rest. rw none (sym (whole rest));
}

-- a block that was read is entered
pub enters_read : (image : List (List ℕ)) (b n : ℕ) (old : SkippedWords) (here : BlockWords) (lengths : Lengths) → KnowsLengths image old
    → block_words (size_of old.word) here ≡ words_from (size_of old.word) (block_at image b) 0 → n ≡ length (block_words (size_of old.word) here) → Notes b n old.lengths lengths
    → Enters image b old (record old { here = here; lengths = lengths })
enters_read image b n old here lengths knows is long notes = record {
  knows = noted_more (IsLength image old.word) b n old.lengths lengths notes (sym (ap (λ (words : List ℕ). length words) is) ∙ sym long) knows;
  words = λ rest. rw is refl;
}

module _ (image : List (List ℕ)) (start old : SkippedWords) (left : ℕ) (told : Skips image 0 start old) (long : left ≡ length (block_words (size_of old.word) old.here)) where
  abbrev here : List ℕ
  here = block_words (size_of old.word) old.here

  abbrev items : Cursor Root → List ℕ
  items entries = words_of_items (size_of old.word) image (cursor_items 8 root_of image entries)

  -- the block is skipped whole
  here_whole : left ≤ old.behind → skipped_words image old ≡ drop (old.behind - left) (items old.entries)
  here_whole most =
      skip_whole old.behind here (items old.entries) (omega arith) ∙ ap (λ (n : ℕ). drop (old.behind - n) (items old.entries)) (sym long)

  -- the next block comes behind it
  pub skips_block : (key : ℕ) (root : Root) (entries : Cursor Root) (new : SkippedWords) → left ≤ old.behind
      → cursor_items 8 root_of image old.entries ≡ (key, root) ∷ cursor_items 8 root_of image entries
      → (KnowsLengths image old → Enters image root.0 (record old { entries = entries; behind = old.behind - left }) new) → new.entries ≡ entries → new.word ≡ old.word
      → Skips image 0 start new
  unfolding words_of_items
  skips_block key root entries new most next enters same_entries same_word =
      let entered = enters told.knows in
      let later : drop (old.behind - left) (items old.entries) ≡ drop (old.behind - left) (words_from (size_of old.word) (block_at image root.0) 0 ++ items entries) = rw next refl in
      let new_words : skipped_words image new ≡ drop new.behind (block_words (size_of new.word) new.here ++ items entries) = rw (same_entries, same_word) refl in
      record {
        knows = entered.knows;
        words = new_words ∙ (entered.words (items entries) ∙ (sym later ∙ (sym (here_whole most) ∙ told.words)));
      }

  -- nothing is left behind the last block
  pub skips_all : (entries : Cursor Root) (cleared : BlockWords) → left ≤ old.behind
      → (cursor_items 8 root_of image old.entries ≡ []) × (cursor_items 8 root_of image entries ≡ []) → block_words (size_of old.word) cleared ≡ []
      → IsFirst image 0 start (record old { entries = entries; here = cleared; behind = 0 })
  unfolding words_of_items
  skips_all entries cleared most ends none =
      let last : items old.entries ≡ [] = rw ends.0 refl in
      let nothing : skipped_words image old ≡ [] =
      here_whole most ∙ (ap (λ (xs : List ℕ). drop (old.behind - left) xs) last ∙ drop_none (old.behind - left)) in
      let begun : skipped_words image start ≡ [] = sym told.words ∙ nothing in
      record {
        skips = record { knows = told.knows; words = rw (none, ends.1, begun) refl };
        first_is = rw begun refl;
      }

  -- the first word stands in the block
  pub skips_into : (first : ℕ) (cut : BlockWords) → old.behind < left → block_words (size_of old.word) cut ≡ drop old.behind here
      → first ≡ get_or (block_words (size_of old.word) cut) 0 0 → IsFirst image first start (record old { here = cut; behind = 0 })
  skips_into first cut within is first_is =
      let some = ap (λ (xs : List ℕ). length xs) is ∙ length-drop old.behind here in
      let same : block_words (size_of old.word) cut ++ items old.entries ≡ skipped_words image start =
      ap (λ (xs : List ℕ). xs ++ items old.entries) is ∙ (sym (drop-append-le old.behind here (items old.entries) (omega arith)) ∙ told.words) in
      record {
        skips = record { knows = told.knows; words = same };
        first_is = first_is
            ∙ (sym (get_or_append_left (block_words (size_of old.word) cut) (items old.entries) 0 0 (omega arith)) ∙ ap (λ (xs : List ℕ). get_or xs 0 0) same);
      }

-- more words are skipped
pub skips_more : (image : List (List ℕ)) (n : ℕ) (start old : SkippedWords) → Skips image 0 start old → Skips image n start (record old { behind = old.behind + n })
skips_more image n start old told = record {
  knows = told.knows;
  words = sym (drop_both n old.behind (block_words (size_of old.word) old.here ++ words_of_items (size_of old.word) image (cursor_items 8 root_of image old.entries)))
      ∙ ap (λ (xs : List ℕ). drop n xs) told.words;
}

-- what is told under a result
pub on_ok_told : {T E X : Type 0} {P Q : X → Type 0} (result : Result T E) (o : Option X) → ((x : X) → P x → Q x) → OnOk result (IfSome o P) → OnOk result (IfSome o Q)
on_ok_told (Ok t) None maps told = tt
on_ok_told (Ok t) (Some x) maps told = maps x told
on_ok_told (Err e) o maps told = tt

pub if_ok_told : {T E X : Type 0} {P Q : T → X → Type 0} (result : Result T E) (o : Option X) → ((t : T) (x : X) → P t x → Q t x) → IfOk result (λ t. IfSome o (P t)) → IfOk result (λ t. IfSome o (Q t))
if_ok_told (Ok t) None maps told = tt
if_ok_told (Ok t) (Some x) maps told = maps t x told
if_ok_told (Err e) o maps told = tt

-- The words that are left of a block, one after another.

pub length_words : (size : ℕ) (block : List ℕ) (next : ℕ) → length (words_from size block next) ≡ word_count size block - next
unfolding words_from
length_words size block next = length-map-range_with_len (word_at size block) next (word_count size block - next)

-- the first word, and the others
pub words_first : (size : ℕ) (block : List ℕ) (next : ℕ) → next < word_count size block
    → words_from size block next ≡ word_at size block next ∷ words_from size block (next + 1)
unfolding words_from
words_first size block next within =
    let less : word_count size block - next ≡ suc (word_count size block - (next + 1)) = omega arith in
    rw less refl

-- the words behind some
pub words_drop : (size : ℕ) (block : List ℕ) (n next : ℕ) → n ≤ word_count size block - next → drop n (words_from size block next) ≡ words_from size block (next + n)
words_drop size block zero next few = let same : next + 0 ≡ next = omega arith in rw same refl
words_drop size block (suc n) next few =
    let place : next + suc n ≡ next + 1 + n = omega arith in
    rw (place, words_first size block next (omega arith)) (words_drop size block n (next + 1) (omega arith))

-- whether one of the words maps a block
pub any_none : (block : List ℕ) (next : ℕ) → word_count 8 block ≤ next → list_any is_valid_word (words_from 8 block next) ≡ false
any_none block next most = rw (words_none 8 block next most) refl

pub any_here : (block : List ℕ) (next : ℕ) → next < word_count 8 block → is_valid_word (word_at 8 block next) ≡ true → list_any is_valid_word (words_from 8 block next) ≡ true
any_here block next within valid = rw (words_first 8 block next within, valid) refl

pub any_later : (block : List ℕ) (next : ℕ) → next < word_count 8 block → is_valid_word (word_at 8 block next) ≡ false
    → list_any is_valid_word (words_from 8 block next) ≡ list_any is_valid_word (words_from 8 block (next + 1))
any_later block next within other = rw (words_first 8 block next within, other) refl

-- Blocks of a mapping array, one after another.

-- a block that is noted is passed
pub passes_noted : (image : List (List ℕ)) (b n : ℕ) (words : MapWords) → KnowsIdle image words → noted words.idle b ≡ suc n → block_words 8 words.here ≡ [] → EntersBlock image b n words
passes_noted image b n words knows is none = record {
  knows = knows;
  front = words_from 8 (block_at image b) 0;
  idle = knows b n is;
  words = rw none (sym (append-nil (words_from 8 (block_at image b) 0)));
}

-- a block that was read is passed, and noted, where none of its words maps a block
pub passes_idle : (image : List (List ℕ)) (b n : ℕ) (read : BlockWords) (old new : MapWords) → KnowsIdle image old → block_words 8 read ≡ words_from 8 (block_at image b) 0 → n ≡ length (block_words 8 read)
    → list_any is_valid_word (block_words 8 read) ≡ false → Notes b n old.idle new.idle → block_words 8 new.here ≡ [] → EntersBlock image b n new
passes_idle image b n read old new knows is long idle notes none =
    let read_idle : AreIdle n (block_words 8 read) = (sym long, idle) in
    let here : AreIdle n (words_from 8 (block_at image b) 0) = rw is at read_idle in
    record {
      knows = noted_more (λ c m. AreIdle m (words_from 8 (block_at image c) 0)) b n old.idle new.idle notes here knows;
      front = words_from 8 (block_at image b) 0;
      idle = here;
      words = rw none (sym (append-nil (words_from 8 (block_at image b) 0)));
    }

-- the block of the next entry
pub goes_on : (image : List (List ℕ)) (n key : ℕ) (root : Root) (old mid new : MapWords) → KnowsIdle image old → block_words 8 old.here ≡ []
    → cursor_items 8 root_of image old.entries ≡ (key, root) ∷ cursor_items 8 root_of image mid.entries → mid.idle ≡ old.idle → new.entries ≡ mid.entries
    → (KnowsIdle image mid → EntersBlock image root.0 n new) → Passes image n old new
unfolding words_of_items
goes_on image n key root old mid new knows none next same entries enters =
    let entered = enters (rw (sym same) at knows) in
    let rest = words_of_items 8 image (cursor_items 8 root_of image mid.entries) in
    record {
      knows = entered.knows;
      front = entered.front;
      idle = entered.idle;
      words = rw (none, next, entries) (ap (λ (xs : List ℕ). xs ++ rest) entered.words ∙ append_assoc entered.front (block_words 8 new.here) rest);
    }

-- nothing is left behind the last block
pub goes_nowhere : (image : List (List ℕ)) (old new : MapWords) → KnowsIdle image old → block_words 8 old.here ≡ []
    → (cursor_items 8 root_of image old.entries ≡ []) × (cursor_items 8 root_of image new.entries ≡ []) → new.here ≡ old.here → new.idle ≡ old.idle → Ends image old new
unfolding words_of_items
goes_nowhere image old new knows none ends here idle = record {
  knows = rw (sym idle) at knows;
  before = rw (none, ends.0) refl;
  after = rw (here, none, ends.1) refl;
}
