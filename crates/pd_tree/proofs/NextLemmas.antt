-- What a loop over steps keeps: what is left, with the reads that were made.
use Rattle.std.proofs.Common.{◌≡◌, ℕ, zero, suc, ◌+◌, ◌-◌, ◌≤◌, List, [], ◌∷◌, ◌++◌, Option, Some, None, IfSome, length, refl, ap, ◌∙◌, arith, length-append, ◌*◌, ◌<◌, Bool, true, false, cond, not, ◌||◌, nat_eq, nat_lt, is_some}
use Rattle.std.proofs.lemmas.Bool.Decides.{nat_tests}
use Rattle.pd_kinds.specs.Field.{le}
use Rattle.pd_kinds.specs.Node.{entry_count}
use Rattle.pd_kinds.specs.Graph.{block_at}
use Rattle.pd_kinds.specs.Array.{word_at, word_count, is_array_shape_bad, array_entries, array_max, array_value_size}
use Rattle.pd_value.specs.declared.thin.Root.{Root}
use Rattle.pd_array.specs.declared.array.Word.{Word}
use Rattle.pd_array.specs.declared.array.Word.TheVariants.{Four, Eight}
use Rattle.pd_array.specs.Word.{size_of}
use Rattle.pd_tree.specs.declared.stack.Stack.{Stack}
use Rattle.pd_tree.specs.Below.{items_from, kids_from, items_below, nodes_below}
use Rattle.pd_tree.specs.declared.stack.NodePlace.{NodePlace}
use Rattle.pd_tree.specs.Cursor.{root_left, root_of, cursor_items, cursor_nodes, words_from, words_of_items, words_left, TakesWord, TakesNoWord, TakesWords, array_words, array_reads}
use Rattle.pd_tree.specs.Stack.{stacked, items_at, stack_items, stack_nodes, GoesDown}
use Rattle.pd_tree.proofs.StackLemmas.{items_below_is, nodes_below_is, each_none}
use Rattle.pd_tree.specs.declared.array_cursor.Words.{Words}
use Rattle.pd_tree.specs.declared.array_cursor.ArrayCursor.{ArrayCursor}

-- what holds of each, holds of both
pub if_both : {X : Type 0} {P Q R : X → Type 0} → (o : Option X) → ((x : X) → o ≡ Some x → P x → Q x → R x) → IfSome o P → IfSome o Q → IfSome o R
if_both None join p q = tt
if_both (Some x) join p q = join x refl p q

-- nothing stands at a block outside of the image
pub none_outside : (image : List (List ℕ)) (b : ℕ) → length image ≤ b → block_at image b ≡ []
none_outside [] b outside = refl
none_outside (block ∷ image) zero outside = absurd (omega arith)
none_outside (block ∷ image) (suc b) outside = let rest : length image ≤ b = omega arith in none_outside image b rest

-- a block without bytes is no node
pub no_items : {X : Type 0} → (size : ℕ) (decoded : ℕ → X) → items_from size decoded [] 0 ≡ []
unfolding items_from entry_count le
no_items size decoded = refl

pub no_kids : (size : ℕ) → kids_from size [] 0 ≡ []
unfolding kids_from entry_count le
no_kids size = refl

-- so a child outside counts as an empty leaf
pub items_outside : {X : Type 0} → (size : ℕ) (decoded : ℕ → X) (image : List (List ℕ)) (j b : ℕ) → length image ≤ b → items_below size decoded image j b ≡ []
items_outside size decoded image j b outside =
    rw (items_below_is size decoded image j b, none_outside image b outside, no_items size decoded, no_kids size, each_none (items_below size decoded image) j) refl

pub nodes_outside : (size : ℕ) (image : List (List ℕ)) (j b : ℕ) → length image ≤ b → nodes_below size image j b ≡ b ∷ []
nodes_outside size image j b outside =
    rw (nodes_below_is size image j b, none_outside image b outside, no_kids size, each_none (nodes_below size image) j) refl

-- the node itself is among those that are read
pub nodes_some : (size : ℕ) (image : List (List ℕ)) (j b : ℕ) → 1 ≤ length (nodes_below size image j b)
nodes_some size image j b = rw (nodes_below_is size image j b) (omega arith)

-- the same is left as at the start, and each read took a block of those that were to be read
pub record Told {X : Type 0} (size : ℕ) (decoded : ℕ → X) (image : List (List ℕ)) (reads : ℕ) (start : Stack) (made : ℕ) (now : Stack) : Type 0 where
  pub items : stack_items size decoded image start ≡ stack_items size decoded image now
  pub reads_left : made + length (stack_nodes size image now) ≤ reads + length (stack_nodes size image start)

module _ {X : Type 0} (size : ℕ) (decoded : ℕ → X) (image : List (List ℕ)) (reads made : ℕ) (start old new : Stack) (told : Told size decoded image reads start made old) where
  -- a child outside of the device is passed
  pub told_skips : (b : ℕ) → GoesDown size decoded b old new → length image ≤ b → Told size decoded image reads start made new
  told_skips b down outside =
      let none = items_outside size decoded image (63 - new.depth) b outside in
      let less = ap length (down.nodes image) ∙ length-append (nodes_below size image (63 - new.depth) b) (stack_nodes size image new) in
      let before = told.reads_left in
      record { items = told.items ∙ (rw none at (down.items image)); reads_left = omega arith }

  -- a read for a child, also where it failed
  pub told_reads : (b more : ℕ) → GoesDown size decoded b old new → more ≤ made + 1 → more ≤ reads + length (stack_nodes size image start)
  told_reads b more down one =
      let less = ap length (down.nodes image) ∙ length-append (nodes_below size image (63 - new.depth) b) (stack_nodes size image new) in
      let some = nodes_some size image (63 - new.depth) b in
      let before = told.reads_left in
      omega arith

-- nothing is left where there is no node
pub none_left : {X : Type 0} → (left : ℕ → NodePlace → List X) (places : List NodePlace) (depth : ℕ) → depth ≡ 0 → stacked left places depth ≡ []
unfolding stacked
none_left left places depth is = rw is refl

-- in the end nothing is left
pub told_ends : {X : Type 0} (size : ℕ) (decoded : ℕ → X) (image : List (List ℕ)) (reads made : ℕ) (start now : Stack) → Told size decoded image reads start made now → now.depth ≡ 0
    → (stack_items size decoded image start ≡ []) × (stack_items size decoded image now ≡ [])
told_ends size decoded image reads made start now told ends =
    let none = none_left (items_at size decoded image) now.places.items now.depth ends in
    (told.items ∙ none, none)

-- a root that was to be read is one of the blocks that were
pub root_reads : (size : ℕ) (image : List (List ℕ)) (root : Option ℕ) (b reads more : ℕ) (rest : List ℕ) → root ≡ Some b → more ≤ reads + 1
    → more ≤ reads + length (root_left (nodes_below size image 63) root ++ rest)
root_reads size image root b reads more rest is one =
    let some = nodes_some size image 63 b in
    rw (is, length-append (nodes_below size image 63 b) rest) (omega arith)

-- The words of a block, one after the other, and of one block after the other.

few_plain : (size wanted max most entries : ℕ) → (not (nat_eq size wanted) || (not (nat_eq max most) || nat_lt max entries)) ≡ false → most ≤ 4072 → entries ≤ 4072
few_plain size wanted max most entries sound few = grind (arith, nat_tests)

few_if : (bad : Bool) (count : ℕ) → (bad ≡ false → count ≤ 4072) → cond bad 0 count ≤ 4072
few_if true count few = omega arith
few_if false count few = few refl

-- a block has at most 4072 words
pub few_words : (word : Word) (block : List ℕ) → word_count (size_of word) block ≤ 4072
unfolding word_count is_array_shape_bad
few_words Four block = few_if (is_array_shape_bad 4 block) (array_entries block) (λ sound. few_plain (array_value_size block) 4 (array_max block) 1018 (array_entries block) sound (omega arith))
few_words Eight block = few_if (is_array_shape_bad 8 block) (array_entries block) (λ sound. few_plain (array_value_size block) 8 (array_max block) 509 (array_entries block) sound (omega arith))

-- past the last word there is none
pub words_none : (size : ℕ) (block : List ℕ) (next : ℕ) → word_count size block ≤ next → words_from size block next ≡ []
unfolding words_from
words_none size block next most =
    let none : word_count size block - next ≡ 0 = omega arith in
    rw none refl

-- a block without bytes has no words
no_words : (word : Word) → words_from (size_of word) [] 0 ≡ []
unfolding words_from word_count is_array_shape_bad le
no_words Four = refl
no_words Eight = refl

-- nor has one outside of the device
pub words_outside : (word : Word) (image : List (List ℕ)) (b : ℕ) → length image ≤ b → words_from (size_of word) (block_at image b) 0 ≡ []
words_outside word image b outside = rw (none_outside image b outside) (no_words word)

-- a word is taken
pub takes_word : (size : ℕ) (old : Words) → old.next < word_count size old.block.0 → TakesWord size (word_at size old.block.0 old.next) old (record old { next = old.next + 1 })
unfolding words_from
takes_word size old within =
    let less : word_count size old.block.0 - old.next ≡ suc (word_count size old.block.0 - (old.next + 1)) = omega arith in
    record { words = rw less refl; number = less }

-- what an array's cursor keeps
pub record ArrayTold (image : List (List ℕ)) (reads : ℕ) (start : ArrayCursor) (made : ℕ) (now : ArrayCursor) : Type 0 where
  pub words : array_words image start ≡ array_words image now
  pub reads_left : made + array_reads image now ≤ reads + array_reads image start

-- the next entry's block takes the place of one of which no word is left
pub next_block : (image : List (List ℕ)) (reads made more most : ℕ) (start old new : ArrayCursor) (key : ℕ) (root : Root) → ArrayTold image reads start made old
    → words_left (size_of old.word) old.words ≡ [] → new.word ≡ old.word
    → cursor_items 8 root_of image old.entries ≡ (key, root) ∷ cursor_items 8 root_of image new.entries
    → words_left (size_of old.word) new.words ≡ words_from (size_of old.word) (block_at image root.0) 0
    → more + length (cursor_nodes 8 image new.entries) ≤ made + length (cursor_nodes 8 image old.entries) → most ≤ more + 1
    → ArrayTold image reads start most new
unfolding words_of_items
next_block image reads made more most start old new key root told none same items words nodes one =
    let before = told.reads_left in
    let less = ap length items in
    record {
      words = told.words ∙ (rw (same, none, items, words) refl);
      reads_left = omega arith;
    }

-- no word was left
pub no_word_taken : (size : ℕ) (taken : Option ℕ) (old new : Words) → false ≡ is_some taken → TakesWords size taken old new → TakesNoWord size old new
no_word_taken size None old new none takes = takes
no_word_taken size (Some word) old new none takes = cc

-- where each of four facts holds of the value, if there is one
pub if_four : {X : Type 0} {P Q R S T : X → Type 0} → (o : Option X) → ((x : X) → P x → Q x → R x → S x → T x) → IfSome o P → IfSome o Q → IfSome o R → IfSome o S → IfSome o T
if_four None join p q r s = tt
if_four (Some x) join p q r s = join x p q r s

-- the number falls with the next block
pub falls : (before after words left : ℕ) → after < before → left ≤ 4072 → 4096 * after + left < 4096 * before + words
falls before after words left less few = omega arith

-- in the end nothing is left
pub array_ends : (image : List (List ℕ)) (start old new : ArrayCursor) → array_words image start ≡ array_words image old → words_left (size_of old.word) old.words ≡ []
    → new.words ≡ old.words → new.word ≡ old.word → (cursor_items 8 root_of image old.entries ≡ []) × (cursor_items 8 root_of image new.entries ≡ [])
    → (array_words image start ≡ []) × (array_words image new ≡ [])
unfolding words_of_items
array_ends image start old new told none words same ends =
    (told ∙ (rw (none, ends.0) refl), rw (same, words, none, ends.1) refl)
