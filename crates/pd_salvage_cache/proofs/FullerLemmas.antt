-- The words that are counted are those of the array, and the children that are marked are those of the blocks.
use Rattle.std.proofs.Common.{◌≡◌, ℕ, zero, suc, ◌+◌, ◌/◌, ◌%◌, ◌^◌, ◌<◌, max, Bool, true, false, cond, not, ◌&&◌, ◌||◌, nat_eq, nat_lt, List, [], ◌∷◌, ◌++◌, length, map, fold, get_or, replicate, Option, Some, None, is_some, refl, sym, ap, ap₂, ◌∙◌, arith, eq-eqb}
use Rattle.std.specs.List.{count_by, list_any, list_all, range_with_len}
use Rattle.std.proofs.lemmas.Bool.{ne_eqb}
use Rattle.std.proofs.lemmas.List.Folds.{list_all-append, list_any-append}
use Rattle.std.proofs.lemmas.List.{length_push}
use Rattle.std.proofs.lemmas.List.FromFn.{map-range_with_len_more}
use Rattle.std.proofs.lemmas.List.Sums.{sum_by_push}
use Rattle.pd_kinds.specs.CacheFormat.{CacheFields}
use Rattle.pd_kinds.specs.Node.{Entry}
use Rattle.pd_kinds.specs.Graph.{block_at}
use Rattle.pd_kinds.proofs.NumberLemmas.{range_split}
use Rattle.pd_laid.specs.CacheRoots.{end_of_keys, has_child, is_fuller, is_plain_word, known_words, mapping_word, rooted_at}
use Rattle.pd_laid.specs.Salvage.{salvaged_entries}
use Rattle.pd_value.specs.declared.thin.Root.{Root}
use Rattle.pd_array.specs.declared.array.Word.TheVariants.{Eight}
use Rattle.pd_tree.specs.Cursor.{item_of, root_of}
use Rattle.pd_salvage_cache.specs.declared.array.SavedArray.{SavedArray}
use Rattle.pd_salvage_cache.specs.declared.candidates.SavedWords.{SavedWords}
use Rattle.pd_salvage_cache.specs.Arrays.{Knows, held_word}
use Rattle.pd_salvage_cache.specs.Fuller.{AreMarked, fuller_words, is_named_by, names_child, with_word, words_at, words_of}
use Rattle.pd_salvage_cache.proofs.HeldLemmas.{eight_is}

-- numbers with one more
pub range_next : (n : ℕ) → range_with_len 0 (n + 1) ≡ range_with_len 0 n ++ n ∷ []
range_next n =
    let zero_on : 0 + n ≡ n = omega arith in
    range_split 0 n 1 ∙ ap (λ (a : ℕ). range_with_len 0 n ++ a ∷ []) zero_on

and_true : (b : Bool) → (b && true) ≡ b
and_true true = refl
and_true false = refl

-- the words with one more
abbrev made : ℕ → Bool → SavedWords
made number plain = record { number = number; are_plain = plain }

by_word : (word : Option ℕ) (number : ℕ) (plain : Bool) → with_word (made number plain) word ≡ made (number + cond (is_some word) 1 0) (plain && (is_plain_word word && true))
by_word None number plain =
    let same : number ≡ number + 0 = omega arith in
    ap₂ made same (sym (and_true plain))
by_word (Some word) number plain = ap (λ (b : Bool). made (number + 1) (plain && b)) (sym (and_true (nat_lt (word % 2 ^ 16) 4)))

module _ (word : ℕ → Option ℕ) (n : ℕ) where
  abbrev is_there : ℕ → Bool
  is_there i = is_some (word i)

  abbrev is_plain : ℕ → Bool
  is_plain i = is_plain_word (word i)

  words_next : with_word (words_of word n) (word n) ≡ words_of word (n + 1)
  words_next =
      let number : count_by is_there (range_with_len 0 (n + 1)) ≡ count_by is_there (range_with_len 0 n) + cond (is_there n) 1 0 =
      ap (count_by is_there) (range_next n) ∙ sum_by_push (λ i. cond (is_there i) 1 0) (range_with_len 0 n) n in
      let plain : list_all is_plain (range_with_len 0 (n + 1)) ≡ (list_all is_plain (range_with_len 0 n) && (is_plain n && true)) =
      ap (list_all is_plain) (range_next n) ∙ list_all-append is_plain (range_with_len 0 n) (n ∷ []) in
      by_word (word n) (count_by is_there (range_with_len 0 n)) (list_all is_plain (range_with_len 0 n)) ∙ sym (ap₂ made number plain)

module _ (fields : CacheFields) (image : List (List ℕ)) (root : ℕ) where
  abbrev entries : List Entry
  entries = salvaged_entries 8 fields.meta_map.blocks image root

  pub words_more : (n : ℕ) (array : SavedArray) (old new : SavedWords) → Knows image entries array → array.word ≡ Eight → array.nr ≡ fields.meta_map.blocks → array.next ≡ n / 509 + 1
      → old ≡ words_at fields image root n → new ≡ with_word old (held_word array (n % 509)) → new ≡ words_at fields image root (n + 1)
  words_more n array old new knows word number next before is =
      is
      ∙ (ap₂ with_word before (eight_is image entries array knows fields.meta_map.blocks n number word (sym next))
      ∙ words_next (mapping_word (rooted_at fields root) image) n)

  pub number_is : known_words (rooted_at fields root) image ≡ (words_at fields image root fields.blocks).number
  unfolding known_words
  number_is = refl

  -- an array that ends elsewhere is no fuller one
  none_if : (first second third : Bool) (n : ℕ) → second ≡ false → 0 ≡ cond (first && (second && third)) n 0
  none_if true second third n is = rw is refl
  none_if false second third n is = refl

  pub not_fuller : (end : ℕ) → end ≡ end_of_keys entries → (end ≡ (fields.blocks + 508) / 509 → ⊥) → 0 ≡ fuller_words fields image root
  unfolding is_fuller
  not_fuller end is other =
      none_if (nat_lt (known_words fields image) (known_words (rooted_at fields root) image)) _ _ (known_words (rooted_at fields root) image)
      (ne_eqb (end_of_keys entries) ((fields.blocks + 508) / 509) (λ same. other (is ∙ same)))

  all_if : (a b x y : ℕ) (p q second : Bool) → a ≡ b → x ≡ y → p ≡ q → second ≡ true → cond (nat_lt a x && p) x 0 ≡ cond (nat_lt b y && (second && q)) y 0
  all_if a b x y p q second known number plain ends = rw (known, number, plain, ends) refl

  pub are_fuller : (end known words : ℕ) (found : SavedWords) → end ≡ end_of_keys entries → end ≡ (fields.blocks + 508) / 509 → known ≡ known_words fields image
      → found ≡ words_at fields image root fields.blocks → words ≡ cond (nat_lt known found.number && found.are_plain) found.number 0 → words ≡ fuller_words fields image root
  unfolding is_fuller
  are_fuller end known words found is ends own seen result =
      result
      ∙ all_if known (known_words fields image) found.number (known_words (rooted_at fields root) image) found.are_plain _ _ own
      (ap (λ (w : SavedWords). w.number) seen ∙ sym number_is) (ap (λ (w : SavedWords). w.are_plain) seen)
      (eq-eqb (end_of_keys entries) ((fields.blocks + 508) / 509) (sym is ∙ ends))

-- those of the superblock's own root
pub own_words : (fields : CacheFields) (image : List (List ℕ)) (own : SavedWords) → own ≡ words_at fields image fields.mapping_root fields.blocks → own.number ≡ known_words fields image
own_words fields image own is = ap (λ (w : SavedWords). w.number) is ∙ sym (number_is fields image fields.mapping_root)

-- the end of the keys that are left
abbrev pub end_from : ℕ → List (ℕ × Root) → ℕ
end_from end items = fold max end (map (λ (item : ℕ × Root). item.0 + 1) items)

pub ends_same : (end : ℕ) (es : List Entry) → end_from end (map (item_of root_of) es) ≡ fold max end (map (λ (e : Entry). e.key + 1) es)
ends_same end [] = refl
ends_same end (e ∷ es) = ends_same (max end (e.key + 1)) es

-- Children.

or_false : (a b : Bool) → b ≡ false → a ≡ (a || b)
or_false true b is = refl
or_false false b is = sym is

-- marks after those of one child more
or_twice : (old now before one other : Bool) → now ≡ (old || (other && before)) → (now || (other && one)) ≡ (old || (other && (before || (one || false))))
or_twice true now before one other is = rw is refl
or_twice false now before one false is = rw is refl
or_twice false now true one true is = rw is refl
or_twice false now false true true is = rw is refl
or_twice false now false false true is = rw is refl

module _ (p : ℕ → Bool) (n : ℕ) where
  any_next : list_any p (range_with_len 0 (n + 1)) ≡ (list_any p (range_with_len 0 n) || (p n || false))
  any_next = ap (list_any p) (range_next n) ∙ list_any-append p (range_with_len 0 n) (n ∷ [])

  pub child_more : (old now new other : Bool) → now ≡ (old || (other && list_any p (range_with_len 0 n))) → new ≡ (now || (other && p n))
      → new ≡ (old || (other && list_any p (range_with_len 0 (n + 1))))
  child_more old now new other before is =
      is ∙ (or_twice old now (list_any p (range_with_len 0 n)) (p n) other before ∙ ap (λ (b : Bool). old || (other && b)) (sym any_next))

-- no child is marked, and none of a leaf
and_false : (b : Bool) → (b && false) ≡ false
and_false true = refl
and_false false = refl

pub marks_none : (old other named : Bool) → named ≡ false → old ≡ (old || (other && named))
marks_none old other named none = or_false old (other && named) (ap (λ (b : Bool). other && b) none ∙ and_false other)

pub marks_inner : (now old other inner named : Bool) → inner ≡ true → now ≡ (old || (other && named)) → now ≡ (old || (other && (inner && named)))
marks_inner now old other inner named is marked = rw is marked

-- the children of the node in a place
pub child_is : (image : List (List ℕ)) (place child : ℕ) (block : List ℕ) → block_at image place ≡ block → names_child block child ≡ has_child image place child
child_is image place child block is = rw is refl

module _ (image : List (List ℕ)) (words : List ℕ) (n : ℕ) (old : List Bool) (marked : AreMarked image words n old) where
  -- a block without words marks nothing
  pub marked_same : get_or words n 0 ≡ 0 → AreMarked image words (n + 1) old
  marked_same none c within =
      marked c within
      ∙ (or_false (list_any (is_named_by image words c) (range_with_len 0 n)) (is_named_by image words c n || false) (rw none (none_left (not (nat_eq n c))))
      ∙ sym (any_next (is_named_by image words c) n))
    where
      none_left : (b : Bool) → ((b && false) || false) ≡ false
      none_left true = refl
      none_left false = refl

  -- and another one its children
  pub marked_more : (new : List Bool) → (get_or words n 0 ≡ 0 → ⊥) → length new ≡ length old
      → ((c : ℕ) → c < length old → get_or new c false ≡ (get_or old c false || (not (nat_eq n c) && has_child image n c))) → AreMarked image words (n + 1) new
  marked_more new some long marks c within =
      let before = marked c (omega arith) in
      marks c (omega arith)
      ∙ (ap (λ (b : Bool). b || (not (nat_eq n c) && has_child image n c)) before
      ∙ (joined (list_any (is_named_by image words c) (range_with_len 0 n)) (not (nat_eq n c)) (nat_eq (get_or words n 0) 0) (has_child image n c) (ne_eqb (get_or words n 0) 0 some)
      ∙ sym (any_next (is_named_by image words c) n)))
    where
      joined : (before other zeros child : Bool) → zeros ≡ false → (before || (other && child)) ≡ (before || ((other && (not zeros && child)) || false))
      joined true other zeros child some = refl
      joined false true zeros true some = rw some refl
      joined false true zeros false some = rw some refl
      joined false false zeros child some = refl

pub none_marked : (image : List (List ℕ)) (words : List ℕ) (marks : List Bool) → ((c : ℕ) → get_or marks c false ≡ false) → AreMarked image words 0 marks
none_marked image words marks none c within = none c

pub none_in : (n c : ℕ) → get_or (replicate n false) c false ≡ false
none_in zero c = refl
none_in (suc n) zero = refl
none_in (suc n) (suc c) = none_in n c

-- a table with one block more
pub block_more : (told : ℕ → ℕ) (n x : ℕ) (old new : List ℕ) → new ≡ old ++ x ∷ [] → old ≡ map told (range_with_len 0 n) → x ≡ told n → new ≡ map told (range_with_len 0 (n + 1))
block_more told n x old new is before here =
    let zero_on : 0 + n ≡ n = omega arith in
    is ∙ (ap₂ (λ (xs : List ℕ) (y : ℕ). xs ++ y ∷ []) before here ∙ sym (map-range_with_len_more told 0 n n zero_on))

pub length_more : (n x : ℕ) (old new : List ℕ) → new ≡ old ++ x ∷ [] → length old ≡ n → length new ≡ n + 1
length_more n x old new is before = ap length is ∙ (length_push old x ∙ ap (λ (m : ℕ). m + 1) before)
