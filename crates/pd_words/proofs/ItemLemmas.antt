-- The items of words, from an index on.
use Rattle.std.proofs.Common.{◌≡◌, ℕ, zero, suc, ◌+◌, ◌<◌, ◌≤◌, Bool, true, false, List, [], ◌∷◌, length, get_or, map, drop, Option, Some, None, IfSome, is_some, refl, ap, sym, ◌∙◌, arith, if◌then◌else◌, inl, inr, ◌==◌}
use Rattle.std.specs.Str.{bytes_eq}
use Rattle.std.specs.Option.{option_map, option_and_then, unwrap_or}
use Rattle.std.proofs.lemmas.Option.{same_Some}
use Rattle.std.proofs.lemmas.List.{drop_more, drop_all}
use Rattle.std.specs.List.{list_all}
use Rattle.std.proofs.lemmas.Bool.{cases_Bool, true≢false}
use Rattle.std.proofs.Math.Dec.{eqb-suc-zero}
use Rattle.pd_answers.specs.Words.{is_value, is_flag, Item, more, items_of, never, once, often, given, given_of, known, tool_of, request_of, is_known, asked, meant_if_any}
use Rattle.pd_answers.specs.Tools.{Word, image_word, ToolWords}
use Rattle.pd_answers.specs.declared.tool.Value.TheVariants.{File}
use Rattle.pd_answers.specs.Requests.{Request}
use Rattle.pd_words.specs.Items.{AreItems, items_in, values_in, values_from}

-- the word of an element
pub word_is : {X : Type 0} (f : X → List ℕ) (xs : List X) (i : ℕ) (x : X) → i < length xs → x ≡ get_or xs i x → get_or (map f xs) i [] ≡ f x
word_is f [] i x less is = absurd (omega arith)
word_is f (y ∷ ys) zero x less is = ap f (sym is)
word_is f (y ∷ ys) (suc i) x less is = word_is f ys i x (omega arith) is

items-operand : (word : List ℕ) (words : List (List ℕ)) → is_value word ≡ true → items_of (word ∷ words) ≡ more image_word.name word (items_of words)
unfolding items_of
items-operand word [] e = simp e
items-operand word (next ∷ words) e = simp e

items-flag : (word : List ℕ) (words : List (List ℕ)) → is_value word ≡ false → is_flag word ≡ true → items_of (word ∷ words) ≡ more word word (items_of words)
unfolding items_of
items-flag word [] e flag = simp (e, flag)
items-flag word (next ∷ words) e flag = simp (e, flag)

items-last : (word : List ℕ) → is_value word ≡ false → is_flag word ≡ false → items_of (word ∷ []) ≡ None
unfolding items_of
items-last word e flag = simp (e, flag)

items-option : (word next : List ℕ) (words : List (List ℕ)) → is_value word ≡ false → is_flag word ≡ false
    → items_of (word ∷ next ∷ words) ≡ (if is_value next then more word next (items_of words) else None)
unfolding items_of
items-option word next words e flag = simp (e, flag)

module _ (words : List (List ℕ)) (i : ℕ) (less : i < length words) (word : List ℕ) (is : get_or words i [] ≡ word) where
  -- the word here is the operand
  pub operand_at : is_value word ≡ true → items_of (drop i words) ≡ more image_word.name word (items_of (drop (i + 1) words))
  operand_at e = rw (drop_more words i [] less, is) (items-operand word (drop (i + 1) words) e)

  -- a flag's
  pub flag_at : is_value word ≡ false → is_flag word ≡ true
      → items_of (drop i words) ≡ more word word (items_of (drop (i + 1) words))
  flag_at e flag = rw (drop_more words i [] less, is) (items-flag word (drop (i + 1) words) e flag)

  -- an option's, with no word behind it
  pub last_at : is_value word ≡ false → is_flag word ≡ false → length words ≤ i + 1 → items_of (drop i words) ≡ None
  last_at e flag end = rw (drop_more words i [] less, drop_all (i + 1) words end, is) (items-last word e flag)

  -- an option's, with another word behind it
  pub option_at : is_value word ≡ false → is_flag word ≡ false → i + 1 < length words → (next : List ℕ) → get_or words (i + 1) [] ≡ next
      → (b : Bool) → is_value next ≡ b → items_of (drop i words) ≡ (if b then more word next (items_of (drop (i + 2) words)) else None)
  option_at e flag some next follows b value =
      let two : i + 1 + 1 ≡ i + 2 = omega arith in
      rw (drop_more words i [] less, drop_more words (i + 1) [] some, is, follows, ← value, two)
      (items-option word next (drop (i + 2) words) e flag)

-- what is known at the end of the words
pub known_end : (table : List Word) (words : List (List ℕ)) (i : ℕ) → length words ≤ i → true ≡ is_some (known table (items_of (drop i words)))
unfolding items_of
known_end table words i end = rw (drop_all i words end) refl

-- the values that the words from this one on give, where an item stands here, or nothing does
module _ (words : List (List ℕ)) (purpose : List ℕ) (i : ℕ) where
  pub values_end : length words ≤ i → IfSome (values_from words purpose i) (λ vs. vs ≡ [])
  unfolding values_from items_of
  values_end end = rw (drop_all i words end) refl

  pub values_none : items_of (drop i words) ≡ None → IfSome (values_from words purpose i) (λ vs. vs ≡ [])
  unfolding values_from
  values_none none = rw none tt

  pub values_found : (given_for value : List ℕ) (next : ℕ) → items_of (drop i words) ≡ more given_for value (items_of (drop next words)) → bytes_eq given_for purpose ≡ true
      → values_from words purpose i ≡ option_map (λ (vs : List (List ℕ)). value ∷ vs) (values_from words purpose next)
  unfolding values_from
  values_found given_for value next item e = rw item (with_more (items_of (drop next words)))
    where
      with_more : (items : Option (List Item)) → values_in purpose (more given_for value items) ≡ option_map (λ (vs : List (List ℕ)). value ∷ vs) (values_in purpose items)
      with_more None = refl
      with_more (Some items) = simp e

  pub values_skip : (given_for value : List ℕ) (next : ℕ) → items_of (drop i words) ≡ more given_for value (items_of (drop next words)) → bytes_eq given_for purpose ≡ false
      → values_from words purpose i ≡ values_from words purpose next
  unfolding values_from
  values_skip given_for value next item e = rw item (with_more (items_of (drop next words)))
    where
      with_more : (items : Option (List Item)) → values_in purpose (more given_for value items) ≡ values_in purpose items
      with_more None = refl
      with_more (Some items) = simp e

-- how often something is given, by its values
module _ (purpose : List ℕ) (words : List (List ℕ)) (are : AreItems words) where
  abbrev values : Option (List (List ℕ))
  values = values_in purpose (items_of (drop 1 words))

  given_is : (vs : List (List ℕ)) → values ≡ Some vs → given_of vs ≡ given purpose (items_in words)
  unfolding given
  given_is vs is = ap given_of (sym (same_Some _ _ (rw are at is)))

  pub given_never : IfSome values (λ vs. vs ≡ []) → never ≡ given purpose (items_in words)
  given_never none = given_is [] (rw are (ap Some (rw are at none)))

  pub given_once : (value : List ℕ) (rest : Option (List (List ℕ))) → values ≡ option_map (λ (vs : List (List ℕ)). value ∷ vs) rest → IfSome rest (λ vs. vs ≡ [])
      → once value ≡ given purpose (items_in words)
  given_once value None first none = absurd (some (rw are at first))
    where
      some : {X : Type 0} {x : X} → Some x ≡ None → ⊥
      some e = cc
  given_once value (Some rest) first none = given_is (value ∷ []) (first ∙ ap (λ (vs : List (List ℕ)). Some (value ∷ vs)) none)

  pub given_often : (value other : List ℕ) (more_values rest : Option (List (List ℕ))) → values ≡ option_map (λ (vs : List (List ℕ)). value ∷ vs) more_values
      → more_values ≡ option_map (λ (vs : List (List ℕ)). other ∷ vs) rest → often ≡ given purpose (items_in words)
  given_often value other more_values None first second = absurd (some (rw (are, second) at first))
    where
      some : {X : Type 0} {x : X} → Some x ≡ None → ⊥
      some e = cc
  given_often value other more_values (Some rest) first second = given_is (value ∷ other ∷ rest) (first ∙ ap (option_map (λ (vs : List (List ℕ)). value ∷ vs)) second)

-- What is asked, by the tool and its items.

pub asked_nothing : {X : Type 0} (f : X → List ℕ) (xs : List X) → (length xs == 0) ≡ true → None ≡ asked (map f xs)
unfolding asked
asked_nothing f [] none = refl
asked_nothing f (x ∷ xs) none = absurd (true≢false (sym none ∙ eqb-suc-zero (length xs)))

-- what is asked of a tool with these items
abbrev pub asked_of : Option ToolWords → Option (List Item) → Option Request
asked_of tool items = option_and_then (λ (row : ToolWords). option_and_then (request_of row.tool) (known row.words items)) tool

pub asked_first : {X : Type 0} (f : X → List ℕ) (xs : List X) (x : X) (word : List ℕ) → (length xs == 0) ≡ false → x ≡ get_or xs 0 x → word ≡ f x
    → asked (map f xs) ≡ asked_of (tool_of word (items_of (drop 1 (map f xs)))) (items_of (drop 1 (map f xs)))
unfolding asked
asked_first f [] x word some at is = absurd (true≢false some)
asked_first f (y ∷ ys) x word some at is =
    let same : word ≡ f y = is ∙ ap f at in rw same refl

-- items that are known are items
pub known_are_items : (list : List Word) (words : List (List ℕ)) → is_some (known list (items_of (drop 1 words))) ≡ true → AreItems words
unfolding items_in
known_are_items list words some = go (items_of (drop 1 words)) some
  where
    go : (items : Option (List Item)) → is_some (known list items) ≡ true → items ≡ Some (unwrap_or items [])
    go None some = absurd (true≢false (sym some))
    go (Some items) some = refl

-- the items can be given to the tool
pub all_known : (found : Option ToolWords) (row : ToolWords) (words : List (List ℕ)) (request : Option Request) → found ≡ Some row
    → is_some (known row.words (items_of (drop 1 words))) ≡ true → request ≡ request_of row.tool (items_in words)
    → request ≡ asked_of found (items_of (drop 1 words))
all_known found row words request same some is =
    let are = known_are_items row.words words some in
    elim (cases_Bool (list_all (is_known row.words) (items_in words))) [
      | inl e ↦ rw (same, are, e) is
      | inr e ↦ absurd (true≢false (sym (rw (are, e) at some)))
    ]

-- they can't
pub not_known : (found : Option ToolWords) (row : ToolWords) (items : Option (List Item)) → found ≡ Some row → is_some (known row.words items) ≡ false → None ≡ asked_of found items
not_known found row None same none = rw same refl
not_known found row (Some items) same none = elim (cases_Bool (list_all (is_known row.words) items)) [
  | inl e ↦ absurd (true≢false (rw e at none))
  | inr e ↦ rw (same, e) refl
]

-- the name of a file is the word itself
pub file_as_given : (o : Option (List ℕ)) → meant_if_any File o ≡ Some o
file_as_given None = refl
file_as_given (Some word) = refl
