-- Words ask the same in any order of their groups.
use Rattle.std.proofs.Common.{◌≡◌, ◌⊎◌, inl, inr, ℕ, suc, ◌+◌, Bool, true, false, cond, ◌&&◌, ◌||◌, nat_eq, List, [], ◌∷◌, ◌++◌, length, map, Option, Some, None, IsPermutation, option_and_then, is_some, refl, sym, ap, ◌∙◌, subst, arith}
use Rattle.std.specs.Prelude.{sum_by}
use Rattle.std.specs.List.{AllByRecursion, cons_option, filter_map, list_all}
use Rattle.std.specs.Option.{option_map_or}
use Rattle.std.specs.Str.{bytes_eq}
use Rattle.std.proofs.lemmas.Bool.{cases_Bool}
use Rattle.std.proofs.lemmas.Slice.Eq.{bytes_eq-Decides}
use Rattle.std.proofs.Math.Dec.{eqb-suc-zero}
use Rattle.std.proofs.lemmas.List.Elements.{All-from_recursion, recursion_from_All}
use Rattle.std.proofs.lemmas.List.Sorted.{All-permutation, IsPermutation-map, sum_by-IsPermutation}
use Rattle.std.proofs.lemmas.List.Sums.{sum_by-cons}
use Rattle.pd_answers.specs.Requests.{Request}
use Rattle.pd_answers.specs.declared.tool.Tool.{Tool}
use Rattle.pd_answers.specs.declared.tool.Tool.TheVariants.{Check, Dump, Restore, Repair, Search, NamedRepair, DryRepair, DrySearch, DryNamed, RepairCache, DryRepairCache, ReverseMap, DeviceList, Unused, Since, Generate, Rehearse, Writeback, Shrink}
use Rattle.pd_answers.specs.Tools.{ToolWords, tools, image_word}
use Rattle.pd_answers.specs.Words.{Given, Item, once, asked, given, given_of, given_super, is_flag, is_known, is_named, is_value, cache_roots, items_of, known, more, named_roots, request_of, tool_in, value_of}
use Rattle.pd_laws_answers.specs.Words.{AreGroups, Group, IsGroup, flag, option, operand, words_of_group, words_of_groups}

-- the item of a group
item_of : Group → Item
item_of (flag name) = record { purpose = name; value = name }
item_of (option name value) = record { purpose = name; value = value }
item_of (operand word) = record { purpose = image_word.name; value = word }

-- a word alone, with whatever comes behind it
operand_first : (word : List ℕ) (words : List (List ℕ)) → is_value word ≡ true → items_of (word ∷ words) ≡ more image_word.name word (items_of words)
unfolding items_of
operand_first word [] is = rw is refl
operand_first word (next ∷ words) is = rw is refl

pub flag_first : (name : List ℕ) (words : List (List ℕ)) → is_value name ≡ false → is_flag name ≡ true → items_of (name ∷ words) ≡ more name name (items_of words)
unfolding items_of
flag_first name [] word is = rw (word, is) refl
flag_first name (next ∷ words) word is = rw (word, is) refl

pub option_first : (name value : List ℕ) (words : List (List ℕ)) → is_value name ≡ false → is_flag name ≡ false → is_value value ≡ true
    → items_of (name ∷ value ∷ words) ≡ more name value (items_of words)
unfolding items_of
option_first name value words word other is = rw (word, other, is) refl

no_items : items_of [] ≡ Some []
unfolding items_of
no_items = refl

-- the items of groups
items_are : (groups : List Group) → AreGroups groups → items_of (words_of_groups groups) ≡ Some (map item_of groups)
unfolding item_of
items_are [] are = no_items
items_are (flag name ∷ groups) are = flag_first name (words_of_groups groups) are.0.0 are.0.1 ∙ ap (more name name) (items_are groups are.1)
items_are (option name value ∷ groups) are = option_first name value (words_of_groups groups) are.0.0 are.0.1 are.0.2 ∙ ap (more name value) (items_are groups are.1)
items_are (operand word ∷ groups) are = operand_first word (words_of_groups groups) are.0 ∙ ap (more image_word.name word) (items_are groups are.1)

-- words that ask for items are those of groups
nothing_more : (purpose value : List ℕ) (rest : Option (List Item)) (items : List Item) → more purpose value rest ≡ Some items → (others : List Item) × (rest ≡ Some others)
nothing_more purpose value None items is = absurd cc
nothing_more purpose value (Some others) items is = (others, refl)

none_is_some : {X : Type 0} (x : X) → None ≡ Some x → ⊥
none_is_some x is = cc

abbrev Grouped : List (List ℕ) → Type 0
Grouped words = (groups : List Group) × (AreGroups groups × (words ≡ words_of_groups groups))

with_group : (group : Group) (words : List (List ℕ)) → IsGroup group → Grouped words → Grouped (words_of_group group ++ words)
with_group group words is rest = (group ∷ rest.0, ((is, rest.1.0), ap (λ (ws : List (List ℕ)). words_of_group group ++ ws) rest.1.1))

groups_of : (words : List (List ℕ)) (items : List Item) → items_of words ≡ Some items → Grouped words
unfolding items_of
groups_of [] items is = ([], (tt, refl))
groups_of (word ∷ []) items is = elim (cases_Bool (is_value word)) [
  | inl operand_here ↦ with_group (operand word) [] operand_here ([], (tt, refl))
  | inr option_here ↦ elim (cases_Bool (is_flag word)) [
    | inl a_flag ↦ with_group (flag word) [] (option_here, a_flag) ([], (tt, refl))
    | inr other ↦ absurd (none_is_some items (rw (option_here, other) at is))
  ]
]
groups_of (word ∷ next ∷ words) items is = elim (cases_Bool (is_value word)) [
  | inl operand_here ↦
      let rest = nothing_more image_word.name word (items_of (next ∷ words)) items (rw operand_here at is) in
      with_group (operand word) (next ∷ words) operand_here (groups_of (next ∷ words) rest.0 rest.1)
  | inr option_here ↦ elim (cases_Bool (is_flag word)) [
    | inl a_flag ↦
        let rest = nothing_more word word (items_of (next ∷ words)) items (rw (option_here, a_flag) at is) in
        with_group (flag word) (next ∷ words) (option_here, a_flag) (groups_of (next ∷ words) rest.0 rest.1)
    | inr other ↦ elim (cases_Bool (is_value next)) [
      | inl a_value ↦
          let rest = nothing_more word next (items_of words) items (rw (option_here, other, a_value) at is) in
          with_group (option word next) words (option_here, other, a_value) (groups_of words rest.0 rest.1)
      | inr none ↦ absurd (none_is_some items (rw (option_here, other, none) at is))
    ]
  ]
]

-- what is counted of the values that are given is counted of the items
sum_first : (h : List ℕ → ℕ) (value : Option (List ℕ)) (values : List (List ℕ)) → sum_by h (cons_option value values) ≡ option_map_or h value 0 + sum_by h values
sum_first h None values = omega arith
sum_first h (Some value) values = sum_by-cons h value values

sum_given : {X : Type 0} (f : X → Option (List ℕ)) (h : List ℕ → ℕ) (xs : List X) → sum_by h (filter_map f xs) ≡ sum_by (λ x. option_map_or h (f x) 0) xs
sum_given f h [] = refl
sum_given {X} f h (x ∷ xs) =
    sum_first h (f x) (filter_map f xs)
    ∙ (ap (λ (n : ℕ). option_map_or h (f x) 0 + n) (sum_given f h xs) ∙ sym (sum_by-cons (λ (y : X). option_map_or h (f y) 0) x xs))

abbrev one : List ℕ → ℕ
one value = 1

-- how often a value is one of these
abbrev times : List ℕ → List (List ℕ) → ℕ
times value values = sum_by (λ v. cond (bytes_eq value v) 1 0) values

one_each : (values : List (List ℕ)) → sum_by one values ≡ length values
one_each [] = refl
one_each (value ∷ values) = let first = sum_by-cons one value values in let rest = one_each values in omega arith

-- so many values, and each of them as often, are given so often
same_value : (v w : List ℕ) → times v (v ∷ []) ≡ times v (w ∷ []) → v ≡ w
same_value v w same = elim (cases_Bool (bytes_eq v w)) [
  | inl is ↦ (bytes_eq-Decides v w).0 is
  | inr other ↦
      let itself : bytes_eq v v ≡ true = (bytes_eq-Decides v v).1 refl in
      let first : times v (v ∷ []) ≡ 1 = rw itself refl in
      let second : times v (w ∷ []) ≡ 0 = rw other refl in
      absurd (omega arith)
]

same_often : (vs ws : List (List ℕ)) → length vs ≡ length ws → ((value : List ℕ) → times value vs ≡ times value ws) → given_of vs ≡ given_of ws
same_often [] [] long each = refl
same_often [] (w ∷ ws) long each = absurd (omega arith)
same_often (v ∷ []) [] long each = absurd (omega arith)
same_often (v ∷ []) (w ∷ []) long each = ap once (same_value v w (each v))
same_often (v ∷ []) (w ∷ x ∷ ws) long each = absurd (omega arith)
same_often (v ∷ u ∷ vs) [] long each = absurd (omega arith)
same_often (v ∷ u ∷ vs) (w ∷ []) long each = absurd (omega arith)
same_often (v ∷ u ∷ vs) (w ∷ x ∷ ws) long each = refl

-- a test that all pass is a count of those that don't
all_counted : {X : Type 0} (p : X → Bool) (xs : List X) → list_all p xs ≡ nat_eq (sum_by (λ x. cond (p x) 0 1) xs) 0
all_counted p [] = refl
all_counted {X} p (x ∷ xs) = elim (cases_Bool (p x)) [
  | inl passes ↦ rw (sum_by-cons (λ (y : X). cond (p y) 0 1) x xs, passes) (all_counted p xs ∙ ap (λ (n : ℕ). nat_eq n 0) (omega arith))
  | inr fails ↦ rw (sum_by-cons (λ (y : X). cond (p y) 0 1) x xs, fails) (sym (some_counted (sum_by (λ (y : X). cond (p y) 0 1) xs)))
]
  where
    some_counted : (n : ℕ) → nat_eq (1 + n) 0 ≡ false
    some_counted n = let e : 1 + n ≡ suc n = omega arith in rw e (eqb-suc-zero n)

-- items in another order
module _ (items others : List Item) (moved : IsPermutation items others) where
  same_given : (purpose : List ℕ) → given purpose others ≡ given purpose items
  unfolding given
  same_given purpose =
      let counted = λ (h : List ℕ → ℕ). sum_given (value_of purpose) h others
      ∙ (sum_by-IsPermutation (λ (item : Item). option_map_or h (value_of purpose item) 0) items others moved ∙ sym (sum_given (value_of purpose) h items)) in
      same_often (filter_map (value_of purpose) others) (filter_map (value_of purpose) items)
      (sym (one_each (filter_map (value_of purpose) others)) ∙ (counted one ∙ one_each (filter_map (value_of purpose) items)))
      (λ value. counted (λ (v : List ℕ). cond (bytes_eq value v) 1 0))

  same_all : (p : Item → Bool) → list_all p others ≡ list_all p items
  same_all p = all_counted p others ∙ (ap (λ (n : ℕ). nat_eq n 0) (sum_by-IsPermutation (λ (item : Item). cond (p item) 0 1) items others moved) ∙ sym (all_counted p items))

  same_tool : (rows : List ToolWords) (word : List ℕ) → tool_in rows word (Some others) ≡ tool_in rows word (Some items)
  unfolding tool_in
  same_tool [] word = refl
  same_tool (row ∷ rows) word = elim (cases_Bool (list_all (is_known row.words) items)) [
    | inl all ↦ rw (same_all (is_known row.words), all, same_tool rows word) refl
    | inr some ↦ rw (same_all (is_known row.words), some, same_tool rows word) refl
  ]

  same_request : (tool : Tool) → request_of tool others ≡ request_of tool items
  unfolding request_of given_super named_roots cache_roots
  same_request (Check kind) = simp same_given
  same_request (Dump kind) = simp same_given
  same_request (Restore kind) = simp same_given
  same_request Repair = simp same_given
  same_request Search = simp same_given
  same_request NamedRepair = simp same_given
  same_request DryRepair = simp same_given
  same_request DrySearch = simp same_given
  same_request DryNamed = simp same_given
  same_request RepairCache = simp same_given
  same_request DryRepairCache = simp same_given
  same_request ReverseMap = simp same_given
  same_request DeviceList = simp same_given
  same_request Unused = simp same_given
  same_request Since = simp same_given
  same_request Generate = simp same_given
  same_request Rehearse = simp same_given
  same_request Writeback = simp same_given
  same_request Shrink = simp same_given

  abbrev answer_of : List Item → ToolWords → Option Request
  answer_of given row = option_and_then (λ (known : List Item). request_of row.tool known) (known row.words (Some given))

  same_known : (row : ToolWords) → answer_of others row ≡ answer_of items row
  same_known row = elim (cases_Bool (list_all (is_known row.words) items)) [
    | inl all ↦ rw (same_all (is_known row.words), all) (same_request row.tool)
    | inr some ↦ rw (same_all (is_known row.words), some) refl
  ]

  same_answer : (row : Option ToolWords) → option_and_then (answer_of others) row ≡ option_and_then (answer_of items) row
  same_answer None = refl
  same_answer (Some row) = same_known row

pub reordered : (tool : List ℕ) (groups others : List Group) → AreGroups groups → AreGroups others → IsPermutation groups others
    → asked (tool ∷ words_of_groups others) ≡ asked (tool ∷ words_of_groups groups)
unfolding asked
reordered tool groups others are still moved =
    let items = map item_of groups in
    let next = map item_of others in
    rw (items_are groups are, items_are others still, same_tool items next (IsPermutation-map item_of groups others moved) tools tool)
    (same_answer items next (IsPermutation-map item_of groups others moved) (tool_in tools tool (Some items)))

-- words that aren't items ask nothing
nothing_asked : (row : Option ToolWords) → option_and_then (λ (r : ToolWords). option_and_then (λ (items : List Item). request_of r.tool items) (known r.words None)) row ≡ None
nothing_asked None = refl
nothing_asked (Some row) = refl

pub grouped : (tool : List ℕ) (words : List (List ℕ)) (request : Request) → asked (tool ∷ words) ≡ Some request → Grouped words
unfolding asked
grouped tool words request is = by_items (items_of words) refl
  where
    by_items : (items : Option (List Item)) → items_of words ≡ items → Grouped words
    by_items None are = absurd (none_is_some request (sym (nothing_asked (tool_in tools tool None)) ∙ (rw are at is)))
    by_items (Some items) are = groups_of words items are

-- groups in another order are groups
pub all_still : (groups others : List Group) → AreGroups groups → IsPermutation groups others → AreGroups others
all_still groups others are moved =
    recursion_from_All IsGroup others (All-permutation IsGroup groups others moved (All-from_recursion IsGroup groups are))
