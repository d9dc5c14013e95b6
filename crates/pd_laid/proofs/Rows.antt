-- What the inner nodes above a row name: with the root, all that the row names, and all of themselves.
use Rattle.std.proofs.Common.{◌≡◌, inl, inr, ℕ, zero, suc, ◌+◌, ◌-◌, ◌*◌, ◌^◌, ◌<◌, ◌≤◌, nat_lt, cond, List, [], ◌∷◌, ◌++◌, length, refl, sym, ◌∙◌, ap, arith}
use Rattle.std.specs.List.{flat_map, range_with_len}
use Rattle.std.proofs.lemmas.Bool.{cases_lt, lt-ltb, le-ltb}
use Rattle.std.proofs.lemmas.List.{map-append, append_assoc, length-append}
use Rattle.std.proofs.lemmas.Grind.{flat_map-append}
use Rattle.pd_kinds.specs.Node.{Entry}
use Rattle.pd_kinds.proofs.KindLemmas.{values_of}
use Rattle.pd_kinds.proofs.NumberLemmas.{range_split}
use Rattle.pd_grammar.specs.Need.{nodes_for}
use Rattle.pd_laid.specs.Laid.{even_parts, first_place, heads, levels_above}
use Rattle.pd_laid.proofs.NeedLemmas.{length-heads}
use Rattle.pd_laid.proofs.LaidLemmas.{length-spread, joined_spread}

-- nodes in a row, each a list of entries
abbrev pub entries_of : List (List Entry) → List Entry
entries_of nodes = flat_map (λ (node : List Entry). node) nodes

-- what the level above says of some nodes names their places
pub values-heads : (place : ℕ) (nodes : List (List Entry)) → values_of (heads place nodes) ≡ range_with_len place (length nodes)
unfolding heads
values-heads place [] = refl
values-heads place (node ∷ nodes) = ap (λ (rest : List ℕ). place ∷ rest) (values-heads (place + 1) nodes)

-- the level above a row
abbrev pub level_of : List Entry → List (List Entry)
level_of row = even_parts (nodes_for 252 (length row)) row

abbrev pub upper_of : ℕ → ℕ → List Entry → List (List Entry)
upper_of k place row = levels_above k (place + length (level_of row)) (heads place (level_of row))

pub level_joined : (row : List Entry) → 1 ≤ length row → entries_of (level_of row) ≡ row
level_joined row some =
    let number : suc (nodes_for 252 (length row) - 1) ≡ nodes_for 252 (length row) = omega arith in
    rw number at (joined_spread (nodes_for 252 (length row) - 1) row)

-- the levels above one node, and above more
pub levels_one : (k place : ℕ) (row : List Entry) → length row ≤ 1 → levels_above k place row ≡ []
unfolding levels_above
levels_one zero place row few = refl
levels_one (suc k) place row few = rw (le-ltb 1 (length row) few) refl

pub levels_more : (k place : ℕ) (row : List Entry) → 1 < length row → levels_above (suc k) place row ≡ level_of row ++ upper_of k place row
unfolding levels_above
levels_more k place row many = rw (lt-ltb 1 (length row) many) refl

-- the root of a row, whose inner nodes stand from a place on in so many levels
abbrev pub root_of : ℕ → ℕ → List Entry → ℕ
root_of k place row = cond (nat_lt 1 (length row)) (place + length (levels_above k place row) - 1) (first_place row)

pub first_head : (place : ℕ) (nodes : List (List Entry)) → 1 ≤ length nodes → first_place (heads place nodes) ≡ place
unfolding heads
first_head place [] some = absurd (omega arith)
first_head place (node ∷ nodes) some = refl

-- it is the root of the level above
pub root_more : (k place : ℕ) (row : List Entry) → 1 < length row
    → root_of (suc k) place row ≡ root_of k (place + length (level_of row)) (heads place (level_of row))
root_more k place row many =
    let level = level_of row in
    let count = length level in
    let counted = length-spread (nodes_for 252 (length row)) row in
    let some : 1 ≤ count = omega arith in
    let size = length-heads place level in
    let whole = length-append level (upper_of k place row) in
    let here : root_of (suc k) place row ≡ place + (count + length (upper_of k place row)) - 1 =
    rw (lt-ltb 1 (length row) many, levels_more k place row many, whole) refl in
    elim (cases_lt 1 count) [
      | inl more ↦ here ∙ rw (size, lt-ltb 1 count more) (omega arith)
      | inr one ↦
          let none = levels_one k (place + count) (heads place level) (omega arith) in
          here ∙ rw (size, le-ltb 1 count one, first_head place level some, none) (omega arith)
    ]

-- what the inner nodes name, with the root
abbrev WithRoot : ℕ → ℕ → List Entry → Type 0
WithRoot k place row =
    values_of (entries_of (levels_above k place row)) ++ (root_of k place row ∷ []) ≡ values_of row ++ range_with_len place (length (levels_above k place row))

one_named : (row : List Entry) → length row ≡ 1 → first_place row ∷ [] ≡ values_of row ++ []
one_named [] one = absurd (omega arith)
one_named (e ∷ []) one = refl
one_named (e ∷ f ∷ row) one = absurd (omega arith)

no_inners : (k place : ℕ) (row : List Entry) → length row ≡ 1 → WithRoot k place row
no_inners k place row one =
    let few : length row ≤ 1 = omega arith in
    rw (levels_one k place row few, le-ltb 1 (length row) few) (one_named row one)

pub row_named : (k place : ℕ) (row : List Entry) → 1 ≤ length row → length row ≤ 252 ^ k → WithRoot k place row
row_named zero place row some few = no_inners zero place row (omega arith)
row_named (suc k) place row some few = elim (cases_lt 1 (length row)) [
  | inr single ↦ no_inners (suc k) place row (omega arith)
  | inl many ↦
      let level = level_of row in
      let count = length level in
      let counted = length-spread (nodes_for 252 (length row)) row in
      let next = heads place level in
      let size = length-heads place level in
      let upper = levels_above k (place + count) next in
      let root = root_of k (place + count) next in
      let whole : 252 ^ suc k ≡ 252 ^ k * 252 = omega arith in
      let above = row_named k (place + count) next (omega arith) (omega arith) in
      let split : values_of (entries_of (level ++ upper)) ≡ values_of row ++ values_of (entries_of upper) =
      ap values_of (flat_map-append (λ (node : List Entry). node) level upper)
      ∙ (map-append (λ (e : Entry). e.value) (entries_of level) (entries_of upper)
      ∙ ap (λ (front : List Entry). values_of front ++ values_of (entries_of upper)) (level_joined row some)) in
      let named : values_of (entries_of upper) ++ (root ∷ []) ≡ range_with_len place (count + length upper) =
      above ∙ (ap (λ (front : List ℕ). front ++ range_with_len (place + count) (length upper)) (values-heads place level) ∙ sym (range_split place count (length upper))) in
      rw (root_more k place row many, levels_more k place row many)
      (ap (λ (front : List ℕ). front ++ (root ∷ [])) split
      ∙ (append_assoc (values_of row) (values_of (entries_of upper)) (root ∷ [])
      ∙ ap (λ (back : List ℕ). values_of row ++ back) (named ∙ ap (range_with_len place) (sym (length-append level upper)))))
]
