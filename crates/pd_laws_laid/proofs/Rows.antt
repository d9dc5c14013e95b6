-- The inner nodes above a row, as they are made: what their entries are like, and what they name.
use Rattle.std.proofs.Common.{◌≡◌, inl, inr, ℕ, zero, suc, ◌+◌, ◌-◌, ◌*◌, ◌^◌, ◌<◌, ◌≤◌, true, List, [], ◌∷◌, ◌++◌, length, map, refl, ◌∙◌, ap, arith}
use Rattle.std.specs.List.{AllByRecursion, flat_map}
use Rattle.std.proofs.lemmas.Bool.{cases_lt}
use Rattle.std.proofs.lemmas.List.{length-append}
use Rattle.std.proofs.lemmas.Grind.{flat_map-append}
use Rattle.pd_kinds.specs.Node.{Entry, is_ascending}
use Rattle.pd_kinds.specs.Trees.{keys_of}
use Rattle.pd_kinds.proofs.KindLemmas.{values_of}
use Rattle.pd_kinds.proofs.KindsListLemmas.{all_first, all_last}
use Rattle.pd_kinds.proofs.ListLemmas.{all_from}
use Rattle.pd_grammar.specs.Need.{nodes_for}
use Rattle.pd_laid.specs.Laid.{first_key, heads, levels_above}
use Rattle.pd_laid.proofs.NeedLemmas.{length-heads}
use Rattle.pd_laid.proofs.Rows.{level_of, levels_more, levels_one, upper_of}
use Rattle.pd_laid.proofs.LaidLemmas.{length-spread, joined_spread, spread_some, spread_most}
use Rattle.pd_laws_laid.specs.LaidOut.{AllFrom}
use Rattle.pd_laws_laid.proofs.ListLemmas.{from_both}
use Rattle.pd_laws_laid.proofs.Ascending.{firsts_ascend, firsts_keep, parts_ascend}

pub all_parts : {X : Type 0} → (P : X → Type 0) (xss : List (List X)) → AllByRecursion P (flat_map (λ (xs : List X). xs) xss) → AllByRecursion (AllByRecursion P) xss
all_parts P [] all = tt
all_parts P (xs ∷ xss) all = (all_first P xs _ all, all_parts P xss (all_last P xs _ all))

pub flat_joined : {X Y : Type 0} → (f : X → List Y) (xss : List (List X)) → flat_map f (flat_map (λ (xs : List X). xs) xss) ≡ flat_map (flat_map f) xss
flat_joined f [] = refl
flat_joined {X} {Y} f (xs ∷ xss) =
    flat_map-append f xs (flat_map (λ (xs : List X). xs) xss) ∙ ap (λ (rest : List Y). flat_map f xs ++ rest) (flat_joined f xss)

-- what the level above says of some nodes
pub keys-heads : (place : ℕ) (nodes : List (List Entry)) → keys_of (heads place nodes) ≡ map first_key nodes
unfolding heads
keys-heads place [] = refl
keys-heads place (node ∷ nodes) = ap (λ (rest : List ℕ). first_key node ∷ rest) (keys-heads (place + 1) nodes)

pub heads_inside : (place top : ℕ) (nodes : List (List Entry)) → 1 ≤ place → place + length nodes ≤ top
    → AllByRecursion (λ (e : Entry). (1 ≤ e.value) × (e.value < top)) (heads place nodes)
unfolding heads
heads_inside place top [] from within = tt
heads_inside place top (node ∷ nodes) from within = ((from, omega arith), heads_inside (place + 1) top nodes (omega arith) (omega arith))

-- a fact on each key of a row, told of the entries
pub by_keys : (P : ℕ → Type 0) (row : List Entry) → AllByRecursion P (keys_of row) → AllByRecursion (λ (e : Entry). P e.key) row
by_keys P [] all = tt
by_keys P (e ∷ row) all = (all.0, by_keys P row all.1)

pub by_values : (P : ℕ → Type 0) (row : List Entry) → AllByRecursion P (values_of row) → AllByRecursion (λ (e : Entry). P e.value) row
by_values P [] all = tt
by_values P (e ∷ row) all = (all.0, by_values P row all.1)

-- the nodes of a level of more than one node, and those of the level above
pub record IsLevelNumber (k n u : ℕ) : Type 0 where
  pub some : 1 ≤ u
  pub fewer : u ≤ n
  pub enough : n ≤ u * 252
  pub small : n ≤ 252 ^ suc k → u ≤ 252 ^ k

level_number : (k n : ℕ) → 1 ≤ n → IsLevelNumber k n (nodes_for 252 n)
level_number k n some = record {
  some = omega arith;
  fewer = omega arith;
  enough = omega arith;
  small = λ few. let e : 252 ^ suc k ≡ 252 ^ k * 252 = omega arith in omega arith;
}

-- a level spread over the nodes above
pub record IsSpread (k n : ℕ) (row : List Entry) (level : List (List Entry)) : Type 0 where
  pub joined_is : flat_map (λ (g : List Entry). g) level ≡ row
  pub some : AllByRecursion (λ (g : List Entry). 1 ≤ length g) level
  pub most : AllByRecursion (λ (g : List Entry). length g ≤ 252) level
  pub number : IsLevelNumber k n (length level)

pub level_spread : (k : ℕ) (row : List Entry) → 1 ≤ length row → IsSpread k (length row) row (level_of row)
level_spread k row some =
    let n = length row in
    let number = level_number k n some in
    let u = nodes_for 252 n in
    let e : suc (u - 1) ≡ u = omega (arith, number.some) in
    let size = length-spread u row in
    record {
      joined_is = rw e at (joined_spread (u - 1) row);
      some = spread_some u row (omega (arith, number.fewer));
      most = spread_most 252 u row (omega (arith, number.enough));
      number = rw size number;
    }

-- what the entries of an inner node in a place are like
pub record IsInnerNode (q : ℕ) (entries : List Entry) : Type 0 where
  pub some : 1 ≤ length entries
  pub most : length entries ≤ 252
  pub ascending : is_ascending (keys_of entries) ≡ true
  pub keys_fit : AllByRecursion (λ (e : Entry). e.key < 2 ^ 64) entries
  pub inside : AllByRecursion (λ (e : Entry). (1 ≤ e.value) × (e.value < q)) entries

-- the nodes of a level, from what holds of each
inner_nodes : (first q : ℕ) (groups : List (List Entry)) → first ≤ q
    → AllByRecursion (λ (g : List Entry). 1 ≤ length g) groups → AllByRecursion (λ (g : List Entry). length g ≤ 252) groups
    → AllByRecursion (λ (g : List Entry). is_ascending (keys_of g) ≡ true) groups
    → AllByRecursion (AllByRecursion (λ (e : Entry). e.key < 2 ^ 64)) groups
    → AllByRecursion (AllByRecursion (λ (e : Entry). (1 ≤ e.value) × (e.value < first))) groups
    → AllFrom IsInnerNode q groups
inner_nodes first q [] from some most asc fit before = tt
inner_nodes first q (g ∷ groups) from some most asc fit before = (
  record {
    some = some.0;
    most = most.0;
    ascending = asc.0;
    keys_fit = fit.0;
    inside = all_from (λ (e : Entry). (1 ≤ e.value) × (e.value < first)) (λ (e : Entry). (1 ≤ e.value) × (e.value < q)) (λ e is. (is.0, omega arith)) g before.0;
  },
  inner_nodes first (q + 1) groups (omega arith) some.1 most.1 asc.1 fit.1 before.1,
)

-- the inner nodes above a row
pub inners_are : (k place : ℕ) (row : List Entry) → length row ≤ 252 ^ k
    → is_ascending (keys_of row) ≡ true → AllByRecursion (λ (e : Entry). e.key < 2 ^ 64) row → AllByRecursion (λ (e : Entry). (1 ≤ e.value) × (e.value < place)) row
    → 1 ≤ place → AllFrom IsInnerNode place (levels_above k place row)
inners_are zero place row few asc fit inside from = rw (levels_one zero place row (omega arith)) tt
inners_are (suc k) place row few asc fit inside from = elim (cases_lt 1 (length row)) [
  | inr single ↦ rw (levels_one (suc k) place row single) tt
  | inl many ↦
      let level = level_of row in
      let count = length level in
      let is = level_spread k row (omega arith) in
      let whole = is.joined_is in
      let asc_parts : is_ascending (keys_of (flat_map (λ (g : List Entry). g) level)) ≡ true = rw whole asc in
      let fit_parts : AllByRecursion (λ (e : Entry). e.key < 2 ^ 64) (flat_map (λ (g : List Entry). g) level) = rw whole fit in
      let before : AllByRecursion (λ (e : Entry). (1 ≤ e.value) × (e.value < place)) (flat_map (λ (g : List Entry). g) level) = rw whole inside in
      let next = heads place level in
      let size = length-heads place level in
      let keys = keys-heads place level in
      let next_asc : is_ascending (keys_of next) ≡ true = rw keys (firsts_ascend level is.some asc_parts) in
      let next_fit : AllByRecursion (λ (e : Entry). e.key < 2 ^ 64) next = by_keys (λ key. key < 2 ^ 64) next (rw keys (firsts_keep (λ key. key < 2 ^ 64) level is.some fit_parts)) in
      rw (levels_more k place row many)
      (from_both IsInnerNode place level (levels_above k (place + count) next)
      (inner_nodes place place level (omega arith) is.some is.most (parts_ascend level asc_parts)
      (all_parts (λ (e : Entry). e.key < 2 ^ 64) level fit_parts) (all_parts (λ (e : Entry). (1 ≤ e.value) × (e.value < place)) level before))
      (inners_are k (place + count) next (rw size (is.number.small few)) next_asc next_fit (heads_inside place (place + count) level from (omega arith)) (omega arith)))
]

-- a row has at most 252 entries for each inner node above it
pub row_few : (k place : ℕ) (row : List Entry) → length row ≤ 1 + 252 * length (levels_above (suc k) place row)
row_few k place row = elim (cases_lt 1 (length row)) [
  | inr single ↦ omega arith
  | inl many ↦
      let is = level_spread k row (omega arith) in
      let split = ap length (levels_more k place row many) ∙ length-append (level_of row) (upper_of k place row) in
      omega (arith, is.number.enough)
]
