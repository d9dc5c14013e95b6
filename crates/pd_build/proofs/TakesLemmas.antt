-- What an item does to a builder of leaves.
use Rattle.std.proofs.Common.{◌≡◌, inl, inr, ℕ, suc, ◌+◌, ◌-◌, ◌*◌, ◌/◌, ◌<◌, ◌≤◌, refl, ◌∙◌, ap, arith, add-one, List, [], ◌∷◌, ◌++◌, length, map, sym, ap₂, Some, None, length-append}
use Rattle.std.proofs.Math.Nat.{add-div_right, div-le_self, lt-div-mul-add, mul-le-mul_right, suc-mul, mul_comm, div-eq_of_lt}
use Rattle.std.proofs.lemmas.Bool.{cases_lt, cases_eq, ne_eqb}
use Rattle.std.specs.Prelude.{sum, max, nat_eq}
use Rattle.std.proofs.lemmas.List.{append_assoc}
use Rattle.pd_kinds.specs.Node.{Entry, leaf_block, max_entries}
use Rattle.pd_grammar.specs.Need.{nodes_for}
use Rattle.pd_laid.proofs.LaidLemmas.{IsFirstOf, first_of}
use Rattle.pd_laid.specs.Laid.{heads, blocks_from, first_key, tree_leaves, even_parts}
use Rattle.pd_node.specs.Items.{entries_of, keys_of}
use Rattle.pd_draft.specs.Closed.{IsClosed, DraftState, Wrote}
use Rattle.pd_draft.proofs.DraftLemmas.{wrote_none}
use Rattle.pd_build.specs.Tree.{AreCounts, even_sizes, cut, LeavesLeft, items_to_come, leaves_to_come, size_of_first, TakesItem}
use Rattle.pd_build.proofs.PartLemmas.{length-even, sum-any, cut_full, first_size, spread_is_cut}

-- The numbers of a builder of leaves.

pub parts_none : (most : ℕ) → 1 ≤ most → nodes_for most 0 ≡ 0
parts_none most some = div-eq_of_lt (omega arith)

pub parts_some : (most n : ℕ) → 1 ≤ most → 1 ≤ n → nodes_for most n ≡ (n - 1) / most + 1
parts_some most n some more =
    let e : n + (most - 1) ≡ (n - 1) + most = omega arith in
    rw e (add-div_right (n - 1) (omega arith))

pub counts_start : (most n : ℕ) → 1 ≤ most → 1 ≤ n → AreCounts most (nodes_for most n) n (nodes_for (nodes_for most n) n) 0
counts_start most n some more =
    let k = nodes_for most n in
    let is : k ≡ (n - 1) / most + 1 = parts_some most n some more in
    let small : (n - 1) / most ≤ n - 1 = div-le_self (n - 1) most in
    let large : n - 1 < (n - 1) / most * most + most = lt-div-mul-add (omega arith) in
    let whole : suc ((n - 1) / most) * most ≡ (n - 1) / most * most + most = suc-mul ((n - 1) / most) most in
    let size : nodes_for k n ≡ (n - 1) / k + 1 = parts_some k n (omega arith) more in
    record {
      some = omega arith;
      few = rw (is, add-one) (omega arith);
      none = λ zero. refl;
      sized = λ one. refl;
      begun_less = λ one. omega arith;
    }

pub counts_next : {most leaves items size begun : ℕ} → AreCounts most leaves items size begun → 1 ≤ leaves → begun + 1 < size
    → AreCounts most leaves items size (begun + 1)
counts_next c one less = record {
  some = c.some;
  few = c.few;
  none = λ zero. absurd (omega arith);
  sized = c.sized;
  begun_less = λ one. less;
}

-- in terms of the number that is left
pub nodes_at : (leaves k n : ℕ) → leaves ≡ suc k → nodes_for leaves n ≡ (n + k) / suc k
nodes_at leaves k n is =
    let e : suc k - 1 ≡ k = omega arith in
    ap (λ (m : ℕ). nodes_for m n) is ∙ ap (λ (j : ℕ). (n + j) / suc k) e

-- the size of the first leaf
pub record IsEndOf (most leaves items size : ℕ) : Type 0 where
  pub within : size ≤ items
  pub room : size ≤ most
  pub some : leaves - 1 ≤ items - size
  pub few : items - size ≤ (leaves - 1) * most

pub end_of : {most leaves items size begun : ℕ} → AreCounts most leaves items size begun → 1 ≤ leaves → IsEndOf most leaves items size
end_of {most} {leaves} {items} {size} {begun} c one =
    let k = leaves - 1 in
    let is : leaves ≡ suc k = omega arith in
    let sized : size ≡ (items + k) / suc k = c.sized one ∙ nodes_at leaves k items is in
    let first : IsFirstOf items k size = rw sized (first_of items k) in
    let most_is : suc k * most ≡ k * most + most = suc-mul k most in
    let few : items ≤ suc k * most = rw is at c.few in
    let swap : most * k ≡ k * most = mul_comm most k in
    let small : size ≤ most = elim (cases_lt most size) [
      | inl more ↦
          let scaled : suc most * k ≤ size * k = mul-le-mul_right k more in
          let split : suc most * k ≡ most * k + k = suc-mul most k in
          absurd (omega (arith, first.few))
      | inr small ↦ small
    ] in
    let scaled : size * k ≤ most * k = mul-le-mul_right k small in
    let one_more : 1 ≤ size = omega (arith, c.begun_less one) in
    record {
      within = first.within;
      room = small;
      some = elim (cases_eq size 1) [
        | inl one_only ↦ omega (arith, c.some)
        | inr more ↦ let twice : 2 * k ≤ size * k = mul-le-mul_right k (omega arith) in omega (arith, first.few)
      ];
      few = omega (arith, first.enough);
    }

pub counts_end : {most leaves items size begun : ℕ} → AreCounts most leaves items size begun → 1 ≤ leaves → (next : ℕ)
    → (1 ≤ leaves - 1 → next ≡ nodes_for (leaves - 1) (items - size)) → AreCounts most (leaves - 1) (items - size) next 0
counts_end {most} {leaves} {items} {size} c one next is =
    let e = end_of c one in
    record {
      some = e.some;
      few = e.few;
      none = λ zero. refl;
      sized = is;
      begun_less = λ more.
          let sized : nodes_for (leaves - 1) (items - size) ≡ (items - size - 1) / (leaves - 1) + 1 = parts_some (leaves - 1) (items - size) more (omega (arith, e.some)) in
          omega (arith, is more);
    }

-- the item ends no leaf
pub takes_none : (size : ℕ) (e : Entry) (old new : LeavesLeft) (draft_state : DraftState) → IsClosed draft_state.device
    → new.sizes ≡ old.sizes → new.begun ≡ old.begun ++ e ∷ [] → new.low ≡ e.key + 1 → 1 ≤ items_to_come old
    → length old.begun + 1 < size_of_first old.sizes → TakesItem size e None old new draft_state draft_state
unfolding blocks_from heads
takes_none size e old new draft_state closed sizes begun low more ends =
    let one = length-append old.begun (e ∷ []) in
    let count : length new.begun ≡ length old.begun + 1 = ap length begun ∙ one in
    let whole : sum new.sizes ≡ sum old.sizes = ap sum sizes in
    record {
      ends = ends;
      to_come = λ items. ap (λ (all : List Entry). cut old.sizes all) (sym (append_assoc old.begun (e ∷ []) items))
          ∙ sym (ap₂ (λ (s : List ℕ) (b : List Entry). cut s (b ++ items)) sizes begun);
      wrote = wrote_none draft_state closed;
      heads_are = refl;
      number = omega arith;
      leaves = let same = ap length sizes in omega arith;
      raised = low;
      begun_is = begun;
    }

-- the sizes of the first leaf and of the others
first_even : {most leaves items first begun : ℕ} → AreCounts most leaves items first begun → 1 ≤ leaves
    → even_sizes leaves items ≡ first ∷ even_sizes (leaves - 1) (items - first)
first_even {most} {leaves} {items} {first} {begun} c one =
    let k = leaves - 1 in
    let is : leaves ≡ suc k = omega arith in
    let sized : (items + k) / suc k ≡ first = sym (c.sized one ∙ nodes_at leaves k items is) in
    ap (λ (m : ℕ). even_sizes m items) is ∙ (first_size k items ∙ ap (λ (c : ℕ). c ∷ even_sizes k (items - c)) sized)

-- the first size
pub first_is : {most leaves items first begun : ℕ} → AreCounts most leaves items first begun → 1 ≤ leaves → size_of_first (even_sizes leaves items) ≡ first
first_is c one = ap size_of_first (first_even c one)

-- the item ends a leaf
pub takes_one : {most leaves items first begun : ℕ} (size : ℕ) (e : Entry) (head : ℕ × ℕ) (old new : LeavesLeft) (from to : DraftState)
    → AreCounts most leaves items first begun → 1 ≤ leaves
    → old.sizes ≡ even_sizes leaves items → length old.begun ≡ begun → begun + 1 ≡ first
    → new.sizes ≡ even_sizes (leaves - 1) (items - first) → new.begun ≡ [] → new.low ≡ e.key + 1
    → Wrote (leaf_block size from.place (old.begun ++ e ∷ []) ∷ []) from to
    → head.0 ≡ first_key (old.begun ++ e ∷ []) → head.1 ≡ from.place
    → TakesItem size e (Some head) old new from to
unfolding blocks_from heads
takes_one {most} {leaves} {items} {first} {begun} size e head old new from to c one old_sizes count ends new_sizes none low wrote key place =
    let k = leaves - 1 in
    let end : IsEndOf most leaves items first = end_of c one in
    let split = first_even c one in
    let part = old.begun ++ e ∷ [] in
    let full : length part ≡ first = length-append old.begun (e ∷ []) ∙ (ap (λ (n : ℕ). n + 1) count ∙ ends) in
    let old_sum : sum old.sizes ≡ items = ap sum old_sizes ∙ sum-any leaves items (λ zero. absurd (omega arith)) in
    let new_sum : sum new.sizes ≡ items - first = ap sum new_sizes ∙ sum-any k (items - first) (λ zero. let z : k * most ≡ 0 * most = ap (λ (m : ℕ). m * most) zero in omega (arith, end.few)) in
    let nothing : length new.begun ≡ 0 = ap length none in
    record {
      ends = ap (λ (n : ℕ). n + 1) count ∙ (ends ∙ sym (ap size_of_first (old_sizes ∙ split)));
      to_come = λ later.
          ap₂ (λ (s : List ℕ) (all : List Entry). cut s all) (old_sizes ∙ split) (sym (append_assoc old.begun (e ∷ []) later))
          ∙ (cut_full first (even_sizes k (items - first)) part later full
          ∙ ap (λ (rest : List (List Entry)). part ∷ rest)
          (sym (ap₂ (λ (s : List ℕ) (b : List Entry). cut s (b ++ later)) new_sizes none)));
      wrote = wrote;
      heads_are = ap₂ (λ (k p : ℕ). record { key = k; value = p } ∷ []) (sym key) (sym place);
      number = omega (arith, end.within);
      leaves = ap (λ (n : ℕ). 1 + n) (ap length new_sizes ∙ length-even k (items - first))
          ∙ (omega (arith, ap length old_sizes, length-even leaves items));
      raised = low;
      begun_is = none;
    }

-- before the first item
pub start_items : (leaves n : ℕ) (b : LeavesLeft) → (leaves ≡ 0 → n ≡ 0) → b.sizes ≡ even_sizes leaves n → b.begun ≡ [] → items_to_come b ≡ n
start_items leaves n b some sizes none =
    let whole : sum b.sizes ≡ n = ap sum sizes ∙ sum-any leaves n some in
    let nothing : length b.begun ≡ 0 = ap length none in
    omega arith

pub start_leaves : (size leaves : ℕ) (b : LeavesLeft) (items : List Entry) → leaves ≡ nodes_for (max_entries size) (length items) → 1 ≤ leaves
    → b.sizes ≡ even_sizes leaves (length items) → b.begun ≡ [] → leaves_to_come b items ≡ tree_leaves size items
unfolding tree_leaves
start_leaves size leaves b items number some sizes none =
    let least : leaves ≡ max 1 (nodes_for (max_entries size) (length items)) = omega arith in
    ap₂ (λ (s : List ℕ) (begun : List Entry). cut s (begun ++ items)) sizes none
    ∙ (sym (spread_is_cut leaves items) ∙ ap (λ (k : ℕ). even_parts k items) least)

-- no leaves for no items
pub none_then : {leaves : ℕ} (most n : ℕ) → 1 ≤ most → leaves ≡ nodes_for most n → leaves ≡ 0 → n ≡ 0
none_then most n some is none = elim (cases_eq n 0) [
  | inl nothing ↦ nothing
  | inr more ↦ let at : nodes_for most n ≡ (n - 1) / most + 1 = parts_some most n some (omega arith) in absurd (omega arith)
]

pub started : {leaves size begun : ℕ} (most n : ℕ) → 1 ≤ most → leaves ≡ nodes_for most n → (1 ≤ leaves → size ≡ nodes_for leaves n) → begun ≡ 0
    → AreCounts most leaves n size begun
started {leaves} {size} {begun} most n some leaves_are size_is none = elim (cases_eq n 0) [
  | inl nothing ↦
      let zero : leaves ≡ 0 = leaves_are ∙ (ap (nodes_for most) nothing ∙ parts_none most some) in
      record {
        some = omega arith;
        few = omega arith;
        none = λ z. none;
        sized = size_is;
        begun_less = λ one. absurd (omega arith);
      }
  | inr more ↦
      let at : nodes_for most n ≡ (n - 1) / most + 1 = parts_some most n some (omega arith) in
      let sized = size_is (omega arith) in
      rw (sized, none, leaves_are) (counts_start most n some (omega arith))
]

pub some_left : (leaves items : ℕ) (b : LeavesLeft) → b.sizes ≡ even_sizes leaves items → 1 ≤ items_to_come b → 1 ≤ leaves
unfolding even_sizes
some_left leaves items b sizes more = elim (cases_eq leaves 0) [
  | inl none ↦
      let nothing : sum b.sizes ≡ 0 = ap sum sizes ∙ ap (λ (k : ℕ). sum (even_sizes k items)) none in
      absurd (omega arith)
  | inr some ↦ omega arith
]

-- all items were put just where no leaf is left
pub done_is : {most leaves items size begun : ℕ} → AreCounts most leaves items size begun → sum (even_sizes leaves items) - begun ≡ 0 → leaves ≡ 0
done_is {most} {leaves} {items} {size} {begun} c none = elim (cases_eq leaves 0) [
  | inl zero ↦ zero
  | inr some ↦
      let whole = sum-any leaves items (λ zero. absurd (some zero)) in
      let end = end_of c (omega arith) in
      let less = c.begun_less (omega arith) in
      absurd (omega (arith, end.within))
]

pub sizes_done : {most leaves items size begun : ℕ} → AreCounts most leaves items size begun → sum (even_sizes leaves items) - begun ≡ 0 → even_sizes leaves items ≡ []
unfolding even_sizes
sizes_done {most} {leaves} {items} {size} {begun} c none = let zero = done_is c none in rw zero refl

-- the test that code makes
pub done_test : {most leaves items size begun : ℕ} → AreCounts most leaves items size begun → nat_eq leaves 0 ≡ nat_eq (sum (even_sizes leaves items) - begun) 0
done_test {most} {leaves} {items} {size} {begun} c = elim (cases_eq leaves 0) [
  | inl zero ↦
      let nothing : items ≡ 0 = (let p : leaves * most ≡ 0 * most = ap (λ (k : ℕ). k * most) zero in omega (arith, c.few)) in
      let whole = sum-any leaves items (λ z. nothing) in
      let left : sum (even_sizes leaves items) - begun ≡ 0 = omega arith in
      rw (left, zero) refl
  | inr some ↦
      let left : sum (even_sizes leaves items) - begun ≡ 0 → ⊥ = λ none. some (done_is c none) in
      ne_eqb leaves 0 some ∙ sym (ne_eqb (sum (even_sizes leaves items) - begun) 0 left)
]

pub keys-entries : {X : Type 0} → (code : X → ℕ) (items : List (ℕ × X)) → map (λ (e : Entry). e.key) (entries_of code items) ≡ keys_of items
keys-entries code [] = refl
keys-entries code (item ∷ items) = ap (λ (rest : List ℕ). item.0 ∷ rest) (keys-entries code items)
