-- What an item does to a builder of a tree.
use Rattle.std.proofs.Common.{◌≡◌, ◌⊎◌, inl, inr, ⊎_elim, ℕ, ◌+◌, ◌<◌, ◌≤◌, true, false, nat_eq, List, [], ◌∷◌, ◌++◌, length, refl, sym, ◌∙◌, ap, ap₂, subst, arith, length-append, Option, Some, None, Result, Ok, Err}
use Rattle.std.specs.Prelude.{sum, OnOk, OnErr, IfOk, max}
use Rattle.std.specs.List.{AllByRecursion}
use Rattle.std.proofs.lemmas.Bool.{cases_eq, eqb-true, eqb-false, ne_eqb}
use Rattle.std.proofs.lemmas.List.{append_assoc, append-nil, map-append, nil_from_length}
use Rattle.pd_kinds.specs.Node.{Entry, leaf_block, inner_block, max_entries, is_ascending}
use Rattle.pd_kinds.proofs.KindLemmas.{asc_left}
use Rattle.pd_kinds.specs.Trees.{keys_of}
use Rattle.pd_grammar.specs.Need.{need_above, need_tree, nodes_for, nodes_of_tree}
use Rattle.pd_laid.specs.Laid.{heads, blocks_from, first_key, even_parts, tree_leaves, tree_blocks, tree_root, levels_above, root_above}
use Rattle.pd_laid.proofs.NeedLemmas.{length-heads}
use Rattle.pd_laid.proofs.LaidLemmas.{blocks_from-append}
use Rattle.pd_laid.proofs.Rows.{levels_one}
use Rattle.pd_draft.specs.Closed.{DraftState}
use Rattle.pd_build.proofs.OrderLemmas.{ascending_more, below_more, below_higher}
use Rattle.pd_build.specs.Tree.{cut, LeavesLeft, items_to_come, leaves_to_come, leaf_ended, row_entry, LosesLeaf, TakesItem, TreeLeft, leaf_number, leaves_left, blocks_left, root_left, number_left, Grows, AreKeysInOrder}
use Rattle.pd_build.proofs.TakesLemmas.{parts_none, parts_some}
use Rattle.pd_build.proofs.UpperLemmas.{heads-append, root_one}
use Rattle.pd_build.proofs.RowLemmas.{moved_by}

-- a tree of these leaves below what stands above
abbrev all_blocks : ℕ → ℕ → List Entry → List (List Entry) → List (List ℕ)
all_blocks size place above leaves =
    blocks_from (leaf_block size) place leaves
    ++ blocks_from inner_block (place + length leaves) (levels_above 10 (place + length leaves) (above ++ heads place leaves))

module _ (place : ℕ) (above : List Entry) (first rest : List (List Entry)) where
  at_end : place + length (first ++ rest) ≡ (place + length first) + length rest
  at_end = let n = length-append first rest in omega arith

  all_heads : above ++ heads place (first ++ rest) ≡ (above ++ heads place first) ++ heads (place + length first) rest
  all_heads = ap (λ (hs : List Entry). above ++ hs) (heads-append place first rest) ∙ sym (append_assoc above (heads place first) (heads (place + length first) rest))

  all_split : (size : ℕ) → all_blocks size place above (first ++ rest)
      ≡ blocks_from (leaf_block size) place first ++ all_blocks size (place + length first) (above ++ heads place first) rest
  all_split size =
      ap₂ (λ (front back : List (List ℕ)). front ++ back) (blocks_from-append (leaf_block size) place first rest)
      (ap₂ (λ (p : ℕ) (hs : List Entry). blocks_from inner_block p (levels_above 10 p hs)) at_end all_heads)
      ∙ append_assoc (blocks_from (leaf_block size) place first) (blocks_from (leaf_block size) (place + length first) rest) _

  root_split : root_above (place + length (first ++ rest)) (above ++ heads place (first ++ rest))
      ≡ root_above ((place + length first) + length rest) ((above ++ heads place first) ++ heads (place + length first) rest)
  root_split = ap₂ root_above at_end all_heads

left_some : (t : TreeLeft) (items : List Entry) → 1 ≤ leaf_number t → leaves_left t items ≡ leaves_to_come t.leaves items
left_some t items some = let no : nat_eq (leaf_number t) 0 ≡ false = ne_eqb (leaf_number t) 0 (omega arith) in rw no refl

number_some : (t : TreeLeft) → 1 ≤ leaf_number t → number_left t ≡ length t.leaves.sizes + need_above 10 (leaf_number t)
unfolding number_left
number_some t some = let no : nat_eq (leaf_number t) 0 ≡ false = ne_eqb (leaf_number t) 0 (omega arith) in rw no refl

some_sizes : (sizes : List ℕ) → 1 ≤ sum sizes → 1 ≤ length sizes
some_sizes [] some = some
some_sizes (c ∷ sizes) some = omega arith

pub some_to_come : (t : TreeLeft) → 1 ≤ items_to_come t.leaves → 1 ≤ length t.leaves.sizes
some_to_come t more = some_sizes t.leaves.sizes (omega arith)

pub sizes_least : (t : TreeLeft) → 1 ≤ items_to_come t.leaves → length t.leaves.sizes ≤ number_left t
sizes_least t more = let some = some_to_come t more in omega (arith, number_some t (omega arith))

-- an item was taken
pub grow : {size : ℕ} {e : Entry} {head : Option (ℕ × ℕ)} {from to : DraftState} (old new : TreeLeft) → TakesItem size e head old.leaves new.leaves from to
    → new.heads ≡ old.heads ++ row_entry head → 1 ≤ items_to_come old.leaves → Grows size e old new from to
unfolding blocks_left root_left
grow {size} {e} {head} {from} {to} old new takes heads_are more =
    let first = leaf_ended old.leaves e head in
    let some : 1 ≤ length old.leaves.sizes = some_to_come old more in
    let above : new.heads ≡ old.heads ++ heads from.place first = heads_are ∙ ap (λ (hs : List Entry). old.heads ++ hs) (sym takes.heads_are) in
    let at : to.place ≡ from.place + length first = moved_by (leaf_block size) first takes.wrote in
    let count : length new.heads ≡ length old.heads + length first =
    ap length above ∙ (length-append old.heads (heads from.place first) ∙ ap (λ (n : ℕ). length old.heads + n) (length-heads from.place first)) in
    let number : leaf_number new ≡ leaf_number old = omega (arith, takes.leaves) in
    let left : (items : List Entry) → leaves_left old (e ∷ items) ≡ first ++ leaves_left new items =
    λ items. left_some old (e ∷ items) (omega arith) ∙ (takes.to_come items ∙ ap (λ (rest : List (List Entry)). first ++ rest) (sym (left_some new items (omega arith)))) in
    record {
      written = blocks_from (leaf_block size) from.place first;
      wrote = takes.wrote;
      blocks = λ items.
          ap (all_blocks size from.place old.heads) (left items)
          ∙ (all_split from.place old.heads first (leaves_left new items) size
          ∙ ap (λ (rest : List (List ℕ)). blocks_from (leaf_block size) from.place first ++ rest)
          (ap₂ (λ (p : ℕ) (hs : List Entry). all_blocks size p hs (leaves_left new items)) (sym at) (sym above)));
      root = λ items.
          ap (λ (ls : List (List Entry)). root_above (from.place + length ls) (old.heads ++ heads from.place ls)) (left items)
          ∙ (root_split from.place old.heads first (leaves_left new items)
          ∙ ap₂ (λ (p : ℕ) (hs : List Entry). root_above (p + length (leaves_left new items)) (hs ++ heads p (leaves_left new items))) (sym at) (sym above));
      items = takes.number;
      room =
          let same = ap (need_above 10) number in
          omega (arith, number_some old (omega arith), number_some new (omega arith), takes.leaves);
      raised = takes.raised;
    }

-- the order of the keys
below_front : (P : ℕ → Type 0) (xs ys : List ℕ) → AllByRecursion P (xs ++ ys) → AllByRecursion P xs
below_front P [] ys all = tt
below_front P (x ∷ xs) ys all = (all.0, below_front P xs ys all.1)

-- a key more at the end
order_more : (leaves new : LeavesLeft) (hs : List Entry) (e : Entry) → AreKeysInOrder leaves hs → leaves.low ≤ e.key
    → new.begun ≡ leaves.begun ++ e ∷ [] → new.low ≡ e.key + 1 → AreKeysInOrder new hs
order_more leaves new hs e order above begun low =
    let all : keys_of (hs ++ new.begun) ≡ keys_of (hs ++ leaves.begun) ++ e.key ∷ [] =
    ap (λ (b : List Entry). keys_of (hs ++ b)) begun
    ∙ (ap keys_of (sym (append_assoc hs leaves.begun (e ∷ []))) ∙ map-append (λ (e : Entry). e.key) (hs ++ leaves.begun) (e ∷ [])) in
    record {
      ascending = rw all (ascending_more (keys_of (hs ++ leaves.begun)) e.key order.ascending
          (below_higher leaves.low e.key (keys_of (hs ++ leaves.begun)) above order.below));
      below = rw (all, low) (below_more leaves.low e.key (keys_of (hs ++ leaves.begun)) above order.below);
    }

-- what is begun is left out
order_cut : (leaves new : LeavesLeft) (hs : List Entry) → AreKeysInOrder leaves hs → new.begun ≡ [] → leaves.low ≤ new.low → AreKeysInOrder new hs
order_cut leaves new hs order begun low =
    let all : keys_of (hs ++ new.begun) ≡ keys_of hs = ap (λ (b : List Entry). keys_of (hs ++ b)) begun ∙ ap keys_of (append-nil hs) in
    let whole : keys_of (hs ++ leaves.begun) ≡ keys_of hs ++ keys_of leaves.begun = map-append (λ (e : Entry). e.key) hs leaves.begun in
    record {
      ascending = rw all (asc_left (keys_of hs) (keys_of leaves.begun) (rw whole at order.ascending));
      below = rw all (below_higher leaves.low new.low (keys_of hs) low (below_front (λ k. k < leaves.low) (keys_of hs) (keys_of leaves.begun) (rw whole at order.below)));
    }

-- the first of what is begun becomes a head
order_head : (new : LeavesLeft) (hs part : List Entry) (key value low : ℕ) → 1 ≤ length part → key ≡ first_key part
    → is_ascending (keys_of (hs ++ part)) ≡ true → AllByRecursion (λ k. k < low) (keys_of (hs ++ part)) → new.begun ≡ [] → new.low ≡ low
    → AreKeysInOrder new (hs ++ record { key = key; value = value } ∷ [])
order_head new hs [] key value low some is asc below begun raised = absurd (omega arith)
order_head new hs (e ∷ part) key value low some is asc below begun raised =
    let row = hs ++ record { key = key; value = value } ∷ [] in
    let all : keys_of (row ++ new.begun) ≡ keys_of hs ++ e.key ∷ [] =
    ap (λ (b : List Entry). keys_of (row ++ b)) begun ∙ (ap keys_of (append-nil row)
    ∙ (map-append (λ (e : Entry). e.key) hs (record { key = key; value = value } ∷ []) ∙ ap (λ (k : ℕ). keys_of hs ++ k ∷ []) is)) in
    let whole : keys_of (hs ++ e ∷ part) ≡ (keys_of hs ++ e.key ∷ []) ++ keys_of part =
    map-append (λ (e : Entry). e.key) hs (e ∷ part) ∙ sym (append_assoc (keys_of hs) (e.key ∷ []) (keys_of part)) in
    record {
      ascending = rw all (asc_left (keys_of hs ++ e.key ∷ []) (keys_of part) (rw whole at asc));
      below = rw (all, raised) (below_front (λ k. k < low) (keys_of hs ++ e.key ∷ []) (keys_of part) (rw whole at below));
    }

first_head_is : (place key value : ℕ) (part : List Entry) → heads place (part ∷ []) ≡ record { key = key; value = value } ∷ [] → first_key part ≡ key
unfolding heads
first_head_is place key value part is = ap first_key is

pub order_takes : {size : ℕ} {e : Entry} (head : Option (ℕ × ℕ)) {old new : LeavesLeft} {from to : DraftState} (hs next : List Entry) → TakesItem size e head old new from to
    → AreKeysInOrder old hs → old.low ≤ e.key → (next ≡ hs ++ row_entry head) ⊎ (next ≡ hs) → AreKeysInOrder new next
order_takes {size} {e} None {old} {new} {from} {to} hs next takes order above added =
    let is : next ≡ hs = ⊎_elim (λ more. more ∙ append-nil hs) (λ same. same) added in
    rw is (order_more old new hs e order above takes.begun_is takes.raised)
order_takes {size} {e} (Some head) {old} {new} {from} {to} hs next takes order above added =
    ⊎_elim
    (λ more.
    let mid : LeavesLeft = record { sizes = []; begun = old.begun ++ e ∷ []; low = e.key + 1 } in
    let all = order_more old mid hs e order above refl refl in
    let count = length-append old.begun (e ∷ []) in
    rw more (order_head new hs (old.begun ++ e ∷ []) head.0 head.1 (e.key + 1) (omega arith)
    (sym (first_head_is from.place head.0 head.1 (old.begun ++ e ∷ []) takes.heads_are)) all.ascending all.below takes.begun_is takes.raised))
    (λ same. rw same (order_cut old new hs order takes.begun_is (omega (arith, takes.raised))))
    added

-- no item was put
pub order_start : (leaves : LeavesLeft) (hs : List Entry) → leaves.begun ≡ [] → hs ≡ [] → AreKeysInOrder leaves hs
unfolding is_ascending
order_start leaves hs begun none = record { ascending = rw (none, begun) refl; below = rw (none, begun) tt }

pub order_loses : (e : Entry) {old new : LeavesLeft} (hs : List Entry) → LosesLeaf old e new → AreKeysInOrder old hs → old.low ≤ e.key → AreKeysInOrder new hs
order_loses e {old} {new} hs loses order above =
    ⊎_elim
    (λ same. subst (λ (b : LeavesLeft). AreKeysInOrder b hs) (sym same) order)
    (λ lost. order_cut old new hs order lost.0 (omega (arith, lost.1)))
    loses

pub ok_or_not : {T E : Type 0} (r : Result T E) {P Q : Type 0} → OnOk r P → OnErr r Q → P ⊎ Q
ok_or_not (Ok t) ok err = inl ok
ok_or_not (Err e) ok err = inr err

pub on_ok : {T E : Type 0} (r : Result T E) {P Q : Type 0} → (P → Q) → OnOk r P → OnOk r Q
on_ok (Ok t) to ok = to ok
on_ok (Err e) to ok = tt

-- nothing was put
left_none : (t : TreeLeft) (items : List Entry) → leaf_number t ≡ 0 → leaves_left t items ≡ [] ∷ []
left_none t items none = rw none refl

one_leaf : (size place : ℕ) → all_blocks size place [] ([] ∷ []) ≡ leaf_block size place [] ∷ []
unfolding blocks_from
one_leaf size place =
    let few = length-heads place ([] ∷ []) in
    ap (λ (up : List (List Entry)). leaf_block size place [] ∷ blocks_from inner_block (place + 1) up) (levels_one 10 (place + 1) (heads place ([] ∷ [])) (omega arith))

one_root : (place q : ℕ) → root_above q (heads place ([] ∷ [])) ≡ place
unfolding heads
one_root place q = root_one q (heads place ([] ∷ [])) (let few = length-heads place ([] ∷ []) in omega arith)

pub empty_blocks : (size place : ℕ) (t : TreeLeft) → length t.heads ≡ 0 → t.leaves.sizes ≡ [] → blocks_left size place t [] ≡ leaf_block size place [] ∷ []
unfolding blocks_left
empty_blocks size place t none sizes =
    let number : leaf_number t ≡ 0 = (let s = ap length sizes in omega arith) in
    ap₂ (all_blocks size place) (nil_from_length t.heads none) (left_none t [] number) ∙ one_leaf size place

pub empty_root : (place : ℕ) (t : TreeLeft) → length t.heads ≡ 0 → t.leaves.sizes ≡ [] → root_left place t [] ≡ place
unfolding root_left
empty_root place t none sizes =
    let number : leaf_number t ≡ 0 = (let s = ap length sizes in omega arith) in
    ap₂ (λ (hs : List Entry) (ls : List (List Entry)). root_above (place + length ls) (hs ++ heads place ls)) (nil_from_length t.heads none) (left_none t [] number)
    ∙ one_root place (place + 1)

pub empty_number : (t : TreeLeft) → length t.heads ≡ 0 → t.leaves.sizes ≡ [] → number_left t ≡ 1
unfolding number_left
empty_number t none sizes =
    let number : leaf_number t ≡ 0 = (let s = ap length sizes in omega arith) in
    rw number refl

-- all leaves were written
none_left : (t : TreeLeft) → 1 ≤ length t.heads → t.leaves.sizes ≡ [] → leaves_left t [] ≡ []
unfolding cut
none_left t some sizes = left_some t [] (omega arith) ∙ ap (λ (s : List ℕ). cut s (t.leaves.begun ++ [])) sizes

pub done_blocks : (size place : ℕ) (t : TreeLeft) → 1 ≤ length t.heads → t.leaves.sizes ≡ []
    → blocks_left size place t [] ≡ blocks_from inner_block place (levels_above 10 place t.heads)
unfolding blocks_left blocks_from heads
done_blocks size place t some sizes =
    let at : place + 0 ≡ place = omega arith in
    ap (all_blocks size place t.heads) (none_left t some sizes)
    ∙ ap₂ (λ (p : ℕ) (hs : List Entry). blocks_from inner_block p (levels_above 10 p hs)) at (append-nil t.heads)

pub done_root : (place : ℕ) (t : TreeLeft) → 1 ≤ length t.heads → t.leaves.sizes ≡ [] → root_left place t [] ≡ root_above place t.heads
unfolding root_left heads
done_root place t some sizes =
    let at : place + 0 ≡ place = omega arith in
    ap (λ (ls : List (List Entry)). root_above (place + length ls) (t.heads ++ heads place ls)) (none_left t some sizes)
    ∙ ap₂ root_above at (append-nil t.heads)

pub done_number : (t : TreeLeft) → 1 ≤ length t.heads → t.leaves.sizes ≡ [] → number_left t ≡ need_above 10 (length t.heads)
done_number t some sizes =
    let nothing : length t.leaves.sizes ≡ 0 = ap length sizes in
    let number : leaf_number t ≡ length t.heads = omega arith in
    number_some t (omega arith) ∙ (let same = ap (need_above 10) number in omega arith)

-- before the first item
pub start_blocks : (size n place : ℕ) (leaves : LeavesLeft) (items : List Entry) → 1 ≤ max_entries size → length items ≡ n → length leaves.sizes ≡ nodes_for (max_entries size) n
    → (1 ≤ n → leaves_to_come leaves items ≡ tree_leaves size items)
    → leaves_left (record { leaves = leaves; heads = [] }) items ≡ tree_leaves size items
unfolding tree_leaves even_parts
start_blocks size n place leaves items room count number some = elim (cases_eq n 0) [
  | inl none ↦
      let nothing : items ≡ [] = nil_from_length items (omega arith) in
      let no_parts : nodes_for (max_entries size) 0 ≡ 0 = parts_none (max_entries size) room in
      let no_nodes : nodes_for (max_entries size) n ≡ 0 = ap (nodes_for (max_entries size)) none ∙ no_parts in
      let one : max 1 (nodes_for (max_entries size) (length items)) ≡ 1 = (let e = ap (nodes_for (max_entries size)) count in omega arith) in
      left_none (record { leaves = leaves; heads = [] }) items (omega arith)
      ∙ sym (ap (λ (k : ℕ). even_parts k items) one ∙ ap (λ (xs : List Entry). even_parts 1 xs) nothing)
  | inr more ↦
      let at = parts_some (max_entries size) n room (omega arith) in
      left_some (record { leaves = leaves; heads = [] }) items (omega arith) ∙ some (omega arith)
]

pub tree_is : (size place : ℕ) (items : List Entry) → all_blocks size place [] (tree_leaves size items) ≡ tree_blocks size place items
unfolding tree_blocks
tree_is size place items = refl

pub start_tree : (size place : ℕ) (leaves : LeavesLeft) (items : List Entry) → leaves_left (record { leaves = leaves; heads = [] }) items ≡ tree_leaves size items
    → blocks_left size place (record { leaves = leaves; heads = [] }) items ≡ tree_blocks size place items
unfolding blocks_left
start_tree size place leaves items is = ap (all_blocks size place []) is ∙ tree_is size place items

pub start_root : (size place : ℕ) (leaves : LeavesLeft) (items : List Entry) → leaves_left (record { leaves = leaves; heads = [] }) items ≡ tree_leaves size items
    → root_left place (record { leaves = leaves; heads = [] }) items ≡ tree_root size place items
unfolding root_left
start_root size place leaves items is = ap (λ (ls : List (List Entry)). root_above (place + length ls) (heads place ls)) is

pub start_number : (size n : ℕ) (leaves : LeavesLeft) → 1 ≤ max_entries size → length leaves.sizes ≡ nodes_for (max_entries size) n
    → number_left (record { leaves = leaves; heads = [] }) ≡ need_tree size n
unfolding number_left nodes_of_tree need_above
start_number size n leaves room number = elim (cases_eq n 0) [
  | inl none ↦
      let no_nodes : nodes_for (max_entries size) n ≡ 0 = ap (nodes_for (max_entries size)) none ∙ parts_none (max_entries size) room in
      let zero : length leaves.sizes ≡ 0 = number ∙ no_nodes in
      rw (zero, no_nodes) refl
  | inr more ↦
      let at = parts_some (max_entries size) n room (omega arith) in
      let k = nodes_for (max_entries size) n in
      let most : max 1 k ≡ k = omega arith in
      let sum : 0 + length leaves.sizes ≡ k = omega arith in
      let no : nat_eq k 0 ≡ false = ne_eqb k 0 (omega arith) in
      rw (sum, number, most, no) refl
]

pub on_ok_value : {T E : Type 0} (r : Result T E) {P Q : T → Type 0} → ((t : T) → P t → Q t) → IfOk r P → IfOk r Q
on_ok_value (Ok t) to ok = to t ok
on_ok_value (Err e) to ok = tt

pub none_is : (n : ℕ) → nat_eq n 0 ≡ true → n ≡ 0
none_is n is = eqb-true n 0 is

pub some_is : (n : ℕ) → nat_eq n 0 ≡ false → 1 ≤ n
some_is n is = let no = eqb-false n 0 is in omega arith
