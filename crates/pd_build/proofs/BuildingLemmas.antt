-- A tree, item by item.
use Rattle.std.proofs.Common.{◌≡◌, ℕ, suc, ◌+◌, ◌<◌, true, nat_lt, List, [], ◌∷◌, ◌++◌, length, drop, get_or, sym, ◌∙◌, ap, subst, arith, drop-cons, add-one}
use Rattle.std.proofs.lemmas.Bool.{and_parts, ltb-true}
use Rattle.std.proofs.lemmas.List.{append_assoc}
use Rattle.std.specs.List.{drop-map}
use Rattle.std.specs.Prelude.{Result, Ok, Err, IfOk}
use Rattle.pd_kinds.specs.Node.{Entry, is_ascending}
use Rattle.pd_kinds.proofs.KindLemmas.{asc_tail}
use Rattle.pd_kinds.specs.Trees.{keys_of}
use Rattle.pd_grammar.specs.Need.{need_tree}
use Rattle.pd_laid.specs.Laid.{tree_blocks, tree_root}
use Rattle.pd_node.specs.Items.{entries_of}
use Rattle.pd_draft.specs.Closed.{IsClosed, DraftState, Wrote}
use Rattle.pd_draft.proofs.DraftLemmas.{wrote_none, wrote_then}
use Rattle.pd_build.specs.Tree.{items_to_come, TreeLeft, blocks_left, root_left, number_left, Grows}
use Rattle.pd_build.specs.Building.{StartsAt, IsBuilding}

starts_at_none : (low : ℕ) (items : List Entry) → low ≡ 0 → StartsAt low items
starts_at_none low [] none = tt
starts_at_none low (e ∷ items) none = omega arith

starts_next : (e : Entry) (items : List Entry) (low : ℕ) → is_ascending (keys_of (e ∷ items)) ≡ true → low ≡ e.key + 1 → StartsAt low items
unfolding is_ascending
starts_next e [] low asc is = tt
starts_next e (f ∷ items) low asc is =
    let less : e.key < f.key = ltb-true e.key f.key (and_parts (nat_lt e.key f.key) _ asc).0 in omega arith

pub building_start : {size : ℕ} {draft_state : DraftState} (all : List Entry) (t : TreeLeft) → IsClosed draft_state.device
    → blocks_left size draft_state.place t all ≡ tree_blocks size draft_state.place all
    → root_left draft_state.place t all ≡ tree_root size draft_state.place all
    → items_to_come t.leaves ≡ length all → number_left t ≡ need_tree size (length all) → t.leaves.low ≡ 0 → is_ascending (keys_of all) ≡ true
    → IsBuilding size all all t draft_state draft_state
building_start {size} {draft_state} all t closed blocks root number room low asc = record {
  done = [];
  wrote = wrote_none draft_state closed;
  whole = sym blocks;
  root = root;
  number = number;
  room = ap (λ (n : ℕ). draft_state.place + n) room;
  ascending = asc;
  above = starts_at_none t.leaves.low all low;
}

pub building_next : {size : ℕ} {all items : List Entry} {e : Entry} {old new : TreeLeft} {from mid to : DraftState} → IsBuilding size all (e ∷ items) old from mid
    → Grows size e old new mid to → IsBuilding size all items new from to
building_next {size} {all} {items} {e} {old} {new} {from} {mid} {to} b g = record {
  done = b.done ++ g.written;
  wrote = wrote_then b.wrote g.wrote;
  whole = b.whole ∙ (ap (λ (rest : List (List ℕ)). b.done ++ rest) (g.blocks items) ∙ sym (append_assoc b.done g.written (blocks_left size to.place new items)));
  root = sym (g.root items) ∙ b.root;
  number = omega (arith, b.number, g.items);
  room = g.room ∙ b.room;
  ascending = asc_tail e.key (keys_of items) b.ascending;
  above = starts_next e items new.leaves.low b.ascending g.raised;
}

-- at an index
pub building_at : {size : ℕ} {all : List Entry} {t : TreeLeft} {from to : DraftState} (i : ℕ) (e : Entry) → IsBuilding size all (drop i all) t from to → i < length all
    → get_or all i e ≡ e → IsBuilding size all (e ∷ drop (i + 1) all) t from to
building_at {size} {all} {t} {from} {to} i e b within is =
    subst (λ (rest : List Entry). IsBuilding size all rest t from to)
    (drop-cons all i e within ∙ (ap (λ (first : Entry). first ∷ drop (suc i) all) is ∙ ap (λ (n : ℕ). e ∷ drop n all) (sym (add-one i)))) b

pub building_end : {size : ℕ} {all : List Entry} {t : TreeLeft} {from mid to : DraftState} → IsBuilding size all [] t from mid
    → Wrote (blocks_left size mid.place t []) mid to → Wrote (tree_blocks size from.place all) from to
building_end {size} {all} {t} {from} {mid} {to} b wrote =
    subst (λ (blocks : List (List ℕ)). Wrote blocks from to) (sym b.whole) (wrote_then b.wrote wrote)

-- over items with values
pub building_at_item : {X : Type 0} → (code : X → ℕ) {size : ℕ} {t : TreeLeft} {from to : DraftState} (xs : List (ℕ × X)) (i : ℕ) (x : ℕ × X)
    → IsBuilding size (entries_of code xs) (drop i (entries_of code xs)) t from to → i < length xs → x ≡ get_or xs i x
    → IsBuilding size (entries_of code xs) (record { key = x.0; value = code x.1 } ∷ drop (i + 1) (entries_of code xs)) t from to
building_at_item {X} code {size} {t} {from} {to} xs i x b within is =
    subst (λ (rest : List Entry). IsBuilding size (entries_of code xs) rest t from to) (split ∙ ap (λ (n : ℕ). record { key = x.0; value = code x.1 } ∷ drop n (entries_of code xs)) (sym (add-one i))) b
  where
    split : drop i (entries_of code xs) ≡ record { key = x.0; value = code x.1 } ∷ drop (suc i) (entries_of code xs)
    split = drop-map (λ (x : ℕ × X). record { key = x.0; value = code x.1 }) i xs
        ∙ (ap (entries_of code) (drop-cons xs i x within)
        ∙ (ap (λ (y : ℕ × X). record { key = y.0; value = code y.1 } ∷ entries_of code (drop (suc i) xs)) (sym is)
        ∙ ap (λ (rest : List Entry). record { key = x.0; value = code x.1 } ∷ rest) (sym (drop-map (λ (x : ℕ × X). record { key = x.0; value = code x.1 }) (suc i) xs))))

pub building_root : {E : Type 0} {size : ℕ} {all : List Entry} {t : TreeLeft} {from mid : DraftState} (r : Result ℕ E) → IsBuilding size all [] t from mid
    → IfOk r (λ root. root ≡ root_left mid.place t []) → IfOk r (λ root. root ≡ tree_root size from.place all)
building_root (Ok root) b is = is ∙ b.root
building_root (Err e) b is = tt
