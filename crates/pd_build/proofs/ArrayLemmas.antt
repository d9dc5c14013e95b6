-- Words in pieces.
use Rattle.std.proofs.Common.{◌≡◌, ◌⊎◌, inl, inr, ⊎_elim, ℕ, zero, suc, ◌+◌, ◌-◌, ◌/◌, ◌<◌, ◌≤◌, List, [], ◌∷◌, ◌++◌, length, take, drop, refl, sym, ◌∙◌, ap, ap₂, subst, arith, length-append, get_or}
use Rattle.std.proofs.Math.Nat.{add-div_right, div-eq_of_lt}
use Rattle.std.proofs.Math.Seq.{take-append_seam, drop-append_seam}
use Rattle.std.proofs.lemmas.List.{append_assoc, append-nil, nil_from_length, take_all, drop_all}
use Rattle.std.specs.List.{range_with_len}
use Rattle.std.specs.Prelude.{map, nat_lt, true}
use Rattle.std.proofs.lemmas.Bool.{and_from, lt-ltb}
use Rattle.std.proofs.lemmas.List.FromFn.{get_or-map-range_with_len}
use Rattle.pd_kinds.specs.Array.{array_block, max_words}
use Rattle.pd_kinds.specs.Node.{Entry, is_ascending}
use Rattle.pd_grammar.specs.Need.{nodes_for, need_tree, need_array}
use Rattle.pd_laid.specs.Laid.{blocks_from, tree_blocks, tree_root, pieces, array_pieces, array_items, array_root}
use Rattle.pd_laid.proofs.NeedLemmas.{length-items}
use Rattle.pd_draft.specs.Closed.{IsClosed, DraftState, Wrote}
use Rattle.pd_draft.proofs.DraftLemmas.{wrote_none, wrote_then}
use Rattle.pd_build.specs.Array.{Words, ArrayLeft, array_blocks, pieces_left, array_left, array_root_left, array_number, Pushes}
use Rattle.pd_build.specs.Tree.{TreeLeft}
use Rattle.pd_build.specs.Building.{IsBuilding, IsFilling}
use Rattle.pd_build.proofs.BuildingLemmas.{building_at}
use Rattle.pd_build.proofs.TakesLemmas.{parts_none, parts_some}

parts_step : (most n : ℕ) → 1 ≤ most → nodes_for most (most + n) ≡ nodes_for most n + 1
parts_step most n some =
    let e : most + n + (most - 1) ≡ (n + (most - 1)) + most = omega arith in
    rw e (add-div_right (n + (most - 1)) (omega arith))

parts_last : (most n : ℕ) → 1 ≤ n → n ≤ most → nodes_for most n ≡ 1
parts_last most n some few =
    let none : (n - 1) / most ≡ 0 = div-eq_of_lt (omega arith) in
    parts_some most n (omega arith) some ∙ omega arith

pieces_suc : (most k : ℕ) (xs ws : List ℕ) → length xs ≡ most → pieces most (suc k) (xs ++ ws) ≡ xs ∷ pieces most k ws
unfolding pieces
pieces_suc most k xs ws full =
    ap₂ (λ (front back : List ℕ). front ∷ pieces most k back)
    (ap (λ (n : ℕ). take n (xs ++ ws)) (sym full) ∙ take-append_seam xs ws)
    (ap (λ (n : ℕ). drop n (xs ++ ws)) (sym full) ∙ drop-append_seam xs ws)

pieces_one : (most : ℕ) (xs : List ℕ) → length xs ≤ most → pieces most 1 xs ≡ xs ∷ []
unfolding pieces
pieces_one most xs few = ap (λ (front : List ℕ). front ∷ []) (take_all most xs few)

pieces_zero : (most : ℕ) (xs : List ℕ) → pieces most 0 xs ≡ []
unfolding pieces
pieces_zero most xs = refl

end_number : (most a n : ℕ) → 1 ≤ a → a ≤ most → (a ≡ most) ⊎ (n ≡ 0) → nodes_for most (a + n) ≡ nodes_for most n + 1
end_number most a n some few ends = ⊎_elim
    (λ full. ap (λ (b : ℕ). nodes_for most (b + n)) full ∙ parts_step most n (omega arith))
    (λ none.
    let one : nodes_for most (a + 0) ≡ 1 = parts_last most (a + 0) (omega arith) (omega arith) in
    let no : nodes_for most 0 ≡ 0 = parts_none most (omega arith) in
    let left = ap (λ (n : ℕ). nodes_for most (a + n)) none in
    let right = ap (nodes_for most) none in
    omega arith)
    ends

-- the first piece is full, or the last
module _ (most : ℕ) (xs ws : List ℕ) (some : 1 ≤ length xs) (few : length xs ≤ most) (ends : (length xs ≡ most) ⊎ (length ws ≡ 0)) where
  end_pieces : pieces most (nodes_for most (length xs + length ws)) (xs ++ ws) ≡ xs ∷ pieces most (nodes_for most (length ws)) ws
  end_pieces = ⊎_elim
      (λ full.
      let is : nodes_for most (length xs + length ws) ≡ suc (nodes_for most (length ws)) = end_number most (length xs) (length ws) some few ends ∙ omega arith in
      ap (λ (k : ℕ). pieces most k (xs ++ ws)) is ∙ pieces_suc most (nodes_for most (length ws)) xs ws full)
      (λ none.
      let nothing : ws ≡ [] = nil_from_length ws none in
      let no : nodes_for most (length ws) ≡ 0 = ap (nodes_for most) none ∙ parts_none most (omega arith) in
      let one : nodes_for most (length xs + length ws) ≡ 1 = (let n = end_number most (length xs) (length ws) some few ends in omega arith) in
      ap₂ (λ (k : ℕ) (rest : List ℕ). pieces most k (xs ++ rest)) one nothing
      ∙ (ap (pieces most 1) (append-nil xs)
      ∙ (pieces_one most xs few
      ∙ ap (λ (rest : List (List ℕ)). xs ∷ rest) (sym (ap (λ (k : ℕ). pieces most k ws) no ∙ pieces_zero most ws)))))
      ends

-- the word ends no block
pub push_none : (size word : ℕ) (old new : Words) (draft_state : DraftState) → IsClosed draft_state.device → new.begun ≡ old.begun ++ word ∷ [] → new.left + 1 ≡ old.left → new.made ≡ old.made
    → Pushes size word old new draft_state draft_state
unfolding array_left array_root_left array_number
push_none size word old new draft_state closed begun left made =
    let count : length new.begun ≡ length old.begun + 1 = ap length begun ∙ length-append old.begun (word ∷ []) in
    let same : (words : List ℕ) → pieces_left size old (word ∷ words) ≡ pieces_left size new words =
    λ words.
    ap₂ (λ (n : ℕ) (all : List ℕ). pieces (max_words size) (nodes_for (max_words size) n) all)
    (let n : length old.begun + length (word ∷ words) ≡ length new.begun + length words = omega arith in n)
    (sym (append_assoc old.begun (word ∷ []) words) ∙ ap (λ (b : List ℕ). b ++ words) (sym begun)) in
    record {
      written = [];
      wrote = wrote_none draft_state closed;
      blocks = λ words count.
          ap₂ (λ (left : List (List ℕ)) (made : ℕ). blocks_from (array_block size) draft_state.place left
          ++ tree_blocks 8 (draft_state.place + length left) (array_items (draft_state.place - made) (made + length left))) (same words) (sym made);
      root = λ words count.
          ap₂ (λ (left : List (List ℕ)) (made : ℕ). tree_root 8 (draft_state.place + length left) (array_items (draft_state.place - made) (made + length left)))
          (same words) (sym made);
      number = left;
      room = ap₂ (λ (n made : ℕ). draft_state.place + (nodes_for (max_words size) n + need_tree 8 (made + nodes_for (max_words size) n)))
          (omega arith) made;
      stood = λ stood. omega arith;
    }

-- the word ends a block
pub push_end : (size word : ℕ) (old new : Words) (from to : DraftState) → new.begun ≡ [] → new.left + 1 ≡ old.left → new.made ≡ old.made + 1
    → length old.begun < max_words size → (length old.begun + 1 ≡ max_words size) ⊎ (new.left ≡ 0)
    → Wrote (array_block size from.place (old.begun ++ word ∷ []) ∷ []) from to → Pushes size word old new from to
unfolding array_left array_root_left array_number blocks_from
push_end size word old new from to begun left made less ends wrote =
    let most = max_words size in
    let xs = old.begun ++ word ∷ [] in
    let count : length xs ≡ length old.begun + 1 = length-append old.begun (word ∷ []) in
    let none : length new.begun ≡ 0 = ap length begun in
    let moved : to.place ≡ from.place + 1 = wrote.moved in
    let ends_with : (words : List ℕ) → length words ≡ new.left → (length xs ≡ most) ⊎ (length words ≡ 0) =
    λ words n. ⊎_elim (λ full. inl (count ∙ full)) (λ last. inr (n ∙ last)) ends in
    let split : (words : List ℕ) → length words ≡ new.left → pieces_left size old (word ∷ words) ≡ xs ∷ pieces_left size new words =
    λ words n.
    ap₂ (λ (n : ℕ) (all : List ℕ). pieces most (nodes_for most n) all)
    (let n : length old.begun + length (word ∷ words) ≡ length xs + length words = omega arith in n)
    (sym (append_assoc old.begun (word ∷ []) words))
    ∙ (end_pieces most xs words (omega arith) (omega arith) (ends_with words n)
    ∙ ap₂ (λ (n : ℕ) (b : List ℕ). xs ∷ pieces most (nodes_for most n) (b ++ words)) (let z : length words ≡ length new.begun + length words = omega arith in z) (sym begun)) in
    record {
      written = array_block size from.place xs ∷ [];
      wrote = wrote;
      blocks = λ words n.
          let rest = pieces_left size new words in
          let at : from.place + suc (length rest) ≡ to.place + length rest = omega arith in
          let first : from.place - old.made ≡ to.place - new.made = omega arith in
          let number : old.made + suc (length rest) ≡ new.made + length rest = omega arith in
          ap (λ (left : List (List ℕ)). blocks_from (array_block size) from.place left
          ++ tree_blocks 8 (from.place + length left) (array_items (from.place - old.made) (old.made + length left))) (split words n)
          ∙ ap₂ (λ (p : ℕ) (tree : List (List ℕ)). array_block size from.place xs ∷ (blocks_from (array_block size) p rest ++ tree)) (sym moved)
          (ap₂ (tree_blocks 8) at (ap₂ array_items first number));
      root = λ words n.
          let rest = pieces_left size new words in
          let at : from.place + suc (length rest) ≡ to.place + length rest = omega arith in
          let first : from.place - old.made ≡ to.place - new.made = omega arith in
          let number : old.made + suc (length rest) ≡ new.made + length rest = omega arith in
          ap (λ (left : List (List ℕ)). tree_root 8 (from.place + length left) (array_items (from.place - old.made) (old.made + length left))) (split words n)
          ∙ ap₂ (tree_root 8) at (ap₂ array_items first number);
      number = left;
      room =
          let n = end_number most (length xs) new.left (omega arith) (omega arith) (⊎_elim (λ full. inl (count ∙ full)) (λ last. inr last) ends) in
          let was : nodes_for most (length old.begun + old.left) ≡ nodes_for most (length xs + new.left) = ap (nodes_for most) (omega arith) in
          let is : nodes_for most (length new.begun + new.left) ≡ nodes_for most new.left = ap (nodes_for most) (omega arith) in
          let tree : need_tree 8 (new.made + nodes_for most (length new.begun + new.left)) ≡ need_tree 8 (old.made + nodes_for most (length old.begun + old.left)) =
          ap (need_tree 8) (omega arith) in
          omega arith;
      stood = λ stood. omega arith;
    }

pub array_item_at : (first count i : ℕ) (d : Entry) → i < count → get_or (array_items first count) i d ≡ record { key = i; value = first + i }
unfolding array_items
array_item_at first count i d within =
    get_or-map-range_with_len (λ (i : ℕ). record { key = i; value = first + i }) 0 count i i d within (omega arith)

ascends_from : (first a n : ℕ) → is_ascending (map (λ (e : Entry). e.key) (map (λ (i : ℕ). record { key = i; value = first + i }) (range_with_len a n))) ≡ true
unfolding is_ascending
ascends_from first a zero = refl
ascends_from first a (suc zero) = refl
ascends_from first a (suc (suc n)) = and_from (nat_lt a (a + 1)) _ (lt-ltb a (a + 1) (omega arith)) (ascends_from first (a + 1) (suc n))

pub array_ascends : (first count : ℕ) → is_ascending (map (λ (e : Entry). e.key) (array_items first count)) ≡ true
unfolding array_items
array_ascends first count = ascends_from first 0 count

pub array_some : (size : ℕ) (t : Words) → 1 ≤ max_words size → 1 ≤ length t.begun + t.left → 1 ≤ array_number size t
unfolding array_number
array_some size t room some = let is = parts_some (max_words size) (length t.begun + t.left) room some in omega arith

pub index_at : {size : ℕ} {t : TreeLeft} {from to : DraftState} (first count i : ℕ) → IsBuilding size (array_items first count) (drop i (array_items first count)) t from to → i < count
    → IsBuilding size (array_items first count) (record { key = i; value = first + i } ∷ drop (i + 1) (array_items first count)) t from to
index_at {size} {t} {from} {to} first count i b within =
    let n = length-items first count in
    building_at i (record { key = i; value = first + i }) b (omega arith) (array_item_at first count i (record { key = i; value = first + i }) within)

pub index_end : {size : ℕ} {t : TreeLeft} {from to : DraftState} (first count i : ℕ) → IsBuilding size (array_items first count) (drop i (array_items first count)) t from to → count ≤ i
    → IsBuilding size (array_items first count) [] t from to
index_end {size} {t} {from} {to} first count i b past =
    let n = length-items first count in
    subst (λ (rest : List Entry). IsBuilding size (array_items first count) rest t from to) (drop_all i (array_items first count) (omega arith)) b

-- before the first word
start_pieces : (size : ℕ) (t : Words) (words : List ℕ) → t.begun ≡ [] → pieces_left size t words ≡ array_pieces size words
start_pieces size t words none =
    let nothing : length t.begun ≡ 0 = ap length none in
    let most = max_words size in
    ap₂ (λ (n : ℕ) (begun : List ℕ). pieces most (nodes_for most n) (begun ++ words)) (let n : length t.begun + length words ≡ length words = omega arith in n) none

pub array_start : (size place : ℕ) (t : Words) (words : List ℕ) → t.begun ≡ [] → t.made ≡ 0 → array_left size place t words ≡ array_blocks size place words
unfolding array_left array_blocks
array_start size place t words none made =
    let p = array_pieces size words in
    ap (λ (left : List (List ℕ)). blocks_from (array_block size) place left ++ tree_blocks 8 (place + length left) (array_items (place - t.made) (t.made + length left)))
    (start_pieces size t words none)
    ∙ ap (λ (items : List Entry). blocks_from (array_block size) place p ++ tree_blocks 8 (place + length p) items) (ap₂ array_items (omega arith) (omega arith))

pub root_start : (size place : ℕ) (t : Words) (words : List ℕ) → t.begun ≡ [] → t.made ≡ 0 → array_root_left size place t words ≡ array_root size place words
unfolding array_root_left array_root
root_start size place t words none made =
    let p = array_pieces size words in
    ap (λ (left : List (List ℕ)). tree_root 8 (place + length left) (array_items (place - t.made) (t.made + length left))) (start_pieces size t words none)
    ∙ ap (tree_root 8 (place + length p)) (ap₂ array_items (omega arith) (omega arith))

pub number_start : (size n : ℕ) (t : Words) → t.begun ≡ [] → t.left ≡ n → t.made ≡ 0 → array_number size t ≡ need_array size n
unfolding array_number need_array
number_start size n t none left made =
    let nothing : length t.begun ≡ 0 = ap length none in
    ap₂ (λ (m made : ℕ). nodes_for (max_words size) m + need_tree 8 (made + nodes_for (max_words size) m)) (omega arith) made
    ∙ ap (λ (k : ℕ). nodes_for (max_words size) n + need_tree 8 k) (omega arith)

-- after the last word
done_pieces : (size : ℕ) (t : Words) → 1 ≤ max_words size → t.begun ≡ [] → pieces_left size t [] ≡ []
unfolding pieces
done_pieces size t room none =
    let most = max_words size in
    let nothing : length t.begun + 0 ≡ 0 = (let z : length t.begun ≡ 0 = ap length none in omega arith) in
    let no : nodes_for most (length t.begun + 0) ≡ 0 = ap (nodes_for most) nothing ∙ parts_none most room in
    ap (λ (k : ℕ). pieces most k (t.begun ++ [])) no

pub array_done : (size place : ℕ) (t : Words) → 1 ≤ max_words size → t.begun ≡ [] → array_left size place t [] ≡ tree_blocks 8 place (array_items (place - t.made) t.made)
unfolding array_left blocks_from
array_done size place t room none =
    ap (λ (left : List (List ℕ)). blocks_from (array_block size) place left ++ tree_blocks 8 (place + length left) (array_items (place - t.made) (t.made + length left)))
    (done_pieces size t room none)
    ∙ ap₂ (tree_blocks 8) (omega arith) (ap (array_items (place - t.made)) (omega arith))

pub root_done : (size place : ℕ) (t : Words) → 1 ≤ max_words size → t.begun ≡ [] → array_root_left size place t [] ≡ tree_root 8 place (array_items (place - t.made) t.made)
unfolding array_root_left
root_done size place t room none =
    ap (λ (left : List (List ℕ)). tree_root 8 (place + length left) (array_items (place - t.made) (t.made + length left))) (done_pieces size t room none)
    ∙ ap₂ (tree_root 8) (omega arith) (ap (array_items (place - t.made)) (omega arith))

pub done_number : (size : ℕ) (t : Words) → 1 ≤ max_words size → t.begun ≡ [] → t.left ≡ 0 → array_number size t ≡ need_tree 8 t.made
unfolding array_number
done_number size t room none left =
    let nothing : length t.begun + t.left ≡ 0 = (let z : length t.begun ≡ 0 = ap length none in omega arith) in
    let no : nodes_for (max_words size) (length t.begun + t.left) ≡ 0 = ap (nodes_for (max_words size)) nothing ∙ parts_none (max_words size) room in
    let made : t.made + nodes_for (max_words size) (length t.begun + t.left) ≡ t.made = omega arith in
    let tree = ap (need_tree 8) made in
    omega arith

-- an array, word by word
pub filling_start : {size : ℕ} {draft_state : DraftState} (all : List ℕ) (t : ArrayLeft) → IsClosed draft_state.device → t.size ≡ size
    → array_left size draft_state.place t.words all ≡ array_blocks size draft_state.place all
    → array_root_left size draft_state.place t.words all ≡ array_root size draft_state.place all
    → t.words.left ≡ length all → array_number size t.words ≡ need_array size (length all) → t.words.made ≡ 0
    → IsFilling size all all t draft_state draft_state
filling_start {size} {draft_state} all t closed sized blocks root number room made = record {
  done = [];
  wrote = wrote_none draft_state closed;
  sized = sized;
  whole = sym blocks;
  root = root;
  number = number;
  room = ap (λ (n : ℕ). draft_state.place + n) room;
  stood = omega arith;
}

pub filling_next : {size word : ℕ} {all words : List ℕ} {old new : ArrayLeft} {from mid to : DraftState} → IsFilling size all (word ∷ words) old from mid
    → new.size ≡ old.size → Pushes size word old.words new.words mid to → IsFilling size all words new from to
filling_next {size} {word} {all} {words} {old} {new} {from} {mid} {to} f same p =
    let left : length words ≡ new.words.left = omega (arith, f.number, p.number) in
    record {
      done = f.done ++ p.written;
      wrote = wrote_then f.wrote p.wrote;
      sized = same ∙ f.sized;
      whole = f.whole ∙ (ap (λ (rest : List (List ℕ)). f.done ++ rest) (p.blocks words left) ∙ sym (append_assoc f.done p.written (array_left size to.place new.words words)));
      root = sym (p.root words left) ∙ f.root;
      number = sym left;
      room = p.room ∙ f.room;
      stood = p.stood f.stood;
    }

pub filling_end : {size : ℕ} {all : List ℕ} {t : ArrayLeft} {from mid to : DraftState} → IsFilling size all [] t from mid
    → Wrote (array_left size mid.place t.words []) mid to → Wrote (array_blocks size from.place all) from to
filling_end {size} {all} {t} {from} {mid} {to} f wrote =
    subst (λ (blocks : List (List ℕ)). Wrote blocks from to) (sym f.whole) (wrote_then f.wrote wrote)
