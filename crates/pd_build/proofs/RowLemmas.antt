-- Rows of blocks that were written one after another.
use Rattle.std.proofs.Common.{◌≡◌, ℕ, ◌+◌, List, [], ◌∷◌, ◌++◌, length, refl, sym, ◌∙◌, ap, subst, zero, suc, ◌*◌, ◌^◌, ◌<◌, ◌≤◌, arith, ◌-◌}
use Rattle.std.proofs.lemmas.Bool.{lt-ltb, le-ltb}
use Rattle.std.specs.List.{AllByRecursion, flat_map}
use Rattle.pd_kinds.specs.Node.{Entry}
use Rattle.pd_grammar.specs.Need.{need_above, nodes_for}
use Rattle.pd_laid.specs.Laid.{blocks_from, even_parts}
use Rattle.pd_laid.proofs.LaidLemmas.{length-blocks_from, blocks_from-append, length-spread, joined_spread, spread_some}
use Rattle.pd_draft.specs.Closed.{IsClosed, DraftState, Wrote}
use Rattle.pd_draft.proofs.DraftLemmas.{wrote_none, wrote_then}

module _ {X : Type 0} (write : ℕ → X → List ℕ) where
  pub block_one : (place : ℕ) (x : X) → blocks_from write place (x ∷ []) ≡ write place x ∷ []
  unfolding blocks_from
  block_one place x = refl

  -- where the next block stands
  pub moved_by : (xs : List X) {from to : DraftState} → Wrote (blocks_from write from.place xs) from to → to.place ≡ from.place + length xs
  moved_by xs {from} {to} wrote = wrote.moved ∙ ap (λ (n : ℕ). from.place + n) (length-blocks_from write from.place xs)

  -- before the first block
  pub wrote_nothing : (draft_state : DraftState) → IsClosed draft_state.device → Wrote (blocks_from write draft_state.place []) draft_state draft_state
  unfolding blocks_from
  wrote_nothing draft_state closed = wrote_none draft_state closed

  -- one row after another
  pub rows_then : (xs ys : List X) {a b c : DraftState} → Wrote (blocks_from write a.place xs) a b
      → Wrote (blocks_from write b.place ys) b c → Wrote (blocks_from write a.place (xs ++ ys)) a c
  rows_then xs ys {a} {b} {c} first second =
      let at : b.place ≡ a.place + length xs = moved_by xs first in
      subst (λ (blocks : List (List ℕ)). Wrote blocks a c)
      (ap (λ (p : ℕ). blocks_from write a.place xs ++ blocks_from write p ys) at ∙ sym (blocks_from-append write a.place xs ys))
      (wrote_then first second)

  -- one block more
  pub row_next : (xs : List X) (x : X) (block : List ℕ) {a b c : DraftState} → Wrote (blocks_from write a.place xs) a b
      → block ≡ write b.place x → Wrote (block ∷ []) b c → Wrote (blocks_from write a.place (xs ++ x ∷ [])) a c
  row_next xs x block {a} {b} {c} before is wrote =
      rows_then xs (x ∷ []) before
      (subst (λ (blocks : List (List ℕ)). Wrote blocks b c) (ap (λ (first : List ℕ). first ∷ []) is ∙ sym (block_one b.place x)) wrote)

-- How many nodes stand above so many, counted level by level.

pub record IsCounting (all nodes need : ℕ) : Type 0 where
  pub fuel : ℕ
  pub high : nodes ≤ 252 ^ fuel
  pub some : 1 ≤ nodes
  pub whole : need_above 10 all ≡ need + need_above fuel nodes
  pub few : need + nodes ≤ all

need_one : (k nodes : ℕ) → nodes ≤ 1 → need_above k nodes ≡ 0
unfolding need_above
need_one zero nodes few = refl
need_one (suc k) nodes few = rw (le-ltb 1 nodes few) refl

pub need_more : (k nodes : ℕ) → 1 < nodes → need_above (suc k) nodes ≡ nodes_for 252 nodes + need_above k (nodes_for 252 nodes)
unfolding need_above
need_more k nodes many = rw (lt-ltb 1 nodes many) refl

pub counting_start : (all : ℕ) → 1 ≤ all → all ≤ 252 ^ 10 → IsCounting all all 0
counting_start all some high = record { fuel = 10; high = high; some = some; whole = omega arith; few = omega arith }

counting_by : (fuel all nodes need : ℕ) → nodes ≤ 252 ^ fuel → 1 < nodes → need_above 10 all ≡ need + need_above fuel nodes → need + nodes ≤ all
    → IsCounting all (nodes_for 252 nodes) (need + nodes_for 252 nodes)
counting_by zero all nodes need high many whole few = absurd (omega arith)
counting_by (suc k) all nodes need high many whole few = record {
  fuel = k;
  high = let e : 252 ^ suc k ≡ 252 ^ k * 252 = omega arith in omega arith;
  some = omega arith;
  whole = omega (arith, whole, need_more k nodes many);
  few = omega arith;
}

pub counting_next : {all nodes need : ℕ} → IsCounting all nodes need → 1 < nodes → IsCounting all (nodes_for 252 nodes) (need + nodes_for 252 nodes)
counting_next {all} {nodes} {need} c many = counting_by c.fuel all nodes need c.high many c.whole c.few

pub counting_end : {all nodes need : ℕ} → IsCounting all nodes need → nodes ≤ 1 → need ≡ need_above 10 all
counting_end {all} {nodes} {need} c few = omega (arith, c.whole, need_one c.fuel nodes few)

-- A row of nodes spread over those above it: none is empty, and there are fewer of them by a whole digit.

-- a row of nodes, spread over those above it
pub record IsSpread (k : ℕ) (row : List Entry) (level : List (List Entry)) : Type 0 where
  pub joined : flat_map (λ (part : List Entry). part) level ≡ row
  pub count : length level ≡ nodes_for 252 (length row)
  pub parts : AllByRecursion (λ (part : List Entry). 1 ≤ length part) level
  pub some : 1 ≤ length level
  pub small : length row ≤ 252 ^ suc k → length level ≤ 252 ^ k

pub level_spread : (k : ℕ) (row : List Entry) → 1 ≤ length row → IsSpread k row (even_parts (nodes_for 252 (length row)) row)
level_spread k row some =
    let u = nodes_for 252 (length row) in
    let least : 1 ≤ u = omega arith in
    let fewer : u ≤ length row = omega arith in
    let e : suc (u - 1) ≡ u = omega arith in
    let size = length-spread u row in
    record {
      joined = rw e at (joined_spread (u - 1) row);
      count = size;
      parts = spread_some u row fewer;
      some = rw size least;
      small = λ few. let e : 252 ^ suc k ≡ 252 ^ k * 252 = omega arith in rw size (omega arith);
    }
