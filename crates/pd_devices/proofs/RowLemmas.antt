-- The row of a device's leaves, piece by piece.
use Rattle.std.proofs.Common.{◌≡◌, ℕ, ◌+◌, ◌^◌, ◌<◌, ◌≤◌, List, [], ◌∷◌, ◌++◌, length, length-append, sym, ◌∙◌, ap, ap₂, subst, arith, append_assoc, true, false, eqb, refl, Result, Ok, Err}
use Rattle.std.specs.List.{AllByRecursion, flat_map}
use Rattle.std.specs.Option.{unwrap_or}
use Rattle.std.specs.Prelude.{slice_get, OnOk, IfOk}
use Rattle.std.proofs.lemmas.List.{append-nil, map-append}
use Rattle.std.proofs.lemmas.List.Concat.{flat_map-append}
use Rattle.pd_kinds.specs.Meaning.{Mapping}
use Rattle.pd_kinds.specs.Node.{Entry, leaf_block, inner_block}
use Rattle.pd_grammar.specs.Need.{nodes_for, need_above}
use Rattle.pd_grammar.specs.ThinText.{Run}
use Rattle.pd_laid.specs.LaidThin.{mapping_items, own_leaves, piece_row, pieces_row, device_root, device_row, some_pieces}
use Rattle.pd_laid.specs.Shape.{Piece, own, shared, ShapeDevice, uses_of_piece}
use Rattle.pd_laid.specs.Laid.{blocks_from, first_key, heads, tree_leaves, levels_above, root_above, even_parts}
use Rattle.pd_laid.proofs.LaidLemmas.{blocks_from-append, length-blocks_from}
use Rattle.pd_laid.proofs.GatherLemmas.{length-items}
use Rattle.pd_laid.specs.PoolText.{mappings_of_runs}
use Rattle.pd_laid.proofs.ShapeCut.{some_mappings}
use Rattle.pd_draft.specs.Closed.{IsClosed, DraftState, Wrote}
use Rattle.pd_draft.proofs.DraftLemmas.{wrote_none, wrote_then}
use Rattle.pd_build.proofs.TreeLemmas.{none_is}
use Rattle.pd_devices.specs.SharedGrowth.{Grown, items_of_runs, AreHeld, Rises, keys_in, end_after, need_left}
use Rattle.pd_devices.specs.Told.{own_piece, with_pieces}
use Rattle.pd_devices.specs.declared.growing.Growing.{Growing}
use Rattle.pd_devices.proofs.PieceLemmas.{rises_higher, rises_then, leaves_rise, runs_rise}
use Rattle.pd_laws_laid.specs.Shared.{own_blocks_from, IsFilled, device_tree}
use Rattle.pd_laws_laid.proofs.DeviceNames.{row_length, leaves_number}

-- the row and the own leaves of pieces behind others
pub row-append : (leaves : List (List Entry)) (place : ℕ) (xs ys : List Piece)
    → pieces_row leaves place (xs ++ ys) ≡ pieces_row leaves place xs ++ pieces_row leaves (place + length (flat_map own_leaves xs)) ys
row-append leaves place [] ys = ap (λ (p : ℕ). pieces_row leaves p ys) (omega arith)
row-append leaves place (x ∷ xs) ys =
    let here = own_leaves x in
    let both = length-append here (flat_map own_leaves xs) in
    ap (λ (es : List Entry). piece_row leaves place x ++ es) (row-append leaves (place + length here) xs ys)
    ∙ (sym (append_assoc (piece_row leaves place x) (pieces_row leaves (place + length here) xs) (pieces_row leaves (place + length here + length (flat_map own_leaves xs)) ys))
    ∙ ap (λ (p : ℕ). (piece_row leaves place x ++ pieces_row leaves (place + length here) xs) ++ pieces_row leaves p ys) (omega (arith, both)))

pub own_blocks-append : (place : ℕ) (xs ys : List Piece)
    → own_blocks_from place (xs ++ ys) ≡ own_blocks_from place xs ++ own_blocks_from (place + length (flat_map own_leaves xs)) ys
own_blocks-append place xs ys =
    ap (blocks_from (leaf_block 8) place) (flat_map-append own_leaves xs ys) ∙ blocks_from-append (leaf_block 8) place (flat_map own_leaves xs) (flat_map own_leaves ys)

-- how many leaves a row has
pub grown_number : {leaves : List (List Entry)} {d : ShapeDevice} {low : ℕ} {o : Growing} {from to : DraftState} → Grown leaves d low o from to → length o.row ≡ o.own + o.uses
grown_number {leaves} {d} {low} {o} {from} {to} g = omega (arith, ap (λ (es : List Entry). length es) g.row, row_length leaves from.place d.pieces, g.own, g.uses)

-- where the own leaves end
pub grown_place : {leaves : List (List Entry)} {d : ShapeDevice} {low : ℕ} {o : Growing} {from to : DraftState} → Grown leaves d low o from to → to.place ≡ from.place + o.own
grown_place {leaves} {d} {low} {o} {from} {to} g =
    omega (arith, g.written.moved, length-blocks_from (leaf_block 8) from.place (flat_map own_leaves d.pieces), g.own)

-- a device without pieces
pub grown_none : (leaves : List (List Entry)) (d : ShapeDevice) (o : Growing) (now : DraftState) → IsClosed now.device → d.pieces ≡ [] → o.id ≡ d.id → o.row ≡ [] → o.own ≡ 0 → o.uses ≡ 0
    → Grown leaves d 0 o now now
unfolding blocks_from
grown_none leaves d o now closed none id row mine uses = record {
  id = id;
  written = rw none (wrote_none now closed);
  row = rw none row;
  rises = rw row (omega arith);
  filled = rw none tt;
  own = rw none mine;
  uses = rw none uses;
  few = omega (arith, mine, uses);
}

all_push : (P : Piece → Type 0) (xs : List Piece) (x : Piece) → AllByRecursion P xs → P x → AllByRecursion P (xs ++ x ∷ [])
all_push P [] x all last = (last, tt)
all_push P (y ∷ xs) x all last = (all.0, all_push P xs x all.1 last)

-- one piece more of its own
pub grown_own : {leaves : List (List Entry)} {d : ShapeDevice} {low end : ℕ} {o p : Growing} {from mid to : DraftState} (ms : List Mapping) → Grown leaves d low o from mid
    → 1 ≤ length ms → Rises low end (keys_in (mapping_items ms)) → p.id ≡ o.id → p.own ≡ o.own + length (tree_leaves 8 (mapping_items ms)) → p.uses ≡ o.uses
    → p.own + p.uses ≤ 2 ^ 61
    → Wrote (blocks_from (leaf_block 8) mid.place (tree_leaves 8 (mapping_items ms))) mid to
    → p.row ≡ o.row ++ heads mid.place (tree_leaves 8 (mapping_items ms))
    → Grown leaves (with_pieces (own ms ∷ []) d) end p from to
grown_own {leaves} {d} {low} {end} {o} {p} {from} {mid} {to} ms g some rises id own_is uses few wrote row =
    let mine = tree_leaves 8 (mapping_items ms) in
    let here : mid.place ≡ from.place + length (flat_map own_leaves d.pieces) = omega (arith, grown_place g, g.own) in
    let one : flat_map own_leaves (own ms ∷ []) ≡ mine = append-nil mine in
    let last : heads mid.place mine ++ [] ≡ heads mid.place mine = append-nil (heads mid.place mine) in
    record {
      id = id ∙ g.id;
      written = subst (λ (bs : List (List ℕ)). Wrote bs from to)
          (ap₂ (λ (q : ℕ) (ls : List (List Entry)). own_blocks_from from.place d.pieces ++ blocks_from (leaf_block 8) q ls) here (sym one)
          ∙ sym (own_blocks-append from.place d.pieces (own ms ∷ [])))
          (wrote_then g.written wrote);
      row = row ∙ (ap₂ (λ (es fs : List Entry). es ++ fs) g.row (sym last)
          ∙ (ap (λ (q : ℕ). pieces_row leaves from.place d.pieces ++ (heads q mine ++ [])) here ∙ sym (row-append leaves from.place d.pieces (own ms ∷ []))));
      rises = rw (row, map-append (λ (e : Entry). e.key) o.row (heads mid.place mine))
          (rises_then 0 low end (keys_in o.row) (keys_in (heads mid.place mine)) g.rises
          (leaves_rise mid.place low end (mapping_items ms) (omega (arith, length-items ms, some)) rises));
      filled = all_push IsFilled d.pieces (own ms) g.filled some;
      own = omega (
        arith,
        own_is,
        g.own,
        ap (λ (ls : List (List Entry)). length ls) (flat_map-append own_leaves d.pieces (own ms ∷ [])),
        length-append (flat_map own_leaves d.pieces) (flat_map own_leaves (own ms ∷ [])),
        ap (λ (ls : List (List Entry)). length ls) one,
      );
      uses = omega (
        arith,
        uses,
        g.uses,
        ap (λ (ns : List ℕ). length ns) (flat_map-append uses_of_piece d.pieces (own ms ∷ [])),
        length-append (flat_map uses_of_piece d.pieces) [],
      );
      few = few;
    }

-- the use of a shared leaf
pub grown_use : {leaves : List (List Entry)} {d : ShapeDevice} {low end : ℕ} {o p : Growing} {from now : DraftState} (least number : ℕ) → Grown leaves d low o from now
    → low ≤ least → least < end → least ≡ first_key (unwrap_or (slice_get leaves number) []) → p.id ≡ o.id → p.own ≡ o.own → p.uses ≡ o.uses + 1
    → p.own + p.uses ≤ 2 ^ 61
    → p.row ≡ o.row ++ record { key = least; value = number + 1 } ∷ []
    → Grown leaves (with_pieces (shared number ∷ []) d) end p from now
unfolding blocks_from
grown_use {leaves} {d} {low} {end} {o} {p} {from} {now} least number g above below is id own_is uses few row =
    let head : record { key = least; value = number + 1 } ∷ [] ≡ pieces_row leaves (from.place + length (flat_map own_leaves d.pieces)) (shared number ∷ []) =
    same_head least (first_key (unwrap_or (slice_get leaves number) [])) (number + 1) (1 + number) is (omega arith) in
    record {
      id = id ∙ g.id;
      written = subst (λ (bs : List (List ℕ)). Wrote bs from now)
          (sym (own_blocks-append from.place d.pieces (shared number ∷ []) ∙ append-nil (own_blocks_from from.place d.pieces))) g.written;
      row = row ∙ (ap₂ (λ (es fs : List Entry). es ++ fs) g.row head ∙ sym (row-append leaves from.place d.pieces (shared number ∷ [])));
      rises = rw (row, map-append (λ (e : Entry). e.key) o.row (record { key = least; value = number + 1 } ∷ []))
          (rises_then 0 low end (keys_in o.row) (least ∷ []) g.rises (above, omega (arith, below)));
      filled = all_push IsFilled d.pieces (shared number) g.filled tt;
      own = omega (
        arith,
        own_is,
        g.own,
        ap (λ (ls : List (List Entry)). length ls) (flat_map-append own_leaves d.pieces (shared number ∷ [])),
        length-append (flat_map own_leaves d.pieces) [],
      );
      uses = omega (
        arith,
        uses,
        g.uses,
        ap (λ (ns : List ℕ). length ns) (flat_map-append uses_of_piece d.pieces (shared number ∷ [])),
        length-append (flat_map uses_of_piece d.pieces) (number ∷ []),
      );
      few = few;
    }
  where
    same_head : (j k v w : ℕ) → j ≡ k → v ≡ w → ◌≡◌ {A = List Entry} (record { key = j; value = v } ∷ []) (record { key = k; value = w } ∷ [])
    same_head j k v w a b = cc

-- the own piece of held runs, which may be none
pub grown_higher : {leaves : List (List Entry)} {d : ShapeDevice} {low end : ℕ} {o : Growing} {from to : DraftState} → low ≤ end → Grown leaves d low o from to → Grown leaves d end o from to
grown_higher {leaves} {d} {low} {end} {o} {from} {to} high g = record {
  id = g.id;
  written = g.written;
  row = g.row;
  rises = rises_higher 0 low end (keys_in o.row) high g.rises;
  filled = g.filled;
  own = g.own;
  uses = g.uses;
  few = g.few;
}

without_more : (d : ShapeDevice) → d ≡ with_pieces [] d
without_more d =
    sym (ap (λ (ps : List Piece). record { id = d.id; mapped = d.mapped; transaction = d.transaction; created = d.created; snapped = d.snapped; pieces = ps }) (append-nil d.pieces))

pub grown_without : {leaves : List (List Entry)} {d : ShapeDevice} {blocks low end : ℕ} {o : Growing} {from to : DraftState} (runs : List Run) → length (mappings_of_runs runs) ≡ 0
    → AreHeld blocks low end runs → Grown leaves d low o from to → Grown leaves (with_pieces (own_piece runs) d) end o from to
grown_without {leaves} {d} {blocks} {low} {end} {o} {from} {to} [] none held g =
    subst (λ (e : ShapeDevice). Grown leaves e end o from to) (without_more d) (grown_higher held.ends g)
grown_without {leaves} {d} {blocks} {low} {end} {o} {from} {to} (r ∷ runs) none held g = absurd (omega (arith, none, some_mappings r runs held.have))

pub grown_with : {leaves : List (List Entry)} {d : ShapeDevice} {blocks low end : ℕ} {o p : Growing} {from mid to : DraftState} (runs : List Run) → 1 ≤ length (mappings_of_runs runs)
    → AreHeld blocks low end runs → Grown leaves d low o from mid → p.id ≡ o.id → p.own ≡ o.own + nodes_for 252 (length (mappings_of_runs runs)) → p.uses ≡ o.uses
    → p.own + p.uses ≤ 2 ^ 61
    → Wrote (blocks_from (leaf_block 8) mid.place (tree_leaves 8 (items_of_runs runs))) mid to
    → p.row ≡ o.row ++ heads mid.place (tree_leaves 8 (items_of_runs runs))
    → Grown leaves (with_pieces (own_piece runs) d) end p from to
grown_with [] some held g id own_is uses few wrote row = absurd (omega (arith, some))
grown_with {leaves} {d} {blocks} {low} {end} {o} {p} {from} {mid} {to} (r ∷ runs) some held g id own_is uses few wrote row =
    let ms = mappings_of_runs (r ∷ runs) in
    let rises = rises_higher low (end_after low (r ∷ runs)) end (keys_in (mapping_items ms)) held.ends (runs_rise blocks low (r ∷ runs) held.have held.mappings) in
    grown_own ms g some rises id (own_is ∙ ap (λ (n : ℕ). o.own + n) (sym (leaves_number ms some))) uses few wrote row

-- The tree of a device that is over.

pub if_ok_then : {T E : Type 0} {P Q : T → Type 0} (r : Result T E) → IfOk r P → ((x : T) → P x → Q x) → IfOk r Q
if_ok_then (Ok x) p f = f x p
if_ok_then (Err e) p f = tt

pub none_left : (n m place blocks : ℕ) → n ≡ m → eqb n 0 ≡ true → place + need_left m ≤ blocks → place < blocks
none_left n m place blocks same e room =
    let none : m ≡ 0 = sym same ∙ none_is n e in
    let at : place + need_left 0 ≤ blocks = subst (λ (k : ℕ). place + need_left k ≤ blocks) none room in
    omega (arith, at)

pub some_left : (n m place blocks : ℕ) → n ≡ m → eqb n 0 ≡ false → place + need_left m ≤ blocks → place + need_above 10 n ≤ blocks
some_left n m place blocks same e room =
    let at : place + need_left n ≤ blocks = subst (λ (k : ℕ). place + need_left k ≤ blocks) (sym same) room in
    rw e at at

no_pieces : (pieces : List Piece) → AllByRecursion IsFilled pieces → length (flat_map own_leaves pieces) + length (flat_map uses_of_piece pieces) ≡ 0 → pieces ≡ []
no_pieces [] filled none = refl
no_pieces (own ms ∷ pieces) filled none =
    absurd (omega (arith, none, filled.0, leaves_number ms filled.0, length-append (own_leaves (own ms)) (flat_map own_leaves pieces)))
no_pieces (shared n ∷ pieces) filled none = absurd (omega (arith, none))

module _ {leaves : List (List Entry)} {d : ShapeDevice} {low : ℕ} {o : Growing} {from now : DraftState} (g : Grown leaves d low o from now) where
  without : length o.row ≡ 0 → d.pieces ≡ []
  without none = no_pieces d.pieces g.filled (omega (arith, none, grown_number g, g.own, g.uses))

  stayed : length o.row ≡ 0 → now.place ≡ from.place
  stayed none = omega (arith, grown_place g, none, grown_number g)

  empty_tree : (place : ℕ) → d.pieces ≡ [] → device_tree leaves place d ≡ leaf_block 8 place [] ∷ []
  unfolding device_tree device_row levels_above heads even_parts tree_leaves mapping_items blocks_from
  empty_tree place none = rw none refl

  empty_root : (place : ℕ) → d.pieces ≡ [] → device_root leaves place d ≡ place
  unfolding device_root device_row levels_above root_above heads even_parts tree_leaves mapping_items
  empty_root place none = rw none refl

  nothing_written : d.pieces ≡ [] → own_blocks_from from.place d.pieces ≡ []
  unfolding blocks_from
  nothing_written none = rw none refl

  pub tree_empty : {to : DraftState} → length o.row ≡ 0 → Wrote (leaf_block 8 now.place [] ∷ []) now to → Wrote (device_tree leaves from.place d) from to
  tree_empty {to} none wrote =
      subst (λ (bs : List (List ℕ)). Wrote bs from to)
      (ap₂ (λ (xs : List (List ℕ)) (p : ℕ). xs ++ (leaf_block 8 p [] ∷ [])) (nothing_written (without none)) (stayed none) ∙ sym (empty_tree from.place (without none)))
      (wrote_then g.written wrote)

  pub root_empty : length o.row ≡ 0 → now.place ≡ device_root leaves from.place d
  root_empty none = stayed none ∙ sym (empty_root from.place (without none))

  -- where it has leaves
  some_same : (pieces : List Piece) → 1 ≤ length (pieces_row leaves from.place pieces) → some_pieces pieces ≡ pieces
  some_same [] some = absurd (omega (arith, some))
  some_same (piece ∷ pieces) some = refl

  here : now.place ≡ from.place + length (flat_map own_leaves d.pieces)
  here = omega (arith, grown_place g, g.own)

  same : 1 ≤ length o.row → some_pieces d.pieces ≡ d.pieces
  same some = some_same d.pieces (omega (arith, some, ap (λ (es : List Entry). length es) g.row))

  pub tree_done : {to : DraftState} → 1 ≤ length o.row → Wrote (blocks_from inner_block now.place (levels_above 10 now.place o.row)) now to → Wrote (device_tree leaves from.place d) from to
  unfolding device_tree device_row
  tree_done {to} some wrote =
      rw (same some) (subst (λ (bs : List (List ℕ)). Wrote bs from to)
      (ap₂ (λ (p : ℕ) (row : List Entry). own_blocks_from from.place d.pieces ++ blocks_from inner_block p (levels_above 10 p row)) here g.row)
      (wrote_then g.written wrote))

  pub root_done : 1 ≤ length o.row → root_above now.place o.row ≡ device_root leaves from.place d
  unfolding device_root device_row
  root_done some = rw (same some) (ap₂ root_above here g.row)

pub on_ok_three : {T E P Q R S : Type 0} (r : Result T E) → OnOk r P → OnOk r Q → OnOk r R → (P → Q → R → S) → OnOk r S
on_ok_three (Ok x) p q s f = f p q s
on_ok_three (Err e) p q s f = tt
