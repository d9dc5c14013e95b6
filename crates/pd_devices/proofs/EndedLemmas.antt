-- What was gathered where a leaf or a device ends.
use Rattle.std.proofs.Common.{◌≡◌, ℕ, ◌+◌, ◌-◌, ◌≤◌, ◌<◌, ◌^◌, min, false, eqb, List, [], ◌∷◌, ◌++◌, length, length-append, map, sum_by, refl, sym, ◌∙◌, ap, ap₂, subst, arith, None}
use Rattle.std.specs.List.{AllByRecursion, flat_map}
use Rattle.std.proofs.lemmas.List.{append-nil, map-append, length-map}
use Rattle.std.proofs.lemmas.List.Concat.{flat_map-append}
use Rattle.std.proofs.lemmas.List.Sums.{sum_by-cons, sum_by-append}
use Rattle.std.proofs.lemmas.List.Elements.{All-push}
use Rattle.std.proofs.lemmas.Bool.{lt-ltb, true≢false}
use Rattle.std.proofs.lemmas.Bool.Decides.{nat_tests}
use Rattle.pd_kinds.specs.Node.{Entry, leaf_block}
use Rattle.pd_grammar.specs.Need.{nodes_for, need_above}
use Rattle.pd_grammar.specs.ThinText.{Line, Run, end_line, data_blocks_of, least_of, unmapped}
use Rattle.pd_laid.specs.LaidThin.{details_items, device_root, own_leaves}
use Rattle.pd_laid.specs.Shape.{Piece, own, shared, ShapeDevice, uses_of_piece}
use Rattle.pd_laid.specs.PoolText.{Told, leaves_of_ended, leaves_of_pieces, need_of_leaves, own_number, told_devices, mappings_of_runs}
use Rattle.pd_laid.proofs.LeafRuns.{HaveTold, IsLeaf, number_mapped}
use Rattle.pd_laid.proofs.NeedGrows.{ended_are}
use Rattle.pd_laid.proofs.ShapeCut.{some_mappings}
use Rattle.pd_value.specs.declared.thin.Root.{Root}
use Rattle.pd_node.specs.Items.{entries_of}
use Rattle.pd_draft.specs.Closed.{DraftState, Wrote}
use Rattle.pd_draft.proofs.DraftLemmas.{wrote_then}
use Rattle.pd_devices.proofs.DeviceLemmas.{root_code, root_fits}
use Rattle.pd_devices.specs.SharedGathered.{AreAllTold, AreTold, AreToldWith, HasCounts, HasGathered, IsDeviceOpen, IsLeafOpen, IsTold, number_of}
use Rattle.pd_devices.specs.SharedGrowth.{need_ended, HasHeld, held_runs, items_of_runs, AreHeld}
use Rattle.pd_devices.specs.Told.{Open, open_leaf, open_device, opened, open_runs, ended_leaf, ended_device, whole_leaves, whole_devices, leaves_told, leaf_items, own_piece, with_pieces}
use Rattle.pd_devices.specs.declared.shared_devices.SharedDevices.{SharedDevices}
use Rattle.pd_devices.specs.declared.growing.Growing.{Growing}
use Rattle.pd_devices.proofs.TreeLemmas.{leaf_more, device_more, root_more, trees_more}
use Rattle.pd_laws_laid.specs.Shared.{device_roots, device_tree, leaves_and_trees, trees_need, IsFilled}
use Rattle.pd_laws_laid.proofs.DeviceNames.{leaves_number, own_length, tree_need}

-- what stays where anything ends
ended_counts : {room : ℕ} (before : List Line) (old new : SharedDevices) → HasCounts room before old → new.counts ≡ old.counts → new.uses ≡ old.uses → HasCounts room (end_line ∷ before) new
ended_counts {room} before old new c counts uses = record {
  counted = rw counts c.counted;
  size = rw counts c.size;
  small = c.small;
  total = rw counts (omega (arith, c.total));
  uses_counted = rw uses c.uses_counted;
  uses_size = rw uses c.uses_size;
  uses_total = rw uses c.uses_total;
  uses_within = c.uses_within;
}

ended_leaves_told : (before : List Line) (leaves : List (List Run)) → HaveTold before leaves → HaveTold (end_line ∷ before) (leaves ++ [])
ended_leaves_told before leaves told = subst (HaveTold (end_line ∷ before)) (sym (append-nil leaves)) (record { number = told.number; runs = told.runs })

all_leaves_push : (P : List Run → Type 0) (xs : List (List Run)) (x : List Run) → AllByRecursion P xs → P x → AllByRecursion P (xs ++ x ∷ [])
all_leaves_push P [] x all last = (last, tt)
all_leaves_push P (y ∷ xs) x all last = (all.0, all_leaves_push P xs x all.1 last)

-- a leaf ended
pub ended_with_leaf : {room : ℕ} {start mid now : DraftState} (before : List Line) (old new : SharedDevices) (least : ℕ) (runs : List Run) (h : HasGathered room before old start mid)
    → opened before ≡ open_leaf runs → h.behind ≡ mid → IsLeafOpen before runs → unmapped before ≡ 0
    → new.counts ≡ old.counts → new.uses ≡ old.uses → new.leaves ≡ old.leaves → new.firsts.items ≡ old.firsts.items ++ least ∷ [] → least ≡ least_of (held_runs old.held)
    → new.trees ≡ old.trees → new.roots ≡ old.roots → new.details ≡ old.details → HasHeld [] new.held → new.growing ≡ None
    → Wrote (leaf_block 8 mid.place (items_of_runs (held_runs old.held)) ∷ []) mid now
    → HasGathered room (end_line ∷ before) new start now
unfolding device_roots
ended_with_leaf {room} {start} {mid} {now} before old new least runs h opens same lo full counts uses leaves firsts least_is trees roots details held growing wrote =
    let w = whole_leaves before in
    let wd = whole_devices before in
    let none : wd ≡ [] = h.leaves.alone lo.none in
    let all : whole_leaves (end_line ∷ before) ≡ w ++ runs ∷ [] = ap (λ (o : Open). w ++ ended_leaf o) opens in
    let dev : whole_devices (end_line ∷ before) ≡ wd = ap (λ (o : Open). wd ++ ended_device o) opens ∙ append-nil wd in
    let runs_are : held_runs old.held ≡ runs = h.held.runs_are ∙ ap open_runs opens in
    let leaf : IsLeaf (data_blocks_of before) runs =
    record { have = lo.runs_are.have; some = omega (arith, lo.some, full); few = omega (arith, lo.few, full); mappings = lo.runs_are.mappings } in
    let mappings : leaves_told (whole_leaves (end_line ∷ before)) ≡ leaves_told w ++ mappings_of_runs runs ∷ [] = ap leaves_told all ∙ map-append mappings_of_runs w (runs ∷ []) in
    let place : 1 + length (leaves_told w) ≡ mid.place =
    omega (arith, length-map w mappings_of_runs, h.place, ap trees_need none, ap (λ (at : DraftState). at.place) same) in
    let blocks : leaves_and_trees (leaves_told (whole_leaves (end_line ∷ before))) (whole_devices (end_line ∷ before))
    ≡ leaves_and_trees (leaves_told w) wd ++ (leaf_block 8 mid.place (items_of_runs (held_runs old.held)) ∷ []) =
    ap₂ leaves_and_trees mappings (dev ∙ none)
    ∙ (leaf_more (leaves_told w) (mappings_of_runs runs)
    ∙ (ap₂ (λ (ds : List ShapeDevice) (p : ℕ). leaves_and_trees (leaves_told w) ds ++ (leaf_block 8 p (items_of_runs runs) ∷ [])) (sym none) place
    ∙ ap (λ (rs : List Run). leaves_and_trees (leaves_told w) wd ++ (leaf_block 8 mid.place (items_of_runs rs) ∷ [])) (sym runs_are))) in
    record {
      version = h.version;
      begin = h.begin;
      counts = ended_counts before old new h.counts counts uses;
      leaves = record {
        number = rw leaves h.leaves.number;
        told = ended_leaves_told before (w ++ ended_leaf (opened before)) h.leaves.told;
        lawful = subst (AllByRecursion (IsLeaf (data_blocks_of before))) (sym all) (all_leaves_push (IsLeaf (data_blocks_of before)) w runs h.leaves.lawful leaf);
        firsts =
            firsts
            ∙ (ap₂ (λ (xs : List ℕ) (x : ℕ). xs ++ x ∷ []) h.leaves.firsts (least_is ∙ ap least_of runs_are)
            ∙ (sym (map-append least_of w (runs ∷ [])) ∙ ap (map least_of) (sym all)));
        alone = λ alone. dev ∙ none;
      };
      listed = record {
        roots = rw roots (h.listed.roots ∙ (no_roots _ _ wd none ∙ sym (no_roots _ _ (whole_devices (end_line ∷ before)) (dev ∙ none))));
        details = rw details (h.listed.details ∙ ap details_items (sym (append-nil (wd ++ ended_device (opened before)))));
        roots_fit = rw roots h.listed.roots_fit;
        details_fit = rw details h.listed.details_fit;
        trees = rw trees (h.listed.trees ∙ ap (λ (ds : List ShapeDevice). min (trees_need ds) (2 ^ 64 - 1)) (sym dev));
        number = rw details h.listed.number;
        told = subst (AreTold (told_devices before)) (sym dev) (subst (AreAllTold (told_devices before) wd) opens h.listed.told);
        so_far = ended_are (told_devices before);
      };
      held = held;
      behind = now;
      written = subst (λ (bs : List (List ℕ)). Wrote bs start now) (sym blocks) (wrote_then (subst (λ (at : DraftState). Wrote (leaves_and_trees (leaves_told w) wd) start at) same h.written) wrote);
      growing = rw growing (refl, refl);
      place = omega (
        arith,
        wrote.moved,
        h.place,
        ap (λ (at : DraftState). at.place) same,
        ap (λ (ls : List (List Run)). length ls) all,
        length-append w (runs ∷ []),
        ap trees_need dev,
      );
    }
  where
    no_roots : (items : List (List Entry)) (at : ℕ) (ds : List ShapeDevice) → ds ≡ [] → device_roots items at ds ≡ []
    no_roots items at ds none = ap (device_roots items at) none

-- the need of a device that ended
ended_need : (pieces : List Piece) → AllByRecursion IsFilled pieces
    → need_ended (length (flat_map own_leaves pieces)) (length (flat_map uses_of_piece pieces)) ≡ need_of_leaves (leaves_of_pieces pieces)
unfolding need_above
ended_need [] filled = refl
ended_need (piece ∷ pieces) filled =
    let mine = length (flat_map own_leaves (piece ∷ pieces)) in
    let uses = length (flat_map uses_of_piece (piece ∷ pieces)) in
    let some : eqb (mine + uses) 0 ≡ false = some_leaves piece pieces filled in
    rw some (ap (λ (n : ℕ). need_of_leaves (record { own = n; all = n + uses })) (own_length (piece ∷ pieces) filled))
  where
    some_leaves : (piece : Piece) (pieces : List Piece) → AllByRecursion IsFilled (piece ∷ pieces)
        → eqb (length (flat_map own_leaves (piece ∷ pieces)) + length (flat_map uses_of_piece (piece ∷ pieces))) 0 ≡ false
    some_leaves (own ms) pieces filled =
        let mine = own_length (own ms ∷ pieces) filled in
        let sums = sum_by-cons (λ n. nodes_for 252 n) (length ms) (flat_map own_number pieces) in
        let some = filled.0 in
        let positive : 1 ≤ length (flat_map own_leaves (own ms ∷ pieces)) = omega (arith, mine, sums, some) in
        grind (arith, nat_tests, positive)
    some_leaves (shared n) pieces filled = grind (arith, nat_tests)

-- what lines told of a device that ended is what its pieces say
count_same : (pieces : List Piece) (numbers : List ℕ) (uses : ℕ) → length numbers + uses ≡ length pieces
    → sum_by (λ n. nodes_for 252 n) numbers ≡ sum_by (λ n. nodes_for 252 n) (flat_map own_number pieces) → uses ≡ length (flat_map uses_of_piece pieces)
    → leaves_of_ended (record { own = numbers; uses = uses; in_run = false }) ≡ leaves_of_pieces pieces
count_same [] numbers uses number spread used = let none : length numbers + uses ≡ 0 = number in rw none refl
count_same (piece ∷ pieces) numbers uses number spread used =
    let some : eqb (length numbers + uses) 0 ≡ false = grind (arith, nat_tests, number) in
    rw some (ap₂ (λ (n u : ℕ). record { own = n; all = n + u }) spread used)

pub piece_numbers : (runs : List Run) → flat_map own_number (own_piece runs) ≡ number_of runs
piece_numbers [] = refl
piece_numbers (r ∷ runs) = ap (λ (n : ℕ). n ∷ []) (sym (number_mapped (r ∷ runs)))

pub piece_one : (runs : List Run) → length (number_of runs) ≡ length (own_piece runs)
piece_one [] = refl
piece_one (r ∷ runs) = refl

pub piece_uses : (runs : List Run) → flat_map uses_of_piece (own_piece runs) ≡ []
piece_uses [] = refl
piece_uses (r ∷ runs) = refl

piece_leaves : (runs : List Run) → AllByRecursion IsFilled (own_piece runs) → length (flat_map own_leaves (own_piece runs)) ≡ nodes_for 252 (length (mappings_of_runs runs))
piece_leaves [] filled = refl
piece_leaves (r ∷ runs) filled =
    let ms = mappings_of_runs (r ∷ runs) in
    omega (arith, length-append (own_leaves (own ms)) [], leaves_number ms filled.0)

piece_filled : (blocks low end : ℕ) (runs : List Run) → AreHeld blocks low end runs → AllByRecursion IsFilled (own_piece runs)
piece_filled blocks low end [] held = tt
piece_filled blocks low end (r ∷ runs) held = (some_mappings r runs held.have, tt)

all_both : (xs ys : List Piece) → AllByRecursion IsFilled xs → AllByRecursion IsFilled ys → AllByRecursion IsFilled (xs ++ ys)
all_both [] ys first second = second
all_both (x ∷ xs) ys first second = (first.0, all_both xs ys first.1 second)

newest_ended : (told : Told) (d : ShapeDevice) (runs : List Run) → IsTold told d runs → leaves_of_ended told ≡ leaves_of_pieces (d.pieces ++ own_piece runs)
newest_ended told d runs is =
    let numbers = flat_map-append own_number d.pieces (own_piece runs) in
    let uses = flat_map-append uses_of_piece d.pieces (own_piece runs) in
    count_same (d.pieces ++ own_piece runs) told.own told.uses
    (omega (arith, ap (λ (ns : List ℕ). length ns) is.own, length-append (number_of runs) is.rest, is.pieces, piece_one runs, length-append d.pieces (own_piece runs)))
    (omega (
      arith,
      ap (λ (ns : List ℕ). sum_by (λ n. nodes_for 252 n) ns) is.own,
      sum_by-append (λ n. nodes_for 252 n) (number_of runs) is.rest,
      is.spread,
      ap (λ (ns : List ℕ). sum_by (λ n. nodes_for 252 n) ns) numbers,
      sum_by-append (λ n. nodes_for 252 n) (flat_map own_number d.pieces) (flat_map own_number (own_piece runs)),
      ap (λ (ns : List ℕ). sum_by (λ n. nodes_for 252 n) ns) (piece_numbers runs),
    ))
    (omega (
      arith,
      is.uses,
      ap (λ (ns : List ℕ). length ns) uses,
      length-append (flat_map uses_of_piece d.pieces) (flat_map uses_of_piece (own_piece runs)),
      ap (λ (ns : List ℕ). length ns) (piece_uses runs),
    ))

all_ended : (told : List Told) (ds : List ShapeDevice) (d : ShapeDevice) (runs : List Run) → AreToldWith told ds d runs → AreTold told (ds ++ with_pieces (own_piece runs) d ∷ [])
all_ended told ds d runs t =
    let dd = with_pieces (own_piece runs) d in
    record {
      trees = omega (
        arith,
        ap (λ (ts : List Told). sum_by need_of_leaves (map leaves_of_ended ts)) t.both,
        sum_by-cons need_of_leaves (leaves_of_ended t.newest) (map leaves_of_ended t.older),
        ap need_of_leaves (newest_ended t.newest d runs t.last),
        t.over.trees,
        trees_more ds dd,
      );
      number = omega (arith, ap (λ (ts : List Told). length ts) t.both, t.over.number, length-append ds (dd ∷ []));
    }

-- a device ended
pub ended_with_device : {room : ℕ} {start mid now : DraftState} (before : List Line) (old new : SharedDevices) (d : ShapeDevice) (runs : List Run) (o : Growing) (id root blocks : ℕ)
    (h : HasGathered room before old start mid) → opened before ≡ open_device d runs → IsDeviceOpen before d runs o h.behind mid
    → new.counts ≡ old.counts → new.uses ≡ old.uses → new.leaves ≡ old.leaves → new.firsts ≡ old.firsts → new.trees ≡ min (old.trees + blocks) (2 ^ 64 - 1)
    → new.roots.items ≡ old.roots.items ++ (id, record { 0 = root }) ∷ [] → new.details ≡ old.details → HasHeld [] new.held → new.growing ≡ None
    → id ≡ o.id → root < 2 ^ 64 → blocks ≡ need_ended (o.own + nodes_for 252 old.held.number) o.uses
    → Wrote (device_tree (leaf_items (whole_leaves before)) h.behind.place (with_pieces (own_piece (held_runs old.held)) d)) h.behind now
    → root ≡ device_root (leaf_items (whole_leaves before)) h.behind.place (with_pieces (own_piece (held_runs old.held)) d)
    → HasGathered room (end_line ∷ before) new start now
unfolding details_items
ended_with_device {room} {start} {mid} {now} before old new d runs o id root blocks h opens do_ counts uses leaves firsts trees roots details held growing id_is fits blocks_are wrote root_is =
    let w = whole_leaves before in
    let wd = whole_devices before in
    let items = leaf_items w in
    let runs_are : held_runs old.held ≡ runs = h.held.runs_are ∙ ap open_runs opens in
    let number : old.held.number ≡ length (mappings_of_runs runs) = h.held.number ∙ ap (λ (o : Open). length (mappings_of_runs (open_runs o))) opens in
    let dd = with_pieces (own_piece runs) d in
    let all : whole_leaves (end_line ∷ before) ≡ w = ap (λ (o : Open). w ++ ended_leaf o) opens ∙ append-nil w in
    let dev : whole_devices (end_line ∷ before) ≡ wd ++ dd ∷ [] = ap (λ (o : Open). wd ++ ended_device o) opens in
    let g = do_.grown in
    let mine = piece_filled (data_blocks_of before) do_.low _ runs do_.runs_are in
    let filled : AllByRecursion IsFilled dd.pieces = all_both d.pieces (own_piece runs) g.filled mine in
    let wrote_tree : Wrote (device_tree items h.behind.place dd) h.behind now = subst (λ (rs : List Run). Wrote (device_tree items h.behind.place (with_pieces (own_piece rs) d)) h.behind now) runs_are wrote in
    let root_here : root ≡ device_root items h.behind.place dd = root_is ∙ ap (λ (rs : List Run). device_root items h.behind.place (with_pieces (own_piece rs) d)) runs_are in
    let behind : h.behind.place ≡ 1 + length (leaves_and_trees (leaves_told w) wd) = omega (arith, h.written.moved, h.begin) in
    let own_is : o.own + nodes_for 252 old.held.number ≡ length (flat_map own_leaves dd.pieces) =
    omega (
      arith,
      g.own,
      ap (λ (n : ℕ). nodes_for 252 n) number,
      piece_leaves runs mine,
      ap (λ (ls : List (List Entry)). length ls) (flat_map-append own_leaves d.pieces (own_piece runs)),
      length-append (flat_map own_leaves d.pieces) (flat_map own_leaves (own_piece runs)),
    ) in
    let uses_is : o.uses ≡ length (flat_map uses_of_piece dd.pieces) =
    omega (
      arith,
      g.uses,
      ap (λ (ns : List ℕ). length ns) (flat_map-append uses_of_piece d.pieces (own_piece runs)),
      length-append (flat_map uses_of_piece d.pieces) (flat_map uses_of_piece (own_piece runs)),
      ap (λ (ns : List ℕ). length ns) (piece_uses runs),
    ) in
    let need : blocks ≡ need_of_leaves (leaves_of_pieces dd.pieces) = blocks_are ∙ (ap₂ need_ended own_is uses_is ∙ ended_need dd.pieces filled) in
    let more : trees_need (whole_devices (end_line ∷ before)) ≡ trees_need wd + need_of_leaves (leaves_of_pieces dd.pieces) = ap trees_need dev ∙ trees_more wd dd in
    record {
      version = h.version;
      begin = h.begin;
      counts = ended_counts before old new h.counts counts uses;
      leaves = record {
        number = rw leaves h.leaves.number;
        told = ended_leaves_told before (w ++ ended_leaf (opened before)) h.leaves.told;
        lawful = subst (AllByRecursion (IsLeaf (data_blocks_of before))) (sym all) h.leaves.lawful;
        firsts = rw firsts (h.leaves.firsts ∙ ap (map least_of) (sym all));
        alone = λ none. absurd (true≢false (sym do_.has ∙ none));
      };
      listed = record {
        roots =
            ap (entries_of root_code) roots
            ∙ (map-append (λ (item : ℕ × Root). record { key = item.0; value = item.1.0 }) old.roots.items ((id, record { 0 = root }) ∷ [])
            ∙ (ap (λ (es : List Entry). es ++ record { key = id; value = root } ∷ []) h.listed.roots
            ∙ (last_entry (device_roots items (1 + length (leaves_told w)) wd) id d.id root (device_root items h.behind.place dd) (id_is ∙ g.id) root_here
            ∙ (sym (root_more (leaves_told w) wd dd h.behind.place behind)
            ∙ ap₂ (λ (ls : List (List Run)) (ds : List ShapeDevice). device_roots (leaf_items ls) (1 + length (leaves_told ls)) ds) (sym all) (sym dev)))));
        details = rw details (h.listed.details ∙ ap details_items (sym (append-nil (wd ++ ended_device (opened before)))));
        roots_fit = rw roots (All-push root_fits old.roots.items (id, record { 0 = root }) h.listed.roots_fit (lt-ltb root (2 ^ 64) fits));
        details_fit = rw details h.listed.details_fit;
        trees = omega (arith, trees, h.listed.trees, need, more);
        number = rw details h.listed.number;
        told = subst (AreTold (told_devices before)) (sym dev) (all_ended (told_devices before) wd d runs (subst (AreAllTold (told_devices before) wd) opens h.listed.told));
        so_far = ended_are (told_devices before);
      };
      held = held;
      behind = now;
      written = subst (λ (bs : List (List ℕ)). Wrote bs start now)
          (sym (device_more (leaves_told w) wd dd h.behind.place behind) ∙ ap₂ (λ (ls : List (List Run)) (ds : List ShapeDevice). leaves_and_trees (leaves_told ls) ds) (sym all) (sym dev))
          (wrote_then h.written wrote_tree);
      growing = rw growing (refl, refl);
      place = omega (arith, wrote_tree.moved, h.place, tree_need items h.behind.place dd filled, more, ap (λ (ls : List (List Run)). length ls) all);
    }
  where
    last_entry : (es : List Entry) (i j v u : ℕ) → i ≡ j → v ≡ u → es ++ record { key = i; value = v } ∷ [] ≡ es ++ record { key = j; value = u } ∷ []
    last_entry es i j v u a b = cc
