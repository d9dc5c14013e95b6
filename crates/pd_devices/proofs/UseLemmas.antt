-- What was gathered with the use of a leaf more.
use Rattle.std.proofs.Common.{◌≡◌, ℕ, zero, suc, ◌+◌, ◌<◌, false, List, [], ◌∷◌, ◌++◌, length, length-append, map, sum, sum_by, get_or, slice_get, unwrap_or, refl, sym, ◌∙◌, ap, subst, arith, append_assoc, Option, None, Some}
use Rattle.std.specs.List.{AllByRecursion, flat_map}
use Rattle.std.proofs.lemmas.Bool.{true≢false}
use Rattle.std.proofs.lemmas.List.{append-nil}
use Rattle.std.proofs.lemmas.List.Concat.{flat_map-append}
use Rattle.std.proofs.lemmas.List.Sums.{sum_by-cons, sum_by-append}
use Rattle.pd_grammar.specs.Need.{nodes_for}
use Rattle.pd_grammar.specs.ThinText.{Line, Run, use_line, data_blocks_of, end_of, has_device, leaf_number, least_of, number_in, runs_of_leaf, unmapped}
use Rattle.pd_grammar.proofs.ThinMeaning.{run_fits}
use Rattle.pd_grammar.specs.ThinText as text
use Rattle.pd_laid.specs.LaidThin.{details_items}
use Rattle.pd_laid.specs.Shape.{Piece, shared, ShapeDevice, uses_of_piece}
use Rattle.pd_laid.specs.Laid.{first_key}
use Rattle.pd_laid.specs.PoolText.{Told, leaves_of_told, own_number, tell_newest, told_devices, mappings_of_runs}
use Rattle.pd_laid.proofs.LeafRuns.{HaveTold, IsLeaf, all_at, list_at, number_mapped, told_use}
use Rattle.pd_laid.specs.PoolText as told
use Rattle.pd_draft.specs.Closed.{DraftState}
use Rattle.pd_count.specs.Counted.{HasCounted}
use Rattle.pd_texts.specs.ThinState.{IsUseLine}
use Rattle.pd_devices.specs.SharedGathered.{AreAllTold, HasGathered, IsOpen, IsTold, leaf_left, leaves_so_far, number_of}
use Rattle.pd_devices.specs.SharedGrowth.{Grown, HasHeld}
use Rattle.pd_devices.specs.Told.{Open, open_device, after_use, opened, open_runs, ended_leaf, ended_device, leaf_items, whole_leaves, whole_devices, own_piece, with_pieces}
use Rattle.pd_devices.specs.declared.shared_devices.SharedDevices.{SharedDevices}
use Rattle.pd_devices.specs.declared.growing.Growing.{Growing}
use Rattle.pd_devices.proofs.GatherLemmas.{DeviceCase, is_nothing, is_leaf, is_device, which}
use Rattle.pd_devices.proofs.EndedLemmas.{piece_numbers, piece_one, piece_uses}
use Rattle.pd_devices.proofs.PieceLemmas.{end_next, first_of_runs, rises_least, runs_rise}
use Rattle.pd_devices.proofs.RunLemmas.{details_kept}

-- what is told of the newest device with a use more
told_more : (t : Told) (d : ShapeDevice) (runs : List Run) (n : ℕ) → IsTold t d runs → IsTold (told.with_use t) (with_pieces (shared n ∷ []) (with_pieces (own_piece runs) d)) []
told_more t d runs n is =
    let front = d.pieces ++ own_piece runs in
    let last = shared n ∷ [] in
    let numbers = flat_map-append own_number front last in
    let first = flat_map-append own_number d.pieces (own_piece runs) in
    let uses = flat_map-append uses_of_piece front last in
    let before = flat_map-append uses_of_piece d.pieces (own_piece runs) in
    record {
      rest = t.own;
      in_run = refl;
      own = refl;
      spread = omega (
        arith,
        ap (λ (ns : List ℕ). sum_by (λ n. nodes_for 252 n) ns) is.own,
        sum_by-append (λ n. nodes_for 252 n) (number_of runs) is.rest,
        is.spread,
        ap (λ (ns : List ℕ). sum_by (λ n. nodes_for 252 n) ns) numbers,
        sum_by-append (λ n. nodes_for 252 n) (flat_map own_number front) [],
        ap (λ (ns : List ℕ). sum_by (λ n. nodes_for 252 n) ns) first,
        sum_by-append (λ n. nodes_for 252 n) (flat_map own_number d.pieces) (flat_map own_number (own_piece runs)),
        ap (λ (ns : List ℕ). sum_by (λ n. nodes_for 252 n) ns) (piece_numbers runs),
      );
      pieces = omega (
        arith,
        ap (λ (ns : List ℕ). length ns) is.own,
        length-append (number_of runs) is.rest,
        is.pieces,
        piece_one runs,
        length-append d.pieces (own_piece runs),
        length-append front last,
      );
      uses = omega (
        arith,
        is.uses,
        ap (λ (ns : List ℕ). length ns) uses,
        length-append (flat_map uses_of_piece front) (n ∷ []),
        ap (λ (ns : List ℕ). length ns) before,
        length-append (flat_map uses_of_piece d.pieces) (flat_map uses_of_piece (own_piece runs)),
        ap (λ (ns : List ℕ). length ns) (piece_uses runs),
      );
    }

-- the leaf that is used, and its place among the least keys
pub record UsedLeaf (leaves : List (List Run)) (n : ℕ) (runs : List Run) : Type 0 where
  pub first : least_of runs ≡ first_key (unwrap_or (slice_get (leaf_items leaves) n) [])
  pub below : least_of runs < end_of runs
  pub listed : get_or (map least_of leaves) n 0 ≡ least_of runs
  pub within : n < length leaves

runs_end : (blocks : ℕ) (runs : List Run) → IsLeaf blocks runs → least_of runs < end_of runs
runs_end blocks [] leaf = absurd (omega (arith, leaf.some))
runs_end blocks (r ∷ runs) leaf =
    let fits = run_fits blocks 0 r.virtual_block r.data_block r.time r.length (mappings_of_runs runs) leaf.mappings leaf.have.0 in
    let rest = rises_least _ _ _ (runs_rise blocks (r.virtual_block + r.length) runs leaf.have.1 fits.1) in
    omega (arith, rest, end_next 0 r runs, leaf.have.0)

first_is : (blocks : ℕ) (leaves : List (List Run)) (n : ℕ) → AllByRecursion (IsLeaf blocks) leaves → n < length leaves
    → UsedLeaf leaves n (list_at leaves n)
first_is blocks [] n all within = absurd (omega (arith, within))
first_is blocks (runs ∷ leaves) zero all within = record { first = here runs all.0; below = runs_end blocks runs all.0; listed = refl; within = within }
  where
    here : (runs : List Run) → IsLeaf blocks runs → least_of runs ≡ first_key (unwrap_or (slice_get (leaf_items (runs ∷ leaves)) 0) [])
    here [] leaf = absurd (omega (arith, leaf.some))
    here (r ∷ runs) leaf = let f = first_of_runs r runs leaf.have.0 in sym (ap first_key f.2.0 ∙ f.2.1)
first_is blocks (runs ∷ leaves) (suc n) all within =
    let rest = first_is blocks leaves n all.1 (omega (arith, within)) in
    record { first = rest.first; below = rest.below; listed = rest.listed; within = within }

pub used_leaf : {room : ℕ} {before : List Line} {s : SharedDevices} {start now : DraftState} (n : ℕ) (h : HasGathered room before s start now) → ended_leaf (opened before) ≡ [] → n < leaf_number before
    → UsedLeaf (whole_leaves before) n (runs_of_leaf before n)
used_leaf {room} {before} {s} {start} {now} n h none told =
    let w = whole_leaves before in
    let all = subst (λ (ls : List (List Run)). HaveTold before (w ++ ls)) none h.leaves.told in
    let t = subst (HaveTold before) (append-nil w) all in
    subst (UsedLeaf w n) (sym (t.runs n)) (first_is (data_blocks_of before) w n h.leaves.lawful (omega (arith, told, t.number)))

-- no leaf can be used where no device is open
pub not_used : {room : ℕ} {before : List Line} {s : SharedDevices} {start now : DraftState} (n : ℕ) (h : HasGathered room before s start now) → s.growing ≡ None → IsUseLine before n → ⊥
not_used {room} {before} {s} {start} {now} n h growing next = elim (which h) [
  | is_nothing opens none same full ↦
      let w = whole_leaves before in
      let t = subst (HaveTold before) (append-nil w) (subst (λ (o : Open). HaveTold before (w ++ ended_leaf o)) opens h.leaves.told) in
      let leaf = all_at (IsLeaf (data_blocks_of before)) w n h.leaves.lawful (omega (arith, next.told, t.number)) in
      omega (arith, leaf.some, full, next.mapped, ap number_in (t.runs n), number_mapped (list_at w n))
  | is_leaf runs opens none same lo ↦ true≢false (sym next.has_device ∙ lo.none)
  | is_device d runs o opens some do_ ↦ none_is_some o (sym growing ∙ some)
]
  where
    none_is_some : (o : Growing) → None ≡ Some o → ⊥
    none_is_some o e = cc

pub gathered_use : {room : ℕ} {start mid now : DraftState} (before : List Line) (old new : SharedDevices) (n : ℕ) (o p : Growing) (h : HasGathered room before old start mid) → IsUseLine before n
    → (c : DeviceCase before o h.behind mid)
    → n < room → new.counts ≡ old.counts → new.uses.counts.size ≡ old.uses.counts.size → new.uses.total ≡ old.uses.total + 1 → HasCounted new.uses.counts (n ∷ text.uses_of before)
    → new.leaves ≡ old.leaves → new.firsts ≡ old.firsts → new.trees ≡ old.trees → new.roots ≡ old.roots → new.details ≡ old.details → HasHeld [] new.held → new.growing ≡ Some p
    → Grown (leaf_items (whole_leaves before)) (with_pieces (shared n ∷ []) (with_pieces (own_piece c.runs) c.device)) (end_of (runs_of_leaf before n)) p h.behind now
    → HasGathered room (use_line n ∷ before) new start now
gathered_use {room} {start} {mid} {now} before old new n o p h next c small counts size total counted leaves firsts trees roots details held growing grown =
    let w = whole_leaves before in
    let wd = whole_devices before in
    let d = c.device in
    let runs = c.runs in
    let dd = with_pieces (shared n ∷ []) (with_pieces (own_piece runs) d) in
    let after : opened (use_line n ∷ before) ≡ open_device dd [] = ap (after_use n) c.opens in
    let t = subst (AreAllTold (told_devices before) wd) c.opens h.listed.told in
    let both : told_devices (use_line n ∷ before) ≡ told.with_use t.newest ∷ t.older = ap (tell_newest told.with_use) t.both in
    record {
      version = h.version;
      begin = h.begin;
      counts = record {
        counted = rw counts h.counts.counted;
        size = rw counts h.counts.size;
        small = h.counts.small;
        total = rw counts (omega (
          arith,
          h.counts.total,
          ap (λ (o : Open). leaf_left o (unmapped (use_line n ∷ before))) after,
          ap (λ (ts : List Told). sum_by (λ (t : Told). sum t.own) ts) t.both,
          ap (λ (ts : List Told). sum_by (λ (t : Told). sum t.own) ts) both,
          sum_by-cons (λ (t : Told). sum t.own) t.newest t.older,
          sum_by-cons (λ (t : Told). sum t.own) (told.with_use t.newest) t.older,
        ));
        uses_counted = counted;
        uses_size = size ∙ h.counts.uses_size;
        uses_total = omega (
          arith,
          total,
          h.counts.uses_total,
          ap (λ (ts : List Told). sum_by (λ (t : Told). t.uses) ts) t.both,
          ap (λ (ts : List Told). sum_by (λ (t : Told). t.uses) ts) both,
          sum_by-cons (λ (t : Told). t.uses) t.newest t.older,
          sum_by-cons (λ (t : Told). t.uses) (told.with_use t.newest) t.older,
        );
        uses_within = ((next.told, small), h.counts.uses_within);
      };
      leaves = record {
        number = rw leaves h.leaves.number;
        told = subst (λ (o : Open). HaveTold (use_line n ∷ before) (w ++ ended_leaf o)) (sym after) (told_use before n (w ++ []) (subst (λ (o : Open). HaveTold before (w ++ ended_leaf o)) c.opens h.leaves.told));
        lawful = h.leaves.lawful;
        firsts = rw firsts h.leaves.firsts;
        alone = h.leaves.alone;
      };
      listed = record {
        roots = rw roots h.listed.roots;
        details = rw details (h.listed.details ∙ (ap (λ (o : Open). details_items (wd ++ ended_device o)) c.opens
            ∙ (details_kept wd d (own_piece runs) ((own_piece runs ++ shared n ∷ []) ++ []) ∙ (same_device wd d (own_piece runs) (shared n ∷ [])
            ∙ sym (ap (λ (o : Open). details_items (wd ++ ended_device o)) after)))));
        roots_fit = rw roots h.listed.roots_fit;
        details_fit = rw details h.listed.details_fit;
        trees = rw trees h.listed.trees;
        number = rw details (omega (arith, h.listed.number, ap (λ (ts : List Told). length ts) t.both, ap (λ (ts : List Told). length ts) both));
        told = subst (AreAllTold (told_devices (use_line n ∷ before)) wd) (sym after)
            (record { newest = told.with_use t.newest; older = t.older; both = both; over = t.over; last = told_more t.newest d runs n t.last });
        so_far = subst (λ (o : Open). leaves_of_told false (told_devices (use_line n ∷ before)) ≡ leaves_so_far o (told_devices (use_line n ∷ before))) (sym after) refl;
      };
      held = subst (λ (o : Open). HasHeld (open_runs o) new.held) (sym after) held;
      behind = h.behind;
      written = h.written;
      growing = subst (λ (o : Open). IsOpen (use_line n ∷ before) o new.growing h.behind now) (sym after)
          (subst (λ (g : Option Growing). IsOpen (use_line n ∷ before) (open_device dd []) g h.behind now) (sym growing)
          (record {
            has = c.is.has;
            low = end_of (runs_of_leaf before n);
            grown = grown;
            runs_are = record { have = tt; mappings = tt; ends = omega arith };
          }));
      place = h.place;
    }
  where
    same_device : (ds : List ShapeDevice) (d : ShapeDevice) (ps qs : List Piece)
        → details_items (ds ++ with_pieces ((ps ++ qs) ++ []) d ∷ []) ≡ details_items (ds ++ with_pieces [] (with_pieces qs (with_pieces ps d)) ∷ [])
    same_device ds d ps qs =
        ap (λ (e : ShapeDevice). details_items (ds ++ e ∷ []))
        (ap (λ (all : List Piece). record { id = d.id; mapped = d.mapped; transaction = d.transaction; created = d.created; snapped = d.snapped; pieces = all })
        (sym (append_assoc d.pieces (ps ++ qs) []) ∙ ap (λ (all : List Piece). all ++ []) (sym (append_assoc d.pieces ps qs))))
