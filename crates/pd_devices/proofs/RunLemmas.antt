-- What was gathered with a run more.
use Rattle.std.proofs.Common.{◌≡◌, ℕ, ◌+◌, ◌-◌, ◌*◌, ◌≤◌, false, List, [], ◌∷◌, ◌++◌, length, map, sum, sum_by, refl, sym, ◌∙◌, ap, subst, arith, Option, None, Some}
use Rattle.std.specs.List.{flat_map, range_with_len}
use Rattle.std.proofs.lemmas.List.Sums.{sum_by-cons, sum_by-append}
use Rattle.pd_kinds.specs.Node.{Entry}
use Rattle.pd_kinds.specs.Field.{details_code}
use Rattle.pd_grammar.specs.Need.{data_of_line}
use Rattle.pd_grammar.specs.ThinText.{Line, Run, map_line, leaf_number, number_in, unmapped}
use Rattle.pd_laid.specs.LaidThin.{details_items}
use Rattle.pd_laid.specs.Shape.{Piece, ShapeDevice}
use Rattle.pd_laid.specs.PoolText.{Told, leaves_of_ended, leaves_of_told, lengthened, tell_newest, told_devices, mappings_of_runs}
use Rattle.pd_laid.proofs.LeafRuns.{HaveTold, number_mapped, told_run, told_map}
use Rattle.pd_laid.specs.PoolText as told
use Rattle.pd_draft.specs.Closed.{DraftState}
use Rattle.pd_count.specs.Counted.{HasCounted}
use Rattle.pd_texts.specs.ThinState.{IsRunLine}
use Rattle.pd_devices.proofs.GrowthLemmas.{run_data}
use Rattle.pd_devices.specs.SharedGathered.{AreAllTold, AreTold, HasGathered, IsDeviceOpen, IsLeafOpen, IsOpen, IsTold, leaf_left, leaves_so_far, number_of}
use Rattle.pd_devices.specs.SharedGrowth.{HasHeld}
use Rattle.pd_devices.specs.Told.{Open, open_leaf, open_device, after_run, opened, open_runs, ended_leaf, ended_device, whole_leaves, whole_devices, own_piece, with_pieces}
use Rattle.pd_devices.specs.declared.shared_devices.SharedDevices.{SharedDevices}
use Rattle.pd_devices.specs.declared.growing.Growing.{Growing}
use Rattle.pd_devices.proofs.GatherLemmas.{is_nothing, is_leaf, is_device, which}
use Rattle.pd_devices.proofs.PieceLemmas.{held_behind, number_behind}

pub none_told : (told : List Told) → length told ≡ 0 → told ≡ []
none_told [] none = refl
none_told (newest ∷ older) none = absurd (omega (arith, none))

one_number : (r : Run) → number_in (r ∷ []) ≡ r.length
one_number r = sum_by-cons (λ (s : Run). s.length) r [] ∙ omega arith

more_numbers : (runs : List Run) (r : Run) → number_in (runs ++ r ∷ []) ≡ number_in runs + r.length
more_numbers runs r = sum_by-append (λ (s : Run). s.length) runs (r ∷ []) ∙ ap (λ (n : ℕ). number_in runs + n) (one_number r)

-- what is told of the newest device with a run more
pub told_more : (t : Told) (d : ShapeDevice) (runs : List Run) (r : Run) → IsTold t d runs → IsTold (told.with_run r.length t) d (runs ++ r ∷ [])
told_more t d [] r is = record {
  rest = is.rest;
  in_run = refl;
  own = rw is.in_run (ap (λ (ns : List ℕ). r.length ∷ ns) is.own ∙ ap (λ (n : ℕ). n ∷ is.rest) (sym (one_number r)));
  spread = is.spread;
  pieces = is.pieces;
  uses = is.uses;
}
told_more t d (s ∷ runs) r is = record {
  rest = is.rest;
  in_run = refl;
  own = rw is.in_run (ap (lengthened r.length) is.own ∙ ap (λ (n : ℕ). n ∷ is.rest) (sym (more_numbers (s ∷ runs) r)));
  spread = is.spread;
  pieces = is.pieces;
  uses = is.uses;
}

-- and its mappings are as many more
own_more : (t : Told) (d : ShapeDevice) (runs : List Run) (r : Run) → IsTold t d runs → sum (told.with_run r.length t).own ≡ sum t.own + r.length
own_more t d [] r is = rw is.in_run (sum_by-cons (λ (n : ℕ). n) r.length t.own ∙ omega arith)
own_more t d (s ∷ runs) r is =
    let first = ap (λ (ns : List ℕ). sum ns) is.own in
    let old = sum_by-cons (λ (n : ℕ). n) (number_in (s ∷ runs)) is.rest in
    let new = sum_by-cons (λ (n : ℕ). n) (number_in (s ∷ runs) + r.length) is.rest in
    let longer = ap (λ (ns : List ℕ). sum (lengthened r.length ns)) is.own in
    rw is.in_run (omega (arith, first, old, new, longer))

-- the details of a device stay, whatever its pieces
pub details_kept : (ds : List ShapeDevice) (d : ShapeDevice) (ps qs : List Piece) → details_items (ds ++ with_pieces ps d ∷ []) ≡ details_items (ds ++ with_pieces qs d ∷ [])
unfolding details_items
details_kept [] d ps qs = refl
details_kept (e ∷ ds) d ps qs = ap (λ (es : List Entry). record { key = e.id; value = details_code e.mapped e.transaction e.created e.snapped } ∷ es) (details_kept ds d ps qs)

pub gathered_run : {room : ℕ} {start now : DraftState} (before : List Line) (old new : SharedDevices) (r : Run) → HasGathered room before old start now → IsRunLine before r
    → new.counts.counts.size ≡ old.counts.counts.size → new.counts.total ≡ old.counts.total + r.length
    → HasCounted new.counts.counts (range_with_len r.data_block r.length ++ flat_map data_of_line before)
    → HasHeld (open_runs (opened before) ++ r ∷ []) new.held
    → new.uses ≡ old.uses → new.leaves ≡ old.leaves → new.firsts ≡ old.firsts → new.trees ≡ old.trees → new.roots ≡ old.roots → new.details ≡ old.details → new.growing ≡ old.growing
    → HasGathered room (map_line r ∷ before) new start now
gathered_run {room} {start} {now} before old new r h next size total counted held uses leaves firsts trees roots details growing =
    elim (which h) [
      | is_nothing opens none same full ↦ absurd (omega (arith, next.some, next.mapped, full))
      | is_leaf runs opens none same lo ↦ of_leaf runs opens none same lo
      | is_device d runs o opens some do_ ↦ of_device d runs o opens some do_
    ]
  where
    data_counted : HasCounted new.counts.counts (flat_map data_of_line (map_line r ∷ before))
    data_counted = subst (λ (ns : List ℕ). HasCounted new.counts.counts (ns ++ flat_map data_of_line before)) (sym (run_data r.virtual_block r.data_block r.time r.length)) counted

    of_leaf : (runs : List Run) → opened before ≡ open_leaf runs → old.growing ≡ None → h.behind ≡ now → IsLeafOpen before runs → HasGathered room (map_line r ∷ before) new start now
    of_leaf runs opens none same lo =
        let w = whole_leaves before in
        let wd = whole_devices before in
        let after : opened (map_line r ∷ before) ≡ open_leaf (runs ++ r ∷ []) = ap (after_run r) opens in
        let over = subst (AreAllTold (told_devices before) wd) opens h.listed.told in
        let untold : told_devices before ≡ [] = none_told (told_devices before) (omega (arith, over.number, ap (λ (ds : List ShapeDevice). length ds) (h.leaves.alone lo.none))) in
        let still : told_devices (map_line r ∷ before) ≡ [] = ap (tell_newest (told.with_run r.length)) untold in
        record {
          version = h.version;
          begin = h.begin;
          counts = record {
            counted = data_counted;
            size = size ∙ h.counts.size;
            small = h.counts.small;
            total = omega (
              arith,
              total,
              h.counts.total,
              next.mapped,
              ap (λ (o : Open). leaf_left o (unmapped before)) opens,
              ap (λ (o : Open). leaf_left o (unmapped before - r.length)) after,
              ap (λ (ts : List Told). sum_by (λ (t : Told). sum t.own) ts) untold,
              ap (λ (ts : List Told). sum_by (λ (t : Told). sum t.own) ts) still,
            );
            uses_counted = rw uses h.counts.uses_counted;
            uses_size = rw uses h.counts.uses_size;
            uses_total = rw uses (h.counts.uses_total ∙ ap (λ (ts : List Told). sum_by (λ (t : Told). t.uses) ts) (untold ∙ sym still));
            uses_within = h.counts.uses_within;
          };
          leaves = record {
            number = rw leaves h.leaves.number;
            told = subst (λ (o : Open). HaveTold (map_line r ∷ before) (w ++ ended_leaf o)) (sym after) (told_run before r w runs lo.none (subst (λ (o : Open). HaveTold before (w ++ ended_leaf o)) opens h.leaves.told));
            lawful = h.leaves.lawful;
            firsts = rw firsts h.leaves.firsts;
            alone = h.leaves.alone;
          };
          listed = record {
            roots = rw roots h.listed.roots;
            details = rw details (h.listed.details ∙ (ap (λ (o : Open). details_items (wd ++ ended_device o)) opens ∙ sym (ap (λ (o : Open). details_items (wd ++ ended_device o)) after)));
            roots_fit = rw roots h.listed.roots_fit;
            details_fit = rw details h.listed.details_fit;
            trees = rw trees h.listed.trees;
            number = rw details (h.listed.number ∙ ap (λ (ts : List Told). length ts) (untold ∙ sym still));
            told = subst (AreAllTold (told_devices (map_line r ∷ before)) wd) (sym after) (subst (λ (ts : List Told). AreTold ts wd) (untold ∙ sym still) over);
            so_far = subst (λ (o : Open). leaves_of_told false (told_devices (map_line r ∷ before)) ≡ leaves_so_far o (told_devices (map_line r ∷ before))) (sym after)
                (subst (λ (ts : List Told). leaves_of_told false ts ≡ map leaves_of_ended ts) (sym still) refl);
          };
          held = subst (λ (o : Open). HasHeld (open_runs o) new.held) (sym after) (subst (λ (o : Open). HasHeld (open_runs o ++ r ∷ []) new.held) opens held);
          behind = h.behind;
          written = h.written;
          growing = subst (λ (o : Open). IsOpen (map_line r ∷ before) o new.growing h.behind now) (sym after)
              (subst (λ (g : Option Growing). IsOpen (map_line r ∷ before) (open_leaf (runs ++ r ∷ [])) g h.behind now) (sym (growing ∙ none)) (
                same,
                record {
                  none = lo.none;
                  runs_are = held_behind r lo.runs_are next.above next.some next.virtual_fits next.within next.time_fits;
                  some = omega (arith, lo.some, next.mapped, number_behind runs r);
                  few = omega (arith, lo.few, next.mapped, number_behind runs r);
                },
              ));
          place = h.place;
        }

    of_device : (d : ShapeDevice) (runs : List Run) (o : Growing) → opened before ≡ open_device d runs → old.growing ≡ Some o → IsDeviceOpen before d runs o h.behind now
        → HasGathered room (map_line r ∷ before) new start now
    of_device d runs o opens some do_ =
        let w = whole_leaves before in
        let wd = whole_devices before in
        let longer = runs ++ r ∷ [] in
        let after : opened (map_line r ∷ before) ≡ open_device d longer = ap (after_run r) opens in
        let t = subst (AreAllTold (told_devices before) wd) opens h.listed.told in
        let n = r.length in
        let both : told_devices (map_line r ∷ before) ≡ told.with_run n t.newest ∷ t.older = ap (tell_newest (told.with_run n)) t.both in
        record {
          version = h.version;
          begin = h.begin;
          counts = record {
            counted = data_counted;
            size = size ∙ h.counts.size;
            small = h.counts.small;
            total = omega (
              arith,
              total,
              h.counts.total,
              ap (λ (o : Open). leaf_left o (unmapped before - r.length)) after,
              ap (λ (ts : List Told). sum_by (λ (t : Told). sum t.own) ts) t.both,
              ap (λ (ts : List Told). sum_by (λ (t : Told). sum t.own) ts) both,
              sum_by-cons (λ (t : Told). sum t.own) t.newest t.older,
              sum_by-cons (λ (t : Told). sum t.own) (told.with_run n t.newest) t.older,
              own_more t.newest d runs r t.last,
            );
            uses_counted = rw uses h.counts.uses_counted;
            uses_size = rw uses h.counts.uses_size;
            uses_total = rw uses (omega (
              arith,
              h.counts.uses_total,
              ap (λ (ts : List Told). sum_by (λ (t : Told). t.uses) ts) t.both,
              ap (λ (ts : List Told). sum_by (λ (t : Told). t.uses) ts) both,
              sum_by-cons (λ (t : Told). t.uses) t.newest t.older,
              sum_by-cons (λ (t : Told). t.uses) (told.with_run n t.newest) t.older,
            ));
            uses_within = h.counts.uses_within;
          };
          leaves = record {
            number = rw leaves h.leaves.number;
            told = subst (λ (o : Open). HaveTold (map_line r ∷ before) (w ++ ended_leaf o)) (sym after) (told_map before r (w ++ []) do_.has (subst (λ (o : Open). HaveTold before (w ++ ended_leaf o)) opens h.leaves.told));
            lawful = h.leaves.lawful;
            firsts = rw firsts h.leaves.firsts;
            alone = h.leaves.alone;
          };
          listed = record {
            roots = rw roots h.listed.roots;
            details = rw details (h.listed.details ∙ (ap (λ (o : Open). details_items (wd ++ ended_device o)) opens
                ∙ (details_kept wd d (own_piece runs) (own_piece longer) ∙ sym (ap (λ (o : Open). details_items (wd ++ ended_device o)) after))));
            roots_fit = rw roots h.listed.roots_fit;
            details_fit = rw details h.listed.details_fit;
            trees = rw trees h.listed.trees;
            number = rw details (omega (arith, h.listed.number, ap (λ (ts : List Told). length ts) t.both, ap (λ (ts : List Told). length ts) both));
            told = subst (AreAllTold (told_devices (map_line r ∷ before)) wd) (sym after)
                (record { newest = told.with_run n t.newest; older = t.older; both = both; over = t.over; last = told_more t.newest d runs r t.last });
            so_far = subst (λ (o : Open). leaves_of_told false (told_devices (map_line r ∷ before)) ≡ leaves_so_far o (told_devices (map_line r ∷ before))) (sym after) refl;
          };
          held = subst (λ (o : Open). HasHeld (open_runs o) new.held) (sym after) (subst (λ (o : Open). HasHeld (open_runs o ++ r ∷ []) new.held) opens held);
          behind = h.behind;
          written = h.written;
          growing = subst (λ (o : Open). IsOpen (map_line r ∷ before) o new.growing h.behind now) (sym after)
              (subst (λ (g : Option Growing). IsOpen (map_line r ∷ before) (open_device d longer) g h.behind now) (sym (growing ∙ some))
              (record {
                has = do_.has;
                low = do_.low;
                grown = do_.grown;
                runs_are = held_behind r do_.runs_are next.above next.some next.virtual_fits next.within next.time_fits;
              }));
          place = h.place;
        }

-- how many mappings are counted then
pub total_more : {room : ℕ} {before : List Line} {s : SharedDevices} {start now : DraftState} (r : Run) (h : HasGathered room before s start now) → IsRunLine before r
    → s.counts.total + r.length ≤ 252 * leaf_number before + sum_by (λ (t : Told). sum t.own) (told_devices (map_line r ∷ before))
total_more {room} {before} {s} {start} {now} r h next = elim (which h) [
  | is_nothing opens none same full ↦ absurd (omega (arith, next.some, next.mapped, full))
  | is_leaf runs opens none same lo ↦
      let over = subst (AreAllTold (told_devices before) (whole_devices before)) opens h.listed.told in
      let untold : told_devices before ≡ [] =
      none_told (told_devices before) (omega (arith, over.number, ap (λ (ds : List ShapeDevice). length ds) (h.leaves.alone lo.none))) in
      let sum_none = ap (λ (ts : List Told). sum_by (λ (t : Told). sum t.own) ts) untold in
      omega (arith, h.counts.total, next.mapped, ap (λ (o : Open). leaf_left o (unmapped before)) opens, sum_none)
  | is_device d runs o opens some do_ ↦
      let t = subst (AreAllTold (told_devices before) (whole_devices before)) opens h.listed.told in
      let both : told_devices (map_line r ∷ before) ≡ told.with_run r.length t.newest ∷ t.older = ap (tell_newest (told.with_run r.length)) t.both in
      omega (
        arith,
        h.counts.total,
        ap (λ (ts : List Told). sum_by (λ (t : Told). sum t.own) ts) t.both,
        ap (λ (ts : List Told). sum_by (λ (t : Told). sum t.own) ts) both,
        sum_by-cons (λ (t : Told). sum t.own) t.newest t.older,
        sum_by-cons (λ (t : Told). sum t.own) (told.with_run r.length t.newest) t.older,
        own_more t.newest d runs r t.last,
      )
]

-- and how many are held
pub held_most : {room : ℕ} {before : List Line} {s : SharedDevices} {start now : DraftState} (h : HasGathered room before s start now)
    → s.held.number ≤ 252 + sum_by (λ (t : Told). sum t.own) (told_devices before)
held_most {room} {before} {s} {start} {now} h = elim (which h) [
  | is_nothing opens none same full ↦ omega (arith, h.held.number, ap (λ (o : Open). length (mappings_of_runs (open_runs o))) opens)
  | is_leaf runs opens none same lo ↦ omega (arith, h.held.number, ap (λ (o : Open). length (mappings_of_runs (open_runs o))) opens, lo.few)
  | is_device d runs o opens some do_ ↦
      let t = subst (AreAllTold (told_devices before) (whole_devices before)) opens h.listed.told in
      omega (
        arith,
        h.held.number,
        ap (λ (o : Open). length (mappings_of_runs (open_runs o))) opens,
        ap (λ (ts : List Told). sum_by (λ (t : Told). sum t.own) ts) t.both,
        sum_by-cons (λ (t : Told). sum t.own) t.newest t.older,
        ap (λ (ns : List ℕ). sum ns) t.last.own,
        sum_by-append (λ (n : ℕ). n) (number_of runs) t.last.rest,
        held_sum runs,
      )
]
  where
    held_sum : (runs : List Run) → sum (number_of runs) ≡ length (mappings_of_runs runs)
    held_sum [] = refl
    held_sum (r ∷ runs) = sum_by-cons (λ (n : ℕ). n) (number_in (r ∷ runs)) [] ∙ omega (arith, number_mapped (r ∷ runs))
