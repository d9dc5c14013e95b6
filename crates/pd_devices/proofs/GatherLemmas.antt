-- What was gathered, line by line: where leaves and devices begin and end.
use Rattle.std.proofs.Common.{◌≡◌, ℕ, suc, ◌+◌, ◌≤◌, ◌<◌, ◌^◌, false, List, [], ◌∷◌, ◌++◌, length, length-append, map, sum, refl, sym, ◌∙◌, ap, subst, arith, Option, None, Some, unwrap_or}
use Rattle.std.specs.List.{AllByRecursion}
use Rattle.std.proofs.lemmas.List.{append-nil, map-append}
use Rattle.std.proofs.lemmas.List.Sums.{sum_by-cons}
use Rattle.std.proofs.lemmas.List.Elements.{All-push}
use Rattle.std.proofs.lemmas.Bool.{true≢false}
use Rattle.pd_kinds.specs.Node.{Entry}
use Rattle.pd_kinds.specs.Field.{details_code}
use Rattle.pd_grammar.specs.ThinText.{Line, Head, LeafHead, Run, shared_first_line, pool_line, leaf_line, device_line, end_line, leaf_number, unmapped, data_blocks_of, piece_end}
use Rattle.pd_grammar.specs.ThinText as text
use Rattle.pd_laid.specs.LaidThin.{details_items}
use Rattle.pd_laid.specs.Shape.{ShapeDevice}
use Rattle.pd_laid.specs.Laid.{blocks_from}
use Rattle.pd_laid.specs.PoolText.{Told, leaves_of_ended, leaves_of_told, told_devices, told_nothing, mappings_of_runs}
use Rattle.pd_laid.proofs.LeafRuns.{HaveTold, told_leaf}
use Rattle.pd_value.specs.declared.thin.Details.{Details}
use Rattle.pd_node.specs.Items.{entries_of}
use Rattle.pd_draft.specs.Closed.{IsClosed, DraftState}
use Rattle.pd_draft.proofs.DraftLemmas.{wrote_none}
use Rattle.pd_count.specs.Counted.{HasCounted}
use Rattle.pd_texts.specs.ThinState.{IsLeafLine}
use Rattle.pd_devices.proofs.DeviceLemmas.{details_fit, details_number, root_code}
use Rattle.pd_devices.specs.SharedGathered.{HasGathered, IsDeviceOpen, IsLeafOpen, IsOpen, Gathered}
use Rattle.pd_devices.specs.SharedGrowth.{Grown, HasHeld, CanEndTree, CanBeLaid, held_runs, AreHeld}
use Rattle.pd_devices.specs.Told.{details_line, Open, nothing_open, open_leaf, open_device, bare_device, opened, whole_leaves, whole_devices, leaf_items, open_runs}
use Rattle.pd_devices.specs.declared.shared_devices.SharedDevices.{SharedDevices}
use Rattle.pd_devices.specs.declared.growing.Growing.{Growing}
use Rattle.pd_devices.proofs.PieceLemmas.{held_can}
use Rattle.pd_devices.proofs.RoomLemmas.{leaf_room, device_room}
use Rattle.pd_laws_laid.specs.Shared.{device_roots, device_trees, leaves_and_trees}

-- nothing but a pool line was read
pub gathered_start : (room : ℕ) (p : Head) (s : SharedDevices) (start : DraftState) → start.place ≡ 1 → IsClosed start.device → p.data_blocks ≤ 2 ^ 40
    → s.counts.counts.size ≡ p.data_blocks → HasCounted s.counts.counts [] → s.counts.total ≡ 0
    → s.uses.counts.size ≡ room → HasCounted s.uses.counts [] → s.uses.total ≡ 0
    → s.leaves ≡ 0 → s.firsts.items ≡ [] → s.trees ≡ 0 → s.roots.items ≡ [] → s.details.items ≡ [] → HasHeld [] s.held → s.growing ≡ None
    → HasGathered room (pool_line p ∷ shared_first_line ∷ []) s start start
unfolding device_trees device_roots details_items leaves_and_trees blocks_from
gathered_start room p s start first closed small size counted total uses_size uses_counted uses_total leaves firsts trees roots details held growing = record {
  version = refl;
  begin = first;
  counts = record {
    counted = counted;
    size = size;
    small = small;
    total = omega (arith, total);
    uses_counted = uses_counted;
    uses_size = uses_size;
    uses_total = uses_total;
    uses_within = tt;
  };
  leaves = record {
    number = leaves;
    told = record { number = refl; runs = λ n. refl };
    lawful = tt;
    firsts = firsts;
    alone = λ none. refl;
  };
  listed = record {
    roots = ap (entries_of root_code) roots;
    details = ap (entries_of details_number) details;
    roots_fit = rw roots (λ i d within. absurd (omega arith));
    details_fit = rw details (λ i d within. absurd (omega arith));
    trees = trees;
    number = ap (λ (items : List (ℕ × Details)). length items) details;
    told = record { trees = refl; number = refl };
    so_far = refl;
  };
  held = held;
  behind = start;
  written = wrote_none start closed;
  growing = rw growing (refl, refl);
  place = omega (arith, first);
}

-- where nothing is open
pub closed_here : (before : List Line) (o : Option Growing) (from to : DraftState) → IsOpen before nothing_open o from to → (o ≡ None) × (from ≡ to)
closed_here before None from to is = (refl, is.0)
closed_here before (Some o) from to is = absurd is

nothing_told : (told : List Told) → length told ≡ 0 → leaves_of_told false told ≡ map leaves_of_ended told
nothing_told [] none = refl
nothing_told (newest ∷ older) none = absurd (omega (arith, none))

uses_more : (a room : ℕ) (ns : List ℕ) → AllByRecursion (λ n. (n < a) × (n < room)) ns → AllByRecursion (λ n. (n < suc a) × (n < room)) ns
uses_more a room [] all = tt
uses_more a room (n ∷ ns) all = ((omega (arith, all.0.0), all.0.1), uses_more a room ns all.1)

without_none : (before : List Line) (leaves : List (List Run)) → HaveTold before (leaves ++ []) → HaveTold before leaves
without_none before leaves told = subst (HaveTold before) (append-nil leaves) told

-- a leaf begins
pub gathered_leaf : {room : ℕ} {start now : DraftState} (before : List Line) (old new : SharedDevices) (l : LeafHead) → HasGathered room (end_line ∷ before) old start now → IsLeafLine before l
    → new.counts ≡ old.counts → new.uses ≡ old.uses → new.leaves ≡ old.leaves + 1 → new.firsts ≡ old.firsts → new.trees ≡ old.trees → new.roots ≡ old.roots
    → new.details ≡ old.details → new.held ≡ old.held → new.growing ≡ old.growing → HasGathered room (leaf_line l ∷ before) new start now
gathered_leaf {room} {start} {now} before old new l h line counts uses leaves firsts trees roots details held growing =
    let w = whole_leaves (end_line ∷ before) in
    let e : List Line = end_line ∷ before in
    let c = h.counts in
    let here = closed_here e old.growing h.behind now h.growing in
    let none : whole_devices e ≡ [] = h.leaves.alone line.none in
    let told_none : length (told_devices before) ≡ 0 = omega (arith, h.listed.told.number, ap (λ (ds : List ShapeDevice). length ds) none) in
    record {
      version = h.version;
      begin = h.begin;
      counts = record {
        counted = rw counts c.counted;
        size = rw counts c.size;
        small = c.small;
        total = rw counts (omega (arith, c.total, line.few));
        uses_counted = rw uses c.uses_counted;
        uses_size = rw uses c.uses_size;
        uses_total = rw uses c.uses_total;
        uses_within = uses_more (leaf_number before) room (text.uses_of before) c.uses_within;
      };
      leaves = record {
        number = omega (arith, leaves, h.leaves.number);
        told = told_leaf before l w (let t = without_none e w h.leaves.told in record { number = t.number; runs = t.runs });
        lawful = h.leaves.lawful;
        firsts = rw firsts h.leaves.firsts;
        alone = λ none. h.leaves.alone none;
      };
      listed = record {
        roots = rw roots h.listed.roots;
        details = rw details h.listed.details;
        roots_fit = rw roots h.listed.roots_fit;
        details_fit = rw details h.listed.details_fit;
        trees = rw trees h.listed.trees;
        number = rw details h.listed.number;
        told = h.listed.told;
        so_far = nothing_told (told_devices before) told_none;
      };
      held = rw held h.held;
      behind = h.behind;
      written = h.written;
      growing = rw (growing, here.0) (
        here.1,
        record {
          none = line.none;
          runs_are = record { have = tt; mappings = tt; ends = omega arith };
          some = omega (arith, line.some);
          few = omega (arith, line.few);
        },
      );
      place = h.place;
    }

-- a device begins
pub gathered_begun : {room : ℕ} {start now : DraftState} (before : List Line) (old new : SharedDevices) (id : ℕ) (details : Details) (o : Growing) → HasGathered room (end_line ∷ before) old start now
    → ((leaves : List (List Entry)) (d : ShapeDevice) → d.id ≡ id → d.pieces ≡ [] → Grown leaves d 0 o now now) → details_fit (id, details)
    → new.counts ≡ old.counts → new.uses ≡ old.uses → new.leaves ≡ old.leaves → new.firsts ≡ old.firsts → new.trees ≡ old.trees → new.roots ≡ old.roots
    → new.details.items ≡ old.details.items ++ (id, details) ∷ [] → new.held ≡ old.held → new.growing ≡ Some o
    → HasGathered room (device_line (details_line id details) ∷ before) new start now
unfolding details_items
gathered_begun {room} {start} {now} before old new id details o h grown fits counts uses leaves firsts trees roots listed held growing =
    let w = whole_leaves (end_line ∷ before) in
    let e : List Line = end_line ∷ before in
    let line : List Line = device_line (details_line id details) ∷ before in
    let c = h.counts in
    let d = bare_device (details_line id details) in
    let here = closed_here e old.growing h.behind now h.growing in
    let devices = whole_devices e in
    let t = without_none e w h.leaves.told in
    record {
      version = h.version;
      begin = h.begin;
      counts = record {
        counted = rw counts c.counted;
        size = rw counts c.size;
        small = c.small;
        total = rw counts (omega (arith, c.total, sum_by-cons (λ (t : Told). sum t.own) told_nothing (told_devices before)));
        uses_counted = rw uses c.uses_counted;
        uses_size = rw uses c.uses_size;
        uses_total = rw uses (omega (arith, c.uses_total, sum_by-cons (λ (t : Told). t.uses) told_nothing (told_devices before)));
        uses_within = c.uses_within;
      };
      leaves = record {
        number = rw leaves h.leaves.number;
        told = subst (HaveTold line) (sym (append-nil w)) (record { number = t.number; runs = t.runs });
        lawful = h.leaves.lawful;
        firsts = rw firsts h.leaves.firsts;
        alone = λ none. absurd (true≢false none);
      };
      listed = record {
        roots = rw roots h.listed.roots;
        details =
            ap (entries_of details_number) listed
            ∙ (map-append (λ (item : ℕ × Details). record { key = item.0; value = details_number item.1 }) old.details.items ((id, details) ∷ [])
            ∙ (ap (λ (es : List Entry). es ++ record { key = id; value = details_number details } ∷ []) (h.listed.details ∙ ap details_items (append-nil devices))
            ∙ sym (map-append (λ (d : ShapeDevice). record { key = d.id; value = details_code d.mapped d.transaction d.created d.snapped }) devices (d ∷ []))));
        roots_fit = rw roots h.listed.roots_fit;
        details_fit = rw listed (All-push details_fit old.details.items (id, details) h.listed.details_fit fits);
        trees = rw trees h.listed.trees;
        number = omega (arith, ap (λ (items : List (ℕ × Details)). length items) listed, length-append old.details.items ((id, details) ∷ []), h.listed.number);
        told = record {
          newest = told_nothing;
          older = told_devices before;
          both = refl;
          over = h.listed.told;
          last = record { rest = []; in_run = refl; own = refl; spread = refl; pieces = refl; uses = refl };
        };
        so_far = refl;
      };
      held = rw held h.held;
      behind = h.behind;
      written = h.written;
      growing = rw growing (record {
        has = refl;
        low = 0;
        grown = rw here.1 (grown (leaf_items w) d refl refl);
        runs_are = record { have = tt; mappings = tt; ends = omega arith };
      });
      place = h.place;
    }

-- Line by line: what is open, as a case
pub data IsWhich (before : List Line) (opens : Open) (s : SharedDevices) (from to : DraftState) : Type 0 where
  is_nothing : opens ≡ nothing_open → s.growing ≡ None → from ≡ to → unmapped before ≡ 0 → IsWhich before opens s from to
  is_leaf : (runs : List Run) → opens ≡ open_leaf runs → s.growing ≡ None → from ≡ to → IsLeafOpen before runs → IsWhich before opens s from to
  is_device : (d : ShapeDevice) (runs : List Run) (o : Growing) → opens ≡ open_device d runs → s.growing ≡ Some o → IsDeviceOpen before d runs o from to → IsWhich before opens s from to

which_of : (before : List Line) (s : SharedDevices) (opens : Open) (o : Option Growing) (from to : DraftState) → s.growing ≡ o → IsOpen before opens o from to → IsWhich before opens s from to
which_of before s nothing_open None from to e is = is_nothing refl e is.0 is.1
which_of before s nothing_open (Some o) from to e is = absurd is
which_of before s (open_leaf runs) None from to e is = is_leaf runs refl e is.0 is.1
which_of before s (open_leaf runs) (Some o) from to e is = absurd is
which_of before s (open_device d runs) None from to e is = absurd is
which_of before s (open_device d runs) (Some o) from to e is = is_device d runs o refl e is

pub which : {room : ℕ} {before : List Line} {s : SharedDevices} {start now : DraftState} (h : HasGathered room before s start now) → IsWhich before (opened before) s h.behind now
which {room} {before} {s} {start} {now} h = which_of before s (opened before) s.growing h.behind now refl h.growing

-- What is open, by what is held of it.

-- a device is open whose tree is grown
pub record DeviceCase (before : List Line) (o : Growing) (from to : DraftState) : Type 0 where
  pub device : ShapeDevice
  pub runs : List Run
  pub opens : opened before ≡ open_device device runs
  pub is : IsDeviceOpen before device runs o from to

none_is_some : (o : Growing) → None ≡ Some o → ⊥
none_is_some o e = cc

pub device_case : {room : ℕ} {before : List Line} {s : SharedDevices} {start now : DraftState} (o : Growing) (h : HasGathered room before s start now) → s.growing ≡ Some o → DeviceCase before o h.behind now
device_case {room} {before} {s} {start} {now} o h growing = elim (which h) [
  | is_nothing opens none same full ↦ absurd (none_is_some o (sym none ∙ growing))
  | is_leaf runs opens none same lo ↦ absurd (none_is_some o (sym none ∙ growing))
  | is_device d runs p opens some do_ ↦
      let one : p ≡ o = ap (λ (x : Option Growing). unwrap_or x o) (sym some ∙ growing) in
      record { device = d; runs = runs; opens = opens; is = subst (λ (q : Growing). IsDeviceOpen before d runs q h.behind now) one do_ }
]

-- a leaf is open that has mappings
pub record LeafCase (before : List Line) (from to : DraftState) : Type 0 where
  pub runs : List Run
  pub opens : opened before ≡ open_leaf runs
  pub same : from ≡ to
  pub is : IsLeafOpen before runs

pub leaf_case : {room : ℕ} {before : List Line} {s : SharedDevices} {start now : DraftState} (h : HasGathered room before s start now) → s.growing ≡ None → 1 ≤ s.held.number → LeafCase before h.behind now
leaf_case {room} {before} {s} {start} {now} h growing some = elim (which h) [
  | is_nothing opens none same full ↦ absurd (omega (arith, some, h.held.number, ap (λ (o : Open). length (mappings_of_runs (open_runs o))) opens))
  | is_leaf runs opens none same lo ↦ record { runs = runs; opens = opens; same = same; is = lo }
  | is_device d runs p opens is do_ ↦ absurd (none_is_some p (sym growing ∙ is))
]

-- what is held is what is open
pub held_is : {room : ℕ} {before : List Line} {s : SharedDevices} {start now : DraftState} (h : HasGathered room before s start now) → HasHeld (held_runs s.held) s.held
held_is {room} {before} {s} {start} {now} h = record { runs_are = refl; number = h.held.number ∙ ap (λ (rs : List Run). length (mappings_of_runs rs)) (sym h.held.runs_are) }

pub device_held : {room : ℕ} {before : List Line} {s : SharedDevices} {start now : DraftState} {o : Growing} (h : HasGathered room before s start now) (c : DeviceCase before o h.behind now)
    → AreHeld (data_blocks_of before) c.is.low (piece_end before) (held_runs s.held)
device_held {room} {before} {s} {start} {now} {o} h c =
    subst (AreHeld (data_blocks_of before) c.is.low (piece_end before)) (sym (h.held.runs_are ∙ ap open_runs c.opens)) c.is.runs_are

pub leaf_held : {room : ℕ} {before : List Line} {s : SharedDevices} {start now : DraftState} (h : HasGathered room before s start now) (c : LeafCase before h.behind now)
    → AreHeld (data_blocks_of before) 0 (piece_end before) (held_runs s.held)
leaf_held {room} {before} {s} {start} {now} h c =
    subst (AreHeld (data_blocks_of before) 0 (piece_end before)) (sym (h.held.runs_are ∙ ap open_runs c.opens)) c.is.runs_are

-- what is left of a tree can be written
pub can_end_tree : {s : SharedDevices} {now : DraftState} (g : Gathered s now) (o : Growing) → s.growing ≡ Some o → CanEndTree o s.held now
can_end_tree {s} {now} g o growing =
    let h = g.gathered in
    let c = device_case o h growing in
    let room = device_room c.device c.runs o h c.opens c.is g.need g.most in
    record {
      leaves = leaf_items (whole_leaves g.before);
      device = c.device;
      blocks = data_blocks_of g.before;
      low = c.is.low;
      end = piece_end g.before;
      from = h.behind;
      grown = c.is.grown;
      small = h.counts.small;
      runs_are = device_held h c;
      number = held_is h;
      few = omega (arith, room.few);
      room = omega (arith, room.room_is, g.there);
    }

-- and a leaf
pub record CanWriteLeaf (s : SharedDevices) (now : DraftState) : Type 0 where
  pub can : CanBeLaid (held_runs s.held) 0
  pub few : s.held.number ≤ 252
  pub room : now.place < now.device.blocks

pub can_write_leaf : {s : SharedDevices} {now : DraftState} (g : Gathered s now) → s.growing ≡ None → 1 ≤ s.held.number → CanWriteLeaf s now
can_write_leaf {s} {now} g growing some =
    let h = g.gathered in
    let c = leaf_case h growing some in
    record {
      can = held_can (leaf_held h c) h.counts.small;
      few = omega (arith, h.held.number, ap (λ (o : Open). length (mappings_of_runs (open_runs o))) c.opens, c.is.few);
      room = omega (arith, leaf_room c.runs h c.opens c.same c.is g.need, g.there);
    }
