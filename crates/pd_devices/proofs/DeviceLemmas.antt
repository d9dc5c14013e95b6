-- The need of a pool by the sum of its trees.
-- What was gathered, line by line.
use Rattle.std.proofs.Common.{◌≡◌, ℕ, min, List, length, sum_by, refl, arith, ◌+◌, ◌-◌, ◌≤◌, ◌<◌, ◌^◌, true, ltb, ◌&&◌, [], ◌∷◌, ◌++◌, length-append, map, sym, ◌∙◌, ap, subst, Option, None, Some, Result, Ok, Err}
use Rattle.std.specs.List.{range_with_len}
use Rattle.std.proofs.lemmas.List.{append-nil, map-append}
use Rattle.std.proofs.lemmas.List.Sums.{sum_by-cons}
use Rattle.std.proofs.lemmas.List.Elements.{All-push}
use Rattle.std.proofs.lemmas.Bool.{lt-ltb}
use Rattle.std.specs.Prelude.{OnOk}
use Rattle.pd_kinds.specs.Meaning.{ThinDevice}
use Rattle.pd_kinds.specs.Node.{Entry}
use Rattle.pd_kinds.specs.Field.{details_code}
use Rattle.pd_grammar.specs.Need.{need_tree, need_of_devices, thin_need_so_far, overflows_in}
use Rattle.pd_grammar.specs.ThinText.{Line, Head, Run, first_line, shared_first_line, pool_line, leaf_line, device_line, use_line, map_line, end_line, data_blocks_of, leaf_number, piece_end, unmapped, mappings_of}
use Rattle.pd_grammar.proofs.ThinMeaning.{mappings_length}
use Rattle.pd_laid.specs.LaidThin.{mapping_items}
use Rattle.pd_laid.specs.Laid.{tree_blocks, tree_root}
use Rattle.pd_laid.proofs.NeedLemmas.{length-tree_blocks}
use Rattle.pd_laid.proofs.GatherLemmas.{items-append, length-items}
use Rattle.pd_value.specs.declared.thin.Root.{Root}
use Rattle.pd_value.specs.declared.thin.Details.{Details}
use Rattle.pd_node.specs.Items.{entries_of}
use Rattle.pd_draft.specs.Closed.{IsClosed, DraftState, Wrote}
use Rattle.pd_draft.proofs.DraftLemmas.{wrote_none, wrote_then}
use Rattle.pd_count.specs.Counted.{HasCounted}
use Rattle.pd_build.specs.Tree.{items_to_come, TreeLeft, blocks_left, root_left, number_left}
use Rattle.pd_devices.specs.Gathered.{need_of_trees, Grown, IsOpen, open_need, mapped_in, data_in, HasGathered}
use Rattle.pd_devices.specs.Counts.{overflows_of}
use Rattle.pd_devices.proofs.CountLemmas.{overflows_listed}
use Rattle.pd_devices.specs.declared.devices.Growing.{Growing}
use Rattle.pd_devices.specs.declared.devices.Devices.{Devices}
use Rattle.pd_devices.specs.Devices.{IsBegun, GrowsBy, bare_device, with_run, open_device, whole_devices, MayFollow, details_line}
use Rattle.pd_devices.proofs.GrowthLemmas.{grows_none, grows_then, grown_end, grown_root, run_data, length-device_trees, one_tree_more, one_root_more, sum_few}
use Rattle.pd_laws_laid.specs.Once.{device_trees, device_roots, device_details, trees_need}

-- the need of devices is that of the sum of their trees
pub need_by_sum : (mapped : List ℕ) (data_blocks overflows room : ℕ)
    → need_of_devices mapped data_blocks overflows room ≡ need_of_trees (sum_by (need_tree 8) mapped) (length mapped) data_blocks overflows room
unfolding need_of_devices need_of_trees
need_by_sum mapped data_blocks overflows room = refl

-- a sum that stays at the end of its type
pub need_capped : (trees number data_blocks overflows room top : ℕ)
    → min (need_of_trees (min trees top) number data_blocks overflows room) top ≡ min (need_of_trees trees number data_blocks overflows room) top
unfolding need_of_trees
need_capped trees number data_blocks overflows room top = omega arith

-- the open tree is that of the open device
pub opened_some : (devices : List ThinDevice) (low left : ℕ) (o : Growing) (from to : DraftState) → IsOpen devices low left (Some o) from to
    → (d : ThinDevice) × ((devices ≡ d ∷ []) × Grown d low left o from to)
opened_some [] low left o from to is = absurd is
opened_some (d ∷ []) low left o from to is = (d, (refl, is))
opened_some (d ∷ e ∷ devices) low left o from to is = absurd is

pub opened_none : (devices : List ThinDevice) (low left : ℕ) (from to : DraftState) → IsOpen devices low left None from to → (devices ≡ []) × (from ≡ to)
opened_none [] low left from to is = (refl, is)
opened_none (d ∷ []) low left from to is = absurd is
opened_none (d ∷ e ∷ devices) low left from to is = absurd is

-- where mappings are to come, and there are no leaves, there is one
pub open_some : (before : List Line) → leaf_number before ≡ 0 → 1 ≤ unmapped before → (d : ThinDevice) × (open_device before ≡ d ∷ [])
open_some [] none some = absurd (omega arith)
open_some (first_line ∷ before) none some = absurd (omega arith)
open_some (shared_first_line ∷ before) none some = absurd (omega arith)
open_some (pool_line p ∷ before) none some = absurd (omega arith)
open_some (leaf_line l ∷ before) none some = absurd (omega arith)
open_some (device_line d ∷ before) none some = (bare_device d, refl)
open_some (use_line n ∷ before) none some = open_some before none (omega arith)
open_some (map_line r ∷ before) none some = let rest = open_some before none (omega arith) in (with_run r rest.0, ap (map (with_run r)) rest.1)
open_some (end_line ∷ before) none some = absurd (omega arith)

-- the codes of what is listed
abbrev pub root_code : Root → ℕ
root_code r = r.0

abbrev pub details_number : Details → ℕ
details_number d = details_code d.mapped d.transaction d.created d.snapped

abbrev pub root_fits : ℕ × Root → Type 0
root_fits item = ltb item.1.0 (2 ^ 64) ≡ true

abbrev pub details_fit : ℕ × Details → Type 0
details_fit item = (ltb item.1.mapped (2 ^ 64) && (ltb item.1.transaction (2 ^ 64) && (ltb item.1.created (2 ^ 32) && ltb item.1.snapped (2 ^ 32)))) ≡ true

abbrev pub top : ℕ
top = 2 ^ 64 - 1

-- nothing but a pool line was read
pub gathered_start : (p : Head) (s : Devices) (start : DraftState) → start.place ≡ 1 → IsClosed start.device → p.data_blocks ≤ 2 ^ 40
    → s.counts.counts.size ≡ p.data_blocks → HasCounted s.counts.counts [] → s.counts.total ≡ 0 → s.trees ≡ 0
    → s.roots.items ≡ [] → s.details.items ≡ [] → s.growing ≡ None → HasGathered (pool_line p ∷ first_line ∷ []) s start start
unfolding device_trees device_roots
gathered_start p s start first closed small size counted total trees roots details growing = record {
  version = refl;
  leaves = refl;
  begin = first;
  behind = start;
  written = wrote_none start closed;
  growing = rw growing refl;
  roots = ap (entries_of root_code) roots;
  details = ap (entries_of details_number) details;
  roots_fit = rw roots (λ i d within. absurd (omega arith));
  details_fit = rw details (λ i d within. absurd (omega arith));
  counted = counted;
  size = size;
  small = small;
  total = omega (arith, total);
  trees = trees;
  number = ap (λ (items : List (ℕ × Details)). length items) details;
  place = omega (arith, first);
}

-- where the trees of devices end
behind_trees : {start behind : DraftState} (devices : List ThinDevice) → start.place ≡ 1 → Wrote (device_trees 1 devices) start behind → behind.place ≡ 1 + trees_need devices
behind_trees devices first written = omega (arith, first, written.moved, length-device_trees 1 devices)

-- the last entry by its parts
last_entry : (es : List Entry) (i j v w : ℕ) → i ≡ j → v ≡ w → es ++ record { key = i; value = v } ∷ [] ≡ es ++ record { key = j; value = w } ∷ []
last_entry es i j v w a b = cc

-- where no device is open, no tree is
closed_here : (o : Option Growing) (from to : DraftState) → IsOpen [] 0 0 o from to → from ≡ to
closed_here None from to is = is
closed_here (Some o) from to is = absurd is

-- the tree of the open device was ended
pub gathered_ended : {start mid now : DraftState} (before : List Line) (old new : Devices) (o : Growing) (root : ℕ) → HasGathered before old start mid → unmapped before ≡ 0
    → old.growing ≡ Some o → new.growing ≡ None → new.details ≡ old.details → new.counts ≡ old.counts → new.trees ≡ old.trees
    → new.roots.items ≡ old.roots.items ++ (o.id, record { 0 = root }) ∷ []
    → Wrote (blocks_left 8 mid.place o.builder []) mid now → root ≡ root_left mid.place o.builder [] → root < 2 ^ 64
    → HasGathered (end_line ∷ before) new start now
gathered_ended {start} {mid} {now} before old new o root h none growing ended details counts trees roots wrote is fits =
    ended_by (opened_some (open_device before) (piece_end before) (unmapped before) o h.behind mid (rw growing at h.growing))
  where
    ended_by : (d : ThinDevice) × ((open_device before ≡ d ∷ []) × Grown d (piece_end before) (unmapped before) o h.behind mid) → HasGathered (end_line ∷ before) new start now
    ended_by (d, (opened, g)) =
        let whole = whole_devices before in
        let items = mapping_items d.mappings in
        let done : items_to_come o.builder.leaves ≡ 0 = g.left ∙ none in
        let tree : Wrote (tree_blocks 8 h.behind.place items) h.behind now = grown_end g.begun g.grows done wrote in
        let here : h.behind.place ≡ 1 + trees_need whole = behind_trees whole h.begin h.written in
        let devices : whole ++ open_device before ≡ whole ++ d ∷ [] = ap (λ (ds : List ThinDevice). whole ++ ds) opened in
        let blocks : device_trees 1 (whole ++ open_device before) ≡ device_trees 1 whole ++ tree_blocks 8 h.behind.place items =
        ap (device_trees 1) devices ∙ one_tree_more whole d h.behind.place here in
        let full : length items ≡ d.mapped = omega (arith, g.grows.items, g.begun.items, done) in
        let root_is : root ≡ tree_root 8 h.behind.place items = is ∙ grown_root g.begun g.grows done in
        record {
          version = h.version;
          leaves = h.leaves;
          begin = h.begin;
          behind = now;
          written = subst (λ (bs : List (List ℕ)). Wrote bs start now) (sym blocks) (wrote_then h.written tree);
          growing = rw ended refl;
          roots =
              ap (entries_of root_code) roots
              ∙ (map-append (λ (item : ℕ × Root). record { key = item.0; value = item.1.0 }) old.roots.items ((o.id, record { 0 = root }) ∷ [])
              ∙ (ap (λ (es : List Entry). es ++ record { key = o.id; value = root } ∷ []) h.roots
              ∙ (last_entry (device_roots 1 whole) o.id d.id root (tree_root 8 h.behind.place items) g.id root_is
              ∙ (sym (one_root_more whole d h.behind.place here) ∙ ap (device_roots 1) (sym devices)))));
          details = rw details (h.details ∙ ap device_details (sym (append-nil (whole ++ open_device before))));
          roots_fit = rw roots (All-push root_fits old.roots.items (o.id, record { 0 = root }) h.roots_fit (lt-ltb root (2 ^ 64) fits));
          details_fit = rw details h.details_fit;
          counted = rw counts h.counted;
          size = rw counts h.size;
          small = h.small;
          total = rw counts (omega (arith, h.total, none));
          trees = rw trees h.trees;
          number = rw details h.number;
          place = omega (arith, h.place, ap open_need opened, tree.moved, length-tree_blocks 8 h.behind.place items, ap (need_tree 8) full);
        }

-- a device was begun
pub gathered_begun : {start now : DraftState} (before : List Line) (old new : Devices) (id : ℕ) (details : Details) (t : TreeLeft) → IsClosed now.device
    → HasGathered (end_line ∷ before) old start now → IsBegun 8 details.mapped t → t.leaves.low ≡ 0
    → new.growing ≡ Some (record { id = id; builder = t }) → new.roots ≡ old.roots → new.counts ≡ old.counts
    → new.trees ≡ min (old.trees + need_tree 8 details.mapped) top → new.details.items ≡ old.details.items ++ (id, details) ∷ [] → details_fit (id, details)
    → HasGathered (device_line (details_line id details) ∷ before) new start now
unfolding mapping_items
gathered_begun {start} {now} before old new id details t closed h begun low growing roots counts trees listed fits =
    let d = bare_device (details_line id details) in
    let whole = whole_devices before ++ open_device before in
    let here : h.behind ≡ now = closed_here old.growing h.behind now h.growing in
    record {
      version = h.version;
      leaves = h.leaves;
      begin = h.begin;
      behind = now;
      written = rw (← here) h.written;
      growing = rw growing (record { id = refl; first = t; begun = begun; grows = grows_none 8 t now closed; low = omega (arith, low); left = begun.items });
      roots = rw roots h.roots;
      details =
          ap (entries_of details_number) listed
          ∙ (map-append (λ (item : ℕ × Details). record { key = item.0; value = details_number item.1 }) old.details.items ((id, details) ∷ [])
          ∙ (ap (λ (es : List Entry). es ++ record { key = id; value = details_number details } ∷ []) (h.details ∙ ap device_details (append-nil whole))
          ∙ sym (map-append (λ (d : ThinDevice). record { key = d.id; value = details_code d.mapped d.transaction d.created d.snapped }) whole (d ∷ []))));
      roots_fit = rw roots h.roots_fit;
      details_fit = rw listed (All-push details_fit old.details.items (id, details) h.details_fit fits);
      counted = rw counts h.counted;
      size = rw counts h.size;
      small = h.small;
      total = rw counts (omega (arith, h.total, sum_by-cons (λ (x : ℕ). x) details.mapped (mapped_in before)));
      trees = omega (arith, trees, h.trees, sum_by-cons (need_tree 8) details.mapped (mapped_in before));
      number = omega (arith, ap (λ (items : List (ℕ × Details)). length items) listed, length-append old.details.items ((id, details) ∷ []), h.number);
      place = omega (arith, h.place, ap (λ (draft_state : DraftState). draft_state.place) here, sum_by-cons (need_tree 8) details.mapped (mapped_in before));
    }

-- the details of a device stay where it takes a run
same_details : (r : Run) (ds : List ThinDevice) (d : ThinDevice) → device_details (ds ++ d ∷ []) ≡ device_details (ds ++ with_run r d ∷ [])
same_details r [] d = refl
same_details r (e ∷ ds) d = ap (λ (es : List Entry). record { key = e.id; value = details_code e.mapped e.transaction e.created e.snapped } ∷ es) (same_details r ds d)

-- a run of the open device was taken
pub gathered_run : {start mid now : DraftState} (before : List Line) (old new : Devices) (o p : Growing) (r : Run) → HasGathered before old start mid → MayFollow before r
    → old.growing ≡ Some o → new.growing ≡ Some p → p.id ≡ o.id → new.roots ≡ old.roots → new.details ≡ old.details → new.trees ≡ old.trees
    → new.counts.counts.size ≡ old.counts.counts.size → new.counts.total ≡ old.counts.total + r.length
    → HasCounted new.counts.counts (range_with_len r.data_block r.length ++ data_in before)
    → GrowsBy 8 (mapping_items (mappings_of r)) o.builder p.builder mid now → p.builder.leaves.low ≤ r.virtual_block + r.length
    → HasGathered (map_line r ∷ before) new start now
gathered_run {start} {mid} {now} before old new o p r h follows growing grown same roots details trees size total counted grows low =
    taken (opened_some (open_device before) (piece_end before) (unmapped before) o h.behind mid (rw growing at h.growing))
  where
    taken : (d : ThinDevice) × ((open_device before ≡ d ∷ []) × Grown d (piece_end before) (unmapped before) o h.behind mid) → HasGathered (map_line r ∷ before) new start now
    taken (d, (opened, g)) =
        let whole = whole_devices before in
        let longer : map (with_run r) (open_device before) ≡ with_run r d ∷ [] = ap (map (with_run r)) opened in
        let more : Grown (with_run r d) (r.virtual_block + r.length) (unmapped before - r.length) p h.behind now = record {
          id = same ∙ g.id;
          first = g.first;
          begun = g.begun;
          grows = subst (λ (items : List Entry). GrowsBy 8 items g.first p.builder h.behind now) (sym (items-append d.mappings (mappings_of r))) (grows_then g.grows grows);
          low = low;
          left = omega (arith, grows.items, g.left, length-items (mappings_of r), mappings_length r.virtual_block r.data_block r.time r.length);
        } in
        record {
          version = h.version;
          leaves = h.leaves;
          begin = h.begin;
          behind = h.behind;
          written = h.written;
          growing = rw (grown, longer) more;
          roots = rw roots h.roots;
          details = rw details (h.details ∙ (ap (λ (ds : List ThinDevice). device_details (whole ++ ds)) opened ∙ (same_details r whole d ∙ ap (λ (ds : List ThinDevice). device_details (whole ++ ds)) (sym longer))));
          roots_fit = rw roots h.roots_fit;
          details_fit = rw details h.details_fit;
          counted = subst (λ (ns : List ℕ). HasCounted new.counts.counts (ns ++ data_in before)) (sym (run_data r.virtual_block r.data_block r.time r.length)) counted;
          size = size ∙ h.size;
          small = h.small;
          total = omega (arith, h.total, total, follows.enough);
          trees = trees ∙ h.trees;
          number = ap (λ (items : List (ℕ × Details)). length items) (ap (λ v. v.items) details) ∙ h.number;
          place = omega (arith, h.place, ap open_need opened, ap open_need longer);
        }

-- the trees of all devices are within the need
pub trees_within : (room : ℕ) (before : List Line) → 1 + sum_by (need_tree 8) (mapped_in before) ≤ thin_need_so_far room before
unfolding thin_need_so_far need_of_devices
trees_within room before = omega arith

-- so all counts stay small, also with those of a run more
pub gathered_few : {s : Devices} {start now : DraftState} (before : List Line) (room more : ℕ) → HasGathered before s start now → thin_need_so_far room before ≤ room → room ≤ 4161600
    → more ≤ unmapped before → s.counts.total + more < 2 ^ 32
gathered_few before room more h need most enough = omega (arith, h.total, sum_few (mapped_in before), trees_within room before)

-- and what is left of the open tree has room
pub gathered_room : {s : Devices} {start now : DraftState} (before : List Line) (room : ℕ) (o : Growing) → HasGathered before s start now → s.growing ≡ Some o
    → thin_need_so_far room before ≤ room → now.place + number_left o.builder ≤ room
gathered_room {s} {start} {now} before room o h growing need =
    within (opened_some (open_device before) (piece_end before) (unmapped before) o h.behind now (rw growing at h.growing))
  where
    within : (d : ThinDevice) × ((open_device before ≡ d ∷ []) × Grown d (piece_end before) (unmapped before) o h.behind now) → now.place + number_left o.builder ≤ room
    within (d, (opened, g)) = omega (arith, g.grows.room, g.begun.room, h.place, ap open_need opened, trees_within room before, need)

-- where mappings are to come, a tree is open
pub gathered_some : {s : Devices} {start now : DraftState} (before : List Line) → HasGathered before s start now → s.growing ≡ None → 1 ≤ unmapped before → ⊥
gathered_some {s} {start} {now} before h growing some =
    let closed = opened_none (open_device before) (piece_end before) (unmapped before) h.behind now (rw growing at h.growing) in
    let one = open_some before h.leaves some in
    no_device one.0 (sym one.1 ∙ closed.0)
  where
    no_device : (d : ThinDevice) → d ∷ [] ≡ [] → ⊥
    no_device d e = cc

-- the need of what was gathered
pub gathered_need : {s : Devices} {start now : DraftState} (before : List Line) (room : ℕ) → HasGathered before s start now
    → min (need_of_trees s.trees (length s.details.items) s.counts.counts.size (overflows_of s.counts.counts s.counts.counts.size) room) top ≡ min (thin_need_so_far room before) top
unfolding thin_need_so_far
gathered_need {s} {start} {now} before room h =
    let mapped = mapped_in before in
    let blocks = data_blocks_of before in
    let over : overflows_of s.counts.counts s.counts.counts.size ≡ overflows_in (data_in before) blocks =
    overflows_listed s.counts.counts (data_in before) s.counts.counts.size h.counted ∙ ap (overflows_in (data_in before)) h.size in
    rw (over, h.trees, h.number, h.size)
    (need_capped (sum_by (need_tree 8) mapped) (length mapped) blocks (overflows_in (data_in before) blocks) room top
    ∙ ap (λ (n : ℕ). min n top) (sym (need_by_sum mapped blocks (overflows_in (data_in before) blocks) room)))

-- a fact about what a call did, of what it did
pub on_ok : {T E P Q : Type 0} (r : Result T E) → OnOk r P → (P → Q) → OnOk r Q
on_ok (Ok x) p f = f p
on_ok (Err e) p f = tt
