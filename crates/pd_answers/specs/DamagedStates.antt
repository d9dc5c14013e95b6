-- Trusted base.
-- The states of a pool whose superblock is lost and whose trees are damaged: what looks like the root of a mapping tree, and the details
-- tree that gives details for the most of its devices. They are told after the sound states, and nothing takes one unasked.
use Rattle.std.specs.Prelude.{ℕ, ◌*◌, ◌/◌, ◌%◌, ◌^◌, max, ◌==◌, ◌&&◌, ◌||◌, Bool, not, nat_lt, if◌then◌else◌, List, [], ◌∷◌, length, map, filter, fold, sum_by, count_by}
use Rattle.std.specs.List.{list_any, list_all, flat_map, filter_map, range_with_len}
use Rattle.pd_kinds.specs.Graph.{Graph, block_at, is_outside}
use Rattle.pd_kinds.specs.Node.{Entry, entry_count, key_at, child_at, is_inner_node}
use Rattle.pd_kinds.specs.Trees.{value_of_key}
use Rattle.pd_kinds.specs.ThinFormat.{ThinFields}
use Rattle.pd_kinds.specs.Meaning.{Mapping, ThinDevice}
use Rattle.pd_laid.specs.FoundRoots.{FoundRoots, times_of, is_sound_tree, is_greater}
use Rattle.pd_laid.specs.Salvage.{is_damaged, salvaged_entries, salvage_from, saved_tops}
use Rattle.pd_answers.specs.FoundStates.{found_fields, in_order}

-- more than half of a node's values name blocks inside the metadata. A leaf of mappings looks like a mapping tree, but its values are
-- data blocks times 2^24
abbrev pub is_mostly_inside : ℕ → ℕ → List ℕ → Bool
is_mostly_inside size nr block =
    nat_lt (entry_count size block) (2 * count_by (λ i. not (is_outside nr (child_at block i))) (range_with_len 0 (entry_count size block)))

-- all keys of a node are numbers of devices
abbrev pub are_ids : ℕ → List ℕ → Bool
are_ids size block = list_all (λ i. nat_lt (key_at block i) (2 ^ 24)) (range_with_len 0 (entry_count size block))

-- whether an inner node has a block among its children
abbrev pub has_child : ℕ → List ℕ → ℕ → Bool
has_child size block child = is_inner_node block && list_any (λ i. child_at block i == child) (range_with_len 0 (entry_count size block))

-- a block looks like a node of a mapping tree that isn't sound: whatever its entries name, it breaks no rule
unfoldable pub is_loose_top_node : Graph → List (List ℕ) → ℕ → Bool
is_loose_top_node graph image t =
    let block = block_at image t in
    not (is_outside graph.nr t || is_damaged 8 t block)
    && (is_mostly_inside 8 graph.nr block && (are_ids 8 block && not (is_sound_tree graph image 2 t)))

-- the same of a details tree, in whose leaves the values are no blocks
unfoldable pub is_loose_details_node : Graph → List (List ℕ) → ℕ → Bool
is_loose_details_node graph image d =
    let block = block_at image d in
    not (is_outside graph.nr d || is_damaged 24 d block)
    && ((not (is_inner_node block) || is_mostly_inside 24 graph.nr block) && (are_ids 24 block && not (is_sound_tree graph image 4 d)))

-- no other such block has it among its children
abbrev pub is_topmost : ℕ → (ℕ → Bool) → ℕ → List (List ℕ) → ℕ → Bool
is_topmost size loose nr image b =
    not (list_any (λ other. not (other == b) && (loose other && has_child size (block_at image other) b)) (range_with_len 0 nr))

-- the superblock of a mapping tree and a details tree, with 0 for all else: lost details count for nothing
abbrev pub bare_fields : Graph → ℕ → ℕ → ThinFields
bare_fields graph top details =
    found_fields graph 0 0 (record { top = top; details = details; mappings = 0; time = 0; transaction = 0; times = 0 })

-- what is kept of two trees: a pool's devices
abbrev pub kept_devices : Graph → List (List ℕ) → ℕ → ℕ → List ThinDevice
kept_devices graph image top details = (salvage_from (bare_fields graph top details) image).devices

abbrev pub kept_number : List ThinDevice → ℕ
kept_number devices = sum_by (λ (d : ThinDevice). d.mapped) devices

-- the root of a damaged mapping tree: something is kept of it
unfoldable pub is_loose_top : Graph → List (List ℕ) → ℕ → Bool
is_loose_top graph image t =
    is_loose_top_node graph image t
    && (is_topmost 8 (is_loose_top_node graph image) graph.nr image t && nat_lt 0 (kept_number (kept_devices graph image t 0)))

-- the root of a details tree, sound or damaged
unfoldable pub is_details_root : Graph → List (List ℕ) → ℕ → Bool
is_details_root graph image d =
    is_sound_tree graph image 4 d || (is_loose_details_node graph image d && is_topmost 24 (is_loose_details_node graph image) graph.nr image d)

-- the details that a tree gives for the devices of a mapping tree
unfoldable pub given_details : Graph → List (List ℕ) → ℕ → ℕ → List ℕ
given_details graph image top d =
    filter_map (λ (device : Entry). value_of_key (salvaged_entries 24 graph.nr image d) device.key) (saved_tops (bare_fields graph top d) image)

-- What details trees are compared by, the first number first: for how many devices it gives details, their latest time, their latest
-- transaction, and its place
abbrev pub details_score : Graph → List (List ℕ) → ℕ → ℕ → List ℕ
details_score graph image top d =
    let details = given_details graph image top d in
    length details
    ∷ fold max 0 (flat_map (λ (v : ℕ). (v / 2 ^ 128 % 2 ^ 32) ∷ (v / 2 ^ 160) ∷ []) details)
    ∷ fold max 0 (map (λ (v : ℕ). v / 2 ^ 64 % 2 ^ 64) details)
    ∷ d ∷ []

-- the better one of two details trees
abbrev pub better_details : Graph → List (List ℕ) → ℕ → ℕ → ℕ → ℕ
better_details graph image top a b = if is_greater (details_score graph image top a) (details_score graph image top b) then a else b

-- the best details tree of those that give details for some of the devices, and 0 where there is none
unfoldable pub best_details : Graph → List (List ℕ) → ℕ → ℕ
best_details graph image top =
    fold (better_details graph image top) 0
    (filter (λ d. is_details_root graph image d && nat_lt 0 (length (given_details graph image top d))) (range_with_len 0 graph.nr))

-- a damaged state: its roots, and what is kept of them
abbrev pub kept_roots : Graph → List (List ℕ) → ℕ → ℕ → FoundRoots
kept_roots graph image top details =
    let devices = kept_devices graph image top details in
    record {
      top = top;
      details = details;
      mappings = kept_number devices;
      time = fold max 0 (flat_map times_of devices);
      transaction = fold max 0 (map (λ (d : ThinDevice). d.transaction) devices);
      times = sum_by (λ (d : ThinDevice). sum_by (λ (m : Mapping). m.time) d.mappings) devices;
    }

unfoldable pub damaged_state : Graph → List (List ℕ) → ℕ → FoundRoots
damaged_state graph image top = kept_roots graph image top (best_details graph image top)

-- the damaged states, the best first
unfoldable pub damaged_states : Graph → List (List ℕ) → List FoundRoots
damaged_states graph image = in_order (map (damaged_state graph image) (filter (is_loose_top graph image) (range_with_len 0 graph.nr)))
