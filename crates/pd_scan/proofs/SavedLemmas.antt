-- What a repair saves from roots that fit each other is what was found.
use Rattle.std.proofs.Common.{◌≡◌, inl, inr, ℕ, ◌%◌, ◌^◌, ◌<◌, ◌≤◌, true, false, not, nat_eq, nat_lt, List, [], ◌∷◌, length, map, Option, Some, refl, ap, subst, ◌∙◌, arith}
use Rattle.std.specs.List.{AllByRecursion, list_any, list_all}
use Rattle.std.specs.Option.{option_map}
use Rattle.std.specs.Prelude.{is_none}
use Rattle.std.specs.Str.{bytes_eq}
use Rattle.std.proofs.lemmas.Slice.Eq.{bytes_eq-Decides}
use Rattle.std.proofs.lemmas.Bool.{cases_Bool, both_ways, and_parts, eqb-true, lt-ltb, ne_eqb, not-false, not_from_false, or_from}
use Rattle.pd_kinds.specs.Graph.{Edge, is_outside, Graph, block_at, pair}
use Rattle.pd_kinds.specs.Image.{HasBytes}
use Rattle.pd_kinds.specs.Lawful.{IsLawful}
use Rattle.pd_kinds.specs.Layout.{Layout, graph_of, leaf_entries}
use Rattle.pd_kinds.specs.Meaning.{ThinDevice, ThinPool, thin_device}
use Rattle.pd_kinds.specs.Node.{Entry}
use Rattle.pd_kinds.specs.Stages.{IsReached}
use Rattle.pd_kinds.specs.ThinFormat.{thin_layout, mapped_block, mapped_time, ThinFields}
use Rattle.pd_kinds.specs.Trees.{entries_below, keys_of, value_of_key}
use Rattle.pd_kinds.specs.Whole.{top_entries, mapping_entries, details_entries}
use Rattle.pd_kinds.specs.InOrder.{AreInOrder}
use Rattle.pd_kinds.proofs.ListLemmas.{all_from, all_from_two, none_passes}
use Rattle.pd_laid.specs.FoundRoots.{FoundRoots, are_fitting, devices_below, found_pool, is_sound_tree}
use Rattle.pd_laid.specs.Salvage.{salvaged_entries, salvaged_mappings, salvaged_device, salvage_from}
use Rattle.pd_laid.proofs.NodeFacts.{among_mapped, block_pair, given_root, leaf_named, under_all, within_at}
use Rattle.pd_laid.proofs.SalvageLemmas.{top_tree, bottom_tree, details_tree, bottom_is, details_is, filter_all, top_is}
use Rattle.pd_answers.specs.KeptLines.{found_mapped}
use Rattle.pd_answers.specs.NamedRepairs.{lacks_details}
use Rattle.pd_scan.specs.Pairs.{lost_fields}
use Rattle.pd_scan.proofs.NamedTrees.{IsNamed, IsPart, entries_named, ordered, part_is, roots_reached, with_roots}
use Rattle.pd_scan.proofs.SameBelow.{map_same}
use Rattle.pd_scan.proofs.SoundLemmas.{inside_at as root_inside, sound_from_tree}

-- the value of a key that there is
record HasValue (entries : List Entry) (key : ℕ) : Type 0 where
  value : ℕ
  found : value_of_key entries key ≡ Some value

has_value : (entries : List Entry) (key : ℕ) → list_any (λ q. nat_eq q key) (keys_of entries) ≡ true → HasValue entries key
unfolding value_of_key
has_value [] key among = absurd (both_ways false refl among)
has_value (e ∷ entries) key among = elim (cases_Bool (nat_eq e.key key)) [
  | inl here ↦ record { value = e.value; found = rw here refl }
  | inr other ↦
      let rest = has_value entries key (rw other at among) in
      record { value = rest.value; found = rw other rest.found }
]

-- devices that have as many mappings as their details say
abbrev IsCounted : ThinDevice → Type 0
IsCounted d = d.mapped ≡ length d.mappings

all_counted : (make : Entry → ThinDevice) (tops : List Entry) → list_all (λ (d : ThinDevice). nat_eq d.mapped (length d.mappings)) (map make tops) ≡ true
    → AllByRecursion (λ (top : Entry). IsCounted (make top)) tops
all_counted make [] all = tt
all_counted make (top ∷ tops) all =
    let parts = and_parts _ _ all in
    (eqb-true (make top).mapped (length (make top).mappings) parts.0, all_counted make tops parts.1)

-- of two trees that fit each other the first is sound
pub top_is_sound : (graph : Graph) (image : List (List ℕ)) (top details : ℕ) → are_fitting graph image top details ≡ true → is_sound_tree graph image 2 top ≡ true
unfolding are_fitting
top_is_sound graph image top details fit = (and_parts (is_sound_tree graph image 2 top) _ fit).0

module _ (nr data_blocks transaction block_size : ℕ) (image : List (List ℕ)) (roots : FoundRoots)
    (lawful : IsLawful (graph_of 11 nr data_blocks (thin_layout nr data_blocks))) (bytes : HasBytes image)
    (fit : are_fitting (graph_of 11 nr data_blocks (thin_layout nr data_blocks)) image roots.top roots.details ≡ true) where
  abbrev graph : Graph
  graph = graph_of 11 nr data_blocks (thin_layout nr data_blocks)

  abbrev fields : ThinFields
  fields = lost_fields roots transaction block_size nr data_blocks

  -- the pool as that of an image whose block 0 names both roots
  abbrev both_roots : List Edge
  both_roots = record { role = 2; block = roots.top } ∷ record { role = 4; block = roots.details } ∷ []

  abbrev table : ℕ → Layout
  table = with_roots (thin_layout nr data_blocks) both_roots

  abbrev seen : Graph
  seen = graph_of 11 nr data_blocks table

  part_of : (role b : ℕ) → 1 ≤ role → role < 11 → is_sound_tree graph image role b ≡ true → IsPart 11 nr data_blocks (thin_layout nr data_blocks) image lawful (pair b role)
  unfolding graph_of
  part_of role b some known sound =
      let inside = (root_inside graph image lawful role known b sound).0 in
      record { inside = inside; sound = sound_from_tree graph image lawful role b inside sound; role = omega arith }

  are_parts : AllByRecursion (IsNamed 11 nr data_blocks (thin_layout nr data_blocks) image lawful) both_roots
  unfolding are_fitting
  are_parts =
      let parts = and_parts (is_sound_tree graph image 2 roots.top) _ fit in
      let rest = and_parts (is_sound_tree graph image 4 roots.details) _ parts.1 in
      ((omega arith, part_of 2 roots.top (omega arith) (omega arith) parts.0), ((omega arith, part_of 4 roots.details (omega arith) (omega arith) rest.0), tt))

  in_order : AreInOrder seen image
  in_order = ordered 11 nr data_blocks (thin_layout nr data_blocks) image lawful both_roots are_parts

  same_below : (size b role : ℕ) → 1 ≤ role → IsReached seen image b role → entries_below seen image size role b ≡ entries_below graph image size role b
  same_below size b role some found =
      entries_named 11 nr data_blocks (thin_layout nr data_blocks) image lawful both_roots are_parts size b role
      (part_is 11 nr data_blocks (thin_layout nr data_blocks) image lawful both_roots are_parts b role some found)

  -- a root that is inside, and reached in its role
  abbrev IsRoot : ℕ → ℕ → Type 0
  IsRoot role b = (is_outside nr b ≡ false) × IsReached seen image b role

  root_is : (role b : ℕ) → 1 ≤ role → role < 11 → IsReached seen image b role → IsRoot role b
  unfolding graph_of
  root_is role b some known found =
      let part = part_is 11 nr data_blocks (thin_layout nr data_blocks) image lawful both_roots are_parts b role some found in
      let from = part.inside.some in
      let below = part.inside.below in
      (or_from (nat_eq b 0) (not (nat_lt b nr)) (ne_eqb b 0 (λ e. omega arith)) (ap not (lt-ltb b nr (omega arith))), found)

  top_is_root : IsRoot 2 roots.top
  top_is_root = root_is 2 roots.top (omega arith) (omega arith) (roots_reached 11 nr data_blocks (thin_layout nr data_blocks) image lawful both_roots are_parts).0

  details_is_root : IsRoot 4 roots.details
  details_is_root = root_is 4 roots.details (omega arith) (omega arith) (roots_reached 11 nr data_blocks (thin_layout nr data_blocks) image lawful both_roots are_parts).1.0

  -- what is given below the roots of the three trees
  given_tops : salvaged_entries 8 nr image roots.top ≡ top_entries graph image roots.top
  given_tops =
      given_root 11 nr data_blocks table image in_order top_tree 2 (omega arith) (top_is nr data_blocks) bytes roots.top top_is_root.1 top_is_root.0
      ∙ same_below 8 roots.top 2 (omega arith) top_is_root.1

  given_bottom : (b : ℕ) → IsRoot 3 b → salvaged_entries 8 nr image b ≡ mapping_entries graph image b
  given_bottom b root =
      given_root 11 nr data_blocks table image in_order (bottom_tree data_blocks) 3 (omega arith) (bottom_is nr data_blocks) bytes b root.1 root.0
      ∙ same_below 8 b 3 (omega arith) root.1

  given_all_details : salvaged_entries 24 nr image roots.details ≡ details_entries graph image roots.details
  given_all_details =
      given_root 11 nr data_blocks table image in_order details_tree 4 (omega arith) (details_is nr data_blocks) bytes roots.details details_is_root.1 details_is_root.0
      ∙ same_below 24 roots.details 4 (omega arith) details_is_root.1

  -- each device's root is a root, and each mapping's data block is in the pool
  tops_seen : AllByRecursion (λ (top : Entry). IsRoot 3 top.value) (entries_below seen image 8 2 roots.top)
  unfolding entries_below
  tops_seen =
      under_all 11 nr data_blocks table image in_order top_tree 2 (omega arith) (top_is nr data_blocks) (λ (top : Entry). IsRoot 3 top.value) _
      (λ c reached leaf. rw (block_pair c 2 (omega arith))
      (all_from _ (λ (top : Entry). IsRoot 3 top.value) (λ top named. (named.0.0, named.0.1 (omega arith))) (leaf_entries 8 (block_at image c))
      (leaf_named 11 nr data_blocks table image in_order top_tree 2 (omega arith) (top_is nr data_blocks) c reached leaf)))
      63 roots.top top_is_root.1

  tops_are_roots : AllByRecursion (λ (top : Entry). IsRoot 3 top.value) (top_entries graph image roots.top)
  tops_are_roots = subst (AllByRecursion (λ (top : Entry). IsRoot 3 top.value)) (same_below 8 roots.top 2 (omega arith) top_is_root.1) tops_seen

  abbrev IsInPool : Entry → Type 0
  IsInPool e = nat_lt (mapped_block e.value) data_blocks ≡ true

  mappings_seen : (b : ℕ) → IsRoot 3 b → AllByRecursion IsInPool (entries_below seen image 8 3 b)
  unfolding entries_below
  mappings_seen b root =
      under_all 11 nr data_blocks table image in_order (bottom_tree data_blocks) 3 (omega arith) (bottom_is nr data_blocks) IsInPool _
      (λ c reached leaf. rw (block_pair c 3 (omega arith))
      (all_from (λ (e : Entry). not (nat_lt (mapped_block e.value) data_blocks) ≡ false) IsInPool
      (λ e holds. not-false (nat_lt (mapped_block e.value) data_blocks) holds) (leaf_entries 8 (block_at image c))
      (none_passes (λ (e : Entry). not (nat_lt (mapped_block e.value) data_blocks)) (leaf_entries 8 (block_at image c))
      (within_at 11 nr data_blocks table image in_order (bottom_tree data_blocks) 3 (omega arith) (bottom_is nr data_blocks) c reached))))
      63 b root.1

  mappings_within : (b : ℕ) → IsRoot 3 b → AllByRecursion IsInPool (mapping_entries graph image b)
  mappings_within b root = subst (AllByRecursion IsInPool) (same_below 8 b 3 (omega arith) root.1) (mappings_seen b root)

  mappings_given : (b : ℕ) → IsRoot 3 b → salvaged_mappings fields image b
      ≡ map (λ (e : Entry). record { virtual_block = e.key; data_block = mapped_block e.value; time = mapped_time e.value }) (mapping_entries graph image b)
  unfolding salvaged_mappings
  mappings_given b root =
      rw (given_bottom b root)
      (ap (map (λ (e : Entry). record { virtual_block = e.key; data_block = mapped_block e.value; time = mapped_time e.value }))
      (filter_all (λ (e : Entry). nat_lt (mapped_block e.value) data_blocks) (mapping_entries graph image b) (mappings_within b root)))

  -- a device whose details are found, with the right number of mappings
  device_given : (top : Entry) → IsRoot 3 top.value → HasValue (details_entries graph image roots.details) top.key
      → IsCounted (thin_device graph image (details_entries graph image roots.details) top)
      → salvaged_device fields image top ≡ thin_device graph image (details_entries graph image roots.details) top
  unfolding salvaged_device thin_device
  device_given top root has counted =
      let right = rw has.found at counted in
      rw (given_all_details, mappings_given top.value root, has.found, right) refl

  -- each device of the mapping tree has details
  all_found : AllByRecursion (λ (top : Entry). HasValue (details_entries graph image roots.details) top.key) (top_entries graph image roots.top)
  unfolding are_fitting
  all_found =
      let tops = top_entries graph image roots.top in
      let details = details_entries graph image roots.details in
      let lists = and_parts (bytes_eq (keys_of tops) (keys_of details)) _ (and_parts _ _ (and_parts _ _ fit).1).1 in
      let same : keys_of tops ≡ keys_of details = (bytes_eq-Decides (keys_of tops) (keys_of details)).0 lists.0 in
      all_from (λ (top : Entry). list_any (λ q. nat_eq q top.key) (keys_of tops) ≡ true) (λ (top : Entry). HasValue details top.key)
      (λ top among. has_value details top.key (rw same at among)) tops (among_mapped (λ (e : Entry). e.key) tops)

  pub found_is_saved : salvage_from fields image ≡ found_pool graph image transaction block_size roots
  unfolding are_fitting devices_below salvage_from found_pool graph_of
  found_is_saved =
      let tops = top_entries graph image roots.top in
      let details = details_entries graph image roots.details in
      let lists = and_parts (bytes_eq (keys_of tops) (keys_of details)) _ (and_parts _ _ (and_parts _ _ fit).1).1 in
      let counted = all_counted (thin_device graph image details) tops lists.1 in
      let each = all_from_two (λ (top : Entry). HasValue details top.key) (λ (top : Entry). IsCounted (thin_device graph image details top))
      (λ (top : Entry). IsRoot 3 top.value → salvaged_device fields image top ≡ thin_device graph image details top)
      (λ top has right root. device_given top root has right) tops all_found counted in
      let inside = all_from (λ (top : Entry). IsRoot 3 top.value) (λ (top : Entry). not (is_outside nr top.value) ≡ true)
      (λ top root. not_from_false (is_outside nr top.value) root.0) tops tops_are_roots in
      rw (given_tops, filter_all (λ (top : Entry). not (is_outside nr top.value)) tops inside)
      rw (map_same (salvaged_device fields image) (thin_device graph image details) tops
      (all_from_two (λ (top : Entry). IsRoot 3 top.value) (λ (top : Entry). IsRoot 3 top.value → salvaged_device fields image top ≡ thin_device graph image details top)
      (λ (top : Entry). salvaged_device fields image top ≡ thin_device graph image details top) (λ top root follows. follows root)
      tops tops_are_roots each)) refl

  -- so none lacks them
  pub none_lacks : lacks_details fields image ≡ false
  unfolding found_pool devices_below thin_device
  none_lacks = ap (λ (m : ThinPool). list_any (λ (d : ThinDevice). is_none (found_mapped fields image d.id)) m.devices) found_is_saved ∙ by (top_entries graph image roots.top) all_found
    where
      by : (tops : List Entry) → AllByRecursion (λ (top : Entry). HasValue (details_entries graph image roots.details) top.key) tops
          → list_any (λ (d : ThinDevice). is_none (found_mapped fields image d.id)) (map (thin_device graph image (details_entries graph image roots.details)) tops) ≡ false
      by [] found = refl
      by (top ∷ tops) found =
          let mapped : found_mapped fields image top.key ≡ Some (found.0.value % 2 ^ 64) =
          ap (λ (entries : List Entry). option_map (λ details. details % 2 ^ 64) (value_of_key entries top.key)) given_all_details
          ∙ ap (λ (o : Option ℕ). option_map (λ details. details % 2 ^ 64) o) found.0.found in
          rw mapped (by tops found.1)
