-- Where a thin image has no faults up to the stage Whole, what is saved of it is what it means.
use Rattle.std.proofs.Common.{◌≡◌, inl, inr, ℕ, ◌*◌, ◌<◌, ◌≤◌, Bool, true, false, not, ◌&&◌, ◌||◌, nat_eq, nat_lt, List, [], ◌∷◌, ◌++◌, length, map, filter, Some, refl, ◌∙◌, ap, eq-eqb, arith}
use Rattle.std.specs.List.{AllByRecursion, list_any, find, flat_map}
use Rattle.std.specs.Str.{bytes_eq}
use Rattle.std.proofs.lemmas.Slice.Eq.{bytes_eq-Decides}
use Rattle.std.proofs.lemmas.List.{length-map}
use Rattle.std.proofs.lemmas.Bool.{cases_Bool, both_ways, and_cases, or_parts, eqb-true, or_from, not-false, not_from_true, not_from_false, ne_eqb, lt-ltb}
use Rattle.pd_kinds.specs.declared.kind.Kind.TheVariants.{Thin}
use Rattle.pd_kinds.specs.declared.kind.Stage.TheVariants.{Whole}
use Rattle.pd_kinds.specs.declared.rule.Rule.{Rule}
use Rattle.pd_kinds.specs.Rule.{number_of, same_rule, all_rules}
use Rattle.pd_kinds.specs.Graph.{Edge, is_outside, optional_edge, Graph, block_at, pair, next, is_reached, edges_of}
use Rattle.pd_kinds.specs.Node.{Entry}
use Rattle.pd_kinds.specs.Layout.{Layout, Tree, tree, tree_to, plain_tree, graph_of, is_bad, layout_bad, leaf_entries}
use Rattle.pd_kinds.specs.ThinFormat.{ThinFields, thin_fields, thin_super_edges, thin_graph, thin_layout, mappings_tree, mapped_block, mapped_time}
use Rattle.pd_kinds.specs.Trees.{entries_below, keys_of, value_of_key}
use Rattle.pd_kinds.specs.Whole.{WholeTest, whole_bad, top_entries, mapping_entries, details_entries, mapped_number, mapped_tests, device_test, thin_roots, thin_whole, bitmap_tests, roots_in}
use Rattle.pd_kinds.specs.Meaning.{Mapping, thin_device, thin_meaning}
use Rattle.pd_kinds.specs.Lawful.{IsLawful, IsWithin}
use Rattle.pd_kinds.specs.Stages.{IsReached, faults, thin_checked}
use Rattle.pd_kinds.specs.InOrder.{AreInOrder}
use Rattle.pd_kinds.proofs.ListLemmas.{all_from, all_from_two, none_passes}
use Rattle.pd_kinds.proofs.CleanLemmas.{whole_where_none}
use Rattle.pd_kinds.proofs.SoundLemmas.{inside_from}
use Rattle.pd_kinds.proofs.PathLemmas.{reached_start}
use Rattle.pd_kinds.specs.Image.{HasBytes}
use Rattle.pd_kinds.proofs.KindsListLemmas.{all_first, all_last}
use Rattle.pd_kinds.specs.declared.rule.Rule.TheVariants as r
use Rattle.pd_laid.specs.Laid.{tree_of}
use Rattle.pd_laid.specs.Salvage.{salvaged_entries, salvaged_mappings, salvaged_device, salvage_from, salvage}
use Rattle.pd_laid.proofs.NodeFacts.{all_parts, among_mapped, none_pass, reached_next, given_root, under_all, leaf_named, within_at, block_pair}

-- a filter that all pass keeps all
pub filter_all : {X : Type 0} → (p : X → Bool) (xs : List X) → AllByRecursion (λ x. p x ≡ true) xs → filter p xs ≡ xs
filter_all p [] all = refl
filter_all p (x ∷ xs) all = rw (all.0, filter_all p xs all.1) refl

-- what is made of each element in two ways
pub same_made : {X Y : Type 0} → (f g : X → Y) (xs : List X) → AllByRecursion (λ x. f x ≡ g x) xs → map f xs ≡ map g xs
same_made f g [] all = refl
same_made f g (x ∷ xs) all = rw (all.0, same_made f g xs all.1) refl

-- a test of the whole image holds where its rule isn't broken at its block
holds_here : (t : WholeTest) (rest : Bool) → ((t.fails && (nat_eq t.block t.block && same_rule t.rule t.rule)) || rest) ≡ false → t.fails ≡ false
holds_here t rest none = elim (and_cases t.fails (nat_eq t.block t.block && same_rule t.rule t.rule) (or_parts _ rest none).0) [
  | inl holds ↦ holds
  | inr other ↦
      let same : same_rule t.rule t.rule ≡ true = eq-eqb (number_of t.rule) (number_of t.rule) refl in
      absurd (both_ways _ other (rw (eq-eqb t.block t.block refl, same) refl))
]

pub tests_hold : (nr : ℕ) (tests : List WholeTest) → ((b : ℕ) (broken : Rule) → b < nr → whole_bad tests b broken ≡ false)
    → AllByRecursion (λ (t : WholeTest). t.block < nr → t.fails ≡ false) tests
unfolding whole_bad
tests_hold nr [] none = tt
tests_hold nr (t ∷ tests) none =
    ((λ within. holds_here t _ (none t.block t.rule within)), tests_hold nr tests (λ b broken within. (or_parts _ _ (none b broken within)).1))

-- what is known of the entry that a key finds
pub record Finds (entries : List Entry) (key : ℕ) (Q : Entry → Type 0) : Type 0 where
  pub entry : Entry
  pub found : find (λ (e : Entry). nat_eq e.key key) entries ≡ Some entry
  pub known : Q entry

finds : (Q : Entry → Type 0) (entries : List Entry) (key : ℕ) → list_any (λ q. nat_eq q key) (keys_of entries) ≡ true
    → AllByRecursion Q (filter (λ (e : Entry). nat_eq e.key key) entries) → Finds entries key Q
finds Q [] key among all = absurd (both_ways false refl among)
finds Q (e ∷ entries) key among all = elim (cases_Bool (nat_eq e.key key)) [
  | inl here ↦ record { entry = e; found = rw here refl; known = (rw here at all).0 }
  | inr other ↦
      let rest = finds Q entries key (rw other at among) (rw other at all) in
      record { entry = rest.entry; found = rw other rest.found; known = rest.known }
]

-- the trees of a pool
abbrev pub top_tree : Tree
top_tree = tree_of (tree_to 8 3 (λ v. v))

abbrev pub bottom_tree : ℕ → Tree
bottom_tree data_blocks = tree_of (mappings_tree data_blocks)

abbrev pub details_tree : Tree
details_tree = tree_of (plain_tree 24)

pub top_is : (nr data_blocks : ℕ) → thin_layout nr data_blocks 2 ≡ tree top_tree
unfolding thin_layout
top_is nr data_blocks = refl

pub bottom_is : (nr data_blocks : ℕ) → thin_layout nr data_blocks 3 ≡ tree (bottom_tree data_blocks)
unfolding thin_layout
bottom_is nr data_blocks = refl

pub details_is : (nr data_blocks : ℕ) → thin_layout nr data_blocks 4 ≡ tree details_tree
unfolding thin_layout
details_is nr data_blocks = refl

module _ (fields : ThinFields) (image : List (List ℕ))
    (ordered : AreInOrder (graph_of 11 fields.meta_map.blocks fields.data_map.blocks (thin_layout fields.meta_map.blocks fields.data_map.blocks)) image)
    (bytes : HasBytes image) where
  abbrev nr : ℕ
  nr = fields.meta_map.blocks

  abbrev data_blocks : ℕ
  data_blocks = fields.data_map.blocks

  abbrev graph : Graph
  graph = graph_of 11 nr data_blocks (thin_layout nr data_blocks)

  -- a root that is inside, and reached in its role
  abbrev pub IsRoot : ℕ → ℕ → Type 0
  IsRoot role b = (is_outside nr b ≡ false) × IsReached graph image b role

  -- what is given below the roots of the three trees
  pub given_tops : (b : ℕ) → IsRoot 2 b → salvaged_entries 8 nr image b ≡ top_entries graph image b
  given_tops b root = given_root 11 nr data_blocks (thin_layout nr data_blocks) image ordered top_tree 2 (omega arith) (top_is nr data_blocks) bytes b root.1 root.0

  given_bottom : (b : ℕ) → IsRoot 3 b → salvaged_entries 8 nr image b ≡ mapping_entries graph image b
  given_bottom b root =
      given_root 11 nr data_blocks (thin_layout nr data_blocks) image ordered (bottom_tree data_blocks) 3 (omega arith) (bottom_is nr data_blocks) bytes b root.1 root.0

  given_all_details : (b : ℕ) → IsRoot 4 b → salvaged_entries 24 nr image b ≡ details_entries graph image b
  given_all_details b root =
      given_root 11 nr data_blocks (thin_layout nr data_blocks) image ordered details_tree 4 (omega arith) (details_is nr data_blocks) bytes b root.1 root.0

  -- each device's root is a root, and each mapping's data block is in the pool
  pub tops_are_roots : (b : ℕ) → IsRoot 2 b → AllByRecursion (λ (top : Entry). IsRoot 3 top.value) (top_entries graph image b)
  unfolding entries_below
  tops_are_roots b root =
      under_all 11 nr data_blocks (thin_layout nr data_blocks) image ordered top_tree 2 (omega arith) (top_is nr data_blocks) (λ (top : Entry). IsRoot 3 top.value) _
      (λ c reached leaf. rw (block_pair c 2 (omega arith))
      (all_from _ (λ (top : Entry). IsRoot 3 top.value) (λ top named. (named.0.0, named.0.1 (omega arith))) (leaf_entries 8 (block_at image c))
      (leaf_named 11 nr data_blocks (thin_layout nr data_blocks) image ordered top_tree 2 (omega arith) (top_is nr data_blocks) c reached leaf)))
      63 b root.1

  mappings_within : (b : ℕ) → IsRoot 3 b → AllByRecursion (λ (e : Entry). nat_lt (mapped_block e.value) data_blocks ≡ true) (mapping_entries graph image b)
  unfolding entries_below
  mappings_within b root =
      under_all 11 nr data_blocks (thin_layout nr data_blocks) image ordered (bottom_tree data_blocks) 3 (omega arith) (bottom_is nr data_blocks)
      (λ (e : Entry). nat_lt (mapped_block e.value) data_blocks ≡ true) _
      (λ c reached leaf. rw (block_pair c 3 (omega arith))
      (all_from (λ (e : Entry). not (nat_lt (mapped_block e.value) data_blocks) ≡ false) (λ (e : Entry). nat_lt (mapped_block e.value) data_blocks ≡ true)
      (λ e holds. not-false (nat_lt (mapped_block e.value) data_blocks) holds) (leaf_entries 8 (block_at image c))
      (none_passes (λ (e : Entry). not (nat_lt (mapped_block e.value) data_blocks)) (leaf_entries 8 (block_at image c))
      (within_at 11 nr data_blocks (thin_layout nr data_blocks) image ordered (bottom_tree data_blocks) 3 (omega arith) (bottom_is nr data_blocks) c reached))))
      63 b root.1

  -- a mapping of an entry
  abbrev mapping_of : Entry → Mapping
  mapping_of e = record { virtual_block = e.key; data_block = mapped_block e.value; time = mapped_time e.value }

  mappings_given : (b : ℕ) → IsRoot 3 b → salvaged_mappings fields image b ≡ map mapping_of (mapping_entries graph image b)
  unfolding salvaged_mappings
  mappings_given b root =
      let all = given_bottom b root in
      rw all (ap (map mapping_of) (filter_all (λ (e : Entry). nat_lt (mapped_block e.value) data_blocks) (mapping_entries graph image b) (mappings_within b root)))

  -- a device whose details are found, with the right number of mappings
  abbrev pub IsCounted : Entry → Entry → Type 0
  IsCounted top details = mapped_number details.value ≡ length (mapping_entries graph image top.value)

  device_given : (top : Entry) → IsRoot 3 top.value → IsRoot 4 fields.details_root
      → Finds (details_entries graph image fields.details_root) top.key (IsCounted top)
      → salvaged_device fields image top ≡ thin_device graph image (details_entries graph image fields.details_root) top
  unfolding salvaged_device thin_device value_of_key
  device_given top root details is =
      let mappings = mappings_given top.value root in
      let number = length-map (mapping_entries graph image top.value) mapping_of in
      rw (given_all_details fields.details_root details, mappings, is.found, number, is.known) refl

-- a fact on a mapped list holds of the elements
pub all_unmapped : {X Y : Type 0} → (f : X → Y) (P : Y → Type 0) (xs : List X) → AllByRecursion P (map f xs) → AllByRecursion (λ x. P (f x)) xs
all_unmapped f P [] all = tt
all_unmapped f P (x ∷ xs) all = (all.0, all_unmapped f P xs all.1)

-- a number from 1 to nr - 1 isn't outside
pub inside_is : (nr b : ℕ) → 1 ≤ b → b < nr → is_outside nr b ≡ false
inside_is nr b some below = or_from (nat_eq b 0) (not (nat_lt b nr)) (ne_eqb b 0 (λ e. omega arith)) (not_from_true (nat_lt b nr) (lt-ltb b nr below))

module _ (image : List (List ℕ))
    (ordered : AreInOrder (graph_of 11 (thin_fields (block_at image 0)).meta_map.blocks (thin_fields (block_at image 0)).data_map.blocks
    (thin_layout (thin_fields (block_at image 0)).meta_map.blocks (thin_fields (block_at image 0)).data_map.blocks)) image)
    (lawful : IsLawful (graph_of 11 (thin_fields (block_at image 0)).meta_map.blocks (thin_fields (block_at image 0)).data_map.blocks
    (thin_layout (thin_fields (block_at image 0)).meta_map.blocks (thin_fields (block_at image 0)).data_map.blocks)))
    (bytes : HasBytes image) where
  abbrev own : ThinFields
  own = thin_fields (block_at image 0)

  abbrev table : ℕ → Layout
  table = thin_layout own.meta_map.blocks own.data_map.blocks

  abbrev own_graph : Graph
  own_graph = graph_of 11 own.meta_map.blocks own.data_map.blocks table

  -- block 0 is reached, and names the edges of the superblock
  super_reached : IsReached own_graph image 0 0
  unfolding is_reached graph_of
  super_reached = record {
    block = lawful.some_block;
    within = omega arith;
    found = reached_start (16 * own.meta_map.blocks) (next own_graph image) 0 (16 * own.meta_map.blocks);
  }

  super_not_bad : is_bad own.meta_map.blocks 0 (table 0) 0 (block_at image 0) ≡ false
  unfolding is_bad graph_of
  super_not_bad = none_pass (layout_bad own.meta_map.blocks 0 (table 0) 0 (block_at image 0)) all_rules (ordered.well_formed 0 0 super_reached)

  super_edges : edges_of own_graph image 0 ≡ thin_super_edges own
  unfolding graph_of thin_layout
  super_edges = rw super_not_bad refl

  -- each of them leads to a root
  super_roots : AllByRecursion (λ (e : Edge). e.role < 16 → IsRoot own image ordered bytes e.role e.block) (thin_super_edges own)
  unfolding graph_of next
  super_roots =
      let within : AllByRecursion (IsWithin own_graph) (edges_of own_graph image 0) = (lawful.each 0 0 (block_at image 0) (omega arith)).within in
      all_from_two (IsWithin own_graph) (λ (e : Edge). list_any (λ q. nat_eq q (pair e.block e.role)) (map (λ (e : Edge). pair e.block e.role) (thin_super_edges own)) ≡ true)
      (λ (e : Edge). e.role < 16 → IsRoot own image ordered bytes e.role e.block)
      (λ e inside among known. (
        inside_is own.meta_map.blocks e.block inside.from_one inside.below,
        reached_next 11 own.meta_map.blocks own.data_map.blocks table image ordered 0 0 e.block e.role lawful.some_block (omega arith) inside.below known super_reached.found
            (ap (λ (edges : List Edge). list_any (λ q. nat_eq q (pair e.block e.role)) (map (λ (e : Edge). pair e.block e.role) edges)) super_edges ∙ among),
      ))
      (thin_super_edges own) (rw super_edges at within) (among_mapped (λ (e : Edge). pair e.block e.role) (thin_super_edges own))

  -- the roots of the mapping tree and of the details tree
  pub mapping_is_root : IsRoot own image ordered bytes 2 own.mapping_root
  mapping_is_root = (all_last _ (optional_edge 1 own.held_root) _ super_roots).0 (omega arith)

  details_is_root : IsRoot own image ordered bytes 4 own.details_root
  details_is_root = (all_last _ (optional_edge 1 own.held_root) _ super_roots).1.0 (omega arith)

  abbrev tops : List Entry
  tops = top_entries own_graph image own.mapping_root

  abbrev details : List Entry
  details = details_entries own_graph image own.details_root

  module _ (whole : (b : ℕ) (broken : Rule) → b < own.meta_map.blocks → whole_bad (thin_whole own_graph image) b broken ≡ false) where
    -- the rules Device and Mapped at the superblock's roots
    abbrev Holds : WholeTest → Type 0
    Holds t = t.block < own.meta_map.blocks → t.fails ≡ false

    later_tests : AllByRecursion Holds (map (device_test own_graph image) (thin_roots image) ++ flat_map (mapped_tests own_graph image) (thin_roots image))
    unfolding thin_whole
    later_tests =
        let all = tests_hold own.meta_map.blocks (thin_whole own_graph image) whole in
        all_last Holds (bitmap_tests own_graph image (λ role. nat_eq role 6 || nat_eq role 9)) _ all.1

    same_keys : keys_of details ≡ keys_of tops
    unfolding thin_roots device_test
    same_keys =
        let first = all_first Holds (map (device_test own_graph image) (thin_roots image)) (flat_map (mapped_tests own_graph image) (thin_roots image)) later_tests in
        let below = inside_from own.meta_map.blocks own.details_root details_is_root.0 in
        (bytes_eq-Decides (keys_of details) (keys_of tops)).0 (not-false (bytes_eq (keys_of details) (keys_of tops)) (first.0 below.1))

    -- the rule Mapped at a device's root, by its details
    abbrev made : Entry → Entry → WholeTest
    made top e = record {
      block = top.value;
      rule = r.Mapped;
      fails = not (nat_eq (mapped_number e.value) (length (mapping_entries own_graph image top.value)));
    }

    -- each device's details have the number of its mappings
    counted : AllByRecursion (λ (top : Entry). AllByRecursion (IsCounted own image ordered bytes top) (filter (λ (e : Entry). nat_eq e.key top.key) details)) tops
    unfolding thin_roots mapped_tests
    counted =
        let all = all_last Holds (map (device_test own_graph image) (thin_roots image)) (flat_map (mapped_tests own_graph image) (thin_roots image)) later_tests in
        let first = all_first Holds (mapped_tests own_graph image (roots_in (block_at image 0))) _ all in
        all_from_two (λ (top : Entry). IsRoot own image ordered bytes 3 top.value)
        (λ (top : Entry). AllByRecursion Holds (map (made top) (filter (λ (e : Entry). nat_eq e.key top.key) details)))
        (λ (top : Entry). AllByRecursion (IsCounted own image ordered bytes top) (filter (λ (e : Entry). nat_eq e.key top.key) details))
        (λ top root tests.
        all_from (λ (e : Entry). Holds (made top e)) (IsCounted own image ordered bytes top)
        (λ e holds. eqb-true (mapped_number e.value) (length (mapping_entries own_graph image top.value))
        (not-false _ (holds (inside_from own.meta_map.blocks top.value root.0).1)))
        (filter (λ (e : Entry). nat_eq e.key top.key) details)
        (all_unmapped (made top) Holds (filter (λ (e : Entry). nat_eq e.key top.key) details) tests))
        tops (tops_are_roots own image ordered bytes own.mapping_root mapping_is_root)
        (all_parts Holds (λ (top : Entry). map (made top) (filter (λ (e : Entry). nat_eq e.key top.key) details)) tops first)

    -- and they are found
    all_found : AllByRecursion (λ (top : Entry). Finds details top.key (IsCounted own image ordered bytes top)) tops
    all_found =
        all_from_two (λ (top : Entry). list_any (λ q. nat_eq q top.key) (keys_of tops) ≡ true)
        (λ (top : Entry). AllByRecursion (IsCounted own image ordered bytes top) (filter (λ (e : Entry). nat_eq e.key top.key) details))
        (λ (top : Entry). Finds details top.key (IsCounted own image ordered bytes top))
        (λ top among is. finds (IsCounted own image ordered bytes top) details top.key (ap (list_any (λ q. nat_eq q top.key)) same_keys ∙ among) is)
        tops (among_mapped (λ (e : Entry). e.key) tops) counted

    -- so each device is saved as it is
    devices_saved : map (salvaged_device own image) (filter (λ (top : Entry). not (is_outside own.meta_map.blocks top.value)) (salvaged_entries 8 own.meta_map.blocks image own.mapping_root))
        ≡ map (thin_device own_graph image details) tops
    devices_saved =
        let roots = tops_are_roots own image ordered bytes own.mapping_root mapping_is_root in
        let all = given_tops own image ordered bytes own.mapping_root mapping_is_root in
        let kept = filter_all (λ (top : Entry). not (is_outside own.meta_map.blocks top.value)) tops
        (all_from (λ (top : Entry). IsRoot own image ordered bytes 3 top.value) (λ (top : Entry). not (is_outside own.meta_map.blocks top.value) ≡ true)
        (λ top root. not_from_false (is_outside own.meta_map.blocks top.value) root.0) tops roots) in
        rw (all, kept) (same_made (salvaged_device own image) (thin_device own_graph image details) tops
        (all_from_two (λ (top : Entry). IsRoot own image ordered bytes 3 top.value) (λ (top : Entry). Finds details top.key (IsCounted own image ordered bytes top))
        (λ (top : Entry). salvaged_device own image top ≡ thin_device own_graph image details top)
        (λ top root is. device_given own image ordered bytes top root details_is_root is) tops roots all_found))

    pub pool_saved : salvage_from own image ≡ thin_meaning image
    unfolding salvage_from thin_meaning thin_graph
    pool_saved = rw devices_saved refl

-- no fault up to the stage Whole
pub saved_where_none : (image : List (List ℕ)) → AreInOrder (thin_graph (block_at image 0)) image → IsLawful (thin_graph (block_at image 0)) → HasBytes image
    → faults Thin Whole image ≡ [] → salvage image ≡ thin_meaning image
unfolding faults thin_checked thin_graph graph_of
saved_where_none image ordered lawful bytes none =
    pool_saved image ordered lawful bytes (λ b broken within. whole_where_none (thin_checked image) image [] none b broken within)
