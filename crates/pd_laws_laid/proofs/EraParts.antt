-- The parts of a laid era target fit among one another.
use Rattle.std.proofs.Common.{◌≡◌, ℕ, ◌+◌, ◌^◌, ◌<◌, ◌≤◌, List, [], ◌∷◌, ◌++◌, length, refl, sym, subst, ◌∙◌, ap, arith, ◌&&◌, nat_eq, true, false}
use Rattle.std.specs.List.{AllByRecursion}
use Rattle.std.proofs.lemmas.List.{length-append}
use Rattle.std.proofs.lemmas.Bool.{ne_eqb, or_right}
use Rattle.pd_kinds.specs.Graph.{Edge, edge_of, Graph, block_at, block_of, pair, has_edge_outside}
use Rattle.pd_kinds.specs.EraFormat.{era_layout, era_super_block, era_super_edges, writesets_tree, EraFields, era_fields, era_rows, era_super_bad, era_super_tests}
use Rattle.pd_kinds.specs.Lawful.{IsLawful}
use Rattle.pd_kinds.specs.Layout.{array, bitmap, graph_of, index, leaf_entries, plain_tree, tree, tree_to, Layout, copy}
use Rattle.pd_kinds.specs.Meaning.{EraMeaning}
use Rattle.pd_kinds.proofs.EraTable.{era_table}
use Rattle.pd_kinds.specs.declared.kind.Kind.TheVariants.{Cache, Era, Thin}
use Rattle.pd_kinds.specs.declared.rule.Rule.{Rule}
use Rattle.pd_kinds.specs.Field.{DoFit}
use Rattle.pd_kinds.specs.Image.{is_meta_size_bad}
use Rattle.pd_kinds.specs.Rule.{failing}
use Rattle.pd_kinds.specs.Super.{is_super_of, is_valid_super}
use Rattle.pd_kinds.proofs.SuperLemmas.{met_by_tests, place_tested}
use Rattle.pd_grammar.specs.Lawful.{IsLawfulEra}
use Rattle.pd_laid.specs.Laid.{IsLaid, LaidBlock, laid_leaf, laid_number, laid_tree, tree_of, meta_overflow_root, heads, levels_above, even_parts, tree_leaves, count_in, named_by, meta_counts, meta_map_number}
use Rattle.pd_laid.specs.LaidEra.{array_root_of, era_blocks, era_laid_fields, era_named, era_parts, laid_era, meta_map_at, meta_map_blocks, writeset_blocks, writesets_at, writesets_root}
use Rattle.pd_supers.proofs.EraWritten.{reads_back}
use Rattle.pd_laws_laid.specs.LaidOut.{AllFrom, IsFitting, IsInPlace, LeadsBelow, laid_super, IsTreeSeen, IsMetaMapSeen, IsArraySeen, IsSeen}
use Rattle.pd_laws_laid.proofs.Formats.{few_named, named_lower, leads_more, no_items, references_are, size_good}
use Rattle.pd_laws_laid.proofs.ListLemmas.{from_back, from_both, from_front, count_append}
use Rattle.pd_laws_laid.proofs.Names.{laid_in_place, root_leads}
use Rattle.pd_laws_laid.proofs.Nodes.{leaf_seen, none_outside}
use Rattle.pd_laws_laid.proofs.Trees.{tree_seen}
use Rattle.pd_laws_laid.proofs.MetaMap.{map_seen}
use Rattle.pd_laws_laid.proofs.LaidArrays.{array_seen, array_names_none}
use Rattle.pd_laws_laid.proofs.RoleCounts.{NameNone, both_count, edges_in, meta_map_once, no_edges, none_count, role_count, tree_names_none}
use Rattle.pd_laws_laid.proofs.Bytes.{is_super_of_rows}
use Rattle.pd_laws_laid.proofs.Plain.{plain_seen}

-- what the superblock names
abbrev pub super_edges : EraMeaning → ℕ → List Edge
super_edges m n =
    edge_of 2 (writesets_root m)
    ∷ edge_of 5 (array_root_of m)
    ∷ edge_of 7 (meta_map_at m)
    ∷ edge_of 9 (meta_overflow_root n (meta_map_at m) (era_named m))
    ∷ []

pub super_edges_are : (m : EraMeaning) (n : ℕ) → era_super_edges (era_laid_fields m n) ≡ super_edges m n
unfolding era_laid_fields
super_edges_are m n = refl

-- all that is laid, in its places, the superblock first
unfoldable pub era_all : EraMeaning → ℕ → List LaidBlock
era_all m n = laid_super (era_super_block (era_laid_fields m n)) (super_edges m n) ∷ (era_parts m ++ meta_map_blocks m n)

pub super_first : (P : ℕ → LaidBlock → Type 0) (m : EraMeaning) (n : ℕ) → AllFrom P 0 (era_all m n)
    → P 0 (laid_super (era_super_block (era_laid_fields m n)) (super_edges m n)) × AllFrom P 1 (era_parts m ++ meta_map_blocks m n)
unfolding era_all
super_first P m n all = all

pub first_super : (P : ℕ → LaidBlock → Type 0) (m : EraMeaning) (n : ℕ) → P 0 (laid_super (era_super_block (era_laid_fields m n)) (super_edges m n))
    → AllFrom P 1 (era_parts m ++ meta_map_blocks m n) → AllFrom P 0 (era_all m n)
unfolding era_all
first_super P m n first rest = (first, rest)

pub era_in_place : (m : EraMeaning) (n : ℕ) (base image : List (List ℕ)) → IsLaid (laid_era m n) base image → AllFrom (IsInPlace image (era_all m n)) 0 (era_all m n)
unfolding laid_era era_all
era_in_place m n base image is = laid_in_place (laid_era m n) (super_edges m n) base image is

pub parts_end : (m : EraMeaning) → 1 + length (era_parts m) ≡ meta_map_at m
unfolding era_parts
parts_end m = omega (arith, length-append (era_blocks m) (writeset_blocks m))

pub blocks_number : (m : EraMeaning) (n : ℕ) → length (era_all m n) ≡ meta_map_at m + length (meta_map_blocks m n)
unfolding era_all
blocks_number m n = omega (arith, parts_end m, length-append (era_parts m) (meta_map_blocks m n))

pub era_number : (m : EraMeaning) (n : ℕ) → laid_number (laid_era m n) ≡ meta_map_at m + length (meta_map_blocks m n)
unfolding laid_era era_all
era_number m n = omega (arith, blocks_number m n)

-- the roles
record HasRoles (layout : ℕ → Layout) : Type 0 where
  writesets : layout 2 ≡ tree (tree_of writesets_tree)
  eras : layout 5 ≡ tree_to 8 6 (λ v. v)
  era_words : layout 6 ≡ array 4
  map_index : layout 7 ≡ index 8
  map_bitmap : layout 8 ≡ bitmap
  map_overflow : layout 9 ≡ plain_tree 4

roles : (n : ℕ) → HasRoles (era_layout n)
unfolding era_layout
roles n = record { writesets = refl; eras = refl; era_words = refl; map_index = refl; map_bitmap = refl; map_overflow = refl }

-- the tree of writesets is one empty leaf
pub one_leaf : (m : EraMeaning) → writeset_blocks m ≡ laid_leaf 2 (tree_of writesets_tree) [] ∷ []
unfolding writeset_blocks laid_tree tree_leaves even_parts levels_above heads
one_leaf m = refl

module _ (m : EraMeaning) (n : ℕ) (image : List (List ℕ)) (few : n ≤ 4161600) (lawful : IsLawfulEra m)
    (room : meta_map_at m + length (meta_map_blocks m n) ≤ n) (stand : AllFrom (IsInPlace image (era_all m n)) 0 (era_all m n)) where
  abbrev this : Graph
  this = graph_of 10 n 0 (era_layout n)

  abbrev blocks : List LaidBlock
  blocks = era_all m n

  abbrev Placed : ℕ → LaidBlock → Type 0
  Placed q x = IsInPlace image blocks q x

  within : meta_map_at m ≤ n
  within = omega arith

  pub lawful_graph : IsLawful (graph_of 10 n 0 (era_layout n))
  lawful_graph = era_table n 0 (omega arith) few

  pub super_stands : IsInPlace image (era_all m n) 0 (laid_super (era_super_block (era_laid_fields m n)) (super_edges m n))
  super_stands = (super_first Placed m n stand).0

  parts_stand : AllFrom (IsInPlace image (era_all m n)) 1 (era_parts m)
  parts_stand = from_front Placed 1 (era_parts m) (meta_map_blocks m n) (super_first Placed m n stand).1

  pub meta_stands : AllFrom (IsInPlace image (era_all m n)) (meta_map_at m) (meta_map_blocks m n)
  meta_stands =
      let e = parts_end m in
      rw e at (from_back Placed 1 (era_parts m) (meta_map_blocks m n) (super_first Placed m n stand).1)

  eras_stand : AllFrom (IsInPlace image (era_all m n)) 1 (era_blocks m)
  unfolding era_parts
  eras_stand = from_front Placed 1 (era_blocks m) (writeset_blocks m) parts_stand

  pub writesets_stand : AllFrom (IsInPlace image (era_all m n)) (writesets_at m) (writeset_blocks m)
  unfolding era_parts
  writesets_stand = from_back Placed 1 (era_blocks m) (writeset_blocks m) parts_stand

  pub array_is : IsArraySeen (graph_of 10 n 0 (era_layout n)) image (era_all m n) (meta_map_at m) 5 4 1 m.eras
  unfolding era_blocks
  array_is =
      array_seen 10 n 0 (era_layout n) image blocks (meta_map_at m) 5 4 1 m.eras (roles n).eras (roles n).era_words (omega arith) (omega arith) (omega arith) (omega arith) few within (omega arith)
      (omega arith) lawful.eras_fit eras_stand super_stands.names.1.0

  pub writesets_are : IsTreeSeen (graph_of 10 n 0 (era_layout n)) image (era_all m n) (meta_map_at m) 2 (tree_of writesets_tree) (writesets_at m) []
  unfolding writeset_blocks
  writesets_are =
      tree_seen 10 n 0 (era_layout n) image blocks (meta_map_at m) 2 (tree_of writesets_tree) (roles n).writesets (omega arith) (omega arith) (omega arith) few within
      (writesets_at m) [] (omega arith) (omega arith) (no_items blocks (meta_map_at m) (tree_of writesets_tree)) writesets_stand super_stands.names.0

  pub writesets_lead : LeadsBelow (era_all m n) (meta_map_at m) (edge_of 2 (writesets_root m))
  unfolding writeset_blocks
  writesets_lead = root_leads image blocks (meta_map_at m) 2 (tree_of writesets_tree) (writesets_at m) [] (omega arith) (omega arith) (omega arith) writesets_stand

  pub parts_fitting : AllFrom (IsFitting (graph_of 10 n 0 (era_layout n)) image (era_all m n) (meta_map_at m)) 1 (era_parts m)
  unfolding era_parts era_blocks writeset_blocks
  parts_fitting = from_both (IsFitting this image blocks (meta_map_at m)) 1 (era_blocks m) (writeset_blocks m) array_is.fitting writesets_are.fitting

  pub named_before : AllByRecursion (λ r. r < meta_map_at m) (era_named m)
  unfolding era_named
  named_before = (omega arith, (writesets_lead.below, (array_is.leads.below, named_lower this image blocks (meta_map_at m) 1 (era_parts m) parts_fitting)))

  few_named_before : length (era_named m) < 2 ^ 32
  unfolding era_named
  few_named_before = omega (arith, few_named this image blocks (meta_map_at m) lawful_graph 1 (era_parts m) parts_fitting, parts_end m)

  pub meta_is : IsMetaMapSeen (graph_of 10 n 0 (era_layout n)) image (era_all m n) (meta_map_at m + length (meta_map_blocks m n)) 7 n (meta_map_at m) (era_named m)
  unfolding meta_map_blocks
  meta_is =
      map_seen 10 n 0 (era_layout n) image blocks (meta_map_at m + length (meta_map_blocks m n)) 7 (meta_map_at m) (era_named m)
      (roles n).map_index (roles n).map_bitmap (roles n).map_overflow (omega arith) (omega arith) few room (omega arith) (omega arith)
      named_before few_named_before meta_stands super_stands.names.1.1.0 super_stands.names.1.1.1.0

  pub meta_fitting : AllFrom (IsFitting (graph_of 10 n 0 (era_layout n)) image (era_all m n) (meta_map_at m + length (meta_map_blocks m n))) (meta_map_at m) (meta_map_blocks m n)
  unfolding meta_map_blocks
  meta_fitting = meta_is.fitting

  pub super_leads : AllByRecursion (LeadsBelow (era_all m n) (meta_map_at m + length (meta_map_blocks m n))) (super_edges m n)
  super_leads =
      let more = leads_more blocks (meta_map_at m) (meta_map_at m + length (meta_map_blocks m n)) (omega arith) in
      (more (edge_of 2 (writesets_root m)) writesets_lead, (more (edge_of 5 (array_root_of m)) array_is.leads, (meta_is.index_leads, (meta_is.overflow_leads, tt))))

  -- the leaf of writesets has no entries
  pub no_writesets : leaf_entries 12 (block_at image (writesets_at m)) ≡ []
  no_writesets =
      let e : block_of (pair (writesets_at m) 2) ≡ writesets_at m = omega arith in
      let stands = leaf_stands (writeset_blocks m) (one_leaf m) writesets_stand in
      let seen = leaf_seen 10 n 0 (era_layout n) image 2 (tree_of writesets_tree) (roles n).writesets (omega arith) (writesets_at m) [] (omega (arith, ap length (one_leaf m))) (omega arith) (omega arith)
      stands.stands blocks (meta_map_at m) within (omega arith) (no_items blocks (meta_map_at m) (tree_of writesets_tree)) tt in
      sym (ap (λ (b : ℕ). leaf_entries 12 (block_at image b)) e) ∙ seen.at.entries_are
    where
      leaf_stands : (xs : List LaidBlock) → xs ≡ laid_leaf 2 (tree_of writesets_tree) [] ∷ [] → AllFrom (IsInPlace image (era_all m n)) (writesets_at m) xs
          → IsInPlace image (era_all m n) (writesets_at m) (laid_leaf 2 (tree_of writesets_tree) [])
      leaf_stands xs is all = (subst (λ (ys : List LaidBlock). AllFrom (IsInPlace image (era_all m n)) (writesets_at m) ys) is all).0

-- The references of a laid era target are what its stored counts say.

module _ (m : EraMeaning) (n : ℕ) where
  -- how often all blocks name a block, with block 0, is its count in the metadata map
  pub references_count : meta_map_number 7 n (meta_map_at m) (era_named m) ≤ 4161600 → (b : ℕ) → count_in (0 ∷ named_by (era_all m n)) b ≡ meta_counts 7 n (meta_map_at m) (era_named m) b
  unfolding era_all era_named meta_map_blocks
  references_count few b =
      references_are (era_super_block (era_laid_fields m n)) (super_edges m n) (era_parts m) (writesets_root m ∷ array_root_of m ∷ []) (era_named m) 7 n (meta_map_at m) b refl few refl

  -- the array and the tree of writesets name no bitmap
  eras_none : NameNone 8 (era_blocks m)
  unfolding era_blocks
  eras_none = array_names_none 8 5 4 1 m.eras (λ e. omega arith) (λ e. omega arith)

  writesets_none : NameNone 8 (writeset_blocks m)
  unfolding writeset_blocks
  writesets_none = tree_names_none 8 2 (tree_of writesets_tree) (writesets_at m) [] (λ e. omega arith) (λ e. (ne_eqb 3 8 (λ e. omega arith), tt))

  -- so no bitmap is named twice
  pub bitmap_once : (b : ℕ) → role_count 8 b (edges_in (era_all m n)) ≤ 1
  unfolding era_all era_parts meta_map_blocks
  bitmap_once b =
      let first = count_append (λ (e : Edge). nat_eq e.role 8 && nat_eq e.block b) (super_edges m n) (edges_in (era_parts m ++ meta_map_blocks m n)) in
      let own = no_edges 8 b (super_edges m n) (ne_eqb 2 8 (λ e. omega arith), (ne_eqb 5 8 (λ e. omega arith), (ne_eqb 7 8 (λ e. omega arith), (ne_eqb 9 8 (λ e. omega arith), tt)))) in
      let split = both_count 8 b (era_parts m) (meta_map_blocks m n) in
      let parts = both_count 8 b (era_blocks m) (writeset_blocks m) in
      let eras = none_count 8 b (era_blocks m) eras_none in
      let writesets = none_count 8 b (writeset_blocks m) writesets_none in
      let meta = meta_map_once 7 n (meta_map_at m) (era_named m) b in
      omega arith

-- The superblock of a laid era target.

-- a superblock of sound fields breaks no rule
super_sound : (device_blocks : ℕ) (b : List ℕ) (f : EraFields) → era_fields b ≡ f → is_super_of Era b ≡ true
    → f.version ≡ 1 → is_meta_size_bad device_blocks f.meta_map.blocks ≡ false → has_edge_outside f.meta_map.blocks (era_super_edges f) ≡ false
    → (broken : Rule) → era_super_bad device_blocks b broken ≡ false
unfolding era_super_bad era_super_tests failing
super_sound device_blocks b f is valid version sizes pointers broken =
    let version_is : (era_fields b).version ≡ 1 = ap (λ (f : EraFields). f.version) is ∙ version in
    let sizes_are : is_meta_size_bad device_blocks (era_fields b).meta_map.blocks ≡ false = ap (λ (f : EraFields). is_meta_size_bad device_blocks f.meta_map.blocks) is ∙ sizes in
    let pointers_are : has_edge_outside (era_fields b).meta_map.blocks (era_super_edges (era_fields b)) ≡ false =
    ap (λ (f : EraFields). has_edge_outside f.meta_map.blocks (era_super_edges f)) is ∙ pointers in
    let place_is = place_tested Era b valid in
    met_by_tests Era b (era_super_tests device_blocks b) broken valid (rw (sizes_are, pointers_are, version_is, place_is) refl)

-- what is known of the superblock
pub record IsSuperLaid (image : List (List ℕ)) (m : EraMeaning) (n : ℕ) : Type 0 where
  pub fields_are : era_fields (block_at image 0) ≡ era_laid_fields m n
  pub sound : (device_blocks : ℕ) → n ≤ device_blocks → (broken : Rule) → era_super_bad device_blocks (block_at image 0) broken ≡ false
  pub valid : is_valid_super (block_at image 0) ≡ true

module _ (m : EraMeaning) (n : ℕ) (image : List (List ℕ)) (few : n ≤ 4161600) (lawful : IsLawfulEra m)
    (room : meta_map_at m + length (meta_map_blocks m n) ≤ n) (stand : AllFrom (IsInPlace image (era_all m n)) 0 (era_all m n)) where
  fields_fit : DoFit (era_rows (era_laid_fields m n))
  unfolding era_laid_fields
  fields_fit =
      let leads = super_leads m n image few lawful room stand in
      let a = leads.0.below in
      let b = leads.1.0.below in
      let c = leads.1.1.0.below in
      let d = leads.1.1.1.0.below in (
        omega arith,
        (
          omega arith,
          (
            omega arith,
            (
              omega arith,
              (
                omega arith,
                (
                  omega arith,
                  (lawful.block_size_fits, (omega arith, (lawful.blocks_fit, (lawful.era_fits, (omega arith, (omega arith, (omega arith, (omega arith, (omega arith, tt))))))))),
                ),
              ),
            ),
          ),
        ),
      )

  fields_back : era_fields (era_super_block (era_laid_fields m n)) ≡ era_laid_fields m n
  unfolding era_laid_fields
  fields_back = reads_back (era_laid_fields m n) lawful.uuid_len fields_fit

  super_is : is_super_of Era (era_super_block (era_laid_fields m n)) ≡ true
  unfolding era_super_block era_laid_fields
  super_is = is_super_of_rows Era m.uuid (era_rows (era_laid_fields m n)) lawful.uuid_len lawful.uuid_bytes

  fields_sound : (device_blocks : ℕ) → n ≤ device_blocks → (broken : Rule) → era_super_bad device_blocks (era_super_block (era_laid_fields m n)) broken ≡ false
  unfolding era_laid_fields
  fields_sound device_blocks within broken =
      super_sound device_blocks (era_super_block (era_laid_fields m n)) (era_laid_fields m n) fields_back super_is refl
      (size_good device_blocks n (omega arith) within few)
      (none_outside n (era_all m n) (meta_map_at m + length (meta_map_blocks m n)) (super_edges m n) room (super_leads m n image few lawful room stand)) broken

  pub super_laid : IsSuperLaid image m n
  unfolding is_valid_super
  super_laid =
      let stands = (super_stands m n image few lawful room stand).stands in
      let block = era_super_block (era_laid_fields m n) in
      record {
        fields_are = rw stands fields_back;
        sound = λ device_blocks within broken. rw stands (fields_sound device_blocks within broken);
        valid = rw stands (or_right (is_super_of Thin block) _ (or_right (is_super_of Cache block) _ super_is));
      }

  super_layout : era_layout n 0 ≡ copy (λ place block. era_super_bad n block) (λ block. era_super_edges (era_fields block))
  unfolding era_layout
  super_layout = refl

  pub super_seen : IsSeen (graph_of 10 n 0 (era_layout n)) image 0 (laid_super (era_super_block (era_laid_fields m n)) (super_edges m n))
  super_seen =
      plain_seen 10 n 0 (era_layout n) image (copy (λ place block. era_super_bad n block) (λ block. era_super_edges (era_fields block))) 0
      (era_super_block (era_laid_fields m n)) (laid_super (era_super_block (era_laid_fields m n)) (super_edges m n)) (omega arith) (omega arith) super_layout refl
      (ap era_super_edges fields_back ∙ super_edges_are m n) refl (super_stands m n image few lawful room stand).stands (fields_sound n (omega arith))
