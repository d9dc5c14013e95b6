-- The rules of a whole era target, one after another.
use Rattle.std.proofs.Common.{◌≡◌, ℕ, List, [], ◌∷◌, ◌++◌, map, sym, ap, ◌∙◌, arith, ◌+◌, ◌≤◌, ◌<◌, Bool, false, nat_eq, length, inl, inr, refl, subst}
use Rattle.std.specs.List.{flat_map, AllByRecursion, IsDistinct, range_with_len}
use Rattle.std.proofs.lemmas.Grind.{flat_map-append}
use Rattle.std.proofs.lemmas.Bool.{cases_eq, ne_eqb}
use Rattle.std.proofs.lemmas.List.Sums.{length-filter}
use Rattle.pd_kinds.specs.EraFormat.{EraFields, era_fields, era_graph, era_layout, era_super_edges, snap_edges}
use Rattle.pd_kinds.specs.Graph.{Graph, Edge, optional_edge, block_at, nodes}
use Rattle.pd_kinds.specs.Whole.{WholeTest, array_whole, reached_writesets, era_arrays, era_whole}
use Rattle.pd_kinds.specs.declared.kind.Kind.TheVariants.{Era}
use Rattle.pd_kinds.specs.declared.rule.Rule.{Rule}
use Rattle.pd_kinds.specs.Layout.{Layout, copy, graph_of, is_bad, layout_bad}
use Rattle.pd_kinds.specs.Rule.{all_rules}
use Rattle.pd_kinds.specs.Stages.{IsReached, checked_of, era_checked}
use Rattle.pd_kinds.proofs.KindsListLemmas.{none_passes}
use Rattle.pd_kinds.specs.InOrder.{AreInOrder}
use Rattle.pd_graph.specs.declared.audit.Audit.{Audit}
use Rattle.pd_graph.specs.Audit.{KeepsButRules, blocks_of, roles_at}
use Rattle.pd_graph.specs.Marks.{has_bit}
use Rattle.pd_tree.proofs.SearchableLemmas.{at_optional}
use Rattle.pd_check.proofs.KnownLemmas.{known_stays}
use Rattle.pd_check.specs.Arrays.{HasArrays, array_of, HasWords}
use Rattle.pd_check.specs.Refs.{number_in, AreReachedOnce, InRole, blocks_in, known_in}
use Rattle.pd_check.specs.Known.{IsKnown}
use Rattle.pd_era.specs.Whole.{IsKnownEra, IsReady, arrays_named, bits, current_bits, eras, set_array, set_tests, snap_eras, IsSnap, arrays, snap_reads, tests_named, whole_reads}

-- what is known of an era target stays while rules are added
pub ready_stays : (graph : Graph) (image : List (List ℕ)) (fields : EraFields) (old new : Audit) → IsReady graph image old fields → KeepsButRules old new → IsReady graph image new fields
ready_stays graph image fields old new ready kept = record {
  era = record { known = known_stays graph image old new kept ready.era.known; ordered = ready.era.ordered; trees = ready.era.trees };
  roots = ready.roots;
  snap = ready.snap;
}

-- its arrays
pub has_eras : (graph : Graph) (image : List (List ℕ)) (audit : Audit) → IsKnownEra graph image audit → HasArrays graph image audit eras
has_eras graph image audit era = record { known = era.known; ordered = era.ordered; tree = era.trees.eras; apart = λ same. omega arith }

pub has_bits : (graph : Graph) (image : List (List ℕ)) (audit : Audit) → IsKnownEra graph image audit → HasArrays graph image audit bits
has_bits graph image audit era = record { known = era.known; ordered = era.ordered; tree = era.trees.bits; apart = λ same. omega arith }

-- the tests of all arrays
pub arrays_tests : (graph : Graph) (image : List (List ℕ)) (fields : EraFields)
    → flat_map (array_whole graph image) (array_of eras fields.array_root (fields.blocks ∷ []) ∷ snap_eras image fields.snap_root)
    ++ (flat_map (array_whole graph image) (current_bits fields.current_bits fields.current_root) ++ set_tests graph image (reached_writesets graph image))
    ≡ flat_map (array_whole graph image) (arrays_named graph image fields)
unfolding arrays_named set_tests
arrays_tests graph image fields =
    let f = array_whole graph image in
    let first = array_of eras fields.array_root (fields.blocks ∷ []) ∷ snap_eras image fields.snap_root in
    let current = current_bits fields.current_bits fields.current_root in
    let sets = map set_array (reached_writesets graph image) in
    ap (λ (ts : List WholeTest). flat_map f first ++ ts) (sym (flat_map-append f current sets)) ∙ sym (flat_map-append f first (current ++ sets))

-- An era target that is in order by its superblock, and how many blocks are read for the rules of the whole.

-- the number of blocks in a role
known_number : (audit : Audit) (role n : ℕ) → length (known_in audit role n) ≡ number_in audit role n
unfolding known_in number_in
known_number audit role n = length-filter (λ b. has_bit (roles_at audit b) role) (range_with_len 0 n)

module _ (graph : Graph) (image : List (List ℕ)) (audit : Audit) (fields : EraFields) (ready : IsReady graph image audit fields)
    (no_more : (graph : Graph) (image : List (List ℕ)) (parts : List InRole) → AllByRecursion (AreReachedOnce graph image) parts
    → IsDistinct nat_eq (map (λ (part : InRole). part.role) parts) → blocks_in parts ≤ length (nodes graph image))
    (known_once : (graph : Graph) (image : List (List ℕ)) (audit : Audit) (role : ℕ) → IsKnown graph image audit → role < 16
    → AreReachedOnce graph image (record { role = role; blocks = known_in audit role graph.nr })) where
  part : ℕ → InRole
  part role = record { role = role; blocks = known_in audit role graph.nr }

  once : (role : ℕ) → role < 16 → AreReachedOnce graph image (part role)
  unfolding part
  once role few = known_once graph image audit role ready.era.known few

  number : (role : ℕ) → length (part role).blocks ≡ number_in audit role (blocks_of audit)
  unfolding part
  number role = known_number audit role graph.nr ∙ ap (number_in audit role) (sym ready.era.known.number)

  -- the snapshot, which there may be
  snap : List ℕ → InRole
  snap blocks = record { role = 1; blocks = blocks }

  -- it, and the nodes of all trees
  all_parts : (blocks : List ℕ) → AreReachedOnce graph image (snap blocks)
      → length blocks + (length (part 2).blocks + (length (part 3).blocks + length (part 5).blocks)) ≤ length (nodes graph image)
  unfolding part snap IsDistinct
  all_parts blocks here =
      let all = no_more graph image (snap blocks ∷ part 2 ∷ part 3 ∷ part 5 ∷ [])
      (here, (once 2 (omega arith), (once 3 (omega arith), (once 5 (omega arith), tt)))) (
        (refl, (refl, (refl, tt))),
        (
          (refl, (refl, tt)),
          ((refl, tt), (tt, tt)),
        ),
      ) in
      omega arith

  abbrev others : ℕ
  others = number_in audit 2 (blocks_of audit) + (number_in audit 3 (blocks_of audit) + number_in audit 5 (blocks_of audit))

  -- where there is a snapshot, and where there is none
  with_snap : (fields.snap_root ≡ 0 → ⊥) → snap_reads fields.snap_root + others ≤ length (nodes graph image)
  unfolding snap IsDistinct
  with_snap some =
      let all = all_parts (fields.snap_root ∷ []) (record { reached = ((ready.snap some).reached, tt); once = (tt, tt) }) in
      rw (ne_eqb fields.snap_root 0 some) (omega (arith, all, number 2, number 3, number 5))

  without_snap : fields.snap_root ≡ 0 → snap_reads fields.snap_root + others ≤ length (nodes graph image)
  unfolding snap IsDistinct
  without_snap none =
      let all = all_parts [] (record { reached = tt; once = tt }) in
      rw none (omega (arith, all, number 2, number 3, number 5))

  pub read_once : whole_reads audit fields ≤ length (nodes graph image)
  read_once = elim (cases_eq fields.snap_root 0) [
    | inl none ↦ let few = without_snap none in omega arith
    | inr some ↦ let few = with_snap some in omega arith
  ]

-- the edges of a copy of a superblock that breaks no rule
edges_by : (roles nr data_blocks : ℕ) (layout : ℕ → Layout) (bad : ℕ → List ℕ → Rule → Bool) (edges : List ℕ → List Edge) (role b : ℕ) (block : List ℕ) → layout role ≡ copy bad edges
    → ((rule : Rule) → (graph_of roles nr data_blocks layout).bad role b block rule ≡ false) → (graph_of roles nr data_blocks layout).edges role b block ≡ edges block
unfolding graph_of is_bad
edges_by roles nr data_blocks layout bad edges role b block is clean =
    rw (none_passes (layout_bad nr role (layout role) b block) all_rules clean, is) refl

super_edges : (first block : List ℕ) → ((rule : Rule) → (era_graph first).bad 0 0 block rule ≡ false) → (era_graph first).edges 0 0 block ≡ era_super_edges (era_fields block)
unfolding era_graph era_layout
super_edges first block clean =
    edges_by 10 (era_fields first).meta_map.blocks 0 (era_layout (era_fields first).meta_map.blocks) _ (λ block. era_super_edges (era_fields block)) 0 0 block refl clean

edges_of_snap : (first block : List ℕ) (b : ℕ) → ((rule : Rule) → (era_graph first).bad 1 b block rule ≡ false) → (era_graph first).edges 1 b block ≡ snap_edges block
unfolding era_graph era_layout
edges_of_snap first block b clean =
    edges_by 10 (era_fields first).meta_map.blocks 0 (era_layout (era_fields first).meta_map.blocks) _ snap_edges 1 b block refl clean

-- a snapshot that the superblock names is reached, and so are the eras that it names
pub snap_reached : (first : List ℕ) (image : List (List ℕ)) → AreInOrder (era_graph first) image → IsReached (era_graph first) image 0 0
    → ((b role : ℕ) → IsReached (era_graph first) image b role
    → AllByRecursion (λ (e : Edge). IsReached (era_graph first) image e.block e.role) ((era_graph first).edges role b (block_at image b)))
    → ((era_fields (block_at image 0)).snap_root ≡ 0 → ⊥) → IsSnap (era_graph first) image (era_fields (block_at image 0)).snap_root
snap_reached first image ordered start leads some =
    let graph = era_graph first in
    let block = block_at image 0 in
    let fields = era_fields block in
    let all = rw (super_edges first block (ordered.well_formed 0 0 start)) at (leads 0 0 start) in
    let behind : List Edge =
    record { role = 2; block = fields.writesets_root }
    ∷ (optional_edge 3 fields.current_root
    ++ (record { role = 5; block = fields.array_root }
    ∷ record { role = 7; block = fields.meta_map.bitmap_root }
    ∷ record { role = 9; block = fields.meta_map.overflow_root }
    ∷ [])) in
    let reached = at_optional (λ (e : Edge). IsReached graph image e.block e.role) 1 fields.snap_root behind all some in
    let roots = rw (edges_of_snap first (block_at image fields.snap_root) fields.snap_root (ordered.well_formed fields.snap_root 1 reached)) at (leads fields.snap_root 1 reached) in
    record { reached = reached; eras = roots.1.0 }

-- the words of its arrays
pub have_words : AllByRecursion (HasWords (era_layout 0)) arrays
unfolding era_layout
have_words = (record { few = omega arith; words = refl }, (record { few = omega arith; words = refl }, tt))

-- the number of metadata blocks
pub blocks_are : (first : List ℕ) → (era_graph first).nr ≡ (era_fields first).meta_map.blocks
unfolding era_graph graph_of
blocks_are first = refl

-- the format by the fields that were read
pub graph_is : (first : List ℕ) (fields : EraFields) → fields ≡ era_fields first
    → graph_of 10 fields.meta_map.blocks 0 (era_layout fields.meta_map.blocks) ≡ era_graph first
unfolding era_graph
graph_is first fields same = ap (λ (f : EraFields). graph_of 10 f.meta_map.blocks 0 (era_layout f.meta_map.blocks)) same

-- the rules of the whole image
pub whole_is : (image : List (List ℕ)) (first : List ℕ) → block_at image 0 ≡ first → (checked_of Era image).whole ≡ tests_named (era_graph first) image (era_fields first)
unfolding era_checked era_whole era_arrays tests_named arrays_named
whole_is image first same = subst (λ (f : List ℕ). (checked_of Era image).whole ≡ tests_named (era_graph f) image (era_fields f)) same refl
