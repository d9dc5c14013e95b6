-- What a block with the checksum of a superblock is in each role of a table of layouts.
use Rattle.std.proofs.Common.{◌≡◌, ℕ, Bool, true, false, List, drop, refl, sym, ap, ◌∙◌, arith, [], zero, suc, ◌<◌, ◌≤◌, cond, ap₂}
use Rattle.std.specs.List.{list_any, AllByRecursion}
use Rattle.std.specs.Int.Bits.{bit_xor, xor_assoc, xor_self, xor_zero_l}
use Rattle.std.proofs.lemmas.Bool.{eqb-true, ne_eqb, cond_both}
use Rattle.pd_kinds.specs.declared.kind.Kind.{Kind}
use Rattle.pd_kinds.specs.declared.kind.Kind.TheVariants.{Thin, Cache, Era}
use Rattle.pd_kinds.specs.declared.rule.Rule.{Rule}
use Rattle.pd_kinds.specs.Array.{array_bad, array_salt}
use Rattle.pd_kinds.specs.Bitmap.{bitmap_bad, bitmap_salt, index_bad, index_salt}
use Rattle.pd_kinds.specs.Field.{checksum, crc32c, has_checksum}
use Rattle.pd_kinds.specs.Graph.{Edge, Graph, block_at, next, is_reached, nodes, references, meta_count, data_count, is_inner_pair, children, is_deep, keys_below, is_in_range, pair, block_of, role_of, edges_of, gathered}
use Rattle.pd_kinds.specs.Layout.{Layout, copy, tree, bitmap, index, array, graph_of, is_bad, layout_bad, tree_bad, leaf_entries}
use Rattle.pd_kinds.specs.Node.{node_salt}
use Rattle.pd_kinds.specs.Rule.{all_rules, same_rule, alone}
use Rattle.pd_kinds.specs.Super.{salt_of}
use Rattle.pd_kinds.proofs.SoundLemmas.{some_broken}
use Rattle.pd_kinds.specs.Stages.{roles_of, walk_bad, is_out_of_range, order_bad}
use Rattle.pd_kinds.specs.Whole.{bitmap_tests}
use Rattle.pd_kinds.specs.Lawful.{IsLawful, IsWithin}
use Rattle.pd_kinds.specs.Trees.{entries_below}
use Rattle.pd_kinds.proofs.ListLemmas.{all_from, all_mapped}
use Rattle.pd_kinds.specs.declared.rule.Rule.TheVariants as r
use Rattle.pd_laid.proofs.GatherLemmas.{same_each}

-- a checksum has one salt
salt_again : (sum salt : ℕ) → bit_xor sum (bit_xor sum salt) ≡ salt
salt_again sum salt = sym (xor_assoc sum sum salt) ∙ (ap (λ (x : ℕ). bit_xor x salt) (xor_self sum) ∙ xor_zero_l salt)

pub other_salt : (block : List ℕ) (salt other : ℕ) → (salt ≡ other → ⊥) → has_checksum block salt ≡ true → has_checksum block other ≡ false
unfolding has_checksum checksum
other_salt block salt other apart has =
    let sum = crc32c (drop 4 block) in
    ne_eqb _ _ (λ same. apart (sym (salt_again sum salt) ∙ (ap (bit_xor sum) (sym (eqb-true _ _ has) ∙ same) ∙ salt_again sum other)))

-- the salt of a superblock is that of no other block
record IsApart (salt : ℕ) : Type 0 where
  pub node : salt ≡ node_salt → ⊥
  pub bitmap : salt ≡ bitmap_salt → ⊥
  pub index : salt ≡ index_salt → ⊥
  pub array : salt ≡ array_salt → ⊥

super_apart : (kind : Kind) → IsApart (salt_of kind)
super_apart Thin = record { node = λ same. omega arith; bitmap = λ same. omega arith; index = λ same. omega arith; array = λ same. omega arith }
super_apart Cache = record { node = λ same. omega arith; bitmap = λ same. omega arith; index = λ same. omega arith; array = λ same. omega arith }
super_apart Era = record { node = λ same. omega arith; bitmap = λ same. omega arith; index = λ same. omega arith; array = λ same. omega arith }

-- the layouts but that of a superblock or its copy
abbrev pub IsNoCopy : Layout → Type 0
IsNoCopy (copy bad edges) = ⊥
IsNoCopy _ = Unit {0}

-- whose checksums have other salts, so that such a block breaks the rule on checksums, and no other
pub breaks_checksum : (kind : Kind) (nr role place : ℕ) (layout : Layout) (block : List ℕ) (broken : Rule) → IsNoCopy layout → has_checksum block (salt_of kind) ≡ true
    → layout_bad nr role layout place block broken ≡ same_rule r.Checksum broken
unfolding tree_bad bitmap_bad index_bad array_bad alone
breaks_checksum kind nr role place (copy bad edges) block broken other has = absurd other
breaks_checksum kind nr role place (tree t) block broken _ has = rw (other_salt block (salt_of kind) node_salt (super_apart kind).node has) refl
breaks_checksum kind nr role place bitmap block broken _ has = rw (other_salt block (salt_of kind) bitmap_salt (super_apart kind).bitmap has) refl
breaks_checksum kind nr role place (index target) block broken _ has = rw (other_salt block (salt_of kind) index_salt (super_apart kind).index has) refl
breaks_checksum kind nr role place (array size) block broken _ has = rw (other_salt block (salt_of kind) array_salt (super_apart kind).array has) refl

-- a format sees the same in two blocks
pub record IsSameIn (graph : Graph) (role place : ℕ) (block other : List ℕ) : Type 0 where
  pub bad : (broken : Rule) → graph.bad role place other broken ≡ graph.bad role place block broken
  pub is_inner : graph.is_inner role place other ≡ graph.is_inner role place block
  pub edges : graph.edges role place other ≡ graph.edges role place block
  pub keys : graph.keys role place other ≡ graph.keys role place block
  pub data_refs : graph.data_refs role place other ≡ graph.data_refs role place block

module _ (roles nr data_blocks : ℕ) (table : ℕ → Layout) (role place : ℕ) (block other : List ℕ) where
  -- blocks that break no rule but that on checksums
  is_broken : (kind : Kind) (b : List ℕ) → IsNoCopy (table role) → has_checksum b (salt_of kind) ≡ true → is_bad nr role (table role) place b ≡ true
  unfolding is_bad
  is_broken kind b no_copy has = some_broken _ r.Checksum (breaks_checksum kind nr role place (table role) b r.Checksum no_copy has)

  pub same_broken : (kind : Kind) → IsNoCopy (table role) → has_checksum block (salt_of kind) ≡ true → has_checksum other (salt_of kind) ≡ true
      → IsSameIn (graph_of roles nr data_blocks table) role place block other
  unfolding graph_of
  same_broken kind no_copy has also =
      let here = is_broken kind block no_copy has in
      let there = is_broken kind other no_copy also in
      record {
        bad = λ broken. breaks_checksum kind nr role place (table role) other broken no_copy also ∙ sym (breaks_checksum kind nr role place (table role) block broken no_copy has);
        is_inner = rw (here, there) refl;
        edges = rw (here, there) refl;
        keys = rw (here, there) refl;
        data_refs = rw (here, there) refl;
      }

  -- superblocks, or copies of one, with the same rules and edges
  pub same_copy : (bad : ℕ → List ℕ → Rule → Bool) (edges : List ℕ → List Edge) → table role ≡ copy bad edges
      → ((broken : Rule) → bad place other broken ≡ bad place block broken) → edges other ≡ edges block
      → IsSameIn (graph_of roles nr data_blocks table) role place block other
  unfolding graph_of is_bad
  same_copy bad edges is same_bad same_edges =
      let same_any : list_any (bad place other) all_rules ≡ list_any (bad place block) all_rules = λ i. list_any (λ broken. same_bad broken i) all_rules in
      record {
        bad = λ broken. rw is (same_bad broken);
        is_inner = rw is refl;
        edges = rw (is, same_any, same_edges) refl;
        keys = rw (is, same_any) refl;
        data_refs = rw (is, same_any) refl;
      }

-- Two images in which a format sees the same, whatever the role and the block: all that is said over the format is the same.

-- the format over one image: each block is looked at there, whatever bytes are given
abbrev frozen : Graph → List (List ℕ) → Graph
frozen graph image = record graph {
  bad = λ role place _. graph.bad role place (block_at image place);
  is_inner = λ role place _. graph.is_inner role place (block_at image place);
  edges = λ role place _. graph.edges role place (block_at image place);
  keys = λ role place _. graph.keys role place (block_at image place);
  data_refs = λ role place _. graph.data_refs role place (block_at image place);
}

module _ (graph : Graph) (image other : List (List ℕ)) (same : (role b : ℕ) → IsSameIn graph role b (block_at image b) (block_at other b)) where
  frozen_is : frozen graph other ≡ frozen graph image
  frozen_is = λ i. record graph {
    bad = λ role place _ broken. (same role place).bad broken i;
    is_inner = λ role place _. (same role place).is_inner i;
    edges = λ role place _. (same role place).edges i;
    keys = λ role place _. (same role place).keys i;
    data_refs = λ role place _. (same role place).data_refs i;
  }

  pub inner_is : is_inner_pair graph other ≡ is_inner_pair graph image
  inner_is = ap (λ (g : Graph). is_inner_pair g []) frozen_is

  pub children_is : children graph other ≡ children graph image
  unfolding children next
  children_is = ap (λ (g : Graph). children g []) frozen_is

  pub meta_count_is : meta_count graph other ≡ meta_count graph image
  unfolding meta_count references nodes is_reached next
  meta_count_is = ap (λ (g : Graph). meta_count g []) frozen_is

  pub data_count_is : data_count graph other ≡ data_count graph image
  unfolding data_count nodes is_reached next
  data_count_is = ap (λ (g : Graph). data_count g []) frozen_is

  pub walk_is : walk_bad graph other ≡ walk_bad graph image
  unfolding walk_bad roles_of is_reached next
  walk_is = ap (λ (g : Graph). walk_bad g []) frozen_is

  pub order_is : order_bad graph other ≡ order_bad graph image
  unfolding order_bad roles_of is_reached next is_out_of_range is_deep is_in_range keys_below children
  order_is = ap (λ (g : Graph). order_bad g []) frozen_is

  pub bitmaps_are : (is_bitmap : ℕ → Bool) → bitmap_tests graph other is_bitmap ≡ bitmap_tests graph image is_bitmap
  unfolding bitmap_tests meta_count references nodes is_reached next
  bitmaps_are is_bitmap = ap (λ (g : Graph). bitmap_tests g [] is_bitmap) frozen_is

-- What stands below a node is the same in two images that differ in block 0 alone, since edges lead behind it.

-- what leaves hold of which the own is the same, below a node whose children all are such
pub gathered_same : {X : Type 0} → (P : ℕ → Type 0) (inner : ℕ → Bool) (down : ℕ → List ℕ) (own other : ℕ → List X)
    → ((p : ℕ) → P p → own p ≡ other p) → ((p : ℕ) → P p → AllByRecursion P (down p))
    → (j p : ℕ) → P p → gathered inner down own j p ≡ gathered inner down other j p
unfolding gathered
gathered_same {X} P inner down own other same each zero p is = ap (λ (here : List X). cond (inner p) [] here) (same p is)
gathered_same {X} P inner down own other same each (suc j) p is =
    let below = same_each (gathered inner down own j) (gathered inner down other j) (down p)
    (all_from P (λ q. gathered inner down own j q ≡ gathered inner down other j q) (gathered_same P inner down own other same each j) (down p) (each p is)) in
    ap₂ (λ (low here : List X). cond (inner p) low here) below (same p is)

module _ (graph : Graph) (image other : List (List ℕ)) (lawful : IsLawful graph)
    (same : (role b : ℕ) → IsSameIn graph role b (block_at image b) (block_at other b)) (rest : (b : ℕ) → 1 ≤ b → block_at other b ≡ block_at image b) where
  -- a pair of the format behind block 0
  record IsBehind (p : ℕ) : Type 0 where
    pub block : 1 ≤ block_of p
    pub known : role_of p < graph.roles

  behind_each : (p : ℕ) → IsBehind p → AllByRecursion IsBehind (children graph image p)
  unfolding children next
  behind_each p is =
      cond_both (is_inner_pair graph image p) (next graph image p) [] (AllByRecursion IsBehind)
      (λ _. all_mapped (λ (e : Edge). pair e.block e.role) IsBehind (edges_of graph image p)
      (all_from (IsWithin graph) (λ (e : Edge). IsBehind (pair e.block e.role))
      (λ e within.
      let some = within.from_one in
      let known = within.known in
      let few = lawful.few_roles in
      record { block = omega arith; known = omega arith })
      (edges_of graph image p) (lawful.each (role_of p) (block_of p) (block_at image (block_of p)) is.known).within))
      (λ _. tt)

  pub entries_are : (size role b : ℕ) → role < graph.roles → 1 ≤ b → entries_below graph other size role b ≡ entries_below graph image size role b
  unfolding entries_below
  entries_are size role b known behind =
      let few = lawful.few_roles in
      let own = λ (seen : List (List ℕ)) (p : ℕ). leaf_entries size (block_at seen (block_of p)) in
      ap₂ (λ (inner : ℕ → Bool) (down : ℕ → List ℕ). gathered inner down (own other) 63 (pair b role)) (inner_is graph image other same) (children_is graph image other same)
      ∙ gathered_same IsBehind (is_inner_pair graph image) (children graph image) (own other) (own image)
      (λ p is. ap (leaf_entries size) (rest (block_of p) is.block)) behind_each 63 (pair b role)
      (record { block = omega arith; known = omega arith })
