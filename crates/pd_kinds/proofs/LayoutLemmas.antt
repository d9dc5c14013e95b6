-- A format keeps the laws where each of its layouts does.
use Rattle.std.proofs.Common.{◌≡◌, ◌⊎◌, inl, inr, ℕ, zero, suc, ◌+◌, ◌<◌, ◌≤◌, Bool, true, false, not, ◌&&◌, nat_eq, List, [], ◌∷◌, ◌++◌, length, refl, arith}
use Rattle.std.specs.List.{AllByRecursion}
use Rattle.std.proofs.lemmas.Bool.{both_ways, cond-true, and_parts, and_cases, cond_both, not-true, not_from_false}
use Rattle.std.proofs.lemmas.List.{length-map}
use Rattle.std.proofs.lemmas.List.FromFn.{length-map-range_with_len}
use Rattle.pd_kinds.specs.declared.limits.TheConstants.{MAX_META_BLOCKS}
use Rattle.pd_kinds.specs.declared.rule.Rule.{Rule}
use Rattle.pd_kinds.specs.Graph.{Edge, is_outside, optional_edge}
use Rattle.pd_kinds.specs.Node.{is_inner_node, is_ascending}
use Rattle.pd_kinds.specs.Bitmap.{index_block_at, index_blocks, index_tests, index_bad, bitmaps_for}
use Rattle.pd_kinds.specs.Layout.{Layout, copy, tree, bitmap, index, array, layout_bad, is_bad, layout_edges, layout_keys, layout_data, is_tree_layout, graph_of}
use Rattle.pd_kinds.specs.Lawful.{IsWithin, KeepsLaws, IsLawful}
use Rattle.pd_kinds.proofs.ListLemmas.{all_from, all_from_two, all_map, all_mapped, none_passes}
use Rattle.pd_kinds.proofs.SoundLemmas.{IsSound, IsInside, some_broken, none_broken, tests_after_one, inside_from}

-- an edge leads to a role that there is, behind this one
abbrev pub IsLater : ℕ → ℕ → Edge → Type 0
IsLater roles role edge = (role < edge.role) × (edge.role < roles)

-- what holds of a block without a bad rule, in a role with this layout
pub record IsKept (roles nr data_blocks role : ℕ) (layout : Layout) (block : List ℕ) : Type 0 where
  pub edge_number : length (layout_edges nr role layout block) ≤ 255
  pub data_number : length (layout_data layout block) ≤ 254
  pub key_number : length (layout_keys layout block) ≤ 338
  pub inside : AllByRecursion (λ (e : Edge). IsInside nr e.block) (layout_edges nr role layout block)
  pub known : AllByRecursion (λ (e : Edge). e.role < roles) (layout_edges nr role layout block)
  pub inner_edges : is_tree_layout layout ≡ true → is_inner_node block ≡ true
      → AllByRecursion (λ (e : Edge). e.role ≡ role) (layout_edges nr role layout block)
  pub other_edges : (is_tree_layout layout ≡ false) ⊎ (is_inner_node block ≡ false)
      → AllByRecursion (λ (e : Edge). role < e.role) (layout_edges nr role layout block)
  pub data_within : AllByRecursion (λ d. d < data_blocks) (layout_data layout block)
  pub inner_keys : is_tree_layout layout ≡ true → is_inner_node block ≡ true
      → length (layout_keys layout block) ≡ length (layout_edges nr role layout block)
  pub inner_some : is_tree_layout layout ≡ true → is_inner_node block ≡ true → 1 ≤ length (layout_keys layout block)
  pub ascending : is_ascending (layout_keys layout block) ≡ true
  pub tree_keys : is_tree_layout layout ≡ false → layout_keys layout block ≡ []

-- and so of each such block in each place
pub record IsKeptBy (roles nr data_blocks role : ℕ) (layout : Layout) : Type 0 where
  pub at : (place : ℕ) (block : List ℕ) → IsSound (layout_bad nr role layout place block) → IsKept roles nr data_blocks role layout block

-- a block in a role keeps the laws
pub block_lawful : (roles nr data_blocks : ℕ) (table : ℕ → Layout) (role place : ℕ) (block : List ℕ)
    → IsKeptBy roles nr data_blocks role (table role) → KeepsLaws (graph_of roles nr data_blocks table) role place block
unfolding graph_of is_bad is_ascending
block_lawful roles nr data_blocks table role place block layout_kept =
    let layout = table role in
    let bad = is_bad nr role layout place block in
    let edges = layout_edges nr role layout block in
    let keys = layout_keys layout block in
    let data_refs = layout_data layout block in
    let is_inner = is_inner_node block in
    let sound = λ (none : bad ≡ false). none_broken (layout_bad nr role layout place block) none in
    let kept = λ (none : bad ≡ false). layout_kept.at place block (sound none) in
    let has_bad = λ (broken : Rule) (e : layout_bad nr role layout place block broken ≡ true). some_broken (layout_bad nr role layout place block) broken e in
    let in_tree = λ (e : (is_tree_layout layout && (not bad && is_inner)) ≡ true). (and_parts (is_tree_layout layout) (not bad && is_inner) e).0 in
    let and_sound = λ (e : (is_tree_layout layout && (not bad && is_inner)) ≡ true).
    and_parts (not bad) is_inner (and_parts (is_tree_layout layout) (not bad && is_inner) e).1 in
    record {
      bad_edges = λ broken e. cond-true bad [] edges (has_bad broken e);
      bad_data = λ broken e. cond-true bad [] data_refs (has_bad broken e);
      bad_keys = λ broken e. cond-true bad [] keys (has_bad broken e);
      edge_number = cond_both bad [] edges (λ xs. length xs ≤ 255) (λ _. omega arith) (λ none. (kept none).edge_number);
      data_number = cond_both bad [] data_refs (λ xs. length xs ≤ 254) (λ _. omega arith) (λ none. (kept none).data_number);
      key_number = cond_both bad [] keys (λ xs. length xs ≤ 338) (λ _. omega arith) (λ none. (kept none).key_number);
      within = cond_both bad [] edges (AllByRecursion (IsWithin (graph_of roles nr data_blocks table))) (λ _. tt)
          (λ none. all_from_two (λ (e : Edge). IsInside nr e.block) (λ (e : Edge). e.role < roles) (IsWithin (graph_of roles nr data_blocks table))
          (λ e inside known. record { from_one = inside.0; below = inside.1; known = known }) edges (kept none).inside (kept none).known);
      inner_edges = λ inner. cond_both bad [] edges (AllByRecursion (λ (e : Edge). e.role ≡ role)) (λ _. tt)
          (λ none. (kept none).inner_edges (in_tree inner) (and_sound inner).1);
      other_edges = λ other. cond_both bad [] edges (AllByRecursion (λ (e : Edge). role < e.role)) (λ _. tt)
          (λ none. (kept none).other_edges (elim (and_cases (is_tree_layout layout) (not bad && is_inner) other) [
            | inl no_tree ↦ inl no_tree
            | inr no_inner ↦ inr (elim (and_cases (not bad) is_inner no_inner) [
              | inl some ↦ absurd (both_ways (not bad) some (not_from_false bad none))
              | inr leaf ↦ leaf
            ])
          ]));
      data_within = cond_both bad [] data_refs (AllByRecursion (λ d. d < data_blocks)) (λ _. tt) (λ none. (kept none).data_within);
      inner_tree = in_tree;
      inner_sound = λ inner broken. sound (not-true bad (and_sound inner).0) broken;
      inner_keys = λ inner. let none = not-true bad (and_sound inner).0 in
          rw none ((kept none).inner_keys (in_tree inner) (and_sound inner).1);
      inner_some = λ inner. let none = not-true bad (and_sound inner).0 in
          rw none ((kept none).inner_some (in_tree inner) (and_sound inner).1);
      ascending = cond_both bad [] keys (λ xs. is_ascending xs ≡ true) (λ _. refl) (λ none. (kept none).ascending);
      tree_keys = λ no_tree. cond_both bad [] keys (λ xs. xs ≡ []) (λ _. refl) (λ none. (kept none).tree_keys no_tree);
    }

-- a format is lawful where its table is
pub table_lawful : (roles nr data_blocks : ℕ) (table : ℕ → Layout) → 1 ≤ roles → roles ≤ 16 → 1 ≤ nr → nr ≤ MAX_META_BLOCKS
    → ((role : ℕ) → role < roles → IsKeptBy roles nr data_blocks role (table role)) → IsLawful (graph_of roles nr data_blocks table)
unfolding graph_of
table_lawful roles nr data_blocks table some few from_one small kept = record {
  some_role = some;
  few_roles = few;
  some_block = from_one;
  few_blocks = small;
  each = λ role place block h. block_lawful roles nr data_blocks table role place block (kept role h);
}

-- what holds of each number below n, one by one
abbrev pub EachBelow : (ℕ → Type 0) → ℕ → Type 0
EachBelow P zero = Unit {0}
EachBelow P (suc n) = P 0 × EachBelow (λ k. P (suc k)) n

-- it holds of each
pub at_each : (P : ℕ → Type 0) (n : ℕ) → EachBelow P n → (k : ℕ) → k < n → P k
at_each P zero all k h = absurd (omega arith)
at_each P (suc n) all zero h = all.0
at_each P (suc n) all (suc k) h = at_each (λ k. P (suc k)) n all.1 k (omega arith)

-- a layout that isn't a tree's has no keys and names no data
pub untreed : (roles nr data_blocks role : ℕ) (layout : Layout) (block : List ℕ) → is_tree_layout layout ≡ false
    → length (layout_edges nr role layout block) ≤ 255
    → AllByRecursion (λ (e : Edge). IsInside nr e.block) (layout_edges nr role layout block)
    → AllByRecursion (IsLater roles role) (layout_edges nr role layout block)
    → IsKept roles nr data_blocks role layout block
unfolding is_ascending
untreed roles nr data_blocks role (tree t) block no_tree few inside later = absurd (both_ways true no_tree refl)
untreed roles nr data_blocks role layout block no_tree few inside later =
    let edges = layout_edges nr role layout block in
    record {
      edge_number = few;
      data_number = omega arith;
      key_number = omega arith;
      inside = inside;
      known = all_from (IsLater roles role) (λ (e : Edge). e.role < roles) (λ e h. h.1) edges later;
      inner_edges = λ in_tree _. absurd (both_ways false refl in_tree);
      other_edges = λ _. all_from (IsLater roles role) (λ (e : Edge). role < e.role) (λ e h. h.0) edges later;
      data_within = tt;
      inner_keys = λ in_tree _. absurd (both_ways false refl in_tree);
      inner_some = λ in_tree _. absurd (both_ways false refl in_tree);
      ascending = refl;
      tree_keys = λ _. refl;
    }

-- a bitmap and an array block name nothing
pub bitmap_kept : (roles nr data_blocks role : ℕ) → IsKeptBy roles nr data_blocks role bitmap
bitmap_kept roles nr data_blocks role =
    record { at = λ place block sound. untreed roles nr data_blocks role bitmap block refl (omega arith) tt tt }

pub array_kept : (roles nr data_blocks role size : ℕ) → IsKeptBy roles nr data_blocks role (array size)
array_kept roles nr data_blocks role size =
    record { at = λ place block sound. untreed roles nr data_blocks role (array size) block refl (omega arith) tt tt }

-- an index block names one bitmap for 16320 blocks
pub index_kept : (roles nr data_blocks role target : ℕ) → nr ≤ MAX_META_BLOCKS → role < target → target < roles
    → IsKeptBy roles nr data_blocks role (index target)
unfolding index_bad index_tests index_blocks
index_kept roles nr data_blocks role target small later known = record {
  at = λ place block sound.
      let tests = tests_after_one _ _ (index_tests nr place block) sound in
      let blocks = index_blocks nr block in
      let named : ℕ → Edge = λ b. record { role = target; block = b } in
      let count = length-map-range_with_len (index_block_at block) 0 (bitmaps_for nr) in
      let number = length-map blocks named in
      untreed roles nr data_blocks role (index target) block refl (omega arith)
      (all_mapped named (λ (e : Edge). IsInside nr e.block) blocks
      (all_from (λ (b : ℕ). is_outside nr b ≡ false) (IsInside nr) (inside_from nr) blocks (none_passes (is_outside nr) blocks tests.0)))
      (all_map named (IsLater roles role) (λ b. (later, known)) blocks);
}

-- a superblock, or a copy of it, by its edges
pub copy_kept : (roles nr data_blocks role : ℕ) (bad : ℕ → List ℕ → Rule → Bool) (edges : List ℕ → List Edge)
    → ((block : List ℕ) → length (edges block) ≤ 255)
    → ((place : ℕ) (block : List ℕ) → IsSound (bad place block) → AllByRecursion (λ (e : Edge). IsInside nr e.block) (edges block))
    → ((block : List ℕ) → AllByRecursion (IsLater roles role) (edges block))
    → IsKeptBy roles nr data_blocks role (copy bad edges)
copy_kept roles nr data_blocks role bad edges few inside later = record {
  at = λ place block sound. untreed roles nr data_blocks role (copy bad edges) block refl (few block) (inside place block sound) (later block);
}

-- an edge that may be left out
pub all_optional : (P : Edge → Type 0) (role block : ℕ) (edges : List Edge) → P (record { role = role; block = block }) → AllByRecursion P edges
    → AllByRecursion P (optional_edge role block ++ edges)
all_optional P role block edges here rest =
    cond_both (nat_eq block 0) [] (record { role = role; block = block } ∷ []) (λ front. AllByRecursion P (front ++ edges)) (λ _. rest) (λ _. (here, rest))

-- makes one edge more at the most
pub length-optional : (role block : ℕ) (edges : List Edge) → length (optional_edge role block ++ edges) ≤ 1 + length edges
length-optional role block edges =
    cond_both (nat_eq block 0) [] (record { role = role; block = block } ∷ []) (λ front. length (front ++ edges) ≤ 1 + length edges)
    (λ _. omega arith) (λ _. omega arith)
