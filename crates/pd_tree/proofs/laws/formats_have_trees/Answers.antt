use Rattle.std.proofs.Common.{◌≡◌, ℕ, ◌%◌, ◌^◌, ◌<◌, [], ◌∷◌, refl, arith}
use Rattle.pd_kinds.specs.Node.{Entry}
use Rattle.pd_kinds.specs.ThinFormat.{thin_fields}
use Rattle.pd_kinds.specs.ThinFormat.{thin_graph, thin_layout}
use Rattle.pd_kinds.specs.CacheFormat.{cache_fields, cache_graph, cache_layout}
use Rattle.pd_kinds.specs.EraFormat.{era_fields, era_graph, era_layout, writeset_root}
use Rattle.pd_kinds.specs.Layout.{Layout, Tree, tree, graph_of}
use Rattle.pd_tree.specs.Search.{IsTreeRole, IsTreeTo}
use Rattle.pd_tree.proofs.laws.formats_have_trees.Goals as goal

-- a role of a table
table_role : {t : Tree} → (role roles nr data_blocks : ℕ) (layout : ℕ → Layout) → layout role ≡ tree t → role < 16
    → IsTreeRole (graph_of roles nr data_blocks layout) role t.size
table_role {t} role roles nr data_blocks layout at few =
    record { roles = roles; nr = nr; data_blocks = data_blocks; layout = layout; nodes = t; is = refl; at = at; value_size = refl; few = few }

-- one whose entries name blocks
naming_role : {t : Tree} → (role roles nr data_blocks next : ℕ) (named : ℕ → ℕ) (layout : ℕ → Layout) → layout role ≡ tree t
    → t.leaf_edges ≡ (λ (e : Entry). record { role = next; block = named e.value } ∷ []) → role < 16
    → IsTreeTo (graph_of roles nr data_blocks layout) role t.size next named
unfolding table_role
naming_role {t} role roles nr data_blocks next named layout at leads few = record { is_role = table_role role roles nr data_blocks layout at few; leads = leads }

pub returns-clause-thin : goal.returns-clause-thin
unfolding thin_graph thin_layout
returns-clause-thin c = λ super.
    let nr = (thin_fields super).meta_map.blocks in
    let data_blocks = (thin_fields super).data_map.blocks in
    let layout = thin_layout nr data_blocks in
    record {
      devices = naming_role 2 11 nr data_blocks 3 (λ v. v) layout refl refl (omega arith);
      mappings = table_role 3 11 nr data_blocks layout refl (omega arith);
      details = table_role 4 11 nr data_blocks layout refl (omega arith);
      data_index = naming_role 5 11 nr data_blocks 6 (λ v. v % 2 ^ 64) layout refl refl (omega arith);
      data_overflow = table_role 7 11 nr data_blocks layout refl (omega arith);
      meta_overflow = table_role 10 11 nr data_blocks layout refl (omega arith);
    }

pub returns-clause-cache : goal.returns-clause-cache
unfolding cache_graph cache_layout
returns-clause-cache c = λ super.
    let nr = (cache_fields super).meta_map.blocks in
    let layout = cache_layout nr in
    record {
      mappings = naming_role 1 12 nr 0 2 (λ v. v) layout refl refl (omega arith);
      hints = naming_role 3 12 nr 0 4 (λ v. v) layout refl refl (omega arith);
      discards = naming_role 5 12 nr 0 6 (λ v. v) layout refl refl (omega arith);
      meta_overflow = table_role 9 12 nr 0 layout refl (omega arith);
      dirty_bits = naming_role 10 12 nr 0 11 (λ v. v) layout refl refl (omega arith);
    }

pub returns-clause-era : goal.returns-clause-era
unfolding era_graph era_layout
returns-clause-era c = λ super.
    let nr = (era_fields super).meta_map.blocks in
    let layout = era_layout nr in
    record {
      writesets = naming_role 2 10 nr 0 3 writeset_root layout refl refl (omega arith);
      bits = naming_role 3 10 nr 0 4 (λ v. v) layout refl refl (omega arith);
      eras = naming_role 5 10 nr 0 6 (λ v. v) layout refl refl (omega arith);
      meta_overflow = table_role 9 10 nr 0 layout refl (omega arith);
    }
