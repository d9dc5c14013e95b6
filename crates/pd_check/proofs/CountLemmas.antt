-- The faults that are found of stored counts are those of the definition.
use Rattle.std.proofs.Common.{◌≡◌, ℕ, zero, suc, ◌+◌, ◌%◌, ◌^◌, ◌<◌, ◌≤◌, Bool, true, false, not, ◌&&◌, cond, nat_eq, List, [], ◌∷◌, ◌++◌, Option, Some, None, IfSome, IfOk, Result, Ok, Err, OnOk, refl, ap, sym, subst, ◌∙◌, arith, eq-eqb, append-nil}
use Rattle.std.specs.List.{flat_map, range_with_len, AllByRecursion}
use Rattle.std.specs.Str.{bytes_eq}
use Rattle.std.proofs.lemmas.Bool.{or_parts, not-false}
use Rattle.std.proofs.lemmas.Option.{IfSome_then}
use Rattle.std.proofs.lemmas.Slice.Eq.{bytes_eq-Decides}
use Rattle.pd_kinds.specs.declared.kind.Kind.{Kind}
use Rattle.pd_kinds.specs.declared.kind.Kind.TheVariants.{Thin, Cache, Era}
use Rattle.pd_kinds.specs.declared.kind.Stage.{Stage}
use Rattle.pd_kinds.specs.declared.rule.Rule.{Rule}
use Rattle.pd_kinds.specs.Rule.{same_rule, Reported, report_of}
use Rattle.pd_kinds.specs.declared.rule.Fault.{Fault}
use Rattle.pd_kinds.specs.declared.rule.Space.{Space}
use Rattle.pd_kinds.specs.declared.rule.Space.TheVariants.{Meta, DataBlock}
use Rattle.pd_kinds.specs.declared.superblocks.SmRoot.{SmRoot}
use Rattle.pd_kinds.specs.Node.{Entry}
use Rattle.pd_kinds.specs.Bitmap.{bitmaps_for}
use Rattle.pd_kinds.specs.Graph.{Graph, block_at, is_reached, pair, meta_count, data_count}
use Rattle.pd_kinds.specs.Layout.{Layout, bitmap, index, plain_tree, tree_to, layouts, layout_data, is_bad, leaf_entries, graph_of}
use Rattle.pd_kinds.specs.Stages.{checked_of, thin_checked, cache_checked, era_checked, count_fault, count_faults, faults, IsReached}
use Rattle.pd_kinds.specs.ThinFormat.{thin_fields, thin_graph, thin_layout}
use Rattle.pd_kinds.specs.CacheFormat.{cache_fields, cache_graph}
use Rattle.pd_kinds.specs.EraFormat.{era_fields, era_graph}
use Rattle.pd_kinds.specs.Trees.{entries_below, keys_of, stored_meta_in, stored_data_in}
use Rattle.pd_kinds.specs.Whole.{whole_bad, thin_whole, data_index_entries}
use Rattle.pd_kinds.proofs.NumberLemmas.{first_not}
use Rattle.pd_kinds.proofs.ResultLemmas.{if_any, if_both}
use Rattle.pd_kinds.specs.InOrder.{LooksAtOrder, graph_of_kind}
use Rattle.pd_kinds.proofs.CleanLemmas.{whole_where_none}
use Rattle.pd_kinds.proofs.ThinTable.{few_data_blocks}
use Rattle.pd_kinds.specs.declared.kind.Stage.TheVariants as stages
use Rattle.pd_kinds.specs.declared.rule.Rule.TheVariants as r
use Rattle.pd_count.specs.Counted.{Counted, count_of}
use Rattle.pd_graph.specs.declared.audit.Audit.{Audit}
use Rattle.pd_graph.specs.Audit.{count_at}
use Rattle.pd_tree.specs.Search.{HasCacheRoots, HasEraRoots, HasThinRoots, IsSoundTree, HasCacheTrees, HasEraTrees, HasThinTrees, IsTreeRole}
use Rattle.pd_smap.specs.Steps.{faults_from, Adds}
use Rattle.pd_smap.specs.Overflow.{IsIndex, IsOverflow, index_of, overflow_of}
use Rattle.pd_check.specs.declared.counter.RefCounter.{RefCounter}
use Rattle.pd_check.specs.Counter.{HasSeen}
use Rattle.pd_check.specs.Refs.{HasDataCounts, NamesDataIn}
use Rattle.pd_check.specs.Known.{IsKnown}
use Rattle.pd_check.specs.declared.metadata.DataSpace.{DataSpace}
use Rattle.pd_check.specs.Check.{data_space_of, graph_of_super, meta_map_of, super_bad_of, count_reads, data_faults, meta_faults, meta_reads, space_reads, IsWhole}
use Rattle.pd_check.proofs.CheckLemmas.{same_graph, flat_map-same}

-- the faults of blocks with the same references and the same stored counts
faults_same : (space : Space) (refs others : ℕ → ℕ) (stored told : ℕ → Option ℕ) (n : ℕ) → ((b : ℕ) → b < n → refs b ≡ others b) → ((b : ℕ) → stored b ≡ told b)
    → faults_from space refs stored 0 n ≡ flat_map (λ b. count_fault space b (others b) (told b)) (range_with_len 0 n)
unfolding faults_from
faults_same space refs others stored told n same is =
    flat_map-same (λ b. count_fault space b (refs b) (stored b)) (λ b. count_fault space b (others b) (told b)) 0 n
    (λ b within. ap (λ (k : ℕ). count_fault space b k (stored b)) (same b (omega arith)) ∙ ap (λ (o : Option ℕ). count_fault space b (others b) o) (is b))

-- the map of metadata blocks has a count for each of them
pub map_number : (kind : Kind) (first : List ℕ) → (meta_map_of kind first).blocks ≡ (graph_of_super kind first).nr
unfolding thin_graph cache_graph era_graph graph_of
map_number Thin first = refl
map_number Cache first = refl
map_number Era first = refl

-- and that of data blocks for each of those
pub data_number : (kind : Kind) (first : List ℕ) (space : DataSpace) → data_space_of kind first ≡ Some space → space.root.blocks ≡ (graph_of_super kind first).data_blocks
unfolding thin_graph graph_of
data_number Thin first space is = let same : record { root = (thin_fields first).data_map; role = 3 } ≡ space = cc in ap (λ (s : DataSpace). s.root.blocks) (sym same)
data_number Cache first space is = absurd (cc)
data_number Era first space is = absurd (cc)

pub few_counted : (kind : Kind) (blocks : ℕ) (first : List ℕ) → ((rule : Rule) → super_bad_of kind blocks first rule ≡ false)
    → IfSome (data_space_of kind first) (λ space. space.root.blocks ≤ 2 ^ 40)
few_counted Thin blocks first sound = few_data_blocks blocks first sound
few_counted Cache blocks first sound = tt
few_counted Era blocks first sound = tt

-- the map of metadata blocks, where no rule is broken up to those of the whole image
pub record HasMetaMap (kind : Kind) (image : List (List ℕ)) : Type 0 where
  pub searchable : IsOverflow image (meta_map_of kind (block_at image 0)).overflow_root
  pub stored : (b : ℕ) → stored_meta_in image (meta_map_of kind (block_at image 0)).bitmap_root (overflow_of image (meta_map_of kind (block_at image 0)).overflow_root) b
      ≡ (checked_of kind image).stored_meta b

-- the laws on sound trees
module _ (thin_trees : (super_block : List ℕ) → HasThinTrees (thin_graph super_block))
    (cache_trees : (super_block : List ℕ) → HasCacheTrees (cache_graph super_block))
    (era_trees : (super_block : List ℕ) → HasEraTrees (era_graph super_block))
    (sound : (kind : Kind) (until : Stage) (image : List (List ℕ)) (b role : ℕ) → LooksAtOrder until → faults kind until image ≡ []
    → IsReached (graph_of_kind kind image) image b role → IsSoundTree (graph_of_kind kind image) image (pair b role))
    (thin_roots : (until : Stage) (image : List (List ℕ)) → LooksAtOrder until → faults Thin until image ≡ [] → HasThinRoots (thin_graph (block_at image 0)) image (thin_fields (block_at image 0)))
    (cache_roots : (until : Stage) (image : List (List ℕ)) → LooksAtOrder until → faults Cache until image ≡ [] → HasCacheRoots (cache_graph (block_at image 0)) image (cache_fields (block_at image 0)))
    (era_roots : (until : Stage) (image : List (List ℕ)) → LooksAtOrder until → faults Era until image ≡ [] → HasEraRoots (era_graph (block_at image 0)) image (era_fields (block_at image 0)))
    (searchable : (graph : Graph) (image : List (List ℕ)) (b role : ℕ) → IsTreeRole graph role 4 → IsSoundTree graph image (pair b role) → IsOverflow image b)
    (entries : (graph : Graph) (image : List (List ℕ)) (b role : ℕ) → IsTreeRole graph role 4 → IsSoundTree graph image (pair b role)
    → overflow_of image b ≡ entries_below graph image 4 role b) where
  has_meta_map : (kind : Kind) (image : List (List ℕ)) → faults kind stages.Whole image ≡ [] → HasMetaMap kind image
  unfolding thin_checked cache_checked era_checked
  has_meta_map Thin image none =
      let roots = thin_roots stages.Whole image tt none in
      let tree = (thin_trees (block_at image 0)).meta_overflow in
      let root = (thin_fields (block_at image 0)).meta_map in
      let found = sound Thin stages.Whole image root.overflow_root 10 tt none roots.meta_overflow in
      record {
        searchable = searchable (thin_graph (block_at image 0)) image root.overflow_root 10 tree found;
        stored = λ b. ap (λ (list : List Entry). stored_meta_in image root.bitmap_root list b) (entries (thin_graph (block_at image 0)) image root.overflow_root 10 tree found);
      }
  has_meta_map Cache image none =
      let roots = cache_roots stages.Whole image tt none in
      let tree = (cache_trees (block_at image 0)).meta_overflow in
      let root = (cache_fields (block_at image 0)).meta_map in
      let found = sound Cache stages.Whole image root.overflow_root 9 tt none roots.meta_overflow in
      record {
        searchable = searchable (cache_graph (block_at image 0)) image root.overflow_root 9 tree found;
        stored = λ b. ap (λ (list : List Entry). stored_meta_in image root.bitmap_root list b) (entries (cache_graph (block_at image 0)) image root.overflow_root 9 tree found);
      }
  has_meta_map Era image none =
      let roots = era_roots stages.Whole image tt none in
      let tree = (era_trees (block_at image 0)).meta_overflow in
      let root = (era_fields (block_at image 0)).meta_map in
      let found = sound Era stages.Whole image root.overflow_root 9 tt none roots.meta_overflow in
      record {
        searchable = searchable (era_graph (block_at image 0)) image root.overflow_root 9 tree found;
        stored = λ b. ap (λ (list : List Entry). stored_meta_in image root.bitmap_root list b) (entries (era_graph (block_at image 0)) image root.overflow_root 9 tree found);
      }

  meta_same : (kind : Kind) (image : List (List ℕ)) (first : List ℕ) (audit : Audit) → IsWhole kind first image audit → HasMetaMap kind image
      → faults_from Meta (count_at audit)
      (stored_meta_in image (meta_map_of kind (block_at image 0)).bitmap_root (overflow_of image (meta_map_of kind (block_at image 0)).overflow_root)) 0 (meta_map_of kind (block_at image 0)).blocks
      ≡ meta_faults (checked_of kind image) image
  unfolding meta_faults
  meta_same kind image first audit whole map =
      let checked = checked_of kind image in
      let stored = stored_meta_in image (meta_map_of kind (block_at image 0)).bitmap_root (overflow_of image (meta_map_of kind (block_at image 0)).overflow_root) in
      let same : graph_of_super kind first ≡ checked.graph = ap (graph_of_super kind) (sym whole.first_block) ∙ sym (same_graph kind image) in
      let known = subst (λ (g : Graph). IsKnown g image audit) same whole.known in
      ap (λ (n : ℕ). faults_from Meta (count_at audit) stored 0 n) (map_number kind (block_at image 0) ∙ ap (λ (g : Graph). g.nr) (sym (same_graph kind image)))
      ∙ faults_same Meta (count_at audit) (meta_count checked.graph image) stored checked.stored_meta checked.graph.nr known.counts map.stored

  -- the faults that were added are those of metadata blocks
  pub meta_told : (held : Option (List (List ℕ))) (kind : Kind) (first : List ℕ) (audit : Audit) (root : SmRoot) (old new : Reported) → root ≡ meta_map_of kind first
      → IfSome held (λ image. IsOverflow image root.overflow_root
      → Adds (faults_from Meta (count_at audit) (stored_meta_in image root.bitmap_root (overflow_of image root.overflow_root)) 0 root.blocks) old new)
      → IfSome held (λ image. IsWhole kind first image audit → Adds (meta_faults (checked_of kind image) image) old new)
  meta_told held kind first audit root old new is adds = IfSome_then held adds (λ image leads whole.
      let map = has_meta_map kind image whole.none in
      let same : root ≡ meta_map_of kind (block_at image 0) = is ∙ ap (meta_map_of kind) (sym whole.first_block) in
      let added = subst (λ (m : SmRoot). IsOverflow image m.overflow_root
      → Adds (faults_from Meta (count_at audit) (stored_meta_in image m.bitmap_root (overflow_of image m.overflow_root)) 0 m.blocks) old new) same leads in
      subst (λ (list : List Fault). Adds list old new) (meta_same kind image first audit whole map) (added map.searchable))

-- what holds where a call went well
pub on_ok : {T E : Type 0} {P Q : Type 0} → (result : Result T E) → (P → Q) → OnOk result P → OnOk result Q
on_ok (Ok value) leads holds = leads holds
on_ok (Err fault) leads holds = tt

index_if : (graph : Graph) (image : List (List ℕ)) → ((b : ℕ) (broken : Rule) → b < graph.nr → whole_bad (thin_whole graph image) b broken ≡ false)
    → (thin_fields (block_at image 0)).data_map.bitmap_root < graph.nr
    → keys_of (data_index_entries graph image) ≡ range_with_len 0 (bitmaps_for graph.data_blocks)
unfolding whole_bad thin_whole
index_if graph image whole within =
    let root = (thin_fields (block_at image 0)).data_map.bitmap_root in
    let keys = keys_of (data_index_entries graph image) in
    let wanted = range_with_len 0 (bitmaps_for graph.data_blocks) in
    let none = (or_parts _ _ (whole root r.Index within)).0 in
    let here : (nat_eq root root && same_rule r.Index r.Index) ≡ true = rw (eq-eqb root root refl) refl in
    let fails = first_not (not (bytes_eq keys wanted)) (nat_eq root root && same_rule r.Index r.Index) here none in
    (bytes_eq-Decides keys wanted).0 (not-false (bytes_eq keys wanted) fails)

pub index_keys : (image : List (List ℕ)) → faults Thin stages.Whole image ≡ [] → (thin_fields (block_at image 0)).data_map.bitmap_root < (thin_graph (block_at image 0)).nr
    → keys_of (data_index_entries (thin_graph (block_at image 0)) image) ≡ range_with_len 0 (bitmaps_for (thin_graph (block_at image 0)).data_blocks)
unfolding faults thin_checked
index_keys image none within = index_if (thin_graph (block_at image 0)) image (λ b broken below. whole_where_none (thin_checked image) image [] none b broken below) within

-- only the mappings of a pool name data blocks
abbrev IsMute : Layout → Type 0
IsMute layout = (block : List ℕ) → layout_data layout block ≡ []

nothing_named : {X : Type 0} → (xs : List X) → flat_map (λ (x : X). let none : List ℕ = [] in none) xs ≡ []
nothing_named [] = refl
nothing_named (x ∷ xs) = nothing_named xs

mute_among : (role : ℕ) (table : List Layout) → AllByRecursion IsMute table → IsMute (layouts role table)
mute_among role [] all = λ block. refl
mute_among zero (layout ∷ table) all = all.0
mute_among (suc role) (layout ∷ table) all = mute_among role table all.1

others_mute : (nr data_blocks role : ℕ) → (role ≡ 3 → ⊥) → IsMute (thin_layout nr data_blocks role)
unfolding thin_layout
others_mute nr data_blocks zero differ = λ block. refl
others_mute nr data_blocks (suc zero) differ = λ block. refl
others_mute nr data_blocks (suc (suc zero)) differ = λ block. nothing_named (leaf_entries 8 block)
others_mute nr data_blocks (suc (suc (suc zero))) differ = absurd (differ refl)
others_mute nr data_blocks (suc (suc (suc (suc role)))) differ =
    mute_among role (plain_tree 24 ∷ tree_to 16 6 (λ v. v % 2 ^ 64) ∷ bitmap ∷ plain_tree 4 ∷ index 9 ∷ bitmap ∷ plain_tree 4 ∷ []) (
      (λ block. nothing_named (leaf_entries 24 block)),
      (
        (λ block. nothing_named (leaf_entries 16 block)),
        (
          (λ block. refl),
          (
            (λ block. nothing_named (leaf_entries 4 block)),
            (
              (λ block. refl),
              (
                (λ block. refl),
                ((λ block. nothing_named (leaf_entries 4 block)), tt),
              ),
            ),
          ),
        ),
      ),
    )

empty_either : (t : Bool) (xs : List ℕ) → xs ≡ [] → cond t [] xs ≡ []
empty_either true xs none = refl
empty_either false xs none = none

mappings_alone : (super : List ℕ) → NamesDataIn (thin_graph super) 3
unfolding thin_graph graph_of
mappings_alone super other place block few differ =
    empty_either (is_bad (thin_fields super).meta_map.blocks other (thin_layout (thin_fields super).meta_map.blocks (thin_fields super).data_map.blocks other) place block) _
    (others_mute (thin_fields super).meta_map.blocks (thin_fields super).data_map.blocks other differ block)

-- the map of data blocks of a pool, where no rule is broken up to those of the whole image
pub record HasDataMap (image : List (List ℕ)) : Type 0 where
  pub searchable : IsOverflow image (thin_fields (block_at image 0)).data_map.overflow_root
  pub counting : IsIndex image (thin_fields (block_at image 0)).data_map.bitmap_root (thin_fields (block_at image 0)).data_map.blocks
  pub stored : (d : ℕ) → stored_data_in image (index_of image (thin_fields (block_at image 0)).data_map.bitmap_root) (overflow_of image (thin_fields (block_at image 0)).data_map.overflow_root) d
      ≡ (checked_of Thin image).stored_data d

module _ (thin_trees : (super_block : List ℕ) → HasThinTrees (thin_graph super_block))
    (sound : (kind : Kind) (until : Stage) (image : List (List ℕ)) (b role : ℕ) → LooksAtOrder until → faults kind until image ≡ []
    → IsReached (graph_of_kind kind image) image b role → IsSoundTree (graph_of_kind kind image) image (pair b role))
    (thin_roots : (until : Stage) (image : List (List ℕ)) → LooksAtOrder until → faults Thin until image ≡ [] → HasThinRoots (thin_graph (block_at image 0)) image (thin_fields (block_at image 0)))
    (searchable : (graph : Graph) (image : List (List ℕ)) (b role : ℕ) → IsTreeRole graph role 4 → IsSoundTree graph image (pair b role) → IsOverflow image b)
    (entries : (graph : Graph) (image : List (List ℕ)) (b role : ℕ) → IsTreeRole graph role 4 → IsSoundTree graph image (pair b role)
    → overflow_of image b ≡ entries_below graph image 4 role b)
    (keys : (graph : Graph) (image : List (List ℕ)) (b role : ℕ) → IsTreeRole graph role 16 → IsSoundTree graph image (pair b role)
    → keys_of (index_of image b) ≡ keys_of (entries_below graph image 16 role b))
    (stored : (graph : Graph) (image : List (List ℕ)) (b role d : ℕ) (overflow : List Entry) → IsTreeRole graph role 16 → IsSoundTree graph image (pair b role)
    → stored_data_in image (index_of image b) overflow d ≡ stored_data_in image (entries_below graph image 16 role b) overflow d) where
  has_data_map : (image : List (List ℕ)) → faults Thin stages.Whole image ≡ [] → HasDataMap image
  unfolding thin_checked
  has_data_map image none =
      let graph = thin_graph (block_at image 0) in
      let roots = thin_roots stages.Whole image tt none in
      let trees = thin_trees (block_at image 0) in
      let root = (thin_fields (block_at image 0)).data_map in
      let over = sound Thin stages.Whole image root.overflow_root 7 tt none roots.data_overflow in
      let index = sound Thin stages.Whole image root.bitmap_root 5 tt none roots.data_index in
      record {
        searchable = searchable graph image root.overflow_root 7 trees.data_overflow over;
        counting = keys graph image root.bitmap_root 5 trees.data_index.is_role index ∙ (index_keys image none roots.data_index.block
            ∙ ap (λ (n : ℕ). range_with_len 0 (bitmaps_for n)) (sym (data_number Thin (block_at image 0) (record { root = root; role = 3 }) refl)));
        stored = λ d.
            ap (λ (list : List Entry). stored_data_in image (index_of image root.bitmap_root) list d) (entries graph image root.overflow_root 7 trees.data_overflow over)
            ∙ stored graph image root.bitmap_root 5 d _ trees.data_index.is_role index;
      }

  data_same : (image : List (List ℕ)) (counts : Counted) → HasDataMap image → HasDataCounts counts (thin_graph (block_at image 0)) image
      → faults_from DataBlock (count_of counts)
      (stored_data_in image (index_of image (thin_fields (block_at image 0)).data_map.bitmap_root) (overflow_of image (thin_fields (block_at image 0)).data_map.overflow_root)) 0
      (thin_fields (block_at image 0)).data_map.blocks
      ≡ data_faults (checked_of Thin image) image
  unfolding data_faults
  data_same image counts map are =
      let checked = checked_of Thin image in
      let root = (thin_fields (block_at image 0)).data_map in
      let graph = thin_graph (block_at image 0) in
      let stored_by = stored_data_in image (index_of image root.bitmap_root) (overflow_of image root.overflow_root) in
      let same : checked.graph ≡ graph = same_graph Thin image in
      let refs : (d : ℕ) → d < checked.graph.data_blocks → count_of counts d ≡ data_count checked.graph image d =
      λ d within. are d (subst (λ (g : Graph). d < g.data_blocks) same within) ∙ ap (λ (g : Graph). data_count g image d) (sym same) in
      ap (λ (n : ℕ). faults_from DataBlock (count_of counts) stored_by 0 n)
      (data_number Thin (block_at image 0) (record { root = root; role = 3 }) refl ∙ ap (λ (g : Graph). g.data_blocks) (sym same))
      ∙ faults_same DataBlock (count_of counts) (data_count checked.graph image) stored_by checked.stored_data checked.graph.data_blocks refs map.stored

  -- the faults that were added are those of data blocks
  pub data_told : (held : Option (List (List ℕ))) (kind : Kind) (first : List ℕ) (space : DataSpace) (counter : RefCounter) (counts : Counted) (old new : Reported)
      → data_space_of kind first ≡ Some space
      → ((graph : Graph) (image : List (List ℕ)) → HasSeen counter graph image (is_reached graph image) → HasDataCounts counts graph image)
      → IfSome held (λ image. IsOverflow image space.root.overflow_root → IsIndex image space.root.bitmap_root space.root.blocks
      → Adds (faults_from DataBlock (count_of counts) (stored_data_in image (index_of image space.root.bitmap_root) (overflow_of image space.root.overflow_root)) 0 space.root.blocks) old new)
      → IfSome held (λ image. block_at image 0 ≡ first → faults kind stages.Whole image ≡ [] → HasSeen counter (graph_of_super kind first) image (is_reached (graph_of_super kind first) image)
      → Adds (data_faults (checked_of kind image) image) old new)
  data_told held Thin first space counter counts old new here counted adds =
      IfSome_then held adds (λ image leads same_first none seen.
      let map = has_data_map image none in
      let same : space ≡ record { root = (thin_fields (block_at image 0)).data_map; role = 3 } =
      let mine : record { root = (thin_fields first).data_map; role = 3 } ≡ space = cc in
      sym mine ∙ ap (λ (m : List ℕ). let s : DataSpace = record { root = (thin_fields m).data_map; role = 3 } in s) (sym same_first) in
      let counts_in = subst (λ (m : List ℕ). HasDataCounts counts (thin_graph m) image) (sym same_first) (counted (thin_graph first) image seen) in
      let added = subst (λ (s : DataSpace). IsOverflow image s.root.overflow_root → IsIndex image s.root.bitmap_root s.root.blocks
      → Adds (faults_from DataBlock (count_of counts) (stored_data_in image (index_of image s.root.bitmap_root) (overflow_of image s.root.overflow_root)) 0 s.root.blocks) old new) same leads in
      subst (λ (list : List Fault). Adds list old new) (data_same image counts map counts_in) (added map.searchable map.counting))
  data_told held Cache first space counter counts old new here counted adds = absurd (cc)
  data_told held Era first space counter counts old new here counted adds = absurd (cc)

-- under a result
pub ok_if : {T E : Type 0} → (result : Result T E) (P Q : T → Type 0) → ((x : T) → P x → Q x) → IfOk result P → IfOk result Q
ok_if (Ok x) P Q leads p = leads x p
ok_if (Err e) P Q leads p = tt

-- blocks of one role alone name the data blocks of a kind that has any
pub counts_space : (kind : Kind) (first : List ℕ) (space : DataSpace) → data_space_of kind first ≡ Some space → NamesDataIn (graph_of_super kind first) space.role
counts_space Thin first space is =
    let same : record { root = (thin_fields first).data_map; role = 3 } ≡ space = cc in
    subst (λ (s : DataSpace). NamesDataIn (thin_graph first) s.role) same (mappings_alone first)
counts_space Cache first space is = absurd (cc)
counts_space Era first space is = absurd (cc)

-- and where there are none
pub no_space : (kind : Kind) (first : List ℕ) → data_space_of kind first ≡ None → (graph_of_super kind first).data_blocks ≡ 0
unfolding cache_graph era_graph graph_of
no_space Thin first none = absurd (cc)
no_space Cache first none = refl
no_space Era first none = refl

-- a kind without data blocks has no faults of theirs
no_data : (kind : Kind) (image : List (List ℕ)) (first : List ℕ) → data_space_of kind first ≡ None → data_faults (checked_of kind image) image ≡ []
unfolding data_faults cache_checked era_checked cache_graph era_graph graph_of
no_data Thin image first none = absurd (cc)
no_data Cache image first none = refl
no_data Era image first none = refl

both_faults : (kind : Kind) (image : List (List ℕ)) → count_faults (checked_of kind image) image ≡ meta_faults (checked_of kind image) image ++ data_faults (checked_of kind image) image
unfolding count_faults meta_faults data_faults
both_faults kind image = refl

-- nothing is added where there are none
pub none_added : (Seen : List (List ℕ) → Type 0) (held : Option (List (List ℕ))) (kind : Kind) (first : List ℕ) (report : Reported) → data_space_of kind first ≡ None
    → IfSome held (λ image. block_at image 0 ≡ first → faults kind stages.Whole image ≡ [] → Seen image → Adds (data_faults (checked_of kind image) image) report report)
none_added Seen held kind first report nothing =
    if_any held (λ image same none seen before is.
    is ∙ ap (λ (list : List Fault). report_of list) (sym (ap (λ (list : List Fault). before ++ list) (no_data kind image first nothing) ∙ append-nil before)))

-- the report of both
pub both_told : (Seen : List (List ℕ) → Type 0) (held later : Option (List (List ℕ))) (kind : Kind) (first : List ℕ) (audit : Audit) (start mid last : Reported) → later ≡ held → start ≡ report_of []
    → IfSome held (λ image. IsWhole kind first image audit → Adds (meta_faults (checked_of kind image) image) start mid)
    → IfSome later (λ image. block_at image 0 ≡ first → faults kind stages.Whole image ≡ [] → Seen image → Adds (data_faults (checked_of kind image) image) mid last)
    → IfSome held (λ image. IsWhole kind first image audit → Seen image → last ≡ report_of (count_faults (checked_of kind image) image))
both_told Seen held later kind first audit start mid last stays none meta data_added =
    if_both held (λ image leads next whole seen.
    let one : mid ≡ report_of (meta_faults (checked_of kind image) image) = leads whole [] none in
    next whole.first_block whole.none seen (meta_faults (checked_of kind image) image) one ∙ ap (λ (list : List Fault). report_of list) (sym (both_faults kind image)))
    meta
    (subst (λ (o : Option (List (List ℕ))). IfSome o (λ image. block_at image 0 ≡ first → faults kind stages.Whole image ≡ [] → Seen image
    → Adds (data_faults (checked_of kind image) image) mid last)) stays data_added)

-- and what was read for both
pub meta_few : (held : Option (List (List ℕ))) (kind : Kind) (first : List ℕ) (old mid : ℕ)
    → IfSome held (λ image. mid ≤ old + meta_reads (meta_map_of kind first) image) → IfSome held (λ image. mid ≤ old + count_reads kind first image)
unfolding count_reads
meta_few held kind first old mid most = IfSome_then held most (λ image few. omega (arith, few))

pub both_few : (held later : Option (List (List ℕ))) (kind : Kind) (first : List ℕ) (old mid new : ℕ) → later ≡ held
    → IfSome held (λ image. mid ≤ old + meta_reads (meta_map_of kind first) image)
    → IfSome later (λ image. new ≤ mid + space_reads (data_space_of kind first) image)
    → IfSome held (λ image. new ≤ old + count_reads kind first image)
unfolding count_reads
both_few held later kind first old mid new stays one two =
    if_both held (λ image few more. omega (arith, few, more)) one
    (subst (λ (o : Option (List (List ℕ))). IfSome o (λ image. new ≤ mid + space_reads (data_space_of kind first) image)) stays two)
