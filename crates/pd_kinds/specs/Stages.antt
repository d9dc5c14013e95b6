-- Trusted base.
-- The faults of each stage, the first failing stage, and what a clean image is.
use Rattle.std.specs.Prelude.{◌≡◌, ◌≢◌, ℕ, ◌<◌, Bool, true, false, ◌&&◌, ◌||◌, not, nat_lt, if◌then◌else◌, List, [], ◌∷◌, ◌++◌, filter, length, Option, Some, None, IfSome}
use Rattle.std.specs.List.{list_any, flat_map, range_with_len}
use Rattle.pd_kinds.specs.declared.kind.Kind.{Kind}
use Rattle.pd_kinds.specs.declared.kind.Kind.TheVariants.{Thin, Cache, Era}
use Rattle.pd_kinds.specs.declared.kind.Stage.{Stage}
use Rattle.pd_kinds.specs.declared.rule.Rule.{Rule}
use Rattle.pd_kinds.specs.declared.rule.Fault.{Fault}
use Rattle.pd_kinds.specs.declared.rule.Space.{Space}
use Rattle.pd_kinds.specs.declared.rule.Space.TheVariants.{Meta, DataBlock}
use Rattle.pd_kinds.specs.Rule.{same_rule, meta_fault, faults_at}
use Rattle.pd_kinds.specs.ThinFormat.{thin_fields, thin_super_bad, thin_graph}
use Rattle.pd_kinds.specs.CacheFormat.{cache_fields, cache_super_bad, cache_graph}
use Rattle.pd_kinds.specs.EraFormat.{era_fields, era_super_bad, era_graph}
use Rattle.pd_kinds.specs.Graph.{Graph, block_at, pair, is_reached, is_inner_pair, meta_count, data_count, is_deep, is_in_range}
use Rattle.pd_kinds.specs.Trees.{entries_below, stored_meta_in, stored_data_in}
use Rattle.pd_kinds.specs.Whole.{WholeTest, whole_bad, data_index_entries, thin_whole, cache_whole, era_whole}
use Rattle.pd_kinds.specs.declared.kind.Stage.TheVariants as stages
use Rattle.pd_kinds.specs.declared.rule.Rule.TheVariants as r
use Rattle.pd_kinds.specs.ThinRoles as thin_role
use Rattle.pd_kinds.specs.CacheRoles as cache_role
use Rattle.pd_kinds.specs.EraRoles as era_role

-- what a check of one kind looks at in an image
pub record Checked : Type 0 where
  -- the rules that the superblock of a device of so many blocks breaks
  pub super_bad : ℕ → List ℕ → Rule → Bool
  pub graph : Graph
  pub whole : List WholeTest
  -- the stored counts
  pub stored_meta : ℕ → Option ℕ
  pub stored_data : ℕ → Option ℕ

unfoldable pub thin_checked : List (List ℕ) → Checked
thin_checked image =
    let fields = thin_fields (block_at image 0) in
    let graph = thin_graph (block_at image 0) in
    record {
      super_bad = thin_super_bad;
      graph = graph;
      whole = thin_whole graph image;
      stored_meta = stored_meta_in image fields.meta_map.bitmap_root (entries_below graph image 4 thin_role.meta_overflow fields.meta_map.overflow_root);
      stored_data = stored_data_in image (data_index_entries graph image) (entries_below graph image 4 thin_role.data_overflow fields.data_map.overflow_root);
    }

unfoldable pub cache_checked : List (List ℕ) → Checked
cache_checked image =
    let fields = cache_fields (block_at image 0) in
    let graph = cache_graph (block_at image 0) in
    record {
      super_bad = cache_super_bad;
      graph = graph;
      whole = cache_whole graph image;
      stored_meta = stored_meta_in image fields.meta_map.bitmap_root (entries_below graph image 4 cache_role.meta_overflow fields.meta_map.overflow_root);
      stored_data = λ d. None;
    }

unfoldable pub era_checked : List (List ℕ) → Checked
era_checked image =
    let fields = era_fields (block_at image 0) in
    let graph = era_graph (block_at image 0) in
    record {
      super_bad = era_super_bad;
      graph = graph;
      whole = era_whole graph image;
      stored_meta = stored_meta_in image fields.meta_map.bitmap_root (entries_below graph image 4 era_role.meta_overflow fields.meta_map.overflow_root);
      stored_data = λ d. None;
    }

-- what is looked at in an image of a kind
abbrev pub checked_of : Kind → List (List ℕ) → Checked
checked_of Thin image = thin_checked image
checked_of Cache image = cache_checked image
checked_of Era image = era_checked image

-- the stage Super: the rules of block 0, and Size where there is no block
unfoldable pub super_faults : Checked → List (List ℕ) → List Fault
super_faults checked [] = meta_fault 0 r.Size ∷ []
super_faults checked (block ∷ blocks) = faults_at 0 (checked.super_bad (length (block ∷ blocks)) block)

-- the roles in which a block is reached
unfoldable pub roles_of : Graph → List (List ℕ) → ℕ → List ℕ
roles_of graph image b = filter (λ role. is_reached graph image (pair b role)) (range_with_len 0 16)

-- the stage Walk: the local rules of each role in which a block is reached, and Role at two roles or more
unfoldable pub walk_bad : Graph → List (List ℕ) → ℕ → Rule → Bool
walk_bad graph image b wanted =
    list_any (λ role. graph.bad role b (block_at image b) wanted) (roles_of graph image b)
    || (nat_lt 1 (length (roles_of graph image b)) && same_rule r.Role wanted)

-- whether an inner node that isn't deep is out of range
unfoldable pub is_out_of_range : Graph → List (List ℕ) → ℕ → Bool
is_out_of_range graph image p = is_inner_pair graph image p && (not (is_deep graph image p) && not (is_in_range graph image p))

-- the stage Order: Level where a node is deep, Range where it is out of range
unfoldable pub order_bad : Graph → List (List ℕ) → ℕ → Rule → Bool
order_bad graph image b wanted =
    (list_any (λ role. is_deep graph image (pair b role)) (roles_of graph image b) && same_rule r.Level wanted)
    || (list_any (λ role. is_out_of_range graph image (pair b role)) (roles_of graph image b) && same_rule r.Range wanted)

-- the rules that metadata blocks break, block after block
unfoldable pub block_faults : ℕ → (ℕ → Rule → Bool) → List Fault
block_faults nr bad = flat_map (λ b. faults_at b (bad b)) (range_with_len 0 nr)

-- a stored count against the references: none stored is Overflow, above them Leak, below them Short
abbrev pub count_fault : Space → ℕ → ℕ → Option ℕ → List Fault
count_fault space b refs None = record { space = space; block = b; rule = r.Overflow; stored = 0; refs = 0 } ∷ []
count_fault space b refs (Some stored) =
    if nat_lt refs stored
    then record { space = space; block = b; rule = r.Leak; stored = stored; refs = refs } ∷ []
    else if nat_lt stored refs
    then record { space = space; block = b; rule = r.Short; stored = stored; refs = refs } ∷ []
    else []

-- the stage Counts: metadata blocks, then data blocks
unfoldable pub count_faults : Checked → List (List ℕ) → List Fault
count_faults checked image =
    flat_map (λ b. count_fault Meta b (meta_count checked.graph image b) (checked.stored_meta b)) (range_with_len 0 checked.graph.nr)
    ++ flat_map (λ d. count_fault DataBlock d (data_count checked.graph image d) (checked.stored_data d)) (range_with_len 0 checked.graph.data_blocks)

-- the faults of a stage
abbrev pub stage_faults : Checked → List (List ℕ) → Stage → List Fault
stage_faults checked image stages.Super = super_faults checked image
stage_faults checked image stages.Walk = block_faults checked.graph.nr (walk_bad checked.graph image)
stage_faults checked image stages.Order = block_faults checked.graph.nr (order_bad checked.graph image)
stage_faults checked image stages.Whole = block_faults checked.graph.nr (whole_bad checked.whole)
stage_faults checked image stages.Counts = count_faults checked image

-- the stages up to one, in their order
abbrev pub stages_to : Stage → List Stage
stages_to stages.Super = stages.Super ∷ []
stages_to stages.Walk = stages.Super ∷ stages.Walk ∷ []
stages_to stages.Order = stages.Super ∷ stages.Walk ∷ stages.Order ∷ []
stages_to stages.Whole = stages.Super ∷ stages.Walk ∷ stages.Order ∷ stages.Whole ∷ []
stages_to stages.Counts = stages.Super ∷ stages.Walk ∷ stages.Order ∷ stages.Whole ∷ stages.Counts ∷ []

-- the faults of the first of these stages that has any
unfoldable pub first_failing : Checked → List (List ℕ) → List Stage → List Fault
first_failing checked image [] = []
first_failing checked image (stage ∷ rest) =
    if nat_lt 0 (length (stage_faults checked image stage))
    then stage_faults checked image stage
    else first_failing checked image rest

-- the faults of an image of a kind up to a stage
unfoldable pub faults : Kind → Stage → List (List ℕ) → List Fault
faults kind until image = first_failing (checked_of kind image) image (stages_to until)

-- a check up to a stage can want memory: not up to the superblock's own stage, and not where the image
-- is told and its superblock has a fault
pub record CanWantMemory (kind : Kind) (until : Stage) (held : Option (List (List ℕ))) : Type 0 where
  pub past_super : until ≢ stages.Super
  pub sound : IfSome held (λ image. faults kind stages.Super image ≡ [])

-- block 0 exists, and breaks no rule
abbrev pub HasCleanSuper : Checked → List (List ℕ) → Type 0
HasCleanSuper checked [] = ⊥
HasCleanSuper checked (block ∷ blocks) = (broken : Rule) → checked.super_bad (length (block ∷ blocks)) block broken ≡ false

-- a block is reached in a role
pub record IsReached (graph : Graph) (image : List (List ℕ)) (b role : ℕ) : Type 0 where
  pub block : b < graph.nr
  pub within : role < 16
  pub found : is_reached graph image (pair b role) ≡ true

-- a clean image: the superblock and every reached block are well formed, each block has one role, the
-- trees are in order, the whole fits together, and every stored count is the number of references
pub record AreClean (checked : Checked) (image : List (List ℕ)) : Type 0 where
  pub super_block : HasCleanSuper checked image
  pub well_formed : (b role : ℕ) → IsReached checked.graph image b role
      → (broken : Rule) → checked.graph.bad role b (block_at image b) broken ≡ false
  pub one_role : (b role other : ℕ) → IsReached checked.graph image b role → IsReached checked.graph image b other → role ≡ other
  pub not_deep : (b role : ℕ) → IsReached checked.graph image b role → is_deep checked.graph image (pair b role) ≡ false
  pub in_range : (b role : ℕ) → IsReached checked.graph image b role
      → is_inner_pair checked.graph image (pair b role) ≡ true → is_in_range checked.graph image (pair b role) ≡ true
  pub whole : (b : ℕ) (broken : Rule) → b < checked.graph.nr → whole_bad checked.whole b broken ≡ false
  pub meta_counts : (b : ℕ) → b < checked.graph.nr → checked.stored_meta b ≡ Some (meta_count checked.graph image b)
  pub data_counts : (d : ℕ) → d < checked.graph.data_blocks → checked.stored_data d ≡ Some (data_count checked.graph image d)

-- a clean image of a kind
abbrev pub IsClean : Kind → List (List ℕ) → Type 0
IsClean kind image = AreClean (checked_of kind image) image
