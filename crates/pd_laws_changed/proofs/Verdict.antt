-- The faults of a pool are the same in two images that are alike, whose superblock breaks no rule.
use Rattle.std.proofs.Common.{◌≡◌, ℕ, true, nat_lt, cond, List, [], ◌∷◌, ◌++◌, length, refl, ap, ◌∙◌, arith, suc}
use Rattle.std.proofs.lemmas.Bool.{lt-ltb}
use Rattle.std.specs.List.{flat_map, range_with_len}
use Rattle.pd_kinds.specs.declared.rule.Fault.{Fault}
use Rattle.pd_kinds.specs.declared.rule.Space.TheVariants.{Meta, DataBlock}
use Rattle.pd_kinds.specs.declared.kind.Kind.{Kind}
use Rattle.pd_kinds.specs.declared.kind.Kind.TheVariants.{Thin}
use Rattle.pd_kinds.specs.declared.kind.Stage.{Stage}
use Rattle.pd_kinds.specs.declared.rule.Rule.{Rule}
use Rattle.pd_kinds.specs.Field.{has_checksum}
use Rattle.pd_kinds.specs.Rule.{faults_at}
use Rattle.pd_kinds.specs.Graph.{Graph, block_at}
use Rattle.pd_kinds.specs.Stages.{Checked, HasCleanSuper, block_faults, checked_of, count_fault, count_faults, faults, first_failing, order_bad, stage_faults, stages_to, super_faults, thin_checked, walk_bad}
use Rattle.pd_kinds.specs.Super.{salt_of}
use Rattle.pd_kinds.specs.ThinFormat.{thin_graph, thin_fields, thin_super_bad}
use Rattle.pd_kinds.specs.Trees.{entries_below, stored_data_in, stored_meta_in}
use Rattle.pd_kinds.specs.Whole.{data_index_entries, thin_whole, whole_bad}
use Rattle.pd_kinds.proofs.CleanLemmas.{clean_super_where_none}
use Rattle.pd_kinds.specs.declared.kind.Stage.TheVariants as stages
use Rattle.pd_laws_changed.specs.Known.{AreAlike}
use Rattle.pd_laws_changed.proofs.Seen.{data_count_is, meta_count_is, order_is, walk_is}
use Rattle.pd_laws_changed.proofs.Pools.{same, graph_is, super_is}
use Rattle.pd_laws_changed.specs.KnownPool.{IsKnown}
use Rattle.pd_laws_changed.proofs.Whole.{data_same, meta_same, whole_same}

module _ (checked also : Checked) where
  -- the faults of block 0
  pub super_faults_same : (image other : List (List ℕ)) → length other ≡ length image
      → ((broken : Rule) → also.super_bad (length image) (block_at other 0) broken ≡ checked.super_bad (length image) (block_at image 0) broken)
      → super_faults also other ≡ super_faults checked image
  unfolding super_faults
  super_faults_same [] [] size rules = refl
  super_faults_same [] (block ∷ blocks) size rules = absurd (omega arith)
  super_faults_same (block ∷ blocks) [] size rules = absurd (omega arith)
  super_faults_same (block ∷ blocks) (block' ∷ blocks') size rules =
      ap (λ (n : ℕ). faults_at 0 (also.super_bad n block')) size ∙ (λ i. faults_at 0 (λ broken. rules broken i))

  module _ (image other : List (List ℕ)) where
    -- each stage that is looked at has the same faults
    abbrev pub AreSame : List Stage → Type 0
    AreSame [] = Unit {0}
    AreSame (stage ∷ later) = (stage_faults also other stage ≡ stage_faults checked image stage) × (stage_faults checked image stage ≡ [] → AreSame later)

    chosen_same : (here some more : List Fault) → (here ≡ [] → some ≡ more) → cond (nat_lt 0 (length here)) here some ≡ cond (nat_lt 0 (length here)) here more
    chosen_same [] some more later = later refl
    chosen_same (fault ∷ rest) some more later = rw (lt-ltb 0 (suc (length rest)) (omega arith)) refl

    -- so the first that has any has the same
    pub first_same : (list : List Stage) → AreSame list → first_failing also other list ≡ first_failing checked image list
    unfolding first_failing
    first_same [] each = refl
    first_same (stage ∷ later) each =
        ap (λ (here : List Fault). cond (nat_lt 0 (length here)) here (first_failing also other later)) each.0
        ∙ chosen_same (stage_faults checked image stage) _ _ (λ none. first_same later (each.1 none))

    abbrev IsSame : Stage → Type 0
    IsSame stage = stage_faults also other stage ≡ stage_faults checked image stage

    -- the stages past Order are looked at where there is no fault up to it
    module _ (first : IsSame stages.Super) (walk : IsSame stages.Walk) (order : IsSame stages.Order)
        (last : first_failing checked image (stages_to stages.Order) ≡ [] → IsSame stages.Whole × IsSame stages.Counts) where
      past_order : (later : List Stage) → (IsSame stages.Whole × IsSame stages.Counts → AreSame later) → AreSame (stages.Super ∷ stages.Walk ∷ stages.Order ∷ later)
      unfolding first_failing
      past_order later each = (first, λ none. (walk, λ none_reached. (order, λ none_deep. each (last (rw (none, none_reached, none_deep) refl)))))

      each_same : (until : Stage) → AreSame (stages_to until)
      each_same stages.Super = (first, λ _. tt)
      each_same stages.Walk = (first, λ _. (walk, λ _. tt))
      each_same stages.Order = past_order [] (λ _. tt)
      each_same stages.Whole = past_order (stages.Whole ∷ []) (λ both. (both.0, λ _. tt))
      each_same stages.Counts = past_order (stages.Whole ∷ stages.Counts ∷ []) (λ both. (both.0, λ _. (both.1, λ _. tt)))

      -- so up to each stage the faults are the same
      pub same_until : (until : Stage) → first_failing also other (stages_to until) ≡ first_failing checked image (stages_to until)
      same_until until = first_same (stages_to until) (each_same until)

module _ (image other : List (List ℕ)) (alike : AreAlike Thin image other) (has : has_checksum (block_at image 0) (salt_of Thin) ≡ true) where
  abbrev checked : Checked
  checked = thin_checked image

  abbrev also : Checked
  also = thin_checked other

  abbrev graph : Graph
  graph = thin_graph (block_at image 0)

  graph_same : thin_graph (block_at other 0) ≡ graph
  graph_same = graph_is (block_at image 0) (block_at other 0) alike.bytes

  super_same : stage_faults also other stages.Super ≡ stage_faults checked image stages.Super
  unfolding thin_checked
  super_same =
      super_faults_same checked also image other alike.size
      (super_is (block_at image 0) (block_at other 0) alike.bytes has alike.checksum (length image))

  walk_same : stage_faults also other stages.Walk ≡ stage_faults checked image stages.Walk
  unfolding thin_checked
  walk_same =
      ap (λ (g : Graph). block_faults g.nr (walk_bad g other)) graph_same ∙ ap (block_faults graph.nr) (walk_is graph image other (same image other alike has))

  order_same : stage_faults also other stages.Order ≡ stage_faults checked image stages.Order
  unfolding thin_checked
  order_same =
      ap (λ (g : Graph). block_faults g.nr (order_bad g other)) graph_same ∙ ap (block_faults graph.nr) (order_is graph image other (same image other alike has))

  module _ (known : IsKnown image) where
    checked_same : also ≡ checked
    unfolding thin_checked
    checked_same =
        ap (λ (g : Graph). record {
          super_bad = thin_super_bad;
          graph = g;
          whole = thin_whole g other;
          stored_meta = stored_meta_in other (thin_fields (block_at other 0)).meta_map.bitmap_root (entries_below g other 4 10 (thin_fields (block_at other 0)).meta_map.overflow_root);
          stored_data = stored_data_in other (data_index_entries g other) (entries_below g other 4 7 (thin_fields (block_at other 0)).data_map.overflow_root);
        }) graph_same
        ∙ (λ i. record {
          super_bad = thin_super_bad;
          graph = graph;
          whole = whole_same image other alike known i;
          stored_meta = meta_same image other alike known i;
          stored_data = data_same image other alike known i;
        })

    counts_same : count_faults also other ≡ count_faults checked image
    unfolding thin_checked count_faults
    counts_same =
        ap (λ (c : Checked). count_faults c other) checked_same
        ∙ (λ i.
        flat_map (λ b. count_fault Meta b (meta_count_is graph image other (same image other alike has) i b) (checked.stored_meta b)) (range_with_len 0 graph.nr)
        ++ flat_map (λ d. count_fault DataBlock d (data_count_is graph image other (same image other alike has) i d) (checked.stored_data d)) (range_with_len 0 graph.data_blocks))

    whole_stage_same : stage_faults also other stages.Whole ≡ stage_faults checked image stages.Whole
    whole_stage_same = ap (λ (c : Checked). block_faults c.graph.nr (whole_bad c.whole)) checked_same

  pub faults_same : (faults Thin stages.Order image ≡ [] → IsKnown image) → (until : Stage) → faults Thin until other ≡ faults Thin until image
  unfolding faults
  faults_same know = same_until checked also image other super_same walk_same order_same (λ none. (whole_stage_same (know none), counts_same (know none)))

-- the superblock breaks no rule where there is no fault up to some stage, as each stage comes after its own
pub clean_super : (kind : Kind) (some : Stage) (image : List (List ℕ)) → faults kind some image ≡ [] → HasCleanSuper (checked_of kind image) image
unfolding faults
clean_super kind stages.Super image none = clean_super_where_none (checked_of kind image) image _ none
clean_super kind stages.Walk image none = clean_super_where_none (checked_of kind image) image _ none
clean_super kind stages.Order image none = clean_super_where_none (checked_of kind image) image _ none
clean_super kind stages.Whole image none = clean_super_where_none (checked_of kind image) image _ none
clean_super kind stages.Counts image none = clean_super_where_none (checked_of kind image) image _ none
