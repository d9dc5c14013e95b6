use Rattle.std.proofs.Common.{◌≡◌, ℕ, false, List, [], ◌∷◌, length, refl}
use Rattle.pd_kinds.specs.declared.kind.Kind.{Kind}
use Rattle.pd_kinds.specs.declared.kind.Kind.TheVariants.{Thin, Cache, Era}
use Rattle.pd_kinds.specs.declared.kind.Stage.{Stage}
use Rattle.pd_kinds.specs.declared.kind.Stage.TheVariants as stages
use Rattle.pd_kinds.specs.declared.rule.Rule.{Rule}
use Rattle.pd_kinds.specs.ThinFormat.{thin_super_bad}
use Rattle.pd_kinds.specs.ThinFormat.{thin_graph}
use Rattle.pd_kinds.specs.CacheFormat.{cache_super_bad, cache_graph}
use Rattle.pd_kinds.specs.EraFormat.{era_super_bad, era_graph}
use Rattle.pd_kinds.specs.Graph.{block_at}
use Rattle.pd_kinds.specs.Lawful.{IsLawful}
use Rattle.pd_kinds.specs.Stages.{Checked, HasCleanSuper, checked_of, thin_checked, cache_checked, era_checked, first_failing, stages_to, faults}
use Rattle.pd_kinds.specs.InOrder.{graph_of_kind, LooksAtOrder, AreInOrder}
use Rattle.pd_kinds.proofs.CleanLemmas.{in_order_where_none, clean_super_where_none}
use Rattle.pd_kinds.proofs.laws.trees_are_in_order.Goals as goal

-- what is checked of a kind is its own format
same_graph : (kind : Kind) (image : List (List ℕ)) → (checked_of kind image).graph ≡ graph_of_kind kind image
unfolding thin_checked cache_checked era_checked
same_graph Thin image = refl
same_graph Cache image = refl
same_graph Era image = refl

in_order : (checked : Checked) (image : List (List ℕ)) (until : Stage) → LooksAtOrder until → first_failing checked image (stages_to until) ≡ [] → AreInOrder checked.graph image
in_order checked image stages.Super looks none = absurd looks
in_order checked image stages.Walk looks none = absurd looks
in_order checked image stages.Order looks none = in_order_where_none checked image [] none
in_order checked image stages.Whole looks none = in_order_where_none checked image (stages.Whole ∷ []) none
in_order checked image stages.Counts looks none = in_order_where_none checked image (stages.Whole ∷ stages.Counts ∷ []) none

clean_super : (checked : Checked) (image : List (List ℕ)) (until : Stage) → first_failing checked image (stages_to until) ≡ [] → HasCleanSuper checked image
clean_super checked image stages.Super none = clean_super_where_none checked image [] none
clean_super checked image stages.Walk none = clean_super_where_none checked image (stages.Walk ∷ []) none
clean_super checked image stages.Order none = clean_super_where_none checked image (stages.Walk ∷ stages.Order ∷ []) none
clean_super checked image stages.Whole none = clean_super_where_none checked image (stages.Walk ∷ stages.Order ∷ stages.Whole ∷ []) none
clean_super checked image stages.Counts none = clean_super_where_none checked image (stages.Walk ∷ stages.Order ∷ stages.Whole ∷ stages.Counts ∷ []) none

-- a superblock that breaks no rule gives a lawful format
lawful_thin : (image : List (List ℕ)) → ((blocks : ℕ) (block : List ℕ) → ((rule : Rule) → thin_super_bad blocks block rule ≡ false) → IsLawful (thin_graph block))
    → HasCleanSuper (thin_checked image) image → IsLawful (thin_graph (block_at image 0))
unfolding thin_checked
lawful_thin [] law clean = absurd clean
lawful_thin (block ∷ blocks) law clean = law (length (block ∷ blocks)) block clean

lawful_cache : (image : List (List ℕ)) → ((blocks : ℕ) (block : List ℕ) → ((rule : Rule) → cache_super_bad blocks block rule ≡ false) → IsLawful (cache_graph block))
    → HasCleanSuper (cache_checked image) image → IsLawful (cache_graph (block_at image 0))
unfolding cache_checked
lawful_cache [] law clean = absurd clean
lawful_cache (block ∷ blocks) law clean = law (length (block ∷ blocks)) block clean

lawful_era : (image : List (List ℕ)) → ((blocks : ℕ) (block : List ℕ) → ((rule : Rule) → era_super_bad blocks block rule ≡ false) → IsLawful (era_graph block))
    → HasCleanSuper (era_checked image) image → IsLawful (era_graph (block_at image 0))
unfolding era_checked
lawful_era [] law clean = absurd clean
lawful_era (block ∷ blocks) law clean = law (length (block ∷ blocks)) block clean

pub returns-clause-in_order : goal.returns-clause-in_order
unfolding faults
returns-clause-in_order c = λ kind until image looks none. rw (same_graph kind image) at (in_order (checked_of kind image) image until looks none)

pub returns-clause-lawful : goal.returns-clause-lawful
unfolding faults
returns-clause-lawful c = λ kind until image none. elim kind as (λ kind. HasCleanSuper (checked_of kind image) image → IsLawful (graph_of_kind kind image)) [
  | Thin ↦ lawful_thin image c.thin_format_is_lawful.ensures.super_block
  | Cache ↦ lawful_cache image c.cache_format_is_lawful.ensures
  | Era ↦ lawful_era image c.era_format_is_lawful.ensures
] (clean_super (checked_of kind image) image until none)
