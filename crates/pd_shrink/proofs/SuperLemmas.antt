-- The superblock of a pool without faults, and of one that breaks no rule.
use Rattle.std.proofs.Common.{◌≡◌, ℕ, ◌≤◌, List, [], ◌∷◌, length, subst, sym, arith}
use Rattle.pd_kinds.specs.declared.kind.Kind.TheVariants.{Thin}
use Rattle.pd_kinds.specs.declared.kind.Stage.TheVariants.{Walk, Order, Whole, Counts}
use Rattle.pd_kinds.specs.Graph.{Edge, optional_edge, block_at}
use Rattle.pd_kinds.specs.Stages.{HasCleanSuper, faults, thin_checked}
use Rattle.pd_kinds.specs.ThinFormat.{ThinFields, thin_fields, thin_super_bad}
use Rattle.pd_kinds.proofs.CrashLemmas.{Image}
use Rattle.pd_kinds.proofs.KindsListLemmas.{all_last}
use Rattle.pd_kinds.proofs.CleanLemmas.{clean_super_where_none}
use Rattle.pd_kinds.proofs.SoundLemmas.{IsInside, IsSound}
use Rattle.pd_kinds.proofs.ThinTable.{few_data_blocks, super_sound}
use Rattle.pd_shrink.specs.Making.{FitsDevice}

fits_block : (blocks : ℕ) (block : List ℕ) → IsSound (thin_super_bad blocks block) → FitsDevice blocks (thin_fields block)
fits_block blocks block sound =
    let super = super_sound blocks block sound in
    let fields = thin_fields block in
    let edges = all_last (λ (edge : Edge). IsInside blocks edge.block) (optional_edge 1 fields.held_root) _ super.inside in
    record {
      some = super.some_block;
      within = super.within;
      few = super.few_blocks;
      few_data = few_data_blocks blocks block sound;
      index = edges.1.1.0.1;
      overflow = edges.1.1.1.0.1;
    }

pub fits_device : (blocks : ℕ) (block : List ℕ) (s : ThinFields) → s ≡ thin_fields block → IsSound (thin_super_bad blocks block) → FitsDevice blocks s
fits_device blocks block s are sound = subst (FitsDevice blocks) (sym are) (fits_block blocks block sound)

-- a pool without faults has a superblock that breaks no rule
if_clean : (image : Image) → HasCleanSuper (thin_checked image) image → (1 ≤ length image) × IsSound (thin_super_bad (length image) (block_at image 0))
unfolding thin_checked
if_clean [] clean = absurd clean
if_clean (block ∷ blocks) clean = (omega arith, clean)

pub sound_where_none : (image : Image) → faults Thin Counts image ≡ [] → (1 ≤ length image) × IsSound (thin_super_bad (length image) (block_at image 0))
unfolding faults
sound_where_none image none = if_clean image (clean_super_where_none (thin_checked image) image (Walk ∷ Order ∷ Whole ∷ Counts ∷ []) none)
