-- The smaller pool of a shrink that keeps shared leaves has the shape of the pool, with the moved blocks.
use Rattle.std.proofs.Common.{◌≡◌, ℕ, true, List, length, Some, subst}
use Rattle.pd_kinds.specs.Image.{IsImage, room_of}
use Rattle.pd_kinds.specs.Meaning.{ThinPool, thin_meaning}
use Rattle.pd_laid.specs.Shape.{ThinShape, image_shape}
use Rattle.pd_answers.specs.Terms.{Objects}
use Rattle.pd_answers.specs.Shrinks.{end_of_pool, free_blocks, moved_pool, moves_to, sources, moved_shape, LaysShrunk, ShrinkGround, moves_of, pool_before}
use Rattle.pd_answers.specs.Outputs.{IsWorkDone}
use Rattle.pd_laws_answers.specs.Saved.{KeepsShape}
use Rattle.pd_laws_answers.specs.Shrink.{HoldsSharing, IsShrinkAnswered, KeepsSharing, LeavesSharing}
use Rattle.pd_laws_answers.proofs.Restored.{Image, if_told}
use Rattle.pd_laws_answers.proofs.ShrinkLaws.{AreMakingLaws, AreFreeOf, before_is, ground_is, made, output_holds, output_leaves, saved_after}

-- told by what a shrink goes by, and by the image
sharing_by : (image smaller : Image) (blocks : ℕ) (shape : ThinShape) (pool : ThinPool) (end : ℕ) (free : List ℕ)
    → shape ≡ image_shape image → pool ≡ thin_meaning image → end ≡ end_of_pool pool blocks → free ≡ free_blocks image end
    → KeepsShape smaller (moved_pool pool end (moves_to (sources pool end) free)) (moved_shape shape end (moves_to (sources pool end) free)) → KeepsSharing blocks image smaller
sharing_by image smaller blocks shape pool end free shape_is pool_is end_is free_is keeps = rw (free_is, end_is, pool_is, shape_is) at keeps

module _ (laws : AreMakingLaws true) (free : AreFreeOf) (metadata output_path data_path : List ℕ) (blocks : ℕ) (before after : Objects) (status : ℕ)
    (answered : IsShrinkAnswered true metadata output_path data_path blocks before after status) where
  abbrev ground : ShrinkGround true
  ground = answered.finding.ground

  module _ (image : Image) (told : before.input.held ≡ Some image) (is : IsImage image) where
    -- what is laid keeps the sharing
    keeps_sharing : (base smaller : Image) → ground.room ≡ room_of (length base) → LaysShrunk answered.finding base smaller → KeepsSharing blocks image smaller
    keeps_sharing base smaller room lays =
        let right = ground_is laws free metadata output_path data_path blocks before after status answered image told in
        sharing_by image smaller blocks ground.saved (pool_before ground) ground.end ground.free right.saved
        (before_is laws free metadata output_path data_path blocks before after status answered image told) right.end right.free
        (subst (λ (m : ThinPool). KeepsShape smaller m (saved_after ground)) (laws.moved_means ground.saved ground.end (moves_of ground))
        (made laws free metadata output_path data_path blocks before after status answered image told is base smaller room lays))

  pub holds_sharing : IsWorkDone before after status → HoldsSharing blocks before after
  holds_sharing done =
      if_told before.input.held (λ image told is.
      output_holds laws free metadata output_path data_path blocks before after status answered image told (KeepsSharing blocks image) (keeps_sharing image told is) done)

  pub leaves_sharing : LeavesSharing blocks before after
  leaves_sharing =
      if_told before.input.held (λ image told is.
      output_leaves laws free metadata output_path data_path blocks before after status answered image told (KeepsSharing blocks image) (keeps_sharing image told is))
