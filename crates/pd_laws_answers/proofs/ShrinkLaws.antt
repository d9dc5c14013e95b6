-- What a shrink goes by with shared leaves or without, and what is known of it in either case.
use Rattle.std.proofs.Common.{◌≡◌, ℕ, ◌≤◌, Bool, true, false, List, [], ◌∷◌, ◌++◌, length, map, refl, sym, ap, ap₂, subst, inl, inr, ⊎_elim, nat_eq, nat_lt, Some, IfSome, ◌∙◌, arith}
use Rattle.std.specs.List.{flat_map}
use Rattle.std.proofs.lemmas.List.{length-map}
use Rattle.std.proofs.lemmas.Bool.{cases_Bool, eqb-true, ltb-false}
use Rattle.std.proofs.lemmas.Option.{IfSome_then}
use Rattle.pd_kinds.specs.declared.kind.Kind.TheVariants.{Thin}
use Rattle.pd_kinds.specs.declared.kind.Stage.TheVariants.{Counts, Whole}
use Rattle.pd_kinds.specs.Image.{IsImage, room_of}
use Rattle.pd_kinds.specs.Meaning.{ThinPool, thin_meaning}
use Rattle.pd_kinds.specs.Stages.{faults}
use Rattle.pd_kinds.specs.Crash.{HoldsSynced, IsOldNoneOrMade, LeavesOnly}
use Rattle.pd_kinds.specs.Rule.{Reported, report_of}
use Rattle.pd_kinds.proofs.CrashLemmas.{weaken}
use Rattle.pd_grammar.specs.Lawful.{IsLawfulPool}
use Rattle.pd_grammar.specs.Need.{thin_need}
use Rattle.pd_laid.specs.Laid.{IsLaid}
use Rattle.pd_laid.specs.LaidThin.{laid_pool}
use Rattle.pd_laid.specs.Shape.{IsShape, Piece, own, shared, ShapeDevice, ThinShape, pool_of, uses_of, uses_of_piece, image_shape}
use Rattle.pd_laid.specs.PoolText.{IsLawfulShape}
use Rattle.pd_answers.specs.Shrinks.{Move, moved_mapping, moved_pool, moves_to, sources, moved_piece, moved_saved, moved_shape, moved_shape_device, saved_pool, saved_whole, data_need, end_of_pool, free_blocks, moved_need, IsGroundOf, LaysShrunk, ShrinkFound, ShrinkGround, lack_of, making_after, moves_of, pool_before, shrink_answer}
use Rattle.pd_answers.specs.Repairs.{Saved, saved_making}
use Rattle.pd_answers.specs.Terms.{Objects}
use Rattle.pd_answers.specs.Writebacks.{blocks_each, is_block_size_bad}
use Rattle.pd_answers.specs.Outputs.{IsWorkDone}
use Rattle.pd_laws_laid.specs.Clean.{IsCleanPool}
use Rattle.pd_laws_shapes.specs.Counts.{IsSharedTwice}
use Rattle.pd_laws_changed.specs.KnownPool.{IsMoving, AreFree}
use Rattle.pd_laws_answers.specs.Saved.{KeepsShape}
use Rattle.pd_laws_answers.proofs.Restored.{Image, none_up_to_whole, at_told, both_told, four_zero, none_counted, one_zero}
use Rattle.pd_laws_answers.proofs.Repaired.{AreLaidClean}
use Rattle.pd_laws_answers.specs.Shrink.{IsShrinkAnswered}

-- what is to be laid is lawful; and of a shape each shared leaf is used twice or more
abbrev pub IsFit : (is_shared : Bool) → Saved is_shared → Type 0
IsFit false pool = IsLawfulPool pool
IsFit true shape = IsLawfulShape shape × IsSharedTwice shape

-- an image is a clean one of it, and keeps the shared leaves
abbrev pub IsMadeOf : (is_shared : Bool) → Saved is_shared → Image → Type 0
IsMadeOf false pool made = IsCleanPool made pool
IsMadeOf true shape made = KeepsShape made (pool_of shape) shape

pub fit_lawful : (is_shared : Bool) (saved : Saved is_shared) → IsFit is_shared saved → IsLawfulPool (saved_pool is_shared saved)
fit_lawful false pool fit = fit
fit_lawful true shape fit = fit.0.pool

pub made_clean : (is_shared : Bool) (saved : Saved is_shared) (made : Image) → IsMadeOf is_shared saved made → IsCleanPool made (saved_pool is_shared saved)
made_clean false pool made is = is
made_clean true shape made is = is.pool

-- what is known of an image's pool, of the smaller one, and of what is laid of that
pub record AreMakingLaws (is_shared : Bool) : Type 0 where
  pub means : (image : Image) → saved_pool is_shared (saved_whole is_shared image) ≡ thin_meaning image
  pub moved_means : (saved : Saved is_shared) (end : ℕ) (moves : List Move)
      → saved_pool is_shared (moved_saved is_shared saved end moves) ≡ moved_pool (saved_pool is_shared saved) end moves
  pub fits : (image : Image) → IsImage image → faults Thin Counts image ≡ [] → IsFit is_shared (saved_whole is_shared image)
  pub moved_fits : (saved : Saved is_shared) (end : ℕ) (free : List ℕ) → IsFit is_shared saved → IsMoving (saved_pool is_shared saved) end free
      → IsFit is_shared (moved_saved is_shared saved end (moves_to (sources (saved_pool is_shared saved) end) free))
  pub laid : (saved : Saved is_shared) (base made : Image) → IsFit is_shared saved
      → (saved_making is_shared saved).need (room_of (length base)) ≤ room_of (length base)
      → IsLaid ((saved_making is_shared saved).laid (room_of (length base))) base made → IsMadeOf is_shared saved made

abbrev pub AreLawful : Type 0
AreLawful = (image : Image) → IsImage image → faults Thin Whole image ≡ [] → IsLawfulPool (thin_meaning image)

-- without shared leaves
pub pool_laws : AreLawful
    → ((pool : ThinPool) (end : ℕ) (free : List ℕ) → IsLawfulPool pool → IsMoving pool end free → IsLawfulPool (moved_pool pool end (moves_to (sources pool end) free)))
    → ((pool : ThinPool) (base image : Image) → IsLawfulPool pool → thin_need pool (room_of (length base)) ≤ room_of (length base)
    → IsLaid (laid_pool pool (room_of (length base))) base image → IsCleanPool image pool)
    → AreMakingLaws false
pool_laws lawful moved clean = record {
  means = λ image. refl;
  moved_means = λ pool end moves. refl;
  fits = λ image is none. lawful image is (none_up_to_whole image none);
  moved_fits = moved;
  laid = clean;
}

-- the moved shape uses each leaf as often
pieces_use : (moves : List Move) (pieces : List Piece) → flat_map uses_of_piece (map (moved_piece moves) pieces) ≡ flat_map uses_of_piece pieces
pieces_use moves [] = refl
pieces_use moves (own mappings ∷ pieces) = pieces_use moves pieces
pieces_use moves (shared number ∷ pieces) = ap (λ (uses : List ℕ). number ∷ uses) (pieces_use moves pieces)

devices_use : (moves : List Move) (ds : List ShapeDevice) → flat_map uses_of (map (moved_shape_device moves) ds) ≡ flat_map uses_of ds
devices_use moves [] = refl
devices_use moves (d ∷ ds) = ap₂ (λ (xs ys : List ℕ). xs ++ ys) (pieces_use moves d.pieces) (devices_use moves ds)

moved_twice : (shape : ThinShape) (end : ℕ) (moves : List Move) → IsSharedTwice shape → IsSharedTwice (moved_shape shape end moves)
unfolding moved_shape
moved_twice shape end moves twice number within =
    rw (devices_use moves shape.devices) (twice number (rw (length-map shape.leaves (map (moved_mapping moves))) at within))

-- with them
module _ (is : (image : Image) → IsImage image → faults Thin Whole image ≡ [] → IsShape (image_shape image)) (means : (image : Image) → pool_of (image_shape image) ≡ thin_meaning image)
    (twice : (image : Image) → IsSharedTwice (image_shape image)) where
  fits_whole : AreLawful → (image : Image) → IsImage image → faults Thin Counts image ≡ [] → IsFit true (image_shape image)
  fits_whole lawful image image_is none =
      let whole = none_up_to_whole image none in
      (record { shape = is image image_is whole; pool = subst IsLawfulPool (sym (means image)) (lawful image image_is whole) }, twice image)

  pub shape_laws : AreLawful
      → ((shape : ThinShape) (end : ℕ) (moves : List Move) → pool_of (moved_shape shape end moves) ≡ moved_pool (pool_of shape) end moves)
      → ((shape : ThinShape) (end : ℕ) (free : List ℕ) → IsLawfulShape shape → IsMoving (pool_of shape) end free
      → IsLawfulShape (moved_shape shape end (moves_to (sources (pool_of shape) end) free)))
      → AreLaidClean → AreMakingLaws true
  shape_laws lawful moved_means moved clean = record {
    means = means;
    moved_means = moved_means;
    fits = fits_whole lawful;
    moved_fits = λ shape end free fit moving. (moved shape end free fit.0 moving, moved_twice shape end (moves_to (sources (pool_of shape) end) free) fit.1);
    laid = λ shape base made fit enough laid.
        let is_clean = clean shape base made fit.0 enough laid in
        record { pool = is_clean.pool; shape = is_clean.shared fit.1; counts = is_clean.counts };
  }

pub by_sharing : AreMakingLaws false → AreMakingLaws true → (is_shared : Bool) → AreMakingLaws is_shared
by_sharing pools shapes false = pools
by_sharing pools shapes true = shapes

-- What is made where a shrink is answered, by what is known of free blocks and of what is laid.

-- at the answer's status 0 nothing was refused: the report is empty, and there is room for the moved blocks, on the data device for
-- those that are read, and for the metadata
pub record IsNotRefused {is_shared : Bool} (found : ShrinkFound is_shared) : Type 0 where
  pub none : found.report.total ≡ 0
  pub places : moved_need (pool_before found.ground) found.ground.end found.ground.free ≤ found.ground.end
  pub on_device : data_need (blocks_each (pool_before found.ground).block_size) (sources (pool_before found.ground) found.ground.end) ≤ found.ground.data_blocks
  pub room : (making_after found.ground).need found.ground.room ≤ found.ground.room

pub not_refused : {is_shared : Bool} (found : ShrinkFound is_shared) → (shrink_answer found).status ≡ 0 → IsNotRefused found
unfolding lack_of
not_refused found given =
    let ground = found.ground in
    let pool = pool_before ground in
    elim (cases_Bool (nat_eq found.report.total 0)) [
      | inr some ↦ absurd (one_zero (rw some at given))
      | inl none ↦ elim (cases_Bool (is_block_size_bad pool.block_size)) [
        | inl bad ↦ absurd (one_zero (rw (none, bad) at given))
        | inr good ↦ elim (cases_Bool (nat_lt ground.end (moved_need pool ground.end ground.free))) [
          | inl few ↦ absurd (four_zero (rw (none, good, few) at given))
          | inr places ↦ elim (cases_Bool (nat_lt ground.data_blocks (data_need (blocks_each pool.block_size) (sources pool ground.end)))) [
            | inl short ↦ absurd (four_zero (rw (none, good, places, short) at given))
            | inr whole ↦ elim (cases_Bool (nat_lt ground.room ((making_after ground).need ground.room))) [
              | inl small ↦ absurd (four_zero (rw (none, good, places, whole, small) at given))
              | inr enough ↦ record {
                none = eqb-true found.report.total 0 none;
                places = ltb-false ground.end (moved_need pool ground.end ground.free) places;
                on_device = ltb-false ground.data_blocks (data_need (blocks_each pool.block_size) (sources pool ground.end)) whole;
                room = ltb-false ground.room ((making_after ground).need ground.room) enough;
              }
            ]
          ]
        ]
      ]
    ]

-- the smaller pool, as it is laid and as it is read
abbrev pub saved_after : {is_shared : Bool} → ShrinkGround is_shared → Saved is_shared
saved_after {is_shared} ground = moved_saved is_shared ground.saved ground.end (moves_of ground)

abbrev pub pool_after : {is_shared : Bool} → ShrinkGround is_shared → ThinPool
pool_after ground = moved_pool (pool_before ground) ground.end (moves_of ground)

-- free blocks are so
abbrev pub AreFreeOf : Type 0
AreFreeOf = (image : Image) (end : ℕ) → faults Thin Counts image ≡ [] → AreFree (thin_meaning image) end (free_blocks image end)

-- what is known of an image is known of what a shrink goes by
module _ {is_shared : Bool} (image : Image) (blocks : ℕ) (ground : ShrinkGround is_shared) (is : IsGroundOf image blocks ground) where
  free_by : pool_before ground ≡ thin_meaning image → AreFree (thin_meaning image) ground.end (free_blocks image ground.end) → AreFree (pool_before ground) ground.end ground.free
  free_by before_is free = rw (before_is, is.free) free

  fits_by : IsFit is_shared (saved_whole is_shared image) → IsFit is_shared ground.saved
  fits_by fits = rw is.saved fits

module _ {is_shared : Bool} (laws : AreMakingLaws is_shared) (free : AreFreeOf) (metadata output_path data_path : List ℕ) (blocks : ℕ) (before after : Objects) (status : ℕ)
    (answered : IsShrinkAnswered is_shared metadata output_path data_path blocks before after status) (image : Image) (told : before.input.held ≡ Some image) where
  abbrev found : ShrinkFound is_shared
  found = answered.finding

  abbrev ground : ShrinkGround is_shared
  ground = found.ground

  -- what was found is right
  right : (found.report ≡ report_of (faults Thin Counts image)) × IsGroundOf image blocks ground
  right = at_told before.input.held image (λ (i : Image). (found.report ≡ report_of (faults Thin Counts i)) × IsGroundOf i blocks ground) told answered.found.told

  pub ground_is : IsGroundOf image blocks ground
  ground_is = right.1

  pub before_is : pool_before ground ≡ thin_meaning image
  before_is = ap (saved_pool is_shared) ground_is.saved ∙ laws.means image

  -- a call that goes on
  module _ (given : (shrink_answer found).status ≡ 0) where
    sound : faults Thin Counts image ≡ []
    sound = none_counted (faults Thin Counts image) (sym (ap (λ (r : Reported). r.total) right.0) ∙ (not_refused found given).none)

    pub are_free : AreFree (pool_before ground) ground.end ground.free
    are_free = free_by image blocks ground ground_is before_is (free image ground.end sound)

    moving : IsMoving (pool_before ground) ground.end ground.free
    moving =
        let places : moved_need (pool_before ground) ground.end ground.free ≤ ground.end = (not_refused found given).places in
        let end : ground.end ≡ end_of_pool (pool_before ground) blocks = ground_is.end in
        record { below = are_free.below; enough = omega (arith, places); end_within = omega (arith, end) }

    fits_after : IsImage image → IsFit is_shared (saved_after ground)
    fits_after is = laws.moved_fits ground.saved ground.end ground.free (fits_by image blocks ground ground_is (laws.fits image is sound)) moving

    pub lawful_after : IsImage image → IsLawfulPool (pool_after ground)
    lawful_after is = subst IsLawfulPool (laws.moved_means ground.saved ground.end (moves_of ground)) (fit_lawful is_shared (saved_after ground) (fits_after is))

  -- what is laid is such a pool
  pub made : IsImage image → (base smaller : Image) → ground.room ≡ room_of (length base) → LaysShrunk found base smaller → IsMadeOf is_shared (saved_after ground) smaller
  made is base smaller room lays =
      laws.laid (saved_after ground) base smaller (fits_after lays.0 is)
      (subst (λ n. (making_after ground).need n ≤ n) room (not_refused found lays.0).room)
      (subst (λ n. IsLaid ((making_after ground).laid n) base smaller) room lays.1)

  -- what holds of whatever is made holds of the output once the work is done, and a crash leaves nothing else
  module _ (Made : Image → Type 0) (so : (base smaller : Image) → ground.room ≡ room_of (length base) → LaysShrunk found base smaller → Made smaller) where
    pub output_holds : IsWorkDone before after status → IfSome before.output.held (λ base. IfSome after.output.held (λ smaller. Made smaller × HoldsSynced smaller after.output))
    output_holds done =
        IfSome_then before.output.held (both_told before.output.held (λ (base : Image). ground.room ≡ room_of (length base))
        (λ (base : Image). IfSome after.output.held (λ (smaller : Image). LaysShrunk found base smaller × HoldsSynced smaller after.output))
        answered.found.output.told (answered.leaves.made done)) (λ base here.
        IfSome_then after.output.held here.1 (λ smaller lays. (so base smaller here.0 lays.0, lays.1)))

    pub output_leaves : IfSome before.output.held (λ base. LeavesOnly (IsOldNoneOrMade base Made) before.output after.output)
    output_leaves =
        IfSome_then before.output.held (both_told before.output.held (λ (base : Image). ground.room ≡ room_of (length base))
        (λ (base : Image). LeavesOnly (IsOldNoneOrMade base (LaysShrunk found base)) before.output after.output)
        answered.found.output.told answered.leaves.output.output.crash) (λ base here.
        weaken here.1 (λ left firsts outcome chance.
        ⊎_elim (λ old. inl old) (λ other. inr (⊎_elim (λ none. inl none) (λ lays. inr (so base left here.0 lays)) other)) (outcome chance)))
