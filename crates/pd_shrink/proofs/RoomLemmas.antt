-- What a shrink lacks, and what it moves where nothing is lacking.
use Rattle.std.proofs.Common.{◌≡◌, inl, inr, ℕ, suc, ◌+◌, ◌-◌, ◌*◌, ◌<◌, ◌≤◌, max, Bool, true, false, nat_eq, nat_lt, List, [], ◌∷◌, length, map, take, Option, Some, None, refl, sym, ap, ◌∙◌, arith, le-ltb, lt-ltb, subst}
use Rattle.std.specs.List.{AllByRecursion, fold, list_any}
use Rattle.std.proofs.lemmas.Bool.{cases_Bool, ltb-false, ne_eqb}
use Rattle.pd_kinds.specs.Meaning.{thin_meaning}
use Rattle.pd_kinds.proofs.CrashLemmas.{Image}
use Rattle.pd_grammar.specs.Lawful.{IsLawfulPool}
use Rattle.pd_laid.specs.Shape.{pool_of as pool_of_shape, image_shape}
use Rattle.pd_answers.specs.Writebacks.{blocks_each, is_block_size_bad}
use Rattle.pd_answers.specs.Shrinks.{Move, data_need, moves_to, sources, ShrinkLack, ShrinkGround, bad_block_size, lack_of, making_after, moves_of, no_room, or_lack, pool_before, saved_pool, saved_whole}
use Rattle.pd_answers.specs.Repairs.{Saved}
use Rattle.pd_salvage.specs.declared.saved.SavedHead.{SavedHead}
use Rattle.pd_salvage.specs.Saved.{pool_of}
use Rattle.pd_salvage.specs.SavedShape.{held_shape}
use Rattle.pd_laws_changed.specs.KnownPool.{AreBelow, Ascend}
use Rattle.pd_writeback.proofs.PlanLemmas.{greatest_start}
use Rattle.pd_shrink.specs.Making.{lack_of_moves}
use Rattle.pd_shrink.specs.Moves.{AreOnce, IsAcross, move_in, moves_in}
use Rattle.pd_shrink.specs.declared.moves.MovedBlock.{MovedBlock}
use Rattle.pd_shrink.specs.declared.kept.Kept.{Kept}
use Rattle.pd_shrink.specs.declared.kept.Kept.TheVariants.{Pool, Shape}
use Rattle.pd_shrink.specs.Kept.{IsKept, IsSoundKept, head_in, kept_pool, saved_in, shared_of}

isnt_none : {X : Type 0} {x : X} → Some x ≡ None → ⊥
isnt_none e = cc

-- there is room, or there is none
enough : (need blocks : ℕ) (lack : Option ShrinkLack) → need ≤ blocks → or_lack need blocks lack ≡ lack
enough need blocks lack few = rw (le-ltb blocks need few) refl

too_few : (need blocks : ℕ) (lack : Option ShrinkLack) → blocks < need → or_lack need blocks lack ≡ Some (no_room need blocks)
too_few need blocks lack many = rw (lt-ltb blocks need many) refl

nothing_lacks : (need blocks : ℕ) (lack : Option ShrinkLack) → or_lack need blocks lack ≡ None → (need ≤ blocks) × (lack ≡ None)
nothing_lacks need blocks lack none = elim (cases_Bool (nat_lt blocks need)) [
  | inl many ↦ absurd (isnt_none (rw many at none))
  | inr few ↦ (ltb-false blocks need few, rw few at none)
]

-- a first lack stays, whatever is looked at later
still_lacks : (need blocks : ℕ) (lack other : Option ShrinkLack) (x : ShrinkLack) → (lack ≡ Some x → other ≡ Some x) → or_lack need blocks lack ≡ Some x → or_lack need blocks other ≡ Some x
still_lacks need blocks lack other x later is = elim (cases_Bool (nat_lt blocks need)) [
  | inl many ↦ rw many (rw many at is)
  | inr few ↦ rw few (later (rw few at is))
]

-- the moves have room
module _ (k : ℕ) (ds : List ℕ) (number end pool : ℕ) (none : lack_of_moves k ds number end pool ≡ None) where
  pub free_enough : length ds ≤ number
  free_enough =
      let room = (nothing_lacks ((end - number) + length ds) end (or_lack (data_need k ds) pool None) none).0 in
      omega arith

  pub data_enough : data_need k ds ≤ pool
  data_enough = (nothing_lacks (data_need k ds) pool None (nothing_lacks ((end - number) + length ds) end (or_lack (data_need k ds) pool None) none).1).0

-- what a shrink lacks
module _ {is_shared : Bool} (basis : ShrinkGround is_shared) where
  abbrev k : ℕ
  k = blocks_each (pool_before basis).block_size

  abbrev ds : List ℕ
  ds = sources (pool_before basis) basis.end

  abbrev need : ℕ
  need = (making_after basis).need basis.room

  abbrev moves_lack : Option ShrinkLack
  moves_lack = lack_of_moves k ds (length basis.free) basis.end basis.data_blocks

  pub bad_size : is_block_size_bad (pool_before basis).block_size ≡ true → lack_of basis ≡ Some bad_block_size
  unfolding lack_of
  bad_size bad = rw bad refl

  module _ (whole : is_block_size_bad (pool_before basis).block_size ≡ false) where
    lack_is : lack_of basis ≡ or_lack ((basis.end - length basis.free) + length ds) basis.end (or_lack (data_need k ds) basis.data_blocks (or_lack need basis.room None))
    unfolding lack_of
    lack_is = rw whole refl

    pub moves_lacking : (x : ShrinkLack) → moves_lack ≡ Some x → lack_of basis ≡ Some x
    moves_lacking x is =
        lack_is
        ∙ still_lacks ((basis.end - length basis.free) + length ds) basis.end (or_lack (data_need k ds) basis.data_blocks None) (or_lack (data_need k ds) basis.data_blocks (or_lack need basis.room None)) x
        (λ later. still_lacks (data_need k ds) basis.data_blocks None (or_lack need basis.room None) x (λ e. absurd (isnt_none (sym e))) later) is

    module _ (none : moves_lack ≡ None) where
      after_moves : lack_of basis ≡ or_lack need basis.room None
      after_moves =
          let first = nothing_lacks ((basis.end - length basis.free) + length ds) basis.end (or_lack (data_need k ds) basis.data_blocks None) none in
          let second = nothing_lacks (data_need k ds) basis.data_blocks None first.1 in
          lack_is
          ∙ (enough ((basis.end - length basis.free) + length ds) basis.end (or_lack (data_need k ds) basis.data_blocks (or_lack need basis.room None)) first.0
          ∙ enough (data_need k ds) basis.data_blocks (or_lack need basis.room None) second.0)

      pub nothing_lacking : need ≤ basis.room → lack_of basis ≡ None
      nothing_lacking few = after_moves ∙ enough need basis.room None few

      pub output_lacking : basis.room < need → lack_of basis ≡ Some (no_room need basis.room)
      output_lacking many = after_moves ∙ too_few need basis.room None many

  -- where nothing is lacking, each source is moved
  pub all_moved : lack_of basis ≡ None → length (moves_of basis) ≡ length ds
  all_moved none = elim (cases_Bool (is_block_size_bad (pool_before basis).block_size)) [
    | inl bad ↦ absurd (isnt_none (sym (bad_size bad) ∙ none))
    | inr whole ↦
        let room = (nothing_lacks ((basis.end - length basis.free) + length ds) basis.end (or_lack (data_need k ds) basis.data_blocks (or_lack need basis.room None)) (sym (lack_is whole) ∙ none)).0 in
        length-moves ds basis.free (omega arith)
  ]
    where
      length-moves : (ds free : List ℕ) → length ds ≤ length free → length (moves_to ds free) ≡ length ds
      length-moves [] free few = refl
      length-moves (d ∷ ds) [] few = absurd (omega arith)
      length-moves (d ∷ ds) (b ∷ free) few = ap suc (length-moves ds free (omega arith))

-- more free blocks than sources make no difference
pub moves_take : (ds free : List ℕ) → moves_to ds (take (length ds) free) ≡ moves_to ds free
moves_take [] free = refl
moves_take (d ∷ _) [] = refl
moves_take (d ∷ later) (b ∷ free) = ap (λ (moves : List Move). record { source = d; target = b } ∷ moves) (moves_take later free)

-- the data blocks of moves are on the data device, the sources past the end and the targets below it
pub across_all : (k blocks end least most : ℕ) (moves : List MovedBlock) (ds free : List ℕ) → moves_in moves ≡ moves_to ds free → end ≤ least → Ascend least ds → AreBelow end free
    → fold max most (map (λ d. (d + 1) * k) ds) ≤ blocks → AllByRecursion (IsAcross k blocks end) moves
across_all k blocks end least most [] ds free are from ascend below inside = tt
across_all k blocks end least most (x ∷ moves) [] free are from ascend below inside = absurd (cc)
across_all k blocks end least most (x ∷ moves) (d ∷ ds) [] are from ascend below inside = absurd (cc)
across_all k blocks end least most (x ∷ moves) (d ∷ ds) (b ∷ free) are from ascend below inside =
    let first : move_in x ≡ record { source = d; target = b } = cc in
    let source : x.source ≡ d = ap (λ (y : Move). y.source) first in
    let target : x.target ≡ b = ap (λ (y : Move). y.target) first in
    let later : moves_in moves ≡ moves_to ds free = cc in
    let next = ascend.0 in
    let under = below.0 in
    let greatest = greatest_start (max most ((d + 1) * k)) (map (λ d. (d + 1) * k) ds) in
    let own : (d + 1) * k ≤ blocks = omega arith in (
      record { from = omega arith; to = omega arith; inside = rw source own },
      across_all k blocks end (d + 1) (max most ((d + 1) * k)) moves ds free later (omega arith) ascend.1 below.1 inside,
    )

-- ascending targets come once
past_all : (least t : ℕ) (moves : List MovedBlock) (ds free : List ℕ) → moves_in moves ≡ moves_to ds free → t < least → Ascend least free
    → list_any (λ (y : MovedBlock). nat_eq y.target t) moves ≡ false
past_all least t [] ds free are before ascend = refl
past_all least t (x ∷ moves) [] free are before ascend = absurd (cc)
past_all least t (x ∷ moves) (d ∷ ds) [] are before ascend = absurd (cc)
past_all least t (x ∷ moves) (d ∷ ds) (b ∷ free) are before ascend =
    let first : move_in x ≡ record { source = d; target = b } = cc in
    let target : x.target ≡ b = ap (λ (y : Move). y.target) first in
    let later : moves_in moves ≡ moves_to ds free = cc in
    let next = ascend.0 in
    rw (ne_eqb x.target t (λ same. omega arith)) (past_all (b + 1) t moves ds free later (omega arith) ascend.1)

pub once_all : (least : ℕ) (moves : List MovedBlock) (ds free : List ℕ) → moves_in moves ≡ moves_to ds free → Ascend least free → AreOnce moves
once_all least [] ds free are ascend = tt
once_all least (x ∷ moves) [] free are ascend = absurd (cc)
once_all least (x ∷ moves) (d ∷ ds) [] are ascend = absurd (cc)
once_all least (x ∷ moves) (d ∷ ds) (b ∷ free) are ascend =
    let first : move_in x ≡ record { source = d; target = b } = cc in
    let target : x.target ≡ b = ap (λ (y : Move). y.target) first in
    let later : moves_in moves ≡ moves_to ds free = cc in
    (past_all (b + 1) x.target moves ds free later (omega arith) ascend.1, once_all (b + 1) moves ds free later ascend.1)

-- A pool as it is held, without the leaves that its devices share or with them.

-- what holds of what is held holds of the pool that it is
pub by_kept : (P : (is_shared : Bool) → Saved is_shared → Type 0) (is_shared : Bool) (saved : Saved is_shared) (kept : Kept) → IsKept is_shared saved kept
    → P (shared_of kept) (saved_in kept) → P is_shared saved
by_kept P false pool (Pool saved) is holds = subst (P false) is holds
by_kept P false pool (Shape saved) is holds = absurd is
by_kept P true shape (Pool saved) is holds = absurd is
by_kept P true shape (Shape saved) is holds = subst (P true) is holds

-- the head of a pool that is held
pub pool_size : (kept : Kept) (head : SavedHead) → head ≡ head_in kept → (kept_pool kept).block_size ≡ head.block_size
unfolding pool_of pool_of_shape held_shape
pool_size (Pool saved) head is = ap (λ (h : SavedHead). h.block_size) (sym is)
pool_size (Shape saved) head is = ap (λ (h : SavedHead). h.block_size) (sym is)

pub pool_number : (kept : Kept) (head : SavedHead) → head ≡ head_in kept → (kept_pool kept).data_blocks ≡ head.blocks
unfolding pool_of pool_of_shape held_shape
pool_number (Pool saved) head is = ap (λ (h : SavedHead). h.blocks) (sym is)
pool_number (Shape saved) head is = ap (λ (h : SavedHead). h.blocks) (sym is)

-- it is lawful
pub lawful_kept : (kept : Kept) → IsSoundKept kept → IsLawfulPool (kept_pool kept)
lawful_kept (Pool saved) sound = sound.lawful
lawful_kept (Shape saved) sound = sound.lawful

-- a sound pool has the block size and the data blocks of its image
size_whole : (is_shared : Bool) (image : Image) → (saved_pool is_shared (saved_whole is_shared image)).block_size ≡ (thin_meaning image).block_size
unfolding pool_of_shape image_shape
size_whole false image = refl
size_whole true image = refl

number_whole : (is_shared : Bool) (image : Image) → (saved_pool is_shared (saved_whole is_shared image)).data_blocks ≡ (thin_meaning image).data_blocks
unfolding pool_of_shape image_shape
number_whole false image = refl
number_whole true image = refl

pub whole_size : (is_shared : Bool) (saved : Saved is_shared) (image : Image) → saved ≡ saved_whole is_shared image → (saved_pool is_shared saved).block_size ≡ (thin_meaning image).block_size
whole_size is_shared saved image means = ap (λ (s : Saved is_shared). (saved_pool is_shared s).block_size) means ∙ size_whole is_shared image

pub whole_number : (is_shared : Bool) (saved : Saved is_shared) (image : Image) → saved ≡ saved_whole is_shared image → (saved_pool is_shared saved).data_blocks ≡ (thin_meaning image).data_blocks
whole_number is_shared saved image means = ap (λ (s : Saved is_shared). (saved_pool is_shared s).data_blocks) means ∙ number_whole is_shared image
