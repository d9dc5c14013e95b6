-- What a plan is made of, and what becomes of it.
use Rattle.std.proofs.Common.{◌≡◌, inl, inr, ℕ, ◌+◌, ◌-◌, ◌<◌, ◌≤◌, min, Bool, true, false, nat_lt, List, [], ◌∷◌, ◌++◌, length, take, replicate, Option, Some, None, IfSome, Result, Ok, Err, refl, sym, ap, ◌∙◌, subst, arith, append-nil}
use Rattle.std.proofs.lemmas.Bool.{cases_Bool, ltb-false, ltb-true}
use Rattle.std.proofs.lemmas.List.{length-append, length-replicate, take_all, take-append-le}
use Rattle.pd_kinds.specs.declared.kind.Kind.TheVariants.{Thin}
use Rattle.pd_kinds.specs.declared.kind.Stage.{Stage}
use Rattle.pd_kinds.specs.declared.kind.Stage.TheVariants.{Super, Walk, Order, Whole, Counts}
use Rattle.pd_kinds.specs.declared.superblocks.SmRoot.{SmRoot}
use Rattle.pd_kinds.specs.declared.rule.Rule.{Rule}
use Rattle.pd_kinds.specs.Graph.{block_at}
use Rattle.pd_kinds.specs.Image.{HasBytes, room_of}
use Rattle.pd_kinds.specs.Meaning.{ThinPool, thin_meaning}
use Rattle.pd_kinds.specs.Stages.{Checked, checked_of, faults, first_failing, stage_faults}
use Rattle.pd_kinds.specs.ThinFormat.{ThinFields, thin_fields, thin_super_bad}
use Rattle.pd_kinds.proofs.CrashLemmas.{Image}
use Rattle.pd_laid.specs.Shape.{pool_of}
use Rattle.pd_answers.specs.Writebacks.{blocks_each, is_block_size_bad}
use Rattle.pd_answers.specs.Outputs.{Making}
use Rattle.pd_answers.specs.Shrinks.{Move, data_need, end_of_pool, free_blocks, moved_pool, moves_to, sources, moved_saved, moved_shape, saved_pool, saved_whole, IsGroundOf, ShrinkGround, bad_block_size, no_room}
use Rattle.pd_answers.specs.Repairs.{Saved, saved_making}
use Rattle.pd_smap.specs.Overflow.{IsIndex, IsOverflow}
use Rattle.pd_laws_changed.specs.KnownPool.{AreBelow, Ascend}
use Rattle.pd_shrink.specs.declared.making.ShrinkFault.{ShrinkFault}
use Rattle.pd_shrink.specs.declared.kept.Kept.{Kept}
use Rattle.pd_shrink.specs.declared.moves.MovedBlock.{MovedBlock}
use Rattle.pd_shrink.specs.declared.plan.Shrink.{Shrink}
use Rattle.pd_shrink.specs.Failing.{CountsPlanning}
use Rattle.pd_shrink.specs.Kept.{IsKept, kept_making, kept_pool, moved_in, saved_in, shared_of}
use Rattle.pd_shrink.specs.Making.{Finishes, HasMoves, IsSoundPool, IsSoundWith, LooksAtRoom, MissesMoves, lack_of_moves}
use Rattle.pd_shrink.specs.Moves.{moves_in}
use Rattle.pd_shrink.specs.Planned.{HasLack, Plans}
use Rattle.pd_shrink.specs.Gathered.{unused_below}
use Rattle.pd_shrink.proofs.RoomLemmas.{by_kept, whole_number, whole_size, across_all, bad_size, data_enough, free_enough, moves_lacking, moves_take, nothing_lacking, once_all, output_lacking}
use Rattle.pd_shrink.proofs.MovesLemmas.{sources_from}
use Rattle.pd_shrink.proofs.SuperLemmas.{sound_where_none}
use Rattle.pd_shrink.specs.declared.making.ShrinkFault.TheVariants as f

-- no fault up to a stage, and none up to an earlier one
none_before : (checked : Checked) (image : Image) (stages later : List Stage) → first_failing checked image (stages ++ later) ≡ [] → first_failing checked image stages ≡ []
unfolding first_failing
none_before checked image [] later none = refl
none_before checked image (stage ∷ stages) later none = elim (cases_Bool (nat_lt 0 (length (stage_faults checked image stage)))) [
  | inl some ↦ rw some (rw some at none)
  | inr nothing ↦ rw nothing (none_before checked image stages later (rw nothing at none))
]

none_whole : (image : Image) → faults Thin Counts image ≡ [] → faults Thin Whole image ≡ []
unfolding faults
none_whole image none = none_before (checked_of Thin image) image (Super ∷ Walk ∷ Order ∷ Whole ∷ []) (Counts ∷ []) none

-- what is saved of a pool without faults is its own
pub saved_means : {M : Type 0} (from : ThinFields → Image → M) (whole : Image → M)
    → ((image : Image) → HasBytes image → faults Thin Whole image ≡ [] → from (thin_fields (block_at image 0)) image ≡ whole image) → (s : ThinFields) (saved : M) (held : Option Image)
    → IfSome held HasBytes → IfSome held (IsSoundWith s) → IfSome held (λ image. saved ≡ from s image) → IfSome held (λ image. saved ≡ whole image)
saved_means from whole law s saved None bytes sound is = tt
saved_means from whole law s saved (Some image) bytes sound is =
    is ∙ (ap (λ (fields : ThinFields). from fields image) sound.fields ∙ law image bytes (none_whole image sound.none))

blocks_are : (image : Image) → (thin_meaning image).data_blocks ≡ (thin_fields (block_at image 0)).data_map.blocks
unfolding thin_meaning
blocks_are image = refl

size_is : (image : Image) → (thin_meaning image).block_size ≡ (thin_fields (block_at image 0)).block_size
unfolding thin_meaning
size_is image = refl

-- all free blocks, of which the first ones were found
pub record HasFree (held : Option Image) (end wanted number : ℕ) (first : List ℕ) : Type 0 where
  pub all : List ℕ
  pub number_is : number ≡ length all
  pub first_are : first ≡ take wanted all
  pub told : IfSome held (λ image. all ≡ free_blocks image end)

module _ (map : SmRoot) (kept : Kept) (end wanted number : ℕ) (first : List ℕ) where
  -- where nothing is told, some numbers serve
  free_untold : length first ≡ min wanted number → HasFree None end wanted number first
  free_untold few =
      let rest : List ℕ = replicate (number - length first) 0 in
      let joined : length (first ++ rest) ≡ length first + length rest = length-append first rest in
      let many : length rest ≡ number - length first = length-replicate (number - length first) 0 in
      record {
        all = first ++ rest;
        number_is = omega arith;
        first_are = elim (cases_Bool (nat_lt number wanted)) [
          | inl less ↦
              let fewer = ltb-true number wanted less in
              let none : number - length first ≡ 0 = omega arith in
              sym (take_all wanted (first ++ rest) (omega arith) ∙ (ap (λ (n : ℕ). first ++ replicate n 0) none ∙ append-nil first))
          | inr more ↦
              let enough = ltb-false number wanted more in
              sym (take-append-le wanted first rest (omega arith) ∙ take_all wanted first (omega arith))
        ];
        told = tt;
      }

  pub free_in : ((image : Image) → faults Thin Counts image ≡ [] → IsIndex image (thin_fields (block_at image 0)).data_map.bitmap_root (thin_fields (block_at image 0)).data_map.blocks)
      → ((image : Image) → faults Thin Counts image ≡ [] → IsOverflow image (thin_fields (block_at image 0)).data_map.overflow_root)
      → ((image : Image) (end : ℕ) → faults Thin Counts image ≡ [] → end ≤ (thin_fields (block_at image 0)).data_map.blocks → unused_below image (thin_fields (block_at image 0)).data_map end ≡ free_blocks image end)
      → (held : Option Image) → IfSome held (IsSoundPool map kept) → end ≤ (kept_pool kept).data_blocks → length first ≡ min wanted number
      → IfSome held (λ image. (blocks : ℕ) → IsIndex image map.bitmap_root blocks → IsOverflow image map.overflow_root → end ≤ blocks → number ≡ length (unused_below image map end))
      → IfSome held (λ image. (blocks : ℕ) → IsIndex image map.bitmap_root blocks → IsOverflow image map.overflow_root → end ≤ blocks → first ≡ take wanted (unused_below image map end))
      → HasFree held end wanted number first
  free_in indexed overflowing free None sound within few numbers firsts = free_untold few
  free_in indexed overflowing free (Some image) sound within few numbers firsts =
      let blocks = (thin_fields (block_at image 0)).data_map.blocks in
      let index = subst (λ (root : SmRoot). IsIndex image root.bitmap_root blocks) (sym sound.data_map) (indexed image sound.none) in
      let overflow = subst (λ (root : SmRoot). IsOverflow image root.overflow_root) (sym sound.data_map) (overflowing image sound.none) in
      let number_of = whole_number (shared_of kept) (saved_in kept) image sound.means ∙ blocks_are image in
      let less : end ≤ blocks = omega arith in
      record {
        all = unused_below image map end;
        number_is = numbers blocks index overflow less;
        first_are = firsts blocks index overflow less;
        told = ap (λ (root : SmRoot). unused_below image root end) sound.data_map ∙ free image end sound.none less;
      }

-- moves to the first ones of the free blocks
module _ (held : Option Image) (m : ThinPool) (end k pool wanted number : ℕ) (ds first : List ℕ) (ds_are : ds ≡ sources m end) (free : HasFree held end wanted number first) where
  room_is : lack_of_moves k (sources m end) (length free.all) end pool ≡ lack_of_moves k ds number end pool
  room_is =
      ap (λ (xs : List ℕ). lack_of_moves k xs (length free.all) end pool) (sym ds_are) ∙ ap (λ (n : ℕ). lack_of_moves k ds n end pool) (sym free.number_is)

  pub misses_moves : (fault : ShrinkFault) → LooksAtRoom (lack_of_moves k ds number end pool) (Err fault) → MissesMoves held m end k pool fault
  misses_moves f.Memory is = tt
  misses_moves f.Meta is = tt
  misses_moves f.Output is = is
  misses_moves f.BlockSize is = is
  misses_moves (f.NoRoom need blocks) is = record { free = free.all; told = free.told; lacks = room_is ∙ is }

  module _ (none : lack_of_moves k ds number end pool ≡ None) (wanted_is : wanted ≡ length ds) (few : length first ≡ min wanted number) where
    pub pairs_enough : length ds ≤ length first
    pairs_enough = let enough = free_enough k ds number end pool none in omega arith

    first_moves : moves_to (sources m end) first ≡ moves_to (sources m end) free.all
    first_moves =
        ap (moves_to (sources m end)) (free.first_are ∙ ap (λ (n : ℕ). take n free.all) (wanted_is ∙ ap (λ (xs : List ℕ). length xs) ds_are)) ∙ moves_take (sources m end) free.all

    pub has_moves : (moves : List MovedBlock) → moves_in moves ≡ moves_to ds first → AreBelow end first → Ascend 0 first → end ≤ m.data_blocks → HasMoves held m end k pool free.all moves
    has_moves moves paired below ascend within =
        let are : moves_in moves ≡ moves_to (sources m end) first = paired ∙ ap (λ (xs : List ℕ). moves_to xs first) ds_are in
        record {
          told = free.told;
          room = room_is ∙ none;
          are = are ∙ first_moves;
          moving = record {
            free = first;
            moving = record { below = below; enough = subst (λ (xs : List ℕ). length xs ≤ length first) ds_are pairs_enough; end_within = within };
            are = are;
          };
          across =
              across_all k pool end end 0 moves (sources m end) first are (omega arith) (sources_from m end) below
              (subst (λ (xs : List ℕ). data_need k xs ≤ pool) ds_are (data_enough k ds number end pool none));
          once = once_all 0 moves (sources m end) first are ascend;
        }

-- the pool afterwards ends where it is to, and has room
end_of_saved : (is_shared : Bool) (saved : Saved is_shared) (end : ℕ) (moves : List Move) → (saved_pool is_shared (moved_saved is_shared saved end moves)).data_blocks ≡ end
unfolding moved_pool moved_shape pool_of
end_of_saved false saved end moves = refl
end_of_saved true saved end moves = refl

pub end_of_moved : (kept after : Kept) (end : ℕ) (moves : List Move) → IsKept (shared_of kept) (moved_in kept end moves) after → (kept_pool after).data_blocks ≡ end
end_of_moved kept after end moves is =
    same_end (shared_of kept) (moved_in kept end moves) after is ∙ end_of_saved (shared_of kept) (saved_in kept) end moves
  where
    same_end : (is_shared : Bool) (saved : Saved is_shared) (kept : Kept) → IsKept is_shared saved kept → (kept_pool kept).data_blocks ≡ (saved_pool is_shared saved).data_blocks
    same_end is_shared saved kept is =
        by_kept (λ is_shared saved. (kept_pool kept).data_blocks ≡ (saved_pool is_shared saved).data_blocks) is_shared saved kept is refl

pub need_of_moved : (kept after : Kept) (end : ℕ) (moves : List Move) (room : ℕ) → IsKept (shared_of kept) (moved_in kept end moves) after
    → (kept_making after).need room ≡ (saved_making (shared_of kept) (moved_in kept end moves)).need room
need_of_moved kept after end moves room is =
    by_kept (λ is_shared saved. (kept_making after).need room ≡ (saved_making is_shared saved).need room) (shared_of kept) (moved_in kept end moves) after is refl

pub need_finished : (kept after : Kept) (end : ℕ) (moves : List Move) (need room output : ℕ) → IsKept (shared_of kept) (moved_in kept end moves) after → room ≡ room_of output
    → need ≡ (kept_making after).need room → need ≡ (saved_making (shared_of kept) (moved_in kept end moves)).need (room_of output)
need_finished kept after end moves need room output of here is =
    is ∙ (ap (kept_making after).need here ∙ need_of_moved kept after end moves (room_of output) of)

pub room_enough : (making : Making) (need room output : ℕ) → room ≡ room_of output → need ≡ making.need room → need ≤ room → making.need (room_of output) ≤ room_of output
room_enough making need room output here is few = subst (λ (n : ℕ). making.need n ≤ n) here (subst (λ (n : ℕ). n ≤ room) is few)

-- nothing that fails here is a device
pub finished_counts : (is_shared : Bool) (after : Saved is_shared) (moves : List MovedBlock) (k output pool : ℕ) (result : Result Shrink ShrinkFault) {old new : ℕ} → Finishes is_shared after moves k output pool result → new ≡ old
    → CountsPlanning result old new
finished_counts is_shared after moves k output pool (Ok shrink) is same = same
finished_counts is_shared after moves k output pool (Err f.Memory) is same = same
finished_counts is_shared after moves k output pool (Err f.Meta) is same = absurd is
finished_counts is_shared after moves k output pool (Err f.Output) is same = absurd is
finished_counts is_shared after moves k output pool (Err f.BlockSize) is same = same
finished_counts is_shared after moves k output pool (Err (f.NoRoom need blocks)) is same = same

-- a pool without a block size
no_pool : (is_shared : Bool) → Saved is_shared
no_pool false = record { uuid = []; time = 0; transaction = 0; block_size = 0; data_blocks = 0; devices = [] }
no_pool true = record { uuid = []; time = 0; transaction = 0; block_size = 0; data_blocks = 0; leaves = []; devices = [] }

no_size : (is_shared : Bool) → (saved_pool is_shared (no_pool is_shared)).block_size ≡ 0
unfolding no_pool pool_of
no_size false = refl
no_size true = refl

-- the block size is none: where nothing is told, a pool without one serves
module _ (is_shared : Bool) (output pool blocks : ℕ) where
  pub lacks_size : (held : Option Image) → IfSome held (λ image. is_block_size_bad (thin_meaning image).block_size ≡ true) → HasLack is_shared held output pool blocks bad_block_size
  lacks_size None bad =
      let basis : ShrinkGround is_shared = record { saved = no_pool is_shared; end = 0; free = []; data_blocks = pool; room = room_of output } in
      record { basis = basis; goes_by = record { data_blocks = refl; room = refl; told = tt }; lacks = bad_size basis (ap is_block_size_bad (no_size is_shared)) }
  lacks_size (Some image) bad =
      let saved = saved_whole is_shared image in
      let end = end_of_pool (saved_pool is_shared saved) blocks in
      let basis : ShrinkGround is_shared = record { saved = saved; end = end; free = free_blocks image end; data_blocks = pool; room = room_of output } in
      record {
        basis = basis;
        goes_by = record { data_blocks = refl; room = refl; told = record { saved = refl; end = refl; free = refl } };
        lacks = bad_size basis (ap is_block_size_bad (whole_size is_shared saved image refl) ∙ bad);
      }

  pub lacks_super_size : (held : Option Image) (s : ThinFields) → IfSome held (IsSoundWith s) → is_block_size_bad s.block_size ≡ true → HasLack is_shared held output pool blocks bad_block_size
  lacks_super_size None s sound bad = lacks_size None tt
  lacks_super_size (Some image) s sound bad =
      lacks_size (Some image) (ap is_block_size_bad (size_is image ∙ ap (λ (fields : ThinFields). fields.block_size) (sym sound.fields)) ∙ bad)

  -- no pool without faults lacks a block, or has a superblock that breaks a rule
  pub lacks_block : (held : Option Image) (there : ℕ) → there ≡ 0 → IfSome held (λ image. length image ≡ there) → IfSome held (λ image. faults Thin Counts image ≡ [])
      → HasLack is_shared held output pool blocks bad_block_size
  lacks_block None there none number sound = lacks_size None tt
  lacks_block (Some image) there none number sound = let some = (sound_where_none image sound).0 in absurd (omega arith)

  pub lacks_super : (held : Option Image) (there : ℕ) (first : List ℕ) → IfSome held (λ image. length image ≡ there) → IfSome held (λ image. first ≡ block_at image 0)
      → IfSome held (λ image. faults Thin Counts image ≡ []) → (((rule : Rule) → thin_super_bad there first rule ≡ false) → ⊥) → HasLack is_shared held output pool blocks bad_block_size
  lacks_super None there first number same sound broken = lacks_size None tt
  lacks_super (Some image) there first number same sound broken =
      absurd (broken (λ rule. ap (λ (n : ℕ). thin_super_bad n first rule) (sym number) ∙ (ap (λ (block : List ℕ). thin_super_bad (length image) block rule) same ∙ (sound_where_none image sound).1 rule)))

pub sound_with : (held : Option Image) (first : List ℕ) (s : ThinFields) → IfSome held (λ image. first ≡ block_at image 0) → IfSome held (λ image. faults Thin Counts image ≡ []) → s ≡ thin_fields first
    → IfSome held (IsSoundWith s)
sound_with None first s same sound of = tt
sound_with (Some image) first s same sound of = record { none = sound; fields = of ∙ ap thin_fields same }

pub lacks_pool_size : (output pool blocks : ℕ) (held : Option Image) (map : SmRoot) (kept : Kept) → IfSome held (IsSoundPool map kept) → is_block_size_bad (kept_pool kept).block_size ≡ true
    → HasLack (shared_of kept) held output pool blocks bad_block_size
lacks_pool_size output pool blocks None map kept sound bad = lacks_size (shared_of kept) output pool blocks None tt
lacks_pool_size output pool blocks (Some image) map kept sound bad =
    lacks_size (shared_of kept) output pool blocks (Some image) (ap is_block_size_bad (sym (whole_size (shared_of kept) (saved_in kept) image sound.means)) ∙ bad)

pub sound_pool : (held : Option Image) (s : ThinFields) (kept : Kept) → IfSome held (IsSoundWith s) → IfSome held (λ image. saved_in kept ≡ saved_whole (shared_of kept) image) → IfSome held (IsSoundPool s.data_map kept)
sound_pool None s kept sound means = tt
sound_pool (Some image) s kept sound means = record { none = sound.none; data_map = ap (λ (fields : ThinFields). fields.data_map) sound.fields; means = means }

-- the plan of some moves
module _ (held : Option Image) (map : SmRoot) (kept : Kept) (end k output pool blocks : ℕ) (sound : IfSome held (IsSoundPool map kept)) (end_is : end ≡ min blocks (kept_pool kept).data_blocks)
    (whole : is_block_size_bad (kept_pool kept).block_size ≡ false) (k_is : k ≡ blocks_each (kept_pool kept).block_size) where
  abbrev m : ThinPool
  m = kept_pool kept

  abbrev ground_with : List ℕ → ShrinkGround (shared_of kept)
  ground_with free = record { saved = saved_in kept; end = end; free = free; data_blocks = pool; room = room_of output }

  ground_told : (free : List ℕ) → IfSome held (λ image. free ≡ free_blocks image end) → IfSome held (λ image. IsGroundOf image blocks (ground_with free))
  ground_told free told = both held sound told
    where
      both : (o : Option Image) → IfSome o (IsSoundPool map kept) → IfSome o (λ image. free ≡ free_blocks image end) → IfSome o (λ image. IsGroundOf image blocks (ground_with free))
      both None sound told = tt
      both (Some image) sound told = record { saved = sound.means; end = end_is; free = told }

  pub missed_plans : (fault : ShrinkFault) → MissesMoves held m end k pool fault → Plans (shared_of kept) held output pool blocks (Err fault)
  missed_plans f.Memory is = tt
  missed_plans f.Meta is = tt
  missed_plans f.Output is = is
  missed_plans f.BlockSize is = absurd is
  missed_plans (f.NoRoom need there) is = record {
    basis = ground_with is.free;
    goes_by = record { data_blocks = refl; room = refl; told = ground_told is.free is.told };
    lacks = moves_lacking (ground_with is.free) whole (no_room need there) (subst (λ (n : ℕ). lack_of_moves n (sources m end) (length is.free) end pool ≡ Some (no_room need there)) k_is is.lacks);
  }

  module _ (free : List ℕ) (moves : List MovedBlock) (has : HasMoves held m end k pool free moves) where
    abbrev basis : ShrinkGround (shared_of kept)
    basis = ground_with free

    room : lack_of_moves (blocks_each m.block_size) (sources m end) (length free) end pool ≡ None
    room = subst (λ (n : ℕ). lack_of_moves n (sources m end) (length free) end pool ≡ None) k_is has.room

    after_is : moved_in kept end (moves_in moves) ≡ moved_in kept end (moves_to (sources m end) free)
    after_is = ap (moved_in kept end) has.are

    abbrev making_of : Saved (shared_of kept) → Making
    making_of after = saved_making (shared_of kept) after

    need_is : (making_of (moved_in kept end (moves_in moves))).need (room_of output) ≡ (making_of (moved_in kept end (moves_to (sources m end) free))).need (room_of output)
    need_is = ap (λ (after : Saved (shared_of kept)). (making_of after).need (room_of output)) after_is

    pub finished_plans : (result : Result Shrink ShrinkFault) → Finishes (shared_of kept) (moved_in kept end (moves_in moves)) moves k output pool result → Plans (shared_of kept) held output pool blocks result
    finished_plans (Ok shrink) is = (
      basis,
      record {
        goes_by = record { data_blocks = refl; room = refl; told = ground_told free has.told };
        fits = nothing_lacking basis whole room (subst (λ (n : ℕ). n ≤ room_of output) need_is is.fits);
        plan = record {
          pool = subst (λ (after : Saved (shared_of kept)). IsKept (shared_of kept) after shrink.moved) after_is is.moved;
          moves = ap moves_in is.moves_are ∙ has.are;
          each = is.each ∙ k_is;
        };
        output_blocks = is.output_blocks;
        pool_blocks = is.pool_blocks;
      },
    )
    finished_plans (Err f.Memory) is = tt
    finished_plans (Err f.Meta) is = tt
    finished_plans (Err f.Output) is = is
    finished_plans (Err f.BlockSize) is = absurd is
    finished_plans (Err (f.NoRoom need there)) is = record {
      basis = basis;
      goes_by = record { data_blocks = refl; room = refl; told = ground_told free has.told };
      lacks =
          output_lacking basis whole room (subst (λ (n : ℕ). room_of output < n) (is.0 ∙ need_is) is.1.1)
          ∙ (ap (λ (n : ℕ). Some (no_room n (room_of output))) (sym (is.0 ∙ need_is)) ∙ ap (λ (n : ℕ). Some (no_room need n)) (sym is.1.0));
    }
