-- What an answered shrink comes to for who reads: by what is known of free blocks, of moved ones, and of what is laid.
use Rattle.std.proofs.Common.{◌≡◌, inl, inr, ℕ, zero, suc, ◌+◌, ◌*◌, ◌<◌, ◌≤◌, nat_eq, List, [], ◌∷◌, map, take, Option, Some, None, IfSome, refl, sym, ap, ap₂, ◌∙◌, arith, ◌≢◌, ◌⊎◌, ⊎_elim, Bool, length, subst}
use Rattle.std.specs.List.{find, range_with_len}
use Rattle.std.specs.Option.{option_and_then, option_map}
use Rattle.std.proofs.Math.Nat.{mul-le-mul_right, suc-mul}
use Rattle.std.proofs.lemmas.Bool.{cases_Bool}
use Rattle.std.proofs.lemmas.List.{get_or-take}
use Rattle.std.proofs.lemmas.Option.{unwrap_or-slice_get, IfSome_then}
use Rattle.pd_kinds.specs.Graph.{block_at}
use Rattle.pd_kinds.specs.Meaning.{Mapping, ThinDevice, ThinPool, thin_meaning}
use Rattle.pd_kinds.specs.Crash.{HoldsSynced, IsOldNoneOrMade, IsSynced, IsUntouched, LeavesOnly, may_leave, moment}
use Rattle.pd_kinds.specs.Image.{IsImage, room_of}
use Rattle.pd_kinds.proofs.CrashLemmas.{stays, weaken}
use Rattle.pd_grammar.specs.Lawful.{AreDevices, AreMappings, IsLawfulPool}
use Rattle.pd_answers.specs.Writebacks.{blocks_each, KeepsOthers}
use Rattle.pd_answers.specs.Shrinks.{Move, blocks_of_data, data_block_of, mapping_at, moved_device, moved_mapping, moved_pool, read_at, ReadTheSame, copy_of_move, data_after, data_need, end_of_pool, moves_to, sources, IsGroundOf, LaysShrunk, ShrinkFound, ShrinkGround, moves_of, pool_before, shrink_answer}
use Rattle.pd_answers.specs.Terms.{Objects}
use Rattle.pd_answers.specs.Outputs.{IsWorkDone}
use Rattle.pd_laws_laid.specs.Clean.{IsCleanPool}
use Rattle.pd_laws_changed.specs.KnownPool.{AreFree, AreUnnamed}
use Rattle.pd_laws_answers.specs.Shrink.{front_of_data, without_place, without_places, without_places_of, AreMoved, HoldsShrunk, IsShrinkAnswered, IsShrunk, KeepsReads, LeavesReads}
use Rattle.pd_laws_answers.proofs.Restored.{Image, at_told, if_told, left_as_was, left_of_synced, left_untouched, two, zero_or_not}
use Rattle.pd_laws_answers.proofs.ShrinkLaws.{AreMakingLaws, made_clean, AreFreeOf, are_free, before_is, ground_is, lawful_after, made, not_refused, output_holds, output_leaves, pool_after, saved_after}

-- What the devices of a lawful pool read where the data device is cut to its data blocks, and what of a pool stays where its data blocks
-- are moved.

-- a data block that is named is in the pool
named_by : (blocks least virtual_block : ℕ) (xs : List Mapping) → AreMappings blocks least xs
    → IfSome (option_map (λ (x : Mapping). x.data_block) (find (λ (x : Mapping). nat_eq x.virtual_block virtual_block) xs)) (λ d. d < blocks)
named_by blocks least virtual_block [] are = tt
named_by blocks least virtual_block (x ∷ xs) are = elim (cases_Bool (nat_eq x.virtual_block virtual_block)) [
  | inl here ↦ rw here are.0.within
  | inr other ↦ rw other (named_by blocks (x.virtual_block + 1) virtual_block xs are.1)
]

named_of : (blocks least id virtual_block : ℕ) (ds : List ThinDevice) → AreDevices blocks least ds
    → IfSome (option_map (λ (x : Mapping). x.data_block) (option_and_then (λ (d : ThinDevice). mapping_at d virtual_block) (find (λ (d : ThinDevice). nat_eq d.id id) ds))) (λ d. d < blocks)
named_of blocks least id virtual_block [] are = tt
named_of blocks least id virtual_block (d ∷ ds) are = elim (cases_Bool (nat_eq d.id id)) [
  | inl here ↦ rw here (named_by blocks 0 virtual_block d.mappings are.0.mappings)
  | inr other ↦ rw other (named_of blocks (d.id + 1) id virtual_block ds are.1)
]

named_within : (m : ThinPool) (id virtual_block : ℕ) → IsLawfulPool m → IfSome (data_block_of m id virtual_block) (λ d. d < m.data_blocks)
unfolding data_block_of
named_within m id virtual_block lawful = named_of m.data_blocks 0 id virtual_block m.devices lawful.devices

-- blocks before the cut
same_before : (held : Image) (cut a n : ℕ) → a + n ≤ cut → map (block_at (take cut held)) (range_with_len a n) ≡ map (block_at held) (range_with_len a n)
same_before held cut a zero within = refl
same_before held cut a (suc n) within =
    ap₂ (λ y ys. y ∷ ys)
    (unwrap_or-slice_get (take cut held) a [] ∙ (get_or-take cut held a [] (omega arith) ∙ sym (unwrap_or-slice_get held a [])))
    (same_before held cut (a + 1) n (omega arith))

data_before : (held : Image) (k blocks d : ℕ) → d < blocks → blocks_of_data k (take (blocks * k) held) (Some d) ≡ blocks_of_data k held (Some d)
data_before held k blocks d under =
    let ends : suc d * k ≤ blocks * k = mul-le-mul_right k (let less : suc d ≤ blocks = omega arith in less) in
    let next : suc d * k ≡ d * k + k = suc-mul d k in
    same_before held (blocks * k) (d * k) k (omega arith)

-- what is read where the data device is cut
pub cut_reads : (m : ThinPool) (held : Image) (id virtual_block : ℕ) → IsLawfulPool m → read_at m (front_of_data m held) id virtual_block ≡ read_at m held id virtual_block
unfolding read_at
cut_reads m held id virtual_block lawful = by_block (data_block_of m id virtual_block) refl
  where
    by_block : (o : Option ℕ) → data_block_of m id virtual_block ≡ o
        → blocks_of_data (blocks_each m.block_size) (front_of_data m held) o ≡ blocks_of_data (blocks_each m.block_size) held o
    by_block None found = refl
    by_block (Some d) found =
        data_before held (blocks_each m.block_size) m.data_blocks d (at_told (data_block_of m id virtual_block) d (λ (b : ℕ). b < m.data_blocks) found (named_within m id virtual_block lawful))

-- what of a pool stays
stays_of_mappings : (moves : List Move) (xs : List Mapping) → map without_place (map (moved_mapping moves) xs) ≡ map without_place xs
stays_of_mappings moves [] = refl
stays_of_mappings moves (x ∷ xs) = ap (λ ys. without_place x ∷ ys) (stays_of_mappings moves xs)

stays_of_devices : (moves : List Move) (ds : List ThinDevice) → map without_places_of (map (moved_device moves) ds) ≡ map without_places_of ds
stays_of_devices moves [] = refl
stays_of_devices moves (d ∷ ds) = ap₂ (λ y ys. y ∷ ys) (ap (λ ms. record (without_places_of d) { mappings = ms }) (stays_of_mappings moves d.mappings)) (stays_of_devices moves ds)

pub stays_the_same : (m : ThinPool) (end : ℕ) (moves : List Move) → without_places (moved_pool m end moves) ≡ without_places m
unfolding moved_pool
stays_the_same m end moves = ap (λ ds. record (without_places m) { devices = ds }) (stays_of_devices moves m.devices)

pub size_after : (m : ThinPool) (end : ℕ) (moves : List Move) → (moved_pool m end moves).data_blocks ≡ end
unfolding moved_pool
size_after m end moves = refl

-- what is known of free blocks, of moved ones, and of a smaller pool that is laid
pub record AreShrinkLaws (is_shared : Bool) : Type 0 where
  pub making : AreMakingLaws is_shared
  pub free : AreFreeOf
  pub kept : (m : ThinPool) (end : ℕ) (free : List ℕ) (held left : Image) → AreUnnamed m free
      → KeepsOthers (blocks_each m.block_size) (map copy_of_move (moves_to (sources m end) free)) held left → ReadTheSame m held m left
  pub moved : (m : ThinPool) (end : ℕ) (free : List ℕ) (held : Image) → AreFree m end free → data_need (blocks_each m.block_size) (sources m end) ≤ length held
      → ReadTheSame m held (moved_pool m end (moves_to (sources m end) free)) (data_after (blocks_each m.block_size) (moves_to (sources m end) free) held)

-- what is a clean image of the smaller pool, and reads the same, is what a shrink leaves
shrunk_by : {is_shared : Bool} (image : Image) (blocks : ℕ) (ground : ShrinkGround is_shared) → IsGroundOf image blocks ground → pool_before ground ≡ thin_meaning image
    → (held smaller left : Image) → IsLawfulPool (pool_after ground) → ReadTheSame (pool_before ground) held (pool_after ground) left → IsCleanPool smaller (pool_after ground)
    → IsShrunk blocks image held smaller left
shrunk_by image blocks ground is before_is held smaller left lawful reads clean =
    let old : (id virtual_block : ℕ) → read_at (pool_before ground) held id virtual_block ≡ read_at (thin_meaning image) held id virtual_block =
    λ id virtual_block. ap (λ m. read_at m held id virtual_block) before_is in
    record {
      clean = clean.clean;
      size =
          ap (λ (m : ThinPool). m.data_blocks) clean.means
          ∙ (size_after (pool_before ground) ground.end (moves_of ground) ∙ (is.end ∙ ap (λ (m : ThinPool). end_of_pool m blocks) before_is));
      same = ap without_places clean.means ∙ (stays_the_same (pool_before ground) ground.end (moves_of ground) ∙ ap without_places before_is);
      reads = λ id virtual_block. ap (λ m. read_at m left id virtual_block) clean.means ∙ (reads id virtual_block ∙ old id virtual_block);
      cut = λ id virtual_block.
          ap (λ m. read_at m (front_of_data m left) id virtual_block) clean.means
          ∙ (cut_reads (pool_after ground) left id virtual_block lawful ∙ (reads id virtual_block ∙ old id virtual_block));
    }

module _ {is_shared : Bool} (laws : AreShrinkLaws is_shared) (metadata output_path data_path : List ℕ) (blocks : ℕ) (before after : Objects) (status : ℕ)
    (answered : IsShrinkAnswered is_shared metadata output_path data_path blocks before after status) where
  abbrev found : ShrinkFound is_shared
  found = answered.finding

  abbrev ground : ShrinkGround is_shared
  ground = found.ground

  -- the data device with the moved blocks
  abbrev moved_data : Image → Image
  moved_data held = data_after (blocks_each (pool_before ground).block_size) (moves_of ground) held

  module _ (image held : Image) (image_told : before.input.held ≡ Some image) (held_told : before.third.held ≡ Some held) where
    means_before : pool_before ground ≡ thin_meaning image
    means_before = before_is laws.making laws.free metadata output_path data_path blocks before after status answered image image_told

    -- a call that goes on
    module _ (given : (shrink_answer found).status ≡ 0) where
      free_before : AreFree (pool_before ground) ground.end ground.free
      free_before = are_free laws.making laws.free metadata output_path data_path blocks before after status answered image image_told given

      reads_after : ReadTheSame (pool_before ground) held (pool_after ground) (moved_data held)
      reads_after =
          let many : ground.data_blocks ≡ length held = at_told before.third.held held (λ (i : Image). ground.data_blocks ≡ length i) held_told answered.found.pool_device.told in
          laws.moved (pool_before ground) ground.end ground.free held free_before
          (subst (λ n. data_need (blocks_each (pool_before ground).block_size) (sources (pool_before ground) ground.end) ≤ n) many (not_refused found given).on_device)

      reads_meanwhile : LeavesOnly (λ left firsts. ReadTheSame (thin_meaning image) held (thin_meaning image) left) before.third after.third
      reads_meanwhile =
          weaken (at_told before.third.held held _ held_told answered.leaves.copies)
          (λ left firsts keeps. subst (λ m. ReadTheSame m held m left) means_before (laws.kept (pool_before ground) ground.end ground.free held left free_before.unnamed keeps))

    -- what is laid is such a pool
    shrunk : IsImage image → (base smaller : Image) → ground.room ≡ room_of (length base) → LaysShrunk found base smaller → IsShrunk blocks image held smaller (moved_data held)
    shrunk is base smaller room lays =
        shrunk_by image blocks ground (ground_is laws.making laws.free metadata output_path data_path blocks before after status answered image image_told) means_before
        held smaller (moved_data held)
        (lawful_after laws.making laws.free metadata output_path data_path blocks before after status answered image image_told lays.0 is)
        (reads_after lays.0)
        (subst (IsCleanPool smaller) (laws.making.moved_means ground.saved ground.end (moves_of ground))
        (made_clean is_shared (saved_after ground) smaller
        (made laws.making laws.free metadata output_path data_path blocks before after status answered image image_told is base smaller room lays)))

    -- what a crash leaves of the output
    leaves_smaller : IsImage image → IfSome before.output.held (λ base.
        LeavesOnly (IsOldNoneOrMade base (λ smaller. IsShrunk blocks image held smaller (moved_data held))) before.output after.output)
    leaves_smaller is =
        output_leaves laws.making laws.free metadata output_path data_path blocks before after status answered image image_told
        (λ smaller. IsShrunk blocks image held smaller (moved_data held)) (shrunk is)

    -- and of both devices at the call's end
    both_read : IsImage image → IsSynced before.output → (smaller firsts left others : Image) → may_leave after.output (moment after.output) smaller firsts
        → may_leave after.third (moment after.third) left others
        → IfSome before.output.held (λ base. IsOldNoneOrMade base (λ made. IsShrunk blocks image held made left) smaller firsts)
    both_read is output_synced smaller firsts left others leaves leaves_data = ⊎_elim
        (λ untouched. if_told before.output.held (λ base told chance. inl (left_untouched before.output after.output base told output_synced untouched smaller firsts leaves)))
        (λ synced. IfSome_then before.output.held (leaves_smaller is) (λ base only.
        subst (λ (x : Image). IsOldNoneOrMade base (λ made. IsShrunk blocks image held made x) smaller firsts)
        (sym (left_of_synced after.third (moved_data held) left others synced leaves_data)) (only.now smaller firsts leaves)))
        (at_told before.third.held held (λ (i : Image). IsUntouched before.output after.output ⊎ HoldsSynced (moved_data i) after.third) held_told answered.leaves.order)

    keeps_at_work : (shrink_answer found).status ≡ 0 → IsImage image → KeepsReads blocks image held before after
    keeps_at_work given is = record {
      together = both_read is;
      metadata = answered.kept.input;
      data_left = reads_meanwhile given;
      order = ⊎_elim (λ untouched. inl untouched)
          (λ synced. inr (subst (λ (o : Option Image). IfSome o (λ left. AreMoved blocks image held left before after)) (sym synced.held)
          (record { synced = synced; output_left = leaves_smaller is })))
          (at_told before.third.held held (λ (i : Image). IsUntouched before.output after.output ⊎ HoldsSynced (moved_data i) after.third) held_told answered.leaves.order);
    }

    -- one that is refused
    keeps_refused : IsSynced before.third → (shrink_answer found).status ≢ 0 → KeepsReads blocks image held before after
    keeps_refused synced refused =
        let both = answered.leaves.refused refused in
        record {
          metadata = answered.kept.input;
          data_left = stays both.1.held both.1.history
              (λ left firsts leaves id virtual_block. ap (λ i. read_at (thin_meaning image) i id virtual_block) (left_as_was before.third held left firsts held_told synced leaves));
          order = inl both.0;
          together = λ output_synced smaller firsts left others leaves leaves_data.
              if_told before.output.held (λ base told chance. inl (left_untouched before.output after.output base told output_synced both.0 smaller firsts leaves));
        }

    -- what the output holds once the work is done
    holds_smaller : IsImage image → IsWorkDone before after status → IfSome before.output.held (λ base.
        IfSome after.output.held (λ smaller. IsShrunk blocks image held smaller (moved_data held) × HoldsSynced smaller after.output))
    holds_smaller is done =
        output_holds laws.making laws.free metadata output_path data_path blocks before after status answered image image_told
        (λ smaller. IsShrunk blocks image held smaller (moved_data held)) (shrunk is) done

  -- what a crash leaves
  pub leaves_reads : IsSynced before.third → LeavesReads blocks before after
  leaves_reads synced =
      two before.input.held before.third.held (λ image held. IsImage image → KeepsReads blocks image held before after)
      (λ image held image_told held_told is.
      ⊎_elim (λ given. keeps_at_work image held image_told held_told given is)
      (keeps_refused image held image_told held_told synced)
      (zero_or_not (shrink_answer found).status))

  -- what the devices hold once the work is done
  pub holds_shrunk : IsWorkDone before after status → HoldsShrunk blocks before after
  holds_shrunk done =
      two before.input.held before.third.held (λ image held. IsImage image → IfSome before.output.held (λ base.
      IfSome after.output.held (λ smaller. IfSome after.third.held (λ left. IsShrunk blocks image held smaller left × HoldsSynced smaller after.output × HoldsSynced left after.third))))
      (λ image held image_told held_told is.
      let all = at_told before.third.held held (λ (i : Image). HoldsSynced (moved_data i) after.third) held_told (answered.leaves.moved done) in
      IfSome_then before.output.held (holds_smaller image held image_told held_told is done) (λ base holds.
      IfSome_then after.output.held holds (λ smaller is_made.
      subst (λ (o : Option Image). IfSome o (λ left. IsShrunk blocks image held smaller left × HoldsSynced smaller after.output × HoldsSynced left after.third)) (sym all.held)
      (is_made.0, is_made.1, all))))
