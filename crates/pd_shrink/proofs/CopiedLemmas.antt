-- What the copying of a plan comes to, and the writing.
use Rattle.std.proofs.Common.{◌≡◌, ℕ, ◌≤◌, Bool, List, [], length, map, Some, None, IfSome, sym, ap, ◌∙◌, subst, arith}
use Rattle.std.proofs.lemmas.List.{length-map, nil_from_length}
use Rattle.pd_kinds.specs.Crash.{HoldsSynced, LeavesOnly}
use Rattle.pd_kinds.specs.Image.{room_of}
use Rattle.pd_kinds.specs.Objects.{after_sync, DeviceState}
use Rattle.pd_kinds.proofs.CrashLemmas.{Image}
use Rattle.pd_answers.specs.Writebacks.{blocks_each}
use Rattle.pd_answers.specs.Shrinks.{Move, copy_of_move, data_after, sources, ShrinkGround, lack_of, moves_of, pool_before}
use Rattle.pd_image.proofs.CrashLemmas.{at_some, synced_now}
use Rattle.pd_restoring.specs.Made.{Content, Ending, IsMade, short}
use Rattle.pd_writeback.proofs.OverlaidLemmas.{overlaid_none}
use Rattle.pd_shrink.specs.declared.plan.Shrink.{Shrink}
use Rattle.pd_shrink.specs.Kept.{kept_content, kept_pool, saved_content}
use Rattle.pd_shrink.specs.Moves.{AreApart, IsLeftKept, move_in, moves_in}
use Rattle.pd_shrink.specs.Planned.{IsPlanOf, content_after, saved_after}
use Rattle.pd_shrink.proofs.RoomLemmas.{by_kept, all_moved}

module _ {is_shared : Bool} (basis : ShrinkGround is_shared) (shrink : Shrink) (of : IsPlanOf basis shrink) where
  abbrev k : ℕ
  k = blocks_each (pool_before basis).block_size

  -- how many are moved
  pub number_moved : lack_of basis ≡ None → length shrink.moves.items ≡ length (sources (pool_before basis) basis.end)
  number_moved none = sym (length-map shrink.moves.items move_in) ∙ (ap (λ (moves : List Move). length moves) of.moves ∙ all_moved basis none)

  -- where nothing is moved, the data device stays
  pub none_moved : (held : Image) (device : DeviceState) → length shrink.moves.items ≡ 0 → HoldsSynced held device → HoldsSynced (data_after k (moves_of basis) held) device
  unfolding data_after
  none_moved held device none synced =
      let nothing : moves_of basis ≡ [] = sym of.moves ∙ ap moves_in (nil_from_length shrink.moves.items none) in
      subst (λ (image : Image). HoldsSynced image device) (overlaid_none k held held ∙ ap (λ (moves : List Move). data_after k moves held) (sym nothing)) synced

  -- what was copied is on the data device after a sync
  pub copied_synced : (held : Image) (old mid new : DeviceState) → IfSome old.held (λ image. mid.held ≡ Some (data_after shrink.each (moves_in shrink.moves.items) image))
      → IfSome mid.held (λ image. new.history ≡ after_sync image mid.history) → new.held ≡ mid.held → HoldsSynced held old → HoldsSynced (data_after k (moves_of basis) held) new
  copied_synced held old mid new copied crash same synced =
      let here : mid.held ≡ Some (data_after shrink.each (moves_in shrink.moves.items) held) =
      at_some old.held (λ (image : Image). mid.held ≡ Some (data_after shrink.each (moves_in shrink.moves.items) image)) held synced.held copied in
      let of_ground = ap (λ (n : ℕ). data_after n (moves_in shrink.moves.items) held) of.each ∙ ap (λ (moves : List Move). data_after k moves held) of.moves in
      subst (λ (image : Image). HoldsSynced image new) of_ground (synced_now mid new (data_after shrink.each (moves_in shrink.moves.items) held) here crash same)

  pub left_of_ground : (held : Image) {old new : DeviceState} → LeavesOnly (IsLeftKept shrink.each (map copy_of_move (moves_in shrink.moves.items)) held) old new
      → LeavesOnly (IsLeftKept k (map copy_of_move (moves_of basis)) held) old new
  left_of_ground held {old} {new} leaves =
      subst (λ (moves : List Move). LeavesOnly (IsLeftKept k (map copy_of_move moves) held) old new) of.moves
      (subst (λ (n : ℕ). LeavesOnly (IsLeftKept n (map copy_of_move (moves_in shrink.moves.items)) held) old new) of.each leaves)

-- what has room isn't refused
pub has_room : (content : Content) (output need blocks : ℕ) {old new : DeviceState} → content.need (room_of output) ≤ room_of output → old.blocks ≡ output → IsMade content (short need blocks) old new → ⊥
has_room content output need blocks {old} {new} fits same made =
    let need_is = made.answer.0 in
    let less = made.answer.1.1 in
    let fits' : content.need (room_of old.blocks) ≤ room_of old.blocks = subst (λ (n : ℕ). content.need (room_of n) ≤ room_of n) (sym same) fits in
    omega (arith, need_is, less, fits')

-- what is made of what is held is made of the pool that it is
pub made_of : {is_shared : Bool} (basis : ShrinkGround is_shared) (shrink : Shrink) (ending : Ending) (old new : DeviceState) → IsPlanOf basis shrink
    → IsMade (kept_content shrink.moved) ending old new → IsMade (content_after basis) ending old new
made_of {is_shared} basis shrink ending old new of made =
    by_kept (λ is_shared saved. IsMade (saved_content is_shared saved) ending old new) is_shared (saved_after basis) shrink.moved of.pool made

-- what a plan moves can be moved on a device with as many blocks as it has
pub moves_apart : (shrink : Shrink) {blocks : ℕ} → blocks ≡ shrink.pool_blocks → AreApart shrink.each blocks shrink.moves.items
moves_apart shrink same = rw same (record { end = (kept_pool shrink.moved).data_blocks; across = shrink.across; once = shrink.once })
