-- Blocks that are marked one after another.
use Rattle.std.proofs.Common.{◌≡◌, inl, inr, ⊎_elim, ℕ, zero, suc, ◌+◌, ◌<◌, ◌≤◌, Bool, true, false, cond, nat_eq, List, [], ◌∷◌, ◌++◌, length, get_or, map, set, take, Option, Some, None, IfSome, refl, sym, ap, ◌∙◌, arith, get_or-set_same, get_or-set_other}
use Rattle.std.specs.List.{list_any, range_with_len, slice_get}
use Rattle.std.specs.Option.{unwrap_or}
use Rattle.std.proofs.lemmas.Bool.{cases_Bool, eqb-true, eqb-false, true≢false}
use Rattle.std.proofs.lemmas.List.{ext_get_or, length-set, take_more}
use Rattle.std.proofs.lemmas.List.FromFn.{get_or-map-range_with_len, length-map-range_with_len}
use Rattle.std.proofs.lemmas.Option.{unwrap_or-slice_get}
use Rattle.pd_kinds.specs.CacheFormat.{cache_fields}
use Rattle.pd_kinds.specs.Field.{zeros}
use Rattle.pd_kinds.specs.Graph.{block_at}
use Rattle.pd_kinds.specs.Meaning.{cache_meaning}
use Rattle.pd_kinds.specs.Crash.{HoldsSynced, IsNoneOrNew, IsOldOrNone, LeavesOnly}
use Rattle.pd_kinds.specs.Objects.{DeviceState, History, present_moment}
use Rattle.pd_kinds.proofs.CrashLemmas.{and_then, left_now, left_synced, stays, weaken, Image}
use Rattle.pd_answers.specs.Writebacks.{dirty_places, hot_blocks, settled, settled_block}
use Rattle.pd_image.proofs.CrashLemmas.{at_some}
use Rattle.pd_draft.specs.Closed.{StaysClosed}
use Rattle.pd_draft.proofs.DraftLemmas.{zeros_none}
use Rattle.pd_writeback.specs.Copied.{IsOldNoneOrMarked, marked, marked_image}
use Rattle.pd_writeback.specs.Room.{ArePlaces}

-- one place more
pub marked_last : (version : ℕ) (image : Image) (places : List ℕ) (place : ℕ)
    → marked version image (places ++ place ∷ []) ≡ set (marked version image places) place (settled_block version (block_at (marked version image places) place))
unfolding marked
marked_last version image [] place = refl
marked_last version image (p ∷ places) place = marked_last version (set image p (settled_block version (block_at image p))) places place

pub marked_more : (version : ℕ) (places : List ℕ) (i : ℕ) (old mid new : Option Image) → i < length places
    → IfSome old (λ image. mid ≡ Some (marked version image (take i places)))
    → IfSome mid (λ image. new ≡ Some (set image (get_or places i 0) (settled_block version (block_at image (get_or places i 0)))))
    → IfSome old (λ image. new ≡ Some (marked version image (take (i + 1) places)))
marked_more version places i None mid new within before next = tt
marked_more version places i (Some image) mid new within before next =
    let place = get_or places i 0 in
    at_some mid (λ (j : Image). new ≡ Some (set j place (settled_block version (block_at j place)))) (marked version image (take i places)) before next
    ∙ ap (λ (j : Image). Some j) (sym (ap (marked version image) (take_more places i 0 within) ∙ marked_last version image (take i places) place))

pub marked_none : (version : ℕ) (places : List ℕ) (old : Option Image) → IfSome old (λ image. old ≡ Some (marked version image (take 0 places)))
unfolding marked
marked_none version places None = tt
marked_none version places (Some image) = refl

-- a block that is put where it is
pub set_same : (image : Image) (b : ℕ) (block : List ℕ) → slice_get image b ≡ Some block → set image b block ≡ image
set_same [] b block at = refl
set_same (first ∷ image) zero block at = ap (λ (x : List ℕ). x ∷ image) (let same : Some first ≡ Some block = at in cc)
set_same (first ∷ image) (suc b) block at = ap (λ (i : Image). first ∷ i) (set_same image b block at)

pub unmarked : (version : ℕ) (image : Image) (b : ℕ) (block : List ℕ) → slice_get image b ≡ Some block → settled_block version block ≡ block
    → Some image ≡ Some (set image b (settled_block version (block_at image b)))
unmarked version image b block at same =
    let is : block_at image b ≡ block = ap (λ (o : Option (List ℕ)). unwrap_or o []) at in
    ap (λ (i : Image). Some i) (sym (ap (λ (x : List ℕ). set image b (settled_block version x)) is ∙ (ap (set image b) same ∙ set_same image b block at)))

pub length-marked : (version : ℕ) (image : Image) (places : List ℕ) → length (marked version image places) ≡ length image
unfolding marked
length-marked version image [] = refl
length-marked version image (p ∷ places) =
    length-marked version (set image p (settled_block version (block_at image p))) places ∙ length-set image p (settled_block version (block_at image p))

-- among numbers
pub any_at : (b : ℕ) (places : List ℕ) → list_any (λ p. nat_eq p b) places ≡ true → (j : ℕ) × (j < length places) × (get_or places j 0 ≡ b)
any_at b [] any = cc
any_at b (p ∷ places) any = by_first (nat_eq p b) refl (λ later. any_at b places later)
  where
    by_first : (t : Bool) → nat_eq p b ≡ t → (list_any (λ q. nat_eq q b) places ≡ true → (j : ℕ) × (j < length places) × (get_or places j 0 ≡ b))
        → (j : ℕ) × (j < length (p ∷ places)) × (get_or (p ∷ places) j 0 ≡ b)
    by_first true first more = (0, omega arith, eqb-true p b first)
    by_first false first more = let rest = more (rw first at any) in let within = rest.1 in (suc rest.0, omega arith, rest.2)

pub tail_places : {blocks p : ℕ} {places : List ℕ} → ArePlaces blocks (p ∷ places) → ArePlaces blocks places
tail_places are = record {
  each = λ i within. are.each (suc i) (omega arith);
  ascend = λ i j less within. are.ascend (suc i) (suc j) (omega arith) (omega arith);
}

pub head_apart : {blocks p : ℕ} {places : List ℕ} → ArePlaces blocks (p ∷ places) → list_any (λ q. nat_eq q p) places ≡ true → ⊥
head_apart {blocks} {p} {places} are any =
    let found = any_at p places any in
    let j = found.0 in
    let within = found.1 in
    let same = found.2 in
    let less : p < get_or places j 0 = are.ascend 0 (suc j) (omega arith) (omega arith) in
    absurd (omega arith)

-- a block that isn't marked
marked_other : (version : ℕ) (image : Image) (places : List ℕ) (b : ℕ) → list_any (λ p. nat_eq p b) places ≡ false → get_or (marked version image places) b [] ≡ get_or image b []
unfolding marked
marked_other version image [] b none = refl
marked_other version image (p ∷ places) b none =
    by_first (nat_eq p b) refl (λ none'. marked_other version (set image p (settled_block version (block_at image p))) places b none')
  where
    by_first : (t : Bool) → nat_eq p b ≡ t
        → (list_any (λ q. nat_eq q b) places ≡ false → get_or (marked version (set image p (settled_block version (block_at image p))) places) b [] ≡ get_or (set image p (settled_block version (block_at image p))) b [])
        → get_or (marked version (set image p (settled_block version (block_at image p))) places) b [] ≡ get_or image b []
    by_first true first more = absurd (true≢false (rw first at none))
    by_first false first more =
        let apart : b ≡ p → ⊥ = λ same. eqb-false p b first (sym same) in
        more (rw first at none)
        ∙ get_or-set_other image p b (settled_block version (block_at image p)) [] apart

-- and one that is
marked_one : (version blocks : ℕ) (image : Image) (places : List ℕ) (b : ℕ) → ArePlaces blocks places → b < length image → list_any (λ p. nat_eq p b) places ≡ true
    → get_or (marked version image places) b [] ≡ settled_block version (get_or image b [])
unfolding marked
marked_one version blocks image [] b are within any = cc
marked_one version blocks image (p ∷ places) b are within any =
    by_first (nat_eq p b) refl (λ within' any'. marked_one version blocks (set image p (settled_block version (block_at image p))) places b (tail_places are) within' any')
  where
    by_first : (t : Bool) → nat_eq p b ≡ t
        → (b < length (set image p (settled_block version (block_at image p))) → list_any (λ q. nat_eq q b) places ≡ true
        → get_or (marked version (set image p (settled_block version (block_at image p))) places) b [] ≡ settled_block version (get_or (set image p (settled_block version (block_at image p))) b []))
        → get_or (marked version (set image p (settled_block version (block_at image p))) places) b [] ≡ settled_block version (get_or image b [])
    by_first true first more =
        let same : p ≡ b = eqb-true p b first in
        let within' : p < length image = omega arith in
        let apart : list_any (λ q. nat_eq q b) places ≡ false = elim (cases_Bool (list_any (λ q. nat_eq q b) places)) [
          | inl there ↦ absurd (head_apart are (rw (← same) at there))
          | inr none ↦ none
        ] in
        marked_other version (set image p (settled_block version (block_at image p))) places b apart
        ∙ (ap (λ (c : ℕ). get_or (set image p (settled_block version (block_at image p))) c []) (sym same)
        ∙ (get_or-set_same image p (settled_block version (block_at image p)) [] within'
        ∙ ap (settled_block version) (unwrap_or-slice_get image p [] ∙ ap (λ (c : ℕ). get_or image c []) same)))
    by_first false first more =
        let apart : b ≡ p → ⊥ = λ same. eqb-false p b first (sym same) in
        let within' : b < length (set image p (settled_block version (block_at image p))) = rw (length-set image p (settled_block version (block_at image p))) within in
        more within' (rw first at any)
        ∙ ap (settled_block version) (get_or-set_other image p b (settled_block version (block_at image p)) [] apart)

-- the whole image
module _ (image : Image) (places : List ℕ) (version : ℕ) (super : List ℕ) (blocks : ℕ) (are : ArePlaces blocks places) (some : 1 ≤ length image)
    (of_version : version ≡ (cache_fields (block_at image 0)).version) (of_super : super ≡ block_at image 0)
    (named : (b : ℕ) → list_any (λ p. nat_eq p b) places ≡ list_any (λ p. nat_eq p b) (dirty_places image)) where
  abbrev settled_at : ℕ → List ℕ
  settled_at b = cond (list_any (λ place. nat_eq place b) (dirty_places image)) (settled_block (cache_fields (block_at image 0)).version (block_at image b)) (block_at image b)

  none_first : list_any (λ p. nat_eq p 0) places ≡ false
  none_first = elim (cases_Bool (list_any (λ p. nat_eq p 0) places)) [
    | inl any ↦ let found = any_at 0 places any in let is = found.2 in let low = (are.each found.0 found.1).0 in absurd (omega arith)
    | inr none ↦ none
  ]

  first_block : get_or (marked_image version places super image) 0 [] ≡ settled_at 0
  unfolding marked_image
  first_block =
      let within : 0 < length (marked version (set image 0 zeros) places) = rw (length-marked version (set image 0 zeros) places ∙ length-set image 0 zeros) (omega arith) in
      get_or-set_same (marked version (set image 0 zeros) places) 0 super [] within
      ∙ (of_super ∙ sym (ap (λ (t : Bool). cond t (settled_block (cache_fields (block_at image 0)).version (block_at image 0)) (block_at image 0)) (sym (named 0) ∙ none_first)))

  later_block : (b : ℕ) → suc b < length image → get_or (marked_image version places super image) (suc b) [] ≡ settled_at (suc b)
  unfolding marked_image
  later_block b within =
      get_or-set_other (marked version (set image 0 zeros) places) 0 (suc b) super [] (λ same. cc)
      ∙ elim (cases_Bool (list_any (λ p. nat_eq p (suc b)) places)) [
        | inl any ↦
            marked_one version blocks (set image 0 zeros) places (suc b) are (rw (length-set image 0 zeros) within) any
            ∙ (ap (settled_block version) (get_or-set_other image 0 (suc b) zeros [] (λ same. cc) ∙ sym (unwrap_or-slice_get image (suc b) []))
            ∙ (ap (λ (v : ℕ). settled_block v (block_at image (suc b))) of_version
            ∙ sym (ap (λ (t : Bool). cond t (settled_block (cache_fields (block_at image 0)).version (block_at image (suc b))) (block_at image (suc b))) (sym (named (suc b)) ∙ any))))
        | inr none ↦
            marked_other version (set image 0 zeros) places (suc b) none
            ∙ (get_or-set_other image 0 (suc b) zeros [] (λ same. cc)
            ∙ (sym (unwrap_or-slice_get image (suc b) [])
            ∙ sym (ap (λ (t : Bool). cond t (settled_block (cache_fields (block_at image 0)).version (block_at image (suc b))) (block_at image (suc b))) (sym (named (suc b)) ∙ none))))
      ]

  each_block : (b : ℕ) → b < length image → get_or (marked_image version places super image) b [] ≡ settled_at b
  each_block zero within = first_block
  each_block (suc b) within = later_block b within

  length-marked_image : length (marked_image version places super image) ≡ length image
  unfolding marked_image
  length-marked_image = length-set (marked version (set image 0 zeros) places) 0 super ∙ (length-marked version (set image 0 zeros) places ∙ length-set image 0 zeros)

  pub marked_is_settled : (nat_eq (length (hot_blocks (cache_meaning image))) 0 ≡ false) → marked_image version places super image ≡ settled image
  unfolding settled
  marked_is_settled some_hot =
      rw some_hot
      (ext_get_or [] (marked_image version places super image) (map settled_at (range_with_len 0 (length image))) (length-marked_image ∙ sym (length-map-range_with_len settled_at 0 (length image)))
      (λ b within.
      let within' : b < length image = rw (← length-marked_image) within in
      each_block b within' ∙ sym (get_or-map-range_with_len settled_at 0 (length image) b b [] within' (omega arith))))

-- while block 0 is closed a crash leaves no superblock
pub closed_marking : (made : Image) {old new : DeviceState} → StaysClosed old new → LeavesOnly (IsNoneOrNew made) old new
closed_marking made stays = weaken stays.crash (λ image firsts zeroed chance. inl (zeros_none image firsts zeroed))

pub committed_marking : (version : ℕ) (places super : List ℕ) (image : Image) {old mid new : DeviceState} → StaysClosed old mid
    → IfSome old.held (λ i. mid.held ≡ Some (marked version i places)) → old.held ≡ Some image
    → ((i : Image) → mid.held ≡ Some i → LeavesOnly (IsNoneOrNew (set i 0 super)) mid new) → LeavesOnly (IsNoneOrNew (set (marked version image places) 0 super)) old new
committed_marking version places super image {old} {mid} {new} stays content held last =
    and_then (closed_marking (set (marked version image places) 0 super) stays)
    (last (marked version image places) (at_some old.held (λ (i : Image). mid.held ≡ Some (marked version i places)) image held content))

-- the closing, and then the marking
pub whole_marking : (image made : Image) {old mid new : DeviceState} → LeavesOnly (IsOldOrNone image) old mid → LeavesOnly (IsNoneOrNew made) mid new
    → LeavesOnly (IsOldNoneOrMarked image made) old new
whole_marking image made first second =
    and_then
    (weaken first (λ left firsts outcome chance. ⊎_elim (λ old. inl old) (λ none. inr (inl none)) (outcome chance)))
    (weaken second (λ left firsts outcome chance. ⊎_elim (λ none. inr (inl none)) (λ new. inr (inr new)) (outcome chance)))

pub done_marking : (version : ℕ) (places super : List ℕ) (old mid : Option Image) (new : DeviceState) → IfSome old (λ image. mid ≡ Some (set image 0 zeros))
    → IfSome mid (λ image. HoldsSynced (set (marked version image places) 0 super) new) → IfSome old (λ image. HoldsSynced (marked_image version places super image) new)
unfolding marked_image
done_marking version places super None mid new closed done = tt
done_marking version places super (Some image) mid new closed done = at_some mid (λ (i : Image). HoldsSynced (set (marked version i places) 0 super) new) (set image 0 zeros) closed done

-- where nothing is written
pub unwritten_marking : (image made : Image) {old new : DeviceState} → new.held ≡ old.held → new.history ≡ old.history → HoldsSynced image old → LeavesOnly (IsOldNoneOrMarked image made) old new
unwritten_marking image made {old} {new} held history synced =
    stays held history (λ left firsts leaves chance. inl (left_synced image left (present_moment image old.history) refl synced.unsynced (left_now old image left firsts synced.held leaves).0))

pub still_synced : (image : Image) {old new : DeviceState} → new.held ≡ old.held → new.history ≡ old.history → HoldsSynced image old → HoldsSynced image new
still_synced image held history synced = record {
  held = held ∙ synced.held;
  unsynced = ap (λ (h : History). h.unsynced) history ∙ synced.unsynced;
  firsts = ap (λ (h : History). h.firsts) history ∙ synced.firsts;
}
