-- The three outcomes of a crash, from what is left at each moment.
use Rattle.std.proofs.Common.{◌≡◌, inl, inr, ⊎_elim, ℕ, zero, suc, ◌<◌, ◌≤◌, Bool, true, false, List, [], ◌∷◌, length, take, get_or, set, refl, sym, ◌∙◌, ap, subst, arith, Option, Some, Result, Ok, Err, cond, ◌+◌, ◌++◌, drop, ap₂, add-one, None, length-append}
use Rattle.std.specs.Prelude.{nat_eq, IfSome, ◌||◌, OnOk}
use Rattle.std.specs.List.{AllByRecursion, list_any, slice_get}
use Rattle.std.specs.Option.{is_some, unwrap_or}
use Rattle.std.proofs.lemmas.Bool.{cases_lt, eqb-true, eqb-false}
use Rattle.std.proofs.lemmas.List.{ext_get_or, get_or-set_same, length-set, append_assoc, drop-set-lt, take-append-drop}
use Rattle.std.proofs.lemmas.Option.{slice_get-get_or, get_or_from_slice_get, unwrap_or-slice_get, slice_get_past, same_Some}
use Rattle.std.proofs.Math.Seq.{take-suc-set}
use Rattle.pd_kinds.specs.Field.{zeros}
use Rattle.pd_kinds.specs.Graph.{block_at}
use Rattle.pd_kinds.specs.Super.{is_valid_super}
use Rattle.pd_kinds.specs.Objects.{Moment, History, present_moment, IsLeft, after_write, after_sync, DeviceState}
use Rattle.pd_kinds.specs.Crash.{LeavesNow, LeavesOnly, HoldsSynced, HasNoSuper, IsAmong, IsOldOrNone, IsNoneOrNew}
use Rattle.pd_kinds.proofs.CrashLemmas.{left_synced, left_now, left_is, left_held, zeros_no_super, untold, and_then, Image, stays}
use Rattle.pd_image.proofs.BlockLemmas.{slice_get-set_other}
use Rattle.pd_image.specs.Device.{MayChange, MayWrite, KeepsPlace}
use Rattle.pd_image.proofs.CrashLemmas.{told_or_not, is_none_too, at_some, writes, syncs}
use Rattle.pd_draft.specs.Closed.{HasZeros, IsClosed, IsOldOrNewFirst, IsReplaced, StaysClosed, placed, DraftState, Wrote}

-- zeros in block 0 are no superblock
pub zeros_none : (image firsts : Image) → HasZeros image firsts → HasNoSuper image
zeros_none image firsts zeroed = ap (λ (b : Option (List ℕ)). is_valid_super (unwrap_or b [])) zeroed ∙ zeros_no_super

-- two images that agree on block 0, and on the others
pub same_image : (left image : Image) → length left ≡ length image → ((b : ℕ) → (b ≡ 0 → ⊥) → slice_get left b ≡ slice_get image b)
    → block_at left 0 ≡ block_at image 0 → left ≡ image
same_image left image number others first =
    ext_get_or [] left image number (λ i within. at i within)
  where
    at : (i : ℕ) → i < length left → get_or left i [] ≡ get_or image i []
    at zero within = sym (unwrap_or-slice_get left 0 []) ∙ first ∙ unwrap_or-slice_get image 0 []
    at (suc i) within =
        let within' : suc i < length image = omega arith in
        get_or_from_slice_get left (suc i) (get_or image (suc i) []) [] (others (suc i) (λ no'. cc) ∙ slice_get-get_or image (suc i) [] within')

or_false : (t r : Bool) → (t ≡ true → ⊥) → r ≡ false → (t || r) ≡ false
or_false true r not_so isnt = absurd (not_so refl)
or_false false r not_so isnt = isnt

-- what is left where block 0 alone is unsynced
pub others_left : (image left : Image) (m : Moment) → m.image ≡ image → m.unsynced ≡ 0 ∷ [] → IsLeft m left → MayChange 0 image left
others_left image left m is one l = record {
  number = l.number ∙ ap (λ (i : Image). length i) is;
  others = λ b past. l.synced b (ap (list_any (λ u. nat_eq u b)) one ∙ not_zero b past) ∙ ap (λ (i : Image). slice_get i b) is;
}
  where
    not_zero : (b : ℕ) → (b ≡ 0 → ⊥) → list_any (λ u. nat_eq u b) (0 ∷ []) ≡ false
    not_zero b past = or_false (nat_eq 0 b) false (λ same. absurd (past (sym (eqb-true 0 b same)))) refl

-- the first of a list is what stands at 0
among_first : (image : Image) (block : List ℕ) → IsAmong (take 1 image) block → block ≡ block_at image 0
among_first [] block among = absurd among
among_first (first ∷ image) block among = ⊎_elim (λ is. is) (λ none. absurd none) among

-- a block put back
same_at : (left image : Image) (b : ℕ) → length left ≡ length image → slice_get (set left b (get_or image b [])) b ≡ slice_get image b
same_at left image b number = elim (cases_lt b (length image)) [
  | inl within ↦
      let within' : b < length left = omega arith in
      let within'' : b < length (set left b (get_or image b [])) = rw (length-set left b (get_or image b [])) within' in
      slice_get-get_or (set left b (get_or image b [])) b [] within'' ∙ ap (λ (x : List ℕ). Some x) (get_or-set_same left b (get_or image b []) [] within') ∙ sym (slice_get-get_or image b [] within)
  | inr past ↦
      let past' : length (set left b (get_or image b [])) ≤ b = rw (length-set left b (get_or image b [])) (omega arith) in
      slice_get_past (set left b (get_or image b [])) b past' ∙ sym (slice_get_past image b past)
]

-- what is left with one block more unsynced, that block put back
pub put_back : (image left : Image) (b : ℕ) (us : List ℕ) (fs fs' : Image) → IsLeft (record { image = image; unsynced = b ∷ us; firsts = fs }) left
    → IsLeft (record { image = image; unsynced = us; firsts = fs' }) (set left b (get_or image b []))
put_back image left b us fs fs' l = record {
  number = length-set left b (get_or image b []) ∙ l.number;
  synced = λ c none. at c none (nat_eq b c) refl;
}
  where
    at : (c : ℕ) → list_any (λ u. nat_eq u c) us ≡ false → (t : Bool) → nat_eq b c ≡ t → slice_get (set left b (get_or image b [])) c ≡ slice_get image c
    at c none true is = subst (λ x. slice_get (set left b (get_or image b [])) x ≡ slice_get image x) (eqb-true b c is) (same_at left image b l.number)
    at c none false isnt =
        slice_get-set_other left b c (get_or image b []) (λ same. eqb-false b c isnt (sym same))
        ∙ l.synced c (ap (λ t. t || list_any (λ u. nat_eq u c) us) isnt ∙ none)

-- a write past block 0 of an image that a crash now leaves with zeros there
pub torn_place : (device : DeviceState) (image left : Image) (b : ℕ) (bytes : List ℕ) → 1 ≤ b → IsClosed device → device.held ≡ Some image
    → IsLeft (present_moment image (after_write b bytes image device.history)) left → HasZeros left (after_write b bytes image device.history).firsts
torn_place device image left b bytes past closed held l =
    let back = set left b (get_or image b []) in
    let leaves = left_is device image back held (put_back image left b device.history.unsynced _ _ l) in
    sym (slice_get-set_other left b 0 (get_or image b []) (λ same. absurd (omega arith))) ∙ closed back device.history.firsts leaves

-- zeros in place of block 0
set_zeros : (image : Image) → 1 ≤ length image → slice_get (set image 0 zeros) 0 ≡ Some zeros
set_zeros [] some = absurd (omega arith)
set_zeros (first ∷ image) some = refl

-- the blocks of a device that tells what it holds
pub has_first : (image : Image) (device : DeviceState) → device.held ≡ Some image → 1 ≤ device.blocks → IfSome device.held (λ i. length i ≡ device.blocks) → 1 ≤ length image
has_first image device held some measured =
    let number : length image ≡ device.blocks = at_some device.held (λ (i : Image). length i ≡ device.blocks) image held measured in
    omega arith

-- zeros were written and synced
closed_now : (old new : DeviceState) → IfSome old.held (λ image. HoldsSynced (set image 0 zeros) new) → is_some new.held ≡ is_some old.held
    → 1 ≤ old.blocks → IfSome old.held (λ i. length i ≡ old.blocks) → IsClosed new
closed_now old new done told some measured left firsts leaves =
    ⊎_elim
    (λ none. (untold {P = HasZeros} {old = old} {new = new} (is_none_too new.held (told ∙ ap is_some none))).now left firsts leaves)
    (λ was.
    let image = was.0 in
    let made = set image 0 zeros in
    let synced : HoldsSynced made new = at_some old.held (λ (i : Image). HoldsSynced (set i 0 zeros) new) image was.1 done in
    let is : left ≡ made = left_synced made left (present_moment made new.history) refl synced.unsynced (left_now new made left firsts synced.held leaves).0 in
    ap (λ (i : Image). slice_get i 0) is ∙ set_zeros image (has_first image old was.1 some measured))
    (told_or_not old.held)

-- the same, of a call that may have failed
pub closed_by : {T E : Type 0} (result : Result T E) (old new : DeviceState) (bytes : List ℕ) → bytes ≡ zeros → OnOk result (IfSome old.held (λ image. HoldsSynced (set image 0 bytes) new))
    → is_some new.held ≡ is_some old.held → 1 ≤ old.blocks → IfSome old.held (λ i. length i ≡ old.blocks) → OnOk result (IsClosed new)
closed_by (Ok x) old new bytes are_zeros done told some measured =
    closed_now old new (subst (λ (z : List ℕ). IfSome old.held (λ image. HoldsSynced (set image 0 z) new)) are_zeros done) told some measured
closed_by (Err e) old new bytes are_zeros done told some measured = tt

-- where block 0 was replaced by zeros, a crash left the old image or no valid superblock
pub cleared : (image : Image) (bytes : List ℕ) → bytes ≡ zeros → 1 ≤ length image → (left firsts : Image)
    → IsReplaced image (set image 0 bytes) left firsts → IsOldOrNone image left firsts
cleared image bytes are_zeros some left firsts replaced chance =
    ⊎_elim (λ old. inl old)
    (λ rest. inr (⊎_elim
    (λ new. zeros_none left firsts (ap (λ (i : Image). slice_get i 0) (new ∙ ap (λ (z : List ℕ). set image 0 z) are_zeros) ∙ set_zeros image some))
    (λ torn. torn.0)
    rest))
    (replaced.outcome chance)

-- where zeros in block 0 were replaced, a crash left no valid superblock or the new image
pub finished : (image made : Image) → slice_get image 0 ≡ Some zeros → (left firsts : Image) → IsReplaced image made left firsts → IsNoneOrNew made left firsts
finished image made zeroed left firsts replaced chance =
    ⊎_elim (λ old. inl (zeros_none left firsts (ap (λ (i : Image). slice_get i 0) old ∙ zeroed)))
    (λ rest. ⊎_elim (λ new. inr new) (λ torn. inl torn.0) rest)
    (replaced.outcome chance)

-- what a device holds whose block 0 is closed
pub closed_held : (image : Image) (device : DeviceState) → IsClosed device → device.held ≡ Some image → slice_get image 0 ≡ Some zeros
closed_held image device closed held = closed image device.history.firsts (left_held device image held)

-- the first sync of `finish`
pub finish_sync : (image made : Image) {old new : DeviceState} (ok : Bool) → IsClosed old → old.held ≡ Some image
    → IfSome old.held (λ i. new.history ≡ cond ok (after_sync i old.history) old.history) → new.held ≡ old.held → LeavesOnly (IsNoneOrNew made) old new
finish_sync image made {old} {new} ok closed held crash same =
    syncs ok crash same (λ left firsts leaves chance. inl (zeros_none left firsts (closed left firsts leaves)))
    (λ i is chance. inl (zeros_none i (take 1 i) (closed_held i old closed is)))

-- the write of `place`
pub place_write : {old new : DeviceState} (b : ℕ) (bytes : List ℕ) → 1 ≤ b → IsClosed old → IfSome old.held (λ i. MayWrite b bytes i old new)
    → is_some new.held ≡ is_some old.held → IfSome old.held (λ i. IfSome new.held (MayChange b i)) → LeavesOnly HasZeros old new
place_write {old} {new} b bytes past closed crash told others =
    writes b bytes crash told others closed (λ i held left l. torn_place old i left b bytes past closed held l)

-- what block 0 of a synced image has had is the old one, or, where the image is the new one, the new one
firsts_old : (image made : Image) → AllByRecursion (IsOldOrNewFirst image made) (take 1 image)
firsts_old [] made = tt
firsts_old (first ∷ image) made = (inl refl, tt)

firsts_new : (image made : Image) → AllByRecursion (IsOldOrNewFirst image made) (take 1 made)
firsts_new image [] = tt
firsts_new image (first ∷ made) = (inr refl, tt)

-- block 0 of an image that has one, once it is replaced
first_set : (image : Image) (bytes : List ℕ) → 1 ≤ length image → bytes ≡ block_at (set image 0 bytes) 0
first_set [] bytes some = absurd (omega arith)
first_set (first ∷ image) bytes some = refl

others_set : (image : Image) (bytes : List ℕ) → MayChange 0 image (set image 0 bytes)
others_set image bytes = record {
  number = length-set image 0 bytes;
  others = λ b past. slice_get-set_other image 0 b bytes past;
}

-- what a synced image leaves, and what the one leaves that replaced it
replaced_none : (image made left firsts : Image) → left ≡ image → firsts ≡ take 1 image → IsReplaced image made left firsts
replaced_none image made left firsts is had = record {
  contents = subst (AllByRecursion (IsOldOrNewFirst image made)) (sym had) (firsts_old image made);
  others = record { number = ap (λ (i : Image). length i) is; others = λ b past. ap (λ (i : Image). slice_get i b) is };
  outcome = λ chance. inl is;
}

replaced_whole : (image : Image) (bytes : List ℕ) (left : Image) → left ≡ set image 0 bytes → IsReplaced image (set image 0 bytes) left (take 1 left)
replaced_whole image bytes left is = rw is (record {
  contents = firsts_new image (set image 0 bytes);
  others = others_set image bytes;
  outcome = λ chance. inr (inl refl);
})

-- block 0 of a synced image was being replaced
pub torn_replaced : (image left : Image) (bytes : List ℕ) (h : History) → h.unsynced ≡ [] → h.firsts ≡ take 1 image → 1 ≤ length image
    → IsLeft (present_moment image (after_write 0 bytes image h)) left → IsReplaced image (set image 0 bytes) left (bytes ∷ h.firsts)
torn_replaced image left bytes h none firsts some l = record {
  contents = (inr first, subst (AllByRecursion (IsOldOrNewFirst image (set image 0 bytes))) (sym firsts) (firsts_old image (set image 0 bytes)));
  others = kept;
  outcome = λ chance.
      ⊎_elim
      (λ among. ⊎_elim
      (λ new. inr (inl (same_image left (set image 0 bytes) (kept.number ∙ sym (length-set image 0 bytes))
      (λ b past. kept.others b past ∙ sym ((others_set image bytes).others b past))
      (new ∙ first))))
      (λ was. inl (same_image left image kept.number kept.others (among_first image (block_at left 0) (subst (λ (f : Image). IsAmong f (block_at left 0)) firsts was))))
      among)
      (λ no_super. inr (inr (no_super, kept)))
      chance;
}
  where
    kept : MayChange 0 image left
    kept = others_left image left (present_moment image (after_write 0 bytes image h)) refl (ap (λ (us : List ℕ). 0 ∷ us) none) l

    first : bytes ≡ block_at (set image 0 bytes) 0
    first = first_set image bytes some

pub replaced_here : (image made : Image) (old : DeviceState) → HoldsSynced image old → LeavesNow (IsReplaced image made) old
replaced_here image made old synced left firsts leaves =
    let now = left_now old image left firsts synced.held leaves in
    replaced_none image made left firsts (left_synced image left (present_moment image old.history) refl synced.unsynced now.0) (now.1 ∙ synced.firsts)

pub replaced_write : (image : Image) (bytes : List ℕ) {old new : DeviceState} → HoldsSynced image old → 1 ≤ length image → IfSome old.held (λ i. MayWrite 0 bytes i old new)
    → is_some new.held ≡ is_some old.held → IfSome old.held (λ i. IfSome new.held (MayChange 0 i)) → LeavesOnly (IsReplaced image (set image 0 bytes)) old new
replaced_write image bytes {old} {new} synced some crash told others =
    writes 0 bytes crash told others (replaced_here image (set image 0 bytes) old synced) (λ i held left l.
    let same : i ≡ image = same_Some i image (sym held ∙ synced.held) in
    subst (λ (j : Image). IsLeft (present_moment j (after_write 0 bytes j old.history)) left → IsReplaced image (set image 0 bytes) left (bytes ∷ old.history.firsts)) (sym same)
    (λ l'. torn_replaced image left bytes old.history synced.unsynced synced.firsts some l') l)

pub replaced_last : (image : Image) (bytes : List ℕ) {old mid new : DeviceState} (ok : Bool) → LeavesOnly (IsReplaced image (set image 0 bytes)) old mid
    → mid.held ≡ Some (set image 0 bytes)
    → IfSome mid.held (λ i. new.history ≡ cond ok (after_sync i mid.history) mid.history) → new.held ≡ mid.held → LeavesOnly (IsReplaced image (set image 0 bytes)) old new
replaced_last image bytes {old} {mid} {new} ok so_far held crash same =
    and_then so_far (syncs ok crash same so_far.now (λ i is. replaced_whole image bytes i (same_Some i (set image 0 bytes) (sym is ∙ held))))

-- The calls of a draft, one after another.

pub keeps_place : {a b c : DeviceState} → KeepsPlace a b → KeepsPlace b c → KeepsPlace a c
keeps_place first second = record {
  access = second.access ∙ first.access;
  path = second.path ∙ first.path;
  blocks = second.blocks ∙ first.blocks;
}

-- before the first call
pub closed_start : (device : DeviceState) → IsClosed device → StaysClosed device device
closed_start device closed = record { crash = stays refl refl closed; told = refl; kept = record { access = refl; path = refl; blocks = refl } }

-- one call more
pub closed_then : {a b c : DeviceState} → StaysClosed a b → StaysClosed b c → StaysClosed a c
closed_then first second = record {
  crash = and_then first.crash second.crash;
  told = second.told ∙ first.told;
  kept = keeps_place first.kept second.kept;
}

-- Runs of puts.

pub placed-append : (image : Image) (place : ℕ) (xs ys : Image) → placed image place (xs ++ ys) ≡ placed (placed image place xs) (place + length xs) ys
unfolding placed
placed-append image place [] ys = ap (λ (p : ℕ). placed image p ys) (omega arith)
placed-append image place (x ∷ xs) ys =
    placed-append (set image place x) (place + 1) xs ys
    ∙ ap (λ (p : ℕ). placed (placed (set image place x) (place + 1) xs) p ys) (omega arith)

-- they stand between what was before them and behind them
pub placed_between : (image : Image) (place : ℕ) (blocks : Image) → place + length blocks ≤ length image
    → placed image place blocks ≡ take place image ++ (blocks ++ drop (place + length blocks) image)
unfolding placed
placed_between image place [] room = let none : place + 0 ≡ place = omega arith in rw none (sym (take-append-drop place image))
placed_between image place (x ∷ xs) room =
    let within : place < length image = omega arith in
    let same = length-set image place x in
    let next : place + 1 + length xs ≡ place + suc (length xs) = omega arith in
    placed_between (set image place x) (place + 1) xs (rw same (omega arith))
    ∙ (ap₂ (λ (front back : Image). front ++ (xs ++ back)) (rw add-one (take-suc-set image place x within))
    (drop-set-lt (place + 1 + length xs) image place x (omega arith) ∙ ap (λ (n : ℕ). drop n image) next)
    ∙ append_assoc (take place image) (x ∷ []) (xs ++ drop (place + suc (length xs)) image))

both_placed : (was mid new : Option Image) (place : ℕ) (next : ℕ) (xs ys : Image) → next ≡ place + length xs
    → IfSome was (λ image. mid ≡ Some (placed image place xs)) → IfSome mid (λ image. new ≡ Some (placed image next ys))
    → IfSome was (λ image. new ≡ Some (placed image place (xs ++ ys)))
both_placed None mid new place next xs ys at first second = tt
both_placed (Some image) mid new place next xs ys at first second =
    at_some mid (λ (i : Image). new ≡ Some (placed i next ys)) (placed image place xs) first second
    ∙ ap (λ (i : Image). Some i) (ap (λ (p : ℕ). placed (placed image place xs) p ys) at ∙ sym (placed-append image place xs ys))

same_placed : (was : Option Image) (place : ℕ) → IfSome was (λ image. was ≡ Some (placed image place []))
unfolding placed
same_placed None place = tt
same_placed (Some image) place = refl

-- before the first put
pub wrote_none : (draft_state : DraftState) → IsClosed draft_state.device → Wrote [] draft_state draft_state
wrote_none draft_state closed = record {
  moved = omega arith;
  content = same_placed draft_state.device.held draft_state.place;
  stays = closed_start draft_state.device closed;
  faults = refl;
}

-- one run after another
pub wrote_then : {xs ys : List (List ℕ)} {a b c : DraftState} → Wrote xs a b → Wrote ys b c → Wrote (xs ++ ys) a c
wrote_then {xs} {ys} {a} {b} {c} first second = record {
  moved = let sum = length-append xs ys in omega (arith, first.moved, second.moved);
  content = both_placed a.device.held b.device.held c.device.held a.place b.place xs ys first.moved first.content second.content;
  stays = closed_then first.stays second.stays;
  faults = second.faults ∙ first.faults;
}

one_placed : (was new : Option Image) (place : ℕ) (block : List ℕ) → IfSome was (λ image. new ≡ Some (set image place block))
    → IfSome was (λ image. new ≡ Some (placed image place (block ∷ [])))
unfolding placed
one_placed None new place block put = tt
one_placed (Some image) new place block put = put

-- one put
pub wrote_one : (block : List ℕ) (old new : DraftState) → new.place ≡ old.place + 1
    → IfSome old.device.held (λ image. new.device.held ≡ Some (set image old.place block))
    → StaysClosed old.device new.device → new.device.faults ≡ old.device.faults → Wrote (block ∷ []) old new
wrote_one block old new moved content stays faults = record {
  moved = moved;
  content = one_placed old.device.held new.device.held old.place block content;
  stays = stays;
  faults = faults;
}
