-- What a rehearsal comes to: the restore, and then the check and the dump, which only read.
use Rattle.std.proofs.Common.{◌≡◌, ℕ, ◌≤◌, length, Option, Some, None, IfSome, IsSome, Result, Ok, Err, refl, sym, ap, subst, ◌∙◌, arith}
use Rattle.std.specs.Prelude.{MatchResult}
use Rattle.pd_kinds.specs.declared.limits.TheConstants.{MAX_META_BLOCKS}
use Rattle.pd_kinds.specs.Crash.{HoldsSynced, IsOldNoneOrMade, IsUntouched, LeavesOnly}
use Rattle.pd_kinds.specs.Graph.{block_at}
use Rattle.pd_kinds.specs.Image.{room_of}
use Rattle.pd_kinds.specs.Meaning.{ThinPool}
use Rattle.pd_kinds.specs.Objects.{History, DeviceState}
use Rattle.pd_kinds.specs.ThinFormat.{thin_fields}
use Rattle.pd_kinds.proofs.CrashLemmas.{and_then, stays, tells_same, Image}
use Rattle.pd_grammar.specs.Spelling.{Verdict, accepted, refused, no_room}
use Rattle.pd_grammar.specs.Need.{thin_need}
use Rattle.pd_laid.specs.Laid.{IsLaid, Makes}
use Rattle.pd_laid.specs.LaidThin.{laid_pool, laid_shape}
use Rattle.pd_laid.specs.Shape.{ThinShape}
use Rattle.pd_laid.specs.PoolText.{IsPoolTextVerdict, shape_need}
use Rattle.pd_answers.specs.Rehearsals.{generated_text, AreNumbers}
use Rattle.pd_image.specs.Device.{OnlyReads}
use Rattle.pd_gen.specs.Lines.{generated_pool}
use Rattle.pd_gen.specs.declared.rehearsal.RehearseFault.{RehearseFault}
use Rattle.pd_gen.specs.declared.rehearsal.Rehearsal.{Rehearsal}
use Rattle.pd_gen.specs.Rehearsed.{IsCountOfPool, FindsFaults, HasFaults, IsFaulty, IsReported, IsTurnedDown, Rehearses, found_of, AnswersFault, RestoresText}
use Rattle.pd_gen.proofs.GeneratedShape.{generated_shape, has_room, lawful, need_is, only_shape, numbers_of}
use Rattle.pd_gen.specs.declared.rehearsal.RehearseFault.TheVariants as f
use Rattle.pd_laws_laid.specs.Clean.{IsCleanPool}
use Rattle.pd_laws_laid.proofs.ThinLaw.{meaning_law, takes_need}
use Rattle.pd_laws_laid.proofs.ThinSuper.{used_is}

-- the restore came to its end
abbrev pub done : Result (Unit {0}) RehearseFault
done = Ok tt

-- what is right of the result, by the numbers of a shape
abbrev Finds : Result Rehearsal RehearseFault → ℕ → Verdict ThinShape → Type 0
Finds result room v = MatchResult result (λ r. AreNumbers v (found_of room v r)) (λ fault. IsFaulty fault → ⊥)

-- of what means the generator's pool
finds_pool : (number : ℕ) → number ≤ 10000 → (room : ℕ) (now : Image) → (thin_fields (block_at now 0)).meta_map.allocated ≡ shape_need (generated_shape number) room
    → (result : Result Rehearsal RehearseFault) → MatchResult result (IsCountOfPool now (generated_pool number)) (λ fault. IsFaulty fault → ⊥) → Finds result room (accepted (generated_shape number))
finds_pool number few room now used (Ok r) counted = numbers_of number few room (accepted (generated_shape number)) r (counted.used ∙ used) counted.counts
finds_pool number few room now used (Err fault) counted = counted

module _ (number : ℕ) (few : number ≤ 10000) (result : Result Rehearsal RehearseFault) where
  -- what was laid of the generator's pool is found
  finds_laid : (image now : Image) → IsPoolTextVerdict (generated_text number) (room_of (length image)) (accepted (generated_shape number))
      → IsLaid (laid_shape (generated_shape number) (room_of (length image))) image now
      → ((m : ThinPool) → IsCleanPool now m → MatchResult result (IsCountOfPool now m) (λ fault. IsFaulty fault → ⊥))
      → Finds result (room_of (length image)) (accepted (generated_shape number))
  unfolding laid_pool
  finds_laid image now right laid counted =
      let m = generated_pool number in
      let room = room_of (length image) in
      let limit : room ≤ MAX_META_BLOCKS = omega arith in
      let is_lawful = lawful number few in
      let need = need_is number few room in
      let some : thin_need m room ≤ room = omega (arith, need, has_room number few room right) in
      let laid_need = takes_need m room is_lawful limit some in
      let used = used_is m image now is_lawful (omega (arith, laid_need, some)) laid in
      finds_pool number few room now (used ∙ (laid_need ∙ sym need)) result (counted m (meaning_law m image now is_lawful some laid))

  -- and so what was made of its text
  finds_made : (image now : Image) (v : Verdict ThinShape) → IsPoolTextVerdict (generated_text number) (room_of (length image)) v
      → Makes laid_shape (room_of (length image)) v image now
      → ((m : ThinPool) → IsCleanPool now m → MatchResult result (IsCountOfPool now m) (λ fault. IsFaulty fault → ⊥))
      → Finds result (room_of (length image)) v
  finds_made image now (accepted w) right laid counted =
      let only = only_shape number few (room_of (length image)) w right in
      rw only (finds_laid image now (rw only at right) (rw only at laid) counted)
  finds_made image now (refused why) right laid counted = absurd laid
  finds_made image now (no_room needed blocks) right laid counted = absurd laid

  finds_in : (image now : Image) (blocks : ℕ) (v : Verdict ThinShape) → length image ≡ blocks → IsPoolTextVerdict (generated_text number) (room_of blocks) v
      → Makes laid_shape (room_of blocks) v image now
      → ((m : ThinPool) → IsCleanPool now m → MatchResult result (IsCountOfPool now m) (λ fault. IsFaulty fault → ⊥))
      → Finds result (room_of blocks) v
  finds_in image now blocks v same right laid counted =
      rw (← same) (finds_made image now v (rw (← same) at right) (rw (← same) at laid) counted)

  module _ (old mid new : DeviceState) (measured : IfSome old.held (λ image. length image ≡ old.blocks)) (restored : RestoresText number done old mid) (kept : OnlyReads mid new)
      (counted : (m : ThinPool) (image : Image) → mid.held ≡ Some image → IsCleanPool image m → MatchResult result (IsCountOfPool image m) (λ fault. IsFaulty fault → ⊥)) where
    -- what was held is told, and what is made is held then
    told_in : (o : Option Image) (P : Image → Type 0) → IsSome o → IfSome o P → (now : Image) × ((o ≡ Some now) × P now)
    told_in None P some all = absurd (cc)
    told_in (Some now) P some all = (now, (refl, all))

    numbers : (image : Image) → old.held ≡ Some image → Finds result (room_of old.blocks) restored.verdict
    numbers image held =
        let now = told_in mid.held (λ now. Makes laid_shape (room_of old.blocks) restored.verdict image now × HoldsSynced now mid) (rw held at restored.told) (rw held at restored.made) in
        let blocks : length image ≡ old.blocks = rw held at measured in
        finds_in image now.0 old.blocks restored.verdict blocks restored.right now.1.1.0 (λ m clean. counted m now.0 now.1.0 clean)

    -- the device after the check and the dump
    crash : (image : Image) → HoldsSynced image old → LeavesOnly (IsOldNoneOrMade image (Makes laid_shape (room_of old.blocks) restored.verdict image)) old new
    crash image synced = let first = restored.crash image synced in and_then first (stays {old = mid} {new = new} kept.held kept.history first.now)

    still_synced : (image : Image) → HoldsSynced image mid → HoldsSynced image new
    still_synced image synced = record {
      held = kept.held ∙ synced.held;
      unsynced = ap (λ (h : History). h.unsynced) kept.history ∙ synced.unsynced;
      firsts = ap (λ (h : History). h.firsts) kept.history ∙ synced.firsts;
    }

    made_in : (o : Option Image) (P Q : Image → Type 0) → ((x : Image) → P x → Q x) → IfSome o P → IfSome o Q
    made_in None P Q each all = tt
    made_in (Some x) P Q each all = each x all

    made : IfSome old.held (λ image. IfSome new.held (λ now. Makes laid_shape (room_of old.blocks) restored.verdict image now × HoldsSynced now new))
    made =
        made_in old.held (λ image. IfSome mid.held (λ now. Makes laid_shape (room_of old.blocks) restored.verdict image now × HoldsSynced now mid)) _
        (λ image all. subst (λ (o : Option Image). IfSome o (λ now. Makes laid_shape (room_of old.blocks) restored.verdict image now × HoldsSynced now new)) (sym kept.held)
        (made_in mid.held (λ now. Makes laid_shape (room_of old.blocks) restored.verdict image now × HoldsSynced now mid) _ (λ now is. (is.0, still_synced now is.1)) all)) restored.made

    untouched : IsUntouched old mid → IsUntouched old new
    untouched same = record { held = kept.held ∙ same.held; history = kept.history ∙ same.history }

    answer : (fault : RehearseFault) → HasFaults fault → AnswersFault fault restored.verdict
    answer f.Memory has = tt
    answer f.Device has = tt
    answer (f.NoRoom need blocks) has = absurd has
    answer (f.Faulty report) has = restored.answer

    not_down : (fault : RehearseFault) → HasFaults fault → IsTurnedDown fault → ⊥
    not_down f.Memory has down = down
    not_down f.Device has down = down
    not_down (f.NoRoom need blocks) has down = has
    not_down (f.Faulty report) has down = down

    restores : (result : Result Rehearsal RehearseFault) → FindsFaults result → RestoresText number result old new
    restores (Ok r) finds = record {
      verdict = restored.verdict;
      right = restored.right;
      answer = restored.answer;
      crash = crash;
      made = made;
      told = tells_same old mid new restored.told kept.held;
      kept = tt;
      untouched = λ early. untouched (restored.untouched early);
    }
    restores (Err fault) finds = record {
      verdict = restored.verdict;
      right = restored.right;
      answer = answer fault finds;
      crash = crash;
      made = tt;
      told = tells_same old mid new restored.told kept.held;
      kept = λ down. absurd (not_down fault finds down);
      untouched = λ early. untouched (restored.untouched early);
    }

-- a report of faults has some
reported : (fault : RehearseFault) → HasFaults fault → IsReported fault
reported f.Memory has = tt
reported f.Device has = tt
reported (f.NoRoom need blocks) has = tt
reported (f.Faulty report) has = has

-- what isn't a report of faults
pub unreported : (fault : RehearseFault) → (IsFaulty fault → ⊥) → IsReported fault
unreported f.Memory none = tt
unreported f.Device none = tt
unreported (f.NoRoom need blocks) none = tt
unreported (f.Faulty report) none = absurd (none tt)

-- a restore that failed
pub restores_not : (number : ℕ) (fault : RehearseFault) (old new : DeviceState) → RestoresText {T = Unit {0}} number (Err fault) old new → RestoresText {T = Rehearsal} number (Err fault) old new
restores_not number fault old new restored = record {
  verdict = restored.verdict;
  right = restored.right;
  answer = restored.answer;
  crash = restored.crash;
  made = tt;
  told = restored.told;
  kept = restored.kept;
  untouched = restored.untouched;
}

pub rehearses : (number : ℕ) (few : number ≤ 10000) (result : Result Rehearsal RehearseFault) (old mid new : DeviceState) → IfSome old.held (λ image. length image ≡ old.blocks)
    → RestoresText number done old mid → OnlyReads mid new
    → ((m : ThinPool) (image : Image) → mid.held ≡ Some image → IsCleanPool image m → MatchResult result (IsCountOfPool image m) (λ fault. IsFaulty fault → ⊥))
    → FindsFaults result → Rehearses number result old new
unfolding restores
rehearses number few (Ok r) old mid new measured restored kept counted finds = record {
  restores = restores number few (Ok r) old mid new measured restored kept counted (Ok r) finds;
  numbers = numbers number few (Ok r) old mid new measured restored kept counted;
  reported = tt;
}
rehearses number few (Err fault) old mid new measured restored kept counted finds = record {
  restores = restores number few (Err fault) old mid new measured restored kept counted (Err fault) finds;
  numbers = numbers number few (Err fault) old mid new measured restored kept counted;
  reported = reported fault finds;
}
