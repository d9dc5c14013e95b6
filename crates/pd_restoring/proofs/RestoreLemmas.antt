-- A restore, put together from its first two lines, the closing of block 0 and the rest.
use Rattle.std.proofs.Common.{◌≡◌, ◌⊎◌, inl, inr, ℕ, ◌<◌, ◌≤◌, Bool, true, set, List, [], ◌∷◌, length, Option, Some, None, IfSome, Result, Ok, Err, refl, sym, ap, ◌∙◌, arith, subst}
use Rattle.std.specs.Prelude.{MatchResult, nat_lt, IfErr, is_some}
use Rattle.std.specs.Option.{option_map_or}
use Rattle.std.proofs.lemmas.Bool.{both_ways, le-ltb}
use Rattle.pd_kinds.specs.Crash.{HasNoSuper, HoldsOldOrNone, HoldsSynced, IsOldNoneOrMade, IsOldOrNone, LeavesOnly, IsNoneOrNew}
use Rattle.pd_kinds.specs.Field.{zeros}
use Rattle.pd_kinds.specs.Image.{room_of}
use Rattle.pd_kinds.specs.Objects.{present_moment, DeviceState, SourceState}
use Rattle.pd_kinds.proofs.CrashLemmas.{stays, still_tells, left_now, left_synced, Image, and_then, weaken}
use Rattle.pd_kinds.specs.declared.block.Block.{Block}
use Rattle.pd_grammar.specs.Spelling.{Verdict, accepted, refused, no_room, need_above_room}
use Rattle.pd_grammar.specs.Early.{is_decided_early}
use Rattle.pd_grammar.specs.Texts
use Rattle.pd_laid.specs.Laid.{Makes, Laid, written_from}
use Rattle.pd_image.proofs.CrashLemmas.{at_some}
use Rattle.pd_draft.specs.Closed.{StaysClosed, DraftState, Wrote, placed}
use Rattle.pd_draft.proofs.DraftLemmas.{zeros_none}
use Rattle.pd_restoring.specs.declared.fault.RestoreFault.{RestoreFault}
use Rattle.pd_restoring.specs.Reading.{BeginsOf, BeginsWith, BlamesSource, IsOfLater, SaysOf}
use Rattle.pd_restoring.specs.Restored.{AnswersFault, IsOfFirstLines, IsOfOthers, Subject, IsVerdictOf, HasVerdicts, Commits, CommitsSynced, Tries, ShutBy, Restores, Lays, LaysOver, made_of, Writes}
use Rattle.pd_restoring.proofs.MakingLemmas.{closed_crash, closed_kept, laid_crash, laid_synced, older, where_told}
use Rattle.pd_restoring.proofs.ReadingLemmas.{above_here}
use Rattle.pd_restoring.specs.declared.fault.RestoreFault.TheVariants as r

-- a text that is told
text_in : Option (List ℕ) → List ℕ
text_in left = option_map_or (λ (text : List ℕ). text) left []

at_text : (left : Option (List ℕ)) (P : List ℕ → Type 0) → P (text_in left) → IfSome left P
unfolding text_in
at_text None P is = tt
at_text (Some text) P is = is

both_told : (left : Option (List ℕ)) (P Q : List ℕ → Type 0) → IfSome left P → IfSome left Q → IfSome left (λ t. P t × Q t)
both_told None P Q p q = tt
both_told (Some text) P Q p q = (p, q)

-- the device as it was
pub at_rest : (image : Image) (Made : Image → Type 0) (device : DeviceState) → HoldsSynced image device → LeavesOnly (IsOldNoneOrMade image Made) device device
at_rest image Made device synced =
    stays refl refl (λ left firsts leaves chance. inl (left_synced image left (present_moment image device.history) refl synced.unsynced (left_now device image left firsts synced.held leaves).0))

pub kept_same : (held : Option Image) → IfSome held (λ image. IfSome held (λ now. (now ≡ image) ⊎ HasNoSuper now))
kept_same None = tt
kept_same (Some image) = inl refl

-- a later line is none of the first two
not_first : (fault : RestoreFault) → IsOfLater fault → IsOfFirstLines fault → ⊥
not_first r.Memory later first = first
not_first r.Source later first = first
not_first r.Device later first = first
not_first (r.Text fault) later first = omega arith
not_first (r.NoRoom need blocks) later first = first

-- a fault that says nothing of the text
IsSilent : RestoreFault → Type 0
IsSilent r.Memory = Unit {0}
IsSilent r.Source = Unit {0}
IsSilent r.Device = Unit {0}
IsSilent (r.Text fault) = ⊥
IsSilent (r.NoRoom need blocks) = ⊥

silent_answer : {M : Type 0} (fault : RestoreFault) (v : Verdict M) → IsSilent fault → AnswersFault fault v
unfolding IsSilent
silent_answer r.Memory v is = tt
silent_answer r.Source v is = tt
silent_answer r.Device v is = tt
silent_answer (r.Text fault) v is = absurd is
silent_answer (r.NoRoom need blocks) v is = absurd is

module _ {L M : Type 0} (k : Subject L M) where
  -- whether the first two lines decide
  abbrev is_early : List ℕ → ℕ → Bool
  is_early text room = is_decided_early (k.need room) room (Texts.reading k.format text).lines

  -- a fault before the device is written
  unwritten : (fault : RestoreFault) (from to : SourceState) (old : DeviceState) (v : Verdict M) (early : Bool)
      → IfSome from.left (λ t. IsVerdictOf k t (room_of old.blocks) v × (early ≡ is_early t (room_of old.blocks))) → AnswersFault fault v → Restores k (Err fault) from to old old
  unwritten fault from to old v early right answer = record {
    verdict = v;
    early = early;
    right = right;
    answer = answer;
    crash = λ image synced. at_rest image (Makes k.laid (room_of old.blocks) v image) old synced;
    made = tt;
    told = still_tells old old refl;
    kept = λ _. kept_same old.held;
    first_lines = λ _. record { held = refl; history = refl };
    untouched = λ _. record { held = refl; history = refl };
    ended = tt;
  }

  early_told : (left : Option (List ℕ)) (room : ℕ) → IfSome left (λ t. is_early (text_in left) room ≡ is_early t room)
  early_told left room = at_text left (λ t. is_early (text_in left) room ≡ is_early t room) refl

  silent_unwritten : HasVerdicts k → (fault : RestoreFault) (from to : SourceState) (old : DeviceState) → IsSilent fault → Restores k (Err fault) from to old old
  silent_unwritten verdicts fault from to old silent =
      let room = room_of old.blocks in
      let found = verdicts (text_in from.left) room in
      unwritten fault from to old found.0 (is_early (text_in from.left) room)
      (both_told from.left (λ t. IsVerdictOf k t room found.0) (λ t. is_early (text_in from.left) room ≡ is_early t room)
      (at_text from.left (λ t. IsVerdictOf k t room found.0) found.1) (early_told from.left room)) (silent_answer fault found.0 silent)

  -- the first two lines weren't read
  pub never_begun : HasVerdicts k → (fault : RestoreFault) (from to : SourceState) (old : DeviceState) → BlamesSource fault from.faults to.faults
      → ((t : List ℕ) → from.left ≡ Some t → (room : ℕ) → BeginsOf k.format k.need room t fault) → Restores k (Err fault) from to old old
  unfolding IsSilent
  never_begun verdicts r.Memory from to old blames told = silent_unwritten verdicts r.Memory from to old tt
  never_begun verdicts r.Device from to old blames told = absurd blames
  never_begun verdicts (r.NoRoom need blocks) from to old blames told = absurd blames
  never_begun verdicts r.Source from to old blames told = silent_unwritten verdicts r.Source from to old tt
  never_begun verdicts (r.Text fault) from to old blames told =
      let room = room_of old.blocks in
      let why : Texts.Refusal = record { line = fault.line; cause = fault.cause } in
      unwritten (r.Text fault) from to old (refused why) (is_early (text_in from.left) room)
      (both_told from.left (λ t. IsVerdictOf k t room (refused why)) (λ t. is_early (text_in from.left) room ≡ is_early t room)
      (where_told from.left (λ t. IsVerdictOf k t room (refused why)) (λ t is. told t is room)) (early_told from.left room)) refl

  -- a text that begins with these lines
  module _ (room : ℕ) (t : List ℕ) (lines : List L) (begins : BeginsWith k.format t lines) where
    early_is : nat_lt room (k.need room lines) ≡ is_early t room
    early_is =
        ap (λ (ls : List L). nat_lt room (k.need room ls)) begins.are ∙ ap (λ (ls : List L). is_decided_early (k.need room) room ls) (sym begins.is)

    over_says : room < k.need room lines → need_above_room (k.need room) room [] (Texts.reading k.format t).lines ≡ Some (k.need room lines)
    over_says less =
        let same = ap (k.need room) begins.are in
        ap (λ (ls : List L). need_above_room (k.need room) room [] ls) begins.is
        ∙ (above_here k.need room (begins.first ∷ []) begins.rest begins.second (λ lines. refl) (omega arith) (omega arith) ∙ ap (λ (n : ℕ). Some n) (sym same))

  -- once the first two lines were read
  module _ (lines : List L) (IsOf : List ℕ → Type 0) (from to : SourceState) (old : DeviceState) (begins : (t : List ℕ) → from.left ≡ Some t → BeginsWith k.format t lines) where
    abbrev room : ℕ
    room = room_of old.blocks

    abbrev need : ℕ
    need = k.need room lines

    abbrev early : Bool
    early = nat_lt room need

    early_right : IfSome from.left (λ t. early ≡ is_early t room)
    early_right = where_told from.left (λ t. early ≡ is_early t room) (λ t is. early_is room t lines (begins t is))

    right_of : (v : Verdict M) → IfSome from.left (λ t. IsVerdictOf k t room v) → IfSome from.left (λ t. IsVerdictOf k t room v × (early ≡ is_early t room))
    right_of v is = both_told from.left (λ t. IsVerdictOf k t room v) (λ t. early ≡ is_early t room) is early_right

    -- there is no room for them
    pub begun_no_room : (needed : ℕ) → needed ≡ need → room < needed → Restores k (Err (r.NoRoom needed room)) from to old old
    begun_no_room needed is less =
        unwritten (r.NoRoom needed room) from to old (no_room needed room) early
        (right_of (no_room needed room) (where_told from.left (λ t. IsVerdictOf k t room (no_room needed room))
        (λ t told. (over_says room t lines (begins t told) (omega arith) ∙ ap (λ n. Some n) (sym is), refl)))) (refl, refl)

    module _ (told : (t : List ℕ) → from.left ≡ Some t → IsOf t) (fits : need ≤ room) (mid new : DeviceState)
        (as_told : is_some new.held ≡ is_some old.held) where
      not_early : early ≡ true → ⊥
      not_early e = absurd (both_ways early (le-ltb room need fits) e)

      -- the device was written, and a fault came
      begun_fault : (fault : RestoreFault) (v : Verdict M) → IfSome from.left (λ t. IsVerdictOf k t room v) → AnswersFault fault v
          → ((image : Image) → HoldsSynced image old → LeavesOnly (IsOldNoneOrMade image (Makes k.laid room v image)) old new)
          → (IsOfOthers fault → HoldsOldOrNone old new) → IsOfLater fault → Restores k (Err fault) from to old new
      begun_fault fault v is answer crash kept later = record {
        verdict = v;
        early = early;
        right = right_of v is;
        answer = answer;
        crash = crash;
        made = tt;
        told = still_tells old new as_told;
        kept = kept;
        first_lines = λ first. absurd (not_first fault later first);
        untouched = λ e. absurd (not_early e);
        ended = tt;
      }

      -- block 0 wasn't closed
      pub begun_unclosed : HasVerdicts k → ((image : Image) → HoldsSynced image old → LeavesOnly (IsOldOrNone image) old new) → Restores k (Err r.Device) from to old new
      begun_unclosed verdicts first =
          let found = verdicts (text_in from.left) room in
          begun_fault r.Device found.0 (at_text from.left (λ t. IsVerdictOf k t room found.0) found.1) tt (λ image synced. older (first image synced)) (λ none. absurd none) tt

      module _ (first : (image : Image) → HoldsSynced image old → LeavesOnly (IsOldOrNone image) old mid)
          (content : IfSome old.held (λ image. mid.held ≡ Some (set image 0 zeros))) (measured : IfSome old.held (λ image. length image ≡ old.blocks)) where
        -- block 0 stayed closed, or all was written and then the superblock
        stays_closed : StaysClosed mid new → (Made : Image → Image → Type 0) → (image : Image) → HoldsSynced image old → LeavesOnly (IsOldNoneOrMade image (Made image)) old new
        stays_closed stays Made image synced = closed_crash old mid new first content measured stays Made image synced

        commit_crash : {left : Option (List ℕ)} → (done : Commits k room IsOf left mid new) → (image : Image) → HoldsSynced image old
            → LeavesOnly (IsOldNoneOrMade image (Makes k.laid room (accepted done.meaning) image)) old new
        commit_crash done image synced =
            let number = done.fits in laid_crash old mid new first content measured (k.laid done.meaning room) (omega arith) done.crash image synced

        -- all was committed
        begun_done : CommitsSynced k room IsOf to.left mid new → Restores k (Ok tt) from to old new
        begun_done done =
            let m = done.commits.meaning in record {
              verdict = accepted m;
              early = early;
              right = right_of (accepted m) (where_told from.left (λ t. IsVerdictOf k t room (accepted m)) (λ t is. (done.commits.told t (told t is)).0));
              answer = done.commits.lawful;
              crash = λ image synced. commit_crash done.commits image synced;
              made = let number = done.commits.fits in laid_synced old mid new first content measured (k.laid m room) (omega arith) done.done;
              told = still_tells old new as_told;
              kept = tt;
              first_lines = tt;
              untouched = λ e. absurd (not_early e);
              ended = where_told from.left (λ t. to.left ≡ Some []) (λ t is. (done.commits.told t (told t is)).1);
            }

        silent_closed : HasVerdicts k → (fault : RestoreFault) → IsSilent fault → IsOfLater fault → StaysClosed mid new → Restores k (Err fault) from to old new
        silent_closed verdicts fault silent later stays =
            let found = verdicts (text_in from.left) room in
            begun_fault fault found.0 (at_text from.left (λ t. IsVerdictOf k t room found.0) found.1) (silent_answer fault found.0 silent)
            (stays_closed stays (Makes k.laid room found.0)) (λ _. closed_kept old mid new first content measured stays) later

        -- it wasn't
        begun_failed : HasVerdicts k → (fault : RestoreFault) → Tries k room IsOf to.left mid new → ShutBy fault mid new
            → ((t : List ℕ) → from.left ≡ Some t → SaysOf k.format k.need room t fault) → IsOfLater fault → Restores k (Err fault) from to old new
        unfolding IsSilent
        begun_failed verdicts r.Memory tries shut says later = silent_closed verdicts r.Memory tt tt shut
        begun_failed verdicts r.Source tries shut says later = silent_closed verdicts r.Source tt tt shut
        begun_failed verdicts r.Device (inl closed) shut says later = silent_closed verdicts r.Device tt tt closed
        begun_failed verdicts r.Device (inr done) shut says later =
            begun_fault r.Device (accepted done.meaning) (where_told from.left (λ t. IsVerdictOf k t room (accepted done.meaning)) (λ t is. (done.told t (told t is)).0)) tt
            (λ image synced. commit_crash done image synced) (λ none. absurd none) tt
        begun_failed verdicts (r.Text fault) tries shut says later =
            let why : Texts.Refusal = record { line = fault.line; cause = fault.cause } in
            begun_fault (r.Text fault) (refused why) (where_told from.left (λ t. IsVerdictOf k t room (refused why)) (λ t is. says t is)) refl
            (stays_closed shut (Makes k.laid room (refused why))) (λ _. closed_kept old mid new first content measured shut) later
        begun_failed verdicts (r.NoRoom needed blocks) tries shut says later =
            begun_fault (r.NoRoom needed blocks) (no_room needed blocks) (where_told from.left (λ t. IsVerdictOf k t room (no_room needed blocks)) (λ t is. says t is)) (refl, refl)
            (stays_closed shut (Makes k.laid room (no_room needed blocks))) (λ _. closed_kept old mid new first content measured shut) tt

        -- by the result
        pub begun_result : HasVerdicts k → (result : Result (Unit {0}) RestoreFault)
            → MatchResult result (λ _. CommitsSynced k room IsOf to.left mid new) (λ _. Tries k room IsOf to.left mid new)
            → IfErr result (λ fault. ShutBy fault mid new) → ((t : List ℕ) → from.left ≡ Some t → IfErr result (SaysOf k.format k.need room t)) → IfErr result IsOfLater → Restores k result from to old new
        begun_result verdicts (Ok done) tries shut says later = begun_done tries
        begun_result verdicts (Err fault) tries shut says later = begun_failed verdicts fault tries shut says later

-- A restore, from the closing of block 0 on.

-- puts leave no superblock
none_yet : (made : Image) {old new : DeviceState} → StaysClosed old new → LeavesOnly (IsNoneOrNew made) old new
none_yet made stays = weaken stays.crash (λ image firsts zeroed chance. inl (zeros_none image firsts zeroed))

-- what is held once all is written but the superblock
held_then : {a b : DraftState} (blocks image : Image) → a.place ≡ 1 → Wrote blocks a b → a.device.held ≡ Some image → b.device.held ≡ Some (placed image 1 blocks)
held_then {a} {b} blocks image begin wrote held =
    at_some a.device.held (λ (i : Image). b.device.held ≡ Some (placed i a.place blocks)) image held wrote.content ∙ ap (λ (place : ℕ). Some (placed image place blocks)) begin

-- then the superblock
committed : {a b : DraftState} {c : DeviceState} (laid : Laid) (super_block : List ℕ) → a.place ≡ 1 → super_block ≡ laid.super_block
    → Wrote (written_from 1 laid.blocks) a b → ((image : Image) → b.device.held ≡ Some image → LeavesOnly (IsNoneOrNew (set image 0 super_block)) b.device c)
    → (image : Image) → a.device.held ≡ Some image → LeavesOnly (IsNoneOrNew (made_of laid image)) a.device c
unfolding made_of
committed {a} {b} {c} laid super_block begin is wrote last image held =
    let behind = written_from 1 laid.blocks in
    let made = set (placed image 1 behind) 0 laid.super_block in
    let leaves : LeavesOnly (IsNoneOrNew made) b.device c = rw is at (last (placed image 1 behind) (held_then behind image begin wrote held)) in
    and_then (none_yet made wrote.stays) leaves

-- and what is held and synced then
synced : {a b : DraftState} {c : DeviceState} (laid : Laid) (super_block : List ℕ) → a.place ≡ 1 → super_block ≡ laid.super_block
    → Wrote (written_from 1 laid.blocks) a b → IfSome b.device.held (λ image. HoldsSynced (set image 0 super_block) c)
    → (image : Image) → a.device.held ≡ Some image → HoldsSynced (made_of laid image) c
unfolding made_of
synced {a} {b} {c} laid super_block begin is wrote done image held =
    let behind = written_from 1 laid.blocks in
    rw is at (at_some b.device.held (λ (i : Image). HoldsSynced (set i 0 super_block) c) (placed image 1 behind) (held_then behind image begin wrote held) done)

-- something laid was written, and is committed
module _ (laid : Laid) {a b : DraftState} {old new : DeviceState} (super_block : List ℕ) (same : a.device ≡ old) (begin : a.place ≡ 1) (is : super_block ≡ laid.super_block)
    (wrote : Wrote (written_from 1 laid.blocks) a b) (last : (image : Image) → b.device.held ≡ Some image → LeavesOnly (IsNoneOrNew (set image 0 super_block)) b.device new) where
  pub lays_over : LaysOver laid old new
  lays_over = subst (λ (d : DeviceState). LaysOver laid d new) same (committed {a = a} {b = b} {c = new} laid super_block begin is wrote last)

  pub lays : IfSome b.device.held (λ image. HoldsSynced (set image 0 super_block) new) → Lays laid (Ok tt) old new
  lays done = (
    lays_over,
    subst (λ (d : DeviceState). (image : Image) → d.held ≡ Some image → HoldsSynced (made_of laid image) new) same
        (synced {a = a} {b = b} {c = new} laid super_block begin is wrote done),
  )

-- what was written and is committed
module _ {L M : Type 0} (k : Subject L M) (room : ℕ) (IsOf : List ℕ → Type 0) (left : Option (List ℕ)) {a b : DraftState} {old new : DeviceState} {block : Block} (same : a.device ≡ old) (begin : a.place ≡ 1)
    (w : Writes k room IsOf left a b block) (last : (image : Image) → b.device.held ≡ Some image → LeavesOnly (IsNoneOrNew (set image 0 block.0)) b.device new) where
  pub commits : Commits k room IsOf left old new
  commits = subst (λ (d : DeviceState). Commits k room IsOf left d new) same (record {
    meaning = w.meaning;
    lawful = w.lawful;
    fits = w.fits;
    told = w.told;
    crash = committed {a = a} {b = b} {c = new} (k.laid w.meaning room) block.0 begin w.super_is w.wrote last;
  })

  pub commits_synced : IfSome b.device.held (λ image. HoldsSynced (set image 0 block.0) new) → CommitsSynced k room IsOf left old new
  commits_synced done = subst (λ (d : DeviceState). CommitsSynced k room IsOf left d new) same (record {
    commits = record {
      meaning = w.meaning;
      lawful = w.lawful;
      fits = w.fits;
      told = w.told;
      crash = committed {a = a} {b = b} {c = new} (k.laid w.meaning room) block.0 begin w.super_is w.wrote last;
    };
    done = synced {a = a} {b = b} {c = new} (k.laid w.meaning room) block.0 begin w.super_is w.wrote done;
  })
