-- Trusted base.
-- The terms of a restore, for each kind.
use Rattle.std.specs.Prelude.{◌≡◌, ℕ, ◌≤◌, Bool, List, [], ◌∷◌, IfSome}
use Rattle.pd_kinds.specs.declared.kind.Kind.{Kind}
use Rattle.pd_kinds.specs.declared.kind.Kind.TheVariants.{Thin, Cache, Era}
use Rattle.pd_kinds.specs.Crash.{IsUntouched}
use Rattle.pd_kinds.specs.Objects.{DeviceState}
use Rattle.pd_grammar.specs.Spelling.{Verdict, accepted, refused, no_room}
use Rattle.pd_grammar.specs.Early.{is_cache_early, is_era_early}
use Rattle.pd_grammar.specs.CacheText.{IsCacheVerdict}
use Rattle.pd_grammar.specs.EraText.{IsEraVerdict}
use Rattle.pd_grammar.specs.Lines.{refusal_line, no_room_line}
use Rattle.pd_laid.specs.Laid.{Laid, Makes}
use Rattle.pd_laid.specs.LaidThin.{laid_shape}
use Rattle.pd_laid.specs.LaidCache.{laid_cache}
use Rattle.pd_laid.specs.LaidEra.{laid_era}
use Rattle.pd_laid.specs.PoolText.{IsPoolTextVerdict, is_pool_text_early}
use Rattle.pd_answers.specs.Terms.{Answer, reading, writing, any_reads, Terms, unnamed}
use Rattle.pd_answers.specs.Outputs.{IsRoom, LeavesMadeLast}

-- what a restore finds: how many blocks there are for metadata, the verdict on the text, and whether the first two
-- lines of the text decide it
pub record Judged (M : Type 0) : Type 0 where
  pub room : ℕ
  pub verdict : Verdict M
  pub is_early : Bool

-- a restore puts nothing but the refusal of a line, or what was needed
abbrev pub restore_answer : {M : Type 0} → Verdict M → Answer
restore_answer (accepted m) = record { status = 0; out = []; notes = [] }
restore_answer (refused why) = record { status = 3; out = []; notes = refusal_line why }
restore_answer (no_room needed blocks) = record { status = 4; out = []; notes = no_room_line needed blocks }

-- line 1 or 2 is refused
abbrev pub IsRefusedEarly : {M : Type 0} → Verdict M → Type 0
IsRefusedEarly (accepted m) = ⊥
IsRefusedEarly (refused why) = why.line ≤ 2
IsRefusedEarly (no_room needed blocks) = ⊥

-- what a restore leaves of its output
pub record LeavesRestored {M : Type 0} (laid : M → ℕ → Laid) (judged : Judged M) (status : ℕ) (old new : DeviceState) : Type 0 where
  pub output : LeavesMadeLast (Makes laid judged.room judged.verdict) judged.is_early status old new
  -- the refusal of line 1 or 2 leaves it alone, also where the source doesn't tell its text
  pub first_lines : status ≡ 3 → IsRefusedEarly judged.verdict → IsUntouched old new

-- a restore from a file: the verdict rests on its text, and on the room of the output
abbrev pub restore_by : {M : Type 0} → (List ℕ → ℕ → Verdict M → Type 0) → (List ℕ → ℕ → Bool) → (M → ℕ → Laid) → List ℕ → List ℕ → Terms
restore_by {M} IsVerdictOn is_early laid file path = record {
  uses = record unnamed { source = reading file; output = writing path };
  Finding = Judged M;
  finds = λ before after judged. IsRoom before.output after.output judged.room
      × IfSome before.source.left (λ text. IsVerdictOn text judged.room judged.verdict × (judged.is_early ≡ is_early text judged.room));
  answer = λ judged. restore_answer judged.verdict;
  statuses = 0 ∷ 3 ∷ 4 ∷ 5 ∷ 7 ∷ [];
  memory = λ before. Unit {0};
  silent = [];
  spared = λ _. ⊥;
  reads = any_reads;
  leaves = λ judged before after status. LeavesRestored laid judged status before.output after.output;
}

-- A restore of each kind: a pool from a text of either version, with the leaves shared that the text tells once; only a
-- cache is restored in more than one version of its metadata
abbrev pub restore : Kind → ℕ → List ℕ → List ℕ → Terms
restore Thin version file path = restore_by IsPoolTextVerdict is_pool_text_early laid_shape file path
restore Cache version file path =
    restore_by (IsCacheVerdict version) (is_cache_early version) (λ m room. laid_cache m version room) file path
restore Era version file path = restore_by IsEraVerdict is_era_early laid_era file path
