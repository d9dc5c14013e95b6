-- Trusted base.
-- The terms of a repair of a pool, without the leaves that its devices share, or with them.
-- The terms of a repair of a cache.
use Rattle.std.specs.Prelude.{◌≡◌, ℕ, Bool, true, false, not, ◌==◌, if◌then◌else◌, List, [], ◌∷◌, IfSome, ◌≢◌, ◌+◌, ◌≤◌, Option}
use Rattle.std.specs.Option.{unwrap_or}
use Rattle.pd_kinds.specs.declared.rule.Fault.{Fault}
use Rattle.pd_kinds.specs.declared.kind.Kind.TheVariants.{Thin, Cache}
use Rattle.pd_kinds.specs.declared.kind.Stage.TheVariants.{Super}
use Rattle.pd_kinds.specs.Crash.{IsUntouched}
use Rattle.pd_kinds.specs.Meaning.{ThinPool, CacheMeaning}
use Rattle.pd_kinds.specs.Objects.{DeviceState}
use Rattle.pd_kinds.specs.Rule.{Reported, report_of}
use Rattle.pd_kinds.specs.Stages.{faults}
use Rattle.pd_kinds.specs.CacheFormat.{cache_fields}
use Rattle.pd_kinds.specs.Graph.{block_at}
use Rattle.pd_grammar.specs.Lines.{reported_lines}
use Rattle.pd_laid.specs.Salvage.{salvage, saved_shape}
use Rattle.pd_laid.specs.Shape.{ThinShape}
use Rattle.pd_laid.specs.SavedCache.{saved_cache_from}
use Rattle.pd_laid.specs.CacheRoots.{unknown_words}
use Rattle.pd_answers.specs.declared.request.CacheRoots.{CacheRoots}
use Rattle.pd_answers.specs.KeptCache.{with_roots, keeps_line}
use Rattle.pd_answers.specs.Terms.{Answer, Objects, reading, writing, any_reads, Terms, unnamed}
use Rattle.pd_answers.specs.Outputs.{Lays, Making, making_answer, pool_making, shape_making, IsRoom, LeavesMadeLast, cache_making, LeavesMadeFirst}

-- what a repair finds: the report of the input's superblock, what can be saved, and how many blocks there are for it
pub record Salvaged (S : Type 0) : Type 0 where
  pub report : Reported
  pub saved : S
  pub room : ℕ

-- what it finds is right: the report of the faults that it looks at, and what can be saved of an image
abbrev pub FindsSaved : {S : Type 0} → (List (List ℕ) → List Fault) → (List (List ℕ) → S) → Objects → Objects → Salvaged S → Type 0
FindsSaved broken saved_of before after found = IsRoom before.output after.output found.room
    × IfSome before.input.held (λ image. (found.report ≡ report_of (broken image)) × (found.saved ≡ saved_of image))

-- a repair puts the report of a superblock that has faults to `notes`; else it answers as what is made, with this line
abbrev pub saved_answer : {S : Type 0} → (S → Making) → (S → List ℕ) → Salvaged S → Answer
saved_answer making line found =
    if not (found.report.total == 0) then record { status = 1; out = []; notes = reported_lines found.report }
    else making_answer (making found.saved) found.room (line found.saved)

-- that of a pool has no line
abbrev pub repair_answer : {S : Type 0} → (S → Making) → Salvaged S → Answer
repair_answer making found = saved_answer making (λ _. []) found

-- what a repair leaves of its output
pub record LeavesRepaired {S : Type 0} (making : S → Making) (found : Salvaged S) (status : ℕ) (old new : DeviceState) : Type 0 where
  pub output : LeavesMadeLast (Lays (repair_answer making found) (making found.saved) found.room) (not ((repair_answer making found).status == 0)) status old new
  -- the input is read before the output is written: its fault leaves the output alone
  pub input_failed : status ≡ 5 → new.faults ≡ old.faults → IsUntouched old new

-- what can be saved of a pool: what it means, or its shape, with the leaves that its devices share
abbrev pub Saved : Bool → Type 0
Saved false = ThinPool
Saved true = ThinShape

abbrev pub saved_making : (shared : Bool) → Saved shared → Making
saved_making false = pool_making
saved_making true = shape_making

abbrev pub saved_of : (shared : Bool) → List (List ℕ) → Saved shared
saved_of false = salvage
saved_of true = saved_shape

-- a repair that looks at these faults, with shared leaves or without, reads one image and writes another; memory isn't wanting
-- where these are told, and there are some
abbrev pub repair_by : (List (List ℕ) → List Fault) → List ℕ → (shared : Bool) → (List (List ℕ) → Saved shared) → List ℕ → List ℕ → Terms
repair_by broken statuses shared saved_of from to = record {
  uses = record unnamed { input = reading from; output = writing to };
  Finding = Salvaged (Saved shared);
  finds = FindsSaved broken saved_of;
  answer = repair_answer (saved_making shared);
  statuses = statuses;
  memory = λ before. IfSome before.input.held (λ image. broken image ≡ []);
  silent = [];
  spared = λ _. ⊥;
  reads = any_reads;
  leaves = λ found before after status. LeavesRepaired (saved_making shared) found status before.output after.output;
}

-- a repair looks at the faults of the superblock
abbrev pub repair : Bool → List ℕ → List ℕ → Terms
repair shared from to = repair_by (faults Thin Super) (0 ∷ 1 ∷ 4 ∷ 5 ∷ 7 ∷ []) shared (saved_of shared) from to

-- what is saved of a cache, the version of the metadata in which it is written, and of how many cache blocks the mapping word is lost
pub record SavedIn : Type 0 where
  pub version : ℕ
  pub cache : CacheMeaning
  pub unknown : ℕ

-- of an image, with these roots: in the version that is asked, and else in the image's own
abbrev pub saved_in : Option ℕ → CacheRoots → List (List ℕ) → SavedIn
saved_in version named image =
    let fields = with_roots named (cache_fields (block_at image 0)) in
    record { version = unwrap_or version fields.version; cache = saved_cache_from fields image; unknown = unknown_words fields image }

abbrev pub making_in : SavedIn → Making
making_in saved = cache_making saved.version saved.cache

-- a repair of a cache puts the line of what is kept after its work; else the report of a superblock that has faults, or what was
-- needed, to `notes`
abbrev pub kept_answer : Salvaged SavedIn → Answer
kept_answer found = saved_answer making_in (λ (saved : SavedIn). keeps_line saved.cache saved.unknown) found

-- what it leaves of its output
pub record LeavesKept (found : Salvaged SavedIn) (before after : Objects) (status : ℕ) : Type 0 where
  pub made : LeavesMadeFirst (Lays (kept_answer found) (making_in found.saved) found.room) (kept_answer found).status before after status
  -- the room is looked at before a block behind the superblock is read: where there is none, block 0 alone was read
  pub unread : (kept_answer found).status ≡ 4 → after.input.reads ≤ before.input.reads + 1

-- it reads one image and writes another; memory isn't wanting where the superblock is told and has a fault
abbrev pub repair_cache : Option ℕ → CacheRoots → List ℕ → List ℕ → Terms
repair_cache version named from to = record {
  uses = record unnamed { out = reading []; input = reading from; output = writing to };
  Finding = Salvaged SavedIn;
  finds = FindsSaved (faults Cache Super) (saved_in version named);
  answer = kept_answer;
  statuses = 0 ∷ 1 ∷ 4 ∷ 5 ∷ 7 ∷ [];
  memory = λ before. IfSome before.input.held (λ image. faults Cache Super image ≡ []);
  silent = 1 ∷ 4 ∷ 5 ∷ 7 ∷ [];
  spared = λ found. (kept_answer found).status ≢ 0;
  reads = any_reads;
  leaves = LeavesKept;
}
