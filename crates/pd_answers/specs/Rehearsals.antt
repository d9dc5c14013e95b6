-- Trusted base.
-- The terms of a rehearsal: the restore, check and dump of the generator's text.
-- The text that the generator makes of a number, and the line of the rehearsal over it.
use Rattle.std.specs.Prelude.{ℕ, ◌+◌, ◌*◌, ◌%◌, ◌==◌, if◌then◌else◌, List, [], ◌∷◌, ◌++◌, codes, decimal, ◌≡◌, ◌≢◌, not, length, sum_by, count_by, IfSome}
use Rattle.std.specs.List.{flat_map, range_with_len}
use Rattle.pd_kinds.specs.Rule.{Reported, report_of}
use Rattle.pd_kinds.specs.Meaning.{ThinDevice}
use Rattle.pd_grammar.specs.Spelling.{Verdict, accepted, refused, no_room}
use Rattle.pd_grammar.specs.ThinText.{text_of_pool}
use Rattle.pd_grammar.specs.Lines.{reported_lines}
use Rattle.pd_laid.specs.LaidThin.{laid_shape}
use Rattle.pd_laid.specs.Shape.{ThinShape, pool_of}
use Rattle.pd_laid.specs.PoolText.{IsPoolTextVerdict, is_pool_text_early, shape_need}
use Rattle.pd_laid.specs.Laid.{Makes}
use Rattle.pd_answers.specs.Terms.{Answer, Objects, reading, writing, any_reads, Terms, unnamed}
use Rattle.pd_answers.specs.Outputs.{HoldsMade, IsRoom, IsWorkDone, LeavesMade}
use Rattle.pd_answers.specs.Restores.{restore_answer}

-- a line of a word and numbers, with a space before each number
abbrev pub numbers_line : List ℕ → List ℕ → List ℕ
numbers_line word numbers = word ++ (flat_map (λ (n : ℕ). 32 ∷ decimal n) numbers ++ (10 ∷ []))

-- how many blocks each of the two devices maps
abbrev pub generated_mapped : ℕ → ℕ
generated_mapped number = 1000 * number

-- the first device maps each virtual block to the data block of twice its number
abbrev pub device_map : ℕ → List ℕ
device_map v = numbers_line (codes "map") (v ∷ 2 * v ∷ 1 ∷ 0 ∷ [])

-- its snapshot has another data block, of a later time, at each two hundredth virtual block
abbrev pub snapshot_map : ℕ → List ℕ
snapshot_map v = if v % 200 == 0 then numbers_line (codes "map") (v ∷ (2 * v + 1) ∷ 1 ∷ 1 ∷ []) else device_map v

-- the text of a pool with a device and its snapshot
unfoldable pub generated_text : ℕ → List ℕ
generated_text number =
    codes "thin 1" ++ (10 ∷ [])
    ++ (numbers_line (codes "pool 00000000-0000-0000-0000-000000000000") (1 ∷ 2 ∷ 128 ∷ 10000 * number ∷ [])
    ++ (numbers_line (codes "device") (0 ∷ generated_mapped number ∷ 0 ∷ 0 ∷ 1 ∷ [])
    ++ (flat_map device_map (range_with_len 0 (generated_mapped number))
    ++ (numbers_line (codes "device") (1 ∷ generated_mapped number ∷ 1 ∷ 1 ∷ 1 ∷ [])
    ++ (flat_map snapshot_map (range_with_len 0 (generated_mapped number))
    ++ (codes "end" ++ (10 ∷ [])))))))

-- the line of a rehearsal: the blocks that its image uses, its mappings, and the lines of its text
abbrev pub rehearsal_line : ℕ → ℕ → ℕ → ℕ → List ℕ
rehearsal_line number used mappings lines =
    codes "rehearsal " ++ (decimal number ++ (codes " used " ++ (decimal used ++ (codes " mappings " ++ (decimal mappings
    ++ (codes " lines " ++ (decimal lines ++ (codes " clean" ++ (10 ∷ [])))))))))

-- what a rehearsal finds: how many blocks there are, the verdict on the generator's text, the report of the check of
-- what was restored, and the three numbers that it prints
pub record Rehearsed : Type 0 where
  pub room : ℕ
  pub verdict : Verdict ThinShape
  pub report : Reported
  pub used : ℕ
  pub mappings : ℕ
  pub lines : ℕ

-- the numbers of a pool: the blocks that it needs, the mappings of its devices, the lines of its text
pub record AreNumbersOf (shape : ThinShape) (rehearsed : Rehearsed) : Type 0 where
  pub used : rehearsed.used ≡ shape_need shape rehearsed.room
  pub mappings : rehearsed.mappings ≡ sum_by (λ (d : ThinDevice). length d.mappings) (pool_of shape).devices
  pub lines : rehearsed.lines ≡ count_by (λ byte. byte == 10) (text_of_pool (pool_of shape))

-- of the text that is accepted
abbrev pub AreNumbers : Verdict ThinShape → Rehearsed → Type 0
AreNumbers (accepted shape) rehearsed = AreNumbersOf shape rehearsed
AreNumbers (refused why) rehearsed = Unit {0}
AreNumbers (no_room needed blocks) rehearsed = Unit {0}

-- A rehearsal answers as the restore where that is refused. Else it puts its line, or the report of the check to
-- `notes`
abbrev pub rehearsal_answer : ℕ → Rehearsed → Answer
rehearsal_answer number rehearsed =
    if not ((restore_answer rehearsed.verdict).status == 0) then restore_answer rehearsed.verdict
    else if rehearsed.report.total == 0
    then record { status = 0; out = rehearsal_line number rehearsed.used rehearsed.mappings rehearsed.lines; notes = [] }
    else record { status = 1; out = []; notes = reported_lines rehearsed.report }

-- what a rehearsal leaves of its output
pub record LeavesRehearsed (number : ℕ) (rehearsed : Rehearsed) (before after : Objects) (status : ℕ) : Type 0 where
  pub output : LeavesMade (Makes laid_shape rehearsed.room rehearsed.verdict) (is_pool_text_early (generated_text number) rehearsed.room) status before.output after.output
  -- once the work is done it holds what was restored, also where the line couldn't be put after that
  pub made : IsWorkDone before after status → HoldsMade (Makes laid_shape rehearsed.room rehearsed.verdict) before.output after.output

-- A rehearsal restores the generator's text, which is never refused for what it says. Over an output that tells what it
-- holds, the check then finds nothing. Its line is the last that it does
abbrev pub rehearse : ℕ → List ℕ → Terms
rehearse number path = record {
  uses = record unnamed { out = reading []; output = writing path };
  Finding = Rehearsed;
  finds = λ before after rehearsed. IsRoom before.output after.output rehearsed.room
      × (IsPoolTextVerdict (generated_text number) rehearsed.room rehearsed.verdict
      × IfSome before.output.held (λ image. (rehearsed.report ≡ report_of []) × AreNumbers rehearsed.verdict rehearsed));
  answer = rehearsal_answer number;
  statuses = 0 ∷ 1 ∷ 4 ∷ 5 ∷ 7 ∷ [];
  memory = λ before. Unit {0};
  silent = 1 ∷ 4 ∷ 5 ∷ 7 ∷ [];
  spared = λ rehearsed. (rehearsal_answer number rehearsed).status ≢ 0;
  reads = any_reads;
  leaves = LeavesRehearsed number;
}
