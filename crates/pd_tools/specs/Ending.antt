-- How the work of a tool ends.
-- What a call that ends with a line on `notes` does.
use Rattle.std.specs.Prelude.{◌≡◌, ◌⊎◌, ℕ, Bool, if◌then◌else◌, List, [], IfSome, Result, Ok, Err}
use Rattle.pd_kinds.specs.Objects.{SinkState, Rose, Appends, AppendsFront}
use Rattle.pd_kinds.specs.Rule.{faults_at, report_of, has_rule}
use Rattle.pd_grammar.specs.Lines.{no_room_line, refusal_line, reported_lines}
use Rattle.pd_answers.specs.Rehearsals.{rehearsal_line}
use Rattle.pd_answers.specs.Searches.{no_roots_line, only_damaged_line}
use Rattle.pd_answers.specs.Writebacks.{block_size_line}
use Rattle.pd_gen.specs.declared.rehearsal.RehearseFault.{RehearseFault}
use Rattle.pd_gen.specs.declared.rehearsal.Rehearsal.{Rehearsal}
use Rattle.pd_gen.specs.declared.rehearsal.RehearseFault.TheVariants as q
use Rattle.pd_restoring.specs.declared.fault.RestoreFault.{RestoreFault}
use Rattle.pd_restoring.specs.declared.fault.RestoreFault.TheVariants as r
use Rattle.pd_repair.specs.declared.repair.RepairFault.{RepairFault}
use Rattle.pd_repair.specs.declared.repair.RepairFault.TheVariants as f
use Rattle.pd_writeback.specs.declared.making.WriteFault.{WriteFault}
use Rattle.pd_writeback.specs.declared.making.WriteFault.TheVariants as w
use Rattle.pd_shrink.specs.declared.making.ShrinkFault.{ShrinkFault}
use Rattle.pd_shrink.specs.declared.making.ShrinkFault.TheVariants as s
use Rattle.pd_tools.specs.declared.ending.Ending.{Ending}
use Rattle.pd_tools.specs.declared.ending.Ending.TheVariants.{Done, Faulty, Refused, NoRoom, BlockSize, NoRoots}
use Rattle.pd_tools.specs.declared.ending.Outcome.{Outcome}
use Rattle.pd_tools.specs.declared.ending.Outcome.TheVariants.{Line, Ended}
use Rattle.pd_tools.specs.declared.ending.Stop.{Stop}
use Rattle.pd_tools.specs.declared.ending.Stop.TheVariants.{Device, Stream, Memory}
use Rattle.pd_tools.specs.Stop.{stop_line, stop_status}

-- the line was put, and the status is the wanted one
pub record IsPut (line : List ℕ) (wanted given : ℕ) (old new : SinkState) : Type 0 where
  pub status : given ≡ wanted
  pub whole : Appends line old.written new.written
  pub faults : new.faults ≡ old.faults

-- the sink failed, and the status is 6
pub record IsLost (given : ℕ) (old new : SinkState) : Type 0 where
  pub status : given ≡ 6
  pub faults : Rose old.faults new.faults

-- a line was put, or the sink failed
pub record PutsLine (line : List ℕ) (wanted given : ℕ) (old new : SinkState) : Type 0 where
  pub outcome : IsPut line wanted given old new ⊎ IsLost given old new
  pub front : AppendsFront line old.written new.written
  pub access : new.access ≡ old.access
  pub path : new.path ≡ old.path

-- `notes` after it was attached: nothing was written, and nothing failed
pub record IsAttachedNotes (notes attached : SinkState) : Type 0 where
  pub access : attached.access ≡ 1
  pub path : IfSome attached.path (λ told. told ≡ [])
  pub written : attached.written ≡ notes.written
  pub faults : attached.faults ≡ notes.faults

-- the line where there are no roots, and maybe damaged states
abbrev pub no_roots_text : Bool → List ℕ
no_roots_text are_damaged = if are_damaged then only_damaged_line else no_roots_line

-- the status of an ending, and what goes to `notes`
abbrev pub ending_status : Ending → ℕ
ending_status Done = 0
ending_status (Faulty report) = 1
ending_status (Refused fault) = 3
ending_status (NoRoom need blocks) = 4
ending_status BlockSize = 1
ending_status (NoRoots are_damaged) = 1

abbrev pub ending_line : Ending → List ℕ
ending_line Done = []
ending_line (Faulty report) = reported_lines report
ending_line (Refused fault) = refusal_line (record { line = fault.line; cause = fault.cause })
ending_line (NoRoom need blocks) = no_room_line need blocks
ending_line BlockSize = block_size_line
ending_line (NoRoots are_damaged) = no_roots_text are_damaged

-- the line was put, and the status is that of the ending; or `notes` failed
abbrev pub TellsEnd : Result Ending Stop → ℕ → SinkState → SinkState → Type 0
TellsEnd (Ok Done) status old new = (status ≡ 0) × (new ≡ old)
TellsEnd (Ok (Faulty report)) status old new = PutsLine (ending_line (Faulty report)) 1 status old new
TellsEnd (Ok (Refused fault)) status old new = PutsLine (ending_line (Refused fault)) 3 status old new
TellsEnd (Ok (NoRoom need blocks)) status old new = PutsLine (ending_line (NoRoom need blocks)) 4 status old new
TellsEnd (Ok BlockSize) status old new = PutsLine (ending_line BlockSize) 1 status old new
TellsEnd (Ok (NoRoots are_damaged)) status old new = PutsLine (no_roots_text are_damaged) 1 status old new
TellsEnd (Err stop) status old new = PutsLine (stop_line stop) (stop_status stop) status old new

-- how a restore ended
abbrev pub restore_ended : Result (Unit {0}) RestoreFault → Result Ending Stop
restore_ended (Ok answer) = Ok Done
restore_ended (Err r.Memory) = Err Memory
restore_ended (Err r.Source) = Err Stream
restore_ended (Err r.Device) = Err Device
restore_ended (Err (r.Text fault)) = Ok (Refused fault)
restore_ended (Err (r.NoRoom need blocks)) = Ok (NoRoom need blocks)

-- how a repair ended
abbrev pub repair_ended : Result (Unit {0}) RepairFault → Result Outcome Stop
repair_ended (Ok answer) = Ok (Ended Done)
repair_ended (Err f.Memory) = Err Memory
repair_ended (Err f.Input) = Err Device
repair_ended (Err f.Output) = Err Device
repair_ended (Err (f.NoSuper rules)) = Ok (Ended (Faulty (report_of (faults_at 0 (has_rule rules)))))
repair_ended (Err (f.NoRoom need blocks)) = Ok (Ended (NoRoom need blocks))

-- how a rehearsal ended
abbrev pub rehearsal_ended : ℕ → Result Rehearsal RehearseFault → Result Outcome Stop
rehearsal_ended number (Ok rehearsal) = Ok (Line (rehearsal_line number rehearsal.used rehearsal.counts.mappings rehearsal.counts.lines))
rehearsal_ended number (Err q.Memory) = Err Memory
rehearsal_ended number (Err q.Device) = Err Device
rehearsal_ended number (Err (q.NoRoom need blocks)) = Ok (Ended (NoRoom need blocks))
rehearsal_ended number (Err (q.Faulty report)) = Ok (Ended (Faulty report))

-- how a writeback ended of which no plan was made
abbrev pub plan_ended : WriteFault → Result Outcome Stop
plan_ended w.Memory = Err Memory
plan_ended w.Meta = Err Device
plan_ended w.Origin = Err Device
plan_ended w.Fast = Err Device
plan_ended w.BlockSize = Ok (Ended BlockSize)
plan_ended (w.NoRoom need blocks) = Ok (Ended (NoRoom need blocks))

-- how a shrink ended of which no plan was made
abbrev pub shrink_ended : ShrinkFault → Result Outcome Stop
shrink_ended s.Memory = Err Memory
shrink_ended s.Meta = Err Device
shrink_ended s.Output = Err Device
shrink_ended s.BlockSize = Ok (Ended BlockSize)
shrink_ended (s.NoRoom need blocks) = Ok (Ended (NoRoom need blocks))
