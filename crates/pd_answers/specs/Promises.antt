-- Trusted base.
-- The terms of each request: what the tools promise.
use Rattle.std.specs.Prelude.{◌≡◌, ◌≢◌, ℕ, ◌==◌, if◌then◌else◌, List, [], ◌∷◌, Option, Some, None, IfSome, unwrap_or}
use Rattle.pd_kinds.specs.declared.kind.Flagged.{Flagged}
use Rattle.pd_kinds.specs.declared.kind.Kind.{Kind}
use Rattle.pd_kinds.specs.declared.kind.Passing.{Passing}
use Rattle.pd_kinds.specs.declared.kind.Passing.TheVariants.{Nothing, Leaks}
use Rattle.pd_kinds.specs.declared.kind.Stage.{Stage}
use Rattle.pd_kinds.specs.declared.kind.Stage.TheVariants.{Super, Walk, Order, Whole, Counts}
use Rattle.pd_kinds.specs.Flagged.{kind_of}
use Rattle.pd_kinds.specs.Rule.{Reported, passes, report_of}
use Rattle.pd_kinds.specs.Stages.{faults, CanWantMemory}
use Rattle.pd_grammar.specs.Lines.{reported_lines, usage_line}
use Rattle.pd_answers.specs.declared.request.Asked.{Asked}
use Rattle.pd_answers.specs.Requests.{Request}
use Rattle.pd_answers.specs.QueryLines.{asked_kind, asked_stage, asked_text}
use Rattle.pd_answers.specs.Rehearsals.{generated_text, rehearse}
use Rattle.pd_answers.specs.Flag.{LeavesCleared}
use Rattle.pd_answers.specs.Terms.{Answer, reading, writing, few_reads, any_reads, Terms, unnamed, nothing}
use Rattle.pd_answers.specs.Restores.{restore}
use Rattle.pd_answers.specs.Repairs.{repair, repair_cache}
use Rattle.pd_answers.specs.Searches.{search}
use Rattle.pd_answers.specs.NamedRepairs.{repair_named, dry_search}
use Rattle.pd_answers.specs.Writebacks.{writeback}
use Rattle.pd_answers.specs.Shrinks.{shrink}
use Rattle.pd_answers.specs.declared.request.Request.TheVariants as request

-- no request
abbrev pub refused : Terms
refused = record {
  uses = unnamed;
  Finding = Unit {0};
  finds = λ before after _. Unit {0};
  answer = λ _. record { status = 2; out = []; notes = usage_line };
  statuses = 2 ∷ [];
  memory = λ before. ⊥;
  silent = [];
  spared = λ _. ⊥;
  reads = any_reads;
  leaves = nothing;
}

-- the status of want of memory, if a check up to the stage can have it
abbrev pub wanting_of : Stage → List ℕ
wanting_of Super = []
wanting_of Walk = 7 ∷ []
wanting_of Order = 7 ∷ []
wanting_of Whole = 7 ∷ []
wanting_of Counts = 7 ∷ []

-- a check puts its report: `clean`, or the lines of the faults. Its status says whether all faults pass
abbrev pub check_answer : Passing → Reported → Answer
check_answer passing report = record { status = if passes passing report then 0 else 1; out = reported_lines report; notes = [] }

-- a check has its whole report before it puts any of it
abbrev pub check : Kind → Stage → Passing → List ℕ → Terms
check kind until passing path = record {
  uses = record unnamed { out = reading []; input = reading path };
  Finding = Reported;
  finds = λ before after report. IfSome before.input.held (λ image. report ≡ report_of (faults kind until image));
  answer = check_answer passing;
  statuses = 0 ∷ 1 ∷ 5 ∷ wanting_of until;
  memory = λ before. CanWantMemory kind until before.input.held;
  silent = 5 ∷ 7 ∷ [];
  spared = λ _. ⊥;
  reads = few_reads kind;
  leaves = nothing;
}

-- the same check of a pool or a cache to its end, whose image is written where all faults pass and the flag is set
abbrev pub check_and_clear : Flagged → Passing → List ℕ → Terms
check_and_clear flagged passing path = record {
  uses = record unnamed { out = reading []; input = writing path };
  Finding = Reported;
  finds = λ before after report. IfSome before.input.held (λ image. report ≡ report_of (faults (kind_of flagged) Counts image));
  answer = check_answer passing;
  statuses = 0 ∷ 1 ∷ 5 ∷ 7 ∷ [];
  memory = λ before. CanWantMemory (kind_of flagged) Counts before.input.held;
  silent = 7 ∷ [];
  spared = λ _. ⊥;
  reads = few_reads (kind_of flagged);
  leaves = λ report before after status. LeavesCleared flagged passing report status before.input after.input;
}

-- what a query finds: the report of the check before it, and the text that it puts where that is clean
pub record Queried : Type 0 where
  pub report : Reported
  pub text : List ℕ

-- a query puts its text, or the report to `notes`
abbrev pub query_answer : Queried → Answer
query_answer queried =
    if queried.report.total == 0
    then record { status = 0; out = queried.text; notes = [] }
    else record { status = 1; out = []; notes = reported_lines queried.report }

-- A query over an image, which answers where there is no fault up to its stage. Memory isn't wanting where the superblock is told and
-- has a fault
abbrev pub query : Asked → Option (List ℕ) → List ℕ → Terms
query asked file path = record {
  uses = record unnamed { out = reading (unwrap_or file []); input = reading path };
  Finding = Queried;
  finds = λ before after queried. IfSome before.input.held (λ image.
      (queried.report ≡ report_of (faults (asked_kind asked) (asked_stage asked) image)) × (queried.text ≡ asked_text asked image));
  answer = query_answer;
  statuses = 0 ∷ 1 ∷ 5 ∷ 7 ∷ [];
  memory = λ before. IfSome before.input.held (λ image. faults (asked_kind asked) Super image ≡ []);
  silent = 1 ∷ [];
  spared = λ queried. queried.report.total ≢ 0;
  reads = any_reads;
  leaves = nothing;
}

-- the generator takes no memory, and no device
abbrev pub generate : ℕ → Option (List ℕ) → Terms
generate number file = record {
  uses = record unnamed { out = reading (unwrap_or file []) };
  Finding = Unit {0};
  finds = λ before after _. Unit {0};
  answer = λ _. record { status = 0; out = generated_text number; notes = [] };
  statuses = 0 ∷ [];
  memory = λ before. ⊥;
  silent = [];
  spared = λ _. ⊥;
  reads = any_reads;
  leaves = nothing;
}

-- the terms of a request
abbrev pub terms_of : Option Request → Terms
terms_of None = refused
terms_of (Some (request.Check kind until path)) = check kind until Nothing path
terms_of (Some (request.PassingCheck kind path)) = check kind Counts Leaks path
terms_of (Some (request.CheckAndClear flagged passing path)) = check_and_clear flagged passing path
terms_of (Some (request.Query asked file path)) = query asked file path
terms_of (Some (request.Restore kind version file path)) = restore kind version file path
terms_of (Some (request.Repair shared from to)) = repair shared from to
terms_of (Some (request.Search shared from to given)) = search shared from to given.transaction given.block_size given.blocks
terms_of (Some (request.RepairNamed shared from to given named)) = repair_named shared from to given named
terms_of (Some (request.DrySearch path given named)) = dry_search path given named
terms_of (Some (request.RepairCache version named from to)) = repair_cache version named from to
terms_of (Some (request.Generate number file)) = generate number file
terms_of (Some (request.Rehearse number path)) = rehearse number path
terms_of (Some (request.Writeback metadata fast origin)) = writeback metadata fast origin
terms_of (Some (request.Shrink shared input output pool blocks)) = shrink shared input output pool blocks
