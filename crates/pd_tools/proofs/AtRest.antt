-- What a request finds before anything was done.
use Rattle.std.proofs.Common.{[], ℕ, Option, Some, None, refl, arith}
use Rattle.std.specs.Option.{option_map_or}
use Rattle.pd_kinds.specs.declared.kind.Kind.{Kind}
use Rattle.pd_kinds.specs.declared.kind.Kind.TheVariants.{Thin, Cache, Era}
use Rattle.pd_kinds.specs.declared.kind.Stage.TheVariants.{Super, Counts}
use Rattle.pd_kinds.specs.Flagged.{kind_of}
use Rattle.pd_kinds.specs.Objects.{SinkState}
use Rattle.pd_kinds.specs.Rule.{report_of}
use Rattle.pd_kinds.specs.Stages.{faults}
use Rattle.pd_grammar.specs.Early.{is_cache_early, is_era_early}
use Rattle.pd_grammar.specs.CacheText.{IsCacheVerdict}
use Rattle.pd_grammar.specs.EraText.{IsEraVerdict}
use Rattle.pd_laid.specs.PoolText.{IsPoolTextVerdict, is_pool_text_early}
use Rattle.pd_laid.specs.LaidThin.{laid_shape}
use Rattle.pd_laid.specs.LaidCache.{laid_cache}
use Rattle.pd_laid.specs.LaidEra.{laid_era}
use Rattle.pd_answers.specs.Terms.{Objects, AreFresh, Terms}
use Rattle.pd_answers.specs.declared.request.Request.TheVariants.{Check, PassingCheck, CheckAndClear, Query, Restore, Repair, Search, RepairNamed, DrySearch, RepairCache, Generate, Rehearse, Writeback, Shrink}
use Rattle.pd_answers.specs.Requests.{Request}
use Rattle.pd_answers.specs.Promises.{terms_of}
use Rattle.pd_answers.specs.NamedRepairs as named
use Rattle.pd_answers.specs.Rehearsals as rehearsals
use Rattle.pd_answers.specs.Repairs as repairs
use Rattle.pd_answers.specs.Searches as searches
use Rattle.pd_answers.specs.Shrinks as shrinks
use Rattle.pd_answers.specs.Writebacks as writebacks
use Rattle.pd_tools.specs.Restore.{TextsHaveVerdicts}
use Rattle.pd_tools.specs.Task.{AreAlone, IsAtRest}
use Rattle.pd_tools.proofs.CacheRepairs.{cache_repair_rests}
use Rattle.pd_tools.proofs.Checks.{told, query_at_rest}
use Rattle.pd_tools.proofs.FewReads.{unread}
use Rattle.pd_tools.proofs.Clears.{clearing_at_rest}
use Rattle.pd_tools.proofs.NamedRepairs.{dry_search_rests, named_rests}
use Rattle.pd_tools.proofs.Rehearses.{rehearse_rests}
use Rattle.pd_tools.proofs.Repairs.{repair_rests, repair_statuses}
use Rattle.pd_tools.proofs.Restores.{restore_at_rest}
use Rattle.pd_tools.proofs.Searches.{search_rests}
use Rattle.pd_tools.proofs.Shrinks.{shrink_rests}
use Rattle.pd_tools.proofs.Writebacks.{writeback_rests}

-- what holds of a task before a device is attached
none_written : (before : Objects) (notes : SinkState) → AreFresh before → AreAlone before (record before { notes = notes })
none_written before notes fresh = record {
  out = refl;
  input = record { held = refl; history = refl };
  output = record { held = refl; history = refl };
  third = record { held = refl; history = refl };
  output_measured = λ some. absurd (some fresh.output.0);
  third_measured = λ some. absurd (some fresh.third.0);
}

task_at_rest : (terms : Terms) (before : Objects) (notes : SinkState) → IsAtRest terms before (record before { notes = notes })
    → (finding : terms.Finding) × (terms.finds before (record before { notes = notes }) finding) × (terms.leaves finding before (record before { notes = notes }) 6)
task_at_rest terms before notes rest = (rest.finding, rest.found, rest.leaves 6 (λ e. omega arith))

-- something is right to find, and nothing was written
pub at_rest : (request : Option Request) (before : Objects) (notes : SinkState) → AreFresh before → ((kind : Kind) (version : ℕ) → TextsHaveVerdicts kind version)
    → (finding : (terms_of request).Finding) × ((terms_of request).finds before (record before { notes = notes }) finding)
    × ((terms_of request).leaves finding before (record before { notes = notes }) 6)
at_rest None before notes fresh verdicts = (tt, tt, tt)
at_rest (Some (Check kind until path)) before notes fresh verdicts = (
  option_map_or (λ image. report_of (faults kind until image)) before.input.held (report_of []),
  told before.input.held (λ image. report_of (faults kind until image)) (report_of []),
  tt,
)
at_rest (Some (PassingCheck kind path)) before notes fresh verdicts = (
  option_map_or (λ image. report_of (faults kind Counts image)) before.input.held (report_of []),
  told before.input.held (λ image. report_of (faults kind Counts image)) (report_of []),
  tt,
)
at_rest (Some (CheckAndClear flagged passing path)) before notes fresh verdicts = clearing_at_rest flagged passing path before notes fresh.input.2
at_rest (Some (Restore Thin version file path)) before notes fresh verdicts =
    restore_at_rest IsPoolTextVerdict is_pool_text_early laid_shape file path before (record before { notes = notes }) before.source before.output fresh.output.2 (verdicts Thin version) fresh.output.0
at_rest (Some (Restore Cache version file path)) before notes fresh verdicts =
    restore_at_rest (IsCacheVerdict version) (is_cache_early version) (λ m room. laid_cache m version room) file path before (record before { notes = notes }) before.source before.output fresh.output.2 (verdicts Cache version) fresh.output.0
at_rest (Some (Restore Era version file path)) before notes fresh verdicts =
    restore_at_rest IsEraVerdict is_era_early laid_era file path before (record before { notes = notes }) before.source before.output fresh.output.2 (verdicts Era version) fresh.output.0
at_rest (Some (Repair shared from to)) before notes fresh verdicts =
    task_at_rest (repairs.repair shared from to) before notes (repair_rests (faults Thin Super) repair_statuses shared (repairs.saved_of shared) from to before (record before { notes = notes }) fresh (none_written before notes fresh))
at_rest (Some (Query asked file path)) before notes fresh verdicts = query_at_rest asked before.input.held
at_rest (Some (Generate number file)) before notes fresh verdicts = (tt, tt, tt)
at_rest (Some (Rehearse number path)) before notes fresh verdicts =
    task_at_rest (rehearsals.rehearse number path) before notes (rehearse_rests number path before (record before { notes = notes }) (verdicts Thin 1) fresh.output.2 (none_written before notes fresh))
at_rest (Some (Writeback metadata fast origin)) before notes fresh verdicts =
    task_at_rest (writebacks.writeback metadata fast origin) before notes (writeback_rests metadata fast origin before (record before { notes = notes }) fresh (none_written before notes fresh))
at_rest (Some (Shrink shared input output pool blocks)) before notes fresh verdicts =
    task_at_rest (shrinks.shrink shared input output pool blocks) before notes (shrink_rests shared input output pool blocks before (record before { notes = notes }) fresh (none_written before notes fresh))
at_rest (Some (RepairCache version named from to)) before notes fresh verdicts =
    task_at_rest (repairs.repair_cache version named from to) before notes (cache_repair_rests version named from to before (record before { notes = notes }) fresh (none_written before notes fresh) refl)
at_rest (Some (Search shared from to given)) before notes fresh verdicts =
    task_at_rest (searches.search shared from to given.transaction given.block_size given.blocks) before notes
    (search_rests shared given from to before (record before { notes = notes }) fresh (none_written before notes fresh))
at_rest (Some (RepairNamed shared from to given roots)) before notes fresh verdicts =
    task_at_rest (named.repair_named shared from to given roots) before notes (named_rests shared given roots from to before (record before { notes = notes }) fresh (none_written before notes fresh))
at_rest (Some (DrySearch path given roots)) before notes fresh verdicts =
    task_at_rest (named.dry_search path given roots) before notes (dry_search_rests given roots path before (record before { notes = notes }))

-- and nothing was read
pub reads_at_rest : (request : Option Request) (before : Objects) (notes : SinkState)
    → (terms_of request).reads before (record before { notes = notes })
reads_at_rest None before notes = tt
reads_at_rest (Some (Check kind until path)) before notes = unread kind before.input.held before.input.reads
reads_at_rest (Some (PassingCheck kind path)) before notes = unread kind before.input.held before.input.reads
reads_at_rest (Some (CheckAndClear flagged passing path)) before notes = unread (kind_of flagged) before.input.held before.input.reads
reads_at_rest (Some (Restore Thin version file path)) before notes = tt
reads_at_rest (Some (Restore Cache version file path)) before notes = tt
reads_at_rest (Some (Restore Era version file path)) before notes = tt
reads_at_rest (Some (Repair shared from to)) before notes = tt
reads_at_rest (Some (Query asked file path)) before notes = tt
reads_at_rest (Some (Generate number file)) before notes = tt
reads_at_rest (Some (Rehearse number path)) before notes = tt
reads_at_rest (Some (Writeback metadata fast origin)) before notes = tt
reads_at_rest (Some (Shrink shared input output pool blocks)) before notes = tt
reads_at_rest (Some (Search shared from to given)) before notes = tt
reads_at_rest (Some (RepairNamed shared from to given named)) before notes = tt
reads_at_rest (Some (DrySearch path given named)) before notes = tt
reads_at_rest (Some (RepairCache version named from to)) before notes = tt
