-- What the work of a repair from named roots comes to, and that of a dry run without a superblock, over plain variables.
use Rattle.std.proofs.Common.{◌≡◌, ◌≢◌, inl, ℕ, Bool, true, false, IsTrue, List, [], ◌∷◌, length, Option, Some, None, IfSome, Result, Ok, Err, min, refl, sym, ap, ap₂, ◌∙◌, subst}
use Rattle.std.specs.Option.{option_map_or}
use Rattle.std.specs.Prelude.{IfErr}
use Rattle.pd_kinds.specs.declared.rule.Fault.{Fault}
use Rattle.pd_kinds.specs.declared.limits.TheConstants.{MAX_META_BLOCKS}
use Rattle.pd_kinds.specs.declared.rules.Rules.{Rules}
use Rattle.pd_kinds.specs.Layout.{graph_of}
use Rattle.pd_kinds.specs.Objects.{DeviceState, SinkState}
use Rattle.pd_kinds.specs.ThinFormat.{ThinFields}
use Rattle.pd_laid.specs.FoundRoots.{lost_graph}
use Rattle.pd_answers.specs.Terms.{AreFresh, Objects, reading, Terms, is_one_of, is_possible}
use Rattle.pd_answers.specs.KeptLines.{IsTold, told_from, told_text}
use Rattle.pd_answers.specs.NamedRepairs.{dry_search, dry_search_statuses, repair_named, saved_from_named, text_without_super, named_fields, pool_time, saved_time, timeless_fields}
use Rattle.pd_answers.specs.declared.request.GivenSuper.{GivenSuper}
use Rattle.pd_answers.specs.declared.request.NamedRoots.{NamedRoots}
use Rattle.pd_answers.specs.Repairs.{Saved}
use Rattle.pd_answers.specs.Searches.{no_roots_line}
use Rattle.pd_image.specs.Device.{KeepsPlace, OnlyReads}
use Rattle.pd_salvage.specs.declared.saved.SalvageFault.{SalvageFault}
use Rattle.pd_salvage.specs.Saved.{CountsSalvage}
use Rattle.pd_salvage.specs.declared.saved.SalvageFault.TheVariants as f
use Rattle.pd_repair.specs.declared.repair.RepairFault.{RepairFault}
use Rattle.pd_repair.specs.Repaired.{AnswersSuper, CountsRepair, HasSuper, IsRepairedFromAs, NamesRules}
use Rattle.pd_repair.specs.declared.repair.RepairFault.TheVariants as fault
use Rattle.pd_kept.specs.declared.kept.Kept.{Kept}
use Rattle.pd_kept.specs.declared.states.Looked.{Looked}
use Rattle.pd_kept.specs.Kept.{told_of}
use Rattle.pd_kept.specs.States.{looked_text}
use Rattle.pd_kept.proofs.WeighingLemmas.{text_is}
use Rattle.pd_scan.specs.Pairs.{lost_fields}
use Rattle.pd_tools.specs.Ending.{repair_ended}
use Rattle.pd_tools.specs.Opened.{AreOpened, Devices, IsOpened, devices_of}
use Rattle.pd_tools.specs.Restore.{saved_content, seen_by}
use Rattle.pd_tools.specs.Stop.{salvage_stop}
use Rattle.pd_tools.specs.Task.{AreAlone, IsAtRest, IsDone, IsEnded, IsHalted, IsMeasured, Works}
use Rattle.pd_tools.proofs.Checks.{two_told}
use Rattle.pd_tools.proofs.Repairs.{repair_rests, repair_works}
use Rattle.pd_tools.proofs.Restores.{Image}
use Rattle.pd_tools.proofs.Tasks.{halted_at_rest, read_alone, read_by}

-- the input was read, and then the work was stopped
pub halts_unread : (terms : Terms) (path : List ℕ) (before : Objects) (opened : Devices) (notes : SinkState) (last_input : DeviceState)
    → (both : AreOpened terms.uses (devices_of before) opened) → IsOpened (reading path) before.input opened.input → IsMeasured opened.output → IsMeasured opened.third → OnlyReads opened.input last_input
    → (AreAlone before (read_by before opened notes last_input) → IsAtRest terms before (read_by before opened notes last_input))
    → IsTrue (is_possible terms 5) → IsTrue (is_possible terms 7) → terms.memory before
    → (fault : SalvageFault) → CountsSalvage {R = Unit {0}} (Err fault) opened.input.faults last_input.faults → IsHalted terms before (read_by before opened notes last_input) (salvage_stop fault)
halts_unread terms path before opened notes last_input both input output third reads rests failed wanting memory fault counts = by fault counts
  where
    rest : IsAtRest terms before (read_by before opened notes last_input)
    rest = rests (read_alone terms.uses before opened notes last_input both (record { held = reads.held; history = reads.history }) output third)

    by : (fault : SalvageFault) → CountsSalvage {R = Unit {0}} (Err fault) opened.input.faults last_input.faults → IsHalted terms before (read_by before opened notes last_input) (salvage_stop fault)
    by f.Memory counts = halted_at_rest terms before (read_by before opened notes last_input) _ rest wanting memory
    by f.Device counts = halted_at_rest terms before (read_by before opened notes last_input) _ rest failed (inl (rw input.faults at counts.0))

-- the superblock of named roots, without a time and with one
pub timeless_is : (image : Image) (given : GivenSuper) (named : NamedRoots) (blocks : ℕ) → length image ≡ blocks
    → lost_fields (record { top = named.top; details = named.details; mappings = 0; time = 0; transaction = 0; times = 0 }) given.transaction given.block_size (min blocks MAX_META_BLOCKS) given.blocks
    ≡ timeless_fields image given named
unfolding lost_graph graph_of
timeless_is image given named blocks number = rw (sym number) refl

pub fields_named : (image : Image) (given : GivenSuper) (named : NamedRoots) (blocks time : ℕ) → length image ≡ blocks
    → let timeless = lost_fields (record { top = named.top; details = named.details; mappings = 0; time = 0; transaction = 0; times = 0 }) given.transaction given.block_size (min blocks MAX_META_BLOCKS) given.blocks in
    time ≡ saved_time timeless image → ◌≡◌ {A = ThinFields} (record timeless { time = time }) (named_fields image given named)
unfolding named_fields lost_graph graph_of
fields_named image given named blocks time number is = rw (is, sym number) refl

-- the statuses of a repair from named roots
abbrev pub named_statuses : List ℕ
named_statuses = 0 ∷ 4 ∷ 5 ∷ 7 ∷ []

abbrev pub no_faults : Image → List Fault
no_faults image = []

abbrev pub saved_named : (shared : Bool) → GivenSuper → NamedRoots → Image → Saved shared
saved_named shared given named image = saved_from_named shared image given named

-- before anything was written
pub named_rests : (shared : Bool) (given : GivenSuper) (named : NamedRoots) (from to : List ℕ) (before after : Objects) → AreFresh before → AreAlone before after
    → IsAtRest (repair_named shared from to given named) before after
named_rests shared given named from to = repair_rests no_faults named_statuses shared (saved_named shared given named) from to

-- what is saved by that superblock, with the pool's own time, is what is saved from the roots
saved_so : (shared : Bool) (given : GivenSuper) (named : NamedRoots) (image : Image)
    → seen_by shared (pool_time (timeless_fields image given named) image) (named_fields image given named) image ≡ saved_named shared given named image
saved_so false given named image = refl
saved_so true given named image = refl

-- it isn't refused
answers_none : (result : Result (Unit {0}) RepairFault) → HasSuper result → AnswersSuper result []
answers_none (Ok done) has = refl
answers_none (Err fault.Memory) has = refl
answers_none (Err fault.Input) has = tt
answers_none (Err fault.Output) has = refl
answers_none (Err (fault.NoSuper rules)) has = absurd has
answers_none (Err (fault.NoRoom need blocks)) has = refl

names_none : (result : Result (Unit {0}) RepairFault) → HasSuper result → IfErr result NamesRules
names_none (Ok done) has = tt
names_none (Err fault.Memory) has = tt
names_none (Err fault.Input) has = tt
names_none (Err fault.Output) has = tt
names_none (Err (fault.NoSuper rules)) has = absurd has
names_none (Err (fault.NoRoom need blocks)) has = tt

none_refused : (result : Result (Unit {0}) RepairFault) → HasSuper result → (rules : Rules) → result ≡ Err (fault.NoSuper rules) → ⊥
none_refused result has rules is = rw is at has

pub named_works : (shared : Bool) (given : GivenSuper) (named : NamedRoots) (from to : List ℕ) (before after : Objects) (opened : Devices) → AreFresh before
    → AreOpened (repair_named shared from to given named).uses (devices_of before) opened → IfSome opened.output.held (λ image. length image ≡ opened.output.blocks) → KeepsPlace opened.output after.output
    → (s : ThinFields) (time : ℕ) → IfSome opened.input.held (λ image. s ≡ named_fields image given named)
    → IfSome opened.input.held (λ image. time ≡ pool_time (timeless_fields image given named) image)
    → (result : Result (Unit {0}) RepairFault) → IsRepairedFromAs (saved_content shared) (seen_by shared time) s result opened.input opened.output after.output → HasSuper result
    → CountsRepair result opened.input.faults after.input.faults opened.output.faults after.output.faults → Works (repair_named shared from to given named) before after (repair_ended result)
named_works shared given named from to before after opened fresh both measured place s time told timed result done has counts =
    repair_works no_faults named_statuses (record { done = refl; no_room = refl; failed = refl; wanting = refl }) shared (saved_named shared given named) from to before after opened fresh both measured place result
    (record {
      pool = done.pool;
      right = two_told opened.input.held (λ image is saved. saved
          ∙ (ap₂ (λ (fields : ThinFields) (n : ℕ). seen_by shared n fields image) is.0 is.1 ∙ saved_so shared given named image)) told_both done.right;
      rules = any opened.input.held;
      output = done.output;
    })
    (λ rules is. absurd (none_refused result has rules is)) (names_none result has) counts
  where
    told_both : IfSome opened.input.held (λ image. (s ≡ named_fields image given named) × (time ≡ pool_time (timeless_fields image given named) image))
    told_both = two_told opened.input.held (λ image is when. (is, when)) told timed

    any : (held : Option Image) → IfSome held (λ image. AnswersSuper result [])
    any None = tt
    any (Some image) = answers_none result has

-- a dry run: what is right to tell
pub dry_search_rests : (given : GivenSuper) (named : Option NamedRoots) (path : List ℕ) (before after : Objects) → IsAtRest (dry_search path given named) before after
dry_search_rests given named path before after = record {
  finding = option_map_or (text_without_super named given) before.input.held None;
  found = by before.input.held;
  leaves = λ status some. tt;
}
  where
    by : (held : Option Image) → IfSome held (λ image. option_map_or (text_without_super named given) held None ≡ text_without_super named given image)
    by None = tt
    by (Some image) = refl

pub dry_search_possible : (named : Option NamedRoots) → IsTrue (is_one_of (dry_search_statuses named) 0)
    × (IsTrue (is_one_of (dry_search_statuses named) 5) × IsTrue (is_one_of (dry_search_statuses named) 7))
dry_search_possible None = (refl, (refl, refl))
dry_search_possible (Some named) = (refl, (refl, refl))

module _ (given : GivenSuper) (named : Option NamedRoots) (path : List ℕ) (before after : Objects) (opened : DeviceState) (input : IsOpened (reading path) before.input opened) where
  abbrev IsToldHere : Option (List ℕ) → Option Image → Type 0
  IsToldHere text held = IfSome held (λ image. text ≡ text_without_super named given image)

  -- something was found
  pub dry_search_done : (looked : Looked) → IsToldHere (Some (looked_text looked)) opened.held → IsDone (dry_search path given named) before after (looked_text looked)
  dry_search_done looked told = record {
    finding = Some (looked_text looked);
    found = λ out. subst (IsToldHere (Some (looked_text looked))) input.untouched.held told;
    answer = refl;
    named = refl;
    possible = (dry_search_possible named).0;
    loud = λ e. absurd cc;
    loud_lost = λ e. absurd cc;
    unspared = λ e. absurd cc;
    leaves = λ out status either touched. tt;
  }

  -- nothing was found, where roots were looked for
  pub dry_search_none : IsToldHere None opened.held → IfSome named (λ _. ◌≢◌ {A = Option Looked} None None) → IsEnded (dry_search path given named) before after 1 no_roots_line
  dry_search_none told some = record {
    finding = None;
    found = subst (IsToldHere None) input.untouched.held told;
    answer = refl;
    possible = by named some;
    no_line = λ e. absurd cc;
    leaves = tt;
  }
    where
      by : (named : Option NamedRoots) → IfSome named (λ _. ◌≢◌ {A = Option Looked} None None) → IsTrue (is_one_of (dry_search_statuses named) 1)
      by None some = refl
      by (Some roots) some = absurd (some refl)

-- what is kept from named roots
pub kept_told : (image : Image) (given : GivenSuper) (named : NamedRoots) (s : ThinFields) (kept : Kept) (text : List ℕ) → s ≡ named_fields image given named → IsTold s image (told_of kept)
    → text ≡ told_text (told_of kept) → Some text ≡ text_without_super (Some named) given image
kept_told image given named s kept text is told tells =
    ap (λ (text : List ℕ). Some text) (tells ∙ (text_is s image (told_of kept) told ∙ ap (λ (fields : ThinFields). told_text (told_from fields image)) is))
