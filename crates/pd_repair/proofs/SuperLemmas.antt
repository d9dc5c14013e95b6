-- What the superblock of the input comes to, and the pool that is saved of it.
use Rattle.std.proofs.Common.{◌≡◌, ◌≢◌, ℕ, Bool, false, List, [], ◌∷◌, length, Option, Some, None, IfSome, Ok, Err, Result, refl, sym, ◌∙◌, arith, ◌≤◌, ap, subst}
use Rattle.std.specs.Prelude.{IfErr, IfOk, MatchResult}
use Rattle.std.proofs.lemmas.Option.{IfSome_then}
use Rattle.std.specs.List.{slice_get}
use Rattle.std.specs.Option.{option_map_or}
use Rattle.std.proofs.lemmas.Bool.{ltb-false, or_parts}
use Rattle.pd_kinds.specs.declared.kind.Kind.{Kind}
use Rattle.pd_kinds.specs.declared.kind.Stage.TheVariants.{Super}
use Rattle.pd_kinds.specs.declared.rule.Fault.{Fault}
use Rattle.pd_kinds.specs.declared.rule.Rule.{Rule}
use Rattle.pd_kinds.specs.declared.rule.Rule.TheVariants.{Size}
use Rattle.pd_kinds.specs.declared.rules.Rules.{Rules}
use Rattle.pd_kinds.specs.Rule.{faults_at, all_rules, same_rule, has_rule}
use Rattle.pd_kinds.specs.Stages.{checked_of, faults, super_faults, thin_checked}
use Rattle.pd_kinds.proofs.CrashLemmas.{Image}
use Rattle.pd_kinds.proofs.CleanLemmas.{no_faults_at, no_rule_broken}
use Rattle.pd_kinds.proofs.SoundLemmas.{IsSound, tests_after_two}
use Rattle.pd_kinds.proofs.SuperStage.{faults_at-same, first_stage}
use Rattle.pd_kinds.specs.declared.kind.Kind.TheVariants.{Thin}
use Rattle.pd_kinds.specs.Graph.{block_at}
use Rattle.pd_kinds.specs.Image.{is_meta_size_bad, max_data_blocks}
use Rattle.pd_kinds.specs.Objects.{DeviceState}
use Rattle.pd_kinds.specs.ThinFormat.{ThinFields, are_thin_sizes_bad, thin_fields, thin_super_bad, thin_super_tests}
use Rattle.pd_kinds.proofs.ThinTable.{super_sound}
use Rattle.pd_restoring.specs.declared.fault.MadeFault.{MadeFault}
use Rattle.pd_restoring.specs.Made.{Content, Ending, IsMade, ending_of, lacking, unbegun}
use Rattle.pd_restoring.proofs.EndingLemmas.{resting}
use Rattle.pd_restoring.specs.declared.fault.MadeFault.TheVariants as made
use Rattle.pd_salvage.specs.declared.saved.SalvageFault.{SalvageFault}
use Rattle.pd_salvage.specs.declared.saved.SalvageFault.TheVariants as saving
use Rattle.pd_repair.specs.declared.repair.RepairFault.{RepairFault}
use Rattle.pd_repair.specs.Repaired.{AnswersSuper, HasSuper, IsFirst, IsOfFaults, NamesRules, BlamesOne, IsBrokenAt, IsRepairedAs, IsRepairedFromAs, IsSoundAt, IsSoundSuper, LacksSuper, ReadsFew}
use Rattle.pd_repair.specs.Faults.{made_fault, output_ending, salvage_fault}
use Rattle.pd_repair.specs.declared.repair.RepairFault.TheVariants as f

-- The rules that the superblock of an input breaks, of any kind.

-- no rule is reported where none is broken
pub other_super : {T : Type 0} (result : Result T RepairFault) (broken : List Fault) → HasSuper result → broken ≡ [] → AnswersSuper result broken
other_super (Ok done) broken other none = none
other_super (Err f.Memory) broken other none = none
other_super (Err f.Input) broken other none = tt
other_super (Err f.Output) broken other none = none
other_super (Err (f.NoSuper rules)) broken other none = absurd other
other_super (Err (f.NoRoom need blocks)) broken other none = none

module _ (kind : Kind) where
  -- the faults of an image without blocks
  missing_faults : faults kind Super [] ≡ faults_at 0 (same_rule Size)
  unfolding super_faults faults_at all_rules
  missing_faults = first_stage kind []

  missing_some : faults kind Super [] ≢ []
  unfolding faults_at all_rules
  missing_some none = let e = missing_faults in cc

  pub missing_faulty : (held : Option Image) (blocks : ℕ) → blocks ≡ 0 → IfSome held (λ image. blocks ≡ length image) → IfSome held (λ image. faults kind Super image ≢ [])
  missing_faulty None blocks none honest = tt
  missing_faulty (Some []) blocks none honest = missing_some
  missing_faulty (Some (block ∷ rest)) blocks none honest = absurd (omega arith)

  -- the rules of a device without blocks are reported
  pub missing_reported : (held : Option Image) (blocks : ℕ) (rules : Rules) → blocks ≡ 0 → IfSome held (λ image. blocks ≡ length image)
      → ((rule : Rule) → has_rule rules rule ≡ same_rule Size rule)
      → IfSome held (λ image. IsOfFaults (f.NoSuper rules) (faults kind Super image))
  missing_reported None blocks rules none honest same = tt
  missing_reported (Some []) blocks rules none honest same = (missing_some, faults_at-same 0 (has_rule rules) (same_rule Size) same ∙ sym missing_faults)
  missing_reported (Some (block ∷ rest)) blocks rules none honest same = absurd (omega arith)

  -- a kind that breaks these rules
  module _ (bad : ℕ → List ℕ → Rule → Bool) (is : (image : Image) → (checked_of kind image).super_bad ≡ bad) where
    -- the faults of an image with this first block
    pub first_faults : (blocks : ℕ) (first : List ℕ) (image : Image) → IsFirst blocks first image → faults kind Super image ≡ faults_at 0 (bad blocks first)
    unfolding super_faults
    first_faults blocks first [] found = let e = found.content in cc
    first_faults blocks first (block ∷ rest) found =
        let same : block ≡ first = let e = found.content in cc in
        first_stage kind (block ∷ rest) ∙ rw (is (block ∷ rest), found.number, same) refl

    -- block 0 breaks a rule
    pub broken_reported : (held : Option Image) (blocks : ℕ) (first : List ℕ) (rules : Rules) → IfSome held (IsFirst blocks first)
        → ((rule : Rule) → has_rule rules rule ≡ bad blocks first rule) → (((rule : Rule) → has_rule rules rule ≡ false) → ⊥)
        → IfSome held (λ image. IsOfFaults (f.NoSuper rules) (faults kind Super image))
    broken_reported held blocks first rules found same broken = IfSome_then held found (λ image here.
        let e = first_faults blocks first image here in (
          (λ none. broken (λ rule. same rule ∙ no_rule_broken 0 (bad blocks first) (sym e ∙ none) rule)),
          faults_at-same 0 (has_rule rules) (bad blocks first) same ∙ sym e,
        ))

    -- it breaks none
    pub none_reported : {T : Type 0} (result : Result T RepairFault) (held : Option Image) (blocks : ℕ) (first : List ℕ) → IfSome held (IsFirst blocks first)
        → IsSound (bad blocks first) → HasSuper result → IfSome held (λ image. AnswersSuper result (faults kind Super image))
    none_reported result held blocks first found sound other = IfSome_then held found (λ image here.
        other_super result (faults kind Super image) other (first_faults blocks first image here ∙ no_faults_at 0 (bad blocks first) sound))

  -- a read that failed tells nothing of the superblock
  pub any_reported : (held : Option Image) → IfSome held (λ image. IsOfFaults f.Input (faults kind Super image))
  any_reported None = tt
  any_reported (Some image) = tt

-- the rule of a device without blocks is named
pub missing_named : (rules : Rules) → ((rule : Rule) → has_rule rules rule ≡ same_rule Size rule) → NamesRules (f.NoSuper rules)
missing_named rules same none = let e = sym (same Size) ∙ none Size in cc

-- no rules are reported
pub other_named : {T : Type 0} (result : Result T RepairFault) → HasSuper result → IfErr result NamesRules
other_named (Ok done) other = tt
other_named (Err f.Memory) other = tt
other_named (Err f.Input) other = tt
other_named (Err f.Output) other = tt
other_named (Err (f.NoSuper rules)) other = absurd other
other_named (Err (f.NoRoom need blocks)) other = tt

-- none is broken
pub none_broken : (rules : Rules) (bad : Rule → Bool) → ((rule : Rule) → has_rule rules rule ≡ bad rule) → ((rule : Rule) → has_rule rules rule ≡ false) → IsSound bad
none_broken rules bad same none rule = sym (same rule) ∙ none rule

-- the rules of a device without blocks are reported
pub missing_super : (held : Option Image) (blocks most reads : ℕ) (rules : Rules) → blocks ≡ 0 → IfSome held (λ image. blocks ≡ length image)
    → ((rule : Rule) → has_rule rules rule ≡ same_rule Size rule) → reads ≤ most → LacksSuper (f.NoSuper rules) most reads held
missing_super held blocks most reads rules none honest same few = record {
  ending = refl;
  rules = missing_reported Thin held blocks rules none honest same;
  named = missing_named rules same;
  few = few;
}

-- block 0 breaks a rule
broken_rules : (held : Option Image) (blocks : ℕ) (first : List ℕ) (rules : Rules) → IfSome held (IsFirst blocks first)
    → ((rule : Rule) → has_rule rules rule ≡ thin_super_bad blocks first rule) → (((rule : Rule) → has_rule rules rule ≡ false) → ⊥)
    → IfSome held (λ image. IsOfFaults (f.NoSuper rules) (faults Thin Super image))
unfolding thin_checked
broken_rules = broken_reported Thin thin_super_bad (λ image. refl)

pub broken_super : (held : Option Image) (blocks most reads : ℕ) (first : List ℕ) (fault : RepairFault) → IfSome held (IsFirst blocks first) → IsBrokenAt fault blocks first → reads ≤ most
    → LacksSuper fault most reads held
broken_super held blocks most reads first fault found broken few =
    subst (λ (other : RepairFault). NamesRules other → LacksSuper other most reads held) (sym broken.is)
    (λ named. record { ending = refl; rules = broken_rules held blocks first broken.rules found broken.broken named; named = named; few = few }) broken.named

-- a read that failed tells nothing of the superblock
pub unread_super : (held : Option Image) (most reads : ℕ) → LacksSuper f.Input most reads held
unread_super held most reads = record { ending = refl; rules = any_reported Thin held; named = tt; few = tt }

-- it breaks none: its sizes are in range
pub found_super : (s : ThinFields) (blocks : ℕ) (first : List ℕ) (from : DeviceState) → IsSoundAt s blocks first → blocks ≡ from.blocks → IfSome from.held (IsFirst blocks first) → IsSoundSuper s from
unfolding thin_checked thin_super_bad thin_super_tests are_thin_sizes_bad
found_super s blocks first from at number found =
    let tests = tests_after_two _ _ _ _ (thin_super_tests blocks first) at.sound in
    let super = super_sound blocks first at.sound in
    rw (at.is, sym number) (record {
      some = super.some_block;
      there = super.within;
      few = super.few_blocks;
      fits = ltb-false max_data_blocks (thin_fields first).data_map.blocks (or_parts (is_meta_size_bad blocks (thin_fields first).meta_map.blocks) _ tests.1.0).1;
      right = IfSome_then from.held found (λ image here. (
        let at : block_at image 0 ≡ first = rw here.content refl in ap thin_fields (sym at),
        first_faults Thin thin_super_bad (λ image. refl) blocks first image here ∙ no_faults_at 0 (thin_super_bad blocks first) at.sound,
      ));
    })

-- what is found in the first block, where it was read
pub first_read : (held : Option Image) (blocks : ℕ) (first : List ℕ) → IfSome held (λ image. blocks ≡ length image) → IfSome held (λ image. slice_get image 0 ≡ Some first)
    → IfSome held (IsFirst blocks first)
first_read None blocks first honest content = tt
first_read (Some image) blocks first honest content = record { number = honest; content = content }

pub sound_found : (result : Result ThinFields RepairFault) (blocks : ℕ) (first : List ℕ) (from : DeviceState) → blocks ≡ from.blocks → IfSome from.held (IsFirst blocks first)
    → IfOk result (λ fields. IsSoundAt fields blocks first) → IfOk result (λ fields. IsSoundSuper fields from)
sound_found (Ok fields) blocks first from number found at = found_super fields blocks first from at number found
sound_found (Err fault) blocks first from number found at = tt

pub broken_found : (result : Result ThinFields RepairFault) (blocks most reads : ℕ) (first : List ℕ) (held : Option Image) → IfSome held (IsFirst blocks first) → reads ≤ most
    → IfErr result (λ fault. IsBrokenAt fault blocks first) → IfErr result (λ fault. LacksSuper fault most reads held)
broken_found (Ok fields) blocks most reads first held found few broken = tt
broken_found (Err fault) blocks most reads first held found few broken = broken_super held blocks most reads first fault found broken few

-- no device is blamed for a superblock that was read
pub none_blamed : (result : Result ThinFields RepairFault) (blocks old new output : ℕ) (first : List ℕ) → new ≡ old → IfErr result (λ fault. IsBrokenAt fault blocks first)
    → MatchResult result (λ _. new ≡ old) (λ fault. BlamesOne fault old new output output)
none_blamed (Ok fields) blocks old new output first same broken = same
none_blamed (Err fault) blocks old new output first same broken = rw broken.is (same, refl)

-- what was saved of what is told, and then seen
pub told_seen : {M : Type 0} (see : M → M) (base : Image → M) (held : Option Image) (saved seen : M) → seen ≡ see saved → IfSome held (λ image. saved ≡ base image)
    → IfSome held (λ image. seen ≡ see (base image))
told_seen see base held saved seen is told = IfSome_then held told (λ image same. is ∙ ap see same)

-- a fault of the writing ends it as it did
made_ends : (fault : MadeFault) → output_ending {T = Unit {0}} (Err (made_fault fault)) ≡ ending_of (Err fault)
made_ends made.Memory = refl
made_ends made.Device = refl
made_ends (made.NoRoom need blocks) = refl

pub made_unwritten : (content : Content) (written : Result (Unit {0}) MadeFault) (result : Result (Unit {0}) RepairFault) (fault : MadeFault) (old new : DeviceState)
    → written ≡ Err fault → result ≡ Err (made_fault fault) → IsMade content (ending_of written) old new → IsMade content (output_ending result) old new
made_unwritten content written result fault old new was is done =
    subst (λ (e : Ending). IsMade content e old new)
    (ap ending_of was ∙ (sym (made_ends fault) ∙ ap (λ (r : Result (Unit {0}) RepairFault). output_ending r) (sym is))) done

module _ {M : Type 0} (content : M → Content) (saved_from : ThinFields → Image → M) where
  -- what is saved of what is told
  saved_in : (Image → M) → Option Image → M
  saved_in saved held = option_map_or saved held (saved [])

  saved_told : (saved : Image → M) (held : Option Image) → IfSome held (λ image. saved_in saved held ≡ saved image)
  unfolding saved_in
  saved_told saved None = tt
  saved_told saved (Some image) = refl

  -- a fault before anything was saved: memory was wanting, or the input failed
  pub never_saved : (fields : ThinFields) (fault : SalvageFault) (result : Result (Unit {0}) RepairFault) (from device : DeviceState) → result ≡ Err (salvage_fault fault)
      → IsRepairedFromAs content saved_from fields result from device device
  never_saved fields fault result from device is = record {
    pool = saved_in (saved_from fields) from.held;
    right = saved_told (saved_from fields) from.held;
    output = rw is (unwritten (saved_in (saved_from fields) from.held) fault);
  }
    where
      unwritten : (pool : M) (fault : SalvageFault) → IsMade (content pool) (output_ending {T = Unit {0}} (Err (salvage_fault fault))) device device
      unwritten pool saving.Memory = resting (content pool) lacking device (λ none. none) tt
      unwritten pool saving.Device = resting (content pool) unbegun device (λ none. none) tt

  -- or memory was wanting before anything was written
  pub never_seen : (fields : ThinFields) (result : Result (Unit {0}) RepairFault) (from device : DeviceState) → result ≡ Err f.Memory
      → IsRepairedFromAs content saved_from fields result from device device
  never_seen fields result from device is = record {
    pool = saved_in (saved_from fields) from.held;
    right = saved_told (saved_from fields) from.held;
    output = rw is (resting (content (saved_in (saved_from fields) from.held)) lacking device (λ none. none) tt);
  }

  abbrev saved_of : Image → M
  saved_of image = saved_from (thin_fields (block_at image 0)) image

  -- a fault of the superblock, or of its read
  pub never_repaired : (fault : RepairFault) (most reads : ℕ) (from device : DeviceState) → LacksSuper fault most reads from.held → IsRepairedAs content saved_of (Err fault) from device device
  never_repaired fault most reads from device lacks = record {
    pool = saved_in saved_of from.held;
    right = saved_told saved_of from.held;
    rules = lacks.rules;
    output = rw lacks.ending (resting (content (saved_in saved_of from.held)) unbegun device (λ none. none) tt);
  }

  -- a repair from a superblock that breaks no rule: what is told of the input stays where it is read
  pub repaired_sound : (result : Result (Unit {0}) RepairFault) (s : ThinFields) (from later old new : DeviceState) → later.held ≡ from.held → IsSoundSuper s from → HasSuper result
      → IsRepairedFromAs content saved_from s result later old new → IsRepairedAs content saved_of result from old new
  repaired_sound result s from later old new same sound other done = record {
    pool = done.pool;
    right = IfSome_both from.held sound.right (subst (λ (o : Option Image). IfSome o (λ image. done.pool ≡ saved_from s image)) same done.right) (λ image found right.
        right ∙ ap (λ (fields : ThinFields). saved_from fields image) found.0);
    rules = IfSome_then from.held sound.right (λ image found. other_super result (faults Thin Super image) other found.1);
    output = done.output;
  }
    where
      IfSome_both : {P Q R : Image → Type 0} (held : Option Image) → IfSome held P → IfSome held Q → ((image : Image) → P image → Q image → R image) → IfSome held R
      IfSome_both None p q both = tt
      IfSome_both (Some image) p q both = both image p q

-- a repair that reads on says nothing of how often
pub other_reads : (result : Result (Unit {0}) RepairFault) (most reads : ℕ) → HasSuper result → IfErr result (λ fault. ReadsFew fault most reads)
other_reads (Ok done) most reads other = tt
other_reads (Err f.Memory) most reads other = tt
other_reads (Err f.Input) most reads other = tt
other_reads (Err f.Output) most reads other = tt
other_reads (Err (f.NoSuper rules)) most reads other = absurd other
other_reads (Err (f.NoRoom need blocks)) most reads other = tt
