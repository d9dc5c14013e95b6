-- What a repair promises.
use Rattle.std.specs.Prelude.{◌≡◌, ◌≢◌, ℕ, ◌≤◌, ◌^◌, false, List, [], length, slice_get, Option, Some, Result, Err, IfSome, MatchResult}
use Rattle.pd_kinds.specs.declared.rule.Fault.{Fault}
use Rattle.pd_kinds.specs.declared.rule.Rule.{Rule}
use Rattle.pd_kinds.specs.declared.kind.Kind.TheVariants.{Thin}
use Rattle.pd_kinds.specs.declared.kind.Stage.TheVariants.{Super}
use Rattle.pd_kinds.specs.declared.rules.Rules.{Rules}
use Rattle.pd_kinds.specs.Rule.{faults_at, has_rule}
use Rattle.pd_kinds.specs.Graph.{block_at}
use Rattle.pd_kinds.specs.Objects.{DeviceState, Rose}
use Rattle.pd_kinds.specs.Stages.{faults}
use Rattle.pd_kinds.specs.ThinFormat.{ThinFields, thin_fields, thin_super_bad}
use Rattle.pd_laid.specs.Salvage.{salvage, salvage_from, saved_shape, saved_shape_from}
use Rattle.pd_restoring.specs.Made.{Content, IsMade, unbegun}
use Rattle.pd_restore.specs.Pools.{pool_content, shape_content}
use Rattle.pd_repair.specs.declared.repair.RepairFault.{RepairFault}
use Rattle.pd_repair.specs.declared.repair.RepairFault.TheVariants.{Memory, Input, Output, NoSuper, NoRoom}
use Rattle.pd_repair.specs.Faults.{output_ending}

-- a repair from a superblock of these fields, which writes what is saved of the pool as this content
pub record IsRepairedFromAs {M : Type 0} (content : M → Content) (saved_from : ThinFields → List (List ℕ) → M)
    (fields : ThinFields) (result : Result (Unit {0}) RepairFault) (from old new : DeviceState) : Type 0 where
  pub pool : M
  pub right : IfSome from.held (λ image. pool ≡ saved_from fields image)
  pub output : IsMade (content pool) (output_ending result) old new

-- one that shares no leaf, and one that shares those that are saved whole twice or more
abbrev pub IsRepairedFrom : ThinFields → Result (Unit {0}) RepairFault → DeviceState → DeviceState → DeviceState → Type 0
IsRepairedFrom fields result from old new = IsRepairedFromAs pool_content salvage_from fields result from old new

abbrev pub IsSharedRepairedFrom : ThinFields → Result (Unit {0}) RepairFault → DeviceState → DeviceState → DeviceState → Type 0
IsSharedRepairedFrom fields result from old new = IsRepairedFromAs shape_content saved_shape_from fields result from old new

-- what the faults of the input's superblock are answered by
abbrev pub IsOfFaults : RepairFault → List Fault → Type 0
IsOfFaults Memory broken = broken ≡ []
IsOfFaults Input broken = Unit {0}
IsOfFaults Output broken = broken ≡ []
IsOfFaults (NoSuper rules) broken = (broken ≢ []) × (faults_at 0 (has_rule rules) ≡ broken)
IsOfFaults (NoRoom need blocks) broken = broken ≡ []

abbrev pub AnswersSuper : {T : Type 0} → Result T RepairFault → List Fault → Type 0
AnswersSuper result broken = MatchResult result (λ done. broken ≡ []) (λ fault. IsOfFaults fault broken)

-- a repair that looks at these faults: they are reported exactly where there are some, and only a read can fail before
pub record IsRepairedBy {M : Type 0} (broken : List (List ℕ) → List Fault) (content : M → Content) (saved : List (List ℕ) → M)
    (result : Result (Unit {0}) RepairFault) (from old new : DeviceState) : Type 0 where
  pub pool : M
  pub right : IfSome from.held (λ image. pool ≡ saved image)
  pub rules : IfSome from.held (λ image. AnswersSuper result (broken image))
  pub output : IsMade (content pool) (output_ending result) old new

-- one that looks at those of the superblock
abbrev pub IsRepairedAs : {M : Type 0} (content : M → Content) → (List (List ℕ) → M) → Result (Unit {0}) RepairFault → DeviceState → DeviceState → DeviceState → Type 0
IsRepairedAs content saved result from old new = IsRepairedBy (faults Thin Super) content saved result from old new

abbrev pub IsRepaired : Result (Unit {0}) RepairFault → DeviceState → DeviceState → DeviceState → Type 0
IsRepaired result from old new = IsRepairedAs pool_content salvage result from old new

abbrev pub IsSharedRepaired : Result (Unit {0}) RepairFault → DeviceState → DeviceState → DeviceState → Type 0
IsSharedRepaired result from old new = IsRepairedAs shape_content saved_shape result from old new

-- no rules are reported
abbrev pub IsOther : RepairFault → Type 0
IsOther Memory = Unit {0}
IsOther Input = Unit {0}
IsOther Output = Unit {0}
IsOther (NoSuper rules) = ⊥
IsOther (NoRoom need blocks) = Unit {0}

abbrev pub HasSuper : {T : Type 0} → Result T RepairFault → Type 0
HasSuper result = MatchResult result (λ done. Unit {0}) IsOther

-- where rules are reported, there are some
abbrev pub NamesRules : RepairFault → Type 0
NamesRules Memory = Unit {0}
NamesRules Input = Unit {0}
NamesRules Output = Unit {0}
NamesRules (NoSuper rules) = ((rule : Rule) → has_rule rules rule ≡ false) → ⊥
NamesRules (NoRoom need blocks) = Unit {0}

-- where rules are reported, no more than so many blocks were read
abbrev pub ReadsFew : RepairFault → ℕ → ℕ → Type 0
ReadsFew Memory most reads = Unit {0}
ReadsFew Input most reads = Unit {0}
ReadsFew Output most reads = Unit {0}
ReadsFew (NoSuper rules) most reads = reads ≤ most
ReadsFew (NoRoom need blocks) most reads = Unit {0}

-- the image has so many blocks, and this one is the first
pub record IsFirst (blocks : ℕ) (first : List ℕ) (image : List (List ℕ)) : Type 0 where
  pub number : blocks ≡ length image
  pub content : slice_get image 0 ≡ Some first

-- this is the superblock in the first of so many blocks, and breaks no rule; or these rules are those that it breaks
pub record IsSoundAt (s : ThinFields) (blocks : ℕ) (first : List ℕ) : Type 0 where
  pub is : s ≡ thin_fields first
  pub sound : (rule : Rule) → thin_super_bad blocks first rule ≡ false

pub record IsBrokenAt (fault : RepairFault) (blocks : ℕ) (first : List ℕ) : Type 0 where
  pub rules : Rules
  pub is : fault ≡ NoSuper rules
  pub broken : (rule : Rule) → has_rule rules rule ≡ thin_super_bad blocks first rule
  pub named : NamesRules fault

-- this is the superblock of a device, and breaks no rule
pub record IsSoundSuper (s : ThinFields) (from : DeviceState) : Type 0 where
  pub some : 1 ≤ s.meta_map.blocks
  pub there : s.meta_map.blocks ≤ from.blocks
  pub few : s.meta_map.blocks ≤ 4161600
  pub fits : s.data_map.blocks ≤ 2 ^ 40
  pub right : IfSome from.held (λ image. (s ≡ thin_fields (block_at image 0)) × (faults Thin Super image ≡ []))

-- it breaks rules, or wasn't read, after at most so many reads
pub record LacksSuper (fault : RepairFault) (most reads : ℕ) (held : Option (List (List ℕ))) : Type 0 where
  pub ending : output_ending {T = Unit {0}} (Err fault) ≡ unbegun
  pub rules : IfSome held (λ image. IsOfFaults fault (faults Thin Super image))
  pub named : NamesRules fault
  pub few : ReadsFew fault most reads

-- the counts of failures: that of the input rose where it is blamed, that of the output where that is, and else none
abbrev pub BlamesOne : RepairFault → ℕ → ℕ → ℕ → ℕ → Type 0
BlamesOne Memory s t d e = (t ≡ s) × (e ≡ d)
BlamesOne Input s t d e = (Rose s t × (s ≤ t)) × (e ≡ d)
BlamesOne Output s t d e = (t ≡ s) × (Rose d e × (d ≤ e))
BlamesOne (NoSuper rules) s t d e = (t ≡ s) × (e ≡ d)
BlamesOne (NoRoom need blocks) s t d e = (t ≡ s) × (e ≡ d)

abbrev pub CountsRepair : {T : Type 0} → Result T RepairFault → ℕ → ℕ → ℕ → ℕ → Type 0
CountsRepair result s t d e = MatchResult result (λ done. (t ≡ s) × (e ≡ d)) (λ fault. BlamesOne fault s t d e)
