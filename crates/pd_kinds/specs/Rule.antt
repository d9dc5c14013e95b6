-- Trusted base.
-- The rules in their order, and their printed names.
-- What a set of rules holds, and the tests that make one.
-- The faults of a metadata block.
-- What a report keeps of the faults that were added to it, and which reports pass.
use Rattle.std.specs.Prelude.{ℕ, Bool, ◌==◌, List, [], ◌∷◌, codes, false, ◌||◌, ◌&&◌, if◌then◌else◌, map, filter, ◌+◌, ◌++◌, count_by, length, take}
use Rattle.std.specs.Int.{bit_at}
use Rattle.pd_kinds.specs.declared.rule.Rule.{Rule}
use Rattle.pd_kinds.specs.declared.rules.Rules.{Rules}
use Rattle.pd_kinds.specs.declared.rule.Fault.{Fault}
use Rattle.pd_kinds.specs.declared.rule.Space.TheVariants.{Meta}
use Rattle.pd_kinds.specs.declared.kind.Passing.{Passing}
use Rattle.pd_kinds.specs.declared.kind.Passing.TheVariants.{Nothing, Leaks}
use Rattle.pd_kinds.specs.declared.rule.Rule.TheVariants as r

-- the place of a rule in the order
abbrev pub number_of : Rule → ℕ
number_of r.Checksum = 0
number_of r.Place = 1
number_of r.Magic = 2
number_of r.Version = 3
number_of r.Features = 4
number_of r.Size = 5
number_of r.Flags = 6
number_of r.Shape = 7
number_of r.Order = 8
number_of r.Pointer = 9
number_of r.Beyond = 10
number_of r.Role = 11
number_of r.Level = 12
number_of r.Range = 13
number_of r.Index = 14
number_of r.Device = 15
number_of r.Mapped = 16
number_of r.Length = 17
number_of r.Origin = 18
number_of r.Overflow = 19
number_of r.Leak = 20
number_of r.Short = 21

-- whether two rules are one
abbrev pub same_rule : Rule → Rule → Bool
same_rule rule other = number_of rule == number_of other

-- all rules, in their order
unfoldable pub all_rules : List Rule
all_rules =
    r.Checksum ∷ r.Place ∷ r.Magic ∷ r.Version ∷ r.Features ∷ r.Size ∷ r.Flags ∷ r.Shape ∷ r.Order
    ∷ r.Pointer ∷ r.Beyond ∷ r.Role ∷ r.Level ∷ r.Range ∷ r.Index ∷ r.Device ∷ r.Mapped ∷ r.Length
    ∷ r.Origin ∷ r.Overflow ∷ r.Leak ∷ r.Short ∷ []

-- the printed name of a rule
abbrev pub rule_name : Rule → List ℕ
rule_name r.Checksum = codes "checksum"
rule_name r.Place = codes "place"
rule_name r.Magic = codes "magic"
rule_name r.Version = codes "version"
rule_name r.Features = codes "features"
rule_name r.Size = codes "size"
rule_name r.Flags = codes "flags"
rule_name r.Shape = codes "shape"
rule_name r.Order = codes "order"
rule_name r.Pointer = codes "pointer"
rule_name r.Beyond = codes "beyond"
rule_name r.Role = codes "role"
rule_name r.Level = codes "level"
rule_name r.Range = codes "range"
rule_name r.Index = codes "index"
rule_name r.Device = codes "device"
rule_name r.Mapped = codes "mapped"
rule_name r.Length = codes "length"
rule_name r.Origin = codes "origin"
rule_name r.Overflow = codes "overflow"
rule_name r.Leak = codes "leak"
rule_name r.Short = codes "short"

-- whether the set has the rule
abbrev pub has_rule : Rules → Rule → Bool
has_rule rules wanted = bit_at rules.bits (number_of wanted) == 1

-- one line of a table of rules: the rule, and whether it fails
pub record Test : Type 0 where
  pub rule : Rule
  pub fails : Bool

-- whether a rule fails by a table in which each rule is looked at by itself
unfoldable pub failing : List Test → Rule → Bool
failing [] wanted = false
failing (test ∷ tests) wanted = (test.fails && same_rule test.rule wanted) || failing tests wanted

-- where the first test fails its rule fails alone, and else the others decide
unfoldable pub alone : Rule → Bool → (Rule → Bool) → Rule → Bool
alone first fails others wanted = if fails then same_rule first wanted else others wanted

-- a metadata block breaks a rule
abbrev pub meta_fault : ℕ → Rule → Fault
meta_fault block broken = record { space = Meta; block = block; rule = broken; stored = 0; refs = 0 }

-- the rules that a block breaks, each a fault, in the order of the rules
unfoldable pub faults_at : ℕ → (Rule → Bool) → List Fault
faults_at block bad = map (meta_fault block) (filter bad all_rules)

-- a fault is a leak: a stored count above the references
abbrev pub is_leak : Fault → Bool
is_leak fault = same_rule fault.rule r.Leak

-- the faults that are kept, the number of all, and how many of all are leaks
pub record Reported : Type 0 where
  pub faults : List Fault
  pub total : ℕ
  pub leaks : ℕ

-- the first 1000 of the faults, their number, and that of the leaks
abbrev pub report_of : List Fault → Reported
report_of faults = record { faults = take 1000 faults; total = length faults; leaks = count_by is_leak faults }

-- a report with one more fault: it is kept if fewer than 1000 are, and counted with the leaks if it is one
abbrev pub with_fault : Reported → Fault → Reported
with_fault report fault = record {
  faults = take 1000 (report.faults ++ (fault ∷ []));
  total = report.total + 1;
  leaks = if is_leak fault then report.leaks + 1 else report.leaks;
}

-- whether all faults that were added pass: there is none, or there are leaks alone
abbrev pub passes : Passing → Reported → Bool
passes Nothing report = report.total == 0
passes Leaks report = report.leaks == report.total
