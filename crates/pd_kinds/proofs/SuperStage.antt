-- The faults of the stage Super, and those of a block by two sets of rules.
use Rattle.std.proofs.Common.{◌≡◌, ℕ, Bool, map, filter, ap, suc, arith, List, [], ◌∷◌, length, true, nat_lt, if◌then◌else◌, refl}
use Rattle.std.proofs.lemmas.Bool.Decides.{nat_tests}
use Rattle.pd_kinds.specs.declared.rule.Fault.{Fault}
use Rattle.pd_kinds.specs.declared.kind.Kind.{Kind}
use Rattle.pd_kinds.specs.declared.kind.Stage.TheVariants.{Super}
use Rattle.pd_kinds.specs.declared.rule.Rule.{Rule}
use Rattle.pd_kinds.specs.Rule.{all_rules, meta_fault, faults_at}
use Rattle.pd_kinds.specs.Stages.{checked_of, faults, first_failing, super_faults}

-- a list that is chosen where it isn't empty
pub chosen : (list : List Fault) → (if nat_lt 0 (length list) then list else []) ≡ list
chosen [] = refl
chosen (fault ∷ rest) =
    let some : nat_lt 0 (suc (length rest)) ≡ true = grind (arith, nat_tests) in
    rw some refl

-- the faults up to the first stage are those of that stage
pub first_stage : (kind : Kind) (image : List (List ℕ)) → faults kind Super image ≡ super_faults (checked_of kind image) image
unfolding faults first_failing
first_stage kind image = chosen (super_faults (checked_of kind image) image)

-- a list filtered by two tests that agree
filter-same : (p q : Rule → Bool) → ((rule : Rule) → p rule ≡ q rule) → (rules : List Rule) → filter p rules ≡ filter q rules
filter-same p q same [] = refl
filter-same p q same (rule ∷ rules) = rw (same rule, filter-same p q same rules) refl

-- the faults of two sets that agree
pub faults_at-same : (block : ℕ) (p q : Rule → Bool) → ((rule : Rule) → p rule ≡ q rule) → faults_at block p ≡ faults_at block q
unfolding faults_at
faults_at-same block p q same = ap (λ (rules : List Rule). map (meta_fault block) rules) (filter-same p q same all_rules)
