-- Trusted base.
-- An image whose faults are leaks alone.
use Rattle.std.specs.Prelude.{◌≡◌, ℕ, ◌<◌, ◌≤◌, List, Option, Some, None}
use Rattle.std.specs.List.{AllByRecursion}
use Rattle.pd_kinds.specs.declared.rule.Fault.{Fault}
use Rattle.pd_kinds.specs.declared.kind.Kind.{Kind}
use Rattle.pd_kinds.specs.declared.kind.Stage.TheVariants.{Counts}
use Rattle.pd_kinds.specs.declared.rule.Rule.TheVariants.{Leak}
use Rattle.pd_kinds.specs.Graph.{meta_count, data_count}
use Rattle.pd_kinds.specs.Stages.{Checked, faults}

-- each of these faults is a leak
abbrev pub AreLeaks : List Fault → Type 0
AreLeaks found = AllByRecursion (λ (fault : Fault). fault.rule ≡ Leak) found

-- each fault of an image of a kind, up to the last stage, is a leak; so it is of a clean image
abbrev pub OnlyLeaks : Kind → List (List ℕ) → Type 0
OnlyLeaks kind image = AreLeaks (faults kind Counts image)

-- a count is stored, and isn't below the references
abbrev pub IsAtLeast : Option ℕ → ℕ → Type 0
IsAtLeast None references = ⊥
IsAtLeast (Some stored) references = references ≤ stored

-- no stored count is below its references: no block that is referred to is held to be free, or to have fewer users
pub record AreCountsEnough (checked : Checked) (image : List (List ℕ)) : Type 0 where
  pub meta : (b : ℕ) → b < checked.graph.nr → IsAtLeast (checked.stored_meta b) (meta_count checked.graph image b)
  pub of_data : (d : ℕ) → d < checked.graph.data_blocks → IsAtLeast (checked.stored_data d) (data_count checked.graph image d)
