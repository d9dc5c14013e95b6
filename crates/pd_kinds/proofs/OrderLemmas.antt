-- The order of faults: by space, by block, by rule.
use Rattle.std.proofs.Common.{◌≡◌, ℕ, zero, suc, ◌+◌, ◌≤◌, Bool, nat_lt, List, [], ◌∷◌, ◌++◌, length, map, filter, Option, refl, ap, sym, ◌∙◌, arith, inl, inr}
use Rattle.std.specs.List.{AllByRecursion, flat_map, range_with_len}
use Rattle.std.proofs.lemmas.Bool.{cond_both}
use Rattle.std.specs.declared.option.Option.TheVariants.{Some, None}
use Rattle.pd_kinds.proofs.ListLemmas.{all_append, all_from}
use Rattle.pd_kinds.specs.declared.kind.Stage.{Stage}
use Rattle.pd_kinds.specs.declared.rule.Rule.{Rule}
use Rattle.pd_kinds.specs.declared.rule.Fault.{Fault}
use Rattle.pd_kinds.specs.declared.rule.Space.{Space}
use Rattle.pd_kinds.specs.declared.rule.Space.TheVariants.{Meta, DataBlock}
use Rattle.pd_kinds.specs.Rule.{number_of, all_rules, meta_fault, faults_at}
use Rattle.pd_kinds.specs.FaultOrder.{space_number, IsBefore, AreAscending}
use Rattle.pd_kinds.specs.Graph.{meta_count, data_count}
use Rattle.pd_kinds.specs.Stages.{Checked, super_faults, walk_bad, order_bad, block_faults, count_fault, count_faults, stage_faults, first_failing}
use Rattle.pd_kinds.specs.Whole.{whole_bad}
use Rattle.pd_kinds.specs.declared.kind.Stage.TheVariants as stages

-- faults that ascend, and P holds of each
record Ascends (P : Fault → Type 0) (list : List Fault) : Type 0 where
  in_order : AreAscending list
  each : AllByRecursion P list

nothing : {P : Fault → Type 0} → Ascends P []
nothing = record { in_order = tt; each = tt }

single : {P : Fault → Type 0} {f : Fault} → P f → Ascends P (f ∷ [])
single holds = record { in_order = (tt, tt); each = (holds, tt) }

-- two such lists, each fault of the first before each of the second, ascend together, and R holds of each
module _ (P Q R : Fault → Type 0) (before : (f g : Fault) → P f → Q g → IsBefore f g) (first : (f : Fault) → P f → R f) (second : (g : Fault) → Q g → R g) where
  joined : (fs gs : List Fault) → Ascends P fs → Ascends Q gs → Ascends R (fs ++ gs)
  joined [] gs low high = record { in_order = high.in_order; each = all_from Q R second gs high.each }
  joined (f ∷ fs) gs low high =
      let rest = joined fs gs (record { in_order = low.in_order.1; each = low.each.1 }) high in
      record {
        in_order = (
          all_append (IsBefore f) fs gs low.in_order.0 (all_from Q (IsBefore f) (λ g. before f g low.each.0) gs high.each),
          rest.in_order,
        );
        each = (first f low.each.0, rest.each);
      }

-- a fault of a block, of that block or a later one, and of the block by a rule or a later one
record IsAt (space : Space) (block : ℕ) (fault : Fault) : Type 0 where
  in_space : fault.space ≡ space
  at_block : fault.block ≡ block

record IsFrom (space : Space) (first : ℕ) (fault : Fault) : Type 0 where
  in_space : fault.space ≡ space
  from_block : first ≤ fault.block

record IsByRule (block first : ℕ) (fault : Fault) : Type 0 where
  at : IsAt Meta block fault
  from_rule : first ≤ number_of fault.rule

-- the faults of block after block
ascending_blocks : (space : Space) (faults_of : ℕ → List Fault) → ((b : ℕ) → Ascends (IsAt space b) (faults_of b))
    → (a n : ℕ) → Ascends (IsFrom space a) (flat_map faults_of (range_with_len a n))
ascending_blocks space faults_of here a zero = nothing
ascending_blocks space faults_of here a (suc n) =
    joined (IsAt space a) (IsFrom space (a + 1)) (IsFrom space a)
    (λ f g at later. inr (at.in_space ∙ sym later.in_space, inl (omega (arith, at.at_block, later.from_block))))
    (λ f at. record { in_space = at.in_space; from_block = omega (arith, at.at_block) })
    (λ g later. record { in_space = later.in_space; from_block = omega (arith, later.from_block) })
    (faults_of a) (flat_map faults_of (range_with_len (a + 1) n)) (here a) (ascending_blocks space faults_of here (a + 1) n)

-- the faults of one block, by rules whose numbers count up
ascending_rules : (b : ℕ) (bad : Rule → Bool) (rules : List Rule) (k : ℕ) → map number_of rules ≡ range_with_len k (length rules)
    → Ascends (IsByRule b k) (map (meta_fault b) (filter bad rules))
ascending_rules b bad [] k count = nothing
ascending_rules b bad (rule ∷ rules) k count =
    let head : number_of rule ≡ k = cc in
    let rest = ascending_rules b bad rules (k + 1) (cc) in
    let weaker = all_from (IsByRule b (k + 1)) (IsByRule b k) (λ f by. record { at = by.at; from_rule = omega (arith, by.from_rule) })
    (map (meta_fault b) (filter bad rules)) rest.each in
    let later = all_from (IsByRule b (k + 1)) (IsBefore (meta_fault b rule))
    (λ f by. inr (sym by.at.in_space, inr (sym by.at.at_block, omega (arith, by.from_rule, head))))
    (map (meta_fault b) (filter bad rules)) rest.each in
    cond_both (bad rule) (rule ∷ filter bad rules) (filter bad rules) (λ list. Ascends (IsByRule b k) (map (meta_fault b) list))
    (λ _. record {
      in_order = (later, rest.in_order);
      each = (record { at = record { in_space = refl; at_block = refl }; from_rule = omega (arith, head) }, weaker);
    })
    (λ _. record { in_order = rest.in_order; each = weaker })

all_rules_count : map number_of all_rules ≡ range_with_len 0 (length all_rules)
unfolding all_rules
all_rules_count = refl

ascending_at : (b : ℕ) (bad : Rule → Bool) → Ascends (IsAt Meta b) (faults_at b bad)
unfolding faults_at
ascending_at b bad =
    let rules = ascending_rules b bad all_rules 0 all_rules_count in
    record { in_order = rules.in_order; each = all_from (IsByRule b 0) (IsAt Meta b) (λ f by. by.at) (map (meta_fault b) (filter bad all_rules)) rules.each }

ascending_block_faults : (nr : ℕ) (bad : ℕ → Rule → Bool) → AreAscending (block_faults nr bad)
unfolding block_faults
ascending_block_faults nr bad = (ascending_blocks Meta (λ b. faults_at b (bad b)) (λ b. ascending_at b (bad b)) 0 nr).in_order

-- a count has at most one fault
ascending_count : (space : Space) (b refs : ℕ) (stored : Option ℕ) → Ascends (IsAt space b) (count_fault space b refs stored)
ascending_count space b refs None = single (record { in_space = refl; at_block = refl })
ascending_count space b refs (Some stored) =
    cond_both (nat_lt refs stored) _ _ (Ascends (IsAt space b))
    (λ _. single (record { in_space = refl; at_block = refl }))
    (λ _. cond_both (nat_lt stored refs) _ _ (Ascends (IsAt space b)) (λ _. single (record { in_space = refl; at_block = refl })) (λ _. nothing))

ascending_counts : (checked : Checked) (image : List (List ℕ)) → AreAscending (count_faults checked image)
unfolding count_faults
ascending_counts checked image =
    let metas = ascending_blocks Meta _ (λ b. ascending_count Meta b (meta_count checked.graph image b) (checked.stored_meta b)) 0 checked.graph.nr in
    let datas = ascending_blocks DataBlock _ (λ d. ascending_count DataBlock d (data_count checked.graph image d) (checked.stored_data d)) 0 checked.graph.data_blocks in
    (joined (IsFrom Meta 0) (IsFrom DataBlock 0) (λ f. Unit {0})
    (λ f g meta data_block. inl (omega (arith, ap space_number meta.in_space, ap space_number data_block.in_space)))
    (λ f at. tt) (λ g at. tt) _ _ metas datas).in_order

ascending_super : (checked : Checked) (image : List (List ℕ)) → AreAscending (super_faults checked image)
unfolding super_faults
ascending_super checked [] = (tt, tt)
ascending_super checked (block ∷ blocks) = (ascending_at 0 (checked.super_bad (length (block ∷ blocks)) block)).in_order

ascending_stage : (checked : Checked) (image : List (List ℕ)) (stage : Stage) → AreAscending (stage_faults checked image stage)
ascending_stage checked image stages.Super = ascending_super checked image
ascending_stage checked image stages.Walk = ascending_block_faults checked.graph.nr (walk_bad checked.graph image)
ascending_stage checked image stages.Order = ascending_block_faults checked.graph.nr (order_bad checked.graph image)
ascending_stage checked image stages.Whole = ascending_block_faults checked.graph.nr (whole_bad checked.whole)
ascending_stage checked image stages.Counts = ascending_counts checked image

-- the faults of the first stage that fails
pub ascending_first : (checked : Checked) (image : List (List ℕ)) (list : List Stage) → AreAscending (first_failing checked image list)
unfolding first_failing
ascending_first checked image [] = tt
ascending_first checked image (stage ∷ list) =
    cond_both (nat_lt 0 (length (stage_faults checked image stage))) _ _ AreAscending (λ _. ascending_stage checked image stage) (λ _. ascending_first checked image list)
