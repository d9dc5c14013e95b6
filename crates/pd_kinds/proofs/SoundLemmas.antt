-- What a block without a bad rule is known by: each test of its rules holds.
use Rattle.std.proofs.Common.{◌≡◌, inl, inr, ℕ, ◌<◌, ◌≤◌, Bool, true, false, not, ◌&&◌, ◌||◌, nat_eq, nat_lt, get_or, List, [], ◌∷◌, refl, arith, eq-eqb}
use Rattle.std.specs.List.{AllByRecursion, list_any}
use Rattle.std.proofs.lemmas.Bool.{cases_Bool, both_ways, and_cases, or_parts, not-false, eqb-false, ltb-true, ltb-false}
use Rattle.std.proofs.lemmas.List.Folds.{list_any_at}
use Rattle.pd_kinds.specs.declared.limits.TheConstants.{MAX_META_BLOCKS}
use Rattle.pd_kinds.specs.declared.rule.Rule.{Rule}
use Rattle.pd_kinds.specs.Rule.{number_of, same_rule, all_rules, Test, failing, alone}
use Rattle.pd_kinds.specs.Graph.{Edge, is_outside, has_edge_outside}
use Rattle.pd_kinds.specs.Image.{is_meta_size_bad}
use Rattle.pd_kinds.proofs.ReportLemmas.{number_below}
use Rattle.pd_kinds.proofs.ListLemmas.{all_from, none_passes}
use Rattle.pd_kinds.specs.declared.rule.Rule.TheVariants as r

-- no rule is broken
abbrev pub IsSound : (Rule → Bool) → Type 0
IsSound bad = (rule : Rule) → bad rule ≡ false

-- each rule stands at its number
pub rule_at : (rule : Rule) → get_or all_rules (number_of rule) r.Checksum ≡ rule
unfolding all_rules
rule_at r.Checksum = refl
rule_at _ = refl

-- a broken rule is one of all
pub some_broken : (bad : Rule → Bool) (rule : Rule) → bad rule ≡ true → list_any bad all_rules ≡ true
unfolding all_rules
some_broken bad rule broken =
    let same : bad (get_or all_rules (number_of rule) r.Checksum) ≡ true = rw (rule_at rule) broken in
    list_any_at bad all_rules (number_of rule) r.Checksum (number_below rule) same

-- so if none of all is broken, no rule is
pub none_broken : (bad : Rule → Bool) → list_any bad all_rules ≡ false → IsSound bad
none_broken bad none rule = elim (cases_Bool (bad rule)) [
  | inl broken ↦ absurd (both_ways (list_any bad all_rules) none (some_broken bad rule broken))
  | inr holds ↦ holds
]

-- a rule is itself
same_self : (rule : Rule) → same_rule rule rule ≡ true
same_self rule = eq-eqb (number_of rule) (number_of rule) refl

-- the rules behind one that fails alone hold
pub others_hold : (first : Rule) (fails : Bool) (others : Rule → Bool) → IsSound (alone first fails others) → IsSound others
unfolding alone
others_hold first true others sound _ = absurd (both_ways (same_rule first first) (sound first) (same_self first))
others_hold first false others sound wanted = sound wanted

-- each test of a table holds where it breaks no rule
pub tests_hold : (tests : List Test) → IsSound (failing tests) → AllByRecursion (λ (test : Test). test.fails ≡ false) tests
unfolding failing
tests_hold [] sound = tt
tests_hold (test ∷ tests) sound =
    let here = or_parts (test.fails && same_rule test.rule test.rule) _ (sound test.rule) in
    let rest : IsSound (failing tests) = λ rule. (or_parts (test.fails && same_rule test.rule rule) _ (sound rule)).1 in
    let holds : test.fails ≡ false = elim (and_cases test.fails (same_rule test.rule test.rule) here.0) [
      | inl holds ↦ holds
      | inr other ↦ absurd (both_ways (same_rule test.rule test.rule) other (same_self test.rule))
    ] in
    (holds, tests_hold tests rest)

-- the tests hold that follow one that fails alone, or two
pub tests_after_one : (first : Rule) (fails : Bool) (tests : List Test) → IsSound (alone first fails (failing tests))
    → AllByRecursion (λ (test : Test). test.fails ≡ false) tests
tests_after_one first fails tests sound = tests_hold tests (others_hold first fails (failing tests) sound)

pub tests_after_two : (first second : Rule) (fails_first fails_second : Bool) (tests : List Test)
    → IsSound (alone first fails_first (alone second fails_second (failing tests)))
    → AllByRecursion (λ (test : Test). test.fails ≡ false) tests
tests_after_two first second fails_first fails_second tests sound =
    tests_after_one second fails_second tests (others_hold first fails_first (alone second fails_second (failing tests)) sound)

-- the block lies inside the metadata
abbrev pub IsInside : ℕ → ℕ → Type 0
IsInside nr block = (1 ≤ block) × (block < nr)

-- which the test says
pub inside_from : (nr block : ℕ) → is_outside nr block ≡ false → IsInside nr block
inside_from nr block holds =
    let parts = or_parts (nat_eq block 0) (not (nat_lt block nr)) holds in
    (omega (arith, eqb-false block 0 parts.0), ltb-true block nr (not-false (nat_lt block nr) parts.1))

-- no edge leads outside of as many blocks, or of fewer
pub edges_inside : (few nr : ℕ) (edges : List Edge) → few ≤ nr → has_edge_outside few edges ≡ false
    → AllByRecursion (λ (edge : Edge). IsInside nr edge.block) edges
unfolding has_edge_outside
edges_inside few nr edges within none =
    all_from (λ (edge : Edge). is_outside few edge.block ≡ false) (λ (edge : Edge). IsInside nr edge.block)
    (λ edge holds. let inside = inside_from few edge.block holds in (inside.0, omega arith)) edges
    (none_passes (λ (edge : Edge). is_outside few edge.block) edges none)

-- a test that is looked at only where an earlier one holds
pub second_holds : (first second : Bool) → first ≡ false → (not first && second) ≡ false → second ≡ false
second_holds true second before holds = absurd (both_ways true before refl)
second_holds false second before holds = holds

-- what is known of a superblock that breaks no rule of a device of so many blocks
pub record IsSoundSuper (device_blocks nr : ℕ) (edges : List Edge) : Type 0 where
  pub some_block : 1 ≤ nr
  pub few_blocks : nr ≤ MAX_META_BLOCKS
  pub within : nr ≤ device_blocks
  pub inside : AllByRecursion (λ (edge : Edge). IsInside device_blocks edge.block) edges

-- its edges are looked at where the sizes hold
pub super_holds : (device_blocks nr : ℕ) (edges : List Edge) (sizes_bad : Bool) → is_meta_size_bad device_blocks nr ≡ false → sizes_bad ≡ false
    → (not sizes_bad && has_edge_outside nr edges) ≡ false → IsSoundSuper device_blocks nr edges
super_holds device_blocks nr edges sizes_bad holds sizes pointers =
    let first = or_parts (nat_eq nr 0) (nat_lt device_blocks nr || nat_lt MAX_META_BLOCKS nr) holds in
    let rest = or_parts (nat_lt device_blocks nr) (nat_lt MAX_META_BLOCKS nr) first.1 in
    record {
      some_block = omega (arith, eqb-false nr 0 first.0);
      few_blocks = ltb-false MAX_META_BLOCKS nr rest.1;
      within = ltb-false device_blocks nr rest.0;
      inside = edges_inside nr device_blocks edges (ltb-false device_blocks nr rest.0) (second_holds sizes_bad _ sizes pointers);
    }
