-- Blocks in a role with more than one reference are the bitmaps that the definition names.
use Rattle.std.proofs.Common.{◌≡◌, inl, inr, ℕ, ◌<◌, ◌≤◌, Bool, true, false, ◌&&◌, ◌||◌, nat_eq, List, [], ◌∷◌, ◌++◌, refl, sym, ap, ◌∙◌, arith, ◌*◌, nat_lt, filter, eq-eqb}
use Rattle.std.proofs.Math.Bool.{or-false, or_assoc}
use Rattle.std.proofs.lemmas.Bool.{and_parts, cases_lt, ne_eqb, and_from, eqb-true}
use Rattle.std.proofs.lemmas.List.Folds.{list_any-append}
use Rattle.std.specs.Cmp.{nat_eq_equiv}
use Rattle.std.specs.List.{list_any, range_with_len}
use Rattle.pd_kinds.specs.declared.rule.Rule.{Rule}
use Rattle.pd_kinds.specs.Rule.{same_rule}
use Rattle.pd_kinds.specs.Whole.{WholeTest, whole_bad, bitmap_tests}
use Rattle.pd_kinds.specs.Graph.{Graph, pair, block_of, role_of, nodes, is_reached, meta_count}
use Rattle.pd_kinds.proofs.KindsListLemmas.{any-map}
use Rattle.pd_kinds.proofs.NumberLemmas.{same_test}
use Rattle.pd_kinds.proofs.PathLemmas.{passing_below, passes_below}
use Rattle.pd_kinds.specs.declared.rule.Rule.TheVariants as r
use Rattle.pd_graph.specs.declared.audit.Audit.{Audit}
use Rattle.pd_graph.specs.Audit.{blocks_of, has_rule_at, KeepsButRules}
use Rattle.pd_graph.proofs.AnyLemmas.{any_kept}
use Rattle.pd_graph.proofs.BitLemmas.{pair_block, pair_role}
use Rattle.pd_check.specs.Known.{Charges, IsKnown}
use Rattle.pd_check.specs.Refs.{is_shared, shared_test, shared_tests}

-- Tests of the whole image, one after another, and what they charge.

-- no test fails of none, and one of two lists where one of either fails
pub whole_bad-nil : (b : ℕ) (wanted : Rule) → whole_bad [] b wanted ≡ false
unfolding whole_bad
whole_bad-nil b wanted = refl

pub whole_bad-append : (xs ys : List WholeTest) (b : ℕ) (wanted : Rule) → whole_bad (xs ++ ys) b wanted ≡ (whole_bad xs b wanted || whole_bad ys b wanted)
unfolding whole_bad
whole_bad-append xs ys b wanted = list_any-append _ xs ys

pub whole_bad-cons : (x : WholeTest) (xs : List WholeTest) (b : ℕ) (wanted : Rule) → whole_bad (x ∷ xs) b wanted ≡ (whole_bad (x ∷ []) b wanted || whole_bad xs b wanted)
whole_bad-cons x xs b wanted = whole_bad-append (x ∷ []) xs b wanted

-- one test
pub whole_bad-one : (x : WholeTest) (b : ℕ) (wanted : Rule) → whole_bad (x ∷ []) b wanted ≡ (x.fails && (nat_eq x.block b && same_rule x.rule wanted))
unfolding whole_bad
whole_bad-one x b wanted = or-false (x.fails && (nat_eq x.block b && same_rule x.rule wanted))

-- all but the rules stays where nothing is done, and over two steps
pub keeps_none : (a : Audit) → KeepsButRules a a
keeps_none a = record { number = refl; walked = refl; roles = λ b. refl; counts = λ b. refl; notes = λ b. refl }

pub keeps_both : (a b c : Audit) → KeepsButRules a b → KeepsButRules b c → KeepsButRules a c
keeps_both a b c first second = record {
  number = second.number ∙ first.number;
  walked = second.walked ∙ first.walked;
  roles = λ n. second.roles n ∙ first.roles n;
  counts = λ n. second.counts n ∙ first.counts n;
  notes = λ n. second.notes n ∙ first.notes n;
}

-- no test charges nothing
pub charges_none : (a : Audit) → Charges [] a a
charges_none a = record {
  rules = λ b wanted within. sym (rw (whole_bad-nil b wanted) (or-false (has_rule_at a b wanted)));
  kept = keeps_none a;
}

-- tests, and then others
pub charges_then : (xs ys : List WholeTest) (a b c : Audit) → Charges xs a b → Charges ys b c → Charges (xs ++ ys) a c
charges_then xs ys a b c first second = record {
  rules = λ n wanted within.
      let there : n < blocks_of b = let same = first.kept.number in omega arith in
      second.rules n wanted there
      ∙ (ap (λ (x : Bool). x || whole_bad ys n wanted) (first.rules n wanted within)
      ∙ (or_assoc (has_rule_at a n wanted) (whole_bad xs n wanted) (whole_bad ys n wanted)
      ∙ ap (λ (x : Bool). has_rule_at a n wanted || x) (sym (whole_bad-append xs ys n wanted))));
  kept = keeps_both a b c first.kept second.kept;
}

-- tests that say the same of each block
pub charges_same : (xs ys : List WholeTest) (a b : Audit) → ((n : ℕ) (wanted : Rule) → n < blocks_of a → whole_bad xs n wanted ≡ whole_bad ys n wanted)
    → Charges xs a b → Charges ys a b
charges_same xs ys a b same charged = record {
  rules = λ n wanted within. charged.rules n wanted within ∙ ap (λ (x : Bool). has_rule_at a n wanted || x) (same n wanted within);
  kept = charged.kept;
}

-- a rule is charged where it fails at a block that there is
pub charges_failing : (block : ℕ) (broken : Rule) (fails there : Bool) (old new : Audit) → (fails && there) ≡ true
    → ((b : ℕ) (wanted : Rule) → has_rule_at new b wanted ≡ (has_rule_at old b wanted || (nat_eq b block && same_rule broken wanted)))
    → KeepsButRules old new → Charges (record { block = block; rule = broken; fails = fails } ∷ []) old new
charges_failing block broken fails there old new both marked kept = record {
  rules = λ b wanted within.
      marked b wanted
      ∙ ap (λ (x : Bool). has_rule_at old b wanted || x)
      (sym (rw (whole_bad-one (record { block = block; rule = broken; fails = fails }) b wanted, (and_parts fails there both).0, nat_eq_equiv.symm block b) refl));
  kept = kept;
}

-- and else nothing is
not_charged : (block : ℕ) (broken : Rule) (fails there : Bool) (b : ℕ) (wanted : Rule) → (fails && there) ≡ false → (there ≡ false → b ≡ block → ⊥)
    → (fails && (nat_eq block b && same_rule broken wanted)) ≡ false
not_charged block broken false there b wanted either outside = refl
not_charged block broken true there b wanted either outside = rw (ne_eqb block b (λ same. outside either (sym same))) refl

pub charges_nothing : (block : ℕ) (broken : Rule) (fails there : Bool) (audit : Audit) → (fails && there) ≡ false → (there ≡ false → blocks_of audit ≤ block)
    → Charges (record { block = block; rule = broken; fails = fails } ∷ []) audit audit
charges_nothing block broken fails there audit either outside = record {
  rules = λ b wanted within.
      sym (rw (
        whole_bad-one (record { block = block; rule = broken; fails = fails }) b wanted,
        not_charged block broken fails there b wanted either (λ is same. let far = outside is in omega arith),
      ) (or-false (has_rule_at audit b wanted)));
  kept = keeps_none audit;
}

-- a test that is told where its block is one of the audit's
pub charges_where : (block : ℕ) (broken : Rule) (fails told : Bool) (old new : Audit) → (block < blocks_of old → fails ≡ told)
    → Charges (record { block = block; rule = broken; fails = fails } ∷ []) old new → Charges (record { block = block; rule = broken; fails = told } ∷ []) old new
charges_where block broken fails told old new same charges =
    charges_same (record { block = block; rule = broken; fails = fails } ∷ []) (record { block = block; rule = broken; fails = told } ∷ []) old new
    (λ n wanted within.
    whole_bad-one (record { block = block; rule = broken; fails = fails }) n wanted
    ∙ (elim (cases_lt block (blocks_of old)) [
      | inl there ↦ ap (λ (b : Bool). b && (nat_eq block n && same_rule broken wanted)) (same there)
      | inr outside ↦ rw (ne_eqb block n (λ e. omega arith)) (no_test fails told)
    ]
    ∙ sym (whole_bad-one (record { block = block; rule = broken; fails = told }) n wanted)))
    charges
  where
    no_test : (a b : Bool) → (a && false) ≡ (b && false)
    no_test true true = refl
    no_test true false = refl
    no_test false true = refl
    no_test false false = refl

-- what a block has stays while rules are added
pub shared_stays : (old new : Audit) (role b : ℕ) → KeepsButRules old new → is_shared new role b ≡ is_shared old role b
shared_stays old new role b kept = rw (kept.roles b, kept.counts b) refl

-- the blocks, against the pairs
blocks_or_pairs : (shared reached : ℕ → Bool) (number : ℕ → ℕ) (same : Bool) (nr b role : ℕ) → b < nr → role < 16
    → shared b ≡ (reached (pair b role) && nat_lt 1 (number b))
    → list_any (λ c. shared c && (nat_eq c b && same)) (range_with_len 0 nr)
    ≡ list_any (λ p. reached p && (nat_eq (role_of p) role && (nat_lt 1 (number (block_of p)) && (nat_eq (block_of p) b && same)))) (range_with_len 0 (16 * nr))
blocks_or_pairs shared reached number same nr b role within small is =
    let by_block = λ (c : ℕ). shared c && (nat_eq c b && same) in
    let by_pair = λ (p : ℕ). reached p && (nat_eq (role_of p) role && (nat_lt 1 (number (block_of p)) && (nat_eq (block_of p) b && same))) in
    same_test _ _
    (λ any.
    let at = passing_below by_block nr any in
    let parts = and_parts (shared at.0) (nat_eq at.0 b && same) at.2 in
    let rest = and_parts (nat_eq at.0 b) same parts.1 in
    let here = and_parts (reached (pair b role)) (nat_lt 1 (number b)) (sym is ∙ (ap shared (sym (eqb-true at.0 b rest.0)) ∙ parts.0)) in
    passes_below by_pair (16 * nr) (pair b role) (omega arith)
    (and_from (reached (pair b role)) _ here.0
    (and_from (nat_eq (role_of (pair b role)) role) _ (eq-eqb _ _ (pair_role b role small))
    (and_from (nat_lt 1 (number (block_of (pair b role)))) _ (ap (λ (c : ℕ). nat_lt 1 (number c)) (pair_block b role small) ∙ here.1)
    (and_from (nat_eq (block_of (pair b role)) b) same (eq-eqb _ _ (pair_block b role small)) rest.1)))))
    (λ any.
    let at = passing_below by_pair (16 * nr) any in
    let p = at.0 in
    let parts = and_parts (reached p) _ at.2 in
    let in_role = and_parts (nat_eq (role_of p) role) _ parts.1 in
    let several = and_parts (nat_lt 1 (number (block_of p))) _ in_role.1 in
    let of_block = and_parts (nat_eq (block_of p) b) same several.1 in
    let role_is = eqb-true (role_of p) role in_role.0 in
    let block_is = eqb-true (block_of p) b of_block.0 in
    let is_pair : p ≡ pair b role = omega arith in
    passes_below by_block nr b within
    (and_from (shared b) _
    (is ∙ and_from (reached (pair b role)) _ (ap reached (sym is_pair) ∙ parts.0) (ap (λ (c : ℕ). nat_lt 1 (number c)) (sym block_is) ∙ several.0))
    (and_from (nat_eq b b) same (eq-eqb b b refl) of_block.1)))

module _ (graph : Graph) (image : List (List ℕ)) (audit : Audit) (known : IsKnown graph image audit) (role : ℕ) (small : role < 16) where
  -- the tests of either say the same
  same_bitmaps : (b : ℕ) (wanted : Rule) → b < blocks_of audit
      → whole_bad (shared_tests audit role) b wanted ≡ whole_bad (bitmap_tests graph image (λ q. nat_eq q role)) b wanted
  unfolding whole_bad shared_tests bitmap_tests nodes
  same_bitmaps b wanted within =
      let number = known.number in
      let here : b < graph.nr = omega arith in
      let test = λ (t : WholeTest). t.fails && (nat_eq t.block b && same_rule t.rule wanted) in
      let of_pair : ℕ → WholeTest = λ (p : ℕ). record { block = block_of p; rule = r.Index; fails = nat_lt 1 (meta_count graph image (block_of p)) } in
      let pairs = range_with_len 0 (16 * graph.nr) in
      any-map test (shared_test audit role) (range_with_len 0 (blocks_of audit))
      ∙ (ap (λ (n : ℕ). list_any (λ c. test (shared_test audit role c)) (range_with_len 0 n)) number
      ∙ (blocks_or_pairs (is_shared audit role) (is_reached graph image) (meta_count graph image) (same_rule r.Index wanted) graph.nr b role here small
      (rw (known.roles b role here small, known.counts b here) refl)
      ∙ (sym (any_kept (λ p. nat_eq (role_of p) role && test (of_pair p)) (is_reached graph image) pairs)
      ∙ (sym (any_kept (λ p. test (of_pair p)) (λ p. nat_eq (role_of p) role) (filter (is_reached graph image) pairs))
      ∙ sym (any-map test of_pair (filter (λ p. nat_eq (role_of p) role) (filter (is_reached graph image) pairs)))))))

  -- so the blocks that are marked are the bitmaps of the definition
  pub bitmaps_by : (new : Audit) → Charges (shared_tests audit role) audit new → Charges (bitmap_tests graph image (λ q. nat_eq q role)) audit new
  bitmaps_by new charged = charges_same (shared_tests audit role) (bitmap_tests graph image (λ q. nat_eq q role)) audit new same_bitmaps charged
