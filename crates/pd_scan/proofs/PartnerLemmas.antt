-- The partners of each sum, tree by tree.
use Rattle.std.proofs.Common.{◌≡◌, inl, inr, ℕ, ◌+◌, ◌<◌, Bool, true, false, ◌&&◌, cond, nat_eq, List, Option, Some, None, refl, sym, ◌∙◌, ap, ap₂, subst, arith}
use Rattle.std.specs.BTreeMap.{BTreeMap, get}
use Rattle.std.specs.Ordering.{is_eq, nat_cmp, ordering_then}
use Rattle.std.specs.declared.cmp.Ordering.{Ordering}
use Rattle.std.proofs.lemmas.Bool.{cases_eq, cases_order, and_parts, both_ways, eqb-true, eq-eqb, ne_eqb, lt-ltb, le-ltb}
use Rattle.pd_laid.specs.FoundRoots.{is_greater}
use Rattle.pd_graph.specs.declared.notes.Notes.{Notes}
use Rattle.pd_measures.specs.declared.measures.Measured.{Measured}
use Rattle.pd_measures.specs.declared.measures.Measures.{Measures}
use Rattle.pd_measures.specs.Measured.{measure_at}
use Rattle.pd_scan.specs.declared.partners.Partner.{Partner}
use Rattle.pd_scan.specs.declared.partners.Partners.{Partners}
use Rattle.pd_scan.specs.Partners.{is_noted_good, ArePartners, ArePartnersBefore, AreBySum, IsGreatest, by_time, by_transaction, greater_of, has_sum, is_partner, partner_at, sum_cmp, sum_of, with_one}
use Rattle.pd_scan.proofs.PairLemmas.{not_greater_back, not_greater_over, not_greater_self}

-- numbers are equal in their order exactly where they are one
equal_first : (x y : ℕ) (later : Ordering) → is_eq (ordering_then (nat_cmp x y) later) ≡ (nat_eq x y && is_eq later)
equal_first x y later = elim (cases_order x y) [
  | inl same ↦ rw (le-ltb x y (omega arith), eq-eqb x y same) refl
  | inr other ↦ elim other [
    | inl less ↦ rw (lt-ltb x y less, ne_eqb x y (λ e. omega arith)) refl
    | inr more ↦ rw (le-ltb x y (omega arith), ne_eqb x y (λ e. omega arith)) refl
  ]
]

pub equal_last : (x y : ℕ) → is_eq (nat_cmp x y) ≡ nat_eq x y
equal_last x y = elim (cases_order x y) [
  | inl same ↦ rw (le-ltb x y (omega arith), eq-eqb x y same) refl
  | inr other ↦ elim other [
    | inl less ↦ rw (lt-ltb x y less, ne_eqb x y (λ e. omega arith)) refl
    | inr more ↦ rw (le-ltb x y (omega arith), ne_eqb x y (λ e. omega arith)) refl
  ]
]

is_sum : (measure : Measured) (sum : ℕ × ℕ) → is_eq (sum_cmp (sum_of measure) sum) ≡ has_sum sum measure
is_sum measure sum =
    equal_first measure.total sum.0 (nat_cmp measure.print sum.1) ∙ ap (λ (b : Bool). nat_eq measure.total sum.0 && b) (equal_last measure.print sum.1)

the_sum : (measure : Measured) (sum : ℕ × ℕ) → has_sum sum measure ≡ true → sum_of measure ≡ sum
the_sum measure sum e =
    let parts = and_parts (nat_eq measure.total sum.0) (nat_eq measure.print sum.1) e in
    ap₂ (λ (x y : ℕ). (x, y)) (eqb-true measure.total sum.0 parts.0) (eqb-true measure.print sum.1 parts.1)

-- what a table has after one tree was put with those of its sum
pub put_sum : (found : ℕ × ℕ → Option Partners) (measure : Measured) (one : Partner) (sum : ℕ × ℕ)
    → cond (is_eq (sum_cmp (sum_of measure) sum)) (Some (with_one (found (sum_of measure)) one)) (found sum)
    ≡ cond (has_sum sum measure) (Some (with_one (found sum) one)) (found sum)
put_sum found measure one sum =
    ap (λ (b : Bool). cond b (Some (with_one (found (sum_of measure)) one)) (found sum)) (is_sum measure sum)
    ∙ by_test (has_sum sum measure) refl
  where
    by_test : (b : Bool) → has_sum sum measure ≡ b
        → cond b (Some (with_one (found (sum_of measure)) one)) (found sum) ≡ cond b (Some (with_one (found sum) one)) (found sum)
    by_test true e = ap (λ (s : ℕ × ℕ). Some (with_one (found s) one)) (the_sum measure sum e)
    by_test false e = refl

module _ (passes : ℕ → Bool) (partner : ℕ → Partner) (b : ℕ) where
  -- one more tree that doesn't pass
  module _ (fails : passes b ≡ false) where
    before : (c : ℕ) → c < b + 1 → passes c ≡ true → c < b
    before c less p = elim (cases_eq c b) [
      | inl same ↦ absurd (both_ways (passes b) fails (ap passes (sym same) ∙ p))
      | inr ne ↦ omega arith
    ]

    still_greatest : (by : Partner → List ℕ) (one : Partner) → IsGreatest passes partner by b one → IsGreatest passes partner by (b + 1) one
    still_greatest by one is =
        let small = is.small in
        record { fit = is.fit; small = omega arith; told = is.told; none_greater = λ c less p. is.none_greater c (before c less p) p }

    pub passed_over : (o : Option Partners) → ArePartnersBefore passes partner b o → ArePartnersBefore passes partner (b + 1) o
    passed_over None none = λ c less. elim (cases_eq c b) [
      | inl same ↦ ap passes same ∙ fails
      | inr ne ↦ none c (omega arith)
    ]
    passed_over (Some partners) are = record {
      latest = still_greatest by_time partners.latest are.latest;
      newest = still_greatest by_transaction partners.newest are.newest;
    }

  -- one more tree that passes
  module _ (p : passes b ≡ true) (root : (partner b).root ≡ b) where
    -- it is the greatest one, where none before it is greater
    this_greatest : (by : Partner → List ℕ) → ((c : ℕ) → c < b → passes c ≡ true → is_greater (by (partner c)) (by (partner b)) ≡ false)
        → IsGreatest passes partner by (b + 1) (partner b)
    this_greatest by none = record {
      fit = ap passes root ∙ p;
      small = omega arith;
      told = ap partner (sym root);
      none_greater = λ c less q. elim (cases_eq c b) [
        | inl same ↦ subst (λ (x : ℕ). is_greater (by (partner x)) (by (partner b)) ≡ false) (sym same) (not_greater_self (by (partner b)))
        | inr ne ↦ none c (omega arith) q
      ];
    }

    module _ (by : Partner → List ℕ) (one : Partner) (is : IsGreatest passes partner by b one) where
      greater_is : (is_more : Bool) → is_greater (by (partner b)) (by one) ≡ is_more → IsGreatest passes partner by (b + 1) (cond is_more (partner b) one)
      greater_is true e =
          this_greatest by (λ c less q.
          not_greater_over (by (partner c)) (by one) (by (partner b)) (is.none_greater c less q) (not_greater_back (by (partner b)) (by one) e))
      greater_is false e =
          let small = is.small in
          record {
            fit = is.fit;
            small = omega arith;
            told = is.told;
            none_greater = λ c less q. elim (cases_eq c b) [
              | inl same ↦ subst (λ (x : ℕ). is_greater (by (partner x)) (by one) ≡ false) (sym same) e
              | inr ne ↦ is.none_greater c (omega arith) q
            ];
          }

      one_greatest : IsGreatest passes partner by (b + 1) (greater_of by one (partner b))
      one_greatest = greater_is (is_greater (by (partner b)) (by one)) refl

    pub passed_with : (o : Option Partners) → ArePartnersBefore passes partner b o → ArePartners passes partner (b + 1) (with_one o (partner b))
    passed_with None none = record {
      latest = this_greatest by_time (λ c less q. absurd (both_ways (passes c) (none c less) q));
      newest = this_greatest by_transaction (λ c less q. absurd (both_ways (passes c) (none c less) q));
    }
    passed_with (Some partners) are = record {
      latest = one_greatest by_time partners.latest are.latest;
      newest = one_greatest by_transaction partners.newest are.newest;
    }

-- the table with one more sound tree
pub put_one : (details : Notes) (measures : Measures) (b : ℕ) → is_noted_good details b ≡ true → (old new : BTreeMap (ℕ × ℕ) Partners)
    → ((sum : ℕ × ℕ) → get sum_cmp new sum
    ≡ cond (has_sum sum (measure_at measures b)) (Some (with_one (get sum_cmp old sum) (partner_at measures b))) (get sum_cmp old sum))
    → AreBySum details measures b old → AreBySum details measures (b + 1) new
unfolding is_partner
put_one details measures b good old new puts are = record {
  partners = λ sum.
      subst (ArePartnersBefore (is_partner details measures sum) (partner_at measures) (b + 1)) (sym (puts sum)) (by_sum sum (has_sum sum (measure_at measures b)) refl);
}
  where
    by_sum : (sum : ℕ × ℕ) (has : Bool) → has_sum sum (measure_at measures b) ≡ has
        → ArePartnersBefore (is_partner details measures sum) (partner_at measures) (b + 1)
        (cond has (Some (with_one (get sum_cmp old sum) (partner_at measures b))) (get sum_cmp old sum))
    by_sum sum true e = passed_with (is_partner details measures sum) (partner_at measures) b (ap₂ ◌&&◌ good e) refl (get sum_cmp old sum) (are.partners sum)
    by_sum sum false e = passed_over (is_partner details measures sum) (partner_at measures) b (ap₂ ◌&&◌ good e) (get sum_cmp old sum) (are.partners sum)

-- and after one that isn't sound
pub put_none : (details : Notes) (measures : Measures) (b : ℕ) → is_noted_good details b ≡ false → (table : BTreeMap (ℕ × ℕ) Partners)
    → AreBySum details measures b table → AreBySum details measures (b + 1) table
unfolding is_partner
put_none details measures b bad table are = record {
  partners = λ sum.
      passed_over (is_partner details measures sum) (partner_at measures) b (ap (λ (good : Bool). good && has_sum sum (measure_at measures b)) bad)
      (get sum_cmp table sum) (are.partners sum);
}
