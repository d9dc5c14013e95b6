-- The roles in which a block is fit by itself.
use Rattle.std.proofs.Common.{◌≡◌, ◌↔◌, inl, inr, ℕ, ◌+◌, ◌<◌, ◌≤◌, Bool, true, false, ◌&&◌, ◌||◌, not, nat_eq, nat_lt, get_or, set, List, [], ◌∷◌, length, Option, Some, IsTrue, refl, sym, ◌∙◌, ap, arith, eq-eqb, get_or-set_same, get_or-set_other}
use Rattle.std.specs.List.{list_any, slice_get}
use Rattle.std.specs.Option.{unwrap_or}
use Rattle.std.proofs.Math.Bool.{or-false, and-true}
use Rattle.std.proofs.lemmas.Bool.{cases_Bool, cases_eq, cases_lt, ne_eqb, lt-ltb, le-ltb, ltb-true, ltb-false, not-true, and_parts, both_ways, and_right}
use Rattle.std.proofs.lemmas.Nat.Bits.{bit_at-zero}
use Rattle.pd_kinds.specs.declared.rule.Rule.{Rule}
use Rattle.pd_kinds.specs.Rule.{all_rules}
use Rattle.pd_kinds.specs.Graph.{is_outside, Graph, block_at}
use Rattle.pd_kinds.proofs.SoundLemmas.{some_broken, none_broken}
use Rattle.pd_kinds.specs.declared.rule.Rule.TheVariants as r
use Rattle.pd_graph.specs.Marks.{has_bit}
use Rattle.pd_settle.specs.Settled.{is_fit}
use Rattle.pd_scan.specs.Lost.{is_unbroken, is_between, ShareChecksum, AreJudged}
use Rattle.pd_scan.proofs.SoundLemmas.{inside_by}

none_pass : (bad : Rule → Bool) (rules : List Rule) → ((rule : Rule) → bad rule ≡ false) → list_any bad rules ≡ false
none_pass bad [] none = refl
none_pass bad (rule ∷ rules) none = rw (none rule) (none_pass bad rules none)

-- an empty set of rules
pub unbroken_by : (graph : Graph) (role b : ℕ) (block : List ℕ) (has : Rule → Bool) (empty : Bool) → ((rule : Rule) → has rule ≡ graph.bad role b block rule)
    → IsTrue empty ↔ ((rule : Rule) → has rule ≡ false) → empty ≡ is_unbroken graph role b block
unfolding is_unbroken
unbroken_by graph role b block has true same is =
    sym (ap not (none_pass (graph.bad role b block) all_rules (λ rule. sym (same rule) ∙ is.0 refl rule)))
unbroken_by graph role b block has false same is = elim (cases_Bool (list_any (graph.bad role b block) all_rules)) [
  | inl some ↦ sym (ap not some)
  | inr none ↦ absurd (both_ways false refl (is.1 (λ rule. same rule ∙ none_broken (graph.bad role b block) none rule)))
]

-- no role lies between a role and itself
pub none_between : (first other : ℕ) → is_between first first other ≡ false
none_between first other = elim (cases_lt other first) [
  | inl less ↦ ap (λ (x : Bool). not x && nat_lt other first) (lt-ltb other first less)
  | inr more ↦ ap (λ (x : Bool). not x && nat_lt other first) (le-ltb other first more) ∙ le-ltb other first more
]

no_bits : (role : ℕ) → has_bit 0 role ≡ false
no_bits role = ap (λ (n : ℕ). nat_eq n 1) (bit_at-zero role)

pub fit_none : (first other : ℕ) (fits : Bool) → has_bit 0 other ≡ (is_between first first other && fits)
fit_none first other fits = no_bits other ∙ sym (ap (λ (x : Bool). x && fits) (none_between first other))

gone : (other end first : ℕ) → end ≤ other → is_between first end other ≡ false
gone other end first past = elim (cases_lt other first) [
  | inl less ↦ ap (λ (x : Bool). not x && nat_lt other end) (lt-ltb other first less)
  | inr more ↦ ap (λ (x : Bool). not x && nat_lt other end) (le-ltb other first more) ∙ le-ltb other end past
]

-- one role more
pub fit_more : (fits : ℕ → Bool) (first role other : ℕ) (old new now : Bool) → first ≤ role → old ≡ (is_between first role other && fits other)
    → now ≡ fits role → new ≡ (old || (nat_eq other role && now)) → new ≡ (is_between first (role + 1) other && fits other)
fit_more fits first role other old new now order before here more = elim (cases_lt other role) [
  | inl less ↦
      more ∙ (ap (λ (x : Bool). old || (x && now)) (ne_eqb other role (λ e. absurd (omega arith)))
      ∙ (or-false old ∙ (before
      ∙ ap (λ (x : Bool). (not (nat_lt other first) && x) && fits other) (lt-ltb other role less ∙ sym (lt-ltb other (role + 1) (omega arith))))))
  | inr least ↦ elim (cases_eq other role) [
    | inl same ↦
        let none : old ≡ false = before ∙ ap (λ (x : Bool). x && fits other) (gone other role first least) in
        more ∙ (ap (λ (x : Bool). old || (x && now)) (eq-eqb other role same)
        ∙ (ap (λ (x : Bool). x || now) none
        ∙ (here ∙ (ap fits (sym same)
        ∙ sym (ap (λ (x : Bool). (not x && nat_lt other (role + 1)) && fits other) (le-ltb other first (omega arith))
        ∙ ap (λ (x : Bool). x && fits other) (lt-ltb other (role + 1) (omega arith)))))))
    | inr ne ↦
        more ∙ (ap (λ (x : Bool). old || (x && now)) (ne_eqb other role ne)
        ∙ (or-false old ∙ (before
        ∙ (ap (λ (x : Bool). x && fits other) (gone other role first least)
        ∙ sym (ap (λ (x : Bool). x && fits other) (gone other (role + 1) first (omega arith)))))))
  ]
]

-- where the checksum is wrong, the block is fit in none of the roles
pub none_fit : (graph : Graph) (first end b role : ℕ) (block : List ℕ) → ShareChecksum graph first end → graph.bad first b block r.Checksum ≡ true
    → has_bit 0 role ≡ (is_between first end role && is_unbroken graph role b block)
unfolding is_unbroken
none_fit graph first end b role block share broken = elim (cases_Bool (is_between first end role)) [
  | inl e ↦
      let parts = and_parts (not (nat_lt role first)) (nat_lt role end) e in
      let low = ltb-false role first (not-true (nat_lt role first) parts.0) in
      let high = ltb-true role end parts.1 in
      no_bits role
      ∙ sym (ap (λ (x : Bool). x && not (list_any (graph.bad role b block) all_rules)) e
      ∙ ap not (some_broken (graph.bad role b block) r.Checksum (share.same role b block low high ∙ broken)))
  | inr e ↦ no_bits role ∙ sym (ap (λ (x : Bool). x && not (list_any (graph.bad role b block) all_rules)) e)
]

-- what holds of the blocks below a bound
pub record AreJudgedBelow (graph : Graph) (image : List (List ℕ)) (first end below : ℕ) (fit : List ℕ) : Type 0 where
  pub fits : (role b : ℕ) → role < 16 → b < below
      → is_fit fit role b ≡ (is_between first end role && (not (is_outside graph.nr b) && is_unbroken graph role b (block_at image b)))

out_of_it : (between unbroken zero past : Bool) → zero ≡ true → (between && (not (zero || past) && unbroken)) ≡ false
out_of_it true unbroken zero past e = ap (λ (x : Bool). not (x || past) && unbroken) e
out_of_it false unbroken zero past e = refl

-- block 0 is fit in none
pub judged_first : (graph : Graph) (image : List (List ℕ)) (first end : ℕ) (fit : List ℕ) → 1 ≤ length fit → AreJudgedBelow graph image first end 1 (set fit 0 0)
judged_first graph image first end fit some = record {
  fits = λ role b within below.
      let zero : b ≡ 0 = omega arith in
      ap (λ (c : ℕ). has_bit (get_or (set fit 0 0) c 0) role) zero
      ∙ (ap (λ (n : ℕ). has_bit n role) (get_or-set_same fit 0 0 0 some)
      ∙ (no_bits role
      ∙ sym (out_of_it (is_between first end role) (is_unbroken graph role b (block_at image b)) (nat_eq b 0) (not (nat_lt b graph.nr)) (eq-eqb b 0 zero))));
}

-- one block more
pub judged_more : (graph : Graph) (image : List (List ℕ)) (first end b value : ℕ) (block fit : List ℕ) → 1 ≤ b → b < graph.nr → b < length fit
    → slice_get image b ≡ Some block → AreJudgedBelow graph image first end b fit
    → ((role : ℕ) → role < 16 → has_bit value role ≡ (is_between first end role && is_unbroken graph role b block))
    → AreJudgedBelow graph image first end (b + 1) (set fit b value)
judged_more graph image first end b value block fit low small place found before here = record {
  fits = λ role c within below. elim (cases_eq c b) [
    | inl same ↦
        ap (λ (d : ℕ). has_bit (get_or (set fit b value) d 0) role) same
        ∙ (ap (λ (n : ℕ). has_bit n role) (get_or-set_same fit b value 0 place)
        ∙ (here role within
        ∙ (ap (λ (x : Bool). is_between first end role && (x && is_unbroken graph role b block)) (sym (inside_by graph.nr b low small))
        ∙ (ap (λ (bytes : List ℕ). is_between first end role && (not (is_outside graph.nr b) && is_unbroken graph role b bytes)) (sym (ap (λ (o : Option (List ℕ)). unwrap_or o []) found))
        ∙ ap (λ (d : ℕ). is_between first end role && (not (is_outside graph.nr d) && is_unbroken graph role d (block_at image d))) (sym same)))))
    | inr ne ↦
        ap (λ (n : ℕ). has_bit n role) (get_or-set_other fit b c value 0 ne) ∙ before.fits role c within (omega arith)
  ];
}

pub judged_all : (graph : Graph) (image : List (List ℕ)) (first end below : ℕ) (fit : List ℕ) → graph.nr ≤ below → AreJudgedBelow graph image first end below fit
    → AreJudged graph image first end fit
judged_all graph image first end below fit past judged = record { fits = λ role b within small. judged.fits role b within (omega arith) }

-- What is taken out of the table of fit blocks.

-- nothing is asked of a block that is another, or that is kept
kept_by : (x same keeps : Bool) → (same ≡ true → (x && keeps) ≡ x) → x ≡ (x && (not same || keeps))
kept_by x true keeps e = sym (e refl)
kept_by x false keeps e = sym (and-true x)

and_true_by : (x keeps : Bool) → keeps ≡ true → (x && keeps) ≡ x
and_true_by x keeps e = ap (λ (k : Bool). x && k) e ∙ and-true x

pub all_kept : (x same keeps : Bool) → keeps ≡ true → x ≡ (x && (not same || keeps))
all_kept x same keeps e = kept_by x same keeps (λ here. and_true_by x keeps e)

pub taken_out : (fit : List ℕ) (b role c : ℕ) (keeps : Bool) → b < length fit → keeps ≡ false → is_fit (set fit b 0) role c ≡ (is_fit fit role c && (not (nat_eq c b) || keeps))
taken_out fit b role c keeps small gone = elim (cases_eq c b) [
  | inl same ↦
      ap (λ (d : ℕ). has_bit (get_or (set fit b 0) d 0) role) same
      ∙ (ap (λ (n : ℕ). has_bit n role) (get_or-set_same fit b 0 0 small)
      ∙ (ap (λ (n : ℕ). nat_eq n 1) (bit_at-zero role)
      ∙ sym (ap (λ (x : Bool). is_fit fit role c && (not x || keeps)) (eq-eqb c b same)
      ∙ (ap (λ (x : Bool). is_fit fit role c && x) gone ∙ and_right (is_fit fit role c) false refl))))
  | inr ne ↦
      ap (λ (n : ℕ). has_bit n role) (get_or-set_other fit b c 0 0 ne)
      ∙ sym (ap (λ (x : Bool). is_fit fit role c && (not x || keeps)) (ne_eqb c b ne) ∙ and-true (is_fit fit role c))
]
