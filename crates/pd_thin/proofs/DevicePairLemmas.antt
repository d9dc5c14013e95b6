-- What a turn over both trees leaves of their entries, over plain lists.
use Rattle.std.proofs.Common.{◌≡◌, ℕ, suc, ◌<◌, Bool, true, false, ◌&&◌, ◌||◌, cond, nat_eq, nat_lt, List, [], ◌∷◌, ◌++◌, map, filter, Option, Some, None, IfNone, refl, sym, ap, ◌∙◌, arith, eq-eqb}
use Rattle.std.specs.Option.{option_to_list}
use Rattle.std.specs.Str.{bytes_eq}
use Rattle.std.proofs.Math.Bool.{or_assoc, or-false, and-true}
use Rattle.std.proofs.lemmas.Bool.{ne_eqb, eqb-true, eqb-false, ltb-true, ltb-false}
use Rattle.pd_kinds.specs.declared.rule.Rule.{Rule}
use Rattle.pd_kinds.specs.Whole.{WholeTest, whole_bad}
use Rattle.pd_value.specs.declared.thin.Root.{Root}
use Rattle.pd_value.specs.declared.thin.Details.{Details}
use Rattle.pd_graph.specs.declared.audit.Audit.{Audit}
use Rattle.pd_graph.specs.Audit.{blocks_of, has_rule_at}
use Rattle.pd_check.specs.Known.{IsUp, Charges}
use Rattle.pd_check.proofs.SharedLemmas.{whole_bad-cons, keeps_none, keeps_both}
use Rattle.pd_check.proofs.KnownLemmas.{up_lower}
use Rattle.pd_thin.specs.declared.device_pairs.Turn.TheVariants.{Both, Top, Detail}
use Rattle.pd_thin.specs.DevicePairs.{firsts, turn_of, mapped_test, mapped_of, IsLeft, IsOnWay}

-- details with the key of a device
abbrev details_at : ℕ → List (ℕ × Details) → List (ℕ × Details)
details_at key details = filter (λ (detail : ℕ × Details). nat_eq detail.0 key) details

-- none has the key, where all keys are above it
none_at : (key low : ℕ) (details : List (ℕ × Details)) → key < low → IsUp low (firsts details) → details_at key details ≡ []
none_at key low [] less up = refl
none_at key low (detail ∷ details) less up =
    let first = up.0 in
    rw (ne_eqb detail.0 key (λ same. omega arith)) (none_at key (suc detail.0) details (omega arith) up.1)

module _ (below : ℕ → ℕ) where
  -- the tests of one device
  abbrev tests_at : ℕ × Root → List (ℕ × Details) → List WholeTest
  tests_at top details = map (λ (detail : ℕ × Details). mapped_test below top.1 detail.1.mapped) (details_at top.0 details)

  -- details whose key is below those of all devices have no test
  passed_detail : (detail : ℕ × Details) (details : List (ℕ × Details)) (low : ℕ) (tops : List (ℕ × Root)) → detail.0 < low → IsUp low (firsts tops)
      → mapped_of below tops (detail ∷ details) ≡ mapped_of below tops details
  unfolding mapped_of
  passed_detail detail details low [] less up = refl
  passed_detail detail details low (top ∷ tops) less up =
      let first = up.0 in
      rw (ne_eqb detail.0 top.0 (λ same. omega arith))
      (ap (λ (tests : List WholeTest). tests_at top details ++ tests) (passed_detail detail details (suc top.0) tops (omega arith) up.1))

  -- a device whose key is below those of all details has none
  passed_top : (top : ℕ × Root) (tops : List (ℕ × Root)) (low : ℕ) (details : List (ℕ × Details)) → top.0 < low → IsUp low (firsts details)
      → mapped_of below (top ∷ tops) details ≡ mapped_of below tops details
  unfolding mapped_of
  passed_top top tops low details less up = rw (none_at top.0 low details less up) refl

  -- a device and details with one key
  passed_both : (top : ℕ × Root) (tops : List (ℕ × Root)) (detail : ℕ × Details) (details : List (ℕ × Details)) → top.0 ≡ detail.0
      → IsUp (suc top.0) (firsts tops) → IsUp (suc detail.0) (firsts details)
      → mapped_of below (top ∷ tops) (detail ∷ details) ≡ mapped_test below top.1 detail.1.mapped ∷ mapped_of below tops details
  unfolding mapped_of
  passed_both top tops detail details same up_tops up_details =
      rw (eq-eqb detail.0 top.0 (sym same), none_at top.0 (suc detail.0) details (omega arith) up_details)
      (ap (λ (tests : List WholeTest). mapped_test below top.1 detail.1.mapped ∷ tests) (passed_detail detail details (suc top.0) tops (omega arith) up_tops))

-- keys that differ at the first place
other_keys : (key low : ℕ) (keys others : List ℕ) → key < low → IsUp low keys → bytes_eq keys (key ∷ others) ≡ false
other_keys key low [] others less up = refl
other_keys key low (first ∷ keys) others less up =
    let least = up.0 in
    rw (ne_eqb first key (λ same. omega arith)) refl

more_keys : (key low : ℕ) (keys others : List ℕ) → key < low → IsUp low others → bytes_eq (key ∷ keys) others ≡ false
more_keys key low keys [] less up = refl
more_keys key low keys (first ∷ others) less up =
    let least = up.0 in
    rw (ne_eqb key first (λ same. omega arith)) refl

module _ (below : ℕ → ℕ) where
  -- one turn after others
  pub way_both : (a b c : Audit) (first first' : Option (ℕ × Root)) (second second' : Option (ℕ × Details)) (tops tops' tops'' : List (ℕ × Root))
      (details details' details'' : List (ℕ × Details)) (same more : Bool)
      → IsOnWay below a b first second tops tops' details details' same → IsOnWay below b c first' second' tops' tops'' details' details'' more
      → IsOnWay below a c first' second' tops tops'' details details'' (same && more)
  way_both a b c first first' second second' tops tops' tops'' details details' details'' same more before after = record {
    left_tops = after.left_tops;
    left_details = after.left_details;
    charged = λ n wanted within.
        let number = before.kept.number in
        let there : n < blocks_of b = omega arith in
        after.charged n wanted there ∙ before.charged n wanted within;
    keys = and_more same more (bytes_eq (firsts details'') (firsts tops'')) ∙ (ap (λ (x : Bool). same && x) after.keys ∙ before.keys);
    kept = keeps_both a b c before.kept after.kept;
  }
    where
      and_more : (x y z : Bool) → ((x && y) && z) ≡ (x && (y && z))
      and_more true y z = refl
      and_more false y z = refl

  -- a device that the mapping tree alone has
  only_top : (audit : Audit) (top : ℕ × Root) (first : Option (ℕ × Root)) (second : Option (ℕ × Details)) (tops : List (ℕ × Root)) (details : List (ℕ × Details)) (low : ℕ)
      → IsUp 0 (firsts (top ∷ tops)) → IfNone first (tops ≡ []) → IsLeft second details → top.0 < low → IsUp low (firsts details)
      → IsOnWay below audit audit first second (top ∷ tops) tops details details false
  only_top audit top first second tops details low up end left less above = record {
    left_tops = record { up = up_lower 0 (suc top.0) (firsts tops) (omega arith) up.1; end = end };
    left_details = left;
    charged = λ b wanted within. ap (λ (tests : List WholeTest). has_rule_at audit b wanted || whole_bad tests b wanted) (sym (passed_top below top tops low details less above));
    keys = sym (other_keys top.0 low (firsts details) (firsts tops) less above);
    kept = keeps_none audit;
  }

  -- details that the details tree alone has
  only_detail : (audit : Audit) (detail : ℕ × Details) (first : Option (ℕ × Root)) (second : Option (ℕ × Details)) (tops : List (ℕ × Root)) (details : List (ℕ × Details)) (low : ℕ)
      → IsUp 0 (firsts (detail ∷ details)) → IfNone second (details ≡ []) → IsLeft first tops → detail.0 < low → IsUp low (firsts tops)
      → IsOnWay below audit audit first second tops tops (detail ∷ details) details false
  only_detail audit detail first second tops details low up end left less above = record {
    left_tops = left;
    left_details = record { up = up_lower 0 (suc detail.0) (firsts details) (omega arith) up.1; end = end };
    charged = λ b wanted within. ap (λ (tests : List WholeTest). has_rule_at audit b wanted || whole_bad tests b wanted) (sym (passed_detail below detail details low tops less above));
    keys = sym (more_keys detail.0 low (firsts details) (firsts tops) less above);
    kept = keeps_none audit;
  }

  -- a device that both have
  pub one_device : (old new : Audit) (top : ℕ × Root) (detail : ℕ × Details) (first : Option (ℕ × Root)) (second : Option (ℕ × Details)) (tops : List (ℕ × Root)) (details : List (ℕ × Details))
      → top.0 ≡ detail.0 → IsUp 0 (firsts (top ∷ tops)) → IsUp 0 (firsts (detail ∷ details)) → IfNone first (tops ≡ []) → IfNone second (details ≡ [])
      → Charges (mapped_test below top.1 detail.1.mapped ∷ []) old new
      → IsOnWay below old new first second (top ∷ tops) tops (detail ∷ details) details true
  one_device old new top detail first second tops details same up up' end end' charges = record {
    left_tops = record { up = up_lower 0 (suc top.0) (firsts tops) (omega arith) up.1; end = end };
    left_details = record { up = up_lower 0 (suc detail.0) (firsts details) (omega arith) up'.1; end = end' };
    charged = λ b wanted within.
        let test = mapped_test below top.1 detail.1.mapped in
        ap (λ (x : Bool). x || whole_bad (mapped_of below tops details) b wanted) (charges.rules b wanted within)
        ∙ (or_assoc (has_rule_at old b wanted) (whole_bad (test ∷ []) b wanted) (whole_bad (mapped_of below tops details) b wanted)
        ∙ ap (λ (x : Bool). has_rule_at old b wanted || x)
        (sym (ap (λ (tests : List WholeTest). whole_bad tests b wanted) (passed_both below top tops detail details same up.1 up'.1)
        ∙ whole_bad-cons test (mapped_of below tops details) b wanted)));
    keys = ap (λ (x : Bool). x && bytes_eq (firsts details) (firsts tops)) (sym (eq-eqb detail.0 top.0 (sym same)));
    kept = charges.kept;
  }

-- which turn it is
is_top : (same less : Bool) (root mapped : ℕ) → Top ≡ cond same (Both root mapped) (cond less Top Detail) → less ≡ true
is_top true less root mapped e = cc
is_top false true root mapped e = refl
is_top false false root mapped e = cc

is_detail : (same less : Bool) (root mapped : ℕ) → Detail ≡ cond same (Both root mapped) (cond less Top Detail) → (same ≡ false) × (less ≡ false)
is_detail true less root mapped e = cc
is_detail false true root mapped e = cc
is_detail false false root mapped e = (refl, refl)

is_both : (same less : Bool) (root mapped root' mapped' : ℕ) → Both root mapped ≡ cond same (Both root' mapped') (cond less Top Detail)
    → (same ≡ true) × (root ≡ root') × (mapped ≡ mapped')
is_both true less root mapped root' mapped' e = (refl, cc, cc)
is_both false true root mapped root' mapped' e = cc
is_both false false root mapped root' mapped' e = cc

none_up : {X : Type 0} → (low : ℕ) (items : List (ℕ × X)) → items ≡ [] → IsUp low (firsts items)
none_up low [] e = tt
none_up low (item ∷ items) e = cc

module _ (below : ℕ → ℕ) where
  -- the mapping tree's key comes first
  pub way_top : (audit : Audit) (first first' : Option (ℕ × Root)) (second : Option (ℕ × Details)) (tops : List (ℕ × Root)) (rest : List (ℕ × Details))
      → Top ≡ turn_of first second → IsLeft first (option_to_list first ++ tops) → IsLeft second (option_to_list second ++ rest) → IfNone first' (tops ≡ [])
      → IsOnWay below audit audit first' second (option_to_list first ++ tops) tops (option_to_list second ++ rest) (option_to_list second ++ rest) false
  way_top audit None first' None tops rest e left left' end = cc
  way_top audit None first' (Some detail) tops rest e left left' end = cc
  way_top audit (Some top) first' None tops rest e left left' end =
      only_top below audit top first' None tops rest (suc top.0) left.up end left' (omega arith) (none_up (suc top.0) rest left'.end)
  way_top audit (Some top) first' (Some detail) tops rest e left left' end =
      let less = ltb-true top.0 detail.0 (is_top (nat_eq top.0 detail.0) (nat_lt top.0 detail.0) top.1.0 detail.1.mapped e) in
      let up = left'.up in
      only_top below audit top first' (Some detail) tops (detail ∷ rest) detail.0 left.up end left' less (omega arith, up.1)

  -- the details tree's key does
  pub way_detail : (audit : Audit) (first : Option (ℕ × Root)) (second second' : Option (ℕ × Details)) (rest : List (ℕ × Root)) (details : List (ℕ × Details))
      → Detail ≡ turn_of first second → IsLeft first (option_to_list first ++ rest) → IsLeft second (option_to_list second ++ details) → IfNone second' (details ≡ [])
      → IsOnWay below audit audit first second' (option_to_list first ++ rest) (option_to_list first ++ rest) (option_to_list second ++ details) details false
  way_detail audit None None second' rest details e left left' end = cc
  way_detail audit (Some top) None second' rest details e left left' end = cc
  way_detail audit None (Some detail) second' rest details e left left' end =
      only_detail below audit detail None second' rest details (suc detail.0) left'.up end left (omega arith) (none_up (suc detail.0) rest left.end)
  way_detail audit (Some top) (Some detail) second' rest details e left left' end =
      let is = is_detail (nat_eq top.0 detail.0) (nat_lt top.0 detail.0) top.1.0 detail.1.mapped e in
      let other = eqb-false top.0 detail.0 is.0 in
      let order = ltb-false top.0 detail.0 is.1 in
      let less : detail.0 < top.0 = omega arith in
      let up = left.up in
      only_detail below audit detail (Some top) second' (top ∷ rest) details top.0 left'.up end left less (omega arith, up.1)

  -- both have it
  pub way_device : (old new : Audit) (root mapped : ℕ) (first first' : Option (ℕ × Root)) (second second' : Option (ℕ × Details)) (tops : List (ℕ × Root)) (details : List (ℕ × Details))
      → Both root mapped ≡ turn_of first second → IsLeft first (option_to_list first ++ tops) → IsLeft second (option_to_list second ++ details)
      → IfNone first' (tops ≡ []) → IfNone second' (details ≡ [])
      → Charges (mapped_test below (record { 0 = root }) mapped ∷ []) old new
      → IsOnWay below old new first' second' (option_to_list first ++ tops) tops (option_to_list second ++ details) details true
  way_device old new root mapped None first' None second' tops details e left left' end end' charges = cc
  way_device old new root mapped None first' (Some detail) second' tops details e left left' end end' charges = cc
  way_device old new root mapped (Some top) first' None second' tops details e left left' end end' charges = cc
  way_device old new root mapped (Some top) first' (Some detail) second' tops details e left left' end end' charges =
      let is = is_both (nat_eq top.0 detail.0) (nat_lt top.0 detail.0) root mapped top.1.0 detail.1.mapped e in
      one_device below old new top detail first' second' tops details (eqb-true top.0 detail.0 is.0) left.up left'.up end end'
      (rw (is.1, is.2) at charges)

  -- no test fails of no device
  no_tests : (b : ℕ) (wanted : Rule) (tops : List (ℕ × Root)) (details : List (ℕ × Details)) (has : Bool) → tops ≡ []
      → (has || whole_bad (mapped_of below tops details) b wanted) ≡ has
  unfolding mapped_of whole_bad
  no_tests b wanted [] details has e = or-false has
  no_tests b wanted (top ∷ tops) details has e = cc

  -- where nothing is left, all was charged
  pub way_end : (old new : Audit) (first : Option (ℕ × Root)) (second : Option (ℕ × Details)) (tops tops' : List (ℕ × Root)) (details details' : List (ℕ × Details)) (same : Bool)
      → first ≡ None → second ≡ None → IsOnWay below old new first second tops tops' details details' same
      → Charges (mapped_of below tops details) old new × (same ≡ bytes_eq (firsts details) (firsts tops))
  way_end old new first second tops tops' details details' same none none' way =
      let no_tops : tops' ≡ [] = ended first tops' none way.left_tops.end in
      let no_details : details' ≡ [] = ended second details' none' way.left_details.end in (
        record {
          rules = λ b wanted within. sym (no_tests b wanted tops' details' (has_rule_at new b wanted) no_tops) ∙ way.charged b wanted within;
          kept = way.kept;
        },
        sym (rw (no_tops, no_details) (and-true same)) ∙ way.keys,
      )
    where
      ended : {X : Type 0} → (first : Option (ℕ × X)) (items : List (ℕ × X)) → first ≡ None → IfNone first (items ≡ []) → items ≡ []
      ended None items none is = is
      ended (Some x) items none is = cc
