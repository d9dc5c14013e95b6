-- Rows that are gone through by cache block.
use Rattle.std.proofs.Common.{◌≡◌, ℕ, ◌+◌, ◌<◌, ◌≤◌, ◌^◌, false, List, [], ◌∷◌, length, drop, get_or, Some, None, refl, sym, ◌∙◌, ap, subst, arith}
use Rattle.std.proofs.lemmas.Bool.{eq-eqb, ne_eqb}
use Rattle.std.proofs.lemmas.List.{drop_more, drop_all}
use Rattle.pd_salvage_cache.specs.declared.saved.Row.{Row}
use Rattle.pd_salvage_cache.specs.SavedCache.{entry, AreRows}
use Rattle.pd_restore_kinds.specs.CacheRoots.{found, StandsAt}

-- the row of no place
abbrev pub none : Row
none = record { block = 0; dirty = false; hint = 0; origin = 0 }

-- rows behind a cache block don't have it
none_found : (least : ℕ) (rows : List Row) (block : ℕ) → AreRows least rows → block < least → found rows block ≡ None
unfolding found
none_found least [] block are before = refl
none_found least (r ∷ rows) block are before =
    let above = are.0 in
    rw (ne_eqb r.block block (λ same. omega arith)) (none_found (r.block + 1) rows block are.1.1 (omega arith))

-- the first row has its cache block, and no other one
first_found : (r : Row) (rows : List Row) (block : ℕ) → r.block ≡ block → found (r ∷ rows) block ≡ Some (entry r)
unfolding found
first_found r rows block same = rw (eq-eqb r.block block same) refl

later_found : (r : Row) (rows : List Row) (block : ℕ) → r.block < block → found (r ∷ rows) block ≡ found rows block
unfolding found
later_found r rows block before = rw (ne_eqb r.block block (λ same. omega arith)) refl

-- at the first row
pub stands_first : (rows : List Row) → AreRows 0 rows → StandsAt rows 0 0
stands_first rows are = record { within = omega arith; passed = λ b from. refl; ahead = are }

module _ (rows : List Row) (at block : ℕ) (s : StandsAt rows at block) (d : Row) (more : at < length rows) where
  abbrev r : Row
  r = get_or rows at d

  ahead_is : drop at rows ≡ r ∷ drop (at + 1) rows
  ahead_is = drop_more rows at d more

  ahead_are : AreRows block (r ∷ drop (at + 1) rows)
  ahead_are = subst (AreRows block) ahead_is s.ahead

  -- the next row has the cache block
  pub found_here : r.block ≡ block → Some (entry r) ≡ found rows block
  found_here same =
      sym (s.passed block (omega arith) ∙ (ap (λ (rest : List Row). found rest block) ahead_is ∙ first_found r (drop (at + 1) rows) block same))

  pub small_here : r.origin < 2 ^ 48
  small_here = ahead_are.1.0

  pub stands_next : r.block ≡ block → StandsAt rows (at + 1) (block + 1)
  stands_next same = record {
    within = omega arith;
    passed = λ b from.
        s.passed b (omega arith) ∙ (ap (λ (rest : List Row). found rest b) ahead_is ∙ later_found r (drop (at + 1) rows) b (omega arith));
    ahead = subst (λ (least : ℕ). AreRows least (drop (at + 1) rows)) (ap (λ (b : ℕ). b + 1) same) ahead_are.1.1;
  }

  -- it has a later one
  pub none_here : (r.block ≡ block → ⊥) → None ≡ found rows block
  none_here other =
      let are = ahead_are in
      let above = are.0 in
      sym (s.passed block (omega arith) ∙ (ap (λ (rest : List Row). found rest block) ahead_is
      ∙ none_found (block + 1) (r ∷ drop (at + 1) rows) block (omega (arith, other), are.1) (omega arith)))

  pub stands_still : (r.block ≡ block → ⊥) → StandsAt rows at (block + 1)
  stands_still other =
      let are = ahead_are in
      let above = are.0 in
      record {
        within = s.within;
        passed = λ b from. s.passed b (omega arith);
        ahead = subst (AreRows (block + 1)) (sym ahead_is) (omega (arith, other), are.1);
      }

-- there is no row any more
module _ (rows : List Row) (at block : ℕ) (s : StandsAt rows at block) (past : length rows ≤ at) where
  none_ahead : drop at rows ≡ []
  none_ahead = drop_all at rows past

  pub none_past : None ≡ found rows block
  unfolding found
  none_past = sym (s.passed block (omega arith) ∙ ap (λ (rest : List Row). found rest block) none_ahead)

  pub stands_past : StandsAt rows at (block + 1)
  stands_past = record {
    within = s.within;
    passed = λ b from. s.passed b (omega arith);
    ahead = subst (AreRows (block + 1)) (sym none_ahead) tt;
  }
