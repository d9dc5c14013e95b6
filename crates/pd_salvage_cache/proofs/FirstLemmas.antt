-- The rows but those that have the origin of an earlier one.
use Rattle.std.proofs.Common.{◌≡◌, ℕ, zero, suc, ◌+◌, ◌≤◌, ◌<◌, Bool, true, false, cond, not, ◌&&◌, ◌||◌, nat_eq, nat_lt, List, [], ◌∷◌, ◌++◌, length, map, filter, take, get_or, refl, sym, ap, ap₂, ◌∙◌, arith}
use Rattle.std.specs.List.{AllByRecursion, list_any}
use Rattle.std.proofs.Math.Bool.{or-false}
use Rattle.std.proofs.Math.Seq.{take-suc}
use Rattle.std.proofs.lemmas.Bool.{and_left, le-ltb, lt-ltb, not_from_false, or_from}
use Rattle.std.proofs.lemmas.List.Elements.{filter-append}
use Rattle.std.proofs.lemmas.List.Folds.{list_any-append}
use Rattle.pd_kinds.specs.Meaning.{CacheEntry}
use Rattle.pd_kinds.specs.Whole.{has_repeat}
use Rattle.pd_laid.specs.SavedCache.{is_repeated}
use Rattle.pd_laid.proofs.SalvageLemmas.{filter_all}
use Rattle.pd_salvage_cache.specs.declared.saved.Row.{Row}
use Rattle.pd_salvage_cache.specs.SavedCache.{DoAscend, kept_rows, entry, origins_of}
use Rattle.pd_salvage_cache.proofs.KeptEntries.{none_repeated}

-- all are kept where no origin comes twice
all_rows : (P : CacheEntry → Type 0) (Q : Row → Type 0) → ((row : Row) → P (entry row) → Q row) → (rows : List Row) → AllByRecursion P (map entry rows) → AllByRecursion Q rows
all_rows P Q follows [] all = tt
all_rows P Q follows (row ∷ rows) all = (follows row all.0, all_rows P Q follows rows all.1)

same_origins : (rows : List Row) → map (λ (e : CacheEntry). e.origin) (map entry rows) ≡ origins_of rows
same_origins [] = refl
same_origins (row ∷ rows) = ap (λ (os : List ℕ). row.origin ∷ os) (same_origins rows)

pub all_kept : (rows : List Row) → has_repeat (origins_of rows) ≡ false → rows ≡ kept_rows rows
all_kept rows single =
    sym (filter_all (λ (row : Row). not (is_repeated (map entry rows) (entry row))) rows
    (all_rows (λ (e : CacheEntry). is_repeated (map entry rows) e ≡ false) (λ (row : Row). not (is_repeated (map entry rows) (entry row)) ≡ true)
    (λ row none. not_from_false _ none) rows (none_repeated (map entry rows) (ap has_repeat (same_origins rows) ∙ single))))

-- whether a row repeats one of some rows
abbrev pub has_origin : ℕ → List Row → Bool
has_origin origin rows = list_any (λ (row : Row). nat_eq row.origin origin) rows

module _ (blocks hint_size : ℕ) where
  abbrev Ascend : ℕ → List Row → Type 0
  Ascend least rows = DoAscend blocks hint_size least (map entry rows)

  -- rows from a block on are no lesser ones
  none_less : (least b origin : ℕ) (rows : List Row) → Ascend least rows → b ≤ least
      → list_any (λ (other : CacheEntry). nat_lt other.block b && nat_eq other.origin origin) (map entry rows) ≡ false
  none_less least b origin [] ascend past = refl
  none_less least b origin (row ∷ rows) ascend past =
      let from = ascend.0 in
      or_from _ _ (and_left (nat_lt row.block b) _ (le-ltb row.block b (omega arith))) (none_less (row.block + 1) b origin rows ascend.1.1.1 (omega arith))

  at_least : (least i : ℕ) (d : Row) (rows : List Row) → Ascend least rows → i < length rows → least ≤ (get_or rows i d).block
  at_least least i d [] ascend within = absurd (omega arith)
  at_least least zero d (row ∷ rows) ascend within = ascend.0
  at_least least (suc i) d (row ∷ rows) ascend within =
      let from = ascend.0 in
      let later = at_least (row.block + 1) i d rows ascend.1.1.1 (omega arith) in
      omega arith

  -- a row is repeated where one before it has its origin
  pub repeated_before : (least i : ℕ) (d : Row) (rows : List Row) → Ascend least rows → i < length rows
      → is_repeated (map entry rows) (entry (get_or rows i d)) ≡ has_origin (get_or rows i d).origin (take i rows)
  repeated_before least i d [] ascend within = absurd (omega arith)
  repeated_before least zero d (row ∷ rows) ascend within =
      or_from _ _ (and_left (nat_lt row.block row.block) _ (le-ltb row.block row.block (omega arith))) (none_less (row.block + 1) row.block row.origin rows ascend.1.1.1 (omega arith))
  repeated_before least (suc i) d (row ∷ rows) ascend within =
      let later = at_least (row.block + 1) i d rows ascend.1.1.1 (omega arith) in
      rw (lt-ltb row.block (get_or rows i d).block (omega arith), repeated_before (row.block + 1) i d rows ascend.1.1.1 (omega arith)) refl

-- one row more was looked at
module _ (rows : List Row) (i : ℕ) (d : Row) (within : i < length rows) where
  abbrev here : Row
  here = get_or rows i d

  next_rows : take (i + 1) rows ≡ take i rows ++ here ∷ []
  next_rows = let next : i + 1 ≡ suc i = omega arith in rw next (take-suc rows i d within)

  pub kept_more : (p : Row → Bool) (old new : List Row) (was : Bool) → old ≡ filter p (take i rows) → p here ≡ not was → new ≡ old ++ cond was [] (here ∷ []) → new ≡ filter p (take (i + 1) rows)
  kept_more p old new was before says is =
      is ∙ (ap₂ (λ (xs ys : List Row). xs ++ ys) before (by_one was says) ∙ (sym (filter-append p (take i rows) (here ∷ [])) ∙ ap (filter p) (sym next_rows)))
    where
      by_one : (was : Bool) → p here ≡ not was → cond was [] (here ∷ []) ≡ filter p (here ∷ [])
      by_one true says = rw says refl
      by_one false says = rw says refl

  pub seen_more : (origin : ℕ) (old new : Bool) → old ≡ has_origin origin (take i rows) → new ≡ (old || nat_eq here.origin origin) → new ≡ has_origin origin (take (i + 1) rows)
  seen_more origin old new before is =
      is
      ∙ (ap (λ (b : Bool). b || nat_eq here.origin origin) before
      ∙ (ap (λ (b : Bool). has_origin origin (take i rows) || b) (sym (or-false (nat_eq here.origin origin)))
      ∙ (sym (list_any-append (λ (row : Row). nat_eq row.origin origin) (take i rows) (here ∷ [])) ∙ ap (has_origin origin) (sym next_rows))))
