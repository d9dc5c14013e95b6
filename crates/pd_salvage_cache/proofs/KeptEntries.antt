-- Entries of a cache that ascend, and those of them that are kept: of the entries with one origin the first.
use Rattle.std.proofs.Common.{◌≡◌, ℕ, zero, suc, ◌+◌, ◌<◌, ◌≤◌, Bool, true, false, not, ◌&&◌, nat_eq, nat_lt, List, [], ◌∷◌, ◌++◌, map, filter, Option, Some, None, IfSome, refl, sym, ◌∙◌, ap, subst, arith, inl, inr, true≢false, ◌⊎◌, cond}
use Rattle.std.specs.List.{AllByRecursion, cons_option, list_any, filter_map, range_with_len}
use Rattle.std.proofs.lemmas.Bool.{and_from, and_left, and_right, cases_Bool, eq-eqb, eqb-false, eqb-true, le-ltb, lt-ltb, ne_eqb, or_from, or_left, or_parts, or_right}
use Rattle.pd_kinds.specs.Meaning.{CacheEntry}
use Rattle.pd_kinds.specs.Whole.{has_repeat}
use Rattle.pd_kinds.proofs.KindsListLemmas.{any-map}
use Rattle.pd_kinds.proofs.ListLemmas.{all_from, all_from_two, none_passes}
use Rattle.pd_kinds.specs.CacheFormat.{CacheFields}
use Rattle.pd_grammar.specs.Lawful.{AreEntries, IsLawfulCache}
use Rattle.pd_laid.specs.SavedCache.{is_repeated, found_entries, saved_cache_from}
use Rattle.pd_salvage_cache.specs.SavedCache.{DoAscend, IsGood, FitsHead, head_of, kept_rows, cache_meaning, entry}
use Rattle.pd_salvage_cache.specs.declared.saved.Row.{Row}

module _ (blocks hint_size : ℕ) where
  abbrev pub Ascend : ℕ → List CacheEntry → Type 0
  Ascend least es = DoAscend blocks hint_size least es

  pub ascend_lower : (least from : ℕ) (es : List CacheEntry) → least ≤ from → Ascend from es → Ascend least es
  ascend_lower least from [] below ascend = tt
  ascend_lower least from (e ∷ es) below ascend = (omega (arith, ascend.0), ascend.1)

  one_more : (i : ℕ) (o : Option CacheEntry) (es rest : List CacheEntry) → IfSome o (IsGood hint_size i) → i < blocks → Ascend (i + 1) (es ++ rest) → Ascend i (cons_option o es ++ rest)
  one_more i None es rest good within later = ascend_lower i (i + 1) (es ++ rest) (omega arith) later
  one_more i (Some e) es rest good within later =
      let here = good.here in (
        omega (arith, here),
        (
          omega (arith, here),
          (record { here = refl; origin_fits = good.origin_fits; hint_fits = good.hint_fits; no_hint = good.no_hint }, subst (λ (b : ℕ). Ascend (b + 1) (es ++ rest)) (sym here) later),
        ),
      )

  -- those of blocks in a row, before others
  pub made_ascend : (made : ℕ → Option CacheEntry) (i n : ℕ) (rest : List CacheEntry) → ((k : ℕ) → i ≤ k → k < i + n → IfSome (made k) (IsGood hint_size k)) → i + n ≤ blocks → Ascend (i + n) rest
      → Ascend i (filter_map made (range_with_len i n) ++ rest)
  made_ascend made i zero rest good few later = ascend_lower i (i + 0) rest (omega arith) later
  made_ascend made i (suc n) rest good few later =
      one_more i (made i) (filter_map made (range_with_len (i + 1) n)) rest (good i (omega arith) (omega arith)) (omega arith)
      (made_ascend made (i + 1) n rest (λ k from below. good k (omega arith) (omega arith)) (omega arith) (ascend_lower (i + 1 + n) (i + suc n) rest (omega arith) later))

  module _ (all : List CacheEntry) where
    -- from a block on, an entry of a lesser one has this origin
    abbrev has_before : ℕ → ℕ → Bool
    has_before b origin = list_any (λ (other : CacheEntry). nat_lt other.block b && nat_eq other.origin origin) all

    abbrev IsCovered : ℕ → ℕ → Type 0
    IsCovered least origin = (b : ℕ) → least ≤ b → has_before b origin ≡ true

    among : (es : List CacheEntry) → ((p : CacheEntry → Bool) → list_any p es ≡ true → list_any p all ≡ true)
        → AllByRecursion (λ (e : CacheEntry). IsCovered (e.block + 1) e.origin) es
    among [] inside = tt
    among (e ∷ es) inside = (
      λ b past. inside _ (or_left (nat_lt e.block b && nat_eq e.origin e.origin) _ (and_from _ _ (lt-ltb e.block b (omega arith)) (eq-eqb e.origin e.origin refl))),
      among es (λ p any. inside p (or_right (p e) _ any)),
    )

    none_earlier : (least b origin : ℕ) (earlier : List ℕ) → AllByRecursion (IsCovered least) earlier → least ≤ b → has_before b origin ≡ false
        → list_any (λ o. nat_eq o origin) earlier ≡ false
    none_earlier least b origin [] covered past none = refl
    none_earlier least b origin (o ∷ earlier) covered past none =
        or_from _ _
        (elim (cases_Bool (nat_eq o origin)) [
          | inl same ↦ absurd (true≢false (sym (covered.0 b past) ∙ (ap (has_before b) (eqb-true o origin same) ∙ none)))
          | inr other ↦ other
        ])
        (none_earlier least b origin earlier covered.1 past none)

    kept_from : (es : List CacheEntry) (least : ℕ) (earlier : List ℕ) → Ascend least es → AllByRecursion (λ (e : CacheEntry). IsCovered (e.block + 1) e.origin) es
        → AllByRecursion (IsCovered least) earlier → AreEntries blocks hint_size least earlier (filter (λ (e : CacheEntry). not (is_repeated all e)) es)
    kept_from [] least earlier ascend among covered = tt
    kept_from (e ∷ es) least earlier ascend among covered = elim (cases_Bool (is_repeated all e)) [
      | inl repeated ↦
          let from = ascend.0 in
          rw repeated (kept_from es least earlier (ascend_lower least (e.block + 1) es (omega arith) ascend.1.1.1) among.1 covered)
      | inr single ↦
          let from = ascend.0 in
          let good = ascend.1.1.0 in
          rw single (
            record {
              above = ascend.0;
              within = ascend.1.0;
              origin_fits = good.origin_fits;
              hint_fits = good.hint_fits;
              no_hint = good.no_hint;
              new = none_earlier least e.block e.origin earlier covered from single;
            },
            kept_from es (e.block + 1) (e.origin ∷ earlier) ascend.1.1.1 among.1
                (among.0, all_from (IsCovered least) (IsCovered (e.block + 1)) (λ o is b past. is b (omega arith)) earlier covered),
          )
    ]

  -- those that are kept are lawful
  pub kept_lawful : (all : List CacheEntry) → Ascend 0 all → AreEntries blocks hint_size 0 [] (filter (λ (e : CacheEntry). not (is_repeated all e)) all)
  kept_lawful all ascend = kept_from all all 0 [] ascend (among all all (λ p any. any)) tt

-- where no origin comes twice, no entry repeats another's
abbrev IsOther : CacheEntry → CacheEntry → Type 0
IsOther e other = nat_eq other.origin e.origin ≡ false

turned : (e other : CacheEntry) → IsOther e other → IsOther other e
turned e other apart = ne_eqb e.origin other.origin (λ same. eqb-false other.origin e.origin apart (sym same))

none_before : (e : CacheEntry) (es : List CacheEntry) → AllByRecursion (IsOther e) es → is_repeated es e ≡ false
none_before e [] others = refl
none_before e (x ∷ es) others = or_from _ _ (and_right (nat_lt x.block e.block) _ others.0) (none_before e es others.1)

pub none_repeated : (es : List CacheEntry) → has_repeat (map (λ (e : CacheEntry). e.origin) es) ≡ false → AllByRecursion (λ (e : CacheEntry). is_repeated es e ≡ false) es
unfolding has_repeat
none_repeated [] single = tt
none_repeated (x ∷ es) single =
    let parts = or_parts _ _ single in
    let none = any-map (λ (y : ℕ). nat_eq y x.origin) (λ (e : CacheEntry). e.origin) es in
    let others : AllByRecursion (IsOther x) es = none_passes (λ (e : CacheEntry). nat_eq e.origin x.origin) es (sym none ∙ parts.0) in (
      or_from _ _ (and_left (nat_lt x.block x.block) _ (le-ltb x.block x.block (omega arith))) (none_before x es others),
      all_from_two (IsOther x) (λ (e : CacheEntry). is_repeated es e ≡ false) (λ (e : CacheEntry). is_repeated (x ∷ es) e ≡ false)
          (λ e other later. or_from _ _ (and_right (nat_lt x.block e.block) _ (turned x e other)) later) es others (none_repeated es parts.1),
    )

-- The cache of what was saved.

-- the entries of the rows that are kept
entry_if : (keeps : Bool) (row : Row) (rows : List Row) (es : List CacheEntry) → map entry rows ≡ es → map entry (cond keeps (row ∷ rows) rows) ≡ cond keeps (entry row ∷ es) es
entry_if true row rows es same = ap (λ (others : List CacheEntry). entry row ∷ others) same
entry_if false row rows es same = same

kept_among : (all : List CacheEntry) (rows : List Row)
    → map entry (filter (λ (row : Row). not (is_repeated all (entry row))) rows) ≡ filter (λ (e : CacheEntry). not (is_repeated all e)) (map entry rows)
kept_among all [] = refl
kept_among all (row ∷ rows) = entry_if (not (is_repeated all (entry row))) row (filter (λ (r : Row). not (is_repeated all (entry r))) rows) _ (kept_among all rows)

entries_kept : (found kept : List Row) → kept ≡ kept_rows found → map entry kept ≡ filter (λ (e : CacheEntry). not (is_repeated (map entry found) e)) (map entry found)
entries_kept found kept is = ap (map entry) is ∙ kept_among (map entry found) found

-- it is lawful
pub saved_lawful : (fields : CacheFields) (found kept : List Row) → FitsHead (head_of fields) → (fields.hint_size ≡ 0) ⊎ (fields.hint_size ≡ 4)
    → DoAscend fields.blocks fields.hint_size 0 (map entry found) → kept ≡ kept_rows found → IsLawfulCache (cache_meaning (head_of fields) kept)
saved_lawful fields found kept fits hints ascend is = record {
  uuid_len = fits.uuid_len;
  uuid_bytes = fits.uuid_bytes;
  block_size_fits = fits.block_size_fits;
  blocks_fit = fits.blocks_fit;
  policy_len = fits.policy_len;
  policy_bytes = fits.policy_bytes;
  three_versions = fits.three_versions;
  versions_fit = fits.versions_fit;
  hint_size_is = hints;
  entries = subst (AreEntries fields.blocks fields.hint_size 0 []) (sym (entries_kept found kept is)) (kept_lawful fields.blocks fields.hint_size (map entry found) ascend);
}

-- and it is what is saved of the image
pub saved_is : (fields : CacheFields) (image : List (List ℕ)) (found kept : List Row) → kept ≡ kept_rows found → map entry found ≡ found_entries fields image
    → cache_meaning (head_of fields) kept ≡ saved_cache_from fields image
unfolding saved_cache_from
saved_is fields image found kept is found_is = rw (entries_kept found kept is, found_is) refl
