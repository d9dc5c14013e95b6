-- Rows of writesets, which are added from the last one on.
use Rattle.std.proofs.Common.{◌≡◌, inl, inr, ℕ, suc, ◌-◌, ◌<◌, ◌≤◌, Bool, true, false, cond, filter, fold, max, min, List, [], ◌∷◌, ◌++◌, map, refl, sym, ap, ◌∙◌, arith, eq-eqb}
use Rattle.std.proofs.lemmas.Bool.{cases_eq, cases_lt, le-ltb, lt-ltb, ne_eqb}
use Rattle.std.proofs.lemmas.Grind.{fold-append}
use Rattle.std.proofs.lemmas.List.{map-append}
use Rattle.pd_kinds.specs.EraFormat.{EraFields}
use Rattle.pd_value.specs.declared.era.Writeset.{Writeset}
use Rattle.pd_meaning_era.specs.declared.notes.Row.{Row}
use Rattle.pd_meaning_era.specs.declared.notes.Walk.{Walk}
use Rattle.pd_meaning_era.specs.Eras.{holds, holds_from, raised as raised_by, era_of_key, from_era, is_current, set_era, sets_below, with_sets, words_below}
use Rattle.pd_meaning_era.specs.Notes.{HasRows, HasSets, is_set_from, sets_of, with_rows, words_at, words_at_each, AddsSet, Goes}
use Rattle.pd_meaning_era.proofs.LevelLemmas.{from_first, same_end, each_more, each_none_at, words_at_suc}

-- the last writeset raises an era before the others do
pub fold_max : (xs : List ℕ) (x e : ℕ) → max (fold max x xs) e ≡ fold max (max x e) xs
fold_max [] x e = refl
fold_max (y ∷ xs) x e =
    let same : max (max x y) e ≡ max (max x e) y = omega arith in
    fold_max xs (max x y) e ∙ ap (λ (z : ℕ). fold max z xs) same

module _ (image : List (List ℕ)) where
  with_last : (items : List (ℕ × Writeset)) (last : ℕ × Writeset) (b x : ℕ) → with_sets image (items ++ last ∷ []) b x ≡ with_sets image items b (max x (set_era image b last))
  with_last items last b x =
      rw (map-append (set_era image b) items (last ∷ []), fold-append {A = ℕ} {B = ℕ} max x (map (set_era image b) items) (set_era image b last ∷ []))
      (fold_max (map (set_era image b) items) x (set_era image b last))

  -- the words below a root
  root_words : (level root : ℕ) → level ≡ suc 63 → words_at_each image level (root ∷ []) ≡ words_below 8 image root
  root_words level root is =
      each_more image level [] root ∙ (ap (λ (ws : List ℕ). ws ++ words_at image level root) (each_none_at image level) ∙ words_at_suc image level 63 root is)

  pub adds_set : (blocks : ℕ) (set : Writeset) (era end level next : ℕ) (old ready new : Walk) → level ≡ suc 63 → end ≡ min set.bits blocks → ready.era ≡ era → ready.rows ≡ old.rows
      → Goes image end 0 (words_at_each image level (set.root ∷ [])) next ready new → AddsSet image blocks set era old new
  adds_set blocks set era end level next old ready new is end_is same rows goes = record {
    each = λ b x within.
        let words = words_below 8 image set.root in
        let there : with_rows image new.rows.items b x ≡ raised_by ready.era (holds_from end 0 (words_at_each image level (set.root ∷ [])) b) (with_rows image ready.rows.items b x) = goes.adds.each b x in
        there
        ∙ (ap (λ (e : ℕ). raised_by e (holds_from end 0 (words_at_each image level (set.root ∷ [])) b) (with_rows image ready.rows.items b x)) same
        ∙ (ap (λ (ws : List ℕ). raised_by era (holds_from end 0 ws b) (with_rows image ready.rows.items b x)) (root_words level set.root is)
        ∙ (ap (λ (t : Bool). raised_by era t (with_rows image ready.rows.items b x)) (from_first end words b ∙ same_end set.bits end blocks words b (omega arith) (λ below inside. omega arith) within)
        ∙ ap (λ (y : ℕ). raised_by era (holds set.bits words b) y) (rw rows refl))));
    knows = goes.knows;
  }

  -- with the writesets that are left, all will have raised those at the start
  pub record WillHave (blocks : ℕ) (all : List (ℕ × Writeset)) (start : List Row) (left : List (ℕ × Writeset)) (now : List Row) : Type 0 where
    pub each : (b x : ℕ) → b < blocks → with_sets image left b (with_rows image now b x) ≡ with_sets image all b (with_rows image start b x)

  pub last_set : (blocks : ℕ) (all left rest : List (ℕ × Writeset)) (start : List Row) (key : ℕ) (set : Writeset) (era : ℕ) (old new : Walk) → left ≡ rest ++ (key, set) ∷ [] → era ≡ era_of_key key
      → AddsSet image blocks set era old new → WillHave blocks all start left old.rows.items → WillHave blocks all start rest new.rows.items
  last_set blocks all left rest start key set era old new is era_is adds will = record {
    each = λ b x within.
        let y = with_rows image old.rows.items b x in
        ap (with_sets image rest b) (adds.each b x within)
        ∙ (ap (λ (e : ℕ). with_sets image rest b (max y (cond (holds set.bits (words_below 8 image set.root) b) e 0))) era_is
        ∙ (sym (with_last rest (key, set) b y)
        ∙ (sym (ap (λ (items : List (ℕ × Writeset)). with_sets image items b y) is) ∙ will.each b x within)));
  }

  pub no_set : (blocks : ℕ) (all left : List (ℕ × Writeset)) (start now : List Row) → left ≡ [] → WillHave blocks all start left now → HasSets image blocks all start now
  no_set blocks all left start now none will = record {
    each = λ b x within. sym (ap (λ (items : List (ℕ × Writeset)). with_sets image items b (with_rows image now b x)) none) ∙ will.each b x within;
  }

  -- the archived ones and the current one
  key_of_era : (era : ℕ) → era < 4294967296 → era_of_key era ≡ era
  key_of_era era fits = omega arith

  -- writesets of earlier eras raise none from this era on
  low_if : (t : Bool) (key low : ℕ) → key ≤ low → cond t key 0 ≤ low
  low_if true key low less = less
  low_if false key low less = omega arith

  fewer_sets : (least : ℕ) (items : List (ℕ × Writeset)) (b x : ℕ) → from_era least (with_sets image (filter (is_set_from least) items) b x) ≡ from_era least (with_sets image items b x)
  fewer_sets least [] b x = refl
  fewer_sets least (item ∷ items) b x =
      let era = set_era image b item in
      elim (cases_lt (era_of_key item.0) least) [
        | inl earlier ↦
            let low : era ≤ least - 1 = low_if (holds item.1.bits (words_below 8 image item.1.root) b) (era_of_key item.0) (least - 1) (omega arith) in
            let rest = fewer_sets least items b x in
            let raised : with_sets image items b (max x era) ≡ max (with_sets image items b x) era = sym (fold_max (map (set_era image b) items) x era) in
            rw (lt-ltb (era_of_key item.0) least earlier) (rest ∙ raised_late least (with_sets image items b x) (with_sets image items b (max x era)) era low raised)
        | inr from ↦ rw (le-ltb (era_of_key item.0) least from) (fewer_sets least items b (max x era))
      ]
    where
      raised_late : (least y z e : ℕ) → e ≤ least - 1 → z ≡ max y e → from_era least y ≡ from_era least z
      raised_late least y z e low is = omega arith

  pub has_rows : (least : ℕ) (fields : EraFields) (archived sets : List (ℕ × Writeset)) (start rows : List Row) → fields.era < 4294967296 → archived ≡ filter (is_set_from least) (sets_below image fields.writesets_root)
      → sets ≡ sets_of least archived fields → start ≡ [] → HasSets image fields.blocks sets start rows → HasRows image fields least rows
  has_rows least fields archived sets start rows fits is sets_is none has = record {
    each = λ b x within. ap (from_era least) (has.each b x within ∙ rw (none, sets_is) refl) ∙ one b x;
  }
    where
      all : List (ℕ × Writeset)
      all = sets_below image fields.writesets_root

      current : ℕ × Writeset
      current = (fields.era, record { bits = fields.current_bits; root = fields.current_root })

      here : ℕ → Bool
      here b = holds fields.current_bits (words_below 8 image fields.current_root) b

      fewer : (b x : ℕ) → from_era least (with_sets image archived b x) ≡ from_era least (with_sets image all b x)
      fewer b x = ap (λ (items : List (ℕ × Writeset)). from_era least (with_sets image items b x)) is ∙ fewer_sets least all b x

      with_none : (y z : ℕ) → from_era least y ≡ from_era least z → from_era least y ≡ from_era least (max z 0)
      with_none y z same = omega arith

      with_low : (y z e : ℕ) → e ≤ least - 1 → from_era least y ≡ from_era least z → from_era least y ≡ from_era least (max z e)
      with_low y z e low same = omega arith

      with_both : (y z e : ℕ) → from_era least y ≡ from_era least z → from_era least (max y e) ≡ from_era least (max z e)
      with_both y z e same = omega arith

      with_current : (b x : ℕ) → with_sets image (archived ++ current ∷ []) b x ≡ max (with_sets image archived b x) (cond (here b) fields.era 0)
      with_current b x =
          with_last archived current b x
          ∙ (sym (fold_max (map (set_era image b) archived) x (set_era image b current))
          ∙ ap (λ (e : ℕ). max (with_sets image archived b x) (cond (here b) e 0)) (key_of_era fields.era fits))

      one : (b x : ℕ) → from_era least (with_sets image (sets_of least archived fields) b x) ≡ from_era least (max (with_sets image all b x) (cond (is_current image fields b) fields.era 0))
      one b x = elim (cases_eq fields.current_root 0) [
        | inl zeroed ↦ rw (eq-eqb fields.current_root 0 zeroed) (with_none (with_sets image archived b x) (with_sets image all b x) (fewer b x))
        | inr other ↦ elim (cases_lt fields.era least) [
          | inl earlier ↦
              rw (ne_eqb fields.current_root 0 other, lt-ltb fields.era least earlier)
              (with_low (with_sets image archived b x) (with_sets image all b x) (cond (here b) fields.era 0) (low_if (here b) fields.era (least - 1) (omega arith)) (fewer b x))
          | inr from ↦
              rw (ne_eqb fields.current_root 0 other, le-ltb fields.era least from)
              (ap (from_era least) (with_current b x) ∙ with_both (with_sets image archived b x) (with_sets image all b x) (cond (here b) fields.era 0) (fewer b x))
        ]
      ]
