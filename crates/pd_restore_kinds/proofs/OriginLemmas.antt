-- The first row that repeats an origin, as a line of the text.
use Rattle.std.proofs.Common.{◌≡◌, inl, ℕ, zero, suc, ◌+◌, ◌<◌, ◌^◌, Bool, true, false, eqb, List, [], ◌∷◌, ◌++◌, length, length-take-le, take, drop, get_or, refl, sym, ◌∙◌, ap, subst, arith, take-append-drop, Result, Ok, Err}
use Rattle.std.specs.Prelude.{IfErr}
use Rattle.std.specs.List.{list_any}
use Rattle.std.proofs.lemmas.Bool.{eq-eqb, ne_eqb, or_left, or_right}
use Rattle.std.proofs.lemmas.List.{drop_more, get_or-take, take_all}
use Rattle.pd_grammar.specs.Texts.{Reading, reading, with_line}
use Rattle.pd_grammar.specs.declared.cause.TextCause.TheVariants.{Repeated}
use Rattle.pd_grammar.specs.CacheText.{Line, cache_single, row_of, origins_of}
use Rattle.pd_texts.specs.Reader.{with_lines}
use Rattle.pd_texts_kinds.specs.CacheLine.{OriginsDiffer}
use Rattle.pd_texts_kinds.proofs.CacheLemmas.{repeated_text}
use Rattle.pd_restoring.specs.declared.fault.RestoreFault.{RestoreFault}
use Rattle.pd_restoring.specs.Reading.{IsOfLater}
use Rattle.pd_restoring.specs.declared.fault.RestoreFault.TheVariants as r
use Rattle.pd_salvage_cache.specs.declared.saved.Row.{Row}
use Rattle.pd_salvage_cache.specs.SavedCache.{entry}
use Rattle.pd_restore_kinds.specs.declared.cache_lines.Gathered.{Gathered}
use Rattle.pd_restore_kinds.specs.CacheReading.{after_rows, begun_lines, lines_of, SaysAfter, IsFirstRepeat, IsRepeatIn}
use Rattle.pd_restore_kinds.proofs.CacheLineLemmas.{after_all, after_append, length-after_rows}
use Rattle.pd_restore_kinds.proofs.RowLemmas.{none}

-- rows of which no two have one origin, and none has that of a line before
differ_after : (before : List Line) (rows : List Row) (d : Row) → OriginsDiffer before
    → ((j k : ℕ) → j < k → k < length rows → (get_or rows j d).origin ≡ (get_or rows k d).origin → ⊥)
    → ((k : ℕ) → k < length rows → list_any (λ origin. eqb origin (get_or rows k d).origin) (origins_of before) ≡ false)
    → OriginsDiffer (after_rows before rows)
differ_after before [] d differ apart fresh = differ
differ_after before (r ∷ rows) d differ apart fresh =
    differ_after (row_of (entry r) ∷ before) rows d (fresh 0 (omega arith), differ)
    (λ j k first within. apart (suc j) (suc k) (omega arith) (omega arith))
    (λ k within. rw (ne_eqb r.origin (get_or rows k d).origin (apart 0 (suc k) (omega arith) (omega arith))) (fresh (suc k) (omega arith)))

-- an origin that a row has
any_kept : (p : ℕ → Bool) (before : List Line) (rows : List Row) → list_any p (origins_of before) ≡ true → list_any p (origins_of (after_rows before rows)) ≡ true
any_kept p before [] any = any
any_kept p before (r ∷ rows) any = any_kept p (row_of (entry r) ∷ before) rows (or_right (p r.origin) _ any)

any_there : (p : ℕ → Bool) (before : List Line) (rows : List Row) (d : Row) (j : ℕ) → j < length rows → p (get_or rows j d).origin ≡ true
    → list_any p (origins_of (after_rows before rows)) ≡ true
any_there p before [] d j within is = absurd (omega arith)
any_there p before (r ∷ rows) d zero within is = any_kept p (row_of (entry r) ∷ before) rows (or_left (p r.origin) _ is)
any_there p before (r ∷ rows) d (suc j) within is = any_there p (row_of (entry r) ∷ before) rows d j (omega arith) is

module _ (g : Gathered) (n : ℕ) (first : IsFirstRepeat g.rows.items n) where
  abbrev before : List Line
  before = after_rows (begun_lines g.cache) (take n g.rows.items)

  same_row : (k : ℕ) → k < n → (get_or (take n g.rows.items) k none).origin ≡ (get_or g.rows.items k none).origin
  same_row k under = ap (λ (r : Row). r.origin) (get_or-take n g.rows.items k none under)

  number : length (take n g.rows.items) ≡ n
  number = length-take-le n g.rows.items first.within

  front_differs : OriginsDiffer before
  front_differs =
      differ_after (begun_lines g.cache) (take n g.rows.items) none (refl, (refl, tt))
      (λ j k first_one within same.
      first.differ j k none first_one (omega (arith, number)) (omega (arith, same_row j (omega (arith, number)), same_row k (omega (arith, number)))))
      (λ k within. refl)

  pub all_differ : (n < length g.rows.items → ⊥) → OriginsDiffer (lines_of g)
  all_differ past = subst (λ (rows : List Row). OriginsDiffer (after_rows (begun_lines g.cache) rows)) (take_all n g.rows.items (omega (arith, past))) front_differs

  pub repeats_there : n < length g.rows.items → n < 2 ^ 63 → IsRepeatIn g (r.Text (record { line = n + 3; cause = Repeated }))
  repeats_there low small =
      let rows = g.rows.items in
      let row = get_or rows n none in
      let one = first.repeats none low in
      let is = eq-eqb _ _ (same_row one.0 one.1.0 ∙ one.1.1) in (
        take n rows,
        (
          record {
            line = row_of (entry row);
            later = after_rows [] (drop (n + 1) rows);
            are =
                ap (after_rows (begun_lines g.cache)) (sym (take-append-drop n rows))
                ∙ (after_append (begun_lines g.cache) (take n rows) (drop n rows)
                ∙ (ap (after_rows before) (drop_more rows n none low) ∙ after_all (row_of (entry row) ∷ before) (drop (n + 1) rows)));
            repeats = any_there (λ origin. eqb origin row.origin) (begun_lines g.cache) (take n rows) none one.0 (omega (arith, number, one.1.0)) is;
            differ = front_differs;
          },
          ap (λ (line : ℕ). record { line = line; cause = Repeated }) (omega (arith, number, length-after_rows (begun_lines g.cache) (take n rows))),
        ),
      )

-- of a text that begins with these lines
with_lines_behind : (later earlier : List Line) (rest : Reading Line) → with_lines (later ++ earlier) rest ≡ with_lines earlier (with_lines later rest)
with_lines_behind [] earlier rest = refl
with_lines_behind (line ∷ later) earlier rest = with_lines_behind later earlier (with_line line rest)

repeat_says : (g : Gathered) (t : List ℕ) (rest : Reading Line) (fault : RestoreFault) → reading cache_single t ≡ with_lines (lines_of g) rest → IsRepeatIn g fault → SaysAfter g.cache t fault
repeat_says g t rest r.Memory is repeat = tt
repeat_says g t rest r.Source is repeat = absurd repeat
repeat_says g t rest r.Device is repeat = absurd repeat
repeat_says g t rest (r.Text fault) is (rows, (after, same)) =
    let before = after_rows (begun_lines g.cache) rows in (
      rows,
      inl (rw same (repeated_text t before after.line (with_lines after.later rest)
          (is ∙ (ap (λ (lines : List Line). with_lines lines rest) after.are ∙ with_lines_behind after.later (after.line ∷ before) rest))
          (omega (arith, length-after_rows (begun_lines g.cache) rows)) after.differ after.repeats)),
    )
repeat_says g t rest (r.NoRoom need blocks) is repeat = absurd repeat

-- none of the first two lines is refused so
repeat_later : (g : Gathered) (fault : RestoreFault) → IsRepeatIn g fault → IsOfLater fault
repeat_later g r.Memory repeat = tt
repeat_later g r.Source repeat = absurd repeat
repeat_later g r.Device repeat = absurd repeat
repeat_later g (r.Text fault) (rows, (after, same)) = rw same (omega (arith, length-after_rows (begun_lines g.cache) rows))
repeat_later g (r.NoRoom need blocks) repeat = absurd repeat

-- what a look at the origins says
pub repeats_say : (result : Result (Unit {0}) RestoreFault) (g : Gathered) (t : List ℕ) (rest : Reading Line) → reading cache_single t ≡ with_lines (lines_of g) rest
    → IfErr result (IsRepeatIn g) → IfErr result (SaysAfter g.cache t)
repeats_say (Ok done) g t rest is repeat = tt
repeats_say (Err fault) g t rest is repeat = repeat_says g t rest fault is repeat

pub repeats_later : (result : Result (Unit {0}) RestoreFault) (g : Gathered) → IfErr result (IsRepeatIn g) → IfErr result IsOfLater
repeats_later (Ok done) g repeat = tt
repeats_later (Err fault) g repeat = repeat_later g fault repeat
