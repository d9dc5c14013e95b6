-- What a walk knows, before and after rows and notes were added.
use Rattle.std.proofs.Common.{◌≡◌, ℕ, ◌≤◌, Bool, true, false, ◌||◌, fold, max, List, [], ◌∷◌, ◌++◌, map, refl, ap, ◌∙◌, arith, inl, inr, ◌⊎◌, ◌+◌, ◌*◌, ◌<◌, length, sym, subst, Option, Some, None, IfSome}
use Rattle.std.proofs.lemmas.Grind.{fold-append}
use Rattle.std.proofs.lemmas.List.{map-append}
use Rattle.std.specs.List.{slice_index_or}
use Rattle.std.proofs.lemmas.Bool.{cases_lt, le-ltb}
use Rattle.pd_kinds.specs.Graph.{block_at}
use Rattle.pd_graph.specs.declared.block_table.BlockTable.{BlockTable}
use Rattle.pd_graph.specs.Marks.{values_of}
use Rattle.pd_tree.specs.Cursor.{words_from}
use Rattle.pd_meaning_era.specs.declared.notes.Row.{Row}
use Rattle.pd_meaning_era.specs.Eras.{raised as raised_by, holds_from}
use Rattle.pd_meaning_era.specs.Notes.{Adds, Cover, row_era, row_holds, with_rows, IsAfter, words_at, IsKnown, IsNextKnown, Knows, NotesOne, known_end, no_note, note_of, Goes, words_at_each, IsOpened}
use Rattle.pd_meaning_era.proofs.RaiseLemmas.{twice}
use Rattle.pd_meaning_era.specs.declared.notes.ArrayNote.{ArrayNote}
use Rattle.pd_meaning_era.specs.declared.notes.Walk.{Walk}
use Rattle.pd_meaning_era.proofs.LevelLemmas.{from_append, from_later, from_nothing, from_past, reaches, after_all, after_earlier, after_none, after_past, after_then, words_at_zero, each_more}
use Rattle.pd_meaning_era.specs.declared.descent.Opened.TheVariants.{Done}

-- What rows raise, and rows that are added.

-- more is raised from more
fold_more : (xs : List ℕ) (x y : ℕ) → x ≤ y → fold max x xs ≤ fold max y xs
fold_more [] x y less = less
fold_more (z ∷ xs) x y less = fold_more xs (max x z) (max y z) (omega arith)

-- nothing that is held, and nothing new
adds_at : (era x : ℕ) (held : Bool) → (held ≡ true → era ≤ x) → x ≡ raised_by era held x
adds_at era x true low = let here = low refl in omega arith
adds_at era x false low = omega arith

module _ (image : List (List ℕ)) where
  -- with a row behind others
  pub with_rows_more : (rows : List Row) (row : Row) (b x : ℕ) → with_rows image (rows ++ row ∷ []) b x ≡ max (with_rows image rows b x) (row_era image b row)
  with_rows_more rows row b x =
      rw (map-append (row_era image b) rows (row ∷ []), fold-append {A = ℕ} {B = ℕ} max x (map (row_era image b) rows) (row_era image b row ∷ [])) refl

  pub adds_row : (rows : List Row) (row : Row) → Adds image row.era (row_holds image row) rows (rows ++ row ∷ [])
  adds_row rows row = record { each = λ b x. with_rows_more rows row b x }

  pub adds_none : (era : ℕ) (f : ℕ → Bool) (rows : List Row) → ((b : ℕ) → f b ≡ false) → Adds image era f rows rows
  adds_none era f rows none = record { each = λ b x. rw (none b) (omega arith) }

  pub adds_same : (era : ℕ) (f g : ℕ → Bool) (old new : List Row) → ((b : ℕ) → f b ≡ g b) → Adds image era f old new → Adds image era g old new
  adds_same era f g old new same adds = record { each = λ b x. adds.each b x ∙ ap (λ (t : Bool). raised_by era t (with_rows image old b x)) (same b) }

  pub adds_then : (era : ℕ) (f g : ℕ → Bool) (a b c : List Row) → Adds image era f a b → Adds image era g b c → Adds image era (λ n. f n || g n) a c
  adds_then era f g a b c first second = record {
    each = λ n x. second.each n x ∙ (ap (λ (y : ℕ). raised_by era (g n) y) (first.each n x) ∙ twice era (with_rows image a n x) (f n) (g n));
  }

  -- what is covered stays so, and what was added is
  pub still_covered : (era high least : ℕ) (f g : ℕ → Bool) (old new : List Row) → least ≤ high → Adds image era f old new → Cover image high g old → Cover image least g new
  still_covered era high least f g old new less adds low = record {
    each = λ b held.
        let now = adds.each b 0 in
        let before = low.each b held in
        omega arith;
  }

  pub added_covered : (era : ℕ) (f : ℕ → Bool) (old new : List Row) → Adds image era f old new → Cover image era f new
  added_covered era f old new adds = record { each = λ b held. let now = rw held at (adds.each b 0) in omega arith }

  -- and what is covered needs no row
  pub covered_adds : (era : ℕ) (f : ℕ → Bool) (rows : List Row) → Cover image era f rows → Adds image era f rows rows
  covered_adds era f rows low = record {
    each = λ b x. adds_at era (with_rows image rows b x) (f b) (λ held.
        let least = low.each b held in
        let more = fold_more (map (row_era image b) rows) 0 x (omega arith) in
        omega arith);
  }

  -- fewer blocks are covered
  pub fewer_covered : (era : ℕ) (f g : ℕ → Bool) (rows : List Row) → ((b : ℕ) → f b ≡ true → g b ≡ true) → Cover image era g rows → Cover image era f rows
  fewer_covered era f g rows fewer low = record { each = λ b held. low.each b (fewer b held) }

-- where nothing is noted, that is so
no_bits_held : (end first : ℕ) (words : List ℕ) (b : ℕ) → end ≡ 0 → holds_from end first words b ≡ true → ⊥
no_bits_held end first words b none is = let wrong = rw (none, le-ltb b 0 (omega arith)) at is in cc

module _ (image : List (List ℕ)) where
  nothing_known : (walk : Walk) (b : ℕ) → IsKnown image walk b no_note
  nothing_known walk b = record {
    after = after_past 0 0 (words_at image 0 b) (omega arith);
    covered = record { each = λ c held. absurd (no_bits_held 0 0 (words_at image 0 b) c refl held) };
  }

  pub knows_nothing : (walk : Walk) → ((b : ℕ) → note_of walk b ≡ no_note) → Knows image walk
  knows_nothing walk none = record { each = λ b. subst (IsKnown image walk b) (sym (none b)) (nothing_known walk b) }

  -- what was known is so after rows were added, and a note that is so
  known_on : (f : ℕ → Bool) (era : ℕ) (old new : Walk) (b : ℕ) (note : ArrayNote) → new.era ≤ old.era → Adds image era f old.rows.items new.rows.items → IsKnown image old b note → IsKnown image new b note
  known_on f era old new b note less adds known = record {
    after = known.after;
    covered = still_covered image era old.era new.era f (holds_from note.end note.first (words_at image note.level b)) old.rows.items new.rows.items less adds known.covered;
  }

  pub knows_on : (f : ℕ → Bool) (era : ℕ) (old new : Walk) → new.era ≤ old.era → Adds image era f old.rows.items new.rows.items → new.notes ≡ old.notes → Knows image old → Knows image new
  knows_on f era old new less adds same knows = record {
    each = λ b.
        let here : note_of new b ≡ note_of old b = ap (λ (notes : BlockTable ArrayNote). slice_index_or (values_of notes) b no_note) same in
        subst (IsKnown image new b) (sym here) (known_on f era old new b (note_of old b) less adds (knows.each b));
  }

  pub knows_one : (b : ℕ) (note : ArrayNote) (old new : Walk) → new.era ≡ old.era → new.rows ≡ old.rows → NotesOne b note (values_of old.notes) (values_of new.notes)
      → IsKnown image old b note → Knows image old → Knows image new
  knows_one b note old new era rows noted is knows = record {
    each = λ c.
        let adds : Adds image old.era (λ n. false) old.rows.items new.rows.items = rw rows (adds_none image old.era (λ n. false) old.rows.items (λ n. refl)) in
        known_on (λ n. false) old.era old new c (note_of new c) (omega arith) adds
        (elim (noted.each c) [
          | inl same ↦ subst (IsKnown image old c) (sym same) (knows.each c)
          | inr this ↦ subst (λ (d : ℕ). IsKnown image old d (note_of new c)) (sym this.0) (subst (IsKnown image old b) (sym this.1) is)
        ]);
  }

  -- a block whose rows were added is known
  far_end : (next end : ℕ) → ((known_end next end ≡ end) × (end ≤ 64 * next)) ⊎ (64 * next < end)
  far_end next end = elim (cases_lt (64 * next) end) [
    | inl before ↦ inr before
    | inr past ↦ inl (rw (le-ltb (64 * next) end past) refl, past)
  ]

  came_known : (level b at next end : ℕ) (old new : Walk) → Goes image end at (words_at image level b) next old new
      → IsKnown image new b (record { level = level; first = at; next = next; end = known_end next end })
  came_known level b at next end old new goes =
      let words = words_at image level b in
      let era : new.era ≡ old.era = goes.era in
      let covered : Cover image new.era (holds_from end at words) new.rows.items =
      subst (λ (e : ℕ). Cover image e (holds_from end at words) new.rows.items) (sym era) (added_covered image old.era (holds_from end at words) old.rows.items new.rows.items goes.adds) in
      elim (far_end next end) [
        | inl same ↦ record {
          after = subst (λ (e : ℕ). IsAfter e at words next) (sym same.0) goes.after;
          covered = subst (λ (e : ℕ). Cover image new.era (holds_from e at words) new.rows.items) (sym same.0) covered;
        }
        | inr whole ↦
            let all : next ≡ at + length words = elim goes.after.all [ inl is ↦ is | inr past ↦ absurd (omega arith) ] in
            record {
              after = after_all (known_end next end) at words next all;
              covered = fewer_covered image new.era (holds_from (known_end next end) at words) (holds_from end at words) new.rows.items
                  (λ c held. reaches end (known_end next end) at words c (omega arith) held) covered;
            }
      ]

  pub goes_noted : (level b at next end : ℕ) (old mid new : Walk) → Goes image end at (words_at image level b) next old mid → new.era ≡ mid.era → new.rows ≡ mid.rows
      → NotesOne b (record { level = level; first = at; next = next; end = known_end next end }) (values_of mid.notes) (values_of new.notes)
      → Goes image end at (words_at image level b) next old new
  goes_noted level b at next end old mid new goes era rows noted = record {
    era = era ∙ goes.era;
    adds = rw rows goes.adds;
    after = goes.after;
    knows = knows_one b (record { level = level; first = at; next = next; end = known_end next end }) mid new era rows noted (came_known level b at next end old mid goes) goes.knows;
  }

  -- nothing is added for no words, and for a block that is known
  pub goes_nothing : (end at : ℕ) (words : List ℕ) (walk : Walk) → words ≡ [] → Knows image walk → Goes image end at words at walk walk
  goes_nothing end at words walk none knows = record {
    era = refl;
    adds = adds_none image walk.era (holds_from end at words) walk.rows.items (λ b. ap (λ (ws : List ℕ). holds_from end at ws b) none ∙ from_nothing end at b);
    after = subst (λ (ws : List ℕ). IsAfter end at ws at) (sym none) (after_none end at);
    knows = knows;
  }

  pub goes_known : (level b at next end : ℕ) (walk : Walk) → IsNextKnown level at end (note_of walk b) next → Knows image walk → Goes image end at (words_at image level b) next walk walk
  goes_known level b at next end walk is knows =
      let note = note_of walk b in
      let known = knows.each b in
      let words = words_at image level b in
      let after : IsAfter note.end at words note.next =
      subst (λ (l : ℕ). IsAfter note.end at (words_at image l b) note.next) is.level (subst (λ (n : ℕ). IsAfter note.end n (words_at image note.level b) note.next) is.begins known.after) in
      let covered : Cover image walk.era (holds_from note.end at words) walk.rows.items =
      subst (λ (l : ℕ). Cover image walk.era (holds_from note.end at (words_at image l b)) walk.rows.items) is.level
      (subst (λ (n : ℕ). Cover image walk.era (holds_from note.end n (words_at image note.level b)) walk.rows.items) is.begins known.covered) in
      record {
        era = refl;
        adds =
            covered_adds image walk.era (holds_from end at words) walk.rows.items
            (fewer_covered image walk.era (holds_from end at words) (holds_from note.end at words) walk.rows.items (λ c held. from_later end note.end at words c is.far held) covered);
        after = subst (λ (n : ℕ). IsAfter end at words n) (sym is.after) (after_earlier end note.end at words note.next is.far after);
        knows = knows;
      }

  -- the row of an array block is added
  pub goes_row : (b at end next : ℕ) (row : Row) (old new : Walk) → row ≡ record { block = b; first = at; end = end; era = old.era } → new.era ≡ old.era → new.notes ≡ old.notes
      → new.rows.items ≡ old.rows.items ++ row ∷ [] → next ≡ at + length (words_from 8 (block_at image b) 0) → Knows image old → Goes image end at (words_at image 0 b) next old new
  goes_row b at end next row old new is era notes rows after knows =
      let added : Adds image old.era (holds_from end at (words_from 8 (block_at image b) 0)) old.rows.items new.rows.items =
      subst (λ (items : List Row). Adds image old.era (holds_from end at (words_from 8 (block_at image b) 0)) old.rows.items items) (sym (rows ∙ ap (λ (one : Row). old.rows.items ++ one ∷ []) is))
      (adds_row image old.rows.items (record { block = b; first = at; end = end; era = old.era })) in
      record {
        era = era;
        adds = rw (words_at_zero image b) added;
        after = rw (words_at_zero image b) (after_all end at (words_from 8 (block_at image b) 0) next after);
        knows = knows_on (holds_from end at (words_from 8 (block_at image b) 0)) old.era old new (omega arith) added notes knows;
      }

  -- the words of some, and then those of others
  still_from : (end at mid : ℕ) (xs ys : List ℕ) (b : ℕ) → IsAfter end at xs mid → holds_from end mid ys b ≡ holds_from end (at + length xs) ys b
  still_from end at mid xs ys b after = elim after.all [
    | inl is ↦ ap (λ (n : ℕ). holds_from end n ys b) is
    | inr past ↦
        let most = after.most in
        from_past end mid ys b past ∙ sym (from_past end (at + length xs) ys b (omega arith))
  ]

  pub goes_then : (end at mid next : ℕ) (xs ys : List ℕ) (a b c : Walk) → Goes image end at xs mid a b → Goes image end mid ys next b c → Goes image end at (xs ++ ys) next a c
  goes_then end at mid next xs ys a b c first second = record {
    era = second.era ∙ first.era;
    adds =
        adds_same image a.era (λ n. holds_from end at xs n || holds_from end mid ys n) (holds_from end at (xs ++ ys)) a.rows.items c.rows.items
        (λ n. ap (λ (t : Bool). holds_from end at xs n || t) (still_from end at mid xs ys n first.after) ∙ sym (from_append end at xs ys n))
        (adds_then image a.era (holds_from end at xs) (holds_from end mid ys) a.rows.items b.rows.items c.rows.items first.adds
        (subst (λ (e : ℕ). Adds image e (holds_from end mid ys) b.rows.items c.rows.items) first.era second.adds));
    after = after_then end at mid next xs ys first.after second.after;
    knows = second.knows;
  }

-- One block more on the way.

-- a further block
goes_on : (image : List (List ℕ)) (level end at mid next : ℕ) (bs : List ℕ) (b : ℕ) (start before after : Walk) → Goes image end at (words_at_each image level bs) mid start before
    → Goes image end mid (words_at image level b) next before after → Goes image end at (words_at_each image level (bs ++ b ∷ [])) next start after
goes_on image level end at mid next bs b start before after first second =
    subst (λ (ws : List ℕ). Goes image end at ws next start after) (sym (each_more image level bs b)) (goes_then image end at mid next (words_at_each image level bs) (words_at image level b) start before after first second)

pub told_done : (held : Option (List (List ℕ))) (level end at mid next : ℕ) (bs : List ℕ) (b : ℕ) (start before after : Walk)
    → IfSome held (λ image. Knows image start → Goes image end at (words_at_each image level bs) mid start before)
    → IfSome held (λ image. Knows image before → IsOpened image level b mid end (Done next) before after)
    → IfSome held (λ image. Knows image start → Goes image end at (words_at_each image level (bs ++ b ∷ [])) next start after)
told_done None level end at mid next bs b start before after so_far here = tt
told_done (Some image) level end at mid next bs b start before after so_far here = λ knows.
    let first = so_far knows in
    goes_on image level end at mid next bs b start before after first (here first.knows)

pub told_below : (held : Option (List (List ℕ))) (level lower end at mid next : ℕ) (bs below : List ℕ) (b : ℕ) (start before opened went after : Walk)
    → IfSome held (λ image. Knows image start → Goes image end at (words_at_each image level bs) mid start before)
    → IfSome held (λ image. Knows image before → (opened ≡ before) × (words_at image level b ≡ words_at_each image lower below))
    → IfSome held (λ image. Knows image opened → Goes image end mid (words_at_each image lower below) next opened went)
    → after.era ≡ went.era → after.rows ≡ went.rows → NotesOne b (record { level = level; first = mid; next = next; end = known_end next end }) (values_of went.notes) (values_of after.notes)
    → IfSome held (λ image. Knows image start → Goes image end at (words_at_each image level (bs ++ b ∷ [])) next start after)
told_below None level lower end at mid next bs below b start before opened went after so_far here there era rows noted = tt
told_below (Some image) level lower end at mid next bs below b start before opened went after so_far here there era rows noted = λ knows.
    let first = so_far knows in
    let is = here first.knows in
    let passed : Goes image end mid (words_at_each image lower below) next before went =
    subst (λ (walk : Walk). Goes image end mid (words_at_each image lower below) next walk went) is.0 (there (subst (Knows image) (sym is.0) first.knows)) in
    let second : Goes image end mid (words_at image level b) next before went = subst (λ (ws : List ℕ). Goes image end mid ws next before went) (sym is.1) passed in
    goes_on image level end at mid next bs b start before after first (goes_noted image level b mid next end before went after second era rows noted)
