-- What was met of a device, with one note more.
use Rattle.std.proofs.Common.{◌≡◌, ◌⊎◌, inl, inr, ℕ, zero, suc, ◌+◌, ◌^◌, ◌<◌, ◌≤◌, Bool, true, false, cond, not, ◌&&◌, nat_lt, List, [], ◌∷◌, ◌++◌, length, Option, Some, None, refl, sym, ap, ◌∙◌, arith, append_assoc, ◌%◌}
use Rattle.std.specs.List.{AllByRecursion, slice_get, flat_map}
use Rattle.std.proofs.lemmas.Bool.{cases_Bool, cases_lt, lt-ltb, le-ltb, both_ways}
use Rattle.std.proofs.lemmas.Grind.{flat_map-append}
use Rattle.std.proofs.lemmas.Option.{slice_get_within}
use Rattle.std.proofs.lemmas.List.{append-nil, length-append}
use Rattle.std.proofs.lemmas.List.FromFn.{map-range_with_len_more}
use Rattle.pd_kinds.specs.Meaning.{Mapping}
use Rattle.pd_grammar.specs.Lawful.{AreMappings}
use Rattle.pd_salvage.specs.declared.way.Range.{Range}
use Rattle.pd_salvage.specs.Range.{is_in_range}
use Rattle.pd_salvage_shapes.specs.declared.note.LeafNote.{LeafNote}
use Rattle.pd_salvage_shapes.specs.declared.visiting.Visiting.{Visiting}
use Rattle.pd_salvage_shapes.specs.Note.{Met, met_of, IsNote, end_key, in_keys, met_of_note, noted, numbers_in, range_numbers}
use Rattle.pd_salvage_shapes.specs.Visiting.{AreMet, Grow, IsRaised, IsReady, TakesNote, maps, mets_at, mets_now, mets_of}
use Rattle.pd_salvage_shapes.specs.declared.numbers.NumberRange.{NumberRange}

-- what stands at a place, with one more behind
module _ {X : Type 0} where
  pub some_at : (xs : List X) (k : ℕ) → k < length xs → (x : X) × (slice_get xs k ≡ Some x)
  some_at [] k within = absurd (omega arith)
  some_at (x ∷ xs) zero within = (x, refl)
  some_at (x ∷ xs) (suc k) within = some_at xs k (omega arith)

  pub at_pushed : (xs : List X) (y : X) (k : ℕ) (x : X) → slice_get xs k ≡ Some x → slice_get (xs ++ y ∷ []) k ≡ Some x
  at_pushed [] y k x is = cc
  at_pushed (z ∷ xs) y zero x is = is
  at_pushed (z ∷ xs) y (suc k) x is = at_pushed xs y k x is

  pub last_at : (xs : List X) (y : X) → slice_get (xs ++ y ∷ []) (length xs) ≡ Some y
  last_at [] y = refl
  last_at (x ∷ xs) y = last_at xs y

  pub pushed_at : (xs : List X) (y : X) (k : ℕ) (x : X) → slice_get (xs ++ y ∷ []) k ≡ Some x → (slice_get xs k ≡ Some x) ⊎ ((k ≡ length xs) × (x ≡ y))
  pushed_at [] y zero x is = inr (refl, (cc))
  pushed_at [] y (suc k) x is = inl (cc)
  pushed_at (z ∷ xs) y zero x is = inl is
  pushed_at (z ∷ xs) y (suc k) x is = elim (pushed_at xs y k x is) [
    | inl before ↦ inl before
    | inr last ↦ inr (ap (λ (n : ℕ). suc n) last.0, last.1)
  ]

  pub all_more : (P : X → Type 0) (xs : List X) (y : X) → AllByRecursion P xs → P y → AllByRecursion P (xs ++ y ∷ [])
  all_more P [] y all last = (last, tt)
  all_more P (x ∷ xs) y all last = (all.0, all_more P xs y all.1 last)

  pub all_weaker : (P Q : X → Type 0) → ((x : X) → P x → Q x) → (xs : List X) → AllByRecursion P xs → AllByRecursion Q xs
  all_weaker P Q weaker [] all = tt
  all_weaker P Q weaker (x ∷ xs) all = (weaker x all.0, all_weaker P Q weaker xs all.1)

-- what notes met, where there are more of them
pub mets_grow : (old new : List LeafNote) (ks : List ℕ) → Grow old new → AllByRecursion (λ k. k < length old) ks → mets_of new ks ≡ mets_of old ks
mets_grow old new [] grow all = refl
mets_grow old new (k ∷ ks) grow all =
    let here = some_at old k all.0 in
    rw (here.1, grow k here.0 here.1, mets_grow old new ks grow all.1) refl

pub mets_more : (notes : List LeafNote) (ks : List ℕ) (k : ℕ) (note : LeafNote) → slice_get notes k ≡ Some note → mets_of notes (ks ++ k ∷ []) ≡ mets_of notes ks ++ met_of_note note
mets_more notes ks k note is =
    flat_map-append (λ n. mets_at (slice_get notes n)) ks (k ∷ [])
    ∙ ap (λ (ms : List Met). mets_of notes ks ++ ms) (append-nil (mets_at (slice_get notes k)) ∙ ap mets_at is)

pub maps_append : (xs ys : List Met) → maps (xs ++ ys) ≡ maps xs ++ maps ys
maps_append xs ys = flat_map-append (λ (m : Met). m.mappings) xs ys

pub maps_met : (leaf : Option ℕ) (ms : List Mapping) → maps (met_of leaf ms) ≡ ms
maps_met leaf [] = refl
maps_met leaf (m ∷ ms) = append-nil (m ∷ ms)

-- mappings that ascend
module _ (blocks : ℕ) where
  pub later_mappings : (low least : ℕ) (ms : List Mapping) → low ≤ least → AreMappings blocks least ms → AreMappings blocks low ms
  later_mappings low least [] below are = tt
  later_mappings low least (x ∷ xs) below are =
      let above = are.0.above in
      (record { above = omega arith; virtual_fits = are.0.virtual_fits; within = are.0.within; time_fits = are.0.time_fits }, are.1)

  pub joined_mappings : (least : ℕ) (ms rest : List Mapping) → 1 ≤ length ms → AreMappings blocks least ms → AreMappings blocks (end_key ms) rest → AreMappings blocks least (ms ++ rest)
  joined_mappings least [] rest some are more = absurd (omega arith)
  joined_mappings least (m ∷ []) rest some are more = (are.0, more)
  joined_mappings least (m ∷ n ∷ ms) rest some are more = (are.0, joined_mappings (m.virtual_block + 1) (n ∷ ms) rest (omega arith) are.1 more)

  pub rest_mappings : (least : ℕ) (ms rest : List Mapping) → 1 ≤ length ms → AreMappings blocks least (ms ++ rest) → AreMappings blocks (end_key ms) rest
  rest_mappings least [] rest some are = absurd (omega arith)
  rest_mappings least (m ∷ []) rest some are = are.1
  rest_mappings least (m ∷ n ∷ ms) rest some are = rest_mappings (m.virtual_block + 1) (n ∷ ms) rest (omega arith) are.1

  kept_mappings : (range : Range) (low : ℕ) (ms : List Mapping) → AreMappings blocks low ms → AreMappings blocks low (in_keys range ms)
  kept_mappings range low [] are = tt
  kept_mappings range low (m ∷ ms) are =
      let above = are.0.above in
      let rest = kept_mappings range (m.virtual_block + 1) ms are.1 in
      elim (cases_Bool (is_in_range range m.virtual_block)) [
        | inl kept ↦ rw kept (are.0, rest)
        | inr left ↦ rw left (later_mappings low (m.virtual_block + 1) (in_keys range ms) (omega arith) rest)
      ]

  -- in a range without the keys below a number
  module _ (least : ℕ) (range raised : Range) (is : IsRaised least range raised) where
    raised_from : (key : ℕ) → key < 2 ^ 64 → is_in_range raised key ≡ true → least ≤ key
    raised_from key fits inside = elim (cases_lt key least) [
      | inl below ↦ absurd (both_ways (is_in_range raised key) (is.keys key fits ∙ rw (lt-ltb key least below) refl) inside)
      | inr from ↦ from
    ]

    pub raised_are : (low : ℕ) (ms : List Mapping) → AreMappings blocks low ms → AreMappings blocks least (in_keys raised ms)
    raised_are low [] are = tt
    raised_are low (m ∷ ms) are = elim (cases_Bool (is_in_range raised m.virtual_block)) [
      | inl kept ↦ rw kept (
        record { above = raised_from m.virtual_block are.0.virtual_fits kept; virtual_fits = are.0.virtual_fits; within = are.0.within; time_fits = are.0.time_fits },
        kept_mappings raised (m.virtual_block + 1) ms are.1,
      )
      | inr left ↦ rw left (raised_are (m.virtual_block + 1) ms are.1)
    ]

    raised_key : (key : ℕ) → key < 2 ^ 64 → (is_in_range range key ≡ true → least ≤ key) → is_in_range raised key ≡ is_in_range range key
    raised_key key fits from = elim (cases_Bool (is_in_range range key)) [
      | inl kept ↦ is.keys key fits ∙ rw (kept, le-ltb key least (from kept)) refl
      | inr left ↦ is.keys key fits ∙ (rw left (none_and (not (nat_lt key least))) ∙ sym left)
    ]
      where
        none_and : (a : Bool) → (a && false) ≡ false
        none_and true = refl
        none_and false = refl

    pub raised_same : (low : ℕ) (ms rest : List Mapping) → AreMappings blocks low ms → AreMappings blocks least (in_keys range ms ++ rest) → in_keys raised ms ≡ in_keys range ms
    raised_same low [] rest are more = refl
    raised_same low (m ∷ ms) rest are more = elim (cases_Bool (is_in_range range m.virtual_block)) [
      | inl kept ↦
          let first = (rw kept at more).0.above in
          let later = (rw kept at more).1 in
          let same = raised_key m.virtual_block are.0.virtual_fits (λ inside. first) in
          rw (same, kept)
          (ap (λ (xs : List Mapping). m ∷ xs)
          (raised_same (m.virtual_block + 1) ms rest are.1 (later_mappings least (m.virtual_block + 1) (in_keys range ms ++ rest) (omega arith) later)))
      | inr left ↦
          let same = raised_key m.virtual_block are.0.virtual_fits (λ inside. absurd (both_ways (is_in_range range m.virtual_block) left inside)) in
          rw (same, left) (raised_same (m.virtual_block + 1) ms rest are.1 (rw left at more))
    ]

-- a note was met
module _ (k : ℕ) (note : LeafNote) (old new : Visiting) (ready : IsReady old) (at : slice_get old.notes.items k ≡ Some note) (from : AreMappings old.s.data_map.blocks old.least (noted note))
    (takes : TakesNote k note old new) where
  abbrev blocks : ℕ
  blocks = old.s.data_map.blocks

  is_note : IsNote blocks note
  is_note = ready.notes.each k note at

  within : k < length old.notes.items
  within = slice_get_within old.notes.items k note at

  mets_taken : (met : List ℕ) → met ≡ old.met.items ++ k ∷ [] → mets_of old.notes.items met ≡ mets_now old ++ met_of_note note
  mets_taken met is = rw is (mets_more old.notes.items old.met.items k note at)

  none_noted : note.entries ≡ 0 → noted note ≡ []
  none_noted none = no_items (noted note) (let counted = is_note.counted in omega arith)
    where
      no_items : (ms : List Mapping) → length ms ≡ 0 → ms ≡ []
      no_items [] none = refl
      no_items (m ∷ ms) none = absurd (omega arith)

  pub took_mets : mets_now new ≡ mets_now old ++ met_of_note note
  took_mets = elim (cases_lt 0 note.entries) [
    | inl some ↦ rw takes.same.3 (mets_taken new.met.items (takes.some some).0)
    | inr none ↦
        let empty : note.entries ≡ 0 = omega arith in
        rw (takes.same.3, (takes.none empty).0, none_noted empty) (sym (append-nil (mets_now old)))
  ]

  met_mappings : maps (met_of_note note) ≡ noted note
  met_mappings = maps_met (cond note.full (Some note.block) None) (noted note)

  took_met : AreMet blocks old.notes.items new.met.items new.mapped new.least
  took_met = elim (cases_lt 0 note.entries) [
    | inl some ↦
        let is = takes.some some in
        let counted = is_note.counted in
        let both : maps (mets_of old.notes.items new.met.items) ≡ maps (mets_now old) ++ noted note =
        ap maps (mets_taken new.met.items is.0) ∙ (maps_append (mets_now old) (met_of_note note) ∙ ap (λ (ms : List Mapping). maps (mets_now old) ++ ms) met_mappings) in
        record {
          within = rw is.0 (all_more (λ n. n < length old.notes.items) old.met.items k ready.met.within within);
          lawful = λ rest are.
              rw (both, append_assoc (maps (mets_now old)) (noted note) rest)
              (ready.met.lawful (noted note ++ rest)
              (joined_mappings blocks old.least (noted note) rest (omega arith) from (rw (is.2, is_note.end) at are)));
          counted =
              let all = ap length both ∙ length-append (maps (mets_now old)) (noted note) in
              let before = ready.met.counted in
              let sum = is.1 in
              omega arith;
        }
    | inr none ↦
        let is = takes.none (omega arith) in
        rw (is.0, is.1, is.2) ready.met
  ]

  pub took_ready : IsReady new
  took_ready = record {
    places = rw (takes.same.0, takes.same.2) ready.places;
    notes = rw (takes.same.0, takes.same.2, takes.same.3) ready.notes;
    met = rw (takes.same.0, takes.same.3) took_met;
  }

  pub took_rest : (rest : List Mapping) → AreMappings blocks old.least (noted note ++ rest) → AreMappings blocks new.least rest
  took_rest rest are = elim (cases_lt 0 note.entries) [
    | inl some ↦
        let counted = is_note.counted in
        rw ((takes.some some).2, is_note.end) (rest_mappings blocks old.least (noted note) rest (omega arith) are)
    | inr none ↦
        let empty : note.entries ≡ 0 = omega arith in
        rw (takes.none empty).2 (rw (none_noted empty) at are)
  ]

-- Numbers that are held as ranges, and one more of them.

-- a range that is one longer has the next number at its end
pub longer_range : (first count : ℕ) → range_numbers (record { first = first; count = count + 1 }) ≡ range_numbers (record { first = first; count = count }) ++ (first + count) % 2 ^ 32 ∷ []
longer_range first count = map-range_with_len_more (λ i. (first + i) % 2 ^ 32) 0 count count (omega arith)

-- the number goes on with the last range
pub next_number : (done : List NumberRange) (last : NumberRange) (number : ℕ) → number ≡ (last.first + last.count) % 2 ^ 32
    → numbers_in done (record { first = last.first; count = last.count + 1 }) ≡ numbers_in done last ++ number ∷ []
next_number done last number is = rw (longer_range last.first last.count, is) (sym (append_assoc (flat_map range_numbers done) (range_numbers last) ((last.first + last.count) % 2 ^ 32 ∷ [])))
