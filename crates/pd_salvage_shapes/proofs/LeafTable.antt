-- The leaves that were met whole stand in the table of notes, and what was met of them is theirs.
use Rattle.std.proofs.Common.{◌≡◌, ◌≢◌, inl, inr, ℕ, ◌+◌, ◌<◌, ◌≤◌, true, false, cond, nat_eq, min, get_or, set, List, [], ◌∷◌, ◌++◌, length, take, Some, None, refl, sym, ap, ◌∙◌, subst, arith, append_assoc, eq-eqb, ◌-◌, map, count_by, Option}
use Rattle.std.specs.List.{slice_get, AllByRecursion}
use Rattle.std.specs.Option.{option_to_list}
use Rattle.std.proofs.lemmas.Bool.{cases_Bool, both_ways, eqb-true, cases_lt}
use Rattle.std.proofs.lemmas.Grind.{flat_map-append}
use Rattle.std.proofs.lemmas.List.{append-nil, get_or-set_same, get_or-set_other, length-set, take_more}
use Rattle.std.proofs.lemmas.List.Sums.{sum_by-append}
use Rattle.std.proofs.lemmas.Option.{none-some}
use Rattle.pd_kinds.specs.Meaning.{Mapping}
use Rattle.pd_grammar.specs.ThinText.{joined_runs}
use Rattle.pd_meaning_thin.specs.Runs.{spelled}
use Rattle.pd_salvage_shapes.specs.declared.note.LeafNote.{LeafNote}
use Rattle.pd_salvage_shapes.specs.declared.visiting.Seen.{Seen}
use Rattle.pd_salvage_shapes.specs.Note.{Met, met_of, met_of_note, noted, IsNote}
use Rattle.pd_salvage_shapes.specs.SeenShape.{AreUses, all_mets, leaves_of}
use Rattle.pd_salvage_shapes.specs.Visiting.{mets_of, AreNotes, mets_at}
use Rattle.pd_salvage_shapes.proofs.VisitingLemmas.{mets_more}
use Rattle.pd_salvage_shapes.specs.Pieces.{leaf_maps, leaf_runs, note_at}
use Rattle.pd_salvage_shapes.proofs.ShapeLemmas.{HasItsMappings}

-- How often leaves are met whole.

-- one use more
pub more_uses : (uses blocks : List ℕ) (b next : ℕ) → b < length uses → next ≡ min 2 (get_or uses b 0 + 1) → AreUses blocks uses → AreUses (blocks ++ b ∷ []) (set uses b next)
more_uses uses blocks b next within is are = λ c below.
    let same_length = length-set uses b next in
    let counted = sum_by-append (λ d. cond {A = ℕ} (nat_eq d c) 1 0) blocks (b ∷ []) in
    elim (cases_Bool (nat_eq b c)) [
      | inl here ↦
          let same = eqb-true b c here in
          let before = rw same at (are b within) in
          let value = rw same at (get_or-set_same uses b next 0 within) in
          let next_is = rw same at is in
          let all = rw same at counted in
          let one : cond {A = ℕ} (nat_eq c c) 1 0 ≡ 1 = rw (eq-eqb c c refl) refl in
          rw same (value ∙ omega (arith, all, before, next_is, one))
      | inr apart ↦
          let other : c ≢ b = λ equal. both_ways (nat_eq b c) apart (eq-eqb b c (sym equal)) in
          let before = are c (omega arith) in
          let none : cond {A = ℕ} (nat_eq b c) 1 0 ≡ 0 = rw apart refl in
          get_or-set_other uses b c next 0 other ∙ omega (arith, counted, before, none)
    ]

-- the leaf of a note
pub note_leaves : (note : LeafNote) → (note.full ≡ true → 1 ≤ length (noted note)) → note.full ≡ true → leaves_of (met_of_note note) ≡ note.block ∷ []
note_leaves note some full = rw full (one_leaf (noted note) (some full))
  where
    one_leaf : (ms : List Mapping) → 1 ≤ length ms → leaves_of (met_of (Some note.block) ms) ≡ note.block ∷ []
    one_leaf [] some = absurd (omega arith)
    one_leaf (m ∷ ms) some = refl

pub no_leaves : (note : LeafNote) → note.full ≡ false → leaves_of (met_of_note note) ≡ []
no_leaves note part = rw part (none_leaf (noted note))
  where
    none_leaf : (ms : List Mapping) → leaves_of (met_of None ms) ≡ []
    none_leaf [] = refl
    none_leaf (m ∷ ms) = refl

pub leaves_append : (xs ys : List Met) → leaves_of (xs ++ ys) ≡ leaves_of xs ++ leaves_of ys
leaves_append xs ys = flat_map-append (λ (m : Met). option_to_list m.leaf) xs ys

-- what the first notes met, with one more
pub mets_next : (notes : List LeafNote) (met : List ℕ) (i : ℕ) (note : LeafNote) → i < length met → slice_get notes (get_or met i 0) ≡ Some note
    → mets_of notes (take (i + 1) met) ≡ mets_of notes (take i met) ++ met_of_note note
mets_next notes met i note within at = ap (mets_of notes) (take_more met i 0 within) ∙ mets_more notes (take i met) (get_or met i 0) note at

-- one note more, and one device more
pub note_uses : (uses blocks : List ℕ) (notes : List LeafNote) (met : List ℕ) (i k : ℕ) (note : LeafNote) → i < length met → get_or met i 0 ≡ k → slice_get notes k ≡ Some note
    → AreUses ((blocks ++ leaves_of (mets_of notes (take i met))) ++ leaves_of (met_of_note note)) uses → AreUses (blocks ++ leaves_of (mets_of notes (take (i + 1) met))) uses
note_uses uses blocks notes met i k note within is at are =
    let one : mets_of notes (take (i + 1) met) ≡ mets_of notes (take i met) ++ met_of_note note =
    ap (mets_of notes) (take_more met i 0 within ∙ ap (λ (n : ℕ). take i met ++ n ∷ []) is) ∙ mets_more notes (take i met) k note at in
    subst (λ (xs : List ℕ). AreUses xs uses)
    (append_assoc blocks (leaves_of (mets_of notes (take i met))) (leaves_of (met_of_note note))
    ∙ ap (λ (xs : List ℕ). blocks ++ xs) (sym (ap leaves_of one ∙ leaves_append (mets_of notes (take i met)) (met_of_note note)))) are

pub device_uses : (uses : List ℕ) (notes : List LeafNote) (seen : List Seen) (i : ℕ) (d : Seen) → i < length seen → d ≡ get_or seen i d
    → AreUses (leaves_of (all_mets notes (take i seen)) ++ leaves_of (mets_of notes d.met)) uses → AreUses (leaves_of (all_mets notes (take (i + 1) seen))) uses
device_uses uses notes seen i d within is are =
    let one : all_mets notes (take (i + 1) seen) ≡ all_mets notes (take i seen) ++ mets_of notes d.met =
    ap (all_mets notes) (take_more seen i d within ∙ ap (λ (e : Seen). take i seen ++ e ∷ []) (sym is))
    ∙ (flat_map-append (λ (e : Seen). mets_of notes e.met) (take i seen) (d ∷ []) ∙ ap (λ (ms : List Met). all_mets notes (take i seen) ++ ms) (append-nil (mets_of notes d.met))) in
    subst (λ (xs : List ℕ). AreUses xs uses) (sym (ap leaves_of one ∙ leaves_append (all_mets notes (take i seen)) (mets_of notes d.met))) are

module _ (blocks : ℕ) (places : List ℕ) (notes : List LeafNote) (are : AreNotes blocks places notes) where
  abbrev f : ℕ → List Mapping
  f b = leaf_maps places notes b

  -- the note of a whole leaf
  pub record IsLeaf (b : ℕ) : Type 0 where
    pub note : LeafNote
    pub number : ℕ
    pub at : slice_get notes number ≡ Some note
    pub full : note.full ≡ true
    pub block : note.block ≡ b

  pub leaf_of : (k : ℕ) (note : LeafNote) → slice_get notes k ≡ Some note → note.full ≡ true → note_at places notes note.block ≡ Some note
  leaf_of k note at full =
      let placed = are.placed k note at full in
      let same : get_or places note.block 0 - 1 ≡ k = omega arith in
      rw same at

  pub leaf_runs_are : (b : ℕ) (leaf : IsLeaf b) → leaf_runs places notes b ≡ leaf.note.runs
  leaf_runs_are b leaf =
      let at : note_at places notes b ≡ Some leaf.note = subst (λ (c : ℕ). note_at places notes c ≡ Some leaf.note) leaf.block (leaf_of leaf.number leaf.note leaf.at leaf.full) in
      rw at refl

  pub leaf_is : (b : ℕ) (leaf : IsLeaf b) → f b ≡ noted leaf.note
  leaf_is b leaf = rw (leaf_runs_are b leaf) refl

  -- what was met of a leaf is its
  note_true : (note : LeafNote) (k : ℕ) → slice_get notes k ≡ Some note → AllByRecursion (HasItsMappings f) (met_of_note note)
  note_true note k at = all_true (noted note) refl
    where
      is_block : (b : ℕ) → cond note.full (Some note.block) None ≡ Some b → (note.full ≡ true) × (note.block ≡ b)
      is_block b is = elim (cases_Bool note.full) [
        | inl full ↦ let same = rw full at is in (full, (cc))
        | inr part ↦ absurd (none-some b (rw part at is))
      ]

      all_true : (ms : List Mapping) → noted note ≡ ms → AllByRecursion (HasItsMappings f) (met_of (cond note.full (Some note.block) None) ms)
      all_true [] is = tt
      all_true (m ∷ ms) is = (
        λ b leaf.
            let both = is_block b leaf in
            sym is ∙ sym (leaf_is b (record { note = note; number = k; at = at; full = both.0; block = both.1 })),
        tt,
      )

  at_true : (k : ℕ) (o : Option LeafNote) → slice_get notes k ≡ o → AllByRecursion (HasItsMappings f) (mets_at o)
  at_true k None is = tt
  at_true k (Some note) is = note_true note k is

  both_true : (xs ys : List Met) → AllByRecursion (HasItsMappings f) xs → AllByRecursion (HasItsMappings f) ys → AllByRecursion (HasItsMappings f) (xs ++ ys)
  both_true [] ys first last = last
  both_true (x ∷ xs) ys first last = (first.0, both_true xs ys first.1 last)

  pub mets_true : (ks : List ℕ) → AllByRecursion (HasItsMappings f) (mets_of notes ks)
  mets_true [] = tt
  mets_true (k ∷ ks) = both_true (mets_at (slice_get notes k)) (mets_of notes ks) (at_true k (slice_get notes k) refl) (mets_true ks)

  pub all_mets_true : (seen : List Seen) → AllByRecursion (HasItsMappings f) (all_mets notes seen)
  all_mets_true [] = tt
  all_mets_true (d ∷ seen) = both_true (mets_of notes d.met) (all_mets notes seen) (mets_true d.met) (all_mets_true seen)

  -- a leaf that was met stands in the table
  module _ (b : ℕ) where
    abbrev counted : List ℕ → ℕ
    counted xs = count_by (λ c. nat_eq c b) xs

    counted_both : (xs ys : List ℕ) → counted (xs ++ ys) ≡ counted xs + counted ys
    counted_both xs ys = sum_by-append (λ c. cond {A = ℕ} (nat_eq c b) 1 0) xs ys

    note_stands : (note : LeafNote) (k : ℕ) → slice_get notes k ≡ Some note → 1 ≤ counted (leaves_of (met_of_note note)) → IsLeaf b
    note_stands note k at some = elim (cases_Bool note.full) [
      | inl full ↦ record { note = note; number = k; at = at; full = full; block = same_block (noted note) (rw full at some) }
      | inr part ↦ let none = rw (no_leaves note part) at some in absurd (omega arith)
    ]
      where
        same_block : (ms : List Mapping) → 1 ≤ counted (leaves_of (met_of (Some note.block) ms)) → note.block ≡ b
        same_block [] some = absurd (omega arith)
        same_block (m ∷ ms) some = elim (cases_Bool (nat_eq note.block b)) [
          | inl same ↦ eqb-true note.block b same
          | inr other ↦ let none : counted (note.block ∷ []) ≡ 0 = rw other refl in absurd (omega arith)
        ]

    at_stands : (k : ℕ) (o : Option LeafNote) → slice_get notes k ≡ o → 1 ≤ counted (leaves_of (mets_at o)) → IsLeaf b
    at_stands k None is some = absurd (omega arith)
    at_stands k (Some note) is some = note_stands note k is some

    mets_stand : (ks : List ℕ) → 1 ≤ counted (leaves_of (mets_of notes ks)) → IsLeaf b
    mets_stand [] some = absurd (omega arith)
    mets_stand (k ∷ ks) some =
        let split = ap counted (leaves_append (mets_at (slice_get notes k)) (mets_of notes ks)) ∙ counted_both (leaves_of (mets_at (slice_get notes k))) (leaves_of (mets_of notes ks)) in
        elim (cases_lt 0 (counted (leaves_of (mets_at (slice_get notes k))))) [
          | inl here ↦ at_stands k (slice_get notes k) refl here
          | inr later ↦ mets_stand ks (omega arith)
        ]

    pub all_stand : (seen : List Seen) → 1 ≤ counted (leaves_of (all_mets notes seen)) → IsLeaf b
    all_stand [] some = absurd (omega arith)
    all_stand (d ∷ seen) some =
        let split = ap counted (leaves_append (mets_of notes d.met) (all_mets notes seen)) ∙ counted_both (leaves_of (mets_of notes d.met)) (leaves_of (all_mets notes seen)) in
        elim (cases_lt 0 (counted (leaves_of (mets_of notes d.met)))) [
          | inl here ↦ mets_stand d.met here
          | inr later ↦ all_stand seen (omega arith)
        ]

  -- it has 1 to 252 mappings, in runs as long as can be
  module _ (b : ℕ) (leaf : IsLeaf b) where
    is_note : IsNote blocks leaf.note
    is_note = are.each leaf.number leaf.note leaf.at

    pub leaf_some : 1 ≤ length (f b)
    leaf_some = rw (leaf_is b leaf) (let sized = is_note.sized leaf.full in let counted = is_note.counted in omega (arith, sized.0, counted))

    pub leaf_few : length (f b) ≤ 252
    leaf_few = rw (leaf_is b leaf) (let sized = is_note.sized leaf.full in let counted = is_note.counted in omega (arith, sized.1, counted))

    pub leaf_joined : joined_runs (f b) ≡ map spelled (leaf_runs places notes b)
    leaf_joined = rw (leaf_runs_are b leaf) is_note.joined
