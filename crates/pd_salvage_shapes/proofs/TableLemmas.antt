-- The table of notes as the steps after it want it.
use Rattle.std.proofs.Common.{◌≡◌, inl, inr, ℕ, zero, suc, ◌+◌, ◌^◌, ◌<◌, ◌≤◌, get_or, List, [], ◌∷◌, ◌++◌, length, map, Option, IfSome, ◌∙◌, subst, arith, sym, ap}
use Rattle.std.specs.List.{AllByRecursion}
use Rattle.std.proofs.lemmas.Bool.{cases_lt, eqb-true}
use Rattle.std.proofs.lemmas.List.{get_or_past}
use Rattle.std.proofs.lemmas.Option.{slice_get_within}
use Rattle.pd_kinds.specs.Meaning.{Mapping}
use Rattle.pd_kinds.specs.ThinFormat.{ThinFields}
use Rattle.pd_grammar.proofs.ThinLaws.{joined_some}
use Rattle.pd_grammar.specs.Lawful.{AreMappings}
use Rattle.pd_grammar.specs.ThinText.{mappings_from}
use Rattle.pd_grammar.specs.ThinText as text
use Rattle.pd_laid.specs.Shape.{ThinShape}
use Rattle.pd_laid.specs.Salvage.{saved_shape_from}
use Rattle.pd_tree.proofs.NextLemmas.{if_both}
use Rattle.pd_meaning_thin.specs.declared.joined.Run.{Run}
use Rattle.pd_meaning_thin.specs.Runs.{spelled}
use Rattle.pd_salvage.specs.Gather.{mappings_of_runs}
use Rattle.pd_salvage.specs.declared.saved.SavedHead.{SavedHead}
use Rattle.pd_salvage.specs.Saving.{FitsHead, head_of}
use Rattle.pd_salvage.specs.SavedShape.{HeldShape, IsSavedShape, held, held_shape}
use Rattle.pd_salvage_shapes.specs.declared.note.LeafNote.{LeafNote}
use Rattle.pd_salvage_shapes.specs.declared.tops.Top.{Top}
use Rattle.pd_salvage_shapes.specs.declared.visiting.Seen.{Seen}
use Rattle.pd_salvage_shapes.specs.declared.visiting.Visiting.{Visiting}
use Rattle.pd_salvage_shapes.specs.Note.{IsNote, noted}
use Rattle.pd_salvage_shapes.specs.Pieces.{AreRuns, AreCountedNotes, AreNamed, AreNumbers, IsSharing, shared_below}
use Rattle.pd_salvage_shapes.specs.Tops.{SeesAll, mets_of_seen, mets_of_tops, TellsTops, AreTops}
use Rattle.pd_salvage_shapes.specs.SeenShape.{seen_shape, AllWithin, AreSized, AreUses, AreWithin, all_mets, leaves_of, AreShaped}
use Rattle.pd_salvage_shapes.specs.Visiting.{AreNotes, IsSeen, IsStarted, TellsAll, HasTable}
use Rattle.pd_salvage_shapes.proofs.LeafTable.{all_stand}
use Rattle.pd_salvage_shapes.proofs.ToldShape.{shape_told}
use Rattle.pd_salvage_shapes.specs.declared.pieces.ShapedDevices.{ShapedDevices}
use Rattle.pd_salvage_shapes.specs.declared.shape.SharedLeaves.{SharedLeaves}
use Rattle.pd_salvage_shapes.proofs.ShapeIs.{held_is, held_sound, numbers_are}

-- the last data block of a run is in the pool
run_within : (blocks least v d t n : ℕ) (rest : List Mapping) → 1 ≤ n → AreMappings blocks least (mappings_from v d t n ++ rest) → d + n ≤ blocks
run_within blocks least v d t zero rest some are = absurd (omega arith)
run_within blocks least v d t (suc zero) rest some are = let within = are.0.within in omega arith
run_within blocks least v d t (suc (suc n)) rest some are = let last = run_within blocks (v + 1) (suc v) (suc d) t (suc n) rest (omega arith) are.1 in omega arith

rest_of_run : (blocks least v d t n : ℕ) (rest : List Mapping) → AreMappings blocks least (mappings_from v d t n ++ rest) → (next : ℕ) × AreMappings blocks next rest
rest_of_run blocks least v d t zero rest are = (least, are)
rest_of_run blocks least v d t (suc n) rest are = rest_of_run blocks (v + 1) (suc v) (suc d) t n rest are.1

runs_within : (blocks least : ℕ) (runs : List Run) → blocks ≤ 2 ^ 40 → AllByRecursion (λ (r : text.Run). 1 ≤ r.length) (map spelled runs) → AreMappings blocks least (mappings_of_runs runs) → AreRuns runs
runs_within blocks least [] few some are = tt
runs_within blocks least (r ∷ runs) few some are =
    let last = run_within blocks least r.virt r.target r.time r.length (mappings_of_runs runs) some.0 are in
    let rest = rest_of_run blocks least r.virt r.target r.time r.length (mappings_of_runs runs) are in
    ((some.0, omega arith), runs_within blocks rest.0 runs few some.1 rest.1)

pub note_runs : (blocks : ℕ) (note : LeafNote) → blocks ≤ 2 ^ 40 → IsNote blocks note → AreRuns note.runs
note_runs blocks note few is =
    runs_within blocks 0 note.runs few (subst (λ (rs : List text.Run). AllByRecursion (λ (r : text.Run). 1 ≤ r.length) rs) is.joined (joined_some (noted note))) is.lawful

all_index : (P : ℕ → Type 0) (xs : List ℕ) → AllByRecursion P xs → (i : ℕ) → i < length xs → P (get_or xs i 0)
all_index P [] all i within = absurd (omega arith)
all_index P (x ∷ xs) all zero within = all.0
all_index P (x ∷ xs) all (suc i) within = all_index P xs all.1 i (omega arith)

module _ (blocks nr : ℕ) (places : List ℕ) (notes : List LeafNote) (few : blocks ≤ 2 ^ 40) (number : length places ≡ nr) (are : AreNotes blocks places notes) where
  pub notes_sized : AreSized nr notes
  notes_sized = record {
    runs = λ k note at. note_runs blocks note few (are.each k note at);
    some = λ k note at full. let is = are.each k note at in let sized = is.sized full in let counted = is.counted in omega (arith, sized.0, counted);
    within = λ k note at full.
        let placed = are.placed k note at full in
        elim (cases_lt note.block (length places)) [
          | inl inside ↦ omega arith
          | inr past ↦ let none = get_or_past places note.block 0 past in absurd (omega arith)
        ];
  }

  pub notes_counted : AreCountedNotes notes
  notes_counted k note at = (are.each k note at).counted

  pub seen_within : (seen : List Seen) → AllByRecursion (IsSeen blocks notes) seen → AllWithin notes seen
  seen_within [] all i d at = absurd (cc)
  seen_within (e ∷ seen) all zero d at =
      let same : e ≡ d = cc in
      subst (λ (x : Seen). AreWithin notes x.met) same (all_index (λ k. k < length notes) e.met all.0.within)
  seen_within (e ∷ seen) all (suc i) d at = seen_within seen all.1 i d at

  pub uses_named : (seen : List Seen) (uses : List ℕ) → AreUses (leaves_of (all_mets notes seen)) uses → AreNamed uses places notes
  uses_named seen uses counted b within twice =
      let two = eqb-true (get_or uses b 0) 2 twice in
      let count = counted b within in
      let leaf = all_stand blocks places notes are b seen (omega arith) in
      let placed = are.placed leaf.number leaf.note leaf.at leaf.full in
      let same : get_or places b 0 ≡ leaf.number + 1 = subst (λ (c : ℕ). get_or places c 0 ≡ leaf.number + 1) leaf.block placed in
      let most = slice_get_within notes leaf.number leaf.note leaf.at in
      (omega arith, omega arith)

-- the shape, where the device tells
pub told_shape : (held : Option (List (List ℕ))) (s : ThinFields) (tops : List Top) (seen : List Seen) (started visiting : Visiting) (shape : ThinShape)
    → IfSome held (λ image. TellsTops s image tops) → IsStarted s started → SeesAll held tops seen started visiting
    → shape ≡ seen_shape visiting.s visiting.places.items visiting.notes.items tops seen → IfSome held (λ image. shape ≡ saved_shape_from s image)
told_shape held s tops seen started visiting shape told begun sees is =
    let same = sees.same ∙ begun.same in
    if_both held
    (λ image held_is tells (all : TellsAll image started → TellsAll image visiting × (mets_of_seen visiting.notes.items seen ≡ mets_of_tops started.s image tops)).
    is ∙ rw same (shape_told s image visiting.places.items visiting.notes.items (rw same at sees.table.notes) tops seen tells (rw begun.same at sees.lawful) (rw begun.same at (all (begun.tells image)).1)))
    told sees.told

-- The parts of the shape of what was met.

-- the notes are given by themselves
module _ (v : Visiting) (small : v.s.data_map.blocks ≤ 2 ^ 40) (table : HasTable v) (seen : List Seen) (seen_are : AllByRecursion (IsSeen v.s.data_map.blocks v.notes.items) seen)
    (notes : List LeafNote) (given : notes ≡ v.notes.items) where
  pub all_sized : AreSized v.s.meta_map.blocks notes
  all_sized =
      subst (λ (ns : List LeafNote). AreSized v.s.meta_map.blocks ns) (sym given)
      (notes_sized v.s.data_map.blocks v.s.meta_map.blocks v.places.items v.notes.items small table.places table.notes)

  pub all_within : AllWithin notes seen
  all_within =
      subst (λ (ns : List LeafNote). AllWithin ns seen) (sym given)
      (seen_within v.s.data_map.blocks v.s.meta_map.blocks v.places.items v.notes.items small table.places table.notes seen seen_are)

  pub all_counted : AreCountedNotes notes
  all_counted =
      subst (λ (ns : List LeafNote). AreCountedNotes ns) (sym given)
      (notes_counted v.s.data_map.blocks v.s.meta_map.blocks v.places.items v.notes.items small table.places table.notes)

  -- the uses were counted of these notes
  module _ (uses : List ℕ) (number : length uses ≡ v.s.meta_map.blocks) (counted : AreUses (leaves_of (all_mets notes seen)) uses) where
    pub own_counted : AreUses (leaves_of (all_mets v.notes.items seen)) uses
    own_counted = subst (λ (ns : List LeafNote). AreUses (leaves_of (all_mets ns seen)) uses) given counted

    -- and the places and the uses are given by themselves
    module _ (places : List ℕ) (placed : places ≡ v.places.items) (used : List ℕ) (same_uses : used ≡ uses) where
      pub as_many : length used ≡ length places
      as_many = ap length same_uses ∙ (number ∙ (sym table.places ∙ ap length (sym placed)))

      pub all_named : AreNamed used places notes
      all_named =
          subst (λ (us : List ℕ). AreNamed us places notes) (sym same_uses)
          (subst (λ (ps : List ℕ). AreNamed uses ps notes) (sym placed)
          (subst (λ (ns : List LeafNote). AreNamed uses v.places.items ns) (sym given)
          (uses_named v.s.data_map.blocks v.s.meta_map.blocks v.places.items v.notes.items small table.places table.notes seen uses own_counted)))

      pub own_sharing : (s : SharedLeaves) → IsSharing used places notes s (length used) → IsSharing uses v.places.items v.notes.items s (length uses)
      own_sharing s is =
          subst (λ (us : List ℕ). IsSharing us v.places.items v.notes.items s (length us)) same_uses
          (subst (λ (ps : List ℕ). IsSharing used ps v.notes.items s (length used)) placed
          (subst (λ (ns : List LeafNote). IsSharing used places ns s (length used)) given is))

    -- the leaves were shared
    module _ (s : SharedLeaves) (sharing : IsSharing uses v.places.items v.notes.items s (length uses)) where
      pub numbers_sized : (numbers : List ℕ) → numbers ≡ s.numbers.items → AreSized (length numbers) notes
      numbers_sized numbers are =
          subst (λ (n : ℕ). AreSized n notes) (sym (ap length are ∙ (sharing.count ∙ number))) all_sized

      pub own_shaped : (tops : List Top) (shaped : ShapedDevices) (numbers : List ℕ) → numbers ≡ s.numbers.items
          → ((ones : List ℕ) → AreNumbers ones numbers → AreShaped ones notes tops seen shaped) → AreShaped (shared_below uses (length uses)) v.notes.items tops seen shaped
      own_shaped tops shaped numbers are shapes =
          subst (λ (ns : List LeafNote). AreShaped (shared_below uses (length uses)) ns tops seen shaped) given
          (shapes (shared_below uses (length uses)) (subst (λ (ks : List ℕ). AreNumbers (shared_below uses (length uses)) ks) (sym are) (numbers_are uses v.places.items v.notes.items s sharing)))

      -- and the devices shaped
      module _ (few : v.s.meta_map.blocks ≤ 4161600) (tops : List Top) (each : length seen ≡ length tops) (tops_are : AreTops 0 tops)
          (shaped : ShapedDevices) (shapes : AreShaped (shared_below uses (length uses)) v.notes.items tops seen shaped) (head : SavedHead) (headed : head ≡ head_of v.s) where
        abbrev pub parts : SavedHead → HeldShape
        parts first = held first s.leaves.items s.runs shaped.devices.items shaped.piecing.pieces.items shaped.piecing.runs

        pub parts_sound : FitsHead head → IsSavedShape (parts head)
        parts_sound fits =
            subst (λ (first : SavedHead). IsSavedShape (parts first)) (sym headed)
            (held_sound v.s v.places.items v.notes.items tops seen few small table.notes each seen_are tops_are uses number own_counted s sharing shaped shapes
            (subst (λ (first : SavedHead). FitsHead first) headed fits))

        pub parts_are : (h : HeldShape) → h ≡ parts head → held_shape h ≡ seen_shape v.s v.places.items v.notes.items tops seen
        parts_are h is =
            ap held_shape (is ∙ ap parts headed)
            ∙ held_is v.s v.places.items v.notes.items tops seen few small table.notes each seen_are tops_are uses number own_counted s sharing shaped shapes
