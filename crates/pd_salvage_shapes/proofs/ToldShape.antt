-- Where the device tells, the shape of what was met is the shape of what is saved.
use Rattle.std.proofs.Common.{◌≡◌, inl, inr, ℕ, ◌^◌, ◌≤◌, Bool, true, false, cond, ◌&&◌, nat_eq, nat_lt, List, [], ◌∷◌, ◌++◌, length, map, count_by, Option, Some, None, refl, sym, ap, ap₂, ◌∙◌, subst, arith}
use Rattle.std.specs.List.{AllByRecursion, flat_map}
use Rattle.std.proofs.lemmas.Bool.{cases_Bool, and_parts, eqb-true, leb-true, ltb-true}
use Rattle.std.proofs.lemmas.Grind.{flat_map-append}
use Rattle.std.proofs.lemmas.List.Sums.{sum_by-append, sum_by-cons}
use Rattle.pd_kinds.specs.Meaning.{Mapping}
use Rattle.pd_kinds.specs.Node.{Entry}
use Rattle.pd_kinds.specs.ThinFormat.{ThinFields}
use Rattle.pd_laid.specs.Salvage.{salvaged_device, salvaged_entries, salvaged_mappings, salvage_from, Visit, visited, visits, device_visits, is_saved_shared, is_whole_visit, number_of_visit, pieces_of_visits, saved_device_shape, saved_of_visit, saved_shape_from, saved_shared, saved_visits}
use Rattle.pd_laid.specs.Shape.{ShapeDevice, mappings_in, with_leaf}
use Rattle.pd_laid.proofs.GatherLemmas.{visits_give}
use Rattle.pd_salvage_shapes.specs.declared.note.LeafNote.{LeafNote}
use Rattle.pd_salvage_shapes.specs.declared.tops.Top.{Top}
use Rattle.pd_salvage_shapes.specs.declared.visiting.Seen.{Seen}
use Rattle.pd_salvage_shapes.specs.SeenShape.{shaped_device, shaped_devices, ones_of, seen_shape, all_mets, leaves_of}
use Rattle.pd_salvage_shapes.specs.Note.{Met, met_of, met_of_visit, mets_below, mets_of_root}
use Rattle.pd_salvage_shapes.specs.Pieces.{number_of_leaf, pieces_of_mets, leaf_maps}
use Rattle.pd_salvage_shapes.specs.Tops.{mets_of_seen, mets_of_tops, HasDetails, TellsTops, entry_of_top}
use Rattle.pd_salvage_shapes.specs.Visiting.{AreNotes, IsSeen, maps, mets_of}
use Rattle.pd_salvage_shapes.proofs.LeafTable.{all_mets_true, leaves_append}
use Rattle.pd_salvage_shapes.proofs.ShapeIs.{filter_same}
use Rattle.pd_salvage_shapes.proofs.ShapeLemmas.{HasItsMappings}
use Rattle.pd_salvage_shapes.proofs.TreeLemmas.{maps_visits}
use Rattle.pd_laws_shapes.proofs.VisitPieces.{are_shared, counted_stands, whole_saves}

front_all : {X : Type 0} (P : X → Type 0) (xs ys : List X) → AllByRecursion P (xs ++ ys) → AllByRecursion P xs × AllByRecursion P ys
front_all P [] ys all = (tt, all)
front_all P (x ∷ xs) ys all = let rest = front_all P xs ys all.1 in ((all.0, rest.0), rest.1)

head_is : {X : Type 0} (x y : X) (xs ys : List X) → x ∷ xs ≡ y ∷ ys → (x ≡ y) × (xs ≡ ys)
head_is x y xs ys same = ((cc), (cc))

module _ (fields : ThinFields) (image : List (List ℕ)) where
  abbrev met : Visit → List Met
  met v = met_of_visit fields image v

  abbrev whole : Visit → Bool
  whole v = is_whole_visit fields image v

  whole_some : (v : Visit) → whole v ≡ true → 1 ≤ length (saved_of_visit fields image v)
  whole_some v is =
      let both = and_parts _ _ is in
      let same = eqb-true (length (saved_of_visit fields image v)) (length (mappings_in image v.leaf)) both.0 in
      let some = leb-true 1 (length (mappings_in image v.leaf)) (and_parts _ _ both.1).0 in
      omega arith

  -- the leaves of visits
  module _ (b : ℕ) where
    abbrev counted : List ℕ → ℕ
    counted xs = count_by (λ c. nat_eq c b) xs

    abbrev test : Visit → Bool
    test v = nat_eq v.leaf b && whole v

    whole_leaf : (v : Visit) (ms : List Mapping) → 1 ≤ length ms → counted (leaves_of (met_of (Some v.leaf) ms)) ≡ cond (nat_eq v.leaf b) 1 0
    whole_leaf v [] some = absurd (omega arith)
    whole_leaf v (m ∷ ms) some = elim (cases_Bool (nat_eq v.leaf b)) [
      | inl here ↦ rw here refl
      | inr other ↦ rw other refl
    ]

    part_leaf : (ms : List Mapping) → counted (leaves_of (met_of None ms)) ≡ 0
    part_leaf [] = refl
    part_leaf (m ∷ ms) = refl

    visit_leaf : (v : Visit) → counted (leaves_of (met v)) ≡ cond (test v) 1 0
    visit_leaf v = elim (cases_Bool (whole v)) [
      | inl is ↦ rw is (whole_leaf v (saved_of_visit fields image v) (whole_some v is) ∙ and_true (nat_eq v.leaf b))
      | inr part ↦ rw part (part_leaf (saved_of_visit fields image v) ∙ and_false (nat_eq v.leaf b))
    ]
      where
        and_true : (x : Bool) → cond {A = ℕ} x 1 0 ≡ cond (x && true) 1 0
        and_true true = refl
        and_true false = refl

        and_false : (x : Bool) → 0 ≡ cond {A = ℕ} (x && false) 1 0
        and_false true = refl
        and_false false = refl

    pub visits_counted : (vs : List Visit) → counted (leaves_of (flat_map met vs)) ≡ count_by test vs
    visits_counted [] = refl
    visits_counted (v ∷ vs) =
        let split = ap counted (leaves_append (met v) (flat_map met vs)) in
        let parts = sum_by-append (λ c. cond {A = ℕ} (nat_eq c b) 1 0) (leaves_of (met v)) (leaves_of (flat_map met vs)) in
        let all = sum_by-cons (λ w. cond {A = ℕ} (test w) 1 0) v vs in
        let first = visit_leaf v in
        let rest = visits_counted vs in
        omega (arith, split, parts, all, first, rest)

  -- the pieces of visits
  module _ (ones : List ℕ) where
    met_pieces : (leaf : Option ℕ) (ms : List Mapping) (rest : List Met) → (ms ≡ [] → number_of_leaf ones leaf ≡ None)
        → pieces_of_mets ones (met_of leaf ms ++ rest) ≡ with_leaf ms (number_of_leaf ones leaf) (pieces_of_mets ones rest)
    met_pieces leaf [] rest none = rw (none refl) refl
    met_pieces leaf (m ∷ ms) rest none = refl

    visit_pieces : (v : Visit) (rest : List Met) → pieces_of_mets ones (met v ++ rest) ≡ with_leaf (saved_of_visit fields image v) (number_of_visit fields image ones v) (pieces_of_mets ones rest)
    visit_pieces v rest = elim (cases_Bool (whole v)) [
      | inl is ↦
          let some = whole_some v is in
          rw is (met_pieces (Some v.leaf) (saved_of_visit fields image v) rest (λ none. absurd (let empty = ap length none in omega arith)))
      | inr part ↦ rw part (met_pieces None (saved_of_visit fields image v) rest (λ none. refl))
    ]

    pub visits_pieces : (vs : List Visit) → pieces_of_mets ones (flat_map met vs) ≡ pieces_of_visits fields image ones vs
    visits_pieces [] = refl
    visits_pieces (v ∷ vs) = visit_pieces v (flat_map met vs) ∙ ap (with_leaf (saved_of_visit fields image v) (number_of_visit fields image ones v)) (visits_pieces vs)

  -- what is met below a root
  root_mets : (root : ℕ) → mets_of_root fields image root ≡ flat_map met (visited 8 fields.meta_map.blocks image root)
  unfolding mets_below visited
  root_mets root = refl

  pub root_maps : (root : ℕ) → maps (mets_of_root fields image root) ≡ salvaged_mappings fields image root
  unfolding mets_below salvaged_mappings salvaged_entries
  root_maps root = rw (maps_visits fields image (visits 8 fields.meta_map.blocks image 64 root 0 (2 ^ 64)), visits_give 8 fields.meta_map.blocks image 64 root 0 (2 ^ 64)) refl

  module _ (places : List ℕ) (notes : List LeafNote) (notes_are : AreNotes fields.data_map.blocks places notes) where
    -- what was met of all devices are the saved visits
    tops_mets : (tops : List Top) (seen : List Seen) → mets_of_seen notes seen ≡ mets_of_tops fields image tops → all_mets notes seen ≡ flat_map met (flat_map (device_visits fields image) (map entry_of_top tops))
    tops_mets [] [] same = refl
    tops_mets [] (d ∷ seen) same = absurd (cc)
    tops_mets (t ∷ tops) [] same = absurd (cc)
    tops_mets (t ∷ tops) (d ∷ seen) same =
        let both = head_is (mets_of notes d.met) (mets_of_root fields image t.root) (mets_of_seen notes seen) (mets_of_tops fields image tops) same in
        ap₂ (λ (xs ys : List Met). xs ++ ys) (both.0 ∙ root_mets t.root) (tops_mets tops seen both.1)
        ∙ sym (flat_map-append met (device_visits fields image (entry_of_top t)) (flat_map (device_visits fields image) (map entry_of_top tops)))

    -- a device with its pieces
    device_told : (ones : List ℕ) (t : Top) (d : Seen) → HasDetails fields image t → IsSeen fields.data_map.blocks notes d → mets_of notes d.met ≡ mets_of_root fields image t.root
        → ones ≡ saved_shared fields image → shaped_device ones notes t d ≡ saved_device_shape fields image (entry_of_top t)
    unfolding salvaged_device
    device_told ones t d details seen same shared_ones =
        let mapped : d.mapped ≡ length (salvaged_mappings fields image t.root) = seen.counted ∙ ap length (ap maps same ∙ root_maps t.root) in
        let pieces : pieces_of_mets ones (mets_of notes d.met) ≡ pieces_of_visits fields image (saved_shared fields image) (device_visits fields image (entry_of_top t)) =
        ap (pieces_of_mets ones) (same ∙ root_mets t.root)
        ∙ (visits_pieces ones (device_visits fields image (entry_of_top t))
        ∙ ap (λ (xs : List ℕ). pieces_of_visits fields image xs (device_visits fields image (entry_of_top t))) shared_ones) in
        rw (mapped, pieces, details.transaction, details.created, details.snapped) refl

    devices_told : (ones : List ℕ) (tops : List Top) (seen : List Seen) → mets_of_seen notes seen ≡ mets_of_tops fields image tops → AllByRecursion (HasDetails fields image) tops
        → AllByRecursion (IsSeen fields.data_map.blocks notes) seen → ones ≡ saved_shared fields image → shaped_devices ones notes tops seen ≡ map (saved_device_shape fields image) (map entry_of_top tops)
    devices_told ones [] seen same details lawful shared_ones = refl
    devices_told ones (t ∷ tops) [] same details lawful shared_ones = absurd (cc)
    devices_told ones (t ∷ tops) (d ∷ seen) same details lawful shared_ones =
        let both = head_is (mets_of notes d.met) (mets_of_root fields image t.root) (mets_of_seen notes seen) (mets_of_tops fields image tops) same in
        ap₂ (λ (x : ShapeDevice) (xs : List ShapeDevice). x ∷ xs) (device_told ones t d details.0 lawful.0 both.0 shared_ones) (devices_told ones tops seen both.1 details.1 lawful.1 shared_ones)

    module _ (tops : List Top) (seen : List Seen) (tells : TellsTops fields image tops) (lawful : AllByRecursion (IsSeen fields.data_map.blocks notes) seen)
        (same : mets_of_seen notes seen ≡ mets_of_tops fields image tops) where
      abbrev vs : List Visit
      vs = saved_visits fields image

      mets_all : all_mets notes seen ≡ flat_map met vs
      mets_all = tops_mets tops seen same ∙ ap (λ (es : List Entry). flat_map met (flat_map (device_visits fields image) es)) tells.all

      ones_told : ones_of fields notes seen ≡ saved_shared fields image
      unfolding saved_shared
      ones_told =
          filter_same (λ b. nat_lt 1 (count_by (λ c. nat_eq c b) (leaves_of (all_mets notes seen)))) (is_saved_shared fields image) 0 fields.meta_map.blocks
          (λ b from below. ap (λ (ms : List Met). nat_lt 1 (count_by (λ c. nat_eq c b) (leaves_of ms))) mets_all ∙ ap (λ (n : ℕ). nat_lt 1 n) (visits_counted b vs))

      -- the mappings of a shared leaf
      abbrev Saves : Visit → Type 0
      Saves v = whole v ≡ true → saved_of_visit fields image v ≡ leaf_maps places notes v.leaf

      visit_saves : (v : Visit) → AllByRecursion (HasItsMappings (leaf_maps places notes)) (met v) → Saves v
      visit_saves v all is = saves (saved_of_visit fields image v) (whole_some v is) (rw is at all)
        where
          saves : (ms : List Mapping) → 1 ≤ length ms → AllByRecursion (HasItsMappings (leaf_maps places notes)) (met_of (Some v.leaf) ms) → ms ≡ leaf_maps places notes v.leaf
          saves [] some all = absurd (omega arith)
          saves (m ∷ ms) some all = all.0 v.leaf refl

      visits_save : (ws : List Visit) → AllByRecursion (HasItsMappings (leaf_maps places notes)) (flat_map met ws) → AllByRecursion Saves ws
      visits_save [] all = tt
      visits_save (w ∷ ws) all = let both = front_all (HasItsMappings (leaf_maps places notes)) (met w) (flat_map met ws) all in (visit_saves w both.0, visits_save ws both.1)

      all_save : AllByRecursion Saves vs
      all_save = visits_save vs (rw mets_all at (all_mets_true fields.data_map.blocks places notes notes_are seen))

      leaf_told : (b : ℕ) → is_saved_shared fields image b ≡ true → leaf_maps places notes b ≡ mappings_in image b
      leaf_told b is =
          let twice = ltb-true 1 (count_by (λ (v : Visit). nat_eq v.leaf b && whole v) vs) is in
          let one = counted_stands (λ (v : Visit). nat_eq v.leaf b && whole v) Saves vs all_save (omega arith) in
          let parts = and_parts (nat_eq one.one.leaf b) (whole one.one) one.passes in
          let leaf = eqb-true one.one.leaf b parts.0 in
          subst (λ c. leaf_maps places notes c ≡ mappings_in image c) leaf (sym (one.known parts.1) ∙ whole_saves fields image one.one parts.1)

      leaves_told : (xs : List ℕ) → AllByRecursion (λ b. is_saved_shared fields image b ≡ true) xs → map (leaf_maps places notes) xs ≡ map (mappings_in image) xs
      leaves_told [] all = refl
      leaves_told (b ∷ xs) all = ap₂ (λ (x : List Mapping) (ys : List (List Mapping)). x ∷ ys) (leaf_told b all.0) (leaves_told xs all.1)

      pub shape_told : seen_shape fields places notes tops seen ≡ saved_shape_from fields image
      unfolding seen_shape saved_shape_from salvage_from
      shape_told =
          let ones = ones_told in
          let leaves = ap (map (leaf_maps places notes)) ones ∙ leaves_told (saved_shared fields image) (are_shared fields image) in
          let devices = devices_told (ones_of fields notes seen) tops seen same tells.details lawful ones ∙ ap (map (saved_device_shape fields image)) tells.all in
          rw (leaves, devices) refl
