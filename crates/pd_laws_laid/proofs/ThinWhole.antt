-- What is read of a laid pool: its devices, and the rules that speak of the whole.
use Rattle.std.proofs.Common.{◌≡◌, ℕ, ◌+◌, ◌/◌, ◌%◌, ◌^◌, ◌<◌, true, false, not, nat_eq, List, [], ◌∷◌, length, map, filter, Option, refl, sym, ◌∙◌, ap, ap₂, arith, eq-eqb}
use Rattle.std.specs.declared.option.Option.TheVariants.{Some}
use Rattle.std.specs.List.{AllByRecursion, flat_map}
use Rattle.std.specs.Option.{unwrap_or}
use Rattle.std.proofs.lemmas.Bool.{not_from_true}
use Rattle.std.proofs.lemmas.Bool.Decides.{nat_tests}
use Rattle.pd_kinds.specs.Graph.{Graph}
use Rattle.pd_kinds.specs.Layout.{Tree}
use Rattle.pd_kinds.specs.Meaning.{Mapping, ThinDevice, thin_device}
use Rattle.pd_kinds.specs.Node.{Entry, is_ascending}
use Rattle.pd_kinds.specs.ThinFormat.{mapped_block, mapped_time}
use Rattle.pd_kinds.specs.Trees.{value_of_key}
use Rattle.pd_kinds.specs.Field.{details_code, mapping_code}
use Rattle.pd_kinds.specs.Whole.{WholeTest, mapped_number, mapping_entries}
use Rattle.pd_kinds.proofs.KindLemmas.{asc_tail}
use Rattle.pd_kinds.specs.declared.rule.Rule.TheVariants as r
use Rattle.pd_laid.specs.LaidThin.{details_items, laid_device, mapping_items, top_items}
use Rattle.pd_laid.specs.Shape.{ShapeDevice, device_of, piece_mappings}
use Rattle.pd_laid.proofs.GatherLemmas.{length-items}
use Rattle.pd_laws_laid.proofs.Ascending.{first_less}
use Rattle.pd_laws_laid.proofs.ThinDevices.{AreRead}
use Rattle.pd_laws_laid.proofs.ThinRows.{DeviceFits, MappingFits, details_value, mappings_fit}

-- entries with ascending keys are found by their keys
module _ {X : Type 0} (key value : X → ℕ) where
  none_found : (k : ℕ) (xs : List X) → AllByRecursion (λ n. k < n) (map key xs)
      → filter (λ (e : Entry). nat_eq e.key k) (map (λ (x : X). record { key = key x; value = value x }) xs) ≡ []
  none_found k [] above = refl
  none_found k (x ∷ xs) above =
      let more = above.0 in
      let other : nat_eq (key x) k ≡ false = grind (arith, nat_tests) in
      rw other (none_found k xs above.1)

  above_each : (k : ℕ) (xs : List X) → AllByRecursion (λ n. k < n) (map key xs) → AllByRecursion (λ x. nat_eq k (key x) ≡ false) xs
  above_each k [] above = tt
  above_each k (x ∷ xs) above = (let more = above.0 in grind (arith, nat_tests), above_each k xs above.1)

  abbrev pub IsFound : List X → X → Type 0
  IsFound all x =
      (filter (λ (e : Entry). nat_eq e.key (key x)) (map (λ (x : X). record { key = key x; value = value x }) all) ≡ record { key = key x; value = value x } ∷ [])
      × (value_of_key (map (λ (x : X). record { key = key x; value = value x }) all) (key x) ≡ Some (value x))

  found_later : (x : X) (xs ys : List X) → AllByRecursion (λ y. nat_eq (key x) (key y) ≡ false) ys → AllByRecursion (IsFound xs) ys → AllByRecursion (IsFound (x ∷ xs)) ys
  unfolding value_of_key
  found_later x xs [] others found = tt
  found_later x xs (y ∷ ys) others found =
      ((rw others.0 found.0.0, rw others.0 found.0.1), found_later x xs ys others.1 found.1)

  pub keyed : (xs : List X) → is_ascending (map key xs) ≡ true → AllByRecursion (IsFound xs) xs
  unfolding value_of_key
  keyed [] asc = tt
  keyed (x ∷ xs) asc =
      let above = first_less (key x) (map key xs) asc in
      let self = eq-eqb (key x) (key x) refl in (
        (rw self (ap (λ (rest : List Entry). record { key = key x; value = value x } ∷ rest) (none_found (key x) xs above)), rw self refl),
        found_later x xs xs (above_each (key x) xs above) (keyed xs (asc_tail (key x) (map key xs) asc)),
      )

-- the fields of a device's details
details_mapped : (a b c d : ℕ) → a < 2 ^ 64 → details_code a b c d % 2 ^ 64 ≡ a
details_mapped a b c d small = omega arith

details_transaction : (a b c d : ℕ) → a < 2 ^ 64 → b < 2 ^ 64 → details_code a b c d / 2 ^ 64 % 2 ^ 64 ≡ b
details_transaction a b c d la lb = omega arith

details_created : (a b c d : ℕ) → a < 2 ^ 64 → b < 2 ^ 64 → c < 2 ^ 32 → details_code a b c d / 2 ^ 128 % 2 ^ 32 ≡ c
details_created a b c d la lb lc = omega arith

details_snapped : (a b c d : ℕ) → a < 2 ^ 64 → b < 2 ^ 64 → c < 2 ^ 32 → details_code a b c d / 2 ^ 160 ≡ d
details_snapped a b c d la lb lc = omega arith

-- mappings read back
pub same_mapping : (b t : ℕ) (x : Mapping) → b ≡ x.data_block → t ≡ x.time → ◌≡◌ {A = Mapping} (record { virtual_block = x.virtual_block; data_block = b; time = t }) x
same_mapping b t x block time = rw (block, time) refl

mappings_back : (data_blocks : ℕ) (ms : List Mapping) → AllByRecursion (MappingFits data_blocks) ms
    → map (λ (e : Entry). record { virtual_block = e.key; data_block = mapped_block e.value; time = mapped_time e.value }) (mapping_items ms) ≡ ms
unfolding mapping_items
mappings_back data_blocks [] all = refl
mappings_back data_blocks (x ∷ ms) all =
    let small = all.0.2 in
    ap₂ (λ (y : Mapping) (rest : List Mapping). y ∷ rest)
    (same_mapping (mapped_block (mapping_code x.data_block x.time)) (mapped_time (mapping_code x.data_block x.time)) x (omega arith) (omega arith))
    (mappings_back data_blocks ms all.1)

same_device : (a b c s : ℕ) (mappings : List Mapping) (leaves : List (List Mapping)) (d : ShapeDevice) → a ≡ d.mapped → b ≡ d.transaction → c ≡ d.created → s ≡ d.snapped
    → mappings ≡ flat_map (piece_mappings leaves) d.pieces
    → ◌≡◌ {A = ThinDevice} (record { id = d.id; mapped = a; transaction = b; created = c; snapped = s; mappings = mappings }) (device_of leaves d)
same_device a b c s mappings leaves d mapped transaction created snapped maps = rw (mapped, transaction, created, snapped, maps) refl

abbrev pub AreFound : List ShapeDevice → List ShapeDevice → Type 0
AreFound all ds = AllByRecursion (IsFound (λ (d : ShapeDevice). d.id) details_value all) ds

-- the devices read back
pub devices_back : (graph : Graph) (image : List (List ℕ)) (t : Tree) (leaves : List (List Mapping)) (data_blocks place : ℕ) (all ds : List ShapeDevice)
    → AllByRecursion (DeviceFits data_blocks leaves) ds → AreRead graph image t leaves place ds → AreFound all ds
    → map (thin_device graph image (details_items all)) (top_items t (map mapping_items leaves) place ds) ≡ map (device_of leaves) ds
unfolding thin_device details_items top_items
devices_back graph image t leaves data_blocks place all [] fit read found = refl
devices_back graph image t leaves data_blocks place all (d ∷ ds) fit read found =
    let is = fit.0 in
    let a = is.mapped_fits in
    let b = is.transaction_fits in
    let c = is.created_fits in
    let value : unwrap_or (value_of_key (details_items all) d.id) 0 ≡ details_value d = ap (λ (o : Option ℕ). unwrap_or o 0) found.0.1 in
    let stored = unwrap_or (value_of_key (details_items all) d.id) 0 in
    let back = ap (map (λ (e : Entry). record { virtual_block = e.key; data_block = mapped_block e.value; time = mapped_time e.value })) read.0
    ∙ mappings_back data_blocks (flat_map (piece_mappings leaves) d.pieces) (mappings_fit data_blocks 0 (flat_map (piece_mappings leaves) d.pieces) is.mappings_are) in
    let here = same_device (mapped_number stored) (stored / 2 ^ 64 % 2 ^ 64) (stored / 2 ^ 128 % 2 ^ 32) (stored / 2 ^ 160) _ leaves d
    (ap mapped_number value ∙ details_mapped d.mapped d.transaction d.created d.snapped a)
    (ap (λ (v : ℕ). v / 2 ^ 64 % 2 ^ 64) value ∙ details_transaction d.mapped d.transaction d.created d.snapped a b)
    (ap (λ (v : ℕ). v / 2 ^ 128 % 2 ^ 32) value ∙ details_created d.mapped d.transaction d.created d.snapped a b c)
    (ap (λ (v : ℕ). v / 2 ^ 160) value ∙ details_snapped d.mapped d.transaction d.created d.snapped a b c) back in
    ap₂ (λ (x : ThinDevice) (rest : List ThinDevice). x ∷ rest) here
    (devices_back graph image t leaves data_blocks (place + length (laid_device t (map mapping_items leaves) place d)) all ds fit.1 read.1 found.1)

-- the number of mappings in each device's details is that of its entries
pub mapped_holds : (graph : Graph) (image : List (List ℕ)) (t : Tree) (leaves : List (List Mapping)) (data_blocks place : ℕ) (all ds : List ShapeDevice)
    → AllByRecursion (DeviceFits data_blocks leaves) ds → AreRead graph image t leaves place ds → AreFound all ds
    → AllByRecursion (λ (t : WholeTest). t.fails ≡ false)
    (flat_map (λ (top : Entry).
    map (λ (details : Entry). record {
      block = top.value;
      rule = r.Mapped;
      fails = not (nat_eq (mapped_number details.value) (length (mapping_entries graph image top.value)));
    })
    (filter (λ (details : Entry). nat_eq details.key top.key) (details_items all)))
    (top_items t (map mapping_items leaves) place ds))
unfolding details_items top_items
mapped_holds graph image t leaves data_blocks place all [] fit read found = tt
mapped_holds graph image t leaves data_blocks place all (d ∷ ds) fit read found =
    let is = fit.0 in
    let ms = flat_map (piece_mappings leaves) d.pieces in
    let number = details_mapped d.mapped d.transaction d.created d.snapped is.mapped_fits
    ∙ (is.mapped_is ∙ (sym (length-items ms) ∙ sym (ap length read.0))) in
    rw found.0.0
    (not_from_true _ (eq-eqb _ _ number), mapped_holds graph image t leaves data_blocks (place + length (laid_device t (map mapping_items leaves) place d)) all ds fit.1 read.1 found.1)
