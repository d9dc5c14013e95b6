-- What is kept of a mapping tree, device by device.
use Rattle.std.proofs.Common.{◌≡◌, inl, inr, ℕ, ◌+◌, Bool, not, cond, List, [], ◌∷◌, ◌++◌, length, map, filter, fold, sum_by, Option, Some, None, IfSome, refl, sym, ◌∙◌, ap, ap₂, append_assoc, arith, subst}
use Rattle.std.specs.List.{flat_map}
use Rattle.std.proofs.lemmas.Bool.{cases_Bool}
use Rattle.std.proofs.lemmas.Grind.{flat_map-append}
use Rattle.std.proofs.lemmas.List.{append-nil, length-append, length-map, map-append}
use Rattle.std.proofs.lemmas.List.Sums.{sum_by-append, sum_by-cons}
use Rattle.pd_kinds.specs.Graph.{Graph, is_outside}
use Rattle.pd_kinds.specs.Meaning.{Mapping, ThinDevice}
use Rattle.pd_kinds.specs.Node.{Entry}
use Rattle.pd_kinds.specs.ThinFormat.{ThinFields, mapped_block, mapped_time}
use Rattle.pd_laid.specs.Salvage.{salvage_from, salvaged_device, salvaged_entries, salvaged_mappings, saved_tops}
use Rattle.pd_value.specs.declared.thin.Root.{Root}
use Rattle.pd_tree.specs.Cursor.{item_of, root_of}
use Rattle.pd_measures.specs.Counts.{latest}
use Rattle.pd_measures.specs.Measured.{capped, capped_sum}
use Rattle.pd_answers.specs.DamagedStates.{bare_fields, kept_devices, kept_number, kept_roots}
use Rattle.pd_damaged.specs.declared.remains.Remains.{Remains}
use Rattle.pd_damaged.specs.declared.table.KnownTable.{KnownTable}
use Rattle.pd_damaged.specs.declared.top.KeptTop.{KeptTop}
use Rattle.pd_damaged.specs.Known.{AreKnown, AreRight}
use Rattle.pd_damaged.specs.Kept.{kept_below, measure_of}
use Rattle.pd_damaged.specs.Top.{IsKeptOfTop, device_counted, no_devices, with_device}
use Rattle.pd_damaged.proofs.KeptLemmas.{measure-append, measure-nil}

module _ (nr data_blocks : ℕ) (image : List (List ℕ)) where
  abbrev kept : Entry → List Entry
  kept e = kept_below nr data_blocks image e.value

  -- devices that were counted
  unfoldable pub top_of : List Entry → KeptTop
  top_of es = record { devices = capped (length es); kept = measure_of (flat_map kept es) }

  abbrev inside : Entry → Bool
  inside e = not (is_outside nr e.value)

  top_more : (es : List Entry) (e : Entry) → top_of (es ++ (e ∷ [])) ≡ with_device (top_of es) (measure_of (kept e))
  unfolding top_of
  top_more es e =
      ap₂ (λ (n : ℕ) (all : List Entry). record { devices = n; kept = measure_of all }) (ap capped (length-append es (e ∷ [])) ∙ one (length es))
      (flat_map-append kept es (e ∷ []) ∙ ap (λ (xs : List Entry). flat_map kept es ++ xs) (append-nil (kept e)))
      ∙ ap (λ k. record { devices = capped (capped (length es) + 1); kept = k }) (measure-append (flat_map kept es) (kept e))
    where
      one : (n : ℕ) → capped (n + 1) ≡ capped (capped n + 1)
      one n = omega arith

  top_none : top_of [] ≡ no_devices
  unfolding top_of
  top_none = ap (λ k. record { devices = 0; kept = k }) measure-nil

  counted_from : (before es : List Entry)
      → fold (device_counted nr data_blocks image) (top_of before) (map (item_of root_of) es) ≡ top_of (before ++ filter inside es)
  counted_from before [] = ap top_of (sym (append-nil before))
  counted_from before (e ∷ es) = elim (cases_Bool (is_outside nr e.value)) [
    | inl out ↦ counts out ∙ (counted_from before es ∙ sym (keeps out))
    | inr here ↦
        counts here
        ∙ (ap (λ (sum : KeptTop). fold (device_counted nr data_blocks image) sum (map (item_of root_of) es)) (sym (top_more before e))
        ∙ (counted_from (before ++ (e ∷ [])) es
        ∙ (ap top_of (append_assoc before (e ∷ []) (filter inside es)) ∙ sym (keeps here))))
  ]
    where
      counts : {t : Bool} → is_outside nr e.value ≡ t → fold (device_counted nr data_blocks image) (top_of before) (map (item_of root_of) (e ∷ es))
          ≡ fold (device_counted nr data_blocks image) (cond t (top_of before) (with_device (top_of before) (measure_of (kept e)))) (map (item_of root_of) es)
      counts is =
          ap (λ (t : Bool). fold (device_counted nr data_blocks image) (cond t (top_of before) (with_device (top_of before) (measure_of (kept e)))) (map (item_of root_of) es)) is

      keeps : {t : Bool} → is_outside nr e.value ≡ t → top_of (before ++ filter inside (e ∷ es)) ≡ top_of (before ++ cond (not t) (e ∷ filter inside es) (filter inside es))
      keeps is = ap (λ (t : Bool). top_of (before ++ cond (not t) (e ∷ filter inside es) (filter inside es))) is

  pub devices_counted : (es : List Entry) → fold (device_counted nr data_blocks image) no_devices (map (item_of root_of) es) ≡ top_of (filter inside es)
  devices_counted es =
      ap (λ (sum : KeptTop). fold (device_counted nr data_blocks image) sum (map (item_of root_of) es)) (sym top_none) ∙ counted_from [] es

-- The devices of a salvage, by their entries.
module _ (graph : Graph) (image : List (List ℕ)) (top details : ℕ) where
  abbrev fields : ThinFields
  fields = bare_fields graph top details

  abbrev below : Entry → List Entry
  below e = kept_below graph.nr graph.data_blocks image e.value

  abbrev mapping : Entry → Mapping
  mapping e = record { virtual_block = e.key; data_block = mapped_block e.value; time = mapped_time e.value }

  abbrev device : Entry → ThinDevice
  device e = salvaged_device fields image e

  mappings_are : (e : Entry) → (device e).mappings ≡ map mapping (below e)
  unfolding salvaged_device salvaged_mappings kept_below
  mappings_are e = refl

  number_is : (e : Entry) → (device e).mapped ≡ length (below e)
  unfolding salvaged_device salvaged_mappings kept_below
  number_is e = length-map (below e) mapping

  pub devices_number : (es : List Entry) → kept_number (map device es) ≡ length (flat_map below es)
  devices_number [] = refl
  devices_number (e ∷ es) =
      sum_by-cons (λ (d : ThinDevice). d.mapped) (device e) (map device es)
      ∙ (ap₂ (λ (a b : ℕ). a + b) (number_is e) (devices_number es) ∙ sym (length-append (below e) (flat_map below es)))

  times_made : (es : List Entry) → sum_by (λ (m : Mapping). m.time) (map mapping es) ≡ sum_by (λ (e : Entry). mapped_time e.value) es
  times_made [] = refl
  times_made (e ∷ es) =
      sum_by-cons (λ (m : Mapping). m.time) (mapping e) (map mapping es)
      ∙ (ap (λ (n : ℕ). mapped_time e.value + n) (times_made es) ∙ sym (sum_by-cons (λ (e : Entry). mapped_time e.value) e es))

  pub devices_times : (es : List Entry) → sum_by (λ (d : ThinDevice). sum_by (λ (m : Mapping). m.time) d.mappings) (map device es)
      ≡ sum_by (λ (e : Entry). mapped_time e.value) (flat_map below es)
  devices_times [] = refl
  devices_times (e ∷ es) =
      sum_by-cons (λ (d : ThinDevice). sum_by (λ (m : Mapping). m.time) d.mappings) (device e) (map device es)
      ∙ (ap₂ (λ (a b : ℕ). a + b) (ap (sum_by (λ (m : Mapping). m.time)) (mappings_are e) ∙ times_made (below e)) (devices_times es)
      ∙ sym (sum_by-append (λ (e : Entry). mapped_time e.value) (below e) (flat_map below es)))

  time_made : (es : List Entry) → map (λ (m : Mapping). m.time) (map mapping es) ≡ map (λ (e : Entry). mapped_time e.value) es
  time_made [] = refl
  time_made (e ∷ es) = ap (λ (ts : List ℕ). mapped_time e.value ∷ ts) (time_made es)

  devices_time : (es : List Entry) → flat_map (λ (d : ThinDevice). map (λ (m : Mapping). m.time) d.mappings) (map device es)
      ≡ map (λ (e : Entry). mapped_time e.value) (flat_map below es)
  devices_time [] = refl
  devices_time (e ∷ es) =
      ap₂ (λ (a b : List ℕ). a ++ b) (ap (map (λ (m : Mapping). m.time)) (mappings_are e) ∙ time_made (below e)) (devices_time es)
      ∙ sym (map-append (λ (e : Entry). mapped_time e.value) (below e) (flat_map below es))

  devices_are : kept_devices graph image top details ≡ map device (saved_tops fields image)
  unfolding salvage_from
  devices_are = refl

  -- what was counted of the entries is what is kept
  module _ (es : List Entry) (is : saved_tops fields image ≡ es) where
    pub devices_of : kept_devices graph image top details ≡ map device es
    devices_of = devices_are ∙ ap (map device) is

    pub devices_is : (top_of graph.nr graph.data_blocks image es).devices ≡ capped (length (kept_devices graph image top details))
    unfolding top_of
    devices_is = ap capped (sym (ap (λ (ds : List ThinDevice). length ds) devices_of ∙ length-map es device))

    pub kept_number_is : (top_of graph.nr graph.data_blocks image es).kept.number ≡ capped (kept_number (kept_devices graph image top details))
    unfolding top_of measure_of
    kept_number_is = ap capped (sym (ap kept_number devices_of ∙ devices_number es))

    pub kept_times_is : (top_of graph.nr graph.data_blocks image es).kept.times ≡ capped_sum (kept_roots graph image top details).times
    unfolding top_of measure_of
    kept_times_is =
        ap capped_sum (sym (ap (λ (ds : List ThinDevice). sum_by (λ (d : ThinDevice). sum_by (λ (m : Mapping). m.time) d.mappings) ds) devices_of ∙ devices_times es))

    pub kept_time_is : (top_of graph.nr graph.data_blocks image es).kept.time
        ≡ latest (flat_map (λ (d : ThinDevice). map (λ (m : Mapping). m.time) d.mappings) (kept_devices graph image top details))
    unfolding top_of measure_of
    kept_time_is =
        ap latest (sym (ap (λ (ds : List ThinDevice). flat_map (λ (d : ThinDevice). map (λ (m : Mapping). m.time) d.mappings) ds) devices_of ∙ devices_time es))

pub top_is_kept : (nr data_blocks : ℕ) (image : List (List ℕ)) (top : ℕ) (sum : KeptTop)
    → sum ≡ fold (device_counted nr data_blocks image) no_devices (map (item_of root_of) (salvaged_entries 8 nr image top))
    → (graph : Graph) → graph.nr ≡ nr → graph.data_blocks ≡ data_blocks → IsKeptOfTop graph image top sum
top_is_kept nr data_blocks image top sum is graph numbers pool =
    let es = filter (λ (e : Entry). not (is_outside graph.nr e.value)) (salvaged_entries 8 graph.nr image top) in
    let counted : sum ≡ top_of graph.nr graph.data_blocks image es =
    is
    ∙ (ap₂ (λ (n d : ℕ). fold (device_counted n d image) no_devices (map (item_of root_of) (salvaged_entries 8 n image top))) (sym numbers) (sym pool)
    ∙ devices_counted graph.nr graph.data_blocks image (salvaged_entries 8 graph.nr image top)) in
    record {
      devices = λ details. ap (λ (k : KeptTop). k.devices) counted ∙ devices_is graph image top details es refl;
      number = λ details. ap (λ (k : KeptTop). k.kept.number) counted ∙ kept_number_is graph image top details es refl;
      times = λ details. ap (λ (k : KeptTop). k.kept.times) counted ∙ kept_times_is graph image top details es refl;
      time = λ details. ap (λ (k : KeptTop). k.kept.time) counted ∙ kept_time_is graph image top details es refl;
    }

-- one device more, where the device tells what it holds
pub tops_more : (held : Option (List (List ℕ))) (start now : Remains) (left later : List (List ℕ) → List (ℕ × Root)) (all : List (List ℕ) → KeptTop) (sum new : KeptTop) (id : ℕ) (root : Root)
    → now.table ≡ start.table
    → IfSome held (λ image. AreRight image start → fold (device_counted start.table.nr start.table.data_blocks image) sum (left image) ≡ all image)
    → IfSome held (λ image. left image ≡ (id, root) ∷ later image)
    → IfSome held (λ image. AreRight image now → (i : ℕ) → new ≡ device_counted now.table.nr now.table.data_blocks image sum (i, root))
    → IfSome held (λ image. AreRight image start → fold (device_counted start.table.nr start.table.data_blocks image) new (later image) ≡ all image)
tops_more None start now left later all sum new id root same before next is = tt
tops_more (Some image) start now left later all sum new id root same before next is = λ right.
    let counts = device_counted start.table.nr start.table.data_blocks image in
    let P : KnownTable → Type 0 = λ t. AreKnown image t → (i : ℕ) → new ≡ device_counted t.nr t.data_blocks image sum (i, root) in
    ap (λ (s : KeptTop). fold counts s (later image)) (subst P same is right id) ∙ (ap (fold counts sum) (sym next) ∙ before right)
