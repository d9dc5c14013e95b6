-- Of a sound pool each device is told whole.
use Rattle.std.proofs.Common.{◌≡◌, inl, inr, ℕ, ◌+◌, ◌-◌, ◌^◌, Bool, true, false, cond, nat_eq, List, [], ◌∷◌, ◌++◌, map, Some, None, refl, sym, ap, ◌∙◌, arith}
use Rattle.std.specs.Prelude.{unwrap_or}
use Rattle.std.specs.List.{flat_map, list_any}
use Rattle.std.specs.Option.{option_map}
use Rattle.std.proofs.lemmas.Bool.{cases_Bool, both_ways, eqb-true, or_parts}
use Rattle.pd_kinds.specs.declared.kind.Kind.TheVariants.{Thin}
use Rattle.pd_kinds.specs.declared.kind.Stage.TheVariants.{Whole}
use Rattle.pd_kinds.specs.Graph.{Graph, block_at}
use Rattle.pd_kinds.specs.Image.{HasBytes}
use Rattle.pd_kinds.specs.Meaning.{ThinDevice, ThinPool, thin_device, thin_meaning}
use Rattle.pd_kinds.specs.Node.{Entry}
use Rattle.pd_kinds.specs.Stages.{faults}
use Rattle.pd_kinds.specs.Layout.{graph_of, tree}
use Rattle.pd_kinds.specs.ThinFormat.{thin_graph, thin_layout, ThinFields, thin_fields}
use Rattle.pd_kinds.specs.Trees.{keys_of, value_of_key}
use Rattle.pd_kinds.specs.Whole.{details_entries, mapped_number, top_entries}
use Rattle.pd_grammar.specs.Lawful.{IsLawfulPool}
use Rattle.pd_laid.specs.Salvage.{salvage, salvaged_entries}
use Rattle.pd_laid.proofs.NodeFacts.{given_root}
use Rattle.pd_laid.proofs.SalvageLemmas.{details_tree, inside_is}
use Rattle.pd_answers.specs.KeptLines.{kept_line, told_lines}
use Rattle.pd_tree.specs.Cursor.{item_of}
use Rattle.pd_tree.specs.Search.{lookup}
use Rattle.pd_tree.proofs.TreeLemmas.{lookup_entries}
use Rattle.pd_meaning_thin.proofs.LawfulLemmas.{same_keys}
use Rattle.pd_kept.specs.Kept.{line_at, line_of_id, lines_at_all, lines_from, AscendBelow, stored_numbers, stored_word}
use Rattle.pd_kept.proofs.TellingLemmas.{same_from, both_first, lines_over}
use Rattle.pd_kept.proofs.WeighingLemmas.{device_pair, ids_ascend, lines_told}
use Rattle.pd_laws_changed.specs.KnownPool.{IsKnown}
use Rattle.pd_laws_changed.proofs.Pools.{reached_behind}
use Rattle.pd_laws_answers.specs.Saved.{whole_line}

-- whether entries have a key, and the mapped number of the details at a key
abbrev has_key : ℕ → List Entry → Bool
has_key key entries = list_any (λ q. nat_eq q key) (keys_of entries)

abbrev number_at : List Entry → ℕ → ℕ
number_at details key = mapped_number (unwrap_or (value_of_key details key) 0)

-- a number is found exactly at a key that is there
there : (details : List Entry) (key : ℕ) → has_key key details ≡ true → option_map stored_word (value_of_key details key) ≡ Some (number_at details key)
unfolding value_of_key
there [] key has = absurd (both_ways false refl has)
there (e ∷ es) key has = elim (cases_Bool (nat_eq e.key key)) [
  | inl here ↦ rw here refl
  | inr other ↦ rw other (there es key (rw other at has))
]

missing : (details : List Entry) (key : ℕ) → has_key key details ≡ false → option_map stored_word (value_of_key details key) ≡ None
unfolding value_of_key
missing [] key none = refl
missing (e ∷ es) key none = let parts = or_parts (nat_eq e.key key) (has_key key es) none in rw parts.0 (missing es key parts.1)

-- numbers beside the keys of entries
abbrev pairs_of : (ℕ → ℕ) → List Entry → List (ℕ × ℕ)
pairs_of number tops = map (λ (top : Entry). (top.key, number top.key)) tops

looked : (number : ℕ → ℕ) (tops : List Entry) (key : ℕ) → lookup key (pairs_of number tops) ≡ cond (has_key key tops) (Some (number key)) None
unfolding lookup
looked number [] key = refl
looked number (top ∷ tops) key = elim (cases_Bool (nat_eq top.key key)) [
  | inl here ↦ let same = eqb-true top.key key here in rw here (ap (λ (n : ℕ). Some (number n)) same)
  | inr other ↦ rw other (looked number tops key)
]

-- where two trees have the same keys, the numbers of the details are those of the devices
same_numbers : (details tops : List Entry) → keys_of details ≡ keys_of tops → (key : ℕ)
    → lookup key (map (item_of stored_word) details) ≡ lookup key (pairs_of (number_at details) tops)
same_numbers details tops same key =
    lookup_entries stored_word key details
    ∙ (by_key (has_key key tops) refl ∙ sym (looked (number_at details) tops key))
  where
    has_same : has_key key details ≡ has_key key tops
    has_same = ap (list_any (λ q. nat_eq q key)) same

    by_key : (has : Bool) → has_key key tops ≡ has → option_map stored_word (value_of_key details key) ≡ cond (has_key key tops) (Some (number_at details key)) None
    by_key true has = rw has (there details key (has_same ∙ has))
    by_key false has = rw has (missing details key (has_same ∙ has))

device_pairs : (graph : Graph) (image : List (List ℕ)) (details tops : List Entry)
    → map device_pair (map (thin_device graph image details) tops) ≡ pairs_of (number_at details) tops
unfolding thin_device
device_pairs graph image details [] = refl
device_pairs graph image details (top ∷ tops) =
    ap (λ (items : List (ℕ × ℕ)). (top.key, number_at details top.key) ∷ items) (device_pairs graph image details tops)

-- lines of numbers that are looked for in two lists, where the second ones find the same
same_lines : (end from : ℕ) (saved stored other : List (ℕ × ℕ)) → ((key : ℕ) → lookup key stored ≡ lookup key other)
    → lines_from end from saved stored ≡ lines_from end from saved other
unfolding lines_from
same_lines end from saved stored other same =
    same_from (line_at saved stored) (line_at saved other) from (end - from) (λ n after. ap (line_of_id n (lookup n saved)) (same n))

-- all ids are whole
abbrev whole_pair : ℕ × ℕ → List ℕ
whole_pair item = kept_line item.0 item.1 (Some item.1)

whole_lines : (end from : ℕ) (items : List (ℕ × ℕ)) → AscendBelow end from items → lines_from end from items items ≡ flat_map whole_pair items
unfolding lines_from
whole_lines end from [] are = lines_over end from
whole_lines end from (item ∷ items) are =
    both_first end from item.0 item.1 items items are.0 are.1 are.2 are.2 item.1
    ∙ ap (λ (lines : List ℕ). kept_line item.0 item.1 (Some item.1) ++ lines) (whole_lines end (item.0 + 1) items are.2)

whole_devices : (ds : List ThinDevice) → flat_map whole_pair (map device_pair ds) ≡ flat_map whole_line ds
whole_devices [] = refl
whole_devices (d ∷ ds) = ap (λ (lines : List ℕ). whole_line d ++ lines) (whole_devices ds)

module _ (image : List (List ℕ)) (known : IsKnown image) (bytes : HasBytes image) (none : faults Thin Whole image ≡ [])
    (pool : IsLawfulPool (thin_meaning image)) (saved : salvage image ≡ thin_meaning image) where
  abbrev fields : ThinFields
  fields = thin_fields (block_at image 0)

  abbrev details : List Entry
  details = details_entries (thin_graph (block_at image 0)) image fields.details_root

  abbrev pairs : List (ℕ × ℕ)
  pairs = map device_pair (thin_meaning image).devices

  details_is : thin_layout fields.meta_map.blocks fields.data_map.blocks 4 ≡ tree details_tree
  unfolding thin_layout
  details_is = refl

  -- the details that are found are those of the tree
  found : salvaged_entries 24 fields.meta_map.blocks image fields.details_root ≡ details
  unfolding thin_graph graph_of
  found =
      let reached = known.roots.details in
      given_root 11 fields.meta_map.blocks fields.data_map.blocks (thin_layout fields.meta_map.blocks fields.data_map.blocks) image known.ordered details_tree 4 (omega arith) details_is bytes
      fields.details_root reached (inside_is fields.meta_map.blocks fields.details_root (reached_behind image known fields.details_root 2 reached) reached.block)

  numbers_same : (key : ℕ) → lookup key (stored_numbers fields image) ≡ lookup key pairs
  unfolding stored_numbers thin_meaning
  numbers_same key =
      let tops = top_entries (thin_graph (block_at image 0)) image fields.mapping_root in
      ap (λ (entries : List Entry). lookup key (map (item_of stored_word) entries)) found
      ∙ (same_numbers details tops (same_keys image none known.roots.details.block) key
      ∙ sym (ap (lookup key) (device_pairs (thin_graph (block_at image 0)) image details tops)))

  pub told_whole : told_lines fields image ≡ flat_map whole_line (thin_meaning image).devices
  unfolding lines_at_all
  told_whole =
      sym (lines_told fields image)
      ∙ (ap (λ (p : ThinPool). lines_at_all (map device_pair p.devices) (stored_numbers fields image)) saved
      ∙ (same_lines (2 ^ 64) 0 pairs (stored_numbers fields image) pairs numbers_same
      ∙ (whole_lines (2 ^ 64) 0 pairs (ids_ascend (thin_meaning image).data_blocks 0 (thin_meaning image).devices pool.devices)
      ∙ whole_devices (thin_meaning image).devices)))
