-- Rows are entries of two trees with the same keys: each key finds the details beside it.
use Rattle.std.proofs.Common.{inl, inr, ℕ, zero, suc, ◌+◌, ◌<◌, ◌≤◌, List, [], ◌∷◌, ◌++◌, arith, ◌≡◌, Some, map, refl, sym, ap, ◌∙◌, eq-eqb}
use Rattle.std.specs.List.{flat_map, range_with_len, AllByRecursion}
use Rattle.std.proofs.lemmas.Bool.{cases_Bool, ne_eqb}
use Rattle.std.proofs.lemmas.List.{append-nil}
use Rattle.pd_kinds.specs.Node.{entry_count, is_inner_node, key_at, value_at, child_at, Entry}
use Rattle.pd_kinds.specs.Graph.{block_at, Graph}
use Rattle.pd_kinds.specs.ThinFormat.{thin_fields, mapped_block, mapped_time}
use Rattle.pd_kinds.specs.Meaning.{ThinDevice, thin_device, thin_meaning}
use Rattle.pd_kinds.specs.Trees.{keys_of, value_of_key}
use Rattle.pd_kinds.specs.Whole.{mapping_entries}
use Rattle.pd_grammar.specs.Texts.{text_of_lines}
use Rattle.pd_grammar.specs.ThinText.{Line, end_line, first_line, joined_part, joined_runs, lines_of_part, pool_line, text_of_pool, thin}
use Rattle.pd_value.specs.declared.thin.BlockTime.{BlockTime}
use Rattle.pd_value.specs.declared.thin.Root.{Root}
use Rattle.pd_value.specs.declared.thin.Details.{Details}
use Rattle.pd_tree.specs.Below.{items_below}
use Rattle.pd_tree.specs.Search.{AreFrom, AreBelow, IsSearchable, KeysAscend, items_within}
use Rattle.pd_tree.proofs.SearchLemmas.{inner_is, leaf_is}
use Rattle.pd_tree.specs.Cursor.{item_of, root_of}
use Rattle.pd_meaning_thin.specs.declared.devices.DeviceRow.{DeviceRow}
use Rattle.pd_meaning_thin.specs.Runs.{row_of, rows_of, details_of, mapping_of, spelled, mappings_below, runs_below}
use Rattle.pd_meaning_thin.specs.Given.{BlocksFrom, GivesPool, IdsFrom, device_of, pool_rows, row_lines, super_head, super_lines}

-- The keys of a tree's entries ascend where each key is found.

-- keys ascend, the first of them from a number on
abbrev pub KeysFrom : {X : Type 0} → ℕ → List (ℕ × X) → Type 0
KeysFrom least [] = Unit {0}
KeysFrom {X} least (item ∷ items) = (least ≤ item.0) × KeysFrom (item.0 + 1) items

module _ {X : Type 0} where
  from_less : (low least : ℕ) (items : List (ℕ × X)) → low ≤ least → KeysFrom least items → KeysFrom low items
  from_less low least [] less from = tt
  from_less low least (item ∷ items) less from = let first = from.0 in (omega arith, from.1)

  from_more : (low least : ℕ) (items : List (ℕ × X)) → AreFrom low items → KeysFrom least items → KeysFrom low items
  from_more low least [] all from = tt
  from_more low least (item ∷ items) all from = (all.0, from.1)

  from_append : (least high : ℕ) (xs ys : List (ℕ × X)) → KeysFrom least xs → AreBelow high xs → least ≤ high → KeysFrom high ys → KeysFrom least (xs ++ ys)
  from_append least high [] ys front below less back = from_less least high ys less back
  from_append least high (x ∷ xs) ys front below less back =
      let first = below.0 in
      (front.0, from_append (x.0 + 1) high xs ys front.1 below.1 (omega arith) back)

  -- lists in a row, each below the keys of the next one
  from_row : (f : ℕ → List (ℕ × X)) (low : ℕ → ℕ) (n a : ℕ) → ((i : ℕ) → a ≤ i → i < a + n → KeysFrom (low i) (f i))
      → ((i : ℕ) → a ≤ i → i + 1 < a + n → (low i ≤ low (i + 1)) × AreBelow (low (i + 1)) (f i))
      → KeysFrom (low a) (flat_map f (range_with_len a n))
  from_row f low zero a own below = tt
  from_row f low (suc zero) a own below = rw (append-nil (f a)) (own a (omega arith) (omega arith))
  from_row f low (suc (suc n)) a own below =
      let next = below a (omega arith) (omega arith) in
      from_append (low a) (low (a + 1)) (f a) (flat_map f (range_with_len (a + 1) (suc n))) (own a (omega arith) (omega arith)) next.1 next.0
      (from_row f low (suc n) (a + 1) (λ i from to. own i (omega arith) (omega arith)) (λ i from to. below i (omega arith) (omega arith)))

  module _ (size : ℕ) (decoded : ℕ → X) (image : List (List ℕ)) where
    abbrev keys : ℕ → ℕ → ℕ
    keys b = key_at (block_at image b)

    -- a key and the next one of a node
    next_key : (b i : ℕ) → KeysAscend size (block_at image b) → i + 1 < entry_count size (block_at image b) → keys b i < keys b (i + 1)
    unfolding KeysAscend
    next_key b i ascend within = ascend i (i + 1) (omega arith) within

    leaf_ascends : (b : ℕ) → KeysAscend size (block_at image b)
        → KeysFrom 0 (flat_map (λ i. (keys b i, decoded (value_at size (block_at image b) i)) ∷ []) (range_with_len 0 (entry_count size (block_at image b))))
    leaf_ascends b ascend =
        from_less 0 (keys b 0) _ (omega arith)
        (from_row (λ i. (keys b i, decoded (value_at size (block_at image b) i)) ∷ []) (keys b) (entry_count size (block_at image b)) 0
        (λ i from to. (omega arith, tt)) (λ i from to. let next = next_key b i ascend (omega arith) in (omega arith, (next, tt))))

    pub items_ascend : (n b : ℕ) → IsSearchable size decoded image n b → KeysFrom 0 (items_within size decoded image n b)
    unfolding IsSearchable items_within
    items_ascend zero b is = tt
    items_ascend (suc j) b is = elim (cases_Bool (is_inner_node (block_at image b))) [
      | inl inner ↦
          rw (inner_is size decoded image j b inner)
          (from_less 0 (keys b 0) _ (omega arith)
          (from_row (λ i. items_within size decoded image j (child_at (block_at image b) i)) (keys b) (entry_count size (block_at image b)) 0
          (λ i from to.
          from_more (keys b i) 0 (items_within size decoded image j (child_at (block_at image b) i)) (is.1 i inner (omega arith)).0
          (items_ascend j (child_at (block_at image b) i) (is.1 i inner (omega arith)).2))
          (λ i from to.
          let next = next_key b i is.0 (omega arith) in
          (omega arith, (is.1 i inner (omega arith)).1 (omega arith)))))
      | inr leaf ↦ rw (leaf_is size decoded image j b leaf) (leaf_ascends b is.0)
    ]

    -- so do those of a whole tree
    pub tree_ascends : (b : ℕ) → IsSearchable size decoded image 64 b → KeysFrom 0 (items_below size decoded image 63 b)
    unfolding items_within
    tree_ascends b is = items_ascend 64 b is

-- the key of each of these entries finds its own value
abbrev pub FindOwn : List Entry → List Entry → Type 0
FindOwn entries among = AllByRecursion (λ (e : Entry). value_of_key entries e.key ≡ Some e.value) among

later_found : {X : Type 0} → (decoded : ℕ → X) (e : Entry) (least : ℕ) (entries among : List Entry) → e.key < least → KeysFrom least (map (item_of decoded) among)
    → FindOwn entries among → FindOwn (e ∷ entries) among
unfolding value_of_key
later_found decoded e least entries [] above from found = tt
later_found decoded e least entries (x ∷ among) above from found =
    let first = from.0 in
    let other = ne_eqb e.key x.key (λ same. omega arith) in
    (rw other found.0, later_found decoded e (x.key + 1) entries among (omega arith) from.1 found.1)

pub own_found : {X : Type 0} → (decoded : ℕ → X) (least : ℕ) (entries : List Entry) → KeysFrom least (map (item_of decoded) entries) → FindOwn entries entries
unfolding value_of_key
own_found decoded least [] from = tt
own_found decoded least (e ∷ entries) from =
    (rw (eq-eqb e.key e.key refl) refl, later_found decoded e (e.key + 1) entries entries (omega arith) from.1 (own_found decoded (e.key + 1) entries from.1))

module _ (graph : Graph) (image : List (List ℕ)) (all : List Entry) where
  -- the mappings of a device are what is below its root
  abbrev pub HasMappings : Entry → Type 0
  HasMappings top =
      map (λ (e : Entry). record { virtual_block = e.key; data_block = mapped_block e.value; time = mapped_time e.value }) (mapping_entries graph image top.value)
      ≡ mappings_below image top.value

  -- so each device is that of its row
  pub same_devices : (tops details : List Entry) → keys_of details ≡ keys_of tops → FindOwn all details → AllByRecursion HasMappings tops
      → map (thin_device graph image all) tops ≡ map (device_of image) (rows_of (map (item_of root_of) tops) (map (item_of details_of) details))
  unfolding thin_device
  same_devices [] [] keys found have = refl
  same_devices [] (d ∷ details) keys found have = cc
  same_devices (t ∷ tops) [] keys found have = cc
  same_devices (t ∷ tops) (d ∷ details) keys found have =
      let key : d.key ≡ t.key = cc in
      let others : keys_of details ≡ keys_of tops = cc in
      let value : value_of_key all t.key ≡ Some d.value = rw key at found.0 in
      rw (value, have.0, same_devices tops details others found.1 have.1) refl

-- what holds of each root of the entries holds of each root of the rows
pub row_roots : (P : ℕ → Type 0) (tops : List Entry) (details : List (ℕ × Details)) → AllByRecursion (λ (e : Entry). P e.value) tops
    → AllByRecursion (λ (row : DeviceRow). P row.root) (rows_of (map (item_of root_of) tops) details)
row_roots P [] details all = tt
row_roots P (t ∷ tops) [] all = tt
row_roots P (t ∷ tops) (d ∷ details) all = (all.0, row_roots P tops details all.1)

-- what holds of the entries of the two trees, in two ways, holds of the rows
pub all_rows : (P : ℕ × Root → Type 0) (Q : ℕ × Details → Type 0) (R : DeviceRow → Type 0) → ((top : ℕ × Root) (details : ℕ × Details) → P top → Q details → R (row_of (top, details)))
    → (tops : List (ℕ × Root)) (details : List (ℕ × Details)) → AllByRecursion P tops → AllByRecursion Q details → AllByRecursion R (rows_of tops details)
all_rows P Q R both [] details ps qs = tt
all_rows P Q R both (t ∷ tops) [] ps qs = tt
all_rows P Q R both (t ∷ tops) (d ∷ details) ps qs = (both t d ps.0 qs.0, all_rows P Q R both tops details ps.1 qs.1)

-- ids and virtual blocks ascend with the keys
pub ids_ascend : (least : ℕ) (tops : List (ℕ × Root)) (details : List (ℕ × Details)) → KeysFrom least tops → IdsFrom least (rows_of tops details)
ids_ascend least [] details from = tt
ids_ascend least (t ∷ tops) [] from = tt
ids_ascend least (t ∷ tops) (d ∷ details) from = (from.0, ids_ascend (t.0 + 1) tops details from.1)

pub blocks_ascend : (least : ℕ) (items : List (ℕ × BlockTime)) → KeysFrom least items → BlocksFrom least (map mapping_of items)
blocks_ascend least [] from = tt
blocks_ascend least (item ∷ items) from = (from.0, blocks_ascend (item.0 + 1) items from.1)

-- the lines of rows whose runs are given as they are
pub same_lines : (image : List (List ℕ)) (rows : List DeviceRow)
    → AllByRecursion (λ (row : DeviceRow). map spelled (runs_below image row.root) ≡ joined_runs (mappings_below image row.root)) rows
    → flat_map (row_lines image) rows ≡ flat_map lines_of_part (map joined_part (map (device_of image) rows))
same_lines image [] all = refl
same_lines image (row ∷ rows) all = rw (all.0, same_lines image rows all.1) refl

-- the text of given lines
pub text_is : (image : List (List ℕ)) → GivesPool image → text_of_lines thin (super_lines image (thin_fields (block_at image 0))) ≡ text_of_pool (thin_meaning image)
unfolding text_of_pool thin_meaning
text_is image gives =
    let head = super_head (thin_fields (block_at image 0)) in
    let lines = same_lines image (pool_rows image) gives.runs ∙ ap (λ (devices : List ThinDevice). flat_map lines_of_part (map joined_part devices)) (sym gives.devices) in
    ap (λ (lines : List Line). text_of_lines thin (first_line ∷ pool_line head ∷ (lines ++ (end_line ∷ [])))) lines
