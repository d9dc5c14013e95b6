-- What is saved of a pool whose superblock has no fault is lawful.
use Rattle.std.proofs.Common.{◌≡◌, inl, inr, ℕ, zero, suc, ◌+◌, ◌*◌, ◌^◌, ◌<◌, ◌≤◌, Bool, false, ◌||◌, nat_lt, List, [], ◌∷◌, ◌++◌, length, get_or, filter, refl, arith, not, nat_eq, map, max, true, fold, ap, subst}
use Rattle.std.specs.List.{AllByRecursion, range_with_len, All, flat_map}
use Rattle.std.proofs.lemmas.Bool.{cases_Bool, cases_lt, lt-ltb, le-ltb, or_parts, cond_both}
use Rattle.std.proofs.lemmas.List.{length-append, length-map}
use Rattle.std.proofs.lemmas.List.Sums.{count_by-le-length, length-filter}
use Rattle.std.proofs.lemmas.List.FromFn.{length-map-range_with_len}
use Rattle.std.specs.Option.{unwrap_or}
use Rattle.std.proofs.lemmas.List.Elements.{All-replicate}
use Rattle.pd_kinds.specs.declared.limits.TheConstants.{MAX_META_BLOCKS}
use Rattle.pd_kinds.specs.Graph.{is_outside, block_at}
use Rattle.pd_kinds.specs.Layout.{leaf_entries, node_entries_of, graph_of}
use Rattle.pd_kinds.specs.Node.{Entry, child_at, entry_count, is_inner_node, key_at, node_entries, value_at, are_flags_bad, is_shape_bad}
use Rattle.pd_kinds.proofs.FieldLemmas.{le-lt}
use Rattle.pd_kinds.proofs.ListLemmas.{all_flat_map, all_map, all_of, all_append}
use Rattle.pd_kinds.proofs.SoundLemmas.{inside_from}
use Rattle.pd_kinds.specs.Image.{HasBytes}
use Rattle.pd_kinds.specs.declared.kind.Kind.TheVariants.{Thin}
use Rattle.pd_kinds.specs.Meaning.{Mapping, ThinDevice, ThinPool}
use Rattle.pd_kinds.specs.Stages.{HasCleanSuper, faults, thin_checked}
use Rattle.pd_kinds.specs.ThinFormat.{mapped_block, mapped_time, ThinFields, thin_fields}
use Rattle.pd_kinds.specs.Trees.{value_of_key}
use Rattle.pd_kinds.specs.Field.{details_code}
use Rattle.pd_kinds.proofs.CleanLemmas.{clean_super_where_none}
use Rattle.pd_kinds.proofs.ThinTable.{few_data_blocks, super_sound}
use Rattle.pd_kinds.specs.declared.kind.Stage.TheVariants as stages
use Rattle.pd_grammar.specs.Lawful.{AreDevices, AreMappings, IsDevice, IsLawfulPool}
use Rattle.pd_laid.specs.Salvage.{child_high, child_low, salvaged_below, salvaged_entries, is_damaged, salvaged_details, salvaged_device, salvaged_mappings, salvage, salvage_from}
use Rattle.pd_laid.specs.Saved.{ContainsEntry}
use Rattle.pd_laid.specs.FoundRoots.{AreBest, FoundRoots, are_fitting, found_pool, lost_graph, roots_at, times_of}
use Rattle.pd_salvage.proofs.AscendLemmas.{AreAscending, give_ascends}
use Rattle.pd_scan.specs.Pairs.{lost_fields}
use Rattle.pd_laws_answers.proofs.WordLemmas.{field_fits, first_whole}
use Rattle.pd_laws_answers.specs.Search.{DoNumbersFit}

-- The entries that are given of a damaged tree are no more than its leaves have, and their values fit their size.

-- what holds of all holds of those that pass a test
all_kept : {X : Type 0} (P : X → Type 0) (p : X → Bool) (xs : List X) → AllByRecursion P xs → AllByRecursion P (filter p xs)
all_kept P p [] all = tt
all_kept P p (x ∷ xs) all = elim (cases_Bool (p x)) [
  | inl passes ↦ rw passes (all.0, all_kept P p xs all.1)
  | inr fails ↦ rw fails (all_kept P p xs all.1)
]

-- what holds of the entries of all leaves holds of those that are given
module _ (P : Entry → Type 0) (size nr : ℕ) (image : List (List ℕ)) (each : (place : ℕ) → place < nr → AllByRecursion P (leaf_entries size (block_at image place))) where
  pub give_all : (j place low high : ℕ) → AllByRecursion P (salvaged_below size nr image j place low high)
  unfolding salvaged_below
  give_all zero place low high = tt
  give_all (suc j) place low high = elim (cases_Bool (is_outside nr place || is_damaged size place (block_at image place))) [
    | inl out ↦ rw out tt
    | inr sound ↦
        let inside = inside_from nr place (or_parts (is_outside nr place) (is_damaged size place (block_at image place)) sound).0 in
        elim (cases_Bool (is_inner_node (block_at image place))) [
          | inl inner ↦ rw (sound, inner)
              (all_flat_map _ P (range_with_len 0 (entry_count size (block_at image place)))
              (all_of _ (λ i. give_all j (child_at (block_at image place) i) (child_low (block_at image place) low i) (child_high size (block_at image place) high i))
              (range_with_len 0 (entry_count size (block_at image place)))))
          | inr leaf ↦ rw (sound, leaf) (all_kept P _ (leaf_entries size (block_at image place)) (each place inside.1))
        ]
  ]

-- the entries of a leaf are few, and their values fit their size
module _ (size : ℕ) (block : List ℕ) (bytes : (i : ℕ) → get_or block i 0 < 256) where
  few_entries : entry_count size block ≤ 2 ^ 32
  unfolding entry_count
  few_entries =
      let number : node_entries block < 256 ^ 4 = le-lt block 16 4 bytes in
      cond_both (are_flags_bad block || is_shape_bad size block) 0 (node_entries block) (λ n. n ≤ 2 ^ 32) (λ bad. omega arith) (λ sound. omega arith)

  few_in_leaf : length (leaf_entries size block) ≤ 2 ^ 32
  unfolding leaf_entries node_entries_of
  few_in_leaf =
      let number = length-map-range_with_len {X = Entry} (λ i. record { key = key_at block i; value = value_at size block i }) 0 (entry_count size block) in
      cond_both (is_inner_node block) [] _ (λ (es : List Entry). length es ≤ 2 ^ 32) (λ inner. omega arith) (λ leaf. omega (arith, number, few_entries))

  pub values_fit : AllByRecursion (λ (e : Entry). e.value < 256 ^ size) (leaf_entries size block)
  unfolding leaf_entries node_entries_of
  values_fit =
      cond_both (is_inner_node block) [] _ (AllByRecursion (λ (e : Entry). e.value < 256 ^ size)) (λ inner. tt)
      (λ leaf. all_map _ (λ (e : Entry). e.value < 256 ^ size) (λ i. le-lt block _ size bytes) (range_with_len 0 (entry_count size block)))

-- the entries of all leaves below a place
abbrev all_leaves : ℕ → List (List ℕ) → ℕ → List Entry
all_leaves size image zero = []
all_leaves size image (suc n) = leaf_entries size (block_at image n) ++ all_leaves size image n

few_in_leaves : (size : ℕ) (image : List (List ℕ)) (n : ℕ) → HasBytes image → length (all_leaves size image n) ≤ n * 2 ^ 32
few_in_leaves size image zero bytes = omega arith
few_in_leaves size image (suc n) bytes =
    omega (arith, length-append (leaf_entries size (block_at image n)) (all_leaves size image n), few_in_leaf size (block_at image n) (bytes n), few_in_leaves size image n bytes)

-- one of two lists has it
has_first : (xs ys : List Entry) (e : Entry) → ContainsEntry xs e → ContainsEntry (xs ++ ys) e
has_first [] ys e has = absurd has
has_first (x ∷ xs) ys e (inl here) = inl here
has_first (x ∷ xs) ys e (inr later) = inr (has_first xs ys e later)

has_last : (xs ys : List Entry) (e : Entry) → ContainsEntry ys e → ContainsEntry (xs ++ ys) e
has_last [] ys e has = has
has_last (x ∷ xs) ys e has = inr (has_last xs ys e has)

in_leaves : (size : ℕ) (image : List (List ℕ)) (n place : ℕ) (e : Entry) → place < n → ContainsEntry (leaf_entries size (block_at image place)) e → ContainsEntry (all_leaves size image n) e
in_leaves size image zero place e within has = absurd (omega arith)
in_leaves size image (suc n) place e within has = elim (cases_lt place n) [
  | inl before ↦ has_last (leaf_entries size (block_at image n)) _ e (in_leaves size image n place e before has)
  | inr here ↦ let same : place ≡ n = omega arith in has_first (leaf_entries size (block_at image n)) _ e (rw same at has)
]

-- each entry is one of all
all_has : (all es : List Entry) → ((e : Entry) → ContainsEntry es e → ContainsEntry all e) → AllByRecursion (ContainsEntry all) es
all_has all [] each = tt
all_has all (e ∷ es) each = (each e (inl refl), all_has all es (λ x has. each x (inr has)))

-- entries past a key
abbrev is_past : ℕ → Entry → Bool
is_past key e = nat_lt key e.key

past_has : (key : ℕ) (us : List Entry) (e : Entry) → key < e.key → ContainsEntry us e → ContainsEntry (filter (is_past key) us) e
past_has key [] e past has = absurd has
past_has key (u ∷ us) e past (inl here) = rw (← here, lt-ltb key e.key past) (inl refl)
past_has key (u ∷ us) e past (inr later) = elim (cases_Bool (is_past key u)) [
  | inl also ↦ rw also (inr (past_has key us e past later))
  | inr other ↦ rw other (past_has key us e past later)
]

past_all : (key low high : ℕ) (es us : List Entry) → key < low → AreAscending low high es → AllByRecursion (ContainsEntry us) es → AllByRecursion (ContainsEntry (filter (is_past key) us)) es
past_all key low high [] us past are all = tt
past_all key low high (e ∷ es) us past are all =
    let first = are.0 in
    (past_has key us e (omega arith) all.0, past_all key (e.key + 1) high es us (omega arith) are.2 all.1)

-- a test keeps no more than there are
pub no_more_kept : (p : Entry → Bool) (us : List Entry) → length (filter p us) ≤ length us
no_more_kept p us = omega (arith, length-filter p us, count_by-le-length p us)

-- those past the key of one are fewer
fewer_past : (us : List Entry) (e : Entry) → ContainsEntry us e → length (filter (is_past e.key) us) + 1 ≤ length us
fewer_past [] e has = absurd has
fewer_past (u ∷ us) e (inl here) =
    let rest = no_more_kept (is_past e.key) us in
    let not_past : is_past e.key u ≡ false = rw (← here) (le-ltb e.key e.key (omega arith)) in
    rw not_past (omega arith)
fewer_past (u ∷ us) e (inr later) = elim (cases_Bool (is_past e.key u)) [
  | inl passes ↦ let rest = fewer_past us e later in rw passes (omega arith)
  | inr fails ↦ let rest = fewer_past us e later in rw fails (omega arith)
]

-- entries whose keys ascend are no more than those that they are of
no_more : (low high : ℕ) (es us : List Entry) → AreAscending low high es → AllByRecursion (ContainsEntry us) es → length es ≤ length us
no_more low high [] us are all = omega arith
no_more low high (e ∷ es) us are all =
    let rest = no_more (e.key + 1) high es (filter (is_past e.key) us) are.2 (past_all e.key (e.key + 1) high es us (omega arith) are.2 all.1) in
    let fewer = fewer_past us e all.0 in
    omega arith

-- so those that are given are few
pub few_given : (size nr : ℕ) (image : List (List ℕ)) (root : ℕ) → HasBytes image → nr ≤ MAX_META_BLOCKS → length (salvaged_entries size nr image root) < 2 ^ 64
unfolding salvaged_entries
few_given size nr image root bytes few =
    let all = give_all (ContainsEntry (all_leaves size image nr)) size nr image
    (λ place within. all_has (all_leaves size image nr) (leaf_entries size (block_at image place)) (λ e has. in_leaves size image nr place e within has)) 64 root 0 (2 ^ 64) in
    let below = no_more 0 (2 ^ 64) (salvaged_below size nr image 64 root 0 (2 ^ 64)) (all_leaves size image nr) (give_ascends size nr image 64 root 0 (2 ^ 64)) all in
    omega (arith, below, few_in_leaves size image nr bytes)

-- mappings at keys that ascend, which are in the pool
abbrev pub mapping_at : Entry → Mapping
mapping_at e = record { virtual_block = e.key; data_block = mapped_block e.value; time = mapped_time e.value }

mappings_are : (blocks least low : ℕ) (es : List Entry) → least ≤ low → AreAscending low (2 ^ 64) es
    → AreMappings blocks least (map mapping_at (filter (λ (e : Entry). nat_lt (mapped_block e.value) blocks) es))
mappings_are blocks least low [] from are = tt
mappings_are blocks least low (e ∷ es) from are =
    let first = are.0 in
    elim (cases_lt (mapped_block e.value) blocks) [
      | inl within ↦ rw (lt-ltb (mapped_block e.value) blocks within)
          (record { above = omega arith; virtual_fits = are.1; within = within; time_fits = omega arith }, mappings_are blocks (e.key + 1) (e.key + 1) es (omega arith) are.2)
      | inr out ↦ rw (le-ltb (mapped_block e.value) blocks out) (mappings_are blocks least (e.key + 1) es (omega arith) are.2)
    ]

-- a value that is found is one of the values
value_fits : (limit id other : ℕ) (es : List Entry) → other < limit → AllByRecursion (λ (e : Entry). e.value < limit) es → unwrap_or (value_of_key es id) other < limit
unfolding value_of_key
value_fits limit id other [] fits all = fits
value_fits limit id other (e ∷ es) fits all = elim (cases_Bool (nat_eq e.key id)) [
  | inl is ↦ rw is all.0
  | inr apart ↦ rw apart (value_fits limit id other es fits all.1)
]

module _ (fields : ThinFields) (image : List (List ℕ)) (bytes : HasBytes image) (few : fields.meta_map.blocks ≤ MAX_META_BLOCKS) (small : fields.transaction < 2 ^ 64)
    (timely : fields.time < 2 ^ 32) where
  mappings_lawful : (root : ℕ) → AreMappings fields.data_map.blocks 0 (salvaged_mappings fields image root)
  unfolding salvaged_mappings salvaged_entries
  mappings_lawful root = mappings_are fields.data_map.blocks 0 0 _ (omega arith) (give_ascends 8 fields.meta_map.blocks image 64 root 0 (2 ^ 64))

  few_mappings : (root : ℕ) → length (salvaged_mappings fields image root) < 2 ^ 64
  unfolding salvaged_mappings
  few_mappings root =
      let es = salvaged_entries 8 fields.meta_map.blocks image root in
      let kept = filter (λ (e : Entry). nat_lt (mapped_block e.value) fields.data_map.blocks) es in
      omega (arith, length-map kept mapping_at, no_more_kept (λ (e : Entry). nat_lt (mapped_block e.value) fields.data_map.blocks) es, few_given 8 fields.meta_map.blocks image root bytes few)

  details_fit : (id : ℕ) → salvaged_details fields image id < 256 ^ 24
  unfolding salvaged_entries
  details_fit id =
      value_fits (256 ^ 24) id (details_code 0 fields.transaction fields.time fields.time) (salvaged_below 24 fields.meta_map.blocks image 64 fields.details_root 0 (2 ^ 64)) (omega arith)
      (give_all (λ (e : Entry). e.value < 256 ^ 24) 24 fields.meta_map.blocks image (λ place within. values_fit 24 (block_at image place) (bytes place)) 64 fields.details_root 0 (2 ^ 64))

  device_is : (least : ℕ) (top : Entry) → least ≤ top.key → top.key < 2 ^ 64 → IsDevice fields.data_map.blocks least (salvaged_device fields image top)
  unfolding salvaged_device
  device_is least top above fits =
      let details = details_fit top.key in
      record {
        above = above;
        id_fits = fits;
        mapped = refl;
        mapped_fits = few_mappings top.value;
        transaction_fits = omega arith;
        created_fits = omega arith;
        snapped_fits = omega arith;
        mappings = mappings_lawful top.value;
      }

  devices_are : (least low : ℕ) (es : List Entry) → least ≤ low → AreAscending low (2 ^ 64) es
      → AreDevices fields.data_map.blocks least (map (salvaged_device fields image) (filter (λ (top : Entry). not (is_outside fields.meta_map.blocks top.value)) es))
  unfolding salvaged_device
  devices_are least low [] from are = tt
  devices_are least low (e ∷ es) from are =
      let first = are.0 in
      elim (cases_Bool (is_outside fields.meta_map.blocks e.value)) [
        | inl out ↦ rw out (devices_are least (e.key + 1) es (omega arith) are.2)
        | inr inside ↦ rw inside (device_is least e (omega arith) are.1, devices_are (e.key + 1) (e.key + 1) es (omega arith) are.2)
      ]

  pub devices_lawful : AreDevices fields.data_map.blocks 0 (salvage_from fields image).devices
  unfolding salvage_from salvaged_entries
  devices_lawful = devices_are 0 0 _ (omega arith) (give_ascends 8 fields.meta_map.blocks image 64 fields.mapping_root 0 (2 ^ 64))

-- what is known of a superblock without faults
pub record HasSoundSizes (image : List (List ℕ)) : Type 0 where
  pub some : 0 < length image
  pub within : (thin_fields (block_at image 0)).meta_map.blocks ≤ length image
  pub few : (thin_fields (block_at image 0)).meta_map.blocks ≤ MAX_META_BLOCKS
  pub few_data : (thin_fields (block_at image 0)).data_map.blocks ≤ 2 ^ 40

sizes_if_clean : (image : List (List ℕ)) → HasCleanSuper (thin_checked image) image → HasSoundSizes image
unfolding thin_checked
sizes_if_clean [] clean = absurd clean
sizes_if_clean (block ∷ blocks) clean =
    let sound = super_sound (length (block ∷ blocks)) block clean in
    record { some = omega arith; within = sound.within; few = sound.few_blocks; few_data = few_data_blocks (length (block ∷ blocks)) block clean }

pub sizes_are : (image : List (List ℕ)) → faults Thin stages.Super image ≡ [] → HasSoundSizes image
unfolding faults
sizes_are image none = sizes_if_clean image (clean_super_where_none (thin_checked image) image [] none)

-- so what is saved is lawful
pub salvage_lawful : (image : List (List ℕ)) → HasBytes image → All (λ block. length block ≡ 4096) image → faults Thin stages.Super image ≡ [] → IsLawfulPool (salvage image)
unfolding salvage_from
salvage_lawful image bytes whole none =
    let block = block_at image 0 in
    let fields = thin_fields block in
    let sizes = sizes_are image none in
    let size = first_whole image 0 sizes.some whole in
    let uuid = field_fits block 16 16 (bytes 0) (omega (arith, size)) in
    record {
      uuid_len = uuid.0;
      uuid_bytes = uuid.1;
      time_fits = le-lt block 44 4 (bytes 0);
      transaction_fits = le-lt block 48 8 (bytes 0);
      block_size_fits = le-lt block 336 4 (bytes 0);
      data_blocks_fit = sizes.few_data;
      devices = devices_lawful fields image bytes sizes.few (le-lt block 48 8 (bytes 0)) (le-lt block 44 4 (bytes 0));
    }

-- The pool of the best roots is lawful.

-- the times of lawful devices fit 32 bits
abbrev DoTimesFit : List ℕ → Type 0
DoTimesFit times = AllByRecursion (λ (t : ℕ). t < 2 ^ 32) times

mapping_times : (blocks least : ℕ) (ms : List Mapping) → AreMappings blocks least ms → DoTimesFit (map (λ (m : Mapping). m.time) ms)
mapping_times blocks least [] are = tt
mapping_times blocks least (m ∷ ms) are =
    let fits = are.0.time_fits in
    (omega arith, mapping_times blocks (m.virtual_block + 1) ms are.1)

device_times : (blocks least : ℕ) (d : ThinDevice) → IsDevice blocks least d → DoTimesFit (times_of d)
device_times blocks least d is = (is.created_fits, (is.snapped_fits, mapping_times blocks 0 d.mappings is.mappings))

pub all_times : (blocks least : ℕ) (ds : List ThinDevice) → AreDevices blocks least ds → DoTimesFit (flat_map times_of ds)
all_times blocks least [] are = tt
all_times blocks least (d ∷ ds) are =
    all_append (λ (t : ℕ). t < 2 ^ 32) (times_of d) (flat_map times_of ds) (device_times blocks least d are.0) (all_times blocks (d.id + 1) ds are.1)

pub latest_fits : (first : ℕ) (times : List ℕ) → first < 2 ^ 32 → DoTimesFit times → fold max first times < 2 ^ 32
latest_fits first [] fits all = fits
latest_fits first (t ∷ times) fits all =
    let here = all.0 in
    latest_fits (max first t) times (omega arith) all.1

-- what is saved from roots that fit each other is what was found
abbrev pub SavesFound : Type 0
SavesFound = (image : List (List ℕ)) (data_blocks transaction block_size : ℕ) (roots : FoundRoots) → HasBytes image
    → are_fitting (lost_graph image data_blocks) image roots.top roots.details ≡ true
    → salvage_from (lost_fields roots transaction block_size (lost_graph image data_blocks).nr data_blocks) image ≡ found_pool (lost_graph image data_blocks) image transaction block_size roots

module _ (saved : SavesFound) (image : List (List ℕ)) (transaction block_size blocks : ℕ) (roots : FoundRoots) (bytes : HasBytes image)
    (fit : DoNumbersFit transaction block_size blocks) (best : AreBest (lost_graph image blocks) image roots) where
  few_blocks : (lost_graph image blocks).nr ≤ MAX_META_BLOCKS
  unfolding lost_graph graph_of
  few_blocks = omega arith

  -- no details are lost, so the devices are the same whatever the pool's time is
  found_devices : AreDevices blocks 0 (found_pool (lost_graph image blocks) image transaction block_size roots).devices
  unfolding found_pool
  found_devices =
      let untimed = record roots { time = 0 } in
      subst (λ (m : ThinPool). AreDevices blocks 0 m.devices) (saved image blocks transaction block_size untimed bytes best.fitting)
      (devices_lawful (lost_fields untimed transaction block_size (lost_graph image blocks).nr blocks) image bytes few_blocks fit.transaction_fits (omega arith))

  time_fits : roots.time < 2 ^ 32
  unfolding roots_at found_pool
  time_fits = rw (ap (λ (r : FoundRoots). r.time) best.numbers) (latest_fits 0 _ (omega arith) (all_times blocks 0 _ found_devices))

  pub found_lawful : IsLawfulPool (found_pool (lost_graph image blocks) image transaction block_size roots)
  unfolding found_pool lost_graph graph_of
  found_lawful = record {
    uuid_len = refl;
    uuid_bytes = All-replicate (λ (b : ℕ). b < 256) 16 0 (omega arith);
    time_fits = time_fits;
    transaction_fits = fit.transaction_fits;
    block_size_fits = fit.block_size_fits;
    data_blocks_fit = fit.blocks_fit;
    devices = found_devices;
  }
