-- What was met of devices, as it is held, is a lawful shape.
use Rattle.std.proofs.Common.{◌≡◌, inl, inr, ℕ, zero, suc, ◌+◌, ◌^◌, ◌<◌, ◌≤◌, Bool, true, cond, nat_eq, nat_lt, get_or, min, List, [], ◌∷◌, length, map, filter, count_by, refl, sym, ap, ◌∙◌, arith, eq-eqb}
use Rattle.std.specs.List.{AllByRecursion, flat_map, list_any, range_with_len}
use Rattle.std.proofs.lemmas.Bool.{cases_Bool, cases_lt, ne_eqb, lt-ltb, le-ltb, ltb-true}
use Rattle.std.proofs.lemmas.List.{length-map, get_or_past}
use Rattle.std.proofs.lemmas.List.Sums.{sum_by-append}
use Rattle.pd_kinds.specs.Meaning.{Mapping}
use Rattle.pd_kinds.specs.ThinFormat.{ThinFields}
use Rattle.pd_grammar.specs.Lawful.{AreDevices, IsLawfulPool}
use Rattle.pd_laid.specs.Shape.{ArePieces, IsShape, ShapeDevice, device_of, pool_of, uses_of}
use Rattle.pd_laid.specs.PoolText.{mappings_of_runs}
use Rattle.pd_meaning_thin.specs.Runs.{spelled}
use Rattle.pd_salvage.specs.Saving.{FitsHead, head_of}
use Rattle.pd_salvage.specs.SavedShape.{HeldShape, IsJoined, IsSavedShape, held, held_shape, leaf_parts}
use Rattle.pd_salvage_shapes.specs.declared.pieces.ShapedDevices.{ShapedDevices}
use Rattle.pd_salvage_shapes.specs.declared.note.LeafNote.{LeafNote}
use Rattle.pd_salvage_shapes.specs.declared.shape.SharedLeaves.{SharedLeaves}
use Rattle.pd_salvage_shapes.specs.declared.tops.Top.{Top}
use Rattle.pd_salvage_shapes.specs.declared.visiting.Seen.{Seen}
use Rattle.pd_salvage_shapes.specs.SeenShape.{AreShaped, shaped_device, shaped_devices, ones_of, seen_shape, shared_of, AreUses, all_mets, leaves_of}
use Rattle.pd_salvage_shapes.specs.Pieces.{AreNumbers, above, IsSharing, is_twice, leaf_maps, leaf_runs, shared_below}
use Rattle.pd_salvage_shapes.specs.Tops.{AreTops}
use Rattle.pd_salvage_shapes.specs.Visiting.{AreNotes, IsSeen, mets_of}
use Rattle.pd_salvage_shapes.proofs.LeafTable.{IsLeaf, all_stand, leaf_few, leaf_joined, leaf_some, mets_true, leaves_append}
use Rattle.pd_salvage_shapes.proofs.SharedLemmas.{none_from}
use Rattle.pd_salvage_shapes.proofs.ShapeLemmas.{mets_are, mets_counted, mets_mean}
use Rattle.pd_laws_shapes.proofs.LeafLemmas.{Ascend, at_place, counted_any, filtered_all, filtered_ascend, filtered_few}

-- two tests that agree keep the same
pub filter_same : (p q : ℕ → Bool) (a n : ℕ) → ((b : ℕ) → a ≤ b → b < a + n → p b ≡ q b) → filter p (range_with_len a n) ≡ filter q (range_with_len a n)
filter_same p q a zero same = refl
filter_same p q a (suc n) same =
    let rest = filter_same p q (a + 1) n (λ b from below. same b (omega arith) (omega arith)) in
    elim (cases_Bool (q a)) [
      | inl kept ↦ rw (same a (omega arith) (omega arith), kept) (ap (λ (xs : List ℕ). a ∷ xs) rest)
      | inr left ↦ rw (same a (omega arith) (omega arith), left) rest
    ]

-- twice or more, by uses and by number
twice_is : (n : ℕ) → nat_eq (min 2 n) 2 ≡ nat_lt 1 n
twice_is n = elim (cases_lt 1 n) [
  | inl more ↦ rw (lt-ltb 1 n more) (eq-eqb (min 2 n) 2 (omega arith))
  | inr few ↦ rw (le-ltb 1 n few) (ne_eqb (min 2 n) 2 (λ same. omega arith))
]

pub ones_are : (blocks : ℕ) (leaves uses : List ℕ) → length uses ≡ blocks → AreUses leaves uses → shared_below uses (length uses) ≡ shared_of blocks leaves
ones_are blocks leaves uses number are =
    rw number (filter_same (is_twice uses) (λ b. nat_lt 1 (count_by (λ c. nat_eq c b) leaves)) 0 blocks (λ b from below.
    ap (λ (n : ℕ). nat_eq n 2) (are b (omega arith)) ∙ twice_is (count_by (λ c. nat_eq c b) leaves)))

-- the numbers of all blocks
pub numbers_are : (uses places : List ℕ) (notes : List LeafNote) (s : SharedLeaves) → IsSharing uses places notes s (length uses) → AreNumbers (shared_below uses (length uses)) s.numbers.items
numbers_are uses places notes s is = λ b. elim (cases_lt b (length uses)) [
  | inl below ↦ is.numbers b below
  | inr past ↦
      let count = is.count in
      get_or_past s.numbers.items b 0 (omega arith) ∙ sym (ap above (none_from uses (length uses) b past))
]

module _ (fields : ThinFields) (places : List ℕ) (notes : List LeafNote) (tops : List Top) (seen : List Seen) (few : fields.meta_map.blocks ≤ 4161600) (small : fields.data_map.blocks ≤ 2 ^ 40)
    (notes_are : AreNotes fields.data_map.blocks places notes) (each : length seen ≡ length tops) (seen_are : AllByRecursion (IsSeen fields.data_map.blocks notes) seen) (tops_are : AreTops 0 tops) where
  abbrev ones : List ℕ
  ones = ones_of fields notes seen

  abbrev pool : ℕ
  pool = fields.data_map.blocks

  abbrev f : ℕ → List Mapping
  f b = leaf_maps places notes b

  abbrev is_one : ℕ → Bool
  is_one b = nat_lt 1 (count_by (λ c. nat_eq c b) (leaves_of (all_mets notes seen)))

  pub one_leaf : (b : ℕ) → is_one b ≡ true → IsLeaf pool places notes notes_are b
  one_leaf b one = all_stand pool places notes notes_are b seen (let twice = ltb-true 1 (count_by (λ c. nat_eq c b) (leaves_of (all_mets notes seen))) one in omega arith)

  ones_all : AllByRecursion (λ b. is_one b ≡ true) ones
  ones_all = filtered_all (λ b. is_one b ≡ true) is_one (λ b is. is) (range_with_len 0 fields.meta_map.blocks)

  few_ones : length ones ≤ fields.meta_map.blocks
  few_ones = filtered_few is_one 0 fields.meta_map.blocks

  ascend : Ascend 0 ones
  ascend = filtered_ascend is_one 0 fields.meta_map.blocks

  -- the leaves have 1 to 252 mappings
  sizes : (xs : List ℕ) → AllByRecursion (λ b. is_one b ≡ true) xs → AllByRecursion (λ (ms : List Mapping). 1 ≤ length ms) (map f xs) × AllByRecursion (λ (ms : List Mapping). length ms ≤ 252) (map f xs)
  sizes [] all = (tt, tt)
  sizes (b ∷ xs) all =
      let leaf = one_leaf b all.0 in
      let rest = sizes xs all.1 in
      ((leaf_some pool places notes notes_are b leaf, rest.0), (leaf_few pool places notes notes_are b leaf, rest.1))

  pub runs_joined : (xs : List ℕ) → AllByRecursion (λ b. is_one b ≡ true) xs → AllByRecursion IsJoined (map (λ b. map spelled (leaf_runs places notes b)) xs)
  runs_joined [] all = tt
  runs_joined (b ∷ xs) all = (leaf_joined pool places notes notes_are b (one_leaf b all.0), runs_joined xs all.1)

  pub all_joined : AllByRecursion IsJoined (map (λ b. map spelled (leaf_runs places notes b)) ones)
  all_joined = runs_joined ones ones_all

  -- the devices
  pieces_are : (ts : List Top) (ds : List Seen) → AllByRecursion (λ (d : ShapeDevice). ArePieces (length ones) d.pieces) (shaped_devices ones notes ts ds)
  pieces_are [] ds = tt
  pieces_are (t ∷ ts) [] = tt
  pieces_are (t ∷ ts) (d ∷ ds) = (mets_are f ones (mets_of notes d.met), pieces_are ts ds)

  devices_are : (least : ℕ) (ts : List Top) (ds : List Seen) → AreTops least ts → AllByRecursion (IsSeen pool notes) ds → AreDevices pool least (map (device_of (map f ones)) (shaped_devices ones notes ts ds))
  devices_are least [] ds tops seen = tt
  devices_are least (t ∷ ts) [] tops seen = tt
  devices_are least (t ∷ ts) (d ∷ ds) tops seen =
      let mean = mets_mean f ones (mets_of notes d.met) (mets_true pool places notes notes_are d.met) in (
        record {
          above = tops.0;
          id_fits = tops.1.id;
          mapped = rw mean seen.0.counted;
          mapped_fits = seen.0.fits;
          transaction_fits = tops.1.transaction;
          created_fits = tops.1.created;
          snapped_fits = tops.1.snapped;
          mappings = rw mean seen.0.lawful;
        },
        devices_are (t.id + 1) ts ds tops.2 seen.1,
      )

  -- the uses of all devices
  module _ (k : ℕ) (within : k < length ones) where
    uses_counted : (ts : List Top) (ds : List Seen) → length ds ≡ length ts
        → count_by (λ used. nat_eq used k) (flat_map uses_of (shaped_devices ones notes ts ds)) ≡ count_by (λ c. nat_eq c (get_or ones k 0)) (leaves_of (all_mets notes ds))
    uses_counted [] [] same = refl
    uses_counted [] (d ∷ ds) same = absurd (omega arith)
    uses_counted (t ∷ ts) [] same = absurd (omega arith)
    uses_counted (t ∷ ts) (d ∷ ds) same =
        let both = sum_by-append (λ used. cond {A = ℕ} (nat_eq used k) 1 0) (uses_of (shaped_device ones notes t d)) (flat_map uses_of (shaped_devices ones notes ts ds)) in
        let all = ap (count_by (λ c. nat_eq c (get_or ones k 0))) (leaves_append (mets_of notes d.met) (all_mets notes ds)) in
        let parts = sum_by-append (λ c. cond {A = ℕ} (nat_eq c (get_or ones k 0)) 1 0) (leaves_of (mets_of notes d.met)) (leaves_of (all_mets notes ds)) in
        let first = mets_counted f ones ascend k within (mets_of notes d.met) in
        let rest = uses_counted ts ds (omega arith) in
        omega (arith, both, all, parts, first, rest)

    used_any : list_any (λ used. nat_eq used k) (flat_map uses_of (shaped_devices ones notes tops seen)) ≡ true
    used_any =
        let twice = ltb-true 1 (count_by (λ c. nat_eq c (get_or ones k 0)) (leaves_of (all_mets notes seen))) (at_place (λ b. is_one b ≡ true) ones k ones_all within) in
        let uses = uses_counted tops seen each in
        counted_any k (flat_map uses_of (shaped_devices ones notes tops seen)) (omega arith)

  pub is_shape : IsShape (seen_shape fields places notes tops seen)
  unfolding seen_shape
  is_shape =
      let number = length-map ones f in
      let most = few_ones in
      let sized = sizes ones ones_all in
      record {
        numbers_fit = omega (arith, number, most, few);
        filled = sized.0;
        few = sized.1;
        pieces = rw number (pieces_are tops seen);
        used = λ k within. used_any k (omega arith);
      }

  pub is_lawful : FitsHead (head_of fields) → IsLawfulPool (pool_of (seen_shape fields places notes tops seen))
  unfolding seen_shape pool_of
  is_lawful fits = record {
    uuid_len = fits.uuid_len;
    uuid_bytes = fits.uuid_bytes;
    time_fits = fits.time;
    transaction_fits = fits.transaction;
    block_size_fits = fits.block_size;
    data_blocks_fit = small;
    devices = devices_are 0 tops seen tops_are seen_are;
  }

  -- as it is held
  module _ (uses : List ℕ) (number : length uses ≡ fields.meta_map.blocks) (uses_are : AreUses (leaves_of (all_mets notes seen)) uses) (s : SharedLeaves) (sharing : IsSharing uses places notes s (length uses))
      (shaped : ShapedDevices) (shapes : AreShaped (shared_below uses (length uses)) notes tops seen shaped) where
    abbrev pub h : HeldShape
    h = held (head_of fields) s.leaves.items s.runs shaped.devices.items shaped.piecing.pieces.items shaped.piecing.runs

    same_ones : shared_below uses (length uses) ≡ ones
    same_ones = ones_are fields.meta_map.blocks (leaves_of (all_mets notes seen)) uses number uses_are

    parts : leaf_parts s.leaves.items s.runs ≡ map (λ b. map spelled (leaf_runs places notes b)) ones
    parts = sharing.leaves ∙ ap (map (λ b. map spelled (leaf_runs places notes b))) same_ones

    leaf_maps_are : (xs : List ℕ) → map mappings_of_runs (map (λ b. map spelled (leaf_runs places notes b)) xs) ≡ map f xs
    leaf_maps_are [] = refl
    leaf_maps_are (b ∷ xs) = ap (λ (ms : List (List Mapping)). f b ∷ ms) (leaf_maps_are xs)

    pub held_is : held_shape h ≡ seen_shape fields places notes tops seen
    unfolding held_shape seen_shape
    held_is =
        rw (parts, leaf_maps_are ones, shapes.means, same_ones) refl

    pub held_sound : FitsHead (head_of fields) → IsSavedShape h
    held_sound fits = record {
      shape = rw held_is is_shape;
      lawful = rw held_is (is_lawful fits);
      counted = sharing.counted;
      leaves_joined = rw parts all_joined;
      joined = shapes.joined;
      leaf_number = sharing.number;
      piece_number = shapes.piece_number;
      number = shapes.number;
    }
