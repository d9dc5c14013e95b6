-- What is made so that sharing is seen in it is lawful, needs as much and is no earlier than what it is made of.
use Rattle.std.proofs.Common.{◌≡◌, inl, inr, ℕ, ◌+◌, ◌-◌, ◌^◌, ◌<◌, ◌≤◌, max, Bool, false, nat_eq, nat_lt, ◌||◌, ◌&&◌, List, [], ◌∷◌, ◌++◌, length, map, filter, refl, sym, ap, subst, arith}
use Rattle.std.specs.List.{AllByRecursion, flat_map}
use Rattle.std.specs.Prelude.{fold, sum_by}
use Rattle.std.proofs.lemmas.Bool.{cases_Bool, cases_eq, le-ltb, ltb-false, ne_eqb, or_parts}
use Rattle.std.proofs.lemmas.List.Sums.{fold-append, sum_by-cons}
use Rattle.pd_kinds.specs.Meaning.{Mapping, ThinDevice, ThinPool}
use Rattle.pd_grammar.specs.Lawful.{AreDevices, AreMappings, IsLawfulPool}
use Rattle.pd_grammar.specs.Need.{mapped_data, thin_need}
use Rattle.pd_laid.specs.FoundRoots.{is_greater, times_of}
use Rattle.pd_laid.specs.Shape.{ArePieces, IsShape, ShapeDevice, ThinShape, device_of, pool_of, uses_of}
use Rattle.pd_laid.specs.PoolText.{IsLawfulShape, LeafCount, leaves_of_pieces, own_mappings, shape_data, shape_need}
use Rattle.pd_answers.specs.Searches.{is_shared, seen_device, seen_pool, seen_shape, seen_shape_device, seen_snap, seen_time}
use Rattle.pd_kept.proofs.BoundLemmas.{Below, below_greatest, greatest_below}
use Rattle.pd_laws_shapes.specs.Counts.{IsSharedTwice}
use Rattle.pd_laws_answers.specs.Search.{state_of}

abbrev past : Mapping → ℕ
past x = x.time + 1

-- A time of a snap fits, as those of mappings do
shared_fit : (places : List ℕ) (blocks least : ℕ) (xs : List Mapping) → AreMappings blocks least xs → Below (2 ^ 32 - 1) (map past (filter (is_shared places) xs))
shared_fit places blocks least [] are = tt
shared_fit places blocks least (x ∷ xs) are = elim (cases_Bool (is_shared places x)) [
  | inl shared ↦ let fits = are.0.time_fits in rw shared (omega (arith, fits), shared_fit places blocks (x.virtual_block + 1) xs are.1)
  | inr alone ↦ rw alone (shared_fit places blocks (x.virtual_block + 1) xs are.1)
]

snap_fits : (places : List ℕ) (blocks : ℕ) (d : ThinDevice) → d.snapped < 2 ^ 32 → AreMappings blocks 0 d.mappings → seen_snap places d < 2 ^ 32
unfolding seen_snap
snap_fits places blocks d fits are =
    let most = greatest_below d.snapped (2 ^ 32 - 1) (map past (filter (is_shared places) d.mappings)) (omega (arith, fits)) (shared_fit places blocks 0 d.mappings are) in
    omega (arith, most)

devices_lawful : (places : List ℕ) (blocks least : ℕ) (ds : List ThinDevice) → AreDevices blocks least ds → AreDevices blocks least (map (seen_device places) ds)
devices_lawful places blocks least [] are = tt
devices_lawful places blocks least (d ∷ ds) are =
    let is = are.0 in (
      record {
        above = is.above;
        id_fits = is.id_fits;
        mapped = is.mapped;
        mapped_fits = is.mapped_fits;
        transaction_fits = is.transaction_fits;
        created_fits = is.created_fits;
        snapped_fits = snap_fits places blocks d is.snapped_fits is.mappings;
        mappings = is.mappings;
      },
      devices_lawful places blocks (d.id + 1) ds are.1,
    )

-- so the pool is lawful
pub seen_pool_lawful : (m : ThinPool) → IsLawfulPool m → IsLawfulPool (seen_pool m)
unfolding seen_pool seen_time
seen_pool_lawful m is =
    let fits = is.time_fits in
    record {
      uuid_len = is.uuid_len;
      uuid_bytes = is.uuid_bytes;
      time_fits = omega (arith, fits);
      transaction_fits = is.transaction_fits;
      block_size_fits = is.block_size_fits;
      data_blocks_fit = is.data_blocks_fit;
      devices = devices_lawful (mapped_data m) m.data_blocks 0 m.devices is.devices;
    }

-- a shape's pool is so where the shape is
devices_mean : (w : ThinShape) (ds : List ShapeDevice) → map (device_of w.leaves) (map (seen_shape_device w) ds) ≡ map (seen_device (mapped_data (pool_of w))) (map (device_of w.leaves) ds)
devices_mean w [] = refl
devices_mean w (d ∷ ds) = ap (λ (rest : List ThinDevice). device_of w.leaves (seen_shape_device w d) ∷ rest) (devices_mean w ds)

pub shape_means : (w : ThinShape) → pool_of (seen_shape w) ≡ seen_pool (pool_of w)
unfolding pool_of seen_shape seen_pool
shape_means w = ap made (devices_mean w w.devices)
  where
    made : List ThinDevice → ThinPool
    made ds = record { uuid = w.uuid; time = seen_time (pool_of w); transaction = w.transaction; block_size = w.block_size; data_blocks = w.data_blocks; devices = ds }

-- its pieces are the same
uses_same : (w : ThinShape) (ds : List ShapeDevice) → flat_map uses_of (map (seen_shape_device w) ds) ≡ flat_map uses_of ds
uses_same w [] = refl
uses_same w (d ∷ ds) = ap (λ (rest : List ℕ). uses_of d ++ rest) (uses_same w ds)

pieces_same : (w : ThinShape) (n : ℕ) (ds : List ShapeDevice) → AllByRecursion (λ (d : ShapeDevice). ArePieces n d.pieces) ds
    → AllByRecursion (λ (d : ShapeDevice). ArePieces n d.pieces) (map (seen_shape_device w) ds)
pieces_same w n [] are = tt
pieces_same w n (d ∷ ds) are = (are.0, pieces_same w n ds are.1)

pub seen_is_shape : (w : ThinShape) → IsShape w → IsShape (seen_shape w)
unfolding seen_shape
seen_is_shape w is = record {
  numbers_fit = is.numbers_fit;
  filled = is.filled;
  few = is.few;
  pieces = pieces_same w (length w.leaves) w.devices is.pieces;
  used = rw (uses_same w w.devices) is.used;
}

pub seen_shape_lawful : (w : ThinShape) → IsLawfulShape w → IsLawfulShape (seen_shape w)
seen_shape_lawful w is = record { shape = seen_is_shape w is.shape; pool = subst IsLawfulPool (sym (shape_means w)) (seen_pool_lawful (pool_of w) is.pool) }

pub shared_twice : (w : ThinShape) → IsSharedTwice w → IsSharedTwice (seen_shape w)
unfolding seen_shape
shared_twice w twice = rw (uses_same w w.devices) twice

-- so it needs as much
mapped_same : (places : List ℕ) (ds : List ThinDevice) → map (λ (d : ThinDevice). d.mapped) (map (seen_device places) ds) ≡ map (λ (d : ThinDevice). d.mapped) ds
mapped_same places [] = refl
mapped_same places (d ∷ ds) = ap (λ (rest : List ℕ). d.mapped ∷ rest) (mapped_same places ds)

abbrev data_of : List ThinDevice → List ℕ
data_of ds = flat_map (λ (d : ThinDevice). map (λ (x : Mapping). x.data_block) d.mappings) ds

data_same : (places : List ℕ) (ds : List ThinDevice) → data_of (map (seen_device places) ds) ≡ data_of ds
data_same places [] = refl
data_same places (d ∷ ds) = ap (λ (rest : List ℕ). map (λ (x : Mapping). x.data_block) d.mappings ++ rest) (data_same places ds)

pub pool_need_same : (m : ThinPool) (room : ℕ) → thin_need (seen_pool m) room ≡ thin_need m room
unfolding seen_pool thin_need
pool_need_same m room = rw (mapped_same (mapped_data m) m.devices, data_same (mapped_data m) m.devices) refl

counts_same : (w : ThinShape) (ds : List ShapeDevice)
    → map (λ (d : ShapeDevice). leaves_of_pieces d.pieces) (map (seen_shape_device w) ds) ≡ map (λ (d : ShapeDevice). leaves_of_pieces d.pieces) ds
counts_same w [] = refl
counts_same w (d ∷ ds) = ap (λ (rest : List LeafCount). leaves_of_pieces d.pieces ∷ rest) (counts_same w ds)

own_same : (w : ThinShape) (ds : List ShapeDevice)
    → flat_map (λ (d : ShapeDevice). flat_map own_mappings d.pieces) (map (seen_shape_device w) ds) ≡ flat_map (λ (d : ShapeDevice). flat_map own_mappings d.pieces) ds
own_same w [] = refl
own_same w (d ∷ ds) = ap (λ (rest : List Mapping). flat_map own_mappings d.pieces ++ rest) (own_same w ds)

pub shape_need_same : (w : ThinShape) (room : ℕ) → shape_need (seen_shape w) room ≡ shape_need w room
unfolding seen_shape shape_need shape_data
shape_need_same w room = rw (uses_same w w.devices, counts_same w w.devices, own_same w w.devices) refl

-- its state is no earlier: only snaps are later
fold_later : (a b : ℕ) (times : List ℕ) → a ≤ b → fold max a times ≤ fold max b times
fold_later a b [] later = later
fold_later a b (t ∷ times) later = fold_later (max a t) (max b t) times (omega (arith, later))

snap_later : (places : List ℕ) (d : ThinDevice) → d.snapped ≤ seen_snap places d
unfolding seen_snap
snap_later places d =
    let shared = map past (filter (is_shared places) d.mappings) in
    (below_greatest d.snapped (fold max d.snapped shared) shared (omega arith)).0

device_later : (places : List ℕ) (a b : ℕ) (d : ThinDevice) → a ≤ b → fold max a (times_of d) ≤ fold max b (times_of (seen_device places d))
device_later places a b d later =
    fold_later (max (max a d.created) d.snapped) (max (max b d.created) (seen_snap places d)) (map (λ (x : Mapping). x.time) d.mappings)
    (omega (arith, later, snap_later places d))

times_later : (places : List ℕ) (a b : ℕ) (ds : List ThinDevice) → a ≤ b → fold max a (flat_map times_of ds) ≤ fold max b (flat_map times_of (map (seen_device places) ds))
times_later places a b [] later = later
times_later places a b (d ∷ ds) later =
    rw (fold-append max a (times_of d) (flat_map times_of ds), fold-append max b (times_of (seen_device places d)) (flat_map times_of (map (seen_device places) ds)))
    (times_later places (fold max a (times_of d)) (fold max b (times_of (seen_device places d))) ds (device_later places a b d later))

transactions_same : (places : List ℕ) (ds : List ThinDevice) → map (λ (d : ThinDevice). d.transaction) (map (seen_device places) ds) ≡ map (λ (d : ThinDevice). d.transaction) ds
transactions_same places [] = refl
transactions_same places (d ∷ ds) = ap (λ (rest : List ℕ). d.transaction ∷ rest) (transactions_same places ds)

sum_same : (f : ThinDevice → ℕ) (places : List ℕ) → ((d : ThinDevice) → f (seen_device places d) ≡ f d) → (ds : List ThinDevice) → sum_by f (map (seen_device places) ds) ≡ sum_by f ds
sum_same f places same [] = refl
sum_same f places same (d ∷ ds) =
    rw (sum_by-cons f (seen_device places d) (map (seen_device places) ds), sum_by-cons f d ds, same d, sum_same f places same ds) refl

greater_later : (s t u : ℕ) (rest : Bool) → t ≤ u → (nat_lt t s || (nat_eq s t && rest)) ≡ false → (nat_lt u s || (nat_eq s u && rest)) ≡ false
greater_later s t u rest later before = elim (cases_eq t u) [
  | inl same ↦ subst (λ (n : ℕ). (nat_lt n s || (nat_eq s n && rest)) ≡ false) same before
  | inr apart ↦
      let low = ltb-false t s (or_parts (nat_lt t s) (nat_eq s t && rest) before).0 in
      rw (le-ltb u s (omega (arith, low, later)), ne_eqb s u (λ same. apart (omega (arith, low, later, same)))) refl
]

later_state : (state : List ℕ) (t u : ℕ) (rest : List ℕ) → t ≤ u → is_greater state (t ∷ rest) ≡ false → is_greater state (u ∷ rest) ≡ false
later_state [] t u rest later before = refl
later_state (s ∷ state) t u rest later before = greater_later s t u (is_greater state rest) later before

pub seen_no_earlier : (state : List ℕ) (m : ThinPool) → is_greater state (state_of m) ≡ false → is_greater state (state_of (seen_pool m)) ≡ false
unfolding seen_pool
seen_no_earlier state m before =
    let places = mapped_data m in
    rw (
      transactions_same places m.devices,
      sum_same (λ (d : ThinDevice). sum_by (λ (x : Mapping). x.time) d.mappings) places (λ d. refl) m.devices,
      sum_same (λ (d : ThinDevice). d.mapped) places (λ d. refl) m.devices,
    ) (later_state state (fold max 0 (flat_map times_of m.devices)) (fold max 0 (flat_map times_of (map (seen_device places) m.devices))) _ (times_later places 0 0 m.devices (omega arith)) before)
