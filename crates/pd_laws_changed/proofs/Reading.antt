-- What the devices of a pool read while data blocks are moved, and once they are.
use Rattle.std.proofs.Common.{◌≡◌, inl, inr, ℕ, zero, suc, ◌+◌, ◌*◌, ◌<◌, ◌≤◌, nat_eq, List, [], ◌∷◌, length, map, Option, Some, None, refl, sym, ap, ap₂, ◌∙◌, arith}
use Rattle.std.specs.List.{find, range_with_len, slice_get}
use Rattle.std.specs.Option.{option_and_then, option_map, unwrap_or}
use Rattle.std.proofs.Math.Nat.{mul-le-mul_right, suc-mul}
use Rattle.std.proofs.lemmas.Bool.{cases_Bool}
use Rattle.std.proofs.lemmas.List.FromFn.{get_or-map-range_with_len}
use Rattle.std.proofs.lemmas.Option.{slice_get-get_or, unwrap_or-slice_get}
use Rattle.pd_kinds.specs.Graph.{block_at}
use Rattle.pd_kinds.specs.Meaning.{Mapping, ThinDevice, ThinPool}
use Rattle.pd_answers.specs.Writebacks.{CachedBlock, blocks_each, fast_place, overlaid, overlaid_block, KeepsOthers}
use Rattle.pd_answers.specs.Shrinks.{Move, ReadTheSame, blocks_of_data, copy_of_move, data_after, data_block_of, data_need, mapping_at, moved_device, moved_mapping, moved_pool, moved_to, moves_to, read_at, sources}
use Rattle.pd_laws_changed.proofs.ViewLemmas.{overlaid_keeps}
use Rattle.pd_laws_changed.specs.KnownPool.{AreFree, AreUnnamed}
use Rattle.pd_laws_changed.proofs.LawfulPool.{not_moved, where_is, IsNamed, IsPast, apart_from, each_past, is_named}
use Rattle.pd_laws_changed.proofs.LawfulPool.IsWhere.{stays, goes}

-- two ranges are mapped to the same where each of their numbers is
range_by : {X : Type 0} → (f g : ℕ → X) (a b n : ℕ) → ((j : ℕ) → j < n → f (a + j) ≡ g (b + j)) → map f (range_with_len a n) ≡ map g (range_with_len b n)
range_by f g a b zero same = refl
range_by f g a b (suc n) same =
    let one : a + 0 ≡ a = omega arith in
    let other : b + 0 ≡ b = omega arith in
    ap₂ (λ y ys. y ∷ ys) (sym (ap f one) ∙ (same 0 (omega arith) ∙ ap g other))
    (range_by f g (a + 1) (b + 1) n (λ j below.
    let next : a + 1 + j ≡ a + suc j = omega arith in
    let next_other : b + suc j ≡ b + 1 + j = omega arith in
    ap f next ∙ (same (suc j) (omega arith) ∙ ap g next_other)))

-- a named data block is read the same where only others are written
kept_block : (m : ThinPool) (k d : ℕ) (ds free : List ℕ) (held left : List (List ℕ)) → IsNamed m d → AreUnnamed m free → KeepsOthers k (map copy_of_move (moves_to ds free)) held left
    → map (block_at left) (range_with_len (d * k) k) ≡ map (block_at held) (range_with_len (d * k) k)
kept_block m k d ds free held left named unnamed keeps =
    range_by (block_at left) (block_at held) (d * k) (d * k) k
    (λ j inside. ap (λ (o : Option (List ℕ)). unwrap_or o []) (keeps.others (d * k + j) (not_moved k d j inside ds free (apart_from m d free named unnamed))))

-- while they are moved
pub reads_kept : (m : ThinPool) (ds free : List ℕ) (held left : List (List ℕ)) → AreUnnamed m free
    → KeepsOthers (blocks_each m.block_size) (map copy_of_move (moves_to ds free)) held left → ReadTheSame m held m left
unfolding read_at
reads_kept m ds free held left unnamed keeps id virtual_block = by_block (data_block_of m id virtual_block) refl
  where
    by_block : (o : Option ℕ) → data_block_of m id virtual_block ≡ o → blocks_of_data (blocks_each m.block_size) left o ≡ blocks_of_data (blocks_each m.block_size) held o
    by_block None found = refl
    by_block (Some d) found = kept_block m (blocks_each m.block_size) d ds free held left (is_named m id virtual_block d found) unnamed keeps

-- a block that was copied
copied_block : (k : ℕ) (copies : List CachedBlock) (held : List (List ℕ)) (b p : ℕ) → fast_place k copies b ≡ Some p → b < length held → p < length held
    → block_at (overlaid k copies held held) b ≡ block_at held p
unfolding overlaid
copied_block k copies held b p place within there =
    unwrap_or-slice_get (map (overlaid_block k copies held held) (range_with_len 0 (length held))) b []
    ∙ (get_or-map-range_with_len (overlaid_block k copies held held) 0 (length held) b b [] within (omega arith)
    ∙ (ap (λ (o : Option ℕ). unwrap_or (option_and_then (slice_get held) o) (block_at held b)) place
    ∙ (ap (λ (o : Option (List ℕ)). unwrap_or o (block_at held b)) (slice_get-get_or held p [] there) ∙ sym (unwrap_or-slice_get held p []))))

-- the blocks of a data block whose target lies before it
copied_blocks : (k d t end : ℕ) (copies : List CachedBlock) (held : List (List ℕ)) → t < end → IsPast k end (length held) d
    → ((j : ℕ) → j < k → fast_place k copies (t * k + j) ≡ Some (d * k + j))
    → map (block_at (overlaid k copies held held)) (range_with_len (t * k) k) ≡ map (block_at held) (range_with_len (d * k) k)
copied_blocks k d t end copies held under past places =
    range_by (block_at (overlaid k copies held held)) (block_at held) (t * k) (d * k) k (λ j inside.
    let first = past.past in
    let there = past.there in
    let ends : (d + 1) * k ≡ d * k + k = grind arith in
    let before : suc t * k ≤ d * k = mul-le-mul_right k (let less : suc t ≤ d = omega arith in less) in
    let next : suc t * k ≡ t * k + k = suc-mul t k in
    copied_block k copies held (t * k + j) (d * k + j) (places j inside) (omega arith) (omega arith))

-- the data block that a device of the smaller pool has
moved_mappings : (moves : List Move) (virtual_block : ℕ) (xs : List Mapping)
    → option_map (λ (x : Mapping). x.data_block) (find (λ (x : Mapping). nat_eq x.virtual_block virtual_block) (map (moved_mapping moves) xs))
    ≡ option_map (moved_to moves) (option_map (λ (x : Mapping). x.data_block) (find (λ (x : Mapping). nat_eq x.virtual_block virtual_block) xs))
moved_mappings moves virtual_block [] = refl
moved_mappings moves virtual_block (x ∷ xs) = elim (cases_Bool (nat_eq x.virtual_block virtual_block)) [
  | inl here ↦ rw here refl
  | inr other ↦ rw other (moved_mappings moves virtual_block xs)
]

moved_devices : (moves : List Move) (id virtual_block : ℕ) (ds : List ThinDevice)
    → option_map (λ (x : Mapping). x.data_block) (option_and_then (λ (d : ThinDevice). mapping_at d virtual_block) (find (λ (d : ThinDevice). nat_eq d.id id) (map (moved_device moves) ds)))
    ≡ option_map (moved_to moves) (option_map (λ (x : Mapping). x.data_block) (option_and_then (λ (d : ThinDevice). mapping_at d virtual_block) (find (λ (d : ThinDevice). nat_eq d.id id) ds)))
moved_devices moves id virtual_block [] = refl
moved_devices moves id virtual_block (d ∷ ds) = elim (cases_Bool (nat_eq d.id id)) [
  | inl here ↦ rw here (moved_mappings moves virtual_block d.mappings)
  | inr other ↦ rw other (moved_devices moves id virtual_block ds)
]

moved_data_block : (m : ThinPool) (end : ℕ) (moves : List Move) (id virtual_block : ℕ)
    → data_block_of (moved_pool m end moves) id virtual_block ≡ option_map (moved_to moves) (data_block_of m id virtual_block)
unfolding data_block_of moved_pool
moved_data_block m end moves id virtual_block = moved_devices moves id virtual_block m.devices

-- once they are moved
module _ (m : ThinPool) (end : ℕ) (free : List ℕ) (held : List (List ℕ)) (are_free : AreFree m end free)
    (need : data_need (blocks_each m.block_size) (sources m end) ≤ length held) where
  abbrev k : ℕ
  k = blocks_each m.block_size

  abbrev moves : List Move
  moves = moves_to (sources m end) free

  abbrev after : List (List ℕ)
  after = overlaid k (map copy_of_move moves) held held

  moved_block : (d : ℕ) → IsNamed m d → map (block_at after) (range_with_len (moved_to moves d * k) k) ≡ map (block_at held) (range_with_len (d * k) k)
  moved_block d named = elim (where_is k (IsPast k end (length held)) end 0 d (sources m end) free (each_past m k end (length held) need) are_free.below are_free.ascend) [
    | stays is ↦ rw is (kept_block m k d (sources m end) free held after named are_free.unnamed (overlaid_keeps k held (map copy_of_move moves) held))
    | goes t is past from under places ↦ rw is (copied_blocks k d t end (map copy_of_move moves) held under past places)
  ]

  pub reads_moved : ReadTheSame m held (moved_pool m end moves) (data_after k moves held)
  unfolding read_at data_after moved_pool
  reads_moved id virtual_block =
      ap (λ (o : Option ℕ). blocks_of_data k after o) (moved_data_block m end moves id virtual_block) ∙ by_block (data_block_of m id virtual_block) refl
    where
      by_block : (o : Option ℕ) → data_block_of m id virtual_block ≡ o → blocks_of_data k after (option_map (moved_to moves) o) ≡ blocks_of_data k held o
      by_block None found = refl
      by_block (Some d) found = moved_block d (is_named m id virtual_block d found)
