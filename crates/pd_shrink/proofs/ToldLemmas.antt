-- A shape's shared leaves and own pieces name the data blocks that its meaning does.
use Rattle.std.proofs.Common.{◌≡◌, ◌⊎◌, inl, inr, ℕ, zero, suc, ◌<◌, Bool, true, eqb, List, [], ◌∷◌, ◌++◌, length, map, sym, subst, arith}
use Rattle.std.specs.List.{flat_map, list_any}
use Rattle.std.proofs.lemmas.Bool.{eqb-true, or_cases, true≢false}
use Rattle.std.proofs.lemmas.List.{map-append}
use Rattle.pd_kinds.specs.Meaning.{Mapping, ThinDevice}
use Rattle.pd_kinds.proofs.NumberLemmas.{same_test}
use Rattle.pd_grammar.specs.Need.{mapped_data}
use Rattle.pd_laid.specs.Shape.{IsShape, Piece, own, shared, ShapeDevice, ThinShape, device_of, leaf_mappings, piece_mappings, pool_of, uses_of, uses_of_piece}
use Rattle.pd_laid.specs.PoolText.{own_mappings, shape_data}
use Rattle.pd_laws_laid.proofs.ListLemmas.{any_back, any_both, any_front}

module _ (b : ℕ) where
  -- whether a data block is one of these, and whether mappings name it
  abbrev is_in : List ℕ → Bool
  is_in ds = list_any (λ d. eqb d b) ds

  abbrev data_of : List Mapping → List ℕ
  data_of ms = map (λ (x : Mapping). x.data_block) ms

  abbrev IsNamed : List Mapping → Type 0
  IsNamed ms = is_in (data_of ms) ≡ true

  front : (ms ns : List Mapping) → IsNamed ms → IsNamed (ms ++ ns)
  front ms ns named = rw (map-append (λ (x : Mapping). x.data_block) ms ns) (any_front (λ d. eqb d b) (data_of ms) (data_of ns) named)

  back : (ms ns : List Mapping) → IsNamed ns → IsNamed (ms ++ ns)
  back ms ns named = rw (map-append (λ (x : Mapping). x.data_block) ms ns) (any_back (λ d. eqb d b) (data_of ms) (data_of ns) named)

  either : (ms ns : List Mapping) → IsNamed (ms ++ ns) → IsNamed ms ⊎ IsNamed ns
  either ms ns named = any_both (λ d. eqb d b) (data_of ms) (data_of ns) (rw (map-append (λ (x : Mapping). x.data_block) ms ns) at named)

  abbrev all_of : List (List Mapping) → List Mapping
  all_of leaves = flat_map (λ (ms : List Mapping). ms) leaves

  abbrev own_of : List ShapeDevice → List Mapping
  own_of ds = flat_map (λ (d : ShapeDevice). flat_map own_mappings d.pieces) ds

  abbrev mapped : List (List Mapping) → List ShapeDevice → List ℕ
  mapped leaves ds = flat_map (λ (d : ThinDevice). data_of d.mappings) (map (device_of leaves) ds)

  -- what a leaf names, and what a piece and a device name, is told
  leaf_told : (leaves : List (List Mapping)) (number : ℕ) → IsNamed (leaf_mappings leaves number) → IsNamed (all_of leaves)
  leaf_told [] number named = named
  leaf_told (ms ∷ leaves) zero named = front ms (all_of leaves) named
  leaf_told (ms ∷ leaves) (suc number) named = back ms (all_of leaves) (leaf_told leaves number named)

  pieces_told : (leaves : List (List Mapping)) (pieces : List Piece) → IsNamed (flat_map (piece_mappings leaves) pieces)
      → IsNamed (flat_map own_mappings pieces) ⊎ IsNamed (all_of leaves)
  pieces_told leaves [] named = inl named
  pieces_told leaves (own ms ∷ pieces) named = elim (either ms (flat_map (piece_mappings leaves) pieces) named) [
    | inl here ↦ inl (front ms (flat_map own_mappings pieces) here)
    | inr later ↦ elim (pieces_told leaves pieces later) [
      | inl told ↦ inl (back ms (flat_map own_mappings pieces) told)
      | inr told ↦ inr told
    ]
  ]
  pieces_told leaves (shared number ∷ pieces) named = elim (either (leaf_mappings leaves number) (flat_map (piece_mappings leaves) pieces) named) [
    | inl here ↦ inr (leaf_told leaves number here)
    | inr later ↦ pieces_told leaves pieces later
  ]

  devices_told : (leaves : List (List Mapping)) (ds : List ShapeDevice) → is_in (mapped leaves ds) ≡ true → IsNamed (own_of ds) ⊎ IsNamed (all_of leaves)
  devices_told leaves [] named = inl named
  devices_told leaves (d ∷ ds) named = elim (any_both (λ d. eqb d b) (data_of (flat_map (piece_mappings leaves) d.pieces)) (mapped leaves ds) named) [
    | inl here ↦ elim (pieces_told leaves d.pieces here) [
      | inl told ↦ inl (front (flat_map own_mappings d.pieces) (own_of ds) told)
      | inr told ↦ inr told
    ]
    | inr later ↦ elim (devices_told leaves ds later) [
      | inl told ↦ inl (back (flat_map own_mappings d.pieces) (own_of ds) told)
      | inr told ↦ inr told
    ]
  ]

  -- what own pieces name is mapped
  pieces_own : (leaves : List (List Mapping)) (pieces : List Piece) → IsNamed (flat_map own_mappings pieces) → IsNamed (flat_map (piece_mappings leaves) pieces)
  pieces_own leaves [] told = told
  pieces_own leaves (own ms ∷ pieces) told = elim (either ms (flat_map own_mappings pieces) told) [
    | inl here ↦ front ms (flat_map (piece_mappings leaves) pieces) here
    | inr later ↦ back ms (flat_map (piece_mappings leaves) pieces) (pieces_own leaves pieces later)
  ]
  pieces_own leaves (shared number ∷ pieces) told = back (leaf_mappings leaves number) (flat_map (piece_mappings leaves) pieces) (pieces_own leaves pieces told)

  devices_own : (leaves : List (List Mapping)) (ds : List ShapeDevice) → IsNamed (own_of ds) → is_in (mapped leaves ds) ≡ true
  devices_own leaves [] told = told
  devices_own leaves (d ∷ ds) told = elim (either (flat_map own_mappings d.pieces) (own_of ds) told) [
    | inl here ↦ any_front (λ d. eqb d b) (data_of (flat_map (piece_mappings leaves) d.pieces)) (mapped leaves ds) (pieces_own leaves d.pieces here)
    | inr later ↦ any_back (λ d. eqb d b) (data_of (flat_map (piece_mappings leaves) d.pieces)) (mapped leaves ds) (devices_own leaves ds later)
  ]

  -- a leaf that names it
  record IsLeafNaming (leaves : List (List Mapping)) : Type 0 where
    number : ℕ
    within : number < length leaves
    names : IsNamed (leaf_mappings leaves number)

  leaf_naming : (leaves : List (List Mapping)) → IsNamed (all_of leaves) → IsLeafNaming leaves
  leaf_naming [] told = absurd (true≢false (sym told))
  leaf_naming (ms ∷ leaves) told = elim (either ms (all_of leaves) told) [
    | inl here ↦ record { number = 0; within = omega arith; names = here }
    | inr later ↦
        let found = leaf_naming leaves later in
        let less = found.within in
        record { number = suc found.number; within = omega arith; names = found.names }
  ]

  -- a leaf that is used is mapped
  abbrev IsUse : ℕ → List ℕ → Type 0
  IsUse number uses = list_any (λ used. eqb used number) uses ≡ true

  pieces_use : (leaves : List (List Mapping)) (number : ℕ) (pieces : List Piece) → IsUse number (flat_map uses_of_piece pieces) → IsNamed (leaf_mappings leaves number)
      → IsNamed (flat_map (piece_mappings leaves) pieces)
  pieces_use leaves number [] is_use named = absurd (true≢false (sym is_use))
  pieces_use leaves number (own ms ∷ pieces) is_use named = back ms (flat_map (piece_mappings leaves) pieces) (pieces_use leaves number pieces is_use named)
  pieces_use leaves number (shared k ∷ pieces) is_use named = elim (or_cases (eqb k number) (list_any (λ used. eqb used number) (flat_map uses_of_piece pieces)) is_use) [
    | inl here ↦
        front (leaf_mappings leaves k) (flat_map (piece_mappings leaves) pieces)
        (subst (λ (n : ℕ). IsNamed (leaf_mappings leaves n)) (sym (eqb-true k number here)) named)
    | inr later ↦ back (leaf_mappings leaves k) (flat_map (piece_mappings leaves) pieces) (pieces_use leaves number pieces later named)
  ]

  devices_use : (leaves : List (List Mapping)) (number : ℕ) (ds : List ShapeDevice) → IsUse number (flat_map uses_of ds) → IsNamed (leaf_mappings leaves number)
      → is_in (mapped leaves ds) ≡ true
  devices_use leaves number [] is_use named = absurd (true≢false (sym is_use))
  devices_use leaves number (d ∷ ds) is_use named = elim (any_both (λ used. eqb used number) (uses_of d) (flat_map uses_of ds) is_use) [
    | inl here ↦ any_front (λ d. eqb d b) (data_of (flat_map (piece_mappings leaves) d.pieces)) (mapped leaves ds) (pieces_use leaves number d.pieces here named)
    | inr later ↦ any_back (λ d. eqb d b) (data_of (flat_map (piece_mappings leaves) d.pieces)) (mapped leaves ds) (devices_use leaves number ds later named)
  ]

  pub told_names : (w : ThinShape) → IsShape w → is_in (mapped_data (pool_of w)) ≡ is_in (shape_data w)
  unfolding pool_of shape_data
  told_names w shape = same_test (is_in (mapped w.leaves w.devices)) (is_in (data_of (all_of w.leaves ++ own_of w.devices))) there back'
    where
      there : is_in (mapped w.leaves w.devices) ≡ true → IsNamed (all_of w.leaves ++ own_of w.devices)
      there named = elim (devices_told w.leaves w.devices named) [
        | inl told ↦ back (all_of w.leaves) (own_of w.devices) told
        | inr told ↦ front (all_of w.leaves) (own_of w.devices) told
      ]

      back' : IsNamed (all_of w.leaves ++ own_of w.devices) → is_in (mapped w.leaves w.devices) ≡ true
      back' told = elim (either (all_of w.leaves) (own_of w.devices) told) [
        | inl leaf ↦ let found = leaf_naming w.leaves leaf in devices_use w.leaves found.number w.devices (shape.used found.number found.within) found.names
        | inr mine ↦ devices_own w.leaves w.devices mine
      ]
