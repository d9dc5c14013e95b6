-- The leaves of a tree of mappings, and the mappings in them.
use Rattle.std.proofs.Common.{◌≡◌, ℕ, zero, suc, Bool, true, false, if◌then◌else◌, List, [], ◌∷◌, ◌++◌, Option, Some, None, map, refl, sym, ap, ◌∙◌, append_assoc}
use Rattle.std.specs.List.{flat_map, AllByRecursion}
use Rattle.std.proofs.lemmas.Grind.{flat_map-append}
use Rattle.std.proofs.lemmas.List.{append-nil, map-append}
use Rattle.std.proofs.lemmas.Simd.{map-map}
use Rattle.pd_kinds.specs.Graph.{block_at}
use Rattle.pd_kinds.specs.Meaning.{Mapping}
use Rattle.pd_kinds.specs.Node.{is_inner_node}
use Rattle.pd_kinds.specs.Layout.{leaf_entries}
use Rattle.pd_kinds.proofs.ListLemmas.{all_append, all_flat_map, all_of}
use Rattle.pd_laid.specs.Shape.{mappings_in, pieces_of, with_leaf, with_own}
use Rattle.pd_laid.specs.Shape as shape
use Rattle.pd_value.specs.declared.thin.BlockTime.{BlockTime}
use Rattle.pd_tree.specs.Below.{gather, items_from, kids_from, items_below}
use Rattle.pd_tree.proofs.StackLemmas.{items_inner, kids_leaf, each_none, items_below_is}
use Rattle.pd_tree.specs.Cursor.{item_of}
use Rattle.pd_meaning_thin.specs.Runs.{block_time_of, given_runs, mapping_of, mappings_below}
use Rattle.pd_meaning_thin.specs.declared.pieces.Piece.TheVariants.{Run, SharedLeaf}
use Rattle.pd_meaning_thin.specs.Walk.{leaves_below}
use Rattle.pd_meaning_thin.specs.Pieces.{Part, mapped, kids_of_block, number_of, parts_below, parts_of_block, given_piece, joined_pieces, pieces_below}
use Rattle.pd_meaning_thin.proofs.SoundPool.{leaf_items}

-- The pieces below a root are those of the shape's leaves.

-- what is gathered from nodes is what is gathered from their leaves, where each node's share is that of the leaf that it is
module _ {X : Type 0} (f : ℕ → List X) (here : ℕ → List X) (leaves down others : ℕ → List ℕ)
    (shares : (b : ℕ) → here b ≡ flat_map f (leaves b)) (same : (b : ℕ) → down b ≡ others b) where
  each_by_leaves : (j : ℕ) → ((b : ℕ) → gather here down j b ≡ flat_map f (gather leaves others j b)) → (bs : List ℕ)
      → flat_map (gather here down j) bs ≡ flat_map f (flat_map (gather leaves others j) bs)
  each_by_leaves j each [] = refl
  each_by_leaves j each (b ∷ bs) =
      rw (each b, each_by_leaves j each bs) (sym (flat_map-append f (gather leaves others j b) (flat_map (gather leaves others j) bs)))

  pub by_leaves : (j b : ℕ) → gather here down j b ≡ flat_map f (gather leaves others j b)
  unfolding gather
  by_leaves zero b = shares b
  by_leaves (suc j) b =
      rw (shares b, same b, each_by_leaves j (by_leaves j) (others b))
      (sym (flat_map-append f (leaves b) (flat_map (gather leaves others j) (others b))))

-- mappings that are taken one after another
mappings_taken : (taken ms : List Mapping) (parts : List Part) → joined_pieces taken (map mapped ms ++ parts) ≡ joined_pieces (taken ++ ms) parts
mappings_taken taken [] parts = ap (λ (ms : List Mapping). joined_pieces ms parts) (sym (append-nil taken))
mappings_taken taken (m ∷ ms) parts =
    mappings_taken (taken ++ (m ∷ [])) ms parts ∙ ap (λ (ms : List Mapping). joined_pieces ms parts) (append_assoc taken (m ∷ []) ms)

-- mappings of a device's own before others
own_twice : (taken ms : List Mapping) (pieces : List shape.Piece) → with_own taken (with_own ms pieces) ≡ with_own (taken ++ ms) pieces
own_twice [] ms pieces = refl
own_twice (t ∷ taken) [] pieces = ap (λ (ms : List Mapping). with_own (t ∷ ms) pieces) (sym (append-nil taken))
own_twice (t ∷ taken) (m ∷ ms) [] = refl
own_twice (t ∷ taken) (m ∷ ms) (shape.own others ∷ pieces) = rw (append_assoc taken (m ∷ ms) others) refl
own_twice (t ∷ taken) (m ∷ ms) (shape.shared number ∷ pieces) = refl

own_alone : (taken : List Mapping) → map Run (given_runs taken) ≡ flat_map given_piece (with_own taken [])
own_alone [] = refl
own_alone (t ∷ taken) = sym (append-nil (map Run (given_runs (t ∷ taken))))

own_before : (taken : List Mapping) (number : ℕ) (pieces : List shape.Piece)
    → map Run (given_runs taken) ++ (SharedLeaf number ∷ flat_map given_piece pieces) ≡ flat_map given_piece (with_own taken (shape.shared number ∷ pieces))
own_before [] number pieces = refl
own_before (t ∷ taken) number pieces = refl

module _ (shared : List ℕ) (image : List (List ℕ)) where
  -- the parts of a leaf
  abbrev pub leaf_parts : ℕ → List Part
  leaf_parts b = parts_of_block image b (number_of shared b)

  -- its mappings, as they are taken
  mapped_parts : (b : ℕ) → map mapping_of (items_from 8 block_time_of (block_at image b) 0) ≡ mappings_in image b → parts_of_block image b None ≡ map mapped (mappings_in image b)
  mapped_parts b are = sym (map-map mapped mapping_of (items_from 8 block_time_of (block_at image b) 0)) ∙ ap (map mapped) are

  -- the pieces of some mappings and of the leaves behind them
  module _ (mappings_are : (b : ℕ) → map mapping_of (items_from 8 block_time_of (block_at image b) 0) ≡ mappings_in image b) where
    leaf_before : (taken : List Mapping) (b : ℕ) (number : Option ℕ) (leaves : List ℕ)
        → ((before : List Mapping) → joined_pieces before (flat_map leaf_parts leaves) ≡ flat_map given_piece (with_own before (pieces_of image shared leaves)))
        → joined_pieces taken (parts_of_block image b number ++ flat_map leaf_parts leaves)
        ≡ flat_map given_piece (with_own taken (with_leaf (mappings_in image b) number (pieces_of image shared leaves)))
    leaf_before taken b (Some number) leaves rest = rw (rest []) (own_before taken number (pieces_of image shared leaves))
    leaf_before taken b None leaves rest =
        rw (
          mapped_parts b (mappings_are b),
          mappings_taken taken (mappings_in image b) (flat_map leaf_parts leaves),
          rest (taken ++ mappings_in image b),
          own_twice taken (mappings_in image b) (pieces_of image shared leaves),
        ) refl

    leaves_pieces : (leaves : List ℕ) (taken : List Mapping)
        → joined_pieces taken (flat_map leaf_parts leaves) ≡ flat_map given_piece (with_own taken (pieces_of image shared leaves))
    leaves_pieces [] taken = own_alone taken
    leaves_pieces (b ∷ leaves) taken = leaf_before taken b (number_of shared b) leaves (leaves_pieces leaves)

    -- the parts below a block are those of its leaves, where the shared ones are leaves
    module _ (are_leaves : (b number : ℕ) → number_of shared b ≡ Some number → is_inner_node (block_at image b) ≡ false) where
      inner_none : (b : ℕ) (number : Option ℕ) → number_of shared b ≡ number → is_inner_node (block_at image b) ≡ true → parts_of_block image b number ≡ []
      inner_none b None is inner = rw (items_inner 8 block_time_of (block_at image b) 0 inner) refl
      inner_none b (Some number) is inner = absurd (let outer = are_leaves b number is in cc)

      share_by : (b : ℕ) (inner : Bool) → is_inner_node (block_at image b) ≡ inner → leaf_parts b ≡ flat_map leaf_parts (if inner then [] else b ∷ [])
      share_by b true inner = inner_none b (number_of shared b) refl inner
      share_by b false fits = sym (append-nil (leaf_parts b))

      kids_by : (b : ℕ) (number : Option ℕ) → number_of shared b ≡ number → kids_of_block image b number ≡ kids_from 8 (block_at image b) 0
      kids_by b None is = refl
      kids_by b (Some number) is = sym (kids_leaf 8 (block_at image b) 0 (are_leaves b number is))

      parts_by_leaves : (j b : ℕ) → parts_below shared image j b ≡ flat_map leaf_parts (leaves_below image j b)
      unfolding parts_below leaves_below
      parts_by_leaves j b =
          by_leaves leaf_parts leaf_parts (λ c. if is_inner_node (block_at image c) then [] else c ∷ []) (λ c. kids_of_block image c (number_of shared c)) (λ c. kids_from 8 (block_at image c) 0)
          (λ c. share_by c (is_inner_node (block_at image c)) refl) (λ c. kids_by c (number_of shared c) refl) j b

      -- so the pieces are those of the shape
      pub shape_pieces : (root : ℕ) → pieces_below shared image root ≡ flat_map given_piece (pieces_of image shared (leaves_below image 63 root))
      unfolding pieces_below
      shape_pieces root = rw (parts_by_leaves 63 root) (leaves_pieces (leaves_below image 63 root) [])

-- pieces of a device's own have mappings of one kind
abbrev pub OwnAll : (Mapping → Type 0) → shape.Piece → Type 0
OwnAll P (shape.own mappings) = AllByRecursion P mappings
OwnAll P (shape.shared number) = Unit {0}

module _ (P : Mapping → Type 0) where
  own_before_all : (mappings : List Mapping) (pieces : List shape.Piece) → AllByRecursion P mappings → AllByRecursion (OwnAll P) pieces → AllByRecursion (OwnAll P) (with_own mappings pieces)
  own_before_all [] pieces all others = others
  own_before_all (m ∷ ms) [] all others = (all, tt)
  own_before_all (m ∷ ms) (shape.own more ∷ pieces) all others = (all_append P (m ∷ ms) more all others.0, others.1)
  own_before_all (m ∷ ms) (shape.shared number ∷ pieces) all others = (all, others)

  leaf_before_all : (mappings : List Mapping) (number : Option ℕ) (pieces : List shape.Piece) → AllByRecursion P mappings → AllByRecursion (OwnAll P) pieces → AllByRecursion (OwnAll P) (with_leaf mappings number pieces)
  leaf_before_all mappings (Some number) pieces all others = (tt, others)
  leaf_before_all mappings None pieces all others = own_before_all mappings pieces all others

  pub pieces_all : (image : List (List ℕ)) (shared leaves : List ℕ) → AllByRecursion (λ b. AllByRecursion P (mappings_in image b)) leaves → AllByRecursion (OwnAll P) (pieces_of image shared leaves)
  pieces_all image shared [] all = tt
  pieces_all image shared (b ∷ leaves) all =
      leaf_before_all (mappings_in image b) (number_of shared b) (pieces_of image shared leaves) all.0 (pieces_all image shared leaves all.1)

module _ (image : List (List ℕ)) where
  -- the mappings of a node
  pub mappings_are : (b : ℕ) → map mapping_of (items_from 8 block_time_of (block_at image b) 0) ≡ mappings_in image b
  mappings_are b =
      rw (leaf_items (is_inner_node (block_at image b)) (block_at image b) refl) (map-map mapping_of (item_of block_time_of) (leaf_entries 8 (block_at image b)))

  -- what is below a leaf
  pub leaf_mappings_are : (b : ℕ) → is_inner_node (block_at image b) ≡ false → mappings_below image b ≡ mappings_in image b
  leaf_mappings_are b outer =
      rw (
        items_below_is 8 block_time_of image 63 b,
        kids_leaf 8 (block_at image b) 0 outer,
        each_none (items_below 8 block_time_of image) 63,
        append-nil (items_from 8 block_time_of (block_at image b) 0),
      ) (mappings_are b)

  -- a node is a leaf
  abbrev pub IsOuter : ℕ → Type 0
  IsOuter b = is_inner_node (block_at image b) ≡ false

  abbrev leaf_here : ℕ → List ℕ
  leaf_here b = if is_inner_node (block_at image b) then [] else b ∷ []

  abbrev kids_here : ℕ → List ℕ
  kids_here b = kids_from 8 (block_at image b) 0

  outer_here : (b : ℕ) (inner : Bool) → is_inner_node (block_at image b) ≡ inner → AllByRecursion IsOuter (if inner then [] else b ∷ [])
  outer_here b true is = tt
  outer_here b false is = (is, tt)

  outer_gathered : (j b : ℕ) → AllByRecursion IsOuter (gather leaf_here kids_here j b)
  unfolding gather
  outer_gathered zero b = outer_here b (is_inner_node (block_at image b)) refl
  outer_gathered (suc j) b =
      all_append IsOuter (leaf_here b) (flat_map (gather leaf_here kids_here j) (kids_here b)) (outer_here b (is_inner_node (block_at image b)) refl)
      (all_flat_map (gather leaf_here kids_here j) IsOuter (kids_here b) (all_of (λ c. AllByRecursion IsOuter (gather leaf_here kids_here j c)) (outer_gathered j) (kids_here b)))

  -- so are the leaves
  pub leaves_outer : (j b : ℕ) → AllByRecursion IsOuter (leaves_below image j b)
  unfolding leaves_below
  leaves_outer j b = outer_gathered j b

  -- the mappings below a root are those of its leaves
  abbrev items_here : ℕ → List (ℕ × BlockTime)
  items_here b = items_from 8 block_time_of (block_at image b) 0

  items_by : (b : ℕ) (inner : Bool) → is_inner_node (block_at image b) ≡ inner → items_here b ≡ flat_map items_here (if inner then [] else b ∷ [])
  items_by b true is = items_inner 8 block_time_of (block_at image b) 0 is
  items_by b false is = sym (append-nil (items_here b))

  items_by_leaves : (j b : ℕ) → items_below 8 block_time_of image j b ≡ flat_map items_here (leaves_below image j b)
  unfolding items_below leaves_below
  items_by_leaves j b = by_leaves items_here items_here leaf_here kids_here kids_here (λ c. items_by c (is_inner_node (block_at image c)) refl) (λ c. refl) j b

  mapped_leaves : (leaves : List ℕ) → map mapping_of (flat_map items_here leaves) ≡ flat_map (mappings_in image) leaves
  mapped_leaves [] = refl
  mapped_leaves (b ∷ leaves) = map-append mapping_of (items_here b) (flat_map items_here leaves) ∙ (rw (mappings_are b, mapped_leaves leaves) refl)

  pub mappings_by_leaves : (root : ℕ) → mappings_below image root ≡ flat_map (mappings_in image) (leaves_below image 63 root)
  mappings_by_leaves root = ap (map mapping_of) (items_by_leaves 63 root) ∙ mapped_leaves (leaves_below image 63 root)
