-- What was met of devices is a lawful shape.
use Rattle.std.proofs.Common.{◌≡◌, inl, inr, ℕ, zero, suc, ◌<◌, cond, nat_eq, get_or, List, [], ◌∷◌, ◌++◌, length, map, count_by, position, Option, Some, None, refl, sym, ap, ◌∙◌, arith}
use Rattle.std.specs.List.{AllByRecursion, flat_map}
use Rattle.std.specs.Option.{option_to_list}
use Rattle.std.proofs.lemmas.Bool.{cases_Bool}
use Rattle.std.proofs.lemmas.List.Sums.{sum_by-append}
use Rattle.std.proofs.lemmas.Option.{none-some}
use Rattle.pd_kinds.specs.Meaning.{Mapping}
use Rattle.pd_laid.specs.Shape.{ArePieces, Piece, leaf_mappings, piece_mappings, uses_of_piece, with_leaf}
use Rattle.pd_salvage_shapes.specs.Note.{Met}
use Rattle.pd_salvage_shapes.specs.Pieces.{number_of_leaf, pieces_of_mets}
use Rattle.pd_salvage_shapes.specs.SeenShape.{leaves_of}
use Rattle.pd_salvage_shapes.specs.Visiting.{maps}
use Rattle.pd_laws_shapes.proofs.LeafLemmas.{Ascend, uses_one, number_is, numbers, own_are, own_means, own_uses}

-- a met leaf's mappings are the leaf's
abbrev pub HasItsMappings : (ℕ → List Mapping) → Met → Type 0
HasItsMappings f m = (b : ℕ) → m.leaf ≡ Some b → m.mappings ≡ f b

-- pieces of what was met
module _ (f : ℕ → List Mapping) (ones : List ℕ) where
  abbrev leaves : List (List Mapping)
  leaves = map f ones

  leaf_at : (xs : List ℕ) (k : ℕ) → k < length xs → leaf_mappings (map f xs) k ≡ f (get_or xs k 0)
  leaf_at [] k within = absurd (omega arith)
  leaf_at (x ∷ xs) zero within = refl
  leaf_at (x ∷ xs) (suc k) within = leaf_at xs k (omega arith)

  found_leaf : (leaf : Option ℕ) (k : ℕ) → number_of_leaf ones leaf ≡ Some k → (b : ℕ) × (leaf ≡ Some b) × (position (λ c. nat_eq c b) ones ≡ Some k)
  found_leaf None k is = absurd (none-some k is)
  found_leaf (Some b) k is = (b, refl, is)

  met_means : (m : Met) → HasItsMappings f m → (number : Option ℕ) → number_of_leaf ones m.leaf ≡ number → (rest : List Piece)
      → flat_map (piece_mappings leaves) (with_leaf m.mappings number rest) ≡ m.mappings ++ flat_map (piece_mappings leaves) rest
  met_means m has_its None e rest = own_means leaves m.mappings rest
  met_means m has_its (Some k) e rest =
      let found = found_leaf m.leaf k e in
      let is = number_is ones found.0 k found.2 in
      ap (λ (ms : List Mapping). ms ++ flat_map (piece_mappings leaves) rest) (leaf_at ones k is.0 ∙ (ap f is.1 ∙ sym (has_its found.0 found.1)))

  pub mets_mean : (ms : List Met) → AllByRecursion (HasItsMappings f) ms → flat_map (piece_mappings leaves) (pieces_of_mets ones ms) ≡ maps ms
  mets_mean [] all = refl
  mets_mean (m ∷ ms) all =
      met_means m all.0 (number_of_leaf ones m.leaf) refl (pieces_of_mets ones ms) ∙ ap (λ (rest : List Mapping). m.mappings ++ rest) (mets_mean ms all.1)

  met_are : (m : Met) (number : Option ℕ) → number_of_leaf ones m.leaf ≡ number → (rest : List Piece) → ArePieces (length ones) rest → ArePieces (length ones) (with_leaf m.mappings number rest)
  met_are m None e rest are = own_are (length ones) m.mappings rest are
  met_are m (Some k) e rest are = let found = found_leaf m.leaf k e in ((number_is ones found.0 k found.2).0, are)

  pub mets_are : (ms : List Met) → ArePieces (length ones) (pieces_of_mets ones ms)
  mets_are [] = tt
  mets_are (m ∷ ms) = met_are m (number_of_leaf ones m.leaf) refl (pieces_of_mets ones ms) (mets_are ms)

  met_uses : (m : Met) (number : Option ℕ) (rest : List Piece) → flat_map uses_of_piece (with_leaf m.mappings number rest) ≡ numbers number ++ flat_map uses_of_piece rest
  met_uses m None rest = own_uses m.mappings rest
  met_uses m (Some k) rest = refl

  mets_use : (ms : List Met) → flat_map uses_of_piece (pieces_of_mets ones ms) ≡ flat_map (λ (m : Met). numbers (number_of_leaf ones m.leaf)) ms
  mets_use [] = refl
  mets_use (m ∷ ms) = met_uses m (number_of_leaf ones m.leaf) (pieces_of_mets ones ms) ∙ ap (λ (rest : List ℕ). numbers (number_of_leaf ones m.leaf) ++ rest) (mets_use ms)

  -- a number is used as often as its leaf was met
  module _ (ascend : Ascend 0 ones) (k : ℕ) (within : k < length ones) where
    leaf_once : (leaf : Option ℕ) → count_by (λ used. nat_eq used k) (numbers (number_of_leaf ones leaf)) ≡ count_by (λ c. nat_eq c (get_or ones k 0)) (option_to_list leaf)
    leaf_once None = refl
    leaf_once (Some c) =
        uses_one ones ascend k within c (position (λ leaf. nat_eq leaf c) ones) refl ∙ elim (cases_Bool (nat_eq c (get_or ones k 0))) [
          | inl here ↦ rw here refl
          | inr other ↦ rw other refl
        ]

    pub mets_counted : (ms : List Met) → count_by (λ used. nat_eq used k) (flat_map uses_of_piece (pieces_of_mets ones ms)) ≡ count_by (λ c. nat_eq c (get_or ones k 0)) (leaves_of ms)
    mets_counted ms = rw (mets_use ms) (counted ms)
      where
        counted : (ms : List Met) → count_by (λ used. nat_eq used k) (flat_map (λ (m : Met). numbers (number_of_leaf ones m.leaf)) ms) ≡ count_by (λ c. nat_eq c (get_or ones k 0)) (leaves_of ms)
        counted [] = refl
        counted (m ∷ ms) =
            let both = sum_by-append (λ used. cond {A = ℕ} (nat_eq used k) 1 0) (numbers (number_of_leaf ones m.leaf)) (flat_map (λ (n : Met). numbers (number_of_leaf ones n.leaf)) ms) in
            let all = sum_by-append (λ c. cond {A = ℕ} (nat_eq c (get_or ones k 0)) 1 0) (option_to_list m.leaf) (leaves_of ms) in
            let first = leaf_once m.leaf in
            let rest = counted ms in
            omega (arith, both, all, first, rest)
