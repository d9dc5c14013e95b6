-- The pieces of a laid device are those that it was laid of.
use Rattle.std.proofs.Common.{◌≡◌, inl, inr, ℕ, zero, suc, ◌+◌, ◌<◌, ◌≤◌, Bool, true, false, cond, get_or, List, [], ◌∷◌, ◌++◌, length, map, filter, Option, Some, None, refl, ◌∙◌, ap, subst, arith, ◌^◌, sym, ap₂}
use Rattle.std.specs.List.{AllByRecursion, flat_map, range_with_len}
use Rattle.std.proofs.lemmas.Bool.{cases_lt}
use Rattle.std.proofs.lemmas.List.{length-append, length-map, map-append, append-nil, append_assoc}
use Rattle.pd_kinds.specs.Layout.{Tree, leaf_entries}
use Rattle.pd_kinds.specs.Node.{Entry}
use Rattle.pd_kinds.proofs.KindLemmas.{values_of, the_mapping}
use Rattle.pd_kinds.specs.Graph.{Graph, block_at, block_of, pair}
use Rattle.pd_kinds.specs.Meaning.{Mapping}
use Rattle.pd_kinds.specs.ThinFormat.{mapped_block, mapped_time}
use Rattle.pd_kinds.specs.Field.{mapping_code}
use Rattle.pd_laid.specs.Laid.{count_in, laid_inner, laid_leaf, heads}
use Rattle.pd_laid.specs.LaidThin.{device_inners, device_leaves, device_row, laid_device, some_pieces, mapping_items, own_leaves, pieces_row}
use Rattle.pd_laid.specs.Shape.{ShapeDevice, uses_of, ArePieces, Piece, own, piece_mappings, shared, mappings_in, pieces_of, with_leaf, with_own}
use Rattle.pd_laid.proofs.GatherLemmas.{HasTimes}
use Rattle.pd_laid.proofs.Rows.{entries_of}
use Rattle.pd_laws_laid.proofs.OnceTrees.{count-append, leaves_joined}
use Rattle.pd_laws_laid.proofs.DataCounts.{behind_first, range_has, range_lacks, in_two}
use Rattle.pd_laws_laid.proofs.DeviceNames.{range_both, row_names, some_uses}
use Rattle.pd_laws_laid.proofs.Levels.{IsLeafAt}
use Rattle.pd_laws_laid.proofs.Roots.{AreLeavesAt}
use Rattle.pd_laws_laid.proofs.ThinRows.{piece_groups}
use Rattle.pd_laws_laid.proofs.ThinWhole.{same_mapping}
use Rattle.pd_laws_shapes.proofs.LeafLemmas.{Ascend, number_at, number_is, number_of}

-- Places in ranges: which leaf of a laid pool has which number, and how often a block stands in rows.

pub length-range : (from n : ℕ) → length (range_with_len from n) ≡ n
length-range from zero = refl
length-range from (suc n) = ap suc (length-range (from + 1) n)

pub get_range : (from n k : ℕ) → k < n → get_or (range_with_len from n) k 0 ≡ from + k
get_range from zero k within = absurd (omega arith)
get_range from (suc n) zero within = omega arith
get_range from (suc n) (suc k) within = get_range (from + 1) n k (omega arith) ∙ omega arith

pub range_ascends : (least from n : ℕ) → least ≤ from → Ascend least (range_with_len from n)
range_ascends least from zero below = tt
range_ascends least from (suc n) below = (below, range_ascends (suc from) (from + 1) n (omega arith))

-- leaf k of L stands in block 1 + k, and no block behind them is one of them
pub number_in : (number k : ℕ) → k < number → number_of (range_with_len 1 number) (1 + k) ≡ Some k
number_in number k within =
    let size = length-range 1 number in
    rw (get_range 1 number k within) at (number_at (range_with_len 1 number) (range_ascends 0 1 number (omega arith)) k (omega arith))

pub number_out : (number c : ℕ) → number < c → number_of (range_with_len 1 number) c ≡ None
number_out number c above = none (number_of (range_with_len 1 number) c) refl
  where
    none : (found : Option ℕ) → number_of (range_with_len 1 number) c ≡ found → number_of (range_with_len 1 number) c ≡ None
    none None e = e
    none (Some k) e =
        let is = number_is (range_with_len 1 number) c k e in
        let size = length-range 1 number in
        let within = is.0 in
        let place = get_range 1 number k (omega arith) in
        let same = is.1 in
        absurd (omega arith)

-- a filter that all pass, or none
pub filter_kept : (p : ℕ → Bool) (xs : List ℕ) → AllByRecursion (λ x. p x ≡ true) xs → filter p xs ≡ xs
filter_kept p [] all = refl
filter_kept p (x ∷ xs) all = rw (all.0, filter_kept p xs all.1) refl

pub filter_dropped : (p : ℕ → Bool) (xs : List ℕ) → AllByRecursion (λ x. p x ≡ false) xs → filter p xs ≡ []
filter_dropped p [] all = refl
filter_dropped p (x ∷ xs) all = rw (all.0, filter_dropped p xs all.1) refl

pub filter_both : (p : ℕ → Bool) (xs ys : List ℕ) → filter p (xs ++ ys) ≡ filter p xs ++ filter p ys
filter_both p [] ys = refl
filter_both p (x ∷ xs) ys = chosen (p x) (filter_both p xs ys)
  where
    chosen : (b : Bool) → filter p (xs ++ ys) ≡ filter p xs ++ filter p ys
        → cond b (x ∷ filter p (xs ++ ys)) (filter p (xs ++ ys)) ≡ cond b (x ∷ filter p xs) (filter p xs) ++ filter p ys
    chosen true rest = ap (λ (zs : List ℕ). x ∷ zs) rest
    chosen false rest = rest

-- a range has a number once at most: none before it, and none behind it
record InRange (place n b : ℕ) : Type 0 where
  most : count_in (range_with_len place n) b ≤ 1
  before : b < place → count_in (range_with_len place n) b ≡ 0
  behind : place + n ≤ b → count_in (range_with_len place n) b ≡ 0

in_range : (place n b : ℕ) → InRange place n b
in_range place n b =
    let start : 0 + place ≡ place = omega arith in
    let both = subst (λ (from : ℕ). count_in (range_with_len 0 (place + n)) b ≡ count_in (range_with_len 0 place) b + count_in (range_with_len from n) b) start (range_both 0 place n b) in
    record {
      most = elim (cases_lt b (place + n)) [
        | inl below ↦ let one = range_has (place + n) b below in omega arith
        | inr above ↦ let none = range_lacks (place + n) b above in omega arith
      ];
      before = λ below. let one = range_has (place + n) b (omega arith) in let first = range_has place b below in omega arith;
      behind = λ above. let none = range_lacks (place + n) b above in omega arith;
    }

-- the rows of devices, one after another
module _ (t : Tree) (groups : List (List Entry)) where
  abbrev pub rows : ℕ → List ShapeDevice → List ℕ
  rows place [] = []
  rows place (d ∷ ds) = values_of (device_row groups place d) ++ rows (place + length (laid_device t groups place d)) ds

  own_fits : (place : ℕ) (d : ShapeDevice) → length (device_leaves d) ≤ length (laid_device t groups place d)
  unfolding laid_device
  own_fits place d =
      let both = length-append (map (laid_leaf 3 t) (device_leaves d)) (map (laid_inner 3) (device_inners groups place d)) in
      let first = length-map (device_leaves d) (laid_leaf 3 t) in
      omega arith

  -- how often a block stands in a row
  row_count : (place : ℕ) (d : ShapeDevice) (b : ℕ) → count_in (values_of (device_row groups place d)) b
      ≡ count_in (range_with_len place (length (device_leaves d))) b + count_in (behind_first (uses_of d)) b
  unfolding device_row
  row_count place d b =
      row_names groups place (some_pieces d.pieces) b
      ∙ ap (λ (uses : List ℕ). count_in (range_with_len place (length (device_leaves d))) b + count_in (behind_first uses) b) (some_uses d.pieces)

  -- an own leaf stands there once, a shared one as often as it is used
  pub record IsCounted (place : ℕ) (ds : List ShapeDevice) (b : ℕ) : Type 0 where
    pub most : count_in (rows place ds) b ≤ 1 + count_in (behind_first (flat_map uses_of ds)) b
    pub before : b < place → count_in (rows place ds) b ≡ count_in (behind_first (flat_map uses_of ds)) b

  pub rows_counted : (place : ℕ) (ds : List ShapeDevice) (b : ℕ) → IsCounted place ds b
  rows_counted place [] b = record { most = omega arith; before = λ below. refl }
  rows_counted place (d ∷ ds) b =
      let size = length (laid_device t groups place d) in
      let next = place + size in
      let fits = own_fits place d in
      let mine = row_count place d b in
      let both = count-append (values_of (device_row groups place d)) (rows next ds) b in
      let range = in_range place (length (device_leaves d)) b in
      let once = range.most in
      let rest = rows_counted next ds b in
      let rest_most = rest.most in
      let used = ap (λ (uses : List ℕ). count_in uses b) (map-append (λ (k : ℕ). 1 + k) (uses_of d) (flat_map uses_of ds))
      ∙ count-append (behind_first (uses_of d)) (behind_first (flat_map uses_of ds)) b in
      record {
        most = elim (cases_lt b next) [
          | inl below ↦ let others = rest.before below in omega arith
          | inr above ↦ let none = range.behind (omega arith) in omega arith
        ];
        before = λ below. let others = rest.before (omega arith) in let none = range.before below in omega arith;
      }

pub mappings_back : (ms : List Mapping) → HasTimes ms → map the_mapping (mapping_items ms) ≡ ms
unfolding mapping_items
mappings_back [] times = refl
mappings_back (x ∷ ms) times =
    let small = times.0 in
    ap₂ (λ (y : Mapping) (rest : List Mapping). y ∷ rest)
    (same_mapping (mapped_block (mapping_code x.data_block x.time)) (mapped_time (mapping_code x.data_block x.time)) x (omega arith) (omega arith))
    (mappings_back ms times.1)

-- own mappings before own mappings
pub own_both : (xs ys : List Mapping) (pieces : List Piece) → with_own xs (with_own ys pieces) ≡ with_own (xs ++ ys) pieces
own_both [] ys pieces = refl
own_both (x ∷ xs) [] pieces = ap (λ (ms : List Mapping). with_own ms pieces) (sym (append-nil (x ∷ xs)))
own_both (x ∷ xs) (y ∷ ys) [] = refl
own_both (x ∷ xs) (y ∷ ys) (own others ∷ pieces) = ap (λ (ms : List Mapping). own ms ∷ pieces) (sym (append_assoc (x ∷ xs) (y ∷ ys) others))
own_both (x ∷ xs) (y ∷ ys) (shared k ∷ pieces) = refl

own_alone : (ms : List Mapping) → 1 ≤ length ms → with_own ms [] ≡ own ms ∷ []
own_alone [] some = absurd (omega arith)
own_alone (m ∷ ms) some = refl

own_before : (ms : List Mapping) (k : ℕ) (pieces : List Piece) → 1 ≤ length ms → with_own ms (shared k ∷ pieces) ≡ own ms ∷ shared k ∷ pieces
own_before [] k pieces some = absurd (omega arith)
own_before (m ∷ ms) k pieces some = refl

-- what stands in a leaf's block
pub leaf_mappings_at : (graph : Graph) (image : List (List ℕ)) (q : ℕ) (g : List Entry) → IsLeafAt graph image 8 3 q g → mappings_in image q ≡ map the_mapping g
leaf_mappings_at graph image q g at =
    let here : block_of (pair q 3) ≡ q = omega arith in
    ap (map the_mapping) (subst (λ (b : ℕ). leaf_entries 8 (block_at image b) ≡ g) here at.entries_are)

module _ (graph : Graph) (image : List (List ℕ)) (leaves : List (List Mapping)) where
  abbrev number : ℕ
  number = length leaves

  abbrev groups : List (List Entry)
  groups = map mapping_items leaves

  abbrev back : List ℕ → List Piece
  back bs = pieces_of image (range_with_len 1 (length leaves)) bs

  -- own leaves give their mappings
  own_back : (place : ℕ) (nodes : List (List Entry)) (more : List Entry) (others : List (List Entry)) → number < place
      → AreLeavesAt graph image 8 3 (heads place nodes ++ more) (nodes ++ others)
      → (back (values_of (heads place nodes ++ more)) ≡ with_own (map the_mapping (entries_of nodes)) (back (values_of more))) × AreLeavesAt graph image 8 3 more others
  unfolding heads
  own_back place [] more others above at = (refl, at)
  own_back place (g ∷ nodes) more others above at =
      let rest = own_back (place + 1) nodes more others (omega arith) at.1 in
      let here = leaf_mappings_at graph image place g at.0.1 in
      let none = number_out number place above in
      let behind = back (values_of (heads (place + 1) nodes ++ more)) in (
        ap (λ (found : Option ℕ). with_leaf (mappings_in image place) found behind) none
            ∙ (ap₂ (λ (ms : List Mapping) (pieces : List Piece). with_own ms pieces) here rest.0
            ∙ (own_both (map the_mapping g) (map the_mapping (entries_of nodes)) (back (values_of more))
            ∙ ap (λ (ms : List Mapping). with_own ms (back (values_of more))) (sym (map-append the_mapping g (entries_of nodes))))),
        rest.1,
      )

  own_piece : (place : ℕ) (ms : List Mapping) (more : List Entry) (others : List (List Entry)) → number < place → HasTimes ms
      → AreLeavesAt graph image 8 3 (heads place (own_leaves (own ms)) ++ more) (own_leaves (own ms) ++ others)
      → (back (values_of (heads place (own_leaves (own ms)) ++ more)) ≡ with_own ms (back (values_of more))) × AreLeavesAt graph image 8 3 more others
  own_piece place ms more others above times at =
      let found = own_back place (own_leaves (own ms)) more others above at in
      let whole = ap (map the_mapping) (leaves_joined 8 (mapping_items ms)) ∙ mappings_back ms times in
      (found.0 ∙ ap (λ (xs : List Mapping). with_own xs (back (values_of more))) whole, found.1)

  pieces_back : (place : ℕ) (pieces : List Piece) → number < place → ArePieces (length leaves) pieces → HasTimes (flat_map (piece_mappings leaves) pieces)
      → AreLeavesAt graph image 8 3 (pieces_row groups place pieces) (flat_map (piece_groups groups) pieces)
      → back (values_of (pieces_row groups place pieces)) ≡ pieces
  pieces_back place [] above are times at = refl
  pieces_back place (own ms ∷ []) above are times at =
      let both = in_two (λ (m : Mapping). m.time < 2 ^ 24) ms [] times in
      (own_piece place ms [] [] above both.0 at).0 ∙ own_alone ms are
  pieces_back place (own ms ∷ own others ∷ pieces) above are times at = absurd are
  pieces_back place (own ms ∷ shared k ∷ pieces) above are times at =
      let both = in_two (λ (m : Mapping). m.time < 2 ^ 24) ms (flat_map (piece_mappings leaves) (shared k ∷ pieces)) times in
      let next = place + length (own_leaves (own ms)) in
      let here = own_piece place ms (pieces_row groups next (shared k ∷ pieces)) (flat_map (piece_groups groups) (shared k ∷ pieces)) above both.0 at in
      let rest = pieces_back next (shared k ∷ pieces) (omega arith) are.1 both.1 here.1 in
      here.0 ∙ (ap (with_own ms) rest ∙ own_before ms k pieces are.0)
  pieces_back place (shared k ∷ pieces) above are times at =
      let both = in_two (λ (m : Mapping). m.time < 2 ^ 24) (piece_mappings leaves (shared k)) (flat_map (piece_mappings leaves) pieces) times in
      let rest = pieces_back (place + 0) pieces (omega arith) are.1 both.1 at.1 in
      ap (λ (found : Option ℕ). with_leaf (mappings_in image (1 + k)) found (back (values_of (pieces_row groups (place + 0) pieces)))) (number_in number k are.0)
      ∙ ap (λ (ps : List Piece). shared k ∷ ps) rest

  -- also of a device without pieces
  pub device_back : (place : ℕ) (pieces : List Piece) → number < place → ArePieces (length leaves) pieces → HasTimes (flat_map (piece_mappings leaves) pieces)
      → AreLeavesAt graph image 8 3 (pieces_row groups place (some_pieces pieces)) (flat_map (piece_groups groups) (some_pieces pieces))
      → back (values_of (pieces_row groups place (some_pieces pieces))) ≡ pieces
  device_back place [] above are times at = (own_piece place [] [] [] above tt at).0
  device_back place (piece ∷ pieces) above are times at = pieces_back place (piece ∷ pieces) above are times at
