-- The mappings to a region's blocks below a node, by what the node has and by its children.
use Rattle.std.proofs.Common.{◌≡◌, ℕ, zero, suc, ◌+◌, ◌-◌, ◌<◌, ◌≤◌, true, false, List, [], ◌∷◌, ◌++◌, map, filter, length, refl, sym, ap, ◌∙◌, arith, inl, inr, min, max, ◌&&◌, ◌||◌, nat_le, nat_lt, length-append}
use Rattle.std.specs.List.{flat_map, range_with_len}
use Rattle.std.proofs.lemmas.Bool.{cases_Bool, and_parts, le-ltb, leb-true, lt-ltb, ltb-true, or_cases}
use Rattle.std.proofs.lemmas.List.{append-nil, map-append}
use Rattle.std.proofs.lemmas.List.Concat.{flat_map-append}
use Rattle.std.proofs.lemmas.List.Elements.{filter-append}
use Rattle.std.proofs.lemmas.List.FromFn.{map-range_with_len_more}
use Rattle.pd_kinds.specs.Graph.{block_at}
use Rattle.pd_kinds.specs.Node.{is_inner_node}
use Rattle.pd_value.specs.declared.thin.BlockTime.{BlockTime}
use Rattle.pd_tree.specs.Below.{each_below, items_below, items_from, kids_from}
use Rattle.pd_tree.proofs.StackLemmas.{each_none, items_below_is, items_inner, kids_leaf}
use Rattle.pd_tree.proofs.NextLemmas.{items_outside}
use Rattle.pd_meaning_thin.specs.Runs.{block_time_of, mapping_of}
use Rattle.pd_meaning_thin.specs.declared.devices.DeviceRow.{DeviceRow}
use Rattle.pd_uses.specs.declared.hits.Hit.{Hit}
use Rattle.pd_uses.specs.declared.hits.Region.{Region}
use Rattle.pd_uses.specs.Hits.{hit_of, hits_below, hits_each, hits_in, is_hit, use_of, has_block}
use Rattle.pd_uses.specs.Uses.{is_within, row_uses, use_by}
use Rattle.pd_uses.specs.declared.hits.Span.{Span}
use Rattle.pd_uses.specs.declared.hits.LeafPart.{LeafPart}
use Rattle.pd_uses.specs.Parts.{AreParts, hits_at, part_hits}
use Rattle.pd_uses.specs.FoundUses.{leaf_at}
use Rattle.pd_uses.specs.Spans.{IsSpan}

-- where nothing is in both lists, nothing is in either
none_in_both : {X : Type 0} → (xs ys : List X) → xs ++ ys ≡ [] → (xs ≡ []) × (ys ≡ [])
none_in_both [] ys none = (refl, none)
none_in_both (x ∷ xs) ys none = absurd (cc (none))

-- where one function gives nothing, so does another that gives nothing where the first one does
none_of_each : {X : Type 0} → (f g : ℕ → List X) → ((b : ℕ) → f b ≡ [] → g b ≡ []) → (bs : List ℕ) → flat_map f bs ≡ [] → flat_map g bs ≡ []
none_of_each f g alike [] none = refl
none_of_each f g alike (b ∷ bs) none =
    let both = none_in_both (f b) (flat_map f bs) none in
    rw (alike b both.0, none_of_each f g alike bs both.1) refl

module _ (region : Region) where
  -- the mappings among entries
  abbrev hits : List (ℕ × BlockTime) → List Hit
  hits items = filter (is_hit region) (map hit_of items)

  pub hits_append : (xs ys : List (ℕ × BlockTime)) → hits (xs ++ ys) ≡ hits xs ++ hits ys
  hits_append xs ys = ap (filter (is_hit region)) (map-append hit_of xs ys) ∙ filter-append (is_hit region) (map hit_of xs) (map hit_of ys)

  -- those of one entry more
  pub hits_more : (f : ℕ → ℕ × BlockTime) (i : ℕ) (hit : Hit) → hit ≡ hit_of (f i)
      → hits (map f (range_with_len 0 (i + 1))) ≡ hits (map f (range_with_len 0 i)) ++ filter (is_hit region) (hit ∷ [])
  hits_more f i hit is =
      ap hits (map-range_with_len_more f 0 i i (omega arith))
      ∙ (hits_append (map f (range_with_len 0 i)) (f i ∷ []) ∙ ap (λ (one : Hit). hits (map f (range_with_len 0 i)) ++ filter (is_hit region) (one ∷ [])) (sym is))

  hits_flat : (f : ℕ → List (ℕ × BlockTime)) (bs : List ℕ) → hits (flat_map f bs) ≡ flat_map (λ b. hits (f b)) bs
  hits_flat f [] = refl
  hits_flat f (b ∷ bs) = hits_append (f b) (flat_map f bs) ∙ ap (λ (xs : List Hit). hits (f b) ++ xs) (hits_flat f bs)

  -- those of some uses
  pub hits_as_uses : (id : ℕ) (items : List (ℕ × BlockTime)) → map (use_of id) (hits items) ≡ filter (is_within region.first region.end) (map (use_by id) (map mapping_of items))
  hits_as_uses id [] = refl
  hits_as_uses id (item ∷ items) = elim (cases_Bool (is_hit region (hit_of item))) [
    | inl inside ↦ rw (inside, hits_as_uses id items) refl
    | inr outside ↦ rw (outside, hits_as_uses id items) refl
  ]

  module _ (image : List (List ℕ)) where
    hits_of_kids : (j : ℕ) (bs : List ℕ) → hits (each_below (items_below 8 block_time_of image) j bs) ≡ each_below (hits_below region image) j bs
    unfolding each_below hits_below
    hits_of_kids zero bs = refl
    hits_of_kids (suc j) bs = hits_flat (items_below 8 block_time_of image j) bs

    -- those of the node, and then those below its children
    hits_below_is : (j b : ℕ) → hits_below region image j b ≡ hits_in region (block_at image b) ++ each_below (hits_below region image) j (kids_from 8 (block_at image b) 0)
    unfolding hits_below hits_in
    hits_below_is j b =
        ap hits (items_below_is 8 block_time_of image j b)
        ∙ (hits_append (items_from 8 block_time_of (block_at image b) 0) (each_below (items_below 8 block_time_of image) j (kids_from 8 (block_at image b) 0))
        ∙ ap (λ (xs : List Hit). hits (items_from 8 block_time_of (block_at image b) 0) ++ xs) (hits_of_kids j (kids_from 8 (block_at image b) 0)))

    -- a leaf
    pub below_leaf : (j b : ℕ) → is_inner_node (block_at image b) ≡ false → hits_below region image j b ≡ hits_in region (block_at image b)
    below_leaf j b leaf =
        hits_below_is j b ∙ rw (kids_leaf 8 (block_at image b) 0 leaf, each_none (hits_below region image) j) (append-nil (hits_in region (block_at image b)))

    -- an inner node
    none_in_inner : (block : List ℕ) → is_inner_node block ≡ true → hits_in region block ≡ []
    unfolding hits_in
    none_in_inner block inner = rw (items_inner 8 block_time_of block 0 inner) refl

    pub below_inner : (edges b : ℕ) → 0 < edges → is_inner_node (block_at image b) ≡ true → hits_below region image edges b ≡ hits_each region image (edges - 1) (kids_from 8 (block_at image b) 0)
    unfolding each_below hits_each
    below_inner zero b some inner = absurd (omega arith)
    below_inner (suc j) b some inner =
        let less : suc j - 1 ≡ j = omega arith in
        hits_below_is (suc j) b ∙ rw (none_in_inner (block_at image b) inner, less) refl

    pub below_deep : (edges b : ℕ) → edges ≡ 0 → is_inner_node (block_at image b) ≡ true → hits_below region image edges b ≡ []
    unfolding each_below
    below_deep edges b none inner = rw none (hits_below_is 0 b ∙ rw (none_in_inner (block_at image b) inner) refl)

    -- a block that the image hasn't
    pub below_outside : (j b : ℕ) → length image ≤ b → hits_below region image j b ≡ []
    unfolding hits_below
    below_outside j b outside = rw (items_outside 8 block_time_of image j b outside) refl

    -- where there is nothing, there is nothing as far as fewer edges go
    pub bare_nearer : (i j b : ℕ) → i ≤ j → hits_below region image j b ≡ [] → hits_below region image i b ≡ []
    unfolding each_below
    bare_nearer zero j b less none =
        let both = none_in_both (hits_in region (block_at image b)) (each_below (hits_below region image) j (kids_from 8 (block_at image b) 0)) (sym (hits_below_is j b) ∙ none) in
        hits_below_is 0 b ∙ rw (both.0) refl
    bare_nearer (suc i) zero b less none = absurd (omega arith)
    bare_nearer (suc i) (suc j) b less none =
        let both = none_in_both (hits_in region (block_at image b)) (flat_map (hits_below region image j) (kids_from 8 (block_at image b) 0)) (sym (hits_below_is (suc j) b) ∙ none) in
        let others = none_of_each (hits_below region image j) (hits_below region image i) (λ c bare. bare_nearer i j c (omega arith) bare) (kids_from 8 (block_at image b) 0) both.1 in
        hits_below_is (suc i) b ∙ rw (both.0, others) refl

    -- below no block, below one, and below some and one more
    pub each_zero : (j : ℕ) → hits_each region image j [] ≡ []
    unfolding hits_each
    each_zero j = refl

    pub each_one : (j b : ℕ) → hits_each region image j (b ∷ []) ≡ hits_below region image j b
    unfolding hits_each
    each_one j b = append-nil (hits_below region image j b)

    pub each_more : (j b : ℕ) (bs : List ℕ) → hits_each region image j (bs ++ (b ∷ [])) ≡ hits_each region image j bs ++ hits_below region image j b
    unfolding hits_each
    each_more j b bs = flat_map-append (hits_below region image j) bs (b ∷ []) ∙ ap (λ (xs : List Hit). flat_map (hits_below region image j) bs ++ xs) (append-nil (hits_below region image j b))

    -- those of a device
    pub row_hits : (row : DeviceRow) → map (use_of row.id) (hits_below region image 63 row.root) ≡ filter (is_within region.first region.end) (row_uses image row)
    unfolding hits_below
    row_hits row = hits_as_uses row.id (items_below 8 block_time_of image 63 row.root)

-- Which mappings lead to a part, by the blocks between which they lie, and leaf by leaf.

-- a mapping more
pub span_more : (span : Span) (least most : ℕ) (hit : Hit) (hits : List Hit) → least ≡ min span.least hit.block → most ≡ max span.most hit.block → IsSpan span hits
    → IsSpan (record { least = least; most = most }) (hits ++ (hit ∷ []))
span_more span least most hit [] low high all = ((omega arith, omega arith), tt)
span_more span least most hit (one ∷ hits) low high all =
    let from = all.0.0 in
    let to = all.0.1 in
    ((omega arith, omega arith), span_more span least most hit hits low high all.1)

module _ (part : Region) where
  before_it : (block : ℕ) → block < part.first → has_block part block ≡ false
  before_it block before = rw (lt-ltb block part.first before) refl

  past_it : (block : ℕ) → part.end ≤ block → has_block part block ≡ false
  past_it block past = elim (cases_Bool (nat_lt block part.first)) [
    | inl before ↦ rw before refl
    | inr from ↦ rw (from, le-ltb block part.end past) refl
  ]

  in_it : (block : ℕ) → part.first ≤ block → block < part.end → has_block part block ≡ true
  in_it block from before = rw (le-ltb block part.first from, lt-ltb block part.end before) refl

  -- all lead before the part, or past it, or into it
  all_before : (span : Span) (hits : List Hit) → span.most < part.first → IsSpan span hits → filter (is_hit part) hits ≡ []
  all_before span [] before all = refl
  all_before span (hit ∷ hits) before all = let most = all.0.1 in rw (before_it hit.block (omega arith)) (all_before span hits before all.1)

  all_past : (span : Span) (hits : List Hit) → part.end ≤ span.least → IsSpan span hits → filter (is_hit part) hits ≡ []
  all_past span [] past all = refl
  all_past span (hit ∷ hits) past all = let least = all.0.0 in rw (past_it hit.block (omega arith)) (all_past span hits past all.1)

  pub all_outside : (span : Span) (hits : List Hit) → IsSpan span hits → (nat_lt span.most part.first || nat_le part.end span.least) ≡ true → filter (is_hit part) hits ≡ []
  all_outside span hits all outside = elim (or_cases (nat_lt span.most part.first) (nat_le part.end span.least) outside) [
    | inl before ↦ all_before span hits (ltb-true span.most part.first before) all
    | inr past ↦ all_past span hits (leb-true part.end span.least past) all
  ]

  all_in : (span : Span) (hits : List Hit) → part.first ≤ span.least → span.most < part.end → IsSpan span hits → filter (is_hit part) hits ≡ hits
  all_in span [] from before all = refl
  all_in span (hit ∷ hits) from before all =
      let least = all.0.0 in
      let most = all.0.1 in
      rw (in_it hit.block (omega arith) (omega arith)) (ap (λ (xs : List Hit). hit ∷ xs) (all_in span hits from before all.1))

  pub all_inside : (span : Span) (hits : List Hit) → IsSpan span hits → (nat_le part.first span.least && nat_lt span.most part.end) ≡ true → filter (is_hit part) hits ≡ hits
  all_inside span hits all inside =
      let both = and_parts (nat_le part.first span.least) (nat_lt span.most part.end) inside in
      all_in span hits (leb-true part.first span.least both.0) (ltb-true span.most part.end both.1) all

  -- what no leaf has of the part, and a leaf more
  abbrev Has : List (List Hit) → List LeafPart → ℕ → Type 0
  Has leaves parts n = hits_at leaves parts n ≡ filter (is_hit part) (leaf_at leaves n)

  none_has : (n : ℕ) → Has [] [] n
  none_has zero = refl
  none_has (suc n) = refl

  pub no_parts : AreParts part [] []
  no_parts = record { number = refl; each = none_has }

  has_more : (leaves : List (List Hit)) (parts : List LeafPart) (hits : List Hit) (has : LeafPart) → length parts ≡ length leaves → part_hits hits has ≡ filter (is_hit part) hits
      → ((n : ℕ) → Has leaves parts n) → (n : ℕ) → Has (leaves ++ (hits ∷ [])) (parts ++ (has ∷ [])) n
  has_more [] [] hits has number is each zero = is
  has_more [] [] hits has number is each (suc n) = none_has n
  has_more [] (other ∷ parts) hits has number is each n = absurd (omega arith)
  has_more (leaf ∷ leaves) [] hits has number is each n = absurd (omega arith)
  has_more (leaf ∷ leaves) (other ∷ parts) hits has number is each zero = each 0
  has_more (leaf ∷ leaves) (other ∷ parts) hits has number is each (suc n) = has_more leaves parts hits has (omega arith) is (λ m. each (suc m)) n

  pub parts_more : (leaves : List (List Hit)) (parts : List LeafPart) (hits : List Hit) (has : LeafPart) → part_hits hits has ≡ filter (is_hit part) hits → AreParts part leaves parts
      → AreParts part (leaves ++ (hits ∷ [])) (parts ++ (has ∷ []))
  parts_more leaves parts hits has is are = record {
    number = number_more;
    each = has_more leaves parts hits has are.number is are.each;
  }
    where
      number_more : length (parts ++ (has ∷ [])) ≡ length (leaves ++ (hits ∷ []))
      number_more = let number = are.number in omega (arith, length-append parts (has ∷ []), length-append leaves (hits ∷ []))
