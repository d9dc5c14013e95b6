-- What is given below a block: nothing outside, of a damaged node, by paths of no node, or without keys, and else what its leaf or its children give.
use Rattle.std.proofs.Common.{◌≡◌, inl, inr, ℕ, zero, suc, ◌+◌, ◌<◌, ◌≤◌, Bool, true, false, cond, not, ◌&&◌, ◌||◌, nat_lt, nat_eq, List, [], ◌∷◌, filter, refl, ◌∙◌, arith, max, min, ◌-◌, ◌++◌, map, Option, sym, ap}
use Rattle.std.specs.List.{flat_map, range_with_len}
use Rattle.std.proofs.lemmas.Bool.{both_ways, cases_Bool, cases_lt, and_parts, or_parts, not-true, not-false, lt-ltb, le-ltb, ltb-true}
use Rattle.std.proofs.lemmas.Grind.{flat_map-append}
use Rattle.std.proofs.lemmas.List.{append-nil}
use Rattle.std.proofs.lemmas.List.Concat.{flat_map_single}
use Rattle.std.proofs.lemmas.List.Folds.{flat_map-map}
use Rattle.pd_kinds.specs.Graph.{is_outside, block_at}
use Rattle.pd_kinds.specs.Layout.{leaf_entries, node_entries_of}
use Rattle.pd_kinds.specs.Node.{Entry, entry_count, is_inner_node, key_at, child_at}
use Rattle.pd_laid.specs.Salvage.{is_damaged, child_low, child_high, Visit, entries_of_visit, visits}
use Rattle.pd_laid.proofs.GatherLemmas.{joined_twice, same_joined}
use Rattle.pd_tree.specs.Cursor.{item_of}
use Rattle.pd_tree.specs.Stack.{last_place, stacked}
use Rattle.pd_salvage.specs.declared.way.Range.{Range}
use Rattle.pd_salvage.specs.Range.{child_range, given_below, is_wanted, is_in_range, items_of_visit, saved_below}
use Rattle.pd_salvage.specs.declared.way.Way.{Way}
use Rattle.pd_salvage.specs.Way.{GivesEntry, PopsNode, PushesNode, SameWay, Left, entry, frontier, left_from, nodes, saved_on, told, told_on}

-- a range without keys has no key, nor has any part of it
out_of_range : (low high key : ℕ) → high ≤ low → (not (nat_lt key low) && nat_lt key high) ≡ false
out_of_range low high key empty = elim (cases_lt key low) [
  | inl below ↦ rw (lt-ltb key low below) refl
  | inr from ↦ let above : high ≤ key = omega arith in rw (le-ltb key low from, le-ltb key high above) refl
]

none_kept : (low high : ℕ) → high ≤ low → (xs : List Entry) → filter (λ (e : Entry). not (nat_lt e.key low) && nat_lt e.key high) xs ≡ []
none_kept low high empty [] = refl
none_kept low high empty (e ∷ xs) = rw (out_of_range low high e.key empty) (none_kept low high empty xs)

narrow : (last : Bool) (key next low high : ℕ) → high ≤ low → cond last high (min next high) ≤ max key low
narrow true key next low high empty = omega arith
narrow false key next low high empty = omega arith

module _ {X : Type 0} (given : Visit → List X) (size nr : ℕ) (image : List (List ℕ)) where
  pub none_deep : (b : ℕ) (range : Range) → given_below given size nr image 0 range b ≡ []
  unfolding visits
  none_deep b range = refl

  pub none_outside : (j b : ℕ) (range : Range) → is_outside nr b ≡ true → given_below given size nr image j range b ≡ []
  unfolding visits
  none_outside zero b range outside = refl
  none_outside (suc j) b range outside = rw outside refl

  damaged_if : (outside damaged : Bool) (xs : List Visit) → damaged ≡ true → cond (outside || damaged) [] xs ≡ []
  damaged_if true damaged xs is = refl
  damaged_if false damaged xs is = rw is refl

  pub none_damaged : (j b : ℕ) (range : Range) → is_damaged size b (block_at image b) ≡ true → given_below given size nr image j range b ≡ []
  unfolding visits
  none_damaged zero b range damaged = refl
  none_damaged (suc j) b range damaged = rw (damaged_if (is_outside nr b) (is_damaged size b (block_at image b)) _ damaged) refl

  -- a sound leaf gives what its visit does, and a sound inner node what stands below its children
  module _ (j b : ℕ) (range : Range) (inside : is_outside nr b ≡ false) where
    pub at_leaf : is_damaged size b (block_at image b) ≡ false → is_inner_node (block_at image b) ≡ false
        → given_below given size nr image (suc j) range b ≡ given (record { leaf = b; low = range.low; high = range.high })
    unfolding visits
    at_leaf sound leaf = rw (inside, sound, leaf) (append-nil (given (record { leaf = b; low = range.low; high = range.high })))

    pub at_inner : is_damaged size b (block_at image b) ≡ false → is_inner_node (block_at image b) ≡ true
        → given_below given size nr image (suc j) range b
        ≡ flat_map (λ i. given_below given size nr image j (child_range size (block_at image b) range i) (child_at (block_at image b) i)) (range_with_len 0 (entry_count size (block_at image b)))
    unfolding visits
    at_inner sound inner =
        let block = block_at image b in
        rw (inside, sound, inner)
        (joined_twice given (λ i. visits size nr image j (child_at block i) (child_low block range.low i) (child_high size block range.high i)) (range_with_len 0 (entry_count size block)))

  -- where visits without entries give nothing, nothing is given in a range without keys
  module _ (nothing : (v : Visit) → entries_of_visit size image v ≡ [] → given v ≡ []) where
    none_joined : (f : ℕ → List Visit) (a n : ℕ) → ((i : ℕ) → flat_map given (f i) ≡ []) → flat_map given (flat_map f (range_with_len a n)) ≡ []
    none_joined f a zero none = refl
    none_joined f a (suc n) none = flat_map-append given (f a) (flat_map f (range_with_len (a + 1) n)) ∙ rw (none a, none_joined f (a + 1) n none) refl

    none_empty : (j b low high : ℕ) → high ≤ low → flat_map given (visits size nr image j b low high) ≡ []
    unfolding visits
    none_empty zero b low high empty = refl
    none_empty (suc j) b low high empty = elim (cases_Bool (is_outside nr b || is_damaged size b (block_at image b))) [
      | inl out ↦ rw out refl
      | inr sound ↦ elim (cases_Bool (is_inner_node (block_at image b))) [
        | inl inner ↦ rw (sound, inner)
            (none_joined _ 0 (entry_count size (block_at image b)) (λ i.
            none_empty j (child_at (block_at image b) i) (child_low (block_at image b) low i) (child_high size (block_at image b) high i)
            (narrow (nat_eq (i + 1) (entry_count size (block_at image b))) (key_at (block_at image b) i) (key_at (block_at image b) (i + 1)) low high empty)))
        | inr leaf ↦ rw (sound, leaf)
            (append-nil (given (record { leaf = b; low = low; high = high }))
            ∙ nothing (record { leaf = b; low = low; high = high }) (none_kept low high empty (leaf_entries size (block_at image b))))
      ]
    ]

    -- what is not wanted has nothing
    pub unwanted : (j b : ℕ) (range : Range) → is_wanted nr b range ≡ false → given_below given size nr image j range b ≡ []
    unwanted j b range out = elim (cases_Bool (is_outside nr b)) [
      | inl outside ↦ none_outside j b range outside
      | inr inside ↦ elim (cases_lt range.low range.high) [
        | inl some ↦ absurd (both_ways (is_wanted nr b range) out (rw (inside, lt-ltb range.low range.high some) refl))
        | inr empty ↦ none_empty j b range.low range.high empty
      ]
    ]

-- what is wanted lies in the metadata
pub wanted : (nr b : ℕ) (range : Range) → is_wanted nr b range ≡ true → (is_outside nr b ≡ false) × (b < nr)
wanted nr b range in_it =
    let inside = not-true (is_outside nr b) (and_parts (not (is_outside nr b)) (nat_lt range.low range.high) in_it).0 in
    let parts = or_parts (nat_eq b 0) (not (nat_lt b nr)) inside in
    (inside, ltb-true b nr (not-false (nat_lt b nr) parts.1))

-- What is told of what is left on the way.

module _ {X : Type 0} (one : Entry → List X) (below : ℕ → Range → ℕ → List X) (size : ℕ) where
  -- where there is no node, nothing is left
  pub told_none : (way : Way) → way.stack.depth ≡ 0 → told_on one below size way ≡ []
  unfolding frontier stacked
  told_none way depth = rw depth refl

  -- a way that grew
  pub told_more : (old new : Way) (more : List Left) (xs : List X) → frontier size new ≡ more ++ frontier size old → flat_map (told one below) more ≡ xs
      → told_on one below size new ≡ xs ++ told_on one below size old
  told_more old new more xs left is = ap (flat_map (told one below)) left ∙ (flat_map-append (told one below) more (frontier size old) ∙ rw is refl)

-- a node that was pushed and popped left the way as it was
pub pushed_popped : (size : ℕ) (held : Option (List (List ℕ))) (b : ℕ) (range : Range) (old pushed popped : Way) → PushesNode size held b range old pushed → PopsNode pushed popped → SameWay size old popped
unfolding frontier
pushed_popped size held b range old pushed popped pushes pops =
    let depth : popped.stack.depth ≡ old.stack.depth = (let down = pushes.depth in let up = pops.depth in omega arith) in
    record {
      depth = depth;
      left = rw (depth, pops.places, pops.ranges) pushes.under;
      number = rw (depth, pops.places) pushes.number_under;
      knows = λ good image known. pops.knows good image (pushes.knows good image known);
    }

-- a sound inner node that was read is told as what is given below it
module _ {X : Type 0} (one : Entry → List X) (given : Visit → List X) (size nr : ℕ) (image : List (List ℕ)) where
  abbrev below : ℕ → Range → ℕ → List X
  below j range b = given_below given size nr image j range b

  told_nodes : (j : ℕ) (range : Range) (b : ℕ) → flat_map (told one below) (nodes j range b) ≡ below j range b
  told_nodes zero range b = sym (none_deep given size nr image b range)
  told_nodes (suc j) range b = append-nil (below (suc j) range b)

  pub told_inner : (i j b : ℕ) (range : Range) (block : List ℕ) → i ≡ suc j → block_at image b ≡ block → is_outside nr b ≡ false → is_damaged size b block ≡ false → is_inner_node block ≡ true
      → flat_map (told one below) (left_from size j range block 0) ≡ below i range b
  unfolding left_from
  told_inner i j b range block step is inside sound inner =
      let all : entry_count size block - 0 ≡ entry_count size block = omega arith in
      let children = range_with_len 0 (entry_count size block) in
      rw (step, inner, all)
      (joined_twice (told one below) (λ i. nodes j (child_range size block range i) (child_at block i)) children
      ∙ (same_joined (λ i. flat_map (told one below) (nodes j (child_range size block range i) (child_at block i))) (λ i. below j (child_range size block range i) (child_at block i)) 0 (entry_count size block)
      (λ i from within. told_nodes j (child_range size block range i) (child_at block i))
      ∙ sym (rw is at (at_inner given size nr image j b range inside (rw is sound) (rw is inner)))))

-- what is saved of what is left
module _ {X : Type 0} (size : ℕ) (decoded : ℕ → X) (nr : ℕ) (image : List (List ℕ)) where
  abbrev one : Entry → List (ℕ × X)
  one e = item_of decoded e ∷ []

  abbrev saved : ℕ → Range → ℕ → List (ℕ × X)
  saved j range b = saved_below size decoded nr image j range b

  -- nothing where there is no node, or of a block that is not wanted
  pub saved_none : (way : Way) → way.stack.depth ≡ 0 → saved_on size decoded nr image way ≡ []
  saved_none way depth = told_none one saved size way depth

  pub saved_unwanted : (j b : ℕ) (range : Range) → is_wanted nr b range ≡ false → saved_below size decoded nr image j range b ≡ []
  unfolding saved_below
  saved_unwanted j b range out = unwanted (items_of_visit size decoded image) size nr image (λ v none. ap (map (item_of decoded)) none) j b range out

  -- a damaged node that was read leaves all as it was
  pub saved_damaged : (j b : ℕ) (range : Range) (old new : Way) → SameWay size old new → is_damaged size b (block_at image b) ≡ true
      → saved_on size decoded nr image new ≡ saved_below size decoded nr image j range b ++ saved_on size decoded nr image old
  unfolding saved_below
  saved_damaged j b range old new same damaged = rw (none_damaged (items_of_visit size decoded image) size nr image j b range damaged) (ap (flat_map (told one saved)) same.left)

  -- a sound node that was read is told as what is saved below it
  told_sound : (i j b : ℕ) (range : Range) (block : List ℕ) → i ≡ suc j → block_at image b ≡ block → is_outside nr b ≡ false → is_damaged size b block ≡ false
      → flat_map (told one saved) (left_from size j range block 0) ≡ saved_below size decoded nr image i range b
  unfolding saved_below left_from leaf_entries node_entries_of
  told_sound i j b range block step is inside sound = elim (cases_Bool (is_inner_node block)) [
    | inl inner ↦ told_inner one (items_of_visit size decoded image) size nr image i j b range block step is inside sound inner
    | inr leaf ↦
        let all : entry_count size block - 0 ≡ entry_count size block = omega arith in
        let kept = filter (λ (e : Entry). is_in_range range e.key) (node_entries_of size block) in
        rw (step, leaf, all)
        (flat_map-map (told one saved) entry kept
        ∙ (flat_map_single (item_of decoded) kept
        ∙ sym (at_leaf (items_of_visit size decoded image) size nr image j b range inside (rw is sound) (rw is leaf) ∙ rw (is, leaf) refl)))
  ]

  pub saved_pushed : (held : Option (List (List ℕ))) (b : ℕ) (range : Range) (old new : Way) → PushesNode size held b range old new → old.stack.depth < 64
      → block_at image b ≡ (last_place new.stack).block.0 → is_outside nr b ≡ false → is_damaged size b (last_place new.stack).block.0 ≡ false
      → saved_on size decoded nr image new ≡ saved_below size decoded nr image (64 - old.stack.depth) range b ++ saved_on size decoded nr image old
  saved_pushed held b range old new pushes room read inside sound =
      told_more one saved size old new _ _ pushes.left
      (told_sound (64 - old.stack.depth) (63 - old.stack.depth) b range (last_place new.stack).block.0 (omega arith) read inside sound)

  -- a step
  pub saved_entry : (fitting : X → Bool) (key : ℕ) (value : X) (old new : Way) → GivesEntry size decoded fitting key value old new
      → saved_on size decoded nr image old ≡ (key, value) ∷ saved_on size decoded nr image new
  saved_entry fitting key value old new gives = rw gives.is (ap (flat_map (told one saved)) gives.left)
