-- What is left on the way down a tree, told without any image: what was read gives its entries and names its children.
-- The blocks that are known to stand in the places of the way.
-- How the way grows by a node and loses one, and what a step on it takes.
use Rattle.std.specs.Prelude.{ℕ, zero, suc, ◌-◌, if◌then◌else◌, List, [], ◌∷◌, map, filter, slice_index_or, ◌≡◌, ◌<◌, ◌≤◌, Bool, true, not, ◌+◌, false, ◌++◌, Option, None, IfSome}
use Rattle.std.specs.List.{flat_map, range_with_len}
use Rattle.pd_kinds.specs.Node.{Entry, entry_count, is_inner_node, key_at, value_at, child_at}
use Rattle.pd_kinds.specs.Graph.{block_at}
use Rattle.pd_laid.specs.Salvage.{is_damaged}
use Rattle.pd_tree.specs.declared.stack.NodePlace.{NodePlace}
use Rattle.pd_tree.specs.Cursor.{item_of}
use Rattle.pd_tree.specs.Stack.{stacked, stack_number, last_place, place_at, child_weight, weigh}
use Rattle.pd_salvage.specs.declared.way.Range.{Range}
use Rattle.pd_salvage.specs.declared.way.Way.{Way}
use Rattle.pd_salvage.specs.Range.{child_range, is_in_range, saved_below}
use Rattle.pd_salvage.specs.declared.way.Taken.{Taken}
use Rattle.pd_salvage.specs.declared.way.Taken.TheVariants as t

-- an entry of a leaf, or a block that an inner node names: paths of at most so many nodes lead on to it, in a range of keys
pub data Left : Type 0 where
  entry : Entry → Left
  node : ℕ → Range → ℕ → Left

-- a block as far as paths lead on
abbrev pub nodes : ℕ → Range → ℕ → List Left
nodes zero range b = []
nodes (suc j) range b = node (suc j) range b ∷ []

-- what a node gives from one on: a leaf its entries in the range, and an inner node its children
unfoldable pub left_from : ℕ → ℕ → Range → List ℕ → ℕ → List Left
left_from size j range block next =
    if is_inner_node block
    then flat_map (λ i. nodes j (child_range size block range i) (child_at block i)) (range_with_len next (entry_count size block - next))
    else map entry (filter (λ (e : Entry). is_in_range range e.key)
    (map (λ i. record { key = key_at block i; value = value_at size block i }) (range_with_len next (entry_count size block - next))))

-- the range beside the node at a depth
abbrev pub no_range : Range
no_range = record { low = 0; high = 0 }

abbrev pub range_at : List Range → ℕ → Range
range_at ranges d = slice_index_or ranges d no_range

-- what is left at the place of a depth: a path has at most 64 nodes
abbrev pub left_at : ℕ → List Range → ℕ → NodePlace → List Left
left_at size ranges d place = left_from size (63 - d) (range_at ranges d) place.block.0 place.next

-- what is left at the first places, and all that is left
abbrev pub left_to : ℕ → Way → ℕ → List Left
left_to size way d = stacked (left_at size way.ranges.items) way.stack.places.items d

unfoldable pub frontier : ℕ → Way → List Left
frontier size way = left_to size way way.stack.depth

-- a number that falls with each step
abbrev pub way_number : ℕ → Way → ℕ
way_number size way = stack_number size way.stack

-- what is given of what is left, where it is known what an entry gives, and what is given below a block
abbrev pub told : {X : Type 0} → (Entry → List X) → (ℕ → Range → ℕ → List X) → Left → List X
told one below (entry e) = one e
told one below (node j range b) = below j range b

abbrev pub told_on : {X : Type 0} → (Entry → List X) → (ℕ → Range → ℕ → List X) → ℕ → Way → List X
told_on one below size way = flat_map (told one below) (frontier size way)

-- the entries that are saved of it
abbrev pub saved_on : {X : Type 0} → ℕ → (ℕ → X) → ℕ → List (List ℕ) → Way → List (ℕ × X)
saved_on size decoded nr image way = told_on (λ e. item_of decoded e ∷ []) (saved_below size decoded nr image) size way

-- a place holds the block of this number, which is a good one there
pub record HoldsBlock (good : ℕ → List ℕ → Bool) (image : List (List ℕ)) (b : ℕ) (place : NodePlace) : Type 0 where
  pub read : block_at image b ≡ place.block.0
  pub is_good : good b place.block.0 ≡ true

-- the number of the block that is known at a depth
abbrev pub number_at : Way → ℕ → ℕ
number_at way d = slice_index_or way.blocks.items d 0

-- each place that is known holds the block with its number
abbrev pub KnowsPlaces : (ℕ → List ℕ → Bool) → List (List ℕ) → Way → Type 0
KnowsPlaces good image way = (d : ℕ) → way.from ≤ d → d < way.known → HoldsBlock good image (number_at way d) (place_at way.stack.places.items d)

-- what is known may be less, but it is still so
abbrev pub KeepsKnown : Way → Way → Type 0
KeepsKnown old new = (good : ℕ → List ℕ → Bool) (image : List (List ℕ)) → KnowsPlaces good image old → KnowsPlaces good image new

-- what is known holds of any image
abbrev pub KnowsNothing : Way → Type 0
KnowsNothing way = (good : ℕ → List ℕ → Bool) (image : List (List ℕ)) → KnowsPlaces good image way

-- the nodes stay, and nothing is known of their places
pub record Forgets (old new : Way) : Type 0 where
  pub stack : new.stack ≡ old.stack
  pub ranges : new.ranges ≡ old.ranges
  pub knows : KnowsNothing new

-- the nodes stay, and the place of the last one may be known, where it holds the block
pub record KeepsNode (b : ℕ) (old new : Way) : Type 0 where
  pub stack : new.stack ≡ old.stack
  pub ranges : new.ranges ≡ old.ranges
  pub knows : (good : ℕ → List ℕ → Bool) (image : List (List ℕ)) → KnowsPlaces good image old → HoldsBlock good image b (last_place old.stack) → KnowsPlaces good image new

-- nodes that are undamaged
abbrev pub is_undamaged : ℕ → ℕ → List ℕ → Bool
is_undamaged size b block = not (is_damaged size b block)

abbrev pub KnowsUndamaged : ℕ → List (List ℕ) → Way → Type 0
KnowsUndamaged size image way = KnowsPlaces (is_undamaged size) image way

-- a block was read into the next place
pub record PushesNode (size : ℕ) (held : Option (List (List ℕ))) (b : ℕ) (range : Range) (old new : Way) : Type 0 where
  pub depth : new.stack.depth ≡ old.stack.depth + 1
  pub read : IfSome held (λ image. block_at image b ≡ (last_place new.stack).block.0)
  pub under : left_to size new old.stack.depth ≡ frontier size old
  pub left : frontier size new ≡ left_from size (63 - old.stack.depth) range (last_place new.stack).block.0 0 ++ frontier size old
  pub number : way_number size new < way_number size old + child_weight (64 - old.stack.depth)
  pub number_under : weigh size new.stack.places.items old.stack.depth ≡ way_number size old
  pub knows : KeepsKnown old new

-- the block stood in the next place, and was taken once more
pub record TakesNode (size b : ℕ) (range : Range) (old new : Way) : Type 0 where
  pub pushes : PushesNode size None b range old new
  pub holds : (good : ℕ → List ℕ → Bool) (image : List (List ℕ)) → KnowsPlaces good image old → HoldsBlock good image b (last_place new.stack)

abbrev pub TakesAgain : ℕ → Bool → ℕ → Range → Way → Way → Type 0
TakesAgain size true b range old new = TakesNode size b range old new
TakesAgain size false b range old new = new ≡ old

-- the last node was forgotten
pub record PopsNode (old new : Way) : Type 0 where
  pub depth : new.stack.depth + 1 ≡ old.stack.depth
  pub places : new.stack.places ≡ old.stack.places
  pub ranges : new.ranges ≡ old.ranges
  pub knows : KeepsKnown old new

-- the same is left
pub record SameWay (size : ℕ) (old new : Way) : Type 0 where
  pub depth : new.stack.depth ≡ old.stack.depth
  pub left : frontier size new ≡ frontier size old
  pub number : way_number size new ≡ way_number size old
  pub knows : KeepsKnown old new

-- nothing was taken, and the same is left
pub record Passes (size : ℕ) (old new : Way) : Type 0 where
  pub left : frontier size old ≡ frontier size new
  pub number : way_number size new < way_number size old

-- a child was taken, for which there is room
pub record GoesDown (size b : ℕ) (range : Range) (old new : Way) : Type 0 where
  pub room : new.stack.depth < 64
  pub left : frontier size old ≡ node (64 - new.stack.depth) range b ∷ frontier size new
  pub number : way_number size new + child_weight (64 - new.stack.depth) ≤ way_number size old

-- an entry was taken, whose value has a number
pub record GivesEntry {X : Type 0} (size : ℕ) (decoded : ℕ → X) (fitting : X → Bool) (key : ℕ) (value : X) (old new : Way) : Type 0 where
  pub coded : ℕ
  pub is : value ≡ decoded coded
  pub left : frontier size old ≡ entry (record { key = key; value = coded }) ∷ frontier size new
  pub fits : fitting value ≡ true
  pub number : way_number size new < way_number size old

abbrev pub StepsOnWay : {X : Type 0} → ℕ → (ℕ → X) → (X → Bool) → Taken X → Way → Way → Type 0
StepsOnWay size decoded fitting t.Passed old new = Passes size old new
StepsOnWay size decoded fitting (t.Child b range) old new = GoesDown size b range old new
StepsOnWay size decoded fitting (t.Entry key value) old new = GivesEntry size decoded fitting key value old new
