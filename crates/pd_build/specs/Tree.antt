-- What a builder of a tree still writes.
-- The parts of an even spread by their sizes, as one who is given the items one by one needs them.
-- A row of nodes, by the least key and the place of each.
-- What a builder of leaves still writes.
use Rattle.std.specs.Prelude.{ℕ, zero, suc, ◌+◌, ◌-◌, ◌/◌, List, [], ◌∷◌, take, drop, ◌≡◌, ◌⊎◌, ◌*◌, ◌<◌, ◌≤◌, ◌++◌, length, sum, Option, Some, None, Bool, true, nat_eq, if◌then◌else◌, map}
use Rattle.std.specs.List.{All, AllByRecursion}
use Rattle.pd_kinds.specs.Node.{Entry, leaf_block, is_ascending, inner_block}
use Rattle.pd_grammar.specs.Need.{nodes_for, need_above}
use Rattle.pd_laid.specs.Laid.{heads, blocks_from, levels_above, root_above}
use Rattle.pd_node.specs.Items.{entries_of, keys_of}
use Rattle.pd_draft.specs.Closed.{DraftState, Wrote}

-- the sizes of k even parts of n elements
unfoldable pub even_sizes : ℕ → ℕ → List ℕ
even_sizes zero n = []
even_sizes (suc k) n = (n + k) / suc k ∷ even_sizes k (n - (n + k) / suc k)

-- a list cut into parts of these sizes
unfoldable pub cut : {X : Type 0} → List ℕ → List X → List (List X)
cut [] xs = []
cut (c ∷ sizes) xs = take c xs ∷ cut sizes (drop c xs)

-- a row of keys and places
abbrev pub link_entries : List (ℕ × ℕ) → List Entry
link_entries items = entries_of (λ child. child) items

-- a builder of leaves: the sizes of the leaves that are to come, the items of the first of them that were put,
-- and the least key that may come
pub record LeavesLeft : Type 0 where
  pub sizes : List ℕ
  pub begun : List Entry
  pub low : ℕ

-- how many items are to come
abbrev pub items_to_come : LeavesLeft → ℕ
items_to_come b = sum b.sizes - length b.begun

-- the leaves that are written yet, where these items come
abbrev pub leaves_to_come : LeavesLeft → List Entry → List (List Entry)
leaves_to_come b items = cut b.sizes (b.begun ++ items)

-- the leaf that an item ends, where it ends one
abbrev pub leaf_ended : LeavesLeft → Entry → Option (ℕ × ℕ) → List (List Entry)
leaf_ended b e None = []
leaf_ended b e (Some head) = (b.begun ++ e ∷ []) ∷ []

-- what is answered of it
abbrev pub row_entry : Option (ℕ × ℕ) → List Entry
row_entry None = []
row_entry (Some head) = record { key = head.0; value = head.1 } ∷ []

-- what is begun then
abbrev pub begun_then : LeavesLeft → Entry → Option (ℕ × ℕ) → List Entry
begun_then b e None = b.begun ++ e ∷ []
begun_then b e (Some head) = []

-- how many items the first leaf has that is to come
abbrev pub size_of_first : List ℕ → ℕ
size_of_first [] = 0
size_of_first (size ∷ sizes) = size

-- a head is answered exactly where the item ends a leaf
abbrev pub EndsWhereFull : LeavesLeft → Option (ℕ × ℕ) → Type 0
EndsWhereFull b None = length b.begun + 1 < size_of_first b.sizes
EndsWhereFull b (Some head) = length b.begun + 1 ≡ size_of_first b.sizes

-- an item that wasn't taken: all is as it was, or the leaf that it ends is lost
abbrev pub LosesLeaf : LeavesLeft → Entry → LeavesLeft → Type 0
LosesLeaf old e new = (new ≡ old) ⊎ ((new.begun ≡ []) × (new.low ≡ e.key + 1))

-- an item was taken: the leaf that it ends was written, and the others are to come as they were
pub record TakesItem (size : ℕ) (e : Entry) (head : Option (ℕ × ℕ)) (old new : LeavesLeft) (from to : DraftState) : Type 0 where
  pub ends : EndsWhereFull old head
  pub to_come : (items : List Entry) → leaves_to_come old (e ∷ items) ≡ leaf_ended old e head ++ leaves_to_come new items
  pub wrote : Wrote (blocks_from (leaf_block size) from.place (leaf_ended old e head)) from to
  pub heads_are : heads from.place (leaf_ended old e head) ≡ row_entry head
  pub number : items_to_come new + 1 ≡ items_to_come old
  pub leaves : length (leaf_ended old e head) + length new.sizes ≡ length old.sizes
  pub raised : new.low ≡ e.key + 1
  pub begun_is : new.begun ≡ begun_then old e head

-- the least key above the last one
abbrev pub low_of : Option ℕ → ℕ
low_of None = 0
low_of (Some last) = last + 1

-- the least key above the last of these entries, and `low` where there is none
abbrev pub low_after : ℕ → List Entry → ℕ
low_after low [] = low
low_after low (e ∷ entries) = low_after (e.key + 1) entries

-- the numbers of a builder: so many leaves of at most so many items, and the size of the first
pub record AreCounts (most leaves items size begun : ℕ) : Type 0 where
  pub some : leaves ≤ items
  pub few : items ≤ leaves * most
  pub none : leaves ≡ 0 → begun ≡ 0
  pub sized : 1 ≤ leaves → size ≡ nodes_for leaves items
  pub begun_less : 1 ≤ leaves → begun < size

-- items whose keys ascend below a bound, and whose values fit
pub record AreInOrder {X : Type 0} (fitting : X → Bool) (items : List (ℕ × X)) (low : ℕ) : Type 0 where
  pub ascending : is_ascending (keys_of items) ≡ true
  pub below : AllByRecursion (λ k. k < low) (keys_of items)
  pub fit : All (λ (item : ℕ × X). fitting item.1 ≡ true) items

-- a builder of a tree: its leaves, and the keys and places of those that were written
pub record TreeLeft : Type 0 where
  pub leaves : LeavesLeft
  pub heads : List Entry

-- all its leaves
abbrev pub leaf_number : TreeLeft → ℕ
leaf_number t = length t.heads + length t.leaves.sizes

-- the leaves that are written yet, where these items come: of a tree without items the one empty leaf
abbrev pub leaves_left : TreeLeft → List Entry → List (List Entry)
leaves_left t items = if nat_eq (leaf_number t) 0 then [] ∷ [] else leaves_to_come t.leaves items

-- all blocks that are written yet from a place on
unfoldable pub blocks_left : ℕ → ℕ → TreeLeft → List Entry → List (List ℕ)
blocks_left size place t items =
    let leaves = leaves_left t items in
    blocks_from (leaf_block size) place leaves
    ++ blocks_from inner_block (place + length leaves) (levels_above 10 (place + length leaves) (t.heads ++ heads place leaves))

-- the root
unfoldable pub root_left : ℕ → TreeLeft → List Entry → ℕ
root_left place t items =
    let leaves = leaves_left t items in
    root_above (place + length leaves) (t.heads ++ heads place leaves)

-- how many blocks these are
unfoldable pub number_left : TreeLeft → ℕ
number_left t = if nat_eq (leaf_number t) 0 then 1 else length t.leaves.sizes + need_above 10 (leaf_number t)

-- an item was taken: what was written then, and what is left, are what was left
pub record Grows (size : ℕ) (e : Entry) (old new : TreeLeft) (from to : DraftState) : Type 0 where
  pub written : List (List ℕ)
  pub wrote : Wrote written from to
  pub blocks : (items : List Entry) → blocks_left size from.place old (e ∷ items) ≡ written ++ blocks_left size to.place new items
  pub root : (items : List Entry) → root_left from.place old (e ∷ items) ≡ root_left to.place new items
  pub items : items_to_come new.leaves + 1 ≡ items_to_come old.leaves
  pub room : to.place + number_left new ≡ from.place + number_left old
  pub raised : new.leaves.low ≡ e.key + 1

-- the keys ascend, below the least one that may come
pub record AreKeysInOrder (leaves : LeavesLeft) (heads_are : List Entry) : Type 0 where
  pub ascending : is_ascending (map (λ (e : Entry). e.key) (heads_are ++ leaves.begun)) ≡ true
  pub below : AllByRecursion (λ k. k < leaves.low) (map (λ (e : Entry). e.key) (heads_are ++ leaves.begun))
