-- The blocks of a space map from a place on, by the counts that it stores.
-- The blocks that a map counts as its own.
use Rattle.std.specs.Prelude.{ℕ, ◌+◌, ◌*◌, ◌==◌, not, List, ◌∷◌, ◌++◌, length, map, ◌≡◌, ◌⊎◌, ◌<◌, ◌≤◌}
use Rattle.std.specs.List.{count_by, range_with_len}
use Rattle.pd_kinds.specs.Bitmap.{bitmap_salt, index_salt, placed_block, unsealed_index, bitmaps_for}
use Rattle.pd_kinds.specs.declared.superblocks.SmRoot.{SmRoot}
use Rattle.pd_grammar.specs.Need.{need_tree}
use Rattle.pd_laid.specs.Laid.{blocks_from, tree_blocks, tree_root, bitmap_of, index_entry_of, index_items, overflow_items}
use Rattle.pd_count.specs.Counted.{Counted, count_of, HasCounted}

-- bitmap i as it is written
abbrev pub written_bitmap : (ℕ → ℕ) → ℕ → ℕ → List ℕ
written_bitmap counts place i = placed_block bitmap_salt place (bitmap_of (λ e. counts (16320 * i + e)))

-- the bitmaps of n blocks
unfoldable pub bitmap_blocks : (ℕ → ℕ) → ℕ → ℕ → List (List ℕ)
bitmap_blocks counts n place = blocks_from (written_bitmap counts) place (range_with_len 0 (bitmaps_for n))

-- how many of the blocks below n have a count
unfoldable pub allocated_of : (ℕ → ℕ) → ℕ → ℕ
allocated_of counts n = count_by (λ b. not (counts b == 0)) (range_with_len 0 n)

-- how many blocks the tree of the counts of 3 and more has
abbrev pub overflow_need : (ℕ → ℕ) → ℕ → ℕ
overflow_need counts n = need_tree 4 (length (overflow_items counts n))

-- The map of n data blocks: its bitmaps, the tree of their index, and the tree of the counts of 3 and more.

-- where the two trees begin
abbrev pub index_at : ℕ → ℕ → ℕ
index_at n place = place + bitmaps_for n

abbrev pub overflow_at : ℕ → ℕ → ℕ
overflow_at n place = index_at n place + need_tree 16 (bitmaps_for n)

unfoldable pub data_map_blocks : (ℕ → ℕ) → ℕ → ℕ → List (List ℕ)
data_map_blocks counts n place =
    bitmap_blocks counts n place
    ++ (tree_blocks 16 (index_at n place) (index_items counts n place)
    ++ tree_blocks 4 (overflow_at n place) (overflow_items counts n))

-- how many blocks these are
unfoldable pub data_map_need : (ℕ → ℕ) → ℕ → ℕ
data_map_need counts n = bitmaps_for n + (need_tree 16 (bitmaps_for n) + overflow_need counts n)

-- its root, as the superblock has it
abbrev pub data_map_root : (ℕ → ℕ) → ℕ → ℕ → SmRoot
data_map_root counts n place = record {
  blocks = n;
  allocated = allocated_of counts n;
  bitmap_root = tree_root 16 (index_at n place) (index_items counts n place);
  overflow_root = tree_root 4 (overflow_at n place) (overflow_items counts n);
}

-- The map of n metadata blocks: the index block, its bitmaps, and the tree of the counts of 3 and more.

-- the index block, for bitmaps from the next place on
unfoldable pub index_block : (ℕ → ℕ) → ℕ → ℕ → List ℕ
index_block counts n place =
    placed_block index_salt place (unsealed_index (map (index_entry_of counts n (place + 1)) (range_with_len 0 (bitmaps_for n))))

-- where the tree begins
abbrev pub meta_overflow_at : ℕ → ℕ → ℕ
meta_overflow_at n place = place + 1 + bitmaps_for n

unfoldable pub meta_map_blocks : (ℕ → ℕ) → ℕ → ℕ → List (List ℕ)
meta_map_blocks counts n place =
    index_block counts n place
    ∷ (bitmap_blocks counts n (place + 1) ++ tree_blocks 4 (meta_overflow_at n place) (overflow_items counts n))

-- how many blocks these are
unfoldable pub meta_map_need : (ℕ → ℕ) → ℕ → ℕ
meta_map_need counts n = 1 + (bitmaps_for n + overflow_need counts n)

-- its root, as the superblock has it
abbrev pub meta_map_root : (ℕ → ℕ) → ℕ → ℕ → SmRoot
meta_map_root counts n place = record {
  blocks = n;
  allocated = allocated_of counts n;
  bitmap_root = place;
  overflow_root = tree_root 4 (meta_overflow_at n place) (overflow_items counts n);
}

-- none of so many blocks from a place on was counted
abbrev pub HasNone : Counted → ℕ → ℕ → Type 0
HasNone counts place number = (b : ℕ) → place ≤ b → b < place + number → count_of counts b ≡ 0

-- so many blocks from a place on, of which none was counted, were counted once each, and no other one
pub record CountsOwn (place number : ℕ) (old new : Counted) : Type 0 where
  pub size : new.size ≡ old.size
  pub own : (b : ℕ) → place ≤ b → b < place + number → count_of new b ≡ 1
  pub others : (b : ℕ) → (b < place) ⊎ (place + number ≤ b) → count_of new b ≡ count_of old b
  pub listed : (named : List ℕ) → HasCounted old named → HasCounted new (named ++ range_with_len place number)
