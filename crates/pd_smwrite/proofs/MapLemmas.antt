-- The parts of a map, put together.
use Rattle.std.proofs.Common.{◌≡◌, ℕ, ◌+◌, ◌%◌, ◌^◌, ◌<◌, ◌≤◌, List, [], ◌∷◌, ◌++◌, length, sym, ◌∙◌, ap, ap₂, subst, arith, zero, suc, true, nat_lt, map, drop, get_or, refl}
use Rattle.std.specs.List.{range_with_len}
use Rattle.std.proofs.Math.Path.{fun_ext}
use Rattle.std.proofs.lemmas.List.FromFn.{length-range_with_len, length-map-range_with_len, get_or-map-range_with_len}
use Rattle.std.proofs.lemmas.Bool.{and_from, lt-ltb}
use Rattle.std.proofs.lemmas.List.{drop_all, length-map, map-append}
use Rattle.pd_kinds.specs.declared.superblocks.SmRoot.{SmRoot}
use Rattle.pd_kinds.specs.Bitmap.{bitmaps_for}
use Rattle.pd_kinds.specs.Layout.{plain_tree, tree_to, Tree}
use Rattle.pd_kinds.specs.Node.{Entry, is_ascending}
use Rattle.pd_grammar.specs.Need.{need_tree}
use Rattle.pd_laid.specs.Laid.{LaidBlock, count_in, laid_tree, tree_of, written_from, blocks_from, tree_blocks, index_items, laid_bitmap, laid_bitmaps, laid_index, laid_meta_map, meta_counts, meta_map_number, meta_overflow, meta_overflow_blocks, overflow_items, index_entry_of, tree_root}
use Rattle.pd_laid.proofs.LaidLemmas.{blocks_from-append, blocks_from-map, tree_written}
use Rattle.pd_laid.proofs.NeedLemmas.{length-bitmaps, length-tree, length-tree_blocks}
use Rattle.pd_laid.proofs.PartSizes.{index_number}
use Rattle.pd_laid.specs.LaidThin.{bitmap_blocks as pool_bitmaps, bitmaps_at, data_counts, data_index, data_overflow, index_at as pool_index_at, index_blocks as pool_index, overflow_at as pool_overflow_at, overflow_blocks as pool_overflow, pool_fields}
use Rattle.pd_laid.specs.Shape.{ThinShape}
use Rattle.pd_draft.specs.Closed.{DraftState, Wrote}
use Rattle.pd_draft.proofs.DraftLemmas.{wrote_then}
use Rattle.pd_count.specs.Counted.{Counted, count_of, HasCounted}
use Rattle.pd_build.proofs.RowLemmas.{moved_by}
use Rattle.pd_build.specs.Building.{IsBuilding}
use Rattle.pd_build.specs.Tree.{TreeLeft}
use Rattle.pd_build.proofs.BuildingLemmas.{building_at}
use Rattle.pd_smwrite.specs.Map.{bitmap_blocks, data_map_blocks, index_at, index_block, meta_map_blocks, meta_map_need, overflow_at, written_bitmap, meta_overflow_at as overflow_behind, CountsOwn, allocated_of, data_map_root}
use Rattle.pd_smwrite.proofs.OverflowLemmas.{overflow_agrees}
use Rattle.pd_smwrite.proofs.OwnLemmas.{own_agrees}
use Rattle.pd_smwrite.proofs.FreeLemmas.{range_more}

-- a root of these numbers
abbrev pub root_of : ℕ → ℕ → ℕ → ℕ → SmRoot
root_of blocks allocated bitmap overflow = record { blocks = blocks; allocated = allocated; bitmap_root = bitmap; overflow_root = overflow }

-- where the next part begins
pub bitmaps_moved : (counts : ℕ → ℕ) (n : ℕ) {from to : DraftState} → Wrote (bitmap_blocks counts n from.place) from to → to.place ≡ from.place + bitmaps_for n
unfolding bitmap_blocks
bitmaps_moved counts n {from} {to} wrote =
    moved_by (written_bitmap counts) (range_with_len 0 (bitmaps_for n)) wrote ∙ ap (λ (k : ℕ). from.place + k) (length-range_with_len 0 (bitmaps_for n))

pub index_moved : (counts : ℕ → ℕ) (n first : ℕ) {from to : DraftState} → Wrote (tree_blocks 16 from.place (index_items counts n first)) from to
    → to.place ≡ from.place + need_tree 16 (bitmaps_for n)
index_moved counts n first {from} {to} wrote =
    wrote.moved ∙ ap (λ (k : ℕ). from.place + k)
    (length-tree_blocks 16 from.place (index_items counts n first) ∙ ap (need_tree 16) (index_number counts n first))

-- the parts of a data map
pub data_map_then : (counts : ℕ → ℕ) (n : ℕ) {a b c d : DraftState} → Wrote (bitmap_blocks counts n a.place) a b
    → Wrote (tree_blocks 16 b.place (index_items counts n a.place)) b c → Wrote (tree_blocks 4 c.place (overflow_items counts n)) c d
    → Wrote (data_map_blocks counts n a.place) a d
unfolding data_map_blocks
data_map_then counts n {a} {b} {c} {d} first second third =
    let index : b.place ≡ index_at n a.place = bitmaps_moved counts n first in
    let over : c.place ≡ overflow_at n a.place = index_moved counts n a.place second ∙ ap (λ (p : ℕ). p + need_tree 16 (bitmaps_for n)) index in
    subst (λ (blocks : List (List ℕ)). Wrote blocks a d)
    (ap₂ (λ (p q : ℕ). bitmap_blocks counts n a.place ++ (tree_blocks 16 p (index_items counts n a.place) ++ tree_blocks 4 q (overflow_items counts n))) index over)
    (wrote_then first (wrote_then second third))

-- those of a metadata map
pub meta_map_then : (counts : ℕ → ℕ) (n : ℕ) {a b c d : DraftState} → Wrote (index_block counts n a.place ∷ []) a b
    → Wrote (bitmap_blocks counts n b.place) b c → Wrote (tree_blocks 4 c.place (overflow_items counts n)) c d
    → Wrote (meta_map_blocks counts n a.place) a d
unfolding meta_map_blocks
meta_map_then counts n {a} {b} {c} {d} first second third =
    let behind : b.place ≡ a.place + 1 = first.moved in
    let over : c.place ≡ overflow_behind n a.place = bitmaps_moved counts n second ∙ ap (λ (p : ℕ). p + bitmaps_for n) behind in
    subst (λ (blocks : List (List ℕ)). Wrote blocks a d)
    (ap₂ (λ (p q : ℕ). index_block counts n a.place ∷ (bitmap_blocks counts n p ++ tree_blocks 4 q (overflow_items counts n))) behind over)
    (wrote_then first (wrote_then second third))

-- laid bitmaps, as they are written
pub bitmaps_written : (role : ℕ) (counts : ℕ → ℕ) (n place : ℕ) → written_from place (laid_bitmaps role counts n) ≡ bitmap_blocks counts n place
unfolding laid_bitmaps bitmap_blocks
bitmaps_written role counts n place =
    blocks_from-map (λ at (b : LaidBlock). b.written at) (laid_bitmap role counts) place (range_with_len 0 (bitmaps_for n))

-- a data map in its roles, as it is laid
abbrev pub data_parts : ℕ → ℕ → ℕ → (ℕ → ℕ) → ℕ → ℕ → List LaidBlock
data_parts index bitmap over counts n place =
    laid_bitmaps bitmap counts n
    ++ (laid_tree index (tree_of (tree_to 16 bitmap (λ v. v % 2 ^ 64))) (index_at n place) (index_items counts n place)
    ++ laid_tree over (tree_of (plain_tree 4)) (overflow_at n place) (overflow_items counts n))

pub data_parts_written : (index bitmap over : ℕ) (counts : ℕ → ℕ) (n place : ℕ) → written_from place (data_parts index bitmap over counts n place) ≡ data_map_blocks counts n place
unfolding data_map_blocks
data_parts_written index bitmap over counts n place =
    let write : ℕ → LaidBlock → List ℕ = λ at b. b.written at in
    let join = λ (front back : List (List ℕ)). front ++ back in
    let index_tree = tree_of (tree_to 16 bitmap (λ v. v % 2 ^ 64)) in
    let maps = laid_bitmaps bitmap counts n in
    let first = laid_tree index index_tree (index_at n place) (index_items counts n place) in
    let last = laid_tree over (tree_of (plain_tree 4)) (overflow_at n place) (overflow_items counts n) in
    let number = length-tree index index_tree (index_at n place) (index_items counts n place) ∙ ap (need_tree 16) (index_number counts n place) in
    blocks_from-append write place maps (first ++ last)
    ∙ ap₂ join (bitmaps_written bitmap counts n place)
    (ap (λ (k : ℕ). written_from (place + k) (first ++ last)) (length-bitmaps bitmap counts n)
    ∙ (blocks_from-append write (index_at n place) first last
    ∙ ap₂ join (tree_written index index_tree (index_at n place) (index_items counts n place))
    (ap (λ (k : ℕ). written_from (index_at n place + k) last) number ∙ tree_written over (tree_of (plain_tree 4)) (overflow_at n place) (overflow_items counts n))))

-- and a metadata map, with the items of its overflow tree
abbrev pub meta_parts : ℕ → ℕ → (ℕ → ℕ) → List Entry → ℕ → ℕ → List LaidBlock
meta_parts index over counts items n place =
    laid_index index counts n (place + 1) ∷ (laid_bitmaps (index + 1) counts n ++ laid_tree over (tree_of (plain_tree 4)) (overflow_behind n place) items)

pub meta_parts_written : (index over : ℕ) (counts : ℕ → ℕ) (n place : ℕ)
    → written_from place (meta_parts index over counts (overflow_items counts n) n place) ≡ meta_map_blocks counts n place
unfolding meta_map_blocks index_block blocks_from
meta_parts_written index over counts n place =
    let write : ℕ → LaidBlock → List ℕ = λ at b. b.written at in
    let maps = laid_bitmaps (index + 1) counts n in
    let last = laid_tree over (tree_of (plain_tree 4)) (overflow_behind n place) (overflow_items counts n) in
    ap (λ (blocks : List (List ℕ)). index_block counts n place ∷ blocks)
    (blocks_from-append write (place + 1) maps last
    ∙ ap₂ (λ (front back : List (List ℕ)). front ++ back) (bitmaps_written (index + 1) counts n (place + 1))
    (ap (λ (k : ℕ). written_from (place + 1 + k) last) (length-bitmaps (index + 1) counts n)
    ∙ tree_written over (tree_of (plain_tree 4)) (overflow_behind n place) (overflow_items counts n)))

-- a laid metadata map, as it is written: the counts before it was counted, and after
module _ (role n place : ℕ) (named : List ℕ) (before after : ℕ → ℕ) (listed : count_in named ≡ before) where
  over_is : meta_overflow n named ≡ overflow_items before n
  over_is = ap (λ (f : ℕ → ℕ). overflow_items f n) listed

  number_is : meta_map_number role n place named ≡ meta_map_need before n
  unfolding meta_overflow_blocks meta_map_need
  number_is =
      let over = length-tree (role + 2) (tree_of (plain_tree 4)) (overflow_behind n place) (meta_overflow n named) in
      let items = ap (λ (entries : List Entry). need_tree 4 (length entries)) over_is in
      omega (arith, over, items)

  counts_are : ((b : ℕ) → after b ≡ count_in (named ++ range_with_len place (meta_map_need before n)) b) → meta_counts role n place named ≡ after
  unfolding meta_counts
  counts_are counted = fun_ext (λ b. ap (λ (k : ℕ). count_in (named ++ range_with_len place k) b) number_is ∙ sym (counted b))

  pub meta_written : ((b : ℕ) → after b ≡ count_in (named ++ range_with_len place (meta_map_need before n)) b) → overflow_items after n ≡ overflow_items before n
      → written_from place (laid_meta_map role n place named) ≡ meta_map_blocks after n place
  unfolding laid_meta_map meta_overflow_blocks
  meta_written counted same =
      ap₂ (λ (counts : ℕ → ℕ) (items : List Entry). written_from place (meta_parts role (role + 2) counts items n place)) (counts_are counted) (over_is ∙ sym same)
      ∙ meta_parts_written role (role + 2) after n place

-- so it is, where these blocks were named before and the map's own were counted
pub meta_laid : (role n place : ℕ) (named : List ℕ) (old new : Counted) → CountsOwn place (meta_map_need (count_of old) n) old new
    → ((b : ℕ) → place ≤ b → b < place + meta_map_need (count_of old) n → count_of old b ≡ 0) → HasCounted old named
    → written_from place (laid_meta_map role n place named) ≡ meta_map_blocks (count_of new) n place
meta_laid role n place named old new own none counted =
    meta_written role n place named (count_of old) (count_of new) (sym (fun_ext counted)) (own.listed named counted)
    (overflow_agrees (count_of new) (count_of old) n (λ b within. own_agrees place (meta_map_need (count_of old) n) own none b))

-- its need is the same before and after
pub need_same : (place n : ℕ) (old new : Counted) → CountsOwn place (meta_map_need (count_of old) n) old new
    → ((b : ℕ) → place ≤ b → b < place + meta_map_need (count_of old) n → count_of old b ≡ 0)
    → meta_map_need (count_of new) n ≡ meta_map_need (count_of old) n
unfolding meta_map_need
need_same place n old new own none =
    ap (λ (items : List Entry). 1 + (bitmaps_for n + need_tree 4 (length items)))
    (overflow_agrees (count_of new) (count_of old) n (λ b within. own_agrees place (meta_map_need (count_of old) n) own none b))

-- a root of equal numbers
pub root_is : {blocks allocated bitmap overflow blocks' allocated' bitmap' overflow' : ℕ} → blocks ≡ blocks' → allocated ≡ allocated' → bitmap ≡ bitmap' → overflow ≡ overflow'
    → root_of blocks allocated bitmap overflow ≡ root_of blocks' allocated' bitmap' overflow'
root_is {blocks} {allocated} {bitmap} {overflow} {blocks'} {allocated'} {bitmap'} {overflow'} first second third fourth =
    ap₂ (λ (a b : ℕ). root_of a b bitmap overflow) first second ∙ ap₂ (λ (c d : ℕ). root_of blocks' allocated' c d) third fourth

-- The entries of a map's index.

item_at : (counts : ℕ → ℕ) (n first i : ℕ) (d : Entry) → i < bitmaps_for n
    → get_or (index_items counts n first) i d ≡ record { key = i; value = index_entry_of counts n first i }
unfolding index_items
item_at counts n first i d within =
    get_or-map-range_with_len (λ (i : ℕ). record { key = i; value = index_entry_of counts n first i }) 0 (bitmaps_for n) i i d within (omega arith)

-- the numbers of a row ascend
ascends_from : (value : ℕ → ℕ) (a n : ℕ)
    → is_ascending (map (λ (e : Entry). e.key) (map (λ (i : ℕ). record { key = i; value = value i }) (range_with_len a n))) ≡ true
unfolding is_ascending
ascends_from value a zero = refl
ascends_from value a (suc zero) = refl
ascends_from value a (suc (suc n)) = and_from (nat_lt a (a + 1)) _ (lt-ltb a (a + 1) (omega arith)) (ascends_from value (a + 1) (suc n))

pub index_ascends : (counts : ℕ → ℕ) (n first : ℕ) → is_ascending (map (λ (e : Entry). e.key) (index_items counts n first)) ≡ true
unfolding index_items
index_ascends counts n first = ascends_from (index_entry_of counts n first) 0 (bitmaps_for n)

module _ (counts : ℕ → ℕ) (n first i : ℕ) {t : TreeLeft} {from to : DraftState} where
  -- the next entry
  pub index_next : (code : ℕ) → IsBuilding 16 (index_items counts n first) (drop i (index_items counts n first)) t from to → i < bitmaps_for n
      → code ≡ index_entry_of counts n first i
      → IsBuilding 16 (index_items counts n first) (record { key = i; value = code } ∷ drop (i + 1) (index_items counts n first)) t from to
  index_next code b within is =
      let items = index_items counts n first in
      let size = index_number counts n first in
      let e : Entry = record { key = i; value = code } in
      let is_entry : record { key = i; value = index_entry_of counts n first i } ≡ e = ap (λ (v : ℕ). record { key = i; value = v }) (sym is) in
      building_at i e b (omega arith) (item_at counts n first i e within ∙ is_entry)

  -- after the last one
  pub index_end : IsBuilding 16 (index_items counts n first) (drop i (index_items counts n first)) t from to → bitmaps_for n ≤ i
      → IsBuilding 16 (index_items counts n first) [] t from to
  index_end b past =
      let items = index_items counts n first in
      let size = index_number counts n first in
      subst (λ (rest : List Entry). IsBuilding 16 items rest t from to) (drop_all i items (omega arith)) b

-- how many entries a list has
pub number_of_codes : {X : Type 0} (code : X → ℕ) (f : ℕ → ℕ) (k : ℕ) (xs : List X) → map code xs ≡ map f (range_with_len 0 k) → length xs ≡ k
number_of_codes code f k xs is = sym (length-map xs code) ∙ (ap length is ∙ length-map-range_with_len f 0 k)

-- one entry more in a list
pub codes_more : {X : Type 0} (code : X → ℕ) (f : ℕ → ℕ) (i : ℕ) (xs ys : List X) (x : X) → map code xs ≡ map f (range_with_len 0 i) → ys ≡ xs ++ x ∷ []
    → code x ≡ f i → map code ys ≡ map f (range_with_len 0 (i + 1))
codes_more code f i xs ys x so_far is next =
    ap (map code) is
    ∙ (map-append code xs (x ∷ [])
    ∙ (ap₂ (λ (front : List ℕ) (c : ℕ). front ++ c ∷ []) so_far next
    ∙ sym (ap (map f) (range_more i) ∙ map-append f (range_with_len 0 i) (i ∷ []))))

-- A data map as it is laid in a pool.

-- the tree that a pool has for the index
abbrev index_tree : Tree
index_tree = tree_of (tree_to 16 6 (λ v. v % 2 ^ 64))

-- where the trees begin
index_is : (w : ThinShape) → pool_index_at w ≡ index_at w.data_blocks (bitmaps_at w)
unfolding pool_bitmaps
index_is w = ap (λ (k : ℕ). bitmaps_at w + k) (length-bitmaps 6 (data_counts w) w.data_blocks)

overflow_is : (w : ThinShape) → pool_overflow_at w ≡ overflow_at w.data_blocks (bitmaps_at w)
unfolding pool_index
overflow_is w =
    ap₂ (λ (at number : ℕ). at + number) (index_is w)
    (length-tree 5 index_tree (pool_index_at w) (data_index w) ∙ ap (need_tree 16) (index_number (data_counts w) w.data_blocks (bitmaps_at w)))

pub pool_written : (w : ThinShape) → written_from (bitmaps_at w) (pool_bitmaps w ++ (pool_index w ++ pool_overflow w))
    ≡ data_map_blocks (data_counts w) w.data_blocks (bitmaps_at w)
unfolding pool_bitmaps pool_index pool_overflow
pool_written w =
    ap₂ (λ (p q : ℕ). written_from (bitmaps_at w)
    (laid_bitmaps 6 (data_counts w) w.data_blocks ++ (laid_tree 5 index_tree p (data_index w) ++ laid_tree 7 (tree_of (plain_tree 4)) q (data_overflow w))))
    (index_is w) (overflow_is w)
    ∙ data_parts_written 5 6 7 (data_counts w) w.data_blocks (bitmaps_at w)

pub pool_root : (w : ThinShape) (n : ℕ) → (pool_fields w n).data_map ≡ data_map_root (data_counts w) w.data_blocks (bitmaps_at w)
unfolding pool_fields allocated_of
pool_root w n =
    root_is {blocks = w.data_blocks} {allocated = allocated_of (data_counts w) w.data_blocks} refl refl
    (ap (λ (p : ℕ). tree_root 16 p (data_index w)) (index_is w)) (ap (λ (p : ℕ). tree_root 4 p (data_overflow w)) (overflow_is w))
