-- What a metadata map stores where each block before it is named once.
use Rattle.std.proofs.Common.{◌≡◌, inl, inr, ℕ, zero, suc, ◌+◌, ◌-◌, ◌<◌, ◌≤◌, cond, not, nat_eq, nat_lt, min, List, [], ◌++◌, length, map, filter, refl, sym, ◌∙◌, ap, arith, ◌∷◌, ap₂}
use Rattle.std.proofs.Math.Path.{fun_ext}
use Rattle.std.specs.List.{count_by, range_with_len}
use Rattle.std.proofs.lemmas.Bool.{cases_lt, lt-ltb, le-ltb}
use Rattle.std.proofs.lemmas.List.Sums.{sum_by-cons}
use Rattle.std.proofs.lemmas.List.{append_assoc}
use Rattle.pd_kinds.specs.Node.{Entry}
use Rattle.pd_kinds.specs.Layout.{plain_tree}
use Rattle.pd_kinds.proofs.NumberLemmas.{range_split}
use Rattle.pd_kinds.specs.Bitmap.{bitmaps_for}
use Rattle.pd_kinds.specs.Meaning.{ThinDevice}
use Rattle.pd_grammar.specs.Need.{need_tree, need_meta_map}
use Rattle.pd_laid.specs.Laid.{count_in, tree_of, overflow_items, meta_overflow, meta_overflow_at, meta_overflow_blocks, meta_map_number, meta_counts, blocks_from, tree_blocks, tree_root, LaidBlock, written_from, laid_tree, laid_bitmap, laid_bitmaps, laid_index, laid_meta_map}
use Rattle.pd_laid.proofs.NeedLemmas.{length-tree, length-bitmaps}
use Rattle.pd_laid.specs.LaidThin.{mapping_items}
use Rattle.pd_laid.proofs.LaidLemmas.{blocks_from-append, blocks_from-map, tree_written}
use Rattle.pd_laws_laid.specs.Once.{ones_below, NamesEachOnce, trees_need, device_trees, device_roots, bitmaps_from, meta_map_from}
use Rattle.pd_laws_laid.proofs.OnceTrees.{count-append, count_range}

-- a count of one at most
one_at_most : (place b : ℕ) → ones_below place b < 3
unfolding ones_below
one_at_most place b = elim (cases_lt b place) [
  | inl below ↦ rw (lt-ltb b place below) (omega arith)
  | inr above ↦ rw (le-ltb b place above) (omega arith)
]

-- no count needs the overflow tree
no_items : (counts : ℕ → ℕ) → ((b : ℕ) → counts b < 3) → (from n : ℕ) → filter (λ b. not (nat_lt (counts b) 3)) (range_with_len from n) ≡ []
no_items counts few from zero = refl
no_items counts few from (suc n) = rw (lt-ltb (counts from) 3 (few from)) (no_items counts few (from + 1) n)

none_over : (counts : ℕ → ℕ) → ((b : ℕ) → counts b < 3) → (n : ℕ) → overflow_items counts n ≡ []
unfolding overflow_items
none_over counts few n = ap (λ (blocks : List ℕ). map (λ (b : ℕ). record { key = b; value = counts b }) blocks) (no_items counts few 0 n)

pub ones_overflow : (place n : ℕ) → overflow_items (ones_below place) n ≡ []
ones_overflow place n = none_over (ones_below place) (one_at_most place) n

pub named_overflow : (n place : ℕ) (named : List ℕ) → NamesEachOnce place named → meta_overflow n named ≡ []
named_overflow n place named once = none_over (count_in named) (λ b. let few = one_at_most place b in let is = once b in omega arith) n

-- the counts that are stored, where the map names each of its own blocks
map_number : (role n place : ℕ) (named : List ℕ) → NamesEachOnce place named → meta_map_number role n place named ≡ need_meta_map n
unfolding meta_overflow_blocks
map_number role n place named once =
    let tree = length-tree (role + 2) (tree_of (plain_tree 4)) (meta_overflow_at n place) (meta_overflow n named) in
    let items = ap (λ (entries : List Entry). need_tree 4 (length entries)) (named_overflow n place named once) in
    omega (arith, tree, items)

count_ones : (place b : ℕ) → count_in (range_with_len 0 place) b ≡ ones_below place b
unfolding ones_below
count_ones place b = count_range place b

pub stored_counts : (role n place : ℕ) (named : List ℕ) → NamesEachOnce place named
    → meta_counts role n place named ≡ ones_below (place + need_meta_map n)
unfolding meta_counts
stored_counts role n place named once =
    let size = need_meta_map n in
    let own = range_with_len place size in
    fun_ext (λ b.
    ap (λ (number : ℕ). count_in (named ++ range_with_len place number) b) (map_number role n place named once)
    ∙ (count-append named own b
    ∙ (ap (λ (count : ℕ). count + count_in own b) (once b ∙ sym (count_ones place b))
    ∙ (sym (count-append (range_with_len 0 place) own b)
    ∙ (ap (λ (all : List ℕ). count_in all b) (sym (whole place size)) ∙ count_ones (place + size) b)))))
  where
    whole : (place n : ℕ) → range_with_len 0 (place + n) ≡ range_with_len 0 place ++ range_with_len place n
    whole place n = range_split 0 place n ∙ ap (λ (from : ℕ). range_with_len 0 place ++ range_with_len from n) (omega arith)

-- how many of a range have a count
counted : (place from n : ℕ) → count_by (λ b. not (nat_eq (ones_below place b) 0)) (range_with_len from n) ≡ min (from + n) place - min from place
unfolding ones_below
counted place from zero = omega arith
counted place from (suc n) =
    let split = sum_by-cons (λ b. cond (not (nat_eq (cond (nat_lt b place) 1 0) 0)) 1 0) from (range_with_len (from + 1) n) in
    let rest = counted place (from + 1) n in
    elim (cases_lt from place) [
      | inl below ↦
          let one : cond {A = ℕ} (not (nat_eq (cond {A = ℕ} (nat_lt from place) 1 0) 0)) 1 0 ≡ 1 = rw (lt-ltb from place below) refl in omega (arith, split, rest, one)
      | inr above ↦
          let none : cond {A = ℕ} (not (nat_eq (cond {A = ℕ} (nat_lt from place) 1 0) 0)) 1 0 ≡ 0 = rw (le-ltb from place above) refl in omega (arith, split, rest, none)
    ]

pub ones_allocated : (place n : ℕ) → place ≤ n → count_by (λ b. not (nat_eq (ones_below place b) 0)) (range_with_len 0 n) ≡ place
ones_allocated place n inside = let all = counted place 0 n in omega arith

-- How a metadata map is written, and the trees of devices that come later.

abbrev pub write : ℕ → LaidBlock → List ℕ
write at b = b.written at

-- the maps
bitmaps_written : (role : ℕ) (counts : ℕ → ℕ) (n place : ℕ) → written_from place (laid_bitmaps role counts n) ≡ bitmaps_from counts n place
unfolding laid_bitmaps bitmaps_from
bitmaps_written role counts n place = blocks_from-map write (laid_bitmap role counts) place (range_with_len 0 (bitmaps_for n))

pub map_written : (role n place : ℕ) (named : List ℕ)
    → written_from place (laid_meta_map role n place named) ≡ meta_map_from (meta_counts role n place named) (meta_overflow n named) n place
unfolding laid_meta_map meta_map_from meta_overflow_blocks blocks_from
map_written role n place named =
    let counts = meta_counts role n place named in
    let bitmaps = laid_bitmaps (role + 1) counts n in
    let over = laid_tree (role + 2) (tree_of (plain_tree 4)) (meta_overflow_at n place) (meta_overflow n named) in
    let number = length-bitmaps (role + 1) counts n in
    let first = write place (laid_index role counts n (place + 1)) in
    ap (λ (rest : List (List ℕ)). first ∷ rest)
    (blocks_from-append write (place + 1) bitmaps over
    ∙ ap₂ (λ (front rest : List (List ℕ)). front ++ rest) (bitmaps_written (role + 1) counts n (place + 1))
    (ap (λ (size : ℕ). written_from (place + 1 + size) over) number
    ∙ tree_written (role + 2) (tree_of (plain_tree 4)) (meta_overflow_at n place) (meta_overflow n named)))

-- devices that come later
pub trees-append : (place : ℕ) (ds es : List ThinDevice) → device_trees place (ds ++ es) ≡ device_trees place ds ++ device_trees (place + trees_need ds) es
unfolding device_trees
trees-append place [] es = ap (λ (from : ℕ). device_trees from es) (omega arith)
trees-append place (d ∷ ds) es =
    let here = tree_blocks 8 place (mapping_items d.mappings) in
    let next = place + need_tree 8 (length d.mappings) in
    let sums = sum_by-cons (need_tree 8) (length d.mappings) (map (λ (d : ThinDevice). length d.mappings) ds) in
    let behind : next + trees_need ds ≡ place + trees_need (d ∷ ds) = omega (arith, sums) in
    ap (λ (rest : List (List ℕ)). here ++ rest) (trees-append next ds es ∙ ap (λ (from : ℕ). device_trees next ds ++ device_trees from es) behind)
    ∙ sym (append_assoc here (device_trees next ds) (device_trees (place + trees_need (d ∷ ds)) es))

pub roots-append : (place : ℕ) (ds es : List ThinDevice) → device_roots place (ds ++ es) ≡ device_roots place ds ++ device_roots (place + trees_need ds) es
unfolding device_roots
roots-append place [] es = ap (λ (from : ℕ). device_roots from es) (omega arith)
roots-append place (d ∷ ds) es =
    let next = place + need_tree 8 (length d.mappings) in
    let sums = sum_by-cons (need_tree 8) (length d.mappings) (map (λ (d : ThinDevice). length d.mappings) ds) in
    let behind : next + trees_need ds ≡ place + trees_need (d ∷ ds) = omega (arith, sums) in
    ap (λ (rest : List Entry). record { key = d.id; value = tree_root 8 place (mapping_items d.mappings) } ∷ rest)
    (roots-append next ds es ∙ ap (λ (from : ℕ). device_roots next ds ++ device_roots from es) behind)
