-- The parts of a cache, one behind another.
use Rattle.std.proofs.Common.{◌≡◌, ℕ, ◌+◌, ◌≤◌, ◌^◌, Bool, true, false, cond, List, [], ◌∷◌, ◌++◌, length, length-append, map, refl, sym, ◌∙◌, ap, ap₂, subst, append_assoc, arith}
use Rattle.pd_kinds.specs.CacheFormat.{has_dirty_bits}
use Rattle.pd_kinds.specs.Layout.{tree_to}
use Rattle.pd_kinds.specs.Meaning.{CacheMeaning}
use Rattle.pd_kinds.proofs.KindLemmas.{meta_root}
use Rattle.pd_grammar.specs.Lawful.{IsLawfulCache, AreEntries}
use Rattle.pd_grammar.specs.CacheText.{need_of_cache, cache_need}
use Rattle.pd_grammar.specs.Need.{nodes_for, need_array, need_tree, need_meta_map}
use Rattle.pd_laid.specs.Laid.{laid_array, array_root, LaidBlock, tree_of, laid_tree, written_from, laid_meta_map, meta_overflow, meta_overflow_at, blocks_from, tree_blocks, tree_root}
use Rattle.pd_laid.specs.LaidCache.{entry_of, mapping_words, hint_words, dirty_word, dirty_words, mapping_blocks, has_hints, hints_at, hint_blocks, dirty_at, dirty_blocks, discards_at, discard_blocks, cache_parts, meta_map_at, cache_named, cache_laid_fields, laid_cache}
use Rattle.pd_laid.proofs.LaidLemmas.{length-blocks_from, blocks_from-append, tree_written, array_written}
use Rattle.pd_laid.proofs.NeedLemmas.{length-array, length-tree, length-map_blocks}
use Rattle.pd_laid.specs.LaidCache as laid
use Rattle.pd_draft.specs.Closed.{DraftState, Wrote}
use Rattle.pd_draft.proofs.DraftLemmas.{wrote_then}
use Rattle.pd_build.specs.Array.{array_blocks}
use Rattle.pd_smwrite.specs.Map.{bitmap_blocks, allocated_of, index_block, meta_map_blocks, meta_map_root}
use Rattle.pd_salvage_cache.specs.declared.saved.CacheHead.{CacheHead}
use Rattle.pd_salvage_cache.specs.declared.saved.Row.{Row}
use Rattle.pd_salvage_cache.specs.SavedCache.{cache_meaning, entry, AreRows}
use Rattle.pd_restore_kinds.specs.declared.cache_words.Words.TheVariants.{Mapping, Hints, Dirty}
use Rattle.pd_restore_kinds.specs.CacheRoots.{found, bits_below, words_of}
use Rattle.pd_restore_kinds.proofs.WordLemmas.{length-words}
use Rattle.pd_laws_laid.specs.Once.{ones_below, NamesEachOnce, meta_map_from, bitmaps_from}
use Rattle.pd_laws_laid.proofs.MapLemmas.{ones_overflow, named_overflow, stored_counts, ones_allocated, map_written}
use Rattle.pd_laws_laid.proofs.CacheNamed.{cache_named_once}

-- the rows of a lawful cache ascend
rows_are : (blocks hint_size least : ℕ) (earlier : List ℕ) (rows : List Row) → AreEntries blocks hint_size least earlier (map entry rows) → AreRows least rows
rows_are blocks hint_size least earlier [] are = tt
rows_are blocks hint_size least earlier (r ∷ rows) are = (are.0.above, (are.0.origin_fits, rows_are blocks hint_size (r.block + 1) (r.origin ∷ earlier) rows are.1))

pub lawful_rows : (c : CacheHead) (rows : List Row) → IsLawfulCache (cache_meaning c rows) → AreRows 0 rows
lawful_rows c rows lawful = rows_are c.blocks c.hint_size 0 [] rows lawful.entries

-- an array that is written is a laid one
array_same : (role size place : ℕ) (words : List ℕ) → written_from place (laid_array role size place words) ≡ array_blocks size place words
unfolding array_blocks
array_same role size place words = array_written role size place words

array_number : (size place : ℕ) (words : List ℕ) → length (array_blocks size place words) ≡ need_array size (length words)
array_number size place words =
    ap (λ (blocks : List (List ℕ)). length blocks) (sym (array_same 1 size place words))
    ∙ (length-blocks_from (λ at (b : LaidBlock). b.written at) place (laid_array 1 size place words) ∙ length-array 1 size place words)

where_same : (there : Bool) (role size place : ℕ) (words : List ℕ)
    → written_from place (cond there (laid_array role size place words) []) ≡ cond there (array_blocks size place words) []
unfolding blocks_from
where_same true role size place words = array_same role size place words
where_same false role size place words = refl

where_number : (there : Bool) (role size place n : ℕ) (words : List ℕ) → length words ≡ n → length (cond {A = List LaidBlock} there (laid_array role size place words) []) ≡ cond there (need_array size n) 0
where_number true role size place n words is = length-array role size place words ∙ ap (need_array size) is
where_number false role size place n words is = refl

where_length : (there : Bool) (size place n : ℕ) (words : List ℕ) → length words ≡ n → length (cond {A = List (List ℕ)} there (array_blocks size place words) []) ≡ cond there (need_array size n) 0
where_length true size place n words is = array_number size place words ∙ ap (need_array size) is
where_length false size place n words is = refl

-- a discard bitset without words
none_number : (place : ℕ) → length (tree_blocks 8 place []) ≡ need_tree 8 0
none_number place =
    let t = tree_of (tree_to 8 6 (λ v. v)) in
    ap (λ (blocks : List (List ℕ)). length blocks) (sym (tree_written 5 t place []))
    ∙ (length-blocks_from (λ at (b : LaidBlock). b.written at) place (laid_tree 5 t place []) ∙ length-tree 5 t place [])

-- five parts, one behind another
five_parts : {a b c d e v w x y z : List (List ℕ)} → a ≡ v → b ≡ w → c ≡ x → d ≡ y → e ≡ z → a ++ (b ++ (c ++ (d ++ e))) ≡ v ++ (w ++ (x ++ (y ++ z)))
five_parts p q r s t = cc

regroup : (a b c d e : List (List ℕ)) → (a ++ (b ++ (c ++ d))) ++ e ≡ a ++ (b ++ (c ++ (d ++ e)))
regroup a b c d e =
    append_assoc a (b ++ (c ++ d)) e
    ∙ ap (λ (rest : List (List ℕ)). a ++ rest) (append_assoc b (c ++ d) e ∙ ap (λ (rest : List (List ℕ)). b ++ rest) (append_assoc c d e))

-- the map of the metadata, of which each block is named once
own_map_same : (role room place : ℕ) (named : List ℕ) → NamesEachOnce place named
    → written_from place (laid_meta_map role room place named) ≡ meta_map_blocks (ones_below (place + need_meta_map room)) room place
unfolding meta_map_blocks index_block bitmap_blocks meta_map_from bitmaps_from
own_map_same role room place named once =
    map_written role room place named
    ∙ rw (stored_counts role room place named once, named_overflow room place named once, ones_overflow (place + need_meta_map room) room) refl

module _ (c : CacheHead) (rows : List Row) (version : ℕ) where
  abbrev m : CacheMeaning
  m = cache_meaning c rows

  -- the words of the arrays
  mapping_same : mapping_words m version ≡ words_of (Mapping version) rows c.blocks
  unfolding mapping_words words_of entry_of found
  mapping_same = refl

  hints_same : hint_words m ≡ words_of Hints rows c.blocks
  unfolding hint_words words_of entry_of found
  hints_same = refl

  dirty_same : dirty_words m ≡ words_of Dirty rows (nodes_for 64 c.blocks)
  unfolding dirty_words words_of dirty_word bits_below entry_of found
  dirty_same = refl

  -- where the parts stand
  pub hints_place : hints_at m version ≡ 1 + need_array 8 c.blocks
  unfolding mapping_blocks
  hints_place =
      let number = length-array 1 8 1 (mapping_words m version) in
      let words = ap (λ (ws : List ℕ). need_array 8 (length ws)) mapping_same in
      let count = ap (need_array 8) (length-words (Mapping version) rows c.blocks) in
      omega (arith, number, words, count)

  pub dirty_place : dirty_at m version ≡ hints_at m version + cond (has_hints m) (need_array 4 c.blocks) 0
  unfolding hint_blocks
  dirty_place =
      let number = where_number (has_hints m) 3 4 (hints_at m version) c.blocks (hint_words m) (ap (λ (ws : List ℕ). length ws) hints_same ∙ length-words Hints rows c.blocks) in
      omega (arith, number)

  pub discards_place : discards_at m version ≡ dirty_at m version + cond (has_dirty_bits version) (need_array 8 (nodes_for 64 c.blocks)) 0
  unfolding dirty_blocks
  discards_place =
      let number = where_number (has_dirty_bits version) 10 8 (dirty_at m version) (nodes_for 64 c.blocks) (dirty_words m)
      (ap (λ (ws : List ℕ). length ws) dirty_same ∙ length-words Dirty rows (nodes_for 64 c.blocks)) in
      omega (arith, number)

  pub map_place : meta_map_at m version ≡ discards_at m version + need_tree 8 0
  unfolding discard_blocks
  map_place = let number = length-tree 5 (tree_of (tree_to 8 6 (λ v. v))) (discards_at m version) [] in omega (arith, number)

  pub whole_need : (room : ℕ) → meta_map_at m version + need_meta_map room ≡ cache_need version m room
  unfolding need_of_cache
  whole_need room = omega (arith, hints_place, dirty_place, discards_place, map_place)

  -- what is written of them
  mapping_written : written_from 1 (mapping_blocks m version) ≡ array_blocks 8 1 (words_of (Mapping version) rows c.blocks)
  unfolding mapping_blocks
  mapping_written = array_same 1 8 1 (mapping_words m version) ∙ ap (array_blocks 8 1) mapping_same

  hints_written : written_from (hints_at m version) (hint_blocks m version) ≡ cond (has_hints m) (array_blocks 4 (hints_at m version) (words_of Hints rows c.blocks)) []
  unfolding hint_blocks
  hints_written =
      where_same (has_hints m) 3 4 (hints_at m version) (hint_words m)
      ∙ ap (λ (ws : List ℕ). cond (has_hints m) (array_blocks 4 (hints_at m version) ws) []) hints_same

  dirty_written : written_from (dirty_at m version) (dirty_blocks m version)
      ≡ cond (has_dirty_bits version) (array_blocks 8 (dirty_at m version) (words_of Dirty rows (nodes_for 64 c.blocks))) []
  unfolding dirty_blocks
  dirty_written =
      where_same (has_dirty_bits version) 10 8 (dirty_at m version) (dirty_words m)
      ∙ ap (λ (ws : List ℕ). cond (has_dirty_bits version) (array_blocks 8 (dirty_at m version) ws) []) dirty_same

  discards_written : written_from (discards_at m version) (discard_blocks m version) ≡ tree_blocks 8 (discards_at m version) []
  unfolding discard_blocks
  discards_written = tree_written 5 (tree_of (tree_to 8 6 (λ v. v))) (discards_at m version) []

  own_map_written : (room : ℕ) → meta_map_at m version ≤ 2 ^ 64
      → written_from (meta_map_at m version) (laid.meta_map_blocks m version room) ≡ meta_map_blocks (ones_below (meta_map_at m version + need_meta_map room)) room (meta_map_at m version)
  unfolding laid.meta_map_blocks
  own_map_written room fits = own_map_same 7 room (meta_map_at m version) (cache_named m version) (cache_named_once m version fits)

  -- all of them, part behind part
  parts_number : 1 + length (cache_parts m version) ≡ meta_map_at m version
  unfolding cache_parts
  parts_number = omega (
    arith,
    length-append (mapping_blocks m version) (hint_blocks m version ++ (dirty_blocks m version ++ discard_blocks m version)),
    length-append (hint_blocks m version) (dirty_blocks m version ++ discard_blocks m version),
    length-append (dirty_blocks m version) (discard_blocks m version),
  )

  parts_written : written_from 1 (cache_parts m version) ≡ written_from 1 (mapping_blocks m version)
      ++ (written_from (hints_at m version) (hint_blocks m version)
      ++ (written_from (dirty_at m version) (dirty_blocks m version) ++ written_from (discards_at m version) (discard_blocks m version)))
  unfolding cache_parts
  parts_written =
      let write = λ (at : ℕ) (b : LaidBlock). b.written at in
      let mapping = written_from 1 (mapping_blocks m version) in
      let hints = written_from (hints_at m version) (hint_blocks m version) in
      blocks_from-append write 1 (mapping_blocks m version) (hint_blocks m version ++ (dirty_blocks m version ++ discard_blocks m version))
      ∙ ap (λ (rest : List (List ℕ)). mapping ++ rest)
      (blocks_from-append write (hints_at m version) (hint_blocks m version) (dirty_blocks m version ++ discard_blocks m version)
      ∙ ap (λ (rest : List (List ℕ)). hints ++ rest) (blocks_from-append write (dirty_at m version) (dirty_blocks m version) (discard_blocks m version)))

  all_written : (room : ℕ) → written_from 1 (laid_cache m version room).blocks
      ≡ written_from 1 (cache_parts m version) ++ written_from (meta_map_at m version) (laid.meta_map_blocks m version room)
  unfolding laid_cache
  all_written room =
      blocks_from-append (λ (at : ℕ) (b : LaidBlock). b.written at) 1 (cache_parts m version) (laid.meta_map_blocks m version room)
      ∙ ap (λ (at : ℕ). written_from 1 (cache_parts m version) ++ written_from at (laid.meta_map_blocks m version room)) parts_number

  laid_written : (room : ℕ) → meta_map_at m version ≤ 2 ^ 64 → written_from 1 (laid_cache m version room).blocks
      ≡ array_blocks 8 1 (words_of (Mapping version) rows c.blocks)
      ++ (cond (has_hints m) (array_blocks 4 (hints_at m version) (words_of Hints rows c.blocks)) []
      ++ (cond (has_dirty_bits version) (array_blocks 8 (dirty_at m version) (words_of Dirty rows (nodes_for 64 c.blocks))) []
      ++ (tree_blocks 8 (discards_at m version) []
      ++ meta_map_blocks (ones_below (meta_map_at m version + need_meta_map room)) room (meta_map_at m version))))
  laid_written room fits =
      let behind = written_from (meta_map_at m version) (laid.meta_map_blocks m version room) in
      all_written room
      ∙ (ap (λ (front : List (List ℕ)). front ++ behind) parts_written
      ∙ (regroup (written_from 1 (mapping_blocks m version)) (written_from (hints_at m version) (hint_blocks m version)) (written_from (dirty_at m version) (dirty_blocks m version))
      (written_from (discards_at m version) (discard_blocks m version)) behind
      ∙ five_parts mapping_written hints_written dirty_written discards_written (own_map_written room fits)))

  -- each, with the place behind it
  pub mapping_step : {a b : DraftState} → a.place ≡ 1 → Wrote (array_blocks 8 a.place (words_of (Mapping version) rows c.blocks)) a b → b.place ≡ hints_at m version
  mapping_step {a} {b} here wrote =
      let words = words_of (Mapping version) rows c.blocks in
      let size = ap (need_array 8) (length-words (Mapping version) rows c.blocks) in
      omega (arith, wrote.moved, array_number 8 a.place words, size, here, hints_place)

  pub hints_step : {a b : DraftState} → a.place ≡ hints_at m version → Wrote (cond (has_hints m) (array_blocks 4 a.place (words_of Hints rows c.blocks)) []) a b → b.place ≡ dirty_at m version
  hints_step {a} {b} here wrote =
      omega (arith, wrote.moved, where_length (has_hints m) 4 a.place c.blocks (words_of Hints rows c.blocks) (length-words Hints rows c.blocks), here, dirty_place)

  pub dirty_counted : {a b : DraftState} (place count : ℕ) → count ≡ nodes_for 64 c.blocks → Wrote (cond (has_dirty_bits version) (array_blocks 8 place (words_of Dirty rows count)) []) a b
      → Wrote (cond (has_dirty_bits version) (array_blocks 8 place (words_of Dirty rows (nodes_for 64 c.blocks))) []) a b
  dirty_counted {a} {b} place count is wrote =
      subst (λ (n : ℕ). Wrote (cond (has_dirty_bits version) (array_blocks 8 place (words_of Dirty rows n)) []) a b) is wrote

  pub dirty_step : {a b : DraftState} → a.place ≡ dirty_at m version → Wrote (cond (has_dirty_bits version) (array_blocks 8 a.place (words_of Dirty rows (nodes_for 64 c.blocks))) []) a b
      → b.place ≡ discards_at m version
  dirty_step {a} {b} here wrote =
      let count = nodes_for 64 c.blocks in
      omega (arith, wrote.moved, where_length (has_dirty_bits version) 8 a.place count (words_of Dirty rows count) (length-words Dirty rows count), here, discards_place)

  pub discards_step : {a b : DraftState} → a.place ≡ discards_at m version → Wrote (tree_blocks 8 a.place []) a b → b.place ≡ meta_map_at m version
  discards_step {a} {b} here wrote = omega (arith, wrote.moved, none_number a.place, here, map_place)

  -- they are the blocks of the laid cache
  pub all_wrote : {s t u v w x : DraftState} (room : ℕ) → meta_map_at m version ≤ 2 ^ 64 → s.place ≡ 1 → t.place ≡ hints_at m version → u.place ≡ dirty_at m version
      → v.place ≡ discards_at m version → w.place ≡ meta_map_at m version
      → Wrote (array_blocks 8 s.place (words_of (Mapping version) rows c.blocks)) s t → Wrote (cond (has_hints m) (array_blocks 4 t.place (words_of Hints rows c.blocks)) []) t u
      → Wrote (cond (has_dirty_bits version) (array_blocks 8 u.place (words_of Dirty rows (nodes_for 64 c.blocks))) []) u v → Wrote (tree_blocks 8 v.place []) v w
      → Wrote (meta_map_blocks (ones_below (w.place + need_meta_map room)) room w.place) w x → Wrote (written_from 1 (laid_cache m version room).blocks) s x
  all_wrote {s} {t} {u} {v} {w} {x} room fits first hints dirty discards behind w0 w1 w2 w3 w4 =
      subst (λ (blocks : List (List ℕ)). Wrote blocks s x) same (wrote_then w0 (wrote_then w1 (wrote_then w2 (wrote_then w3 w4))))
    where
      same : array_blocks 8 s.place (words_of (Mapping version) rows c.blocks)
          ++ (cond (has_hints m) (array_blocks 4 t.place (words_of Hints rows c.blocks)) []
          ++ (cond (has_dirty_bits version) (array_blocks 8 u.place (words_of Dirty rows (nodes_for 64 c.blocks))) []
          ++ (tree_blocks 8 v.place [] ++ meta_map_blocks (ones_below (w.place + need_meta_map room)) room w.place))) ≡ written_from 1 (laid_cache m version room).blocks
      same =
          five_parts (ap (λ (p : ℕ). array_blocks 8 p (words_of (Mapping version) rows c.blocks)) first)
          (ap (λ (p : ℕ). cond (has_hints m) (array_blocks 4 p (words_of Hints rows c.blocks)) []) hints)
          (ap (λ (p : ℕ). cond (has_dirty_bits version) (array_blocks 8 p (words_of Dirty rows (nodes_for 64 c.blocks))) []) dirty)
          (ap (λ (p : ℕ). tree_blocks 8 p []) discards) (ap (λ (p : ℕ). meta_map_blocks (ones_below (p + need_meta_map room)) room p) behind)
          ∙ sym (laid_written room fits)

  -- the roots are those that the superblock names
  pub mapping_root_is : (room place : ℕ) → place ≡ 1 → array_root 8 place (words_of (Mapping version) rows c.blocks) ≡ (cache_laid_fields m version room).mapping_root
  unfolding cache_laid_fields
  mapping_root_is room place here = ap₂ (array_root 8) here (sym mapping_same)

  pub hint_root_is : (room place : ℕ) → place ≡ hints_at m version → cond (has_hints m) (array_root 4 place (words_of Hints rows c.blocks)) 0 ≡ (cache_laid_fields m version room).hint_root
  unfolding cache_laid_fields
  hint_root_is room place here = ap₂ (λ (p : ℕ) (ws : List ℕ). cond (has_hints m) (array_root 4 p ws) 0) here (sym hints_same)

  pub dirty_root_is : (room place count : ℕ) → place ≡ dirty_at m version → count ≡ nodes_for 64 c.blocks
      → cond (has_dirty_bits version) (array_root 8 place (words_of Dirty rows count)) 0 ≡ (cache_laid_fields m version room).dirty_root
  unfolding cache_laid_fields
  dirty_root_is room place count here is =
      ap₂ (λ (p : ℕ) (ws : List ℕ). cond (has_dirty_bits version) (array_root 8 p ws) 0) here (ap (words_of Dirty rows) is ∙ sym dirty_same)

  pub discard_root_is : (room place : ℕ) → place ≡ discards_at m version → tree_root 8 place [] ≡ (cache_laid_fields m version room).discard_root
  unfolding cache_laid_fields
  discard_root_is room place here = ap (λ (p : ℕ). tree_root 8 p []) here

  map_number : (room : ℕ) → meta_overflow room (cache_named m version) ≡ [] → length (laid.meta_map_blocks m version room) ≡ need_meta_map room
  unfolding laid.meta_map_blocks
  map_number room none = length-map_blocks 7 room (meta_map_at m version) (cache_named m version) none

  pub meta_map_is : (room place : ℕ) → place ≡ meta_map_at m version → meta_map_at m version ≤ 2 ^ 64 → place + need_meta_map room ≤ room
      → meta_map_root (ones_below (place + need_meta_map room)) room place ≡ (cache_laid_fields m version room).meta_map
  unfolding cache_laid_fields allocated_of
  meta_map_is room place here fits within =
      let at = meta_map_at m version in
      let once = cache_named_once m version fits in
      let none = named_overflow room at (cache_named m version) once in
      rw here (meta_root room at _ _ _ _
      (ones_allocated (at + need_meta_map room) room (omega (arith, here, within)) ∙ ap (λ (n : ℕ). at + n) (sym (map_number room none)))
      (ap (tree_root 4 (meta_overflow_at room at)) (ones_overflow (at + need_meta_map room) room ∙ sym none)))
