-- A laid era target is clean, and means the target.
use Rattle.std.proofs.Common.{◌≡◌, ◌⊎◌, inl, inr, ℕ, ◌+◌, ◌<◌, ◌≤◌, max, false, nat_eq, get_or, List, [], ◌∷◌, ◌++◌, length, map, filter, refl, sym, subst, ◌∙◌, ap, ap₂, arith, zero-le}
use Rattle.std.specs.declared.option.Option.TheVariants.{None, Some}
use Rattle.std.specs.List.{AllByRecursion, flat_map, fold, range_with_len}
use Rattle.std.proofs.lemmas.Bool.{eqb-true}
use Rattle.std.proofs.lemmas.List.FromFn.{fill_by_all}
use Rattle.pd_kinds.specs.declared.kind.Kind.TheVariants.{Era}
use Rattle.pd_kinds.specs.declared.limits.TheConstants.{MAX_META_BLOCKS}
use Rattle.pd_kinds.specs.Bitmap.{bitmaps_for}
use Rattle.pd_kinds.specs.EraFormat.{EraFields, era_fields, era_graph, era_layout, era_super_bad, era_super_block}
use Rattle.pd_kinds.specs.Graph.{Graph, block_at, block_of, meta_count, nodes, role_of}
use Rattle.pd_kinds.specs.Layout.{graph_of, leaf_entries, plain_tree}
use Rattle.pd_kinds.specs.Meaning.{EraMeaning, archived_era, current_era, era_meaning, era_of}
use Rattle.pd_kinds.specs.Node.{Entry}
use Rattle.pd_kinds.specs.Stages.{AreClean, Checked, IsClean, era_checked}
use Rattle.pd_kinds.specs.Trees.{entries_below, stored_meta_in}
use Rattle.pd_kinds.specs.Whole.{Array, WholeTest, array_whole, array_words, bitmap_tests, era_arrays, era_whole, is_array_index_bad, reached_writesets}
use Rattle.pd_kinds.proofs.ListLemmas.{all_append, all_from, all_map}
use Rattle.pd_kinds.specs.Image.{room_of}
use Rattle.pd_grammar.specs.EraText.{era_need}
use Rattle.pd_grammar.specs.Lawful.{IsLawfulEra}
use Rattle.pd_laid.specs.Laid.{laid_array, IsLaid, LaidBlock, laid_number, laid_tree, tree_of, laid_bitmap, laid_bitmaps, laid_meta_map, meta_counts, meta_map_number, meta_overflow, meta_overflow_at, meta_overflow_blocks}
use Rattle.pd_laid.specs.LaidEra.{array_root_of, era_blocks, era_laid_fields, era_named, era_parts, laid_era, meta_map_at, meta_map_blocks, writeset_blocks, writesets_at}
use Rattle.pd_laws_laid.proofs.NeedLemmas.{era_takes_need}
use Rattle.pd_laws_laid.specs.LaidOut.{AllFrom, AreLaidInOrder, IsInPlace, IsLaidOut, role_at}
use Rattle.pd_laws_laid.proofs.Formats.{clean_super, whole_holds, at_roles, bitmaps_hold, laid_out_of, referred_few}
use Rattle.pd_laws_laid.proofs.ListLemmas.{by_place, from_both, from_follows, from_pairs}
use Rattle.pd_laws_laid.proofs.LaidLemmas.{laid_in_order}
use Rattle.pd_laws_laid.proofs.Names.{tree_roles, length-meta_map}
use Rattle.pd_laws_laid.proofs.LaidArrays.{array_holds, array_roles}
use Rattle.pd_laws_laid.specs.Clean.{IsCleanEra}
use Rattle.pd_laws_laid.proofs.EraParts.{bitmap_once, references_count, array_is, era_all, era_in_place, era_number, first_super, lawful_graph, meta_fitting, meta_is, no_writesets, one_leaf, parts_end, parts_fitting, super_edges, super_leads, writesets_are, IsSuperLaid, super_laid, super_seen}

module _ (m : EraMeaning) (n : ℕ) (image : List (List ℕ)) (few : n ≤ 4161600) (lawful : IsLawfulEra m)
    (room : meta_map_at m + length (meta_map_blocks m n) ≤ n) (stand : AllFrom (IsInPlace image (era_all m n)) 0 (era_all m n)) where
  abbrev this : Graph
  this = graph_of 10 n 0 (era_layout n)

  abbrev blocks : List LaidBlock
  blocks = era_all m n

  abbrev end : ℕ
  end = meta_map_at m + length (meta_map_blocks m n)

  super_is : IsSuperLaid image m n
  super_is = super_laid m n image few lawful room stand

  laid_out : IsLaidOut (graph_of 10 n 0 (era_layout n)) image (era_all m n)
  unfolding graph_of era_all
  laid_out =
      laid_out_of this image (era_super_block (era_laid_fields m n)) (super_edges m n) (era_parts m) (meta_map_blocks m n) (meta_map_at m) end (parts_end m) refl room
      (super_seen m n image few lawful room stand) (super_leads m n image few lawful room stand) (parts_fitting m n image few lawful room stand) (meta_fitting m n image few lawful room stand)

  in_order : AreLaidInOrder (graph_of 10 n 0 (era_layout n)) image (era_all m n)
  in_order = laid_in_order this image blocks (lawful_graph m n image few lawful room stand) laid_out

  few_meta : meta_map_number 7 n (meta_map_at m) (era_named m) ≤ 4161600
  unfolding meta_map_blocks
  few_meta = omega (arith, length-meta_map 7 n (meta_map_at m) (era_named m))

  meta_count_is : (b : ℕ) → meta_count (graph_of 10 n 0 (era_layout n)) image b ≡ meta_counts 7 n (meta_map_at m) (era_named m) b
  meta_count_is b = in_order.meta_counts b ∙ references_count m n few_meta b

  -- a bitmap is referred to once
  one_edge : AllByRecursion (λ (t : WholeTest). t.fails ≡ false) (bitmap_tests (graph_of 10 n 0 (era_layout n)) image (λ role. nat_eq role 8))
  one_edge =
      bitmaps_hold this image blocks in_order (λ role. nat_eq role 8)
      (λ b here. referred_few this image blocks in_order 8 b laid_out (omega arith) (eqb-true (role_at blocks b) 8 here) (bitmap_once m n b))

  abbrev Holds : WholeTest → Type 0
  Holds t = t.fails ≡ false

  -- only the empty leaf has the role of writesets
  abbrev IsEmpty : ℕ → Type 0
  IsEmpty q = leaf_entries 12 (block_at image q) ≡ []

  others : (place : ℕ) (xs : List LaidBlock) → AllByRecursion (λ (x : LaidBlock). x.role ≡ 2 → ⊥) xs → AllFrom (λ q (x : LaidBlock). x.role ≡ 2 → leaf_entries 12 (block_at image q) ≡ []) place xs
  others place [] all = tt
  others place (x ∷ xs) all = ((λ two. absurd (all.0 two)), others (place + 1) xs all.1)

  eras_other : AllByRecursion (λ (x : LaidBlock). x.role ≡ 2 → ⊥) (era_blocks m)
  unfolding era_blocks
  eras_other =
      all_from (λ (x : LaidBlock). (x.role ≡ 5) ⊎ (x.role ≡ 6)) (λ (x : LaidBlock). x.role ≡ 2 → ⊥) (λ x which two. elim which [ inl five ↦ omega arith | inr six ↦ omega arith ])
      (laid_array 5 4 1 m.eras) (array_roles 5 4 1 m.eras)

  bitmaps_other : (counts : ℕ → ℕ) → AllByRecursion (λ (x : LaidBlock). x.role ≡ 2 → ⊥) (laid_bitmaps 8 counts n)
  unfolding laid_bitmaps
  bitmaps_other counts = all_map (laid_bitmap 8 counts) (λ (x : LaidBlock). x.role ≡ 2 → ⊥) (λ i two. omega arith) (range_with_len 0 (bitmaps_for n))

  meta_other : AllByRecursion (λ (x : LaidBlock). x.role ≡ 2 → ⊥) (meta_map_blocks m n)
  unfolding meta_map_blocks laid_meta_map meta_overflow_blocks
  meta_other =
      let counts = meta_counts 7 n (meta_map_at m) (era_named m) in
      let t = tree_of (plain_tree 4) in
      let over = laid_tree 9 t (meta_overflow_at n (meta_map_at m)) (meta_overflow n (era_named m)) in (
        (λ two. omega arith),
        all_append (λ (x : LaidBlock). x.role ≡ 2 → ⊥) (laid_bitmaps 8 counts n) over (bitmaps_other counts)
            (all_from (λ (x : LaidBlock). x.role ≡ 9) (λ (x : LaidBlock). x.role ≡ 2 → ⊥) (λ x nine two. omega arith) over (tree_roles 9 t (meta_overflow_at n (meta_map_at m)) (meta_overflow n (era_named m)))),
      )

  all_empty : AllFrom (λ q (x : LaidBlock). x.role ≡ 2 → leaf_entries 12 (block_at image q) ≡ []) 0 (era_all m n)
  unfolding era_parts
  all_empty =
      let holds = λ (q : ℕ) (x : LaidBlock). x.role ≡ 2 → leaf_entries 12 (block_at image q) ≡ [] in
      let leaf : AllFrom holds (writesets_at m) (writeset_blocks m) =
      subst (λ (xs : List LaidBlock). AllFrom (λ q (x : LaidBlock). x.role ≡ 2 → leaf_entries 12 (block_at image q) ≡ []) (writesets_at m) xs) (sym (one_leaf m))
      ((λ two. no_writesets m n image few lawful room stand), tt) in
      let e = parts_end m in
      first_super holds m n (λ two. absurd (omega arith))
      (from_both holds 1 (era_parts m) (meta_map_blocks m n) (from_both holds 1 (era_blocks m) (writeset_blocks m) (others 1 (era_blocks m) eras_other) leaf)
      (rw e (others (meta_map_at m) (meta_map_blocks m n) meta_other)))

  empty_at : (b : ℕ) → b < length (era_all m n) → role_at (era_all m n) b ≡ 2 → leaf_entries 12 (block_at image b) ≡ []
  empty_at b inside =
      by_place (λ q. role_at blocks q ≡ 2 → IsEmpty q) 0 blocks
      (from_follows (λ q x. IsInPlace image blocks q x × (x.role ≡ 2 → IsEmpty q)) (λ q x. role_at blocks q ≡ 2 → IsEmpty q) 0 blocks
      (λ q low high x is two. is.1 (sym is.0.role_is ∙ two))
      (from_pairs (IsInPlace image blocks) (λ q (x : LaidBlock). x.role ≡ 2 → IsEmpty q) 0 blocks stand all_empty)) b zero-le (omega arith)

  no_reached : reached_writesets (graph_of 10 n 0 (era_layout n)) image ≡ []
  unfolding reached_writesets
  no_reached = none (filter (λ p. nat_eq (role_of p) 2) (nodes this image)) (at_roles this image blocks in_order IsEmpty (λ role. nat_eq role 2) (λ b inside two. empty_at b inside (eqb-true (role_at blocks b) 2 two)))
    where
      none : (ps : List ℕ) → AllByRecursion (λ p. leaf_entries 12 (block_at image (block_of p)) ≡ []) ps → flat_map (λ p. leaf_entries 12 (block_at image (block_of p))) ps ≡ []
      none [] all = refl
      none (p ∷ ps) all = ap (λ (front : List Entry). front ++ flat_map (λ p. leaf_entries 12 (block_at image (block_of p))) ps) all.0 ∙ none ps all.1

  -- the era array
  abbrev fields_at : EraFields
  fields_at = era_fields (block_at image 0)

  abbrev era_array : ℕ → ℕ → Array
  era_array root number = record { role = 5; root = root; size = 4; lengths = number ∷ [] }

  arrays_are : era_arrays (graph_of 10 n 0 (era_layout n)) image ≡ record { role = 5; root = (era_fields (block_at image 0)).array_root; size = 4; lengths = (era_fields (block_at image 0)).blocks ∷ [] } ∷ []
  unfolding era_arrays era_laid_fields
  arrays_are =
      let snap = ap (λ (f : EraFields). f.snap_root) super_is.fields_are in
      let current = ap (λ (f : EraFields). f.current_root) super_is.fields_are in
      rw (snap, current, no_reached) refl

  root_is : (era_fields (block_at image 0)).array_root ≡ array_root_of m
  unfolding era_laid_fields
  root_is = ap (λ (f : EraFields). f.array_root) super_is.fields_are

  blocks_are : (era_fields (block_at image 0)).blocks ≡ length m.eras
  unfolding era_laid_fields
  blocks_are = ap (λ (f : EraFields). f.blocks) super_is.fields_are ∙ lawful.one_each

  era_read : (lengths : List ℕ)
      → (is_array_index_bad (graph_of 10 n 0 (era_layout n)) image (record { role = 5; root = (era_fields (block_at image 0)).array_root; size = 4; lengths = lengths }) ≡ false)
      × (array_words (graph_of 10 n 0 (era_layout n)) image (record { role = 5; root = (era_fields (block_at image 0)).array_root; size = 4; lengths = lengths }) ≡ m.eras)
  era_read lengths =
      let seen = array_is m n image few lawful room stand in (
        ap (λ (root : ℕ). is_array_index_bad this image (record { role = 5; root = root; size = 4; lengths = lengths })) root_is ∙ seen.whole lengths,
        ap (λ (root : ℕ). array_words this image (record { role = 5; root = root; size = 4; lengths = lengths })) root_is ∙ seen.words_are lengths,
      )

  era_holds : AllByRecursion (λ (t : WholeTest). t.fails ≡ false) (array_whole (graph_of 10 n 0 (era_layout n)) image (record { role = 5; root = (era_fields (block_at image 0)).array_root; size = 4; lengths = (era_fields (block_at image 0)).blocks ∷ [] }))
  era_holds =
      let read = era_read (fields_at.blocks ∷ []) in
      array_holds this image (era_array fields_at.array_root fields_at.blocks) m.eras read.0 read.1 (sym blocks_are, tt)

  whole_tests : AllByRecursion (λ (t : WholeTest). t.fails ≡ false) (era_whole (graph_of 10 n 0 (era_layout n)) image)
  unfolding era_whole
  whole_tests =
      rw arrays_are
      (all_append Holds (bitmap_tests this image (λ role. nat_eq role 8)) _ one_edge
      (all_append Holds (array_whole this image (era_array fields_at.array_root fields_at.blocks)) [] era_holds tt))

  -- what is looked at in the image
  abbrev looked_at : Graph → ℕ → List Entry → Checked
  looked_at graph index meta_over = record {
    super_bad = era_super_bad;
    graph = graph;
    whole = era_whole graph image;
    stored_meta = stored_meta_in image index meta_over;
    stored_data = λ d. None;
  }

  graph_is : era_graph (block_at image 0) ≡ graph_of 10 n 0 (era_layout n)
  unfolding era_graph era_laid_fields
  graph_is = ap (λ (number : ℕ). graph_of 10 number 0 (era_layout number)) (ap (λ (f : EraFields). f.meta_map.blocks) super_is.fields_are)

  overflow_is : entries_below (graph_of 10 n 0 (era_layout n)) image 4 9 (era_fields (block_at image 0)).meta_map.overflow_root ≡ meta_overflow n (era_named m)
  unfolding era_laid_fields
  overflow_is = ap (λ (f : EraFields). entries_below this image 4 9 f.meta_map.overflow_root) super_is.fields_are ∙ (meta_is m n image few lawful room stand).overflow

  checked_is : era_checked image ≡ looked_at (graph_of 10 n 0 (era_layout n)) (meta_map_at m) (meta_overflow n (era_named m))
  unfolding era_checked era_laid_fields
  checked_is =
      ap (λ (g : Graph). looked_at g fields_at.meta_map.bitmap_root (entries_below g image 4 9 fields_at.meta_map.overflow_root)) graph_is
      ∙ ap₂ (λ (i : ℕ) (over : List Entry). looked_at this i over) (ap (λ (f : EraFields). f.meta_map.bitmap_root) super_is.fields_are) overflow_is

  laid_clean : n ≤ length image → IsClean Era image
  unfolding graph_of
  laid_clean within =
      let checked = looked_at this (meta_map_at m) (meta_overflow n (era_named m)) in
      subst (λ (checked : Checked). AreClean checked image) (sym checked_is)
      (record {
        super_block = clean_super checked image (omega arith) (super_is.sound (length image) within);
        well_formed = in_order.well_formed;
        one_role = in_order.one_role;
        not_deep = in_order.not_deep;
        in_range = in_order.in_range;
        whole = λ b broken small. whole_holds (era_whole this image) b broken whole_tests;
        meta_counts = λ b small. (meta_is m n image few lawful room stand).stored b small ∙ ap (λ (k : ℕ). Some k) (sym (meta_count_is b));
        data_counts = λ d wrong. absurd (omega (arith, wrong));
      })

  abbrev meaning_of : EraFields → List ℕ → EraMeaning
  meaning_of f eras = record { uuid = f.uuid; block_size = f.block_size; blocks = f.blocks; era = f.era; eras = eras }

  no_current : (b : ℕ) → current_era (graph_of 10 n 0 (era_layout n)) image b ≡ 0
  unfolding current_era era_laid_fields
  no_current b = let current = ap (λ (f : EraFields). f.current_root) super_is.fields_are in rw current refl

  writesets_read : entries_below (graph_of 10 n 0 (era_layout n)) image 12 2 (era_fields (block_at image 0)).writesets_root ≡ []
  unfolding era_laid_fields
  writesets_read = ap (λ (f : EraFields). entries_below this image 12 2 f.writesets_root) super_is.fields_are ∙ (writesets_are m n image few lawful room stand).root.entries_are

  one_era : (b : ℕ) → era_of (graph_of 10 n 0 (era_layout n)) image b ≡ get_or m.eras b 0
  unfolding era_of
  one_era b =
      let es = entries_below this image 12 2 fields_at.writesets_root in
      let own = λ (words : List ℕ) (es : List Entry) (current : ℕ). max (fold max (get_or words b 0) (map (archived_era this image b) es)) current in
      let zero_is : max (get_or m.eras b 0) 0 ≡ get_or m.eras b 0 = omega arith in
      ap (λ (words : List ℕ). own words es (current_era this image b)) (era_read []).1
      ∙ (ap (λ (es : List Entry). own m.eras es (current_era this image b)) writesets_read
      ∙ (ap (λ (current : ℕ). max (get_or m.eras b 0) current) (no_current b) ∙ zero_is))

  laid_means : era_meaning image ≡ m
  unfolding era_meaning era_laid_fields
  laid_means =
      let eras = ap (λ (g : Graph). map (era_of g image) (range_with_len 0 fields_at.blocks)) graph_is
      ∙ sym (fill_by_all (era_of this image) m.eras fields_at.blocks 0 (sym blocks_are) (λ k h. sym (one_era k))) in
      ap₂ meaning_of super_is.fields_are eras

law : (m : EraMeaning) (base image : List (List ℕ)) → IsLawfulEra m → laid_number (laid_era m (room_of (length base))) ≤ room_of (length base)
    → IsLaid (laid_era m (room_of (length base))) base image → IsCleanEra image m
law m base image lawful room is =
    let n = room_of (length base) in
    let stand = era_in_place m n base image is in
    let few : n ≤ 4161600 = omega arith in
    let number = era_number m n in
    let enough : meta_map_at m + length (meta_map_blocks m n) ≤ n = omega arith in
    let size = is.number in
    record {
      clean = laid_clean m n image few lawful enough stand (omega arith);
      means = laid_means m n image few lawful enough stand;
      valid = (super_is m n image few lawful enough stand).valid;
    }

pub takes_need : (m : EraMeaning) (n : ℕ) → IsLawfulEra m → n ≤ MAX_META_BLOCKS → era_need m n ≤ n → laid_number (laid_era m n) ≡ era_need m n
takes_need m n lawful limit room = era_takes_need m lawful.one_each n (omega arith)

pub need_law : (m : EraMeaning) (base image : List (List ℕ)) → IsLawfulEra m → era_need m (room_of (length base)) ≤ room_of (length base)
    → IsLaid (laid_era m (room_of (length base))) base image → IsCleanEra image m
need_law m base image lawful room is =
    let number = takes_need m (room_of (length base)) lawful (omega arith) room in
    law m base image lawful (omega arith) is
