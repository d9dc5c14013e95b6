-- A whole metadata map.
use Rattle.std.proofs.Common.{◌≡◌, inl, inr, ℕ, zero, suc, ◌+◌, ◌*◌, ◌/◌, ◌%◌, ◌^◌, ◌<◌, ◌≤◌, List, map, Option, ◌∙◌, ap, arith, eq-eqb, zero-le, ◌≢◌, Bool, true, false, nat_eq, cond, [], ◌∷◌, ◌++◌, length, refl}
use Rattle.std.specs.declared.option.Option.TheVariants.{Some}
use Rattle.std.specs.List.{range_with_len, AllByRecursion}
use Rattle.std.specs.Option.{option_map}
use Rattle.std.proofs.lemmas.Bool.{cases_eq, ne_eqb, cases_lt}
use Rattle.std.proofs.lemmas.List.{length-append}
use Rattle.std.proofs.lemmas.List.Sums.{sum_by-cons, count_by-le-length}
use Rattle.pd_kinds.specs.Bitmap.{bitmap_salt, bitmaps_for, index_block_at, index_salt, placed_block, unsealed_index}
use Rattle.pd_kinds.specs.Graph.{block_at, Edge, edge_of, Graph}
use Rattle.pd_kinds.specs.Trees.{stored_data_in, stored_in, stored_meta_in, value_of_key}
use Rattle.pd_kinds.specs.Node.{Entry}
use Rattle.pd_kinds.specs.Layout.{Layout, bitmap, index, plain_tree, graph_of}
use Rattle.pd_kinds.proofs.ListLemmas.{all_from, all_mapped}
use Rattle.pd_laid.specs.Laid.{bitmap_of, free_in, index_entry_of, index_items, overflow_items, LaidBlock, count_in, tree_of, laid_bitmaps, laid_index, laid_meta_map, meta_counts, meta_map_number, meta_overflow, meta_overflow_at, meta_overflow_blocks, meta_overflow_root}
use Rattle.pd_laid.proofs.NeedLemmas.{length-bitmaps}
use Rattle.pd_laws_laid.proofs.OnceTrees.{code_block, count_before}
use Rattle.pd_laws_laid.proofs.Bitmaps.{stored_laid, bitmap_at, bitmaps_fit}
use Rattle.pd_laws_laid.proofs.Index.{named_block, index_seen, overflow_are, range_within}
use Rattle.pd_laws_laid.specs.LaidOut.{AllFrom, IsFitting, IsInPlace, IsNamed, LeadsBelow, IsMetaMapSeen}
use Rattle.pd_laws_laid.proofs.ListLemmas.{count_append, from_front, from_back, from_both}
use Rattle.pd_laws_laid.proofs.Names.{root_leads}
use Rattle.pd_laws_laid.proofs.Trees.{tree_seen}

-- The counts that bitmaps in their places store, as an index leads to them.

-- the value at a key that a range has
value_found : (value : ℕ → ℕ) (a n b : ℕ) → a ≤ b → b < a + n
    → value_of_key (map (λ (c : ℕ). record { key = c; value = value c }) (range_with_len a n)) b ≡ Some (value b)
unfolding value_of_key
value_found value a zero b low high = absurd (omega arith)
value_found value a (suc n) b low high = elim (cases_eq a b) [
  | inl same ↦ rw (eq-eqb a b same) (ap (λ (c : ℕ). Some (value c)) same)
  | inr other ↦ rw (ne_eqb a b other) (value_found value (a + 1) n b (omega arith) (omega arith))
]

-- Bitmaps of n blocks from a place on. Those counts that two bits don't hold may be stored from counts that agree there
module _ (image : List (List ℕ)) (counts over : ℕ → ℕ) (n first : ℕ) (agree : (b : ℕ) → 3 ≤ counts b → over b ≡ counts b)
    (stand : (i : ℕ) → i < bitmaps_for n → block_at image (first + i) ≡ placed_block bitmap_salt (first + i) (bitmap_of (λ e. counts (16320 * i + e)))) where
  -- an index block leads to them
  pub stored_by_block : (place : ℕ) → bitmaps_for n ≤ 255 → first + 255 ≤ 2 ^ 64
      → block_at image place ≡ placed_block index_salt place (unsealed_index (map (index_entry_of counts n first) (range_with_len 0 (bitmaps_for n))))
      → (b : ℕ) → b < n → stored_meta_in image place (overflow_items over n) b ≡ Some (counts b)
  unfolding stored_meta_in
  stored_by_block place few fits stands b within =
      let covered : b / 16320 < bitmaps_for n = omega arith in
      let names : index_block_at (block_at image place) (b / 16320) ≡ first + b / 16320 =
      ap (λ (block : List ℕ). index_block_at block (b / 16320)) stands ∙ named_block counts n first few fits place (b / 16320) covered in
      ap (λ (p : ℕ). stored_in image (Some p) (overflow_items over n) b) names
      ∙ stored_laid image counts over n (first + b / 16320) b within (agree b) (stand (b / 16320) covered)

  -- the entries of an index tree do
  pub stored_by_tree : first + bitmaps_for n ≤ 2 ^ 64 → (b : ℕ) → b < n → stored_data_in image (index_items counts n first) (overflow_items over n) b ≡ Some (counts b)
  unfolding stored_data_in index_items
  stored_by_tree fits b within =
      let i = b / 16320 in
      let covered : b / 16320 < bitmaps_for n = omega arith in
      let found = value_found (index_entry_of counts n first) 0 (bitmaps_for n) i zero-le (omega arith) in
      let place = code_block (first + i) (free_in counts n i) (omega arith) in
      ap (λ (value : Option ℕ). stored_in image (option_map (λ (v : ℕ). v % 2 ^ 64) value) (overflow_items over n) b) found
      ∙ (ap (λ (p : ℕ). stored_in image (Some p) (overflow_items over n) b) place
      ∙ stored_laid image counts over n (first + i) b within (agree b) (stand i covered))

-- how often a number stands in a list that has only lower ones, and in a range
pub one_more : (x b : ℕ) (xs : List ℕ) → count_in (x ∷ xs) b ≡ cond (nat_eq x b) 1 0 + count_in xs b
one_more x b xs = sum_by-cons (λ y. cond (nat_eq y b) 1 0) x xs

pub other_more : (x b : ℕ) (xs : List ℕ) → x ≢ b → count_in (x ∷ xs) b ≡ count_in xs b
other_more x b xs other = one_more x b xs ∙ rw (ne_eqb x b other) (omega arith)

few_more : (x b : ℕ) (xs : List ℕ) → count_in (x ∷ xs) b ≤ 1 + count_in xs b
few_more x b xs = rw (one_more x b xs) (small (nat_eq x b))
  where
    small : (test : Bool) → cond test 1 0 + count_in xs b ≤ 1 + count_in xs b
    small true = omega arith
    small false = omega arith

pub none_in : (place b : ℕ) (named : List ℕ) → AllByRecursion (λ r. r < place) named → place ≤ b → count_in named b ≡ 0
none_in place b [] all high = refl
none_in place b (r ∷ named) all high = let low = all.0 in other_more r b named (λ e. omega arith) ∙ none_in place b named all.1 high

pub once_at_most : (a n b : ℕ) → count_in (range_with_len a n) b ≤ 1
once_at_most a zero b = omega arith
once_at_most a (suc n) b = elim (cases_eq a b) [
  | inl same ↦ omega (arith, few_more a b (range_with_len (a + 1) n), count_before (a + 1) n b (omega arith))
  | inr other ↦ rw (other_more a b (range_with_len (a + 1) n) other) (once_at_most (a + 1) n b)
]

-- where it is above 2, a count is of what is named before the map
before_count : (role n place b : ℕ) (named : List ℕ) → AllByRecursion (λ r. r < place) named → 3 ≤ meta_counts role n place named b
    → count_in named b ≡ meta_counts role n place named b
unfolding meta_counts
before_count role n place b named all many =
    let number = meta_map_number role n place named in
    let split = count_append (λ r. nat_eq r b) named (range_with_len place number) in
    elim (cases_lt b place) [
      | inl less ↦ omega (arith, count_before place number b less, split)
      | inr high ↦ absurd (omega (arith, none_in place b named all high, once_at_most place number b, split))
    ]

-- a range of places that have a fact each
each_range : (P : ℕ → Type 0) (place a n : ℕ) → AllByRecursion (λ i. P (place + i)) (range_with_len a n) → AllByRecursion P (range_with_len (place + a) n)
each_range P place a zero all = tt
each_range P place a (suc n) all =
    let e : (place + a) + 1 ≡ place + (a + 1) = omega arith in
    (all.0, rw e (each_range P place (a + 1) n all.1))

pub unmapped : {X : Type 0} (f : X → Edge) (P : Edge → Type 0) (xs : List X) → AllByRecursion P (map f xs) → AllByRecursion (λ x. P (f x)) xs
unmapped f P [] all = tt
unmapped f P (x ∷ xs) all = (all.0, unmapped f P xs all.1)

module _ (roles n data_blocks : ℕ) (table : ℕ → Layout) (image : List (List ℕ)) (blocks : List LaidBlock) (limit role place : ℕ) (named : List ℕ)
    (index_is : table role ≡ index (role + 1)) (bitmap_is : table (role + 1) ≡ bitmap) (tree_is : table (role + 2) ≡ plain_tree 4)
    (known : role + 2 < roles) (few_roles : roles ≤ 16) (few : n ≤ 4161600) (within : limit ≤ n) (from : 1 ≤ place)
    (room : place + length (laid_meta_map role n place named) ≤ limit)
    (lower : AllByRecursion (λ r. r < place) named) (few_named : length named < 2 ^ 32)
    (stand : AllFrom (IsInPlace image blocks) place (laid_meta_map role n place named))
    (root_named : IsNamed blocks place) (over_named : IsNamed blocks (meta_overflow_root n place named)) where
  abbrev this : Graph
  this = graph_of roles n data_blocks table

  abbrev counts : ℕ → ℕ
  counts = meta_counts role n place named

  abbrev bitmaps : List LaidBlock
  bitmaps = laid_bitmaps (role + 1) counts n

  abbrev over : List LaidBlock
  over = meta_overflow_blocks role n place named

  number_is : length (laid_meta_map role n place named) ≡ 1 + (bitmaps_for n + length over)
  unfolding laid_meta_map
  number_is = omega (arith, length-append bitmaps over, length-bitmaps (role + 1) counts n)

  map_stands : AllFrom (IsInPlace image blocks) place (laid_index role counts n (place + 1) ∷ (bitmaps ++ over))
  unfolding laid_meta_map
  map_stands = stand

  bitmaps_stand : AllFrom (IsInPlace image blocks) (place + 1) bitmaps
  bitmaps_stand = from_front (IsInPlace image blocks) (place + 1) bitmaps over map_stands.1

  over_stands : AllFrom (IsInPlace image blocks) (meta_overflow_at n place) over
  over_stands =
      let size = length-bitmaps (role + 1) counts n in
      rw size at (from_back (IsInPlace image blocks) (place + 1) bitmaps over map_stands.1)

  few_bitmaps : bitmaps_for n ≤ 255
  few_bitmaps = omega arith

  fits : (place + 1) + 255 ≤ 2 ^ 64
  fits = omega (arith, room, number_is)

  abbrev edge : ℕ → Edge
  edge i = edge_of (role + 1) ((place + 1) + i)

  -- the index block leads to the bitmaps
  index_leads : AllByRecursion (LeadsBelow blocks limit) (laid_index role counts n (place + 1)).edges
  index_leads =
      all_mapped edge (LeadsBelow blocks limit) (range_with_len 0 (bitmaps_for n))
      (all_from (λ i. (0 ≤ i) × (i < 0 + bitmaps_for n)) (λ i. LeadsBelow blocks limit (edge i))
      (λ i is. record {
        from_one = omega arith;
        below = omega (arith, room, number_is, is.1);
        role_is = (bitmap_at (IsInPlace image blocks) (role + 1) counts (place + 1) n i (omega (arith, is.1)) bitmaps_stand).role_is;
      }) (range_with_len 0 (bitmaps_for n)) (range_within 0 (bitmaps_for n)))

  bitmaps_named : AllByRecursion (IsNamed blocks) (range_with_len (place + 1) (bitmaps_for n))
  bitmaps_named =
      let e : (place + 1) + 0 ≡ place + 1 = omega arith in
      rw e at (each_range (IsNamed blocks) (place + 1) 0 (bitmaps_for n)
      (unmapped edge (λ (x : Edge). IsNamed blocks x.block) (range_with_len 0 (bitmaps_for n)) map_stands.0.names))

  abbrev overflow : List Entry
  overflow = meta_overflow n named

  counts_fit : (b : ℕ) → b < n → count_in named b < 2 ^ 32
  counts_fit b within = omega (arith, count_by-le-length (λ r. nat_eq r b) named, few_named)

  stored : (b : ℕ) → b < n → stored_meta_in image place (meta_overflow n named) b ≡ Some (meta_counts role n place named b)
  stored =
      stored_by_block image counts (count_in named) n (place + 1) (λ b. before_count role n place b named lower)
      (λ i covered. (bitmap_at (IsInPlace image blocks) (role + 1) counts (place + 1) n i covered bitmaps_stand).stands) place few_bitmaps fits map_stands.0.stands

  pub map_seen : IsMetaMapSeen this image blocks limit role n place named
  unfolding laid_meta_map meta_overflow_blocks
  map_seen =
      let size = length-bitmaps (role + 1) counts n in
      let tree = tree_seen roles n data_blocks table image blocks limit (role + 2) (tree_of (plain_tree 4)) tree_is known few_roles (omega arith) few within
      (meta_overflow_at n place) overflow (omega arith) (omega (arith, room, number_is)) (overflow_are blocks limit (count_in named) n (omega arith) counts_fit) over_stands over_named in
      record {
        fitting = (
          record {
            seen = index_seen counts n (place + 1) few_bitmaps fits roles data_blocks table image role place index_is (omega arith) few_roles
                (omega (arith, room, number_is)) (omega arith) (omega (arith, room, number_is)) map_stands.0.stands;
            leads = index_leads;
            named = λ _. root_named;
          },
          from_both (IsFitting this image blocks limit) (place + 1) bitmaps over
              (bitmaps_fit roles n data_blocks table image blocks limit (role + 1) counts bitmap_is (omega arith) few_roles few (place + 1) n (omega (arith, room, number_is)) bitmaps_stand bitmaps_named)
              (rw size tree.fitting),
        );
        index_leads = record { from_one = from; below = omega (arith, room, number_is); role_is = map_stands.0.role_is };
        overflow_leads = root_leads image blocks limit (role + 2) (tree_of (plain_tree 4)) (meta_overflow_at n place) overflow (omega arith) (omega arith)
            (omega (arith, room, number_is)) over_stands;
        overflow = tree.root.entries_are;
        stored = stored;
      }
