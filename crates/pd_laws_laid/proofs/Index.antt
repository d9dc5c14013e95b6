-- A laid index block breaks no rule, and names its bitmaps.
use Rattle.std.proofs.Common.{◌≡◌, inl, inr, ℕ, zero, suc, ◌+◌, ◌*◌, ◌%◌, ◌^◌, ◌<◌, ◌≤◌, Bool, true, false, not, ◌&&◌, nat_eq, nat_lt, List, [], ◌∷◌, map, filter, refl, ◌∙◌, ap, arith, length, get_or, sym}
use Rattle.std.specs.List.{AllByRecursion, flat_map, range_with_len, count_by, list_any}
use Rattle.std.proofs.lemmas.Bool.{cases_Bool, or_from, and_left}
use Rattle.std.proofs.lemmas.List.{map-id}
use Rattle.std.proofs.lemmas.List.FromFn.{length-range_with_len, get_or-map-range_with_len, length-map-range_with_len}
use Rattle.std.proofs.lemmas.List.Sums.{count_by-le-length}
use Rattle.std.proofs.lemmas.Bool.Decides.{nat_tests}
use Rattle.pd_kinds.specs.Graph.{Edge, edge_of, is_outside, block_at}
use Rattle.pd_kinds.specs.Node.{Entry, is_ascending, puts}
use Rattle.pd_kinds.specs.Bitmap.{bitmaps_for, index_salt, index_bad, placed_block, unsealed_index, index_blocks, index_block_at}
use Rattle.pd_kinds.specs.Field.{index_code, le, zeros}
use Rattle.pd_kinds.specs.Layout.{plain_tree, tree_to, Layout, index, graph_of}
use Rattle.pd_kinds.specs.Trees.{keys_of}
use Rattle.pd_kinds.proofs.ListLemmas.{all_from, all_mapped, all_of}
use Rattle.pd_kinds.specs.declared.rule.Rule.{Rule}
use Rattle.pd_kinds.proofs.FieldLemmas.{length-puts, le-puts}
use Rattle.pd_kinds.proofs.WrittenLemmas.{length-zeros}
use Rattle.pd_laid.specs.Laid.{LaidBlock, tree_of, free_in, index_entry_of, index_items, overflow_items, laid_index}
use Rattle.pd_laid.proofs.NodeFacts.{map-map}
use Rattle.pd_bitmap.proofs.Placed.{le-placed, place-placed, index_met, block_of_code}
use Rattle.pd_laws_laid.proofs.OnceTrees.{code_block}
use Rattle.pd_laws_laid.specs.LaidOut.{LeadsBelow, role_at, AreItems, IsSeen}
use Rattle.pd_laws_laid.proofs.Ascending.{asc_cons}
use Rattle.pd_laws_laid.proofs.Bytes.{bytes_puts, bytes_zeros}
use Rattle.pd_laws_laid.proofs.Bitmaps.{valid_placed}
use Rattle.pd_laws_laid.proofs.Plain.{plain_seen}

-- The entries of the trees of a space map can be laid.

-- entries that are made from a list
pub made_keys : {X : Type 0} → (key value : X → ℕ) (xs : List X) → keys_of (map (λ (x : X). record { key = key x; value = value x }) xs) ≡ map key xs
made_keys {X} key value xs = map-map (λ (e : Entry). e.key) (λ (x : X). record { key = key x; value = value x }) xs

pub made_all : {X : Type 0} → (P : Entry → Type 0) (Q : X → Type 0) (key value : X → ℕ) → ((x : X) → Q x → P (record { key = key x; value = value x })) → (xs : List X)
    → AllByRecursion Q xs → AllByRecursion P (map (λ (x : X). record { key = key x; value = value x }) xs)
made_all {X} P Q key value follows xs all =
    all_mapped (λ (x : X). record { key = key x; value = value x }) P xs (all_from Q (λ (x : X). P (record { key = key x; value = value x })) follows xs all)

-- the numbers of a range that pass ascend, and lie in it
passing_within : (q : ℕ → Bool) (a n : ℕ) → AllByRecursion (λ k. (a ≤ k) × (k < a + n)) (filter q (range_with_len a n))
passing_within q a zero = tt
passing_within q a (suc n) =
    let rest = all_from (λ k. (a + 1 ≤ k) × (k < (a + 1) + n)) (λ k. (a ≤ k) × (k < a + suc n)) (λ k h. let low = h.0 in let high = h.1 in (omega arith, omega arith))
    (filter q (range_with_len (a + 1) n)) (passing_within q (a + 1) n) in
    elim (cases_Bool (q a)) [
      | inl here ↦ rw here ((omega arith, omega arith), rest)
      | inr missed ↦ rw missed rest
    ]

passing_ascend : (q : ℕ → Bool) (a n : ℕ) → is_ascending (filter q (range_with_len a n)) ≡ true
unfolding is_ascending
passing_ascend q a zero = refl
passing_ascend q a (suc n) =
    let rest = filter q (range_with_len (a + 1) n) in
    let asc = passing_ascend q (a + 1) n in
    elim (cases_Bool (q a)) [
      | inl here ↦ rw here (asc_cons a rest (all_from (λ k. (a + 1 ≤ k) × (k < (a + 1) + n)) (λ k. a < k) (λ k h. let low = h.0 in omega arith) rest (passing_within q (a + 1) n)) asc)
      | inr missed ↦ rw missed asc
    ]

pub range_within : (a n : ℕ) → AllByRecursion (λ k. (a ≤ k) × (k < a + n)) (range_with_len a n)
range_within a zero = tt
range_within a (suc n) = (
  (omega arith, omega arith),
  all_from (λ k. (a + 1 ≤ k) × (k < (a + 1) + n)) (λ k. (a ≤ k) × (k < a + suc n)) (λ k h. let low = h.0 in let high = h.1 in (omega arith, omega arith))
      (range_with_len (a + 1) n) (range_within (a + 1) n),
)

pub range_ascends : (a n : ℕ) → is_ascending (range_with_len a n) ≡ true
unfolding is_ascending
range_ascends a zero = refl
range_ascends a (suc n) =
    asc_cons a (range_with_len (a + 1) n)
    (all_from (λ k. (a + 1 ≤ k) × (k < (a + 1) + n)) (λ k. a < k) (λ k h. let low = h.0 in omega arith) (range_with_len (a + 1) n) (range_within (a + 1) n)) (range_ascends (a + 1) n)

-- the entries of an overflow tree
pub overflow_are : (blocks : List LaidBlock) (limit : ℕ) (counts : ℕ → ℕ) (n : ℕ) → n ≤ 2 ^ 64 → ((b : ℕ) → b < n → counts b < 2 ^ 32)
    → AreItems blocks limit (tree_of (plain_tree 4)) (overflow_items counts n)
unfolding overflow_items
overflow_are blocks limit counts n few small =
    let passing = filter (λ b. not (nat_lt (counts b) 3)) (range_with_len 0 n) in
    let key = λ (b : ℕ). b in
    let within = λ (k : ℕ). (0 ≤ k) × (k < 0 + n) in
    let all = passing_within (λ b. not (nat_lt (counts b) 3)) 0 n in
    record {
      ascending = rw (made_keys key counts passing, map-id passing) (passing_ascend (λ b. not (nat_lt (counts b) 3)) 0 n);
      keys_fit = made_all (λ (e : Entry). e.key < 2 ^ 64) within key counts (λ b h. let high = h.1 in omega arith) passing all;
      values_fit = made_all (λ (e : Entry). e.value < 256 ^ 4) within key counts (λ b h. let high = h.1 in small b (omega arith)) passing all;
      in_range = all_of (λ (e : Entry). false ≡ false) (λ e. refl) (overflow_items counts n);
      leads = all_of (λ (e : Entry). AllByRecursion (LeadsBelow blocks limit) []) (λ e. tt) (overflow_items counts n);
    }

-- the entries of an index, for bitmaps from a place on
pub code_small : (block free : ℕ) → block < 2 ^ 64 → free ≤ 16320 → index_code block free 0 < 256 ^ 16
code_small block free fits few = omega arith

few_in : (most : ℕ) (test : ℕ → Bool) → count_by test (range_with_len 0 most) ≤ most
few_in most test = omega (arith, count_by-le-length test (range_with_len 0 most), length-range_with_len 0 most)

pub free_few : (counts : ℕ → ℕ) (n i : ℕ) → free_in counts n i ≤ 16320
unfolding free_in
free_few counts n i = few_in 16320 (λ e. nat_lt (16320 * i + e) n && nat_eq (counts (16320 * i + e)) 0)

pub index_are : (blocks : List LaidBlock) (limit target : ℕ) (counts : ℕ → ℕ) (n place : ℕ) → n ≤ 2 ^ 64 → limit ≤ 2 ^ 63 → 1 ≤ place → place + bitmaps_for n ≤ limit
    → ((i : ℕ) → i < bitmaps_for n → role_at blocks (place + i) ≡ target)
    → AreItems blocks limit (tree_of (tree_to 16 target (λ v. v % 2 ^ 64))) (index_items counts n place)
unfolding index_items
index_are blocks limit target counts n place few fits from inside roles_are =
    let k = bitmaps_for n in
    let key = λ (i : ℕ). i in
    let value = λ (i : ℕ). index_entry_of counts n place i in
    let within = λ (i : ℕ). (0 ≤ i) × (i < 0 + k) in
    let all = range_within 0 k in
    let few_bitmaps : k ≤ 2 ^ 63 = omega arith in
    record {
      ascending = rw (made_keys key value (range_with_len 0 k), map-id (range_with_len 0 k)) (range_ascends 0 k);
      keys_fit = made_all (λ (e : Entry). e.key < 2 ^ 64) within key value (λ i h. let high = h.1 in omega arith) (range_with_len 0 k) all;
      values_fit = made_all (λ (e : Entry). e.value < 256 ^ 16) within key value
          (λ i h. let high = h.1 in code_small (place + i) (free_in counts n i) (omega arith) (free_few counts n i)) (range_with_len 0 k) all;
      in_range = all_of (λ (e : Entry). false ≡ false) (λ e. refl) (index_items counts n place);
      leads = made_all (λ (e : Entry). AllByRecursion (LeadsBelow blocks limit) (edge_of target (e.value % 2 ^ 64) ∷ [])) within key value
          (λ i h. let high = h.1 in
          let block = code_block (place + i) (free_in counts n i) (omega arith) in
          rw block (record { from_one = omega arith; below = omega arith; role_is = roles_are i (omega arith) }, tt)) (range_with_len 0 k) all;
    }

-- the blocks that these entries name: the bitmaps, one after another
pub index_edges : (target : ℕ) (counts : ℕ → ℕ) (n place : ℕ) → place + bitmaps_for n ≤ 2 ^ 63
    → flat_map (λ (e : Entry). edge_of target (e.value % 2 ^ 64) ∷ []) (index_items counts n place) ≡ map (edge_of target) (range_with_len place (bitmaps_for n))
unfolding index_items
index_edges target counts n place fits =
    let zero_at : place + 0 ≡ place = omega arith in
    rw zero_at at (each 0 (bitmaps_for n) (omega arith))
  where
    each : (a k : ℕ) → a + k ≤ bitmaps_for n
        → flat_map (λ (e : Entry). edge_of target (e.value % 2 ^ 64) ∷ []) (map (λ (i : ℕ). record { key = i; value = index_entry_of counts n place i }) (range_with_len a k))
        ≡ map (edge_of target) (range_with_len (place + a) k)
    each a zero within = refl
    each a (suc k) within =
        let e : (place + a) + 1 ≡ place + (a + 1) = omega arith in
        let block = code_block (place + a) (free_in counts n a) (omega arith) in
        rw e (ap (λ (b : ℕ). edge_of target b ∷ flat_map (λ (e : Entry). edge_of target (e.value % 2 ^ 64) ∷ []) (map (λ (i : ℕ). record { key = i; value = index_entry_of counts n place i }) (range_with_len (a + 1) k))) block
        ∙ ap (λ (rest : List Edge). edge_of target (place + a) ∷ rest) (each (a + 1) k (omega arith)))

-- a range that a function gives number by number
mapped_range : (f : ℕ → ℕ) (place a n : ℕ) → ((i : ℕ) → a ≤ i → i < a + n → f i ≡ place + i) → map f (range_with_len a n) ≡ range_with_len (place + a) n
mapped_range f place a zero each = refl
mapped_range f place a (suc n) each =
    let e : (place + a) + 1 ≡ place + (a + 1) = omega arith in
    rw e
    (ap (λ (x : ℕ). x ∷ map f (range_with_len (a + 1) n)) (each a (omega arith) (omega arith))
    ∙ ap (λ (rest : List ℕ). (place + a) ∷ rest) (mapped_range f place (a + 1) n (λ i low high. each i (omega arith) (omega arith))))

pub range_of : (f : ℕ → ℕ) (place n : ℕ) → ((i : ℕ) → i < n → f i ≡ place + i) → map f (range_with_len 0 n) ≡ range_with_len place n
range_of f place n each =
    let e : place + 0 ≡ place = omega arith in
    rw e at (mapped_range f place 0 n (λ i low high. each i (omega arith)))

module _ (counts : ℕ → ℕ) (n place : ℕ) (few : bitmaps_for n ≤ 255) (fits : place + 255 ≤ 2 ^ 64) where
  abbrev codes : List ℕ
  codes = map (index_entry_of counts n place) (range_with_len 0 (bitmaps_for n))

  length-codes : length (map (index_entry_of counts n place) (range_with_len 0 (bitmaps_for n))) ≡ bitmaps_for n
  length-codes = length-map-range_with_len (index_entry_of counts n place) 0 (bitmaps_for n)

  code_at : (i : ℕ) → i < bitmaps_for n → get_or (map (index_entry_of counts n place) (range_with_len 0 (bitmaps_for n))) i 0 ≡ index_entry_of counts n place i
  code_at i within = get_or-map-range_with_len (index_entry_of counts n place) 0 (bitmaps_for n) i i 0 within (omega arith)

  named_at : (i : ℕ) → i < bitmaps_for n → le (unsealed_index (map (index_entry_of counts n place) (range_with_len 0 (bitmaps_for n)))) (16 + 16 * i) 8 ≡ place + i
  unfolding unsealed_index
  named_at i within =
      let size = length-codes in
      let room = length-zeros in
      let is = code_at i within in
      let whole = le-puts zeros 16 16 codes i (omega arith) (omega arith) (rw is (code_small (place + i) (free_in counts n i) (omega arith) (free_few counts n i))) in
      sym (block_of_code (puts zeros 16 16 codes) (16 + 16 * i) (bytes_puts zeros 16 16 _ bytes_zeros).at)
      ∙ (ap (λ (x : ℕ). x % 2 ^ 64) (whole ∙ is) ∙ code_block (place + i) (free_in counts n i) (omega arith))

  unsealed_names : index_blocks n (unsealed_index (map (index_entry_of counts n place) (range_with_len 0 (bitmaps_for n)))) ≡ range_with_len place (bitmaps_for n)
  unfolding index_blocks
  unsealed_names = range_of (index_block_at (unsealed_index codes)) place (bitmaps_for n) named_at

  pub named_block : (p i : ℕ) → i < bitmaps_for n
      → index_block_at (placed_block index_salt p (unsealed_index (map (index_entry_of counts n place) (range_with_len 0 (bitmaps_for n))))) i ≡ place + i
  named_block p i within = le-placed index_salt p (unsealed_index codes) (16 + 16 * i) 8 (omega arith) ∙ named_at i within

  named_blocks : (p : ℕ)
      → index_blocks n (placed_block index_salt p (unsealed_index (map (index_entry_of counts n place) (range_with_len 0 (bitmaps_for n))))) ≡ range_with_len place (bitmaps_for n)
  unfolding index_blocks
  named_blocks p = range_of (index_block_at (placed_block index_salt p (unsealed_index codes))) place (bitmaps_for n) (named_block p)

  -- it breaks no rule
  index_sound : (p : ℕ) → p < 2 ^ 64 → 1 ≤ place → place + bitmaps_for n ≤ n
      → (rule : Rule) → index_bad n p (placed_block index_salt p (unsealed_index (map (index_entry_of counts n place) (range_with_len 0 (bitmaps_for n))))) rule ≡ false
  unfolding unsealed_index
  index_sound p p_fits from within rule =
      let b = unsealed_index codes in
      let c = placed_block index_salt p b in
      let size : length b ≡ 4096 = length-puts zeros 16 16 codes ∙ length-zeros in
      let inside : list_any (λ (x : ℕ). is_outside n x) (index_blocks n b) ≡ false = rw unsealed_names (none_outside place (bitmaps_for n) from within) in
      index_met n p b c rule (valid_placed index_salt p b (omega arith) (omega arith) (bytes_puts zeros 16 16 _ bytes_zeros))
      (place-placed index_salt p b (omega arith) (omega arith)) refl
      ∙ and_left _ _ inside
    where
      none_outside : (a k : ℕ) → 1 ≤ a → a + k ≤ n → list_any (λ (x : ℕ). is_outside n x) (range_with_len a k) ≡ false
      none_outside a zero from within = refl
      none_outside a (suc k) from within = or_from (is_outside n a) _ (grind (arith, nat_tests)) (none_outside (a + 1) k (omega arith) (omega arith))

  -- and the graph sees that it names its bitmaps
  pub index_seen : (roles data_blocks : ℕ) (table : ℕ → Layout) (image : List (List ℕ)) (role p : ℕ) → table role ≡ index (role + 1) → role < roles → roles ≤ 16
      → p < 2 ^ 64 → 1 ≤ place → place + bitmaps_for n ≤ n → block_at image p ≡ (laid_index role counts n place).written p
      → IsSeen (graph_of roles n data_blocks table) image p (laid_index role counts n place)
  index_seen roles data_blocks table image role p is known few_roles p_fits from within stands =
      let block = placed_block index_salt p (unsealed_index codes) in
      let edge = edge_of (role + 1) in
      plain_seen roles n data_blocks table image (index (role + 1)) p block (laid_index role counts n place) known few_roles is refl
      (ap (map edge) (named_blocks p ∙ sym (range_of (λ i. place + i) place (bitmaps_for n) (λ i within. refl)))
      ∙ map-map edge (λ (i : ℕ). place + i) (range_with_len 0 (bitmaps_for n)))
      refl stands (index_sound p p_fits from within)
