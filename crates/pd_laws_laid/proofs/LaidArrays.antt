-- A whole array.
use Rattle.std.proofs.Common.{◌≡◌, ◌⊎◌, inl, inr, ℕ, zero, suc, ◌+◌, ◌-◌, ◌*◌, ◌^◌, ◌<◌, ◌≤◌, ◌≢◌, nat_eq, true, false, not, ◌&&◌, ◌||◌, eq-eqb, List, [], ◌∷◌, ◌++◌, length, map, refl, sym, ◌∙◌, ap, ap₂, arith}
use Rattle.std.specs.List.{AllByRecursion, flat_map, range_with_len}
use Rattle.std.specs.Str.{bytes_eq}
use Rattle.std.proofs.Math.Nat.{div-mul-le_self, lt-div-mul-add, suc-mul}
use Rattle.std.proofs.lemmas.Bool.{and_from, and_right, cases_eq, ne_eqb, not_from_true, or_from}
use Rattle.std.proofs.lemmas.List.{length-append, length-map, map-id}
use Rattle.std.proofs.lemmas.List.FromFn.{length-map-range_with_len}
use Rattle.std.proofs.lemmas.Nat.{le-div}
use Rattle.pd_kinds.specs.Graph.{Edge, edge_of, Graph, block_at}
use Rattle.pd_kinds.specs.Array.{array_block, max_words, word_count}
use Rattle.pd_kinds.specs.Layout.{Layout, Tree, array, graph_of, tree_to}
use Rattle.pd_kinds.specs.Node.{Entry}
use Rattle.pd_kinds.specs.Trees.{block_words, entries_below, keys_of, words_of}
use Rattle.pd_kinds.specs.Whole.{Array, WholeTest, are_full, array_whole, array_words, is_array_index_bad}
use Rattle.pd_kinds.proofs.ListLemmas.{all_append, all_from, all_map, all_mapped, all_of}
use Rattle.pd_kinds.specs.declared.rule.Rule.TheVariants as r
use Rattle.pd_grammar.specs.Need.{nodes_for}
use Rattle.pd_laid.specs.Laid.{array_items, array_pieces, array_root, laid_array, laid_words, pieces, LaidBlock, laid_tree, tree_of}
use Rattle.pd_laws_laid.specs.LaidOut.{AllFrom, IsFitting, IsInPlace, IsNamed, LeadsBelow, role_at, AreItems, IsArraySeen, array_at}
use Rattle.pd_laws_laid.proofs.Formats.{same_bytes}
use Rattle.pd_laws_laid.proofs.ListLemmas.{by_place, from_back, from_both, from_front}
use Rattle.pd_laws_laid.proofs.Names.{root_leads, tree_roles}
use Rattle.pd_laws_laid.proofs.Trees.{tree_seen}
use Rattle.pd_laws_laid.proofs.Index.{made_all, made_keys, range_ascends, range_within}
use Rattle.pd_laws_laid.proofs.Plain.{plain_seen}
use Rattle.pd_laws_laid.proofs.RoleCounts.{NameNone, tree_names_none}
use Rattle.pd_laws_laid.proofs.Pieces.{AreFilled, IsPiece, IsWordSize, array_sound, count_read, filled_by, pieces_fit, pieces_joined, words_read}

-- the blocks of an array stand from a place on
abbrev PiecesStand : List (List ℕ) → ℕ → ℕ → List (List ℕ) → Type 0
PiecesStand image size place list = AllFrom (λ q words. block_at image q ≡ array_block size q words) place list

pieces_stand : (image : List (List ℕ)) (blocks : List LaidBlock) (role size place : ℕ) (list : List (List ℕ)) → AllFrom (IsInPlace image blocks) place (map (laid_words role size) list)
    → PiecesStand image size place list
pieces_stand image blocks role size place [] stand = tt
pieces_stand image blocks role size place (words ∷ list) stand = (stand.0.stands, pieces_stand image blocks role size (place + 1) list stand.1)

pieces_role : (image : List (List ℕ)) (blocks : List LaidBlock) (role size place : ℕ) (list : List (List ℕ)) → AllFrom (IsInPlace image blocks) place (map (laid_words role size) list)
    → AllFrom (λ q (words : List ℕ). role_at blocks q ≡ role) place list
pieces_role image blocks role size place [] stand = tt
pieces_role image blocks role size place (words ∷ list) stand = (stand.0.role_is, pieces_role image blocks role size (place + 1) list stand.1)

module _ (image : List (List ℕ)) (size : ℕ) (wide : IsWordSize size) where
  -- the words that the entries of its tree lead to
  words_from : (place a k : ℕ) (list : List (List ℕ)) → length list ≡ k → PiecesStand image size (place + a) list → AllByRecursion (IsPiece size) list
      → words_of size image (map (λ (i : ℕ). record { key = i; value = place + i }) (range_with_len a k)) ≡ flat_map (λ (ws : List ℕ). ws) list
  unfolding words_of
  words_from place a zero [] count stand fit = refl
  words_from place a zero (words ∷ list) count stand fit = absurd (omega arith)
  words_from place a (suc k) [] count stand fit = absurd (omega arith)
  words_from place a (suc k) (words ∷ list) count stand fit =
      let e : (place + a) + 1 ≡ place + (a + 1) = omega arith in
      ap₂ (λ (front back : List ℕ). front ++ back)
      (ap (block_words size) stand.0 ∙ words_read size (place + a) words wide fit.0)
      (words_from place (a + 1) k list (omega arith) (rw e at stand.1) fit.1)

  full_from : (place a k : ℕ) (list : List (List ℕ)) → length list ≡ k → PiecesStand image size (place + a) list → AllByRecursion (IsPiece size) list
      → AreFilled (max_words size) list
      → are_full image size (map (λ (i : ℕ). record { key = i; value = place + i }) (range_with_len a k)) ≡ true
  unfolding are_full
  full_from place a zero list count stand fit filled = refl
  full_from place a (suc zero) list count stand fit filled = refl
  full_from place a (suc (suc k)) [] count stand fit filled = absurd (omega arith)
  full_from place a (suc (suc k)) (words ∷ []) count stand fit filled = absurd (omega arith)
  full_from place a (suc (suc k)) (words ∷ more ∷ list) count stand fit filled =
      let e : (place + a) + 1 ≡ place + (a + 1) = omega arith in
      let here : word_count size (block_at image (place + a)) ≡ max_words size =
      ap (word_count size) stand.0 ∙ (count_read size (place + a) words wide fit.0 ∙ filled.0) in
      and_from _ _ (eq-eqb _ _ here) (full_from place (a + 1) (suc k) (more ∷ list) (omega arith) (rw e at stand.1) fit.1 filled.1)

items_keys : (place k : ℕ) → keys_of (array_items place k) ≡ range_with_len 0 k
unfolding array_items
items_keys place k = made_keys (λ (i : ℕ). i) (λ (i : ℕ). place + i) (range_with_len 0 k) ∙ map-id (range_with_len 0 k)

-- an array whose tree has these entries is whole, and has these words
array_read : (graph : Graph) (image : List (List ℕ)) (a : Array) (place : ℕ) (list : List (List ℕ)) → IsWordSize a.size
    → entries_below graph image 8 a.role a.root ≡ array_items place (length list)
    → PiecesStand image a.size place list → AllByRecursion (IsPiece a.size) list → AreFilled (max_words a.size) list
    → (is_array_index_bad graph image a ≡ false) × (array_words graph image a ≡ flat_map (λ (ws : List ℕ). ws) list)
unfolding is_array_index_bad array_items
array_read graph image a place list wide entries stand fit filled =
    let k = length list in
    let e : place + 0 ≡ place = omega arith in
    let from : PiecesStand image a.size (place + 0) list = rw e stand in
    let count : length (array_items place k) ≡ k = length-map-range_with_len (λ (i : ℕ). record { key = i; value = place + i }) 0 k in
    let keys_are : bytes_eq (keys_of (array_items place k)) (range_with_len 0 (length (array_items place k))) ≡ true =
    same_bytes _ _ (items_keys place k ∙ ap (range_with_len 0) (sym count)) in (
      ap (λ (es : List Entry). not (bytes_eq (keys_of es) (range_with_len 0 (length es))) || not (are_full image a.size es)) entries
          ∙ or_from _ _ (not_from_true _ keys_are) (not_from_true _ (full_from image a.size wide place 0 k list refl from fit filled)),
      ap (words_of a.size image) entries ∙ words_from image a.size wide place 0 k list refl from fit,
    )

-- how many blocks so many words take
piece_number : (most n : ℕ) → 1 ≤ most → (n ≤ nodes_for most n * most) × ((nodes_for most n ≡ 0) ⊎ ((nodes_for most n - 1) * most < n))
piece_number most n some =
    let k = nodes_for most n in
    let above : n + (most - 1) < k * most + most = lt-div-mul-add some in
    let below : k * most ≤ n + (most - 1) = div-mul-le_self (n + (most - 1)) most in (
      omega arith,
      elim (cases_eq k 0) [
        | inl none ↦ inl none
        | inr many ↦
            let e : k ≡ suc (k - 1) = omega arith in
            let split : suc (k - 1) * most ≡ (k - 1) * most + most = suc-mul (k - 1) most in
            let same : k * most ≡ suc (k - 1) * most = ap (λ (j : ℕ). j * most) e in
            inr (omega arith)
      ],
    )

module _ (roles nr data_blocks : ℕ) (table : ℕ → Layout) (image : List (List ℕ)) (blocks : List LaidBlock) (limit role size place : ℕ) (words : List ℕ)
    (tree_is : table role ≡ tree_to 8 (role + 1) (λ v. v)) (array_is : table (role + 1) ≡ array size) (known : role + 1 < roles) (few_roles : roles ≤ 16)
    (some_size : 1 ≤ size) (small_size : size ≤ 8) (few : nr ≤ 4161600) (within : limit ≤ nr) (from : 1 ≤ place)
    (room : place + length (laid_array role size place words) ≤ limit) (small : AllByRecursion (λ word. word < 256 ^ size) words)
    (stand : AllFrom (IsInPlace image blocks) place (laid_array role size place words)) (root_named : IsNamed blocks (array_root size place words)) where
  abbrev this : Graph
  this = graph_of roles nr data_blocks table

  abbrev list : List (List ℕ)
  list = array_pieces size words

  abbrev number : ℕ
  number = length (array_pieces size words)

  abbrev t : Tree
  t = tree_of (tree_to 8 (role + 1) (λ v. v))

  abbrev front : List LaidBlock
  front = map (laid_words (role + 1) size) (array_pieces size words)

  abbrev above : List LaidBlock
  above = laid_tree role (tree_of (tree_to 8 (role + 1) (λ v. v))) (place + length (array_pieces size words)) (array_items place (length (array_pieces size words)))

  array_stands : AllFrom (IsInPlace image blocks) place (map (laid_words (role + 1) size) (array_pieces size words) ++ laid_tree role (tree_of (tree_to 8 (role + 1) (λ v. v))) (place + length (array_pieces size words)) (array_items place (length (array_pieces size words))))
  unfolding laid_array
  array_stands = stand

  front_count : length (map (laid_words (role + 1) size) (array_pieces size words)) ≡ length (array_pieces size words)
  front_count = length-map list (laid_words (role + 1) size)

  array_room : place + (length (array_pieces size words) + length (laid_tree role (tree_of (tree_to 8 (role + 1) (λ v. v))) (place + length (array_pieces size words)) (array_items place (length (array_pieces size words))))) ≤ limit
  unfolding laid_array
  array_room = omega (arith, room, length-append front above, front_count)

  wide : IsWordSize size
  wide = record { some = some_size; fits = omega arith }

  front_stands : AllFrom (IsInPlace image blocks) place (map (laid_words (role + 1) size) (array_pieces size words))
  front_stands = from_front (IsInPlace image blocks) place front above array_stands

  above_stands : AllFrom (IsInPlace image blocks) (place + length (array_pieces size words)) (laid_tree role (tree_of (tree_to 8 (role + 1) (λ v. v))) (place + length (array_pieces size words)) (array_items place (length (array_pieces size words))))
  above_stands =
      let count = front_count in
      rw count at (from_back (IsInPlace image blocks) place front above array_stands)

  piece_role : (i : ℕ) → i < length (array_pieces size words) → role_at blocks (place + i) ≡ role + 1
  piece_role i inside =
      by_place (λ q. role_at blocks q ≡ role + 1) place list (pieces_role image blocks (role + 1) size place list front_stands) (place + i) (omega arith) (omega arith)

  items_are : AreItems blocks limit (tree_of (tree_to 8 (role + 1) (λ v. v))) (array_items place (length (array_pieces size words)))
  unfolding array_items
  items_are =
      let key = λ (i : ℕ). i in
      let value = λ (i : ℕ). place + i in
      let is = λ (i : ℕ). (0 ≤ i) × (i < 0 + number) in
      let range = range_with_len 0 number in
      let all = range_within 0 number in
      let enough = array_room in
      record {
        ascending = rw (made_keys key value range, map-id range) (range_ascends 0 number);
        keys_fit = made_all (λ (e : Entry). e.key < 2 ^ 64) is key value (λ i h. let high = h.1 in omega arith) range all;
        values_fit = made_all (λ (e : Entry). e.value < 256 ^ 8) is key value (λ i h. let high = h.1 in omega arith) range all;
        in_range = all_of (λ (e : Entry). false ≡ false) (λ e. refl) (array_items place number);
        leads = made_all (λ (e : Entry). AllByRecursion (LeadsBelow blocks limit) (edge_of (role + 1) e.value ∷ [])) is key value
            (λ i h. let high = h.1 in (record { from_one = omega arith; below = omega arith; role_is = piece_role i (omega arith) }, tt)) range all;
      }

  fit : AllByRecursion (IsPiece size) (array_pieces size words)
  fit = pieces_fit size (nodes_for (max_words size) (length words)) words small

  -- the blocks of words fit where they are named
  words_fit : (q : ℕ) (pieces : List (List ℕ)) → q + length pieces ≤ limit → AllFrom (IsInPlace image blocks) q (map (laid_words (role + 1) size) pieces) → AllByRecursion (IsPiece size) pieces
      → AllFrom (λ q (ws : List ℕ). IsNamed blocks q) q pieces → AllFrom (IsFitting (graph_of roles nr data_blocks table) image blocks limit) q (map (laid_words (role + 1) size) pieces)
  words_fit q [] enough stands fits named = tt
  words_fit q (ws ∷ pieces) enough stands fits named = (
    record {
      seen = plain_seen roles nr data_blocks table image (array size) q (array_block size q ws) (laid_words (role + 1) size ws) (omega arith) few_roles array_is refl refl refl stands.0.stands
          (array_sound size q ws wide fits.0 (omega arith));
      leads = tt;
      named = λ _. named.0;
    },
    words_fit (q + 1) pieces (omega arith) stands.1 fits.1 named.1,
  )

  named_from : (a : ℕ) (pieces : List (List ℕ)) → AllByRecursion (λ (e : Entry). AllByRecursion (λ (edge : Edge). IsNamed blocks edge.block) (edge_of (role + 1) e.value ∷ []))
      (map (λ (i : ℕ). record { key = i; value = place + i }) (range_with_len a (length pieces))) → AllFrom (λ q (ws : List ℕ). IsNamed blocks q) (place + a) pieces
  named_from a [] all = tt
  named_from a (ws ∷ pieces) all =
      let e : (place + a) + 1 ≡ place + (a + 1) = omega arith in
      (all.0.0, rw e (named_from (a + 1) pieces all.1))

  pub array_seen : IsArraySeen (graph_of roles nr data_blocks table) image blocks limit role size place words
  unfolding laid_array array_root array_items
  array_seen =
      let enough = array_room in
      let count = front_count in
      let tree = tree_seen roles nr data_blocks table image blocks limit role t tree_is (omega arith) few_roles (omega arith) few within (place + number) (array_items place number)
      (omega arith) (omega arith) items_are above_stands root_named in
      let zero_at : place + 0 ≡ place = omega arith in
      let named : AllFrom (λ q (ws : List ℕ). IsNamed blocks q) place list = rw zero_at at (named_from 0 list tree.named) in
      let some : 1 ≤ max_words size = max_some size some_size small_size in
      let pieces_number = piece_number (max_words size) (length words) some in
      let filled = filled_by (max_words size) (nodes_for (max_words size) (length words)) words pieces_number.1 in
      let joined = pieces_joined (max_words size) (nodes_for (max_words size) (length words)) words pieces_number.0 in
      let standing = pieces_stand image blocks (role + 1) size place list front_stands in
      record {
        fitting = from_both (IsFitting this image blocks limit) place front above (words_fit place list (omega arith) front_stands fit named) (rw count tree.fitting);
        leads = root_leads image blocks limit role t (place + number) (array_items place number) (omega arith) (omega arith) (omega arith) above_stands;
        whole = λ lengths. (array_read this image (array_at role size place words lengths) place list wide tree.root.entries_are standing fit filled).0;
        words_are = λ lengths. (array_read this image (array_at role size place words lengths) place list wide tree.root.entries_are standing fit filled).1 ∙ joined;
      }
    where
      max_some : (size : ℕ) → 1 ≤ size → size ≤ 8 → 1 ≤ max_words size
      max_some size some small = le-div 1 4072 size (omega arith) (omega arith)

-- an array's blocks have its role and the one behind it
pub array_roles : (role size place : ℕ) (words : List ℕ) → AllByRecursion (λ (x : LaidBlock). (x.role ≡ role) ⊎ (x.role ≡ role + 1)) (laid_array role size place words)
unfolding laid_array
array_roles role size place words =
    let list = array_pieces size words in
    let t = tree_of (tree_to 8 (role + 1) (λ v. v)) in
    let above = laid_tree role t (place + length list) (array_items place (length list)) in
    let is = λ (x : LaidBlock). (x.role ≡ role) ⊎ (x.role ≡ role + 1) in
    all_append is (map (laid_words (role + 1) size) list) above
    (all_map (laid_words (role + 1) size) is (λ ws. inr refl) list)
    (all_from (λ (x : LaidBlock). x.role ≡ role) is (λ x own. inl own) above (tree_roles role t (place + length list) (array_items place (length list))))

-- and it names no block in another role
pub array_names_none : (other role size place : ℕ) (words : List ℕ) → role ≢ other → role + 1 ≢ other → NameNone other (laid_array role size place words)
unfolding laid_array
array_names_none other role size place words first second =
    let list = array_pieces size words in
    let t = tree_of (tree_to 8 (role + 1) (λ v. v)) in
    all_append (λ (x : LaidBlock). AllByRecursion (λ (e : Edge). nat_eq e.role other ≡ false) x.edges) (map (laid_words (role + 1) size) list)
    (laid_tree role t (place + length list) (array_items place (length list)))
    (all_map (laid_words (role + 1) size) (λ (x : LaidBlock). AllByRecursion (λ (e : Edge). nat_eq e.role other ≡ false) x.edges) (λ ws. tt) list)
    (tree_names_none other role t (place + length list) (array_items place (length list)) first (λ e. (ne_eqb (role + 1) other second, tt)))

-- the rules of a whole array hold, where its lengths are the number of its words
pub array_holds : (graph : Graph) (image : List (List ℕ)) (a : Array) (words : List ℕ) → is_array_index_bad graph image a ≡ false → array_words graph image a ≡ words
    → AllByRecursion (λ n. length words ≡ n) a.lengths → AllByRecursion (λ (t : WholeTest). t.fails ≡ false) (array_whole graph image a)
unfolding array_whole
array_holds graph image a words whole words_are lengths_are = (
  whole,
  all_mapped (λ (n : ℕ). record { block = a.root; rule = r.Length; fails = not (is_array_index_bad graph image a) && not (nat_eq (length (array_words graph image a)) n) })
      (λ (t : WholeTest). t.fails ≡ false) a.lengths
      (all_from (λ n. length words ≡ n) (λ n. (not (is_array_index_bad graph image a) && not (nat_eq (length (array_words graph image a)) n)) ≡ false)
      (λ n is. and_right _ _ (not_from_true _ (eq-eqb _ n (ap length words_are ∙ is)))) a.lengths lengths_are),
)
