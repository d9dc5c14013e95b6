-- The archived writesets of all blocks that are reached as nodes of their trees.
use Rattle.std.proofs.Common.{◌≡◌, ℕ, zero, suc, ◌+◌, ◌*◌, ◌<◌, Bool, true, false, cond, nat_eq, List, [], ◌∷◌, ◌++◌, map, filter, refl, sym, ap, ◌∙◌, subst, arith, append-nil}
use Rattle.std.specs.List.{AllByRecursion, flat_map, range_with_len}
use Rattle.std.proofs.lemmas.Bool.{ne_eqb}
use Rattle.std.proofs.lemmas.Grind.{flat_map-append}
use Rattle.std.proofs.lemmas.List.{map-append}
use Rattle.std.proofs.lemmas.List.FromFn.{map-range_with_len_more}
use Rattle.pd_kinds.specs.Graph.{Edge, Graph, block_at, block_of, is_reached, nodes, pair, role_of}
use Rattle.pd_kinds.specs.EraFormat.{writeset_root}
use Rattle.pd_kinds.specs.Layout.{leaf_entries, node_entries_of}
use Rattle.pd_kinds.specs.Node.{Entry, entry_count, is_inner_node, key_at, value_at}
use Rattle.pd_kinds.specs.Stages.{IsReached}
use Rattle.pd_kinds.specs.Whole.{array_whole, reached_writesets}
use Rattle.pd_kinds.proofs.NumberLemmas.{range_split}
use Rattle.pd_kinds.specs.InOrder.{AreInOrder}
use Rattle.pd_graph.specs.declared.audit.Audit.{Audit}
use Rattle.pd_graph.proofs.BitLemmas.{pair_block, pair_role, range_more}
use Rattle.pd_tree.specs.Search.{IsCleanPair, HasEraTrees}
use Rattle.pd_tree.proofs.TreeLemmas.{block_pair, leaf_edges_at, role_pair}
use Rattle.pd_tree.proofs.SoundLemmas.{singles}
use Rattle.pd_check.proofs.RefsLemmas.{one_of, passing}
use Rattle.pd_check.specs.Known.{Charges}
use Rattle.pd_check.proofs.SharedLemmas.{charges_none, charges_then}
use Rattle.pd_era.specs.Whole.{first_sets, set_array, set_tests, sets_at, sets_before}

module _ {Y : Type 0} where
  -- each element of a row has what all have
  at_range : (P : Y → Type 0) (f : ℕ → Y) (n i : ℕ) → AllByRecursion P (map f (range_with_len 0 n)) → i < n → P (f i)
  at_range P f n i all within = let same : 0 + i ≡ i = omega arith in subst (λ k. P (f k)) same (from n 0 i all within)
    where
      from : (n a i : ℕ) → AllByRecursion P (map f (range_with_len a n)) → i < n → P (f (a + i))
      from zero a i all within = absurd (omega arith)
      from (suc n) a zero all within = let first : a ≡ a + 0 = omega arith in subst (λ k. P (f k)) first all.0
      from (suc n) a (suc i) all within = let next : a + 1 + i ≡ a + suc i = omega arith in subst (λ k. P (f k)) next (from n (a + 1) i all.1 (omega arith))

-- the writesets of one block more
pub sets_more : (graph : Graph) (image : List (List ℕ)) (b : ℕ) → sets_before graph image (b + 1) ≡ sets_before graph image b ++ sets_at graph image b
unfolding sets_before
sets_more graph image b =
    let next : b + 1 ≡ suc b = omega arith in
    let more : range_with_len 0 (b + 1) ≡ range_with_len 0 b ++ (b ∷ []) = rw next (range_more 0 b b (omega arith)) in
    ap (flat_map (sets_at graph image)) more ∙ flat_map-append (sets_at graph image) (range_with_len 0 b) (b ∷ [])
    ∙ ap (λ (xs : List Entry). sets_before graph image b ++ xs) (append-nil (sets_at graph image b))

pub no_sets : (graph : Graph) (image : List (List ℕ)) → sets_before graph image 0 ≡ []
unfolding sets_before
no_sets graph image = refl

-- what a pair has, where it is reached in their role
abbrev in_role : List (List ℕ) → ℕ → List Entry
in_role image p = cond (nat_eq (role_of p) 2) (leaf_entries 12 (block_at image (block_of p))) []

abbrev by_pair : Graph → List (List ℕ) → ℕ → List Entry
by_pair graph image p = cond (is_reached graph image p) (in_role image p) []

none_either : (t : Bool) (xs : List Entry) → xs ≡ [] → cond t xs [] ≡ []
none_either true xs none = none
none_either false xs none = refl

pair_is : (graph : Graph) (image : List (List ℕ)) (b : ℕ) → by_pair graph image (16 * b + 2) ≡ sets_at graph image b
pair_is graph image b =
    ap (λ r. cond (is_reached graph image (16 * b + 2)) (cond (nat_eq r 2) (leaf_entries 12 (block_at image (block_of (16 * b + 2)))) []) []) (pair_role b 2 (omega arith))
    ∙ ap (λ c. cond (is_reached graph image (16 * b + 2)) (leaf_entries 12 (block_at image c)) []) (pair_block b 2 (omega arith))

other_role : (graph : Graph) (image : List (List ℕ)) (b i : ℕ) → i < 16 → (i ≡ 2 → ⊥) → by_pair graph image (16 * b + i) ≡ []
other_role graph image b i within other =
    none_either (is_reached graph image (16 * b + i)) _
    (ap (λ r. cond (nat_eq r 2) (leaf_entries 12 (block_at image (block_of (16 * b + i)))) []) (pair_role b i within) ∙ ap (λ t. cond t (leaf_entries 12 (block_at image (block_of (16 * b + i)))) []) (ne_eqb i 2 other))

-- the pairs of the blocks before block n
pairs_before : (graph : Graph) (image : List (List ℕ)) (n : ℕ) → flat_map (by_pair graph image) (range_with_len 0 (16 * n)) ≡ sets_before graph image n
pairs_before graph image zero = sym (no_sets graph image)
pairs_before graph image (suc n) =
    let sum : 16 * suc n ≡ 16 * n + 16 = omega arith in
    let next : n + 1 ≡ suc n = omega arith in
    let start : 0 + 16 * n ≡ 16 * n = omega arith in
    ap (λ k. flat_map (by_pair graph image) (range_with_len 0 k)) sum
    ∙ ap (flat_map (by_pair graph image)) (range_split 0 (16 * n) 16)
    ∙ flat_map-append (by_pair graph image) (range_with_len 0 (16 * n)) (range_with_len (0 + 16 * n) 16)
    ∙ ap (λ (xs : List Entry). xs ++ flat_map (by_pair graph image) (range_with_len (0 + 16 * n) 16)) (pairs_before graph image n)
    ∙ ap (λ (xs : List Entry). sets_before graph image n ++ xs)
    (ap (λ k. flat_map (by_pair graph image) (range_with_len k 16)) start
    ∙ one_of (by_pair graph image) 16 2 (16 * n) (omega arith) (other_role graph image n)
    ∙ pair_is graph image n)
    ∙ sym (sets_more graph image n) ∙ ap (sets_before graph image) next

-- those of all blocks are those of the definition
pub all_sets : (graph : Graph) (image : List (List ℕ)) → sets_before graph image graph.nr ≡ reached_writesets graph image
unfolding reached_writesets nodes
all_sets graph image =
    let leaf = λ (p : ℕ). leaf_entries 12 (block_at image (block_of p)) in
    let pairs = range_with_len 0 (16 * graph.nr) in
    sym (passing (λ p. nat_eq (role_of p) 2) leaf (filter (is_reached graph image) pairs)
    ∙ (passing (is_reached graph image) (in_role image) pairs ∙ pairs_before graph image graph.nr))

-- the tests of writesets, and of others
pub sets_then : (graph : Graph) (image : List (List ℕ)) (xs ys : List Entry) (a b c : Audit) → Charges (set_tests graph image xs) a b → Charges (set_tests graph image ys) b c
    → Charges (set_tests graph image (xs ++ ys)) a c
unfolding set_tests
sets_then graph image xs ys a b c first second =
    rw (map-append set_array xs ys, flat_map-append (array_whole graph image) (map set_array xs) (map set_array ys))
    (charges_then (flat_map (array_whole graph image) (map set_array xs)) (flat_map (array_whole graph image) (map set_array ys)) a b c first second)

pub sets_none : (graph : Graph) (image : List (List ℕ)) (a : Audit) → Charges (set_tests graph image []) a a
unfolding set_tests
sets_none graph image a = charges_none a

pub set_one : (graph : Graph) (image : List (List ℕ)) (e : Entry) (a b : Audit) → Charges (array_whole graph image (set_array e)) a b → Charges (set_tests graph image (e ∷ [])) a b
unfolding set_tests
set_one graph image e a b charged = rw (append-nil (array_whole graph image (set_array e))) charged

-- one entry of a leaf more
abbrev pub set_at : List ℕ → ℕ → Entry
set_at block i = record { key = key_at block i; value = value_at 12 block i }

pub first_more : (block : List ℕ) (i : ℕ) → first_sets block (i + 1) ≡ first_sets block i ++ set_at block i ∷ []
unfolding first_sets
first_more block i = map-range_with_len_more (set_at block) 0 i i (omega arith)

pub first_none : (block : List ℕ) → first_sets block 0 ≡ []
unfolding first_sets
first_none block = refl

pub first_at : (P : Entry → Type 0) (block : List ℕ) (n i : ℕ) → AllByRecursion P (first_sets block n) → i < n → P (set_at block i)
unfolding first_sets
first_at P block n i all within = at_range P (set_at block) n i all within

lead_by : (inner : Bool) (graph : Graph) (image : List (List ℕ)) (b : ℕ) → is_inner_node (block_at image b) ≡ inner → HasEraTrees graph → IsCleanPair graph image (pair b 2)
    → AllByRecursion (λ (e : Edge). IsReached graph image e.block e.role) (graph.edges 2 b (block_at image b))
    → AllByRecursion (λ (e : Entry). IsReached graph image (writeset_root e.value) 3) (leaf_entries 12 (block_at image b))
unfolding leaf_entries
lead_by true graph image b inner trees clean edges = rw inner tt
lead_by false graph image b leaf trees clean edges =
    rw leaf (singles (λ (e : Entry). record { role = 3; block = writeset_root e.value }) (λ (e : Edge). IsReached graph image e.block e.role) _
    (rw (leaf_edges_at graph image 2 12 3 writeset_root b trees.writesets leaf clean) at edges))

pub sets_lead : (graph : Graph) (image : List (List ℕ)) (b : ℕ) → HasEraTrees graph → AreInOrder graph image → IsReached graph image b 2
    → AllByRecursion (λ (e : Edge). IsReached graph image e.block e.role) (graph.edges 2 b (block_at image b))
    → AllByRecursion (λ (e : Entry). IsReached graph image (writeset_root e.value) 3) (leaf_entries 12 (block_at image b))
sets_lead graph image b trees ordered reached edges =
    lead_by (is_inner_node (block_at image b)) graph image b refl trees
    (λ rule. rw (role_pair b 2 (omega arith), block_pair b 2 (omega arith)) (ordered.well_formed b 2 reached rule)) edges

-- a leaf has all its entries
pub leaf_is : (block : List ℕ) → is_inner_node block ≡ false → leaf_entries 12 block ≡ first_sets block (entry_count 12 block)
unfolding leaf_entries node_entries_of first_sets
leaf_is block leaf = rw leaf refl

pub no_leaf : (block : List ℕ) → is_inner_node block ≡ true → leaf_entries 12 block ≡ []
unfolding leaf_entries
no_leaf block inner = rw inner refl
