-- Which roles the edges of a cache's format lead to: a superblock's to the roots, those of any other block to its own role or the next.
use Rattle.std.proofs.Common.{◌≡◌, ◌⊎◌, inl, inr, ℕ, zero, suc, ◌<◌, nat_eq, cond, List, [], ◌∷◌, refl, arith, ◌≤◌, Bool, true, false}
use Rattle.std.specs.List.{AllByRecursion, range_with_len, list_any, flat_map}
use Rattle.std.proofs.lemmas.Bool.{cases_Bool, cond_both, eqb-false, eqb-true, both_ways, cases_lt, or_cases, or_left, or_right}
use Rattle.pd_kinds.specs.CacheFormat.{CacheFields, cache_fields, cache_graph, cache_layout, cache_super_edges, has_dirty_bits}
use Rattle.pd_kinds.specs.Graph.{Edge, gathered, has_chain}
use Rattle.pd_kinds.specs.Layout.{Tree, graph_of, layout_edges, node_entries_of, tree_edges}
use Rattle.pd_kinds.specs.Node.{Entry, child_at, entry_count, is_inner_node}
use Rattle.pd_kinds.proofs.ListLemmas.{all_flat_map, all_map, all_of}
use Rattle.pd_kinds.proofs.LayoutLemmas.{all_optional}
use Rattle.pd_tree.proofs.DistinctLemmas.{no_longer}
use Rattle.pd_laws_laid.proofs.ListLemmas.{any_back, any_front}

-- the role that is named by the leaves of a tree, or by an index; those of the overflow tree name none
abbrev pub next_role : ℕ → ℕ
next_role s = cond (nat_eq s 9) s (suc s)

abbrev pub CanLead : ℕ → Edge → Type 0
CanLead s e = (e.role ≡ s) ⊎ (e.role ≡ next_role s)

-- what is known of a superblock's edges
pub record IsRoot (fields : CacheFields) (e : Edge) : Type 0 where
  pub some : e.role ≡ 0 → ⊥
  pub no_words : e.role ≡ 2 → ⊥
  pub no_bits : e.role ≡ 11 → ⊥
  pub mapping : e.role ≡ 1 → e.block ≡ fields.mapping_root
  pub dirty : e.role ≡ 10 → e.block ≡ fields.dirty_root

-- the edges of the nodes of a tree whose leaves name a role
tree_leads : (P : Edge → Type 0) (role : ℕ) (t : Tree) (block : List ℕ) → ((b : ℕ) → P (record { role = role; block = b }))
    → ((e : Entry) → AllByRecursion P (t.leaf_edges e)) → AllByRecursion P (tree_edges role t block)
unfolding tree_edges
tree_leads P role t block inner leaf =
    cond_both (is_inner_node block) _ _ (AllByRecursion P)
    (λ _. all_map (λ (i : ℕ). record { role = role; block = child_at block i }) P (λ i. inner (child_at block i)) (range_with_len 0 (entry_count t.size block)))
    (λ _. all_flat_map t.leaf_edges P (node_entries_of t.size block) (all_of (λ (e : Entry). AllByRecursion P (t.leaf_edges e)) leaf (node_entries_of t.size block)))

layout_leads : (nr s : ℕ) (block : List ℕ) → AllByRecursion (CanLead (suc s)) (layout_edges nr (suc s) (cache_layout nr (suc s)) block)
unfolding cache_layout
layout_leads nr zero block = tree_leads (CanLead 1) 1 _ block (λ b. inl refl) (λ e. (inr refl, tt))
layout_leads nr (suc zero) block = tt
layout_leads nr (suc (suc zero)) block = tree_leads (CanLead 3) 3 _ block (λ b. inl refl) (λ e. (inr refl, tt))
layout_leads nr (suc (suc (suc zero))) block = tt
layout_leads nr (suc (suc (suc (suc zero)))) block = tree_leads (CanLead 5) 5 _ block (λ b. inl refl) (λ e. (inr refl, tt))
layout_leads nr (suc (suc (suc (suc (suc zero))))) block = tt
layout_leads nr (suc (suc (suc (suc (suc (suc zero)))))) block = all_map (λ (b : ℕ). record { role = 8; block = b }) (CanLead 7) (λ b. inr refl) _
layout_leads nr (suc (suc (suc (suc (suc (suc (suc zero))))))) block = tt
layout_leads nr (suc (suc (suc (suc (suc (suc (suc (suc zero)))))))) block = tree_leads (CanLead 9) 9 _ block (λ b. inl refl) (λ e. tt)
layout_leads nr (suc (suc (suc (suc (suc (suc (suc (suc (suc zero))))))))) block = tree_leads (CanLead 10) 10 _ block (λ b. inl refl) (λ e. (inr refl, tt))
layout_leads nr (suc (suc (suc (suc (suc (suc (suc (suc (suc (suc zero)))))))))) block = tt
layout_leads nr (suc (suc (suc (suc (suc (suc (suc (suc (suc (suc (suc s))))))))))) block = tt

pub edges_lead : (super block : List ℕ) (s b : ℕ) → AllByRecursion (CanLead (suc s)) ((cache_graph super).edges (suc s) b block)
unfolding cache_graph graph_of
edges_lead super block s b =
    cond_both _ [] (layout_edges (cache_fields super).meta_map.blocks (suc s) (cache_layout (cache_fields super).meta_map.blocks (suc s)) block) (AllByRecursion (CanLead (suc s)))
    (λ _. tt) (λ _. layout_leads (cache_fields super).meta_map.blocks s block)

roots_are : (fields : CacheFields) → AllByRecursion (IsRoot fields) (cache_super_edges fields)
roots_are fields =
    let other : (role : ℕ) → 2 < role → role < 10 → (b : ℕ) → IsRoot fields (record { role = role; block = b }) =
    λ role above below b. record {
      some = λ is. omega arith;
      no_words = λ is. omega arith;
      no_bits = λ is. omega arith;
      mapping = λ is. absurd (omega arith);
      dirty = λ is. absurd (omega arith);
    } in (
      record { some = λ is. omega arith; no_words = λ is. omega arith; no_bits = λ is. omega arith; mapping = λ is. refl; dirty = λ is. absurd (omega arith) },
      all_optional (IsRoot fields) 3 fields.hint_root _ (other 3 (omega arith) (omega arith) fields.hint_root)
          (all_optional (IsRoot fields) 5 fields.discard_root _ (other 5 (omega arith) (omega arith) fields.discard_root) (
            other 7 (omega arith) (omega arith) fields.meta_map.bitmap_root,
            (
              other 9 (omega arith) (omega arith) fields.meta_map.overflow_root,
              cond_both (has_dirty_bits fields.version) (record { role = 10; block = fields.dirty_root } ∷ []) [] (AllByRecursion (IsRoot fields))
                  (λ _. (record { some = λ is. omega arith; no_words = λ is. omega arith; no_bits = λ is. omega arith; mapping = λ is. absurd (omega arith); dirty = λ is. refl }, tt))
                  (λ _. tt),
            ),
          )),
    )

pub super_leads : (super block : List ℕ) → AllByRecursion (IsRoot (cache_fields block)) ((cache_graph super).edges 0 0 block)
unfolding cache_graph graph_of cache_layout
super_leads super block =
    cond_both _ [] (cache_super_edges (cache_fields block)) (AllByRecursion (IsRoot (cache_fields block))) (λ _. tt) (λ _. roots_are (cache_fields block))

-- the next role of a role but 0 is that of neither tree that names what is dirty, and is that of its blocks only behind it
pub not_next : (tree s : ℕ) → (tree ≡ 1) ⊎ (tree ≡ 10) → next_role (suc s) ≡ tree → ⊥
not_next tree s is same = elim (cases_Bool (nat_eq (suc s) 9)) [
  | inl nine ↦ let at = eqb-true (suc s) 9 nine in let equal = rw nine at same in elim is [ inl one ↦ omega arith | inr ten ↦ omega arith ]
  | inr other ↦ let apart = eqb-false (suc s) 9 other in let equal = rw other at same in elim is [ inl one ↦ omega arith | inr ten ↦ omega arith ]
]

pub next_of_tree : (tree s : ℕ) → (tree ≡ 1) ⊎ (tree ≡ 10) → next_role (suc s) ≡ suc tree → suc s ≡ tree
next_of_tree tree s is same = elim (cases_Bool (nat_eq (suc s) 9)) [
  | inl nine ↦ let at = eqb-true (suc s) 9 nine in let equal = rw nine at same in elim is [ inl one ↦ absurd (omega arith) | inr ten ↦ absurd (omega arith) ]
  | inr other ↦ let equal = rw other at same in omega arith
]

pub some_next : (s : ℕ) → next_role (suc s) ≡ 0 → ⊥
some_next s same = elim (cases_Bool (nat_eq (suc s) 9)) [
  | inl nine ↦ let equal = rw nine at same in omega arith
  | inr other ↦ let equal = rw other at same in omega arith
]

-- What a path of children leads to is gathered below its first node, where no chain is too long.

-- what passes at an element passes in the list
pub any_at : (test : ℕ → Bool) (c : ℕ) (xs : List ℕ) → list_any (λ t. nat_eq t c) xs ≡ true → test c ≡ true → list_any test xs ≡ true
any_at test c [] some passes = absurd (both_ways false refl some)
any_at test c (x ∷ xs) some passes = elim (or_cases (nat_eq x c) (list_any (λ t. nat_eq t c) xs) some) [
  | inl here ↦ or_left (test x) (list_any test xs) (rw (eqb-true x c here) passes)
  | inr later ↦ or_right (test x) (list_any test xs) (any_at test c xs later passes)
]

any_flat_at : {X : Type 0} → (test : X → Bool) (f : ℕ → List X) (c : ℕ) (xs : List ℕ) → list_any (λ t. nat_eq t c) xs ≡ true → list_any test (f c) ≡ true
    → list_any test (flat_map f xs) ≡ true
any_flat_at test f c [] some passes = absurd (both_ways false refl some)
any_flat_at test f c (x ∷ xs) some passes = elim (or_cases (nat_eq x c) (list_any (λ t. nat_eq t c) xs) some) [
  | inl here ↦ any_front test (f x) (flat_map f xs) (rw (eqb-true x c here) passes)
  | inr later ↦ any_back test (f x) (flat_map f xs) (any_flat_at test f c xs later passes)
]

module _ (down : ℕ → List ℕ) where
  -- so many steps down lead from a pair to another
  pub data IsDown : ℕ → ℕ → ℕ → Type 0 where
    at_once : (p : ℕ) → IsDown zero p p
    by_child : (j p c q : ℕ) → list_any (λ t. nat_eq t c) (down p) ≡ true → IsDown j c q → IsDown (suc j) p q

  -- one step more
  pub further : (j p q c : ℕ) → IsDown j p q → list_any (λ t. nat_eq t c) (down q) ≡ true → IsDown (suc j) p c
  further j p q c (at_once p') child = by_child zero p' c c child (at_once c)
  further j p q c (by_child j' p' d q' first rest) child = by_child (suc j') p' d c first (further j' d q' c rest child)

  -- is a chain of so many
  chain : (j p q : ℕ) → IsDown j p q → has_chain down j p ≡ true
  unfolding has_chain
  chain j p q (at_once p') = refl
  chain j p q (by_child j' p' c q' first rest) = any_at (has_chain down j') c (down p') first (chain j' c q' rest)

  none_longer : (n m p : ℕ) → n ≤ m → has_chain down n p ≡ false → has_chain down m p ≡ false
  none_longer n zero p most none = let same : n ≡ 0 = omega arith in rw same at none
  none_longer n (suc m) p most none = elim (cases_lt m n) [
    | inl last ↦ let same : n ≡ suc m = omega arith in rw same at none
    | inr less ↦ no_longer down m p (none_longer n m p less none)
  ]

  pub short : (j n p q : ℕ) → IsDown (j) p q → has_chain down (suc n) p ≡ false → j ≤ n
  short j n p q path none = elim (cases_lt n j) [
    | inl long ↦ absurd (both_ways (has_chain down j p) (none_longer (suc n) j p long none) (chain j p q path))
    | inr few ↦ few
  ]

  -- what a leaf at the end holds is gathered
  module _ {X : Type 0} (inner : ℕ → Bool) (own : ℕ → List X) (test : X → Bool) (parents : (p c : ℕ) → list_any (λ t. nat_eq t c) (down p) ≡ true → inner p ≡ true) where
    pub is_gathered : (j n p q : ℕ) → IsDown j p q → j ≤ n → inner q ≡ false → list_any test (own q) ≡ true → list_any test (gathered inner down own n p) ≡ true
    unfolding gathered
    is_gathered j zero p q (at_once p') few leaf some = rw leaf some
    is_gathered j (suc n) p q (at_once p') few leaf some = rw leaf some
    is_gathered j zero p q (by_child j' p' c q' first rest) few leaf some = absurd (omega arith)
    is_gathered j (suc n) p q (by_child j' p' c q' first rest) few leaf some =
        rw (parents p' c first) (any_flat_at test (gathered inner down own n) c (down p') first (is_gathered j' n c q' rest (omega arith) leaf some))
