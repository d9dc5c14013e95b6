-- The entries below a node: those in a range, those by paths of fewer nodes, and those below its children.
use Rattle.std.proofs.Common.{◌≡◌, inl, inr, ℕ, zero, suc, ◌+◌, ◌^◌, ◌<◌, ◌≤◌, max, min, Bool, true, false, not, ◌&&◌, nat_eq, nat_lt, cond, List, [], ◌∷◌, ◌++◌, filter, refl, sym, ◌∙◌, ap, arith}
use Rattle.std.specs.List.{flat_map, range_with_len}
use Rattle.std.proofs.lemmas.Bool.{cases_Bool, cases_lt, le-ltb, lt-ltb}
use Rattle.std.proofs.lemmas.List.Elements.{filter-append}
use Rattle.pd_kinds.specs.Graph.{block_at}
use Rattle.pd_kinds.specs.Layout.{leaf_entries, node_entries_of}
use Rattle.pd_kinds.specs.Node.{Entry, child_at, entry_count, is_inner_node, key_at}
use Rattle.pd_laid.specs.Salvage.{child_high, child_low, salvaged_below, salvaged_entries}
use Rattle.pd_laid.proofs.GatherLemmas.{same_joined}
use Rattle.pd_damaged.specs.Kept.{is_kept, kept_below}
use Rattle.pd_damaged.specs.Known.{IsLow, is_lost}
use Rattle.pd_damaged.proofs.KeptLemmas.{is_between}

-- Filters one after another.

module _ {X : Type 0} (p q r : X → Bool) (same : (x : X) → r x ≡ (q x && p x)) where
  by_both : (x : X) (a b : Bool) → q x ≡ a → p x ≡ b → r x ≡ (a && b)
  by_both x a b in_q in_p = rw (sym in_q, sym in_p) (same x)

  pub filter_both : (xs : List X) → filter p (filter q xs) ≡ filter r xs
  filter_both [] = refl
  filter_both (x ∷ xs) = elim (cases_Bool (q x)) [
    | inl in_q ↦ elim (cases_Bool (p x)) [
      | inl in_p ↦ rw (in_q, in_p, by_both x true true in_q in_p) (ap (λ (ys : List X). x ∷ ys) (filter_both xs))
      | inr out ↦ rw (in_q, out, by_both x true false in_q out) (filter_both xs)
    ]
    | inr out ↦ rw (out, same x ∙ ap (λ (t : Bool). t && p x) out) (filter_both xs)
  ]

and_swap : (a b : Bool) → (a && b) ≡ (b && a)
and_swap true true = refl
and_swap true false = refl
and_swap false true = refl
and_swap false false = refl

filters_swap : {X : Type 0} (p q : X → Bool) (xs : List X) → filter p (filter q xs) ≡ filter q (filter p xs)
filters_swap p q xs = filter_both p q (λ x. q x && p x) (λ x. refl) xs ∙ sym (filter_both q p (λ x. q x && p x) (λ x. and_swap (q x) (p x)) xs)

filter_joined : {X : Type 0} (p : X → Bool) (f : ℕ → List X) (ns : List ℕ) → filter p (flat_map f ns) ≡ flat_map (λ n. filter p (f n)) ns
filter_joined p f [] = refl
filter_joined {X} p f (n ∷ ns) = filter-append p (f n) (flat_map f ns) ∙ ap (λ (xs : List X). filter p (f n) ++ xs) (filter_joined p f ns)

-- Ranges in one another.

low_both : (a c k : ℕ) → not (nat_lt k (max a c)) ≡ (not (nat_lt k c) && not (nat_lt k a))
low_both a c k = elim (cases_lt k c) [
  | inl below ↦ rw (lt-ltb k c below, lt-ltb k (max a c) (omega arith)) refl
  | inr from ↦ elim (cases_lt k a) [
    | inl below ↦ rw (le-ltb k c from, lt-ltb k a below, lt-ltb k (max a c) (omega arith)) refl
    | inr both ↦ rw (le-ltb k c from, le-ltb k a both, le-ltb k (max a c) (omega arith)) refl
  ]
]

high_both : (b d k : ℕ) → nat_lt k (min b d) ≡ (nat_lt k d && nat_lt k b)
high_both b d k = elim (cases_lt k d) [
  | inr out ↦ rw (le-ltb k d out, le-ltb k (min b d) (omega arith)) refl
  | inl within ↦ elim (cases_lt k b) [
    | inr out ↦ rw (lt-ltb k d within, le-ltb k b out, le-ltb k (min b d) (omega arith)) refl
    | inl both ↦ rw (lt-ltb k d within, lt-ltb k b both, lt-ltb k (min b d) (omega arith)) refl
  ]
]

four : (w x y z : Bool) → ((w && x) && (y && z)) ≡ ((w && y) && (x && z))
four true true y z = refl
four true false true z = refl
four true false false z = refl
four false x y z = refl

-- the keys in two ranges are those in a third one
meets : (a b c d low high : ℕ) → low ≡ max a c → high ≡ min b d → (e : Entry) → is_between low high e ≡ (is_between c d e && is_between a b e)
meets a b c d low high lows highs e =
    ap (λ (l : ℕ). is_between l high e) lows
    ∙ (ap (λ (h : ℕ). is_between (max a c) h e) highs
    ∙ (ap (λ (t : Bool). t && nat_lt e.key (min b d)) (low_both a c e.key)
    ∙ (ap (λ (t : Bool). (not (nat_lt e.key c) && not (nat_lt e.key a)) && t) (high_both b d e.key)
    ∙ four (not (nat_lt e.key c)) (not (nat_lt e.key a)) (nat_lt e.key d) (nat_lt e.key b))))

high_within : (last : Bool) (next high all : ℕ) → high ≤ all → cond last high (min next high) ≤ cond last all (min next all)
high_within true next high all within = within
high_within false next high all within = omega arith

high_meets : (last : Bool) (next high all : ℕ) → high ≤ all → cond last high (min next high) ≡ min high (cond last all (min next all))
high_meets true next high all within = omega arith
high_meets false next high all within = omega arith

module _ (nr : ℕ) (image : List (List ℕ)) where
  abbrev below : ℕ → ℕ → ℕ → ℕ → List Entry
  below j b low high = salvaged_below 8 nr image j b low high

  none_deep : (b low high : ℕ) → below 0 b low high ≡ []
  unfolding salvaged_below
  none_deep b low high = refl

  none_here : (j b low high : ℕ) → is_lost nr image b ≡ true → below j b low high ≡ []
  unfolding salvaged_below
  none_here zero b low high lost = refl
  none_here (suc j) b low high lost = rw lost refl

  at_leaf : (i j b low high : ℕ) → i ≡ suc j → is_lost nr image b ≡ false → is_inner_node (block_at image b) ≡ false
      → below i b low high ≡ filter (is_between low high) (leaf_entries 8 (block_at image b))
  unfolding salvaged_below
  at_leaf i j b low high step sound leaf = rw (step, sound, leaf) refl

  at_inner : (i j b low high : ℕ) → i ≡ suc j → is_lost nr image b ≡ false → is_inner_node (block_at image b) ≡ true
      → below i b low high
      ≡ flat_map (λ k. below j (child_at (block_at image b) k) (child_low (block_at image b) low k) (child_high 8 (block_at image b) high k))
      (range_with_len 0 (entry_count 8 (block_at image b)))
  unfolding salvaged_below
  at_inner i j b low high step sound inner = rw (step, sound, inner) refl

  -- the entries in a part of a range, below a child and below a node
  abbrev IsInPart : ℕ → Type 0
  IsInPart j = (b low high least most : ℕ) → least ≤ low → high ≤ most → below j b low high ≡ filter (is_between low high) (below j b least most)

  in_child : (j : ℕ) → IsInPart j → (block : List ℕ) (k low high least most : ℕ) → least ≤ low → high ≤ most
      → below j (child_at block k) (child_low block low k) (child_high 8 block high k)
      ≡ filter (is_between low high) (below j (child_at block k) (child_low block least k) (child_high 8 block most k))
  in_child j part block k low high least most from within =
      let last = nat_eq (k + 1) (entry_count 8 block) in
      let next = key_at block (k + 1) in
      let c = child_at block k in
      let all = below j c (child_low block least k) (child_high 8 block most k) in
      part c (child_low block low k) (child_high 8 block high k) (child_low block least k) (child_high 8 block most k) (omega arith) (high_within last next high most within)
      ∙ (sym (filter_both (is_between low high) (is_between (child_low block least k) (child_high 8 block most k))
      (is_between (child_low block low k) (child_high 8 block high k))
      (meets low high (child_low block least k) (child_high 8 block most k) (child_low block low k) (child_high 8 block high k)
      (omega arith) (high_meets last next high most within)) all)
      ∙ ap (filter (is_between low high))
      (sym (part c (child_low block least k) (child_high 8 block most k) (child_low block least k) (child_high 8 block most k) (omega arith) (omega arith))))

  in_part : (j b low high least most : ℕ) → least ≤ low → high ≤ most → below j b low high ≡ filter (is_between low high) (below j b least most)
  in_part zero b low high least most from within = none_deep b low high ∙ sym (ap (filter (is_between low high)) (none_deep b least most))
  in_part (suc j) b low high least most from within = elim (cases_Bool (is_lost nr image b)) [
    | inl lost ↦ none_here (suc j) b low high lost ∙ sym (ap (filter (is_between low high)) (none_here (suc j) b least most lost))
    | inr sound ↦ elim (cases_Bool (is_inner_node (block_at image b))) [
      | inl inner ↦
          at_inner (suc j) j b low high refl sound inner
          ∙ (same_joined _ _ 0 (entry_count 8 (block_at image b)) (λ k first last. in_child j (in_part j) (block_at image b) k low high least most from within)
          ∙ (sym (filter_joined (is_between low high) (λ k. below j (child_at (block_at image b) k) (child_low (block_at image b) least k) (child_high 8 (block_at image b) most k)) (range_with_len 0 (entry_count 8 (block_at image b))))
          ∙ ap (filter (is_between low high)) (sym (at_inner (suc j) j b least most refl sound inner))))
      | inr leaf ↦
          at_leaf (suc j) j b low high refl sound leaf
          ∙ (sym (filter_both (is_between low high) (is_between least most) (is_between low high) (meets low high least most low high (omega arith) (omega arith)) (leaf_entries 8 (block_at image b)))
          ∙ ap (filter (is_between low high)) (sym (at_leaf (suc j) j b least most refl sound leaf)))
    ]
  ]

  -- a low block is low at any greater height
  pub stays_low : (h m b : ℕ) → h ≤ m → IsLow nr image h b → IsLow nr image m b
  unfolding IsLow
  stays_low zero zero b most low = low
  stays_low zero (suc m) b most low = inl low
  stays_low (suc h) zero b most low = absurd (omega arith)
  stays_low (suc h) (suc m) b most (inl lost) = inl lost
  stays_low (suc h) (suc m) b most (inr (inl leaf)) = inr (inl leaf)
  stays_low (suc h) (suc m) b most (inr (inr each)) =
      inr (inr (λ i within. stays_low h m (child_at (block_at image b) i) (omega arith) (each i within)))

  -- paths of more nodes than stand there lead to nothing more
  stable : (h i m b low high : ℕ) → h ≤ i → h ≤ m → IsLow nr image h b → below i b low high ≡ below m b low high
  unfolding IsLow
  stable zero i m b low high first second lost = none_here i b low high lost ∙ sym (none_here m b low high lost)
  stable (suc h) zero m b low high first second is = absurd (omega arith)
  stable (suc h) (suc i) zero b low high first second is = absurd (omega arith)
  stable (suc h) (suc i) (suc m) b low high first second (inl lost) = none_here (suc i) b low high lost ∙ sym (none_here (suc m) b low high lost)
  stable (suc h) (suc i) (suc m) b low high first second (inr (inl leaf)) = elim (cases_Bool (is_lost nr image b)) [
    | inl lost ↦ none_here (suc i) b low high lost ∙ sym (none_here (suc m) b low high lost)
    | inr sound ↦ at_leaf (suc i) i b low high refl sound leaf ∙ sym (at_leaf (suc m) m b low high refl sound leaf)
  ]
  stable (suc h) (suc i) (suc m) b low high first second (inr (inr each)) = elim (cases_Bool (is_lost nr image b)) [
    | inl lost ↦ none_here (suc i) b low high lost ∙ sym (none_here (suc m) b low high lost)
    | inr sound ↦ elim (cases_Bool (is_inner_node (block_at image b))) [
      | inr leaf ↦ at_leaf (suc i) i b low high refl sound leaf ∙ sym (at_leaf (suc m) m b low high refl sound leaf)
      | inl inner ↦
          at_inner (suc i) i b low high refl sound inner
          ∙ (same_joined _ _ 0 (entry_count 8 (block_at image b)) (λ k from within.
          stable h i m (child_at (block_at image b) k) (child_low (block_at image b) low k) (child_high 8 (block_at image b) high k)
          (omega arith) (omega arith) (each k (omega arith)))
          ∙ sym (at_inner (suc m) m b low high refl sound inner))
    ]
  ]

  module _ (data_blocks : ℕ) where
    abbrev kept : ℕ → List Entry
    kept b = kept_below nr data_blocks image b

    pub kept_lost : (b : ℕ) → is_lost nr image b ≡ true → kept b ≡ []
    unfolding kept_below salvaged_entries
    kept_lost b lost = ap (filter (is_kept data_blocks)) (none_here 64 b 0 (2 ^ 64) lost)

    pub kept_leaf : (b : ℕ) → is_lost nr image b ≡ false → is_inner_node (block_at image b) ≡ false
        → filter (is_between 0 (2 ^ 64)) (node_entries_of 8 (block_at image b)) ≡ node_entries_of 8 (block_at image b)
        → kept b ≡ filter (is_kept data_blocks) (node_entries_of 8 (block_at image b))
    unfolding kept_below salvaged_entries leaf_entries
    kept_leaf b sound leaf all =
        ap (filter (is_kept data_blocks))
        (at_leaf 64 63 b 0 (2 ^ 64) refl sound leaf
        ∙ (ap (λ (t : Bool). filter (is_between 0 (2 ^ 64)) (cond t [] (node_entries_of 8 (block_at image b)))) leaf ∙ all))

    -- what is kept of a child in the range in which a node looks for it
    kept_in : (h b low high : ℕ) → h ≤ 63 → high ≤ 2 ^ 64 → IsLow nr image h b
        → filter (is_kept data_blocks) (below 63 b low high) ≡ filter (is_between low high) (kept b)
    unfolding kept_below salvaged_entries
    kept_in h b low high few within is =
        ap (filter (is_kept data_blocks)) (in_part 63 b low high 0 (2 ^ 64) (omega arith) within)
        ∙ (filters_swap (is_kept data_blocks) (is_between low high) (below 63 b 0 (2 ^ 64))
        ∙ ap (λ (es : List Entry). filter (is_between low high) (filter (is_kept data_blocks) es))
        (stable h 63 64 b 0 (2 ^ 64) few (omega arith) is))

    pub kept_inner : (b : ℕ) → is_lost nr image b ≡ false → is_inner_node (block_at image b) ≡ true
        → ((i : ℕ) → i < entry_count 8 (block_at image b) → IsLow nr image 63 (child_at (block_at image b) i))
        → ((i : ℕ) → i < entry_count 8 (block_at image b)
        → filter (is_between (child_low (block_at image b) 0 i) (child_high 8 (block_at image b) (2 ^ 64) i)) (kept (child_at (block_at image b) i)) ≡ kept (child_at (block_at image b) i))
        → kept b ≡ flat_map (λ i. kept (child_at (block_at image b) i)) (range_with_len 0 (entry_count 8 (block_at image b)))
    unfolding kept_below salvaged_entries
    kept_inner b sound inner low all =
        let block = block_at image b in
        ap (filter (is_kept data_blocks)) (at_inner 64 63 b 0 (2 ^ 64) refl sound inner)
        ∙ (filter_joined (is_kept data_blocks) (λ k. below 63 (child_at block k) (child_low block 0 k) (child_high 8 block (2 ^ 64) k)) (range_with_len 0 (entry_count 8 block))
        ∙ same_joined _ _ 0 (entry_count 8 block) (λ i from within.
        kept_in 63 (child_at block i) (child_low block 0 i) (child_high 8 block (2 ^ 64) i) (omega arith)
        (high_most (nat_eq (i + 1) (entry_count 8 block)) (key_at block (i + 1))) (low i (omega arith))
        ∙ all i (omega arith)))
      where
        high_most : (last : Bool) (next : ℕ) → cond last (2 ^ 64) (min next (2 ^ 64)) ≤ 2 ^ 64
        high_most true next = omega arith
        high_most false next = omega arith
