-- The shared leaves that the marks tell are those of the pool.
use Rattle.std.proofs.Common.{◌≡◌, ℕ, zero, suc, ◌+◌, ◌<◌, Bool, true, false, ◌&&◌, cond, nat_eq, nat_le, nat_lt, List, [], ◌∷◌, length, replicate, refl, sym, ap, ◌∙◌, arith, lt-ltb, min, subst, ◌*◌, ◌≤◌, take, ◌++◌, Some, None, length-append, eq-eqb, inl, inr}
use Rattle.std.specs.List.{AllByRecursion, count_by, filter, flat_map, range_with_len, between, position, position_from, slice_index, slice_index_or}
use Rattle.std.proofs.lemmas.Bool.{eqb-true, cases_Bool, cases_lt, ne_eqb}
use Rattle.std.proofs.lemmas.List.{get_or-replicate, length-map, length-replicate, get_or_append_left, get_or_push, take-take, take_all}
use Rattle.std.proofs.lemmas.List.FromFn.{length-map-range_with_len}
use Rattle.std.proofs.lemmas.Iterator.Adapters.{position_from-zero}
use Rattle.std.proofs.lemmas.List.Quantifiers.{position-Some}
use Rattle.std.proofs.lemmas.List.Sums.{count_by_more_no, count_by_more_yes, sum_by-cons, sum_by-take-drop}
use Rattle.std.proofs.lemmas.Slice.{between_is}
use Rattle.pd_kinds.specs.declared.kind.Kind.TheVariants.{Thin}
use Rattle.pd_kinds.specs.declared.kind.Stage.TheVariants.{Whole}
use Rattle.pd_kinds.specs.declared.limits.TheConstants.{MAX_META_BLOCKS}
use Rattle.pd_kinds.specs.declared.superblocks.ThinSuper.{ThinSuper}
use Rattle.pd_kinds.specs.Node.{Entry, entry_count, is_inner_node, key_at, value_at}
use Rattle.pd_kinds.specs.Graph.{Graph, block_at}
use Rattle.pd_kinds.specs.Layout.{leaf_entries, node_entries_of}
use Rattle.pd_kinds.specs.Stages.{faults}
use Rattle.pd_kinds.specs.ThinFormat.{mapped_block, mapped_time, thin_graph, thin_fields}
use Rattle.pd_kinds.proofs.KindsListLemmas.{length_first}
use Rattle.pd_laid.specs.Shape.{device_roots, is_shared_leaf, leaf_blocks, mappings_in, shared_leaves}
use Rattle.pd_tree.specs.Below.{gather, nodes_below}
use Rattle.pd_tree.specs.Search.{node_kids}
use Rattle.pd_meaning_thin.specs.declared.marks.Mark.{Mark}
use Rattle.pd_meaning_thin.specs.declared.marks.Mark.TheVariants.{Unseen}
use Rattle.pd_meaning_thin.specs.Marks.{marked_blocks, AreMarked, has_few_entries, is_shared, mark_at, mark_of, mark_often, mark_once, nodes_of, occurs, shared_before}
use Rattle.pd_meaning_thin.specs.Walk.{IsProperTree, leaves_below, roots_below, AreProper, AreWalked}
use Rattle.pd_meaning_thin.proofs.OccursLemmas.{occurs-append, occurs-none, occurs-other}
use Rattle.pd_meaning_thin.proofs.RootLemmas.{nr_fits, nr_is}

-- no block has a mark before the first walk
pub unseen_marked : (image : List (List ℕ)) (blocks : ℕ) → AreMarked image [] (replicate blocks Unseen)
unfolding AreMarked mark_of nodes_of occurs
unseen_marked image blocks = λ b within. get_or-replicate blocks b Unseen Unseen (rw (length-replicate blocks Unseen) at within)

-- so after walks over the trees of some roots the marks tell of these
pub first_walk : (image : List (List ℕ)) (roots left : List ℕ) (blocks : ℕ) (old new : List Mark) → old ≡ replicate blocks Unseen → length new ≡ length old → left ≡ roots
    → AreWalked image left old new → AreProper image new roots → AreMarked image roots new
first_walk image roots left blocks old new unseen same is walked proper =
    rw is at (walked [] tt (rw (is, sym same) proper) (rw unseen (unseen_marked image blocks)))

-- tests that agree below n leave the same of its numbers
same_filter : (p q : ℕ → Bool) (a n : ℕ) → ((b : ℕ) → b < a + n → p b ≡ q b) → filter p (range_with_len a n) ≡ filter q (range_with_len a n)
same_filter p q a zero same = refl
same_filter p q a (suc n) same = rw (same a (omega arith), same_filter p q (a + 1) n (λ b within. same b (omega arith))) refl

-- none, where the block is an inner node
unless_add : (inner : Bool) (a c : ℕ) → cond inner 0 a + cond inner 0 c ≡ cond inner 0 (a + c)
unless_add true a c = refl
unless_add false a c = refl

unless_zero : (inner : Bool) → ◌≡◌ {A = ℕ} (cond inner 0 0) 0
unless_zero true = refl
unless_zero false = refl

module _ (image : List (List ℕ)) (x : ℕ) where
  abbrev inner : Bool
  inner = is_inner_node (block_at image x)

  abbrev own_leaf : ℕ → List ℕ
  own_leaf c = cond (is_inner_node (block_at image c)) [] (c ∷ [])

  -- a leaf is itself the leaf that stands there
  own_by : (same there : Bool) (b : ℕ) → nat_eq b x ≡ same → is_inner_node (block_at image b) ≡ there → occurs x (own_leaf b) ≡ cond inner 0 (occurs x (b ∷ []))
  own_by true there b is kind =
      let equal : b ≡ x = eqb-true b x is in
      rw equal (same_block there (rw equal at kind))
    where
      same_block : (there : Bool) → is_inner_node (block_at image x) ≡ there → occurs x (own_leaf x) ≡ cond (is_inner_node (block_at image x)) 0 (occurs x (x ∷ []))
      same_block true kind = rw kind (occurs-none x)
      same_block false kind = rw kind refl
  own_by false true b other kind = rw (kind, occurs-other x b [] other, occurs-none x) (sym (unless_zero inner))
  own_by false false b other kind = rw (kind, occurs-other x b [] other, occurs-none x) (sym (unless_zero inner))

  flat_occurs : (leaves nodes : ℕ → List ℕ) (cs : List ℕ) → ((c : ℕ) → occurs x (leaves c) ≡ cond inner 0 (occurs x (nodes c)))
      → occurs x (flat_map leaves cs) ≡ cond inner 0 (occurs x (flat_map nodes cs))
  flat_occurs leaves nodes [] each = rw (occurs-none x) (sym (unless_zero inner))
  flat_occurs leaves nodes (c ∷ cs) each =
      rw (occurs-append x (leaves c) (flat_map leaves cs), occurs-append x (nodes c) (flat_map nodes cs), each c, flat_occurs leaves nodes cs each)
      (unless_add inner (occurs x (nodes c)) (occurs x (flat_map nodes cs)))

  gathered_occurs : (j b : ℕ) → occurs x (gather own_leaf (node_kids 8 image) j b) ≡ cond inner 0 (occurs x (gather (λ c. c ∷ []) (node_kids 8 image) j b))
  unfolding gather
  gathered_occurs zero b = own_by (nat_eq b x) (is_inner_node (block_at image b)) b refl refl
  gathered_occurs (suc j) b =
      let leaves = flat_map (gather own_leaf (node_kids 8 image) j) (node_kids 8 image b) in
      let nodes = flat_map (gather (λ c. c ∷ []) (node_kids 8 image) j) (node_kids 8 image b) in
      rw (
        occurs-append x (own_leaf b) leaves,
        own_by (nat_eq b x) (is_inner_node (block_at image b)) b refl refl,
        flat_occurs (gather own_leaf (node_kids 8 image) j) (gather (λ c. c ∷ []) (node_kids 8 image) j) (node_kids 8 image b) (gathered_occurs j),
      )
      (unless_add inner (occurs x (b ∷ [])) (occurs x nodes) ∙ ap (λ (n : ℕ). cond inner 0 n) (sym (occurs-append x (b ∷ []) nodes)))

  -- how often a leaf is in the trees of some roots
  pub leaves_occur : (roots : List ℕ) → occurs x (flat_map (leaves_below image 63) roots) ≡ cond inner 0 (occurs x (nodes_of image roots))
  unfolding leaves_below nodes_below nodes_of
  leaves_occur roots = flat_occurs (leaves_below image 63) (nodes_below 8 image 63) roots (gathered_occurs 63)

-- and how many mappings it has
size_by : (there : Bool) (block : List ℕ) → is_inner_node block ≡ there → length (leaf_entries 8 block) ≡ cond there 0 (entry_count 8 block)
unfolding leaf_entries node_entries_of
size_by true block inner = rw inner refl
size_by false block leaf = rw leaf (length-map-range_with_len (λ i. record { key = key_at block i; value = value_at 8 block i }) 0 (entry_count 8 block))

size_is : (image : List (List ℕ)) (b : ℕ) → length (mappings_in image b) ≡ cond (is_inner_node (block_at image b)) 0 (entry_count 8 (block_at image b))
size_is image b =
    length-map (leaf_entries 8 (block_at image b)) (λ (e : Entry). record { virtual_block = e.key; data_block = mapped_block e.value; time = mapped_time e.value })
    ∙ size_by (is_inner_node (block_at image b)) (block_at image b) refl

-- so a mark tells whether a leaf is shared
not_once : (there few : Bool) → is_shared (mark_once there few) ≡ false
not_once true few = refl
not_once false true = refl
not_once false false = refl

often_few : (few : Bool) → is_shared (mark_often false few) ≡ few
often_few true = refl
often_few false = refl

inner_never : (block : List ℕ) (n : ℕ) → is_inner_node block ≡ true → is_shared (mark_of block n) ≡ false
unfolding mark_of
inner_never block zero inner = refl
inner_never block (suc zero) inner = not_once (is_inner_node block) (has_few_entries block)
inner_never block (suc (suc n)) inner = rw inner refl

leaf_shared : (block : List ℕ) (n : ℕ) → is_inner_node block ≡ false → is_shared (mark_of block n) ≡ (nat_lt 1 n && has_few_entries block)
unfolding mark_of
leaf_shared block zero leaf = refl
leaf_shared block (suc zero) leaf = not_once (is_inner_node block) (has_few_entries block)
leaf_shared block (suc (suc n)) leaf = rw (leaf, lt-ltb 1 (suc (suc n)) (omega arith)) (often_few (has_few_entries block))

shared_by : (there : Bool) (block : List ℕ) (n : ℕ) → is_inner_node block ≡ there
    → is_shared (mark_of block n) ≡ (nat_lt 1 (cond there 0 n) && (nat_le 1 (cond there 0 (entry_count 8 block)) && nat_le (cond there 0 (entry_count 8 block)) 252))
shared_by true block n inner = inner_never block n inner
shared_by false block n leaf = leaf_shared block n leaf

-- the leaves of roots that have the same
same_leaves : (graph : Graph) (image : List (List ℕ)) (roots : List ℕ) → AllByRecursion (λ root. leaf_blocks graph image root ≡ leaves_below image 63 root) roots
    → flat_map (leaf_blocks graph image) roots ≡ flat_map (leaves_below image 63) roots
same_leaves graph image [] all = refl
same_leaves graph image (root ∷ roots) all = rw (all.0, same_leaves graph image roots all.1) refl

count_occurs : (b : ℕ) (xs : List ℕ) → count_by (λ leaf. nat_eq leaf b) xs ≡ occurs b xs
unfolding occurs
count_occurs b xs = refl

count_is : (graph : Graph) (image : List (List ℕ)) (b : ℕ) → AllByRecursion (λ root. leaf_blocks graph image root ≡ leaves_below image 63 root) (device_roots graph image)
    → count_by (λ leaf. nat_eq leaf b) (flat_map (leaf_blocks graph image) (device_roots graph image)) ≡ cond (is_inner_node (block_at image b)) 0 (occurs b (nodes_of image (device_roots graph image)))
count_is graph image b all =
    rw (same_leaves graph image (device_roots graph image) all) (count_occurs b (flat_map (leaves_below image 63) (device_roots graph image)) ∙ leaves_occur image b (device_roots graph image))

mark_tells : (graph : Graph) (image : List (List ℕ)) (marks : List Mark) (b : ℕ) → AllByRecursion (λ root. leaf_blocks graph image root ≡ leaves_below image 63 root) (device_roots graph image)
    → AreMarked image (device_roots graph image) marks → b < length marks → is_shared (mark_at marks b) ≡ is_shared_leaf graph image b
unfolding AreMarked
mark_tells graph image marks b leaves marked within =
    rw (marked b within, count_is graph image b leaves, size_is image b)
    (shared_by (is_inner_node (block_at image b)) (block_at image b) (occurs b (nodes_of image (device_roots graph image))) refl)

-- so the marked blocks are the shared leaves
found_leaves : (graph : Graph) (image : List (List ℕ)) (marks : List Mark) → AllByRecursion (λ root. leaf_blocks graph image root ≡ leaves_below image 63 root) (device_roots graph image)
    → AreMarked image (device_roots graph image) marks → length marks ≡ graph.nr → marked_blocks marks ≡ shared_leaves graph image
unfolding marked_blocks shared_leaves
found_leaves graph image marks leaves marked number =
    same_filter (λ b. is_shared (mark_at marks b)) (is_shared_leaf graph image) 0 (length marks)
    (λ b within. mark_tells graph image marks b leaves marked (omega arith))
    ∙ ap (λ (n : ℕ). filter (is_shared_leaf graph image) (range_with_len 0 n)) number

-- and so where an image has no faults
pub found : (image : List (List ℕ)) (s : ThinSuper) (marks : List Mark) → faults Thin Whole image ≡ [] → s ≡ thin_fields (block_at image 0)
    → device_roots (thin_graph (block_at image 0)) image ≡ roots_below image (thin_fields (block_at image 0)).mapping_root
    → AllByRecursion (λ root. leaf_blocks (thin_graph (block_at image 0)) image root ≡ leaves_below image 63 root) (device_roots (thin_graph (block_at image 0)) image)
    → AllByRecursion (IsProperTree image (thin_fields (block_at image 0)).meta_map.blocks) (device_roots (thin_graph (block_at image 0)) image)
    → (AreProper image marks (roots_below image s.mapping_root) → AreMarked image (roots_below image s.mapping_root) marks)
    → length marks ≡ min (min (length image) s.meta_map.blocks) MAX_META_BLOCKS
    → marked_blocks marks ≡ shared_leaves (thin_graph (block_at image 0)) image
found image s marks none same roots leaves trees marked number =
    let graph = thin_graph (block_at image 0) in
    let told = subst (λ (t : ThinSuper). AreProper image marks (roots_below image t.mapping_root) → AreMarked image (roots_below image t.mapping_root) marks) same marked in
    let told_roots = subst (λ (rs : List ℕ). AreProper image marks rs → AreMarked image rs marks) (sym roots) told in
    let size : length marks ≡ graph.nr = subst (λ (t : ThinSuper). length marks ≡ min (min (length image) t.meta_map.blocks) MAX_META_BLOCKS) same number ∙ nr_fits image none in
    let proper = subst (λ (n : ℕ). AllByRecursion (IsProperTree image n) (device_roots graph image)) (sym (size ∙ nr_is (block_at image 0))) trees in
    found_leaves graph image marks leaves (told_roots proper) size

-- How many shared leaves stand before a block, and which ones the marks tell.

-- what is counted from a block up to another comes to what was counted before it
pub counted_on : (marks : List Mark) (a b : ℕ) → a ≤ b → shared_before marks a + count_by is_shared (between a b marks) ≡ shared_before marks b
counted_on marks a b le =
    rw (between_is marks a b, ← take-take a b marks le) (sum_by-take-drop (λ (mark : Mark). cond (is_shared mark) 1 0) (take b marks) a)

-- one rank more
pub rank_added : (marks : List Mark) (ranks : List ℕ) (shared group : ℕ) → ((g : ℕ) → g < length ranks → slice_index_or ranks g 0 ≡ shared_before marks (64 * g))
    → shared ≡ shared_before marks (64 * length ranks) → group < length (ranks ++ shared ∷ []) → slice_index_or (ranks ++ shared ∷ []) group 0 ≡ shared_before marks (64 * group)
rank_added marks ranks shared group each is below = elim (cases_lt group (length ranks)) [
  | inl before ↦ rw (get_or_append_left ranks (shared ∷ []) 0 group before) (each group before)
  | inr end ↦
      let last : length ranks ≡ group = omega (arith, length-append ranks (shared ∷ [])) in
      rw (get_or_push ranks shared 0 group last, ← last) is
]

-- the blocks with the mark of a shared leaf, where the first mark is that of block a
places : ℕ → List Mark → List ℕ
places a [] = []
places a (mark ∷ marks) = cond (is_shared mark) (a ∷ places (a + 1) marks) (places (a + 1) marks)

places_are : (p : ℕ → Bool) (a : ℕ) (marks : List Mark) → ((i b : ℕ) → b ≡ a + i → p b ≡ is_shared (mark_at marks i)) → filter p (range_with_len a (length marks)) ≡ places a marks
unfolding places
places_are p a [] tells = refl
places_are p a (mark ∷ marks) tells =
    let first : p a ≡ is_shared mark = tells 0 a (omega arith) in
    rw (first, places_are p (a + 1) marks (λ i b is. tells (suc i) b (omega arith))) refl

places_number : (a : ℕ) (marks : List Mark) → length (places a marks) ≡ count_by is_shared marks
unfolding places
places_number a [] = refl
places_number a (mark ∷ marks) =
    rw (length_first (is_shared mark) a (places (a + 1) marks), places_number (a + 1) marks, sum_by-cons (λ (m : Mark). cond (is_shared m) 1 0) mark marks) refl

-- the place of a block among them: one that isn't the first, one that stands before all, and any
skipped : (shared : Bool) (a b i : ℕ) (rest : List ℕ) → nat_eq a b ≡ false
    → position_from (λ leaf. nat_eq leaf b) i (cond shared (a ∷ rest) rest) ≡ position_from (λ leaf. nat_eq leaf b) (cond shared (i + 1) i) rest
skipped true a b i rest other = rw other refl
skipped false a b i rest other = refl

absent : (a b i : ℕ) (marks : List Mark) → b < a → position_from (λ leaf. nat_eq leaf b) i (places a marks) ≡ None
unfolding places
absent a b i [] before = refl
absent a b i (mark ∷ marks) before =
    skipped (is_shared mark) a b i (places (a + 1) marks) (ne_eqb a b (λ same. omega arith))
    ∙ absent (a + 1) b (cond (is_shared mark) (i + 1) i) marks (omega arith)

first_place : (shared : Bool) (a b i : ℕ) (rest : List ℕ) → b ≡ a → position_from (λ leaf. nat_eq leaf b) i rest ≡ None
    → position_from (λ leaf. nat_eq leaf b) i (cond shared (a ∷ rest) rest) ≡ cond shared (Some (i + 0)) None
first_place true a b i rest is none =
    let same : i ≡ i + 0 = omega arith in
    rw (eq-eqb a b (sym is)) (ap (λ (n : ℕ). Some n) same)
first_place false a b i rest is none = none

counted_first : (shared : Bool) (i n : ℕ) → cond shared (i + 1) i + n ≡ i + (cond shared 1 0 + n)
counted_first true i n = omega arith
counted_first false i n = omega arith

place_from : (a b i k : ℕ) (marks : List Mark) → b ≡ a + k
    → position_from (λ leaf. nat_eq leaf b) i (places a marks) ≡ cond (is_shared (mark_at marks k)) (Some (i + shared_before marks k)) None
unfolding places
place_from a b i k [] is = refl
place_from a b i zero (mark ∷ marks) is =
    first_place (is_shared mark) a b i (places (a + 1) marks) (omega arith) (absent (a + 1) b i marks (omega arith))
place_from a b i (suc k) (mark ∷ marks) is =
    rw (
      skipped (is_shared mark) a b i (places (a + 1) marks) (ne_eqb a b (λ same. omega arith)),
      place_from (a + 1) b (cond (is_shared mark) (i + 1) i) k marks (omega arith),
      counted_first (is_shared mark) i (shared_before marks k),
      ← sum_by-cons (λ (m : Mark). cond (is_shared m) 1 0) mark (take k marks),
    ) refl

marked_places : (marks : List Mark) → marked_blocks marks ≡ places 0 marks
unfolding marked_blocks
marked_places marks =
    places_are (λ b. is_shared (mark_at marks b)) 0 marks (λ i b is. (
    let same : b ≡ i = omega arith in
    rw same refl))

pub marked_number : (marks : List Mark) → length (marked_blocks marks) ≡ shared_before marks (length marks)
marked_number marks =
    let whole : length marks ≤ length marks = omega arith in
    rw (marked_places marks, take_all (length marks) marks whole) (places_number 0 marks)

-- a block is a shared leaf where its mark says so, and has the number of those before it
pub number_is : (marks : List Mark) (b : ℕ) → position (λ leaf. nat_eq leaf b) (marked_blocks marks) ≡ cond (is_shared (mark_at marks b)) (Some (shared_before marks b)) None
number_is marks b =
    let same : 0 + shared_before marks b ≡ shared_before marks b = omega arith in
    let told = place_from 0 b 0 b marks (omega arith) in
    rw (marked_places marks) (position_from-zero (λ leaf. nat_eq leaf b) (places 0 marks) ∙ rw same at told)

-- so a number that isn't reached before a block, and is behind it, is the block's
pub block_is : (marks : List Mark) (b n : ℕ) → b < length marks → shared_before marks b ≤ n → n < shared_before marks (b + 1) → slice_index (marked_blocks marks) n ≡ b
block_is marks b n within from before = elim (cases_Bool (is_shared (mark_at marks b))) [
  | inl has ↦
      let more = count_by_more_yes is_shared marks b Unseen within has in
      let same : shared_before marks b ≡ n = omega arith in
      let told : position (λ leaf. nat_eq leaf b) (marked_blocks marks) ≡ Some n = rw (number_is marks b, has, same) refl in
      eqb-true (slice_index (marked_blocks marks) n) b (position-Some (λ leaf. nat_eq leaf b) (marked_blocks marks) n 0 told).1
  | inr hasnt ↦ let more = count_by_more_no is_shared marks b Unseen within hasnt in absurd (omega arith)
]
