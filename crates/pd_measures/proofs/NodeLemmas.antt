-- The measure of a node from what stands in it, and from its children's.
use Rattle.std.proofs.Common.{◌≡◌, ◌⊎◌, inl, inr, ℕ, ◌+◌, ◌-◌, ◌<◌, Bool, true, false, not, cond, nat_eq, List, [], ◌∷◌, ◌++◌, map, Option, Some, slice_get, refl, sym, ◌∙◌, ap, subst, arith, eq-eqb, add-one, ◌≤◌, ◌&&◌, ◌||◌, nat_lt}
use Rattle.std.specs.List.{flat_map, range_with_len}
use Rattle.std.specs.Option.{unwrap_or}
use Rattle.std.proofs.lemmas.Bool.{cases_Bool, cases_eq, and_parts, ne_eqb, eqb-true, both_ways, or_cases, or_left, or_right, cases_lt, lt-ltb, le-ltb}
use Rattle.std.proofs.lemmas.List.{map-append}
use Rattle.pd_kinds.specs.Graph.{Graph, block_at, pair, block_of, role_of, is_inner_pair, next, children, gathered, has_chain}
use Rattle.pd_kinds.specs.Layout.{leaf_entries, node_entries_of}
use Rattle.pd_kinds.specs.Node.{Entry, child_at, entry_count, is_inner_node}
use Rattle.pd_kinds.specs.Trees.{entries_below}
use Rattle.pd_graph.specs.declared.notes.Notes.{Notes}
use Rattle.pd_graph.specs.Notes.{note_in, size_of}
use Rattle.pd_graph.proofs.BitLemmas.{range_more}
use Rattle.pd_graph.specs.Walk.{weigh}
use Rattle.pd_graph.proofs.Weights.{more_weight, same_weight, wider_weight, ones_below}
use Rattle.pd_settle.specs.Settled.{is_good_node, is_well}
use Rattle.pd_settle.proofs.ChainLemmas.{is_among, all_among}
use Rattle.pd_settle.proofs.GoodLemmas.{good_child, good_ends, good_well}
use Rattle.pd_settle.proofs.KeyLemmas.{gathered_step}
use Rattle.pd_tree.specs.Below.{kids_from}
use Rattle.pd_tree.specs.Search.{node_kids, IsCleanPair}
use Rattle.pd_tree.proofs.TreeLemmas.{IsTreeAt, tree_at, block_pair, role_pair}
use Rattle.pd_measures.specs.declared.measures.Measured.{Measured}
use Rattle.pd_measures.specs.declared.measures.Measures.{Measures}
use Rattle.pd_measures.specs.Measured.{entry_of, join, joined, measured, no_measure, measure_at, AreMeasuredTo, AreTrees, was_read}
use Rattle.pd_measures.proofs.MeasureLemmas.{joined-push, joined_is, measured-push}
use Rattle.pd_measures.proofs.SoundLemmas.{leads_small}

range_push : (n : ℕ) → range_with_len 0 (n + 1) ≡ range_with_len 0 n ++ (n ∷ [])
range_push n = rw (add-one n) (range_more 0 n n (omega arith))

map_push : {X : Type 0} → (f : ℕ → X) (n : ℕ) → map f (range_with_len 0 (n + 1)) ≡ map f (range_with_len 0 n) ++ (f n ∷ [])
map_push f n = ap (map f) (range_push n) ∙ map-append f (range_with_len 0 n) (n ∷ [])

-- one entry of a leaf more
pub leaf_more : (gauge : Entry → Measured) (size : ℕ) (block : List ℕ) (i : ℕ) (sum one : Measured)
    → sum ≡ measured gauge (map (entry_of size block) (range_with_len 0 i)) → one ≡ gauge (entry_of size block i)
    → join sum one ≡ measured gauge (map (entry_of size block) (range_with_len 0 (i + 1)))
leaf_more gauge size block i sum one before now =
    ap (λ (m : Measured). join m one) before
    ∙ (ap (join (measured gauge (map (entry_of size block) (range_with_len 0 i)))) now
    ∙ (sym (measured-push gauge (map (entry_of size block) (range_with_len 0 i)) (entry_of size block i))
    ∙ ap (measured gauge) (sym (map_push (entry_of size block) i))))

pub leaf_all : (gauge : Entry → Measured) (size : ℕ) (block : List ℕ) (i : ℕ) (sum : Measured)
    → sum ≡ measured gauge (map (entry_of size block) (range_with_len 0 i)) → i ≡ entry_count size block → sum ≡ measured gauge (node_entries_of size block)
unfolding node_entries_of
leaf_all gauge size block i sum before last =
    before ∙ ap (λ (n : ℕ). measured gauge (map (entry_of size block) (range_with_len 0 n))) last

-- one child of an inner node more
pub inner_more : (measures : ℕ → Measured) (block : List ℕ) (i : ℕ) (sum one : Measured) (child : ℕ)
    → sum ≡ joined measures no_measure (map (child_at block) (range_with_len 0 i)) → one ≡ measures child → child ≡ child_at block i
    → join sum one ≡ joined measures no_measure (map (child_at block) (range_with_len 0 (i + 1)))
inner_more measures block i sum one child before now is =
    ap (λ (m : Measured). join m one) before
    ∙ (ap (join (joined measures no_measure (map (child_at block) (range_with_len 0 i)))) (now ∙ ap measures is)
    ∙ (sym (joined-push measures no_measure (map (child_at block) (range_with_len 0 i)) (child_at block i))
    ∙ ap (joined measures no_measure) (sym (map_push (child_at block) i))))

-- a child is among the pairs of the children
member_pair : (role c : ℕ) (cs : List ℕ) → is_among c cs ≡ true → is_among (pair c role) (map (λ c. pair c role) cs) ≡ true
member_pair role c [] among = among
member_pair role c (x ∷ xs) among = elim (or_cases (nat_eq x c) (is_among c xs) among) [
  | inl same ↦ or_left (nat_eq (pair x role) (pair c role)) _ (eq-eqb (pair x role) (pair c role) (ap (λ (b : ℕ). pair b role) (eqb-true x c same)))
  | inr later ↦ or_right (nat_eq (pair x role) (pair c role)) _ (member_pair role c xs later)
]

flat_mapped : (list : ℕ → List Entry) (f : ℕ → ℕ) (cs : List ℕ) → flat_map list (map f cs) ≡ flat_map (λ c. list (f c)) cs
flat_mapped list f [] = refl
flat_mapped list f (c ∷ cs) = ap (λ (es : List Entry). list (f c) ++ es) (flat_mapped list f cs)

module _ (graph : Graph) (image : List (List ℕ)) (role size : ℕ) (fit : ℕ → Bool) (gauge : Entry → Measured) (notes : Notes) (trees : AreTrees graph image role size fit notes) where
  abbrev good : ℕ → Bool
  good b = is_good_node graph image fit true (pair b role)

  within : role < 16
  within = let few = trees.lawful.few_roles in let known = trees.known in omega arith

  tree_is : IsTreeAt graph image role size
  tree_is = tree_at graph image role size trees.tree

  module _ (b : ℕ) (small : b < graph.nr) (is_good : good b ≡ true) where
    clean : IsCleanPair graph image (pair b role)
    unfolding is_good_node
    clean rule =
        let is_fit = (and_parts (fit (block_of (pair b role))) _ (good_well (is_well graph image fit true) (children graph image) 63 (pair b role) is_good)).0 in
        rw (role_pair b role within, block_pair b role within) (trees.sound.sound b small (ap fit (sym (block_pair b role within)) ∙ is_fit) rule)

    ends : has_chain (children graph image) 64 (pair b role) ≡ false
    unfolding is_good_node
    ends = good_ends (is_well graph image fit true) (children graph image) 64 (pair b role) is_good

    abbrev kids : List ℕ
    kids = node_kids size image b

    among_children : (c : ℕ) → is_among c kids ≡ true → is_among (pair c role) (children graph image (pair b role)) ≡ true
    among_children c among = ap (is_among (pair c role)) (tree_is.kids b clean) ∙ member_pair role c kids among

    kid_good : (c : ℕ) → is_among c kids ≡ true → good c ≡ true
    unfolding is_good_node
    kid_good c among = good_child (is_well graph image fit true) (children graph image) 63 (pair b role) (pair c role) is_good (among_children c among)

    kid_lower : (c : ℕ) → is_among c kids ≡ true → (note_in notes c).height < (note_in notes b).height
    kid_lower c among =
        subst (λ (d : ℕ). (note_in notes d).height < (note_in notes b).height) (block_pair c role within)
        (trees.settled.above b (pair c role) small is_good (among_children c among))

    next_of : (inner : Bool) (p : ℕ) (xs : List ℕ) → is_among p (cond inner xs []) ≡ true → is_among p xs ≡ true
    next_of true p xs among = among
    next_of false p xs among = absurd (both_ways _ refl among)

    kid_small : (c : ℕ) → is_among c kids ≡ true → c < graph.nr
    unfolding children next
    kid_small c among =
        let known : role_of (pair b role) < graph.roles = let is = role_pair b role within in let k = trees.known in omega arith in
        let lies = leads_small graph (graph.edges (role_of (pair b role)) (block_of (pair b role)) (block_at image (block_of (pair b role)))) (pair c role) trees.lawful.few_roles
        (trees.lawful.each (role_of (pair b role)) (block_of (pair b role)) (block_at image (block_of (pair b role))) known).within
        (next_of (is_inner_pair graph image (pair b role)) (pair c role) _ (among_children c among)) in
        let less = lies.1 in
        omega arith

    -- what stands below the node
    step : entries_below graph image size role b
        ≡ cond (is_inner_node (block_at image b)) (flat_map (entries_below graph image size role) kids) (leaf_entries size (block_at image b))
    unfolding entries_below
    step =
        let own = λ (p : ℕ). leaf_entries size (block_at image (block_of p)) in
        let here = gathered (is_inner_pair graph image) (children graph image) own 63 in
        gathered_step (is_inner_pair graph image) (children graph image) own 63 (pair b role) ends
        ∙ (ap (λ (i : Bool). cond i (flat_map here (children graph image (pair b role))) (own (pair b role))) (tree_is.inner b clean)
        ∙ (ap (λ (cs : List ℕ). cond (is_inner_node (block_at image b)) (flat_map here cs) (own (pair b role))) (tree_is.kids b clean)
        ∙ (ap (λ (es : List Entry). cond (is_inner_node (block_at image b)) es (own (pair b role))) (flat_mapped here (λ c. pair c role) kids)
        ∙ ap (λ (d : ℕ). cond (is_inner_node (block_at image b)) (flat_map (λ c. here (pair c role)) kids) (leaf_entries size (block_at image d))) (block_pair b role within))))

    -- the measure of a leaf
    leaf_right : is_inner_node (block_at image b) ≡ false → measured gauge (node_entries_of size (block_at image b)) ≡ measured gauge (entries_below graph image size role b)
    unfolding leaf_entries
    leaf_right leaf =
        ap (measured gauge)
        (sym (step
        ∙ (ap (λ (i : Bool). cond i (flat_map (entries_below graph image size role) kids) (cond i [] (node_entries_of size (block_at image b)))) leaf)))

    -- and of an inner node
    kids_are : is_inner_node (block_at image b) ≡ true → kids ≡ map (child_at (block_at image b)) (range_with_len 0 (entry_count size (block_at image b)))
    unfolding kids_from
    kids_are inner =
        let whole : entry_count size (block_at image b) - 0 ≡ entry_count size (block_at image b) = omega arith in
        rw (inner, whole) refl

    module _ (height before : ℕ) (measures : Measures) (at_height : (note_in notes b).height ≡ height)
        (done : AreMeasuredTo graph image role size fit gauge notes height before measures) where
      inner_right : is_inner_node (block_at image b) ≡ true
          → joined (measure_at measures) no_measure (map (child_at (block_at image b)) (range_with_len 0 (entry_count size (block_at image b))))
          ≡ measured gauge (entries_below graph image size role b)
      inner_right inner =
          ap (joined (measure_at measures) no_measure) (sym (kids_are inner))
          ∙ (joined_is gauge (measure_at measures) (entries_below graph image size role) kids
          (all_among (λ c. measure_at measures c ≡ measured gauge (entries_below graph image size role c)) kids
          (λ c among.
          let lower = kid_lower c among in
          done.nodes c (kid_small c among) (kid_good c among) (inl (omega arith))))
          ∙ ap (measured gauge)
          (sym (step ∙ ap (λ (i : Bool). cond i (flat_map (entries_below graph image size role) kids) (leaf_entries size (block_at image b))) inner)))

      node_right : (block : List ℕ) (measure : Measured) → slice_get image b ≡ Some block
          → (is_inner_node block ≡ false → measure ≡ measured gauge (node_entries_of size block))
          → (is_inner_node block ≡ true → measure ≡ joined (measure_at measures) no_measure (map (child_at block) (range_with_len 0 (entry_count size block))))
          → measure ≡ measured gauge (entries_below graph image size role b)
      node_right block measure found leaf inner =
          let here : block_at image b ≡ block = ap (λ (o : Option (List ℕ)). unwrap_or o []) found in
          elim (cases_Bool (is_inner_node block)) [
            | inl is ↦
                subst (λ (x : List ℕ). measure ≡ joined (measure_at measures) no_measure (map (child_at x) (range_with_len 0 (entry_count size x)))) (sym here) (inner is)
                ∙ inner_right (ap is_inner_node here ∙ is)
            | inr not ↦ subst (λ (x : List ℕ). measure ≡ measured gauge (node_entries_of size x)) (sym here) (leaf not) ∙ leaf_right (ap is_inner_node here ∙ not)
          ]

  other_measure : (c b : ℕ) (measure old new : Measured) → new ≡ cond (nat_eq c b) measure old → (c ≡ b → ⊥) → new ≡ old
  other_measure c b measure old new is ne = is ∙ ap (λ (t : Bool). cond t measure old) (ne_eqb c b ne)

  this_measure : (c b : ℕ) (measure old new : Measured) → new ≡ cond (nat_eq c b) measure old → c ≡ b → new ≡ measure
  this_measure c b measure old new is same = is ∙ ap (λ (t : Bool). cond t measure old) (eq-eqb c b same)

  earlier : (height b c : ℕ) → ((note_in notes c).height < height) ⊎ (((note_in notes c).height ≡ height) × (c < b + 1)) → (c ≡ b → ⊥)
      → ((note_in notes c).height < height) ⊎ (((note_in notes c).height ≡ height) × (c < b))
  earlier height b c (inl lower) ne = inl lower
  earlier height b c (inr at) ne = inr (at.0, let low = at.1 in omega arith)

  -- one node more
  pub measured_more : (height b : ℕ) (block : List ℕ) (measure : Measured) (old new : Measures) → b < size_of notes → (note_in notes b).height ≡ height
      → slice_get image b ≡ Some block
      → (is_inner_node block ≡ false → measure ≡ measured gauge (node_entries_of size block))
      → (is_inner_node block ≡ true → measure ≡ joined (measure_at old) no_measure (map (child_at block) (range_with_len 0 (entry_count size block))))
      → ((c : ℕ) → measure_at new c ≡ cond (nat_eq c b) measure (measure_at old c))
      → AreMeasuredTo graph image role size fit gauge notes height b old → AreMeasuredTo graph image role size fit gauge notes height (b + 1) new
  measured_more height b block measure old new small at_height found leaf inner sets done = record {
    nodes = λ c there is_good at. elim (cases_eq c b) [
      | inl same ↦
          let number = trees.number in
          this_measure c b measure (measure_at old c) (measure_at new c) (sets c) same
          ∙ (node_right b (omega arith) (subst (λ (d : ℕ). good d ≡ true) same is_good) height b old at_height done block measure found leaf inner
          ∙ ap (λ (d : ℕ). measured gauge (entries_below graph image size role d)) (sym same))
      | inr ne ↦ other_measure c b measure (measure_at old c) (measure_at new c) (sets c) ne ∙ done.nodes c there is_good (earlier height b c at ne)
    ];
  }

-- How many blocks were read.

-- by a height and a place
abbrev test : ℕ → ℕ → ℕ → ℕ → Bool
test height before h c = nat_lt h height || (nat_eq h height && nat_lt c before)

test_here : (height b h : ℕ) → h ≡ height → test height b h b ≡ false
test_here height b h same = rw (le-ltb h height (omega arith), eq-eqb h height same, le-ltb b b (omega arith)) refl

test_gains : (height b h c : ℕ) → (c ≡ b → h ≡ height) → test height (b + 1) h c ≡ (test height b h c || nat_eq c b)
test_gains height b h c here = elim (cases_eq c b) [
  | inl same ↦
      let at = here same in
      rw (le-ltb h height (omega arith), eq-eqb h height at, lt-ltb c (b + 1) (omega arith), le-ltb c b (omega arith), eq-eqb c b same) refl
  | inr ne ↦ elim (cases_lt c b) [
    | inl less ↦ rw (lt-ltb c (b + 1) (omega arith), lt-ltb c b less, ne_eqb c b ne) (or_none (nat_lt h height || (nat_eq h height && true)))
    | inr more ↦ rw (le-ltb c (b + 1) (omega arith), le-ltb c b more, ne_eqb c b ne) (or_none (nat_lt h height || (nat_eq h height && false)))
  ]
]
  where
    or_none : (x : Bool) → x ≡ (x || false)
    or_none true = refl
    or_none false = refl

-- one block was read
pub count_more : (notes : Notes) (height b nr : ℕ) → b < nr → (note_in notes b).height ≡ height
    → weigh (was_read notes height (b + 1)) (λ c. 1) nr ≡ weigh (was_read notes height b) (λ c. 1) nr + 1
count_more notes height b nr small at =
    more_weight (was_read notes height b) (was_read notes height (b + 1)) (λ c. 1) b nr small (test_here height b (note_in notes b).height at)
    (λ c. test_gains height b (note_in notes c).height c (λ same. ap (λ (d : ℕ). (note_in notes d).height) same ∙ at))

test_wider : (height a b h c : ℕ) → a ≤ b → test height a h c ≡ true → test height b h c ≡ true
test_wider height a b h c few e = elim (cases_lt c b) [
  | inl less ↦ rw (lt-ltb c b less) (wide (nat_lt h height) (nat_eq h height) (nat_lt c a) e)
  | inr more ↦ rw (le-ltb c b more) (rw (le-ltb c a (omega arith)) at e)
]
  where
    wide : (x y z : Bool) → (x || (y && z)) ≡ true → (x || (y && true)) ≡ true
    wide true y z e = refl
    wide false true z e = refl
    wide false false z e = e

pub count_grows : (notes : Notes) (height a b nr : ℕ) → a ≤ b → weigh (was_read notes height a) (λ c. 1) nr ≤ weigh (was_read notes height b) (λ c. 1) nr
count_grows notes height a b nr few =
    wider_weight (was_read notes height a) (was_read notes height b) (λ c. 1) nr (λ c. test_wider height a b (note_in notes c).height c few)

-- the next height
test_next : (height nr h c : ℕ) → c < nr → test (height + 1) 0 h c ≡ test height nr h c
test_next height nr h c small = elim (cases_lt h height) [
  | inl less ↦ rw (lt-ltb h (height + 1) (omega arith), lt-ltb h height less) refl
  | inr more ↦ elim (cases_eq h height) [
    | inl same ↦ rw (lt-ltb h (height + 1) (omega arith), le-ltb h height more, eq-eqb h height same, lt-ltb c nr small) refl
    | inr ne ↦ rw (le-ltb h (height + 1) (omega arith), le-ltb h height more, ne_eqb h height ne, le-ltb c 0 (omega arith)) (none (nat_eq h (height + 1)))
  ]
]
  where
    none : (x : Bool) → (false || (x && false)) ≡ (false || (false && nat_lt c nr))
    none true = refl
    none false = refl

pub count_next : (notes : Notes) (height before nr : ℕ) → nr ≤ before
    → weigh (was_read notes (height + 1) 0) (λ c. 1) nr ≡ weigh (was_read notes height before) (λ c. 1) nr
count_next notes height before nr all =
    same_weight (was_read notes height before) (was_read notes (height + 1) 0) (λ c. 1) nr (λ c small. test_next height before (note_in notes c).height c (omega arith))

pub count_most : (notes : Notes) (height before nr : ℕ) → weigh (was_read notes height before) (λ c. 1) nr ≤ nr
count_most notes height before nr = ones_below (was_read notes height before) nr
