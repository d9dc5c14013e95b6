-- After the walk and settling, a note is that of the keys of the entries below its node.
use Rattle.std.proofs.Common.{◌≡◌, ℕ, ◌<◌, ◌≤◌, true, false, List, length, sym, ap, subst, ◌∙◌, arith, zero, suc, ◌+◌, max, Bool, not, nat_eq, [], ◌∷◌, Option, Some, None, refl, eq-eqb, inl, inr, ◌++◌, map}
use Rattle.std.proofs.lemmas.Bool.{and_from, and_parts, eqb-true, or_left, cases_Bool}
use Rattle.std.specs.List.{range_with_len, flat_map}
use Rattle.std.specs.Str.{bytes_eq}
use Rattle.std.proofs.lemmas.Slice.Eq.{bytes_eq-Decides}
use Rattle.std.proofs.lemmas.List.FromFn.{length-range_with_len}
use Rattle.std.proofs.lemmas.List.{append-nil}
use Rattle.pd_kinds.specs.Graph.{Graph, pair, block_of, role_of, is_deep, keys_below, block_at}
use Rattle.pd_kinds.specs.Layout.{Layout, Tree, tree, is_tree_layout, graph_of}
use Rattle.pd_kinds.specs.Lawful.{IsLawful}
use Rattle.pd_kinds.specs.Stages.{IsReached}
use Rattle.pd_kinds.specs.Trees.{entries_below, keys_of}
use Rattle.pd_kinds.specs.Whole.{is_not_counting}
use Rattle.pd_kinds.proofs.NumberLemmas.{same_test}
use Rattle.pd_kinds.specs.Node.{Entry, entry_count, is_inner_node, key_at, value_at, child_at}
use Rattle.pd_graph.specs.declared.audit.Audit.{Audit}
use Rattle.pd_graph.specs.declared.notes.Note.{Note}
use Rattle.pd_graph.specs.Audit.{blocks_of, note_at, KeepsButRules}
use Rattle.pd_graph.proofs.BitLemmas.{pair_block, pair_role}
use Rattle.pd_settle.specs.Notes.{keys_note, greatest_of, higher}
use Rattle.pd_settle.specs.Settled.{is_node}
use Rattle.pd_settle.proofs.NodeLemmas.{clean_by}
use Rattle.pd_settle.proofs.EntryLemmas.{keys_are_of_entries, never_deep}
use Rattle.pd_settle.proofs.ChainLemmas.{greatest_from, greatest_none}
use Rattle.pd_tree.specs.Search.{IsTreeRole, items_within, AreFrom, AreBelow, KeysAscend, IsSearchable, IsSoundTree}
use Rattle.pd_tree.specs.Cursor.{item_of}
use Rattle.pd_tree.proofs.OnceLemmas.{entries_are, searchable_is}
use Rattle.pd_tree.proofs.SearchLemmas.{inner_is, leaf_is}
use Rattle.pd_check.specs.Known.{IsNoteOf, IsWellSettled, IsKnown, IsUp, counts_to}

-- a reached block in a tree's role is a node
tree_node : (roles nr data_blocks : ℕ) (layout : ℕ → Layout) (t : Tree) (image : List (List ℕ)) (b role : ℕ) → layout role ≡ tree t
    → IsReached (graph_of roles nr data_blocks layout) image b role → is_node (graph_of roles nr data_blocks layout) image (pair b role) ≡ true
unfolding graph_of
tree_node roles nr data_blocks layout t image b role is reached =
    and_from _ (is_tree_layout (layout (role_of (pair b role)))) reached.found
    (ap (λ (q : ℕ). is_tree_layout (layout q)) (pair_role b role reached.within) ∙ ap is_tree_layout is)

-- in a table of layouts
noted : (roles nr data_blocks : ℕ) (layout : ℕ → Layout) (t : Tree) (image : List (List ℕ)) (audit : Audit) (b role : ℕ) → layout role ≡ tree t
    → IsLawful (graph_of roles nr data_blocks layout) → IsWellSettled (graph_of roles nr data_blocks layout) image audit
    → IsReached (graph_of roles nr data_blocks layout) image b role
    → IsNoteOf (keys_of (entries_below (graph_of roles nr data_blocks layout) image t.size role b)) (note_at audit b)
noted roles nr data_blocks layout t image audit b role is lawful well reached =
    let graph = graph_of roles nr data_blocks layout in
    let node = tree_node roles nr data_blocks layout t image b role is reached in
    let shallow = never_deep graph image lawful (clean_by graph image well.walked) well.in_order (pair b role) node in
    let same = keys_are_of_entries roles nr data_blocks layout t image role reached.within is lawful well.walked b reached.found in
    let here = pair_block b role reached.within in
    let note : note_at audit b ≡ keys_note (keys_below graph image (pair b role)) (note_at audit b).height (note_at audit b).in_range =
    subst (λ (c : ℕ). note_at audit c ≡ keys_note (keys_below graph image (pair b role)) (note_at audit c).height (note_at audit c).in_range) here (well.settled.notes (pair b role) node shallow) in
    let number : (note_at audit b).below ≡ length (keys_below graph image (pair b role)) =
    subst (λ (c : ℕ). (note_at audit c).below ≡ length (keys_below graph image (pair b role))) here (well.settled.exact well.in_order (pair b role) node) in
    subst (λ (keys : List ℕ). IsNoteOf keys (note_at audit b)) same
    (record { least = ap (λ (n : Note). n.least) note; greatest = ap (λ (n : Note). n.greatest) note; below = number })

-- in any format with such a role
noted_role : (graph : Graph) (image : List (List ℕ)) (audit : Audit) (b role size : ℕ) → IsLawful graph → IsWellSettled graph image audit
    → IsTreeRole graph role size → IsReached graph image b role → IsNoteOf (keys_of (entries_below graph image size role b)) (note_at audit b)
noted_role graph image audit b role size lawful well is reached =
    subst (λ (g : Graph). IsLawful g → IsWellSettled g image audit → IsReached g image b role → IsNoteOf (keys_of (entries_below g image size role b)) (note_at audit b)) (sym is.is)
    (subst (λ (s : ℕ). IsLawful (graph_of is.roles is.nr is.data_blocks is.layout) → IsWellSettled (graph_of is.roles is.nr is.data_blocks is.layout) image audit
    → IsReached (graph_of is.roles is.nr is.data_blocks is.layout) image b role
    → IsNoteOf (keys_of (entries_below (graph_of is.roles is.nr is.data_blocks is.layout) image s role b)) (note_at audit b)) is.value_size
    (noted is.roles is.nr is.data_blocks is.layout is.nodes image audit b role is.at))
    lawful well reached

-- its node is one that was settled, and not deep
record IsShallow (graph : Graph) (image : List (List ℕ)) (b role : ℕ) : Type 0 where
  node : is_node graph image (pair b role) ≡ true
  not_deep : is_deep graph image (pair b role) ≡ false

shallow_in : (graph : Graph) (image : List (List ℕ)) (audit : Audit) (b role size : ℕ) → IsLawful graph → IsWellSettled graph image audit
    → IsTreeRole graph role size → IsReached graph image b role → IsShallow graph image b role
shallow_in graph image audit b role size lawful well is reached =
    let node : is_node graph image (pair b role) ≡ true =
    subst (λ (g : Graph). IsReached g image b role → is_node g image (pair b role) ≡ true) (sym is.is)
    (tree_node is.roles is.nr is.data_blocks is.layout is.nodes image b role is.at) reached in
    record { node = node; not_deep = never_deep graph image lawful (clean_by graph image well.walked) well.in_order (pair b role) node }

-- no block is reached in two roles
alone_in : (graph : Graph) (image : List (List ℕ)) (audit : Audit) (b role other : ℕ) → IsWellSettled graph image audit
    → IsReached graph image b role → IsReached graph image b other → role ≡ other
alone_in graph image audit b role other well reached there =
    let block = there.block in
    let few = reached.within in
    let few_too = there.within in
    let same = (clean_by graph image well.walked).alone (pair b role) (pair b other) (omega arith) reached.found there.found (omega arith) in
    omega arith

pub known_by : (graph : Graph) (image : List (List ℕ)) (audit : Audit) → IsLawful graph → blocks_of audit ≡ graph.nr → IsWellSettled graph image audit → IsKnown graph image audit
known_by graph image audit lawful number well = record {
  lawful = lawful;
  number = number;
  roles = well.roles;
  counts = well.counts;
  alone = λ b role other reached there. alone_in graph image audit b role other well reached there;
  notes = λ b role size is reached. noted_role graph image audit b role size lawful well is reached;
  low = λ b role size is reached.
      let shallow = shallow_in graph image audit b role size lawful well is reached in
      subst (λ (c : ℕ). (note_at audit c).height ≤ 64) (pair_block b role reached.within) (well.settled.low (pair b role) shallow.node shallow.not_deep);
  above = λ b c role size is reached child.
      let shallow = shallow_in graph image audit b role size lawful well is reached in
      subst (λ (d : ℕ). (note_at audit c).height < (note_at audit d).height) (pair_block b role reached.within)
      (subst (λ (d : ℕ). (note_at audit d).height < (note_at audit (block_of (pair b role))).height) (pair_block c role reached.within)
      (well.settled.above (pair b role) (pair c role) shallow.node shallow.not_deep child));
}

-- what an audit knows stays while rules are added
pub known_stays : (graph : Graph) (image : List (List ℕ)) (old new : Audit) → KeepsButRules old new → IsKnown graph image old → IsKnown graph image new
known_stays graph image old new kept known = record {
  lawful = known.lawful;
  number = kept.number ∙ known.number;
  alone = known.alone;
  roles = λ b role within small. rw (kept.roles b) (known.roles b role within small);
  counts = λ b within. kept.counts b ∙ known.counts b within;
  notes = λ b role size is reached. rw (kept.notes b) (known.notes b role size is reached);
  low = λ b role size is reached.
      let same = height_stays b in
      let few = known.low b role size is reached in
      omega arith;
  above = λ b c role size is reached child.
      let same = height_stays b in
      let same_child = height_stays c in
      let more = known.above b c role size is reached child in
      omega arith;
}
  where
    height_stays : (b : ℕ) → (note_at new b).height ≡ (note_at old b).height
    height_stays b = ap (λ (n : Note). n.height) (kept.notes b)

-- Keys that ascend count from 0 exactly where their greatest says so.

-- two numbers, of which the second is above the first
max_above : (a b : ℕ) → a ≤ b → max a b ≡ b
max_above a b less = omega arith

-- the greatest key stands behind the first
greatest_behind : (key next greatest : ℕ) (keys : List ℕ) (best : Option ℕ) → IsUp (suc key) (next ∷ keys) → greatest_of (next ∷ keys) ≡ best
    → higher (Some key) best ≡ Some greatest → best ≡ Some greatest
greatest_behind key next greatest keys None up is e = absurd (let none = greatest_none (next ∷ keys) is in cc)
greatest_behind key next greatest keys (Some best) up is e =
    let above = (greatest_from (next ∷ keys) best is).above next (or_left (nat_eq next next) _ (eq-eqb next next refl)) in
    let first = up.0 in
    ap (λ (n : ℕ). Some n) (sym (max_above key best (omega arith))) ∙ e

-- keys that ascend have at least as much room as there are of them
long : (low greatest : ℕ) (keys : List ℕ) → IsUp low keys → greatest_of keys ≡ Some greatest → length keys + low ≤ greatest + 1
long low greatest [] up e = absurd (cc)
long low greatest (key ∷ []) up e = let first = up.0 in let same : key ≡ greatest = cc in omega arith
long low greatest (key ∷ next ∷ keys) up e =
    let first = up.0 in
    let rest = long (suc key) greatest (next ∷ keys) up.1 (greatest_behind key next greatest keys (greatest_of (next ∷ keys)) up.1 refl e) in
    omega arith

-- and where there is no more room, they are all numbers of it
full : (low greatest : ℕ) (keys : List ℕ) → IsUp low keys → greatest_of keys ≡ Some greatest → greatest + 1 ≡ low + length keys → keys ≡ range_with_len low (length keys)
full low greatest [] up e none = refl
full low greatest (key ∷ []) up e none =
    let first = up.0 in
    let same : key ≡ greatest = cc in
    let here : key ≡ low = omega arith in
    ap (λ (k : ℕ). k ∷ []) here
full low greatest (key ∷ next ∷ keys) up e none =
    let first = up.0 in
    let behind = greatest_behind key next greatest keys (greatest_of (next ∷ keys)) up.1 refl e in
    let rest = long (suc key) greatest (next ∷ keys) up.1 behind in
    let here : key ≡ low = omega arith in
    let more : suc key ≡ low + 1 = omega arith in
    ap (λ (k : ℕ). k ∷ next ∷ keys) here
    ∙ ap (λ (ks : List ℕ). low ∷ ks) (full (suc key) greatest (next ∷ keys) up.1 behind (omega arith) ∙ ap (λ (k : ℕ). range_with_len k (suc (length keys))) more)

-- the greatest of a row of numbers is the last
greatest_of_row : (n a : ℕ) → greatest_of (range_with_len a (suc n)) ≡ Some (a + n)
greatest_of_row zero a = ap (λ (n : ℕ). Some n) (omega arith)
greatest_of_row (suc n) a =
    ap (λ (best : Option ℕ). higher (Some a) best) (greatest_of_row n (a + 1)) ∙ ap (λ (n : ℕ). Some n) (omega arith)

-- by the greatest key
row_by : (keys : List ℕ) (n : ℕ) (greatest : Option ℕ) → IsUp 0 keys → greatest_of keys ≡ greatest → counts_to greatest (length keys) n ≡ true → keys ≡ range_with_len 0 n
row_by keys n None up is e = greatest_none keys is ∙ ap (λ (k : ℕ). range_with_len 0 k) (sym (eqb-true n 0 e))
row_by keys n (Some greatest) up is e =
    let parts = and_parts (nat_eq (length keys) n) (nat_eq (greatest + 1) n) e in
    let number = eqb-true (length keys) n parts.0 in
    let last = eqb-true (greatest + 1) n parts.1 in
    full 0 greatest keys up is (omega arith) ∙ ap (λ (k : ℕ). range_with_len 0 k) number

by_row : (n : ℕ) → counts_to (greatest_of (range_with_len 0 n)) (length (range_with_len 0 n)) n ≡ true
by_row zero = refl
by_row (suc n) =
    rw (greatest_of_row n 0, length-range_with_len 0 (suc n))
    (and_from (nat_eq (suc n) (suc n)) _ (eq-eqb (suc n) (suc n) refl) (eq-eqb (0 + n + 1) (suc n) (omega arith)))

twice : (b : Bool) → not (not b) ≡ b
twice true = refl
twice false = refl

pub counts : (keys : List ℕ) (n : ℕ) → IsUp 0 keys → counts_to (greatest_of keys) (length keys) n ≡ not (is_not_counting keys n)
counts keys n up =
    same_test _ _
    (λ e. (bytes_eq-Decides keys (range_with_len 0 n)).1 (row_by keys n (greatest_of keys) up refl e))
    (λ e. let same = (bytes_eq-Decides keys (range_with_len 0 n)).0 e in rw same (by_row n))
    ∙ sym (twice (bytes_eq keys (range_with_len 0 n)))

-- The keys of a tree that can be searched ascend.

-- a lower start allows more
pub up_lower : (a b : ℕ) (keys : List ℕ) → a ≤ b → IsUp b keys → IsUp a keys
up_lower a b [] less up = tt
up_lower a b (key ∷ keys) less up = let first = up.0 in (omega arith, up.1)

-- the keys of entries
abbrev pub firsts : {X : Type 0} → List (ℕ × X) → List ℕ
firsts {X} items = map (λ (item : ℕ × X). item.0) items

module _ {X : Type 0} where
  -- another start, where no key is below it
  up_from : (low : ℕ) (items : List (ℕ × X)) → AreFrom low items → IsUp 0 (firsts items) → IsUp low (firsts items)
  up_from low [] from up = tt
  up_from low (item ∷ items) from up = (from.0, up.1)

  -- entries in a row
  up_append : (low high : ℕ) (xs ys : List (ℕ × X)) → low ≤ high → IsUp low (firsts xs) → AreBelow high xs → IsUp high (firsts ys) → IsUp low (firsts (xs ++ ys))
  up_append low high [] ys less up most later = up_lower low high (firsts ys) less later
  up_append low high (x ∷ xs) ys less up most later =
      let first = most.0 in
      (up.0, up_append (suc x.0) high xs ys (omega arith) up.1 most.1 later)

  -- lists of a row: each ascends, from its key on and below the next one
  record IsRow (list : ℕ → List (ℕ × X)) (low : ℕ → ℕ) (end i : ℕ) : Type 0 where
    up : IsUp 0 (firsts (list i))
    from : AreFrom (low i) (list i)
    most : i + 1 < end → AreBelow (low (i + 1)) (list i)
    next : i + 1 < end → low i ≤ low (i + 1)

  rows_up : (list : ℕ → List (ℕ × X)) (low : ℕ → ℕ) (end start n a : ℕ) → a + n ≡ end → (0 < n → start ≤ low a)
      → ((i : ℕ) → i < end → IsRow list low end i) → IsUp start (firsts (flat_map list (range_with_len a n)))
  rows_up list low end start zero a ends least rows = tt
  rows_up list low end start (suc zero) a ends least rows =
      let row = rows a (omega arith) in
      rw (append-nil (list a)) (up_lower start (low a) (firsts (list a)) (least (omega arith)) (up_from (low a) (list a) row.from row.up))
  rows_up list low end start (suc (suc n)) a ends least rows =
      let row = rows a (omega arith) in
      let order = row.next (omega arith) in
      let first = least (omega arith) in
      up_append start (low (a + 1)) (list a) (flat_map list (range_with_len (a + 1) (suc n))) (omega arith)
      (up_lower start (low a) (firsts (list a)) first (up_from (low a) (list a) row.from row.up)) (row.most (omega arith))
      (rows_up list low end (low (a + 1)) (suc n) (a + 1) (omega arith) (λ some. omega arith) rows)

  module _ (size : ℕ) (decoded : ℕ → X) (image : List (List ℕ)) where
    -- so the entries below a node, to any depth
    pub items_up : (j b : ℕ) → IsSearchable size decoded image j b → IsUp 0 (firsts (items_within size decoded image j b))
    unfolding IsSearchable items_within KeysAscend
    items_up zero b searchable = tt
    items_up (suc j) b searchable =
        let block = block_at image b in
        let count = entry_count size block in
        elim (cases_Bool (is_inner_node block)) [
          | inl inner ↦
              rw (inner_is size decoded image j b inner)
              (rows_up (λ i. items_within size decoded image j (child_at block i)) (key_at block) count 0 count 0 (omega arith) (λ some. omega arith)
              (λ i within.
              let kid = searchable.1 i inner within in
              record {
                up = items_up j (child_at block i) kid.2;
                from = kid.0;
                most = kid.1;
                next = λ more. let less = searchable.0 i (i + 1) (omega arith) more in omega arith;
              }))
          | inr leaf ↦
              rw (leaf_is size decoded image j b leaf)
              (rows_up (λ i. (key_at block i, decoded (value_at size block i)) ∷ []) (key_at block) count 0 count 0 (omega arith) (λ some. omega arith)
              (λ i within. record {
                up = (omega arith, tt);
                from = (omega arith, tt);
                most = λ more. (searchable.0 i (i + 1) (omega arith) more, tt);
                next = λ more. let less = searchable.0 i (i + 1) (omega arith) more in omega arith;
              }))
        ]

-- the keys of entries as a cursor gives them
pub firsts-items : {X : Type 0} → (decoded : ℕ → X) (entries : List Entry) → firsts (map (item_of decoded) entries) ≡ keys_of entries
firsts-items decoded [] = refl
firsts-items decoded (entry ∷ entries) = ap (λ (keys : List ℕ). entry.key ∷ keys) (firsts-items decoded entries)

-- so the keys of the entries of a sound tree
pub keys_up : (graph : Graph) (image : List (List ℕ)) (b role size : ℕ) → IsTreeRole graph role size → IsSoundTree graph image (pair b role)
    → IsUp 0 (keys_of (entries_below graph image size role b))
unfolding items_within
keys_up graph image b role size is sound =
    let same = entries_are graph image b role size is sound (λ (v : ℕ). v) in
    subst (IsUp 0) (ap firsts same ∙ firsts-items (λ (v : ℕ). v) (entries_below graph image size role b))
    (items_up size (λ (v : ℕ). v) image 64 b (searchable_is graph image b role size is sound (λ (v : ℕ). v)))
