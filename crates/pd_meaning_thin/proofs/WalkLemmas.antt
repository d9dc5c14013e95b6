-- The walk over a tree of which some nodes were met before.
use Rattle.std.proofs.Common.{◌≡◌, ℕ, zero, suc, ◌+◌, ◌-◌, ◌<◌, ◌≤◌, Bool, true, false, nat_eq, List, [], ◌∷◌, ◌++◌, length, refl, sym, ap, ◌∙◌, arith, inl, inr, Option, Some, None, IfSome}
use Rattle.std.specs.List.{AllByRecursion, list_any, slice_set}
use Rattle.std.proofs.lemmas.Bool.{cases_eq, ne_eqb}
use Rattle.std.proofs.lemmas.List.{append-nil, get_or-set_other, get_or-set_same, length-set, append_assoc}
use Rattle.std.proofs.lemmas.List.Concat.{flat_map-append}
use Rattle.pd_kinds.specs.Graph.{block_at}
use Rattle.pd_kinds.specs.Node.{is_inner_node}
use Rattle.pd_kinds.proofs.KindsListLemmas.{all_first, all_last}
use Rattle.pd_kinds.proofs.ListLemmas.{all_append}
use Rattle.pd_value.specs.declared.thin.Root.{Root}
use Rattle.pd_tree.specs.Below.{nodes_below}
use Rattle.pd_tree.specs.Search.{HasAtMostLevels, node_kids}
use Rattle.pd_tree.proofs.StackLemmas.{kids_leaf}
use Rattle.pd_meaning_thin.specs.declared.marks.Mark.{Mark}
use Rattle.pd_meaning_thin.specs.declared.marks.Mark.TheVariants.{Unseen}
use Rattle.pd_meaning_thin.specs.Walk.{IsProperTree, IsMet, waiting_after, roots_of, AreWalked}
use Rattle.pd_meaning_thin.specs.Marks.{AreMarked, is_followed, mark_after, mark_at, mark_of, nodes_of, occurs}
use Rattle.pd_meaning_thin.proofs.OccursLemmas.{levels_below, nodes_are, nodes_through, after_is, passed_twice, same_often, Among, among_there, holds_among, not_among, occurs-append, occurs-cons, occurs-itself, occurs-none, occurs-other, occurs_once, occurs_there}

-- and two facts at once
pub both_some : {X : Type 0} → (P Q : X → Type 0) (o : Option X) → IfSome o P → IfSome o Q → IfSome o (λ x. P x × Q x)
both_some P Q None p q = tt
both_some P Q (Some x) p q = (p, q)

module _ (image : List (List ℕ)) where
  -- the nodes of some trees, and of others after them
  nodes-append : (bs cs : List ℕ) → nodes_of image (bs ++ cs) ≡ nodes_of image bs ++ nodes_of image cs
  unfolding nodes_of
  nodes-append bs cs = flat_map-append (nodes_below 8 image 63) bs cs

  nodes-single : (b : ℕ) → nodes_of image (b ∷ []) ≡ nodes_below 8 image 63 b
  unfolding nodes_of
  nodes-single b = append-nil (nodes_below 8 image 63 b)

  nodes-none : nodes_of image [] ≡ []
  unfolding nodes_of
  nodes-none = refl

  nodes-cons : (b : ℕ) (bs : List ℕ) → nodes_of image (b ∷ bs) ≡ nodes_below 8 image 63 b ++ nodes_of image bs
  unfolding nodes_of
  nodes-cons b bs = refl

  -- how often a node is in them
  visits-append : (x : ℕ) (bs cs : List ℕ) → occurs x (nodes_of image (bs ++ cs)) ≡ occurs x (nodes_of image bs) + occurs x (nodes_of image cs)
  visits-append x bs cs = rw (nodes-append bs cs) (occurs-append x (nodes_of image bs) (nodes_of image cs))

  visits-more : (x : ℕ) (bs : List ℕ) (b : ℕ) → occurs x (nodes_of image (bs ++ b ∷ [])) ≡ occurs x (nodes_of image bs) + occurs x (nodes_below 8 image 63 b)
  visits-more x bs b = rw (visits-append x bs (b ∷ []), nodes-single b) refl

  visits-none : (x : ℕ) → occurs x (nodes_of image []) ≡ 0
  visits-none x = rw nodes-none (occurs-none x)

  -- where trees are proper, a node is in no fewer of them than one that it stands below
  below_as_often : (blocks b x : ℕ) (roots : List ℕ) → AllByRecursion (IsProperTree image blocks) roots → Among x (nodes_below 8 image 63 b)
      → occurs b (nodes_of image roots) ≤ occurs x (nodes_of image roots)
  below_as_often blocks b x [] proper below = rw (visits-none b) (omega arith)
  below_as_often blocks b x (root ∷ roots) proper below =
      let rest = below_as_often blocks b x roots proper.1 below in
      let once = occurs_once b (nodes_below 8 image 63 root) proper.0.once in
      rw (nodes-cons root roots, occurs-append b (nodes_below 8 image 63 root) (nodes_of image roots), occurs-append x (nodes_below 8 image 63 root) (nodes_of image roots))
      (in_tree (occurs b (nodes_below 8 image 63 root)) (occurs x (nodes_below 8 image 63 root)) (occurs b (nodes_of image roots)) (occurs x (nodes_of image roots)) once
      (λ some. occurs_there x (nodes_below 8 image 63 root) (nodes_through image root b x proper.0.levels (among_there b (nodes_below 8 image 63 root) some) below)) rest)
    where
      in_tree : (own_b own_x rest_b rest_x : ℕ) → own_b ≤ 1 → (1 ≤ own_b → 1 ≤ own_x) → rest_b ≤ rest_x → own_b + rest_b ≤ own_x + rest_x
      in_tree zero own_x rest_b rest_x once there rest = omega arith
      in_tree (suc n) own_x rest_b rest_x once there rest = let some = there (omega arith) in omega arith

  -- how often a node was met: in the trees before, and in this one but below the blocks that wait
  abbrev met : List ℕ → ℕ → List ℕ → ℕ → ℕ
  met before root waiting x = occurs x (nodes_of image before) + (occurs x (nodes_below 8 image 63 root) - occurs x (nodes_of image waiting))

  -- the walk over a tree after those before
  pub record IsWalking (before : List ℕ) (root : ℕ) (marks : List Mark) (waiting : List ℕ) : Type 0 where
    pub levels : AllByRecursion (HasAtMostLevels 8 image 64) waiting
    pub left : (x : ℕ) → occurs x (nodes_of image waiting) ≤ occurs x (nodes_below 8 image 63 root)
    pub marked : (x : ℕ) → x < length marks → mark_at marks x ≡ mark_of (block_at image x) (met before root waiting x)

  -- it begins at the root
  pub begins : (blocks : ℕ) (before : List ℕ) (root : ℕ) (marks : List Mark) → IsProperTree image blocks root → AreMarked image before marks → IsWalking before root marks (root ∷ [])
  unfolding AreMarked
  begins blocks before root marks proper marked = record {
    levels = (proper.levels, tt);
    left = λ x. rw (nodes-single root) (omega arith);
    marked = λ x within.
        let none : met before root (root ∷ []) x ≡ occurs x (nodes_of image before) = rw (nodes-single root) (omega arith) in
        marked x within ∙ ap (mark_of (block_at image x)) (sym none);
  }

  -- and ends where none waits
  pub ends : (before : List ℕ) (root : ℕ) (marks : List Mark) → IsWalking before root marks [] → AreMarked image (before ++ root ∷ []) marks
  unfolding AreMarked
  ends before root marks walking = λ x within.
      let none = visits-none x in
      let all : met before root [] x ≡ occurs x (nodes_of image (before ++ root ∷ [])) = rw (visits-more x before root) (omega arith) in
      walking.marked x within ∙ ap (mark_of (block_at image x)) all

  module _ (blocks : ℕ) (before : List ℕ) (root : ℕ) (proper : AllByRecursion (IsProperTree image blocks) before) (tree : IsProperTree image blocks root)
      (marks : List Mark) (number : length marks ≡ blocks) (waiting : List ℕ) (b : ℕ) (walking : IsWalking before root marks (waiting ++ b ∷ [])) where
    abbrev block : List ℕ
    block = block_at image b

    abbrev kids : List ℕ
    kids = node_kids 8 image b

    abbrev tree_nodes : List ℕ
    tree_nodes = nodes_below 8 image 63 root

    abbrev new : List Mark
    new = slice_set marks b (mark_after (mark_at marks b) (block_at image b))

    -- the block that was taken is a node of the tree, and isn't met again in it
    levels : HasAtMostLevels 8 image 64 b
    levels = (all_last (HasAtMostLevels 8 image 64) waiting (b ∷ []) walking.levels).0

    visits-own : (x : ℕ) → occurs x (nodes_below 8 image 63 b) ≡ occurs x (b ∷ nodes_of image kids)
    visits-own x = rw (nodes_are image b levels) refl

    record IsTaken : Type 0 where
      pub in_tree : occurs b tree_nodes ≡ 1
      pub waits_once : occurs b (nodes_of image (waiting ++ b ∷ [])) ≡ 1
      pub not_waiting : occurs b (nodes_of image waiting) ≡ 0
      pub not_below : occurs b (nodes_of image kids) ≡ 0

    taken : IsTaken
    taken =
        let left = walking.left b in
        let more = visits-more b waiting b in
        let own = visits-own b ∙ occurs-itself b (nodes_of image kids) in
        let once = occurs_once b tree_nodes tree.once in
        record { in_tree = omega arith; waits_once = omega arith; not_waiting = omega arith; not_below = omega arith }

    pub within : b < length marks
    within =
        let in_tree = taken.in_tree in
        let below : b < blocks = holds_among (λ c. c < blocks) b tree_nodes tree.within (among_there b tree_nodes (omega arith)) in
        omega arith

    -- the mark of the block, before and after
    was : mark_at marks b ≡ mark_of block (met before root (waiting ++ b ∷ []) b)
    was = walking.marked b within

    is : mark_at new b ≡ mark_of block (suc (met before root (waiting ++ b ∷ []) b))
    is =
        get_or-set_same marks b (mark_after (mark_at marks b) block) Unseen within
        ∙ (ap (λ mark. mark_after mark block) was ∙ after_is block (met before root (waiting ++ b ∷ []) b))

    -- and of another one
    stays : (x : ℕ) → (x ≡ b → ⊥) → x < length new → mark_at new x ≡ mark_of (block_at image x) (met before root (waiting ++ b ∷ []) x)
    stays x other inside =
        get_or-set_other marks b x (mark_after (mark_at marks b) block) Unseen other
        ∙ walking.marked x (rw (length-set marks b (mark_after (mark_at marks b) block)) at inside)

    -- where its children wait, or it has none
    module _ (waits : List ℕ) (waits_levels : AllByRecursion (HasAtMostLevels 8 image 64) waits)
        (visits : (x : ℕ) → occurs x (nodes_of image waits) ≡ occurs x (nodes_of image waiting) + occurs x (nodes_of image kids)) where
      fewer : (x : ℕ) → occurs x (nodes_of image waits) ≤ occurs x tree_nodes
      fewer x =
          let left = walking.left x in
          let more = visits-more x waiting b in
          let own = visits-own x ∙ occurs-cons x b (nodes_of image kids) in
          let here = visits x in
          omega arith

      marked_itself : mark_at new b ≡ mark_of block (met before root waits b)
      marked_itself =
          let in_tree = taken.in_tree in
          let waits_once = taken.waits_once in
          let not_waiting = taken.not_waiting in
          let not_below = taken.not_below in
          let here = visits b in
          let one_more : suc (met before root (waiting ++ b ∷ []) b) ≡ met before root waits b = omega arith in
          is ∙ ap (mark_of block) one_more

      marked_other : (x : ℕ) → (x ≡ b → ⊥) → x < length new → mark_at new x ≡ mark_of (block_at image x) (met before root waits x)
      marked_other x other inside =
          let more = visits-more x waiting b in
          let own = visits-own x ∙ occurs-other x b (nodes_of image kids) (ne_eqb b x (λ same. other (sym same))) in
          let here = visits x in
          let same : met before root (waiting ++ b ∷ []) x ≡ met before root waits x = omega arith in
          stays x other inside ∙ ap (mark_of (block_at image x)) same

      pub goes_on : IsWalking before root new waits
      goes_on = record {
        levels = waits_levels;
        left = fewer;
        marked = λ x inside. elim (cases_eq x b) [
          | inl same ↦ rw same marked_itself
          | inr other ↦ marked_other x other inside
        ];
      }

    -- where it was met twice before, and so was all that is below it
    module _ (twice : 2 ≤ met before root (waiting ++ b ∷ []) b) where
      seen : 2 ≤ occurs b (nodes_of image before)
      seen =
          let in_tree = taken.in_tree in
          let waits_once = taken.waits_once in
          omega arith

      seen_below : (x : ℕ) → Among x (nodes_below 8 image 63 b) → 2 ≤ occurs x (nodes_of image before)
      seen_below x below =
          let first = seen in
          let more = below_as_often blocks b x before proper below in
          omega arith

      shared_itself : mark_at new b ≡ mark_of block (met before root waiting b)
      shared_itself =
          let first = seen in
          is ∙ same_often block (suc (met before root (waiting ++ b ∷ []) b)) (met before root waiting b) (omega arith) (omega arith)

      shared_other : (below : Bool) (x : ℕ) → list_any (λ c. nat_eq c x) (nodes_below 8 image 63 b) ≡ below → (x ≡ b → ⊥) → x < length new
          → mark_at new x ≡ mark_of (block_at image x) (met before root waiting x)
      shared_other true x there other inside =
          let often = seen_below x there in
          stays x other inside ∙ same_often (block_at image x) (met before root (waiting ++ b ∷ []) x) (met before root waiting x) (omega arith) (omega arith)
      shared_other false x none other inside =
          let more = visits-more x waiting b in
          let no : occurs x (nodes_below 8 image 63 b) ≡ 0 = not_among x (nodes_below 8 image 63 b) none in
          let same : met before root (waiting ++ b ∷ []) x ≡ met before root waiting x = omega arith in
          stays x other inside ∙ ap (mark_of (block_at image x)) same

      fewer_wait : (x : ℕ) → occurs x (nodes_of image waiting) ≤ occurs x tree_nodes
      fewer_wait x =
          let left = walking.left x in
          let more = visits-more x waiting b in
          omega arith

      pub passes : IsWalking before root new waiting
      passes = record {
        levels = all_first (HasAtMostLevels 8 image 64) waiting (b ∷ []) walking.levels;
        left = fewer_wait;
        marked = λ x inside. elim (cases_eq x b) [
          | inl same ↦ rw same shared_itself
          | inr other ↦ shared_other (list_any (λ c. nat_eq c x) (nodes_below 8 image 63 b)) x refl other inside
        ];
      }

    -- so it goes on
    step_by : (followed inner : Bool) → is_followed (mark_at marks b) ≡ followed → is_inner_node block ≡ inner → IsWalking before root new (waiting_after followed block waiting)
    step_by true inner followed is_inner =
        goes_on (waiting ++ kids) (all_append (HasAtMostLevels 8 image 64) waiting kids (all_first (HasAtMostLevels 8 image 64) waiting (b ∷ []) walking.levels) (levels_below image b levels))
        (λ x. visits-append x waiting kids)
    step_by false true passed inner = passes (passed_twice block (met before root (waiting ++ b ∷ []) b) inner (rw was at passed))
    step_by false false passed leaf =
        goes_on waiting (all_first (HasAtMostLevels 8 image 64) waiting (b ∷ []) walking.levels)
        (λ x. rw (kids_leaf 8 block 0 leaf, visits-none x) (omega arith))

    pub step : (now : List Mark) (waits : List ℕ) → IsMet image b marks now waiting waits → IsWalking before root now waits
    step now waits is_met =
        rw (is_met.marks, is_met.waiting) (step_by (is_followed (mark_at marks b)) (is_inner_node block) refl refl)

-- The walk over the trees of devices, one after another.

-- of these roots those before the ones that are left were walked
pub record AreWalkedTo (image : List (List ℕ)) (all left : List ℕ) (old new : List Mark) : Type 0 where
  pub front : List ℕ
  pub split : front ++ left ≡ all
  pub walked : AreWalked image front old new

-- one more
pub one_walked : (image : List (List ℕ)) (all left : List ℕ) (root : ℕ) (old marks new : List Mark) → length marks ≡ length old
    → AreWalkedTo image all (root ∷ left) old marks → AreWalked image (root ∷ []) marks new → AreWalkedTo image all left old new
one_walked image all left root old marks new same to more = record {
  front = to.front ++ root ∷ [];
  split = append_assoc to.front (root ∷ []) left ∙ to.split;
  walked = λ before proper trees marked.
      let first = all_first (IsProperTree image (length old)) to.front (root ∷ []) trees in
      let last = all_last (IsProperTree image (length old)) to.front (root ∷ []) trees in
      let so_far = to.walked before proper first marked in
      rw (sym (append_assoc before to.front (root ∷ [])))
      (more (before ++ to.front) (rw same (all_append (IsProperTree image (length old)) before to.front proper first)) (rw same last) so_far);
}

-- so with the next entry of those that are left
pub next_walked : (image : List (List ℕ)) (all : List ℕ) (items rest : List (ℕ × Root)) (key : ℕ) (root : Root) (old marks new : List Mark) → length marks ≡ length old
    → items ≡ (key, root) ∷ rest → AreWalkedTo image all (roots_of items) old marks → AreWalked image (root.0 ∷ []) marks new → AreWalkedTo image all (roots_of rest) old new
next_walked image all items rest key root old marks new same next to more = one_walked image all (roots_of rest) root.0 old marks new same (rw next at to) more
