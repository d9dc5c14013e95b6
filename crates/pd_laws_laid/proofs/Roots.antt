-- What stands below the root of a tree, by what the graph sees of its nodes.
use Rattle.std.proofs.Common.{◌≡◌, inl, inr, ℕ, zero, suc, ◌+◌, ◌^◌, ◌<◌, ◌≤◌, true, false, List, [], ◌∷◌, ◌++◌, length, map, refl, sym, ◌∙◌, ap, arith, ◌-◌, ap₂}
use Rattle.std.specs.List.{AllByRecursion, flat_map}
use Rattle.std.proofs.lemmas.Bool.{cases_lt, le-ltb}
use Rattle.std.proofs.lemmas.List.{map-append, append-nil}
use Rattle.pd_kinds.specs.Node.{Entry, is_ascending}
use Rattle.pd_kinds.specs.Graph.{Graph, pair, is_inner_pair, is_deep, is_in_range, keys_below, block_of, children, gathered}
use Rattle.pd_kinds.specs.Trees.{entries_below, keys_of}
use Rattle.pd_kinds.proofs.KindLemmas.{asc_left, asc_right, values_of}
use Rattle.pd_kinds.proofs.ListLemmas.{all_from}
use Rattle.pd_laid.specs.Laid.{first_key, first_place, heads, levels_above}
use Rattle.pd_laid.proofs.NeedLemmas.{length-heads}
use Rattle.pd_laid.proofs.Rows.{level_of, upper_of, levels_one, levels_more, root_of, root_more}
use Rattle.pd_laid.proofs.GatherLemmas.{same_each}
use Rattle.pd_laws_laid.specs.LaidOut.{AllFrom, IsRoot}
use Rattle.pd_laws_laid.proofs.ListLemmas.{from_front, from_back, from_both}
use Rattle.pd_laws_laid.proofs.Ascending.{BeginsWith}
use Rattle.pd_laws_laid.proofs.Levels.{IsInnerAt, IsLeafAt, IsSettled, AreSettled, AreLeast, below, leaf_settled, inner_settled, inner_in_range, inner_gathered, leaf_gathered}
use Rattle.pd_laws_laid.proofs.Rows.{all_parts, flat_joined, level_spread}

-- a node that isn't deep, and whose children are in range
pub record IsOrdered (graph : Graph) (image : List (List ℕ)) (role place : ℕ) : Type 0 where
  pub shallow : is_deep graph image (pair place role) ≡ false
  pub in_range : is_inner_pair graph image (pair place role) ≡ true → is_in_range graph image (pair place role) ≡ true

begins_front : (key : ℕ) (xs ys : List Entry) → BeginsWith key (keys_of xs) → BeginsWith key (keys_of (xs ++ ys))
begins_front key [] ys begins = absurd begins
begins_front key (x ∷ xs) ys begins = begins

module _ (graph : Graph) (image : List (List ℕ)) (size role : ℕ) where
  -- what stands below each of some entries within h inner edges, in a row
  abbrev pub all_below : ℕ → List Entry → List Entry
  all_below h entries = flat_map (λ (e : Entry). below graph image size role h e.value) entries

  -- a row names leaves: each entry has a leaf's place, and its least key
  abbrev pub AreLeavesAt : List Entry → List (List Entry) → Type 0
  AreLeavesAt [] [] = Unit {0}
  AreLeavesAt (e ∷ row) (g ∷ groups) = ((e.key ≡ first_key g) × IsLeafAt graph image size role e.value g) × AreLeavesAt row groups
  AreLeavesAt _ _ = ⊥

  pub leaves_both : (row more : List Entry) (groups others : List (List Entry)) → AreLeavesAt row groups → AreLeavesAt more others → AreLeavesAt (row ++ more) (groups ++ others)
  leaves_both [] more [] others front back = back
  leaves_both [] more (g ∷ groups) others front back = absurd front
  leaves_both (e ∷ row) more [] others front back = absurd front
  leaves_both (e ∷ row) more (g ∷ groups) others front back = (front.0, leaves_both row more groups others front.1 back)

  pub leaves_keys : (row : List Entry) (groups : List (List Entry)) → AreLeavesAt row groups → keys_of row ≡ map first_key groups
  leaves_keys [] [] at = refl
  leaves_keys [] (g ∷ groups) at = absurd at
  leaves_keys (e ∷ row) [] at = absurd at
  leaves_keys (e ∷ row) (g ∷ groups) at =
      ap (λ (key : ℕ). key ∷ keys_of row) at.0.0 ∙ ap (λ (rest : List ℕ). first_key g ∷ rest) (leaves_keys row groups at.1)

  -- leaves are settled
  pub leaves_settled : (row : List Entry) (groups : List (List Entry)) → AreLeavesAt row groups
      → AreSettled graph image size role 0 row × (all_below 0 row ≡ flat_map (λ (g : List Entry). g) groups)
  leaves_settled [] [] at = (tt, refl)
  leaves_settled [] (g ∷ groups) at = absurd at
  leaves_settled (e ∷ row) [] at = absurd at
  leaves_settled (e ∷ row) (g ∷ groups) at =
      let here = leaf_settled graph image size role e.value g at.0.1 in
      let rest = leaves_settled row groups at.1 in (
        (here.0, rest.0),
        ap (λ (front : List Entry). front ++ all_below 0 row) here.1 ∙ ap (λ (back : List Entry). g ++ back) rest.1,
      )

  first_begins : (g : List Entry) → 1 ≤ length g → BeginsWith (first_key g) (keys_of g)
  first_begins [] some = absurd (omega arith)
  first_begins (e ∷ g) some = refl

  pub leaves_least : (row : List Entry) (groups : List (List Entry)) → AreLeavesAt row groups → AllByRecursion (λ (g : List Entry). 1 ≤ length g) groups
      → AreLeast graph image size role 0 row
  leaves_least [] [] at some = tt
  leaves_least [] (g ∷ groups) at some = absurd at
  leaves_least (e ∷ row) [] at some = absurd at
  leaves_least (e ∷ row) (g ∷ groups) at some =
      let here = (leaf_settled graph image size role e.value g at.0.1).1 in
      let key = at.0.0 in
      (rw (here, key) (first_begins g some.0), leaves_least row groups at.1 some.1)

  -- and so are inner nodes whose children are
  record AreHeads (h place : ℕ) (level : List (List Entry)) : Type 0 where
    settled : AreSettled graph image size role (suc h) (heads place level)
    least : AreLeast graph image size role (suc h) (heads place level)
    all_are : all_below (suc h) (heads place level) ≡ flat_map (all_below h) level

  inner_heads : (h place : ℕ) (level : List (List Entry)) → AllFrom (IsInnerAt graph image role) place level
      → AllByRecursion (λ (g : List Entry). 1 ≤ length g) level
      → AllByRecursion (AreSettled graph image size role h) level → AllByRecursion (AreLeast graph image size role h) level
      → AreHeads h place level
  unfolding heads
  inner_heads h place [] at some settled least = record { settled = tt; least = tt; all_are = refl }
  inner_heads h place ([] ∷ level) at some settled least = absurd (omega (arith, some.0))
  inner_heads h place ((e ∷ es) ∷ level) at some settled least =
      let here = inner_settled graph image size role h place (e ∷ es) at.0 settled.0 in
      let rest = inner_heads h (place + 1) level at.1 some.1 settled.1 least.1 in
      let first : keys_of (below graph image size role (suc h) place) ≡ keys_of (all_below h (e ∷ es)) = ap keys_of here.1 in
      record {
        settled = (here.0, rest.settled);
        least = (rw first (begins_front e.key (below graph image size role h e.value) (all_below h es) least.0.0), rest.least);
        all_are = ap (λ (front : List Entry). front ++ all_below (suc h) (heads (place + 1) level)) here.1 ∙ ap (λ (back : List Entry). all_below h (e ∷ es) ++ back) rest.all_are;
      }

  -- the nodes of a level are in order where the keys below it ascend
  level_ordered : (h place : ℕ) (level : List (List Entry)) → h < 63 → AllFrom (IsInnerAt graph image role) place level
      → AllByRecursion (AreSettled graph image size role h) level → AllByRecursion (AreLeast graph image size role h) level
      → is_ascending (keys_of (flat_map (all_below h) level)) ≡ true
      → AllFrom (λ q g. IsOrdered graph image role q) place level
  unfolding is_deep
  level_ordered h place [] high at settled least asc = tt
  level_ordered h place (g ∷ level) high at settled least asc =
      let here = inner_settled graph image size role h place g at.0 settled.0 in
      let split = ap is_ascending (sym (map-append (λ (e : Entry). e.key) (all_below h g) (flat_map (all_below h) level))) ∙ asc in (
        record {
          shallow = here.0.shallow 64 (omega arith);
          in_range = λ _. inner_in_range graph image size role h place g (omega arith) at.0 settled.0 least.0 (asc_left _ _ split);
        },
        level_ordered h (place + 1) level high at.1 settled.1 least.1 (asc_right _ _ split),
      )

  -- a row of one entry names the root
  root_one : (h : ℕ) (row : List Entry) → length row ≡ 1 → h ≤ 63 → AreSettled graph image size role h row
      → IsRoot graph image size role (first_place row) (all_below h row)
  unfolding entries_below keys_below
  root_one h [] one high settled = absurd (omega arith)
  root_one h (e ∷ f ∷ row) one high settled = absurd (omega arith)
  root_one h (e ∷ []) one high settled =
      let whole = append-nil (below graph image size role h e.value) in
      record {
        entries_are = settled.0.stable 63 high ∙ sym whole;
        keys_are = settled.0.own 63 high ∙ ap keys_of (sym whole);
      }

  -- the inner nodes above a row are in order, and below the root stands all that is below the row
  pub record IsAbove (h place root : ℕ) (row : List Entry) (inners : List (List Entry)) : Type 0 where
    pub root_is : IsRoot graph image size role root (all_below h row)
    pub ordered : AllFrom (λ q g. IsOrdered graph image role q) place inners

  above_one : (k h place : ℕ) (row : List Entry) → length row ≡ 1 → h ≤ 63 → AreSettled graph image size role h row
      → IsAbove h place (root_of k place row) row (levels_above k place row)
  above_one k h place row one high settled =
      let few : length row ≤ 1 = omega arith in
      rw (levels_one k place row few, le-ltb 1 (length row) few) (record { root_is = root_one h row one high settled; ordered = tt })

  pub all_above : (k h place : ℕ) (row : List Entry) → 1 ≤ length row → length row ≤ 252 ^ k → h + k ≤ 63
      → AreSettled graph image size role h row → (1 < length row → AreLeast graph image size role h row)
      → is_ascending (keys_of (all_below h row)) ≡ true
      → AllFrom (IsInnerAt graph image role) place (levels_above k place row)
      → IsAbove h place (root_of k place row) row (levels_above k place row)
  all_above zero h place row some few high settled least asc at = above_one zero h place row (omega arith) (omega arith) settled
  all_above (suc k) h place row some few high settled least asc at = elim (cases_lt 1 (length row)) [
    | inr single ↦ above_one (suc k) h place row (omega arith) (omega arith) settled
    | inl many ↦
        let level = level_of row in
        let count = length level in
        let next = heads place level in
        let upper = upper_of k place row in
        let is = level_spread k row some in
        let split = levels_more k place row many in
        let here : AllFrom (IsInnerAt graph image role) place (level ++ upper) = rw split at at in
        let whole = is.joined_is in
        let each : AllByRecursion (AreSettled graph image size role h) level =
        all_parts (λ (e : Entry). IsSettled graph image size role h e.value) level (rw whole settled) in
        let each_least : AllByRecursion (AreLeast graph image size role h) level =
        all_parts (λ (e : Entry). BeginsWith e.key (keys_of (below graph image size role h e.value))) level (rw whole (least many)) in
        let front = from_front (IsInnerAt graph image role) place level upper here in
        let found = inner_heads h place level front is.some each each_least in
        let same : flat_map (all_below h) level ≡ all_below h row =
        sym (flat_joined (λ (e : Entry). below graph image size role h e.value) level) ∙ ap (all_below h) whole in
        let all = found.all_are ∙ same in
        let asc_next : is_ascending (keys_of (all_below (suc h) next)) ≡ true = rw all asc in
        let size = length-heads place level in
        let above = all_above k (suc h) (place + count) next (rw size is.number.some) (rw size (is.number.small few)) (omega arith)
        found.settled (λ _. found.least) asc_next (from_back (IsInnerAt graph image role) place level upper here) in
        let top = above.root_is in
        rw (root_more k place row many, split)
        (record {
          root_is = rw all at top;
          ordered = from_both (λ q g. IsOrdered graph image role q) place level upper
              (level_ordered h place level (omega arith) front each each_least (rw same asc)) above.ordered;
        })
  ]

-- What stands in the leaves below the root of a laid tree, whatever is looked at in each: so also the leaves' blocks.

module _ {X : Type 0} (graph : Graph) (image : List (List ℕ)) (role : ℕ) (own : ℕ → List X) where
  -- what is below a block within so many inner edges
  abbrev under : ℕ → ℕ → List X
  under j b = gathered (is_inner_pair graph image) (children graph image) own j (pair b role)

  -- all of it is within h inner edges
  abbrev IsStable : ℕ → ℕ → Type 0
  IsStable h b = (j : ℕ) → h ≤ j → under j b ≡ under h b

  abbrev AreStable : ℕ → List Entry → Type 0
  AreStable h row = AllByRecursion (λ (e : Entry). IsStable h e.value) row

  abbrev all_under : ℕ → List Entry → List X
  all_under h row = flat_map (λ (e : Entry). under h e.value) row

  -- an inner node is stable one level above its children
  inner_under : (h place : ℕ) (entries : List Entry) → IsInnerAt graph image role place entries → AreStable h entries
      → (j : ℕ) → h ≤ j → under (suc j) place ≡ all_under h entries
  inner_under h place entries at stable j more =
      inner_gathered graph image role place entries at own j
      ∙ same_each (λ (e : Entry). under j e.value) (λ (e : Entry). under h e.value) entries
      (all_from (λ (e : Entry). IsStable h e.value) (λ (e : Entry). under j e.value ≡ under h e.value) (λ e is. is j more) entries stable)

  inner_stable : (h place : ℕ) (entries : List Entry) → IsInnerAt graph image role place entries → AreStable h entries → IsStable (suc h) place
  inner_stable h place entries at stable j more =
      let e : j ≡ suc (j - 1) = omega arith in
      let higher : h ≤ j - 1 = omega arith in
      rw e (inner_under h place entries at stable (j - 1) higher ∙ sym (inner_under h place entries at stable h (omega arith)))

  heads_under : (h place : ℕ) (level : List (List Entry)) → AllFrom (IsInnerAt graph image role) place level → AllByRecursion (AreStable h) level
      → AreStable (suc h) (heads place level) × (all_under (suc h) (heads place level) ≡ flat_map (all_under h) level)
  unfolding heads
  heads_under h place [] at stable = (tt, refl)
  heads_under h place (g ∷ level) at stable =
      let rest = heads_under h (place + 1) level at.1 stable.1 in (
        (inner_stable h place g at.0 stable.0, rest.0),
        ap₂ (λ (front back : List X). front ++ back) (inner_under h place g at.0 stable.0 h (omega arith)) rest.1,
      )

  -- a row of one entry names the root
  one_under : (k h place : ℕ) (row : List Entry) → length row ≡ 1 → h ≤ 63 → AreStable h row → under 63 (root_of k place row) ≡ all_under h row
  one_under k h place [] one high stable = absurd (omega arith)
  one_under k h place (e ∷ f ∷ row) one high stable = absurd (omega arith)
  one_under k h place (e ∷ []) one high stable = stable.0 63 high ∙ sym (append-nil (under h e.value))

  -- below the root of a row stands all that is below the row
  pub root_under : (k h place : ℕ) (row : List Entry) → 1 ≤ length row → length row ≤ 252 ^ k → h + k ≤ 63 → AreStable h row
      → AllFrom (IsInnerAt graph image role) place (levels_above k place row) → under 63 (root_of k place row) ≡ all_under h row
  root_under zero h place row some few high stable at = one_under zero h place row (omega arith) (omega arith) stable
  root_under (suc k) h place row some few high stable at = elim (cases_lt 1 (length row)) [
    | inr single ↦ one_under (suc k) h place row (omega arith) (omega arith) stable
    | inl many ↦
        let level = level_of row in
        let count = length level in
        let next = heads place level in
        let upper = upper_of k place row in
        let is = level_spread k row some in
        let here : AllFrom (IsInnerAt graph image role) place (level ++ upper) = rw (levels_more k place row many) at at in
        let whole = is.joined_is in
        let each : AllByRecursion (AreStable h) level = all_parts (λ (e : Entry). IsStable h e.value) level (rw whole stable) in
        let found = heads_under h place level (from_front (IsInnerAt graph image role) place level upper here) each in
        let same : flat_map (all_under h) level ≡ all_under h row =
        sym (flat_joined (λ (e : Entry). under h e.value) level) ∙ ap (all_under h) whole in
        let size = length-heads place level in
        let above = root_under k (suc h) (place + count) next (rw size is.number.some) (rw size (is.number.small few)) (omega arith) found.0
        (from_back (IsInnerAt graph image role) place level upper here) in
        rw (root_more k place row many) (above ∙ (found.1 ∙ same))
  ]

  -- leaves are stable at once
  pub leaves_under : (size : ℕ) (row : List Entry) (groups : List (List Entry)) → AreLeavesAt graph image size role row groups
      → AreStable 0 row × (all_under 0 row ≡ flat_map (λ (e : Entry). own (pair e.value role)) row)
  leaves_under size [] [] at = (tt, refl)
  leaves_under size [] (g ∷ groups) at = absurd at
  leaves_under size (e ∷ row) [] at = absurd at
  leaves_under size (e ∷ row) (g ∷ groups) at =
      let found = λ (j : ℕ). leaf_gathered graph image own (pair e.value role) j at.0.1.leaf in
      let rest = leaves_under size row groups at.1 in (
        (λ j more. found j ∙ sym (found 0), rest.0),
        ap₂ (λ (front back : List X). front ++ back) (found 0) rest.1,
      )

-- a row's blocks
pub row_blocks : (role : ℕ) → role < 16 → (row : List Entry) → flat_map (λ (e : Entry). block_of (pair e.value role) ∷ []) row ≡ values_of row
row_blocks role small [] = refl
row_blocks role small (e ∷ row) =
    let here : block_of (pair e.value role) ≡ e.value = omega arith in
    ap₂ (λ (b : ℕ) (rest : List ℕ). b ∷ rest) here (row_blocks role small row)
