-- What is left on the way, before and after it grows by a node, and before and after a step.
use Rattle.std.proofs.Common.{◌≡◌, ◌≢◌, ◌↔◌, inl, inr, IsTrue, not, sym, ◌∙◌, ℕ, zero, suc, ◌+◌, ◌-◌, ◌<◌, ◌≤◌, true, false, Bool, cond, List, [], ◌∷◌, ◌++◌, length, set, refl, arith}
use Rattle.std.proofs.lemmas.List.{get_or-set_same, get_or-set_other}
use Rattle.std.specs.List.{list_any, SameBelow}
use Rattle.std.proofs.lemmas.Bool.{false≢true, cases_Bool, cases_lt}
use Rattle.pd_kinds.specs.Node.{entry_count, is_inner_node, key_at, value_at, child_at}
use Rattle.pd_kinds.specs.declared.rule.Rule.{Rule}
use Rattle.pd_kinds.specs.Rule.{all_rules}
use Rattle.pd_kinds.proofs.SoundLemmas.{none_broken}
use Rattle.pd_laid.proofs.NodeFacts.{none_pass}
use Rattle.pd_tree.specs.declared.stack.NodePlace.{NodePlace}
use Rattle.pd_tree.specs.declared.stack.Stack.{Stack}
use Rattle.pd_tree.specs.Below.{after, place_left, no_place}
use Rattle.pd_tree.specs.Stack.{last_place, place_at, stacked, TakesLast, IsPassed, ended, deep}
use Rattle.pd_tree.proofs.StackLemmas.{one_less, stacked_is, stacked_same}
use Rattle.pd_tree.proofs.StepLemmas.{left_out, took}
use Rattle.pd_salvage.specs.declared.way.Range.{Range}
use Rattle.pd_salvage.specs.Range.{child_range, is_in_range}
use Rattle.pd_salvage.specs.Way.{Left, entry, left_at, left_from, no_range, node, nodes, range_at, HoldsBlock, KnowsPlaces, number_at}
use Rattle.pd_salvage.specs.declared.way.Way.{Way}

-- one step at a place
module _ (size j : ℕ) (range : Range) (place : NodePlace) where
  abbrev here : NodePlace → List Left
  here p = left_from size j range p.block.0 p.next

  none_if : (inner : Bool) → cond inner (let none : List Left = [] in none) [] ≡ []
  none_if true = refl
  none_if false = refl

  takes_nothing : place_left size place ≡ 0 → here place ≡ []
  unfolding left_from
  takes_nothing none = rw none (none_if (is_inner_node place.block.0))

  module _ (within : place.next < entry_count size place.block.0) where
    -- a child of an inner node
    takes_child : is_inner_node place.block.0 ≡ true → here place ≡ nodes j (child_range size place.block.0 range place.next) (child_at place.block.0 place.next) ++ here (after place)
    unfolding left_from
    takes_child inner = rw (inner, one_less size place within) refl

    -- an entry of a leaf in the range, and one outside of it
    takes_entry : is_inner_node place.block.0 ≡ false → is_in_range range (key_at place.block.0 place.next) ≡ true
        → here place ≡ entry (record { key = key_at place.block.0 place.next; value = value_at size place.block.0 place.next }) ∷ here (after place)
    unfolding left_from
    takes_entry leaf wanted = rw (leaf, one_less size place within, wanted) refl

    passes_entry : is_inner_node place.block.0 ≡ false → is_in_range range (key_at place.block.0 place.next) ≡ false → here place ≡ here (after place)
    unfolding left_from
    passes_entry leaf unwanted = rw (leaf, one_less size place within, unwanted) refl

module _ (size : ℕ) (ranges : List Range) where
  -- a range that is written changes nothing at the places before it
  ranges_before : (places : List NodePlace) (d n : ℕ) (range : Range) → n ≤ d → stacked (left_at size (set ranges d range)) places n ≡ stacked (left_at size ranges) places n
  unfolding stacked
  ranges_before places d zero range before = refl
  ranges_before places d (suc n) range before =
      let other : n ≢ d = omega arith in
      rw (get_or-set_other ranges d n range no_range other, ranges_before places d n range (omega arith)) refl

  module _ (places now : List NodePlace) (d beside : ℕ) (range : Range) (at : beside ≡ d) (same : SameBelow places now d) where
    -- a node was pushed: what was left stands under it
    pub pushed_under : stacked (left_at size (set ranges beside range)) now d ≡ stacked (left_at size ranges) places d
    pushed_under = rw (at, stacked_same (left_at size (set ranges d range)) places now d same, ranges_before places d d range (omega arith)) refl

    pub pushed_left : (n : ℕ) (place : NodePlace) → n ≡ d + 1 → place_at now (n - 1) ≡ place → place.next ≡ 0 → d < length ranges
        → stacked (left_at size (set ranges beside range)) now n ≡ left_from size (63 - d) range place.block.0 0 ++ stacked (left_at size ranges) places d
    pushed_left n place depth last first room =
        let before : n - 1 ≡ d = omega arith in
        rw (
          stacked_is (left_at size (set ranges beside range)) now d n (omega arith),
          pushed_under,
          at,
          rw before at last,
          get_or-set_same ranges d range no_range room,
          first,
        ) refl

  -- a step at the last place
  module _ (old new : Stack) (some : 0 < old.depth) (room : old.depth ≤ length old.places.items) where
    abbrev place : NodePlace
    place = last_place old

    abbrev range : Range
    range = range_at ranges (old.depth - 1)

    abbrev left : Stack → List Left
    left stack = stacked (left_at size ranges) stack.places.items stack.depth

    -- a child was taken
    pub child_left : new.depth < 64 → TakesLast size old new → is_inner_node place.block.0 ≡ true
        → left old ≡ node (64 - new.depth) (child_range size place.block.0 range place.next) (child_at place.block.0 place.next) ∷ left new
    child_left fits takes inner =
        let budget : 63 - (old.depth - 1) ≡ suc (63 - new.depth) = omega (arith, takes.depth) in
        let whole : 64 - new.depth ≡ suc (63 - new.depth) = omega arith in
        let is = took size old new some room takes (left_at size ranges) _ (takes_child size (63 - (old.depth - 1)) range place takes.within inner) in
        rw whole (rw budget at is)

    -- an entry was taken in the range, and outside of it
    pub entry_left : TakesLast size old new → is_inner_node place.block.0 ≡ false → is_in_range range (key_at place.block.0 place.next) ≡ true
        → left old ≡ entry (record { key = key_at place.block.0 place.next; value = value_at size place.block.0 place.next }) ∷ left new
    entry_left takes leaf wanted =
        took size old new some room takes (left_at size ranges) (entry (record { key = key_at place.block.0 place.next; value = value_at size place.block.0 place.next }) ∷ [])
        (takes_entry size (63 - (old.depth - 1)) range place takes.within leaf wanted)

    pub outside_left : TakesLast size old new → is_inner_node place.block.0 ≡ false → is_in_range range (key_at place.block.0 place.next) ≡ false → left old ≡ left new
    outside_left takes leaf unwanted =
        took size old new some room takes (left_at size ranges) [] (passes_entry size (63 - (old.depth - 1)) range place takes.within leaf unwanted)

    -- nothing was left of the place, or a child was taken that is too deep
    pub passed_left : IsPassed size old new → left old ≡ left new
    passed_left (ended none depth places) =
        left_out size old new some room (left_at size ranges) depth places (takes_nothing size (63 - (old.depth - 1)) range place none)
    passed_left (deep most inner takes) =
        let budget : 63 - (old.depth - 1) ≡ 0 = omega arith in
        took size old new some room takes (left_at size ranges) []
        (takes_child size (63 - (old.depth - 1)) range place takes.within inner ∙ rw budget refl)

-- the range of the child that was taken last
pub child_taken : (size : ℕ) (old new : Stack) (ranges : List Range) (block : List ℕ) (taken : ℕ) (last child : Range) → TakesLast size old new
    → child ≡ child_range size block last (taken - 1) → last ≡ range_at ranges (new.depth - 1) → block ≡ (last_place new).block.0 → taken ≡ (last_place new).next
    → child ≡ child_range size (last_place old).block.0 (range_at ranges (old.depth - 1)) (last_place old).next
child_taken size old new ranges block taken last child takes is beside top next =
    let same : taken ≡ (last_place old).next + 1 = rw takes.last at next in
    let index : taken - 1 ≡ (last_place old).next = omega arith in
    rw (is, beside, top, index, takes.last, takes.depth) refl

-- a set of rules is empty where no rule is broken
pub sound_is : (bad has : Rule → Bool) (empty : Bool) → ((rule : Rule) → has rule ≡ bad rule) → IsTrue empty ↔ ((rule : Rule) → has rule ≡ false)
    → empty ≡ not (list_any bad all_rules)
sound_is bad has true same is = rw (none_pass bad all_rules (λ rule. sym (same rule) ∙ is.0 refl rule)) refl
sound_is bad has false same is = elim (cases_Bool (list_any bad all_rules)) [
  | inl some ↦ rw some refl
  | inr none ↦ absurd (false≢true (is.1 (λ rule. same rule ∙ none_broken bad none rule)))
]

-- What is known of the places, before and after the way changes.

-- the places hold the blocks that they held
abbrev pub SameBlocks : List NodePlace → List NodePlace → Type 0
SameBlocks old new = (d : ℕ) → (place_at new d).block ≡ (place_at old d).block

pub known_same : (old : Way) (now : List NodePlace) → SameBlocks old.stack.places.items now → (good : ℕ → List ℕ → Bool) (image : List (List ℕ)) → KnowsPlaces good image old
    → (d : ℕ) → old.from ≤ d → d < old.known → HoldsBlock good image (number_at old d) (place_at now d)
known_same old now same good image knows d above below =
    let holds = knows d above below in
    record { read = rw (same d) holds.read; is_good = rw (same d) holds.is_good }

-- a place was written that holds the block that it held
pub set_same : (places : List NodePlace) (e : ℕ) (place : NodePlace) → e < length places → place.block ≡ (place_at places e).block → SameBlocks places (set places e place)
set_same places e place within is d = elim (cases_lt d e) [
  | inl less ↦ let apart : d ≢ e = omega arith in rw (get_or-set_other places e d place no_place apart) refl
  | inr from ↦ elim (cases_lt e d) [
    | inl more ↦ let apart : d ≢ e = omega arith in rw (get_or-set_other places e d place no_place apart) refl
    | inr to ↦ let same : d ≡ e = omega arith in rw (same, get_or-set_same places e place no_place within) is
  ]
]

-- a step at the last place
module _ (size : ℕ) (old new : Stack) (some : 0 < old.depth) (room : old.depth ≤ length old.places.items) where
  pub taken_same : TakesLast size old new → SameBlocks old.places.items new.places.items
  taken_same takes = rw takes.places (set_same old.places.items (old.depth - 1) _ (omega arith) refl)

  pub passed_same : IsPassed size old new → SameBlocks old.places.items new.places.items
  passed_same (ended none depth places) = rw places (λ d. refl)
  passed_same (deep most inner takes) = taken_same takes

-- a block was read into the next place: what is known of the places before it still holds
pub known_below : (old : Way) (now : List NodePlace) (from known : ℕ) → SameBelow old.stack.places.items now known
    → ((d : ℕ) → from ≤ d → d < known → (old.from ≤ d) × (d < old.known)) → (good : ℕ → List ℕ → Bool) (image : List (List ℕ)) → KnowsPlaces good image old
    → (d : ℕ) → from ≤ d → d < known → HoldsBlock good image (number_at old d) (place_at now d)
known_below old now from known same within good image knows d above below =
    let both = within d above below in
    let holds = knows d both.0 both.1 in
    record { read = rw (same d no_place below) holds.read; is_good = rw (same d no_place below) holds.is_good }

-- a place was written, and is the last one now
module _ (places : List NodePlace) (d : ℕ) (place : NodePlace) where
  pub before_same : (now : List NodePlace) → now ≡ set places d place → SameBelow places now d
  before_same now is k other before = let apart : k ≢ d = omega arith in rw (is, get_or-set_other places d k place other apart) refl

  pub last_is : (stack : Stack) → stack.places.items ≡ set places d place → stack.depth ≡ d + 1 → d < length places → last_place stack ≡ place
  last_is stack is depth within =
      let last : stack.depth - 1 ≡ d = omega arith in
      rw (last, is, get_or-set_same places d place no_place within) refl
