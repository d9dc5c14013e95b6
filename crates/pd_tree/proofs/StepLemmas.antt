-- A step on the way: whatever is told of the places, what is left before it is what it takes, and then what is left after it.
use Rattle.std.proofs.Common.{◌≡◌, ℕ, suc, ◌+◌, ◌-◌, ◌<◌, ◌≤◌, true, false, List, [], ◌∷◌, ◌++◌, length, set, refl, arith, map, append_assoc}
use Rattle.std.proofs.lemmas.List.{get_or-set_same}
use Rattle.pd_kinds.specs.Node.{entry_count, is_inner_node, child_at, key_at, value_at}
use Rattle.pd_tree.specs.declared.stack.NodePlace.{NodePlace}
use Rattle.pd_tree.specs.declared.stack.Stack.{Stack}
use Rattle.pd_tree.specs.Below.{each_below, items_below, nodes_below, after, no_place, place_items, place_kids, place_left}
use Rattle.pd_tree.specs.Stack.{entry, left_of_item, left_at, last_place, stacked, items_at, nodes_at, child_weight, weigh, TakesLast, ended, deep, Passes, GoesDown, GivesEntry}
use Rattle.pd_tree.proofs.StackLemmas.{each_first, each_none, each_deep, child_alone, one_less, first_kid, first_item, stacked_is, stacked_set, weigh_is, weigh_set, unit_some, kids_leaf, kids_none, items_inner, items_none}

-- what is told of a place, and then what is told below its children
abbrev told_at : {X : Type 0} → ℕ → (NodePlace → List X) → (ℕ → ℕ → List X) → ℕ → NodePlace → List X
told_at size here below d place = here place ++ each_below below (63 - d) (place_kids size place)

-- a step at the last place
module _ (size : ℕ) (old new : Stack) (some : 0 < old.depth) (room : old.depth ≤ length old.places.items) where
  abbrev place : NodePlace
  place = last_place old

  -- what is left where the last place takes something
  pub took : {X : Type 0} → TakesLast size old new → (left : ℕ → NodePlace → List X) (more : List X) → left (old.depth - 1) (last_place old) ≡ more ++ left (old.depth - 1) (after (last_place old))
      → stacked left old.places.items old.depth ≡ more ++ stacked left new.places.items new.depth
  took takes left more is =
      let last : old.depth ≡ suc (old.depth - 1) = omega arith in
      rw (
        takes.depth,
        takes.places,
        stacked_is left old.places.items (old.depth - 1) old.depth last,
        stacked_set left old.places.items old.places.items (old.depth - 1) old.depth (after place) (omega arith) (λ k other before. refl) last,
        is,
      )
      (append_assoc more (left (old.depth - 1) (after place)) (stacked left old.places.items (old.depth - 1)))

  -- what is left where nothing was left of the last place
  pub left_out : {X : Type 0} → (left : ℕ → NodePlace → List X) → new.depth + 1 ≡ old.depth → new.places.items ≡ old.places.items → left (old.depth - 1) (last_place old) ≡ []
      → stacked left old.places.items old.depth ≡ stacked left new.places.items new.depth
  left_out left depth places none =
      let last : old.depth ≡ suc (old.depth - 1) = omega arith in
      let below : new.depth ≡ old.depth - 1 = omega arith in
      rw (places, below, stacked_is left old.places.items (old.depth - 1) old.depth last, none) refl

  module _ {X : Type 0} (here : NodePlace → List X) (below : ℕ → ℕ → List X) where
    -- an entry was taken
    told_entry : (what : List X) → TakesLast size old new → is_inner_node place.block.0 ≡ false → here place ≡ what ++ here (after place)
        → stacked (told_at size here below) old.places.items old.depth ≡ what ++ stacked (told_at size here below) new.places.items new.depth
    told_entry what takes leaf is =
        took takes (told_at size here below) what
        (rw (is, kids_leaf size place.block.0 place.next leaf, kids_leaf size place.block.0 (place.next + 1) leaf)
        (append_assoc what (here (after place)) (each_below below (63 - (old.depth - 1)) [])))

    -- a child was taken, for which there is room, or which is too deep
    told_child : old.depth < 64 → TakesLast size old new → is_inner_node place.block.0 ≡ true → here place ≡ [] → here (after place) ≡ []
        → stacked (told_at size here below) old.places.items old.depth
        ≡ below (63 - new.depth) (child_at place.block.0 place.next) ++ stacked (told_at size here below) new.places.items new.depth
    told_child fits takes inner none still =
        let b = child_at place.block.0 place.next in
        let budget : 63 - (old.depth - 1) ≡ suc (63 - new.depth) = omega (arith, takes.depth) in
        took takes (told_at size here below) (below (63 - new.depth) b)
        (rw (none, still, first_kid size place takes.within inner, each_first below (63 - (old.depth - 1)) (63 - new.depth) b (place_kids size (after place)) budget) refl)

    told_deep : 64 ≤ old.depth → TakesLast size old new → here place ≡ [] → here (after place) ≡ []
        → stacked (told_at size here below) old.places.items old.depth ≡ stacked (told_at size here below) new.places.items new.depth
    told_deep most takes none still =
        let budget : 63 - (old.depth - 1) ≡ 0 = omega arith in
        took takes (told_at size here below) []
        (rw (none, still, each_deep below (63 - (old.depth - 1)) (place_kids size place) budget, each_deep below (63 - (old.depth - 1)) (place_kids size (after place)) budget) refl)

    -- nothing was left
    told_end : place_left size place ≡ 0 → new.depth + 1 ≡ old.depth → new.places.items ≡ old.places.items → here place ≡ []
        → stacked (told_at size here below) old.places.items old.depth ≡ stacked (told_at size here below) new.places.items new.depth
    told_end ends depth places none =
        left_out (told_at size here below) depth places (rw (none, kids_none size place.block.0 place.next ends, each_none below (63 - (old.depth - 1))) refl)

  -- the weight of a step
  number_took : TakesLast size old new → weigh size new.places.items new.depth + child_weight (64 - new.depth) ≤ weigh size old.places.items old.depth
  number_took takes =
      let last : old.depth ≡ suc (old.depth - 1) = omega arith in
      let same : 64 - old.depth ≡ 63 - (old.depth - 1) = omega arith in
      rw (
        takes.depth,
        takes.places,
        weigh_is size old.places.items (old.depth - 1) old.depth last,
        weigh_set size old.places.items old.places.items (old.depth - 1) old.depth (after place) (omega arith) (λ k other before. refl) last,
        one_less size place takes.within,
        same,
      )
      (omega arith)

  number_less : TakesLast size old new → weigh size new.places.items new.depth < weigh size old.places.items old.depth
  number_less takes =
      let whole = number_took takes in
      let some = unit_some (64 - new.depth) in
      omega arith

  -- what a step does
  module _ {X : Type 0} (decoded : ℕ → X) where
    pub gives : TakesLast size old new → is_inner_node place.block.0 ≡ false
        → GivesEntry size decoded (key_at place.block.0 place.next) (decoded (value_at size place.block.0 place.next)) old new
    unfolding items_at nodes_at left_at
    gives takes leaf =
        let first = first_item size decoded place takes.within leaf in
        let key = key_at place.block.0 place.next in
        let value = decoded (value_at size place.block.0 place.next) in
        record {
          items = λ image. told_entry (place_items size decoded) (items_below size decoded image) ((key, value) ∷ []) takes leaf first;
          nodes = λ image. told_entry (λ p. []) (nodes_below size image) [] takes leaf refl;
          left = told_entry (λ p. map left_of_item (place_items size decoded p)) child_alone (entry key value ∷ []) takes leaf (rw first refl);
          number = number_less takes;
          takes = takes;
          leaf = leaf;
          has_key = refl;
          has_value = refl;
        }

    pub goes_down : old.depth < 64 → TakesLast size old new → is_inner_node place.block.0 ≡ true → GoesDown size decoded (child_at place.block.0 place.next) old new
    unfolding items_at nodes_at left_at
    goes_down fits takes inner =
        let none = items_inner size decoded place.block.0 place.next inner in
        let still = items_inner size decoded place.block.0 (place.next + 1) inner in
        record {
          room = rw takes.depth fits;
          items = λ image. told_child (place_items size decoded) (items_below size decoded image) fits takes inner none still;
          nodes = λ image. told_child (λ p. []) (nodes_below size image) fits takes inner refl refl;
          left = told_child (λ p. map left_of_item (place_items size decoded p)) child_alone fits takes inner (rw none refl) (rw still refl);
          number = number_took takes;
          takes = takes;
          inner = inner;
          child = refl;
        }

    pub passes_deep : 64 ≤ old.depth → TakesLast size old new → is_inner_node place.block.0 ≡ true → Passes size decoded old new
    unfolding items_at nodes_at left_at
    passes_deep most takes inner =
        let none = items_inner size decoded place.block.0 place.next inner in
        let still = items_inner size decoded place.block.0 (place.next + 1) inner in
        record {
          items = λ image. told_deep (place_items size decoded) (items_below size decoded image) most takes none still;
          nodes = λ image. told_deep (λ p. []) (nodes_below size image) most takes refl refl;
          left = told_deep (λ p. map left_of_item (place_items size decoded p)) child_alone most takes (rw none refl) (rw still refl);
          number = number_less takes;
          passed = deep most inner takes;
        }

    pub passes_end : place_left size place ≡ 0 → new.depth + 1 ≡ old.depth → new.places.items ≡ old.places.items → Passes size decoded old new
    unfolding items_at nodes_at left_at
    passes_end ends depth places =
        let none = items_none size decoded place.block.0 place.next ends in
        let last : old.depth ≡ suc new.depth = omega arith in
        let before = weigh_is size old.places.items new.depth old.depth last in
        record {
          items = λ image. told_end (place_items size decoded) (items_below size decoded image) ends depth places none;
          nodes = λ image. told_end (λ p. []) (nodes_below size image) ends depth places refl;
          left = told_end (λ p. map left_of_item (place_items size decoded p)) child_alone ends depth places (rw none refl);
          number = rw places (omega arith);
          passed = ended ends depth places;
        }

  -- the last place was written, as its next entry was taken
  pub takes_last : (before after_it : NodePlace) → before ≡ last_place old → before.next < entry_count size before.block.0 → after_it ≡ after before
      → new.depth ≡ old.depth → new.places.items ≡ set old.places.items (old.depth - 1) after_it → TakesLast size old new
  takes_last before after_it at within one depth places =
      let inside : old.depth - 1 < length old.places.items = omega arith in
      let next : after_it ≡ after (last_place old) = rw (← at) one in
      record {
        within = rw (← at) within;
        last = rw (places, depth, get_or-set_same old.places.items (old.depth - 1) after_it no_place inside) next;
        depth = depth;
        places = rw (places, next) refl;
      }
