-- The blocks that are marked, in ascending order.
use Rattle.std.proofs.Common.{◌≡◌, ℕ, zero, suc, ◌+◌, ◌<◌, ◌≤◌, Bool, true, false, cond, nat_eq, List, [], ◌∷◌, ◌++◌, length, filter, get_or, set, refl, sym, ap, ◌∙◌, arith, ◌⊎◌, ◌↔◌, inl, inr, ⊎_elim, ◌*◌, ◌||◌, map, replicate, subst, get_or-set_same}
use Rattle.std.specs.List.{range_with_len, AllByRecursion, list_any}
use Rattle.std.proofs.lemmas.Bool.{true≢false, eq-eqb, eqb-true, or_cases, or_left, or_right}
use Rattle.std.proofs.lemmas.List.{length-set, length-replicate}
use Rattle.std.proofs.lemmas.List.Elements.{filter-append}
use Rattle.pd_kinds.specs.declared.kind.Kind.TheVariants.{Cache}
use Rattle.pd_kinds.specs.declared.kind.Stage.TheVariants.{Whole}
use Rattle.pd_kinds.specs.CacheFormat.{cache_graph}
use Rattle.pd_kinds.specs.Graph.{Edge, Graph, block_at, block_of, edges_of, is_reached, next, pair, role_of}
use Rattle.pd_kinds.specs.Layout.{graph_of}
use Rattle.pd_kinds.specs.Lawful.{IsLawful, IsWithin}
use Rattle.pd_kinds.specs.Image.{room_of}
use Rattle.pd_kinds.specs.Node.{Entry}
use Rattle.pd_kinds.specs.Paths.{IsOnPath, start, edge}
use Rattle.pd_kinds.specs.Stages.{IsReached, faults}
use Rattle.pd_kinds.proofs.NumberLemmas.{same_test}
use Rattle.pd_kinds.proofs.ListLemmas.{all_from}
use Rattle.pd_value.specs.declared.thin.Root.{Root}
use Rattle.pd_tree.specs.Below.{items_below}
use Rattle.pd_tree.specs.Cursor.{item_of, root_of}
use Rattle.pd_tree.proofs.ReachLemmas.{IsMet, met}
use Rattle.pd_meaning_cache.proofs.SoundCache.{within}
use Rattle.pd_laws_laid.proofs.ListLemmas.{holds_of_found}
use Rattle.pd_laws_changed.proofs.DirtyPlaces.{any_value, kept_in}
use Rattle.pd_writeback.specs.Room.{ArePlaces, mark, marks, names, seen_places, places_named, tree_names}

-- a range goes on by one
pub range_more : (a n : ℕ) → range_with_len a (n + 1) ≡ range_with_len a n ++ (a + n) ∷ []
range_more a zero = ap (λ (b : ℕ). b ∷ []) (let same : a ≡ a + 0 = omega arith in same)
range_more a (suc n) =
    let next : suc n + 1 ≡ suc (n + 1) = omega arith in
    let there : a + 1 + n ≡ a + suc n = omega arith in
    rw next (ap (λ (xs : List ℕ). a ∷ xs) (range_more (a + 1) n ∙ ap (λ (b : ℕ). range_with_len (a + 1) n ++ b ∷ []) there))

-- and so does a filter of it
pub filter_more : (p : ℕ → Bool) (n : ℕ) → filter p (range_with_len 0 (n + 1)) ≡ filter p (range_with_len 0 n) ++ cond (p n) (n ∷ []) []
filter_more p n =
    let zero_n : 0 + n ≡ n = omega arith in
    ap (filter p) (range_more 0 n ∙ ap (λ (b : ℕ). range_with_len 0 n ++ b ∷ []) zero_n) ∙ filter-append p (range_with_len 0 n) (n ∷ [])

-- what passes lies in the range, and ascends
pub passed_within : (p : ℕ → Bool) (a n i : ℕ) → i < length (filter p (range_with_len a n))
    → (a ≤ get_or (filter p (range_with_len a n)) i 0) × (get_or (filter p (range_with_len a n)) i 0 < a + n) × (p (get_or (filter p (range_with_len a n)) i 0) ≡ true)
passed_within p a zero i within = absurd (omega arith)
passed_within p a (suc n) i within = by_first (p a) refl (λ i within. passed_within p (a + 1) n i within) i within
  where
    by_first : (t : Bool) → p a ≡ t
        → ((i : ℕ) → i < length (filter p (range_with_len (a + 1) n))
        → (a + 1 ≤ get_or (filter p (range_with_len (a + 1) n)) i 0) × (get_or (filter p (range_with_len (a + 1) n)) i 0 < a + 1 + n) × (p (get_or (filter p (range_with_len (a + 1) n)) i 0) ≡ true))
        → (i : ℕ) → i < length (cond t (a ∷ filter p (range_with_len (a + 1) n)) (filter p (range_with_len (a + 1) n)))
        → (a ≤ get_or (cond t (a ∷ filter p (range_with_len (a + 1) n)) (filter p (range_with_len (a + 1) n))) i 0)
        × (get_or (cond t (a ∷ filter p (range_with_len (a + 1) n)) (filter p (range_with_len (a + 1) n))) i 0 < a + suc n)
        × (p (get_or (cond t (a ∷ filter p (range_with_len (a + 1) n)) (filter p (range_with_len (a + 1) n))) i 0) ≡ true)
    by_first true is more zero within = (omega arith, omega arith, is)
    by_first true is more (suc i) within =
        let within' : i < length (filter p (range_with_len (a + 1) n)) = omega arith in
        let h = more i within' in
        let low = h.0 in let high = h.1 in
        (omega arith, omega arith, h.2)
    by_first false is more i within =
        let h = more i within in
        let low = h.0 in let high = h.1 in
        (omega arith, omega arith, h.2)

pub passed_ascend : (p : ℕ → Bool) (a n i j : ℕ) → i < j → j < length (filter p (range_with_len a n)) → get_or (filter p (range_with_len a n)) i 0 < get_or (filter p (range_with_len a n)) j 0
passed_ascend p a zero i j less within = absurd (omega arith)
passed_ascend p a (suc n) i j less within = by_first (p a) (λ i j less within. passed_ascend p (a + 1) n i j less within) i j less within
  where
    by_first : (t : Bool) → ((i j : ℕ) → i < j → j < length (filter p (range_with_len (a + 1) n)) → get_or (filter p (range_with_len (a + 1) n)) i 0 < get_or (filter p (range_with_len (a + 1) n)) j 0)
        → (i j : ℕ) → i < j → j < length (cond t (a ∷ filter p (range_with_len (a + 1) n)) (filter p (range_with_len (a + 1) n)))
        → get_or (cond t (a ∷ filter p (range_with_len (a + 1) n)) (filter p (range_with_len (a + 1) n))) i 0 < get_or (cond t (a ∷ filter p (range_with_len (a + 1) n)) (filter p (range_with_len (a + 1) n))) j 0
    by_first true more zero zero less within = absurd (omega arith)
    by_first true more zero (suc j) less within =
        let within' : j < length (filter p (range_with_len (a + 1) n)) = omega arith in
        let low = (passed_within p (a + 1) n j within').0 in
        omega arith
    by_first true more (suc i) zero less within = absurd (omega arith)
    by_first true more (suc i) (suc j) less within = more i j (omega arith) (omega arith)
    by_first false more i j less within = more i j less within

-- the marked blocks are places
pub seen_are_places : (blocks : ℕ) (seen : List Bool) → length seen ≤ blocks → get_or seen 0 false ≡ false → ArePlaces blocks (seen_places seen)
unfolding seen_places
seen_are_places blocks seen few first = record {
  each = λ i within. at i (passed_within (λ b. get_or seen b false) 0 (length seen) i within);
  ascend = λ i j less within. passed_ascend (λ b. get_or seen b false) 0 (length seen) i j less within;
}
  where
    at : (i : ℕ) → (0 ≤ get_or (filter (λ b. get_or seen b false) (range_with_len 0 (length seen))) i 0)
        × (get_or (filter (λ b. get_or seen b false) (range_with_len 0 (length seen))) i 0 < 0 + length seen)
        × (get_or seen (get_or (filter (λ b. get_or seen b false) (range_with_len 0 (length seen))) i 0) false ≡ true)
        → (1 ≤ get_or (filter (λ b. get_or seen b false) (range_with_len 0 (length seen))) i 0) × (get_or (filter (λ b. get_or seen b false) (range_with_len 0 (length seen))) i 0 < blocks)
    at i h =
        let place = get_or (filter (λ b. get_or seen b false) (range_with_len 0 (length seen))) i 0 in
        let high = h.1 in
        let some : place ≡ 0 → ⊥ = λ none. true≢false (sym (rw none at h.2) ∙ first) in
        (omega arith, omega arith)

-- how many are marked stays
pub length-marks : (seen : List Bool) (bs : List ℕ) → length (marks seen bs) ≡ length seen
unfolding marks
length-marks seen [] = refl
length-marks seen (b ∷ bs) = length-marks (mark seen b) bs ∙ one (nat_eq b 0)
  where
    one : (t : Bool) → length (cond t seen (set seen b true)) ≡ length seen
    one true = refl
    one false = length-set seen b true

-- an entry was taken
pub marks_next : (seen : List Bool) (key : ℕ) (root : Root) (old new : List (ℕ × Root)) (all : List Bool) → marks seen (names old) ≡ all → old ≡ (key, root) ∷ new
    → marks (mark seen root.0) (names new) ≡ all
unfolding marks
marks_next seen key root old new all before next = sym (ap (λ (items : List (ℕ × Root)). marks seen (names items)) next) ∙ before

-- none is left
pub marks_last : (seen : List Bool) (old : List (ℕ × Root)) (all : List Bool) → marks seen (names old) ≡ all → old ≡ [] → seen ≡ all
unfolding marks
marks_last seen old all before none = sym (ap (λ (items : List (ℕ × Root)). marks seen (names items)) none) ∙ before

-- The places that are found are those that the entries of a tree name.

-- what a write of true leaves
set_get : (seen : List Bool) (x b : ℕ) → get_or (set seen x true) b false ≡ true → (get_or seen b false ≡ true) ⊎ ((b < length seen) × (x ≡ b))
set_get [] x b is = inl is
set_get (s ∷ seen) zero zero is = inr (omega arith, refl)
set_get (s ∷ seen) zero (suc b) is = inl is
set_get (s ∷ seen) (suc x) zero is = inl is
set_get (s ∷ seen) (suc x) (suc b) is = ⊎_elim (λ old. inl old) (λ new. let less = new.0 in inr (omega arith, ap suc new.1)) (set_get seen x b is)

get_set : (seen : List Bool) (x b : ℕ) → get_or seen b false ≡ true → get_or (set seen x true) b false ≡ true
get_set [] x b is = is
get_set (s ∷ seen) zero zero is = refl
get_set (s ∷ seen) zero (suc b) is = is
get_set (s ∷ seen) (suc x) zero is = is
get_set (s ∷ seen) (suc x) (suc b) is = get_set seen x b is

none_marked : (n b : ℕ) → get_or (replicate n false) b false ≡ true → ⊥
none_marked zero b is = cc
none_marked (suc n) zero is = cc
none_marked (suc n) (suc b) is = none_marked n b is

-- what is marked was marked, or is named
marks_any : (seen : List Bool) (bs : List ℕ) (b : ℕ) → get_or (marks seen bs) b false ≡ true → (get_or seen b false ≡ true) ⊎ (list_any (λ x. nat_eq x b) bs ≡ true)
unfolding marks
marks_any seen [] b is = inl is
marks_any seen (x ∷ bs) b is = ⊎_elim (λ before. by_first (nat_eq x 0) before) (λ later. inr (or_right (nat_eq x b) (list_any (λ x. nat_eq x b) bs) later)) (marks_any (mark seen x) bs b is)
  where
    by_first : (t : Bool) → get_or (cond t seen (set seen x true)) b false ≡ true → (get_or seen b false ≡ true) ⊎ (list_any (λ y. nat_eq y b) (x ∷ bs) ≡ true)
    by_first true before = inl before
    by_first false before = ⊎_elim (λ old. inl old) (λ new. inr (or_left (nat_eq x b) (list_any (λ y. nat_eq y b) bs) (eq-eqb x b new.1))) (set_get seen x b before)

still_marked : (seen : List Bool) (bs : List ℕ) (b : ℕ) → get_or seen b false ≡ true → get_or (marks seen bs) b false ≡ true
unfolding marks
still_marked seen [] b is = is
still_marked seen (x ∷ bs) b is = still_marked (mark seen x) bs b (by_first (nat_eq x 0))
  where
    by_first : (t : Bool) → get_or (cond t seen (set seen x true)) b false ≡ true
    by_first true = is
    by_first false = get_set seen x b is

any_marks : (seen : List Bool) (bs : List ℕ) (b : ℕ) → 1 ≤ b → b < length seen → list_any (λ x. nat_eq x b) bs ≡ true → get_or (marks seen bs) b false ≡ true
unfolding marks
any_marks seen [] b some inside any = cc
any_marks seen (x ∷ bs) b some inside any = elim (or_cases (nat_eq x b) (list_any (λ x. nat_eq x b) bs) any) [
  | inl here ↦ still_marked (mark seen x) bs b (by_first (nat_eq x 0) refl (eqb-true x b here))
  | inr later ↦ any_marks (mark seen x) bs b some (subst (λ (n : ℕ). b < n) (sym (length-marks seen (x ∷ []))) inside) later
]
  where
    by_first : (t : Bool) → nat_eq x 0 ≡ t → x ≡ b → get_or (cond t seen (set seen x true)) b false ≡ true
    by_first true is same = let none = eqb-true x 0 is in absurd (omega arith)
    by_first false is same = subst (λ (y : ℕ). get_or (set seen y true) b false ≡ true) (sym same) (get_or-set_same seen b true false inside)

-- a number among those of a range that pass
any_passed : (p : ℕ → Bool) (a n b : ℕ) → list_any (λ x. nat_eq x b) (filter p (range_with_len a n)) ≡ true → (a ≤ b) × (b < a + n) × (p b ≡ true)
any_passed p a zero b any = cc
any_passed p a (suc n) b any = by_first (p a) refl any (λ later. any_passed p (a + 1) n b later)
  where
    by_first : (t : Bool) → p a ≡ t → list_any (λ x. nat_eq x b) (cond t (a ∷ filter p (range_with_len (a + 1) n)) (filter p (range_with_len (a + 1) n))) ≡ true
        → (list_any (λ x. nat_eq x b) (filter p (range_with_len (a + 1) n)) ≡ true → (a + 1 ≤ b) × (b < a + 1 + n) × (p b ≡ true))
        → (a ≤ b) × (b < a + suc n) × (p b ≡ true)
    by_first true is any more = elim (or_cases (nat_eq a b) (list_any (λ x. nat_eq x b) (filter p (range_with_len (a + 1) n))) any) [
      | inl here ↦ let same : a ≡ b = eqb-true a b here in (omega arith, omega arith, subst (λ (x : ℕ). p x ≡ true) same is)
      | inr later ↦ let rest = more later in let low = rest.0 in let high = rest.1 in (omega arith, omega arith, rest.2)
    ]
    by_first false is any more = let rest = more any in let low = rest.0 in let high = rest.1 in (omega arith, omega arith, rest.2)

-- what entries name
any_names : (b : ℕ) (entries : List Entry) → list_any (λ x. nat_eq x b) (map (λ (item : ℕ × Root). item.1.0) (map (item_of root_of) entries)) ≡ list_any (λ (e : Entry). nat_eq e.value b) entries
any_names b [] = refl
any_names b (e ∷ entries) = ap (λ (t : Bool). nat_eq e.value b || t) (any_names b entries)

-- but for the superblock, what is reached lies behind block 0
module _ (graph : Graph) (image : List (List ℕ)) (lawful : IsLawful graph) (paths : (q : ℕ) → (is_reached graph image q ≡ true) ↔ IsOnPath (16 * graph.nr) (next graph image) q) where
  past_on_path : (p : ℕ) → IsOnPath (16 * graph.nr) (next graph image) p → (role_of p ≡ 0 → ⊥) → 1 ≤ block_of p
  unfolding next
  past_on_path p start some = absurd (some (omega arith))
  past_on_path p (edge q p' below path leads) some =
      let same : pair (block_of q) (role_of q) ≡ q = omega arith in
      let there : IsReached graph image (block_of q) (role_of q) = record { block = omega arith; within = omega arith; found = subst (λ (x : ℕ). is_reached graph image x ≡ true) (sym same) ((paths q).1 path) } in
      let is : IsMet graph image lawful q = subst (λ (x : ℕ). IsMet graph image lawful x) same (met graph image lawful paths (block_of q) (role_of q) there) in
      let few = lawful.few_roles in
      holds_of_found (λ c. 1 ≤ block_of c) (λ (e : Edge). pair e.block e.role) (edges_of graph image q) p'
      (all_from (IsWithin graph) (λ (e : Edge). 1 ≤ block_of (pair e.block e.role)) (λ e inside. let from = inside.from_one in let known = inside.known in omega arith)
      (edges_of graph image q) (lawful.each (role_of q) (block_of q) (block_at image (block_of q)) is.known).within) leads

  pub reached_past : (b role : ℕ) → 1 ≤ role → IsReached graph image b role → 1 ≤ b
  reached_past b role some there =
      let few = there.within in
      let past = past_on_path (pair b role) ((paths (pair b role)).0 there.found) (λ zero. omega arith) in
      omega arith

module _ (image : List (List ℕ)) (root n : ℕ) (entries : List Entry) (given : items_below 8 root_of image 63 root ≡ map (item_of root_of) entries)
    (inside : AllByRecursion (λ (e : Entry). (1 ≤ e.value) × (e.value < n)) entries) where
  names_are : (b : ℕ) → list_any (λ x. nat_eq x b) (tree_names image root) ≡ list_any (λ (e : Entry). nat_eq e.value b) entries
  names_are b = ap (λ (items : List (ℕ × Root)). list_any (λ x. nat_eq x b) (map (λ (item : ℕ × Root). item.1.0) items)) given ∙ any_names b entries

  -- a place that is found is named
  found_named : (b : ℕ) → list_any (λ x. nat_eq x b) (places_named n (tree_names image root)) ≡ true → list_any (λ (e : Entry). nat_eq e.value b) entries ≡ true
  unfolding seen_places
  found_named b any =
      let seen = marks (replicate n false) (tree_names image root) in
      let passed = any_passed (λ b. get_or seen b false) 0 (length seen) b any in
      ⊎_elim (λ none. absurd (none_marked n b none)) (λ named. sym (names_are b) ∙ named) (marks_any (replicate n false) (tree_names image root) b passed.2)

  -- and one that is named is found
  named_found : (b : ℕ) → list_any (λ (e : Entry). nat_eq e.value b) entries ≡ true → list_any (λ x. nat_eq x b) (places_named n (tree_names image root)) ≡ true
  unfolding seen_places
  named_found b any =
      let is = any_value (λ b. (1 ≤ b) × (b < n)) b entries inside any in
      let low = is.0 in
      let high = is.1 in
      let number = length-replicate n false in
      let all = length-marks (replicate n false) (tree_names image root) ∙ number in
      kept_in (λ b. get_or (marks (replicate n false) (tree_names image root)) b false) 0 (length (marks (replicate n false) (tree_names image root))) b (omega arith) (omega arith)
      (any_marks (replicate n false) (tree_names image root) b low (omega arith) (names_are b ∙ any))

  pub found_are_named : (b : ℕ) → list_any (λ x. nat_eq x b) (places_named n (tree_names image root)) ≡ list_any (λ (e : Entry). nat_eq e.value b) entries
  found_are_named b = same_test _ _ (found_named b) (named_found b)

-- what entries name in a later role than the superblock's is inside
pub all_inside : (graph : Graph) (image : List (List ℕ)) (r n : ℕ) (entries : List Entry) → ((b : ℕ) → IsReached graph image b r → 1 ≤ b) → graph.nr ≤ n
    → AllByRecursion (λ (e : Entry). IsReached graph image e.value r) entries → AllByRecursion (λ (e : Entry). (1 ≤ e.value) × (e.value < n)) entries
all_inside graph image r n entries past room lead =
    all_from (λ (e : Entry). IsReached graph image e.value r) (λ (e : Entry). (1 ≤ e.value) × (e.value < n)) (λ e there. let below = there.block in (past e.value there, omega arith)) entries lead

-- the metadata's blocks are in the room for them
pub in_room : (image : List (List ℕ)) → faults Cache Whole image ≡ [] → IsLawful (cache_graph (block_at image 0)) → (cache_graph (block_at image 0)).nr ≤ room_of (length image)
unfolding cache_graph graph_of
in_room image none lawful =
    let inside = within image none in
    let most = lawful.few_blocks in
    omega arith
