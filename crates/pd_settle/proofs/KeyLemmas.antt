-- Keys below a node, by its children; and what their notes say of them.
use Rattle.std.proofs.Common.{◌≡◌, ◌⊎◌, inl, inr, ℕ, zero, suc, ◌≤◌, min, max, Bool, true, false, ◌&&◌, not, cond, nat_eq, nat_lt, List, [], ◌∷◌, ◌++◌, length, map, Option, Some, None, refl, sym, ◌∙◌, ap, arith, length-append, append_assoc, eq-eqb, ◌-◌, ◌<◌}
use Rattle.std.specs.Option.{is_some}
use Rattle.std.specs.List.{list_any, list_all, flat_map, AllByRecursion, slice_get}
use Rattle.std.proofs.lemmas.Bool.{or_left, or_right, both_ways, cases_lt, lt-ltb, le-ltb, and_parts, or_cases, ltb-true, eqb-true}
use Rattle.std.proofs.Math.Bool.{and-true}
use Rattle.std.proofs.lemmas.List.{append-nil}
use Rattle.pd_kinds.specs.Graph.{has_chain, gathered, is_child_in_range, are_children_in_range, Edge, Graph}
use Rattle.pd_kinds.proofs.NumberLemmas.{differ}
use Rattle.pd_kinds.proofs.ListLemmas.{none_passes, all_from}
use Rattle.pd_kinds.specs.Node.{is_ascending}
use Rattle.pd_kinds.specs.Lawful.{IsWithin}
use Rattle.pd_graph.specs.declared.notes.Note.{Note}
use Rattle.pd_graph.specs.Notes.{ends_note}
use Rattle.pd_settle.specs.Notes.{lower, higher, least_of, greatest_of, keys_note, join, joined, keeps_floor, keeps_ceiling, is_note_in_range, are_notes_in_range, capped}
use Rattle.pd_settle.proofs.ChainLemmas.{is_among, max_either}
use Rattle.pd_settle.specs.Looking.{blocks_of_edges}

flat_map_same : {X : Type 0} → (f g : ℕ → List X) (xs : List ℕ) → AllByRecursion (λ c. f c ≡ g c) xs → flat_map f xs ≡ flat_map g xs
flat_map_same f g [] all = refl
flat_map_same f g (x ∷ xs) all = rw (all.0, flat_map_same f g xs all.1) refl

no_child : (xs : List ℕ) → list_any (λ c. true) xs ≡ false → xs ≡ []
no_child [] none = refl
no_child (x ∷ xs) none = absurd (both_ways true none refl)

module _ {X : Type 0} (inner : ℕ → Bool) (down : ℕ → List ℕ) (own : ℕ → List X) where
  -- a deeper look finds no more where no chain is as long
  pub gathered_stable : (j p : ℕ) → has_chain down (suc j) p ≡ false → gathered inner down own (suc j) p ≡ gathered inner down own j p
  unfolding has_chain gathered
  gathered_stable zero p ends =
      ap (λ (cs : List ℕ). cond (inner p) (flat_map (gathered inner down own zero) cs) (own p)) (no_child (down p) ends)
  gathered_stable (suc j) p ends =
      ap (λ (ks : List X). cond (inner p) ks (own p))
      (flat_map_same (gathered inner down own (suc j)) (gathered inner down own j) (down p)
      (all_from (λ c. has_chain down (suc j) c ≡ false) (λ c. gathered inner down own (suc j) c ≡ gathered inner down own j c)
      (gathered_stable j) (down p) (none_passes (has_chain down (suc j)) (down p) ends)))

  -- so what stands below a node is what stands below its children
  pub gathered_step : (j p : ℕ) → has_chain down (suc j) p ≡ false
      → gathered inner down own j p ≡ cond (inner p) (flat_map (gathered inner down own j) (down p)) (own p)
  unfolding gathered
  gathered_step j p ends = sym (gathered_stable j p ends)

-- the least of two lists
lower-assoc : (a b c : Option ℕ) → lower (lower a b) c ≡ lower a (lower b c)
lower-assoc None b c = refl
lower-assoc (Some a) None c = refl
lower-assoc (Some a) (Some b) None = refl
lower-assoc (Some a) (Some b) (Some c) = ap (λ (n : ℕ). Some n) (omega arith)

pub least-append : (xs ys : List ℕ) → least_of (xs ++ ys) ≡ lower (least_of xs) (least_of ys)
least-append [] ys = refl
least-append (x ∷ xs) ys = ap (lower (Some x)) (least-append xs ys) ∙ sym (lower-assoc (Some x) (least_of xs) (least_of ys))

higher-assoc : (a b c : Option ℕ) → higher (higher a b) c ≡ higher a (higher b c)
higher-assoc None b c = refl
higher-assoc (Some a) None c = refl
higher-assoc (Some a) (Some b) None = refl
higher-assoc (Some a) (Some b) (Some c) = ap (λ (n : ℕ). Some n) (omega arith)

pub greatest-append : (xs ys : List ℕ) → greatest_of (xs ++ ys) ≡ higher (greatest_of xs) (greatest_of ys)
greatest-append [] ys = refl
greatest-append (x ∷ xs) ys = ap (higher (Some x)) (greatest-append xs ys) ∙ sym (higher-assoc (Some x) (greatest_of xs) (greatest_of ys))

-- the notes of two lists as one
pub same_notes : (least least' greatest greatest' : Option ℕ) (below below' height : ℕ) (in_range : Bool) → least ≡ least' → greatest ≡ greatest' → below ≡ below'
    → ◌≡◌ {A = Note} (record { least = least; greatest = greatest; below = below; height = height; in_range = in_range })
    (record { least = least'; greatest = greatest'; below = below'; height = height; in_range = in_range })
same_notes least least' greatest greatest' below below' height in_range e f g = rw (e, f, g) refl

pub join_keys : (xs ys : List ℕ) (h k : ℕ) (r s : Bool) → join (keys_note xs h r) (keys_note ys k s) ≡ keys_note (xs ++ ys) (max h k) true
join_keys xs ys h k r s =
    same_notes _ _ _ _ _ _ (max h k) true (sym (least-append xs ys)) (sym (greatest-append xs ys))
    (let both = length-append xs ys in omega arith)

-- the keys of children, by their notes
pub joined_keys : (keys : ℕ → List ℕ) (notes : ℕ → Note) (cs xs : List ℕ) (sum : Note) → sum ≡ keys_note xs sum.height sum.in_range
    → AllByRecursion (λ c. notes c ≡ keys_note (keys c) (notes c).height (notes c).in_range) cs
    → joined notes sum cs ≡ keys_note (xs ++ flat_map keys cs) (joined notes sum cs).height (joined notes sum cs).in_range
joined_keys keys notes [] xs sum same each = same ∙ ap (λ (ks : List ℕ). keys_note ks sum.height sum.in_range) (sym (append-nil xs))
joined_keys keys notes (c ∷ cs) xs sum same each =
    let both : join sum (notes c) ≡ keys_note (xs ++ keys c) (max sum.height (notes c).height) true =
    ap (λ (a : Note). join a (notes c)) same
    ∙ (ap (λ (b : Note). join (keys_note xs sum.height sum.in_range) b) each.0 ∙ join_keys xs (keys c) sum.height (notes c).height sum.in_range (notes c).in_range) in
    let rest = joined_keys keys notes cs (xs ++ keys c) (join sum (notes c)) both each.1 in
    rest
    ∙ ap (λ (ks : List ℕ). keys_note ks (joined notes (join sum (notes c)) cs).height (joined notes (join sum (notes c)) cs).in_range) (append_assoc xs (keys c) (flat_map keys cs))

-- the height is at least that of each child
pub joined_starts : (notes : ℕ → Note) (cs : List ℕ) (sum : Note) → sum.height ≤ (joined notes sum cs).height
joined_starts notes [] sum = omega arith
joined_starts notes (c ∷ cs) sum = let rest = joined_starts notes cs (join sum (notes c)) in omega arith

pub joined_above : (notes : ℕ → Note) (cs : List ℕ) (sum : Note) → AllByRecursion (λ c. (notes c).height ≤ (joined notes sum cs).height) cs
joined_above notes [] sum = tt
joined_above notes (c ∷ cs) sum =
    let first = joined_starts notes cs (join sum (notes c)) in
    (omega arith, joined_above notes cs (join sum (notes c)))

-- and no more than all allow
pub joined_within : (notes : ℕ → Note) (most : ℕ) (cs : List ℕ) (sum : Note) → sum.height ≤ most → AllByRecursion (λ c. (notes c).height ≤ most) cs
    → (joined notes sum cs).height ≤ most
joined_within notes most [] sum start each = start
joined_within notes most (c ∷ cs) sum start each =
    let first = each.0 in
    joined_within notes most cs (join sum (notes c)) (omega arith) each.1

-- and it is that of one of them
pub joined_is : (notes : ℕ → Note) (cs : List ℕ) (sum : Note)
    → ((joined notes sum cs).height ≡ sum.height) ⊎ ((c : ℕ) × (is_among c cs ≡ true) × ((joined notes sum cs).height ≡ (notes c).height))
joined_is notes [] sum = inl refl
joined_is notes (c ∷ cs) sum = elim (joined_is notes cs (join sum (notes c))) [
  | inl e ↦ elim (max_either sum.height (notes c).height) [
    | inl a ↦ inl (e ∙ a)
    | inr b ↦ inr (c, or_left (nat_eq c c) _ (eq-eqb c c refl), e ∙ b)
  ]
  | inr one ↦ inr (one.0, or_right (nat_eq c one.0) _ one.1, one.2)
]

-- a floor and a ceiling, by the least and the greatest key
floor_two : (low x : ℕ) (least : Option ℕ) → (not (nat_lt x low) && keeps_floor low least) ≡ keeps_floor low (lower (Some x) least)
floor_two low x None = and-true (not (nat_lt x low))
floor_two low x (Some m) = elim (cases_lt x low) [
  | inl a ↦ rw (lt-ltb x low a, lt-ltb (min x m) low (omega arith)) refl
  | inr a ↦ elim (cases_lt m low) [
    | inl b ↦ rw (le-ltb x low a, lt-ltb m low b, lt-ltb (min x m) low (omega arith)) refl
    | inr b ↦ rw (le-ltb x low a, le-ltb m low b, le-ltb (min x m) low (omega arith)) refl
  ]
]

pub floor_kept : (low : ℕ) (keys : List ℕ) → list_all (λ k. not (nat_lt k low)) keys ≡ keeps_floor low (least_of keys)
floor_kept low [] = refl
floor_kept low (x ∷ xs) = ap (λ (b : Bool). not (nat_lt x low) && b) (floor_kept low xs) ∙ floor_two low x (least_of xs)

ceiling_two : (high x : ℕ) (greatest : Option ℕ) → (nat_lt x high && keeps_ceiling (Some high) greatest) ≡ keeps_ceiling (Some high) (higher (Some x) greatest)
ceiling_two high x None = and-true (nat_lt x high)
ceiling_two high x (Some m) = elim (cases_lt x high) [
  | inr a ↦ rw (le-ltb x high a, le-ltb (max x m) high (omega arith)) refl
  | inl a ↦ elim (cases_lt m high) [
    | inl b ↦ rw (lt-ltb x high a, lt-ltb m high b, lt-ltb (max x m) high (omega arith)) refl
    | inr b ↦ rw (lt-ltb x high a, le-ltb m high b, le-ltb (max x m) high (omega arith)) refl
  ]
]

pub ceiling_kept : (high : ℕ) (keys : List ℕ) → list_all (λ k. nat_lt k high) keys ≡ keeps_ceiling (Some high) (greatest_of keys)
ceiling_kept high [] = refl
ceiling_kept high (x ∷ xs) = ap (λ (b : Bool). nat_lt x high && b) (ceiling_kept high xs) ∙ ceiling_two high x (greatest_of xs)

some_first : (x : ℕ) (o : Option ℕ) → is_some (lower (Some x) o) ≡ true
some_first x None = refl
some_first x (Some m) = refl

some_kept : (keys : List ℕ) → not (nat_eq (length keys) 0) ≡ is_some (least_of keys)
some_kept [] = refl
some_kept (x ∷ xs) = rw (some_first x (least_of xs)) (ap not (differ (suc (length xs)) 0 (λ e. absurd (omega arith))))

pub range_kept : (low : ℕ) (high : Option ℕ) (keys : List ℕ) (h : ℕ) (r : Bool) → is_child_in_range low high keys ≡ is_note_in_range low high (keys_note keys h r)
range_kept low None keys h r =
    rw (some_kept keys, floor_kept low keys, and-true (keeps_floor low (least_of keys))) refl
range_kept low (Some high) keys h r =
    rw (some_kept keys, floor_kept low keys, ceiling_kept high keys) refl

-- the children of a node are in range, by their notes
pub ranges_kept : (keys : ℕ → List ℕ) (notes : ℕ → Note) (lows cs : List ℕ) → AllByRecursion (λ c. notes c ≡ keys_note (keys c) (notes c).height (notes c).in_range) cs
    → are_children_in_range lows (map keys cs) ≡ are_notes_in_range notes lows cs
unfolding are_children_in_range
ranges_kept keys notes [] cs each = refl
ranges_kept keys notes (low ∷ []) [] each = refl
ranges_kept keys notes (low ∷ high ∷ lows) [] each = refl
ranges_kept keys notes (low ∷ []) (c ∷ cs) each =
    range_kept low None (keys c) (notes c).height (notes c).in_range ∙ ap (is_note_in_range low None) (sym each.0)
ranges_kept keys notes (low ∷ high ∷ lows) (c ∷ cs) each =
    ap (λ (b : Bool). b && are_children_in_range (high ∷ lows) (map keys cs))
    (range_kept low (Some high) (keys c) (notes c).height (notes c).in_range ∙ ap (is_note_in_range low (Some high)) (sym each.0))
    ∙ ap (λ (b : Bool). is_note_in_range low (Some high) (notes c) && b) (ranges_kept keys notes (high ∷ lows) cs each.1)

-- The keys of a leaf ascend: the first is the least, and the last the greatest. Children lie within.

least_first : (x : ℕ) (xs : List ℕ) → is_ascending (x ∷ xs) ≡ true → least_of (x ∷ xs) ≡ Some x
unfolding is_ascending
least_first x [] up = refl
least_first x (y ∷ ys) up =
    let parts = and_parts (nat_lt x y) (is_ascending (y ∷ ys)) up in
    let less = ltb-true x y parts.0 in
    ap (lower (Some x)) (least_first y ys parts.1) ∙ ap (λ (n : ℕ). Some n) (let e : min x y ≡ x = omega arith in e)

greatest_last : (x : ℕ) (xs : List ℕ) → is_ascending (x ∷ xs) ≡ true
    → (g : ℕ) × (greatest_of (x ∷ xs) ≡ Some g) × (x ≤ g) × (slice_get (x ∷ xs) (length xs) ≡ Some g)
unfolding is_ascending
greatest_last x [] up = (x, refl, omega arith, refl)
greatest_last x (y ∷ ys) up =
    let parts = and_parts (nat_lt x y) (is_ascending (y ∷ ys)) up in
    let less = ltb-true x y parts.0 in
    let rest = greatest_last y ys parts.1 in
    let more = rest.2 in
    (rest.0, ap (higher (Some x)) rest.1 ∙ ap (λ (n : ℕ). Some n) (let e : max x rest.0 ≡ rest.0 = omega arith in e), omega arith, rest.3)

pub least_at : (xs : List ℕ) → is_ascending xs ≡ true → slice_get xs 0 ≡ least_of xs
least_at [] up = refl
least_at (x ∷ xs) up = sym (least_first x xs up)

pub greatest_at : (xs : List ℕ) → is_ascending xs ≡ true → slice_get xs (length xs - 1) ≡ greatest_of xs
greatest_at [] up = refl
greatest_at (x ∷ xs) up =
    let last = greatest_last x xs up in
    ap (slice_get (x ∷ xs)) (let e : suc (length xs) - 1 ≡ length xs = omega arith in e) ∙ (last.3 ∙ sym last.1)

pub ends_are_noted : (xs : List ℕ) → is_ascending xs ≡ true → length xs ≤ 338 → ends_note xs ≡ keys_note xs 1 true
ends_are_noted xs up few =
    let c : length xs ≡ capped (length xs) = omega arith in
    same_notes _ _ _ _ _ _ 1 true (least_at xs up) (greatest_at xs up) c

-- a block that an edge leads to is one of those that there are
pub among_within : (graph : Graph) (edges : List Edge) (c : ℕ) → AllByRecursion (IsWithin graph) edges → list_any (λ d. nat_eq d c) (blocks_of_edges edges) ≡ true
    → c < graph.nr
among_within graph [] c all leads = absurd (both_ways _ refl leads)
among_within graph (x ∷ xs) c all leads = elim (or_cases (nat_eq x.block c) _ leads) [
  | inl same ↦ let e = eqb-true x.block c same in let first = all.0.below in omega arith
  | inr later ↦ among_within graph xs c all.1 later
]
