-- Nodes, arrays, entries, superblocks and rules: what the crates above all know of them.
use Rattle.std.proofs.Common.{Bool, List, [], arith, false, inl, inr, map, nat_lt, refl, true, ℕ, ◌++◌, ◌+◌, ◌-◌, ◌/◌, ◌<◌, ◌∷◌, ◌≡◌, ◌≤◌}
use Rattle.std.proofs.lemmas.Bool.{and_from, and_parts, cases_lt}
use Rattle.std.proofs.lemmas.Bool.Decides.{nat_tests}
use Rattle.std.proofs.lemmas.Nat.{le-div}
use Rattle.std.specs.List.{list_any}
use Rattle.pd_kinds.specs.Array.{array_max, is_array_shape_bad, max_words, word_count}
use Rattle.pd_kinds.specs.Graph.{Edge}
use Rattle.pd_kinds.specs.Layout.{Layout, copy, graph_of, is_bad, layout_bad}
use Rattle.pd_kinds.specs.Meaning.{Mapping}
use Rattle.pd_kinds.specs.Node.{Entry, is_ascending, max_entries}
use Rattle.pd_kinds.specs.Rule.{all_rules}
use Rattle.pd_kinds.specs.ThinFormat.{held_edges, mapped_block, mapped_time, thin_graph, thin_layout, thin_fields, thin_super_edges}
use Rattle.pd_kinds.specs.declared.superblocks.SmRoot.{SmRoot}
use Rattle.pd_kinds.specs.declared.rule.Rule.{Rule}
use Rattle.pd_kinds.proofs.KindsListLemmas.{none_passes}

-- the words that are counted are at most those that have room
pub counted_below : (size : ℕ) (b : List ℕ) (i : ℕ) → i < word_count size b → (array_max b ≡ max_words size) × (i < array_max b)
unfolding word_count is_array_shape_bad
counted_below size b i within = (grind (arith, nat_tests), grind (arith, nat_tests))

pub few_words : (size : ℕ) (b : List ℕ) → word_count size b ≤ max_words size
few_words size b = elim (cases_lt 0 (word_count size b)) [
  | inl some ↦ let last = counted_below size b (word_count size b - 1) (omega arith) in omega (arith, last.0, last.1)
  | inr none ↦ omega arith
]

-- the room of a leaf
pub room_some : (size : ℕ) → size ≤ 24 → 1 ≤ max_entries size
room_some size small =
    let first : 127 ≤ 4064 / (8 + size) = le-div 127 4064 (8 + size) (omega arith) (omega arith) in
    let second : 1 ≤ 4064 / (8 + size) / 3 = le-div 1 (4064 / (8 + size)) 3 (omega arith) (omega arith) in
    omega arith

-- parts of ascending numbers ascend
pub asc_tail : (x : ℕ) (xs : List ℕ) → is_ascending (x ∷ xs) ≡ true → is_ascending xs ≡ true
unfolding is_ascending
asc_tail x [] asc = refl
asc_tail x (y ∷ xs) asc = (and_parts (nat_lt x y) (is_ascending (y ∷ xs)) asc).1

pub asc_left : (xs ys : List ℕ) → is_ascending (xs ++ ys) ≡ true → is_ascending xs ≡ true
unfolding is_ascending
asc_left [] ys asc = refl
asc_left (x ∷ []) ys asc = refl
asc_left (x ∷ y ∷ xs) ys asc =
    let parts = and_parts (nat_lt x y) (is_ascending (y ∷ (xs ++ ys))) asc in
    and_from (nat_lt x y) _ parts.0 (asc_left (y ∷ xs) ys parts.1)

pub asc_right : (xs ys : List ℕ) → is_ascending (xs ++ ys) ≡ true → is_ascending ys ≡ true
asc_right [] ys asc = asc
asc_right (x ∷ xs) ys asc = asc_right xs ys (asc_tail x (xs ++ ys) asc)

-- the edges of a superblock, or a copy of one, that breaks no rule
pub super_copy_edges : (roles nr data_blocks role place : ℕ) (table : ℕ → Layout) (bad : ℕ → List ℕ → Rule → Bool) (edges : List ℕ → List Edge) (block : List ℕ) → table role ≡ copy bad edges
    → ((rule : Rule) → (graph_of roles nr data_blocks table).bad role place block rule ≡ false) → (graph_of roles nr data_blocks table).edges role place block ≡ edges block
unfolding graph_of is_bad
super_copy_edges roles nr data_blocks role place table bad edges block is sound =
    rw (none_passes (layout_bad nr role (table role) place block) all_rules sound, is) refl

pub super_edges : (block : List ℕ) → ((rule : Rule) → (thin_graph block).bad 0 0 block rule ≡ false) → (thin_graph block).edges 0 0 block ≡ thin_super_edges (thin_fields block)
unfolding thin_graph thin_layout
super_edges block sound = super_copy_edges 11 _ _ 0 0 (thin_layout (thin_fields block).meta_map.blocks (thin_fields block).data_map.blocks) _ (λ b. thin_super_edges (thin_fields b)) block refl sound

pub held_edges_are : (block held : List ℕ) (place : ℕ) → ((rule : Rule) → (thin_graph block).bad 1 place held rule ≡ false) → (thin_graph block).edges 1 place held ≡ held_edges held
unfolding thin_graph thin_layout
held_edges_are block held place sound = super_copy_edges 11 _ _ 1 place (thin_layout (thin_fields block).meta_map.blocks (thin_fields block).data_map.blocks) _ held_edges held refl sound

-- a mapping by its entry
abbrev pub the_mapping : Entry → Mapping
the_mapping e = record { virtual_block = e.key; data_block = mapped_block e.value; time = mapped_time e.value }

-- the blocks that a row of entries names
abbrev pub values_of : List Entry → List ℕ
values_of row = map (λ (e : Entry). e.value) row

-- no rule is broken
pub none_broken : (bad : Rule → Bool) → ((rule : Rule) → bad rule ≡ false) → (rules : List Rule) → list_any bad rules ≡ false
none_broken bad holds [] = refl
none_broken bad holds (rule ∷ rules) = rw (holds rule) (none_broken bad holds rules)

pub meta_root : (blocks place a b c d : ℕ) → a ≡ b → c ≡ d
    → ◌≡◌ {A = SmRoot} (record { blocks = blocks; allocated = a; bitmap_root = place; overflow_root = c }) (record { blocks = blocks; allocated = b; bitmap_root = place; overflow_root = d })
meta_root blocks place a b c d p q = cc

pub data_blocks_are : (first : List ℕ) → (thin_graph first).data_blocks ≡ (thin_fields first).data_map.blocks
unfolding thin_graph graph_of
data_blocks_are first = refl
