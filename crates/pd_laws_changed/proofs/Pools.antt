-- A pool's format sees the same in two images that are alike, in each block and role.
use Rattle.std.proofs.Common.{◌≡◌, inl, inr, ℕ, ◌+◌, ◌-◌, true, nat_lt, cond, List, [], take, drop, get_or, refl, sym, ap, ap₂, ◌∙◌, arith, zero, suc, ◌≤◌, Bool, false, not, ◌∷◌, length, ◌*◌, ◌/◌, ◌%◌, ◌^◌, Option, Some, nat_eq}
use Rattle.std.proofs.lemmas.Bool.{cases_lt, lt-ltb, both_ways, cond_both, eqb-false}
use Rattle.std.proofs.lemmas.List.{drop-drop, get_or-drop}
use Rattle.std.proofs.Math.Path.{fun_ext}
use Rattle.std.specs.Int.{bit_at}
use Rattle.std.specs.Option.{option_and_then, option_map}
use Rattle.std.specs.List.{AllByRecursion}
use Rattle.pd_kinds.specs.declared.kind.Kind.TheVariants.{Thin}
use Rattle.pd_kinds.specs.declared.rule.Rule.{Rule}
use Rattle.pd_kinds.specs.Field.{has_checksum, le}
use Rattle.pd_kinds.specs.Layout.{graph_of}
use Rattle.pd_kinds.specs.Super.{salt_of}
use Rattle.pd_kinds.specs.ThinFormat.{thin_graph, thin_layout, thin_held_bad, ThinFields, thin_fields, thin_table, thin_super_bad, thin_super_tests, are_thin_sizes_bad, held_edges, thin_held_edges, thin_super_edges}
use Rattle.pd_kinds.proofs.FieldLemmas.{le_same}
use Rattle.pd_kinds.specs.declared.kind.Kind.{Kind}
use Rattle.pd_kinds.specs.Graph.{Graph, block_at, Edge}
use Rattle.pd_kinds.specs.Rule.{alone}
use Rattle.pd_kinds.specs.Stages.{HasCleanSuper, thin_checked, IsReached}
use Rattle.pd_kinds.specs.Bitmap.{two_bits_of, index_block_at}
use Rattle.pd_kinds.specs.Node.{Entry}
use Rattle.pd_kinds.specs.Trees.{count_of_bits, stored_in, stored_meta_in, stored_data_in, value_of_key}
use Rattle.pd_kinds.specs.Whole.{Roots, roots_in, thin_roots}
use Rattle.pd_kinds.proofs.KindLemmas.{held_edges_are, super_edges}
use Rattle.pd_kinds.specs.declared.rule.Rule.TheVariants as r
use Rattle.pd_tree.proofs.SearchableLemmas.{at_optional}
use Rattle.pd_laws_changed.specs.Known.{AreAlike}
use Rattle.pd_laws_changed.proofs.Seen.{IsNoCopy, IsSameIn, breaks_checksum, same_broken, same_copy}
use Rattle.pd_laws_changed.specs.KnownPool.{IsKnown}

-- What a pool's superblock says past its flags is the same in two blocks that differ in their first eight bytes alone.

-- the fields but the flags
abbrev pub unflagged : ThinFields → ThinFields
unflagged fields = record fields { flags = 0 }

module _ (block other : List ℕ) (same : drop 8 other ≡ drop 8 block) where
  -- a byte from offset 8 on
  pub byte_is : (i : ℕ) → get_or other (8 + i) 0 ≡ get_or block (8 + i) 0
  byte_is i = sym (get_or-drop 8 other i 0) ∙ (ap (λ (bytes : List ℕ). get_or bytes i 0) same ∙ get_or-drop 8 block i 0)

  -- a number there
  pub number_is : (o k : ℕ) → le other (8 + o) k ≡ le block (8 + o) k
  number_is o k = le_same other block (8 + o) (8 + o) k (λ i _. let place : 8 + o + i ≡ 8 + (o + i) = omega arith in rw place (byte_is (o + i)))

  pub numbers_are : (o k : ℕ) → cond (nat_lt o 8) 0 (le other o k) ≡ cond (nat_lt o 8) 0 (le block o k)
  numbers_are o k = elim (cases_lt o 8) [
    | inl before ↦ rw (lt-ltb o 8 before) refl
    | inr past ↦ let place : 8 + (o - 8) ≡ o = omega arith in ap (λ (n : ℕ). cond (nat_lt o 8) 0 n) (rw place at (number_is (o - 8) k))
  ]

  pub bytes_are : (o k : ℕ) → cond (nat_lt o 8) [] (take k (drop o other)) ≡ cond (nat_lt o 8) [] (take k (drop o block))
  bytes_are o k = elim (cases_lt o 8) [
    | inl before ↦ rw (lt-ltb o 8 before) refl
    | inr past ↦
        let place : 8 + (o - 8) ≡ o = omega arith in
        let moved : drop o other ≡ drop o block = rw place at (sym (drop-drop (o - 8) 8 other) ∙ (ap (drop (o - 8)) same ∙ drop-drop (o - 8) 8 block)) in
        ap (λ (bytes : List ℕ). cond (nat_lt o 8) [] (take k bytes)) moved
  ]

  -- the fields
  pub fields_are : unflagged (thin_fields other) ≡ unflagged (thin_fields block)
  fields_are =
      ap₂ (λ (number : ℕ → ℕ → ℕ) (bytes : ℕ → ℕ → List ℕ). unflagged (thin_table number bytes))
      (fun_ext (λ o. fun_ext (numbers_are o))) (fun_ext (λ o. fun_ext (bytes_are o)))

  pub graph_is : thin_graph other ≡ thin_graph block
  unfolding thin_graph
  graph_is = ap (λ (fields : ThinFields).
      graph_of 11 fields.meta_map.blocks fields.data_map.blocks (thin_layout fields.meta_map.blocks fields.data_map.blocks)) fields_are

  module _ (has : has_checksum block (salt_of Thin) ≡ true) (also : has_checksum other (salt_of Thin) ≡ true) where
    -- the rules of a superblock and of its copy
    pub super_is : (size : ℕ) (broken : Rule) → thin_super_bad size other broken ≡ thin_super_bad size block broken
    unfolding thin_super_bad thin_super_tests are_thin_sizes_bad
    super_is size broken =
        rw (
          has,
          also,
          number_is 24 8,
          number_is 0 8,
          number_is 56 8,
          number_is 184 8,
          number_is 48 8,
          number_is 312 8,
          number_is 320 8,
          number_is 72 8,
          number_is 80 8,
          number_is 200 8,
          number_is 208 8,
          number_is 352 4,
          number_is 32 4,
        ) refl

    pub held_is : (nr place : ℕ) (broken : Rule) → thin_held_bad nr place other broken ≡ thin_held_bad nr place block broken
    unfolding thin_held_bad
    held_is nr place broken = rw (has, also, number_is 24 8, number_is 0 8, number_is 312 8, number_is 320 8) refl

-- behind the superblock and its copy, no role is that of either
no_copy : (nr data_blocks role : ℕ) → IsNoCopy (thin_layout nr data_blocks (suc (suc role)))
unfolding thin_layout
no_copy nr data_blocks zero = tt
no_copy nr data_blocks (suc zero) = tt
no_copy nr data_blocks (suc (suc zero)) = tt
no_copy nr data_blocks (suc (suc (suc zero))) = tt
no_copy nr data_blocks (suc (suc (suc (suc zero)))) = tt
no_copy nr data_blocks (suc (suc (suc (suc (suc zero))))) = tt
no_copy nr data_blocks (suc (suc (suc (suc (suc (suc zero)))))) = tt
no_copy nr data_blocks (suc (suc (suc (suc (suc (suc (suc zero))))))) = tt
no_copy nr data_blocks (suc (suc (suc (suc (suc (suc (suc (suc zero)))))))) = tt
no_copy nr data_blocks (suc (suc (suc (suc (suc (suc (suc (suc (suc role))))))))) = tt

-- the checksum of a superblock that breaks no rule
checksum_holds : (has : Bool) (others : Rule → Bool) → alone r.Checksum (not has) others r.Checksum ≡ false → has ≡ true
unfolding alone
checksum_holds true others sound = refl
checksum_holds false others sound = absurd (both_ways true sound refl)

pub sound_checksum : (size : ℕ) (block : List ℕ) → ((broken : Rule) → thin_super_bad size block broken ≡ false) → has_checksum block (salt_of Thin) ≡ true
unfolding thin_super_bad
sound_checksum size block sound = checksum_holds _ _ (sound r.Checksum)

pub clean_checksum : (image : List (List ℕ)) → HasCleanSuper (thin_checked image) image → has_checksum (block_at image 0) (salt_of Thin) ≡ true
unfolding thin_checked
clean_checksum [] clean = absurd clean
clean_checksum (block ∷ blocks) clean = sound_checksum (length (block ∷ blocks)) block clean

-- a block with the checksum of a superblock breaks a rule behind the two roles
pub breaks_there : (block : List ℕ) (role : ℕ) → has_checksum block (salt_of Thin) ≡ true → (thin_graph block).bad (suc (suc role)) 0 block r.Checksum ≡ true
unfolding thin_graph graph_of
breaks_there block role has =
    breaks_checksum Thin _ (suc (suc role)) 0 _ block r.Checksum (no_copy (thin_fields block).meta_map.blocks (thin_fields block).data_map.blocks role) has

-- block 0 of both
first_same : (block other : List ℕ) → drop 8 other ≡ drop 8 block → has_checksum block (salt_of Thin) ≡ true → has_checksum other (salt_of Thin) ≡ true
    → (role : ℕ) → IsSameIn (thin_graph block) role 0 block other
unfolding thin_graph thin_layout
first_same block other same has also zero =
    let nr = (thin_fields block).meta_map.blocks in
    same_copy 11 nr (thin_fields block).data_map.blocks (thin_layout nr (thin_fields block).data_map.blocks) 0 0 block other
    (λ place b. thin_super_bad nr b) (λ b. thin_super_edges (thin_fields b)) refl (super_is block other same has also nr)
    (ap (λ (fields : ThinFields). thin_super_edges fields) (fields_are block other same))
first_same block other same has also (suc zero) =
    let nr = (thin_fields block).meta_map.blocks in
    same_copy 11 nr (thin_fields block).data_map.blocks (thin_layout nr (thin_fields block).data_map.blocks) 1 0 block other
    (thin_held_bad nr) held_edges refl (held_is block other same has also nr 0)
    (ap (λ (fields : ThinFields). thin_held_edges fields) (fields_are block other same))
first_same block other same has also (suc (suc role)) =
    let nr = (thin_fields block).meta_map.blocks in
    same_broken 11 nr (thin_fields block).data_map.blocks (thin_layout nr (thin_fields block).data_map.blocks) (suc (suc role)) 0 block other
    Thin (no_copy nr (thin_fields block).data_map.blocks role) has also

-- a block behind block 0
at_drop : (image : List (List ℕ)) (b : ℕ) → block_at image (suc b) ≡ block_at (drop 1 image) b
at_drop [] b = refl
at_drop (block ∷ blocks) b = refl

module _ {kind : Kind} (image other : List (List ℕ)) (alike : AreAlike kind image other) where
  rest_same : (b : ℕ) → block_at other (suc b) ≡ block_at image (suc b)
  rest_same b = at_drop other b ∙ (ap (λ (blocks : List (List ℕ)). block_at blocks b) alike.blocks ∙ sym (at_drop image b))

  -- a block behind block 0 is the same
  pub rest : (b : ℕ) → 1 ≤ b → block_at other b ≡ block_at image b
  rest zero some = absurd (omega arith)
  rest (suc b) some = rest_same b

  -- all blocks are from offset 8 on
  pub bytes_same : (b : ℕ) → drop 8 (block_at other b) ≡ drop 8 (block_at image b)
  bytes_same zero = alike.bytes
  bytes_same (suc b) = ap (drop 8) (rest_same b)

  -- and so is what a format sees of it, if that is so of block 0
  pub same_from : (graph : Graph) → ((role : ℕ) → IsSameIn graph role 0 (block_at image 0) (block_at other 0)) → (role b : ℕ) → IsSameIn graph role b (block_at image b) (block_at other b)
  same_from graph first role zero = first role
  same_from graph first role (suc b) = rw (rest_same b) (record { bad = λ _. refl; is_inner = refl; edges = refl; keys = refl; data_refs = refl })

pub same : (image other : List (List ℕ)) → AreAlike Thin image other → has_checksum (block_at image 0) (salt_of Thin) ≡ true
    → (role b : ℕ) → IsSameIn (thin_graph (block_at image 0)) role b (block_at image b) (block_at other b)
same image other alike has =
    same_from image other alike (thin_graph (block_at image 0)) (first_same (block_at image 0) (block_at other 0) alike.bytes has alike.checksum)

-- The stored counts of two images whose blocks are the same from offset 8 on.

module _ (image other : List (List ℕ)) (bytes : (b : ℕ) → drop 8 (block_at other b) ≡ drop 8 (block_at image b)) where
  bits_are : (place e : ℕ) → two_bits_of (block_at other place) e ≡ two_bits_of (block_at image place) e
  unfolding two_bits_of
  bits_are place e =
      let at : 8 + (8 + e / 4) ≡ 16 + e / 4 = omega arith in
      ap (λ (byte : ℕ). 2 * bit_at byte (2 * (e % 4)) + bit_at byte (2 * (e % 4) + 1)) (rw at at (byte_is (block_at image place) (block_at other place) (bytes place) (8 + e / 4)))

  stored_are : (bitmap : Option ℕ) (overflow : List Entry) (b : ℕ) → stored_in other bitmap overflow b ≡ stored_in image bitmap overflow b
  unfolding stored_in
  stored_are bitmap overflow b = λ i. option_and_then (λ (place : ℕ). count_of_bits (bits_are place (b % 16320) i) overflow b) bitmap

  named_are : (index k : ℕ) → index_block_at (block_at other index) k ≡ index_block_at (block_at image index) k
  named_are index k =
      let at : 8 + (8 + 16 * k) ≡ 16 + 16 * k = omega arith in
      rw at at (number_is (block_at image index) (block_at other index) (bytes index) (8 + 16 * k) 8)

  pub stored_meta_is : (index : ℕ) (overflow : List Entry) → stored_meta_in other index overflow ≡ stored_meta_in image index overflow
  unfolding stored_meta_in
  stored_meta_is index overflow = fun_ext (λ b.
      ap (λ (place : ℕ). stored_in other (Some place) overflow b) (named_are index (b / 16320))
      ∙ stored_are (Some (index_block_at (block_at image index) (b / 16320))) overflow b)

  pub stored_data_is : (index overflow : List Entry) → stored_data_in other index overflow ≡ stored_data_in image index overflow
  unfolding stored_data_in
  stored_data_is index overflow = fun_ext (λ b. stored_are (option_map (λ (v : ℕ). v % 2 ^ 64) (value_of_key index (b / 16320))) overflow b)

-- The roots of a pool's trees lie behind block 0, where no reached pair is out of order.

module _ (image : List (List ℕ)) (known : IsKnown image) where
  abbrev Reached : ℕ → ℕ → Type 0
  Reached b role = IsReached (thin_graph (block_at image 0)) image b role

  abbrev fields : ThinFields
  fields = thin_fields (block_at image 0)

  -- the roots of two trees that are reached
  pub record AreReached (roots : Roots) : Type 0 where
    pub mapping : Reached roots.mapping 2
    pub details : Reached roots.details 4

  held_reached : (held : ℕ) → Reached held 1 → AreReached (roots_in (block_at image held))
  held_reached held reached =
      let edges = rw (held_edges_are (block_at image 0) (block_at image held) held (known.ordered.well_formed held 1 reached)) at (known.edges held 1 reached) in
      record { mapping = edges.0; details = edges.1.0 }

  -- those of the superblock, and of the held one
  pub roots_reached : AllByRecursion AreReached (thin_roots image)
  unfolding thin_roots
  roots_reached =
      let edges = rw (super_edges (block_at image 0) (known.ordered.well_formed 0 0 known.start)) at (known.edges 0 0 known.start) in (
        record { mapping = known.roots.devices; details = known.roots.details },
        cond_both (nat_eq fields.held_root 0) [] (roots_in (block_at image fields.held_root) ∷ []) (AllByRecursion AreReached) (λ _. tt)
            (λ other. (held_reached fields.held_root (at_optional (λ (e : Edge). Reached e.block e.role) 1 fields.held_root _ edges (eqb-false fields.held_root 0 other)), tt)),
      )

  -- the superblock has its checksum
  pub has_sum : has_checksum (block_at image 0) (salt_of Thin) ≡ true
  unfolding thin_graph graph_of thin_layout
  has_sum = sound_checksum fields.meta_map.blocks (block_at image 0) (known.ordered.well_formed 0 0 known.start)

  -- so no node, bitmap or index block is block 0, which breaks a rule there
  pub reached_behind : (b role : ℕ) → Reached b (suc (suc role)) → 1 ≤ b
  reached_behind zero role reached =
      absurd (both_ways _ (known.ordered.well_formed 0 (suc (suc role)) reached r.Checksum) (breaks_there (block_at image 0) role has_sum))
  reached_behind (suc b) role reached = omega arith
