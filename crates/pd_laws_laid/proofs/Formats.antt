-- What the laws of all formats share: a superblock, the parts behind it, and the metadata map behind these.
use Rattle.std.proofs.Common.{ℕ, ◌+◌, ◌*◌, ◌<◌, ◌≤◌, List, [], ◌∷◌, length, map, ap, arith, ◌≡◌, inl, inr, Bool, true, false, filter, refl, zero, suc, nat_eq, nat_lt, ◌++◌, sym, subst, ◌∙◌}
use Rattle.std.specs.List.{AllByRecursion, range_with_len}
use Rattle.std.proofs.Math.Nat.{suc-mul}
use Rattle.std.proofs.lemmas.List.{length-append, length-map}
use Rattle.std.specs.Str.{bytes_eq}
use Rattle.std.proofs.lemmas.Bool.{and_left, cases_Bool, or_from, le-ltb}
use Rattle.std.proofs.lemmas.Slice.Eq.{bytes_eq-Decides}
use Rattle.std.proofs.lemmas.Bool.Decides.{nat_tests}
use Rattle.pd_kinds.specs.Graph.{Edge, Graph, block_at, block_of, data_refs_of, edges_of, pair, role_of, meta_count, nodes}
use Rattle.pd_kinds.specs.Lawful.{IsLawful}
use Rattle.pd_kinds.proofs.ListLemmas.{all_append, all_from, all_mapped}
use Rattle.pd_kinds.specs.declared.rule.Rule.{Rule}
use Rattle.pd_kinds.specs.Stages.{Checked, HasCleanSuper}
use Rattle.pd_kinds.specs.Whole.{WholeTest, whole_bad, bitmap_tests}
use Rattle.pd_kinds.specs.Layout.{Tree}
use Rattle.pd_kinds.specs.Image.{is_meta_size_bad}
use Rattle.pd_kinds.specs.Node.{is_ascending}
use Rattle.pd_kinds.specs.declared.rule.Rule.TheVariants as r
use Rattle.pd_laid.specs.Laid.{LaidBlock, data_named_by, named_by, count_in, laid_meta_map, meta_counts, meta_map_number, meta_overflow_root}
use Rattle.pd_laws_laid.specs.LaidOut.{AllFrom, IsFitting, LeadsBelow, AreLaidInOrder, IsLaidOut, IsSeen, laid_super, role_at, AreItems}
use Rattle.pd_laws_laid.proofs.ListLemmas.{from_both, count_append}
use Rattle.pd_laws_laid.proofs.Names.{blocks_of, named-append, meta_names}
use Rattle.pd_laws_laid.proofs.MetaMap.{one_more, other_more}
use Rattle.pd_laws_laid.proofs.RoleCounts.{blocks_count, edges_in, fitting_lead, role_count}

-- Laid blocks that fit name few blocks, all of them before a place.

module _ (graph : Graph) (image : List (List ℕ)) (blocks : List LaidBlock) (limit : ℕ) where
  -- what fits below a place fits below a later one
  pub fits_more : (more place : ℕ) (xs : List LaidBlock) → limit ≤ more → AllFrom (IsFitting graph image blocks limit) place xs → AllFrom (IsFitting graph image blocks more) place xs
  fits_more more place [] within all = tt
  fits_more more place (x ∷ xs) within all = (
    record {
      seen = all.0.seen;
      leads = all_from (LeadsBelow blocks limit) (LeadsBelow blocks more)
          (λ e is. record { from_one = is.from_one; below = omega (arith, is.below); role_is = is.role_is }) x.edges all.0.leads;
      named = all.0.named;
    },
    fits_more more (place + 1) xs within all.1,
  )

  -- all that it names lies before the place
  pub named_lower : (place : ℕ) (xs : List LaidBlock) → AllFrom (IsFitting graph image blocks limit) place xs → AllByRecursion (λ r. r < limit) (named_by xs)
  unfolding named_by
  named_lower place [] all = tt
  named_lower place (x ∷ xs) all =
      let block = λ (e : Edge). e.block in
      all_append (λ r. r < limit) (map block x.edges) (named_by xs)
      (all_mapped block (λ r. r < limit) x.edges (all_from (LeadsBelow blocks limit) (λ (e : Edge). e.block < limit) (λ e is. is.below) x.edges all.0.leads))
      (named_lower (place + 1) xs all.1)

  -- and is few for each block
  pub few_named : IsLawful graph → (place : ℕ) (xs : List LaidBlock) → AllFrom (IsFitting graph image blocks limit) place xs → length (named_by xs) ≤ length xs * 255
  unfolding named_by
  few_named lawful place [] all = omega arith
  few_named lawful place (x ∷ xs) all =
      let p = pair place x.role in
      let is = all.0.seen in
      let known : role_of p < graph.roles = omega (arith, is.known, lawful.few_roles) in
      let laws = lawful.each (role_of p) (block_of p) (block_at image (block_of p)) known in
      let own = ap length is.edges_are in
      let number : length (edges_of graph image p) ≤ 255 = laws.edge_number in
      omega (arith, length-append (map (λ (e : Edge). e.block) x.edges) (named_by xs), length-map x.edges (λ (e : Edge). e.block), few_named lawful (place + 1) xs all.1, suc-mul (length xs) 255)

  pub few_data : IsLawful graph → (place : ℕ) (xs : List LaidBlock) → AllFrom (IsFitting graph image blocks limit) place xs → length (data_named_by xs) ≤ length xs * 254
  unfolding data_named_by
  few_data lawful place [] all = omega arith
  few_data lawful place (x ∷ xs) all =
      let p = pair place x.role in
      let is = all.0.seen in
      let known : role_of p < graph.roles = omega (arith, is.known, lawful.few_roles) in
      let laws = lawful.each (role_of p) (block_of p) (block_at image (block_of p)) known in
      let own = ap length is.data_are in
      let number : length (data_refs_of graph image p) ≤ 254 = laws.data_number in
      omega (arith, length-append x.data_refs (data_named_by xs), few_data lawful (place + 1) xs all.1, suc-mul (length xs) 254)

-- What the rules of the whole come to, and the superblock's.

-- rules whose tests all hold are broken nowhere
pub whole_holds : (tests : List WholeTest) (b : ℕ) (broken : Rule) → AllByRecursion (λ (t : WholeTest). t.fails ≡ false) tests → whole_bad tests b broken ≡ false
unfolding whole_bad
whole_holds [] b broken all = refl
whole_holds (t ∷ tests) b broken all = or_from _ _ (and_left t.fails _ all.0) (whole_holds tests b broken all.1)

-- what holds of each element that passes holds of those that a filter keeps
pub all_filtered : (P : ℕ → Type 0) (test : ℕ → Bool) (xs : List ℕ) → AllByRecursion (λ x. test x ≡ true → P x) xs → AllByRecursion P (filter test xs)
all_filtered P test [] all = tt
all_filtered P test (x ∷ xs) all = elim (cases_Bool (test x)) [
  | inl here ↦ rw here (all.0 here, all_filtered P test xs all.1)
  | inr missed ↦ rw missed (all_filtered P test xs all.1)
]

-- lists that are the same
pub same_bytes : (xs ys : List ℕ) → xs ≡ ys → bytes_eq xs ys ≡ true
same_bytes xs ys same = (bytes_eq-Decides xs ys).1 same

-- a superblock that breaks no rule
pub clean_super : (checked : Checked) (image : List (List ℕ)) → 1 ≤ length image → ((broken : Rule) → checked.super_bad (length image) (block_at image 0) broken ≡ false)
    → HasCleanSuper checked image
clean_super checked [] some sound = absurd (omega arith)
clean_super checked (block ∷ blocks) some sound = sound

-- a number of metadata blocks in its range
pub size_good : (device_blocks n : ℕ) → 1 ≤ n → n ≤ device_blocks → n ≤ 4161600 → is_meta_size_bad device_blocks n ≡ false
size_good device_blocks n some few limit = grind (arith, nat_tests)

-- an edge that leads below a place leads below a later one
pub leads_more : (blocks : List LaidBlock) (limit more : ℕ) → limit ≤ more → (edge : Edge) → LeadsBelow blocks limit edge → LeadsBelow blocks more edge
leads_more blocks limit more within edge is = record { from_one = is.from_one; below = omega (arith, is.below); role_is = is.role_is }

-- a tree of no items can be laid anywhere
pub no_items : (blocks : List LaidBlock) (limit : ℕ) (t : Tree) → AreItems blocks limit t []
unfolding is_ascending
no_items blocks limit t = record { ascending = refl; keys_fit = tt; values_fit = tt; in_range = tt; leads = tt }

-- where a superblock, parts up to a place and what stands from there on fit among one another, they are laid out
pub laid_out_of : (graph : Graph) (image : List (List ℕ)) (super : List ℕ) (edges : List Edge) (parts rest : List LaidBlock) (place end : ℕ) → 1 + length parts ≡ place → place + length rest ≡ end → end ≤ graph.nr
    → IsSeen graph image 0 (laid_super super edges) → AllByRecursion (LeadsBelow (laid_super super edges ∷ (parts ++ rest)) end) edges
    → AllFrom (IsFitting graph image (laid_super super edges ∷ (parts ++ rest)) place) 1 parts → AllFrom (IsFitting graph image (laid_super super edges ∷ (parts ++ rest)) end) place rest
    → IsLaidOut graph image (laid_super super edges ∷ (parts ++ rest))
unfolding role_at
laid_out_of graph image super edges parts rest place end begins ends fits seen leads front back =
    let blocks = laid_super super edges ∷ (parts ++ rest) in
    let number : length blocks ≡ end = omega (arith, length-append parts rest) in
    let first : IsFitting graph image blocks end 0 (laid_super super edges) = record { seen = seen; leads = leads; named = λ from. absurd (omega arith) } in
    let behind = from_both (IsFitting graph image blocks end) 1 parts rest (fits_more graph image blocks place end 1 parts (omega arith) front) (rw begins back) in
    let whole : AllFrom (IsFitting graph image blocks end) 0 blocks = (first, behind) in
    record {
      some = omega arith;
      super_role = refl;
      fits = omega arith;
      each = subst (λ (limit : ℕ). AllFrom (IsFitting graph image blocks limit) 0 blocks) (sym number) whole;
    }

module _ (graph : Graph) (image : List (List ℕ)) (blocks : List LaidBlock) (in_order : AreLaidInOrder graph image blocks) where
  -- what holds of the places of some roles holds of the reached pairs in them
  pub at_roles : (P : ℕ → Type 0) (is_role : ℕ → Bool) → ((b : ℕ) → b < length blocks → is_role (role_at blocks b) ≡ true → P b)
      → AllByRecursion (λ p. P (block_of p)) (filter (λ p. is_role (role_of p)) (nodes graph image))
  at_roles P is_role holds =
      let at = λ (b : ℕ). pair b (role_at blocks b) in
      all_filtered (λ p. P (block_of p)) (λ p. is_role (role_of p)) (nodes graph image)
      (subst (λ (ps : List ℕ). AllByRecursion (λ p. is_role (role_of p) ≡ true → P (block_of p)) ps) (sym in_order.nodes_are)
      (each 0 (length blocks) (omega arith)))
    where
      each : (a k : ℕ) → a + k ≤ length blocks → AllByRecursion (λ p. is_role (role_of p) ≡ true → P (block_of p)) (map (λ (b : ℕ). pair b (role_at blocks b)) (range_with_len a k))
      each a zero within = tt
      each a (suc k) within = (
        (λ here.
            let small = in_order.roles_small a in
            let own : role_of (pair a (role_at blocks a)) ≡ role_at blocks a = omega arith in
            let block : block_of (pair a (role_at blocks a)) ≡ a = omega arith in
            rw block (holds a (omega arith) (ap is_role (sym own) ∙ here))),
        each (a + 1) k (omega arith),
      )

  -- the rules on bitmaps hold where each of them is referred to once
  pub bitmaps_hold : (is_bitmap : ℕ → Bool) → ((b : ℕ) → is_bitmap (role_at blocks b) ≡ true → meta_count graph image b ≤ 1)
      → AllByRecursion (λ (t : WholeTest). t.fails ≡ false) (bitmap_tests graph image is_bitmap)
  unfolding bitmap_tests
  bitmaps_hold is_bitmap few =
      let kept = filter (λ p. is_bitmap (role_of p)) (nodes graph image) in
      all_mapped (λ (p : ℕ). record { block = block_of p; rule = r.Index; fails = nat_lt 1 (meta_count graph image (block_of p)) }) (λ (t : WholeTest). t.fails ≡ false) kept
      (all_from (λ p. meta_count graph image (block_of p) ≤ 1) (λ p. nat_lt 1 (meta_count graph image (block_of p)) ≡ false) (λ p once. le-ltb 1 (meta_count graph image (block_of p)) once) kept
      (at_roles (λ b. meta_count graph image b ≤ 1) is_bitmap (λ b inside here. few b here)))

  -- a block that edges of its role name once is referred to once
  pub referred_few : (role b : ℕ) → IsLaidOut graph image blocks → 1 ≤ role → role_at blocks b ≡ role → role_count role b (edges_in blocks) ≤ 1 → meta_count graph image b ≤ 1
  referred_few role b laid some is few =
      let leads = fitting_lead graph image blocks (length blocks) 0 blocks laid.each in
      let named = blocks_count blocks (length blocks) role b blocks is leads in
      let other = other_more 0 b (named_by blocks) (λ zero_is. let first = laid.super_role in let own : role_at blocks b ≡ 0 = rw (← zero_is) first in omega arith) in
      rw (in_order.meta_counts b, other, named) few

named-first : (x : LaidBlock) (xs : List LaidBlock) → named_by (x ∷ xs) ≡ blocks_of x.edges ++ named_by xs
unfolding named_by
named-first x xs = refl

-- How often all blocks name a block, with block 0, is its count in the metadata map: that map counts block 0, what
-- the superblock names but for the map's own roots, and what the parts name.
pub references_are : (super : List ℕ) (edges : List Edge) (parts : List LaidBlock) (roots named : List ℕ) (role n place b : ℕ)
    → named ≡ 0 ∷ (roots ++ named_by parts) → meta_map_number role n place named ≤ 4161600
    → count_in (blocks_of edges) b ≡ count_in (roots ++ (place ∷ meta_overflow_root n place named ∷ [])) b
    → count_in (0 ∷ named_by (laid_super super edges ∷ (parts ++ laid_meta_map role n place named))) b ≡ meta_counts role n place named b
unfolding meta_counts
references_are super edges parts roots named role n place b is few same =
    let front = named_by parts in
    let back = named_by (laid_meta_map role n place named) in
    let whole : named_by (laid_super super edges ∷ (parts ++ laid_meta_map role n place named)) ≡ blocks_of edges ++ (front ++ back) =
    named-first (laid_super super edges) (parts ++ laid_meta_map role n place named)
    ∙ ap (λ (rest : List ℕ). blocks_of edges ++ rest) (named-append parts (laid_meta_map role n place named)) in
    ap (λ (all : List ℕ). count_in (0 ∷ all) b) whole
    ∙ (sides (blocks_of edges) front back (meta_overflow_root n place named) is same ∙ ap (λ (own : List ℕ). count_in (named ++ own) b) (meta_names role n place named few))
  where
    sides : (all front back : List ℕ) (over : ℕ) → named ≡ 0 ∷ (roots ++ front) → count_in all b ≡ count_in (roots ++ (place ∷ over ∷ [])) b
        → count_in (0 ∷ (all ++ (front ++ back))) b ≡ count_in (named ++ (place ∷ (back ++ (over ∷ [])))) b
    sides all front back over is same =
        let passes = λ (r : ℕ). nat_eq r b in
        let l1 = one_more 0 b (all ++ (front ++ back)) in
        let l2 = count_append passes all (front ++ back) in
        let l3 = count_append passes front back in
        let s1 = count_append passes roots (place ∷ over ∷ []) in
        let s2 = one_more place b (over ∷ []) in
        let r1 = count_append passes named (place ∷ (back ++ (over ∷ []))) in
        let r2 = ap (λ (xs : List ℕ). count_in xs b) is ∙ one_more 0 b (roots ++ front) in
        let r3 = count_append passes roots front in
        let r4 = one_more place b (back ++ (over ∷ [])) in
        let r5 = count_append passes back (over ∷ []) in
        omega (arith, same)
