-- The rows that are tallied, one after another.
use Rattle.std.proofs.Common.{◌≡◌, ℕ, ◌+◌, ◌≤◌, nat_eq, List, [], ◌∷◌, ◌++◌, map, filter, length, Option, Some, None, refl, sym, ap, ◌∙◌, arith, inl, inr, eq-eqb, append_assoc}
use Rattle.std.specs.List.{AllByRecursion, flat_map, list_any}
use Rattle.std.proofs.lemmas.Bool.{cases_Bool, cases_lt, eqb-true}
use Rattle.std.proofs.lemmas.List.{append-nil}
use Rattle.pd_kinds.specs.declared.superblocks.ThinSuper.{ThinSuper}
use Rattle.pd_kinds.specs.Graph.{block_at}
use Rattle.pd_kinds.specs.Meaning.{Mapping}
use Rattle.pd_kinds.specs.ThinFormat.{thin_fields}
use Rattle.pd_kinds.proofs.ListLemmas.{all_from, all_from_two, all_of}
use Rattle.pd_laid.proofs.GatherLemmas.{map_joined}
use Rattle.pd_tree.specs.Below.{nodes_below}
use Rattle.pd_tree.proofs.OnceLemmas.{by_first}
use Rattle.pd_meaning_thin.specs.declared.devices.DeviceRow.{DeviceRow}
use Rattle.pd_meaning_thin.specs.Given.{pool_rows, super_rows}
use Rattle.pd_meaning_thin.specs.Runs.{mapping_of, mappings_below}
use Rattle.pd_meaning_thin.specs.Walk.{IsProperTree}
use Rattle.pd_meaning_thin.specs.Marks.{occurs}
use Rattle.pd_meaning_thin.proofs.OccursLemmas.{nodes_through, Among, among_there, occurs_once}
use Rattle.pd_uses.specs.declared.hits.DataUse.{DataUse}
use Rattle.pd_uses.specs.declared.list_walk.Meets.{Meets}
use Rattle.pd_uses.specs.declared.tallies.Tallies.{Tallies}
use Rattle.pd_uses.specs.ListWalk.{IsTold, IsToldBelow, TalliesRows, Walks, WalksRows, mappings_at, times_met, HasTallied}
use Rattle.pd_uses.specs.Uses.{number_of_uses, row_uses, rows_told, use_by, uses_told}
use Rattle.pd_uses.proofs.CountLemmas.{filter_mapped, number_of_both}
use Rattle.pd_uses.proofs.ListWalkLemmas.{items_are, items_at, still_told, told_both, told_times}

-- the uses among what a walk tells of them
some_told : (uses : List DataUse) → uses_told (map Some uses) ≡ uses
unfolding uses_told
some_told [] = refl
some_told (one ∷ uses) = ap (λ (xs : List DataUse). one ∷ xs) (some_told uses)

-- how often a data block is among mappings
abbrev block_count : List Mapping → ℕ → ℕ
block_count ms b = length (filter (λ (m : Mapping). nat_eq m.data_block b) ms)

count_more : (m : Mapping) (ms : List Mapping) (b : ℕ) → 1 ≤ block_count ms b → 1 ≤ block_count (m ∷ ms) b
count_more m ms b some = elim (cases_Bool (nat_eq m.data_block b)) [
  | inl same ↦ rw same (omega arith)
  | inr other ↦ rw other some
]

-- that of each of them is
own_blocks : (ms : List Mapping) → AllByRecursion (λ (m : Mapping). 1 ≤ block_count ms m.data_block) ms
own_blocks [] = tt
own_blocks (m ∷ ms) = (
  rw (eq-eqb m.data_block m.data_block refl) (omega arith),
  all_from (λ (x : Mapping). 1 ≤ block_count ms x.data_block) (λ (x : Mapping). 1 ≤ block_count (m ∷ ms) x.data_block) (λ x some. count_more m ms x.data_block some) ms (own_blocks ms),
)

-- those of a node are among those of the nodes of a tree
node_blocks : (image : List (List ℕ)) (nodes : List ℕ) (c : ℕ) → Among c nodes
    → AllByRecursion (λ (m : Mapping). 1 ≤ block_count (flat_map (mappings_at image) nodes) m.data_block) (mappings_at image c)
node_blocks image [] c any = cc
node_blocks image (d ∷ nodes) c any =
    by_first (AllByRecursion (λ (m : Mapping). 1 ≤ block_count (flat_map (mappings_at image) (d ∷ nodes)) m.data_block) (mappings_at image c)) (nat_eq d c) (list_any (λ t. nat_eq t c) nodes)
    (λ same.
    let here = rw (eqb-true d c same) at (own_blocks (mappings_at image d)) in
    all_from (λ (m : Mapping). 1 ≤ block_count (mappings_at image c) m.data_block) (λ (m : Mapping). 1 ≤ block_count (flat_map (mappings_at image) (d ∷ nodes)) m.data_block)
    (λ m some. rw (both d m.data_block, eqb-true d c same) (omega (arith, some))) (mappings_at image c) here)
    (λ later.
    all_from (λ (m : Mapping). 1 ≤ block_count (flat_map (mappings_at image) nodes) m.data_block) (λ (m : Mapping). 1 ≤ block_count (flat_map (mappings_at image) (d ∷ nodes)) m.data_block)
    (λ m some. rw (both d m.data_block) (omega (arith, some))) (mappings_at image c) (node_blocks image nodes c later)) any
  where
    both : (d b : ℕ) → block_count (flat_map (mappings_at image) (d ∷ nodes)) b ≡ block_count (mappings_at image d) b + block_count (flat_map (mappings_at image) nodes) b
    both d b = number_of_both (λ (m : Mapping). nat_eq m.data_block b) (mappings_at image d) (flat_map (mappings_at image) nodes)

-- what stands at the nodes of a device's tree is told
tree_told : (image : List (List ℕ)) (row : DeviceRow) (c : ℕ) → Among c (nodes_below 8 image 63 row.root) → IsTold image (None ∷ map Some (row_uses image row)) 1 c
unfolding uses_told
tree_told image row c there =
    let nodes = nodes_below 8 image 63 row.root in
    all_from (λ (m : Mapping). 1 ≤ block_count (flat_map (mappings_at image) nodes) m.data_block) (λ (m : Mapping). 1 ≤ told_times (None ∷ map Some (row_uses image row)) m.data_block)
    (λ m some. rw (is m.data_block) some) (mappings_at image c) (node_blocks image nodes c there)
  where
    is : (b : ℕ) → told_times (None ∷ map Some (row_uses image row)) b ≡ block_count (flat_map (mappings_at image) (nodes_below 8 image 63 row.root)) b
    is b =
        ap (λ (uses : List DataUse). number_of_uses uses b) (some_told (row_uses image row))
        ∙ (filter_mapped (use_by row.id) (λ (one : DataUse). nat_eq one.block b) (mappings_below image row.root)
        ∙ ap (λ (ms : List Mapping). block_count ms b) (ap (map mapping_of) (items_are image 63 row.root) ∙ map_joined mapping_of (items_at image) (nodes_below 8 image 63 row.root)))

-- so after a tree each node was told as often as it was met
after_tree : (image : List (List ℕ)) (n : ℕ) (row : DeviceRow) (before : List (Option DataUse)) (meets meets' : Meets) → IsProperTree image n row.root
    → ((b : ℕ) → times_met meets' b ≤ times_met meets b + occurs b (nodes_below 8 image 63 row.root)) → ((b : ℕ) → IsToldBelow image before meets b)
    → (b : ℕ) → IsToldBelow image (before ++ (None ∷ map Some (row_uses image row))) meets' b
after_tree image n row before meets meets' tree counts below b c there =
    let nodes = nodes_below 8 image 63 row.root in
    let more = None ∷ map Some (row_uses image row) in
    let fewer = counts b in
    elim (cases_lt 0 (occurs b nodes)) [
      | inl inside ↦
          let once = occurs_once b nodes tree.once in
          let own = tree_told image row c (nodes_through image row.root b c tree.levels (among_there b nodes (omega (arith, inside))) (among_there c (nodes_below 8 image 63 b) there)) in
          all_from_two (λ (m : Mapping). times_met meets b ≤ told_times before m.data_block) (λ (m : Mapping). 1 ≤ told_times more m.data_block)
          (λ (m : Mapping). times_met meets' b ≤ told_times (before ++ more) m.data_block)
          (λ m first last. let both = told_both before more m.data_block in omega (arith, first, last, both, fewer, once)) (mappings_at image c) (below b c there) own
      | inr outside ↦ still_told image before more (times_met meets b) (times_met meets' b) c (omega (arith, fewer, outside)) (below b c there)
    ]

module _ {image : List (List ℕ)} where
  -- no row was tallied yet
  pub rows_none : {rows : List DeviceRow} {meets : Meets} {t : Tallies} → WalksRows image rows rows meets meets t t
  rows_none = record {
    told = [];
    parts = refl;
    proper = λ n all. all;
    tallied = λ n all start before below had. rw (append-nil before) (below, had);
  }

  -- some rows, and then others
  pub rows_both : {rows rows' rows'' : List DeviceRow} {meets meets' meets'' : Meets} {t t' t'' : Tallies}
      → WalksRows image rows rows' meets meets' t t' → WalksRows image rows' rows'' meets' meets'' t' t'' → WalksRows image rows rows'' meets meets'' t t''
  rows_both {rows} {rows'} {rows''} first last = record {
    told = first.told ++ last.told;
    parts = first.parts ∙ (ap (λ (xs : List (Option DataUse)). first.told ++ xs) last.parts ∙ sym (append_assoc first.told last.told (rows_told image rows'')));
    proper = λ n all. last.proper n (first.proper n all);
    tallied = λ n all start before below had.
        let mid = first.tallied n all start before below had in
        rw (← append_assoc before first.told last.told) (last.tallied n (first.proper n all) start (before ++ first.told) mid.0 mid.1);
  }

  -- one row
  pub rows_one : (row : DeviceRow) (rows rows' : List DeviceRow) (meets meets' : Meets) (t begun t' : Tallies) → rows ≡ row ∷ rows'
      → ((start : Tallies) (before : List (Option DataUse)) → HasTallied start before t → HasTallied start (before ++ (None ∷ [])) begun)
      → Walks image (nodes_below 8 image 63 row.root) [] (map Some (row_uses image row)) [] meets meets' begun t'
      → WalksRows image rows rows' meets meets' t t'
  rows_one row rows rows' meets meets' t begun t' is begins walks = record {
    told = None ∷ map Some (row_uses image row);
    parts = ap (rows_told image) is;
    proper = λ n all. (rw is at all).1;
    tallied = λ n all start before below had.
        let tree : IsProperTree image n row.root = (rw is at all).0 in
        let first : HasTallied start ((before ++ (None ∷ [])) ++ []) begun = rw (append-nil (before ++ (None ∷ []))) (begins start before had) in
        let last = walks.tallied (λ b. occurs_once b (nodes_below 8 image 63 row.root) tree.once) start (before ++ (None ∷ [])) []
        (λ b some c there. still_told image before (None ∷ []) (times_met meets b) (times_met meets b) c (omega arith) (below b c there)) first in
        let whole : map Some (row_uses image row) ≡ walks.told = walks.parts ∙ append-nil walks.told in (
          after_tree image n row before meets meets' tree (λ b. omega (arith, walks.counts b)) below,
          rw whole (rw (append_assoc before (None ∷ []) walks.told) at last),
        );
  }

-- all rows, from no meets on
pub rows_all : {image : List (List ℕ)} {rows : List DeviceRow} {meets meets' : Meets} {t t' : Tallies} → ((b : ℕ) → times_met meets b ≡ 0) → WalksRows image rows [] meets meets' t t'
    → TalliesRows image rows t t'
rows_all {image} {rows} {meets} none walks = λ n all start had.
    let done = walks.tallied n all start []
    (λ b c there. all_of (λ (m : Mapping). times_met meets b ≤ told_times [] m.data_block) (λ m. omega (arith, none b)) (mappings_at image c)) had in
    rw (walks.parts ∙ append-nil walks.told) done.1

-- the trees of a pool's rows are those below the roots of its devices
unmapped : (P : ℕ → Type 0) (rows : List DeviceRow) → AllByRecursion P (map (λ (row : DeviceRow). row.root) rows) → AllByRecursion (λ (row : DeviceRow). P row.root) rows
unmapped P [] all = tt
unmapped P (row ∷ rows) all = (all.0, unmapped P rows all.1)

pub rows_proper : (image : List (List ℕ)) (s : ThinSuper) (n : ℕ) (roots : List ℕ) → s ≡ thin_fields (block_at image 0) → map (λ (row : DeviceRow). row.root) (pool_rows image) ≡ roots
    → AllByRecursion (IsProperTree image n) roots → AllByRecursion (λ (row : DeviceRow). IsProperTree image n row.root) (super_rows image s)
rows_proper image s n roots own are all = rw own (unmapped (IsProperTree image n) (pool_rows image) (rw are all))
