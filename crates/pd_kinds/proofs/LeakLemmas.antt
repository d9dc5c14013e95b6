-- No stage but Counts finds a leak, so an image with leaks alone has no fault up to the stage Whole.
use Rattle.std.proofs.Common.{◌≡◌, inl, inr, ℕ, zero, suc, ◌%◌, ◌^◌, Bool, true, false, ◌==◌, cond, nat_lt, List, [], ◌∷◌, ◌++◌, length, get_or, map, filter, refl, sym, ap, ◌∙◌, arith, eq-eqb}
use Rattle.std.specs.List.{AllByRecursion, count_by, list_any, flat_map, range_with_len}
use Rattle.std.specs.declared.option.Option.{Option}
use Rattle.std.specs.declared.option.Option.TheVariants.{Some, None}
use Rattle.std.proofs.lemmas.Bool.{and_right, both_ways, cases_Bool, cases_lt, eqb-true, le-ltb, lt-ltb, or_from}
use Rattle.std.proofs.lemmas.List.Sums.{count_by-le-length, sum_by-cons}
use Rattle.pd_kinds.specs.declared.rule.Fault.{Fault}
use Rattle.pd_kinds.specs.declared.rule.Space.{Space}
use Rattle.pd_kinds.specs.declared.rule.Space.TheVariants.{Meta, DataBlock}
use Rattle.pd_kinds.specs.declared.kind.Kind.{Kind}
use Rattle.pd_kinds.specs.declared.kind.Kind.TheVariants.{Thin, Cache, Era}
use Rattle.pd_kinds.specs.declared.kind.Passing.{Passing}
use Rattle.pd_kinds.specs.declared.kind.Passing.TheVariants.{Nothing, Leaks}
use Rattle.pd_kinds.specs.declared.rule.Rule.{Rule}
use Rattle.pd_kinds.specs.Array.{array_bad, array_tests}
use Rattle.pd_kinds.specs.Bitmap.{bitmap_bad, index_bad, index_tests}
use Rattle.pd_kinds.specs.CacheFormat.{cache_graph, cache_layout, cache_super_bad, cache_super_tests}
use Rattle.pd_kinds.specs.EraFormat.{era_graph, era_layout, era_snap_bad, era_super_bad, era_super_tests, writesets_tree}
use Rattle.pd_kinds.specs.Rule.{faults_at, meta_fault, is_leak, passes, report_of, all_rules, same_rule, Test, alone, failing}
use Rattle.pd_kinds.specs.Graph.{Graph, block_at, data_count, meta_count}
use Rattle.pd_kinds.specs.Layout.{Layout, array, bitmap, copy, graph_of, index, layout_bad, layouts, plain_tree, tree, tree_bad, tree_tests, tree_to}
use Rattle.pd_kinds.specs.Leaks.{AreCountsEnough, AreLeaks, IsAtLeast, OnlyLeaks}
use Rattle.pd_kinds.specs.Node.{Entry, node_tests}
use Rattle.pd_kinds.specs.Stages.{Checked, block_faults, cache_checked, checked_of, count_fault, count_faults, era_checked, faults, first_failing, order_bad, stages_to, super_faults, thin_checked, walk_bad}
use Rattle.pd_kinds.specs.Super.{super_rules}
use Rattle.pd_kinds.specs.ThinFormat.{mappings_tree, thin_graph, thin_held_bad, thin_layout, thin_super_bad, thin_super_tests}
use Rattle.pd_kinds.specs.Whole.{Array, Roots, WholeTest, array_whole, bitmap_tests, cache_arrays, cache_whole, details_entries, device_test, era_arrays, era_whole, mapped_tests, thin_roots, thin_whole, top_entries, whole_bad}
use Rattle.pd_kinds.proofs.ListLemmas.{all_append, all_flat_map, all_map, all_of}
use Rattle.pd_kinds.proofs.CleanLemmas.{at_of_range, cons_isnt_nil}
use Rattle.pd_kinds.proofs.SoundLemmas.{rule_at}
use Rattle.pd_kinds.proofs.SuperStage.{chosen}
use Rattle.pd_kinds.specs.declared.kind.Stage.TheVariants as stages
use Rattle.pd_kinds.specs.declared.rule.Rule.TheVariants as r

-- these rules don't have Leak among them
abbrev pub IsLeakless : (Rule → Bool) → Type 0
IsLeakless bad = bad r.Leak ≡ false

-- the rule of a test is another one
abbrev IsOther : Rule → Type 0
IsOther rule = same_rule rule r.Leak ≡ false

tests_leakless : (tests : List Test) → AllByRecursion (λ (test : Test). IsOther test.rule) tests → IsLeakless (failing tests)
unfolding failing
tests_leakless [] others = refl
tests_leakless (test ∷ tests) others = or_from _ _ (and_right test.fails _ others.0) (tests_leakless tests others.1)

alone_leakless : (first : Rule) (fails : Bool) (others : Rule → Bool) → IsOther first → IsLeakless others → IsLeakless (alone first fails others)
unfolding alone
alone_leakless first true others other none = other
alone_leakless first false others other none = none

super_leakless : (kind : Kind) (block : List ℕ) (tests : List Test) → AllByRecursion (λ (test : Test). IsOther test.rule) tests
    → IsLeakless (super_rules kind block tests)
super_leakless kind block tests others = alone_leakless r.Checksum _ _ refl (alone_leakless r.Magic _ _ refl (tests_leakless tests others))

-- a copy of a superblock is what its own rules say; of any other layout no rule is Leak
abbrev AreCopiesLeakless : Layout → Type 0
AreCopiesLeakless (copy bad edges) = (place : ℕ) (block : List ℕ) → IsLeakless (bad place block)
AreCopiesLeakless _ = Unit {0}

layout_leakless : (nr role : ℕ) (layout : Layout) → AreCopiesLeakless layout → (place : ℕ) (block : List ℕ) → IsLeakless (layout_bad nr role layout place block)
unfolding tree_bad tree_tests node_tests bitmap_bad index_bad index_tests array_bad array_tests
layout_leakless nr role (copy bad edges) copies place block = copies place block
layout_leakless nr role (tree t) copies place block = alone_leakless r.Checksum _ _ refl (tests_leakless _ (refl, (refl, (refl, (refl, (refl, (refl, tt)))))))
layout_leakless nr role bitmap copies place block = alone_leakless r.Checksum _ _ refl (tests_leakless _ (refl, tt))
layout_leakless nr role (index target) copies place block = alone_leakless r.Checksum _ _ refl (tests_leakless _ (refl, (refl, tt)))
layout_leakless nr role (array size) copies place block = alone_leakless r.Checksum _ _ refl (tests_leakless _ (refl, (refl, tt)))

-- so in each role of a table
table_leakless : (table : List Layout) → AllByRecursion AreCopiesLeakless table → (role : ℕ) → AreCopiesLeakless (layouts role table)
table_leakless [] copies role = tt
table_leakless (layout ∷ table) copies zero = copies.0
table_leakless (layout ∷ table) copies (suc role) = table_leakless table copies.1 role

-- of the rules of the whole image none is Leak
abbrev AreOthers : List WholeTest → Type 0
AreOthers tests = AllByRecursion (λ (test : WholeTest). IsOther test.rule) tests

whole_leakless : (tests : List WholeTest) → AreOthers tests → (b : ℕ) → IsLeakless (whole_bad tests b)
unfolding whole_bad
whole_leakless [] others b = refl
whole_leakless (test ∷ tests) others b = or_from _ _ (and_right test.fails _ (and_right _ _ others.0)) (whole_leakless tests others.1 b)

module _ (graph : Graph) (image : List (List ℕ)) where
  bitmaps_others : (is_bitmap : ℕ → Bool) → AreOthers (bitmap_tests graph image is_bitmap)
  unfolding bitmap_tests
  bitmaps_others is_bitmap = all_map _ (λ (test : WholeTest). IsOther test.rule) (λ p. refl) _

  devices_others : (roots : List Roots) → AreOthers (map (device_test graph image) roots)
  unfolding device_test
  devices_others roots = all_map (device_test graph image) (λ (test : WholeTest). IsOther test.rule) (λ root. refl) roots

  mapped_others : (roots : Roots) → AreOthers (mapped_tests graph image roots)
  unfolding mapped_tests
  mapped_others roots =
      all_flat_map _ (λ (test : WholeTest). IsOther test.rule) (top_entries graph image roots.mapping) (all_of _ (λ (top : Entry).
      all_map _ (λ (test : WholeTest). IsOther test.rule) (λ (details : Entry). refl) (filter (λ (details : Entry). details.key == top.key) (details_entries graph image roots.details))) (top_entries graph image roots.mapping))

  array_others : (a : Array) → AreOthers (array_whole graph image a)
  unfolding array_whole
  array_others a = (refl, all_map _ (λ (test : WholeTest). IsOther test.rule) (λ n. refl) a.lengths)

  arrays_others : (arrays : List Array) → AreOthers (flat_map (array_whole graph image) arrays)
  arrays_others arrays = all_flat_map (array_whole graph image) (λ (test : WholeTest). IsOther test.rule) arrays (all_of _ array_others arrays)

  thin_others : AreOthers (thin_whole graph image)
  unfolding thin_whole
  thin_others = (
    refl,
    all_append _ _ _ (bitmaps_others _) (all_append _ _ _ (devices_others (thin_roots image))
        (all_flat_map (mapped_tests graph image) (λ (test : WholeTest). IsOther test.rule) (thin_roots image) (all_of _ mapped_others (thin_roots image)))),
  )

  cache_others : AreOthers (cache_whole graph image)
  unfolding cache_whole
  cache_others = (refl, all_append _ _ _ (bitmaps_others _) (arrays_others (cache_arrays image)))

  era_others : AreOthers (era_whole graph image)
  unfolding era_whole
  era_others = all_append _ _ _ (bitmaps_others _) (arrays_others (era_arrays graph image))

-- in an image of a kind no rule is Leak but that on counts
pub record HasOtherRules (checked : Checked) : Type 0 where
  pub super_block : (size : ℕ) (block : List ℕ) → IsLeakless (checked.super_bad size block)
  pub blocks : (role b : ℕ) (block : List ℕ) → IsLeakless (checked.graph.bad role b block)
  pub whole : AreOthers checked.whole

thin_super_leakless : (size : ℕ) (block : List ℕ) → IsLeakless (thin_super_bad size block)
unfolding thin_super_bad thin_super_tests
thin_super_leakless size block = super_leakless Thin block _ (refl, (refl, (refl, (refl, (refl, tt)))))

thin_held_leakless : (nr place : ℕ) (block : List ℕ) → IsLeakless (thin_held_bad nr place block)
unfolding thin_held_bad
thin_held_leakless nr place block = super_leakless Thin block _ (refl, (refl, tt))

cache_super_leakless : (size : ℕ) (block : List ℕ) → IsLeakless (cache_super_bad size block)
unfolding cache_super_bad cache_super_tests
cache_super_leakless size block = super_leakless Cache block _ (refl, (refl, (refl, (refl, (refl, tt)))))

era_super_leakless : (size : ℕ) (block : List ℕ) → IsLeakless (era_super_bad size block)
unfolding era_super_bad era_super_tests
era_super_leakless size block = super_leakless Era block _ (refl, (refl, (refl, (refl, tt))))

era_snap_leakless : (nr place : ℕ) (block : List ℕ) → IsLeakless (era_snap_bad nr place block)
unfolding era_snap_bad
era_snap_leakless nr place block = super_leakless Era block _ (refl, (refl, tt))

-- behind its copies each format has other layouts
thin_leakless : (nr data_blocks role : ℕ) → AreCopiesLeakless (thin_layout nr data_blocks role)
unfolding thin_layout
thin_leakless nr data_blocks zero = λ place. thin_super_leakless nr
thin_leakless nr data_blocks (suc zero) = thin_held_leakless nr
thin_leakless nr data_blocks (suc (suc role)) =
    table_leakless (tree_to 8 3 (λ v. v) ∷ mappings_tree data_blocks ∷ plain_tree 24 ∷ tree_to 16 6 (λ v. v % 2 ^ 64) ∷ bitmap ∷ plain_tree 4 ∷ index 9 ∷ bitmap ∷ plain_tree 4 ∷ [])
    (tt, (tt, (tt, (tt, (tt, (tt, (tt, (tt, (tt, tt))))))))) role

cache_leakless : (nr role : ℕ) → AreCopiesLeakless (cache_layout nr role)
unfolding cache_layout
cache_leakless nr zero = λ place. cache_super_leakless nr
cache_leakless nr (suc role) =
    table_leakless (tree_to 8 2 (λ v. v) ∷ array 8 ∷ tree_to 8 4 (λ v. v) ∷ array 4 ∷ tree_to 8 6 (λ v. v) ∷ array 8 ∷ index 8 ∷ bitmap ∷ plain_tree 4 ∷ tree_to 8 11 (λ v. v) ∷ array 8 ∷ [])
    (tt, (tt, (tt, (tt, (tt, (tt, (tt, (tt, (tt, (tt, (tt, tt))))))))))) role

era_leakless : (nr role : ℕ) → AreCopiesLeakless (era_layout nr role)
unfolding era_layout
era_leakless nr zero = λ place. era_super_leakless nr
era_leakless nr (suc zero) = era_snap_leakless nr
era_leakless nr (suc (suc role)) =
    table_leakless (writesets_tree ∷ tree_to 8 4 (λ v. v) ∷ array 8 ∷ tree_to 8 6 (λ v. v) ∷ array 4 ∷ index 8 ∷ bitmap ∷ plain_tree 4 ∷ [])
    (tt, (tt, (tt, (tt, (tt, (tt, (tt, (tt, tt)))))))) role

pub has_other_rules : (kind : Kind) (image : List (List ℕ)) → HasOtherRules (checked_of kind image)
unfolding thin_checked cache_checked era_checked thin_graph cache_graph era_graph graph_of
has_other_rules Thin image = record {
  super_block = thin_super_leakless;
  blocks = λ role b block. layout_leakless _ role _ (thin_leakless _ _ role) b block;
  whole = thin_others _ image;
}
has_other_rules Cache image = record {
  super_block = cache_super_leakless;
  blocks = λ role b block. layout_leakless _ role _ (cache_leakless _ role) b block;
  whole = cache_others _ image;
}
has_other_rules Era image = record {
  super_block = era_super_leakless;
  blocks = λ role b block. layout_leakless _ role _ (era_leakless _ role) b block;
  whole = era_others _ image;
}

-- leaks alone in a list that has none are nothing
abbrev HasNone : List Fault → Type 0
HasNone found = AreLeaks found → found ≡ []

leaks_split : (xs ys : List Fault) → AreLeaks (xs ++ ys) → AreLeaks xs × AreLeaks ys
leaks_split [] ys leaks = (tt, leaks)
leaks_split (x ∷ xs) ys leaks = let rest = leaks_split xs ys leaks.1 in ((leaks.0, rest.0), rest.1)

leaks_each : (f : ℕ → List Fault) (bs : List ℕ) → AreLeaks (flat_map f bs) → AllByRecursion (λ b. AreLeaks (f b)) bs
leaks_each f [] leaks = tt
leaks_each f (b ∷ bs) leaks = let parts = leaks_split (f b) (flat_map f bs) leaks in (parts.0, leaks_each f bs parts.1)

none_joined : (f : ℕ → List Fault) → ((b : ℕ) → HasNone (f b)) → (bs : List ℕ) → HasNone (flat_map f bs)
none_joined f none [] leaks = refl
none_joined f none (b ∷ bs) leaks =
    let parts = leaks_split (f b) (flat_map f bs) leaks in rw (none b parts.0, none_joined f none bs parts.1) refl

-- a block whose rules are others has no leak
none_of : (b : ℕ) (bad : Rule → Bool) → IsLeakless bad → (rules : List Rule) → HasNone (map (meta_fault b) (filter bad rules))
none_of b bad none [] leaks = refl
none_of b bad none (rule ∷ rules) leaks = elim (cases_Bool (bad rule)) [
  | inl broken ↦
      let here : AreLeaks (meta_fault b rule ∷ map (meta_fault b) (filter bad rules)) = rw broken at leaks in
      let is : rule ≡ r.Leak = here.0 in
      absurd (both_ways (bad r.Leak) none (rw is at broken))
  | inr holds ↦ rw holds (none_of b bad none rules (rw holds at leaks))
]

none_at : (b : ℕ) (bad : Rule → Bool) → IsLeakless bad → HasNone (faults_at b bad)
unfolding faults_at
none_at b bad none = none_of b bad none all_rules

none_in_blocks : (nr : ℕ) (bad : ℕ → Rule → Bool) → ((b : ℕ) → IsLeakless (bad b)) → HasNone (block_faults nr bad)
unfolding block_faults
none_in_blocks nr bad none = none_joined (λ b. faults_at b (bad b)) (λ b. none_at b (bad b) (none b)) (range_with_len 0 nr)

-- no element passes a test that none passes
none_passing : (p : ℕ → Bool) → ((k : ℕ) → p k ≡ false) → (ks : List ℕ) → list_any p ks ≡ false
none_passing p none [] = refl
none_passing p none (k ∷ ks) = or_from _ _ (none k) (none_passing p none ks)

-- of two stages the first has no leak, so it has no fault, and the faults are those of the second
past : (here rest : List Fault) → HasNone here → AreLeaks (cond (nat_lt 0 (length here)) here rest) → (here ≡ []) × AreLeaks rest
past [] rest none leaks = (refl, leaks)
past (fault ∷ found) rest none leaks = absurd (cons_isnt_nil (none (rw (lt-ltb 0 (suc (length found)) (omega arith)) at leaks)))

-- the stages before the counts have no faults, and those of the counts are leaks
pub record ArePast (checked : Checked) (image : List (List ℕ)) : Type 0 where
  pub super_none : super_faults checked image ≡ []
  pub walk_none : block_faults checked.graph.nr (walk_bad checked.graph image) ≡ []
  pub order_none : block_faults checked.graph.nr (order_bad checked.graph image) ≡ []
  pub whole_none : block_faults checked.graph.nr (whole_bad checked.whole) ≡ []
  pub counts : AreLeaks (count_faults checked image)

module _ (checked : Checked) (image : List (List ℕ)) (rules : HasOtherRules checked) where
  none_super : (blocks : List (List ℕ)) → HasNone (super_faults checked blocks)
  unfolding super_faults
  none_super [] leaks = absurd (let size : r.Size ≡ r.Leak = leaks.0 in cc)
  none_super (block ∷ blocks) leaks = none_at 0 (checked.super_bad (length (block ∷ blocks)) block) (rules.super_block _ block) leaks

  none_walk : HasNone (block_faults checked.graph.nr (walk_bad checked.graph image))
  unfolding walk_bad
  none_walk = none_in_blocks checked.graph.nr _
      (λ b. or_from _ _ (none_passing _ (λ role. rules.blocks role b (block_at image b)) _) (and_right _ _ refl))

  none_order : HasNone (block_faults checked.graph.nr (order_bad checked.graph image))
  unfolding order_bad
  none_order = none_in_blocks checked.graph.nr _ (λ b. or_from _ _ (and_right _ _ refl) (and_right _ _ refl))

  none_whole : HasNone (block_faults checked.graph.nr (whole_bad checked.whole))
  none_whole = none_in_blocks checked.graph.nr _ (whole_leakless checked.whole rules.whole)

  pub all_past : AreLeaks (first_failing checked image (stages_to stages.Counts)) → ArePast checked image
  unfolding first_failing
  all_past leaks =
      let one = past _ _ (none_super image) leaks in
      let two = past _ _ none_walk one.1 in
      let three = past _ _ none_order two.1 in
      let four = past _ _ none_whole three.1 in
      record { super_none = one.0; walk_none = two.0; order_none = three.0; whole_none = four.0; counts = rw (chosen (count_faults checked image)) at four.1 }

  -- counts that are leaks, or none, are at least the references
  at_least : (space : Space) (b references : ℕ) (stored : Option ℕ) → AreLeaks (count_fault space b references stored) → IsAtLeast stored references
  at_least space b references None leaks = absurd (let overflow : r.Overflow ≡ r.Leak = leaks.0 in cc)
  at_least space b references (Some stored) leaks = elim (cases_lt stored references) [
    | inl below ↦
        let short : AreLeaks (record { space = space; block = b; rule = r.Short; stored = stored; refs = references } ∷ []) =
        rw (le-ltb references stored (omega arith), lt-ltb stored references below) at leaks in
        absurd (let is : r.Short ≡ r.Leak = short.0 in cc)
    | inr enough ↦ enough
  ]

  pub counts_enough : AreLeaks (count_faults checked image) → AreCountsEnough checked image
  unfolding count_faults
  counts_enough leaks =
      let parts = leaks_split (flat_map (λ b. count_fault Meta b (meta_count checked.graph image b) (checked.stored_meta b)) (range_with_len 0 checked.graph.nr)) _ leaks in
      record {
        meta = λ b within. at_least Meta b _ _ (at_of_range (λ k. AreLeaks (count_fault Meta k (meta_count checked.graph image k) (checked.stored_meta k)))
            0 checked.graph.nr b (omega arith) (omega arith) (leaks_each _ _ parts.0));
        of_data = λ d within. at_least DataBlock d _ _ (at_of_range (λ k. AreLeaks (count_fault DataBlock k (data_count checked.graph image k) (checked.stored_data k)))
            0 checked.graph.data_blocks d (omega arith) (omega arith) (leaks_each _ _ parts.1));
      }

-- where each fault is a leak, the stages before the counts have none, and the counts are enough
pub only_leaks_past : (kind : Kind) (image : List (List ℕ)) → OnlyLeaks kind image → ArePast (checked_of kind image) image
unfolding faults
only_leaks_past kind image leaks = all_past (checked_of kind image) image (has_other_rules kind image) leaks

pub only_leaks_whole : (kind : Kind) (image : List (List ℕ)) → OnlyLeaks kind image → faults kind stages.Whole image ≡ []
unfolding faults first_failing
only_leaks_whole kind image leaks =
    let none = only_leaks_past kind image leaks in rw (none.super_none, none.walk_none, none.order_none, none.whole_none) refl

pub only_leaks_super : (kind : Kind) (image : List (List ℕ)) → OnlyLeaks kind image → faults kind stages.Super image ≡ []
unfolding faults first_failing
only_leaks_super kind image leaks = rw (only_leaks_past kind image leaks).super_none refl

-- a report's leaks are as many as its faults just where each is a leak
leak_is : (rule : Rule) → same_rule rule r.Leak ≡ true → rule ≡ r.Leak
unfolding all_rules
leak_is rule same = sym (rule_at rule) ∙ ap (λ n. get_or all_rules n r.Checksum) (eqb-true _ _ same)

leaks_counted : (found : List Fault) → AreLeaks found → count_by is_leak found ≡ length found
leaks_counted [] leaks = refl
leaks_counted (fault ∷ found) leaks =
    let rest = leaks_counted found leaks.1 in
    let here : is_leak fault ≡ true = rw leaks.0 refl in
    sum_by-cons (λ f. cond (is_leak f) 1 0) fault found ∙ rw here (omega arith)

counted_leaks : (found : List Fault) → count_by is_leak found ≡ length found → AreLeaks found
counted_leaks [] counted = tt
counted_leaks (fault ∷ found) counted =
    let few = count_by-le-length is_leak found in
    let sum = sym (sum_by-cons (λ f. cond (is_leak f) 1 0) fault found) ∙ counted in
    elim (cases_Bool (is_leak fault)) [
      | inl leak ↦ (leak_is fault.rule leak, counted_leaks found (let all = rw leak at sum in omega arith))
      | inr other ↦ absurd (let all = rw other at sum in omega arith)
    ]

pub passes_where_leaks : (found : List Fault) → AreLeaks found → passes Leaks (report_of found) ≡ true
passes_where_leaks found leaks = eq-eqb _ _ (leaks_counted found leaks)

pub leaks_where_passes : (passing : Passing) (found : List Fault) → passes passing (report_of found) ≡ true → AreLeaks found
leaks_where_passes Nothing [] passed = tt
leaks_where_passes Nothing (fault ∷ found) passed = absurd (let none = eqb-true (suc (length found)) 0 passed in omega arith)
leaks_where_passes Leaks found passed = counted_leaks found (eqb-true _ _ passed)

-- a superblock with a fault doesn't pass
pub passing_super : (kind : Kind) (passing : Passing) (image : List (List ℕ)) → passes passing (report_of (faults kind stages.Counts image)) ≡ true
    → faults kind stages.Super image ≡ []
passing_super kind passing image passed = only_leaks_super kind image (leaks_where_passes passing (faults kind stages.Counts image) passed)
