-- The tests of a whole pool, put together.
use Rattle.std.proofs.Common.{◌≡◌, ℕ, Bool, true, false, ◌&&◌, ◌||◌, cond, nat_eq, List, [], ◌∷◌, ◌++◌, map, filter, refl, sym, ap, ◌∙◌, inl, inr, suc, ◌+◌, ◌*◌, ◌≤◌, nat_lt, length, Option, IfSome, Result, Ok, Err, subst, arith}
use Rattle.std.specs.List.{list_any, flat_map}
use Rattle.std.specs.Result.{OnOk}
use Rattle.std.proofs.lemmas.Option.{IfSome_then}
use Rattle.std.proofs.lemmas.Bool.{and_from, both_ways, lt-ltb, cases_eq}
use Rattle.pd_kinds.specs.declared.rule.Rule.{Rule}
use Rattle.pd_kinds.specs.Graph.{Graph, role_of, nodes, block_at}
use Rattle.pd_kinds.specs.Whole.{WholeTest, whole_bad, bitmap_tests, Roots, device_test, mapped_tests, thin_roots, thin_whole, roots_in}
use Rattle.pd_kinds.specs.declared.kind.Kind.TheVariants.{Thin}
use Rattle.pd_kinds.specs.Bitmap.{bitmaps_for}
use Rattle.pd_kinds.specs.Lawful.{IsLawful}
use Rattle.pd_kinds.specs.Stages.{IsReached, checked_of, thin_checked}
use Rattle.pd_kinds.specs.ThinFormat.{ThinFields, thin_fields, thin_graph}
use Rattle.pd_kinds.proofs.KindLemmas.{data_blocks_are}
use Rattle.pd_kinds.proofs.ResultLemmas.{if_both}
use Rattle.pd_kinds.specs.InOrder.{AreInOrder}
use Rattle.pd_graph.specs.declared.audit.Audit.{Audit}
use Rattle.pd_graph.specs.Audit.{KeepsButRules, blocks_of}
use Rattle.pd_tree.specs.Below.{nodes_below}
use Rattle.pd_tree.specs.Search.{IsTreeRole}
use Rattle.pd_check.specs.Known.{Charges}
use Rattle.pd_check.proofs.KnownLemmas.{known_stays}
use Rattle.pd_check.proofs.SharedLemmas.{whole_bad-append, whole_bad-cons, charges_same, charges_then, charges_none}
use Rattle.pd_check.specs.Check.{IsOrdered}
use Rattle.pd_thin.specs.Pool.{IsKnownPool, IsReady, AreReached, index_test, pool_tests, held_tests}

-- The rules of a whole pool.

-- what is known of a pool stays while rules are added
pub pool_stays : (graph : Graph) (image : List (List ℕ)) (old new : Audit) → KeepsButRules old new → IsKnownPool graph image old → IsKnownPool graph image new
pool_stays graph image old new kept pool = record { known = known_stays graph image old new kept pool.known; ordered = pool.ordered; trees = pool.trees }

-- bitmaps of either role
any_cond : (t : WholeTest → Bool) (f : ℕ → WholeTest) (a : Bool) (x : ℕ) (xs : List ℕ) → list_any t (map f (cond a (x ∷ xs) xs)) ≡ ((a && t (f x)) || list_any t (map f xs))
any_cond t f true x xs = refl
any_cond t f false x xs = refl

either : (a b here first second : Bool) → (((a || b) && here) || (first || second)) ≡ (((a && here) || first) || ((b && here) || second))
either true true true first second = refl
either true true false first second = refl
either true false true first second = refl
either true false false first second = refl
either false true true true second = refl
either false true true false second = refl
either false true false first second = refl
either false false here first second = refl

any_either : (t : WholeTest → Bool) (f : ℕ → WholeTest) (p q : ℕ → Bool) (xs : List ℕ)
    → list_any t (map f (filter (λ x. p x || q x) xs)) ≡ (list_any t (map f (filter p xs)) || list_any t (map f (filter q xs)))
any_either t f p q [] = refl
any_either t f p q (x ∷ xs) =
    any_cond t f (p x || q x) x (filter (λ y. p y || q y) xs)
    ∙ (ap (λ (rest : Bool). ((p x || q x) && t (f x)) || rest) (any_either t f p q xs)
    ∙ (either (p x) (q x) (t (f x)) (list_any t (map f (filter p xs))) (list_any t (map f (filter q xs)))
    ∙ sym (rw (any_cond t f (p x) x (filter p xs), any_cond t f (q x) x (filter q xs)) refl)))

either_bitmap : (graph : Graph) (image : List (List ℕ)) (one two b : ℕ) (wanted : Rule)
    → whole_bad (bitmap_tests graph image (λ role. nat_eq role one || nat_eq role two)) b wanted
    ≡ (whole_bad (bitmap_tests graph image (λ role. nat_eq role one)) b wanted || whole_bad (bitmap_tests graph image (λ role. nat_eq role two)) b wanted)
unfolding whole_bad bitmap_tests
either_bitmap graph image one two b wanted = any_either _ _ (λ p. nat_eq (role_of p) one) (λ p. nat_eq (role_of p) two) (nodes graph image)

-- the index and the bitmaps of both roles
pub noted_tests : (graph : Graph) (image : List (List ℕ)) (test : WholeTest) (one two : ℕ) (a b c d : Audit) → Charges (test ∷ []) a b
    → Charges (bitmap_tests graph image (λ role. nat_eq role one)) b c → Charges (bitmap_tests graph image (λ role. nat_eq role two)) c d
    → Charges (test ∷ bitmap_tests graph image (λ role. nat_eq role one || nat_eq role two)) a d
noted_tests graph image test one two a b c d index first second =
    let ones = bitmap_tests graph image (λ role. nat_eq role one) in
    let twos = bitmap_tests graph image (λ role. nat_eq role two) in
    let all = bitmap_tests graph image (λ role. nat_eq role one || nat_eq role two) in
    charges_same ((test ∷ []) ++ (ones ++ twos)) (test ∷ all) a d
    (λ n wanted within.
    whole_bad-append (test ∷ []) (ones ++ twos) n wanted
    ∙ (ap (λ (x : Bool). whole_bad (test ∷ []) n wanted || x) (whole_bad-append ones twos n wanted ∙ sym (either_bitmap graph image one two n wanted))
    ∙ sym (whole_bad-cons test all n wanted)))
    (charges_then (test ∷ []) (ones ++ twos) a b d index (charges_then ones twos b c d first second))

-- what follows of a call that answered Ok
pub on_ok : {T E : Type 0} {P Q : Type 0} → (result : Result T E) → (P → Q) → OnOk result P → OnOk result Q
on_ok (Ok x) leads p = leads p
on_ok (Err e) leads p = p

-- where there is no held copy, nothing is charged for it
pub held_none : (graph : Graph) (image : List (List ℕ)) (audit : Audit) (held blocks : ℕ) → (nat_lt 0 held && nat_lt held blocks) ≡ false
    → blocks_of audit ≤ blocks → IsKnownPool graph image audit → ((held ≡ 0 → ⊥) → IsReached graph image held 1) → Charges (held_tests graph image held) audit audit
held_none graph image audit held blocks none within pool reached = elim (cases_eq held 0) [
  | inl same ↦ rw same (charges_none audit)
  | inr other ↦
      let there = (reached other).block in
      let number = pool.known.number in
      absurd (both_ways (nat_lt 0 held && nat_lt held blocks) none
      (and_from (nat_lt 0 held) (nat_lt held blocks) (lt-ltb 0 held (omega arith)) (lt-ltb held blocks (omega arith))))
]

-- the tests of two pairs of roots, in the order of the definition
swapped : (d' : WholeTest) (m m' : List WholeTest) (b : ℕ) (wanted : Rule) → whole_bad (m ++ (d' ∷ m')) b wanted ≡ whole_bad (d' ∷ (m ++ (m' ++ []))) b wanted
swapped d' m m' b wanted =
    whole_bad-append m (d' ∷ m') b wanted
    ∙ (ap (λ (x : Bool). whole_bad m b wanted || x) (whole_bad-cons d' m' b wanted)
    ∙ (swap (whole_bad m b wanted) (whole_bad (d' ∷ []) b wanted) (whole_bad m' b wanted)
    ∙ sym (whole_bad-cons d' (m ++ (m' ++ [])) b wanted
    ∙ ap (λ (x : Bool). whole_bad (d' ∷ []) b wanted || x)
    (whole_bad-append m (m' ++ []) b wanted ∙ ap (λ (list : List WholeTest). whole_bad m b wanted || whole_bad list b wanted) (append_none m')))))
  where
    swap : (p q s : Bool) → (p || (q || s)) ≡ (q || (p || s))
    swap true true s = refl
    swap true false s = refl
    swap false q s = refl

    append_none : (xs : List WholeTest) → xs ++ [] ≡ xs
    append_none [] = refl
    append_none (x ∷ xs) = ap (λ (rest : List WholeTest). x ∷ rest) (append_none xs)

-- behind other tests
behind : (xs ys zs : List WholeTest) (b : ℕ) (wanted : Rule) → whole_bad ys b wanted ≡ whole_bad zs b wanted → whole_bad (xs ++ ys) b wanted ≡ whole_bad (xs ++ zs) b wanted
behind xs ys zs b wanted same =
    whole_bad-append xs ys b wanted ∙ (ap (λ (x : Bool). whole_bad xs b wanted || x) same ∙ sym (whole_bad-append xs zs b wanted))

roots_by : (graph : Graph) (image : List (List ℕ)) (front : List WholeTest) (one two : Roots) (none : Bool) (b : ℕ) (wanted : Rule)
    → whole_bad (front ++ (pool_tests graph image one ++ cond none [] (pool_tests graph image two))) b wanted
    ≡ whole_bad (front ++ (map (device_test graph image) (one ∷ cond none [] (two ∷ [])) ++ flat_map (mapped_tests graph image) (one ∷ cond none [] (two ∷ [])))) b wanted
roots_by graph image front one two true b wanted = refl
roots_by graph image front one two false b wanted =
    behind front (pool_tests graph image one ++ pool_tests graph image two) _ b wanted
    (behind (device_test graph image one ∷ []) (mapped_tests graph image one ++ pool_tests graph image two) _ b wanted
    (swapped (device_test graph image two) (mapped_tests graph image one) (mapped_tests graph image two) b wanted))

-- all tests of a pool
pool_whole : (image : List (List ℕ)) (b : ℕ) (wanted : Rule)
    → (let first = block_at image 0 in
    let graph = thin_graph first in
    whole_bad ((index_test graph image (thin_fields first).data_map.bitmap_root (bitmaps_for (thin_fields first).data_map.blocks)
    ∷ bitmap_tests graph image (λ role. nat_eq role 6 || nat_eq role 9))
    ++ (pool_tests graph image (roots_in first) ++ held_tests graph image (thin_fields first).held_root)) b wanted
    ≡ whole_bad (thin_checked image).whole b wanted)
unfolding thin_checked thin_whole thin_roots
pool_whole image b wanted =
    let first = block_at image 0 in
    let graph = thin_graph first in
    let fields = thin_fields first in
    roots_by graph image (index_test graph image fields.data_map.bitmap_root (bitmaps_for fields.data_map.blocks) ∷ bitmap_tests graph image (λ role. nat_eq role 6 || nat_eq role 9))
    (roots_in first) (roots_in (block_at image fields.held_root)) (nat_eq fields.held_root 0) b wanted
    ∙ ap (λ (n : ℕ). whole_bad ((index_test graph image fields.data_map.bitmap_root (bitmaps_for n) ∷ bitmap_tests graph image (λ role. nat_eq role 6 || nat_eq role 9))
    ++ (map (device_test graph image) (thin_roots image) ++ flat_map (mapped_tests graph image) (thin_roots image))) b wanted) (sym (data_blocks_are first))

pub charges_whole : (image : List (List ℕ)) (first : List ℕ) (fields : ThinFields) (a b c d : Audit) → block_at image 0 ≡ first → fields ≡ thin_fields first
    → Charges (index_test (thin_graph first) image fields.data_map.bitmap_root (bitmaps_for fields.data_map.blocks)
    ∷ bitmap_tests (thin_graph first) image (λ role. nat_eq role 6 || nat_eq role 9)) a b
    → Charges (pool_tests (thin_graph first) image (record { mapping = fields.mapping_root; details = fields.details_root })) b c
    → Charges (held_tests (thin_graph first) image fields.held_root) c d
    → Charges (checked_of Thin image).whole a d
charges_whole image first fields a b c d here are =
    subst (λ (f : ThinFields). Charges (index_test (thin_graph first) image f.data_map.bitmap_root (bitmaps_for f.data_map.blocks)
    ∷ bitmap_tests (thin_graph first) image (λ role. nat_eq role 6 || nat_eq role 9)) a b
    → Charges (pool_tests (thin_graph first) image (record { mapping = f.mapping_root; details = f.details_root })) b c
    → Charges (held_tests (thin_graph first) image f.held_root) c d
    → Charges (checked_of Thin image).whole a d) (sym are)
    (subst (λ (block : List ℕ). Charges (index_test (thin_graph block) image (thin_fields block).data_map.bitmap_root (bitmaps_for (thin_fields block).data_map.blocks)
    ∷ bitmap_tests (thin_graph block) image (λ role. nat_eq role 6 || nat_eq role 9)) a b
    → Charges (pool_tests (thin_graph block) image (roots_in block)) b c
    → Charges (held_tests (thin_graph block) image (thin_fields block).held_root) c d
    → Charges (checked_of Thin image).whole a d) here
    (λ noted trees held.
    let block = block_at image 0 in
    let graph = thin_graph block in
    let front = index_test graph image (thin_fields block).data_map.bitmap_root (bitmaps_for (thin_fields block).data_map.blocks)
    ∷ bitmap_tests graph image (λ role. nat_eq role 6 || nat_eq role 9) in
    let rest = pool_tests graph image (roots_in block) ++ held_tests graph image (thin_fields block).held_root in
    charges_same (front ++ rest) (thin_checked image).whole a d (λ n wanted within. pool_whole image n wanted)
    (charges_then front rest a b d noted
    (charges_then (pool_tests graph image (roots_in block)) (held_tests graph image (thin_fields block).held_root) b c d trees held))))

-- how many reads both passes take
abbrev pub root_reads : List (List ℕ) → Roots → ℕ
root_reads image roots = length (nodes_below 8 image 63 roots.mapping) + length (nodes_below 24 image 63 roots.details)

-- two trees have no more nodes than there are pairs
abbrev pub HasRoom : Type 0
HasRoom = (graph : Graph) (image : List (List ℕ)) (c other b role size b' role' size' : ℕ) → IsLawful graph → AreInOrder graph image
    → IsReached graph image c other
    → IsTreeRole graph role size → IsReached graph image b role
    → IsTreeRole graph role' size' → IsReached graph image b' role'
    → (role ≡ role' → ⊥) → (other ≡ role → ⊥) → (other ≡ role' → ⊥)
    → suc (length (nodes_below size image 63 b) + length (nodes_below size' image 63 b')) ≤ length (nodes graph image)

one_pass : (graph : Graph) (image : List (List ℕ)) (audit : Audit) (c other : ℕ) (roots : Roots) → HasRoom → IsKnownPool graph image audit → IsReached graph image c other
    → AreReached graph image roots → (other ≡ 2 → ⊥) → (other ≡ 4 → ⊥) → suc (root_reads image roots) ≤ length (nodes graph image)
one_pass graph image audit c other roots room pool reached are two four =
    room graph image c other roots.mapping 2 8 roots.details 4 24 pool.known.lawful pool.ordered reached pool.trees.devices.is_role are.mapping pool.trees.details are.details
    (λ e. omega arith) two four

pub super_pass : (first : List ℕ) (image : List (List ℕ)) (audit : Audit) (fields : ThinFields) → fields ≡ thin_fields first → HasRoom → IsReady first image audit
    → suc (root_reads image (record { mapping = fields.mapping_root; details = fields.details_root })) ≤ length (nodes (thin_graph first) image)
super_pass first image audit fields are room ready =
    subst (λ (f : ThinFields). suc (root_reads image (record { mapping = f.mapping_root; details = f.details_root })) ≤ length (nodes (thin_graph first) image)) (sym are)
    (one_pass (thin_graph first) image audit 0 0 (roots_in first) room ready.pool ready.start (record { mapping = ready.roots.devices; details = ready.roots.details }) (λ e. omega arith) (λ e. omega arith))

pub held_pass : (first : List ℕ) (image : List (List ℕ)) (audit : Audit) (fields : ThinFields) (b c : ℕ) → fields ≡ thin_fields first → HasRoom → IsReady first image audit
    → (fields.held_root ≡ 0 → c ≡ b) → c ≤ b + suc (root_reads image (roots_in (block_at image fields.held_root))) → c ≤ b + length (nodes (thin_graph first) image)
held_pass first image audit fields b c are room ready none some =
    elim (cases_eq fields.held_root 0) [
      | inl same ↦ let e = none same in omega arith
      | inr other ↦
          let held : ((thin_fields first).held_root ≡ 0 → ⊥) = subst (λ (f : ThinFields). f.held_root ≡ 0 → ⊥) are other in
          let most = one_pass (thin_graph first) image audit (thin_fields first).held_root 1 (roots_in (block_at image (thin_fields first).held_root)) room ready.pool (ready.held held) (ready.held_roots held)
          (λ e. omega arith) (λ e. omega arith) in
          let bound : suc (root_reads image (roots_in (block_at image fields.held_root))) ≤ length (nodes (thin_graph first) image) =
          subst (λ (f : ThinFields). suc (root_reads image (roots_in (block_at image f.held_root))) ≤ length (nodes (thin_graph first) image)) (sym are) most in
          omega arith
    ]

-- all of it, where the image is told
pub pool_told : (held later : Option (List (List ℕ))) (first : List ℕ) (fields : ThinFields) (a b c d : Audit) → later ≡ held → fields ≡ thin_fields first
    → ((first : List ℕ) (image : List (List ℕ)) (audit : Audit) → IsOrdered Thin first image audit → IsReady first image audit)
    → ((graph : Graph) (image : List (List ℕ)) → IsKnownPool graph image a → IsReached graph image fields.data_map.bitmap_root 5
    → Charges (index_test graph image fields.data_map.bitmap_root (bitmaps_for fields.data_map.blocks) ∷ bitmap_tests graph image (λ role. nat_eq role 6 || nat_eq role 9)) a b)
    → KeepsButRules a b → KeepsButRules b c
    → IfSome held (λ image. (graph : Graph) → IsKnownPool graph image b → AreReached graph image (record { mapping = fields.mapping_root; details = fields.details_root })
    → Charges (pool_tests graph image (record { mapping = fields.mapping_root; details = fields.details_root })) b c)
    → IfSome later (λ image. (graph : Graph) → IsKnownPool graph image c → ((fields.held_root ≡ 0 → ⊥) → IsReached graph image fields.held_root 1)
    → ((fields.held_root ≡ 0 → ⊥) → AreReached graph image (roots_in (block_at image fields.held_root))) → Charges (held_tests graph image fields.held_root) c d)
    → IfSome held (λ image. IsOrdered Thin first image a → Charges (checked_of Thin image).whole a d)
pool_told held later first fields a b c d stays are ready noted kept kept' trees copies =
    if_both held
    (λ image one two ordered.
    let all = ready first image a ordered in
    let graph = thin_graph first in
    let pool_b = pool_stays graph image a b kept all.pool in
    let pool_c = pool_stays graph image b c kept' pool_b in
    let back = sym are in
    let index : IsReached graph image fields.data_map.bitmap_root 5 = subst (λ (f : ThinFields). IsReached graph image f.data_map.bitmap_root 5) back all.roots.data_index in
    let roots : AreReached graph image (record { mapping = fields.mapping_root; details = fields.details_root }) =
    subst (λ (f : ThinFields). AreReached graph image (record { mapping = f.mapping_root; details = f.details_root })) back (record { mapping = all.roots.devices; details = all.roots.details }) in
    let copy : (fields.held_root ≡ 0 → ⊥) → IsReached graph image fields.held_root 1 = subst (λ (f : ThinFields). (f.held_root ≡ 0 → ⊥) → IsReached graph image f.held_root 1) back all.held in
    let copied : (fields.held_root ≡ 0 → ⊥) → AreReached graph image (roots_in (block_at image fields.held_root)) =
    subst (λ (f : ThinFields). (f.held_root ≡ 0 → ⊥) → AreReached graph image (roots_in (block_at image f.held_root))) back all.held_roots in
    charges_whole image first fields a b c d all.first_block are (noted graph image all.pool index) (one graph pool_b roots) (two graph pool_c copy copied))
    trees
    (subst (λ (o : Option (List (List ℕ))). IfSome o (λ image. (graph : Graph) → IsKnownPool graph image c → ((fields.held_root ≡ 0 → ⊥) → IsReached graph image fields.held_root 1)
    → ((fields.held_root ≡ 0 → ⊥) → AreReached graph image (roots_in (block_at image fields.held_root))) → Charges (held_tests graph image fields.held_root) c d)) stays copies)

-- and the reads of it
pub first_reads : (held : Option (List (List ℕ))) (first : List ℕ) (fields : ThinFields) (audit : Audit) (a b : ℕ) → fields ≡ thin_fields first
    → ((first : List ℕ) (image : List (List ℕ)) (audit : Audit) → IsOrdered Thin first image audit → IsReady first image audit) → HasRoom
    → IfSome held (λ image. b ≤ a + root_reads image (record { mapping = fields.mapping_root; details = fields.details_root }))
    → IfSome held (λ image. IsOrdered Thin first image audit → b ≤ a + 2 * length (nodes (thin_graph first) image))
first_reads held first fields audit a b are ready room most =
    IfSome_then held most (λ image few ordered. let bound = super_pass first image audit fields are room (ready first image audit ordered) in omega arith)

pub both_reads : (held later : Option (List (List ℕ))) (first : List ℕ) (fields : ThinFields) (audit : Audit) (a b c : ℕ) → later ≡ held → fields ≡ thin_fields first
    → ((first : List ℕ) (image : List (List ℕ)) (audit : Audit) → IsOrdered Thin first image audit → IsReady first image audit) → HasRoom
    → IfSome held (λ image. b ≤ a + root_reads image (record { mapping = fields.mapping_root; details = fields.details_root }))
    → (fields.held_root ≡ 0 → c ≡ b)
    → IfSome later (λ image. c ≤ b + suc (root_reads image (roots_in (block_at image fields.held_root))))
    → IfSome held (λ image. IsOrdered Thin first image audit → c ≤ a + 2 * length (nodes (thin_graph first) image))
both_reads held later first fields audit a b c stays are ready room most none more =
    if_both held
    (λ image few some ordered.
    let all = ready first image audit ordered in
    let bound = super_pass first image audit fields are room all in
    let rest = held_pass first image audit fields b c are room all none some in
    omega arith)
    most (subst (λ (o : Option (List (List ℕ))). IfSome o (λ image. c ≤ b + suc (root_reads image (roots_in (block_at image fields.held_root))))) stays more)
