-- What the lines of version 2 need grows from line to line.
use Rattle.std.proofs.Common.{◌≡◌, inl, inr, ℕ, zero, suc, ◌+◌, ◌≤◌, Bool, true, false, cond, eqb, List, [], ◌∷◌, ◌++◌, length, map, sum_by, count_by, refl, ap, arith}
use Rattle.std.specs.List.{flat_map, range_with_len}
use Rattle.std.proofs.lemmas.Bool.{cases_eq, eq-eqb, ne_eqb}
use Rattle.std.proofs.lemmas.List.{length-map}
use Rattle.std.proofs.lemmas.List.Sums.{sum_by-append, sum_by-cons}
use Rattle.pd_kinds.specs.Node.{max_entries}
use Rattle.pd_grammar.specs.Texts.{has_ended}
use Rattle.pd_grammar.specs.Need.{nodes_for, data_of_line, overflows_in}
use Rattle.pd_grammar.specs.ThinText.{Line, first_line, shared_first_line, pool_line, leaf_line, device_line, use_line, map_line, end_line, pool_format, data_blocks_of, leaf_number}
use Rattle.pd_grammar.proofs.NeedLemmas.{need_tree-le, overflows-le, need_above-le, nodes_for-le}
use Rattle.pd_grammar.specs.ThinText as text
use Rattle.pd_laid.specs.PoolText.{LeafCount, Told, empty_leaf_count, leaf_count, leaves_of_ended, leaves_of_told, lengthened, need_of_leaves, need_of_shared, shape_need_so_far, tell_newest, told_devices, told_nothing, used_often, with_run, with_use}

-- the leaves of some pieces
abbrev pub leaves_for : List ℕ → ℕ
leaves_for pieces = sum_by (λ n. nodes_for (max_entries 8) n) pieces

abbrev pub needs : List LeafCount → ℕ
needs ds = sum_by need_of_leaves ds

counts-le : (a b c d : ℕ) → a ≤ b → c ≤ d → need_of_leaves (record { own = a; all = c }) ≤ need_of_leaves (record { own = b; all = d })
counts-le a b c d own all = omega (arith, own, need_above-le 10 c d all)

no_pieces : (own : List ℕ) → length own ≡ 0 → leaves_for own ≡ 0
no_pieces [] none = refl
no_pieces (n ∷ own) none = absurd (omega arith)

-- a device that has ended needs no less
ended-le : (own : List ℕ) (uses : ℕ) → need_of_leaves (leaf_count own uses) ≤ need_of_leaves (cond (eqb (length own + uses) 0) empty_leaf_count (leaf_count own uses))
ended-le own uses = elim (cases_eq (length own + uses) 0) [
  | inl same ↦ let none = no_pieces own (omega arith) in rw (eq-eqb (length own + uses) 0 same) (counts-le (leaves_for own) 1 (leaves_for own + uses) 1 (omega arith) (omega arith))
  | inr other ↦ rw (ne_eqb (length own + uses) 0 other) (omega arith)
]

pub ended_are : (told : List Told) → leaves_of_told true told ≡ map leaves_of_ended told
ended_are [] = refl
ended_are (newest ∷ told) = refl

pub told_number : (ended : Bool) (told : List Told) → length (leaves_of_told ended told) ≡ length told
told_number ended [] = refl
told_number ended (newest ∷ told) = ap suc (length-map told leaves_of_ended)

ends-le : (told : List Told) → needs (leaves_of_told false told) ≤ needs (leaves_of_told true told)
ends-le [] = omega arith
ends-le (newest ∷ told) =
    omega (arith, sum_by-cons need_of_leaves (leaf_count newest.own newest.uses) (map leaves_of_ended told), sum_by-cons need_of_leaves (leaves_of_ended newest) (map leaves_of_ended told), ended-le newest.own newest.uses)

starts-le : (told : List Told) → needs (leaves_of_told false told) ≤ needs (leaves_of_told false (told_nothing ∷ told))
starts-le told =
    omega (arith, ends-le told, ap needs (ended_are told), sum_by-cons need_of_leaves (leaf_count [] 0) (map leaves_of_ended told))

newest-le : (newest next : Told) (told : List Told) → need_of_leaves (leaf_count newest.own newest.uses) ≤ need_of_leaves (leaf_count next.own next.uses)
    → needs (leaves_of_told false (newest ∷ told)) ≤ needs (leaves_of_told false (next ∷ told))
newest-le newest next told more =
    omega (arith, more, sum_by-cons need_of_leaves (leaf_count newest.own newest.uses) (map leaves_of_ended told), sum_by-cons need_of_leaves (leaf_count next.own next.uses) (map leaves_of_ended told))

use-le : (told : List Told) → needs (leaves_of_told false told) ≤ needs (leaves_of_told false (tell_newest with_use told))
use-le [] = omega arith
use-le (newest ∷ told) =
    newest-le newest (with_use newest) told
    (counts-le (leaves_for newest.own) (leaves_for newest.own) (leaves_for newest.own + newest.uses) (leaves_for newest.own + (newest.uses + 1)) (omega arith) (omega arith))

lengthened-le : (n : ℕ) (own : List ℕ) → leaves_for own ≤ leaves_for (lengthened n own)
lengthened-le n [] = omega arith
lengthened-le n (x ∷ own) =
    omega (arith, nodes_for-le (max_entries 8) x (x + n) (omega arith) (omega arith), sum_by-cons (λ k. nodes_for (max_entries 8) k) x own, sum_by-cons (λ k. nodes_for (max_entries 8) k) (x + n) own)

more-le : (n : ℕ) (own : List ℕ) → leaves_for own ≤ leaves_for (n ∷ own)
more-le n own = omega (arith, sum_by-cons (λ k. nodes_for (max_entries 8) k) n own)

run_own-le : (n : ℕ) (in_run : Bool) (own : List ℕ) → leaves_for own ≤ leaves_for (cond in_run (lengthened n own) (n ∷ own))
run_own-le n true own = lengthened-le n own
run_own-le n false own = more-le n own

run-le : (n : ℕ) (told : List Told) → needs (leaves_of_told false told) ≤ needs (leaves_of_told false (tell_newest (with_run n) told))
run-le n [] = omega arith
run-le n (newest ∷ told) =
    let more = run_own-le n newest.in_run newest.own in
    newest-le newest (with_run n newest) told
    (counts-le (leaves_for newest.own) (leaves_for (with_run n newest).own) (leaves_for newest.own + newest.uses) (leaves_for (with_run n newest).own + newest.uses) more (omega (arith, more)))

-- the whole need
pub shared-le : (leaves more_leaves often more_often : ℕ) (ds es : List LeafCount) (data_blocks over more_over room : ℕ) → leaves ≤ more_leaves → often ≤ more_often
    → needs ds ≤ needs es → length ds ≤ length es → over ≤ more_over
    → need_of_shared leaves often ds data_blocks over room ≤ need_of_shared more_leaves more_often es data_blocks more_over room
unfolding need_of_shared
shared-le leaves more_leaves often more_often ds es data_blocks over more_over room l o n k v =
    omega (arith, l, n, need_tree-le 8 (length ds) (length es) (omega arith) k, need_tree-le 24 (length ds) (length es) (omega arith) k, need_tree-le 4 over more_over (omega arith) v, need_tree-le 4 often more_often (omega arith) o)

-- a line between the pool's and the end
abbrev pub IsMiddle : Line → Type 0
IsMiddle first_line = ⊥
IsMiddle shared_first_line = ⊥
IsMiddle (pool_line p) = ⊥
IsMiddle (leaf_line l) = Unit {0}
IsMiddle (device_line d) = Unit {0}
IsMiddle (use_line n) = Unit {0}
IsMiddle (map_line r) = Unit {0}
IsMiddle end_line = ⊥

pub middle_goes_on : (line : Line) (before : List Line) → IsMiddle line → has_ended pool_format (line ∷ before) ≡ false
middle_goes_on first_line before middle = absurd middle
middle_goes_on shared_first_line before middle = absurd middle
middle_goes_on (pool_line p) before middle = absurd middle
middle_goes_on (leaf_line l) before middle = refl
middle_goes_on (device_line d) before middle = refl
middle_goes_on (use_line n) before middle = refl
middle_goes_on (map_line r) before middle = refl
middle_goes_on end_line before middle = absurd middle

longer_range : (p : ℕ → Bool) (from n : ℕ) → count_by p (range_with_len from n) ≤ count_by p (range_with_len from (suc n))
longer_range p from zero = omega arith
longer_range p from (suc n) =
    omega (arith, longer_range p (from + 1) n, sum_by-cons (λ x. cond {A = ℕ} (p x) 1 0) from (range_with_len (from + 1) n), sum_by-cons (λ x. cond {A = ℕ} (p x) 1 0) from (range_with_len (from + 1) (suc n)))

often_more : (uses : List ℕ) (n : ℕ) → used_often uses n ≤ used_often uses (suc n)
unfolding used_often overflows_in
often_more uses n = longer_range _ 0 n

often_used : (uses : List ℕ) (k n : ℕ) → used_often uses n ≤ used_often (k ∷ uses) n
unfolding used_often
often_used uses k n = overflows-le uses (k ∷ uses) n (λ d. omega (arith, sum_by-cons (λ b. cond {A = ℕ} (eqb b d) 1 0) k uses))

more_data : (line : Line) (before : List Line) (n : ℕ) → overflows_in (flat_map data_of_line before) n ≤ overflows_in (data_of_line line ++ flat_map data_of_line before) n
more_data line before n =
    overflows-le (flat_map data_of_line before) (data_of_line line ++ flat_map data_of_line before) n
    (λ d. omega (arith, sum_by-append (λ b. cond {A = ℕ} (eqb b d) 1 0) (data_of_line line) (flat_map data_of_line before)))

-- the parts of the need after some lines, where the text hasn't ended
abbrev pub need_in : ℕ → ℕ → List ℕ → List Told → Bool → ℕ → List ℕ → ℕ
need_in room leaves uses told ended data_blocks mapped =
    need_of_shared leaves (used_often uses leaves) (leaves_of_told ended told) data_blocks (overflows_in mapped data_blocks) room

pub so_far_is : (room : ℕ) (before : List Line) (ended : Bool) → has_ended pool_format before ≡ ended
    → shape_need_so_far room before ≡ need_in room (leaf_number before) (text.uses_of before) (told_devices before) ended (data_blocks_of before) (flat_map data_of_line before)
unfolding shape_need_so_far
so_far_is room before ended e = rw e refl

-- each such line needs no less, and the end no less
pub line-le : (room : ℕ) (line : Line) (before : List Line) → IsMiddle line → has_ended pool_format before ≡ false
    → shape_need_so_far room before ≤ shape_need_so_far room (line ∷ before)
line-le room first_line before middle open_still = absurd middle
line-le room shared_first_line before middle open_still = absurd middle
line-le room (pool_line p) before middle open_still = absurd middle
line-le room (leaf_line l) before middle open_still =
    let told = leaves_of_told false (told_devices before) in
    rw (so_far_is room before false open_still, so_far_is room (leaf_line l ∷ before) false refl)
    (shared-le (leaf_number before) (suc (leaf_number before)) (used_often (text.uses_of before) (leaf_number before)) (used_often (text.uses_of before) (suc (leaf_number before)))
    told told (data_blocks_of before) (overflows_in (flat_map data_of_line before) (data_blocks_of before)) (overflows_in (flat_map data_of_line before) (data_blocks_of before)) room
    (omega arith) (often_more (text.uses_of before) (leaf_number before)) (omega arith) (omega arith) (omega arith))
line-le room (device_line d) before middle open_still =
    let told = told_devices before in
    let often = used_often (text.uses_of before) (leaf_number before) in
    let over = overflows_in (flat_map data_of_line before) (data_blocks_of before) in
    rw (so_far_is room before false open_still, so_far_is room (device_line d ∷ before) false refl)
    (shared-le (leaf_number before) (leaf_number before) often often (leaves_of_told false told) (leaves_of_told false (told_nothing ∷ told)) (data_blocks_of before) over over room
    (omega arith) (omega arith) (starts-le told) (omega (arith, told_number false told, told_number false (told_nothing ∷ told))) (omega arith))
line-le room (use_line n) before middle open_still =
    let told = told_devices before in
    let over = overflows_in (flat_map data_of_line before) (data_blocks_of before) in
    rw (so_far_is room before false open_still, so_far_is room (use_line n ∷ before) false refl)
    (shared-le (leaf_number before) (leaf_number before) (used_often (text.uses_of before) (leaf_number before)) (used_often (n ∷ text.uses_of before) (leaf_number before))
    (leaves_of_told false told) (leaves_of_told false (tell_newest with_use told)) (data_blocks_of before) over over room
    (omega arith) (often_used (text.uses_of before) n (leaf_number before)) (use-le told) (omega (arith, told_number false told, told_number false (tell_newest with_use told), tell_number with_use told)) (omega arith))
  where
    tell_number : (more : Told → Told) (told : List Told) → length (tell_newest more told) ≡ length told
    tell_number more [] = refl
    tell_number more (newest ∷ told) = refl
line-le room (map_line r) before middle open_still =
    let told = told_devices before in
    let often = used_often (text.uses_of before) (leaf_number before) in
    rw (so_far_is room before false open_still, so_far_is room (map_line r ∷ before) false refl)
    (shared-le (leaf_number before) (leaf_number before) often often
    (leaves_of_told false told) (leaves_of_told false (tell_newest (with_run r.length) told)) (data_blocks_of before)
    (overflows_in (flat_map data_of_line before) (data_blocks_of before)) (overflows_in (data_of_line (map_line r) ++ flat_map data_of_line before) (data_blocks_of before)) room
    (omega arith) (omega arith) (run-le r.length told) (omega (arith, told_number false told, told_number false (tell_newest (with_run r.length) told), tell_number (with_run r.length) told))
    (more_data (map_line r) before (data_blocks_of before)))
  where
    tell_number : (more : Told → Told) (told : List Told) → length (tell_newest more told) ≡ length told
    tell_number more [] = refl
    tell_number more (newest ∷ told) = refl
line-le room end_line before middle open_still = absurd middle

pub end-le : (room : ℕ) (before : List Line) → has_ended pool_format before ≡ false → shape_need_so_far room before ≤ shape_need_so_far room (end_line ∷ before)
end-le room before open_still =
    let told = told_devices before in
    let often = used_often (text.uses_of before) (leaf_number before) in
    let over = overflows_in (flat_map data_of_line before) (data_blocks_of before) in
    rw (so_far_is room before false open_still, so_far_is room (end_line ∷ before) true refl)
    (shared-le (leaf_number before) (leaf_number before) often often (leaves_of_told false told) (leaves_of_told true told) (data_blocks_of before) over over room
    (omega arith) (omega arith) (ends-le told) (omega (arith, told_number false told, told_number true told)) (omega arith))
