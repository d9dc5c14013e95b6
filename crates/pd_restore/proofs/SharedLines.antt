-- The lines of a pool's text of version 2, and what they need.
use Rattle.std.proofs.Common.{◌≡◌, inl, inr, ℕ, suc, ◌+◌, ◌-◌, ◌*◌, ◌<◌, ◌≤◌, ◌^◌, Bool, true, false, if◌then◌else◌, eqb, List, [], ◌∷◌, length, map, sum, sum_by, refl, sym, subst, arith}
use Rattle.std.specs.List.{flat_map}
use Rattle.std.proofs.lemmas.Bool.{cases_Bool, cases_lt, lt-ltb, true≢false}
use Rattle.std.proofs.lemmas.List.Sums.{sum_by-cons}
use Rattle.pd_kinds.specs.Bitmap.{bitmaps_for}
use Rattle.pd_kinds.specs.Node.{max_entries}
use Rattle.pd_grammar.specs.Texts.{has_ended}
use Rattle.pd_grammar.specs.Need.{nodes_for, need_above, need_tree, data_of_line, overflows_in}
use Rattle.pd_grammar.specs.ThinText.{Line, first_line, shared_first_line, pool_line, leaf_line, device_line, use_line, map_line, end_line, pool_format, data_blocks_of, has_device, leaf_number, unmapped, uses_of}
use Rattle.pd_grammar.proofs.ThinRead.{pool_grammar}
use Rattle.pd_grammar.specs.ThinText as d
use Rattle.pd_laid.specs.PoolText.{Told, leaf_count, leaves_of_ended, leaves_of_told, lengthened, need_of_leaves, need_of_shared, shape_need_so_far, tell_newest, told_devices, told_nothing, used_often, with_run, with_use}
use Rattle.pd_laid.proofs.NeedGrows.{leaves_for, told_number}
use Rattle.pd_texts.specs.Reader.{AreReadSoFar}
use Rattle.pd_texts.proofs.ThinNextLemmas.{pool_read, leaf_read, use_read, run_read}
use Rattle.pd_build.proofs.TreeLemmas.{none_is}
use Rattle.pd_devices.proofs.GrowthLemmas.{need_tree_some}
use Rattle.pd_devices.proofs.DeviceLemmas.{top}
use Rattle.pd_restoring.proofs.ReadingLemmas.{above_most}
use Rattle.pd_restore.specs.Shared.{lacks_pieces}
use Rattle.pd_restore.proofs.UnsharedLines.{overflows_most, first_alone, firsts, small_most}

above_least : (levels nodes : ℕ) → nodes ≤ 252 * need_above (suc levels) nodes + 1
unfolding need_above
above_least levels nodes = elim (cases_lt 1 nodes) [
  | inl some ↦ rw (lt-ltb 1 nodes some) (omega arith)
  | inr none ↦ omega arith
]

often_most : (uses : List ℕ) (leaves : ℕ) → used_often uses leaves ≤ leaves
unfolding used_often
often_most uses leaves = overflows_most uses leaves

none_told : (own : List ℕ) (uses : ℕ) → eqb (length own + uses) 0 ≡ true → (own ≡ []) × (uses ≡ 0)
none_told [] uses e = let none = none_is (length {A = ℕ} [] + uses) e in (refl, omega arith)
none_told (n ∷ own) uses e = let none = none_is (length (n ∷ own) + uses) e in absurd (omega arith)

-- a device that ends without a piece has one leaf
ended_is : (t : Told) → need_of_leaves (leaves_of_ended t) ≡ need_of_leaves (leaf_count t.own t.uses) + (if eqb (length t.own + t.uses) 0 then 1 else 0)
unfolding need_above
ended_is t = elim (cases_Bool (eqb (length t.own + t.uses) 0)) [
  | inl e ↦ let is = none_told t.own t.uses e in rw (e, is.0, is.1) refl
  | inr e ↦ rw e (omega arith)
]

abbrev trees : Bool → List Told → ℕ
trees ended told = sum_by need_of_leaves (leaves_of_told ended told)

at_end : (told : List Told) → trees true told ≡ trees false told + (if lacks_pieces told then 1 else 0)
at_end [] = refl
at_end (newest ∷ ds) =
    omega (
      arith,
      sum_by-cons need_of_leaves (leaves_of_ended newest) (map leaves_of_ended ds),
      sum_by-cons need_of_leaves (leaf_count newest.own newest.uses) (map leaves_of_ended ds),
      ended_is newest,
    )

-- the need by its parts
abbrev total : ℕ → ℕ → ℕ → ℕ → ℕ → ℕ → ℕ → ℕ
total leaves below devices blocks over often room =
    1 + (leaves + (below + (need_tree 8 devices + (need_tree 24 devices + (bitmaps_for blocks + (need_tree 16 (bitmaps_for blocks) + (need_tree 4 over + (1 + (bitmaps_for room + need_tree 4 often)))))))))

parts_are : (ended : Bool) (room : ℕ) (before : List Line) → has_ended pool_format before ≡ ended → shape_need_so_far room before
    ≡ total (leaf_number before) (trees ended (told_devices before)) (length (told_devices before)) (data_blocks_of before) (overflows_in (flat_map data_of_line before) (data_blocks_of before))
    (used_often (uses_of before) (leaf_number before)) room
unfolding shape_need_so_far need_of_shared
parts_are ended room before is = rw (is, told_number ended (told_devices before)) refl

-- the last line needs a leaf where the last device has no piece
pub end_needs : (room : ℕ) (before : List Line) → has_ended pool_format before ≡ false
    → shape_need_so_far room (end_line ∷ before) ≡ shape_need_so_far room before + (if lacks_pieces (told_devices before) then 1 else 0)
end_needs room before going =
    omega (arith, parts_are true room (end_line ∷ before) refl, parts_are false room before going, at_end (told_devices before))

-- how many mappings and uses a device has, and one for its line
abbrev weight : Told → ℕ
weight t = 1 + (sum t.own + t.uses)

sum_spread : (own : List ℕ) → sum own ≤ 252 * leaves_for own
sum_spread [] = omega arith
sum_spread (n ∷ own) = omega (arith, sum_by-cons (λ (x : ℕ). x) n own, sum_by-cons (λ (m : ℕ). nodes_for (max_entries 8) m) n own, sum_spread own)

weight_of : (t : Told) → weight t ≤ 2 + 252 * need_of_leaves (leaf_count t.own t.uses)
weight_of t = omega (arith, sum_spread t.own, above_least 9 (leaves_for t.own + t.uses))

weight_ended : (t : Told) → weight t ≤ 2 + 252 * need_of_leaves (leaves_of_ended t)
weight_ended t = omega (arith, weight_of t, ended_is t)

weights_ended : (told : List Told) → sum_by weight told ≤ 2 * length told + 252 * sum_by need_of_leaves (map leaves_of_ended told)
weights_ended [] = omega arith
weights_ended (t ∷ told) = omega (arith, sum_by-cons weight t told, sum_by-cons need_of_leaves (leaves_of_ended t) (map leaves_of_ended told), weight_ended t, weights_ended told)

weights : (told : List Told) → sum_by weight told ≤ 2 * length told + 252 * trees false told
weights [] = omega arith
weights (t ∷ told) =
    omega (arith, sum_by-cons weight t told, sum_by-cons need_of_leaves (leaf_count t.own t.uses) (map leaves_of_ended told), weight_of t, weights_ended told)

-- devices are told where there is one
told_some : (more : Told → Told) (told : List Told) → length (tell_newest more told) ≡ length told
told_some more [] = refl
told_some more (t ∷ told) = refl

some_told : (before : List Line) → has_device before ≡ true → 1 ≤ length (told_devices before)
some_told [] is = absurd (true≢false (sym is))
some_told (first_line ∷ before) is = some_told before is
some_told (shared_first_line ∷ before) is = some_told before is
some_told (pool_line p ∷ before) is = some_told before is
some_told (leaf_line l ∷ before) is = some_told before is
some_told (device_line e ∷ before) is = omega arith
some_told (use_line n ∷ before) is = omega (arith, told_some with_use (told_devices before), some_told before is)
some_told (map_line r ∷ before) is = omega (arith, told_some (with_run r.length) (told_devices before), some_told before is)
some_told (end_line ∷ before) is = some_told before is

-- a use weighs one, and a run its mappings
use_weighs : (told : List Told) → 1 ≤ length told → sum_by weight (tell_newest with_use told) ≡ sum_by weight told + 1
use_weighs [] some = absurd (omega arith)
use_weighs (t ∷ told) some = omega (arith, sum_by-cons weight (with_use t) told, sum_by-cons weight t told)

longer_sum : (n : ℕ) (own : List ℕ) → sum (lengthened n own) ≡ sum own + n
longer_sum n [] = omega (arith, sum_by-cons (λ (x : ℕ). x) n [])
longer_sum n (m ∷ own) = omega (arith, sum_by-cons (λ (x : ℕ). x) (m + n) own, sum_by-cons (λ (x : ℕ). x) m own)

run_sum : (in_run : Bool) (n : ℕ) (own : List ℕ) → sum (if in_run then lengthened n own else n ∷ own) ≡ sum own + n
run_sum true n own = longer_sum n own
run_sum false n own = omega (arith, sum_by-cons (λ (x : ℕ). x) n own)

run_weighs : (n : ℕ) (told : List Told) → 1 ≤ length told → sum_by weight (tell_newest (with_run n) told) ≡ sum_by weight told + n
run_weighs n [] some = absurd (omega arith)
run_weighs n (t ∷ told) some = omega (arith, sum_by-cons weight (with_run n t) told, sum_by-cons weight t told, run_sum t.in_run n t.own)

run_more : (n : ℕ) (told : List Told) → sum_by weight told ≤ sum_by weight (tell_newest (with_run n) told)
run_more n [] = omega arith
run_more n (t ∷ told) = omega (arith, run_weighs n (t ∷ told) (omega arith))

-- what is left of a leaf
abbrev left_of : Bool → ℕ → ℕ
left_of in_devices n = if in_devices then 0 else n

left_most : (b : Bool) (n : ℕ) → left_of b n ≤ n
left_most true n = omega arith
left_most false n = omega arith

-- each line but the first two gives a leaf, a mapping, a device or a use
count_lines : (before : List Line) → AreReadSoFar pool_format before → has_ended pool_format before ≡ false
    → length before + left_of (has_device before) (unmapped before) ≤ 2 + (253 * leaf_number before + sum_by weight (told_devices before))
count_lines [] so_far going = omega arith
count_lines (first_line ∷ before) so_far going = let none = (first_alone before first_line so_far.0).0 in omega (arith, left_most (has_device before) 0)
count_lines (shared_first_line ∷ before) so_far going = let none = (first_alone before shared_first_line so_far.0).0 in omega (arith, left_most (has_device before) 0)
count_lines (pool_line p ∷ before) so_far going = let one = (pool_read firsts pool_grammar before p so_far.0).second in omega (arith, left_most (has_device before) 0)
count_lines (leaf_line l ∷ before) so_far going =
    let is = leaf_read firsts pool_grammar before l so_far.0 in
    omega (arith, count_lines before so_far.1 so_far.0.going, left_most (has_device before) l.entries, is.few)
count_lines (device_line e ∷ before) so_far going =
    omega (arith, count_lines before so_far.1 so_far.0.going, sum_by-cons weight told_nothing (told_devices before))
count_lines (use_line n ∷ before) so_far going =
    let is = use_read firsts pool_grammar before n so_far.0 in
    let rest = count_lines before so_far.1 so_far.0.going in
    rw is.has_device (omega (arith, rest, use_weighs (told_devices before) (some_told before is.has_device)))
count_lines (map_line m ∷ before) so_far going =
    let is = run_read firsts pool_grammar before m so_far.0 in
    let rest = count_lines before so_far.1 so_far.0.going in
    counted (has_device before) refl rest
  where
    counted : (b : Bool) → has_device before ≡ b → length before + left_of b (unmapped before) ≤ 2 + (253 * leaf_number before + sum_by weight (told_devices before))
        → suc (length before) + left_of b (unmapped before - m.length) ≤ 2 + (253 * leaf_number before + sum_by weight (tell_newest (with_run m.length) (told_devices before)))
    counted true has rest = let is = run_read firsts pool_grammar before m so_far.0 in omega (arith, rest, run_weighs m.length (told_devices before) (some_told before has), is.some)
    counted false has rest = let is = run_read firsts pool_grammar before m so_far.0 in omega (arith, rest, run_more m.length (told_devices before), is.some, is.mapped)
count_lines (end_line ∷ before) so_far going = absurd (true≢false going)

-- so a text that has room has few of them
pub few_lines : (room : ℕ) (before : List Line) → AreReadSoFar pool_format before → has_ended pool_format before ≡ false → shape_need_so_far room before ≤ room → room ≤ 4161600
    → length before < 2 ^ 62
few_lines room before lines going need most =
    omega (arith, count_lines before lines going, parts_are false room before going, weights (told_devices before), need_tree_some (length (told_devices before)))

-- the data blocks fit
pub blocks_small : (before : List Line) → AreReadSoFar pool_format before → data_blocks_of before ≤ 2 ^ 40
blocks_small [] so_far = omega arith
blocks_small (first_line ∷ before) so_far = blocks_small before so_far.1
blocks_small (shared_first_line ∷ before) so_far = blocks_small before so_far.1
blocks_small (pool_line p ∷ before) so_far = (pool_read firsts pool_grammar before p so_far.0).data_blocks_fit
blocks_small (leaf_line l ∷ before) so_far = blocks_small before so_far.1
blocks_small (device_line e ∷ before) so_far = blocks_small before so_far.1
blocks_small (use_line n ∷ before) so_far = blocks_small before so_far.1
blocks_small (map_line m ∷ before) so_far = blocks_small before so_far.1
blocks_small (end_line ∷ before) so_far = blocks_small before so_far.1

total_fits : (leaves below devices blocks over often more grown number another again room : ℕ) → total leaves below devices blocks over often room ≤ room → room ≤ 4161600
    → more ≤ leaves + 1 → grown ≤ 2 ^ 62 → number ≤ devices + 1 → another ≤ blocks → again ≤ more → blocks ≤ 2 ^ 40 → total more grown number blocks another again room ≤ top
total_fits leaves below devices blocks over often more grown number another again room need most a b c e f small =
    let many = small_most number (omega (arith, need_tree_some devices)) in
    let overs = (small_most another (omega arith)).1.1 in
    let oftens = (small_most again (omega arith)).1.1 in
    omega (arith, many.0, many.1.0, overs, oftens)

use_grows : (told : List Told) → trees false told ≤ 4161600 → trees false (tell_newest with_use told) ≤ 2 ^ 62
use_grows [] few = omega arith
use_grows (t ∷ told) few =
    omega (
      arith,
      sum_by-cons need_of_leaves (leaf_count t.own t.uses) (map leaves_of_ended told),
      sum_by-cons need_of_leaves (leaf_count t.own (t.uses + 1)) (map leaves_of_ended told),
      above_least 9 (leaves_for t.own + t.uses),
      above_most 10 (leaves_for t.own + (t.uses + 1)),
    )

longer_spread : (n : ℕ) (own : List ℕ) → leaves_for (lengthened n own) ≤ leaves_for own + (nodes_for 252 n + 1)
longer_spread n [] = omega (arith, sum_by-cons (λ (m : ℕ). nodes_for (max_entries 8) m) n [])
longer_spread n (m ∷ own) = omega (arith, sum_by-cons (λ (m : ℕ). nodes_for (max_entries 8) m) (m + n) own, sum_by-cons (λ (m : ℕ). nodes_for (max_entries 8) m) m own)

run_spread : (in_run : Bool) (n : ℕ) (own : List ℕ) → leaves_for (if in_run then lengthened n own else n ∷ own) ≤ leaves_for own + (nodes_for 252 n + 1)
run_spread true n own = longer_spread n own
run_spread false n own = omega (arith, sum_by-cons (λ (m : ℕ). nodes_for (max_entries 8) m) n own)

run_grows : (n : ℕ) (told : List Told) → n ≤ 2 ^ 64 → trees false told ≤ 4161600 → trees false (tell_newest (with_run n) told) ≤ 2 ^ 62
run_grows n [] fits few = omega arith
run_grows n (t ∷ told) fits few =
    let own = if t.in_run then lengthened n t.own else n ∷ t.own in
    omega (
      arith,
      sum_by-cons need_of_leaves (leaf_count t.own t.uses) (map leaves_of_ended told),
      sum_by-cons need_of_leaves (leaf_count own t.uses) (map leaves_of_ended told),
      above_least 9 (leaves_for t.own + t.uses),
      above_most 10 (leaves_for own + t.uses),
      run_spread t.in_run n t.own,
    )

device_grows : (told : List Told) → trees false (told_nothing ∷ told) ≤ trees false told + 1
unfolding need_above
device_grows [] = omega arith
device_grows (t ∷ told) = omega (arith, sum_by-cons need_of_leaves (leaf_count [] 0) (map leaves_of_ended (t ∷ told)), at_end (t ∷ told), last (lacks_pieces (t ∷ told)))
  where
    last : (b : Bool) → (if b then 1 else 0) ≤ 1
    last true = omega arith
    last false = omega arith

-- so it is a number of its type
module _ (room : ℕ) (before : List Line) (lines : AreReadSoFar pool_format before) (going : has_ended pool_format before ≡ false) (need : shape_need_so_far room before ≤ room) (most : room ≤ 4161600) where
  now : total (leaf_number before) (trees false (told_devices before)) (length (told_devices before)) (data_blocks_of before) (overflows_in (flat_map data_of_line before) (data_blocks_of before))
      (used_often (uses_of before) (leaf_number before)) room ≤ room
  now = omega (arith, parts_are false room before going, need)

  fits_then : (leaves grown number over often : ℕ) → leaves ≤ leaf_number before + 1 → grown ≤ 2 ^ 62 → number ≤ length (told_devices before) + 1 → over ≤ data_blocks_of before → often ≤ leaves
      → total leaves grown number (data_blocks_of before) over often room ≤ top
  fits_then leaves grown number over often a b c e f =
      total_fits (leaf_number before) (trees false (told_devices before)) (length (told_devices before)) (data_blocks_of before) (overflows_in (flat_map data_of_line before) (data_blocks_of before))
      (used_often (uses_of before) (leaf_number before)) leaves grown number over often room now most a b c e f (blocks_small before lines)

  pub leaf_fits : (l : d.LeafHead) → shape_need_so_far room (leaf_line l ∷ before) ≤ top
  leaf_fits l =
      subst (λ (n : ℕ). n ≤ top) (sym (parts_are false room (leaf_line l ∷ before) refl))
      (fits_then (suc (leaf_number before)) (trees false (told_devices before)) (length (told_devices before)) (overflows_in (flat_map data_of_line before) (data_blocks_of before))
      (used_often (uses_of before) (suc (leaf_number before))) (omega arith) (omega (arith, now)) (omega arith) (overflows_most (flat_map data_of_line before) (data_blocks_of before))
      (often_most (uses_of before) (suc (leaf_number before))))

  pub device_fits : (e : d.Details) → shape_need_so_far room (device_line e ∷ before) ≤ top
  device_fits e =
      subst (λ (n : ℕ). n ≤ top) (sym (parts_are false room (device_line e ∷ before) refl))
      (fits_then (leaf_number before) (trees false (told_nothing ∷ told_devices before)) (suc (length (told_devices before))) (overflows_in (flat_map data_of_line before) (data_blocks_of before))
      (used_often (uses_of before) (leaf_number before)) (omega arith) (omega (arith, now, device_grows (told_devices before))) (omega arith) (overflows_most (flat_map data_of_line before) (data_blocks_of before))
      (often_most (uses_of before) (leaf_number before)))

  pub use_fits : (n : ℕ) → shape_need_so_far room (use_line n ∷ before) ≤ top
  use_fits n =
      subst (λ (n : ℕ). n ≤ top) (sym (parts_are false room (use_line n ∷ before) refl))
      (fits_then (leaf_number before) (trees false (tell_newest with_use (told_devices before))) (length (tell_newest with_use (told_devices before))) (overflows_in (flat_map data_of_line before) (data_blocks_of before))
      (used_often (n ∷ uses_of before) (leaf_number before)) (omega arith) (use_grows (told_devices before) (omega (arith, now))) (omega (arith, told_some with_use (told_devices before)))
      (overflows_most (flat_map data_of_line before) (data_blocks_of before)) (often_most (n ∷ uses_of before) (leaf_number before)))

  pub map_fits : (m : d.Run) → m.length ≤ 2 ^ 64 → shape_need_so_far room (map_line m ∷ before) ≤ top
  map_fits m fits =
      subst (λ (n : ℕ). n ≤ top) (sym (parts_are false room (map_line m ∷ before) refl))
      (fits_then (leaf_number before) (trees false (tell_newest (with_run m.length) (told_devices before))) (length (tell_newest (with_run m.length) (told_devices before)))
      (overflows_in (flat_map data_of_line (map_line m ∷ before)) (data_blocks_of before)) (used_often (uses_of before) (leaf_number before)) (omega arith)
      (run_grows m.length (told_devices before) fits (omega (arith, now))) (omega (arith, told_some (with_run m.length) (told_devices before)))
      (overflows_most (flat_map data_of_line (map_line m ∷ before)) (data_blocks_of before)) (often_most (uses_of before) (leaf_number before)))
