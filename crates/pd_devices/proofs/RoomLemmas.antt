-- What was gathered has room where its need has.
use Rattle.std.proofs.Common.{◌≡◌, inl, inr, ℕ, ◌+◌, ◌*◌, ◌≤◌, ◌<◌, ◌^◌, false, eqb, ltb, List, [], ◌∷◌, ◌++◌, length, length-append, map, sum_by, refl, sym, ◌∙◌, ap, subst, arith, suc, true, Bool, sum}
use Rattle.std.proofs.lemmas.Bool.{cases_Bool}
use Rattle.std.proofs.lemmas.Bool.Decides.{nat_tests}
use Rattle.std.proofs.lemmas.List.Sums.{sum_by-cons, sum_by-append}
use Rattle.pd_grammar.specs.Texts.{has_ended}
use Rattle.pd_grammar.specs.Need.{nodes_for, need_above, nodes_of_tree}
use Rattle.pd_grammar.specs.ThinText.{Line, Run, pool_format, leaf_number, number_in}
use Rattle.pd_laid.specs.Shape.{ShapeDevice}
use Rattle.pd_laid.specs.PoolText.{Told, leaf_count, leaves_of_ended, leaves_of_told, need_of_leaves, need_of_shared, shape_need_so_far, told_devices, mappings_of_runs}
use Rattle.pd_laid.proofs.LeafRuns.{number_mapped}
use Rattle.pd_draft.specs.Closed.{DraftState}
use Rattle.pd_devices.specs.SharedGathered.{AreAllTold, HasGathered, IsDeviceOpen, IsLeafOpen, number_of, leaves_so_far}
use Rattle.pd_devices.specs.SharedGrowth.{need_left}
use Rattle.pd_devices.specs.Told.{Open, open_leaf, open_device, opened, open_runs, ended_leaf, whole_leaves, whole_devices}
use Rattle.pd_devices.specs.declared.shared_devices.SharedDevices.{SharedDevices}
use Rattle.pd_devices.specs.declared.growing.Growing.{Growing}
use Rattle.pd_devices.proofs.RowLemmas.{grown_place}
use Rattle.pd_devices.proofs.GrowthLemmas.{need_tree_some, nodes_most}
use Rattle.pd_laws_laid.specs.Shared.{trees_need}
use Rattle.pd_laws_laid.proofs.DeviceNames.{own_length}

-- the leaves, the trees, and at least one node of the mapping tree are within the need
pub parts_within : (room : ℕ) (before : List Line)
    → 2 + (leaf_number before + sum_by need_of_leaves (leaves_of_told (has_ended pool_format before) (told_devices before))) ≤ shape_need_so_far room before
unfolding shape_need_so_far need_of_shared nodes_of_tree
parts_within room before = omega arith

-- where a leaf is open
pub leaf_room : {room : ℕ} {before : List Line} {s : SharedDevices} {start now : DraftState} (runs : List Run) (h : HasGathered room before s start now)
    → opened before ≡ open_leaf runs → h.behind ≡ now → IsLeafOpen before runs → shape_need_so_far room before ≤ room → now.place < room
leaf_room {room} {before} {s} {start} {now} runs h opens same lo need =
    let number = h.leaves.told.number ∙ ap (λ (o : Open). length (whole_leaves before ++ ended_leaf o)) opens in
    omega (
      arith,
      number,
      length-append (whole_leaves before) (runs ∷ []),
      h.place,
      ap trees_need (h.leaves.alone lo.none),
      ap (λ (at : DraftState). at.place) same,
      parts_within room before,
      need,
    )

pub above_enough : (n : ℕ) → n ≤ 252 * need_above 10 n + 1
unfolding need_above
above_enough n = elim (cases_Bool (ltb 1 n)) [
  | inl e ↦ rw e (omega arith)
  | inr e ↦ let few : n ≤ 1 = grind (arith, nat_tests, e) in rw e (omega (arith, few))
]

left_little : (n : ℕ) → need_left n ≤ need_above 10 n + 1
left_little n = elim (cases_Bool (eqb n 0)) [
  | inl e ↦ rw e (omega arith)
  | inr e ↦ rw e (omega arith)
]

pub held_nodes : (runs : List Run) → sum_by (λ n. nodes_for 252 n) (number_of runs) ≡ nodes_for 252 (length (mappings_of_runs runs))
held_nodes [] = refl
held_nodes (r ∷ runs) = omega (arith, sum_by-cons (λ n. nodes_for 252 n) (number_in (r ∷ runs)) [], ap (λ (n : ℕ). nodes_for 252 n) (number_mapped (r ∷ runs)))

-- where a device is open: its own leaves and its uses are few, and what is left of its tree has room
pub record HasDeviceRoom (room place : ℕ) (o : Growing) (nodes : ℕ) : Type 0 where
  pub few : o.own + nodes + o.uses ≤ 2 ^ 60
  pub room_is : place + nodes + need_left (o.own + nodes + o.uses) ≤ room
  pub uses_few : o.uses ≤ 252 * need_above 10 (o.own + nodes + o.uses) + 1

-- what the trees need then: its own leaves so far, the levels above all its leaves, and the trees of the devices before it
pub device_sum : {room : ℕ} {before : List Line} {s : SharedDevices} {start now : DraftState} (d : ShapeDevice) (runs : List Run) (o : Growing) (h : HasGathered room before s start now)
    → opened before ≡ open_device d runs → IsDeviceOpen before d runs o h.behind now
    → sum_by need_of_leaves (leaves_of_told (has_ended pool_format before) (told_devices before))
    ≡ o.own + nodes_for 252 s.held.number + need_above 10 (o.own + nodes_for 252 s.held.number + o.uses) + trees_need (whole_devices before)
device_sum {room} {before} {s} {start} {now} d runs o h opens do_ =
    let told = told_devices before in
    let t = subst (AreAllTold told (whole_devices before)) opens h.listed.told in
    let so_far = h.listed.so_far ∙ ap (λ (o : Open). leaves_so_far o told) opens in
    let nodes = nodes_for 252 s.held.number in
    let number : s.held.number ≡ length (mappings_of_runs runs) = h.held.number ∙ ap (λ (o : Open). length (mappings_of_runs (open_runs o))) opens in
    let spread : sum_by (λ n. nodes_for 252 n) t.newest.own ≡ o.own + nodes =
    omega (
      arith,
      ap (λ (ns : List ℕ). sum_by (λ n. nodes_for 252 n) ns) t.last.own,
      sum_by-append (λ n. nodes_for 252 n) (number_of runs) t.last.rest,
      held_nodes runs,
      t.last.spread,
      own_length d.pieces do_.grown.filled,
      do_.grown.own,
      ap (λ (n : ℕ). nodes_for 252 n) number,
    ) in
    let uses : t.newest.uses ≡ o.uses = t.last.uses ∙ sym do_.grown.uses in
    let all = o.own + nodes + o.uses in
    let mine : need_of_leaves (leaf_count t.newest.own t.newest.uses) ≡ o.own + nodes + need_above 10 all =
    rw (spread, uses) refl in
    ap (sum_by need_of_leaves) so_far
    ∙ (ap (λ (ts : List Told). sum_by need_of_leaves (leaves_of_told false ts)) t.both
    ∙ (sum_by-cons need_of_leaves (leaf_count t.newest.own t.newest.uses) (map leaves_of_ended t.older) ∙ omega (arith, mine, t.over.trees)))

pub device_room : {room : ℕ} {before : List Line} {s : SharedDevices} {start now : DraftState} (d : ShapeDevice) (runs : List Run) (o : Growing) (h : HasGathered room before s start now)
    → opened before ≡ open_device d runs → IsDeviceOpen before d runs o h.behind now → shape_need_so_far room before ≤ room → room ≤ 4161600
    → HasDeviceRoom room now.place o (nodes_for 252 s.held.number)
device_room {room} {before} {s} {start} {now} d runs o h opens do_ need most =
    let nodes = nodes_for 252 s.held.number in
    let all = o.own + nodes + o.uses in
    let sums = device_sum d runs o h opens do_ in
    let leaves = h.leaves.told.number ∙ ap (λ (o : Open). length (whole_leaves before ++ ended_leaf o)) opens in
    let whole = length-append (whole_leaves before) [] in
    let within = parts_within room before in
    let left = left_little all in
    let enough = above_enough all in
    record {
      few = omega (arith, sums, within, need, most, enough);
      room_is = omega (arith, sums, within, need, left, leaves, whole, grown_place do_.grown, h.place);
      uses_few = omega (arith, enough);
    }

-- What was counted is little where the need has room.

sum_nodes : (ns : List ℕ) → sum ns ≤ 252 * sum_by (λ n. nodes_for 252 n) ns
sum_nodes [] = omega arith
sum_nodes (n ∷ ns) = omega (arith, sum_by-cons (λ (x : ℕ). x) n ns, sum_by-cons (λ n. nodes_for 252 n) n ns, nodes_most n, sum_nodes ns)

-- the own mappings and the uses of a device, which is over or isn't
own_begun : (t : Told) → sum t.own ≤ 252 * need_of_leaves (leaf_count t.own t.uses)
own_begun t = omega (arith, sum_nodes t.own)

uses_begun : (t : Told) → t.uses ≤ 252 * need_of_leaves (leaf_count t.own t.uses) + 1
uses_begun t = omega (arith, above_enough (sum_by (λ n. nodes_for 252 n) t.own + t.uses))

no_length : (ns : List ℕ) → length ns ≡ 0 → sum ns ≡ 0
no_length [] none = refl
no_length (n ∷ ns) none = absurd (omega (arith, none))

own_ended : (t : Told) → sum t.own ≤ 252 * need_of_leaves (leaves_of_ended t)
own_ended t = elim (cases_Bool (eqb (length t.own + t.uses) 0)) [
  | inl e ↦ let none : length t.own ≡ 0 = grind (arith, nat_tests, e) in rw e (omega (arith, no_length t.own none))
  | inr e ↦ rw e (own_begun t)
]

uses_ended : (t : Told) → t.uses ≤ 252 * need_of_leaves (leaves_of_ended t) + 1
uses_ended t = elim (cases_Bool (eqb (length t.own + t.uses) 0)) [
  | inl e ↦ let none : t.uses ≡ 0 = grind (arith, nat_tests, e) in rw e (omega (arith, none))
  | inr e ↦ rw e (uses_begun t)
]

all_own : (ts : List Told) → sum_by (λ (t : Told). sum t.own) ts ≤ 252 * sum_by need_of_leaves (map leaves_of_ended ts)
all_own [] = omega arith
all_own (t ∷ ts) = omega (
  arith,
  sum_by-cons (λ (t : Told). sum t.own) t ts,
  sum_by-cons need_of_leaves (leaves_of_ended t) (map leaves_of_ended ts),
  own_ended t,
  all_own ts,
)

all_uses : (ts : List Told) → sum_by (λ (t : Told). t.uses) ts ≤ 252 * sum_by need_of_leaves (map leaves_of_ended ts) + length ts
all_uses [] = omega arith
all_uses (t ∷ ts) = omega (
  arith,
  sum_by-cons (λ (t : Told). t.uses) t ts,
  sum_by-cons need_of_leaves (leaves_of_ended t) (map leaves_of_ended ts),
  uses_ended t,
  all_uses ts,
)

pub own_within : (ended : Bool) (ts : List Told) → sum_by (λ (t : Told). sum t.own) ts ≤ 252 * sum_by need_of_leaves (leaves_of_told ended ts)
own_within ended [] = omega arith
own_within true (t ∷ ts) = all_own (t ∷ ts)
own_within false (t ∷ ts) = omega (
  arith,
  sum_by-cons (λ (t : Told). sum t.own) t ts,
  sum_by-cons need_of_leaves (leaf_count t.own t.uses) (map leaves_of_ended ts),
  own_begun t,
  all_own ts,
)

uses_most : (ended : Bool) (ts : List Told) → sum_by (λ (t : Told). t.uses) ts ≤ 252 * sum_by need_of_leaves (leaves_of_told ended ts) + length (leaves_of_told ended ts)
uses_most ended [] = omega arith
uses_most true (t ∷ ts) = let number = same_number (t ∷ ts) in omega (arith, all_uses (t ∷ ts), number)
  where
    same_number : (ts : List Told) → length (map leaves_of_ended ts) ≡ length ts
    same_number [] = refl
    same_number (t ∷ ts) = ap suc (same_number ts)
uses_most false (t ∷ ts) = omega (
  arith,
  sum_by-cons (λ (t : Told). t.uses) t ts,
  sum_by-cons need_of_leaves (leaf_count t.own t.uses) (map leaves_of_ended ts),
  uses_begun t,
  all_uses ts,
  same_number ts,
)
  where
    same_number : (ts : List Told) → length (map leaves_of_ended ts) ≡ length ts
    same_number [] = refl
    same_number (t ∷ ts) = ap suc (same_number ts)

pub uses_few : {room : ℕ} {before : List Line} {s : SharedDevices} {start now : DraftState} (h : HasGathered room before s start now) → shape_need_so_far room before ≤ room → room ≤ 4161600
    → s.uses.total + 1 < 2 ^ 32
unfolding shape_need_so_far need_of_shared
uses_few {room} {before} {s} {start} {now} h need most =
    let counted = leaves_of_told (has_ended pool_format before) (told_devices before) in
    omega (arith, need, most, h.counts.uses_total, uses_most (has_ended pool_format before) (told_devices before), need_tree_some (length counted))
