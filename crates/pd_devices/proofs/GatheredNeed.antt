-- The need of what was gathered, by the numbers that are kept.
use Rattle.std.proofs.Common.{◌≡◌, ℕ, ◌+◌, Bool, cond, refl, sym, ◌∙◌, ap, inl, inr, zero, suc, ◌-◌, ◌<◌, ◌≤◌, ◌^◌, min, false, leb, eqb, List, [], ◌∷◌, length, sum_by, subst, arith, ◌++◌, map}
use Rattle.std.specs.List.{count_by, range_with_len, AllByRecursion, flat_map}
use Rattle.std.proofs.lemmas.List.FromFn.{sum_by-map-range_with_len_more}
use Rattle.std.proofs.lemmas.Bool.{cases_Bool}
use Rattle.std.proofs.lemmas.Bool.Decides.{nat_tests}
use Rattle.std.proofs.lemmas.List.Sums.{sum_by-cons, sum_by-append}
use Rattle.pd_grammar.specs.Texts.{has_ended}
use Rattle.pd_grammar.specs.Need.{data_of_line, overflows_in, need_above, nodes_for}
use Rattle.pd_grammar.specs.ThinText.{Line, data_blocks_of, leaf_number, pool_format, Run, map_line}
use Rattle.pd_grammar.specs.ThinText as text
use Rattle.pd_laid.specs.PoolText.{leaves_of_told, need_of_leaves, need_of_shared, shape_need_so_far, told_devices, used_often, Told, leaf_count, leaves_of_ended, tell_newest, mappings_of_runs}
use Rattle.pd_laid.proofs.NeedGrows.{told_number}
use Rattle.pd_laid.specs.Shape.{ShapeDevice}
use Rattle.pd_laid.specs.PoolText as by_line
use Rattle.pd_draft.specs.Closed.{DraftState}
use Rattle.pd_count.specs.Counted.{count_of}
use Rattle.pd_texts.specs.ThinState.{IsRunLine}
use Rattle.pd_devices.proofs.CountLemmas.{map_id, overflows_listed, overflows-le}
use Rattle.pd_devices.specs.Counts.{overflows_of}
use Rattle.pd_devices.specs.SharedGathered.{AreAllTold, HasGathered, leaves_so_far, need_of_parts, AreTold, IsDeviceOpen, IsTold, number_of}
use Rattle.pd_devices.specs.SharedGrowth.{open_need}
use Rattle.pd_devices.specs.Told.{Open, whole_devices, open_runs}
use Rattle.pd_devices.specs.declared.shared_devices.SharedDevices.{SharedDevices}
use Rattle.pd_devices.specs.declared.growing.NeedCounts.{NeedCounts}
use Rattle.pd_devices.proofs.GatherLemmas.{is_nothing, is_leaf, is_device, which}
use Rattle.pd_devices.proofs.RoomLemmas.{device_sum, held_nodes}
use Rattle.pd_devices.proofs.GrowthLemmas.{run_data}
use Rattle.pd_devices.specs.declared.growing.Growing.{Growing}
use Rattle.pd_devices.proofs.MoreLemmas.{overflows_row}
use Rattle.pd_devices.proofs.PieceLemmas.{number_behind}
use Rattle.pd_devices.proofs.RunLemmas.{none_told, told_more}
use Rattle.pd_laws_laid.specs.Shared.{trees_need}
use Rattle.pd_laws_laid.proofs.DeviceNames.{own_length}

-- The need of what was gathered.

-- how many of a row pass a test, one more
pub passing_more : (p : ℕ → Bool) (a n : ℕ) → count_by p (range_with_len a (n + 1)) ≡ count_by p (range_with_len a n) + cond (p (a + n)) 1 0
passing_more p a n =
    ap (count_by p) (sym (map_id (range_with_len a (n + 1))))
    ∙ (sum_by-map-range_with_len_more (λ r. cond (p r) 1 0) (λ r. r) a n (a + n) refl
    ∙ ap (λ (k : ℕ). k + cond (p (a + n)) 1 0) (ap (count_by p) (map_id (range_with_len a n))))

-- uses below a bound aren't counted past it
none_past : (uses : List ℕ) (a m d : ℕ) → AllByRecursion (λ n. (n < a) × (n < m)) uses → a ≤ d → count_by (λ b. eqb b d) uses ≡ 0
none_past [] a m d all past = refl
none_past (n ∷ uses) a m d all past =
    let other : eqb n d ≡ false = grind (arith, nat_tests, all.0.0, past) in
    let rest : sum_by (λ b. cond {A = ℕ} (eqb b d) 1 0) uses ≡ 0 = none_past uses a m d all.1 past in
    sum_by-cons (λ b. cond {A = ℕ} (eqb b d) 1 0) n uses ∙ (rw other (omega (arith, rest)))

overflows_past : (uses : List ℕ) (a m k : ℕ) → AllByRecursion (λ n. (n < a) × (n < m)) uses → overflows_in uses (a + k) ≡ overflows_in uses a
unfolding overflows_in
overflows_past uses a m zero all =
    let same : a + zero ≡ a = omega arith in
    ap (λ (n : ℕ). count_by (λ d. leb 3 (count_by (λ b. eqb b d) uses)) (range_with_len 0 n)) same
overflows_past uses a m (suc k) all =
    let p : ℕ → Bool = λ d. leb 3 (count_by (λ b. eqb b d) uses) in
    let next : a + suc k ≡ (a + k) + 1 = omega arith in
    let at : 0 + (a + k) ≡ a + k = omega arith in
    let none = none_past uses a m (a + k) all (omega arith) in
    ap (λ (n : ℕ). count_by p (range_with_len 0 n)) next
    ∙ (passing_more p 0 (a + k) ∙ (rw (at, none) (omega (arith, overflows_past uses a m k all))))

pub often_same : (uses : List ℕ) (leaves room : ℕ) → AllByRecursion (λ n. (n < leaves) × (n < room)) uses → overflows_in uses room ≡ used_often uses leaves
unfolding used_often
often_same uses leaves room all = elim (cases_Bool (leb leaves room)) [
  | inl e ↦
      let more : leaves + (room - leaves) ≡ room = (let le : leaves ≤ room = grind (arith, nat_tests, e) in omega (arith, le)) in
      ap (overflows_in uses) (sym more) ∙ overflows_past uses leaves room (room - leaves) all
  | inr e ↦
      let more : room + (leaves - room) ≡ leaves = (let le : room ≤ leaves = grind (arith, nat_tests, e) in omega (arith, le)) in
      sym (overflows_past uses room leaves (leaves - room) (swapped uses all)) ∙ ap (overflows_in uses) more
]
  where
    swapped : (ns : List ℕ) → AllByRecursion (λ n. (n < leaves) × (n < room)) ns → AllByRecursion (λ n. (n < room) × (n < leaves)) ns
    swapped [] all = tt
    swapped (n ∷ ns) all = ((all.0.1, all.0.0), swapped ns all.1)

-- the blocks of the open tree and of those that are over
trees_all : {room : ℕ} {before : List Line} {s : SharedDevices} {start now : DraftState} (h : HasGathered room before s start now) → s.held.number < 2 ^ 64
    → open_need s.growing (min (s.held.number + 0) (2 ^ 64 - 1)) + trees_need (whole_devices before) ≡ sum_by need_of_leaves (leaves_of_told (has_ended pool_format before) (told_devices before))
trees_all {room} {before} {s} {start} {now} h fits =
    let told = told_devices before in
    elim (which h) [
      | is_nothing opens none same full ↦
          let over = subst (AreAllTold told (whole_devices before)) opens h.listed.told in
          let so_far = h.listed.so_far ∙ ap (λ (o : Open). leaves_so_far o told) opens in
          rw none (omega (arith, over.trees, ap (sum_by need_of_leaves) so_far))
      | is_leaf runs opens none same lo ↦
          let over = subst (AreAllTold told (whole_devices before)) opens h.listed.told in
          let so_far = h.listed.so_far ∙ ap (λ (o : Open). leaves_so_far o told) opens in
          rw none (omega (arith, over.trees, ap (sum_by need_of_leaves) so_far))
      | is_device d runs o opens some do_ ↦
          let number : min (s.held.number + 0) (2 ^ 64 - 1) ≡ s.held.number = omega (arith, fits) in
          let mine : min o.own (2 ^ 61) ≡ o.own = omega (arith, do_.grown.few) in
          let uses : min o.uses (2 ^ 61) ≡ o.uses = omega (arith, do_.grown.few) in
          rw (some, number, mine, uses) (omega (arith, device_sum d runs o h opens do_))
    ]

-- the need of what was gathered
pub gathered_need : {room : ℕ} {before : List Line} {s : SharedDevices} {start now : DraftState} (p : NeedCounts) (h : HasGathered room before s start now) → s.held.number < 2 ^ 64
    → p.leaves ≡ s.leaves → p.often ≡ overflows_of s.uses.counts s.uses.counts.size → p.trees ≡ s.trees → p.begun ≡ open_need s.growing (min (s.held.number + 0) (2 ^ 64 - 1))
    → p.devices ≡ length s.details.items → p.blocks ≡ s.counts.counts.size → p.over ≡ min (overflows_of s.counts.counts s.counts.counts.size + 0) (2 ^ 64 - 1)
    → min (need_of_parts p room) (2 ^ 64 - 1) ≡ min (shape_need_so_far room before) (2 ^ 64 - 1)
unfolding need_of_parts shape_need_so_far need_of_shared
gathered_need {room} {before} {s} {start} {now} p h fits leaves often trees opens devices blocks over =
    let c = h.counts in
    let ended = has_ended pool_format before in
    let told = told_devices before in
    let many : p.devices ≡ length (leaves_of_told ended told) = devices ∙ (h.listed.number ∙ sym (told_number ended told)) in
    let counted = flat_map data_of_line before in
    let over_is : p.over ≡ overflows_in counted (data_blocks_of before) =
    omega (arith, over, overflows-le s.counts.counts s.counts.counts.size, c.size, c.small, overflows_listed s.counts.counts counted s.counts.counts.size c.counted, ap (overflows_in counted) c.size) in
    let often_is : p.often ≡ used_often (text.uses_of before) (leaf_number before) =
    often ∙ (ap (overflows_of s.uses.counts) c.uses_size ∙ (overflows_listed s.uses.counts (text.uses_of before) room c.uses_counted ∙ often_same (text.uses_of before) (leaf_number before) room c.uses_within)) in
    rw (many, blocks ∙ c.size, over_is, often_is, leaves ∙ h.leaves.number, trees ∙ h.listed.trees) (omega (arith, opens, trees_all h fits))

-- The need of what was gathered with a run more, by the numbers that are kept.

-- what the trees need where a device is told with these runs behind its pieces that are over
told_sum : (before : List Line) (d : ShapeDevice) (runs : List Run) (o : Growing) (n : ℕ) (newest : Told) (older : List Told) (devices : List ShapeDevice) {from to : DraftState} (was : List Run)
    → IsDeviceOpen before d was o from to → IsTold newest d runs → AreTold older devices → n ≡ length (mappings_of_runs runs)
    → sum_by need_of_leaves (leaves_of_told false (newest ∷ older)) ≡ o.own + nodes_for 252 n + need_above 10 (o.own + nodes_for 252 n + o.uses) + trees_need devices
told_sum before d runs o n newest older devices was do_ last over number =
    let nodes = nodes_for 252 n in
    let spread : sum_by (λ n. nodes_for 252 n) newest.own ≡ o.own + nodes =
    omega (
      arith,
      ap (λ (ns : List ℕ). sum_by (λ n. nodes_for 252 n) ns) last.own,
      sum_by-append (λ n. nodes_for 252 n) (number_of runs) last.rest,
      held_nodes runs,
      last.spread,
      own_length d.pieces do_.grown.filled,
      do_.grown.own,
      ap (λ (n : ℕ). nodes_for 252 n) number,
    ) in
    let uses : newest.uses ≡ o.uses = last.uses ∙ sym do_.grown.uses in
    let all = o.own + nodes + o.uses in
    let mine : need_of_leaves (leaf_count newest.own newest.uses) ≡ o.own + nodes + need_above 10 all =
    rw (spread, uses) refl in
    sum_by-cons need_of_leaves (leaf_count newest.own newest.uses) (map leaves_of_ended older) ∙ omega (arith, mine, over.trees)

-- the blocks of the open tree with a run more, and of those that are over
trees_more : {room : ℕ} {before : List Line} {s : SharedDevices} {start now : DraftState} (r : Run) (h : HasGathered room before s start now) → IsRunLine before r → s.held.number + r.length < 2 ^ 64
    → open_need s.growing (min (s.held.number + r.length) (2 ^ 64 - 1)) + trees_need (whole_devices before)
    ≡ sum_by need_of_leaves (leaves_of_told false (told_devices (map_line r ∷ before)))
trees_more {room} {before} {s} {start} {now} r h next fits =
    let told = told_devices before in
    let wd = whole_devices before in
    elim (which h) [
      | is_nothing opens none same full ↦ absurd (omega (arith, next.some, next.mapped, full))
      | is_leaf runs opens none same lo ↦
          let over = subst (AreAllTold told wd) opens h.listed.told in
          let untold : told ≡ [] = none_told told (omega (arith, over.number, ap (λ (ds : List ShapeDevice). length ds) (h.leaves.alone lo.none))) in
          let still : told_devices (map_line r ∷ before) ≡ [] = ap (tell_newest (by_line.with_run r.length)) untold in
          rw none (omega (arith, ap trees_need (h.leaves.alone lo.none), ap (λ (ts : List Told). sum_by need_of_leaves (leaves_of_told false ts)) still))
      | is_device d runs o opens some do_ ↦
          let t = subst (AreAllTold told wd) opens h.listed.told in
          let both : told_devices (map_line r ∷ before) ≡ by_line.with_run r.length t.newest ∷ t.older = ap (tell_newest (by_line.with_run r.length)) t.both in
          let held : s.held.number ≡ length (mappings_of_runs runs) = h.held.number ∙ ap (λ (o : Open). length (mappings_of_runs (open_runs o))) opens in
          let n = s.held.number + r.length in
          let number : n ≡ length (mappings_of_runs (runs ++ r ∷ [])) = omega (arith, held, number_behind runs r) in
          let sums = told_sum before d (runs ++ r ∷ []) o n (by_line.with_run r.length t.newest) t.older wd runs do_ (told_more t.newest d runs r t.last) t.over number in
          let whole : min n (2 ^ 64 - 1) ≡ n = omega (arith, fits) in
          let mine : min o.own (2 ^ 61) ≡ o.own = omega (arith, do_.grown.few) in
          let uses : min o.uses (2 ^ 61) ≡ o.uses = omega (arith, do_.grown.few) in
          rw (some, whole, mine, uses) (omega (arith, sums, ap (λ (ts : List Told). sum_by need_of_leaves (leaves_of_told false ts)) both))
    ]

-- the need of what was gathered with a run more
pub need_more : {room : ℕ} {before : List Line} {s : SharedDevices} {start now : DraftState} (p : NeedCounts) (r : Run) (h : HasGathered room before s start now) → IsRunLine before r → s.held.number + r.length < 2 ^ 64
    → p.leaves ≡ s.leaves → p.often ≡ overflows_of s.uses.counts s.uses.counts.size → p.trees ≡ s.trees → p.begun ≡ open_need s.growing (min (s.held.number + r.length) (2 ^ 64 - 1))
    → p.devices ≡ length s.details.items → p.blocks ≡ s.counts.counts.size
    → p.over ≡ min (overflows_of s.counts.counts s.counts.counts.size + count_by (λ d. eqb (count_of s.counts.counts d) 2) (range_with_len r.data_block r.length)) (2 ^ 64 - 1)
    → overflows_of s.counts.counts s.counts.counts.size + count_by (λ d. eqb (count_of s.counts.counts d) 2) (range_with_len r.data_block r.length) < 2 ^ 64
    → min (need_of_parts p room) (2 ^ 64 - 1) ≡ min (shape_need_so_far room (map_line r ∷ before)) (2 ^ 64 - 1)
unfolding need_of_parts shape_need_so_far need_of_shared
need_more {room} {before} {s} {start} {now} p r h next fits leaves often trees opens devices blocks over few =
    let c = h.counts in
    let told_now = told_devices (map_line r ∷ before) in
    let same_told : length told_now ≡ length (told_devices before) = tell_number (by_line.with_run r.length) (told_devices before) in
    let many : p.devices ≡ length (leaves_of_told false told_now) = devices ∙ (h.listed.number ∙ (sym same_told ∙ sym (told_number false told_now))) in
    let counted = flat_map data_of_line before in
    let row = range_with_len r.data_block r.length in
    let listed : flat_map data_of_line (map_line r ∷ before) ≡ row ++ counted = ap (λ (ns : List ℕ). ns ++ counted) (run_data r.virtual_block r.data_block r.time r.length) in
    let twice : count_by (λ d. eqb (count_of s.counts.counts d) 2) row ≡ count_by (λ d. eqb (count_by (λ b. eqb b d) counted) 2) row = same_twice row in
    let old : overflows_of s.counts.counts s.counts.counts.size ≡ overflows_in counted (data_blocks_of before) =
    overflows_listed s.counts.counts counted s.counts.counts.size c.counted ∙ ap (overflows_in counted) c.size in
    let more = overflows_row counted r.data_block r.length (data_blocks_of before) next.within in
    let over_is : p.over ≡ overflows_in (flat_map data_of_line (map_line r ∷ before)) (data_blocks_of before) =
    omega (arith, over, few, old, twice, more, ap (λ (ns : List ℕ). overflows_in ns (data_blocks_of before)) listed) in
    let often_is : p.often ≡ used_often (text.uses_of before) (leaf_number before) =
    often ∙ (ap (overflows_of s.uses.counts) c.uses_size ∙ (overflows_listed s.uses.counts (text.uses_of before) room c.uses_counted ∙ often_same (text.uses_of before) (leaf_number before) room c.uses_within)) in
    rw (many, blocks ∙ c.size, over_is, often_is, leaves ∙ h.leaves.number, trees ∙ h.listed.trees) (omega (arith, opens, trees_more r h next fits))
  where
    tell_number : (more : Told → Told) (ts : List Told) → length (tell_newest more ts) ≡ length ts
    tell_number more [] = refl
    tell_number more (t ∷ ts) = refl

    same_twice : (ns : List ℕ) → count_by (λ d. eqb (count_of s.counts.counts d) 2) ns ≡ count_by (λ d. eqb (count_by (λ b. eqb b d) (flat_map data_of_line before)) 2) ns
    same_twice [] = refl
    same_twice (n ∷ ns) =
        let here = ap (λ (k : ℕ). cond {A = ℕ} (eqb k 2) 1 0) (h.counts.counted n) in
        let old = sum_by-cons (λ d. cond {A = ℕ} (eqb (count_of s.counts.counts d) 2) 1 0) n ns in
        let new = sum_by-cons (λ d. cond {A = ℕ} (eqb (count_by (λ b. eqb b d) (flat_map data_of_line before)) 2) 1 0) n ns in
        omega (arith, here, old, new, same_twice ns)
