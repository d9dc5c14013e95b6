-- One block's comparison as a step.
use Rattle.std.proofs.Common.{◌≡◌, ℕ, ◌+◌, ◌-◌, ◌≤◌, List, Option, Some, Result, Ok, Err, IfOk, IfSome, ap, sym, ◌∙◌, subst, arith, cond, append-nil, OnErr, ◌*◌, ◌<◌, ◌/◌, ◌%◌, get_or, min, length}
use Rattle.std.proofs.lemmas.Bool.{le-ltb}
use Rattle.std.proofs.Math.Nat.{div-add-mod}
use Rattle.std.specs.Int.{bit_at}
use Rattle.std.proofs.lemmas.Nat.Bits.{bit_at-zero}
use Rattle.pd_kinds.specs.Bitmap.{two_bits_of}
use Rattle.pd_kinds.specs.declared.rule.Space.{Space}
use Rattle.pd_kinds.specs.Objects.{DeviceState, Rose}
use Rattle.pd_kinds.specs.Rule.{Reported, report_of}
use Rattle.pd_kinds.specs.Stages.{count_fault}
use Rattle.pd_kinds.proofs.ResultLemmas.{if_maps, if_three, if_all}
use Rattle.pd_kinds.specs.Graph.{block_at}
use Rattle.pd_value.specs.declared.space_map.Count.{Count}
use Rattle.pd_image.specs.Device.{OnlyReads}
use Rattle.pd_count.specs.Counted.{Counted, count_of, IsChunk, IsUncounted}
use Rattle.pd_tree.proofs.NextLemmas.{none_outside}
use Rattle.pd_smap.specs.Steps.{IsAhead, stored_by, faults_from, Adds, Compared, ComparesRange, Stopped, bits_from, AreRefs, ComparisonState, bits_at, bits_by, with_reads}
use Rattle.pd_smap.proofs.OverflowLeftLemmas.{ahead_later}
use Rattle.pd_smap.proofs.StepLemmas.{faults_one, went_next, stopped_next, went_bits, stopped_bits, went_reading, went_reads, stopped_reads}

-- where the two bits are 3, the stored count is that of the overflow tree
pub count_beyond : {E : Type 0} → (result : Result (Option ℕ) E) (held : Option (List (List ℕ))) (b bits found : ℕ) (items : List (List ℕ) → List (ℕ × Count))
    → found ≡ bits → 3 ≤ found
    → IfOk result (λ count. IfSome held (λ image. (over : ℕ → Option ℕ) → IsAhead b over (items image) → count ≡ over b))
    → IfOk result (λ count. IfSome held (λ image. (over : ℕ → Option ℕ) → IsAhead b over (items image) → count ≡ stored_by bits (over b)))
count_beyond (Err e) held b bits found items same beyond told = tt
count_beyond (Ok count) held b bits found items same beyond told =
    if_maps held _ _ (λ image is over ahead. is over ahead ∙ sym (ap (λ t. cond t (Some bits) (over b)) (le-ltb bits 3 (omega (arith, same, beyond))))) told

-- a fact holds under an error
pub on_err : {T E : Type 0} → (result : Result T E) (P : Type 0) → P → OnErr result P
on_err (Ok x) P p = tt
on_err (Err e) P p = p

-- the fault of a block, by its references and its stored count
fault_added : (space : Space) (refs : ℕ → ℕ) (b count : ℕ) (stored : Option ℕ) (all : ℕ → Option ℕ) (old new : Reported) → count ≡ refs b → stored ≡ all b
    → Adds (count_fault space b count stored) old new → Adds (faults_from space refs all b 1) old new
fault_added space refs b count stored all old new counted is adds =
    subst (λ fs. Adds fs old new)
    (ap (λ n. count_fault space b n stored) counted ∙ ap (count_fault space b (refs b)) is ∙ sym (faults_one space refs all b)) adds

-- one block was compared
pub block_went : (space seen : Space) (refs : ℕ → ℕ) (base e count : ℕ) (block : List ℕ) (stored : Option ℕ) (device after : DeviceState)
    (items later : List (List ℕ) → List (ℕ × Count)) (left rest : List (List ℕ) → ℕ) (report added : Reported)
    → OnlyReads device after → after.faults ≡ device.faults
    → IfSome device.held (λ image. after.reads + rest image ≤ device.reads + left image)
    → IfSome device.held (λ image. (over : ℕ → Option ℕ) → IsAhead (base + e) over (items image) → stored ≡ stored_by (two_bits_of block e) (over (base + e)))
    → IfSome device.held (λ image. (over : ℕ → Option ℕ) → IsAhead (base + e) over (items image) → IsAhead (base + e) over (later image))
    → seen ≡ space → count ≡ refs (base + e) → Adds (count_fault seen (base + e) count stored) report added → added.total ≤ report.total + 1
    → ComparesRange (record { space = space; refs = refs; bits = bits_from base block }) (base + e) 1
    (record { device = device; report = report; items = items; reads = left }) (record { device = after; report = added; items = later; reads = rest })
block_went space seen refs base e count block stored device after items later left rest report added kept faults reads is ahead same counted adds total = record {
  kept = kept;
  faults = faults;
  total = total;
  told = if_three device.held _ _ _ _ (λ image fewer is stays. record {
    reads = fewer;
    added = λ over before.
        let entry : e ≡ base + e - base = omega arith in
        fault_added space refs (base + e) count stored _ report added counted (is over before ∙ ap (λ k. stored_by (two_bits_of block k) (over (base + e))) entry)
        (subst (λ s. Adds (count_fault s (base + e) count stored) report added) same adds);
    ahead = λ over before. ahead_later (base + e) (base + e + 1) over (later image) (omega arith) (stays over before);
  }) reads is ahead;
}

-- and the comparison stopped there
pub block_stopped : (compared : Compared) (low len : ℕ) (device after : DeviceState)
    (items later : List (List ℕ) → List (ℕ × Count)) (left rest : List (List ℕ) → ℕ) (report : Reported)
    → OnlyReads device after → Rose device.faults after.faults × (device.faults ≤ after.faults)
    → IfSome device.held (λ image. after.reads ≤ device.reads + left image)
    → Stopped compared low len
    (record { device = device; report = report; items = items; reads = left }) (record { device = after; report = report; items = later; reads = rest })
block_stopped compared low len device after items later left rest report kept rose reads = record {
  kept = kept;
  rose = rose;
  total = omega arith;
  told = if_maps device.held _ _ (λ image fewer. record {
    reads = fewer;
    added = λ over ahead before is. (0, is ∙ ap report_of (sym (append-nil before)));
  }) reads;
}

-- The counts of a group, and the numbers of references of its blocks.

-- the bits of the blocks of a group are their numbers of references
pub equal_bits : (block : List ℕ) (g base : ℕ) (refs : ℕ → ℕ) → AreRefs block g refs (base + 32 * g) → (b : ℕ) → base + 32 * g ≤ b → b < base + 32 * g + 32
    → (two_bits_of block (b - base) ≡ refs b) × (refs b < 3)
equal_bits block g base refs equal b from below =
    let within : b - (base + 32 * g) < 32 = omega arith in
    let entry : b - base ≡ 32 * g + (b - (base + 32 * g)) = omega arith in
    let is : base + 32 * g + (b - (base + 32 * g)) ≡ b = omega arith in
    (ap (two_bits_of block) entry ∙ equal.counts (b - (base + 32 * g)) within ∙ ap refs is, rw is at (equal.held (b - (base + 32 * g)) within))

-- The counts of a run of blocks within one chunk.

-- a block by its chunk and its place in it
by_place : (first k : ℕ) → 16320 * (first / 16320) + (first % 16320 + k) ≡ first + k
by_place first k = omega (arith, div-add-mod first 16320)

-- each count of the run is this one where each number of the chunk's part is
pub run_counts : (counts : Counted) (first len count : ℕ) (numbers : List ℕ) → first % 16320 + len ≤ 16320 → IsChunk counts (first / 16320) numbers
    → ((k : ℕ) → k < len → get_or numbers (first % 16320 + k) 0 ≡ count) → (k : ℕ) → k < len → count_of counts (first + k) ≡ count
run_counts counts first len count numbers within chunk all k below =
    ap (count_of counts) (sym (by_place first k)) ∙ (sym (chunk.counted (first % 16320 + k) (omega arith)) ∙ all k below)

-- and each is 0 where the chunk wasn't counted
pub run_uncounted : (counts : Counted) (first len : ℕ) → first % 16320 + len ≤ 16320 → IsUncounted counts (first / 16320)
    → (k : ℕ) → k < len → count_of counts (first + k) ≡ 0
run_uncounted counts first len within none k below = ap (count_of counts) (sym (by_place first k)) ∙ none (first % 16320 + k) (omega arith)

-- A bitmap that is read before its counts are compared.

-- the counts of a block outside of an image are 0
pub outside_bits : (image : List (List ℕ)) (b e : ℕ) → length image ≤ b → two_bits_of (block_at image b) e ≡ 0
unfolding two_bits_of
outside_bits image b e outside =
    ap (λ (block : List ℕ). two_bits_of block e) (none_outside image b outside)
    ∙ ap (λ n. 2 * n + bit_at 0 (2 * (e % 4) + 1)) (bit_at-zero (2 * (e % 4))) ∙ ap (λ n. 2 * 0 + n) (bit_at-zero (2 * (e % 4) + 1))

-- one read more
one_read : (device after : DeviceState) (left : List (List ℕ) → ℕ) → after.reads ≤ device.reads + 1
    → IfSome device.held (λ image. after.reads + left image ≤ device.reads + (left image + 1))
one_read device after left reads = if_all device.held _ (λ image. omega arith)

pub before_reading : (device after : DeviceState) (left : List (List ℕ) → ℕ) → after.reads ≤ device.reads + 1
    → IfSome device.held (λ image. after.reads ≤ device.reads + (left image + 1))
before_reading device after left reads = if_all device.held _ (λ image. omega arith)

pub before_many : (device after : DeviceState) (left : List (List ℕ) → ℕ) (n : ℕ) → after.reads ≤ device.reads + 1
    → IfSome device.held (λ image. after.reads ≤ device.reads + (left image + (1 + n)))
before_many device after left n reads = if_all device.held _ (λ image. omega arith)

-- a block was read, which tells the bits of what is compared then
pub read_then : (space : Space) (refs : ℕ → ℕ) (one other : List (List ℕ) → ℕ → ℕ) (low len found : ℕ) (device after : DeviceState) (report : Reported)
    (items : List (List ℕ) → List (ℕ × Count)) (left : List (List ℕ) → ℕ) (t : ComparisonState)
    → OnlyReads device after → after.faults ≡ device.faults → after.reads ≤ device.reads + 1
    → IfSome device.held (λ image. (b : ℕ) → low ≤ b → b < low + found → one image b ≡ other image b) → len ≡ found
    → ComparesRange (record { space = space; refs = refs; bits = one }) low found (record { device = after; report = report; items = items; reads = left }) t
    → ComparesRange (record { space = space; refs = refs; bits = other }) low len (record { device = device; report = report; items = items; reads = λ image. left image + 1 }) t
read_then space refs one other low len found device after report items left t kept faults reads bits same went =
    went_next _ low 0 low found len _ (record { device = after; report = report; items = items; reads = left }) t (omega arith) (omega (arith, same))
    (went_reading _ low device after report items (λ image. left image + 1) left kept faults (one_read device after left reads))
    (went_bits space refs one other low found _ t (subst (λ o. IfSome o (λ image. (b : ℕ) → low ≤ b → b < low + found → one image b ≡ other image b)) (sym kept.held) bits) went)

pub read_stopped : (space : Space) (refs : ℕ → ℕ) (one other : List (List ℕ) → ℕ → ℕ) (low len found : ℕ) (device after : DeviceState) (report : Reported)
    (items : List (List ℕ) → List (ℕ × Count)) (left : List (List ℕ) → ℕ) (t : ComparisonState)
    → OnlyReads device after → after.faults ≡ device.faults → after.reads ≤ device.reads + 1
    → IfSome device.held (λ image. (b : ℕ) → low ≤ b → b < low + found → one image b ≡ other image b) → len ≡ found
    → Stopped (record { space = space; refs = refs; bits = one }) low found (record { device = after; report = report; items = items; reads = left }) t
    → Stopped (record { space = space; refs = refs; bits = other }) low len (record { device = device; report = report; items = items; reads = λ image. left image + 1 }) t
read_stopped space refs one other low len found device after report items left t kept faults reads bits same stopped =
    stopped_next _ low 0 low found len _ (record { device = after; report = report; items = items; reads = left }) t (omega arith) (omega (arith, same))
    (went_reading _ low device after report items (λ image. left image + 1) left kept faults (one_read device after left reads))
    (stopped_bits space refs one other low found _ t (subst (λ o. IfSome o (λ image. (b : ℕ) → low ≤ b → b < low + found → one image b ≡ other image b)) (sym kept.held) bits) stopped)

-- the bits of the bitmap that was read are those of the one in its place
pub same_bits : (place i len : ℕ) (block : List ℕ) (o : Option (List (List ℕ)))
    → IfSome o (λ image. (e : ℕ) → two_bits_of block e ≡ two_bits_of (block_at image place) e)
    → IfSome o (λ image. (b : ℕ) → 16320 * i ≤ b → b < 16320 * i + len → bits_from (16320 * i) block image b ≡ bits_at place i image b)
same_bits place i len block o counts = if_maps o _ _ (λ image is b from below. is (b - 16320 * i)) counts

-- bitmap i of a map stands in its place
pub map_bits : (place : List (List ℕ) → ℕ → ℕ) (at i len : ℕ) (o : Option (List (List ℕ))) → len ≤ 16320 → IfSome o (λ image. place image i ≡ at)
    → IfSome o (λ image. (b : ℕ) → 16320 * i ≤ b → b < 16320 * i + len → bits_at at i image b ≡ bits_by place image b)
map_bits place at i len o most placed = if_maps o _ _ (λ image is b from below.
    let which : i ≡ b / 16320 = omega arith in
    let entry : b - 16320 * i ≡ b % 16320 = omega arith in
    ap (two_bits_of (block_at image at)) entry ∙ ap (λ p. two_bits_of (block_at image p) (b % 16320)) (sym is ∙ ap (place image) which)) placed

-- one bitmap more of a map
pub map_went : (space : Space) (refs : ℕ → ℕ) (place : List (List ℕ) → ℕ → ℕ) (at i blocks : ℕ) (s t u : ComparisonState) (left rest : List (List ℕ) → ℕ)
    → 16320 * i < blocks → IfSome t.device.held (λ image. place image i ≡ at)
    → ((image : List (List ℕ)) → t.reads image + 1 + rest image ≤ left image + u.reads image)
    → ComparesRange (record { space = space; refs = refs; bits = bits_by place }) 0 (min (16320 * i) blocks) s (record t { reads = left })
    → ComparesRange (record { space = space; refs = refs; bits = bits_at at i }) (16320 * i) (min 16320 (blocks - 16320 * i)) (with_reads 1 t) u
    → ComparesRange (record { space = space; refs = refs; bits = bits_by place }) 0 (min (16320 * (i + 1)) blocks) s (record u { reads = rest })
map_went space refs place at i blocks s t u left rest within placed room first next =
    let whole : min (16320 * i) blocks ≡ 16320 * i = omega arith in
    let sum : min (16320 * (i + 1)) blocks ≡ min (16320 * i) blocks + min 16320 (blocks - 16320 * i) = omega arith in
    let from : 16320 * i ≡ 0 + min (16320 * i) blocks = omega arith in
    went_next _ 0 (min (16320 * i) blocks) (16320 * i) (min 16320 (blocks - 16320 * i)) (min (16320 * (i + 1)) blocks) s (record t { reads = left }) (record u { reads = rest }) from sum first
    (went_reads _ (16320 * i) (min 16320 (blocks - 16320 * i)) (with_reads 1 t) u left rest room
    (went_bits space refs (bits_at at i) (bits_by place) (16320 * i) (min 16320 (blocks - 16320 * i)) (with_reads 1 t) u
    (map_bits place at i (min 16320 (blocks - 16320 * i)) t.device.held (omega arith) placed) next))

pub map_stopped : (space : Space) (refs : ℕ → ℕ) (place : List (List ℕ) → ℕ → ℕ) (at i blocks : ℕ) (s t u : ComparisonState) (left rest : List (List ℕ) → ℕ)
    → 16320 * i < blocks → IfSome t.device.held (λ image. place image i ≡ at)
    → ((image : List (List ℕ)) → t.reads image + 1 ≤ left image)
    → ComparesRange (record { space = space; refs = refs; bits = bits_by place }) 0 (min (16320 * i) blocks) s (record t { reads = left })
    → Stopped (record { space = space; refs = refs; bits = bits_at at i }) (16320 * i) (min 16320 (blocks - 16320 * i)) (with_reads 1 t) u
    → Stopped (record { space = space; refs = refs; bits = bits_by place }) 0 blocks s (record u { reads = rest })
map_stopped space refs place at i blocks s t u left rest within placed room first next =
    let sum : min (16320 * i) blocks + min 16320 (blocks - 16320 * i) ≤ blocks = omega arith in
    let from : 16320 * i ≡ 0 + min (16320 * i) blocks = omega arith in
    stopped_next _ 0 (min (16320 * i) blocks) (16320 * i) (min 16320 (blocks - 16320 * i)) blocks s (record t { reads = left }) (record u { reads = rest }) from sum first
    (stopped_reads _ (16320 * i) (min 16320 (blocks - 16320 * i)) (with_reads 1 t) u left rest room
    (stopped_bits space refs (bits_at at i) (bits_by place) (16320 * i) (min 16320 (blocks - 16320 * i)) (with_reads 1 t) u
    (map_bits place at i (min 16320 (blocks - 16320 * i)) t.device.held (omega arith) placed) next))
