-- How steps of a search for free blocks join.
use Rattle.std.proofs.Common.{◌≡◌, ◌∙◌, ℕ, ◌+◌, ◌-◌, ◌*◌, ◌/◌, ◌%◌, ◌<◌, ◌≤◌, min, Option, IfSome, Bool, true, false, cond, List, [], ◌∷◌, ◌++◌, length, ap, sym, refl, subst, arith}
use Rattle.std.specs.Prelude.{◌==◌}
use Rattle.std.specs.List.{range_with_len}
use Rattle.std.proofs.lemmas.List.{length-take, take_all}
use Rattle.std.proofs.lemmas.List.FromFn.{length-range_with_len}
use Rattle.pd_kinds.specs.declared.superblocks.SmRoot.{SmRoot}
use Rattle.pd_kinds.specs.Bitmap.{two_bits_of}
use Rattle.pd_kinds.specs.Graph.{block_at}
use Rattle.pd_kinds.specs.Objects.{DeviceState}
use Rattle.pd_kinds.specs.Trees.{value_of_key}
use Rattle.pd_kinds.proofs.ResultLemmas.{if_all, if_maps, if_then, if_three}
use Rattle.pd_value.specs.declared.space_map.Count.{Count}
use Rattle.pd_bitmap.specs.Counts.{AreAll}
use Rattle.pd_image.specs.Device.{OnlyReads}
use Rattle.pd_image.proofs.CrashLemmas.{only_reads_both}
use Rattle.pd_tree.specs.Below.{items_below}
use Rattle.pd_smap.specs.Overflow.{IsIndex, IsOverflow, count_from, data_place, overflow_of}
use Rattle.pd_smap.specs.Steps.{IsAhead, stored_by, bits_at, bits_by, bits_from}
use Rattle.pd_smap.proofs.CountLemmas.{map_bits}
use Rattle.pd_smap.proofs.MapLemmas.{few_bits, stored_data_is}
use Rattle.pd_smap.proofs.OverflowLeftLemmas.{ahead_later, all_ahead}
use Rattle.pd_laws_changed.specs.KnownPool.{AreBelow, Ascend}
use Rattle.pd_shrink.specs.declared.free.FreeBlocks.{FreeBlocks}
use Rattle.pd_shrink.specs.Gathered.{FindsFree, Gathers, HoldsFirstFree, AscendWithin, Searched, Standing, numbers_where, is_free_by, with_reads, is_unused, is_zero, unused_below}
use Rattle.pd_shrink.proofs.GatherLemmas.{chosen_all, chosen_none, chosen_one, chosen_same, chosen_split, gathers_full, gathers_none, gathers_then, length-lie, lie_first, lie_row, lie_then}

-- a step, and then another one
finds_then : (bits : List (List ℕ) → ℕ → ℕ) (image : List (List ℕ)) (low m n : ℕ) (ds es : List ℕ) (s t u : Standing)
    → FindsFree bits image low m ds s t → FindsFree bits image (low + m) n es t u → FindsFree bits image low (m + n) (ds ++ es) s u
finds_then bits image low m n ds es s t u first next = record {
  reads = omega (arith, first.reads, next.reads);
  choice = λ over ahead.
      ap (λ (xs : List ℕ). xs ++ es) (first.choice over ahead)
      ∙ ap (λ (xs : List ℕ). numbers_where (is_free_by (bits image) over) low m ++ xs) (next.choice over (first.ahead over ahead))
      ∙ sym (chosen_split (is_free_by (bits image) over) low m n);
  ahead = λ over ahead. let sum : low + m + n ≡ low + (m + n) = omega arith in subst (λ k. IsAhead k over (u.items image)) sum (next.ahead over (first.ahead over ahead));
}

searched_then : (wanted : ℕ) (bits : List (List ℕ) → ℕ → ℕ) (low m n : ℕ) (s t u : Standing)
    → Searched wanted bits low m s t → Searched wanted bits (low + m) n t u → Searched wanted bits low (m + n) s u
searched_then wanted bits low m n s t u first next = record {
  kept = only_reads_both first.kept next.kept;
  faults = next.faults ∙ first.faults;
  most = omega (arith, first.most, next.most);
  free = first.free ++ next.free;
  lie =
      let sum : low + m + n ≡ low + (m + n) = omega arith in
      subst (λ k. AscendWithin low k (first.free ++ next.free)) sum (lie_then low (low + m) (low + m + n) first.free next.free (omega arith) (omega arith) first.lie next.lie);
  gathered = gathers_then wanted first.free next.free s.free t.free u.free first.gathered next.gathered;
  told = if_then s.device.held t.device.held _ _ _ first.kept.held (λ image. finds_then bits image low m n first.free next.free s t u) first.told next.told;
}

-- a step from where another one ended
pub searched_next : (wanted : ℕ) (bits : List (List ℕ) → ℕ → ℕ) (low m b n k : ℕ) (s t u : Standing) → b ≡ low + m → k ≡ m + n
    → Searched wanted bits low m s t → Searched wanted bits b n t u → Searched wanted bits low k s u
searched_next wanted bits low m b n k s t u from sum first next =
    subst (λ i. Searched wanted bits low i s u) (sym sum) (searched_then wanted bits low m n s t u first (subst (λ i. Searched wanted bits i n t u) from next))

-- as many blocks
pub searched_many : (wanted : ℕ) (bits : List (List ℕ) → ℕ → ℕ) (low m n : ℕ) (s t : Standing) → m ≡ n → Searched wanted bits low m s t → Searched wanted bits low n s t
searched_many wanted bits low m n s t many searched = subst (λ i. Searched wanted bits low i s t) many searched

-- blocks of which none is free, and which aren't looked at
pub searched_none : (wanted : ℕ) (bits : List (List ℕ) → ℕ → ℕ) (low len : ℕ) (s : Standing)
    → ((image : List (List ℕ)) (over : ℕ → Option ℕ) (d : ℕ) → low ≤ d → d < low + len → is_free_by (bits image) over d ≡ false) → Searched wanted bits low len s s
searched_none wanted bits low len s none = record {
  kept = record { held = refl; access = refl; path = refl; blocks = refl; history = refl };
  faults = refl;
  most = omega arith;
  free = [];
  lie = record { below = tt; ascend = tt };
  gathered = gathers_none wanted s.free;
  told = if_all s.device.held _ (λ image. record {
    reads = omega arith;
    choice = λ over ahead. sym (chosen_none (is_free_by (bits image) over) low len (none image over));
    ahead = λ over ahead. ahead_later low (low + len) over (s.items image) (omega arith) ahead;
  });
}

-- no blocks
pub searched_nowhere : (wanted : ℕ) (bits : List (List ℕ) → ℕ → ℕ) (low len : ℕ) (s : Standing) → len ≡ 0 → Searched wanted bits low len s s
searched_nowhere wanted bits low len s empty = searched_none wanted bits low len s (λ image over d from below. absurd (omega (arith, empty)))

-- blocks of which all are free, where nothing more is kept
pub searched_all : (wanted : ℕ) (bits : List (List ℕ) → ℕ → ℕ) (low len : ℕ) (s : Standing) (free : FreeBlocks)
    → free.number ≡ s.free.number + len → free.first.items ≡ s.free.first.items → wanted ≤ length s.free.first.items
    → ((image : List (List ℕ)) (over : ℕ → Option ℕ) (d : ℕ) → low ≤ d → d < low + len → is_free_by (bits image) over d ≡ true) → Searched wanted bits low len s (record s { free = free })
searched_all wanted bits low len s free number same full each = record {
  kept = record { held = refl; access = refl; path = refl; blocks = refl; history = refl };
  faults = refl;
  most = omega (arith, number);
  free = range_with_len low len;
  lie = lie_row low len;
  gathered = gathers_full wanted (range_with_len low len) s.free free (number ∙ ap (λ n. s.free.number + n) (sym (length-range_with_len low len))) same full;
  told = if_all s.device.held _ (λ image. record {
    reads = omega arith;
    choice = λ over ahead. sym (chosen_all (is_free_by (bits image) over) low len (each image over));
    ahead = λ over ahead. ahead_later low (low + len) over (s.items image) (omega arith) ahead;
  });
}

-- the blocks of a group whose counts are one number
pub in_group : (bitmap : List ℕ) (base g number : ℕ) → AreAll bitmap g number → (image : List (List ℕ)) (over : ℕ → Option ℕ) (d : ℕ) → base + 32 * g ≤ d → d < base + 32 * g + 32
    → is_free_by (bits_from base bitmap image) over d ≡ (number == 0)
in_group bitmap base g number all image over d from below =
    let entry : d - base ≡ 32 * g + (d - (base + 32 * g)) = omega arith in
    ap (λ (n : ℕ). is_zero (stored_by n (over d))) (ap (two_bits_of bitmap) entry ∙ all.counts (d - (base + 32 * g)) (omega arith))
    ∙ ap is_zero (few_bits number (over d) all.held)

-- one block, whose count was looked at
pub searched_one : (wanted base e : ℕ) (bitmap : List ℕ) (unused : Bool) (more : List ℕ) (device after : DeviceState) (items later : List (List ℕ) → List (ℕ × Count))
    (left rest : List (List ℕ) → ℕ) (free new : FreeBlocks) → more ≡ cond unused ((base + e) ∷ []) []
    → OnlyReads device after → after.faults ≡ device.faults → new.number ≤ free.number + 1 → AscendWithin (base + e) (base + e + 1) more → Gathers wanted more free new
    → IfSome device.held (λ image. after.reads + rest image ≤ device.reads + left image)
    → IfSome device.held (λ image. (over : ℕ → Option ℕ) → IsAhead (base + e) over (items image) → unused ≡ is_zero (stored_by (two_bits_of bitmap e) (over (base + e))))
    → IfSome device.held (λ image. (over : ℕ → Option ℕ) → IsAhead (base + e) over (items image) → IsAhead (base + e) over (later image))
    → Searched wanted (bits_from base bitmap) (base + e) 1
    (record { device = device; free = free; items = items; reads = left }) (record { device = after; free = new; items = later; reads = rest })
searched_one wanted base e bitmap unused more device after items later left rest free new says kept faults most lie gathered reads is ahead = record {
  kept = kept;
  faults = faults;
  most = most;
  free = more;
  lie = lie;
  gathered = gathered;
  told = if_three device.held _ _ _ _ (λ image fewer is stays. record {
    reads = fewer;
    choice = λ over before.
        let entry : e ≡ base + e - base = omega arith in
        says ∙ sym (chosen_one (is_free_by (bits_from base bitmap image) over) (base + e) unused
        (is over before ∙ ap (λ k. is_zero (stored_by (two_bits_of bitmap k) (over (base + e)))) entry));
    ahead = λ over before. ahead_later (base + e) (base + e + 1) over (later image) (omega arith) (stays over before);
  }) reads is ahead;
}

-- the same over the same bits, with other numbers of reads that are left
pub searched_bits : (wanted : ℕ) (one other : List (List ℕ) → ℕ → ℕ) (low len : ℕ) (s t : Standing) (left rest : List (List ℕ) → ℕ)
    → ((image : List (List ℕ)) → s.reads image + rest image ≤ left image + t.reads image)
    → IfSome s.device.held (λ image. (b : ℕ) → low ≤ b → b < low + len → one image b ≡ other image b)
    → Searched wanted one low len s t → Searched wanted other low len (record s { reads = left }) (record t { reads = rest })
searched_bits wanted one other low len s t left rest room same searched = record {
  kept = searched.kept;
  faults = searched.faults;
  most = searched.most;
  free = searched.free;
  lie = searched.lie;
  gathered = searched.gathered;
  told = if_then s.device.held s.device.held _ _ _ refl (λ image is finds. record {
    reads = omega (arith, finds.reads, room image);
    choice = λ over ahead.
        finds.choice over ahead
        ∙ chosen_same (is_free_by (one image) over) (is_free_by (other image) over) low len (λ d from below. ap (λ n. is_zero (stored_by n (over d))) (is d from below));
    ahead = finds.ahead;
  }) same searched.told;
}

pub searched_reads : (wanted : ℕ) (bits : List (List ℕ) → ℕ → ℕ) (low len : ℕ) (s t : Standing) (left rest : List (List ℕ) → ℕ)
    → ((image : List (List ℕ)) → s.reads image + rest image ≤ left image + t.reads image)
    → Searched wanted bits low len s t → Searched wanted bits low len (record s { reads = left }) (record t { reads = rest })
searched_reads wanted bits low len s t left rest room searched =
    searched_bits wanted bits bits low len s t left rest room (if_all s.device.held _ (λ image b from below. refl)) searched

-- reads alone
pub searched_reading : (wanted : ℕ) (bits : List (List ℕ) → ℕ → ℕ) (low : ℕ) (device after : DeviceState) (free : FreeBlocks) (items : List (List ℕ) → List (ℕ × Count)) (left rest : List (List ℕ) → ℕ)
    → OnlyReads device after → after.faults ≡ device.faults → IfSome device.held (λ image. after.reads + rest image ≤ device.reads + left image)
    → Searched wanted bits low 0 (record { device = device; free = free; items = items; reads = left }) (record { device = after; free = free; items = items; reads = rest })
unfolding numbers_where
searched_reading wanted bits low device after free items left rest kept faults reads = record {
  kept = kept;
  faults = faults;
  most = omega arith;
  free = [];
  lie = record { below = tt; ascend = tt };
  gathered = gathers_none wanted free;
  told = if_maps device.held _ _ (λ image fewer. record {
    reads = fewer;
    choice = λ over ahead. refl;
    ahead = λ over ahead. let same : low ≡ low + 0 = omega arith in subst (λ k. IsAhead k over (items image)) same ahead;
  }) reads;
}

-- a bitmap was read, which tells the bits of what is searched then
pub read_then : (wanted : ℕ) (one other : List (List ℕ) → ℕ → ℕ) (low len found : ℕ) (device after : DeviceState) (free : FreeBlocks)
    (items : List (List ℕ) → List (ℕ × Count)) (left : List (List ℕ) → ℕ) (t : Standing)
    → OnlyReads device after → after.faults ≡ device.faults → after.reads ≤ device.reads + 1
    → IfSome device.held (λ image. (b : ℕ) → low ≤ b → b < low + found → one image b ≡ other image b) → len ≡ found
    → Searched wanted one low found (record { device = after; free = free; items = items; reads = left }) t
    → Searched wanted other low len (record { device = device; free = free; items = items; reads = λ image. left image + 1 }) t
read_then wanted one other low len found device after free items left t kept faults reads bits same searched =
    searched_next wanted other low 0 low found len _ (record { device = after; free = free; items = items; reads = left }) t (omega arith) (omega (arith, same))
    (searched_reading wanted other low device after free items (λ image. left image + 1) left kept faults (if_all device.held _ (λ image. omega (arith, reads))))
    (searched_bits wanted one other low found (record { device = after; free = free; items = items; reads = left }) t left t.reads (λ image. omega arith)
    (subst (λ o. IfSome o (λ image. (b : ℕ) → low ≤ b → b < low + found → one image b ≡ other image b)) (sym kept.held) bits) searched)

-- one bitmap more of a map
pub map_searched : (wanted : ℕ) (place : List (List ℕ) → ℕ → ℕ) (at i blocks : ℕ) (s t u : Standing) (left rest : List (List ℕ) → ℕ)
    → 16320 * i < blocks → IfSome t.device.held (λ image. place image i ≡ at)
    → ((image : List (List ℕ)) → t.reads image + 1 + rest image ≤ left image + u.reads image)
    → Searched wanted (bits_by place) 0 (min (16320 * i) blocks) s (record t { reads = left })
    → Searched wanted (bits_at at i) (16320 * i) (min 16320 (blocks - 16320 * i)) (with_reads (λ image. 1) t) u
    → Searched wanted (bits_by place) 0 (min (16320 * (i + 1)) blocks) s (record u { reads = rest })
map_searched wanted place at i blocks s t u left rest within placed room first next =
    let sum : min (16320 * (i + 1)) blocks ≡ min (16320 * i) blocks + min 16320 (blocks - 16320 * i) = omega arith in
    let from : 16320 * i ≡ 0 + min (16320 * i) blocks = omega arith in
    searched_next wanted (bits_by place) 0 (min (16320 * i) blocks) (16320 * i) (min 16320 (blocks - 16320 * i)) (min (16320 * (i + 1)) blocks) s (record t { reads = left }) (record u { reads = rest }) from sum first
    (searched_bits wanted (bits_at at i) (bits_by place) (16320 * i) (min 16320 (blocks - 16320 * i)) (with_reads (λ image. 1) t) u left rest room
    (map_bits place at i (min 16320 (blocks - 16320 * i)) t.device.held (omega arith) placed) next)

-- the reads that a search has made, and those of a call after it
pub reads_so_far : (wanted : ℕ) (bits : List (List ℕ) → ℕ → ℕ) (low len : ℕ) (s t : Standing) → Searched wanted bits low len s t
    → IfSome s.device.held (λ image. t.device.reads ≤ s.device.reads + s.reads image)
reads_so_far wanted bits low len s t searched = if_maps s.device.held _ _ (λ image finds. omega (arith, finds.reads)) searched.told

pub reads_after : (wanted : ℕ) (bits : List (List ℕ) → ℕ → ℕ) (low len reads : ℕ) (s t : Standing) → Searched wanted bits low len s t
    → IfSome t.device.held (λ image. reads ≤ t.device.reads + t.reads image) → IfSome s.device.held (λ image. reads ≤ s.device.reads + s.reads image)
reads_after wanted bits low len reads s t searched after =
    if_then s.device.held t.device.held _ _ _ searched.kept.held (λ image finds fewer. omega (arith, finds.reads, fewer)) searched.told after

-- what is held after a search that began with nothing
holds_all : (wanted : ℕ) (bits : List (List ℕ) → ℕ → ℕ) (end : ℕ) (s t : Standing) → s.free.number ≡ 0 → s.free.first.items ≡ []
    → (searched : Searched wanted bits 0 end s t) → HoldsFirstFree wanted searched.free t.free
holds_all wanted bits end s t nothing none searched =
    searched.gathered [] (record { number = nothing; first = none ∙ sym (take_all wanted [] (omega arith)) })

-- so many blocks below a number, the first ones of which are these
pub record AreFirst (end wanted number : ℕ) (first : List ℕ) : Type 0 where
  pub below : AreBelow end first
  pub ascend : Ascend 0 first
  pub few : length first ≡ min wanted number
  pub most : number ≤ end

pub first_found : (wanted : ℕ) (bits : List (List ℕ) → ℕ → ℕ) (end : ℕ) (s t : Standing) → s.free.number ≡ 0 → s.free.first.items ≡ []
    → Searched wanted bits 0 end s t → AreFirst end wanted t.free.number t.free.first.items
first_found wanted bits end s t nothing none searched =
    let held = holds_all wanted bits end s t nothing none searched in
    let lie : AscendWithin 0 end searched.free = let sum : 0 + end ≡ end = omega arith in subst (λ high. AscendWithin 0 high searched.free) sum searched.lie in
    let first = lie_first wanted 0 end searched.free lie in
    record {
      below = subst (AreBelow end) (sym held.first) first.below;
      ascend = subst (Ascend 0) (sym held.first) first.ascend;
      few = ap length held.first ∙ length-take wanted searched.free ∙ ap (min wanted) (sym held.number);
      most = omega (arith, held.number, length-lie end searched.free lie);
    }

-- over an image they are the blocks whose stored count is 0
unused_found : (place : List (List ℕ) → ℕ → ℕ) (image : List (List ℕ)) (map : SmRoot) (blocks end : ℕ) (free : List ℕ) (s t : Standing)
    → ((i : ℕ) → place image i ≡ data_place map.bitmap_root image i) → s.items image ≡ items_below 4 count_from image 63 map.overflow_root
    → IsIndex image map.bitmap_root blocks → IsOverflow image map.overflow_root → end ≤ blocks
    → FindsFree (bits_by place) image 0 end free s t → free ≡ unused_below image map end
unfolding unused_below numbers_where
unused_found place image map blocks end free s t placed items index searchable within finds =
    let over = value_of_key (overflow_of image map.overflow_root) in
    finds.choice over (subst (IsAhead 0 over) (sym items) (all_ahead image map.overflow_root searchable))
    ∙ chosen_same (is_free_by (bits_by place image) over) (is_unused image map) 0 end (λ d from below.
    ap (λ p. is_zero (stored_by (two_bits_of (block_at image p) (d % 16320)) (over d))) (placed (d / 16320))
    ∙ sym (ap is_zero (stored_data_is image map.bitmap_root blocks d (overflow_of image map.overflow_root) index (omega arith))))

pub all_found : (wanted : ℕ) (place : List (List ℕ) → ℕ → ℕ) (map : SmRoot) (end : ℕ) (o : Option (List (List ℕ))) (s t : Standing) → s.device.held ≡ o
    → ((image : List (List ℕ)) (i : ℕ) → place image i ≡ data_place map.bitmap_root image i)
    → IfSome o (λ image. s.items image ≡ items_below 4 count_from image 63 map.overflow_root) → s.free.number ≡ 0 → s.free.first.items ≡ []
    → Searched wanted (bits_by place) 0 end s t
    → IfSome o (λ image. (blocks : ℕ) → IsIndex image map.bitmap_root blocks → IsOverflow image map.overflow_root → end ≤ blocks → HoldsFirstFree wanted (unused_below image map end) t.free)
all_found wanted place map end o s t same placed items nothing none searched =
    if_then o s.device.held _ _ _ same (λ image are finds blocks index searchable within.
    subst (λ ds. HoldsFirstFree wanted ds t.free) (unused_found place image map blocks end searched.free s t (placed image) are index searchable within finds)
    (holds_all wanted (bits_by place) end s t nothing none searched)) items searched.told
