-- What a plan's copying and marking come to.
use Rattle.std.proofs.Common.{◌≡◌, Bool, true, false, cond, ◌||◌, not, List, [], ◌∷◌, ◌++◌, filter, map, refl, sym, ap, ◌∙◌, append_assoc, ℕ, ◌≤◌, nat_eq, length, Option, Some, None, IfSome, subst, arith, zero, suc, ◌+◌, ◌*◌, ◌<◌, max, get_or}
use Rattle.std.proofs.lemmas.List.{append-nil, length-map, get_or-map}
use Rattle.std.specs.List.{list_any, slice_get, fold}
use Rattle.std.specs.List.Sorted.{IsPermutation}
use Rattle.std.specs.Option.{option_map_or}
use Rattle.std.proofs.lemmas.Bool.{ne_eqb, or_parts}
use Rattle.std.proofs.lemmas.List.Sorted.{length_permutation, list_any-IsPermutation, All-permutation}
use Rattle.pd_kinds.specs.Meaning.{CacheEntry, CacheMeaning, cache_meaning}
use Rattle.pd_kinds.specs.CacheFormat.{CacheFields, cache_fields}
use Rattle.pd_kinds.specs.Graph.{block_at}
use Rattle.pd_kinds.specs.Image.{HasBytes, HasWholeBlocks, room_of}
use Rattle.pd_kinds.specs.Objects.{after_sync, present_moment, DeviceState}
use Rattle.pd_kinds.specs.Crash.{HoldsSynced, LeavesNow, LeavesOnly}
use Rattle.pd_kinds.proofs.CrashLemmas.{and_then, left_held, left_now, left_synced, weaken, Image}
use Rattle.pd_kinds.specs.declared.kind.Kind.TheVariants.{Cache}
use Rattle.pd_kinds.specs.Stages.{HasCleanSuper, cache_checked, faults}
use Rattle.pd_kinds.proofs.CleanLemmas.{clean_super_where_none}
use Rattle.pd_kinds.specs.declared.kind.Stage.TheVariants as stages
use Rattle.pd_answers.specs.Writebacks.{CachedBlock, cached_block, hot_blocks, is_hot, blocks_each, copied, fast_place, overlaid, settled, stands_for, dirty_places, is_block_size_bad}
use Rattle.pd_image.proofs.CrashLemmas.{at_some, synced_now, syncs}
use Rattle.pd_meaning_cache.specs.declared.cache_rows.CacheRow.{CacheRow}
use Rattle.pd_meaning_cache.specs.Rows.{entry_of, GivesCache, rows_below}
use Rattle.pd_writeback.specs.Plan.{hot_one, hot_rows, cached_of_hot, cached_all, is_clean, IsPlanOf, HasBadSize, IsFound, IsUnplanned}
use Rattle.pd_writeback.specs.declared.hot.HotBlock.{HotBlock}
use Rattle.pd_writeback.specs.Copied.{IsEachOnce, IsLeftKept, are_settled, marked_image}
use Rattle.pd_writeback.specs.declared.plan.Plan.{Plan}
use Rattle.pd_writeback.specs.Room.{ArePlaces, dirty_root, places_named, tree_names, AllFit, Fits, HasRoom, LacksRoom}
use Rattle.pd_writeback.proofs.MarkedLemmas.{marked_is_settled}
use Rattle.pd_writeback.proofs.OverlaidLemmas.{given_place, overlaid_in_any_order, overlaid_none}
use Rattle.pd_writeback.proofs.UnchangedLemmas.{same_if_settled, settled_if_same}
use Rattle.pd_writeback.specs.declared.making.WriteFault.{WriteFault}
use Rattle.pd_writeback.specs.declared.making.WriteFault.TheVariants.{Memory, Meta, Origin, Fast, BlockSize, NoRoom}

-- The hot blocks among the rows of a cache.

-- a row was taken from those that are left
pub hot_next : (clean : Bool) (row : CacheRow) (hot all : List CachedBlock) (old new : List CacheRow) → hot ++ hot_rows clean old ≡ all → old ≡ row ∷ new
    → (hot ++ hot_one (row.dirty || not clean) row.block row.origin) ++ hot_rows clean new ≡ all
unfolding hot_rows
hot_next clean row hot all old new before next =
    append_assoc hot (hot_one (row.dirty || not clean) row.block row.origin) (hot_rows clean new)
    ∙ (sym (ap (λ (rows : List CacheRow). hot ++ hot_rows clean rows) next) ∙ before)

-- none is left
pub hot_last : (clean : Bool) (hot all : List CachedBlock) (old : List CacheRow) → hot ++ hot_rows clean old ≡ all → old ≡ [] → hot ≡ all
unfolding hot_rows
hot_last clean hot all old before none = sym (append-nil hot) ∙ (sym (ap (λ (rows : List CacheRow). hot ++ hot_rows clean rows) none) ∙ before)

-- the hot rows are the hot entries
rows_hot : (m : CacheMeaning) (rows : List CacheRow) → hot_rows m.clean rows ≡ map cached_block (filter (is_hot m) (map entry_of rows))
unfolding hot_rows
rows_hot m [] = refl
rows_hot m (row ∷ rows) = by_first (row.dirty || not m.clean) (rows_hot m rows)
  where
    by_first : (t : Bool) → hot_rows m.clean rows ≡ map cached_block (filter (is_hot m) (map entry_of rows)) → hot_one t row.block row.origin ++ hot_rows m.clean rows ≡ map cached_block (cond t (entry_of row ∷ filter (is_hot m) (map entry_of rows)) (filter (is_hot m) (map entry_of rows)))
    by_first true rest = ap (λ (cs : List CachedBlock). cached_block (entry_of row) ∷ cs) rest
    by_first false rest = rest

pub hot_of_meaning : (m : CacheMeaning) (clean : Bool) (rows : List CacheRow) → m.clean ≡ clean → m.entries ≡ map entry_of rows → hot_rows clean rows ≡ hot_blocks m
unfolding hot_blocks
hot_of_meaning m clean rows same entries =
    ap (λ (t : Bool). hot_rows t rows) (sym same) ∙ (rows_hot m rows ∙ ap (λ (es : List CacheEntry). map cached_block (filter (is_hot m) es)) (sym entries))

-- nothing is hot
no_hot : {X : Type 0} (xs : List X) → length xs ≡ 0 → xs ≡ []
no_hot [] none = refl
no_hot (x ∷ xs) none = absurd (omega arith)

pub cold_blocks : (cs : List CachedBlock) (hot : List HotBlock) → IsPermutation cs (cached_all hot) → length hot ≡ 0 → cs ≡ []
cold_blocks cs hot same none =
    let number = length_permutation cs (cached_all hot) same in
    let count = length-map hot cached_of_hot in
    no_hot cs (omega arith)

pub no_cached : (hot : List HotBlock) {n : ℕ} → n ≡ length hot → cached_all hot ≡ [] → n ≡ 0
no_cached hot number none = let count = length-map hot cached_of_hot in omega (arith, number, count, ap length none)

pub cold_settled : (image : Image) → hot_blocks (cache_meaning image) ≡ [] → settled image ≡ image
unfolding settled
cold_settled image none = rw none refl

pub warm : (cs : List CachedBlock) (hot : List HotBlock) → IsPermutation cs (cached_all hot) → (length hot ≡ 0 → ⊥) → nat_eq (length cs) 0 ≡ false
warm cs hot same some =
    let number = length_permutation cs (cached_all hot) same in
    let count = length-map hot cached_of_hot in
    ne_eqb (length cs) 0 (λ none. some (omega arith))

pub cold_copied : (image origin fast : Image) → hot_blocks (cache_meaning image) ≡ [] → copied image origin fast ≡ origin
unfolding copied
cold_copied image origin fast none =
    let k = blocks_each (cache_meaning image).block_size in
    ap (λ (cs : List CachedBlock). overlaid k cs origin fast) none ∙ sym (overlaid_none k origin fast)

pub warm_copied : (image origin fast : Image) (k : ℕ) (cs : List CachedBlock) → k ≡ blocks_each (cache_meaning image).block_size → IsPermutation (hot_blocks (cache_meaning image)) cs
    → IsEachOnce (blocks_each (cache_meaning image).block_size) (hot_blocks (cache_meaning image)) → overlaid k cs origin fast ≡ copied image origin fast
unfolding copied
warm_copied image origin fast k cs same moved once =
    ap (λ (n : ℕ). overlaid n cs origin fast) same ∙ overlaid_in_any_order (blocks_each (cache_meaning image).block_size) (hot_blocks (cache_meaning image)) cs origin fast moved once

-- what hot ones stand for, they stand for in another order
none_any : (k : ℕ) (cs : List CachedBlock) (b : ℕ) → fast_place k cs b ≡ None → list_any (λ c. stands_for k c b) cs ≡ false
unfolding fast_place
none_any k [] b none = refl
none_any k (c ∷ cs) b none = by_first (stands_for k c b) refl none (λ later. none_any k cs b later)
  where
    by_first : (t : Bool) → stands_for k c b ≡ t → cond (stands_for k c b) (Some (given_place k c b)) (fast_place k cs b) ≡ None
        → (fast_place k cs b ≡ None → list_any (λ c. stands_for k c b) cs ≡ false) → (stands_for k c b || list_any (λ c. stands_for k c b) cs) ≡ false
    by_first true first none more = absurd (some_none (rw first at none))
      where
        some_none : Some (given_place k c b) ≡ None → ⊥
        some_none e = cc
    by_first false first none more = rw first (more (rw first at none))

any_none : (k : ℕ) (cs : List CachedBlock) (b : ℕ) → list_any (λ c. stands_for k c b) cs ≡ false → fast_place k cs b ≡ None
unfolding fast_place
any_none k [] b none = refl
any_none k (c ∷ cs) b none =
    let parts = or_parts (stands_for k c b) (list_any (λ c. stands_for k c b) cs) none in
    rw parts.0 (any_none k cs b parts.1)

pub kept_in_any_order : (k : ℕ) (xs ys : List CachedBlock) (base : Image) {old new : DeviceState} → IsPermutation xs ys → LeavesOnly (IsLeftKept k ys base) old new → LeavesOnly (IsLeftKept k xs base) old new
kept_in_any_order k xs ys base moved leaves =
    weaken leaves (λ image firsts kept. record {
      number = kept.number;
      others = λ b none. kept.others b (any_none k ys b (sym (list_any-IsPermutation (λ c. stands_for k c b) xs ys moved) ∙ none_any k xs b none));
    })

-- an origin of which nothing is unsynced
pub kept_here : (k : ℕ) (cs : List CachedBlock) (base : Image) (device : DeviceState) → HoldsSynced base device → LeavesNow (IsLeftKept k cs base) device
kept_here k cs base device synced left firsts leaves =
    let is : left ≡ base = left_synced base left (present_moment base device.history) refl synced.unsynced (left_now device base left firsts synced.held leaves).0 in
    record { number = ap (λ (i : Image). length i) is; others = λ b none. ap (λ (i : Image). slice_get i b) is }

-- the sync after the copying, at Ok or not
pub kept_synced : (k : ℕ) (cs : List CachedBlock) (base : Image) {old mid new : DeviceState} (ok : Bool) → LeavesOnly (IsLeftKept k cs base) old mid
    → IfSome mid.held (λ i. new.history ≡ cond ok (after_sync i mid.history) mid.history) → new.held ≡ mid.held → LeavesOnly (IsLeftKept k cs base) old new
kept_synced k cs base {old} {mid} {new} ok so_far crash same =
    and_then so_far (syncs ok crash same so_far.now (λ i held. so_far.now i mid.history.firsts (left_held mid i held)))

-- what was copied is on the origin after a sync
pub copied_synced : (k : ℕ) (cs : List CachedBlock) (fast old : Option Image) (mid new : DeviceState)
    → IfSome fast (λ held. IfSome old (λ o. mid.held ≡ Some (overlaid k cs o held))) → IfSome mid.held (λ i. new.history ≡ after_sync i mid.history) → new.held ≡ mid.held
    → IfSome fast (λ held. (o : Image) → old ≡ Some o → HoldsSynced (overlaid k cs o held) new)
copied_synced k cs None old mid new overlaid_is crash same = tt
copied_synced k cs (Some fast) old mid new overlaid_is crash same = λ o is.
    synced_now mid new (overlaid k cs o fast) (at_some old (λ (i : Image). mid.held ≡ Some (overlaid k cs i fast)) o is overlaid_is) crash same

-- what is found
abbrev pub hot_in : Option Image → List CachedBlock
hot_in held = option_map_or (λ image. hot_blocks (cache_meaning image)) held []

pub found_of : (image : Image) (s : CacheFields) (hot : List CachedBlock) → s ≡ cache_fields (block_at image 0) → GivesCache image
    → hot ≡ hot_rows (is_clean s) (rows_below image s) → hot ≡ hot_blocks (cache_meaning image)
unfolding cache_meaning
found_of image s hot of gives known =
    let clean : (cache_meaning image).clean ≡ is_clean s = ap is_clean (sym of) in
    known ∙ hot_of_meaning (cache_meaning image) (is_clean s) (rows_below image s) clean (gives.entries ∙ ap (λ (f : CacheFields). map entry_of (rows_below image f)) (sym of))

pub size_of : (image : Image) (s : CacheFields) → s ≡ cache_fields (block_at image 0) → s.block_size ≡ (cache_meaning image).block_size
unfolding cache_meaning
size_of image s of = ap (λ (f : CacheFields). f.block_size) of

-- with nothing hot the origin is the copied one
pub cold_told : (image : Image) → hot_blocks (cache_meaning image) ≡ [] → (fast : Option Image) (origin : DeviceState)
    → IfSome fast (λ held. (old : Image) → HoldsSynced old origin → HoldsSynced (copied image old held) origin)
cold_told image none None origin = tt
cold_told image none (Some held) origin = λ old synced. subst (λ (i : Image). HoldsSynced i origin) (sym (cold_copied image old held none)) synced

-- the marking of a plan's places is the settled image
pub plan_settles : (image : Image) (plan : Plan) (places super : List ℕ) → IsPlanOf image plan → places ≡ plan.places.items → super ≡ plan.super_block.value.0 → 1 ≤ length image
    → (length plan.hot.items ≡ 0 → ⊥) → marked_image plan.version places super image ≡ settled image
plan_settles image plan places super of same of_super some hot =
    marked_is_settled image places plan.version super plan.meta_blocks (subst (λ (ps : List ℕ). ArePlaces plan.meta_blocks ps) (sym same) plan.are_places) some of.version (of_super ∙ of.super_block)
    (λ b. ap (λ (ps : List ℕ). list_any (λ place. nat_eq place b) ps) same ∙ of.places b)
    (warm (hot_blocks (cache_meaning image)) plan.hot.items of.hot hot)

-- where the plan's places all say already that nothing is dirty, nothing is to change, and there alone
pub marked_plan : (image : Image) (plan : Plan) (places : List ℕ) → IsPlanOf image plan → places ≡ plan.places.items → are_settled plan.version image places ≡ true → settled image ≡ image
marked_plan image plan places of same all =
    same_if_settled image places plan.version of.version (λ b. ap (λ (ps : List ℕ). list_any (λ place. nat_eq place b) ps) same ∙ of.places b) all

pub unmarked_plan : (image : Image) (plan : Plan) (places : List ℕ) → IsPlanOf image plan → places ≡ plan.places.items → length image ≡ plan.meta_blocks → HasBytes image → HasWholeBlocks image
    → (length plan.hot.items ≡ 0 → ⊥) → settled image ≡ image → are_settled plan.version image places ≡ true
unmarked_plan image plan places of same number bytes whole hot unchanged =
    settled_if_same image places plan.version of.version (λ b. ap (λ (ps : List ℕ). list_any (λ place. nat_eq place b) ps) same ∙ of.places b)
    plan.meta_blocks (subst (λ (ps : List ℕ). ArePlaces plan.meta_blocks ps) (sym same) plan.are_places) number bytes whole
    (warm (hot_blocks (cache_meaning image)) plan.hot.items of.hot hot) unchanged

-- What a plan is made of.

-- what is found, where a superblock was read
module _ (gives : (image : Image) → HasBytes image → faults Cache stages.Whole image ≡ [] → GivesCache image) (super : List ℕ) (s : CacheFields) (of : s ≡ cache_fields super) where
  abbrev Sound : Image → Type 0
  Sound image = (faults Cache stages.Whole image ≡ []) × (super ≡ block_at image 0)

  fields_of : (image : Image) → super ≡ block_at image 0 → s ≡ cache_fields (block_at image 0)
  fields_of image same = of ∙ ap cache_fields same

  pub found_size : (held : Option Image) → IfSome held Sound → IsFound held s.block_size (hot_in held)
  found_size None sound = record { told = tt }
  found_size (Some image) sound = record { told = (size_of image s (fields_of image sound.1), refl) }

  module _ (hot : List CachedBlock) where
    hot_of : (image : Image) → HasBytes image → Sound image → hot ≡ hot_rows (is_clean s) (rows_below image s) → hot ≡ hot_blocks (cache_meaning image)
    hot_of image bytes sound known = found_of image s hot (fields_of image sound.1) (gives image bytes sound.0) known

    pub found_in : (held : Option Image) → IfSome held HasBytes → IfSome held Sound
        → IfSome held (λ image. hot ≡ hot_rows (is_clean s) (rows_below image s)) → IsFound held s.block_size hot
    found_in None bytes sound known = record { told = tt }
    found_in (Some image) bytes sound known = record { told = (size_of image s (fields_of image sound.1), hot_of image bytes sound known) }

    -- what a plan of it has
    pub record HasParts (places : List ℕ) (image : Image) : Type 0 where
      pub super_block : super ≡ block_at image 0
      pub version : s.version ≡ (cache_fields (block_at image 0)).version
      pub each : blocks_each s.block_size ≡ blocks_each (cache_meaning image).block_size
      pub hot_is : hot ≡ hot_blocks (cache_meaning image)
      pub named : (b : ℕ) → list_any (λ place. nat_eq place b) places ≡ list_any (λ place. nat_eq place b) (dirty_places image)

    pub parts_in : ((image : Image) (b : ℕ) → faults Cache stages.Whole image ≡ []
        → list_any (λ place. nat_eq place b) (places_named (room_of (length image)) (tree_names image (dirty_root (cache_fields (block_at image 0)))))
        ≡ list_any (λ place. nat_eq place b) (dirty_places image))
        → (places : List ℕ) (blocks : ℕ) (held : Option Image) → IfSome held HasBytes → IfSome held (λ i. length i ≡ blocks) → IfSome held Sound
        → IfSome held (λ image. hot ≡ hot_rows (is_clean s) (rows_below image s))
        → IfSome held (λ image. places ≡ places_named (room_of blocks) (tree_names image (dirty_root s)))
        → IfSome held (HasParts places)
    parts_in law places blocks None bytes number sound known named = tt
    parts_in law places blocks (Some image) bytes number sound known named =
        let fields = fields_of image sound.1 in
        record {
          super_block = sound.1;
          version = ap (λ (f : CacheFields). f.version) fields;
          each = ap blocks_each (size_of image s fields);
          hot_is = hot_of image bytes sound known;
          named = λ b.
              ap (λ (ps : List ℕ). list_any (λ place. nat_eq place b) ps)
              (named ∙ (ap (λ (n : ℕ). places_named (room_of n) (tree_names image (dirty_root s))) (sym number) ∙ ap (λ (f : CacheFields). places_named (room_of (length image)) (tree_names image (dirty_root f))) fields))
              ∙ law image b sound.0;
        }

-- there is no room
pub no_room : (held : Option Image) (origin fast block_size : ℕ) (hot : List CachedBlock) (fault : WriteFault) → IsFound held block_size hot → is_block_size_bad block_size ≡ false
    → LacksRoom (blocks_each block_size) hot fast origin fault → IsUnplanned held origin fast fault
no_room held origin fast block_size hot Memory found whole lacks = tt
no_room held origin fast block_size hot Meta found whole lacks = tt
no_room held origin fast block_size hot Origin found whole lacks = lacks
no_room held origin fast block_size hot Fast found whole lacks = lacks
no_room held origin fast block_size hot BlockSize found whole lacks = absurd lacks
no_room held origin fast block_size hot (NoRoom need blocks) found whole lacks = (block_size, hot, record { found = found; whole = whole; lacks = lacks })

-- no sound cache has no blocks
if_clean : HasCleanSuper (cache_checked []) [] → ⊥
unfolding cache_checked
if_clean clean = clean

some_block : faults Cache stages.Whole [] ≡ [] → ⊥
unfolding faults
some_block none = if_clean (clean_super_where_none (cache_checked []) [] (stages.Walk ∷ stages.Order ∷ stages.Whole ∷ []) none)

pub no_blocks : (held : Option Image) (blocks : ℕ) → blocks ≡ 0 → IfSome held (λ i. length i ≡ blocks) → IfSome held (λ image. faults Cache stages.Whole image ≡ [])
    → (block_size : ℕ) × (hot : List CachedBlock) × HasBadSize held block_size hot
no_blocks None blocks none number sound = (0, [], record { found = record { told = tt }; bad = refl })
no_blocks (Some []) blocks none number sound = absurd (some_block sound)
no_blocks (Some (block ∷ image)) blocks none number sound = absurd (omega arith)

-- the greatest of some numbers is at least each
pub greatest_start : (a : ℕ) (xs : List ℕ) → a ≤ fold max a xs
greatest_start a [] = omega arith
greatest_start a (x ∷ xs) = let more = greatest_start (max a x) xs in omega arith

greatest : (a : ℕ) (xs : List ℕ) (i : ℕ) → i < length xs → get_or xs i 0 ≤ fold max a xs
greatest a [] i within = absurd (omega arith)
greatest a (x ∷ xs) zero within = let more = greatest_start (max a x) xs in omega arith
greatest a (x ∷ xs) (suc i) within = let within' : i < length xs = omega arith in greatest (max a x) xs i within'

-- so each hot block fits
pub all_fit : (k fast origin : ℕ) (hot : List HotBlock) → HasRoom k (cached_all hot) fast origin → AllFit k fast origin hot
all_fit k fast origin hot room i d within =
    let inside : i < length (cached_all hot) = rw (length-map hot cached_of_hot) within in
    let on_fast : List ℕ = map (λ (c : CachedBlock). (c.cache_block + 1) * k) (cached_all hot) in
    let on_origin : List ℕ = map (λ (c : CachedBlock). c.origin_block * k + 1) (cached_all hot) in
    let one = get_or-map cached_of_hot hot i d (cached_of_hot d) within in
    let fast_at : get_or on_fast i 0 ≡ ((get_or hot i d).cache_block + 1) * k =
    get_or-map (λ (c : CachedBlock). (c.cache_block + 1) * k) (cached_all hot) i (cached_of_hot d) 0 inside ∙ ap (λ (c : CachedBlock). (c.cache_block + 1) * k) one in
    let origin_at : get_or on_origin i 0 ≡ (get_or hot i d).origin_block * k + 1 =
    get_or-map (λ (c : CachedBlock). c.origin_block * k + 1) (cached_all hot) i (cached_of_hot d) 0 inside ∙ ap (λ (c : CachedBlock). c.origin_block * k + 1) one in
    let most_fast = greatest 0 on_fast i (rw (length-map (cached_all hot) (λ (c : CachedBlock). (c.cache_block + 1) * k)) inside) in
    let most_origin = greatest 0 on_origin i (rw (length-map (cached_all hot) (λ (c : CachedBlock). c.origin_block * k + 1)) inside) in
    record { on_fast = at_most (sym fast_at) most_fast room.on_fast; on_origin = at_most (sym origin_at) most_origin room.on_origin }
  where
    at_most : {x y z most : ℕ} → x ≡ y → y ≤ z → z ≤ most → x ≤ most
    at_most same less few = omega arith

pub sorted_fit : (k fast origin : ℕ) (old new : List HotBlock) → IsPermutation old new → HasRoom k (cached_all old) fast origin → AllFit k fast origin new
sorted_fit k fast origin old new moved room = All-permutation (Fits k fast origin) old new moved (all_fit k fast origin old room)
