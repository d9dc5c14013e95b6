-- The pool whose data blocks were moved is lawful, and its runs and moves fit.
use Rattle.std.proofs.Common.{◌≡◌, ℕ, suc, ◌+◌, ◌<◌, ◌≤◌, get_or, List, [], ◌∷◌, ◌++◌, length, map, take, drop, drop-cons, add-one, ap, sym, subst, ◌∙◌, arith, append_assoc, length-drop, inl, inr, zero, ◌^◌, Bool, true, ◌&&◌, nat_eq, nat_le, filter, refl, ap₂, le_refl, le_trans}
use Rattle.std.specs.List.{AllByRecursion, list_any, range_with_len}
use Rattle.std.specs.Prelude.{sum_by}
use Rattle.std.proofs.lemmas.List.{drop-append-le, length-append, map-append, nil_from_length, take-append-le, take_all, take-append-drop}
use Rattle.std.proofs.lemmas.List.Sums.{sum_by-append, sum_by-cons}
use Rattle.std.proofs.lemmas.Bool.{and_parts, cases_Bool, leb-true}
use Rattle.pd_kinds.specs.Meaning.{Mapping, ThinDevice, ThinPool}
use Rattle.pd_kinds.proofs.ListLemmas.{all_append}
use Rattle.pd_grammar.specs.Lawful.{AreDevices, AreMappings, IsLawfulPool}
use Rattle.pd_grammar.specs.Need.{mapped_data}
use Rattle.pd_grammar.specs.ThinText.{device_of_part, mappings_from}
use Rattle.pd_answers.specs.Shrinks.{Move, moved_device, moved_mapping, moved_pool, moves_to, sources}
use Rattle.pd_meaning_thin.specs.declared.joined.Run.{Run}
use Rattle.pd_restore.proofs.SavedNeedLemmas.{after_run}
use Rattle.pd_salvage.specs.Gather.{mappings_of_runs}
use Rattle.pd_salvage.specs.declared.saved.SavedDevice.{SavedDevice}
use Rattle.pd_salvage.specs.declared.saved.SavedHead.{SavedHead}
use Rattle.pd_salvage.specs.Saved.{IsJoined, IsSavedPool, SavedPool, part_of, parts_of, pool_of, runs_of_devices}
use Rattle.pd_laws_changed.specs.KnownPool.{AreBelow, Ascend, IsMoving}
use Rattle.pd_laws_changed.proofs.FreeBlocks.{kept_ascend}
use Rattle.pd_shrink.specs.Moves.{AddsPart, AreJoined, FitsRun, moved_mappings, split_mappings, split_runs, AreMoved, AreMovesFrom, AreMovesOf, bare_device, head_to, runs_of_device}
use Rattle.pd_shrink.proofs.MovingLemmas.{left_fit}

-- Parts of a pool with their runs, whose data blocks are moved one part after another.

-- what a loop over parts keeps: those that were moved and those that are left are all
pub record MovesParts {T K : Type 0} (count : T → ℕ) (says : T → K) (moves : List Move) (all : List T) (all_runs : List Run) (parts : List T) (runs : List Run) (made : List T) (given : List Run) : Type 0 where
  pub same : map says made ++ map says parts ≡ map says all
  pub moved : split_mappings count made given ++ moved_mappings moves (split_mappings count parts runs) ≡ moved_mappings moves (split_mappings count all all_runs)
  pub joined : AllByRecursion AreJoined (split_runs count made given)
  pub number : sum_by count made ≡ length given
  pub left : sum_by count parts ≡ length runs
  pub fits : AllByRecursion FitsRun runs

module _ {T K : Type 0} (count : T → ℕ) (says : T → K) where
  -- the runs behind those of the first part are those of the others
  pub parts_rest : (x : T) (xs : List T) (runs : List Run) → sum_by count (x ∷ xs) ≡ length runs → sum_by count xs ≡ length (drop (count x) runs)
  parts_rest x xs runs number = omega (arith, number, sum_by-cons count x xs, length-drop (count x) runs)

  -- the runs by parts, with one part more
  split_more : (made : List T) (y : T) (given more : List Run) → sum_by count made ≡ length given → count y ≡ length more
      → split_runs count (made ++ y ∷ []) (given ++ more) ≡ split_runs count made given ++ more ∷ []
  split_more [] y given more number size =
      rw (nil_from_length given (sym number)) (ap (λ (runs : List Run). runs ∷ []) (take_all (count y) more (let all : length more ≤ count y = omega arith in all)))
  split_more (x ∷ made) y given more number size =
      let whole = sum_by-cons count x made in
      let first : count x ≤ length given = omega arith in
      rw (take-append-le (count x) given more first, drop-append-le (count x) given more first)
      (ap (λ (parts : List (List Run)). take (count x) given ∷ parts) (split_more made y (drop (count x) given) more (parts_rest x made given number) size))

module _ {T K : Type 0} (count : T → ℕ) (says : T → K) (moves : List Move) (all : List T) (all_runs : List Run) where
  -- one part more
  module _ (x : T) (xs : List T) (runs : List Run) (made made' : List T) (given given' : List Run) (is : MovesParts count says moves all all_runs (x ∷ xs) runs made given)
      (adds : AddsPart count says moves x (take (count x) runs) made given made' given') where
    abbrev rest : List (List Mapping)
    rest = moved_mappings moves (split_mappings count xs (drop (count x) runs))

    parts_are : split_runs count made' given' ≡ split_runs count made given ++ adds.given ∷ []
    parts_are = rw (adds.parts_are, adds.runs_are) (split_more count says made adds.made given adds.given is.number adds.number)

    numbers : length (given ++ adds.given) ≡ length given + length adds.given → sum_by count made + sum_by count (adds.made ∷ []) ≡ length (given ++ adds.given)
    numbers both = let before = is.number in let one = adds.number in let alone = sum_by-cons count adds.made [] in omega arith

    moves_part : MovesParts count says moves all all_runs xs (drop (count x) runs) made' given'
    moves_part = record {
      same =
          ap (λ (ys : List T). map says ys ++ map says xs) adds.parts_are
          ∙ (ap (λ (ks : List K). ks ++ map says xs) (map-append says made (adds.made ∷ []))
          ∙ (append_assoc (map says made) (says adds.made ∷ []) (map says xs)
          ∙ (ap (λ (k : K). map says made ++ k ∷ map says xs) adds.same ∙ is.same)));
      moved =
          ap (λ (parts : List (List Run)). map mappings_of_runs parts ++ rest) parts_are
          ∙ (ap (λ (parts : List (List Mapping)). parts ++ rest) (map-append mappings_of_runs (split_runs count made given) (adds.given ∷ []))
          ∙ (append_assoc (split_mappings count made given) (mappings_of_runs adds.given ∷ []) rest
          ∙ (ap (λ (ms : List Mapping). split_mappings count made given ++ ms ∷ rest) adds.moved ∙ is.moved)));
      joined = subst (AllByRecursion AreJoined) (sym parts_are) (all_append AreJoined (split_runs count made given) (adds.given ∷ []) is.joined (adds.joined, tt));
      number = rw (adds.parts_are, adds.runs_are) (sum_by-append count made (adds.made ∷ []) ∙ numbers (length-append given adds.given));
      left = parts_rest count says x xs runs is.left;
      fits = left_fit (count x) runs is.fits;
    }

  pub parts_next : (i : ℕ) (d : T) (runs mine later : List Run) (made made' : List T) (given given' : List Run) → i < length all
      → MovesParts count says moves all all_runs (drop i all) runs made given → mine ≡ take (count (get_or all i d)) runs → later ≡ drop (count (get_or all i d)) runs
      → AddsPart count says moves (get_or all i d) mine made given made' given' → MovesParts count says moves all all_runs (drop (i + 1) all) later made' given'
  parts_next i d runs mine later made made' given given' within is mine_is later_is adds =
      let there = drop-cons all i d within in
      let now = rw there at is in
      let added = rw mine_is at adds in
      rw (later_is, add-one i) (moves_part (get_or all i d) (drop (suc i) all) runs made made' given given' now added)

-- what is kept of a range ascends from a number that all of it have passed
kept_past : (test : ℕ → Bool) (least a n : ℕ) → ((d : ℕ) → test d ≡ true → least ≤ d) → Ascend least (filter test (range_with_len a n))
kept_past test least a zero past = tt
kept_past test least a (suc n) past = elim (cases_Bool (test a)) [
  | inl kept ↦ rw kept (past a kept, kept_ascend test (a + 1) (a + 1) n (le_refl (a + 1)))
  | inr missed ↦ rw missed (kept_past test least (a + 1) n past)
]

pub sources_from : (m : ThinPool) (end : ℕ) → Ascend end (sources m end)
unfolding sources
sources_from m end =
    kept_past (λ d. nat_le end d && list_any (λ b. nat_eq b d) (mapped_data m)) end 0 m.data_blocks
    (λ d passes. leb-true end d (and_parts (nat_le end d) (list_any (λ b. nat_eq b d) (mapped_data m)) passes).0)

-- the moves of ascending sources
moves_ordered : (top end least : ℕ) (ds free : List ℕ) → end ≤ top → Ascend least ds → AreBelow end free → AreMovesFrom top least (moves_to ds free)
moves_ordered top end least [] free most ascend below = tt
moves_ordered top end least (d ∷ ds) [] most ascend below = tt
moves_ordered top end least (d ∷ ds) (b ∷ free) most ascend below =
    let first = below.0 in
    (record { from = ascend.0; below = omega arith }, moves_ordered top end (d + 1) ds free most ascend.1 below.1)

-- a run of a lawful device
run_fits : (blocks least v d t n : ℕ) (rest : List Mapping) → AreMappings blocks least (mappings_from v d t n ++ rest) → 1 ≤ n → (v + n ≤ 2 ^ 64) × (d + n ≤ blocks)
run_fits blocks least v d t zero rest are some = absurd (omega arith)
run_fits blocks least v d t (suc zero) rest are some =
    let virtual = are.0.virtual_fits in
    let first = are.0.within in
    (omega arith, omega arith)
run_fits blocks least v d t (suc (suc n)) rest are some =
    let later = run_fits blocks (v + 1) (suc v) (suc d) t (suc n) rest are.1 (omega arith) in
    let virtual = later.0 in
    let last = later.1 in
    (omega arith, omega arith)

pub part_fits : (blocks least : ℕ) (runs : List Run) → blocks ≤ 2 ^ 40 → AreMappings blocks least (mappings_of_runs runs) → AllByRecursion FitsRun runs
part_fits blocks least [] few are = tt
part_fits blocks least (r ∷ runs) few are =
    let later = after_run blocks least r.virt r.target r.time r.length (mappings_of_runs runs) are in
    let fits = run_fits blocks least r.virt r.target r.time r.length (mappings_of_runs runs) are in
    (record { virtual = λ some. (fits some).0; target = λ some. le_trans (fits some).1 few }, part_fits blocks later.0 runs few later.1)

parts_fit : (blocks least : ℕ) (ds : List SavedDevice) (runs : List Run) → blocks ≤ 2 ^ 40 → AreDevices blocks least (map device_of_part (parts_of ds runs))
    → runs_of_devices ds ≡ length runs → AllByRecursion FitsRun runs
parts_fit blocks least [] runs few are number = rw (nil_from_length runs (sym number)) tt
parts_fit blocks least (d ∷ ds) runs few are number =
    subst (AllByRecursion FitsRun) (take-append-drop d.runs runs)
    (all_append FitsRun (take d.runs runs) (drop d.runs runs) (part_fits blocks 0 (take d.runs runs) few are.0.mappings)
    (parts_fit blocks (d.id + 1) ds (drop d.runs runs) few are.1 (parts_rest runs_of_device bare_device d ds runs number)))

-- devices by what they say beside their runs, and by their mappings
abbrev with_mappings : ThinDevice → List Mapping → ThinDevice
with_mappings d ms = record { id = d.id; mapped = d.mapped; transaction = d.transaction; created = d.created; snapped = d.snapped; mappings = ms }

abbrev devices_by : List ThinDevice → List (List Mapping) → List ThinDevice
devices_by [] parts = []
devices_by (d ∷ ds) [] = []
devices_by (d ∷ ds) (ms ∷ parts) = with_mappings d ms ∷ devices_by ds parts

devices_split : (ds : List SavedDevice) (runs : List Run) → map device_of_part (parts_of ds runs) ≡ devices_by (map bare_device ds) (split_mappings runs_of_device ds runs)
devices_split [] runs = refl
devices_split (d ∷ ds) runs = ap (λ (xs : List ThinDevice). device_of_part (part_of d (take d.runs runs)) ∷ xs) (devices_split ds (drop d.runs runs))

devices_moved : (moves : List Move) (ds : List ThinDevice) (parts : List (List Mapping)) → devices_by ds (moved_mappings moves parts) ≡ map (moved_device moves) (devices_by ds parts)
devices_moved moves [] parts = refl
devices_moved moves (d ∷ ds) [] = refl
devices_moved moves (d ∷ ds) (ms ∷ parts) = ap (λ (xs : List ThinDevice). with_mappings d (map (moved_mapping moves) ms) ∷ xs) (devices_moved moves ds parts)

devices_joined : (ds : List SavedDevice) (runs : List Run) → AllByRecursion AreJoined (split_runs runs_of_device ds runs) → AllByRecursion IsJoined (parts_of ds runs)
devices_joined [] runs joined = tt
devices_joined (d ∷ ds) runs joined = (joined.0, devices_joined ds (drop d.runs runs) joined.1)

-- a pool with this head
abbrev pool_with : SavedHead → List ThinDevice → ThinPool
pool_with head ds = record { uuid = head.uuid; time = head.time; transaction = head.transaction; block_size = head.block_size; data_blocks = head.blocks; devices = ds }

-- the moves of a lawful pool
pub moves_are_ordered : (m : ThinPool) → IsLawfulPool m → (end : ℕ) (moves : List Move) → AreMovesOf m end moves → AreMovesFrom (2 ^ 40) end moves
moves_are_ordered m lawful end moves are =
    subst (AreMovesFrom (2 ^ 40) end) (sym are.are)
    (moves_ordered (2 ^ 40) end end (sources m end) are.free (le_trans are.moving.end_within lawful.data_blocks_fit) (sources_from m end) are.moving.below)

module _ (saved : SavedPool) (sound : IsSavedPool saved) (end : ℕ) (moves : List Move) (are : AreMovesOf (pool_of saved) end moves) where
  pub runs_fit : AllByRecursion FitsRun saved.runs
  unfolding pool_of
  runs_fit = parts_fit saved.head.blocks 0 saved.devices saved.runs sound.lawful.data_blocks_fit sound.lawful.devices sound.number

  -- the moved devices and runs are those of the smaller pool
  module _ (head : SavedHead) (devices : List SavedDevice) (runs : List Run) (head_is : head ≡ head_to saved.head end)
      (is : AreMoved runs_of_device bare_device moves saved.devices saved.runs devices runs) where
    abbrev after : SavedPool
    after = record { head = head; devices = devices; runs = runs }

    pub pool_after : pool_of after ≡ moved_pool (pool_of saved) end moves
    unfolding pool_of moved_pool
    pool_after =
        ap (λ (first : SavedHead). pool_with first (map device_of_part (parts_of devices runs))) head_is
        ∙ ap (pool_with (head_to saved.head end))
        (devices_split devices runs
        ∙ (ap₂ devices_by is.same is.moved
        ∙ (devices_moved moves (map bare_device saved.devices) (split_mappings runs_of_device saved.devices saved.runs)
        ∙ ap (map (moved_device moves)) (sym (devices_split saved.devices saved.runs)))))

    pub after_sound : ((m : ThinPool) (end : ℕ) (free : List ℕ) → IsLawfulPool m → IsMoving m end free → IsLawfulPool (moved_pool m end (moves_to (sources m end) free))) → IsSavedPool after
    after_sound law = record {
      lawful =
          subst IsLawfulPool (sym pool_after)
          (subst (λ (xs : List Move). IsLawfulPool (moved_pool (pool_of saved) end xs)) (sym are.are) (law (pool_of saved) end are.free sound.lawful are.moving));
      joined = devices_joined devices runs is.joined;
      number = is.number;
    }
