-- What a saved pool needs, by its devices and runs.
use Rattle.std.proofs.Common.{◌≡◌, ℕ, ◌+◌, Bool, cond, leb, eqb, min, List, [], ◌∷◌, ◌++◌, refl, sym, ◌∙◌, ap, append_assoc, arith, zero, suc, ◌-◌, ◌^◌, ◌<◌, ◌≤◌, length, map, take, drop, subst, length-drop}
use Rattle.std.specs.List.{count_by, range_with_len, AllByRecursion, flat_map}
use Rattle.std.proofs.lemmas.Bool.Decides.{nat_tests}
use Rattle.std.proofs.lemmas.List.FromFn.{map-range_with_len_more}
use Rattle.std.proofs.lemmas.List.{map-id, append-nil, map-append, nil_from_length, take-append-drop}
use Rattle.std.proofs.lemmas.List.Sums.{sum_by-cons}
use Rattle.std.proofs.lemmas.Grind.{flat_map-append}
use Rattle.pd_kinds.specs.Meaning.{Mapping, ThinDevice}
use Rattle.pd_grammar.specs.Need.{overflows_in, mapped_data, need_of_devices, thin_need}
use Rattle.pd_grammar.proofs.NeedLemmas.{count_of as times, devices-le}
use Rattle.pd_grammar.specs.Lawful.{AreMappings, AreDevices}
use Rattle.pd_grammar.specs.ThinText.{HasMappings, Run, device_of_part, mappings_from, mappings_of}
use Rattle.pd_count.specs.Counted.{Counted, count_of}
use Rattle.pd_meaning_thin.specs.declared.joined.Run.{Run as SavedRun}
use Rattle.pd_meaning_thin.specs.Runs.{spelled}
use Rattle.pd_devices.specs.Counts.{overflows_of}
use Rattle.pd_devices.proofs.GrowthLemmas.{run_data}
use Rattle.pd_restore.specs.ShapeNeed.{HasCountedThrice, IsRunIn, data_of_runs}
use Rattle.pd_restore.proofs.SavedTextLemmas.{have_mappings}
use Rattle.pd_salvage.specs.declared.saved.SavedDevice.{SavedDevice}
use Rattle.pd_salvage.specs.declared.saved.SavedHead.{SavedHead}
use Rattle.pd_salvage.specs.Saved.{IsSavedPool, SavedPool, parts_of, pool_of, runs_of_devices}

-- Counting up to three.

-- a row with one block more
pub row_more : (first n : ℕ) (before : List ℕ) → (before ++ range_with_len first n) ++ (first + n) ∷ [] ≡ before ++ range_with_len first (n + 1)
row_more first n before =
    append_assoc before (range_with_len first n) ((first + n) ∷ []) ∙ ap (λ (row : List ℕ). before ++ row) (sym (more first n))
  where
    more : (first n : ℕ) → range_with_len first (n + 1) ≡ range_with_len first n ++ (first + n) ∷ []
    more first n =
        sym (map-id (range_with_len first (n + 1))) ∙ (map-range_with_len_more (λ r. r) first n (first + n) refl
        ∙ ap (λ (row : List ℕ). row ++ (first + n) ∷ []) (map-id (range_with_len first n)))

-- tests that say the same
same_tests : (p q : ℕ → Bool) (xs : List ℕ) → ((d : ℕ) → p d ≡ q d) → count_by p xs ≡ count_by q xs
same_tests p q [] same = refl
same_tests p q (x ∷ xs) same =
    sum_by-cons (λ (d : ℕ). cond (p d) 1 0) x xs
    ∙ (ap (λ (t : Bool). cond t 1 0 + count_by p xs) (same x) ∙ ap (λ (k : ℕ). cond (q x) 1 0 + k) (same_tests p q xs same))
    ∙ sym (sum_by-cons (λ (d : ℕ). cond (q d) 1 0) x xs)

at_three : (n m : ℕ) → n ≡ min m 3 → leb 3 n ≡ leb 3 m
at_three n m is = grind (arith, nat_tests)

-- counted up to three, those of three are the same
pub over_listed : (counts : Counted) (blocks : List ℕ) (n : ℕ) → HasCountedThrice counts blocks → overflows_of counts n ≡ overflows_in blocks n
unfolding overflows_of overflows_in
over_listed counts blocks n counted =
    same_tests (λ d. leb 3 (count_of counts d)) (λ d. leb 3 (count_by (λ b. eqb b d) blocks)) (range_with_len 0 n)
    (λ d. at_three (count_of counts d) (times d blocks) (counted d))

-- a run's data blocks are in the pool
run_within : (blocks least v d t n : ℕ) (rest : List Mapping) → AreMappings blocks least (mappings_from v d t n ++ rest) → 1 ≤ n → d + n ≤ blocks
run_within blocks least v d t zero rest are some = absurd (omega arith)
run_within blocks least v d t (suc zero) rest are some = let first = are.0 in omega arith
run_within blocks least v d t (suc (suc n)) rest are some =
    let later = run_within blocks (v + 1) (suc v) (suc d) t (suc n) rest are.1 (omega arith) in omega arith

pub after_run : (blocks least v d t n : ℕ) (rest : List Mapping) → AreMappings blocks least (mappings_from v d t n ++ rest) → (next : ℕ) × AreMappings blocks next rest
after_run blocks least v d t zero rest are = (least, are)
after_run blocks least v d t (suc n) rest are = after_run blocks (v + 1) (suc v) (suc d) t n rest are.1

abbrev pub IsWithin : ℕ → SavedRun → Type 0
IsWithin blocks r = r.target + r.length ≤ blocks

-- and its time has 24 bits
run_timed : (blocks least v d t n : ℕ) (rest : List Mapping) → AreMappings blocks least (mappings_from v d t n ++ rest) → 1 ≤ n → t < 2 ^ 24
run_timed blocks least v d t zero rest are some = absurd (omega arith)
run_timed blocks least v d t (suc n) rest are some = are.0.time_fits

pub part_within : (blocks least : ℕ) (runs : List SavedRun) → AreMappings blocks least (flat_map mappings_of (map spelled runs))
    → AllByRecursion (λ (r : Run). 1 ≤ r.length) (map spelled runs) → AllByRecursion (IsRunIn blocks) runs
part_within blocks least [] are some = tt
part_within blocks least (r ∷ runs) are some =
    let others = flat_map mappings_of (map spelled runs) in
    let later = after_run blocks least r.virt r.target r.time r.length others are in (
      record {
        within = run_within blocks least r.virt r.target r.time r.length others are some.0;
        timed = run_timed blocks least r.virt r.target r.time r.length others are some.0;
      },
      part_within blocks later.0 runs later.1 some.1,
    )

pub all_append : {A : Type 0} (P : A → Type 0) (xs ys : List A) → AllByRecursion P xs → AllByRecursion P ys → AllByRecursion P (xs ++ ys)
all_append P [] ys first second = second
all_append P (x ∷ xs) ys first second = (first.0, all_append P xs ys first.1 second)

-- where only the data blocks are asked for
pub within_all : (blocks : ℕ) (runs : List SavedRun) → AllByRecursion (IsRunIn blocks) runs → AllByRecursion (IsWithin blocks) runs
within_all blocks [] all = tt
within_all blocks (r ∷ runs) all = (all.0.within, within_all blocks runs all.1)

-- the runs behind those of the first device are those of the others
others : (d : SavedDevice) (ds : List SavedDevice) (runs : List SavedRun) → runs_of_devices (d ∷ ds) ≡ length runs → runs_of_devices ds ≡ length (drop d.runs runs)
others d ds runs number = omega (arith, number, sum_by-cons (λ (d : SavedDevice). d.runs) d ds, length-drop d.runs runs)

parts_within : (blocks least : ℕ) (ds : List SavedDevice) (runs : List SavedRun) → AreDevices blocks least (map device_of_part (parts_of ds runs))
    → AllByRecursion HasMappings (parts_of ds runs) → runs_of_devices ds ≡ length runs → AllByRecursion (IsRunIn blocks) runs
parts_within blocks least [] runs are have number = rw (nil_from_length runs (sym number)) tt
parts_within blocks least (d ∷ ds) runs are have number =
    subst (AllByRecursion (IsRunIn blocks)) (take-append-drop d.runs runs)
    (all_append (IsRunIn blocks) (take d.runs runs) (drop d.runs runs) (part_within blocks 0 (take d.runs runs) are.0.mappings have.0)
    (parts_within blocks (d.id + 1) ds (drop d.runs runs) are.1 have.1 (others d ds runs number)))

-- the runs of a saved pool are in it
pub runs_in_pool : (saved : SavedPool) → IsSavedPool saved → AllByRecursion (IsRunIn saved.head.blocks) saved.runs
unfolding pool_of
runs_in_pool saved sound =
    parts_within saved.head.blocks 0 saved.devices saved.runs sound.lawful.devices (have_mappings (parts_of saved.devices saved.runs) sound.joined) sound.number

pub runs_within : (saved : SavedPool) → IsSavedPool saved → AllByRecursion (IsWithin saved.head.blocks) saved.runs
runs_within saved sound = within_all saved.head.blocks saved.runs (runs_in_pool saved sound)

pub part_data : (runs : List SavedRun) → map (λ (x : Mapping). x.data_block) (flat_map mappings_of (map spelled runs)) ≡ data_of_runs runs
part_data [] = refl
part_data (r ∷ runs) =
    map-append (λ (x : Mapping). x.data_block) (mappings_from r.virt r.target r.time r.length) (flat_map mappings_of (map spelled runs))
    ∙ (ap (λ (blocks : List ℕ). blocks ++ map (λ (x : Mapping). x.data_block) (flat_map mappings_of (map spelled runs))) (run_data r.virt r.target r.time r.length)
    ∙ ap (λ (blocks : List ℕ). range_with_len r.target r.length ++ blocks) (part_data runs))

parts_data : (ds : List SavedDevice) (runs : List SavedRun) → runs_of_devices ds ≡ length runs
    → flat_map (λ (d : ThinDevice). map (λ (x : Mapping). x.data_block) d.mappings) (map device_of_part (parts_of ds runs)) ≡ data_of_runs runs
parts_data [] runs number = rw (nil_from_length runs (sym number)) refl
parts_data (d ∷ ds) runs number =
    ap (λ (blocks : List ℕ). blocks ++ flat_map (λ (d : ThinDevice). map (λ (x : Mapping). x.data_block) d.mappings) (map device_of_part (parts_of ds (drop d.runs runs)))) (part_data (take d.runs runs))
    ∙ (ap (λ (blocks : List ℕ). data_of_runs (take d.runs runs) ++ blocks) (parts_data ds (drop d.runs runs) (others d ds runs number))
    ∙ (sym (flat_map-append (λ (r : SavedRun). range_with_len r.target r.length) (take d.runs runs) (drop d.runs runs))
    ∙ ap data_of_runs (take-append-drop d.runs runs)))

-- the data blocks of a saved pool are those of its runs
pub data_is : (saved : SavedPool) → IsSavedPool saved → mapped_data (pool_of saved) ≡ data_of_runs saved.runs
unfolding pool_of
data_is saved sound = parts_data saved.devices saved.runs sound.number

parts_mapped : (ds : List SavedDevice) (runs : List SavedRun) → map (λ (d : ThinDevice). d.mapped) (map device_of_part (parts_of ds runs)) ≡ map (λ (d : SavedDevice). d.details.mapped) ds
parts_mapped [] runs = refl
parts_mapped (d ∷ ds) runs = ap (λ (numbers : List ℕ). d.details.mapped ∷ numbers) (parts_mapped ds (drop d.runs runs))

-- its need, by the mapped numbers of its devices and the data blocks of its runs
pub need_is : (saved : SavedPool) → IsSavedPool saved → (room : ℕ)
    → need_of_devices (map (λ (d : SavedDevice). d.details.mapped) saved.devices) saved.head.blocks (overflows_in (data_of_runs saved.runs) saved.head.blocks) room ≡ thin_need (pool_of saved) room
unfolding pool_of thin_need
need_is saved sound room =
    rw (sym (parts_mapped saved.devices saved.runs), sym (parts_data saved.devices saved.runs sound.number)) refl

-- of some blocks all but these last ones were counted
pub record CountsFirst (counts : Counted) (all rest : List ℕ) : Type 0 where
  pub first : List ℕ
  pub counted : HasCountedThrice counts first
  pub joined : first ++ rest ≡ all

-- some more of them
pub counts_next : (old new : Counted) (all rest more later : List ℕ) (counts : CountsFirst old all rest) → rest ≡ more ++ later
    → HasCountedThrice new (counts.first ++ more) → CountsFirst new all later
counts_next old new all rest more later counts is counted = record {
  first = counts.first ++ more;
  counted = counted;
  joined = append_assoc counts.first more later ∙ (ap (λ (blocks : List ℕ). counts.first ++ blocks) (sym is) ∙ counts.joined);
}

-- all of them
pub counts_all : (counted : Counted) (all rest : List ℕ) → CountsFirst counted all rest → rest ≡ [] → HasCountedThrice counted all
counts_all counted all rest counts none =
    subst (HasCountedThrice counted) (sym (append-nil counts.first) ∙ (ap (λ (blocks : List ℕ). counts.first ++ blocks) (sym none) ∙ counts.joined)) counts.counted

-- where all data blocks were counted
pub over_all : (counts : Counted) (data_blocks : List ℕ) (blocks : ℕ) → counts.size ≡ blocks → HasCountedThrice counts data_blocks → overflows_of counts counts.size ≡ overflows_in data_blocks blocks
over_all counts data_blocks blocks size counted = ap (overflows_of counts) size ∙ over_listed counts data_blocks blocks counted

-- a need that is below the end of its type is the pool's
pub need_exact : (saved : SavedPool) → IsSavedPool saved → (head : SavedHead) (mapped : List ℕ) (over room need : ℕ) → head ≡ saved.head
    → mapped ≡ map (λ (d : SavedDevice). d.details.mapped) saved.devices → over ≡ overflows_in (data_of_runs saved.runs) saved.head.blocks
    → need ≡ min (need_of_devices mapped head.blocks over room) (2 ^ 64 - 1) → need < 2 ^ 64 - 1 → need ≡ thin_need (pool_of saved) room
need_exact saved sound head mapped over room need same numbers thrice is fits =
    below need (need_of_devices mapped head.blocks over room) is fits
    ∙ (rw (same, numbers, thrice) refl ∙ need_is saved sound room)
  where
    below : (n m : ℕ) → n ≡ min m (2 ^ 64 - 1) → n < 2 ^ 64 - 1 → n ≡ m
    below n m is fits = omega arith

-- a pool has room where it would have with more data blocks that stand three times
pub need_fits : (saved : SavedPool) → IsSavedPool saved → (head : SavedHead) (mapped : List ℕ) (over room need : ℕ) → head ≡ saved.head
    → mapped ≡ map (λ (d : SavedDevice). d.details.mapped) saved.devices → overflows_in (data_of_runs saved.runs) saved.head.blocks ≤ over
    → need ≡ min (need_of_devices mapped head.blocks over room) (2 ^ 64 - 1) → need ≤ room → room ≤ 4161600 → thin_need (pool_of saved) room ≤ room
need_fits saved sound head mapped over room need same numbers fewer is fits few =
    let devices = map (λ (d : SavedDevice). d.details.mapped) saved.devices in
    let most : need_of_devices mapped head.blocks over room ≡ need_of_devices devices saved.head.blocks over room = rw (same, numbers) refl in
    let more = devices-le devices devices saved.head.blocks (overflows_in (data_of_runs saved.runs) saved.head.blocks) over room (omega arith) (omega arith) fewer in
    omega (arith, most, more, is, fits, few, need_is saved sound room)
