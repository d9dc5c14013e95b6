-- What is read behind the last run, once more runs stand there.
use Rattle.std.proofs.Common.{◌≡◌, ℕ, ◌+◌, ◌≤◌, List, [], ◌∷◌, ◌++◌, length, get_or, drop, MatchOption, Option, Some, None, refl, sym, ap, ◌∙◌, inl, inr, arith, suc, Bool, true, false, if◌then◌else◌, append_assoc}
use Rattle.std.proofs.lemmas.Bool.{cases_lt}
use Rattle.std.proofs.lemmas.List.{at_drop_all, at_drop_more, drop_all, get_or_past, append-nil}
use Rattle.std.specs.List.{AllByRecursion}
use Rattle.pd_meaning_thin.specs.declared.joined.Run.{Run}
use Rattle.pd_meaning_thin.specs.declared.packed.RunPlace.{RunPlace}
use Rattle.pd_meaning_thin.specs.Packed.{ArePacked, ByteChunks, chunks_of, runs_in, unchunked, last_run, no_run, runs_at, runs_from, unchunked_from, run_at, added, begun, in_order, is_full, no_chunks, with_run, with_runs, IsEnd, FitsRun, packed_run}
use Rattle.pd_meaning_thin.proofs.ChunkLemmas.{unchunked-none, unchunked-one, AllFit-runs_in, Hold, Hold-either, Hold-none, Hold-runs, rest_with, with_runs-append}
use Rattle.pd_meaning_thin.proofs.PackedLemmas.{unpacked-empty, unpacked-next, unpacked-none, Fits-last, last_run-push, no_run-fits}

-- What is left behind a place.

-- ---- chunk by chunk

-- no chunk is left
pub unchunked_from-past : (chunks : List (List ℕ)) (before : Run) (number at : ℕ) → length chunks ≤ number
    → unchunked_from chunks before number at ≡ []
unfolding unchunked_from
unchunked_from-past chunks before number at past =
    ap (λ (chunk : List ℕ). unchunked before (drop at chunk ∷ drop (number + 1) chunks)) (get_or_past chunks number [] past)
    ∙ ap (λ (chunk : List ℕ). unchunked before (chunk ∷ drop (number + 1) chunks)) (drop_all at [] (omega arith))
    ∙ ap (λ (more : List (List ℕ)). unchunked before ([] ∷ more)) (drop_all (number + 1) chunks (omega arith))
    ∙ unchunked-one before []
    ∙ unpacked-empty before

unchunked-drop : (chunks : List (List ℕ)) (before : Run) (number : ℕ)
    → unchunked before (drop number chunks) ≡ unchunked_from chunks before number 0
unfolding unchunked_from
unchunked-drop chunks before number = elim (cases_lt number (length chunks)) [
  | inl within ↦ at_drop_more (unchunked before) chunks number [] within
  | inr past ↦ at_drop_all (unchunked before) chunks number past ∙ unchunked-none before ∙ sym (unchunked_from-past chunks before number 0 past)
]

-- a chunk without a run from this byte on
pub unchunked_from-next : (chunks : List (List ℕ)) (before : Run) (number at : ℕ)
    → run_at before (drop at (get_or chunks number [])) ≡ None
    → unchunked_from chunks before number at ≡ unchunked_from chunks before (number + 1) 0
unfolding unchunked_from unchunked last_run
unchunked_from-next chunks before number at none =
    ap (λ (runs : List Run). runs ++ unchunked (last_run before runs) (drop (number + 1) chunks))
    (unpacked-none before (drop at (get_or chunks number [])) none)
    ∙ unchunked-drop chunks before (number + 1)

-- a run at this byte
pub unchunked_from-run : (chunks : List (List ℕ)) (before run : Run) (number at end : ℕ)
    → run_at before (drop at (get_or chunks number [])) ≡ Some (run, drop end (get_or chunks number []))
    → unchunked_from chunks before number at ≡ run ∷ unchunked_from chunks run number end
unfolding unchunked_from unchunked last_run
unchunked_from-run chunks before run number at end found =
    let chunk = get_or chunks number [] in
    ap (λ (runs : List Run). runs ++ unchunked (last_run before runs) (drop (number + 1) chunks))
    (unpacked-next before (drop at chunk) (run, drop end chunk) found)

unchunked_from-first : (full : List (List ℕ)) (tail : List ℕ)
    → unchunked_from (full ++ tail ∷ []) no_run 0 0 ≡ unchunked no_run (full ++ tail ∷ [])
unfolding unchunked_from
unchunked_from-first [] tail = refl
unchunked_from-first (chunk ∷ full) tail = refl

-- ---- in a list of runs

-- the chunks of the runs that are held
pub chunks_held : (chunks : ByteChunks) (last : Run) (count : ℕ) (runs : List Run) → ArePacked chunks last count
    → runs_in chunks ≡ runs → chunks_of runs ≡ chunks
chunks_held chunks last count runs are is = ap chunks_of (sym is) ∙ are.exact

pub runs_from-held : (chunks : ByteChunks) (runs : List Run) (place : RunPlace) → chunks_of runs ≡ chunks
    → runs_from runs place ≡ runs_at chunks place
unfolding runs_from
runs_from-held chunks runs place held = ap (λ (all : ByteChunks). runs_at all place) held

pub runs_from-first : (chunks : ByteChunks) (runs : List Run) → runs_in chunks ≡ runs → chunks_of runs ≡ chunks
    → runs_from runs (record { chunk = 0; at = 0; before = no_run }) ≡ runs
unfolding runs_in
runs_from-first chunks runs is held =
    runs_from-held chunks runs (record { chunk = 0; at = 0; before = no_run }) held
    ∙ unchunked_from-first chunks.full chunks.tail
    ∙ is

pub runs_from-next : (chunks : ByteChunks) (runs : List Run) (old new : RunPlace) (found : Option Run) → chunks_of runs ≡ chunks
    → MatchOption found ((runs_at chunks old ≡ []) × (new ≡ old)) (λ run. runs_at chunks old ≡ run ∷ runs_at chunks new)
    → MatchOption found ((runs_from runs old ≡ []) × (new ≡ old)) (λ run. runs_from runs old ≡ run ∷ runs_from runs new)
runs_from-next chunks runs old new None held is = (runs_from-held chunks runs old held ∙ is.0, is.1)
runs_from-next chunks runs old new (Some run) held is =
    runs_from-held chunks runs old held
    ∙ is
    ∙ ap (λ (more : List Run). run ∷ more) (sym (runs_from-held chunks runs new held))

-- behind the chunks that are done and the bytes of the open one, chunks begin in the open one
abbrev grafted : List (List ℕ) → List ℕ → List (List ℕ) → List ℕ → ByteChunks
grafted full tail [] last = record { full = full; tail = tail ++ last }
grafted full tail (first ∷ others) last = record { full = full ++ (tail ++ first) ∷ others; tail = last }

abbrev behind : List (List ℕ) → List ℕ → ByteChunks → ByteChunks
behind full tail chunks = grafted full tail chunks.full chunks.tail

begun_behind : (full : List (List ℕ)) (tail : List ℕ) (done : List (List ℕ)) (last : List ℕ) (before run : Run)
    → begun (grafted full tail done last) before run ≡ grafted full tail (done ++ last ∷ []) (packed_run before run)
begun_behind full tail [] last before run = refl
begun_behind full tail (first ∷ others) last before run =
    ap (λ (all : List (List ℕ)). record { full = all; tail = packed_run before run }) (append_assoc full ((tail ++ first) ∷ others) (last ∷ []))

added_behind : (full : List (List ℕ)) (tail : List ℕ) (done : List (List ℕ)) (last : List ℕ) (before run : Run)
    → added (grafted full tail done last) before run ≡ grafted full tail done (last ++ packed_run before run)
added_behind full tail [] last before run =
    ap (λ (bytes : List ℕ). record { full = full; tail = bytes }) (append_assoc tail last (packed_run before run))
added_behind full tail (first ∷ others) last before run = refl

put_behind : (is : Bool) (full : List (List ℕ)) (tail : List ℕ) (chunks : ByteChunks) (before run : Run)
    → (if is then begun (behind full tail chunks) before run else added (behind full tail chunks) before run)
    ≡ behind full tail (if is then begun chunks before run else added chunks before run)
put_behind true full tail chunks before run = begun_behind full tail chunks.full chunks.tail before run
put_behind false full tail chunks before run = added_behind full tail chunks.full chunks.tail before run

-- what stands at the end of bytes, and of chunks
drop_front : {A : Type 0} → (front more : List A) → drop (length front) (front ++ more) ≡ more
drop_front [] more = refl
drop_front (x ∷ front) more = drop_front front more

get_behind : (front : List (List ℕ)) (chunk : List ℕ) (more : List (List ℕ)) → get_or (front ++ chunk ∷ more) (length front) [] ≡ chunk
get_behind [] chunk more = refl
get_behind (x ∷ front) chunk more = get_behind front chunk more

drop_behind : (front : List (List ℕ)) (chunk : List ℕ) (more : List (List ℕ)) → drop (suc (length front)) (front ++ chunk ∷ more) ≡ more
drop_behind [] chunk more = refl
drop_behind (x ∷ front) chunk more = drop_behind front chunk more

module _ (start : Run) (start_fits : FitsRun start) (full : List (List ℕ)) (tail : List ℕ) where
  abbrev read : List (List ℕ) → List Run
  read chunks = unchunked_from chunks start (length full) (length tail)

  read_front : (first : List ℕ) (others : List (List ℕ)) → read (full ++ (tail ++ first) ∷ others) ≡ unchunked start (first ∷ others)
  unfolding unchunked_from
  read_front first others =
      let next : length full + 1 ≡ suc (length full) = omega arith in
      rw (get_behind full (tail ++ first) others, drop_front tail first, next, drop_behind full (tail ++ first) others) refl

  read_behind : (done : List (List ℕ)) (last : List ℕ) → read (in_order (grafted full tail done last)) ≡ unchunked start (done ++ last ∷ [])
  read_behind [] last = read_front last []
  read_behind (first ∷ others) last =
      ap read (append_assoc full ((tail ++ first) ∷ others) (last ∷ [])) ∙ read_front first (others ++ last ∷ [])

  read_runs : (chunks : ByteChunks) (before : Run) (runs rest more : List Run) → last_run start runs ≡ before
      → Hold start chunks runs rest → AllByRecursion FitsRun more → read (in_order (with_runs (behind full tail chunks) before more)) ≡ runs ++ more
  unfolding with_runs with_run
  read_runs chunks before runs rest [] last hold fit =
      read_behind chunks.full chunks.tail ∙ Hold-runs start start_fits chunks runs rest hold ∙ sym (append-nil runs)
  read_runs chunks before runs rest (run ∷ more) last hold fit =
      let is = is_full (behind full tail chunks).tail in
      let next : Hold start (if is then begun chunks before run else added chunks before run) (runs ++ run ∷ []) (rest_with is rest run) =
      rw (← last) (Hold-either start start_fits is chunks runs rest run hold fit.0) in
      ap (λ (held : ByteChunks). read (in_order (with_runs held run more))) (put_behind is full tail chunks before run)
      ∙ read_runs (if is then begun chunks before run else added chunks before run) run (runs ++ run ∷ []) (rest_with is rest run) more
      (last_run-push start runs run) next fit.1
      ∙ append_assoc runs (run ∷ []) more

-- runs that are held fit
pub all_fit : (chunks : ByteChunks) (runs : List Run) → runs_in chunks ≡ runs → AllByRecursion FitsRun runs
all_fit chunks runs is = rw is at (AllFit-runs_in chunks)

-- the place behind the last run
pub end_is : (chunks : ByteChunks) (last : Run) (count : ℕ) (runs : List Run) → ArePacked chunks last count → runs_in chunks ≡ runs
    → IsEnd runs (record { chunk = length chunks.full; at = length chunks.tail; before = last })
unfolding runs_from last_run
end_is chunks last count runs are is more fit =
    let ends : last_run no_run runs ≡ last = rw is at are.ends in
    let fits : FitsRun last = rw ends at (Fits-last no_run runs no_run-fits (all_fit chunks runs is)) in
    let nothing : List ℕ = [] in
    ap (λ (held : ByteChunks). runs_at held (record { chunk = length chunks.full; at = length chunks.tail; before = last }))
    (with_runs-append no_chunks no_run runs more
    ∙ rw (chunks_held chunks last count runs are is, ends) refl
    ∙ ap (λ (bytes : List ℕ). with_runs (record { full = chunks.full; tail = bytes }) last more) (sym (append-nil chunks.tail)))
    ∙ read_runs last fits chunks.full chunks.tail no_chunks last [] [] more refl (Hold-none last) fit
