-- Runs in chunks come back, and a run that is put behind them.
use Rattle.std.proofs.Common.{◌≡◌, ℕ, ◌+◌, ◌^◌, ◌<◌, ◌≤◌, Bool, true, false, if◌then◌else◌, List, [], ◌∷◌, ◌++◌, length, refl, sym, ap, ◌∙◌, append_assoc, arith}
use Rattle.std.specs.List.{AllByRecursion}
use Rattle.std.proofs.lemmas.Bool.Decides.{nat_tests}
use Rattle.std.proofs.lemmas.List.{append-nil, length-append}
use Rattle.pd_meaning_thin.specs.declared.joined.Run.{Run}
use Rattle.pd_meaning_thin.specs.Packed.{ArePacked, ByteChunks, added, begun, chunks_of, in_order, is_full, no_chunks, runs_in, unchunked, with_run, with_runs, last_run, no_run, packed, unpacked, FitsRun, packed_run}
use Rattle.pd_meaning_thin.proofs.PackedLemmas.{length-packed_run, AllFit-append, AllFit-unpacked, Fits-last, last_run-append, last_run-push, no_run-fits, packed-push, unpacked-empty, unpacked-packed}

-- ---- chunk by chunk

unchunked-append : (before : Run) (chunks more : List (List ℕ))
    → unchunked before (chunks ++ more) ≡ unchunked before chunks ++ unchunked (last_run before (unchunked before chunks)) more
unfolding unchunked last_run
unchunked-append before [] more = refl
unchunked-append before (chunk ∷ chunks) more =
    let runs = unpacked before chunk in
    let last = last_run before runs in
    let others = unchunked last chunks in
    ap (λ (rest : List Run). runs ++ rest) (unchunked-append last chunks more)
    ∙ sym (append_assoc runs others (unchunked (last_run last others) more))
    ∙ ap (λ (front : Run). (runs ++ others) ++ unchunked front more) (sym (last_run-append before runs others))

pub unchunked-none : (before : Run) → unchunked before [] ≡ []
unfolding unchunked
unchunked-none before = refl

pub unchunked-one : (before : Run) (chunk : List ℕ) → unchunked before (chunk ∷ []) ≡ unpacked before chunk
unfolding unchunked
unchunked-one before chunk = append-nil (unpacked before chunk)

AllFit-unchunked : (before : Run) (chunks : List (List ℕ)) → AllByRecursion FitsRun (unchunked before chunks)
unfolding unchunked
AllFit-unchunked before [] = tt
AllFit-unchunked before (chunk ∷ chunks) =
    let runs = unpacked before chunk in
    AllFit-append runs (unchunked (last_run before runs) chunks) (AllFit-unpacked before chunk)
    (AllFit-unchunked (last_run before runs) chunks)

-- ---- the way back

-- the last of the runs in the chunks that are done, behind that one
abbrev last_full : Run → ByteChunks → Run
last_full start chunks = last_run start (unchunked start chunks.full)

-- the chunks hold these runs, behind that one, of which the last chunk has those, each of them whole
pub record Hold (start : Run) (chunks : ByteChunks) (runs : List Run) (rest : List Run) : Type 0 where
  tail_is : chunks.tail ≡ packed (last_full start chunks) rest
  runs_are : runs ≡ unchunked start chunks.full ++ rest
  fit : AllByRecursion FitsRun runs
  rest_fit : AllByRecursion FitsRun rest

-- the runs of the last chunk, with one more
abbrev pub rest_with : Bool → List Run → Run → List Run
rest_with true rest run = run ∷ []
rest_with false rest run = rest ++ run ∷ []

module _ (start : Run) (start_fits : FitsRun start) where
  pub Hold-runs : (chunks : ByteChunks) (runs rest : List Run) → Hold start chunks runs rest → unchunked start (in_order chunks) ≡ runs
  Hold-runs chunks runs rest hold =
      let front = unchunked start chunks.full in
      unchunked-append start chunks.full (chunks.tail ∷ [])
      ∙ ap (λ (more : List Run). front ++ more)
      (unchunked-one (last_full start chunks) chunks.tail
      ∙ ap (unpacked (last_full start chunks)) hold.tail_is
      ∙ unpacked-packed (last_full start chunks) rest (Fits-last start front start_fits (AllFit-unchunked start chunks.full)) hold.rest_fit)
      ∙ sym hold.runs_are

  Hold-begun : (chunks : ByteChunks) (runs rest : List Run) (run : Run) → Hold start chunks runs rest → FitsRun run
      → Hold start (begun chunks (last_run start runs) run) (runs ++ run ∷ []) (run ∷ [])
  unfolding packed
  Hold-begun chunks runs rest run hold fits =
      let whole = Hold-runs chunks runs rest hold in
      record {
        tail_is =
            sym (append-nil (packed_run (last_run start runs) run))
            ∙ ap (λ (front : List Run). packed (last_run start front) (run ∷ [])) (sym whole);
        runs_are = ap (λ (front : List Run). front ++ run ∷ []) (sym whole);
        fit = AllFit-append runs (run ∷ []) hold.fit (fits, tt);
        rest_fit = (fits, tt);
      }

  Hold-added : (chunks : ByteChunks) (runs rest : List Run) (run : Run) → Hold start chunks runs rest → FitsRun run
      → Hold start (added chunks (last_run start runs) run) (runs ++ run ∷ []) (rest ++ run ∷ [])
  Hold-added chunks runs rest run hold fits =
      let front = unchunked start chunks.full in
      let last : last_run start runs ≡ last_run (last_full start chunks) rest =
      ap (last_run start) hold.runs_are ∙ last_run-append start front rest in
      record {
        tail_is =
            ap (λ (before : Run). chunks.tail ++ packed_run before run) last
            ∙ ap (λ (bytes : List ℕ). bytes ++ packed_run (last_run (last_full start chunks) rest) run) hold.tail_is
            ∙ sym (packed-push (last_full start chunks) rest run);
        runs_are = ap (λ (all : List Run). all ++ run ∷ []) hold.runs_are ∙ append_assoc front rest (run ∷ []);
        fit = AllFit-append runs (run ∷ []) hold.fit (fits, tt);
        rest_fit = AllFit-append rest (run ∷ []) hold.rest_fit (fits, tt);
      }

  pub Hold-either : (full : Bool) (chunks : ByteChunks) (runs rest : List Run) (run : Run) → Hold start chunks runs rest → FitsRun run
      → Hold start (if full then begun chunks (last_run start runs) run else added chunks (last_run start runs) run)
      (runs ++ run ∷ []) (rest_with full rest run)
  Hold-either true chunks runs rest run hold fits = Hold-begun chunks runs rest run hold fits
  Hold-either false chunks runs rest run hold fits = Hold-added chunks runs rest run hold fits

pub Hold-none : (start : Run) → Hold start no_chunks [] []
unfolding packed unchunked
Hold-none start = record { tail_is = refl; runs_are = refl; fit = tt; rest_fit = tt }

unchunked-with_runs : (chunks : ByteChunks) (before : Run) (runs rest more : List Run) → last_run no_run runs ≡ before
    → Hold no_run chunks runs rest → AllByRecursion FitsRun more → runs_in (with_runs chunks before more) ≡ runs ++ more
unfolding runs_in with_runs with_run
unchunked-with_runs chunks before runs rest [] last hold fit = Hold-runs no_run no_run-fits chunks runs rest hold ∙ sym (append-nil runs)
unchunked-with_runs chunks before runs rest (run ∷ more) last hold fit =
    let next : Hold no_run (with_run chunks before run) (runs ++ run ∷ []) (rest_with (is_full chunks.tail) rest run) =
    rw (← last) (Hold-either no_run no_run-fits (is_full chunks.tail) chunks runs rest run hold fit.0) in
    unchunked-with_runs (with_run chunks before run) run (runs ++ run ∷ []) (rest_with (is_full chunks.tail) rest run) more
    (last_run-push no_run runs run) next fit.1
    ∙ append_assoc runs (run ∷ []) more

-- runs in chunks come back
chunks-back : (runs : List Run) → AllByRecursion FitsRun runs → runs_in (chunks_of runs) ≡ runs
unfolding last_run
chunks-back runs fit = unchunked-with_runs no_chunks no_run [] [] runs refl (Hold-none no_run) fit

-- ---- a run more

pub with_run-begun : (chunks : ByteChunks) (before run : Run) → 65501 < length chunks.tail
    → with_run chunks before run ≡ begun chunks before run
unfolding with_run is_full
with_run-begun chunks before run large = grind (arith, nat_tests)

with_run-room : (chunks : ByteChunks) (before run : Run) → length chunks.tail ≤ 65501
    → with_run chunks before run ≡ added chunks before run
unfolding with_run is_full
with_run-room chunks before run small = grind (arith, nat_tests)

abbrev made : List (List ℕ) → List ℕ → ByteChunks
made full tail = record { full = full; tail = tail }

pub with_run-added : (chunks : ByteChunks) (before run : Run) (full : List (List ℕ)) (tail new : List ℕ)
    → made full tail ≡ chunks → length tail ≤ 65501 → new ≡ tail ++ packed_run before run
    → made full new ≡ with_run chunks before run
with_run-added chunks before run full tail new are small is =
    ap (made full) is
    ∙ sym (with_run-room (made full tail) before run small)
    ∙ ap (λ (held : ByteChunks). with_run held before run) are

-- its bytes are one or more
pub counted-more : (most count : ℕ) (front : List ℕ) (before run : Run) → count ≤ most + length front
    → count + 1 ≤ most + length (front ++ packed_run before run)
counted-more most count front before run few =
    omega (arith, length-append front (packed_run before run), length-packed_run before run)

-- ---- what is held

pub with_runs-append : (chunks : ByteChunks) (before : Run) (runs more : List Run)
    → with_runs chunks before (runs ++ more) ≡ with_runs (with_runs chunks before runs) (last_run before runs) more
unfolding with_runs last_run
with_runs-append chunks before [] more = refl
with_runs-append chunks before (first ∷ runs) more = with_runs-append (with_run chunks before first) first runs more

pub runs_in-none : runs_in no_chunks ≡ []
unfolding runs_in
runs_in-none = unchunked-one no_run [] ∙ unpacked-empty no_run

pub ArePacked-none : ArePacked no_chunks no_run 0
unfolding with_runs last_run
ArePacked-none = record {
  exact = rw runs_in-none refl;
  ends = rw runs_in-none refl;
  counted = rw runs_in-none refl;
  few = omega arith;
}

pub AllFit-runs_in : (chunks : ByteChunks) → AllByRecursion FitsRun (runs_in chunks)
unfolding runs_in
AllFit-runs_in chunks = AllFit-unchunked no_run (in_order chunks)

-- the chunks with a run more are those of the runs with it
chunks_of-push : (chunks : ByteChunks) (last : Run) (count : ℕ) (run : Run) → ArePacked chunks last count
    → chunks_of (runs_in chunks ++ run ∷ []) ≡ with_run chunks last run
unfolding with_runs
chunks_of-push chunks last count run are =
    with_runs-append no_chunks no_run (runs_in chunks) (run ∷ [])
    ∙ ap (λ (held : ByteChunks). with_run held (last_run no_run (runs_in chunks)) run) are.exact
    ∙ ap (λ (before : Run). with_run chunks before run) are.ends

-- a run that is put behind them
pub runs_in-put : (chunks : ByteChunks) (last : Run) (count : ℕ) (run : Run) → ArePacked chunks last count → FitsRun run
    → runs_in (with_run chunks last run) ≡ runs_in chunks ++ run ∷ []
runs_in-put chunks last count run are fits =
    ap runs_in (sym (chunks_of-push chunks last count run are))
    ∙ chunks-back (runs_in chunks ++ run ∷ []) (AllFit-append (runs_in chunks) (run ∷ []) (AllFit-runs_in chunks) (fits, tt))

pub ArePacked-put : (chunks : ByteChunks) (last : Run) (count : ℕ) (run : Run) → ArePacked chunks last count → FitsRun run
    → count + 1 ≤ 2 ^ 62 + length (with_run chunks last run).tail → ArePacked (with_run chunks last run) run (count + 1)
ArePacked-put chunks last count run are fits few =
    let back = runs_in-put chunks last count run are fits in
    record {
      exact = rw back (chunks_of-push chunks last count run are);
      ends = rw back (last_run-push no_run (runs_in chunks) run);
      counted = rw (back, length-append) (omega (arith, are.counted));
      few = few;
    }
