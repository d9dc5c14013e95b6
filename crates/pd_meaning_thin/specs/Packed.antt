-- Runs as bytes, one behind the other.
-- Differences of numbers below 2^64, modulo 2^64.
-- Numbers as bytes: seven bits in each, the least first. The eighth bit is set where more follow.
-- A run as bytes: four numbers that tell it from the run before, of which a single block right behind that one needs two at most.
-- Runs as bytes in chunks: each run stands whole in one, and a chunk is done where a further run might not fit.
-- What is left of a list of runs behind a place in it.
use Rattle.std.specs.Prelude.{ℕ, ◌+◌, ◌-◌, ◌*◌, ◌/◌, ◌%◌, ◌^◌, ◌==◌, nat_lt, if◌then◌else◌, ◌≡◌, zero, suc, List, [], ◌∷◌, ◌++◌, Option, Some, None, ◌<◌, length, ◌≤◌, Bool, drop, slice_index_or, ◌&&◌}
use Rattle.std.specs.Option.{option_and_then}
use Rattle.std.specs.List.{AllByRecursion}
use Rattle.pd_meaning_thin.specs.declared.joined.Run.{Run}
use Rattle.pd_meaning_thin.specs.declared.packed.RunPlace.{RunPlace}

-- how far the second number is above the first
abbrev pub distance : ℕ → ℕ → ℕ
distance from to = (to + (2 ^ 64 - from)) % 2 ^ 64

-- the number that is so far above
abbrev pub moved : ℕ → ℕ → ℕ
moved from by = (from + by) % 2 ^ 64

-- A difference that may be a step down, by its sign and size: 0, -1, 1, -2 are 0, 1, 2, 3. A step down by d is the
-- difference 2^64 - d
unfoldable pub folded : ℕ → ℕ
folded difference = if nat_lt difference (2 ^ 63) then difference * 2 else (2 ^ 64 - 1 - difference) * 2 + 1

-- and back
unfoldable pub unfolded : ℕ → ℕ
unfolded number = if number % 2 == 0 then number / 2 else 2 ^ 64 - 1 - number / 2

-- the bytes of a number, in so many more steps than one at most
unfoldable pub packed_within : ℕ → ℕ → List ℕ
packed_within zero number = number ∷ []
packed_within (suc steps) number =
    if nat_lt number 128 then number ∷ [] else (number % 128 + 128) ∷ packed_within steps (number / 128)

-- the bytes of a number: it takes fewer steps than its value
unfoldable pub packed_number : ℕ → List ℕ
packed_number number = packed_within number number

-- a number of so many more units of this scale, where there is one, and the bytes behind it
abbrev pub raised : ℕ → ℕ → Option (ℕ × List ℕ) → Option (ℕ × List ℕ)
raised value scale None = None
raised value scale (Some high) = Some (value + scale * high.0, high.1)

-- the number that the bytes begin with, and the bytes behind it; none where they end within it
unfoldable pub groups_at : List ℕ → Option (ℕ × List ℕ)
groups_at [] = None
groups_at (byte ∷ bytes) = if nat_lt byte 128 then Some (byte, bytes) else raised (byte % 128) 128 (groups_at bytes)

-- the same, modulo 2^64
abbrev pub reduced : Option (ℕ × List ℕ) → Option (ℕ × List ℕ)
reduced None = None
reduced (Some got) = Some (got.0 % 2 ^ 64, got.1)

unfoldable pub number_at : List ℕ → Option (ℕ × List ℕ)
number_at bytes = reduced (groups_at bytes)

-- bytes with more behind them
abbrev pub Continues : List ℕ → List ℕ → Type 0
Continues old new = (more : List ℕ) × (new ≡ old ++ more)

-- the numbers of a run fit their places
pub record FitsRun (run : Run) : Type 0 where
  pub virt_fits : run.virt < 2 ^ 64
  pub target_fits : run.target < 2 ^ 64
  pub length_fits : run.length < 2 ^ 64
  pub time_fits : run.time < 2 ^ 32

-- the next number needs the bytes behind this one
infixl 10 ◌>>=◌
abbrev pub ◌>>=◌ : {A B : Type 0} → Option A → (A → Option B) → Option B
o >>= f = option_and_then f o

-- whether a run is a single block right behind the one before, whose step leaves two bits of a word free
unfoldable pub is_single : ℕ → ℕ → ℕ → Bool
is_single gap step length = (gap == 0) && ((length == 1) && nat_lt step (2 ^ 62))

-- the bytes of such a run: four times its step and 1, or and 3 where the change of the time follows
unfoldable pub packed_single : ℕ → ℕ → List ℕ
packed_single step change =
    if change == 0 then packed_number (step * 4 + 1) else packed_number (step * 4 + 3) ++ packed_number change

-- and those of any other: twice the change of the time, the gap, the step and the length
unfoldable pub packed_other : ℕ → ℕ → ℕ → ℕ → List ℕ
packed_other gap step length change =
    packed_number (change * 2) ++ (packed_number gap ++ (packed_number step ++ packed_number length))

unfoldable pub packed_numbers : ℕ → ℕ → ℕ → ℕ → List ℕ
packed_numbers gap step length change =
    if is_single gap step length then packed_single step change else packed_other gap step length change

-- how far the run begins behind the end of the one before, its target's step from there, its length, and the change of
-- the time
unfoldable pub packed_run : Run → Run → List ℕ
packed_run before run =
    packed_numbers (distance (moved before.virt before.length) run.virt)
    (folded (distance (moved before.target before.length) run.target))
    run.length
    (folded (distance before.time run.time))

-- the run that these four numbers tell
unfoldable pub placed : Run → ℕ → ℕ → ℕ → ℕ → Run
placed before gap step length change = record {
  virt = moved (moved before.virt before.length) gap;
  target = moved (moved before.target before.length) (unfolded step);
  length = length;
  time = moved before.time (unfolded change) % 2 ^ 32;
}

-- the single block with this step whose change of the time comes next, and the bytes behind it
abbrev pub changed_at : Run → ℕ → Option (ℕ × List ℕ) → Option (Run × List ℕ)
changed_at before step None = None
changed_at before step (Some change) = Some (placed before 0 step 1 change.0, change.1)

-- the single block whose first number this is, and the bytes behind it
unfoldable pub single_at : Run → ℕ → List ℕ → Option (Run × List ℕ)
single_at before first bytes =
    if first % 4 == 1 then Some (placed before 0 (first / 4) 1 0, bytes) else changed_at before (first / 4) (number_at bytes)

-- any other run with this change of the time, whose other numbers the bytes begin with, and the bytes behind it
unfoldable pub other_at : Run → ℕ → List ℕ → Option (Run × List ℕ)
other_at before change bytes = do
  gap ← number_at bytes
  step ← number_at gap.1
  length ← number_at step.1
  Some (placed before gap.0 step.0 length.0 change, length.1)

-- the run whose first number this is
unfoldable pub run_of_first : Run → ℕ → List ℕ → Option (Run × List ℕ)
run_of_first before first bytes = if first % 2 == 1 then single_at before first bytes else other_at before (first / 2) bytes

abbrev pub run_with_first : Run → Option (ℕ × List ℕ) → Option (Run × List ℕ)
run_with_first before None = None
run_with_first before (Some first) = run_of_first before first.0 first.1

-- the run that the bytes begin with, behind that one, and the bytes behind it; none where they end within it
unfoldable pub run_at : Run → List ℕ → Option (Run × List ℕ)
run_at before bytes = run_with_first before (number_at bytes)

-- what stands for the run before the first one
abbrev pub no_run : Run
no_run = record { virt = 0; target = 0; length = 0; time = 0 }

-- the bytes of the runs, behind that one
unfoldable pub packed : Run → List Run → List ℕ
packed before [] = []
packed before (run ∷ runs) = packed_run before run ++ packed run runs

-- the last of the runs, or the one before them
unfoldable pub last_run : Run → List Run → Run
last_run before [] = before
last_run before (run ∷ runs) = last_run run runs

-- a run, if there is one, and those that the bytes behind it give
abbrev pub run_and_more : Option (Run × List ℕ) → (Run → List ℕ → List Run) → List Run
run_and_more None more = []
run_and_more (Some got) more = got.0 ∷ more got.0 got.1

-- the runs that the bytes unpack to, behind that one, so many at most
unfoldable pub unpacked_within : ℕ → Run → List ℕ → List Run
unpacked_within zero before bytes = []
unpacked_within (suc most) before bytes = run_and_more (run_at before bytes) (unpacked_within most)

-- all of them: each takes a byte at least
unfoldable pub unpacked : Run → List ℕ → List Run
unpacked before bytes = unpacked_within (length bytes) before bytes

-- the bytes of chunks: those that are done, and the one that runs are put into
pub record ByteChunks : Type 0 where
  pub full : List (List ℕ)
  pub tail : List ℕ

abbrev pub no_chunks : ByteChunks
no_chunks = record { full = []; tail = [] }

abbrev pub in_order : ByteChunks → List (List ℕ)
in_order chunks = chunks.full ++ chunks.tail ∷ []

-- a chunk has room for 65536 bytes, and a run takes 35 at most
unfoldable pub is_full : List ℕ → Bool
is_full tail = nat_lt 65501 (length tail)

-- with a run, behind the one before, in a chunk of its own
abbrev pub begun : ByteChunks → Run → Run → ByteChunks
begun chunks before run = record { full = chunks.full ++ chunks.tail ∷ []; tail = packed_run before run }

-- with a run, behind the one before, in the last chunk
abbrev pub added : ByteChunks → Run → Run → ByteChunks
added chunks before run = record { full = chunks.full; tail = chunks.tail ++ packed_run before run }

-- with a run at the end, behind the one before
unfoldable pub with_run : ByteChunks → Run → Run → ByteChunks
with_run chunks before run = if is_full chunks.tail then begun chunks before run else added chunks before run

-- with runs at the end
unfoldable pub with_runs : ByteChunks → Run → List Run → ByteChunks
with_runs chunks before [] = chunks
with_runs chunks before (run ∷ runs) = with_runs (with_run chunks before run) run runs

-- the chunks of runs
abbrev pub chunks_of : List Run → ByteChunks
chunks_of runs = with_runs no_chunks no_run runs

-- the runs that chunks unpack to, behind that one
unfoldable pub unchunked : Run → List (List ℕ) → List Run
unchunked before [] = []
unchunked before (chunk ∷ chunks) = unpacked before chunk ++ unchunked (last_run before (unpacked before chunk)) chunks

unfoldable pub runs_in : ByteChunks → List Run
runs_in chunks = unchunked no_run (in_order chunks)

-- the chunks are those of the runs that they unpack to, of which this is the last one and that the number
pub record ArePacked (chunks : ByteChunks) (last : Run) (count : ℕ) : Type 0 where
  pub exact : chunks_of (runs_in chunks) ≡ chunks
  pub ends : last_run no_run (runs_in chunks) ≡ last
  pub counted : length (runs_in chunks) ≡ count
  pub few : count ≤ 2 ^ 62 + length chunks.tail

-- the runs that chunks unpack to from this byte of this one on: those of its rest, and of the chunks behind it
unfoldable pub unchunked_from : List (List ℕ) → Run → ℕ → ℕ → List Run
unchunked_from chunks before number at =
    unchunked before (drop at (slice_index_or chunks number []) ∷ drop (number + 1) chunks)

abbrev pub runs_at : ByteChunks → RunPlace → List Run
runs_at chunks place = unchunked_from (in_order chunks) place.before place.chunk place.at

-- the runs that the list's bytes unpack to from the place on
unfoldable pub runs_from : List Run → RunPlace → List Run
runs_from runs place = runs_at (chunks_of runs) place

-- runs that are put behind these are read from the place on
abbrev pub IsEnd : List Run → RunPlace → Type 0
IsEnd runs place = (more : List Run) → AllByRecursion FitsRun more → runs_from (runs ++ more) place ≡ more
