-- What the lines so far of a pool's text say of the next one.
-- Which line may come next.
-- What the lines so far of a pool's text tell of the leaves that devices share.
-- What the numbers of a line of a pool's text are, after given lines, the newest first.
use Rattle.std.specs.Prelude.{Bool, true, false, List, [], ◌∷◌, ◌≡◌, ℕ, ◌+◌, ◌-◌, ◌^◌, ◌<◌, ◌≤◌, ◌==◌, min, not, if◌then◌else◌, length, get_or, vec_len, vec_capacity, nat_lt, ◌&&◌, All}
use Rattle.std.specs.List.{list_any, count_by}
use Rattle.std.proofs.Common.{refl}
use Rattle.pd_grammar.specs.ThinText.{Line, Run, least_of, end_of, number_in, leaf_number, runs_of_leaf, uses_of, first_line, shared_first_line, is_shared, data_blocks_of, least_id, has_device, piece_end, unmapped, pool_format, Head, LeafHead, Details, may_have_map}
use Rattle.pd_texts.specs.declared.state.Stage.{Stage}
use Rattle.pd_texts.specs.declared.thin_text.Run2.{Run2}
use Rattle.pd_texts.specs.declared.leaves.ToldLeaf.{ToldLeaf}
use Rattle.pd_texts.specs.declared.leaves.Leaves.{Leaves}
use Rattle.pd_texts.specs.declared.thin_state.ThinState.{ThinState}
use Rattle.pd_texts.specs.declared.state.Stage.TheVariants as s

-- what may come after these lines
abbrev pub stage_of : {L : Type 0} → List L → Stage
stage_of [] = s.First
stage_of (line ∷ []) = s.Second
stage_of (line ∷ next ∷ before) = s.Body

-- whether line 2 comes next, or a later one
abbrev pub is_second : Stage → Bool
is_second s.First = false
is_second s.Second = true
is_second s.Body = false

abbrev pub is_body : Stage → Bool
is_body s.First = false
is_body s.Second = false
is_body s.Body = true

-- a leaf without a map line
abbrev pub nothing_told : ToldLeaf
nothing_told = record { least = 0; greatest = 0; entries = 0; is_used = false }

-- the end of its last run
abbrev pub end_told : ToldLeaf → ℕ
end_told leaf = if leaf.entries == 0 then 0 else leaf.greatest + 1

-- with one run more
abbrev pub with_run : ToldLeaf → Run2 → ToldLeaf
with_run leaf run = record {
  least = if leaf.entries == 0 then run.virt else leaf.least;
  greatest = min (run.virt + (run.length - 1)) (2 ^ 64 - 1);
  entries = min (leaf.entries + min run.length 4294967295) (2 ^ 32 - 1);
  is_used = leaf.is_used;
}

-- it tells of these runs
pub record Tells (leaf : ToldLeaf) (runs : List Run) : Type 0 where
  pub least : leaf.least ≡ least_of runs
  pub end : end_told leaf ≡ end_of runs
  pub entries : leaf.entries ≡ number_in runs
  pub none : leaf.entries ≡ 0 → runs ≡ []

-- whether a device uses a leaf
abbrev pub is_used_by : List ℕ → ℕ → Bool
is_used_by uses number = list_any (λ used. used == number) uses

-- what is told of a leaf, by its number
abbrev pub told_at : Leaves → ℕ → ToldLeaf
told_at leaves number = get_or leaves.told.items number nothing_told

-- the leaves are those of these lines, the newest first
pub record AreLeaves (leaves : Leaves) (before : List Line) : Type 0 where
  pub number : length leaves.told.items ≡ leaf_number before
  pub tells : (n : ℕ) → n < leaf_number before → Tells (told_at leaves n) (runs_of_leaf before n)
  pub used : (n : ℕ) → n < leaf_number before → (told_at leaves n).is_used ≡ is_used_by (uses_of before) n
  pub others : (n : ℕ) → leaf_number before ≤ n → is_used_by (uses_of before) n ≡ false
  pub unused : leaves.unused ≡ count_by (λ (leaf : ToldLeaf). not leaf.is_used) leaves.told.items

-- there is memory for one leaf more
abbrev pub HasRoom : Leaves → Type 0
HasRoom leaves = vec_len leaves.told < vec_capacity leaves.told

-- the first line that was read
abbrev pub first_of : ThinState → Line
first_of state = if state.is_shared then shared_first_line else first_line

-- no leaf is of more mappings than a node has entries, those that no line has given yet among them
abbrev pub IsLeafShort : List Line → Type 0
IsLeafShort before = has_device before ≡ false → number_in (runs_of_leaf before (leaf_number before - 1)) + unmapped before ≤ 252

-- the state is that of these lines, the newest first
pub record ThinStands (state : ThinState) (before : List Line) : Type 0 where
  pub stage : state.stage ≡ stage_of before
  pub is_shared : state.is_shared ≡ is_shared before
  pub blocks : state.blocks ≡ data_blocks_of before
  pub least_id : state.least_id ≡ least_id before
  pub has_device : state.has_device ≡ has_device before
  pub piece_end : state.piece_end ≡ piece_end before
  pub unmapped : state.unmapped ≡ unmapped before
  pub leaves : AreLeaves state.leaves before
  pub short : IsLeafShort before

-- the version of the text, once line 2 was read, which the first answer gives
abbrev pub version_after : List Line → ℕ
version_after before = if nat_lt 1 (length before) then (if is_shared before then 2 else 1) else 0

-- a leaf line may come next, which alone wants memory: in version 2, up to the first device
abbrev pub CanWant : ThinState → Type 0
CanWant state = (state.is_shared && not state.has_device) ≡ true

-- there is the memory that the next line may want
abbrev pub HasRoomNext : ThinState → Type 0
HasRoomNext state = CanWant state → HasRoom state.leaves

-- the first line isn't the last one
pub pool_begins : (state : ThinState) → pool_format.is_end (first_of state) ≡ false
pool_begins state = either state.is_shared
  where
    either : (shared : Bool) → pool_format.is_end (if shared then shared_first_line else first_line) ≡ false
    either true = refl
    either false = refl

-- a pool line after these lines
pub record IsPoolLine (before : List Line) (p : Head) : Type 0 where
  pub second : length before ≡ 1
  pub uuid_len : length p.uuid ≡ 16
  pub uuid_bytes : All (λ b. b < 256) p.uuid
  pub time_fits : p.time < 2 ^ 32
  pub transaction_fits : p.transaction < 2 ^ 64
  pub block_size_fits : p.block_size < 2 ^ 32
  pub data_blocks_fit : p.data_blocks ≤ 2 ^ 40

-- a device line after these lines: its id is above the last device's, of which each mapped block has a map line
pub record IsDeviceLine (before : List Line) (d : Details) : Type 0 where
  pub later : 2 ≤ length before
  pub above : least_id before ≤ d.id
  pub complete : unmapped before ≡ 0
  pub id_fits : d.id < 2 ^ 64
  pub mapped_fits : d.mapped < 2 ^ 64
  pub transaction_fits : d.transaction < 2 ^ 64
  pub created_fits : d.created < 2 ^ 32
  pub snapped_fits : d.snapped < 2 ^ 32

-- a leaf line after these lines, in version 2: its number is that of the leaves before it, of the last of which each mapping
-- has a map line
pub record IsLeafLine (before : List Line) (l : LeafHead) : Type 0 where
  pub later : 2 ≤ length before
  pub shared : is_shared before ≡ true
  pub none : has_device before ≡ false
  pub next : l.number ≡ leaf_number before
  pub complete : unmapped before ≡ 0
  pub some : 1 ≤ l.entries
  pub few : l.entries ≤ 252

-- a use line after these lines, in version 2: the leaf is one before, it is above the last piece of its device, and within
-- what the device has mapped
pub record IsUseLine (before : List Line) (number : ℕ) : Type 0 where
  pub later : 2 ≤ length before
  pub shared : is_shared before ≡ true
  pub has_device : has_device before ≡ true
  pub told : number < leaf_number before
  pub above : piece_end before ≤ least_of (runs_of_leaf before number)
  pub mapped : number_in (runs_of_leaf before number) ≤ unmapped before

-- a map line after these lines, of a leaf or of a device: it is above the last piece, and within what was said to be mapped
pub record IsRunLine (before : List Line) (r : Run) : Type 0 where
  pub later : 2 ≤ length before
  pub placed : may_have_map before ≡ true
  pub some : 1 ≤ r.length
  pub above : piece_end before ≤ r.virtual_block
  pub virtual_fits : r.virtual_block + r.length ≤ 2 ^ 64
  pub within : r.data_block + r.length ≤ data_blocks_of before
  pub time_fits : r.time < 2 ^ 24
  pub mapped : r.length ≤ unmapped before

-- a map line after these lines, of a device alone: it is above the last run of its device, and within what the device has mapped
pub record IsMapLine (before : List Line) (r : Run) : Type 0 where
  pub later : 2 ≤ length before
  pub has_device : has_device before ≡ true
  pub some : 1 ≤ r.length
  pub above : piece_end before ≤ r.virtual_block
  pub virtual_fits : r.virtual_block + r.length ≤ 2 ^ 64
  pub within : r.data_block + r.length ≤ data_blocks_of before
  pub time_fits : r.time < 2 ^ 24
  pub mapped : r.length ≤ unmapped before

-- the last line after these lines: each mapped block of the last device has a map line
pub record IsEndLine (before : List Line) : Type 0 where
  pub later : 2 ≤ length before
  pub complete : unmapped before ≡ 0
