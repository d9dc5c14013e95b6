-- Trusted base.
-- The terms of a search: a repair without a superblock.
-- The lines of a search for the roots of a pool.
-- A pool in which sharing is seen: what a search and a repair from named roots write. A kernel copies a data block before a write to a
-- device where the device was snapped after the mapping there was made; else it writes to the block in place. So each device is
-- snapped after those of its mappings whose data blocks other mappings lead to.
use Rattle.std.specs.Prelude.{ℕ, List, [], ◌∷◌, ◌++◌, codes, decimal, ◌+◌, max, min, ◌==◌, Bool, true, false, nat_lt, map, filter, fold, count_by, ◌≡◌, ◌≢◌, Option, Some, None, IfSome, length, if◌then◌else◌}
use Rattle.pd_kinds.specs.Meaning.{Mapping, ThinDevice, ThinPool}
use Rattle.pd_kinds.specs.Graph.{Graph}
use Rattle.pd_grammar.specs.Need.{mapped_data}
use Rattle.pd_laid.specs.FoundRoots.{FoundRoots, lost_graph, IsFound, found_pool}
use Rattle.pd_laid.specs.Shape.{ShapeDevice, ThinShape, device_of, pool_of}
use Rattle.pd_laid.specs.Salvage.{saved_shape_from}
use Rattle.pd_answers.specs.DamagedStates.{damaged_states}
use Rattle.pd_answers.specs.FoundStates.{found_fields}
use Rattle.pd_answers.specs.Repairs.{Saved, saved_making}
use Rattle.pd_answers.specs.Terms.{Answer, Objects, reading, writing, any_reads, Terms, unnamed}
use Rattle.pd_answers.specs.Outputs.{Lays, Making, making_answer, IsRoom, LeavesMadeFirst}

-- the line of the roots that were found, and of what stands below them
abbrev pub roots_line : FoundRoots → List ℕ
roots_line roots =
    codes "roots " ++ (decimal roots.top ++ (codes " " ++ (decimal roots.details ++ (codes " mappings "
    ++ (decimal roots.mappings ++ (codes " time " ++ (decimal roots.time ++ (10 ∷ []))))))))

-- the line where there are none, and where there are only damaged ones
abbrev pub no_roots_line : List ℕ
no_roots_line = codes "pdata_tools: no roots" ++ (10 ∷ [])

abbrev pub only_damaged_line : List ℕ
only_damaged_line = codes "pdata_tools: no roots, but damaged ones" ++ (10 ∷ [])

-- a mapping is shared where these data blocks of all mappings have its own twice or more
abbrev pub is_shared : List ℕ → Mapping → Bool
is_shared places x = nat_lt 1 (count_by (λ b. b == x.data_block) places)

-- when a device is snapped in such a pool: at the latest of its own time and of one more than the time of each shared mapping
unfoldable pub seen_snap : List ℕ → ThinDevice → ℕ
seen_snap places d = fold max d.snapped (map (λ (x : Mapping). x.time + 1) (filter (is_shared places) d.mappings))

abbrev pub seen_device : List ℕ → ThinDevice → ThinDevice
seen_device places d = record {
  id = d.id;
  mapped = d.mapped;
  transaction = d.transaction;
  created = d.created;
  snapped = seen_snap places d;
  mappings = d.mappings;
}

-- A mapping has 24 bits for its time. So a pool's time isn't raised above the greatest one that fits: with a greater time a kernel
-- would write mappings that lead to other blocks
abbrev pub greatest_time : ℕ
greatest_time = 16777215

abbrev pub raised_time : ℕ → ℕ → ℕ
raised_time time least = max time (min least greatest_time)

-- the pool's time isn't before that of a device
unfoldable pub seen_time : ThinPool → ℕ
seen_time m = raised_time m.time (fold max 0 (map (seen_snap (mapped_data m)) m.devices))

unfoldable pub seen_pool : ThinPool → ThinPool
seen_pool m = record {
  uuid = m.uuid;
  time = seen_time m;
  transaction = m.transaction;
  block_size = m.block_size;
  data_blocks = m.data_blocks;
  devices = map (seen_device (mapped_data m)) m.devices;
}

-- a shape's devices are snapped as those of the pool that it means
abbrev pub seen_shape_device : ThinShape → ShapeDevice → ShapeDevice
seen_shape_device w d = record {
  id = d.id;
  mapped = d.mapped;
  transaction = d.transaction;
  created = d.created;
  snapped = seen_snap (mapped_data (pool_of w)) (device_of w.leaves d);
  pieces = d.pieces;
}

unfoldable pub seen_shape : ThinShape → ThinShape
seen_shape w = record {
  uuid = w.uuid;
  time = seen_time (pool_of w);
  transaction = w.transaction;
  block_size = w.block_size;
  data_blocks = w.data_blocks;
  leaves = w.leaves;
  devices = map (seen_shape_device w) w.devices;
}

-- a pool, without its shared leaves or with them
abbrev pub seen : (shared : Bool) → Saved shared → Saved shared
seen false = seen_pool
seen true = seen_shape

-- the same with another time
abbrev pub timed_pool : ℕ → ThinPool → ThinPool
timed_pool time m = record m { time = time }

abbrev pub timed_shape : ℕ → ThinShape → ThinShape
timed_shape time w = record w { time = time }

abbrev pub timed : (shared : Bool) → ℕ → Saved shared → Saved shared
timed false = timed_pool
timed true = timed_shape

-- what a search finds: the best roots, if there are any, what is saved from them, and how many blocks there are for it; and
-- where there are no roots, whether there are damaged states
pub record Searched (S : Type 0) : Type 0 where
  pub roots : Option FoundRoots
  pub are_damaged : Bool
  pub saved : S
  pub room : ℕ

-- a search puts a line with the roots after its work; else, to `notes`, that there are none, or what was needed
abbrev pub search_answer : Making → Option FoundRoots → Bool → ℕ → Answer
search_answer making None are_damaged room = record { status = 1; out = []; notes = if are_damaged then only_damaged_line else no_roots_line }
search_answer making (Some roots) are_damaged room = making_answer making room (roots_line roots)

abbrev pub searched_answer : {S : Type 0} → (S → Making) → Searched S → Answer
searched_answer making searched = search_answer (making searched.saved) searched.roots searched.are_damaged searched.room

-- what a search leaves of its output
abbrev pub LeavesFound : {S : Type 0} → (S → Making) → Searched S → Objects → Objects → ℕ → Type 0
LeavesFound making searched before after status =
    LeavesMadeFirst (Lays (searched_answer making searched) (making searched.saved) searched.room) (searched_answer making searched).status before after status

-- the shape of the found pool: with the leaves that its devices share
unfoldable pub found_shape : Graph → List (List ℕ) → ℕ → ℕ → FoundRoots → ThinShape
found_shape graph image transaction block_size roots = saved_shape_from (found_fields graph transaction block_size roots) image

-- what is found below some roots, with the transaction and block size that are given
abbrev pub found_from : (shared : Bool) → Graph → List (List ℕ) → ℕ → ℕ → FoundRoots → Saved shared
found_from false = found_pool
found_from true = found_shape

-- What is saved from them: sharing is seen in it. The best details tree may be older than the mapping tree
abbrev pub saved_from : (shared : Bool) → Graph → List (List ℕ) → ℕ → ℕ → FoundRoots → Saved shared
saved_from shared graph image transaction block_size roots = seen shared (found_from shared graph image transaction block_size roots)

-- there are some states
abbrev pub are_some : List FoundRoots → Bool
are_some found = nat_lt 0 (length found)

-- a search is a repair in which block 0 isn't looked at: its roots are found, and its numbers are given
abbrev pub search : Bool → List ℕ → List ℕ → ℕ → ℕ → ℕ → Terms
search shared from to transaction block_size blocks = record {
  uses = record unnamed { out = reading []; input = reading from; output = writing to };
  Finding = Searched (Saved shared);
  finds = λ before after searched. IsRoom before.output after.output searched.room
      × IfSome before.input.held (λ image. IsFound (lost_graph image blocks) image searched.roots
      × (IfSome searched.roots (λ roots. searched.saved ≡ saved_from shared (lost_graph image blocks) image transaction block_size roots)
      × (searched.roots ≡ None → searched.are_damaged ≡ are_some (damaged_states (lost_graph image blocks) image))));
  answer = searched_answer (saved_making shared);
  statuses = 0 ∷ 1 ∷ 4 ∷ 5 ∷ 7 ∷ [];
  memory = λ before. Unit {0};
  silent = 1 ∷ 4 ∷ 5 ∷ 7 ∷ [];
  spared = λ searched. (searched_answer (saved_making shared) searched).status ≢ 0;
  reads = any_reads;
  leaves = LeavesFound (saved_making shared);
}
