-- The damaged states of a pool, listed from the last mapping tree to the first.
use Rattle.std.specs.Prelude.{◌≡◌, ℕ, ◌<◌, max, Bool, nat_lt, List, length, map, filter}
use Rattle.std.specs.List.{AllByRecursion}
use Rattle.pd_kinds.specs.Graph.{Graph}
use Rattle.pd_answers.specs.FoundStates.{in_order}
use Rattle.pd_scan.specs.declared.states.State.{State}
use Rattle.pd_scan.specs.Pairs.{AreInside, state_roots}
use Rattle.pd_answers.specs.DamagedStates.{damaged_state, damaged_states, kept_devices, kept_number}
use Rattle.pd_damaged.specs.declared.given.Given.{Given}
use Rattle.pd_damaged.specs.declared.top.KeptTop.{KeptTop}
use Rattle.pd_damaged.specs.declared.listing.Search.{Search}
use Rattle.pd_damaged.specs.Known.{AreRight, KnowsTheSame, data_blocks_of, meta_blocks_of}
use Rattle.pd_damaged.specs.Loose.{AreDetailsRoots}

-- something is kept of a mapping tree
abbrev pub is_any_kept : Graph → List (List ℕ) → ℕ → Bool
is_any_kept graph image top = nat_lt 0 (kept_number (kept_devices graph image top 0))

-- a state says how many devices are kept of its roots
abbrev pub HasKeptDevices : Graph → List (List ℕ) → State → Type 0
HasKeptDevices graph image s = s.devices ≡ length (kept_devices graph image s.roots.top s.roots.details)

-- the state of a mapping tree, by what is kept of it and what a details tree gives for its devices
abbrev pub state_by : ℕ → KeptTop → Given → State
state_by top kept given = record {
  roots = record {
    top = top;
    details = given.details;
    mappings = kept.kept.number;
    time = max kept.kept.time given.time;
    transaction = given.transaction;
    times = kept.kept.times;
  };
  devices = kept.devices;
}

-- the states are those of some mapping trees, in order
pub record AreStates (graph : Graph) (image : List (List ℕ)) (tops : List ℕ) (found : List State) : Type 0 where
  pub best : map state_roots found ≡ in_order (map (damaged_state graph image) (filter (is_any_kept graph image) tops))
  pub devices : AllByRecursion (HasKeptDevices graph image) found

-- a state is that of a mapping tree
pub record IsStateOf (graph : Graph) (image : List (List ℕ)) (top : ℕ) (s : State) : Type 0 where
  pub roots : state_roots s ≡ damaged_state graph image top
  pub devices : HasKeptDevices graph image s

-- what is looked for is that of an image
pub record IsSearchOf (graph : Graph) (image : List (List ℕ)) (search : Search) : Type 0 where
  pub right : AreRight image search.remains
  pub number : graph.nr ≡ meta_blocks_of search.remains
  pub pool : graph.data_blocks ≡ data_blocks_of search.remains
  pub roots : AreDetailsRoots graph image search.roots.items

-- what is known stays
pub record StaysSearch (old new : Search) : Type 0 where
  pub remains : KnowsTheSame old.remains new.remains
  pub roots : new.roots.items ≡ old.roots.items

-- the details trees lie inside
abbrev pub AreRootsInside : Search → Type 0
AreRootsInside search = AllByRecursion (λ r. r < meta_blocks_of search.remains) search.roots.items

abbrev pub StatesInside : ℕ → List State → Type 0
StatesInside nr found = AllByRecursion (λ (s : State). AreInside nr s.roots) found

-- the states are the damaged ones of the image
pub record AreFound (graph : Graph) (image : List (List ℕ)) (found : List State) : Type 0 where
  pub states : map state_roots found ≡ damaged_states graph image
  pub devices : AllByRecursion (HasKeptDevices graph image) found
