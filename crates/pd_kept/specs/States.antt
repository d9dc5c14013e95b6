-- The states of a pool without its superblock, and their lines.
-- A superblock that wasn't taken.
use Rattle.std.specs.Prelude.{◌≡◌, ℕ, List, [], ◌∷◌, ◌++◌, codes, decimal, length, map, take, Option, Some, None, Result, Ok, Err}
use Rattle.std.specs.List.{AllByRecursion, flat_map}
use Rattle.pd_kinds.specs.ThinFormat.{ThinFields}
use Rattle.pd_laid.specs.FoundRoots.{FoundRoots}
use Rattle.pd_answers.specs.KeptLines.{told_text}
use Rattle.pd_answers.specs.NamedRepairs.{more_line}
use Rattle.pd_query.specs.declared.query.QueryFault.{QueryFault}
use Rattle.pd_query.specs.declared.query.QueryFault.TheVariants.{Device}
use Rattle.pd_repair.specs.declared.repair.RepairFault.{RepairFault}
use Rattle.pd_repair.specs.declared.repair.RepairFault.TheVariants as f
use Rattle.pd_kept.specs.declared.states.Looked.{Looked}
use Rattle.pd_kept.specs.Kept.{told_of}
use Rattle.pd_scan.specs.declared.roots.Roots.{Roots}
use Rattle.pd_scan.specs.declared.states.State.{State}
use Rattle.pd_scan.specs.declared.states.FoundStates.{FoundStates}
use Rattle.pd_scan.specs.Pairs.{state_roots}

-- the line of a state that was found, which begins with a word: its roots, and what stands below them
abbrev pub roots_words : List ℕ → Roots → List ℕ
roots_words word roots = word ++ (decimal roots.top ++ (codes " " ++ decimal roots.details))

abbrev pub counts_words : State → List ℕ
counts_words state = codes " devices " ++ (decimal state.devices ++ (codes " mappings " ++ decimal state.roots.mappings))

abbrev pub latest_words : Roots → List ℕ
latest_words roots = codes " transaction " ++ (decimal roots.transaction ++ (codes " time " ++ (decimal roots.time ++ (10 ∷ []))))

abbrev pub found_line : List ℕ → State → List ℕ
found_line word state = roots_words word state.roots ++ (counts_words state ++ latest_words state.roots)

-- their lines, and how many are left out
abbrev pub found_list : List ℕ → FoundStates → List ℕ
found_list word found = flat_map (found_line word) found.best.items ++ more_line found.number

-- the lines of the sound states, those of the damaged ones, and what is kept
unfoldable pub looked_text : Looked → List ℕ
looked_text looked =
    found_list (codes "roots ") looked.sound ++ (found_list (codes "damaged ") looked.damaged ++ told_text (told_of looked.kept))

-- the states are the first 100 of these, and as many in all, and each has devices as it says
pub record AreListed (HasDevices : State → Type 0) (all : List FoundRoots) (found : FoundStates) : Type 0 where
  pub best : map state_roots found.best.items ≡ take 100 all
  pub number : found.number ≡ length all
  pub devices : AllByRecursion HasDevices found.best.items

-- the roots of the first of some states
abbrev pub roots_of_first : List State → Option Roots
roots_of_first [] = None
roots_of_first (state ∷ others) = Some state.roots

-- those of the first sound one, or else of the first damaged one
abbrev pub roots_of_best : List State → List State → Option Roots
roots_of_best [] damaged = roots_of_first damaged
roots_of_best (state ∷ others) damaged = Some state.roots

-- it wasn't read, or there is none without faults
abbrev pub untaken_of : RepairFault → Result (Option ThinFields) QueryFault
untaken_of f.Memory = Ok None
untaken_of f.Input = Err Device
untaken_of f.Output = Ok None
untaken_of (f.NoSuper rules) = Ok None
untaken_of (f.NoRoom need blocks) = Ok None
