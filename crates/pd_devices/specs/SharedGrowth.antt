-- Runs that are held until the leaf or the piece that they are of is over, and the leaves that they come to.
-- Keys that ascend between two bounds, and runs that may stand between them.
-- The tree of a device that grows piece by piece.
use Rattle.std.specs.Prelude.{◌≡◌, ℕ, ◌+◌, ◌^◌, ◌≤◌, List, ◌++◌, length, map, [], ◌∷◌, ◌==◌, if◌then◌else◌, min, Option, None, Some}
use Rattle.std.specs.List.{AllByRecursion, flat_map}
use Rattle.pd_kinds.specs.Node.{Entry, leaf_block}
use Rattle.pd_grammar.specs.Lawful.{AreMappings}
use Rattle.pd_grammar.specs.ThinText.{Run, end_of}
use Rattle.pd_grammar.specs.Need.{need_above, nodes_for}
use Rattle.pd_laid.specs.LaidThin.{mapping_items, own_leaves, pieces_row}
use Rattle.pd_laid.specs.Laid.{blocks_from, heads}
use Rattle.pd_laid.specs.PoolText.{HaveMappings, mappings_of_runs}
use Rattle.pd_laid.specs.Shape.{own, ShapeDevice, uses_of_piece}
use Rattle.pd_draft.specs.Closed.{DraftState, Wrote}
use Rattle.pd_meaning_thin.specs.declared.joined.Run.{Run as Value}
use Rattle.pd_meaning_thin.specs.Runs.{spelled}
use Rattle.pd_build.specs.Tree.{LeavesLeft, items_to_come, leaves_to_come}
use Rattle.pd_devices.specs.declared.piece.Held.{Held}
use Rattle.pd_devices.specs.declared.growing.Growing.{Growing}
use Rattle.pd_laws_laid.specs.Shared.{own_blocks_from, IsFilled}

-- runs, and those that are held, as the definitions have them
abbrev pub runs_of : List Value → List Run
runs_of runs = map spelled runs

abbrev pub held_runs : Held → List Run
held_runs held = runs_of held.runs

-- the items of runs
abbrev pub items_of_runs : List Run → List Entry
items_of_runs runs = mapping_items (mappings_of_runs runs)

-- each run has a mapping, and the mappings ascend and fit
pub record CanBeLaid (runs : List Run) (least : ℕ) : Type 0 where
  pub blocks : ℕ
  pub small : blocks ≤ 2 ^ 40
  pub have : HaveMappings runs
  pub mappings : AreMappings blocks least (mappings_of_runs runs)

-- these items were taken, one after another: the leaves that they ended are written, and the row has their heads, too
pub record TakesAll (size : ℕ) (taken : List Entry) (old new : LeavesLeft) (row longer : List Entry) (from to : DraftState) : Type 0 where
  pub ended : List (List Entry)
  pub wrote : Wrote (blocks_from (leaf_block size) from.place ended) from to
  pub to_come : (items : List Entry) → leaves_to_come old (taken ++ items) ≡ ended ++ leaves_to_come new items
  pub row_is : longer ≡ row ++ heads from.place ended
  pub items : items_to_come new + length taken ≡ items_to_come old
  pub leaves : length ended + length new.sizes ≡ length old.sizes

-- these runs are held
pub record HasHeld (runs : List Run) (held : Held) : Type 0 where
  pub runs_are : held_runs held ≡ runs
  pub number : held.number ≡ length (mappings_of_runs runs)

-- they ascend from a bound on, and end below another one
abbrev pub Rises : ℕ → ℕ → List ℕ → Type 0
Rises low end [] = low ≤ end
Rises low end (key ∷ keys) = (low ≤ key) × Rises (key + 1) end keys

-- the keys of entries
abbrev pub keys_in : List Entry → List ℕ
keys_in entries = map (λ (e : Entry). e.key) entries

-- the end of runs, where there are some
abbrev pub end_after : ℕ → List Run → ℕ
end_after low [] = low
end_after low (r ∷ runs) = end_of (r ∷ runs)

-- each run has a mapping, and the mappings are lawful from a bound on and end at another one
pub record AreHeld (blocks low end : ℕ) (runs : List Run) : Type 0 where
  pub have : HaveMappings runs
  pub mappings : AreMappings blocks low (mappings_of_runs runs)
  pub ends : end_after low runs ≤ end

-- of a device with these pieces the own leaves are written, and the row of all leaves ends below a bound
pub record Grown (leaves : List (List Entry)) (d : ShapeDevice) (low : ℕ) (o : Growing) (from to : DraftState) : Type 0 where
  pub id : o.id ≡ d.id
  pub written : Wrote (own_blocks_from from.place d.pieces) from to
  pub row : o.row ≡ pieces_row leaves from.place d.pieces
  pub rises : Rises 0 low (keys_in o.row)
  pub filled : AllByRecursion IsFilled d.pieces
  pub own : o.own ≡ length (flat_map own_leaves d.pieces)
  pub uses : o.uses ≡ length (flat_map uses_of_piece d.pieces)
  pub few : o.own + o.uses ≤ 2 ^ 61

-- how many blocks of the tree of a device with so many leaves of its own and so many uses are there besides the shared
-- leaves: one without any has an empty leaf
abbrev pub need_begun : ℕ → ℕ → ℕ
need_begun mine uses = mine + need_above 10 (mine + uses)

abbrev pub need_ended : ℕ → ℕ → ℕ
need_ended mine uses = if (mine + uses) == 0 then 1 else need_begun mine uses

-- where its numbers are those of a tree
abbrev pub grown_need : ℕ → ℕ → ℕ → ℕ
grown_need mine uses number = need_begun (min mine (2 ^ 61) + nodes_for 252 number) (min uses (2 ^ 61))

-- of the open device, where there is one, whose piece that isn't over has so many mappings
abbrev pub open_need : Option Growing → ℕ → ℕ
open_need None number = 0
open_need (Some o) number = grown_need o.own o.uses number

-- how many blocks are yet to be written
abbrev pub need_left : ℕ → ℕ
need_left leaves = if leaves == 0 then 1 else need_above 10 leaves

-- what is left of the tree of a device has room
pub record CanFinish (o : Growing) (now : DraftState) : Type 0 where
  pub leaves : List (List Entry)
  pub device : ShapeDevice
  pub low : ℕ
  pub from : DraftState
  pub grown : Grown leaves device low o from now
  pub room : now.place + need_left (o.own + o.uses) ≤ now.device.blocks

-- the same where runs of a piece are held
pub record CanEndTree (o : Growing) (held : Held) (now : DraftState) : Type 0 where
  pub leaves : List (List Entry)
  pub device : ShapeDevice
  pub blocks : ℕ
  pub low : ℕ
  pub end : ℕ
  pub from : DraftState
  pub grown : Grown leaves device low o from now
  pub small : blocks ≤ 2 ^ 40
  pub runs_are : AreHeld blocks low end (held_runs held)
  pub number : HasHeld (held_runs held) held
  pub few : o.own + nodes_for 252 held.number + o.uses ≤ 2 ^ 61
  pub room : now.place + nodes_for 252 held.number + need_left (o.own + nodes_for 252 held.number + o.uses) ≤ now.device.blocks
