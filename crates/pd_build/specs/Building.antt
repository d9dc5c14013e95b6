-- A tree or an array that is being built: what a caller's loop keeps.
-- How a call ends that has no answer where memory is wanting, or the device of a draft failed.
use Rattle.std.specs.Prelude.{◌≡◌, ℕ, ◌+◌, ◌≤◌, true, List, [], ◌∷◌, ◌++◌, length, map, Result, MatchResult}
use Rattle.pd_kinds.specs.Node.{Entry, is_ascending}
use Rattle.pd_kinds.specs.Objects.{Rose}
use Rattle.pd_grammar.specs.Need.{need_tree, need_array}
use Rattle.pd_laid.specs.Laid.{tree_blocks, tree_root, array_root}
use Rattle.pd_draft.specs.Closed.{DraftState, Wrote}
use Rattle.pd_build.specs.Tree.{items_to_come, TreeLeft, blocks_left, root_left, number_left}
use Rattle.pd_build.specs.Array.{ArrayLeft, array_blocks, array_left, array_root_left, array_number}
use Rattle.pd_build.specs.declared.fault.BuildFault.{BuildFault}
use Rattle.pd_build.specs.declared.fault.BuildFault.TheVariants.{Memory, Device}

-- the first item, if there is one, has at least this key
abbrev pub StartsAt : ℕ → List Entry → Type 0
StartsAt low [] = Unit {0}
StartsAt low (e ∷ items) = low ≤ e.key

-- the tree of all these items is begun: these items are to come
pub record IsBuilding (size : ℕ) (all items : List Entry) (t : TreeLeft) (from to : DraftState) : Type 0 where
  pub done : List (List ℕ)
  pub wrote : Wrote done from to
  pub whole : tree_blocks size from.place all ≡ done ++ blocks_left size to.place t items
  pub root : root_left to.place t items ≡ tree_root size from.place all
  pub number : items_to_come t.leaves ≡ length items
  pub room : to.place + number_left t ≡ from.place + need_tree size (length all)
  pub ascending : is_ascending (map (λ (e : Entry). e.key) items) ≡ true
  pub above : StartsAt t.leaves.low items

-- the array of all these words is begun: these words are to come
pub record IsFilling (size : ℕ) (all words : List ℕ) (t : ArrayLeft) (from to : DraftState) : Type 0 where
  pub done : List (List ℕ)
  pub wrote : Wrote done from to
  pub sized : t.size ≡ size
  pub whole : array_blocks size from.place all ≡ done ++ array_left size to.place t.words words
  pub root : array_root_left size to.place t.words words ≡ array_root size from.place all
  pub number : t.words.left ≡ length words
  pub room : to.place + array_number size t.words ≡ from.place + need_array size (length all)
  pub stood : t.words.made ≤ to.place

-- the device's count of faults where a builder stops: it rose where the device failed, and else stayed
abbrev pub Blames : BuildFault → ℕ → ℕ → Type 0
Blames Memory old new = new ≡ old
Blames Device old new = Rose old new × (old ≤ new)

-- the device's count of faults rose where the call says that the device failed, and else stayed
abbrev pub CountsBuildFault : {R : Type 0} → Result R BuildFault → ℕ → ℕ → Type 0
CountsBuildFault result old new = MatchResult result (λ _. new ≡ old) (λ fault. Blames fault old new)
