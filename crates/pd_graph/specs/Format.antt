-- What the calls of a format speak of.
-- The pairs of a block and a role that a watcher of a walk was shown.
use Rattle.std.specs.Prelude.{◌≡◌, ℕ, ◌<◌, Bool, true, false, List, length, ◌==◌, ◌||◌}
use Rattle.pd_kinds.specs.declared.rule.Rule.{Rule}
use Rattle.pd_kinds.specs.Graph.{Edge, Graph}

-- a block without a bad rule in this role
abbrev pub IsSound : Graph → ℕ → ℕ → List ℕ → Type 0
IsSound graph role place block = (broken : Rule) → graph.bad role place block broken ≡ false

-- what the bytes of a block say, whatever rules it breaks: each function takes a role and the bytes
pub record Contents : Type 0 where
  -- whether it is an inner node of a tree
  pub is_inner : ℕ → List ℕ → Bool
  -- the blocks that it names, with their roles
  pub edges : ℕ → List ℕ → List Edge
  -- the keys of a node of a tree
  pub keys : ℕ → List ℕ → List ℕ
  -- the data blocks that it names
  pub data_refs : ℕ → List ℕ → List ℕ

-- the contents of a block without a bad rule are what the format says of it
pub record AreContents (graph : Graph) (contents : Contents) : Type 0 where
  pub is_inner : (role place : ℕ) (block : List ℕ) → role < graph.roles → IsSound graph role place block
      → graph.is_inner role place block ≡ contents.is_inner role block
  pub edges : (role place : ℕ) (block : List ℕ) → role < graph.roles → IsSound graph role place block
      → graph.edges role place block ≡ contents.edges role block
  pub keys : (role place : ℕ) (block : List ℕ) → role < graph.roles → IsSound graph role place block
      → graph.keys role place block ≡ contents.keys role block
  pub data_refs : (role place : ℕ) (block : List ℕ) → role < graph.roles → IsSound graph role place block
      → graph.data_refs role place block ≡ contents.data_refs role block
  -- the bytes of an inner node have a key for each edge
  pub inner_keys : (role : ℕ) (block : List ℕ) → role < graph.roles → contents.is_inner role block ≡ true
      → length (contents.keys role block) ≡ length (contents.edges role block)

-- a pair more, which wasn't among them
pub record IsOneMore (p : ℕ) (before after : ℕ → Bool) : Type 0 where
  pub unseen : before p ≡ false
  pub pairs : (q : ℕ) → after q ≡ (before q || (q == p))

-- the same pairs
abbrev pub AreSame : (ℕ → Bool) → (ℕ → Bool) → Type 0
AreSame pairs others = (p : ℕ) → others p ≡ pairs p

-- none
abbrev pub no_pairs : ℕ → Bool
no_pairs p = false
