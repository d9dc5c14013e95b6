-- What a walk leaves: the reachable pairs, the rules that their blocks break, and the references.
-- The sum of the weights of the numbers that pass a test, below a bound.
use Rattle.std.specs.Prelude.{ℕ, ◌+◌, Bool, if◌then◌else◌, List, [], ◌∷◌, ◌≡◌, ◌⊎◌, ◌*◌, ◌%◌, ◌<◌, ◌≤◌, true, false, ◌==◌, ◌&&◌, map, slice_index}
use Rattle.std.specs.List.{range_with_len, list_any, count_by}
use Rattle.pd_kinds.specs.declared.rule.Rule.{Rule}
use Rattle.pd_kinds.specs.Graph.{Edge, Graph, block_at, pair, edges_of, next, is_reached, meta_count}
use Rattle.pd_kinds.specs.Stages.{walk_bad}
use Rattle.pd_kinds.specs.Paths.{IsOnPath}
use Rattle.pd_graph.specs.declared.audit.Audit.{Audit}
use Rattle.pd_graph.specs.declared.marks.Marks.{Marks}
use Rattle.pd_graph.specs.declared.notes.Note.{Note}
use Rattle.pd_graph.specs.Format.{IsSound}
use Rattle.pd_graph.specs.Notes.{no_note, ends_note}
use Rattle.pd_graph.specs.Marks.{has_bit, is_in, IsAllRead, HasPlaces, has_rule_in, seen_of, read_of, counts_of, rules_of}
use Rattle.pd_graph.specs.Audit.{roles_at, has_rule_at, count_at, note_at}

-- the sum of the weights of the elements that pass the test
abbrev pub weigh_list : (ℕ → Bool) → (ℕ → ℕ) → List ℕ → ℕ
weigh_list f w [] = 0
weigh_list f w (x ∷ xs) = (if f x then w x else 0) + weigh_list f w xs

-- and of the numbers below n
unfoldable pub weigh : (ℕ → Bool) → (ℕ → ℕ) → ℕ → ℕ
weigh f w n = weigh_list f w (range_with_len 0 n)

-- the audit has the marks of the walk of this image
pub record IsWalked (graph : Graph) (image : List (List ℕ)) (audit : Audit) : Type 0 where
  pub roles : (b role : ℕ) → b < graph.nr → role < 16 → has_bit (roles_at audit b) role ≡ is_reached graph image (pair b role)
  pub rules : (b : ℕ) (wanted : Rule) → b < graph.nr → has_rule_at audit b wanted ≡ walk_bad graph image b wanted
  pub counts : (b : ℕ) → b < graph.nr → count_at audit b ≡ meta_count graph image b

-- the block is a leaf of a tree in the role, and breaks no rule there
pub record IsLeaf (graph : Graph) (role place : ℕ) (block : List ℕ) : Type 0 where
  pub tree : graph.is_tree role ≡ true
  pub sound : IsSound graph role place block
  pub leaf : graph.is_inner role place block ≡ false

-- the note is that of the block as a leaf, in one of the roles that pass
pub record IsLeafNote (graph : Graph) (image : List (List ℕ)) (pairs : ℕ → Bool) (b : ℕ) (note : Note) : Type 0 where
  pub role : ℕ
  pub within : role < 16
  pub passes : pairs (pair b role) ≡ true
  pub leaf : IsLeaf graph role b (block_at image b)
  pub same : note ≡ ends_note (graph.keys role b (block_at image b))

-- the leaves among the pairs are noted, and nothing else is
pub record AreLeavesNoted (graph : Graph) (image : List (List ℕ)) (pairs : ℕ → Bool) (notes : ℕ → Note) : Type 0 where
  pub only : (b : ℕ) → (notes b ≡ no_note) ⊎ IsLeafNote graph image pairs b (notes b)
  pub each : (b role : ℕ) → role < 16 → pairs (pair b role) ≡ true → IsLeaf graph role b (block_at image b) → (notes b).height ≡ 1

-- a look at a block notes it as a leaf, and no other
pub record NotesLeaf (graph : Graph) (role b : ℕ) (block : List ℕ) (old new : ℕ → Note) : Type 0 where
  pub leaf : IsLeaf graph role b block
  pub notes : (c : ℕ) → new c ≡ (if c == b then ends_note (graph.keys role b block) else old c)

-- or it is none, and nothing is noted
pub record NotesNone (graph : Graph) (role b : ℕ) (block : List ℕ) (old new : ℕ → Note) : Type 0 where
  pub none : IsLeaf graph role b block → ⊥
  pub notes : (c : ℕ) → new c ≡ old c

-- the audit has the notes of the leaves that are reached
abbrev pub HasNotedLeaves : Graph → List (List ℕ) → Audit → Type 0
HasNotedLeaves graph image audit = AreLeavesNoted graph image (is_reached graph image) (note_at audit)

-- how many pairs were read
unfoldable pub read_number : ℕ → Marks → ℕ
read_number nr marks = weigh (is_in (read_of marks)) (λ p. 1) (16 * nr)

-- how many edges of a pair lead to a block
unfoldable pub edges_to : Graph → List (List ℕ) → ℕ → ℕ → ℕ
edges_to graph image b p = count_by (λ r. r == b) (map (λ (edge : Edge). edge.block) (edges_of graph image p))

-- what holds on the way over any device
pub record IsSafe (graph : Graph) (marks : Marks) : Type 0 where
  pub places : HasPlaces graph.nr marks
  -- only roles that there are were met
  pub known : (p : ℕ) → is_in (seen_of marks) p ≡ true → p % 16 < graph.roles
  -- only what was met was read
  pub met : (p : ℕ) → is_in (read_of marks) p ≡ true → is_in (seen_of marks) p ≡ true
  -- each pair that was read has at most 255 edges
  pub room : (b : ℕ) → slice_index (counts_of marks) b ≤ 1 + 255 * read_number graph.nr marks

-- what holds on the way over a device that tells what it holds
pub record IsTold (graph : Graph) (image : List (List ℕ)) (marks : Marks) : Type 0 where
  -- the superblock was met
  pub start : is_in (seen_of marks) 0 ≡ true
  -- only pairs at the end of a path were met
  pub sound : (p : ℕ) → is_in (seen_of marks) p ≡ true → IsOnPath (16 * graph.nr) (next graph image) p
  -- what the pairs that were read lead to was met
  pub closed : (p t : ℕ) → is_in (read_of marks) p ≡ true → list_any (λ s. s == t) (next graph image p) ≡ true → is_in (seen_of marks) t ≡ true
  -- the references are those of the pairs that were read, and the one to the superblock
  pub counts : (b : ℕ) → slice_index (counts_of marks) b
      ≡ (if 0 == b then 1 else 0) + weigh (is_in (read_of marks)) (edges_to graph image b) (16 * graph.nr)
  -- the rules are those that a block breaks in the roles in which it was read
  pub rules : (b : ℕ) (wanted : Rule) → has_rule_in (rules_of marks) b wanted
      ≡ list_any (λ role. is_in (read_of marks) (pair b role) && graph.bad role b (block_at image b) wanted) (range_with_len 0 16)

-- and in the end all that was met was read
pub record IsDone (graph : Graph) (image : List (List ℕ)) (marks : Marks) : Type 0 where
  pub safe : IsSafe graph marks
  pub told : IsTold graph image marks
  pub all : IsAllRead (seen_of marks) (read_of marks)
