-- What an audit knows of an image once the walk and settling found no rule broken.
-- What a stage adds to the rules of an audit.
-- Keys that count from 0, by the note of a tree's root.
-- Keys that ascend.
use Rattle.std.specs.Prelude.{◌≡◌, ℕ, ◌<◌, ◌≤◌, ◌==◌, true, false, List, length, ◌||◌, ◌+◌, Bool, ◌&&◌, Option, Some, None, suc, [], ◌∷◌}
use Rattle.std.specs.List.{list_any}
use Rattle.pd_kinds.specs.declared.rule.Rule.{Rule}
use Rattle.pd_kinds.specs.Graph.{Graph, pair, is_reached, meta_count, children}
use Rattle.pd_kinds.specs.Lawful.{IsLawful}
use Rattle.pd_kinds.specs.Stages.{walk_bad, order_bad, IsReached}
use Rattle.pd_kinds.specs.Trees.{entries_below, keys_of}
use Rattle.pd_kinds.specs.Whole.{WholeTest, whole_bad}
use Rattle.pd_graph.specs.declared.audit.Audit.{Audit}
use Rattle.pd_graph.specs.declared.notes.Note.{Note}
use Rattle.pd_graph.specs.Audit.{blocks_of, roles_at, count_at, note_at, has_rule_at, KeepsButRules}
use Rattle.pd_graph.specs.Marks.{has_bit}
use Rattle.pd_settle.specs.Notes.{least_of, greatest_of}
use Rattle.pd_settle.specs.Settled.{IsSettled}
use Rattle.pd_tree.specs.Search.{IsTreeRole}

-- the note is that of these keys
pub record IsNoteOf (keys : List ℕ) (note : Note) : Type 0 where
  pub least : note.least ≡ least_of keys
  pub greatest : note.greatest ≡ greatest_of keys
  pub below : note.below ≡ length keys

-- the roles and the references of each block were met, no rule is broken, and trees were settled
pub record IsWellSettled (graph : Graph) (image : List (List ℕ)) (audit : Audit) : Type 0 where
  pub roles : (b role : ℕ) → b < graph.nr → role < 16 → has_bit (roles_at audit b) role ≡ is_reached graph image (pair b role)
  pub counts : (b : ℕ) → b < graph.nr → count_at audit b ≡ meta_count graph image b
  pub walked : (b : ℕ) (wanted : Rule) → b < graph.nr → walk_bad graph image b wanted ≡ false
  pub in_order : (b : ℕ) (wanted : Rule) → b < graph.nr → order_bad graph image b wanted ≡ false
  pub settled : IsSettled graph image audit

-- each block is reached in one role, the audit has that role and the references to the block, and for each node of a
-- tree a note of the keys below it, whose height is at most 64 and above that of each child
pub record IsKnown (graph : Graph) (image : List (List ℕ)) (audit : Audit) : Type 0 where
  pub lawful : IsLawful graph
  pub number : blocks_of audit ≡ graph.nr
  pub alone : (b role other : ℕ) → IsReached graph image b role → IsReached graph image b other → role ≡ other
  pub roles : (b role : ℕ) → b < graph.nr → role < 16 → has_bit (roles_at audit b) role ≡ is_reached graph image (pair b role)
  pub counts : (b : ℕ) → b < graph.nr → count_at audit b ≡ meta_count graph image b
  pub notes : (b role size : ℕ) → IsTreeRole graph role size → IsReached graph image b role
      → IsNoteOf (keys_of (entries_below graph image size role b)) (note_at audit b)
  pub low : (b role size : ℕ) → IsTreeRole graph role size → IsReached graph image b role → (note_at audit b).height ≤ 64
  pub above : (b c role size : ℕ) → IsTreeRole graph role size → IsReached graph image b role
      → list_any (λ t. t == pair c role) (children graph image (pair b role)) ≡ true → (note_at audit c).height < (note_at audit b).height

-- each block has the rules that it had, and those that it breaks by these tests; all else stays
pub record Charges (tests : List WholeTest) (old new : Audit) : Type 0 where
  pub rules : (b : ℕ) (wanted : Rule) → b < blocks_of old → has_rule_at new b wanted ≡ (has_rule_at old b wanted || whole_bad tests b wanted)
  pub kept : KeepsButRules old new

-- so many keys, of which this is the greatest, are 0 to n - 1, where they ascend
abbrev pub counts_to : Option ℕ → ℕ → ℕ → Bool
counts_to None below n = n == 0
counts_to (Some greatest) below n = (below == n) && (greatest + 1 == n)

-- by the note
abbrev pub is_counting_note : Note → ℕ → Bool
is_counting_note note n = counts_to note.greatest note.below n

-- the first key is at the low end or above it, and each later one is above the one before it
abbrev pub IsUp : ℕ → List ℕ → Type 0
IsUp low [] = Unit {0}
IsUp low (key ∷ keys) = (low ≤ key) × IsUp (suc key) keys
