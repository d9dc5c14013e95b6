-- What an audit tells of each block.
use Rattle.std.specs.Prelude.{◌≡◌, ℕ, Bool, false, ◌||◌, ◌&&◌, slice_index}
use Rattle.pd_kinds.specs.declared.rule.Rule.{Rule}
use Rattle.pd_kinds.specs.Rule.{same_rule}
use Rattle.pd_kinds.specs.declared.rule.Rule.TheVariants as r
use Rattle.pd_graph.specs.declared.audit.Audit.{Audit}
use Rattle.pd_graph.specs.declared.notes.Note.{Note}
use Rattle.pd_graph.specs.Marks.{has_several, has_rule_in, seen_of, counts_of, rules_of, IsUnmarked}
use Rattle.pd_graph.specs.Notes.{no_note, note_in}

-- the number of blocks
abbrev pub blocks_of : Audit → ℕ
blocks_of audit = audit.nr

-- whether the walk has ended, without a failure
abbrev pub has_walked : Audit → Bool
has_walked audit = audit.walked

-- the roles in which the block was met, as bits
abbrev pub roles_at : Audit → ℕ → ℕ
roles_at audit b = slice_index (seen_of audit.marks) b

-- whether the block has the rule: it was marked with it, or it is Role and the block has several roles
abbrev pub has_rule_at : Audit → ℕ → Rule → Bool
has_rule_at audit b wanted =
    has_rule_in (rules_of audit.marks) b wanted || (has_several (roles_at audit b) && same_rule r.Role wanted)

-- how many references to the block were met
abbrev pub count_at : Audit → ℕ → ℕ
count_at audit b = slice_index (counts_of audit.marks) b

-- the note of a block
abbrev pub note_at : Audit → ℕ → Note
note_at audit b = note_in audit.notes b

-- an audit of so many blocks that knows nothing of them
pub record IsNew (nr : ℕ) (audit : Audit) : Type 0 where
  pub number : blocks_of audit ≡ nr
  pub walked : has_walked audit ≡ false
  pub roles : (b : ℕ) → roles_at audit b ≡ 0
  pub rules : (b : ℕ) (rule : Rule) → has_rule_at audit b rule ≡ false
  pub counts : (b : ℕ) → count_at audit b ≡ 0
  pub notes : (b : ℕ) → note_at audit b ≡ no_note
  -- and the walk may begin
  pub unmarked : IsUnmarked audit.marks

-- all but the rules stays
pub record KeepsButRules (old new : Audit) : Type 0 where
  pub number : blocks_of new ≡ blocks_of old
  pub walked : has_walked new ≡ has_walked old
  pub roles : (b : ℕ) → roles_at new b ≡ roles_at old b
  pub counts : (b : ℕ) → count_at new b ≡ count_at old b
  pub notes : (b : ℕ) → note_at new b ≡ note_at old b

-- all but the notes stays
pub record KeepsButNotes (old new : Audit) : Type 0 where
  pub number : blocks_of new ≡ blocks_of old
  pub walked : has_walked new ≡ has_walked old
  pub roles : (b : ℕ) → roles_at new b ≡ roles_at old b
  pub rules : (b : ℕ) (rule : Rule) → has_rule_at new b rule ≡ has_rule_at old b rule
  pub counts : (b : ℕ) → count_at new b ≡ count_at old b

-- all but whether the walk has ended stays
pub record KeepsMarks (old new : Audit) : Type 0 where
  pub number : blocks_of new ≡ blocks_of old
  pub roles : (b : ℕ) → roles_at new b ≡ roles_at old b
  pub rules : (b : ℕ) (rule : Rule) → has_rule_at new b rule ≡ has_rule_at old b rule
  pub counts : (b : ℕ) → count_at new b ≡ count_at old b
  pub notes : (b : ℕ) → note_at new b ≡ note_at old b
