-- What the tables of the walk hold.
-- The values of a table.
-- Sets of roles as the bits of a number, and tables of them by block.
use Rattle.std.specs.Prelude.{◌-◌, List, ◌++◌, length, replicate, ◌≡◌, ℕ, ◌+◌, ◌*◌, ◌/◌, ◌%◌, ◌<◌, Bool, true, false, ◌==◌, nat_lt, filter, slice_index, zero, suc, ◌||◌, ◌&&◌, [], ◌∷◌, map}
use Rattle.std.specs.List.{range_with_len, list_any, count_by}
use Rattle.std.specs.Int.{bit_at}
use Rattle.pd_kinds.specs.declared.rule.Rule.{Rule}
use Rattle.pd_kinds.specs.declared.rules.Rules.{Rules}
use Rattle.pd_kinds.specs.Rule.{has_rule}
use Rattle.pd_kinds.specs.Graph.{Edge, pair}
use Rattle.pd_graph.specs.declared.block_table.BlockTable.{BlockTable}
use Rattle.pd_graph.specs.declared.marks.Marks.{Marks}

-- what was set, and behind it the same value at each place
unfoldable pub values_of : {X : Type 0} → BlockTable X → List X
values_of table = table.kept.items ++ replicate (table.places - length table.kept.items) table.unset

-- whether the bit of a role is set
abbrev pub has_bit : ℕ → ℕ → Bool
has_bit roles role = bit_at roles role == 1

-- a role that is in the first set and not in the second
pub record IsUnread (seen read role : ℕ) : Type 0 where
  pub within : role < 16
  pub met : has_bit seen role ≡ true
  pub unread : has_bit read role ≡ false

-- whether a table of such sets has the pair
unfoldable pub is_in : List ℕ → ℕ → Bool
is_in table p = has_bit (slice_index table (p / 16)) (p % 16)

-- whether two roles or more are in the set
unfoldable pub has_several : ℕ → Bool
has_several roles = nat_lt 1 (length (filter (has_bit roles) (range_with_len 0 16)))

-- a block that the first table has in a role, and the second has not
pub record IsUnreadAt (seen read : List ℕ) (b role : ℕ) : Type 0 where
  pub block : b < length seen
  pub within : role < 16
  pub met : is_in seen (16 * b + role) ≡ true
  pub unread : is_in read (16 * b + role) ≡ false

-- all pairs of the first table are in the second
pub record IsAllRead (seen read : List ℕ) : Type 0 where
  pub pairs : (p : ℕ) → is_in seen p ≡ true → is_in read p ≡ true

-- whether a table of sets of rules has the rule at this place
unfoldable pub has_rule_in : List Rules → ℕ → Rule → Bool
has_rule_in [] b wanted = false
has_rule_in (rules ∷ rest) zero wanted = has_rule rules wanted
has_rule_in (rules ∷ rest) (suc b) wanted = has_rule_in rest b wanted

-- the tables
abbrev pub seen_of : Marks → List ℕ
seen_of marks = values_of marks.seen

abbrev pub read_of : Marks → List ℕ
read_of marks = values_of marks.read

abbrev pub counts_of : Marks → List ℕ
counts_of marks = values_of marks.counts

abbrev pub rules_of : Marks → List Rules
rules_of marks = values_of marks.rules

-- each table has a place for each of so many blocks
pub record HasPlaces (nr : ℕ) (marks : Marks) : Type 0 where
  pub seen : length (seen_of marks) ≡ nr
  pub read : length (read_of marks) ≡ nr
  pub counts : length (counts_of marks) ≡ nr
  pub rules : length (rules_of marks) ≡ nr

-- the edges of a block were followed: what they lead to is seen, and counted once for each
pub record Follows (edges : List Edge) (old new : Marks) : Type 0 where
  pub places : (nr : ℕ) → HasPlaces nr old → HasPlaces nr new
  pub seen : (p : ℕ) → is_in (seen_of new) p
      ≡ (is_in (seen_of old) p || list_any (λ t. t == p) (map (λ (edge : Edge). pair edge.block edge.role) edges))
  pub read : read_of new ≡ read_of old
  pub counts : (b : ℕ) → slice_index (counts_of new) b
      ≡ slice_index (counts_of old) b + count_by (λ r. r == b) (map (λ (edge : Edge). edge.block) edges)

-- nothing is marked
pub record IsUnmarked (marks : Marks) : Type 0 where
  pub seen : (b : ℕ) → slice_index (seen_of marks) b ≡ 0
  pub read : (b : ℕ) → slice_index (read_of marks) b ≡ 0
  pub counts : (b : ℕ) → slice_index (counts_of marks) b ≡ 0
  pub rules : (b : ℕ) (rule : Rule) → has_rule_in (rules_of marks) b rule ≡ false

-- the tables stay
pub record KeepsTables (old new : Marks) : Type 0 where
  pub seen : seen_of new ≡ seen_of old
  pub read : read_of new ≡ read_of old
  pub counts : counts_of new ≡ counts_of old
  pub rules : rules_of new ≡ rules_of old

-- an unread pair was taken: now it is read
pub record TakesPair (b role : ℕ) (old new : Marks) : Type 0 where
  pub places : (nr : ℕ) → HasPlaces nr old → HasPlaces nr new
  pub found : IsUnreadAt (seen_of old) (read_of old) b role
  pub read : (p : ℕ) → is_in (read_of new) p ≡ (is_in (read_of old) p || (p == pair b role))
  pub seen : seen_of new ≡ seen_of old
  pub counts : counts_of new ≡ counts_of old
  pub rules : rules_of new ≡ rules_of old

-- a pair was looked at: its edges were followed, and its block has the rules that it breaks in this role
pub record LooksAtPair (edges : List Edge) (b : ℕ) (bad : Rule → Bool) (old new : Marks) : Type 0 where
  pub follows : Follows edges old new
  pub rules : (c : ℕ) (wanted : Rule) → has_rule_in (rules_of new) c wanted
      ≡ (has_rule_in (rules_of old) c wanted || ((c == b) && bad wanted))
