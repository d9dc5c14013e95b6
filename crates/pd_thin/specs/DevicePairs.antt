-- A mapping tree and the details tree beside it, entry by entry.
-- What is left of a cursor whose next entry is at hand.
-- What is left of a mapping tree and the details tree beside it.
use Rattle.std.specs.Prelude.{◌≡◌, ℕ, ◌/◌, ◌%◌, ◌^◌, ◌<◌, Bool, true, ◌==◌, ◌&&◌, ◌||◌, not, nat_lt, if◌then◌else◌, List, [], map, filter, Option, Some, None, IfNone, zero, suc, ◌++◌, ◌+◌, length}
use Rattle.std.specs.List.{flat_map}
use Rattle.std.specs.Str.{bytes_eq}
use Rattle.std.specs.Option.{option_to_list}
use Rattle.pd_kinds.specs.declared.rule.Rule.{Rule}
use Rattle.pd_kinds.specs.Whole.{WholeTest, whole_bad}
use Rattle.pd_kinds.specs.declared.rule.Rule.TheVariants as r
use Rattle.pd_value.specs.declared.thin.Root.{Root}
use Rattle.pd_value.specs.declared.thin.Details.{Details}
use Rattle.pd_graph.specs.declared.audit.Audit.{Audit}
use Rattle.pd_graph.specs.Audit.{blocks_of, has_rule_at, KeepsButRules}
use Rattle.pd_tree.specs.Cursor.{cursor_items, cursor_nodes, cursor_number}
use Rattle.pd_check.specs.Known.{IsUp}
use Rattle.pd_thin.specs.declared.device_pairs.Turn.{Turn}
use Rattle.pd_thin.specs.declared.device_pairs.Turn.TheVariants.{End, Both, Top, Detail}
use Rattle.pd_thin.specs.declared.device_pairs.Peeked.{Peeked}
use Rattle.pd_thin.specs.declared.device_pairs.DeviceCursors.{DeviceCursors}

-- the keys of entries
abbrev pub firsts : {X : Type 0} → List (ℕ × X) → List ℕ
firsts {X} items = map (λ (item : ℕ × X). item.0) items

-- the details that a number of 24 bytes stands for
abbrev pub details_of : ℕ → Details
details_of number = record {
  mapped = number % 2 ^ 64;
  transaction = number / 2 ^ 64 % 2 ^ 64;
  created = number / 2 ^ 128 % 2 ^ 32;
  snapped = number / 2 ^ 160;
}

-- what the next entries come to: those with the lesser key come first
abbrev pub turn_of : Option (ℕ × Root) → Option (ℕ × Details) → Turn
turn_of None None = End
turn_of (Some top) None = Top
turn_of None (Some detail) = Detail
turn_of (Some top) (Some detail) =
    if top.0 == detail.0 then Both top.1.0 detail.1.mapped else if nat_lt top.0 detail.0 then Top else Detail

-- a device that both trees have: its mapped number is that of the entries below its root
abbrev pub mapped_test : (ℕ → ℕ) → Root → ℕ → WholeTest
mapped_test below root mapped = record { block = root.0; rule = r.Mapped; fails = not (mapped == below root.0) }

-- the tests of all devices that both trees have
unfoldable pub mapped_of : (ℕ → ℕ) → List (ℕ × Root) → List (ℕ × Details) → List WholeTest
mapped_of below tops details =
    flat_map (λ (top : ℕ × Root).
    map (λ (detail : ℕ × Details). mapped_test below top.1 detail.1.mapped) (filter (λ (detail : ℕ × Details). detail.0 == top.0) details))
    tops

-- entries that ascend, of which this one is the first
pub record IsLeft {X : Type 0} (first : Option (ℕ × X)) (items : List (ℕ × X)) : Type 0 where
  pub up : IsUp 0 (firsts items)
  pub end : IfNone first (items ≡ [])

-- turns, which found the same keys in both trees or not: what was charged, and what is left to be charged, is all
-- that was left before
pub record IsOnWay (below : ℕ → ℕ) (old new : Audit) (top : Option (ℕ × Root)) (detail : Option (ℕ × Details))
    (tops tops' : List (ℕ × Root)) (details details' : List (ℕ × Details)) (same : Bool) : Type 0 where
  pub left_tops : IsLeft top tops'
  pub left_details : IsLeft detail details'
  pub charged : (b : ℕ) (wanted : Rule) → b < blocks_of old
      → (has_rule_at new b wanted || whole_bad (mapped_of below tops' details') b wanted) ≡ (has_rule_at old b wanted || whole_bad (mapped_of below tops details) b wanted)
  pub keys : (same && bytes_eq (firsts details') (firsts tops')) ≡ bytes_eq (firsts details) (firsts tops)
  pub kept : KeepsButRules old new

-- whether a turn found the same key, or nothing, in both trees
abbrev pub found_same : Option Bool → Bool
found_same None = true
found_same (Some both) = both

-- the entries: the one at hand, and then those of the cursor
abbrev pub peeked_items : {V : Type 0} → ℕ → (ℕ → V) → List (List ℕ) → Peeked V → List (ℕ × V)
peeked_items {V} size decoded image ahead = option_to_list ahead.first ++ cursor_items size decoded image ahead.cursor

-- the blocks that are still to be read
abbrev pub peeked_nodes : {V : Type 0} → ℕ → List (List ℕ) → Peeked V → List ℕ
peeked_nodes size image ahead = cursor_nodes size image ahead.cursor

-- a number that falls with each entry
abbrev pub number_with : {X : Type 0} → Option X → ℕ → ℕ
number_with None number = zero
number_with (Some x) number = suc number

abbrev pub peeked_number : {V : Type 0} → ℕ → Peeked V → ℕ
peeked_number size ahead = number_with ahead.first (cursor_number size ahead.cursor)

-- how many reads it takes at the most
abbrev pub cursors_reads : List (List ℕ) → DeviceCursors → ℕ
cursors_reads image cursors = length (peeked_nodes 8 image cursors.tops) + length (peeked_nodes 24 image cursors.details)

-- a number that falls with each turn
abbrev pub cursors_number : DeviceCursors → ℕ
cursors_number cursors = peeked_number 8 cursors.tops + peeked_number 24 cursors.details

-- no entry of either tree is at hand
pub record HaveNoEntry (cursors : DeviceCursors) : Type 0 where
  pub tops : cursors.tops.first ≡ None
  pub details : cursors.details.first ≡ None
