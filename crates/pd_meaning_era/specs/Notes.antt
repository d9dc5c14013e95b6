-- What is known of the blocks of writesets that were met.
-- The words of what stands on a level: on level 0 an array block, and above it nodes, each from which one inner edge fewer
-- leads on at most.
-- What rows raise: each is an array block at one place in the array of a writeset.
-- What comes of the blocks on the way to the array blocks.
use Rattle.std.specs.Prelude.{◌≡◌, ℕ, zero, suc, ◌+◌, ◌*◌, ◌≤◌, ◌⊎◌, List, length, map, ◌<◌, ◌==◌, max, not, Bool, true, if◌then◌else◌, [], ◌∷◌, ◌++◌, fold, slice_index, ◌-◌, ◌^◌, nat_lt, slice_index_or}
use Rattle.std.specs.List.{flat_map}
use Rattle.pd_kinds.specs.Graph.{block_at}
use Rattle.pd_kinds.specs.EraFormat.{EraFields}
use Rattle.pd_value.specs.declared.thin.Root.{Root}
use Rattle.pd_value.specs.declared.era.Writeset.{Writeset}
use Rattle.pd_graph.specs.Marks.{values_of}
use Rattle.pd_tree.specs.Below.{items_below, items_from}
use Rattle.pd_tree.specs.Cursor.{root_of, words_from, words_of_items}
use Rattle.pd_meaning_era.specs.declared.notes.Row.{Row}
use Rattle.pd_meaning_era.specs.Eras.{era_of_key, from_era, is_current, sets_below, with_sets, holds_from, raised, words_below, holds}
use Rattle.pd_meaning_era.specs.declared.notes.ArrayNote.{ArrayNote}
use Rattle.pd_meaning_era.specs.declared.notes.Walk.{Walk}
use Rattle.pd_meaning_era.specs.declared.descent.Opened.{Opened}
use Rattle.pd_meaning_era.specs.declared.descent.Opened.TheVariants.{Done, Below}

unfoldable pub words_at : List (List ℕ) → ℕ → ℕ → List ℕ
words_at image zero b = words_from 8 (block_at image b) 0
words_at image (suc j) b = words_of_items 8 image (items_below 8 root_of image j b)

-- of several blocks
unfoldable pub words_at_each : List (List ℕ) → ℕ → List ℕ → List ℕ
words_at_each image level bs = flat_map (words_at image level) bs

-- the array blocks that a leaf names
abbrev pub arrays_of : List ℕ → List ℕ
arrays_of leaf = map (λ (item : ℕ × Root). item.1.0) (items_from 8 root_of leaf 0)

-- that number has the word after these ones, the first of which has this number, or one past the blocks that count
pub record IsAfter (end first : ℕ) (words : List ℕ) (next : ℕ) : Type 0 where
  pub least : first ≤ next
  pub most : next ≤ first + length words
  pub all : (next ≡ first + length words) ⊎ (end ≤ 64 * next)

-- whether a row holds a block, and the era that it then gives it
abbrev pub row_holds : List (List ℕ) → Row → ℕ → Bool
row_holds image row b = holds_from row.end row.first (words_from 8 (block_at image row.block) 0) b

abbrev pub row_era : List (List ℕ) → ℕ → Row → ℕ
row_era image b row = if row_holds image row b then row.era else 0

-- the era that rows raise
abbrev pub with_rows : List (List ℕ) → List Row → ℕ → ℕ → ℕ
with_rows image rows b x = fold max x (map (row_era image b) rows)

-- the rows give the blocks that are held this era besides what they gave
pub record Adds (image : List (List ℕ)) (era : ℕ) (held : ℕ → Bool) (old new : List Row) : Type 0 where
  pub each : (b x : ℕ) → with_rows image new b x ≡ raised era (held b) (with_rows image old b x)

-- rows give each block that is held at least this era
pub record Cover (image : List (List ℕ)) (era : ℕ) (held : ℕ → Bool) (rows : List Row) : Type 0 where
  pub each : (b : ℕ) → held b ≡ true → era ≤ with_rows image rows b 0

-- of a target's blocks, rows raise those of these writesets besides
pub record HasSets (image : List (List ℕ)) (blocks : ℕ) (sets : List (ℕ × Writeset)) (old new : List Row) : Type 0 where
  pub each : (b x : ℕ) → b < blocks → with_rows image new b x ≡ with_sets image sets b (with_rows image old b x)

-- whether an archived writeset is of this era or a later one
abbrev pub is_set_from : ℕ → ℕ × Writeset → Bool
is_set_from least item = not (nat_lt (era_of_key item.0) least)

-- the archived writesets, and the current one, where there is one of this era or a later one, beside its era
abbrev pub sets_of : ℕ → List (ℕ × Writeset) → EraFields → List (ℕ × Writeset)
sets_of least archived fields =
    if fields.current_root == 0 then archived
    else if nat_lt fields.era least then archived
    else archived ++ (fields.era, record { bits = fields.current_bits; root = fields.current_root }) ∷ []

-- from this era on, rows raise an era of a target's block just as its writesets do
pub record HasRows (image : List (List ℕ)) (fields : EraFields) (least : ℕ) (rows : List Row) : Type 0 where
  pub each : (b x : ℕ) → b < fields.blocks
      → from_era least (with_rows image rows b x)
      ≡ from_era least (max (with_sets image (sets_below image fields.writesets_root) b x) (if is_current image fields b then fields.era else 0))

-- the eras of a part of the blocks, whose first word has this number, were raised by rows
pub record RaisesRows (image : List (List ℕ)) (base : ℕ) (rows : List Row) (old new : List ℕ) : Type 0 where
  pub number : length new ≡ length old
  pub each : (i : ℕ) → i < length old → slice_index new i ≡ with_rows image rows (64 * base + i) (slice_index old i)

-- what is noted of a block
abbrev pub no_note : ArrayNote
no_note = record { level = 0; first = 0; next = 0; end = 0 }

abbrev pub note_of : Walk → ℕ → ArrayNote
note_of walk b = slice_index_or (values_of walk.notes) b no_note

-- the words below the block have these numbers, and the rows give the blocks that they hold at least this era
pub record IsKnown (image : List (List ℕ)) (walk : Walk) (b : ℕ) (note : ArrayNote) : Type 0 where
  pub after : IsAfter note.end note.first (words_at image note.level b) note.next
  pub covered : Cover image walk.era (holds_from note.end note.first (words_at image note.level b)) walk.rows.items

-- what a walk knows is so
pub record Knows (image : List (List ℕ)) (walk : Walk) : Type 0 where
  pub each : (b : ℕ) → IsKnown image walk b (note_of walk b)

-- a walk that knows nothing, before the latest era
pub record KnowsNothing (walk : Walk) : Type 0 where
  pub era : walk.era ≡ 2 ^ 32 - 1
  pub notes : (b : ℕ) → note_of walk b ≡ no_note
  pub rows : walk.rows.items ≡ []

-- a value was set at a place, if there is that one, and the others are as they were
pub record NotesOne (b : ℕ) (note : ArrayNote) (old new : List ArrayNote) : Type 0 where
  pub each : (c : ℕ) → (slice_index_or new c no_note ≡ slice_index_or old c no_note) ⊎ ((c ≡ b) × (slice_index_or new c no_note ≡ note))

-- where the next word stands before the end, the block is known whatever end is asked for
abbrev pub known_end : ℕ → ℕ → ℕ
known_end next end = if nat_lt (64 * next) end then 4294967295 else end

-- a block's words begin with this number on that level, have their rows up to this end, and that word follows
pub record IsNextKnown (on first end : ℕ) (note : ArrayNote) (next : ℕ) : Type 0 where
  pub level : note.level ≡ on
  pub begins : note.first ≡ first
  pub far : end ≤ note.end
  pub after : next ≡ note.next

-- the blocks before the end that these words hold have rows of the walk's era besides, and the next word has that number
pub record Goes (image : List (List ℕ)) (end at : ℕ) (words : List ℕ) (next : ℕ) (old new : Walk) : Type 0 where
  pub era : new.era ≡ old.era
  pub adds : Adds image old.era (holds_from end at words) old.rows.items new.rows.items
  pub after : IsAfter end at words next
  pub knows : Knows image new

-- a block was passed, or it stands above others
abbrev pub IsOpened : List (List ℕ) → ℕ → ℕ → ℕ → ℕ → Opened → Walk → Walk → Type 0
IsOpened image level b at end (Done next) old new = Goes image end at (words_at image level b) next old new
IsOpened image level b at end (Below lower blocks) old new = (new ≡ old) × (words_at image level b ≡ words_at_each image lower blocks.items)

-- those are on a lower level
abbrev pub IsLower : ℕ → Opened → Type 0
IsLower level (Done next) = Unit {0}
IsLower level (Below lower blocks) = lower < level

-- of a target's blocks, those that a writeset holds have rows of this era besides
pub record AddsSet (image : List (List ℕ)) (blocks : ℕ) (set : Writeset) (era : ℕ) (old new : Walk) : Type 0 where
  pub each : (b x : ℕ) → b < blocks → with_rows image new.rows.items b x ≡ raised era (holds set.bits (words_below 8 image set.root) b) (with_rows image old.rows.items b x)
  pub knows : Knows image new
