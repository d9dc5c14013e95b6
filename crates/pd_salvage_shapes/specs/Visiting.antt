-- The leaves that were noted, and what was met of a device.
use Rattle.std.specs.Prelude.{◌≡◌, ℕ, suc, ◌+◌, ◌-◌, ◌^◌, ◌<◌, ◌≤◌, ◌&&◌, Bool, true, false, not, nat_lt, List, [], ◌∷◌, ◌++◌, length, slice_index, Option, Some, None, IfSome}
use Rattle.std.specs.List.{AllByRecursion, flat_map, slice_get}
use Rattle.pd_kinds.specs.Graph.{is_outside, block_at}
use Rattle.pd_kinds.specs.Meaning.{Mapping}
use Rattle.pd_kinds.specs.ThinFormat.{ThinFields}
use Rattle.pd_kinds.specs.Node.{is_inner_node}
use Rattle.pd_grammar.specs.Lawful.{AreMappings}
use Rattle.pd_laid.specs.Salvage.{is_damaged}
use Rattle.pd_tree.specs.Stack.{child_weight, last_place}
use Rattle.pd_salvage.specs.declared.way.Range.{Range}
use Rattle.pd_salvage.specs.Range.{is_in_range}
use Rattle.pd_salvage.specs.declared.way.Way.{Way}
use Rattle.pd_salvage.specs.Way.{KnowsNothing, KnowsPlaces, PopsNode, SameWay, way_number}
use Rattle.pd_salvage_shapes.specs.declared.note.LeafNote.{LeafNote}
use Rattle.pd_salvage_shapes.specs.declared.visiting.Seen.{Seen}
use Rattle.pd_salvage_shapes.specs.declared.visiting.Visiting.{Visiting}
use Rattle.pd_salvage_shapes.specs.Note.{Met, mets_below, mets_of_root, way_left, IsNote, in_keys, met_in, met_of_note, noted, saved_at}

-- the mappings of what was met
abbrev pub maps : List Met → List Mapping
maps mets = flat_map (λ (m : Met). m.mappings) mets

-- what the notes with some numbers met
abbrev pub mets_at : Option LeafNote → List Met
mets_at None = []
mets_at (Some note) = met_of_note note

abbrev pub mets_of : List LeafNote → List ℕ → List Met
mets_of notes numbers = flat_map (λ k. mets_at (slice_get notes k)) numbers

-- the notes are notes, and those of whole leaves are named at their blocks, each by one above its number
pub record AreNotes (blocks : ℕ) (places : List ℕ) (notes : List LeafNote) : Type 0 where
  pub each : (k : ℕ) (note : LeafNote) → slice_get notes k ≡ Some note → IsNote blocks note
  pub placed : (k : ℕ) (note : LeafNote) → slice_get notes k ≡ Some note → note.full ≡ true → slice_index places note.block ≡ k + 1
  pub named : (b : ℕ) → slice_index places b ≤ length notes

-- a note tells of a leaf what is met of it in any range
pub record TellsLeaf (fields : ThinFields) (image : List (List ℕ)) (b : ℕ) (note : LeafNote) : Type 0 where
  pub meets : (j : ℕ) (range : Range) → is_outside fields.meta_map.blocks b ≡ false → mets_below fields image (suc j) range b ≡ met_in note range
  pub saves : (range : Range) → saved_at fields.data_map.blocks b (block_at image b) range ≡ in_keys range (noted note)

-- the notes that are named tell of their leaves
abbrev pub Tells : ThinFields → List (List ℕ) → List ℕ → List LeafNote → Type 0
Tells fields image places notes = (b k : ℕ) (note : LeafNote) → slice_index places b ≡ suc k → slice_get notes k ≡ Some note → TellsLeaf fields image b note

-- notes with these numbers were met, with so many mappings, and mappings from a key on may follow
pub record AreMet (blocks : ℕ) (notes : List LeafNote) (met : List ℕ) (mapped least : ℕ) : Type 0 where
  pub within : AllByRecursion (λ k. k < length notes) met
  pub lawful : (rest : List Mapping) → AreMappings blocks least rest → AreMappings blocks 0 (maps (mets_of notes met) ++ rest)
  pub counted : mapped ≡ length (maps (mets_of notes met))

-- all is ready for the next block
pub record IsReady (v : Visiting) : Type 0 where
  pub places : length v.places.items ≡ v.s.meta_map.blocks
  pub notes : AreNotes v.s.data_map.blocks v.places.items v.notes.items
  pub met : AreMet v.s.data_map.blocks v.notes.items v.met.items v.mapped v.least

abbrev pub TellsAll : List (List ℕ) → Visiting → Type 0
TellsAll image v = Tells v.s image v.places.items v.notes.items

abbrev pub mets_now : Visiting → List Met
mets_now v = mets_of v.notes.items v.met.items

-- notes that were there stay as they are
abbrev pub Grow : List LeafNote → List LeafNote → Type 0
Grow old new = (k : ℕ) (note : LeafNote) → slice_get old k ≡ Some note → slice_get new k ≡ Some note

-- a range without the keys below a number
pub record IsRaised (least : ℕ) (range raised : Range) : Type 0 where
  pub keys : (key : ℕ) → key < 2 ^ 64 → is_in_range raised key ≡ (not (nat_lt key least) && is_in_range range key)

-- a note was met: one without mappings changes nothing
pub record TakesNote (k : ℕ) (note : LeafNote) (old new : Visiting) : Type 0 where
  pub same : (new.s ≡ old.s) × (new.way ≡ old.way) × (new.places ≡ old.places) × (new.notes ≡ old.notes)
  pub none : note.entries ≡ 0 → (new.met.items ≡ old.met.items) × (new.mapped ≡ old.mapped) × (new.least ≡ old.least)
  pub some : 1 ≤ note.entries → (new.met.items ≡ old.met.items ++ k ∷ []) × (new.mapped ≡ old.mapped + note.entries) × (new.least ≡ note.end)

-- a note of the device's own was met
pub record TakesOwn (note : LeafNote) (old new : Visiting) : Type 0 where
  pub same : (new.s ≡ old.s) × (new.way ≡ old.way) × (new.places ≡ old.places)
  pub ready : IsReady new
  pub grow : Grow old.notes.items new.notes.items
  pub mets : mets_now new ≡ mets_now old ++ met_of_note note
  pub rest : (rest : List Mapping) → AreMappings old.s.data_map.blocks old.least (noted note ++ rest) → AreMappings old.s.data_map.blocks new.least rest
  pub tells : (image : List (List ℕ)) → TellsAll image old → TellsAll image new

-- the last node on the way was noted as a block's leaf, and forgotten
pub record NotesTop (b : ℕ) (old new : Visiting) : Type 0 where
  pub same : (new.s ≡ old.s) × (new.met ≡ old.met) × (new.mapped ≡ old.mapped) × (new.least ≡ old.least)
  pub pops : PopsNode old.way new.way
  pub ready : IsReady new
  pub grow : Grow old.notes.items new.notes.items
  pub named : 1 ≤ slice_index new.places.items b
  pub tells : (image : List (List ℕ)) → block_at image b ≡ (last_place old.way.stack).block.0 → TellsAll image old → TellsAll image new

-- undamaged inner nodes are known on the way, where the device tells
abbrev pub is_undamaged_inner : ℕ → List ℕ → Bool
is_undamaged_inner b block = not (is_damaged 8 b block) && is_inner_node block

abbrev pub KnowsInner : Option (List (List ℕ)) → Way → Type 0
KnowsInner held way = IfSome held (λ image. KnowsPlaces is_undamaged_inner image way)

-- a block was read: a sound inner node is the last one on the way
pub record StaysOnWay (held : Option (List (List ℕ))) (b : ℕ) (range : Range) (old new : Visiting) : Type 0 where
  pub same : new ≡ record old { way = new.way }
  pub number : way_number 8 new.way < way_number 8 old.way + child_weight (64 - old.way.stack.depth)
  pub left : IfSome held (λ image. way_left old.s image new.way ≡ mets_below old.s image (64 - old.way.stack.depth) range b ++ way_left old.s image old.way)
  pub knows : KnowsInner held new.way

-- and any other is noted
pub record IsNoted (held : Option (List (List ℕ))) (b : ℕ) (old new : Visiting) : Type 0 where
  pub same : (new.s ≡ old.s) × (new.met ≡ old.met) × (new.mapped ≡ old.mapped) × (new.least ≡ old.least)
  pub way : SameWay 8 old.way new.way
  pub ready : IsReady new
  pub grow : Grow old.notes.items new.notes.items
  pub named : 1 ≤ slice_index new.places.items b
  pub tells : IfSome held (λ image. TellsAll image old → TellsAll image new)

abbrev pub ReadsNew : Option (List (List ℕ)) → Bool → ℕ → Range → Visiting → Visiting → Type 0
ReadsNew held true b range old new = StaysOnWay held b range old new
ReadsNew held false b range old new = IsNoted held b old new

-- a part of a leaf was read
pub record ReadsPart (held : Option (List (List ℕ))) (b : ℕ) (range : Range) (note : LeafNote) (old new : Visiting) : Type 0 where
  pub same : new ≡ record old { way = new.way }
  pub way : SameWay 8 old.way new.way
  pub sound : IsNote old.s.data_map.blocks note
  pub part : note.full ≡ false
  pub inside : in_keys range (noted note) ≡ noted note
  pub told : IfSome held (λ image. noted note ≡ saved_at old.s.data_map.blocks b (block_at image b) range)

-- what was met, and then what is left, are these
pub record MeetsAll (image : List (List ℕ)) (all : List Met) (new : Visiting) : Type 0 where
  pub tells : TellsAll image new
  pub mets : mets_now new ++ way_left new.s image new.way ≡ all
  pub ascend : AreMappings new.s.data_map.blocks new.least (maps (way_left new.s image new.way))

-- a leaf was visited in a range
pub record Visits (held : Option (List (List ℕ))) (b : ℕ) (range : Range) (old new : Visiting) : Type 0 where
  pub same : new.s ≡ old.s
  pub ready : IsReady new
  pub grow : Grow old.notes.items new.notes.items
  pub way : SameWay 8 old.way new.way
  pub told : IfSome held (λ image. TellsAll image old
      → (j : ℕ) → is_outside old.s.meta_map.blocks b ≡ false → AreMappings old.s.data_map.blocks old.least (maps (mets_below old.s image (suc j) range b ++ way_left old.s image old.way))
      → MeetsAll image (mets_now old ++ (mets_below old.s image (suc j) range b ++ way_left old.s image old.way)) new)

-- a block was met in a range
pub record Meets (held : Option (List (List ℕ))) (b : ℕ) (range : Range) (old new : Visiting) : Type 0 where
  pub same : new.s ≡ old.s
  pub ready : IsReady new
  pub grow : Grow old.notes.items new.notes.items
  pub number : way_number 8 new.way < way_number 8 old.way + child_weight (64 - old.way.stack.depth)
  pub knows : KnowsInner held new.way
  pub told : IfSome held (λ image. TellsAll image old
      → AreMappings old.s.data_map.blocks old.least (maps (mets_below old.s image (64 - old.way.stack.depth) range b ++ way_left old.s image old.way))
      → MeetsAll image (mets_now old ++ (mets_below old.s image (64 - old.way.stack.depth) range b ++ way_left old.s image old.way)) new)

-- the table of notes is whole
pub record HasTable (v : Visiting) : Type 0 where
  pub places : length v.places.items ≡ v.s.meta_map.blocks
  pub notes : AreNotes v.s.data_map.blocks v.places.items v.notes.items

-- nothing was noted
pub record IsStarted (s : ThinFields) (v : Visiting) : Type 0 where
  pub same : v.s ≡ s
  pub table : HasTable v
  pub tells : (image : List (List ℕ)) → TellsAll image v

-- nothing was met of a device
pub record IsBegun (old new : Visiting) : Type 0 where
  pub same : (new.s ≡ old.s) × (new.places ≡ old.places) × (new.notes ≡ old.notes)
  pub ready : IsReady new
  pub depth : new.way.stack.depth ≡ 0
  pub knows : KnowsNothing new.way
  pub none : (new.met.items ≡ []) × (new.least ≡ 0)

-- all that was left was met
pub record GoesOn (held : Option (List (List ℕ))) (old new : Visiting) : Type 0 where
  pub same : new.s ≡ old.s
  pub ready : IsReady new
  pub grow : Grow old.notes.items new.notes.items
  pub told : IfSome held (λ image. (all : List Met) → MeetsAll image all old → TellsAll image new × (mets_now new ≡ all))

-- a tree was met
pub record MeetsTree (held : Option (List (List ℕ))) (root : ℕ) (old new : Visiting) : Type 0 where
  pub same : new.s ≡ old.s
  pub ready : IsReady new
  pub grow : Grow old.notes.items new.notes.items
  pub told : IfSome held (λ image. TellsAll image old → TellsAll image new × (mets_now new ≡ mets_of_root old.s image root))

-- what was met of a device is lawful
pub record IsSeen (blocks : ℕ) (notes : List LeafNote) (seen : Seen) : Type 0 where
  pub within : AllByRecursion (λ k. k < length notes) seen.met
  pub lawful : AreMappings blocks 0 (maps (mets_of notes seen.met))
  pub counted : seen.mapped ≡ length (maps (mets_of notes seen.met))
  pub fits : seen.mapped < 2 ^ 64

pub record SeesDevice (held : Option (List (List ℕ))) (root : ℕ) (seen : Seen) (old new : Visiting) : Type 0 where
  pub same : new.s ≡ old.s
  pub table : HasTable new
  pub grow : Grow old.notes.items new.notes.items
  pub lawful : IsSeen old.s.data_map.blocks new.notes.items seen
  pub told : IfSome held (λ image. TellsAll image old → TellsAll image new × (mets_of new.notes.items seen.met ≡ mets_of_root old.s image root))
