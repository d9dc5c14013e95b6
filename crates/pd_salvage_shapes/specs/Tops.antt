-- The devices whose mappings are saved.
-- What was met of devices.
use Rattle.std.specs.Prelude.{◌≡◌, ℕ, ◌+◌, ◌/◌, ◌%◌, ◌^◌, ◌<◌, ◌≤◌, not, List, [], ◌∷◌, ◌++◌, map, filter, Option, IfSome, length, take, slice_index_or}
use Rattle.std.specs.List.{AllByRecursion}
use Rattle.pd_kinds.specs.Graph.{is_outside}
use Rattle.pd_kinds.specs.Node.{Entry}
use Rattle.pd_kinds.specs.ThinFormat.{ThinFields}
use Rattle.pd_laid.specs.Salvage.{salvaged_details, salvaged_entries, saved_tops}
use Rattle.pd_value.specs.declared.thin.Details.{Details}
use Rattle.pd_value.specs.declared.thin.Root.{Root}
use Rattle.pd_tree.specs.Cursor.{item_of, root_of}
use Rattle.pd_tree.specs.Search.{lookup}
use Rattle.pd_meaning_thin.specs.Runs.{details_of}
use Rattle.pd_salvage.specs.declared.cursor.SavedCursor.{SavedCursor}
use Rattle.pd_salvage.specs.declared.details.SavedDetails.{SavedDetails}
use Rattle.pd_salvage.specs.Cursor.{saved_least, saved_left, saved_room}
use Rattle.pd_salvage.specs.Details.{IsFoundOr, details_left, details_room}
use Rattle.pd_salvage.specs.Saving.{FitLost, all_details, entry_of, lost_details}
use Rattle.pd_salvage_shapes.specs.declared.tops.Top.{Top}
use Rattle.pd_salvage_shapes.specs.declared.note.LeafNote.{LeafNote}
use Rattle.pd_salvage_shapes.specs.declared.visiting.Seen.{Seen}
use Rattle.pd_salvage_shapes.specs.declared.visiting.Visiting.{Visiting}
use Rattle.pd_salvage_shapes.specs.Note.{Met, mets_of_root}
use Rattle.pd_salvage_shapes.specs.Visiting.{HasTable, IsSeen, TellsAll, mets_of}

-- the entry of a device in the mapping tree
abbrev pub entry_of_top : Top → Entry
entry_of_top t = record { key = t.id; value = t.root }

-- none
abbrev pub no_top : Top
no_top = record { id = 0; root = 0; details = record { mapped = 0; transaction = 0; created = 0; snapped = 0 } }

-- a device with these details, but for their mapped number
abbrev pub made_top : ℕ → ℕ → Details → Top
made_top id root details = record { id = id; root = root; details = record details { mapped = 0 } }

-- the numbers of a device fit their places
pub record FitsTop (t : Top) : Type 0 where
  pub id : t.id < 2 ^ 64
  pub transaction : t.details.transaction < 2 ^ 64
  pub created : t.details.created < 2 ^ 32
  pub snapped : t.details.snapped < 2 ^ 32

-- ids ascend from one on
abbrev pub AreTops : ℕ → List Top → Type 0
AreTops least [] = Unit {0}
AreTops least (t ∷ ts) = (least ≤ t.id) × FitsTop t × AreTops (t.id + 1) ts

-- the details of a device are those that are saved
pub record HasDetails (fields : ThinFields) (image : List (List ℕ)) (t : Top) : Type 0 where
  pub transaction : t.details.transaction ≡ salvaged_details fields image t.id / 2 ^ 64 % 2 ^ 64
  pub created : t.details.created ≡ salvaged_details fields image t.id / 2 ^ 128 % 2 ^ 32
  pub snapped : t.details.snapped ≡ salvaged_details fields image t.id / 2 ^ 160

-- these are the devices of an image
pub record TellsTops (fields : ThinFields) (image : List (List ℕ)) (tops : List Top) : Type 0 where
  pub all : map entry_of_top tops ≡ saved_tops fields image
  pub details : AllByRecursion (HasDetails fields image) tops

-- the devices of some entries that are left
abbrev pub left_tops : ThinFields → List (ℕ × Root) → List Entry
left_tops fields items = filter (λ (top : Entry). not (is_outside fields.meta_map.blocks top.value)) (map entry_of items)

-- a device was added
pub record AddsTop (held : Option (List (List ℕ))) (fields : ThinFields) (id root : ℕ) (old_details new_details : SavedDetails) (old new : List Top) : Type 0 where
  pub details : Details
  pub added : new ≡ old ++ made_top id root details ∷ []
  pub fits : FitsTop (made_top id root details)
  pub small : FitLost fields.transaction fields.time
  pub told : IfSome held (λ image. IsFoundOr (lost_details fields.transaction fields.time) id details (details_left image old_details) (details_left image new_details))

-- the cursors are before the first entries
pub record IsBegun (fields : ThinFields) (tops : SavedCursor Root) (details : SavedDetails) : Type 0 where
  pub room : saved_room tops ≡ fields.meta_map.blocks
  pub details_room_is : details_room details ≡ fields.meta_map.blocks
  pub least : saved_least tops ≡ 0
  pub left : (image : List (List ℕ)) → saved_left 8 root_of image tops ≡ map (item_of root_of) (salvaged_entries 8 fields.meta_map.blocks image fields.mapping_root)
  pub details_are : (image : List (List ℕ)) → details_left image details ≡ map (item_of details_of) (all_details fields image)

-- what was found of an image, and what is left of it
pub record ReadsTops (fields : ThinFields) (image : List (List ℕ)) (found : List Top) (tops : SavedCursor Root) (details : SavedDetails) : Type 0 where
  pub knows : (id : ℕ) → saved_least tops ≤ id → lookup id (details_left image details) ≡ lookup id (map (item_of details_of) (all_details fields image))
  pub all : map entry_of_top found ++ left_tops fields (saved_left 8 root_of image tops) ≡ saved_tops fields image
  pub own : AllByRecursion (HasDetails fields image) found

-- what was met of each
abbrev pub mets_of_seen : List LeafNote → List Seen → List (List Met)
mets_of_seen notes seen = map (λ (d : Seen). mets_of notes d.met) seen

abbrev pub mets_of_tops : ThinFields → List (List ℕ) → List Top → List (List Met)
mets_of_tops fields image tops = map (λ (t : Top). mets_of_root fields image t.root) tops

-- devices were seen: what was met of each is lawful, and it is what is met of each where the device tells
pub record SeesAll (held : Option (List (List ℕ))) (tops : List Top) (seen : List Seen) (old new : Visiting) : Type 0 where
  pub same : new.s ≡ old.s
  pub table : HasTable new
  pub number : length seen ≡ length tops
  pub lawful : AllByRecursion (IsSeen old.s.data_map.blocks new.notes.items) seen
  pub told : IfSome held (λ image. TellsAll image old → TellsAll image new × (mets_of_seen new.notes.items seen ≡ mets_of_tops old.s image tops))

-- one device more was seen
abbrev pub SeesNext : Option (List (List ℕ)) → List Top → ℕ → List Seen → List Seen → Visiting → Visiting → Type 0
SeesNext held tops i before seen old new =
    (first : Visiting) → SeesAll held (take i tops) before first old → SeesAll held (take (i + 1) tops) seen first new

-- the device with a number, and what was met of it
abbrev pub top_at : List Top → ℕ → Top
top_at tops i = slice_index_or tops i no_top

abbrev pub no_seen : Seen
no_seen = record { met = []; mapped = 0 }

abbrev pub seen_at : List Seen → ℕ → Seen
seen_at seen k = slice_index_or seen k no_seen
