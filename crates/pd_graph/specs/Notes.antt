-- The notes of nodes, and how they are kept.
use Rattle.std.specs.Prelude.{ℕ, ◌-◌, true, false, Some, None, if◌then◌else◌, List, length, slice_get, slice_index_or}
use Rattle.pd_graph.specs.declared.notes.Note.{Note}
use Rattle.pd_graph.specs.declared.notes.KeptNote.{KeptNote}
use Rattle.pd_graph.specs.declared.notes.Notes.{Notes}
use Rattle.pd_graph.specs.Marks.{values_of}

-- the note that is kept
abbrev pub note_of : KeptNote → Note
note_of kept = record {
  least = if kept.has_least then Some kept.least else None;
  greatest = if kept.has_greatest then Some kept.greatest else None;
  below = kept.below;
  height = kept.height;
  in_range = kept.in_range;
}

-- the note of a block that nothing is known of
abbrev pub no_note : Note
no_note = record { least = None; greatest = None; below = 0; height = 0; in_range = true }

-- the note of a leaf by the first and the last of its keys
abbrev pub ends_note : List ℕ → Note
ends_note keys = record {
  least = slice_get keys 0;
  greatest = slice_get keys (length keys - 1);
  below = length keys;
  height = 1;
  in_range = true;
}

-- the note of a block that nothing is known of, as it is kept
abbrev pub no_kept_note : KeptNote
no_kept_note = record { least = 0; greatest = 0; below = 0; height = 0; has_least = false; has_greatest = false; in_range = true }

-- the number of blocks
abbrev pub size_of : Notes → ℕ
size_of notes = notes.nr

-- the note of a block
abbrev pub note_in : Notes → ℕ → Note
note_in notes b = note_of (slice_index_or (values_of notes.kept) b no_kept_note)
