-- Trusted base.
-- What a repair would keep of a pool, as it is told before it is made.
use Rattle.std.specs.Prelude.{◌≡◌, ℕ, ◌+◌, ◌*◌, ◌%◌, ◌^◌, ◌<◌, ◌≤◌, ◌==◌, nat_le, List, [], ◌∷◌, ◌++◌, length, sum_by, codes, decimal, Option, Some, None, unwrap_or}
use Rattle.std.specs.List.{find, flat_map, range_with_len}
use Rattle.std.specs.Option.{option_map}
use Rattle.pd_kinds.specs.Graph.{block_at}
use Rattle.pd_kinds.specs.Meaning.{ThinDevice}
use Rattle.pd_kinds.specs.ThinFormat.{ThinFields, thin_fields}
use Rattle.pd_kinds.specs.Trees.{value_of_key}
use Rattle.pd_grammar.specs.Need.{thin_need}
use Rattle.pd_laid.specs.Salvage.{salvage_from, salvaged_entries, saved_shape_from}
use Rattle.pd_laid.specs.PoolText.{shape_need}

-- how many mappings the details of a device say that it has, where they are found
abbrev pub found_mapped : ThinFields → List (List ℕ) → ℕ → Option ℕ
found_mapped fields image id =
    option_map (λ details. details % 2 ^ 64) (value_of_key (salvaged_entries 24 fields.meta_map.blocks image fields.details_root) id)

-- that number in a line, or a mark that it wasn't found
abbrev pub mapped_word : Option ℕ → List ℕ
mapped_word None = codes "?"
mapped_word (Some mapped) = decimal mapped

-- the line of a device that is saved: how many mappings are kept, and of how many
abbrev pub kept_line : ℕ → ℕ → Option ℕ → List ℕ
kept_line id kept mapped =
    codes "device " ++ (decimal id ++ (codes " kept " ++ (decimal kept ++ (codes " of " ++ (mapped_word mapped ++ (10 ∷ []))))))

-- the line of a device of which nothing but its details is found, so that it is lost
abbrev pub lost_line : ℕ → ℕ → List ℕ
lost_line id mapped = codes "device " ++ (decimal id ++ (codes " lost " ++ (decimal mapped ++ (10 ∷ []))))

-- the line of a number that no saved device has: none where no details have it
abbrev pub unsaved_line : ℕ → Option ℕ → List ℕ
unsaved_line id None = []
unsaved_line id (Some mapped) = lost_line id mapped

-- the line of a number that is a saved device's, or none's
abbrev pub told_line : ℕ → Option ThinDevice → Option ℕ → List ℕ
told_line id None mapped = unsaved_line id mapped
told_line id (Some d) mapped = kept_line id d.mapped mapped

-- the lines of all numbers below one, ascending
unfoldable pub lines_below : ℕ → (ℕ → List ℕ) → List ℕ
lines_below end line = flat_map line (range_with_len 0 end)

-- the lines of all numbers that a device can have
unfoldable pub told_lines : ThinFields → List (List ℕ) → List ℕ
told_lines fields image =
    lines_below (2 ^ 64) (λ id. told_line id (find (λ (d : ThinDevice). d.id == id) (salvage_from fields image).devices) (found_mapped fields image id))

-- it is the least number of blocks on which there is room for what needs so many
pub record IsLeastRoom (need : ℕ → ℕ) (room : ℕ) : Type 0 where
  pub enough : need room ≤ room
  pub least : (fewer : ℕ) → fewer < room → fewer < need fewer

-- That number, which is looked for up to twice what is needed where there are no blocks: what is needed besides is a bitmap
-- for each 16320 blocks
unfoldable pub least_room : (ℕ → ℕ) → ℕ
least_room need = unwrap_or (find (λ room. nat_le (need room) room) (range_with_len 0 (2 * need 0 + 2))) 0

-- what is told: the lines of the devices, how many are saved and with how many mappings, and on how many blocks they have room,
-- without the leaves that they share and with them
pub record Told : Type 0 where
  pub lines : List ℕ
  pub devices : ℕ
  pub mappings : ℕ
  pub need : ℕ
  pub shared_need : ℕ

-- it is right
pub record IsTold (fields : ThinFields) (image : List (List ℕ)) (told : Told) : Type 0 where
  pub lines : told.lines ≡ told_lines fields image
  pub devices : told.devices ≡ length (salvage_from fields image).devices
  pub mappings : told.mappings ≡ sum_by (λ (d : ThinDevice). d.mapped) (salvage_from fields image).devices
  pub need : IsLeastRoom (thin_need (salvage_from fields image)) told.need
  pub shared_need : IsLeastRoom (shape_need (saved_shape_from fields image)) told.shared_need

-- what is told of an image, saved from the roots of a superblock with these fields
abbrev pub told_from : ThinFields → List (List ℕ) → Told
told_from fields image =
    let pool = salvage_from fields image in
    record {
      lines = told_lines fields image;
      devices = length pool.devices;
      mappings = sum_by (λ (d : ThinDevice). d.mapped) pool.devices;
      need = least_room (thin_need pool);
      shared_need = least_room (shape_need (saved_shape_from fields image));
    }

-- its text
abbrev pub told_text : Told → List ℕ
told_text told =
    told.lines ++ (codes "keeps " ++ (decimal told.devices ++ (codes " " ++ (decimal told.mappings
    ++ (codes " need " ++ (decimal told.need ++ (codes " shared " ++ (decimal told.shared_need ++ (10 ∷ [])))))))))

-- what a repair would keep of an image
unfoldable pub kept_text : List (List ℕ) → List ℕ
kept_text image = told_text (told_from (thin_fields (block_at image 0)) image)
