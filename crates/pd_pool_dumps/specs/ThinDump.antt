-- A dump that wasn't put yet.
-- A dump with shared leaves that wasn't put yet.
use Rattle.std.specs.Prelude.{ℕ, List, [], ◌∷◌, ◌++◌}
use Rattle.std.specs.List.{flat_map}
use Rattle.pd_grammar.specs.ThinText.{Line, end_line, first_line, pool_line, thin, shared_first_line}
use Rattle.pd_grammar.specs.Texts.{text_of_lines}
use Rattle.pd_texts.specs.ThinLine.{text_of_line}
use Rattle.pd_meaning_thin.specs.Runs.{rows_left}
use Rattle.pd_meaning_thin.specs.Given.{row_lines, super_head}
use Rattle.pd_meaning_thin.specs.Walk.{shared_blocks}
use Rattle.pd_pool_dumps.specs.declared.thin_dump.ThinDump.{ThinDump}
use Rattle.pd_pool_dumps.specs.ThinText.{rest_text}
use Rattle.pd_pool_dumps.specs.declared.shared_dump.SharedDump.{SharedDump}
use Rattle.pd_pool_dumps.specs.declared.shared_dump.SharingDevices.{SharingDevices}
use Rattle.pd_pool_dumps.specs.SharedLines.{body_lines}

-- its text
abbrev pub text_left : List (List ℕ) → ThinDump → List ℕ
text_left image dump = text_of_line thin first_line ++ (text_of_line thin (pool_line (super_head dump.s)) ++ rest_text image dump.devices)

-- its lines
abbrev pub lines_left : List (List ℕ) → ThinDump → List Line
lines_left image dump =
    first_line ∷ (pool_line (super_head dump.s) ∷ (flat_map (row_lines image) (rows_left image dump.devices) ++ (end_line ∷ [])))

-- how many metadata blocks the pool uses, as its superblock says
abbrev pub used_of : ThinDump → ℕ
used_of dump = dump.s.meta_map.allocated

-- the lines of what is left of shared leaves and devices
abbrev pub body_left : List (List ℕ) → SharingDevices → List Line
body_left image sharing = body_lines (shared_blocks sharing.shared) image (rows_left image sharing.devices)

-- all its lines, and its text
abbrev pub shared_left : List (List ℕ) → SharedDump → List Line
shared_left image dump =
    shared_first_line ∷ (pool_line (super_head dump.s) ∷ (body_left image dump.sharing ++ (end_line ∷ [])))

abbrev pub shared_text_left : List (List ℕ) → SharedDump → List ℕ
shared_text_left image dump = text_of_lines thin (shared_left image dump)
