-- What a line of a pool's text means.
-- The kinds of lines of a pool's text.
-- The bytes of printed lines.
-- The printed lines of a device.
use Rattle.std.specs.Prelude.{ℕ, Option, Some, None, List, [], ◌∷◌, ◌++◌, codes}
use Rattle.std.specs.List.{flat_map}
use Rattle.pd_kinds.specs.declared.kind.Kind.{Kind}
use Rattle.pd_kinds.specs.declared.kind.Kind.TheVariants.{Thin, Cache, Era}
use Rattle.pd_kinds.specs.Meaning.{ThinDevice}
use Rattle.pd_grammar.specs.ThinText.{Line, Run, pool_line, leaf_line, device_line, use_line, map_line, end_line, pool_kind, leaf_kind, device_kind, use_kind, map_kind, end_kind, joined_part, joined_runs, thin}
use Rattle.pd_grammar.specs.Tables.{LineKind}
use Rattle.pd_grammar.specs.Texts.{TextFormat, written}
use Rattle.pd_grammar.specs.ThinText as d
use Rattle.pd_value.specs.declared.thin.Details.{Details}
use Rattle.pd_texts.specs.declared.thin_text.Run2.{Run2}
use Rattle.pd_texts.specs.declared.thin_text.ThinLine.{ThinLine}
use Rattle.pd_texts.specs.declared.thin_state.ThinKind.{ThinKind}
use Rattle.pd_texts.specs.declared.thin_text.ThinLine.TheVariants as t
use Rattle.pd_texts.specs.declared.thin_state.ThinKind.TheVariants as k

-- the words of a device line
abbrev pub details_of : ℕ → Details → d.Details
details_of id details = record { id = id; mapped = details.mapped; transaction = details.transaction; created = details.created; snapped = details.snapped }

-- a run
abbrev pub run_of : Run2 → Run
run_of r = record { virtual_block = r.virt; data_block = r.target; length = r.length; time = r.time }

-- the line that a value gives
abbrev pub line_of : ThinLine → Line
line_of (t.Pool uuid time transaction block_size blocks) =
    pool_line (record { uuid = uuid; time = time; transaction = transaction; block_size = block_size; data_blocks = blocks })
line_of (t.Leaf number entries) = leaf_line (record { number = number; entries = entries })
line_of (t.Device id details) = device_line (details_of id details)
line_of (t.UseLeaf number) = use_line number
line_of (t.Map run) = map_line (run_of run)

-- what a line after the first one gives, where the last line gives nothing
abbrev pub thin_meant : Option ThinLine → Line
thin_meant None = end_line
thin_meant (Some line) = line_of line

-- the kind of a line
abbrev pub kind_meant : ThinKind → LineKind Line
kind_meant k.Pool = pool_kind
kind_meant k.Leaf = leaf_kind
kind_meant k.Device = device_kind
kind_meant k.Use = use_kind
kind_meant k.Map = map_kind
kind_meant k.End = end_kind

-- the bytes of a line, with its line feed
abbrev pub text_of_line : {L : Type 0} → TextFormat L → L → List ℕ
text_of_line format line = written format line ++ (10 ∷ [])

-- the first line of a text of this kind, with its line feed
abbrev pub first_text : Kind → List ℕ
first_text Thin = codes "thin 1" ++ (10 ∷ [])
first_text Cache = codes "cache 1" ++ (10 ∷ [])
first_text Era = codes "era 1" ++ (10 ∷ [])

-- the last line of a text, with its line feed
abbrev pub end_text : List ℕ
end_text = codes "end" ++ (10 ∷ [])

-- the map lines of some runs
abbrev pub runs_text : List Run → List ℕ
runs_text runs = flat_map (λ run. text_of_line thin (map_line run)) runs

-- the line of a device, and those of its runs, as long as can be
abbrev pub device_text : ThinDevice → List ℕ
device_text device = text_of_line thin (device_line (joined_part device).details) ++ runs_text (joined_runs device.mappings)
