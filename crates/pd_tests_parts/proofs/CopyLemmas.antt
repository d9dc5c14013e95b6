-- The copy of a text, line by line.
use Rattle.std.proofs.Common.{◌≡◌, inl, inr, Bool, true, false, List, [], ◌∷◌, ℕ, refl, if◌then◌else◌}
use Rattle.pd_grammar.specs.Texts.{text_of_lines}
use Rattle.pd_grammar.specs.ThinText.{Line, end_line, first_line, is_shared, pool_format, shared_first_line}
use Rattle.pd_texts.specs.declared.reader.ReadFault.{ReadFault}
use Rattle.pd_texts.specs.declared.thin_text.ThinLine.{ThinLine}
use Rattle.pd_texts.specs.declared.thin_text.ThinLine.TheVariants.{Pool, Leaf, Device, UseLeaf, Map}
use Rattle.pd_texts.specs.Reader.{RefusesNext, in_order}
use Rattle.pd_texts.specs.ThinLine.{line_of}
use Rattle.pd_texts.specs.declared.reader.ReadFault.TheVariants as r
use Rattle.pd_tests_parts.specs.Copied.{IsRefused, first_printed}
use Rattle.pd_tests_parts.specs.declared.small_copy.CopyFault.TheVariants as c

-- a refusal that the reader gives
pub refused_by : (text : List ℕ) (first : Line) (before : List Line) (fault : ReadFault) → RefusesNext pool_format first end_line text before fault → IsRefused text (c.Read fault)
refused_by text first before r.Memory refuses = tt
refused_by text first before r.Source refuses = tt
refused_by text first before (r.Text fault) refuses = elim refuses [
  | inl here ↦ here.refusal
  | inr later ↦ elim later [ inl first ↦ first.refusal | inr last ↦ last.refusal ]
]

-- the version of two lines is that of the first one
shared_behind : (line : ThinLine) (first : Line) → is_shared (line_of line ∷ first ∷ []) ≡ is_shared (first ∷ [])
shared_behind (Pool uuid time transaction block_size blocks) first = refl
shared_behind (Leaf number entries) first = refl
shared_behind (Device id details) first = refl
shared_behind (UseLeaf number) first = refl
shared_behind (Map run) first = refl

version_printed : (shared : Bool) → let first = if shared then shared_first_line else first_line in
    first_printed (if is_shared (first ∷ []) then 2 else 1) ≡ text_of_lines pool_format (in_order (first ∷ []) [])
version_printed true = refl
version_printed false = refl

-- so the first line is printed by the version that the reader tells
pub first_is : (line : ThinLine) (shared : Bool) → let first = if shared then shared_first_line else first_line in
    first_printed (if is_shared (line_of line ∷ first ∷ []) then 2 else 1) ≡ text_of_lines pool_format (in_order (first ∷ []) [])
first_is line shared = rw (shared_behind line (if shared then shared_first_line else first_line)) (version_printed shared)
