-- The first and the last line of a pool's text.
-- The first line of a text.
use Rattle.std.proofs.Common.{◌≡◌, inl, inr, ℕ, true, false, List, Option, None, Some, refl, if◌then◌else◌, codes}
use Rattle.std.specs.List.{list_all}
use Rattle.std.specs.Str.{bytes_eq}
use Rattle.std.proofs.lemmas.Bool.{cases_Bool, true≢false}
use Rattle.std.proofs.lemmas.Slice.Eq.{bytes_eq-Decides}
use Rattle.std.specs.Prelude.{is_none}
use Rattle.pd_grammar.specs.Texts.{is_printable}
use Rattle.pd_grammar.specs.ThinText.{first_line, shared_first_line, pool_format}
use Rattle.pd_texts.specs.declared.thin_text.ThinLine.{ThinLine}
use Rattle.pd_texts.specs.ThinLine.{thin_meant}
use Rattle.pd_texts.specs.declared.thin_text.ThinLine.TheVariants as t

-- a first line has only bytes that a line may have, where it is this one or else one of others
pub header_or : {L : Type 0} → (word : List ℕ) (first : L) (others : Option L) → list_all is_printable word ≡ true
    → (bytes : List ℕ) → list_all is_printable bytes ≡ false → others ≡ None → (if bytes_eq bytes word then Some first else others) ≡ None
header_or word first others printable bytes other none = elim (cases_Bool (bytes_eq bytes word)) [
  | inr e ↦ rw e none
  | inl e ↦ let same = (bytes_eq-Decides bytes word).0 e in let good : list_all is_printable bytes ≡ true = rw same printable in absurd (true≢false (rw good at other))
]

pub header_is : {L : Type 0} → (word : List ℕ) (first : L) → list_all is_printable word ≡ true
    → (bytes : List ℕ) → list_all is_printable bytes ≡ false → (if bytes_eq bytes word then Some first else None) ≡ None
header_is word first printable bytes other = header_or word first None printable bytes other refl

-- the first line has only bytes that a line may have
pub pool_header : (bytes : List ℕ) → list_all is_printable bytes ≡ false → pool_format.first bytes ≡ None
pool_header bytes other =
    header_or (codes "thin 1") first_line _ refl bytes other (header_is (codes "thin 2") shared_first_line refl bytes other)

-- the last line is the one that gives nothing
pub pool_ends : (line : Option ThinLine) → pool_format.is_end (thin_meant line) ≡ is_none line
pool_ends None = refl
pool_ends (Some (t.Pool uuid time transaction block_size blocks)) = refl
pool_ends (Some (t.Leaf number entries)) = refl
pool_ends (Some (t.Device id d)) = refl
pool_ends (Some (t.UseLeaf number)) = refl
pool_ends (Some (t.Map r)) = refl
