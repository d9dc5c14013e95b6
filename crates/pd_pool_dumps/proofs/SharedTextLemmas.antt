-- The text of shared leaves, of pieces and of devices, one after another.
use Rattle.std.proofs.Common.{◌≡◌, ℕ, ◌+◌, ◌-◌, ◌^◌, ◌<◌, ◌≤◌, min, List, [], ◌∷◌, ◌++◌, length, map, drop, get_or, sum_by, refl, ap, ◌∙◌, arith}
use Rattle.std.specs.List.{flat_map}
use Rattle.std.proofs.lemmas.List.{append-nil, drop_more}
use Rattle.std.proofs.lemmas.List.Sums.{sum_by-cons}
use Rattle.pd_grammar.specs.Texts.{text_of_lines}
use Rattle.pd_grammar.specs.ThinText.{Line, thin}
use Rattle.pd_texts.specs.ThinLine.{text_of_line}
use Rattle.pd_meaning_thin.specs.declared.devices.DeviceRow.{DeviceRow}
use Rattle.pd_meaning_thin.specs.declared.joined.Run.{Run}
use Rattle.pd_meaning_thin.specs.declared.pieces.Piece.{Piece}
use Rattle.pd_pool_dumps.specs.SharedLines.{body_lines, leaf_lines, leaves_lines, piece_line, sharing_lines}
use Rattle.pd_pool_dumps.proofs.RunLemmas.{text-append}

-- a piece before others
pub piece_first : (piece : Piece) (left later : List Piece) → left ≡ piece ∷ later
    → text_of_lines thin (map piece_line left) ≡ text_of_line thin (piece_line piece) ++ text_of_lines thin (map piece_line later)
piece_first piece left later is = rw is refl

-- a device before others
pub sharing_first : (shared : List ℕ) (image : List (List ℕ)) (row : DeviceRow) (left later : List DeviceRow) → left ≡ row ∷ later
    → text_of_lines thin (flat_map (sharing_lines shared image) left)
    ≡ text_of_lines thin (sharing_lines shared image row) ++ text_of_lines thin (flat_map (sharing_lines shared image) later)
sharing_first shared image row left later is = rw is (text-append (sharing_lines shared image row) _)

-- a shared leaf before those after it
pub leaf_first : (image : List (List ℕ)) (shared : List ℕ) (n : ℕ) → n < length shared
    → text_of_lines thin (leaves_lines image n (drop n shared))
    ≡ text_of_lines thin (leaf_lines image n (get_or shared n 0)) ++ text_of_lines thin (leaves_lines image (n + 1) (drop (n + 1) shared))
leaf_first image shared n within = rw (drop_more shared n 0 within) (text-append (leaf_lines image n (get_or shared n 0)) _)

-- the leaves before the devices
pub leaves_first : (shared : List ℕ) (image : List (List ℕ)) (rows : List DeviceRow)
    → text_of_lines thin (body_lines shared image rows)
    ≡ text_of_lines thin (leaves_lines image 0 shared) ++ text_of_lines thin (flat_map (sharing_lines shared image) rows)
leaves_first shared image rows = text-append (leaves_lines image 0 shared) _

-- other lines before the last one
pub last_after : (lines : List Line) (last : Line) → text_of_lines thin (lines ++ (last ∷ [])) ≡ text_of_lines thin lines ++ text_of_line thin last
last_after lines last = text-append lines (last ∷ []) ∙ ap (λ (text : List ℕ). text_of_lines thin lines ++ text) (append-nil (text_of_line thin last))

-- how many mappings runs have, where some were counted before them
abbrev pub entries_after : ℕ → List Run → ℕ
entries_after entries runs = min (entries + sum_by (λ (run : Run). run.length) runs) (2 ^ 64 - 1)

sum_first : (run : Run) (later : List Run) → sum_by (λ (run : Run). run.length) (run ∷ later) ≡ run.length + sum_by (λ (run : Run). run.length) later
sum_first run later = sum_by-cons (λ (run : Run). run.length) run later

pub entries_next : (entries more : ℕ) (run : Run) (left later : List Run) → left ≡ run ∷ later → more ≡ min (entries + run.length) (2 ^ 64 - 1)
    → entries_after entries left ≡ entries_after more later
entries_next entries more run left later is counted = rw (is, sum_first run later) (capped entries run.length (sum_by (λ (run : Run). run.length) later) more counted)
  where
    capped : (a b n m : ℕ) → m ≡ min (a + b) (2 ^ 64 - 1) → min (a + (b + n)) (2 ^ 64 - 1) ≡ min (m + n) (2 ^ 64 - 1)
    capped a b n m is = omega arith

pub entries_end : (entries : ℕ) (left : List Run) → left ≡ [] → entries ≤ 2 ^ 64 - 1 → entries_after entries left ≡ entries
entries_end entries left is fits = rw is (capped entries fits)
  where
    capped : (a : ℕ) → a ≤ 2 ^ 64 - 1 → min (a + 0) (2 ^ 64 - 1) ≡ a
    capped a fits = omega arith
