-- What the lines of a text come to, for any kind.
use Rattle.std.proofs.Common.{◌≡◌, ℕ, true, List, [], ◌∷◌, ◌++◌, refl, ap, sym, subst, ◌∙◌, append_assoc}
use Rattle.std.proofs.lemmas.Grind.{flat_map-append}
use Rattle.std.proofs.lemmas.List.{append-nil}
use Rattle.pd_grammar.specs.Spelling.{Spells}
use Rattle.pd_grammar.specs.Texts.{split, TextFormat, Reading, has_ended, reading, text_of_lines, whole, written}
use Rattle.pd_grammar.proofs.GrammarLemmas.{IsGrammar, AreLines, is_reader, lines_if_read, IsReader, AreRead, written_if_read}
use Rattle.pd_grammar.proofs.WordLemmas.{join_split, split-some}
use Rattle.pd_grammar.proofs.SpellingLemmas.{IsLanguage, reading_if_spelled, spelled_if_none}
use Rattle.pd_texts.specs.ThinLine.{text_of_line}
use Rattle.pd_texts.specs.Reader.{AreReadSoFar, in_order}

-- lines in order, and others after them
pub in_order-append : {M : Type 0} → (before lines : List M) → in_order before lines ≡ in_order before [] ++ lines
in_order-append [] lines = refl
in_order-append {M} (line ∷ before) lines =
    in_order-append before (line ∷ lines) ∙ sym (ap (λ (xs : List M). xs ++ lines) (in_order-append before (line ∷ [])) ∙ append_assoc (in_order before []) (line ∷ []) lines)

-- the bytes of the lines so far grow by those of the next line
pub printed_more : {M : Type 0} → (format : TextFormat M) (before : List M) (line : M)
    → text_of_lines format (in_order (line ∷ before) []) ≡ text_of_lines format (in_order before []) ++ text_of_line format line
printed_more format before line =
    ap (text_of_lines format) (in_order-append before (line ∷ []))
    ∙ flat_map-append (text_of_line format) (in_order before []) (line ∷ [])
    ∙ ap (λ (xs : List ℕ). text_of_lines format (in_order before []) ++ xs) (append-nil (text_of_line format line))

-- lines that were read, one after the other, are read again from what is written
read_again : {M : Type 0} → (format : TextFormat M) → IsReader format → (before lines : List M) → AreReadSoFar format before → AreRead format before lines
    → AreRead format [] (in_order before lines)
read_again format reader [] lines so_far rest = rest
read_again {M} format reader (line ∷ before) lines so_far rest =
    let one = so_far.0 in
    let same : written format line ≡ one.bytes = reader.written before one.bytes line one.is in
    read_again format reader before (line ∷ lines) so_far.1 (one.going, (rw same one.short, (rw same one.is, rest)))

-- so they are lines that fit, in their places
pub lines_so_far : {M : Type 0} → (format : TextFormat M) (Fits : M → Type 0) (Placed : List M → M → Type 0) → IsGrammar format Fits Placed
    → (lines : List M) → AreReadSoFar format lines → has_ended format lines ≡ true → AreLines format Fits Placed [] (in_order lines [])
lines_so_far format Fits Placed grammar lines so_far ended =
    lines_if_read format Fits Placed grammar [] (in_order lines []) (read_again format (is_reader format Fits Placed grammar) lines [] so_far ended)

-- a text of which no line is refused is that of its lines
pub whole_bytes : {M : Type 0} → (format : TextFormat M) → IsReader format → (text : List ℕ) (lines : List M) → reading format text ≡ whole lines
    → text ≡ text_of_lines format lines
whole_bytes {M} format reader text lines is =
    let all = written_if_read format reader (split 10 text) [] (reading format text) (split-some 10 text) refl (ap (λ (r : Reading M). r.refusal) is) in
    sym (join_split 10 text) ∙ all.0 ∙ ap (λ (r : Reading M). text_of_lines format r.lines) is

module _ {L M : Type 0} (format : TextFormat L) (Means : List L → M → Type 0) (Fits : L → Type 0) (Placed : List L → L → Type 0)
    (language : IsLanguage format Means Fits Placed) where
  -- and spells what its lines mean
  pub whole_spells : (text : List ℕ) (lines : List L) → reading format text ≡ whole lines → (m : M) × (Means lines m × Spells format Means text m)
  whole_spells text lines is =
      let found = spelled_if_none format Means Fits Placed language text (ap (λ (r : Reading L). r.refusal) is) in
      let same : found.1.lines ≡ lines = ap (λ (r : Reading L). r.lines) (sym (reading_if_spelled format Means Fits Placed language text found.0 found.1) ∙ is) in
      let Meant : List L → Type 0 = λ ls. Means ls found.0 in
      (found.0, (subst Meant same found.1.means, found.1))

  -- lines that were read up to the last one mean something
  pub read_lines_mean : (lines : List L) → AreReadSoFar format lines → has_ended format lines ≡ true → (m : M) × Means (in_order lines []) m
  read_lines_mean lines so_far ended = language.means (in_order lines []) (lines_so_far format Fits Placed language.grammar lines so_far ended)
