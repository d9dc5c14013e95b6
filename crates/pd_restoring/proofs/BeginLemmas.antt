-- The first two lines of a text.
use Rattle.std.proofs.Common.{◌≡◌, inl, inr, ℕ, Bool, true, false, cond, List, [], ◌∷◌, ◌++◌, length, Option, Result, Ok, Err, refl, sym, ap, ◌∙◌}
use Rattle.std.specs.Prelude.{nat_lt, nat_eq}
use Rattle.pd_grammar.specs.declared.cause.TextCause.{TextCause}
use Rattle.pd_grammar.specs.declared.cause.TextCause.TheVariants.{TooLong, NoEnd, AfterEnd}
use Rattle.pd_grammar.specs.Texts.{TextFormat, Reading, has_ended, read, reading, refused, whole, after_line, lines_after, split}
use Rattle.pd_grammar.specs.Spelling.{need_above_room}
use Rattle.pd_lines.specs.Reader.{held_of}
use Rattle.pd_texts.specs.declared.reader.ReadFault.{ReadFault}
use Rattle.pd_texts.specs.declared.reader.TextReader.{TextReader}
use Rattle.pd_texts.specs.Reader.{LeavesOf, RefusesNext}
use Rattle.pd_texts.specs.declared.reader.ReadFault.TheVariants as c
use Rattle.pd_restoring.specs.Reading.{BeginsOf, BeginsWith}
use Rattle.pd_restoring.specs.Restored.{read_fault}

-- a line that was read with others
module _ {L : Type 0} (format : TextFormat L) where
  past_tests : (b c : Bool) (x y z : Reading L) (line : L) (rest : List L) → x.lines ≡ [] → y.lines ≡ [] → (cond b x (cond c y z)).lines ≡ line ∷ rest → z.lines ≡ line ∷ rest
  past_tests true c x y z line rest none also e = absurd cc
  past_tests false true x y z line rest none also e = absurd cc
  past_tests false false x y z line rest none also e = e

  after_read : (before : List L) (r : Result L TextCause) (f : L → Reading L) (line : L) (rest : List L) → (after_line before r f).lines ≡ line ∷ rest
      → (r ≡ Ok line) × (rest ≡ (f line).lines)
  after_read before (Ok l) f line rest e =
      let same : l ≡ line = cc in
      let others : rest ≡ (f l).lines = cc in
      (ap (λ (x : L). Ok x) same, others ∙ ap (λ (x : L). (f x).lines) same)
  after_read before (Err cause) f line rest e = absurd cc

  -- the first of the lines of some pieces, and the others
  record IsFirst (before : List L) (line : L) (rest : List L) : Type 0 where
    bytes : List ℕ
    is : read format before bytes ≡ Ok line
    pieces : List (List ℕ)
    others : rest ≡ (lines_after format (line ∷ before) pieces).lines

  first_of_lines : (before : List L) (pieces : List (List ℕ)) (line : L) (rest : List L) → (lines_after format before pieces).lines ≡ line ∷ rest → IsFirst before line rest
  unfolding lines_after
  first_of_lines before [] line rest e = absurd (no e)
    where
      no : [] ≡ line ∷ rest → ⊥
      no e = cc
  first_of_lines before (piece ∷ []) line rest e = absurd (no (has_ended format before) (nat_eq (length piece) 0) (nat_lt 160 (length piece)) e)
    where
      no : (a b c : Bool) → (cond a (cond b (whole []) (refused before AfterEnd)) (cond c (refused before TooLong) (refused before NoEnd))).lines ≡ line ∷ rest → ⊥
      no true true c e = cc
      no true false c e = cc
      no false b true e = cc
      no false b false e = cc
  first_of_lines before (piece ∷ next ∷ pieces) line rest e =
      let reads = past_tests (has_ended format before) (nat_lt 160 (length piece)) (refused before AfterEnd) (refused before TooLong)
      (after_line before (read format before piece) (λ line. lines_after format (line ∷ before) (next ∷ pieces))) line rest refl refl e in
      let both = after_read before (read format before piece) (λ line. lines_after format (line ∷ before) (next ∷ pieces)) line rest reads in
      record { bytes = piece; is = both.0; pieces = next ∷ pieces; others = both.1 }

  -- where the last line isn't read behind the first one
  module _ (first last : L) (no_end : (bytes : List ℕ) → read format (first ∷ []) bytes ≡ Ok last → ⊥) where
    -- it isn't the second line of any text
    no_second_end : (t : List ℕ) → (reading format t).lines ≡ first ∷ last ∷ [] → ⊥
    no_second_end t e =
        let one = first_of_lines [] (split 10 t) first (last ∷ []) e in
        let second = first_of_lines (first ∷ []) one.pieces last [] (sym one.others) in
        no_end second.bytes second.is

    -- what a fault of the reader says of a text before its third line
    pub begins : (need : ℕ → List L → ℕ) (fault : ReadFault) (t : List ℕ) → RefusesNext format first last t [] fault → (room : ℕ) → BeginsOf format need room t (read_fault fault)
    begins need c.Memory t refuses room = tt
    begins need c.Source t refuses room = tt
    begins need (c.Text fault) t (inl at) room = (ap (λ (r : Reading L). need_above_room (need room) room [] r.lines) at.is, at.refusal)
    begins need (c.Text fault) t (inr (inl at)) room = (ap (λ (r : Reading L). need_above_room (need room) room [] r.lines) at.is, at.refusal)
    begins need (c.Text fault) t (inr (inr at)) room = absurd (no_second_end t (ap (λ (r : Reading L). r.lines) at.is))

  -- a text of which two lines were read begins with them
  pub begins_with : {P V : Type 0} (first second : L) (t : List ℕ) (reader : TextReader P V) (left : Option (List ℕ)) → LeavesOf format t (second ∷ first ∷ []) reader left
      → BeginsWith format t (second ∷ first ∷ [])
  begins_with first second t reader left leaves = record {
    first = first;
    second = second;
    are = refl;
    rest = (lines_after format (second ∷ first ∷ []) (split 10 (held_of reader.reader ++ leaves.rest))).lines;
    is = ap (λ (r : Reading L). r.lines) leaves.is;
  }
