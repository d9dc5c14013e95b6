-- What is read of a text after some lines, by what a reader of lines makes of it.
use Rattle.std.proofs.Common.{◌≡◌, ℕ, zero, suc, ◌+◌, ◌-◌, ◌^◌, ◌≤◌, min, true, false, eqb, ltb, List, [], ◌∷◌, ◌++◌, length, length-append, take, refl, ap, sym, ◌∙◌, arith, Option, Some, Result, Ok, Err, inl, inr, None, IfOk}
use Rattle.std.proofs.lemmas.Bool.Decides.{nat_tests}
use Rattle.std.specs.List.{list_all, join_with_byte}
use Rattle.std.proofs.lemmas.Option.{none-some}
use Rattle.pd_grammar.specs.declared.cause.TextCause.{TextCause}
use Rattle.pd_grammar.specs.declared.cause.TextCause.TheVariants.{TooLong, NoEnd, AfterEnd}
use Rattle.pd_grammar.specs.Texts.{split, with_first, is_printable, TextFormat, Reading, has_ended, refused, whole, after_line, read, lines_after, reading, number_after}
use Rattle.pd_grammar.proofs.WordLemmas.{Lacks, split-cut, split-one, split-some, join_split, printable_lacks}
use Rattle.pd_lines.specs.declared.reader.LineFault.{LineFault}
use Rattle.pd_lines.specs.Front.{IsUnbroken}
use Rattle.pd_lines.specs.Reader.{Reads, held_of, lines_of, next_number, ReadsLine}
use Rattle.pd_lines.specs.declared.reader.LineFault.TheVariants as l
use Rattle.pd_texts.specs.declared.reader.TextReader.{TextReader}
use Rattle.pd_texts.specs.Reader.{fault_of, fault_after_end, in_order, with_lines, HasRead, ReadsOn, LeavesOf, IsRefusedAfter, RefusesAfter, GivesLine, GivesOf, EndsOf, RefusesNext, begun}
use Rattle.pd_texts.specs.declared.reader.ReadFault.{ReadFault}

lacks_if_unbroken : (bytes : List ℕ) → IsUnbroken bytes → Lacks 10 bytes
lacks_if_unbroken [] unbroken = tt
lacks_if_unbroken (b ∷ bytes) unbroken = (grind (arith, nat_tests, unbroken.0), lacks_if_unbroken bytes unbroken.1)

-- an ended line
line_step : {M : Type 0} → (format : TextFormat M) (before : List M) (bytes : List ℕ) (pieces : List (List ℕ)) → 1 ≤ length pieces
    → has_ended format before ≡ false → length bytes ≤ 160
    → lines_after format before (bytes ∷ pieces) ≡ after_line before (read format before bytes) (λ (line : M). lines_after format (line ∷ before) pieces)
unfolding lines_after
line_step format before bytes [] some going short = absurd (omega arith)
line_step format before bytes (next ∷ pieces) some going short =
    let test : ltb 160 (length bytes) ≡ false = grind (arith, nat_tests) in
    rw (going, test) refl

ended_line : {M : Type 0} → (format : TextFormat M) (before : List M) (text bytes rest : List ℕ) → has_ended format before ≡ false
    → text ≡ bytes ++ (10 ∷ rest) → Lacks 10 bytes → length bytes ≤ 160
    → lines_after format before (split 10 text) ≡ after_line before (read format before bytes) (λ (line : M). lines_after format (line ∷ before) (split 10 rest))
ended_line format before text bytes rest going is lacks short =
    ap (λ (t : List ℕ). lines_after format before (split 10 t)) is
    ∙ ap (lines_after format before) (split-cut 10 bytes rest lacks)
    ∙ line_step format before bytes (split 10 rest) (split-some 10 rest) going short

-- the end of the text
nothing_left : {M : Type 0} → (format : TextFormat M) (before : List M) (text : List ℕ) → has_ended format before ≡ false → text ≡ []
    → lines_after format before (split 10 text) ≡ refused before NoEnd
unfolding lines_after
nothing_left format before text going is = rw (is, going) refl

unended_line : {M : Type 0} → (format : TextFormat M) (before : List M) (text : List ℕ) → has_ended format before ≡ false
    → length text ≤ 160 → IsUnbroken text → lines_after format before (split 10 text) ≡ refused before NoEnd
unfolding lines_after
unended_line format before text going short unbroken =
    let test : ltb 160 (length text) ≡ false = grind (arith, nat_tests) in
    rw (split-one 10 text (lacks_if_unbroken text unbroken), going, test) refl

-- a first piece that is long
record IsLong (n : ℕ) (pieces : List (List ℕ)) : Type 0 where
  piece : List ℕ
  rest : List (List ℕ)
  is : pieces ≡ piece ∷ rest
  long : n ≤ length piece

long_first : (n b : ℕ) (pieces : List (List ℕ)) → IsLong n pieces → IsLong (suc n) (with_first b pieces)
long_first n b pieces long = rw long.is (record { piece = b ∷ long.piece; rest = long.rest; is = refl; long = omega (arith, long.long) })

some_piece : (pieces : List (List ℕ)) → 1 ≤ length pieces → IsLong 0 pieces
some_piece [] some = absurd (omega arith)
some_piece (piece ∷ rest) some = record { piece = piece; rest = rest; is = refl; long = omega arith }

split_long : (n : ℕ) (text : List ℕ) → n ≤ length text → Lacks 10 (take n text) → IsLong n (split 10 text)
split_long zero text within lacks = some_piece (split 10 text) (split-some 10 text)
split_long (suc n) [] within lacks = absurd (omega arith)
split_long (suc n) (b ∷ text) within lacks = rw lacks.0 (long_first n b (split 10 text) (split_long n text (omega arith) lacks.1))

too_long_piece : {M : Type 0} → (format : TextFormat M) (before : List M) (piece : List ℕ) (rest : List (List ℕ)) → has_ended format before ≡ false
    → 161 ≤ length piece → lines_after format before (piece ∷ rest) ≡ refused before TooLong
unfolding lines_after
too_long_piece format before piece [] going long =
    let test : ltb 160 (length piece) ≡ true = grind (arith, nat_tests) in
    rw (going, test) refl
too_long_piece format before piece (next ∷ rest) going long =
    let test : ltb 160 (length piece) ≡ true = grind (arith, nat_tests) in
    rw (going, test) refl

too_long_line : {M : Type 0} → (format : TextFormat M) (before : List M) (text : List ℕ) → has_ended format before ≡ false
    → 161 ≤ length text → IsUnbroken (take 161 text) → lines_after format before (split 10 text) ≡ refused before TooLong
too_long_line format before text going long unbroken =
    let is = split_long 161 text long (lacks_if_unbroken (take 161 text) unbroken) in
    ap (lines_after format before) is.is ∙ too_long_piece format before is.piece is.rest going is.long

-- bytes after the last line
pieces_after_end : {M : Type 0} → (format : TextFormat M) (before : List M) (pieces : List (List ℕ)) → has_ended format before ≡ true
    → 1 ≤ length (join_with_byte 10 pieces) → lines_after format before pieces ≡ refused before AfterEnd
unfolding lines_after
pieces_after_end format before [] ended some = absurd (omega arith)
pieces_after_end format before (piece ∷ []) ended some =
    let more : eqb (length piece) 0 ≡ false = grind (arith, nat_tests) in
    rw (ended, more) refl
pieces_after_end format before (piece ∷ next ∷ pieces) ended some = rw ended refl

after_end : {M : Type 0} → (format : TextFormat M) (before : List M) (text : List ℕ) → has_ended format before ≡ true → 1 ≤ length text
    → lines_after format before (split 10 text) ≡ refused before AfterEnd
after_end format before text ended some = pieces_after_end format before (split 10 text) ended (rw (join_split 10 text) some)

whole_at_end : {M : Type 0} → (format : TextFormat M) (before : List M) (text : List ℕ) → has_ended format before ≡ true → text ≡ []
    → lines_after format before (split 10 text) ≡ whole []
unfolding lines_after
whole_at_end format before text ended is = rw (is, ended) refl

-- a line that is refused is the text's refusal
refused_text : {M : Type 0} → (format : TextFormat M) (text : List ℕ) (before : List M) (rest : Reading M) (number : ℕ) (cause : TextCause)
    → reading format text ≡ with_lines before rest → rest ≡ refused before cause → number ≡ number_after before
    → IsRefusedAfter format text before (record { line = number; cause = cause })
refused_text {M} format text before rest number cause is stops count = record {
  is = is ∙ ap (with_lines before) stops;
  number = count;
  refusal = ap (λ (r : Reading M). r.refusal) is ∙ ap (λ (r : Reading M). r.refusal) stops
      ∙ ap (λ (n : ℕ). Some (record { line = n; cause = cause })) (sym count);
}

-- what a reader of lines can't read of what is left, before the last line
pub fault_refuses : {M : Type 0} → (format : TextFormat M) (text now held : List ℕ) (left : Option (List ℕ)) (before : List M) (number : ℕ) (other : TextCause) (fault : LineFault)
    → reading format text ≡ with_lines before (lines_after format before (split 10 now)) → has_ended format before ≡ false → number ≡ number_after before
    → ((bytes : List ℕ) → list_all is_printable bytes ≡ false → read format before bytes ≡ Err other)
    → Reads (Err fault) number now held left → RefusesAfter format text before (fault_of other fault)
fault_refuses format text now held left before number other l.Source is going count refuses reads = tt
fault_refuses format text now held left before number other (l.TooLong n) is going count refuses reads =
    refused_text format text before (lines_after format before (split 10 now)) n TooLong is (too_long_line format before now going reads.1.0 reads.1.1) (reads.0 ∙ count)
fault_refuses {M} format text now held left before number other (l.NotText n) is going count refuses reads =
    let not_text = reads.1 in
    let rest : M → Reading M = λ line. lines_after format (line ∷ before) (split 10 not_text.rest) in
    refused_text format text before (lines_after format before (split 10 now)) n other is
    (ended_line format before now not_text.bytes not_text.rest going not_text.text_is (lacks_if_unbroken not_text.bytes not_text.unbroken) not_text.short
    ∙ ap (λ (r : Result M TextCause). after_line before r rest) (refuses not_text.bytes not_text.other)) (reads.0 ∙ count)
fault_refuses format text now held left before number other (l.Unended n) is going count refuses reads =
    refused_text format text before (lines_after format before (split 10 now)) n NoEnd is (unended_line format before now going reads.1.1.0 reads.1.1.1) (reads.0 ∙ count)

-- the end of the input before the last line
pub end_refuses : {M : Type 0} → (format : TextFormat M) (text now : List ℕ) (before : List M) (number : ℕ)
    → reading format text ≡ with_lines before (lines_after format before (split 10 now)) → has_ended format before ≡ false → number ≡ number_after before → now ≡ []
    → IsRefusedAfter format text before (record { line = number; cause = NoEnd })
end_refuses format text now before number is going count none =
    refused_text format text before (lines_after format before (split 10 now)) number NoEnd is (nothing_left format before now going none) count

-- a line that the format refuses
pub line_refuses : {M : Type 0} → (format : TextFormat M) (text now bytes rest : List ℕ) (before : List M) (number : ℕ) (cause : TextCause)
    → reading format text ≡ with_lines before (lines_after format before (split 10 now)) → has_ended format before ≡ false → number ≡ number_after before
    → now ≡ bytes ++ (10 ∷ rest) → list_all is_printable bytes ≡ true → length bytes ≤ 160 → read format before bytes ≡ Err cause
    → IsRefusedAfter format text before (record { line = number; cause = cause })
line_refuses {M} format text now bytes rest before number cause is going count text_is printable short refuses =
    let more : M → Reading M = λ line. lines_after format (line ∷ before) (split 10 rest) in
    refused_text format text before (lines_after format before (split 10 now)) number cause is
    (ended_line format before now bytes rest going text_is (printable_lacks bytes printable) short
    ∙ ap (λ (r : Result M TextCause). after_line before r more) refuses) count

-- what a reader of lines can't read after the last line
pub fault_after : {M : Type 0} → (format : TextFormat M) (text now held : List ℕ) (left : Option (List ℕ)) (before : List M) (number : ℕ) (fault : LineFault)
    → reading format text ≡ with_lines before (lines_after format before (split 10 now)) → has_ended format before ≡ true → number ≡ number_after before
    → Reads (Err fault) number now held left → RefusesAfter format text before (fault_after_end fault)
fault_after format text now held left before number l.Source is ended count reads = tt
fault_after format text now held left before number (l.TooLong n) is ended count reads =
    refused_text format text before (lines_after format before (split 10 now)) n AfterEnd is (after_end format before now ended (omega (arith, reads.1.0))) (reads.0 ∙ count)
fault_after format text now held left before number (l.NotText n) is ended count reads =
    let some : 1 ≤ length now = rw reads.1.text_is (omega (arith, length-append reads.1.bytes (10 ∷ reads.1.rest))) in
    refused_text format text before (lines_after format before (split 10 now)) n AfterEnd is (after_end format before now ended some) (reads.0 ∙ count)
fault_after format text now held left before number (l.Unended n) is ended count reads =
    refused_text format text before (lines_after format before (split 10 now)) n AfterEnd is (after_end format before now ended reads.1.0) (reads.0 ∙ count)

-- a line after the last one
pub line_after : {M : Type 0} → (format : TextFormat M) (text now bytes rest : List ℕ) (before : List M) (number : ℕ)
    → reading format text ≡ with_lines before (lines_after format before (split 10 now)) → has_ended format before ≡ true → number ≡ number_after before
    → now ≡ bytes ++ (10 ∷ rest) → IsRefusedAfter format text before (record { line = number; cause = AfterEnd })
line_after format text now bytes rest before number is ended count text_is =
    let some : 1 ≤ length now = rw text_is (omega (arith, length-append bytes (10 ∷ rest))) in
    refused_text format text before (lines_after format before (split 10 now)) number AfterEnd is (after_end format before now ended some) count

-- nothing after the last line
pub end_after : {M : Type 0} → (format : TextFormat M) (text now : List ℕ) (before : List M)
    → reading format text ≡ with_lines before (lines_after format before (split 10 now)) → has_ended format before ≡ true → now ≡ []
    → reading format text ≡ whole (in_order before [])
end_after format text now before is ended none = is ∙ ap (with_lines before) (whole_at_end format before now ended none)

pub count_is : {M : Type 0} → (before : List M) (lines : ℕ) → lines ≡ min (length before) (2 ^ 64 - 1) → min (lines + 1) (2 ^ 64 - 1) ≡ number_after before
count_is before lines e = omega arith

-- one line more was read
pub has_read_more : {P V M : Type 0} → (format : TextFormat M) (Stands : P → List M → Type 0) (before : List M) (line : M) (old new : TextReader P V) (bytes : List ℕ)
    → ReadsOn format Stands before old → lines_of new.reader ≡ next_number old.reader → length bytes ≤ 160 → read format before bytes ≡ Ok line
    → Stands new.state (line ∷ before) → HasRead format Stands (line ∷ before) new
has_read_more format Stands before line old new bytes on counted short is stands = record {
  lines = (record { going = on.going; bytes = bytes; short = short; is = is }, on.so_far.lines);
  stands = stands;
  count = omega (arith, counted, on.so_far.count);
}

-- and what is left of the text
pub leaves_more : {P V M : Type 0} → (format : TextFormat M) (text : List ℕ) (before : List M) (line : M) (old new : TextReader P V) (left now : Option (List ℕ)) (bytes : List ℕ)
    (number : ℕ) → has_ended format before ≡ false → (leaves : LeavesOf format text before old left)
    → ReadsLine (record { number = number; bytes = bytes }) (next_number old.reader) (held_of old.reader ++ leaves.rest) (held_of new.reader) now
    → read format before bytes ≡ Ok line → LeavesOf format text (line ∷ before) new now
leaves_more {P} {V} {M} format text before line old new left now bytes number going leaves reads is =
    let held = held_of new.reader in
    let more : M → Reading M = λ l. lines_after format (l ∷ before) (split 10 (held ++ reads.rest)) in
    record {
      rest = reads.rest;
      left_is = reads.left_is;
      is = leaves.is
          ∙ ap (with_lines before) (ended_line format before (held_of old.reader ++ leaves.rest) bytes (held ++ reads.rest) going reads.text_is (printable_lacks bytes reads.printable) reads.short
          ∙ ap (λ (r : Result M TextCause). after_line before r more) is);
    }

-- What the calls of a reader of a text give together.

pub none_before : {M : Type 0} → (before : List M) → eqb (length before) 0 ≡ true → before ≡ []
none_before [] e = refl
none_before (line ∷ before) e = absurd (grind (arith, nat_tests))

pub some_begun : {M : Type 0} → (first : M) (before : List M) → 1 ≤ length (begun first before)
some_begun first [] = omega arith
some_begun first (line ∷ before) = omega arith

refused_begun : {M : Type 0} → (format : TextFormat M) (first other last : M) → first ≡ other → (text : List ℕ) (before : List M) (fault : ReadFault)
    → RefusesNext format first last text (begun other before) fault → RefusesNext format first last text before fault
refused_begun format first other last same text [] fault refuses = rw same (elim refuses [ inl now ↦ inr (inl now) | inr later ↦ inr later ])
refused_begun format first other last same text (newest ∷ before) fault refuses = refuses

module _ {P V M : Type 0} (format : TextFormat M) (Stands : P → List M → Type 0) (first : M) (meant : Option V → M) where
  -- a line more
  pub gives_line : (line : V) (before : List M) (reader : TextReader P V) → 1 ≤ length before → format.is_end (meant (Some line)) ≡ false
      → HasRead format Stands (meant (Some line) ∷ before) reader → GivesLine format Stands first meant (Ok (Some line)) before reader
  gives_line line [] reader some going read = absurd (omega arith)
  gives_line line (newest ∷ before) reader some going read = record { so_far = read; going = going }

  -- the last line
  pub gives_last : (result : Result (Option V) ReadFault) (before : List M) (mid reader : TextReader P V) → 1 ≤ length before → IfOk result (λ line. line ≡ None)
      → HasRead format Stands (meant None ∷ before) mid → GivesLine format Stands first meant result before reader
  gives_last (Ok None) [] mid reader some none read = absurd (omega arith)
  gives_last (Ok None) (newest ∷ before) mid reader some none read = read.lines
  gives_last (Ok (Some line)) before mid reader some none read = absurd (none-some line (sym none))
  gives_last (Err fault) before mid reader some none read = tt

  -- what is given after the first line
  pub line_begun : (other : M) → first ≡ other → (result : Result (Option V) ReadFault) (before : List M) (reader : TextReader P V)
      → GivesLine format Stands first meant result (begun other before) reader → GivesLine format Stands first meant result before reader
  line_begun other same (Ok None) [] reader gives = rw same gives
  line_begun other same (Ok None) (newest ∷ before) reader gives = gives
  line_begun other same (Ok (Some line)) [] reader gives = rw same gives
  line_begun other same (Ok (Some line)) (newest ∷ before) reader gives = gives
  line_begun other same (Err fault) before reader gives = tt

module _ {P V M : Type 0} (format : TextFormat M) (first : M) (meant : Option V → M) where
  -- the same of a text that the source tells
  pub gives_more : (line : V) (text : List ℕ) (before : List M) (reader : TextReader P V) (left : Option (List ℕ)) → 1 ≤ length before
      → LeavesOf format text (meant (Some line) ∷ before) reader left → GivesOf format first meant (Ok (Some line)) text before reader left
  gives_more line text [] reader left some leaves = absurd (omega arith)
  gives_more line text (newest ∷ before) reader left some leaves = leaves

  pub gives_end : (result : Result (Option V) ReadFault) (text : List ℕ) (before : List M) (reader : TextReader P V) (left : Option (List ℕ)) → 1 ≤ length before
      → IfOk result (λ line. line ≡ None) → EndsOf format result text (meant None ∷ before) left → GivesOf format first meant result text before reader left
  gives_end (Ok None) text [] reader left some none whole = absurd (omega arith)
  gives_end (Ok None) text (newest ∷ before) reader left some none whole = whole
  gives_end (Ok (Some line)) text before reader left some none whole = absurd (none-some line (sym none))
  gives_end (Err fault) text [] reader left some none refuses = absurd (omega arith)
  gives_end (Err fault) text (newest ∷ before) reader left some none refuses = inr (inr refuses)

  pub text_begun : (other : M) → first ≡ other → (result : Result (Option V) ReadFault) (text : List ℕ) (before : List M) (reader : TextReader P V) (left : Option (List ℕ))
      → GivesOf format first meant result text (begun other before) reader left → GivesOf format first meant result text before reader left
  text_begun other same (Ok None) text [] reader left gives = rw same gives
  text_begun other same (Ok None) text (newest ∷ before) reader left gives = gives
  text_begun other same (Ok (Some line)) text [] reader left gives = rw same gives
  text_begun other same (Ok (Some line)) text (newest ∷ before) reader left gives = gives
  text_begun other same (Err fault) text before reader left refuses = refused_begun format first other (meant None) same text before fault refuses
