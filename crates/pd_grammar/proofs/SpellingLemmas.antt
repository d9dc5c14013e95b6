-- The laws of spelling, for any format whose lines mean something.
use Rattle.std.proofs.Common.{◌≡◌, ℕ, List, [], refl, ap, sym, ◌∙◌, None, ◌⊎◌, inl, inr, ◌+◌, ◌≤◌, ◌<◌, true, false, not, ◌&&◌, ◌∷◌, length, arith, eqb, ltb, Option, Some}
use Rattle.std.proofs.lemmas.Bool.{cases_Bool}
use Rattle.std.proofs.lemmas.Bool.Decides.{Decides-ltb, nat_tests}
use Rattle.std.proofs.lemmas.Option.{none-some, same_Some}
use Rattle.pd_grammar.specs.Texts.{split, TextFormat, Reading, whole, reading, refusal, Refusal}
use Rattle.pd_grammar.specs.Spelling.{Spells, Verdict, accepted, refused, no_room, IsVerdict, need_above_room}
use Rattle.pd_grammar.proofs.WordLemmas.{join_split, split-some}
use Rattle.pd_grammar.proofs.GrammarLemmas.{written_if_read, read_if_written, IsGrammar, AreLines, is_reader, read_if_lines, lines_if_read}

-- a kind of text: its lines, read one after the other, mean one thing each, and what means something is read
pub record IsLanguage {L M : Type 0} (format : TextFormat L) (Means : List L → M → Type 0) (Fits : L → Type 0) (Placed : List L → L → Type 0) : Type 0 where
  pub grammar : IsGrammar format Fits Placed
  pub means : (lines : List L) → AreLines format Fits Placed [] lines → (m : M) × Means lines m
  pub lines : (lines : List L) (m : M) → Means lines m → AreLines format Fits Placed [] lines
  pub one : (lines : List L) (m n : M) → Means lines m → Means lines n → m ≡ n

module _ {L M : Type 0} (format : TextFormat L) (Means : List L → M → Type 0) (Fits : L → Type 0) (Placed : List L → L → Type 0)
    (language : IsLanguage format Means Fits Placed) where
  -- the lines of a text that spells something are read
  pub reading_if_spelled : (text : List ℕ) (m : M) (s : Spells format Means text m) → reading format text ≡ whole s.lines
  reading_if_spelled text m s =
      ap (reading format) s.bytes
      ∙ read_if_written format (is_reader format Fits Placed language.grammar) s.lines []
      (read_if_lines format Fits Placed language.grammar [] s.lines (language.lines s.lines m s.means))

  pub none_if_spelled : (text : List ℕ) (m : M) → Spells format Means text m → refusal format text ≡ None
  none_if_spelled text m s = ap (λ (r : Reading L). r.refusal) (reading_if_spelled text m s)

  -- a text without refusal spells something
  pub spelled_if_none : (text : List ℕ) → refusal format text ≡ None → (m : M) × Spells format Means text m
  spelled_if_none text none =
      let all = written_if_read format (is_reader format Fits Placed language.grammar) (split 10 text) [] (reading format text) (split-some 10 text) refl none in
      let lines = (reading format text).lines in
      let means = language.means lines (lines_if_read format Fits Placed language.grammar [] lines all.1) in
      (means.0, record { lines = lines; bytes = sym (join_split 10 text) ∙ all.0; means = means.1 })

  -- no text spells two things
  pub spells_one : (text : List ℕ) (m n : M) → Spells format Means text m → Spells format Means text n → m ≡ n
  spells_one text m n s t =
      let same : s.lines ≡ t.lines = ap (λ (r : Reading L). r.lines) (sym (reading_if_spelled text m s) ∙ reading_if_spelled text n t) in
      let means : Means t.lines m = rw (← same) s.means in
      language.one t.lines m n means t.means

-- Verdicts on texts.

-- the need after each line from line 2 on is at most this
abbrev pub AreWithin : {L : Type 0} → (List L → ℕ) → ℕ → List L → List L → Type 0
AreWithin need most before [] = Unit {0}
AreWithin need most before (line ∷ lines) = (1 ≤ length before → need (line ∷ before) ≤ most) × AreWithin need most (line ∷ before) lines

-- the need after all lines
abbrev pub need_after : {L : Type 0} → (List L → ℕ) → List L → List L → ℕ
need_after need before [] = need before
need_after need before (line ∷ lines) = need_after need (line ∷ before) lines

goes_on : (n need room : ℕ) → (1 ≤ n → need ≤ room) → (not (eqb n 0) && ltb room need) ≡ false
goes_on n need room within = grind (arith, nat_tests)

-- where there is room, no line needs more
pub none_above : {L : Type 0} → (need : List L → ℕ) (most room : ℕ) (before lines : List L) → most ≤ room → AreWithin need most before lines
    → need_above_room need room before lines ≡ None
none_above need most room before [] fits within = refl
none_above need most room before (line ∷ lines) fits within =
    rw (goes_on (length before) (need (line ∷ before)) room (λ some. omega (arith, within.0 some, fits))) (none_above need most room (line ∷ before) lines fits within.1)

-- a need that is above the room, and at most this
pub record IsAbove (need : Option ℕ) (room most : ℕ) : Type 0 where
  pub needed : ℕ
  pub is : need ≡ Some needed
  pub above : room < needed
  pub within : needed ≤ most

stops : (n need room : ℕ) → (not (eqb n 0) && ltb room need) ≡ true → (1 ≤ n) × (room < need)
stops n need room e = (grind (arith, nat_tests), grind (arith, nat_tests))

passed : (n need room : ℕ) → 1 ≤ n → (not (eqb n 0) && ltb room need) ≡ false → need ≤ room
passed n need room some e = grind (arith, nat_tests)

-- where the need after the last line is above the room, some line's is
pub some_above : {L : Type 0} → (need : List L → ℕ) (most room : ℕ) (before lines : List L) → room < need_after need before lines
    → 1 ≤ length lines → 2 ≤ length before + length lines → AreWithin need most before lines → IsAbove (need_above_room need room before lines) room most
some_above need most room before [] above some two within = absurd (omega (arith, some))
some_above need most room before (line ∷ []) above some two within =
    elim (cases_Bool (not (eqb (length before) 0) && ltb room (need (line ∷ before)))) [
      | inl stop ↦ let is = stops (length before) (need (line ∷ before)) room stop in
          rw stop (record { needed = need (line ∷ before); is = refl; above = is.1; within = within.0 is.0 })
      | inr going ↦ absurd (omega (arith, passed (length before) (need (line ∷ before)) room (omega (arith, two)) going, above))
    ]
some_above need most room before (line ∷ next ∷ lines) above some two within =
    elim (cases_Bool (not (eqb (length before) 0) && ltb room (need (line ∷ before)))) [
      | inl stop ↦ let is = stops (length before) (need (line ∷ before)) room stop in
          rw stop (record { needed = need (line ∷ before); is = refl; above = is.1; within = within.0 is.0 })
      | inr going ↦ rw going (some_above need most room (line ∷ before) (next ∷ lines) above (omega arith) (omega arith) within.1)
    ]

-- an option of which both cases are known
pub shown : {X : Type 0} → (o : Option X) → (o ≡ None) ⊎ ((x : X) × (o ≡ Some x))
shown None = inl refl
shown (Some x) = inr (x, refl)

module _ {L M : Type 0} (format : TextFormat L) (Means : List L → M → Type 0) (Fits : L → Type 0) (Placed : List L → L → Type 0)
    (language : IsLanguage format Means Fits Placed) (need : List L → ℕ) where
  -- each text has a verdict
  pub some_verdict : (text : List ℕ) (room : ℕ) → (v : Verdict M) × IsVerdict format Means need text room v
  some_verdict text room = elim (shown (need_above_room need room [] (reading format text).lines)) [
    | inr above ↦ (no_room above.0 room, (above.1, refl))
    | inl room_enough ↦ elim (shown (refusal format text)) [
      | inr why ↦ (refused why.0, (room_enough, why.1))
      | inl none ↦ let s = spelled_if_none format Means Fits Placed language text none in (accepted s.0, (room_enough, s.1))
    ]
  ]

  -- and no other
  pub one_verdict : (text : List ℕ) (room : ℕ) (v w : Verdict M) → IsVerdict format Means need text room v → IsVerdict format Means need text room w → v ≡ w
  one_verdict text room (accepted m) (accepted n) a b = ap (λ (x : M). accepted x) (spells_one format Means Fits Placed language text m n a.1 b.1)
  one_verdict text room (accepted m) (refused why) a b = absurd (none-some why (sym (none_if_spelled format Means Fits Placed language text m a.1) ∙ b.1))
  one_verdict text room (accepted m) (no_room needed blocks) a b = absurd (none-some needed (sym a.0 ∙ b.0))
  one_verdict text room (refused why) (accepted n) a b = absurd (none-some why (sym (none_if_spelled format Means Fits Placed language text n b.1) ∙ a.1))
  one_verdict text room (refused why) (refused other) a b = ap (λ (x : Refusal). refused x) (same_Some why other (sym a.1 ∙ b.1))
  one_verdict text room (refused why) (no_room needed blocks) a b = absurd (none-some needed (sym a.0 ∙ b.0))
  one_verdict text room (no_room needed blocks) (accepted n) a b = absurd (none-some needed (sym b.0 ∙ a.0))
  one_verdict text room (no_room needed blocks) (refused why) a b = absurd (none-some needed (sym b.0 ∙ a.0))
  one_verdict text room (no_room needed blocks) (no_room other others) a b = rw (same_Some needed other (sym a.0 ∙ b.0), a.1, b.1) refl

  lines_are : (text : List ℕ) (m : M) (s : Spells format Means text m) → (reading format text).lines ≡ s.lines
  lines_are text m s = ap (λ (r : Reading L). r.lines) (reading_if_spelled format Means Fits Placed language text m s)

  -- what is spelled is accepted where there is room
  pub accepted_if_room : (text : List ℕ) (m : M) (room most : ℕ) (s : Spells format Means text m) → most ≤ room → AreWithin need most [] s.lines
      → IsVerdict format Means need text room (accepted m)
  accepted_if_room text m room most s fits within = (ap (need_above_room need room []) (lines_are text m s) ∙ none_above need most room [] s.lines fits within, s)

  -- and else it has no room
  pub no_room_above : (text : List ℕ) (m : M) (room most : ℕ) (s : Spells format Means text m) → room < need_after need [] s.lines → 2 ≤ length s.lines
      → AreWithin need most [] s.lines → (needed : ℕ) × (IsVerdict format Means need text room (no_room needed room) × ((room < needed) × (needed ≤ most)))
  no_room_above text m room most s above two within =
      let is = some_above need most room [] s.lines above (omega (arith, two)) (omega (arith, two)) within in
      (is.needed, ((ap (need_above_room need room []) (lines_are text m s) ∙ is.is, refl), (is.above, is.within)))

  -- where line 2 needs more, that is its need
  pub no_room_at_second : (text : List ℕ) (m : M) (room : ℕ) (first second : L) (lines : List L) (s : Spells format Means text m) → s.lines ≡ first ∷ second ∷ lines
      → room < need (second ∷ first ∷ []) → IsVerdict format Means need text room (no_room (need (second ∷ first ∷ [])) room)
  no_room_at_second text m room first second lines s e above =
      let test : ltb room (need (second ∷ first ∷ [])) ≡ true = (Decides-ltb room (need (second ∷ first ∷ []))).1 above in
      let is : need_above_room need room [] (first ∷ second ∷ lines) ≡ Some (need (second ∷ first ∷ [])) = rw test refl in
      (ap (need_above_room need room []) (lines_are text m s ∙ e) ∙ is, refl)
