-- A text that is read and restored, line by line.
use Rattle.std.proofs.Common.{◌≡◌, ⊎_elim, ℕ, ◌<◌, ◌≤◌, not, eqb, List, [], ◌∷◌, ◌++◌, length, refl, sym, ◌∙◌, ap, append_assoc, arith, Option, None, Some, Result, Ok, Err, inl, inr, zero, suc, ◌*◌, max}
use Rattle.std.specs.Prelude.{IfErr}
use Rattle.std.proofs.lemmas.Bool.{lt-ltb, le-ltb, cases_lt}
use Rattle.pd_kinds.specs.Objects.{SourceState}
use Rattle.pd_grammar.specs.Texts.{TextFormat, text_of_lines, whole}
use Rattle.pd_grammar.specs.Spelling.{need_above_room, accepted, IsVerdict}
use Rattle.pd_grammar.specs.Need.{nodes_for, need_above, nodes_of_tree}
use Rattle.pd_grammar.specs.Texts
use Rattle.pd_image.specs.Source.{KeepsSource}
use Rattle.pd_lines.specs.Reader.{lines_of}
use Rattle.pd_texts.specs.declared.reader.TextFault.{TextFault}
use Rattle.pd_texts.specs.declared.reader.ReadFault.{ReadFault}
use Rattle.pd_texts.specs.declared.reader.TextReader.{TextReader}
use Rattle.pd_texts.specs.Reader.{IsPast, in_order, AreReadSoFar, ReadsOn, LeavesOf, GivesLine, GivesOf, IsWhole, IsRefusedAfter, RefusesNext, begun}
use Rattle.pd_texts.proofs.ValueLemmas.{not_first, and_false}
use Rattle.pd_texts.specs.declared.reader.ReadFault.TheVariants as c
use Rattle.pd_build.specs.declared.fault.BuildFault.{BuildFault}
use Rattle.pd_build.specs.declared.fault.BuildFault.TheVariants as b
use Rattle.pd_restoring.specs.declared.fault.RestoreFault.{RestoreFault}
use Rattle.pd_restoring.specs.Restored.{read_fault, build_fault}
use Rattle.pd_restoring.specs.Reading.{NoneAbove, SaysOf, IsOfBuild, IsOfLater, CountsTake}
use Rattle.pd_restoring.specs.declared.fault.RestoreFault.TheVariants as r

pub above_next : {L : Type 0} (need : ℕ → List L → ℕ) (room : ℕ) (before : List L) (line : L) → NoneAbove need room before → need room (line ∷ before) ≤ room → NoneAbove need room (line ∷ before)
above_next need room before line above fits lines =
    above (line ∷ lines) ∙ rw (le-ltb room (need room (line ∷ before)) fits, and_false (not (eqb (length before) 0))) refl

-- the first one that is, is what is needed
pub above_here : {L : Type 0} (need : ℕ → List L → ℕ) (room : ℕ) (before lines : List L) (line : L) → NoneAbove need room before → 1 ≤ length before → room < need room (line ∷ before)
    → need_above_room (need room) room [] (in_order before (line ∷ lines)) ≡ Some (need room (line ∷ before))
above_here need room before lines line above some more =
    above (line ∷ lines) ∙ rw (not_first (length before) some, lt-ltb room (need room (line ∷ before)) more) refl

-- what a reader gives after lines
begun_same : {L : Type 0} (first : L) (before : List L) → 1 ≤ length before → begun first before ≡ before
begun_same first [] some = absurd (omega arith)
begun_same first (line ∷ before) some = refl

module _ {P V L : Type 0} (format : TextFormat L) (Stands : P → List L → Type 0) (first : L) (meant : Option V → L) where
  pub line_given : (next : Option V) (line : V) (before : List L) (new : TextReader P V) → next ≡ Some line → 1 ≤ length before
      → GivesLine format Stands first meant (Ok next) before new → ReadsOn format Stands (meant (Some line) ∷ before) new
  line_given next line before new is some gives = rw (begun_same first before some) at (rw is at gives)

  pub line_told : (next : Option V) (line : V) (t : List ℕ) (before : List L) (new : TextReader P V) (left : Option (List ℕ)) → next ≡ Some line → 1 ≤ length before
      → GivesOf format first meant (Ok next) t before new left → LeavesOf format t (meant (Some line) ∷ before) new left
  line_told next line t before new left is some gives = rw (begun_same first before some) at (rw is at gives)

  pub end_given : (next : Option V) (before : List L) (new : TextReader P V) → next ≡ None → 1 ≤ length before
      → GivesLine format Stands first meant (Ok next) before new → AreReadSoFar format (meant None ∷ before)
  end_given next before new is some gives = rw (begun_same first before some) at (rw is at gives)

  pub end_told : (next : Option V) (t : List ℕ) (before : List L) (new : TextReader P V) (left : Option (List ℕ)) → next ≡ None → 1 ≤ length before
      → GivesOf format first meant (Ok next) t before new left → IsWhole format t (meant None ∷ before) left
  end_told next t before new left is some gives = rw (begun_same first before some) at (rw is at gives)

-- a failure at the end says nothing of the text
pub end_says : {T L : Type 0} (format : TextFormat L) (need : ℕ → List L → ℕ) (result : Result T RestoreFault) (room : ℕ) (t : List ℕ) → IfErr result IsOfBuild → IfErr result (SaysOf format need room t)
end_says format need (Ok more) room t of = tt
end_says format need (Err r.Memory) room t of = tt
end_says format need (Err r.Source) room t of = tt
end_says format need (Err r.Device) room t of = tt
end_says format need (Err (r.Text fault)) room t of = absurd of
end_says format need (Err (r.NoRoom needed blocks)) room t of = absurd of

-- what is refused after two lines is none of them
pub later_read : {P V L : Type 0} (format : TextFormat L) (Stands : P → List L → Type 0) (before : List L) (reader : TextReader P V) (fault : ReadFault)
    → ReadsOn format Stands before reader → 2 ≤ length before → IsPast (lines_of reader.reader) fault → IsOfLater (read_fault fault)
later_read format Stands before reader c.Memory on some past = tt
later_read format Stands before reader c.Source on some past = tt
later_read format Stands before reader (c.Text fault) on some past = omega (arith, on.so_far.count)

-- nor does what is taken or built refuse one
pub later_take : {T : Type 0} (result : Result T RestoreFault) (old new : ℕ) → CountsTake result old new → IfErr result IsOfLater
later_take (Ok more) old new counts = tt
later_take (Err r.Memory) old new counts = tt
later_take (Err r.Source) old new counts = tt
later_take (Err r.Device) old new counts = tt
later_take (Err (r.Text fault)) old new counts = absurd counts
later_take (Err (r.NoRoom needed blocks)) old new counts = tt

pub later_build : (fault : BuildFault) → IsOfLater (build_fault fault)
later_build b.Memory = tt
later_build b.Device = tt

-- a refusal after lines that have room
module _ {L : Type 0} (format : TextFormat L) (need : ℕ → List L → ℕ) where
  pub refused_says : (room : ℕ) (t : List ℕ) (lines : List L) (fault : TextFault) → NoneAbove need room lines → IsRefusedAfter format t lines fault → SaysOf format need room t (r.Text fault)
  refused_says room t lines fault above is =
      (ap (λ (reading : Texts.Reading L). need_above_room (need room) room [] reading.lines) is.is ∙ above [], is.refusal)

  -- what a fault of the reader says after them, where they have room with the last line too
  pub next_says : (first last : L) (fault : ReadFault) (room : ℕ) (t : List ℕ) (before : List L) → 1 ≤ length before → NoneAbove need room before → need room (last ∷ before) ≤ room
      → RefusesNext format first last t before fault → SaysOf format need room t (read_fault fault)
  next_says first last c.Memory room t before some above fits refuses = tt
  next_says first last c.Source room t before some above fits refuses = tt
  next_says first last (c.Text fault) room t before some above fits refuses =
      let same = begun_same first before some in
      ⊎_elim (λ here. refused_says room t before fault above here)
      (⊎_elim (λ second. refused_says room t before fault above (rw same at second))
      (λ end. refused_says room t (last ∷ before) fault (above_next need room before last above fits) (rw same at end))) refuses

  -- a text whose lines are these spells what they mean, and has room
  pub accepted_whole : {M : Type 0} (Means : List L → M → Type 0) → ((text : List ℕ) (lines : List L) → Texts.reading format text ≡ whole lines → text ≡ text_of_lines format lines)
      → (t : List ℕ) (lines : List L) (room : ℕ) (m : M) (left : Option (List ℕ)) → Means (in_order lines []) m → NoneAbove need room lines → IsWhole format t lines left
      → IsVerdict format Means (need room) t room (accepted m) × (left ≡ Some [])
  accepted_whole Means bytes t lines room m left means above is = (
    (
      ap (λ (reading : Texts.Reading L). need_above_room (need room) room [] reading.lines) is.0 ∙ above [],
      record { lines = in_order lines []; bytes = bytes t (in_order lines []) is.0; means = means },
    ),
    is.1,
  )

-- a line more behind others
pub one_later : {L : Type 0} (before lines later : List L) (line : L) → ((others : List L) → in_order lines others ≡ in_order before (later ++ others))
    → (others : List L) → in_order (line ∷ lines) others ≡ in_order before ((later ++ line ∷ []) ++ others)
one_later {L} before lines later line front others = front (line ∷ others) ∙ ap (λ (xs : List L). in_order before xs) (sym (append_assoc later (line ∷ []) others))

-- what stays of a source over two calls
pub keeps_source : {a b c : SourceState} → KeepsSource a b → KeepsSource b c → KeepsSource a c
keeps_source p q = record { access = q.access ∙ p.access; path = q.path ∙ p.path }

-- How many nodes a tree has at most.

-- the nodes above so many
pub above_most : (levels nodes : ℕ) → need_above levels nodes ≤ nodes
unfolding need_above
above_most zero nodes = omega arith
above_most (suc levels) nodes = elim (cases_lt 1 nodes) [
  | inl some ↦ rw (lt-ltb 1 nodes some) (let rest = above_most levels (nodes_for 252 nodes) in omega arith)
  | inr none ↦ rw (le-ltb 1 nodes none) (omega arith)
]

-- and those of a tree
pub tree_most : (most n : ℕ) → nodes_of_tree most n ≤ 2 * max 1 (nodes_for most n)
unfolding nodes_of_tree
tree_most most n = let above = above_most 10 (max 1 (nodes_for most n)) in omega arith
