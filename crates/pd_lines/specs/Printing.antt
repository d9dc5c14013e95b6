-- What was printed: put to a sink, or pending.
use Rattle.std.specs.Prelude.{ℕ, List, ◌++◌, Option, Result, MatchResult, OnOk}
use Rattle.pd_kinds.specs.Objects.{SinkState, Appends, AppendsFront}
use Rattle.pd_image.specs.Sink.{KeepsSink}
use Rattle.pd_lines.specs.Pieces.{Gathers}

-- a sink, and what is pending for it
pub record Printing : Type 0 where
  pub sink : SinkState
  pub pending : List ℕ

-- a text was put or is pending
pub record Printed (text : List ℕ) (old new : Printing) : Type 0 where
  pub gathered : (total : List ℕ) (start : Option (List ℕ)) → Gathers total old.pending start old.sink.written → Gathers (total ++ text) new.pending start new.sink.written
  pub kept : KeepsSink old.sink new.sink

-- or a front of it was put, behind what had been pending
pub record Begun (text : List ℕ) (old new : Printing) : Type 0 where
  pub front : (total : List ℕ) (start : Option (List ℕ)) → Gathers total old.pending start old.sink.written → AppendsFront (total ++ text) start new.sink.written
  pub kept : KeepsSink old.sink new.sink

-- a call printed a text, or began to
abbrev pub Prints : {T E : Type 0} → List ℕ → Result T E → Printing → Printing → Type 0
Prints text result old new = MatchResult result (λ _. Printed text old new) (λ _. Begun text old new)

-- all that was pending was put, or a front of it
pub record Finishes {T E : Type 0} (result : Result T E) (old : Printing) (sink : SinkState) : Type 0 where
  pub whole : (total : List ℕ) (start : Option (List ℕ)) → Gathers total old.pending start old.sink.written → OnOk result (Appends total start sink.written)
  pub front : (total : List ℕ) (start : Option (List ℕ)) → Gathers total old.pending start old.sink.written → AppendsFront total start sink.written
  pub kept : KeepsSink old.sink sink
