use Rattle.std.proofs.Common.{◌≡◌, ℕ, Bool, ◌&&◌, not, nat_eq, List, Option, Some, None, sym, ap, ◌∙◌}
use Rattle.pd_kinds.specs.Trees.{entries_below, keys_of}
use Rattle.pd_kinds.specs.Whole.{is_not_counting}
use Rattle.pd_graph.specs.declared.notes.Note.{Note}
use Rattle.pd_check.specs.Known.{IsUp}
use Rattle.pd_check.specs.Known.{counts_to}
use Rattle.pd_check.specs.Known.{IsNoteOf}
use Rattle.pd_check.proofs.KnownLemmas.{counts}
use Rattle.pd_check.proofs.charging.is_counting.Goals as goal

-- by the note of keys that ascend
by_note : (keys : List ℕ) (note : Note) (n : ℕ) (greatest : Option ℕ) → IsUp 0 keys → IsNoteOf keys note → note.greatest ≡ greatest
    → counts_to greatest note.below n ≡ not (is_not_counting keys n)
by_note keys note n greatest up is e =
    rw (sym e, is.greatest, is.below) (counts keys n up)

pub returns-in-Some-clause-keys : goal.returns-in-Some-clause-keys
returns-in-Some-clause-keys c = λ graph image role size known ordered is reached.
    let keys = keys_of (entries_below graph image size role c.args.root) in
    let up = c.keys_of_reached_trees_ascend.ensures graph image c.args.root role size known.lawful ordered is reached in
    let noted = known.notes c.args.root role size is reached in
    ap (λ (follows : Bool). nat_eq c.note-note.result.below c.args.n && follows) c.is_next-follows.ensures
    ∙ by_note keys c.note-note.result c.args.n (Some c.in-Some.last) up (rw c.note-note.ensures noted) c.in-Some.is

pub returns-in-None-clause-keys : goal.returns-in-None-clause-keys
returns-in-None-clause-keys c = λ graph image role size known ordered is reached.
    let keys = keys_of (entries_below graph image size role c.args.root) in
    let up = c.keys_of_reached_trees_ascend.ensures graph image c.args.root role size known.lawful ordered is reached in
    let noted = known.notes c.args.root role size is reached in
    by_note keys c.note-note.result c.args.n None up (rw c.note-note.ensures noted) c.in-None.is
