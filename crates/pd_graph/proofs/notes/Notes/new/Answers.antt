use Rattle.std.proofs.Common.{List, get_or, ap, ◌∙◌}
use Rattle.pd_graph.specs.declared.notes.KeptNote.{KeptNote}
use Rattle.pd_graph.specs.Notes.{note_of, no_kept_note}
use Rattle.pd_graph.proofs.TableLemmas.{empty_notes}
use Rattle.pd_graph.proofs.notes.Notes.new.Goals as goal

pub returns-clause-notes : goal.returns-clause-notes
returns-clause-notes c b =
    ap (λ (items : List KeptNote). note_of (get_or items b no_kept_note)) c.in_ok-kept.ensures
    ∙ empty_notes c.args.nr b c.of-unknown.result c.of-unknown.ensures
