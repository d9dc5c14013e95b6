use Rattle.std.proofs.Common.{◌≡◌, ℕ, ◌∙◌, ap₂, nat_lt}
use Rattle.std.proofs.lemmas.Option.{IfSome_then}
use Rattle.pd_graph.specs.declared.notes.Note.{Note}
use Rattle.pd_graph.specs.Notes.{size_of}
use Rattle.pd_tree.proofs.StackLemmas.{block_found}
use Rattle.pd_damaged.specs.Loose.{is_noted, looks_loose}
use Rattle.pd_damaged.proofs.MarkLemmas.{one_marked}
use Rattle.pd_damaged.proofs.marks.LooseNodes.look.Goals as goal

pub returns-clause-marks : goal.returns-clause-marks
returns-clause-marks g c =
    let notes = c.args.notes.now in
    let block = c.read.new.into.0 in
    let b = c.args.b in
    let loose = c.is_loose-loose.result in
    let is : loose ≡ looks_loose c.args.kind (size_of notes) (is_noted notes b) b block =
    c.is_loose-loose.ensures
    ∙ ap₂ (λ (n : ℕ) (note : Note). looks_loose c.args.kind n (nat_lt note.height 65) b block) c.nr.ensures.number c.note-sound.ensures in
    IfSome_then (g.D.Device.state c.args.dev.now).held c.in_ok-read.ensures.content
    (λ image content are.
    one_marked c.args.kind notes image b block loose c.args.self.now c.mark.new.self (block_found image b block content) is
    (c.mark.ensures.marks (size_of notes) c.requires.places) are)
