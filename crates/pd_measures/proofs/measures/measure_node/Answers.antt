use Rattle.std.proofs.Common.{◌≡◌, sym, ◌∙◌, ap, arith}
use Rattle.std.proofs.lemmas.Option.{IfSome_then}
use Rattle.pd_graph.specs.declared.notes.Note.{Note}
use Rattle.pd_graph.specs.Notes.{note_in, size_of}
use Rattle.pd_measures.proofs.NodeLemmas.{count_more}
use Rattle.pd_measures.proofs.NodeLemmas.{measured_more}
use Rattle.pd_measures.proofs.measures.measure_node.Goals as goal

pub returns-in_err-read-clause-reads : goal.returns-in_err-read-clause-reads
returns-in_err-read-clause-reads g c =
    let height : (note_in c.args.notes.now c.args.b).height ≡ c.args.height = sym (ap (λ (n : Note). n.height) c.note.ensures) ∙ c.if-note-height.true in
    omega (arith, c.in_err-read.ensures.reads, count_more c.args.notes.now c.args.height c.args.b (size_of c.args.notes.now) c.requires.block height)

pub returns-in_ok-read-clause-reads : goal.returns-in_ok-read-clause-reads
returns-in_ok-read-clause-reads g c =
    let height : (note_in c.args.notes.now c.args.b).height ≡ c.args.height = sym (ap (λ (n : Note). n.height) c.note.ensures) ∙ c.if-note-height.true in
    omega (arith, c.in_ok-read.ensures.reads, count_more c.args.notes.now c.args.height c.args.b (size_of c.args.notes.now) c.requires.block height)

pub returns-in_ok-read-clause-measured : goal.returns-in_ok-read-clause-measured
returns-in_ok-read-clause-measured g c =
    let height : (note_in c.args.notes.now c.args.b).height ≡ c.args.height = sym (ap (λ (n : Note). n.height) c.note.ensures) ∙ c.if-note-height.true in
    IfSome_then (g.D.Device.state c.args.dev.now).held c.in_ok-read.ensures.content (λ image found graph role fit trees done.
    measured_more graph image role g.G.Gauge.SIZE fit (g.G.Gauge.of c.args.gauge.now) c.args.notes.now trees c.args.height c.args.b c.read.new.into.0
    c.measure_block-measure.result c.args.measures.now c.set.new.self c.requires.block height found c.measure_block-measure.ensures.leaf
    c.measure_block-measure.ensures.inner c.set.ensures.measures done)
