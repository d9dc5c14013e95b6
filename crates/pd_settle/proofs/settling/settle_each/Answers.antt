use Rattle.std.proofs.Common.{Bool, ◌||◌, sym, ◌∙◌, ap, arith}
use Rattle.std.proofs.lemmas.Option.{IfSome_then}
use Rattle.pd_graph.specs.declared.notes.Note.{Note}
use Rattle.pd_graph.specs.Audit.{note_at}
use Rattle.pd_settle.specs.Settled.{is_node}
use Rattle.pd_settle.specs.Settled.{noted_rule, breaks}
use Rattle.pd_settle.proofs.NodeLemmas.{clean_of}
use Rattle.pd_settle.proofs.RoleLemmas.{leaves_kept}
use Rattle.pd_settle.proofs.SettledLemmas.{settled_kept, settled_of}
use Rattle.pd_settle.proofs.settling.settle_each.Goals as goal

pub returns-clause-settled : goal.returns-clause-settled
returns-clause-settled g c =
    let graph = g.F.Format.graph c.args.format.now in
    let kept = c.mark_each.ensures.kept in
    IfSome_then (g.D.Device.state c.args.dev.now).held c.in_ok-note_each.ensures.settled (λ image settled walked noted.
    settled_of graph image c.mark_each.new.audit (g.met.F.Format.lawful c.args.format.now) (clean_of graph image c.args.audit.now walked c.requires.sound)
    (settled_kept graph image (is_node graph image) (note_at c.note_each.new.audit) (note_at c.mark_each.new.audit) kept.notes
    (settled (record { roles = walked.roles; rules = walked.rules; counts = walked.counts })
    (leaves_kept graph image (note_at c.args.audit.now) _ c.forget_inner_nodes.ensures.leaves noted)))
    (λ b wanted small.
    c.mark_each.ensures.rules b wanted (let number = c.note_each.ensures.marks.number in let blocks = c.requires.number in omega arith)
    ∙ (ap (λ (x : Bool). x || breaks (noted_rule (note_at c.note_each.new.audit b)) wanted) (c.note_each.ensures.marks.rules b wanted ∙ c.requires.sound b wanted small)
    ∙ ap (λ (n : Note). breaks (noted_rule n) wanted) (sym (kept.notes b)))))

pub returns-clause-reads : goal.returns-clause-reads
returns-clause-reads g c =
    IfSome_then (g.D.Device.state c.args.dev.now).held c.note_each.ensures.reads (λ image reads walked noted.
    reads (record { roles = walked.roles; rules = walked.rules; counts = walked.counts })
    (leaves_kept (g.F.Format.graph c.args.format.now) image (note_at c.args.audit.now) _ c.forget_inner_nodes.ensures.leaves noted))

pub returns-in_err-note_each-clause-reads : goal.returns-in_err-note_each-clause-reads
returns-in_err-note_each-clause-reads g c =
    IfSome_then (g.D.Device.state c.args.dev.now).held c.note_each.ensures.reads (λ image reads walked noted.
    reads (record { roles = walked.roles; rules = walked.rules; counts = walked.counts })
    (leaves_kept (g.F.Format.graph c.args.format.now) image (note_at c.args.audit.now) _ c.forget_inner_nodes.ensures.leaves noted))
