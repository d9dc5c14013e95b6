use Rattle.std.proofs.Common.{ap, ◌∙◌}
use Rattle.pd_kinds.specs.Objects.{SourceState}
use Rattle.pd_gen.specs.GenSource.{gen_source_state}
use Rattle.pd_gen.proofs.GeneratedShape.{restored_whole}
use Rattle.pd_gen.proofs.rehearsal.restore_text.Goals as goal

pub unreachable-requires-in-Text : goal.unreachable-requires-in-Text
unreachable-requires-in-Text g c =
    restored_whole c.args.number c.requires.few c.in-Text.field-0 (gen_source_state c.attach.new.self) (gen_source_state c.restore_thin.new.source) (g.D.Device.state c.args.dev.now) (g.D.Device.state c.restore_thin.new.dev)
    (c.attach.ensures.attached.left ∙ ap (λ (s : SourceState). s.left) c.new-source.ensures) (rw c.in-Text.is at c.in-Err.ensures.restored)
