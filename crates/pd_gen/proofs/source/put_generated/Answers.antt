use Rattle.std.proofs.Common.{take, refl, ap, ◌∙◌}
use Rattle.pd_kinds.specs.Objects.{SourceState}
use Rattle.pd_answers.specs.Rehearsals.{generated_text}
use Rattle.pd_lines.proofs.Printing.{gathers_front}
use Rattle.pd_gen.specs.GenSource.{text_left}
use Rattle.pd_gen.proofs.Putting.{nothing_put, piece_put, piece_front}
use Rattle.pd_gen.proofs.source.put_generated.Goals as goal

pub loop-source-init : goal.loop-source-init
loop-source-init g c = (
  nothing_put (generated_text c.args.number) (text_left c.new-source.result) (g.K.Sink.state c.args.out.now).written (ap (λ (s : SourceState). s.left) c.new-source.ensures),
  record { access = refl; path = refl },
  refl,
)

pub loop-source-preserved : goal.loop-source-preserved
loop-source-preserved g c =
    let so_far = c.loop-source.invariant in (
      piece_put (generated_text c.args.number) (text_left c.loop-source.source) (take c.fill-n.result c.fill-n.new.into) (text_left c.fill-n.new.self)
          (g.K.Sink.state c.args.out.now).written (g.K.Sink.state c.loop-source.out).written (g.K.Sink.state c.put.new.self).written
          so_far.0 c.fill-n.ensures.moved c.in_ok-put.ensures.whole,
      record { access = c.put.ensures.kept.access ∙ so_far.1.access; path = c.put.ensures.kept.path ∙ so_far.1.path },
      c.in_ok-put.ensures.faults ∙ so_far.2,
    )

pub returns-then-n-eq0-clause-front : goal.returns-then-n-eq0-clause-front
returns-then-n-eq0-clause-front g c =
    gathers_front (generated_text c.args.number) (text_left c.loop-source.source) (g.K.Sink.state c.args.out.now).written (g.K.Sink.state c.loop-source.out).written c.loop-source.invariant.0

pub returns-in_err-put-clause-front : goal.returns-in_err-put-clause-front
returns-in_err-put-clause-front g c =
    piece_front (generated_text c.args.number) (text_left c.loop-source.source) (take c.fill-n.result c.fill-n.new.into) (text_left c.fill-n.new.self)
    (g.K.Sink.state c.args.out.now).written (g.K.Sink.state c.loop-source.out).written (g.K.Sink.state c.put.new.self).written
    c.loop-source.invariant.0 c.fill-n.ensures.moved c.put.ensures.front
