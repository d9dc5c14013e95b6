use Rattle.std.proofs.Common.{◌≡◌, length}
use Rattle.pd_image.specs.Sink.{KeepsSink}
use Rattle.pd_lines.specs.Pieces.{Gathers}
use Rattle.pd_answers.specs.Rehearsals.{generated_text}
use Rattle.pd_gen.specs.GenSource.{text_left}
use Rattle.pd_gen.proofs.source.put_generated.Given as goal

abbrev pub invariant-loop-source : goal.invariant-loop-source
invariant-loop-source g l =
    Gathers (generated_text l.number) (text_left l.source) (g.K.Sink.state l.initial.out).written (g.K.Sink.state l.out).written
    × KeepsSink (g.K.Sink.state l.initial.out) (g.K.Sink.state l.out)
    × ((g.K.Sink.state l.out).faults ≡ (g.K.Sink.state l.initial.out).faults)

abbrev pub decreases-loop-source : goal.decreases-loop-source
decreases-loop-source g l = length (text_left l.source)
