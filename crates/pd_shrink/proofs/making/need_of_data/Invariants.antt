use Rattle.std.proofs.Common.{◌≡◌, take}
use Rattle.pd_answers.specs.Shrinks.{data_need}
use Rattle.pd_shrink.proofs.making.need_of_data.Given as goal

abbrev pub invariant-loop-source : goal.invariant-loop-source
invariant-loop-source l = l.need ≡ data_need l.each (take l.source-index l.sources)
