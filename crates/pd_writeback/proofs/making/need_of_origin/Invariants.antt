use Rattle.std.proofs.Common.{◌≡◌, take}
use Rattle.pd_answers.specs.Writebacks.{origin_need}
use Rattle.pd_writeback.specs.Plan.{cached_all}
use Rattle.pd_writeback.proofs.making.need_of_origin.Given as goal

abbrev pub invariant-loop-one : goal.invariant-loop-one
invariant-loop-one l = l.need ≡ origin_need l.each (cached_all (take l.one-index l.hot))
