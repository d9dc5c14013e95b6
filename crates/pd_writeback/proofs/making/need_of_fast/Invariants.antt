use Rattle.std.proofs.Common.{◌≡◌, take}
use Rattle.pd_answers.specs.Writebacks.{fast_need}
use Rattle.pd_writeback.specs.Plan.{cached_all}
use Rattle.pd_writeback.proofs.making.need_of_fast.Given as goal

abbrev pub invariant-loop-one : goal.invariant-loop-one
invariant-loop-one l = l.need ≡ fast_need l.each (cached_all (take l.one-index l.hot))
