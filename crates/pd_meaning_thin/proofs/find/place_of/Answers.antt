use Rattle.std.proofs.Common.{◌≡◌, ◌+◌, length, length-take, take, sym, arith}
use Rattle.std.proofs.lemmas.List.Sums.{count_by-le-length}
use Rattle.pd_meaning_thin.specs.Marks.{is_shared}
use Rattle.pd_meaning_thin.proofs.FoundLemmas.{block_is, marked_number}
use Rattle.pd_meaning_thin.proofs.find.place_of.Goals as goal

pub loop-high-init : goal.loop-high-init
loop-high-init c =
    let all = marked_number c.args.marks.now in
    record { order = omega (arith, count_by-le-length is_shared (take (length c.args.marks.now) c.args.marks.now), length-take (length c.args.marks.now) c.args.marks.now); within = omega arith; from = omega arith; before = omega arith }

pub loop-high-preserved : goal.loop-high-preserved
loop-high-preserved c = record { order = omega arith; within = omega arith; from = c.loop-high.invariant.from; before = omega arith }

pub returns : goal.returns
returns c =
    let next : c.loop-high.high ≡ c.loop-high.low + 1 = omega arith in
    let before = rw next at c.loop-high.invariant.before in
    sym (block_is c.args.marks.now c.loop-high.low c.args.number (omega arith) c.loop-high.invariant.from before)
