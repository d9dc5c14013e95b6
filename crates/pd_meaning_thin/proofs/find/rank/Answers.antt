use Rattle.std.proofs.Common.{◌*◌, ◌/◌, arith}
use Rattle.pd_meaning_thin.proofs.FoundLemmas.{counted_on}
use Rattle.pd_meaning_thin.proofs.find.rank.Goals as goal

pub returns : goal.returns
returns c =
    let before = c.requires.ranked.each (c.args.b / 64) (omega arith) in
    let behind = counted_on c.args.marks.now (64 * (c.args.b / 64)) c.args.b (omega arith) in
    omega (arith, c.from.ensures, c.from-2.ensures, c.count_shared.ensures)
