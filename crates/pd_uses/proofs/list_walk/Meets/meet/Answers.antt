use Rattle.std.proofs.Common.{◌<◌, length, arith}
use Rattle.std.proofs.lemmas.List.{get_or_read}
use Rattle.pd_uses.proofs.ListWalkLemmas.{once_more}
use Rattle.pd_uses.proofs.list_walk.Meets.meet.Goals as goal

pub returns-clause-counts : goal.returns-clause-counts
returns-clause-counts c =
    let within : c.args.b < length c.args.self.now.counts.items = omega arith in
    λ d. once_more c.args.self.now.counts.items c.args.b d c.index-met.result.now within (get_or_read c.args.self.now.counts.items c.args.b c.index-met.result.now within c.index-met.ensures 0)
