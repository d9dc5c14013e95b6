use Rattle.std.proofs.Common.{◌&&◌, eqb, nat_lt}
use Rattle.std.proofs.lemmas.Bool.{and_parts, eqb-true}
use Rattle.pd_uses.proofs.RunLemmas.{next_is, run_more}
use Rattle.pd_uses.proofs.hit_runs.HitRun.joined.Goals as goal

pub returns : goal.returns
returns c =
    let run = c.args.self in
    let hit = c.args.hit in
    let next = c.hit-next.result in
    let grows = and_parts (eqb next.block hit.block && eqb next.virt hit.virt) (nat_lt run.number 4294967295) c.if-not-grows.false in
    let same = and_parts (eqb next.block hit.block) (eqb next.virt hit.virt) grows.0 in
    run_more run hit (next_is run next hit c.hit-next.ensures (eqb-true next.block hit.block same.0) (eqb-true next.virt hit.virt same.1))
